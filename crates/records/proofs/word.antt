pub mod Bytes
pub mod Inverse
pub mod Laws
pub mod Widened
