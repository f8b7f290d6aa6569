pub mod Laws
pub mod Storing
pub mod Placing
pub mod Reading
pub mod Flags
