pub mod Cut
pub mod Front
pub mod Inverse
pub mod Laws
pub mod Records
pub mod Span
pub mod Write
