pub mod Laws
pub mod Held
