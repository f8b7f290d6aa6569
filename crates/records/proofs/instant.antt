pub mod Front
pub mod Laws
pub mod Pieces
pub mod Read
pub mod RoundTrip
pub mod Stored
