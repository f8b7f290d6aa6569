pub mod Base
pub mod Front
pub mod Passed
pub mod Pieces
pub mod Read
pub mod Reading
pub mod RoundTrip
pub mod Writing
