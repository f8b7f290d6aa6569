pub mod Finding
pub mod StoredRow
pub mod Stored
pub mod Keeping
pub mod Observing
pub mod Opening
pub mod Reading
pub mod Spare
