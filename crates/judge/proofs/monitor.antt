pub mod Limits
pub mod Opened
pub mod Observed
pub mod Called
pub mod InRows
