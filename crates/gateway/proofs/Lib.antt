pub mod Held
pub mod Machine
pub mod Live
pub mod Numbered
