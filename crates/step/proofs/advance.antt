pub mod Effects
pub mod Adding
pub mod Row
pub mod Built
pub mod Leads
