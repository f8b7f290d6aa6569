-- Document 01, 'Panel count'.
pub mod Panel
pub mod Run
