-- A monitor in words that a caller lends: what its functions promise, and demands 2 and 3 over words.

-- ---- to be believed. Read in this order, after judge's:
-- what a whole array of words is read as: `state_monitor`, `is_state`; and the words that a monitor is stored as: `AsStored`
pub mod State
pub mod StoredState
-- the promises of `open_state`, `observe_state`, `last_reply` and `monitor_in`; demands 2 and 3 over words
pub mod Live
-- ---- for inner contracts and proofs only: nothing public cites these
-- words that no remainder uses, and how they are cleared
pub mod UnusedWords
pub mod Cleared
-- the limits of remainders in rows, and a monitor found in words
pub mod RowsLimits
pub mod Found
