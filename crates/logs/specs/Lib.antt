-- What the functions on a whole log promise.

-- ---- to be believed. Read in this order, after judge's:
-- answers as numbers and bytes
pub mod Entry
-- the promises of `judge_log`, `follow_log` and `watch_log`
pub mod Log
-- ---- for inner contracts and proofs only: nothing public cites these
-- the records of a log
pub mod Records
