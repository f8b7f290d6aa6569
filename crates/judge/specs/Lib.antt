-- What the contracts of the monitor's functions cite; what they promise; demands 2 and 3.

-- ---- to be believed: what the public functions promise, and the demands. Read in this order, after remainders' Word, View and Unused:
-- an answer and a reply as document 01's
pub mod Answer
-- the limits of a monitor: `monitor_within`, the promise of `within_limits`
pub mod Limits
-- what a monitor keeps: `sheet_by`, `held_by`, `last_by`, and nothing in unused places, `KeepsNothing`; `Refuses`, `refused_call`; the records after them are inner promises
pub mod Monitor
-- the promises of `open`, `open_base` and `observe`
pub mod Promises
-- demands 2 and 3; the same sheet in another order
pub mod Demands
-- ---- to be believed of a monitor in words that a caller lends, before lent's; the records after it are inner promises
-- the struct that a sheet, what is kept beside it, and rows stand for: `rows_monitor`
pub mod Progress
-- ---- for inner contracts and proofs only: nothing public cites these
-- a monitor of no instant; remainders stored in rows and read back
pub mod Start
pub mod Stored
