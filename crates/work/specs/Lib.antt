-- What one instant makes of the remainders held, in the order in which the monitor works, without a word of its code.

-- ---- to be believed: what the monitor's promises cite
-- an instant and the remainders held: `used_part`, the places in use
pub mod View
-- ---- for inner contracts and proofs only: nothing public cites these. That this work finds what theory asks is `worked-every` and `worked-none`
-- (proofs/Found.antt), that the fillings which it leaves out change nothing `forbidden-none` and `relevant-enough`.
-- what a line asks of an instant and makes of what a remainder carries; and all lines
pub mod Questions
pub mod Lines
-- the parts of a sheet; the same by what depends on a filling alone
pub mod Parts
pub mod Rules
pub mod Carried
-- obligations: those that a filling begins, and what becomes of those owed
pub mod Owed
-- the work on an instant: one remainder, all of them, and filling by filling; the ticks that it asks about
pub mod Advanced
pub mod Work
pub mod Fillings
pub mod Relevant
