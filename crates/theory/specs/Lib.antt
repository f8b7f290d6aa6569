-- What the mathematics over tesl is about.

-- ---- to be believed: what the monitor's promises and demands 2 and 3 cite
-- lists as sets
pub mod Sets
-- a run of opening and calls, and what each answers
pub mod Session
-- what a remainder is made of, in document 01's words: unmet obligations, countdowns, leads, stopped clocks
pub mod Unmet
-- runs without unseen ticks (demand 2)
pub mod Seen
-- what fits, what is left and the answer in document 01's words (demand 3)
pub mod Said
-- the same sheet in another order
pub mod SameLines
-- numbered instants
pub mod Numbered
-- the limits of a sheet, of a list of instants and of what is held (refusal 11)
pub mod Limits
-- ---- for proofs only: adding to sets, one instant on a remainder, the remainders held after a run, and what a monitor keeps
pub mod Adding
pub mod Step
pub mod Held
pub mod Tracks
