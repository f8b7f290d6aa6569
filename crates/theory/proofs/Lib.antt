-- Lists, sets and whole numbers.
pub mod Lists
pub mod Sets
pub mod Members
pub mod Adding
pub mod Whole
-- What each kind of line gives: countdowns, a law, and one for each kind.
pub mod Countdowns
pub mod Law
pub mod LineKinds
-- One instant more: the step theorem, what it cannot tell apart, the fillings, and the recursion over clocks.
pub mod Owed
pub mod Step
pub mod Respect
pub mod Fillings
pub mod Fill
-- What is held, what to answer from it, and its limits.
pub mod Held
pub mod Answers
pub mod Limits
pub mod Opened
pub mod Accepted
pub mod Scale
pub mod Tracks
-- The unmet obligations and the countdowns, with quantifiers.
pub mod Unmet
-- Demand 2, for runs without unseen ticks.
pub mod Seen
-- Demand 3, for a monitor of any kind.
pub mod Machine
-- In document 01's words, with quantifiers: what two filled runs leave, the fillings, one for each remainder, and the answer.
pub mod SameLeft
pub mod Listed
pub mod Kept
pub mod Said
-- The same sheet in another order.
pub mod SameLines
-- Numbered instants.
pub mod Numbered
-- The machine along a log.
pub mod Log
