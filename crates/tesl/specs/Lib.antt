-- What a lift sheet asks of a run. Read in this order:
pub mod Lists
pub mod Run
pub mod Fits
pub mod Remainder
pub mod Answer
pub mod Machine
-- TESL formula by formula, and the lift examples L1 to L11. That what fits is what the formulas ask is `fits-holds`, proofs/Formula.antt.
pub mod Formula
pub mod Examples
