-- What document 01 says of records; that `pieces` finds them as `Records` says, and finds nothing else, is proved in
-- proofs/record/Records.antt. Read in this order:
pub mod Refusal
pub mod Outcome
pub mod Lists
pub mod Word
pub mod Record
pub mod Line
pub mod Order
pub mod Sheet
pub mod Instant
pub mod Next
-- Document 02: a sheet's one form, and the order on bytes.
pub mod Sort
pub mod Examples
-- What a buffer holds after writing, what the types give, and what contracts cite beside these. That reading and writing
-- are inverse is in proofs/sheet/RoundTrip.antt and proofs/instant/RoundTrip.antt; its only hypotheses are those of Types.
pub mod Store
pub mod Types
pub mod Inner
