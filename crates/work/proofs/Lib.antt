-- Numbers below a bound, and lists by place.
pub mod Below
pub mod Listing
-- What lines ask and make, as theory has it; the parts of a sheet; fillings that a rule forbids.
pub mod Questions
pub mod Lines
pub mod Parts
pub mod Forbidden
-- A filled instant of eight clocks and one of a sheet's clocks.
pub mod PaddedLaws
pub mod Padded
-- What an instant makes of a remainder, and of those held: every successor once.
pub mod Advance
pub mod Once
pub mod Counted
pub mod Gather
pub mod Apply
pub mod Found
-- The same by what depends on a filling alone, by the fillings listed, and by the ticks asked about.
pub mod Carried
pub mod Relevant
pub mod Listed
