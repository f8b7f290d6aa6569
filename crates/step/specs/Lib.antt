-- What the contracts of an instant's work on rows cite.
-- what an instant leaves of an obligation or a countdown
pub mod Left
-- what depends on a filling alone, and what a row becomes by it
pub mod Filling
-- the rows by a filling, and by all of them
pub mod Apply
-- the fillings listed, and the whole instant: `worked_rows`
pub mod Fill
