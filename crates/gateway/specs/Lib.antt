-- What the exported calls return and write, those over a log and those on a state; and what the contracts of the inner functions cite.
pub mod Result
pub mod Live
pub mod Inner
