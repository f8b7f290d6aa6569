-- What the contracts of the functions on remainders cite.
-- what a word is read as: `byte_in`, `number_in`, `due_of`, `flag_of`
pub mod Word
-- the code's structs as tesl's values
pub mod View
-- unused places of a remainder: `NothingUnused`
pub mod Unused
-- what a row of words is read as: `word`, `row_set`, `row_lead`, `row_stop`; a row's words that no set uses: `NothingInParts`; the records after them are inner promises
pub mod Rows
