-- What the contracts of the functions on a sheet's lines cite.
-- a line in six words: `line_of_words`, `words_of`
pub mod LineWords
-- a sheet's lines as words, all and by part: `Planned`
pub mod Plan
-- what a filling has lines begin, and what it asks of leads
pub mod Begun
