-- What the programs print: line by line, with examples, and whole. Then what the inner functions' contracts cite.
pub mod Text
pub mod Examples
pub mod Output
pub mod Built
