-- The executable definition of `Fits` is TESL's, formula by formula: the theorem is in `Formula`.
pub mod Tests
pub mod FormulaLists
pub mod FormulaParts
pub mod FormulaOwed
pub mod FormulaLines
pub mod Formula
