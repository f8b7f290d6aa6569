pub mod Demands
pub mod SameAnswers
