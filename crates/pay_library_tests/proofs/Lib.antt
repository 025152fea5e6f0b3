mod Drained
pub mod ListValues
