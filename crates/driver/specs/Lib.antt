pub mod Meaning
pub mod Theorem
pub mod QueryRuns
pub mod SheetRuns
