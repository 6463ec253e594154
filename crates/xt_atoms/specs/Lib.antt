pub mod Arithmetic
pub mod AtomTexts
pub mod Casts
pub mod Comparisons
pub mod Keys
pub mod Lexical
