pub mod Ands
