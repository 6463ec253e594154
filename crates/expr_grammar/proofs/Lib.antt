pub mod Keys
pub mod Tables
pub mod Residue
pub mod Choice
pub mod Steps
pub mod Run
pub mod ExprNest
