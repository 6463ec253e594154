pub mod Greatest
pub mod Fitting
