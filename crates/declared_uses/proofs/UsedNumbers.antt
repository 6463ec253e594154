pub mod Forms
pub mod Covers
pub mod Numbers
pub mod Walk
pub mod Tops
pub mod Tables
pub mod Loaded
