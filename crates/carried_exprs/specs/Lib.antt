pub mod Forms
pub mod Sights
pub mod QueryForms
pub mod Calls
pub mod Carried
pub mod Fits
pub mod Levels
