pub mod Spots
pub mod Helpers
pub mod Doors
pub mod Numbers
