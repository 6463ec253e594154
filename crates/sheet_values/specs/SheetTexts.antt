pub mod Names
pub mod Places
pub mod Readings
pub mod Templates
pub mod Laws
