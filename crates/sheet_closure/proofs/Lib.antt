pub mod Places
pub mod StandingParts
