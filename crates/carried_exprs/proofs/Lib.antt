pub mod SeenRolled
pub mod FitRolled
pub mod NestRolled
pub mod RegularRolled
pub mod Nesting
pub mod Regularity
