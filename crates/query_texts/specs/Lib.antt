pub mod Orders
pub mod Texts
pub mod Standings
pub mod Bodies
