pub mod Bodies
pub mod Called
