pub mod Exprs
pub mod Ends
pub mod Bodies
pub mod Keys
