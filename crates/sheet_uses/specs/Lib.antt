pub mod Bodies
pub mod Exprs
pub mod Values
pub mod KeyCalls
