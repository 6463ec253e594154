pub mod KeyBody
pub mod Keys
pub mod Uses
pub mod Bounds
