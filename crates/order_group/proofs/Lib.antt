pub mod Cells
pub mod KeyedGroups
pub mod Natural
pub mod Orders
pub mod Places
pub mod Runs
pub mod AtomKeys
