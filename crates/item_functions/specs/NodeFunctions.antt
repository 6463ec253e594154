pub mod AttributeTables
pub mod Deep
pub mod Roots
pub mod Left
