pub mod Entries
pub mod Groups
pub mod Rows
pub mod Sorts
pub mod Stable
pub mod Steps
pub mod AtomKeys
pub use Rattle.xdm_items.specs as XdmItems
