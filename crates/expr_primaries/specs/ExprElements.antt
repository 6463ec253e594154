pub mod Space
pub mod Direct
pub mod Computed
pub mod Table
