pub mod LeafValues
pub mod LeafInstrs
pub mod LeafPatterns
pub mod LeafSheets
