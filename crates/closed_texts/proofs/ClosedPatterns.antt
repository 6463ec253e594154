pub mod Tests
pub mod Goods
pub mod Patterns
pub mod Texts
