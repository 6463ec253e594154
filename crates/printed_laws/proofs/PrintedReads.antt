pub mod Nested
pub mod TextsWithin
