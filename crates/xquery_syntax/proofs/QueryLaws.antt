pub mod Prefixes
pub mod Told
pub mod Declared
pub mod Spaces
pub mod Closed
pub mod Depth
