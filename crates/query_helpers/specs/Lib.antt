pub mod Last
pub mod Forms
pub mod LastBody
pub mod SimpleBody
pub mod NodesBody
pub mod CopyBody
pub mod Helpers
pub mod Bounds
