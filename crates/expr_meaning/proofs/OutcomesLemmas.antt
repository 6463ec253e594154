pub mod Steps
pub mod Relations
