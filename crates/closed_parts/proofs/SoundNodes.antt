pub mod Forms
pub mod Trees
