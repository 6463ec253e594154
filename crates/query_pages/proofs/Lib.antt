pub mod Pushed
pub mod Layouts
pub mod TokenTexts
pub mod TokenWriter
