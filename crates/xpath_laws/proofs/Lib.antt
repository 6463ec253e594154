pub mod XpathForms
pub mod BindingLaws
