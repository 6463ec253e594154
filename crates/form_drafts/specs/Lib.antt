pub mod ControlDrafts
