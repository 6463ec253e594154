pub mod ElementDrafts
