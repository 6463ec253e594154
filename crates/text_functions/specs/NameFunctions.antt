pub mod NodeNames
pub mod QNames
