pub mod Follow
pub mod TableLemmas
pub mod UriLemmas
