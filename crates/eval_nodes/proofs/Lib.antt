pub mod SpacedLemmas
pub mod UriLemmas
