pub mod CursorLemmas
pub mod IntegerLemmas
pub mod MoveLemmas
pub mod OrderLemmas
pub mod PlaceLemmas
pub mod StableLemmas
pub mod StackLemmas
