pub mod StripLemmas
pub mod StripNothing
pub mod StripSound
