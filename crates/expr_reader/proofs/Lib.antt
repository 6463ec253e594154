pub mod ViewLemmas
pub mod CountLemmas
pub mod CapLemmas
pub mod Outline
pub mod PassingLemmas
pub mod PartLemmas
pub mod ClimbLemmas
pub mod TrackLemmas
