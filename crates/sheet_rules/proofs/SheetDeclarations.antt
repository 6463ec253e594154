pub mod SeenLemmas
pub mod Pieces
pub mod Sames
