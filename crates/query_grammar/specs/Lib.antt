pub mod Words
pub mod Heads
pub mod Prolog
pub mod Machine
pub mod QueryPlaces
