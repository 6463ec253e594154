pub mod Uses
pub mod Declared
pub mod Numbers
pub mod Closed
pub mod StandingParts
