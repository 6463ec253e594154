pub mod Tests
pub mod Turns
pub mod Stretches
pub mod Reached
pub mod RightOrders
pub mod Told
pub mod BehindLemmas
