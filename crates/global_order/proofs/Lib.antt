pub mod OrderLemmas
pub mod MarkLemmas
pub mod WaitLemmas
pub mod ReachedPlaces
pub mod GraphOrders
