pub mod Order
pub mod Marks
pub mod Waits
pub mod ReachedPlaces
pub mod GraphOrders
