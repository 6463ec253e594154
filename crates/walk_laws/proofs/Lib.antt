pub mod Forward
pub mod Members
pub mod Below
pub mod NodeOrders
pub mod QuietValues
pub mod WayLaws
