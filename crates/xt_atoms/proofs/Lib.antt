pub mod TrimLemmas
pub mod IntegerLemmas
pub mod ArithmeticLemmas
pub mod TextOrders
pub mod ReadBack
pub mod Utf8Order
