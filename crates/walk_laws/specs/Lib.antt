pub mod NodeOrders
pub mod QuietValues
pub mod WayLaws
pub use Rattle.lazy_seq.specs as LazySeq
