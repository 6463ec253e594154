pub mod Bodies
pub use Rattle.sheet_heads.specs as SheetHeads
