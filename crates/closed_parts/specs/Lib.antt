pub mod Closed
pub mod SoundNodes
pub mod ClosedHeads
pub use Rattle.closed_texts.specs.SheetLanguage
pub use Rattle.sheet_parts.specs as SheetParts
