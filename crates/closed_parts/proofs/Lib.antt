pub mod Params
pub mod Parts
pub mod Tops
pub mod Sheets
pub mod SoundNodes
pub mod DeclaredBindings
pub mod ClosedHeads
pub mod ClosedBodies
