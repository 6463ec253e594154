pub mod SoundForms
pub mod ExprRegular
