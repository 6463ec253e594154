pub mod Subjects
pub mod QuietPlaces
pub use Rattle.quiet_meaning.specs as QuietMeaning
