-- What comes next in a text.
pub use Rattle.xt_names.specs.Characters.{Ends, NotNext}
