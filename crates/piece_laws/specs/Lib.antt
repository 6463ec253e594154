pub use Rattle.sound_expressions.specs as SoundExpressions
