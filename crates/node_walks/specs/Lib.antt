pub mod Courses
pub mod Moves
pub mod Quiet
pub mod Sift
pub mod Trails
pub use Rattle.node_axes.specs as NodeAxes
pub use Rattle.quiet_eval.specs as QuietEval
pub use Rattle.quiet_eval.specs.QuietMeaning
