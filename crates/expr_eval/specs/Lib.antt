pub mod Serves
pub use Rattle.eval_steps.specs.EvalLates
