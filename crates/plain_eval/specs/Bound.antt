-- What an expression on its own can read.
use Rattle.std.specs.Prelude.{List}
use Rattle.doc_set.specs.Sets.{DocumentSet}
use Rattle.expr_meaning.specs.Env.{Binding}

-- the variables, innermost first, and the documents that doc() finds
pub record Bound : Type 0 where
  pub locals : List Binding
  pub documents : DocumentSet
