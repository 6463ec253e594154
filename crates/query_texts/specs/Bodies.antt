-- Where the reading of the body of a query leads.
use Rattle.std.specs.Prelude.{ℕ, Bool, List, Option, Some, None, length, ◌<◌}
use Rattle.expr_reader.specs.declared.running.ExprParser.{ExprParser}
use Rattle.query_grammar.specs.declared.declared.Declared.{Declared}
use Rattle.query_pieces.specs.Points.{Point}
use Rattle.query_pieces.specs.Aheads.{Sees}
use Rattle.query_pieces.specs.Readings.{IsEnd}
use Rattle.query_reader.specs.declared.query_steps.stages.ReaderState.TheVariants.{Body}
use Rattle.query_texts.specs.declared.orders.Order.{Order}
use Rattle.query_texts.specs.declared.readings.QueryReading.TheVariants as reading
use Rattle.query_texts.specs.declared.texts.Progress.{Progress}
use Rattle.query_texts.specs.declared.bodies.Step.{Step}
use Rattle.query_texts.specs.declared.bodies.Step.TheVariants.{Refused, Over, Onto}
use Rattle.query_texts.specs.Texts.{ReadAs}
use Rattle.query_texts.specs.Standings.{Standing, progress}

-- a token of it
abbrev pub Led : ℕ → List ℕ → Step → Progress → Point → Point → Type 0
Led k text Refused g p q = ReadAs text k reading.Nothing
Led k text Over g p q = Standing k text g p × IsEnd p
Led k text (Onto a) g p q = Standing k text g q

abbrev pub IsShorter : Step → Point → Point → Type 0
IsShorter Refused p q = Unit {0}
IsShorter Over p q = Unit {0}
IsShorter (Onto a) p q = length q.rest < length p.rest

-- what is seen of the rest
abbrev pub SeesOn : Step → Point → Type 0
SeesOn Refused p = Unit {0}
SeesOn Over p = Unit {0}
SeesOn (Onto a) p = Sees p a

-- the whole of it
pub record AtEnd (k : ℕ) (text : List ℕ) (g : Progress) : Type 0 where
  pub point : Point
  pub standing : Standing k text g point
  pub is_end : IsEnd point

abbrev pub Rests : ℕ → List ℕ → Option ExprParser → Order → Bool → List Declared → Type 0
Rests k text None o d ds = ReadAs text k reading.Nothing
Rests k text (Some r) o d ds = AtEnd k text (progress (Body r) o d ds)
