use Rattle.std.proofs.Common.{length, List, ℕ, Bool}
use Rattle.query_grammar.specs.declared.declared.Declared.{Declared}
use Rattle.query_pieces.specs.Aheads.{Sees}
use Rattle.query_reader.specs.declared.query_steps.stages.ReaderState.TheVariants.{Body}
use Rattle.query_texts.specs.declared.orders.Order.{Order}
use Rattle.query_texts.specs.Standings.{Standing, progress}
use Rattle.query_texts.proofs.bodies.body_rest.Given as goal

abbrev pub invariant-loop-reader : goal.invariant-loop-reader
invariant-loop-reader l =
    ((k : ℕ) (text : List ℕ) (o : Order) (d : Bool) (ds : List Declared)
    → Standing k text (progress (Body l.initial.reader) o d ds) l.initial.pieces
    → Standing k text (progress (Body l.reader) o d ds) l.pieces) × Sees l.pieces l.ahead

abbrev pub decreases-loop-reader : goal.decreases-loop-reader
decreases-loop-reader l = length l.pieces.rest
