-- The productions that are open, without what they have.
use Rattle.std.specs.Prelude.{ℕ, ◌<◌, List, [], ◌∷◌, Option, Some, None}
use Rattle.expr_keys.specs.declared.tokens.Token.{Token}
use Rattle.expr_terms.specs.declared.raws.Raw.{Raw}
use Rattle.expr_terms.specs.declared.choices.Second.{Second}
use Rattle.expr_keys.specs.declared.productions.Language.{Language}
use Rattle.expr_grammar.specs.Machine.{Frame, doing, run}
use Rattle.expr_terms.specs.Choices.{second_of}
use Rattle.expr_grammar.specs.declared.expr_nest.measures.Measure.{Measure}
use Rattle.expr_grammar.specs.ExprNest.Measures.{held_by, nest_by}
use Rattle.std.specs.Prelude.{◌≡◌}

abbrev pub outline : List Frame → List Frame
outline [] = []
outline (doing p vs ss ∷ fs) = doing p [] ss ∷ outline fs

abbrev pub outlines : Option (List Frame) → Option (List Frame)
outlines None = None
outlines (Some fs) = Some (outline fs)

-- how deep the parts nest that the topmost production has
abbrev pub topmost_held : Measure → List Frame → ℕ
topmost_held m [] = 0
topmost_held m (doing p vs ss ∷ fs) = held_by m p vs

-- whatever is read from here on nests deeper than the limit
abbrev pub Sinks : Measure → ℕ → Language → Token → Second → List Frame → Type 0
Sinks m k l t s fs = (ts : List Token) (w : Raw) → second_of ts ≡ s → run l (t ∷ ts) fs ≡ Some w → k < nest_by m w
