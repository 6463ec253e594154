-- What instructions become nests so many levels at most.
use Rattle.std.specs.Prelude.{◌≡◌, ◌≤◌, ◌+◌, ◌*◌, ℕ, List, Bool, true}
use Rattle.xt_forms.specs.Nest.{nest_of}
use Rattle.xt_forms.specs.Regular.{is_regular_expr}
use Rattle.xt_syntax.specs.declared.exprs.Expr.{Expr}
use Rattle.xt_syntax.specs.declared.patterns.Pattern.{Pattern}
use Rattle.xt_sheets.specs.declared.instrs.Instr.{Instr}
use Rattle.closed_sheets.specs.SheetForms.InstrNest.{body_nest_of}
use Rattle.carried_exprs.specs.Sights.{local_uri}
use Rattle.translated_forms.specs.Leaves.{body_has_leaves}
use Rattle.translated_forms.specs.Places.{Place, Table}
use Rattle.translated_forms.specs.Instrs.{translated_body}

-- a regular expression of so many levels at most
pub record IsBounded (n : ℕ) (e : Expr) : Type 0 where
  pub nests : nest_of e ≤ n
  pub regular : is_regular_expr e ≡ true

-- the functions of keys are those of the translation
abbrev pub LocalKeys : Table → Type 0
LocalKeys t = (name : List ℕ) → (t.keys name).uri ≡ local_uri

-- the tests of patterns that pass this
abbrev pub TestsAreBounded : Table → (Pattern → Bool) → Type 0
TestsAreBounded t tested = (p : Pattern) → tested p ≡ true → IsBounded 60 (t.matches p)

-- a sequence constructor takes six levels for each level of its instructions, beside its expressions
abbrev pub BodiesAreBounded : Table → (Pattern → Bool) → Type 0
BodiesAreBounded t tested =
    (p : Place) (body : List (Instr Expr Pattern)) → body_has_leaves tested body ≡ true →
    IsBounded (6 * body_nest_of body + 71) (translated_body t body p)
