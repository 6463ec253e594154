-- xsl:perform-sort does in the query what it does in the stylesheet.
use Rattle.std.proofs.Common.{List, [], ◌∷◌, refl}
use Rattle.xt_names.specs.declared.codes.Code.{Code}
use Rattle.xt_syntax.specs.declared.exprs.Expr.{Expr}
use Rattle.xt_sheets.specs.declared.values.Sort.{Sort}
use Rattle.expr_meaning.specs.Outcomes.Follow.{Relation, IsCarrying}
use Rattle.expr_meaning.specs.Env.{Meaning, Program}
use Rattle.expr_meaning.specs.Meaning.{outcome}
use Rattle.carried_exprs.specs.Sights.{size_name}
use Rattle.transform_meaning.specs.Instrs.{sorts_mean}
use Rattle.transform_meaning.specs.Sorting.{sorted_of}
use Rattle.translated_forms.specs.Mentions.{in_orders}
use Rattle.translated_forms.specs.Loops.{sort_orders, sorted, ordered}
use Rattle.translated_forms.specs.Places.{Table}
use Rattle.translated_forms.specs.Texts.{Carry}
use Rattle.lockstep.specs.Spots.{Spot, looped_spot}
use Rattle.lockstep.proofs.Frame.{Meets}
use Rattle.lockstep_loops.proofs.Columns.{KeysMeet}
use Rattle.lockstep_loops.proofs.Each.{sorted_at}

module _ (like : Code → Code → Type 0) (lax : (a b : Code) → like a b) (rel : Relation)
    (carries : IsCarrying like rel) (t : Table) (p q : Program) (carry : Carry) (x : Spot)
    (select : Meaning) (from : Expr) (selected : Meets like lax rel carries t x select (outcome q from))
  where
    pub sorted_done : (sorts : List (Sort Expr)) →
        KeysMeet like lax rel carries t p q carry (looped_spot x) sorts →
        Meets like lax rel carries t x (sorted_of select (sorts_mean p sorts))
        (outcome q (sorted from (sort_orders carry sorts)))
    unfolding sorted ordered
    sorted_done [] keys = selected
    sorted_done (s ∷ sorts) keys = λ e f at k.
        sorted_at like lax rel carries t p q carry x (s ∷ sorts) keys select from selected e f at k
        (in_orders size_name (sort_orders carry (s ∷ sorts))) refl
