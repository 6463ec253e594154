-- What instructions become is bounded.
use Rattle.std.proofs.Common.{ℕ, arith}
use Rattle.std.specs.Prelude.{Bool}
use Rattle.xt_syntax.specs.declared.exprs.Expr.{Expr}
use Rattle.xt_syntax.specs.declared.patterns.Pattern.{Pattern}
use Rattle.closed_sheets.specs.SheetForms.InstrNest.{body_nest_of}
use Rattle.translated_forms.specs.Bounds.{IsBounded, LocalKeys, TestsAreBounded, BodiesAreBounded}
use Rattle.translated_forms.specs.Places.{Table}
use Rattle.translated_forms.proofs.Fine.{Fine}
use Rattle.translated_forms.proofs.FineInstrs.{whole_body}

pub fine_bounded : (n : ℕ) (e : Expr) → Fine n e → IsBounded n e
fine_bounded n e h = record { nests = h.nests; regular = h.is_regular }

pub bounded_fine : (n : ℕ) (e : Expr) → IsBounded n e → Fine n e
bounded_fine n e h = record { nests = h.nests; is_regular = h.regular }

pub bodies_bounded : (t : Table) (tested : Pattern → Bool) → LocalKeys t → TestsAreBounded t tested →
    BodiesAreBounded t tested
bodies_bounded t tested keys tests p body h =
    fine_bounded _ _
    (whole_body t keys tested (λ q i. bounded_fine 60 (t.matches q) (tests q i)) p body h
    (body_nest_of body) (omega arith))
