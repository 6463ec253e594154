-- Whether a clause of a FLWOR expression joins the one before it (XQuery 1.0, 3.8.1).
use Rattle.std.specs.Prelude.{ℕ, zero, suc, Bool, false, List, [], ◌∷◌}
use Rattle.xt_syntax.specs.declared.exprs.Clause.{Clause}
use Rattle.xt_syntax.specs.declared.prefixes.Prefixes.{Prefixes}
use Rattle.expr_drafts.specs.ExprPlaces.Forms.{clause_form}

-- the clause before the place is of `for`
abbrev pub joins_at : Prefixes → List Clause → ℕ → Bool
joins_at p cs zero = false
joins_at p [] (suc i) = false
joins_at p (c ∷ cs) (suc zero) = (clause_form p c).loops
joins_at p (c ∷ cs) (suc (suc i)) = joins_at p cs (suc i)
