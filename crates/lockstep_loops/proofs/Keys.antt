-- Sort keys of a stylesheet that may be there are related to those of its query.
use Rattle.std.proofs.Common.{◌≡◌, List, [], ◌∷◌}
use Rattle.std.proofs.lemmas.Bool.{and_parts}
use Rattle.std.specs.Prelude.{true}
use Rattle.std.specs.List.{list_all}
use Rattle.xt_names.specs.declared.codes.Code.{Code}
use Rattle.xt_syntax.specs.declared.exprs.Expr.{Expr}
use Rattle.xt_sheets.specs.declared.values.Sort.{Sort}
use Rattle.expr_meaning.specs.Outcomes.Follow.{Relation, IsCarrying}
use Rattle.expr_meaning.specs.Env.{Program}
use Rattle.meaning_laws.specs.SoundValues.Sound.{IsSound}
use Rattle.carry_laws.specs.Seen.{ProgramsCarry}
use Rattle.translated_forms.specs.Places.{Table, carried_at, of_function, setting_at}
use Rattle.translation.specs.Stands.{expr_fits, sort_fits}
use Rattle.lockstep.specs.Spots.{Spot, stand_at}
use Rattle.lockstep.proofs.Exprs.{HasLocalNames, expr_done}
use Rattle.lockstep_loops.proofs.Columns.{KeysMeet}

module _ (like : Code → Code → Type 0) (lax : (a b : Code) → like a b) (rel : Relation)
    (carries : IsCarrying like rel) (t : Table) (local : HasLocalNames t) (p q : Program)
    (programs : ProgramsCarry rel IsSound (setting_at t of_function) p q) (x : Spot) where
  pub keys_done : (sorts : List (Sort Expr)) → list_all (sort_fits (stand_at x)) sorts ≡ true →
      KeysMeet like lax rel carries t p q (carried_at t x.place) x sorts
  keys_done [] h = tt
  keys_done (s ∷ sorts) h =
      let both = and_parts (expr_fits (stand_at x) s.key) (list_all (sort_fits (stand_at x)) sorts) h in
      (expr_done like lax rel carries t local p q programs x s.key both.0, keys_done sorts both.1)
