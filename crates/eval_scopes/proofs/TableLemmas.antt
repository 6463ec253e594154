-- Variables found by a table.
use Rattle.std.proofs.Common.{◌≡◌, ℕ, zero, suc, ◌+◌, List, [], ◌∷◌, ◌++◌, refl, ap, sym, ◌∙◌}
use Rattle.std.proofs.Common.{arith, drop, length, slice_get}
use Rattle.std.specs.Prelude.{Bool, true, false, if◌then◌else◌, Option, Some, None}
use Rattle.indexmap.specs.IndexMap.{IndexMap, get}
use Rattle.xt_names.specs.declared.names.ExprName.{ExprName}
use Rattle.xdm_items.specs.declared.items.Item.{Item}
use Rattle.eval_scopes.specs.NodeWalks.Moves.{given}
use Rattle.expr_meaning.specs.Env.{Binding, look_up}
use Rattle.eval_scopes.specs.declared.scopes.Variable.{Variable}
use Rattle.eval_scopes.specs.Bindings.{binding_of, pushed_on}
use Rattle.eval_scopes.specs.Tables.{IsTableOf, last_place, place_or, value_in, value_there}
use Rattle.xt_names.specs.ExprNames.{same_name}

placed_last : (found : Option ℕ) (n : ℕ) (vs : List Variable) (v : Variable) (name : ExprName) →
    last_place found n (vs ++ v ∷ []) name
    ≡ place_or v.name (n + length vs) (last_place found n vs name) name
placed_last found n [] v name =
    ap (λ i. place_or v.name i found name) (omega arith)
placed_last found n (w ∷ vs) v name =
    placed_last (place_or w.name n found name) (suc n) vs v name
    ∙ ap (λ i. place_or v.name i (last_place (place_or w.name n found name) (suc n) vs name) name)
    (omega arith)

-- one more variable, put at the end
pub one_more : {S T : Type 0} (vs : List Variable) (v : Variable) (n : ℕ)
    (old : IndexMap ExprName ℕ S) (new : IndexMap ExprName ℕ T) → n ≡ length vs →
    IsTableOf vs old →
    ((name : ExprName) → get same_name new name
    ≡ place_or v.name n (get same_name old name) name) →
    IsTableOf (vs ++ v ∷ []) new
one_more vs v n old new e table put name =
    let behind : n ≡ 0 + length vs = omega (arith, e) in
    put name
    ∙ ap (λ found. place_or v.name n found name) (table name)
    ∙ ap (λ i. place_or v.name i (last_place None 0 vs name) name) behind
    ∙ sym (placed_last None 0 vs v name)

none_there : (n : ℕ) (v : Variable) (vs : List Variable) →
    drop {A = Variable} n [] ≡ v ∷ vs → ⊥
none_there zero v vs e = absurd cc
none_there (suc n) v vs e = absurd cc

variable_there : (whole : List Variable) (n : ℕ) (v : Variable) (vs : List Variable) →
    drop n whole ≡ v ∷ vs → slice_get whole n ≡ Some v
variable_there [] n v vs e = absurd (none_there n v vs e)
variable_there (w ∷ whole) zero v vs e = ap (λ (l : List Variable). slice_get l 0) e
variable_there (w ∷ whole) (suc n) v vs e = variable_there whole n v vs e

rest_there : (whole : List Variable) (n : ℕ) (v : Variable) (vs : List Variable) →
    drop n whole ≡ v ∷ vs → drop (suc n) whole ≡ vs
rest_there [] n v vs e = absurd (none_there n v vs e)
rest_there (w ∷ whole) zero v vs e = ap (λ (l : List Variable). drop 1 l) e
rest_there (w ∷ whole) (suc n) v vs e = rest_there whole n v vs e

module _ (whole : List Variable) (name : ExprName) where
  one_by : (v : Variable) (vs : List Variable) (n : ℕ) (found : Option ℕ) (outer : List Binding)
      (b : Bool) → same_name v.name name ≡ b → drop n whole ≡ v ∷ vs →
      look_up outer name ≡ value_there whole found →
      look_up (binding_of v ∷ outer) name ≡ value_there whole (place_or v.name n found name)
  unfolding look_up
  one_by v vs n found outer true h d e =
      ap (λ t. if t then Some (given v.value.moves) else look_up outer name) h
      ∙ sym (ap (λ t. value_there whole (if t then Some n else found)) h
      ∙ ap (λ (o : Option Variable). value_in o) (variable_there whole n v vs d))
  one_by v vs n found outer false h d e =
      ap (λ t. if t then Some (given v.value.moves) else look_up outer name) h
      ∙ e ∙ sym (ap (λ t. value_there whole (if t then Some n else found)) h)

  all_of : (vs : List Variable) (n : ℕ) (found : Option ℕ) (outer : List Binding) →
      drop n whole ≡ vs → look_up outer name ≡ value_there whole found →
      look_up (pushed_on outer vs) name ≡ value_there whole (last_place found n vs name)
  all_of [] n found outer d e = e
  all_of (v ∷ vs) n found outer d e =
      all_of vs (suc n) (place_or v.name n found name) (binding_of v ∷ outer)
      (rest_there whole n v vs d)
      (one_by v vs n found outer (same_name v.name name) refl d e)

  nowhere : look_up [] name ≡ None
  unfolding look_up
  nowhere = refl

-- what the table says is what a search finds
pub found_by : {S : Type 0} (vs : List Variable) (places : IndexMap ExprName ℕ S)
    (table : IsTableOf vs places) (name : ExprName) (place : Option ℕ) →
    get same_name places name ≡ place → value_there vs place ≡ look_up (pushed_on [] vs) name
found_by vs places table name place e =
    ap (value_there vs) (sym e ∙ table name)
    ∙ sym (all_of vs name vs 0 None [] refl (nowhere vs name))
