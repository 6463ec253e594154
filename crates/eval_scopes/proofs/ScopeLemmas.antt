-- Variables within others.
use Rattle.std.proofs.Common.{◌≡◌, ℕ, zero, suc, ◌-◌, ◌<◌, ◌≤◌, refl, ap, ◌∙◌, sym, arith, List}
use Rattle.std.proofs.Common.{[], ◌∷◌, ◌++◌, append_assoc, length, take, get_or}
use Rattle.std.proofs.Math.Seq.{take-length}
use Rattle.std.specs.Prelude.{Bool, true, false, if◌then◌else◌, Option, Some, None}
use Rattle.xt_names.specs.declared.names.ExprName.{ExprName}
use Rattle.xdm_items.specs.declared.items.Item.{Item}
use Rattle.eval_scopes.specs.NodeWalks.Moves.{given}
use Rattle.expr_meaning.specs.Env.{Binding, look_up}
use Rattle.eval_scopes.specs.declared.scopes.Variable.{Variable}
use Rattle.eval_scopes.specs.declared.scopes.Scope.{Scope}
use Rattle.eval_scopes.specs.declared.scopes.Scope.TheVariants.{Outermost}
use Rattle.eval_scopes.specs.Scopes.{binding_of, bindings, pushed_on}
use Rattle.xt_names.specs.ExprNames.{same_name}

pushed_append : (outer : List Binding) (vs : List Variable) →
    pushed_on outer vs ≡ pushed_on [] vs ++ outer
pushed_append outer [] = refl
pushed_append outer (v ∷ vs) =
    pushed_append (binding_of v ∷ outer) vs
    ∙ sym (ap (λ bs. bs ++ outer) (pushed_append (binding_of v ∷ []) vs)
    ∙ append_assoc (pushed_on [] vs) (binding_of v ∷ []) outer)

-- the last variable is the innermost
pub pushed_last : (outer : List Binding) (vs : List Variable) (v : Variable) →
    pushed_on outer (vs ++ v ∷ []) ≡ binding_of v ∷ pushed_on outer vs
pushed_last outer [] v = refl
pushed_last outer (w ∷ vs) v = pushed_last (binding_of w ∷ outer) vs v

abbrev pub first_found : Option (List Item) → Option (List Item) → Option (List Item)
first_found None other = other
first_found (Some xs) other = Some xs

chosen_first : (t : Bool) (xs : List Item) (o p : Option (List Item)) →
    (if t then Some xs else first_found o p) ≡ first_found (if t then Some xs else o) p
chosen_first true xs o p = refl
chosen_first false xs o p = refl

look_up_append : (bs cs : List Binding) (name : ExprName) →
    look_up (bs ++ cs) name ≡ first_found (look_up bs name) (look_up cs name)
unfolding look_up
look_up_append [] cs name = refl
look_up_append (b ∷ bs) cs name =
    ap (λ o. if same_name b.0 name then Some b.1 else o) (look_up_append bs cs name)
    ∙ chosen_first (same_name b.0 name) b.1 (look_up bs name) (look_up cs name)

-- what is within is found first
pub found_within : (outer : List Binding) (vs : List Variable) (name : ExprName) →
    look_up (pushed_on outer vs) name
    ≡ first_found (look_up (pushed_on [] vs) name) (look_up outer name)
found_within outer vs name =
    ap (λ bs. look_up bs name) (pushed_append outer vs)
    ∙ look_up_append (pushed_on [] vs) outer name

taken_next : (vs : List Variable) (i : ℕ) (v : Variable) → i < length vs → v ≡ get_or vs i v →
    take (suc i) vs ≡ take i vs ++ v ∷ []
taken_next [] i v h e = absurd (omega (arith, h))
taken_next (w ∷ vs) zero v h e = ap (λ x. x ∷ []) (sym e)
taken_next (w ∷ vs) (suc i) v h e =
    ap (λ xs. w ∷ xs) (taken_next vs i v (omega (arith, h)) e)

-- the last of the variables that are left is looked at first
module _ (vs : List Variable) (n : ℕ) (v : Variable) (name : ExprName) (some : 0 < n)
    (within : n ≤ length vs) (is : v ≡ get_or vs (n - 1) v)
    (left : look_up (pushed_on [] (take n vs)) name ≡ look_up (pushed_on [] vs) name) where
  parted : look_up (binding_of v ∷ pushed_on [] (take (n - 1) vs)) name
      ≡ look_up (pushed_on [] vs) name
  parted =
      let k : suc (n - 1) ≡ n = omega (arith, some) in
      ap (λ bs. look_up bs name) (sym (pushed_last [] (take (n - 1) vs) v))
      ∙ ap (λ xs. look_up (pushed_on [] xs) name)
      (sym (taken_next vs (n - 1) v (omega (arith, some, within)) is))
      ∙ ap (λ m. look_up (pushed_on [] (take m vs)) name) k
      ∙ left

  pub last_found : same_name v.name name ≡ true →
      Some (given v.value.moves) ≡ look_up (pushed_on [] vs) name
  unfolding look_up
  last_found h = rw h at parted

  pub last_passed : same_name v.name name ≡ false →
      look_up (pushed_on [] (take (n - 1) vs)) name ≡ look_up (pushed_on [] vs) name
  unfolding look_up
  last_passed h = rw h at parted

pub all_left : (vs : List Variable) (name : ExprName) →
    look_up (pushed_on [] (take (length vs) vs)) name ≡ look_up (pushed_on [] vs) name
all_left vs name = ap (λ xs. look_up (pushed_on [] xs) name) (take-length vs)

pub none_found : (vs : List Variable) (n : ℕ) (name : ExprName) → n ≤ 0 →
    look_up (pushed_on [] (take n vs)) name ≡ look_up (pushed_on [] vs) name →
    None ≡ look_up (pushed_on [] vs) name
unfolding look_up
none_found vs n name h left =
    let e : n ≡ 0 = omega (arith, h) in
    rw e at left

pub none_outermost : (s : Scope) (name : ExprName) → s ≡ Outermost
    → None ≡ look_up (bindings s) name
unfolding look_up
none_outermost s name e = rw e refl
