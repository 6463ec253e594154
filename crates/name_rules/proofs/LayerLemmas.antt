-- The names of several tables.
use Rattle.std.proofs.Common.{arith, ◌≡◌, ◌<◌, length, List, [], ◌∷◌, ◌++◌, Bool, true, false, cond, ◌||◌, refl, sym, ap, ◌∙◌, append_assoc}
use Rattle.std.proofs.lemmas.List.{append-nil}
use Rattle.std.proofs.lemmas.List.Folds.{list_any-append}
use Rattle.std.specs.HashSet.{HashSet}
use Rattle.std.specs.declared.rc.Rc.{Rc}
use Rattle.xt_names.specs.declared.names.ExprName.{ExprName}
use Rattle.name_rules.specs.Layers.{layer_names}
use Rattle.name_rules.specs.Scopes.{has_name, names_differ}
use Rattle.xt_names.specs.ExprNames.{same_name}

pub has_name_append : (xs ys : List ExprName) (n : ExprName) → has_name (xs ++ ys) n ≡ (has_name xs n || has_name ys n)
has_name_append xs ys n = list_any-append (same_name n) xs ys

pub layer_names_append : {S A : Type 0} (xs ys : List (Rc (HashSet ExprName S) A)) → layer_names (xs ++ ys) ≡ layer_names xs ++ layer_names ys
layer_names_append [] ys = refl
layer_names_append (x ∷ xs) ys = rw (layer_names_append xs ys) (sym (append_assoc x.value.keys (layer_names xs) (layer_names ys)))

second_false : (a b : Bool) → (a || b) ≡ false → b ≡ false
second_false true b e = cc
second_false false b e = e

-- a new name that is put into the last table is the last of all
pub added_last : (xs ys : List ExprName) (n : ExprName) → has_name (xs ++ ys) n ≡ false → xs ++ (cond (has_name ys n) ys (ys ++ n ∷ [])) ≡ (xs ++ ys) ++ n ∷ []
added_last xs ys n h =
    let q : has_name ys n ≡ false = second_false (has_name xs n) (has_name ys n) (sym (has_name_append xs ys n) ∙ h) in
    rw q (sym (append_assoc xs ys (n ∷ [])))

-- a table, or a copy of it, after the others
pub layer_pushed : {S A : Type 0} (old new : List (Rc (HashSet ExprName S) A)) (copy layer : Rc (HashSet ExprName S) A)
    → new ≡ old ++ copy ∷ [] → copy.value ≡ layer.value → layer_names new ≡ layer_names old ++ layer.value.keys
layer_pushed old new copy layer e same = rw (e, layer_names_append old (copy ∷ []), same) (simp append-nil)

few_differ : (ns : List ExprName) → length ns < 2 → true ≡ names_differ ns
few_differ [] few = refl
few_differ (n ∷ []) few = refl
few_differ (n ∷ m ∷ ns) few = absurd (omega (arith, few))

-- no name stands twice among fewer than two
pub few_names_differ : (ns ms : List ExprName) → ms ≡ ns → length ms < 2 → true ≡ names_differ ns
few_names_differ ns ms same few = few_differ ms few ∙ ap names_differ same
