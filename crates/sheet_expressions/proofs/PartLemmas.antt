-- Parts of calls, one after the other.
use Rattle.std.proofs.Common.{◌≡◌, ℕ, ◌+◌, ◌<◌, ◌≤◌, Bool, List, [], ◌∷◌, ◌++◌, Option, Some, None, option_map, refl, sym, ap, ◌∙◌, append_assoc, append-nil, arith, map, drop, get_or, length}
use Rattle.std.proofs.Math.ListN.{drop_of_length-le, set}
use Rattle.xt_names.specs.declared.names.Binding.{Binding}
use Rattle.xt_syntax.specs.declared.prefixes.Prefixes.{Prefixes}
use Rattle.expr_terms.specs.declared.raws.Raw.{Raw}
use Rattle.sheet_expressions.specs.Parts.{key_literal, first_key, on_first, on_last, key_arguments}
use Rattle.sheet_expressions.specs.Checked.{all_some, checked}
use Rattle.xt_names.proofs.ListLemmas.{drop_next}

-- the first part
pub first_some : (bound : List Binding) (vs : List Raw) (w : Raw) → Some w ≡ first_key bound vs → Some (set vs 0 w) ≡ on_first (key_literal bound) vs
first_some bound [] w e = absurd cc
first_some bound (v ∷ vs) w e = ap (option_map (λ u. u ∷ vs)) e

pub first_none : (bound : List Binding) (vs : List Raw) → None ≡ first_key bound vs → None ≡ on_first (key_literal bound) vs
first_none bound [] e = refl
first_none bound (v ∷ vs) e = ap (option_map (λ u. u ∷ vs)) e

pub first_there : (bound : List Binding) (vs : List Raw) (w : Raw) → Some w ≡ first_key bound vs → 0 < length vs
first_there bound [] w e = absurd cc
first_there bound (v ∷ vs) w e = omega arith

pub ruleset firsts = (first_some, first_none, first_there)

-- the last part
last_is : (f : Raw → Option Raw) (vs : List Raw) (v : Raw) → on_last f (vs ++ v ∷ []) ≡ option_map (λ w. vs ++ w ∷ []) (f v)
last_is f [] v = refl
last_is f (u ∷ []) v = inner (f v)
  where
    inner : (o : Option Raw) → option_map (λ us. u ∷ us) (option_map (λ w. w ∷ []) o) ≡ option_map (λ w. u ∷ w ∷ []) o
    inner None = refl
    inner (Some w) = refl
last_is f (u ∷ t ∷ vs) v = ap (option_map (λ us. u ∷ us)) (last_is f (t ∷ vs) v) ∙ outer (f v)
  where
    outer : (o : Option Raw) → option_map (λ us. u ∷ us) (option_map (λ w. (t ∷ vs) ++ w ∷ []) o) ≡ option_map (λ w. (u ∷ t ∷ vs) ++ w ∷ []) o
    outer None = refl
    outer (Some w) = refl

pub last_some : (bound : List Binding) (all vs : List Raw) (v w : Raw) → all ≡ vs ++ v ∷ [] → Some w ≡ key_arguments bound v → Some (vs ++ w ∷ []) ≡ on_last (key_arguments bound) all
last_some bound all vs v w e f = ap (option_map (λ u. vs ++ u ∷ [])) f ∙ sym (last_is (key_arguments bound) vs v) ∙ ap (on_last (key_arguments bound)) (sym e)

pub last_none : (bound : List Binding) (all vs : List Raw) (v : Raw) → all ≡ vs ++ v ∷ [] → None ≡ key_arguments bound v → None ≡ on_last (key_arguments bound) all
last_none bound all vs v e f = ap (option_map (λ u. vs ++ u ∷ [])) f ∙ sym (last_is (key_arguments bound) vs v) ∙ ap (on_last (key_arguments bound)) (sym e)

pub ruleset lasts = (last_some, last_none)

-- these parts after those
pub behind : List Raw → Option (List Raw) → Option (List Raw)
behind us o = option_map (λ vs. us ++ vs) o

one_behind : (us : List Raw) (u : Raw) (o : Option (List Raw)) → behind us (option_map (λ vs. u ∷ vs) o) ≡ behind (us ++ u ∷ []) o
unfolding behind
one_behind us u None = refl
one_behind us u (Some vs) = ap Some (sym (append_assoc us (u ∷ []) vs))

more_behind : (us : List Raw) (u : Raw) (o : Option Raw) (os : List (Option Raw)) → o ≡ Some u → behind us (all_some (o ∷ os)) ≡ behind (us ++ u ∷ []) (all_some os)
more_behind us u o os e = rw e (one_behind us u (all_some os))

stops_behind : (us : List Raw) (o : Option Raw) (os : List (Option Raw)) → o ≡ None → behind us (all_some (o ∷ os)) ≡ None
unfolding behind
stops_behind us o os e = rw e refl

nothing_first : (o : Option (List Raw)) → behind [] o ≡ o
unfolding behind
nothing_first None = refl
nothing_first (Some vs) = refl

ends_behind : (us : List Raw) → behind us (all_some []) ≡ Some us
unfolding behind
ends_behind us = ap Some (append-nil us)

module _ (p : Prefixes) (g : Bool) where
  pub begins_behind : (all : List Raw) → all_some (map (checked p g) all) ≡ behind [] (all_some (map (checked p g) all))
  begins_behind all = sym (nothing_first (all_some (map (checked p g) all)))

  pub more_at : (all : List Raw) (i : ℕ) (d : Raw) (us : List Raw) (u : Raw) → i < length all → Some u ≡ checked p g (get_or all i d)
      → behind us (all_some (map (checked p g) (drop i all))) ≡ behind (us ++ u ∷ []) (all_some (map (checked p g) (drop (i + 1) all)))
  more_at all i d us u h e = ap (λ x. behind us (all_some (map (checked p g) x))) (drop_next all i d h) ∙ more_behind us u (checked p g (get_or all i d)) (map (checked p g) (drop (i + 1) all)) (sym e)

  pub stops_at : (all : List Raw) (i : ℕ) (d : Raw) (us : List Raw) → i < length all → None ≡ checked p g (get_or all i d)
      → all_some (map (checked p g) all) ≡ behind us (all_some (map (checked p g) (drop i all))) → None ≡ all_some (map (checked p g) all)
  stops_at all i d us h e f = sym (f ∙ ap (λ x. behind us (all_some (map (checked p g) x))) (drop_next all i d h) ∙ stops_behind us (checked p g (get_or all i d)) (map (checked p g) (drop (i + 1) all)) (sym e))

  pub ends_at : (all : List Raw) (i : ℕ) (us : List Raw) → length all ≤ i → all_some (map (checked p g) all) ≡ behind us (all_some (map (checked p g) (drop i all)))
      → Some us ≡ all_some (map (checked p g) all)
  ends_at all i us h f = sym (f ∙ ap (λ x. behind us (all_some (map (checked p g) x))) (drop_of_length-le all h) ∙ ends_behind us)

pub ruleset parts = (begins_behind, more_at, stops_at, ends_at)
