-- What holds of each element of a list holds of each that is kept of it, and of each that is found.
use Rattle.std.proofs.Common.{ℕ, zero, suc, List, [], ◌∷◌, reverse, take, drop, cond, subst, sym}
use Rattle.std.proofs.lemmas.Grind.{reverse_onto}
use Rattle.std.specs.Prelude.{Bool, true, false, Option, Some, None, slice_get, if◌then◌else◌}
use Rattle.std.specs.List.{filter, dedup, dedup_from}
use Rattle.fn_lib.specs.Values.{argument, or_no_items}
use Rattle.xdm_items.specs.declared.items.Item.{Item}
use Rattle.expr_meaning.specs.Outcomes.Outcome.{Every}
use Rattle.expr_meaning.proofs.OutcomesLemmas.Relations.{every_append}
use Rattle.xt_names.specs.Lists.{put_in, stable_order}

-- what holds of the value, if there is one
abbrev pub OnSome : {A : Type 0} → (A → Type 0) → Option A → Type 0
OnSome P None = Unit {0}
OnSome P (Some v) = P v

module _ {A : Type 0} (P : A → Type 0) where
  pub every_take : (n : ℕ) (xs : List A) → Every P xs → Every P (take n xs)
  every_take zero xs h = tt
  every_take (suc n) [] h = tt
  every_take (suc n) (x ∷ xs) h = (h.0, every_take n xs h.1)

  pub every_drop : (n : ℕ) (xs : List A) → Every P xs → Every P (drop n xs)
  every_drop zero xs h = h
  every_drop (suc n) [] h = tt
  every_drop (suc n) (x ∷ xs) h = every_drop n xs h.1

  pub every_filter : (test : A → Bool) (xs : List A) → Every P xs → Every P (filter test xs)
  every_filter test [] h = tt
  every_filter test (x ∷ xs) h = by (test x) (every_filter test xs h.1)
    where
      by : (b : Bool) → Every P (filter test xs) →
          Every P (cond b (x ∷ filter test xs) (filter test xs))
      by true more = (h.0, more)
      by false more = more

  pub every_reverse : (xs : List A) → Every P xs → Every P (reverse xs)
  every_reverse [] h = tt
  every_reverse (x ∷ xs) h =
      subst (Every P) (sym (reverse_onto xs x []))
      (every_append P (reverse xs) (x ∷ []) (every_reverse xs h.1) (h.0, tt))

  from_kept : (same : A → A → Bool) (k : A) (xs : List A) → P k → Every P xs →
      Every P (dedup_from same k xs)
  from_kept same k [] p h = (p, tt)
  from_kept same k (x ∷ xs) p h =
      by (same x k) (from_kept same k xs p h.1) (from_kept same x xs h.0 h.1)
    where
      by : (b : Bool) → Every P (dedup_from same k xs) → Every P (dedup_from same x xs) →
          Every P (cond b (dedup_from same k xs) (k ∷ dedup_from same x xs))
      by true more other = more
      by false more other = (p, other)

  pub every_dedup : (same : A → A → Bool) (xs : List A) → Every P xs → Every P (dedup same xs)
  every_dedup same [] h = tt
  every_dedup same (x ∷ xs) h = from_kept same x xs h.0 h.1

  every_put : (below : A → A → Bool) (x : A) (ys : List A) → P x → Every P ys →
      Every P (put_in below x ys)
  every_put below x [] p h = (p, tt)
  every_put below x (y ∷ ys) p h = by (below y x) (every_put below x ys p h.1)
    where
      by : (b : Bool) → Every P (put_in below x ys) →
          Every P (if b then y ∷ put_in below x ys else x ∷ y ∷ ys)
      by true more = (h.0, more)
      by false more = (p, h)

  pub every_order : (below : A → A → Bool) (xs : List A) → Every P xs →
      Every P (stable_order below xs)
  unfolding stable_order
  every_order below [] h = tt
  every_order below (x ∷ xs) h =
      every_put below x (stable_order below xs) h.0 (every_order below xs h.1)

  pub at_place : (xs : List A) (i : ℕ) → Every P xs → OnSome P (slice_get xs i)
  at_place [] i h = tt
  at_place (x ∷ xs) zero h = h.0
  at_place (x ∷ xs) (suc i) h = at_place xs i h.1

or_none : (P : Item → Type 0) (o : Option (List Item)) → OnSome (Every P) o →
    Every P (or_no_items o)
or_none P None h = tt
or_none P (Some xs) h = h

pub argument_known : (P : Item → Type 0) (args : List (List Item)) (i : ℕ) →
    Every (Every P) args → Every P (argument args i)
argument_known P args i h = or_none P (slice_get args i) (at_place (Every P) args i h)
