-- The test whether a path begins with another.
use Rattle.std.proofs.Common.{◌≡◌, ℕ, List, [], ◌∷◌, Bool, true, false, ◌&&◌, nat_eq, inl, inr, refl, sym, ap, ◌∙◌, arith}
use Rattle.std.proofs.lemmas.Bool.{eq-eqb, ne_eqb}
use Rattle.std.specs.List.{starts_with}
use Rattle.std.specs.declared.cmp.Ordering.{Ordering}
use Rattle.std.specs.declared.cmp.Ordering.TheVariants.{Less, Equal, Greater}
use Rattle.std.specs.Ordering.{nat_cmp}
use Rattle.node_axes.specs.Paths.{Stands, then_stands, stands, is_over}
use Rattle.node_axes.proofs.PathLemmas.{Places, places}

abbrev pub is_equal : Ordering → Bool
is_equal Less = false
is_equal Equal = true
is_equal Greater = false

eq_places : (i j : ℕ) → Places i j → nat_eq i j ≡ is_equal (nat_cmp i j)
eq_places i j (inl h) = ne_eqb i j (λ e. omega arith) ∙ sym (ap is_equal h.1)
eq_places i j (inr (inl h)) = eq-eqb i j h.0 ∙ sym (ap is_equal h.1)
eq_places i j (inr (inr h)) = ne_eqb i j (λ e. omega arith) ∙ sym (ap is_equal h.1)

pub eq_cmp : (i j : ℕ) → nat_eq i j ≡ is_equal (nat_cmp i j)
eq_cmp i j = eq_places i j (places i j)

pub over_step : (o : Ordering) (b : Bool) (s : Stands) → b ≡ is_over s → (is_equal o && b) ≡ is_over (then_stands o s)
over_step Less b s e = refl
over_step Equal b s e = e
over_step Greater b s e = refl

pub starts_with_is : (p q : List ℕ) → starts_with nat_eq q p ≡ is_over (stands p q)
unfolding stands
starts_with_is [] [] = refl
starts_with_is [] (j ∷ q) = refl
starts_with_is (i ∷ p) [] = refl
starts_with_is (i ∷ p) (j ∷ q) = ap (λ b. b && starts_with nat_eq q p) (eq_cmp i j) ∙ over_step (nat_cmp i j) (starts_with nat_eq q p) (stands p q) (starts_with_is p q)
