-- Predicates in turn, where the nodes come one by one.
use Rattle.std.proofs.Common.{◌≡◌, ℕ, zero, suc, ◌+◌, ◌<◌, ◌≤◌, List, [], ◌∷◌, length, get_or, set, Bool, true, false, refl, ap, ap₂, ◌∙◌, arith, rules}
use Rattle.std.specs.Prelude.{if◌then◌else◌, replicate, nat_eq}
use Rattle.xt_tree.specs.Place.{Place}
use Rattle.node_axes.specs.StepWalks.Nodes.{Focus, kept_from, kept_by, kept_by_all}
use Rattle.node_axes.specs.StepWalks.Sifted.{IsSizeFree, AreSizeFree, sifted, kept_in_turn, raised, alone_if}

abbrev at : Place → ℕ → ℕ → Focus
at n position size = record { node = n; position = position; size = size }

size_free_from : (holds : Focus → Bool) → IsSizeFree holds → (few many place : ℕ) (nodes : List Place) → kept_from holds few place nodes ≡ kept_from holds many place nodes
unfolding kept_from
size_free_from holds f few many place [] = refl
size_free_from holds f few many place (n ∷ rest) = ap₂ (λ (b : Bool) (r : List Place). if b then n ∷ r else r) (f n place few many) (size_free_from holds f few many (place + 1) rest)

pub begins : (tests : List (Focus → Bool)) (nodes : List Place) → AreSizeFree tests → kept_by_all tests nodes ≡ sifted tests (replicate (length tests) 0) nodes
unfolding kept_by_all sifted kept_by
begins [] nodes f = refl
begins (holds ∷ more) nodes f = begins more (kept_by holds nodes) f.1 ∙ ap (sifted more (replicate (length more) 0)) (size_free_from holds f.0 (length nodes) 0 1 nodes)

more_equal : (m n : ℕ) → nat_eq (suc m) (suc n) ≡ nat_eq m n
more_equal m n = search rules

none_equal : (n : ℕ) → nat_eq 0 (suc n) ≡ false
none_equal n = search rules

pub comes : (tests : List (Focus → Bool)) (seen : List ℕ) (n : Place) (rest : List Place) → length seen ≡ length tests
    → sifted tests seen (n ∷ rest) ≡ alone_if (nat_eq (kept_in_turn tests seen n) (length tests)) n (sifted tests (raised (suc (kept_in_turn tests seen n)) seen) rest)
unfolding sifted kept_in_turn raised kept_from
comes [] [] n rest e = refl
comes [] (k ∷ ks) n rest e = absurd (omega arith)
comes (holds ∷ more) [] n rest e = absurd (omega arith)
comes (holds ∷ more) (k ∷ ks) n rest e = by (holds (at n (k + 1) 0)) refl (comes more ks n (kept_from holds 0 ((k + 1) + 1) rest) (omega arith))
  where
    m : ℕ
    m = kept_in_turn more ks n

    by : (b : Bool) → holds (at n (k + 1) 0) ≡ b
        → sifted more ks (n ∷ kept_from holds 0 ((k + 1) + 1) rest) ≡ alone_if (nat_eq (kept_in_turn more ks n) (length more)) n (sifted more (raised (suc (kept_in_turn more ks n)) ks) (kept_from holds 0 ((k + 1) + 1) rest))
        → sifted (holds ∷ more) (k ∷ ks) (n ∷ rest) ≡ alone_if (nat_eq (kept_in_turn (holds ∷ more) (k ∷ ks) n) (length (holds ∷ more))) n (sifted (holds ∷ more) (raised (suc (kept_in_turn (holds ∷ more) (k ∷ ks) n)) (k ∷ ks)) rest)
    by true h step = rw (h, more_equal (kept_in_turn more ks n) (length more)) step
    by false h step = rw (h, none_equal (length more)) refl

-- counting, place by place

pub raised_none : (ks : List ℕ) → raised 0 ks ≡ ks
unfolding raised
raised_none ks = refl

-- a place that is not counted yet
pub not_raised : (n : ℕ) (ks : List ℕ) → get_or (raised n ks) n 0 ≡ get_or ks n 0
unfolding raised
not_raised zero ks = refl
not_raised (suc n) [] = refl
not_raised (suc n) (k ∷ ks) = not_raised n ks

pub raised_length : (n : ℕ) (ks : List ℕ) → length (raised n ks) ≡ length ks
unfolding raised
raised_length zero ks = refl
raised_length (suc n) [] = refl
raised_length (suc n) (k ∷ ks) = ap suc (raised_length n ks)

pub raised_more : (n : ℕ) (ks : List ℕ) → n < length ks → set (raised n ks) n (get_or ks n 0 + 1) ≡ raised (n + 1) ks
unfolding raised
raised_more zero [] h = absurd (omega arith)
raised_more zero (k ∷ ks) h = refl
raised_more (suc n) [] h = absurd (omega arith)
raised_more (suc n) (k ∷ ks) h = let e : suc n + 1 ≡ suc (n + 1) = omega arith in rw e (ap (λ (zs : List ℕ). (k + 1) ∷ zs) (raised_more n ks (omega arith)))

-- past the end nothing is counted
pub raised_all : (m n : ℕ) (ks : List ℕ) → length ks ≤ m → length ks ≤ n → raised m ks ≡ raised n ks
unfolding raised
raised_all zero zero ks h g = refl
raised_all zero (suc n) [] h g = refl
raised_all zero (suc n) (k ∷ ks) h g = absurd (omega arith)
raised_all (suc m) zero [] h g = refl
raised_all (suc m) zero (k ∷ ks) h g = absurd (omega arith)
raised_all (suc m) (suc n) [] h g = refl
raised_all (suc m) (suc n) (k ∷ ks) h g = ap (λ (zs : List ℕ). (k + 1) ∷ zs) (raised_all m n ks (omega arith) (omega arith))
