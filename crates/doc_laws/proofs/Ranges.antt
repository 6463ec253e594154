-- Ranges within ranges.
use Rattle.std.proofs.Common.{◌≡◌, ℕ, ◌≤◌, List, [], ◌∷◌, Bool, true, false, ◌||◌, ◌&&◌, refl, arith}
use Rattle.std.specs.Prelude.{nat_le}
use Rattle.std.specs.List.{list_all, list_any}
use Rattle.std.proofs.lemmas.Bool.{and_parts, leb-true, le-leb}
use Rattle.xt_names.specs.Classes.{is_in_ranges}

-- one of the ranges holds the whole of this one
abbrev pub holds_range : List (ℕ × ℕ) → ℕ × ℕ → Bool
holds_range ss r = list_any (λ s. nat_le s.0 r.0 && nat_le r.1 s.1) ss

abbrev pub hold_ranges : List (ℕ × ℕ) → List (ℕ × ℕ) → Bool
hold_ranges ss rs = list_all (holds_range ss) rs

in_wider : (s r : ℕ × ℕ) (c : ℕ) → (nat_le s.0 r.0 && nat_le r.1 s.1) ≡ true → r.0 ≤ c → c ≤ r.1 → (nat_le s.0 c && nat_le c s.1) ≡ true
in_wider s r c e a b =
    let parts = and_parts (nat_le s.0 r.0) (nat_le r.1 s.1) e in
    let low = leb-true s.0 r.0 parts.0 in
    let high = leb-true r.1 s.1 parts.1 in
    rw (le-leb s.0 c (omega arith), le-leb c s.1 (omega arith)) refl

pub in_range : (ss : List (ℕ × ℕ)) (r : ℕ × ℕ) (c : ℕ) → holds_range ss r ≡ true → r.0 ≤ c → c ≤ r.1 → is_in_ranges ss c ≡ true
unfolding is_in_ranges
in_range [] r c e a b = absurd (cc)
in_range (s ∷ ss) r c e a b = go (nat_le s.0 r.0 && nat_le r.1 s.1) refl e (λ f. in_range ss r c f a b)
  where
    last : (q : Bool) → is_in_ranges ss c ≡ true → (q || is_in_ranges ss c) ≡ true
    last true m = refl
    last false m = m

    go : (q : Bool) → (nat_le s.0 r.0 && nat_le r.1 s.1) ≡ q → (q || holds_range ss r) ≡ true → (holds_range ss r ≡ true → is_in_ranges ss c ≡ true) → ((nat_le s.0 c && nat_le c s.1) || is_in_ranges ss c) ≡ true
    go true d f more = rw (in_wider s r c d a b) refl
    go false d f more = last (nat_le s.0 c && nat_le c s.1) (more f)

pub in_ranges : (ss rs : List (ℕ × ℕ)) (c : ℕ) → hold_ranges ss rs ≡ true → is_in_ranges rs c ≡ true → is_in_ranges ss c ≡ true
unfolding is_in_ranges
in_ranges ss [] c h e = absurd (cc)
in_ranges ss (r ∷ rs) c h e = go (nat_le r.0 c && nat_le c r.1) refl e (λ f. in_ranges ss rs c parts.1 f)
  where
    parts : (holds_range ss r ≡ true) × (hold_ranges ss rs ≡ true)
    parts = and_parts (holds_range ss r) (hold_ranges ss rs) h

    go : (q : Bool) → (nat_le r.0 c && nat_le c r.1) ≡ q → (q || is_in_ranges rs c) ≡ true → (is_in_ranges rs c ≡ true → is_in_ranges ss c ≡ true) → is_in_ranges ss c ≡ true
    go true d f more =
        let x = and_parts (nat_le r.0 c) (nat_le c r.1) d in
        in_range ss r c parts.0 (leb-true r.0 c x.0) (leb-true c r.1 x.1)
    go false d f more = more f
