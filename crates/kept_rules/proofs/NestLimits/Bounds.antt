-- What is within a limit: the greater of two where both are, and one level more where the limit is
-- one more.
use Rattle.std.proofs.Common.{◌≡◌, ◌+◌, ◌-◌, ◌<◌, ◌≤◌, ℕ, max, nat_le, true, false, ◌&&◌}
use Rattle.std.proofs.Common.{refl, sym, ap₂, ◌∙◌, ◌⊎◌, inl, inr, arith}
use Rattle.std.proofs.Math.Dec.{leb-zero}
use Rattle.std.proofs.lemmas.Bool.{lt-leb, le-leb}
use Rattle.std.proofs.lemmas.Bool.Decides.{leb_tells}

max_of : (a b n : ℕ) → ((nat_le a n ≡ true) × (a ≤ n)) ⊎ ((nat_le a n ≡ false) × (n < a))
    → ((nat_le b n ≡ true) × (b ≤ n)) ⊎ ((nat_le b n ≡ false) × (n < b))
    → nat_le (max a b) n ≡ (nat_le a n && nat_le b n)
max_of a b n (inl (p, h)) (inl (q, k)) =
    let m : max a b ≤ n = grind (arith, h, k) in
    le-leb (max a b) n m ∙ sym (ap₂ (λ x y. x && y) p q)
max_of a b n (inl (p, h)) (inr (q, k)) =
    let m : n < max a b = grind (arith, k) in
    lt-leb (max a b) n m ∙ sym (ap₂ (λ x y. x && y) p q)
max_of a b n (inr (p, h)) o =
    let m : n < max a b = grind (arith, h) in
    lt-leb (max a b) n m ∙ sym (ap₂ (λ x y. x && y) p refl)

-- the greater of two
pub max_within : (a b n : ℕ) → nat_le (max a b) n ≡ (nat_le a n && nat_le b n)
max_within a b n = max_of a b n (leb_tells a n) (leb_tells b n)

-- nothing
pub none_within : (n : ℕ) → nat_le 0 n ≡ true
none_within n = leb-zero n

level_of : (a n : ℕ) → 0 < n
    → ((nat_le a (n - 1) ≡ true) × (a ≤ n - 1)) ⊎ ((nat_le a (n - 1) ≡ false) × (n - 1 < a))
    → nat_le (1 + a) n ≡ nat_le a (n - 1)
level_of a n o (inl (p, h)) =
    let m : 1 + a ≤ n = omega (arith, o, h) in
    le-leb (1 + a) n m ∙ sym p
level_of a n o (inr (p, h)) =
    let m : n < 1 + a = omega (arith, o, h) in
    lt-leb (1 + a) n m ∙ sym p

-- one level more than its part
pub level_within : (a n : ℕ) → 0 < n → nat_le (1 + a) n ≡ nat_le a (n - 1)
level_within a n o = level_of a n o (leb_tells a (n - 1))

-- .. than the greater of two parts
pub levels_within : (a b n : ℕ) → 0 < n
    → nat_le (1 + max a b) n ≡ (nat_le a (n - 1) && nat_le b (n - 1))
levels_within a b n o = level_within (max a b) n o ∙ max_within a b (n - 1)

pub ruleset limits = (max_within, none_within)

-- a leaf
pub leaf_within : (n : ℕ) → 0 < n → nat_le 1 n ≡ true
leaf_within n o = le-leb 1 n (omega (arith, o))

pub ruleset levels = (level_within, levels_within, leaf_within)
