-- Numbers, digit by digit.
use Rattle.std.proofs.Common.{◌≡◌, ◌≤◌, ◌<◌, ℕ, ◌+◌, ◌*◌, List, [], ◌∷◌, ◌++◌, Some, None, pos, refl, subst, ap, ◌∙◌, arith}
use Rattle.std.proofs.lemmas.Bool.{le-leb, lt-leb}
use Rattle.expr_tokens.specs.Literals.{value, number_value}
use Rattle.xt_names.specs.Characters.{digit}

value-push : (n : ℕ) (cs : List ℕ) (c : ℕ) → value n (cs ++ c ∷ []) ≡ 10 * value n cs + digit c
unfolding value
value-push n [] c = refl
value-push n (d ∷ cs) c = value-push (10 * n + digit d) cs c

-- the number so far, or one that is too great where the digits are
pub record Counts (n : ℕ) (cs : List ℕ) : Type 0 where
  pub exact : n ≤ 9223372036854775807 → n ≡ value 0 cs
  pub past : 9223372036854775807 < n → 9223372036854775807 < value 0 cs
  pub small : n ≤ 100000000000000000000

pub counts_begin : Counts 0 []
unfolding value
counts_begin = record { exact = λ h. refl; past = λ h. absurd (omega arith); small = omega arith }

pub counts_more : (n m : ℕ) (cs : List ℕ) (c : ℕ) → Counts n cs → n ≤ 9223372036854775807 → m ≡ digit c → m ≤ 4294967295 → Counts (10 * n + m) (cs ++ c ∷ [])
counts_more n m cs c k h d b =
    let e = k.exact h in
    let p = value-push 0 cs c in
    record { exact = λ g. rw (p, ← e, ← d) refl; past = λ g. rw (p, ← e, ← d) g; small = omega arith }

pub number_some : (n : ℕ) (cs ds : List ℕ) → Counts n cs → n ≤ 9223372036854775807 → cs ≡ ds → Some (pos n) ≡ number_value ds
unfolding number_value
number_some n cs ds k h e =
    let v : n ≡ value 0 ds = k.exact h ∙ ap (value 0) e in
    rw (← v, le-leb n 9223372036854775807 h) refl

pub number_none : (n : ℕ) (cs ds : List ℕ) → Counts n cs → 9223372036854775807 < n → cs ≡ ds → None ≡ number_value ds
unfolding number_value
number_none n cs ds k h e =
    let v : 9223372036854775807 < value 0 ds = subst (λ x. 9223372036854775807 < value 0 x) e (k.past h) in
    rw (lt-leb (value 0 ds) 9223372036854775807 v) refl

pub counts_past : (n : ℕ) (cs : List ℕ) (c : ℕ) → Counts n cs → 9223372036854775807 < n → Counts n (cs ++ c ∷ [])
counts_past n cs c k h =
    let e = k.past h in
    let p = value-push 0 cs c in
    record { exact = λ g. absurd (omega arith); past = λ g. rw p (omega arith); small = k.small }

pub ruleset numbers = (counts_begin, counts_more, counts_past)
