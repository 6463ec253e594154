-- The numbers at the ends of names tell the names apart.
use Rattle.std.proofs.Common.{◌≡◌, ◌+◌, ◌<◌, ◌≤◌, ◌^◌, ℕ, suc, List, [], ◌∷◌, ◌++◌, length, refl, sym, ap, ◌∙◌, subst}
use Rattle.std.proofs.Common.{arith}
use Rattle.std.proofs.lemmas.Bool.{and_parts, eqb-true}
use Rattle.std.proofs.lemmas.Fmt.{decimal_injective, decimal_is_IsNumeral}
use Rattle.std.proofs.lemmas.Str.Parse.{digit_from_value}
use Rattle.std.proofs.Common.{length-append}
use Rattle.expr_meaning.specs.Outcomes.Outcome.{Every}
use Rattle.std.proofs.lemmas.List.Folds.{list_any-append}
use Rattle.std.proofs.lemmas.Slice.Eq.{bytes_eq-Decides}
use Rattle.std.specs.Prelude.{Bool, true, false, ◌&&◌, ◌==◌, codes, decimal, if◌then◌else◌}
use Rattle.std.specs.Str.{bytes_eq}
use Rattle.std.specs.Str.Parse.{AllDigits}
use Rattle.carried_exprs.specs.Sights.{made_uri, made_name}
use Rattle.translated_forms.specs.Names.{numbered}
use Rattle.translated_forms.specs.Params.{number_from, number_in, same_param}
use Rattle.translated_forms.specs.Places.{Param}
use Rattle.lockstep.specs.Numbers.{AreApart, IsApart, NumbersTell}
use Rattle.lockstep.proofs.Names.{has_hyphen}
use Rattle.lockstep.proofs.ChosenUris.{no_truth}
use Rattle.std.proofs.Math.Bool.{or-true, and-false}
use Rattle.xt_names.specs.ExprNames.{same_name, same_name as same_expr_name}
use Rattle.xt_names.specs.Allowed.{same_truth}

-- a number has no hyphen
digit_is : (c : ℕ) (cs : List ℕ) → AllDigits 10 (c ∷ cs) → (c == 45) ≡ false
digit_is c cs d = by (c == 45) (λ e. eqb-true c 45 e)
  where
    by : (b : Bool) → (b ≡ true → c ≡ 45) → b ≡ false
    by true e =
        let same : c ≡ 45 = e refl in
        absurd (omega (arith, digit_from_value 45 (subst (λ z. AllDigits 10 (z ∷ cs)) same d).0))
    by false e = refl

no_hyphen : (cs : List ℕ) → AllDigits 10 cs → has_hyphen cs ≡ false
no_hyphen [] d = refl
no_hyphen (c ∷ cs) d = rw (digit_is c cs d) (no_hyphen cs d.1)

decimal_plain : (n : ℕ) → n < 2 ^ 64 → has_hyphen (decimal n) ≡ false
decimal_plain n h = no_hyphen (decimal n) (decimal_is_IsNumeral n h).0.1

-- what is after the last hyphen
abbrev behind_last : List ℕ → List ℕ
behind_last [] = []
behind_last (c ∷ cs) = if has_hyphen cs then behind_last cs else if c == 45 then cs else c ∷ cs

hyphen_there : (xs d : List ℕ) → has_hyphen (xs ++ 45 ∷ d) ≡ true
hyphen_there xs d = list_any-append (λ c. c == 45) xs (45 ∷ d) ∙ or-true (has_hyphen xs)

last_is : (xs d : List ℕ) → has_hyphen d ≡ false → behind_last (xs ++ 45 ∷ d) ≡ d
last_is [] d h = rw (h) refl
last_is (x ∷ xs) d h = rw (hyphen_there xs d) (last_is xs d h)

pub same_numbers : (s u : List ℕ) (m n : ℕ) → m < 2 ^ 64 → n < 2 ^ 64 →
    numbered s m ≡ numbered u n → m ≡ n
same_numbers s u m n p q e =
    decimal_injective m n p q
    (sym (last_is s (decimal m) (decimal_plain m p)) ∙ ap behind_last e
    ∙ last_is u (decimal n) (decimal_plain n q))

texts_apart : (a b : List ℕ) → (a ≡ b → ⊥) → bytes_eq a b ≡ false
texts_apart a b h = by (bytes_eq a b) (λ e. (bytes_eq-Decides a b).0 e)
  where
    by : (d : Bool) → (d ≡ true → a ≡ b) → d ≡ false
    by true e = absurd (h (e refl))
    by false e = refl

pub made_apart : (a b : List ℕ) → (a ≡ b → ⊥) → same_name (made_name a) (made_name b) ≡ false
made_apart a b h =
    ap (λ c. bytes_eq made_uri made_uri && c) (texts_apart a b h) ∙ and-false (bytes_eq made_uri made_uri)

pub numbers_apart : (s u : List ℕ) (m n : ℕ) → m < 2 ^ 64 → n < 2 ^ 64 → (m ≡ n → ⊥) →
    same_name (made_name (numbered s m)) (made_name (numbered u n)) ≡ false
numbers_apart s u m n p q h =
    made_apart (numbered s m) (numbered u n) (λ e. h (same_numbers s u m n p q e))

-- one text is longer
longer : (l d : List ℕ) → (codes "with-" ++ l) ++ d ≡ l ++ d → ⊥
longer l d e =
    absurd (omega (
      arith,
      ap length e,
      length-append (codes "with-" ++ l) d,
      length-append l d,
      length-append (codes "with-") l,
    ))

-- the same parameter
locals_same : (p r : Param) → same_param p r ≡ true → p.name.local ≡ r.name.local
locals_same p r h =
    let a = and_parts (same_truth p.tunnel r.tunnel) (same_expr_name p.name r.name) h in
    (bytes_eq-Decides p.name.local r.name.local).0
    (and_parts (bytes_eq p.name.uri r.name.uri) (bytes_eq p.name.local r.name.local) a.1).1

-- a list in which no parameter stands twice
abbrev pub Distinct : List Param → Type 0
Distinct [] = Unit {0}
Distinct (p ∷ ps) =
    ((r : Param) → same_param p r ≡ true → Every (λ q. same_param q r ≡ false) ps) × Distinct ps

pub bounded : (n : ℕ) (ps : List Param) (r : Param) → number_from n ps r ≤ n + length ps
bounded n [] r = omega arith
bounded n (p ∷ ps) r = by (same_param p r) (bounded (suc n) ps r)
  where
    by : (b : Bool) → number_from (suc n) ps r ≤ suc n + length ps →
        (if b then n else number_from (suc n) ps r) ≤ n + suc (length ps)
    by true h = omega arith
    by false h = omega arith

below : (n : ℕ) (ps : List Param) (r : Param) → n ≤ number_from n ps r
below n [] r = omega arith
below n (p ∷ ps) r = by (same_param p r) (below (suc n) ps r)
  where
    by : (b : Bool) → suc n ≤ number_from (suc n) ps r → n ≤ (if b then n else number_from (suc n) ps r)
    by true h = omega arith
    by false h = omega arith

module _ (params : List Param) (few : length params + 1 < 2 ^ 64) (r : Param) where
  abbrev own : ℕ
  own = number_in params r

  own_small : own < 2 ^ 64
  own_small = omega (arith, bounded 1 params r)

  -- a parameter with another number
  other_number : (n : ℕ) (p : Param) → n < 2 ^ 64 → (own ≡ n → ⊥) → same_param p r ≡ false →
      IsApart params n p r
  other_number n p small h no_same = record {
    same = λ e. absurd (contrary e no_same);
    other = λ e. numbers_apart (codes "with-" ++ r.name.local) (codes "with-" ++ p.name.local) own n
        own_small small h;
    flag = refl;
    value = numbers_apart (codes "with-" ++ r.name.local) p.name.local own n own_small small h;
  }
    where
      contrary : same_param p r ≡ true → same_param p r ≡ false → ⊥
      contrary e g = no_truth (sym g ∙ e)

  -- .. and with this number
  own_number : (n : ℕ) (p : Param) → n < 2 ^ 64 → own ≡ n → same_param p r ≡ true → IsApart params n p r
  own_number n p small h is = record {
    same = λ e. λ i. made_name (numbered (codes "with-" ++ sym (locals_same p r is) i) (h i));
    other = λ e. absurd (no_truth (sym e ∙ is));
    flag = refl;
    value = made_apart (numbered (codes "with-" ++ r.name.local) own) (numbered p.name.local n)
        (λ e. longer p.name.local (codes "-" ++ decimal n)
        (sym (λ i. numbered (codes "with-" ++ sym (locals_same p r is) i) (h i)) ∙ e));
  }

  after : (n : ℕ) (ps : List Param) → own < n → n + length ps < 2 ^ 64 →
      Every (λ q. same_param q r ≡ false) ps → AreApart params n ps r
  after n [] h s e = tt
  after n (p ∷ ps) h s e = (
    other_number n p (omega arith) (λ is. absurd (omega (arith, is))) e.0,
    after (suc n) ps (omega arith) (omega arith) e.1,
  )

  from : (n : ℕ) (ps : List Param) → own ≡ number_from n ps r → n + length ps < 2 ^ 64 → Distinct ps →
      AreApart params n ps r
  from n [] h s d = tt
  from n (p ∷ ps) h s d =
      by (same_param p r) refl h (λ g. from (suc n) ps g (omega arith) d.1)
    where
      by : (b : Bool) → same_param p r ≡ b → own ≡ (if b then n else number_from (suc n) ps r) →
          (own ≡ number_from (suc n) ps r → AreApart params (suc n) ps r) →
          IsApart params n p r × AreApart params (suc n) ps r
      by true e g more = (
        own_number n p (omega arith) g e,
        after (suc n) ps (omega (arith, g)) (omega arith) (d.0 r e),
      )
      by false e g more = (
        other_number n p (omega arith) (λ is. absurd (omega (arith, is, g, below (suc n) ps r))) e,
        more g,
      )

-- the numbers of a table without doubles tell its parameters apart
pub numbers_tell : (params : List Param) → length params + 1 < 2 ^ 64 → Distinct params →
    NumbersTell params
numbers_tell params few distinct r = from params few r 1 params refl (omega arith) distinct
