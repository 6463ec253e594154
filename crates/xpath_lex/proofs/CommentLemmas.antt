-- Comments inside of one another, counted.
use Rattle.std.proofs.Common.{◌≡◌, ℕ, zero, suc, ◌+◌, ◌-◌, ◌<◌, ◌≤◌, List, [], ◌∷◌, ◌++◌, length, true, false, ◌==◌, ◌&&◌, not, refl, sym, ap, arith, add-one, sub-one}
use Rattle.std.proofs.lemmas.Bool.{and_parts, eqb-true, false_from_ne_true}
use Rattle.std.specs.List.{list_all}
use Rattle.xpath_lex.specs.Gaps.{begins_with, Comment, over, nested, passes}
use Rattle.xpath_lex.specs.Runs.{is_plain}
use Rattle.xpath_lex.proofs.CharacterFacts.{open_char, colon_char}
use Rattle.xt_names.specs.Characters.{is_char, Ends, NotNext}
use Rattle.xt_names.proofs.BoolLemmas.{no, not_true}
use Rattle.xt_names.proofs.CharacterLemmas.{itself}

-- so many comments are open, and this is left after the last of them
pub data Closes : ℕ → List ℕ → List ℕ → Type 0 where
  closed : {ts : List ℕ} → Closes zero ts ts
  behind : {n : ℕ} {ts mid rest : List ℕ} → Comment ts mid → Closes n mid rest → Closes (suc n) ts rest

-- the one closes where the other does
pub record Same (n : ℕ) (s : List ℕ) (m : ℕ) (t : List ℕ) : Type 0 where
  pub there : (rest : List ℕ) → Closes n s rest → Closes m t rest
  pub back : (rest : List ℕ) → Closes m t rest → Closes n s rest

pub Same-refl : (n : ℕ) (s : List ℕ) → Same n s n s
Same-refl n s = record { there = λ rest c. c; back = λ rest c. c }

pub Same-then : {n m k : ℕ} {s t u : List ℕ} → Same n s m t → Same m t k u → Same n s k u
Same-then a b = record { there = λ rest c. b.there rest (a.there rest c); back = λ rest c. a.back rest (b.back rest c) }

there_passed : (n c : ℕ) (ts rest : List ℕ) → begins_with 58 41 (c ∷ ts) ≡ false → begins_with 40 58 (c ∷ ts) ≡ false → Closes (suc n) (c ∷ ts) rest → Closes (suc n) ts rest
there_passed n c ts rest e d (behind over k) = no refl e
there_passed n c ts rest e d (behind (nested a b) k) = no refl d
there_passed n c ts rest e d (behind (passes h x y a) k) = behind a k

back_passed : (n c : ℕ) (ts rest : List ℕ) → is_char c ≡ true → begins_with 58 41 (c ∷ ts) ≡ false → begins_with 40 58 (c ∷ ts) ≡ false → Closes (suc n) ts rest → Closes (suc n) (c ∷ ts) rest
back_passed n c ts rest h e d (behind a k) = behind (passes h e d a) k

-- a character that neither begins nor closes a comment
passed : (n c : ℕ) (ts : List ℕ) → is_char c ≡ true → begins_with 58 41 (c ∷ ts) ≡ false → begins_with 40 58 (c ∷ ts) ≡ false → Same (suc n) (c ∷ ts) (suc n) ts
passed n c ts h e d = record { there = λ rest k. there_passed n c ts rest e d k; back = λ rest k. back_passed n c ts rest h e d k }

not_first : (a b c : ℕ) (ts : List ℕ) → (c == a) ≡ false → begins_with a b (c ∷ ts) ≡ false
not_first a b c [] e = refl
not_first a b c (d ∷ ts) e = rw e refl

not_second : (a b : ℕ) (ts : List ℕ) → NotNext b ts → begins_with a b (a ∷ ts) ≡ false
not_second a b [] e = refl
not_second a b (d ∷ ts) e = rw (itself a, false_from_ne_true (d == b) (λ h. e (sym (eqb-true d b h)))) refl

pub plain_run : (n : ℕ) (run ts : List ℕ) → list_all is_plain run ≡ true → Same (suc n) (run ++ ts) (suc n) ts
unfolding is_plain
plain_run n [] ts a = Same-refl (suc n) ts
plain_run n (c ∷ run) ts a =
    let parts = and_parts (is_char c && not (c == 40) && not (c == 58)) _ a in
    let two = and_parts (is_char c && not (c == 40)) (not (c == 58)) parts.0 in
    let one = and_parts (is_char c) (not (c == 40)) two.0 in
    Same-then (passed n c (run ++ ts) one.0 (not_first 58 41 c (run ++ ts) (not_true two.1)) (not_first 40 58 c (run ++ ts) (not_true one.1))) (plain_run n run ts parts.1)

lone_open : (n : ℕ) (ts : List ℕ) → NotNext 58 ts → Same (suc n) (40 ∷ ts) (suc n) ts
lone_open n ts e = passed n 40 ts open_char (not_first 58 41 40 ts refl) (not_second 40 58 ts e)

lone_colon : (n : ℕ) (ts : List ℕ) → NotNext 41 ts → Same (suc n) (58 ∷ ts) (suc n) ts
lone_colon n ts e = passed n 58 ts colon_char (not_second 58 41 ts e) (not_first 40 58 58 ts refl)

there_nested : (n : ℕ) (ts rest : List ℕ) → Closes (suc n) (40 ∷ 58 ∷ ts) rest → Closes (suc (suc n)) ts rest
there_nested n ts rest (behind (nested a b) k) = behind a (behind b k)
there_nested n ts rest (behind (passes h e d a) k) = no refl d

back_nested : (n : ℕ) (ts rest : List ℕ) → Closes (suc (suc n)) ts rest → Closes (suc n) (40 ∷ 58 ∷ ts) rest
back_nested n ts rest (behind a (behind b k)) = behind (nested a b) k

opens_one : (n : ℕ) (ts : List ℕ) → Same (suc n) (40 ∷ 58 ∷ ts) (suc (suc n)) ts
opens_one n ts = record { there = λ rest k. there_nested n ts rest k; back = λ rest k. back_nested n ts rest k }

there_over : (n : ℕ) (ts rest : List ℕ) → Closes (suc n) (58 ∷ 41 ∷ ts) rest → Closes n ts rest
there_over n ts rest (behind over k) = k
there_over n ts rest (behind (passes h e d a) k) = no refl e

closes_one : (n : ℕ) (ts : List ℕ) → Same (suc n) (58 ∷ 41 ∷ ts) n ts
closes_one n ts = record { there = λ rest k. there_over n ts rest k; back = λ rest k. behind over k }

stuck : (n : ℕ) (ts rest : List ℕ) → Ends is_plain ts → NotNext 40 ts → NotNext 58 ts → Closes (suc n) ts rest → ⊥
unfolding is_plain
stuck n _ rest e o c (behind over k) = c refl
stuck n _ rest e o c (behind (nested a b) k) = o refl
stuck n (x ∷ ts) rest e o c (behind (passes h f d a) k) =
    no (rw (h, false_from_ne_true (x == 40) (λ s. o (sym (eqb-true x 40 s))), false_from_ne_true (x == 58) (λ s. c (sym (eqb-true x 58 s)))) refl) e

-- the same for a count that is above 0, as the code has it

-- what the code found: what was taken, and what is left
pub run_then : (d : ℕ) (run old now : List ℕ) → 0 < d → old ≡ run ++ now → list_all is_plain run ≡ true → Same d old d now
run_then zero run old now h e a = absurd (omega arith)
run_then (suc n) run old now h e a = rw e (plain_run n run now a)

pub opens : (d : ℕ) (old mid now : List ℕ) → 0 < d → old ≡ 40 ∷ mid → mid ≡ 58 ∷ now → Same d old (d + 1) now
opens zero old mid now h e f = absurd (omega arith)
opens (suc n) old mid now h e f = rw (e, f, add-one) (opens_one n now)

pub open_passes : (d : ℕ) (old mid now : List ℕ) → 0 < d → old ≡ 40 ∷ mid → now ≡ mid → NotNext 58 mid → Same d old d now
open_passes zero old mid now h e f n = absurd (omega arith)
open_passes (suc k) old mid now h e f n = rw (e, f) (lone_open k mid n)

pub closes_last : (d : ℕ) (old mid now : List ℕ) → 0 < d → old ≡ 58 ∷ mid → mid ≡ 41 ∷ now → Same d old (d - 1) now
closes_last zero old mid now h e f = absurd (omega arith)
closes_last (suc n) old mid now h e f = rw (e, f, sub-one) (closes_one n now)

pub colon_passes : (d : ℕ) (old mid now : List ℕ) → 0 < d → old ≡ 58 ∷ mid → now ≡ mid → NotNext 41 mid → Same d old d now
colon_passes zero old mid now h e f n = absurd (omega arith)
colon_passes (suc k) old mid now h e f n = rw (e, f) (lone_colon k mid n)

pub never_closes : (d : ℕ) (ts rest : List ℕ) → 0 < d → Ends is_plain ts → NotNext 40 ts → NotNext 58 ts → Closes d ts rest → ⊥
never_closes zero ts rest h e o c k = absurd (omega arith)
never_closes (suc n) ts rest h e o c k = stuck n ts rest e o c k

one_open : (ts rest : List ℕ) → Closes 1 ts rest → Comment ts rest
one_open ts _ (behind a closed) = a

-- the comment is closed where none is open any more
pub comment_closed : (d : ℕ) (whole now : List ℕ) → Same 1 whole d now → d ≤ 0 → Comment whole now
comment_closed zero whole now s h = one_open whole now (s.back now closed)
comment_closed (suc n) whole now s h = absurd (omega arith)

pub comment_open : (d : ℕ) (whole now : List ℕ) → Same 1 whole d now → ((rest : List ℕ) → Closes d now rest → ⊥) → (rest : List ℕ) → Comment whole rest → ⊥
comment_open d whole now s n rest c = n rest (s.there rest (behind c closed))

-- how long what is left is, where characters were taken
pub shorter_by_one : (c : ℕ) (old new : List ℕ) → old ≡ c ∷ new → length old ≡ length new + 1
shorter_by_one c old new e = let same = ap length e in omega (arith, same)

pub same_length : (new old : List ℕ) → new ≡ old → length new ≡ length old
same_length new old e = ap length e
