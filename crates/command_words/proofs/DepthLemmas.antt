-- Numbers that digits spell.
use Rattle.std.proofs.Common.{◌≡◌, ℕ, ◌<◌, ◌≤◌, ◌^◌, List, [], ◌∷◌, length, Bool, true, false, ◌&&◌}
use Rattle.std.proofs.Common.{nat_le, Option, Some, None, Result, Ok, Err, OkIff, if◌then◌else◌}
use Rattle.std.proofs.Common.{refl, ap, arith, rules}
use Rattle.std.proofs.lemmas.Bool.{leb-true}
use Rattle.std.proofs.lemmas.Str.Parse.{IsNumeralModel, numerals_by_fold, tells_all_ascii_digits}
use Rattle.std.proofs.lemmas.Str.Parse.{parse_digits}
use Rattle.std.specs.Char.{is_ascii_digit}
use Rattle.std.specs.List.{list_all}
use Rattle.std.specs.Str.{all_ascii_digits}
use Rattle.std.specs.Str.Parse.{ParsesUnsigned}
use Rattle.command_words.specs.Requests.{number_on, number_of, is_depth}

pub digits_all : (word : List ℕ) → list_all is_ascii_digit word ≡ all_ascii_digits word
digits_all [] = refl
digits_all (c ∷ cs) = ap (λ b. is_ascii_digit c && b) (digits_all cs)

own : IsNumeralModel (λ ds. all_ascii_digits ds ≡ true) (number_on 0)
own = numerals_by_fold _ tells_all_ascii_digits number_on (search rules)

parsed : {E : Type 0} (word : List ℕ) (r : Result ℕ E) → ParsesUnsigned 32 10 word r
    → all_ascii_digits word ≡ true
    → OkIff r ((0 < length word) × (number_of word < 2 ^ 32)) (number_of word)
parsed word r h p = parse_digits own 32 word r h p

-- digits whose number was read
pub depth_read : {E : Type 0} (greatest n : ℕ) (word : List ℕ) (r : Result ℕ E) (o : Option ℕ)
    → ParsesUnsigned 32 10 word r → all_ascii_digits word ≡ true → r ≡ Ok n
    → o ≡ (if nat_le 1 n && nat_le n greatest then Some n else None)
    → o ≡ (if is_depth greatest word then Some (number_of word) else None)
depth_read {E} greatest n word r o h p ok e =
    let q : OkIff {E = E} (Ok n) ((0 < length word) × (number_of word < 2 ^ 32)) (number_of word) =
    rw ok at (parsed word r h p) in
    let same : n ≡ number_of word = q.1 in
    rw (p, ← same) e

ands : (a b c : Bool) → (a && (b && c)) ≡ true → (b ≡ true) × (c ≡ true)
ands true true true e = (refl, refl)
ands true true false e = absurd cc
ands true false c e = absurd cc
ands false b c e = absurd cc

none_then : {A : Type 0} (b : Bool) (x : A) → (b ≡ true → ⊥) → None ≡ (if b then Some x else None)
none_then true x h = absurd (h refl)
none_then false x h = refl

too_large : (greatest : ℕ) (word : List ℕ) → greatest < 2 ^ 32
    → (((0 < length word) × (number_of word < 2 ^ 32)) → ⊥) → is_depth greatest word ≡ true → ⊥
too_large greatest [] small none e = cc
too_large greatest (c ∷ cs) small none e =
    let k = ands (all_ascii_digits (c ∷ cs)) (nat_le 1 (number_of (c ∷ cs))) (nat_le (number_of (c ∷ cs)) greatest) e in
    let low : number_of (c ∷ cs) ≤ greatest = leb-true (number_of (c ∷ cs)) greatest k.1 in
    none (omega arith, omega (arith, low, small))

-- digits whose number was not read
pub depth_unread : {E : Type 0} (greatest : ℕ) (word : List ℕ) (r : Result ℕ E) (fault : E)
    → ParsesUnsigned 32 10 word r → all_ascii_digits word ≡ true → r ≡ Err fault
    → greatest < 2 ^ 32
    → None ≡ (if is_depth greatest word then Some (number_of word) else None)
depth_unread {E} greatest word r fault h p err small =
    let q : OkIff {E = E} (Err fault) ((0 < length word) × (number_of word < 2 ^ 32)) (number_of word) =
    rw err at (parsed word r h p) in
    none_then (is_depth greatest word) (number_of word) (too_large greatest word small q)
