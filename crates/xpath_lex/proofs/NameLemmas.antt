-- The longest tokens that begin with a digit or a name.
use Rattle.std.proofs.Common.{◌≡◌, ℕ, suc, ◌+◌, ◌≤◌, List, [], ◌∷◌, ◌++◌, length, length-append, append_assoc, Bool, true, false, ◌==◌, refl, sym, ap, ◌∙◌, arith}
use Rattle.std.proofs.lemmas.Bool.{and_parts}
use Rattle.std.specs.List.{list_all}
use Rattle.xt_names.specs.Classes.{is_ncname_text}
use Rattle.xpath_lex.specs.Classes.{is_digit}
use Rattle.xpath_lex.specs.Tokens.{IsToken, integer, literal, word, qword, any_local, any_prefix, single, double, Decimal, more, point, Barred, comment, name, decimal, Begins, Longest}
use Rattle.xpath_lex.specs.declared.lexing.TokenKind.{TokenKind}
use Rattle.xpath_lex.specs.declared.lexing.TokenKind.TheVariants.{Integer, Literal, Word, QWord, AnyLocal, AnyPrefix, Symbol}
use Rattle.xpath_lex.proofs.CharacterFacts.{name_digit, name_quote, digit_name, digit_quote, double_digit, double_name, star_digit, star_name, point_digit, point_name, open_digit, open_name}
use Rattle.xpath_lex.proofs.KindLemmas.{name_parts, all_name}
use Rattle.xpath_lex.proofs.RunLemmas.{first_same, rest_same, run_bound, run_same}
use Rattle.xt_names.specs.Characters.{starts_name, is_name_char, Ends}
use Rattle.xt_names.proofs.BoolLemmas.{no}
use Rattle.xt_names.proofs.CharacterLemmas.{itself, is_other, colon_name}

-- a name begins the text only where its first character starts one
pub no_name : {P : Type 0} (c : ℕ) (x ts less : List ℕ) → c ∷ ts ≡ x ++ less → is_ncname_text x ≡ true → is_digit c ≡ true → P
no_name c x ts less s h d =
    let n = name_parts x h in
    let whole : c ∷ ts ≡ n.first ∷ (n.others ++ less) = s ∙ ap (λ v. v ++ less) n.is in
    no (rw (first_same whole) at d) (name_digit n.first n.starts)

-- no name begins where none starts, nor with a star
pub no_local : {P : Type 0} (y less : List ℕ) → Ends starts_name (y ++ less) → is_ncname_text y ≡ true → P
no_local y less e f =
    let n = name_parts y f in
    let at : Ends starts_name (n.first ∷ (n.others ++ less)) = rw n.is at e in no n.starts at

pub no_star : {P : Type 0} (y less rest : List ℕ) → 42 ∷ rest ≡ y ++ less → is_ncname_text y ≡ true → P
no_star y less rest s f =
    let n = name_parts y f in
    let first : 42 ≡ n.first = first_same (s ∙ ap (λ v. v ++ less) n.is) in no n.starts (rw (← first) star_name)

-- digits

-- after digits stands no point with a digit
abbrev pub NoFraction : List ℕ → Type 0
NoFraction rest = (d : ℕ) (more : List ℕ) → rest ≡ 46 ∷ d ∷ more → is_digit d ≡ false

no_decimal : (whole run rest : List ℕ) → whole ≡ run ++ rest → list_all is_digit run ≡ true → Ends is_digit rest → NoFraction rest → Decimal whole → ⊥
no_decimal _ [] [] s a e n (more h d) = cc
no_decimal _ [] (x ∷ xs) s a e n (more h d) = no (rw (first_same s) at h) e
no_decimal _ [] rest s a e n (point h) = no h (n _ _ (sym s))
no_decimal _ (c ∷ run) rest s a e n (more h d) = no_decimal _ run rest (rest_same s) (and_parts (is_digit c) _ a).1 e n d
no_decimal _ (c ∷ run) rest s a e n (point h) = no (rw (← (first_same s)) at ((and_parts (is_digit c) _ a).0)) point_digit

digits_allowed : (b : Bool) (c : ℕ) (ts : List ℕ) → is_digit c ≡ true → (Decimal (c ∷ ts) → ⊥) → Barred b (c ∷ ts) → ⊥
digits_allowed b _ _ h n comment = no h open_digit
digits_allowed b c _ h n (name s) = no s (digit_name c h)
digits_allowed b c ts h n (decimal d) = n d

digits_bound : (c : ℕ) (run rest : List ℕ) → list_all is_digit (c ∷ run) ≡ true → Ends is_digit rest
    → (k : TokenKind) (other less : List ℕ) → IsToken k other → c ∷ (run ++ rest) ≡ other ++ less → length other ≤ length (c ∷ run)
digits_bound c run rest a e Integer _ less (integer {c = d} {cs = ds} b) s = run_bound is_digit (c ∷ run) (d ∷ ds) rest less s b e
digits_bound c run rest a e Literal _ less (literal q k) s = no q (digit_quote _ (rw (first_same s) at ((and_parts (is_digit c) _ a).0)))
digits_bound c run rest a e Word x less (word h) s = no_name c x (run ++ rest) less s h (and_parts (is_digit c) _ a).0
digits_bound c run rest a e QWord _ less (qword x y h g) s = no_name c x (run ++ rest) (58 ∷ y ++ less) (s ∙ append_assoc x (58 ∷ y) less) h (and_parts (is_digit c) _ a).0
digits_bound c run rest a e AnyLocal _ less (any_local x h) s = no_name c x (run ++ rest) (58 ∷ 42 ∷ less) (s ∙ append_assoc x (58 ∷ 42 ∷ []) less) h (and_parts (is_digit c) _ a).0
digits_bound c run rest a e AnyPrefix _ less (any_prefix h) s = no (rw (first_same s) at ((and_parts (is_digit c) _ a).0)) star_digit
digits_bound c run rest a e Symbol _ less (single h) s = omega arith
digits_bound c run rest a e Symbol _ less (double {c = d} {d = f} h) s = no (rw (first_same s) at ((and_parts (is_digit c) _ a).0)) (double_digit d f h)

pub digits_longest : (b : Bool) (c : ℕ) (run rest : List ℕ) → list_all is_digit (c ∷ run) ≡ true → Ends is_digit rest → NoFraction rest → Longest b ((c ∷ run) ++ rest) Integer (c ∷ run) rest
digits_longest b c run rest a e n = record {
  begins = record {
    allowed = digits_allowed b c (run ++ rest) (and_parts (is_digit c) _ a).0 (no_decimal _ (c ∷ run) rest refl a e n);
    is_token = integer a;
    parts = refl;
  };
  longest = λ k other less g. digits_bound c run rest a e k other less g.is_token g.parts;
}

-- names

-- a number with a point begins with a digit or a point
decimal_first : (c : ℕ) (ts : List ℕ) → is_digit c ≡ false → (c == 46) ≡ false → Decimal (c ∷ ts) → ⊥
decimal_first c ts h p (more d k) = no d h
decimal_first _ _ h p (point d) = no (itself 46) p

pub names_allowed : (c : ℕ) (ts : List ℕ) → starts_name c ≡ true → Barred false (c ∷ ts) → ⊥
names_allowed _ _ h comment = no h open_name
names_allowed c ts h (decimal d) = decimal_first c ts (name_digit c h) (is_other starts_name c 46 h point_name) d

pub local_size : (x y : List ℕ) → length (x ++ 58 ∷ y) ≡ length x + suc (length y)
local_size x y = length-append x (58 ∷ y)

pub names_bound : (run mid : List ℕ) (bound : ℕ) → is_ncname_text run ≡ true → Ends is_name_char mid → length run ≤ bound
    → ((y less : List ℕ) → mid ≡ 58 ∷ (y ++ less) → is_ncname_text y ≡ true → length run + suc (length y) ≤ bound)
    → ((less : List ℕ) → mid ≡ 58 ∷ 42 ∷ less → length run + 2 ≤ bound)
    → (k : TokenKind) (other less : List ℕ) → IsToken k other → run ++ mid ≡ other ++ less → length other ≤ bound
names_bound run mid bound h e b p q Integer _ less (integer {c = d} {cs = ds} a) s =
    let n = name_parts run h in
    let first : n.first ≡ d = first_same (ap (λ v. v ++ mid) (sym n.is) ∙ s) in
    no (rw (← first) at ((and_parts (is_digit d) _ a).0)) (name_digit n.first n.starts)
names_bound run mid bound h e b p q Literal _ less (literal {c = d} {cs = ds} a k) s =
    let n = name_parts run h in
    let first : n.first ≡ d = first_same (ap (λ v. v ++ mid) (sym n.is) ∙ s) in
    no (rw (← first) at a) (name_quote n.first n.starts)
names_bound run mid bound h e b p q Word x less (word g) s =
    let le = run_bound is_name_char run x mid less s (all_name x g) e in omega (arith, le)
names_bound run mid bound h e b p q QWord _ less (qword x y g f) s =
    let same = run_same is_name_char run x mid (58 ∷ y ++ less) (s ∙ append_assoc x (58 ∷ y) less) (all_name run h) e (all_name x g) colon_name in
    let le = p y less same.1 f in
    let size = local_size x y in
    let long : length run ≡ length x = ap length same.0 in omega (arith, le, size, long)
names_bound run mid bound h e b p q AnyLocal _ less (any_local x g) s =
    let same = run_same is_name_char run x mid (58 ∷ 42 ∷ less) (s ∙ append_assoc x (58 ∷ 42 ∷ []) less) (all_name run h) e (all_name x g) colon_name in
    let le = q less same.1 in
    let size = local_size x (42 ∷ []) in
    let long : length run ≡ length x = ap length same.0 in omega (arith, le, size, long)
names_bound run mid bound h e b p q AnyPrefix _ less (any_prefix g) s =
    let n = name_parts run h in
    let first : n.first ≡ 42 = first_same (ap (λ v. v ++ mid) (sym n.is) ∙ s) in
    no n.starts (rw first star_name)
names_bound run mid bound h e b p q Symbol _ less (single g) s =
    let n = name_parts run h in
    let long : length run ≡ suc (length n.others) = ap length n.is in omega (arith, long, b)
names_bound run mid bound h e b p q Symbol _ less (double {c = d} {d = f} g) s =
    let n = name_parts run h in
    let first : n.first ≡ d = first_same (ap (λ v. v ++ mid) (sym n.is) ∙ s) in
    no n.starts (rw first (double_name d f g))

-- a name that no colon joins to anything
name_begins : (k : TokenKind) (run whole rest ts : List ℕ) → is_ncname_text run ≡ true → IsToken k whole → ts ≡ whole ++ rest → (mid : List ℕ) → ts ≡ run ++ mid → Begins false ts k whole rest
name_begins k run whole rest ts h t e mid s =
    let n = name_parts run h in
    let begins : ts ≡ n.first ∷ (n.others ++ mid) = s ∙ ap (λ v. v ++ mid) n.is in
    record { allowed = λ b. names_allowed n.first (n.others ++ mid) n.starts (rw begins at b); is_token = t; parts = e }

pub word_longest : (run mid : List ℕ) → is_ncname_text run ≡ true → Ends is_name_char mid
    → ((z : List ℕ) → mid ≡ 58 ∷ z → Ends starts_name z) → ((z : List ℕ) → mid ≡ 58 ∷ 42 ∷ z → ⊥) → Longest false (run ++ mid) Word run mid
word_longest run mid h e n m = record {
  begins = name_begins Word run run mid (run ++ mid) h (word h) refl mid refl;
  longest = λ k other less g. names_bound run mid (length run) h e (omega arith) (λ y less s f. no_local y less (n (y ++ less) s) f) (λ less s. absurd (m less s)) k other less g.is_token g.parts;
}

pub star_longest : (run rest : List ℕ) → is_ncname_text run ≡ true → Longest false (run ++ 58 ∷ 42 ∷ rest) AnyLocal (run ++ 58 ∷ 42 ∷ []) rest
star_longest run rest h =
    let size : length (run ++ 58 ∷ 42 ∷ []) ≡ length run + 2 = local_size run (42 ∷ []) in
    record {
      begins = name_begins AnyLocal run (run ++ 58 ∷ 42 ∷ []) rest _ h (any_local run h) (sym (append_assoc run (58 ∷ 42 ∷ []) rest)) (58 ∷ 42 ∷ rest) refl;
      longest = λ k other less g. names_bound run (58 ∷ 42 ∷ rest) (length (run ++ 58 ∷ 42 ∷ [])) h colon_name (omega (arith, size))
          (λ y less s f. no_star y less rest (rest_same s) f) (λ less s. omega (arith, size)) k other less g.is_token g.parts;
    }

pub local_longest : (run y rest : List ℕ) → is_ncname_text run ≡ true → is_ncname_text y ≡ true → Ends is_name_char rest → Longest false (run ++ 58 ∷ (y ++ rest)) QWord (run ++ 58 ∷ y) rest
local_longest run y rest h f e =
    let size : length (run ++ 58 ∷ y) ≡ length run + suc (length y) = local_size run y in
    record {
      begins = name_begins QWord run (run ++ 58 ∷ y) rest _ h (qword run y h f) (sym (append_assoc run (58 ∷ y) rest)) (58 ∷ (y ++ rest)) refl;
      longest = λ k other less g. names_bound run (58 ∷ (y ++ rest)) (length (run ++ 58 ∷ y)) h colon_name (omega (arith, size))
          (λ z less s u. (let le = run_bound is_name_char y z rest less (rest_same s) (all_name z u) e in omega (arith, size, le)))
          (λ less s. no_star y rest less (sym (rest_same s)) f) k other less g.is_token g.parts;
    }
