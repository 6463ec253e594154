-- White space ends each token.
use Rattle.std.proofs.Common.{◌≡◌, ℕ, List, [], ◌∷◌, ◌++◌, Bool, true, false, not, ◌||◌, ◌&&◌}
use Rattle.std.proofs.Common.{◌==◌, refl, ap, ◌∙◌, arith, length, length-append, ◌+◌, append_assoc}
use Rattle.std.proofs.lemmas.Bool.{eqb-true, and_parts}
use Rattle.std.proofs.lemmas.Str.{encodes-append}
use Rattle.std.specs.Prelude.{encode_utf8_all}
use Rattle.std.specs.List.{list_all, list_any}
use Rattle.xt_names.specs.Classes.{is_in_ranges, is_ncname_text}
use Rattle.xpath_lex.specs.Classes.{is_digit}
use Rattle.xpath_lex.specs.Classes.{is_single, is_double, doubles}
use Rattle.xpath_lex.specs.Gaps.{Gap, none, space}
use Rattle.xpath_lex.specs.Tokens.{IsToken, integer, literal, word, qword, any_local, any_prefix}
use Rattle.xpath_lex.specs.Tokens.{single, double, comment, Longest}
use Rattle.xpath_lex.specs.Readings.{Placed, size, TokenAt}
use Rattle.xpath_lex.specs.declared.lexing.TokenKind.{TokenKind}
use Rattle.xpath_lex.proofs.CharacterFacts.{is_no, among_pairs}
use Rattle.xpath_lex.proofs.KindLemmas.{name_parts}
use Rattle.xt_names.proofs.CharacterLemmas.{space_quote, is_other}
use Rattle.xt_names.specs.Characters.{is_space, is_quote, starts_name, Ends}
use Rattle.xt_names.proofs.BoolLemmas.{no, one_of, not_true}

-- what follows is white space, or nothing follows
abbrev pub Spaced : List ℕ → Type 0
Spaced [] = Unit {0}
Spaced (c ∷ cs) = is_space c ≡ true

-- a class without white space
pub no_space : (p : ℕ → Bool) → p 32 ≡ false → p 9 ≡ false → p 10 ≡ false → p 13 ≡ false
    → (c : ℕ) → is_space c ≡ true → p c ≡ false
unfolding is_space
no_space p a b d e c s =
    one_of (p c ≡ false) ((c == 32 || c == 9) || c == 10) (c == 13)
    (λ h. one_of (p c ≡ false) (c == 32 || c == 9) (c == 10)
    (λ i. one_of (p c ≡ false) (c == 32) (c == 9) (λ j. rw (eqb-true c 32 j) a)
    (λ j. rw (eqb-true c 9 j) b) i) (λ i. rw (eqb-true c 10 i) d) h)
    (λ h. rw (eqb-true c 13 h) e) s

pub space_digit : (c : ℕ) → is_space c ≡ true → is_digit c ≡ false
unfolding is_digit
space_digit = no_space is_digit refl refl refl refl

pub space_start : (c : ℕ) → is_space c ≡ true → starts_name c ≡ false
unfolding starts_name is_in_ranges
space_start = no_space starts_name refl refl refl refl

space_single : (c : ℕ) → is_space c ≡ true → is_single c ≡ false
unfolding is_single
space_single = no_space is_single refl refl refl refl

pub ends_so : (p : ℕ → Bool) → ((c : ℕ) → is_space c ≡ true → p c ≡ false) → (rest : List ℕ)
    → Spaced rest → Ends p rest
ends_so p f [] s = tt
ends_so p f (c ∷ cs) s = f c s

pub not_spaced : {P : Type 0} (c : ℕ) (rest more : List ℕ) → is_space c ≡ false → Spaced rest
    → rest ≡ c ∷ more → P
not_spaced c [] more n s e = absurd (cc)
not_spaced c (d ∷ ds) more n s e = let same : d ≡ c = cc in no (rw same at s) n

-- the second character of a symbol of two is of no class without any of them
pub seconds : (p : ℕ → Bool) (c d : ℕ) (xs : List (ℕ × ℕ)) → list_all (λ s. is_no p s.1) xs ≡ true
    → p d ≡ true → list_any (λ s. c == s.0 && d == s.1) xs ≡ false
seconds p c d [] a h = refl
seconds p c d (x ∷ xs) a h =
    let parts = and_parts (is_no p x.1) (list_all (λ s. is_no p s.1) xs) a in
    let other : (d == x.1) ≡ false = is_other p d x.1 h (not_it parts.0) in
    both (c == x.0) other (seconds p c d xs parts.1 h)
  where
    not_it : {b : Bool} → not b ≡ true → b ≡ false
    not_it {b = true} e = absurd (cc)
    not_it {b = false} e = refl

    both : (a : Bool) {b d : Bool} → b ≡ false → d ≡ false → ((a && b) || d) ≡ false
    both true e f = rw (e, f) refl
    both false e f = f

pub space_double : (c d : ℕ) → is_space d ≡ true → is_double c d ≡ false
unfolding is_double is_space
space_double c d h = seconds is_space c d doubles refl h

pub start_double : (c d : ℕ) → starts_name d ≡ true → is_double c d ≡ false
unfolding is_double starts_name is_in_ranges
start_double c d h = seconds starts_name c d doubles refl h

-- no token begins with white space
apart : (p : ℕ → Bool) → ((c : ℕ) → is_space c ≡ true → p c ≡ false) → (c : ℕ) → p c ≡ true
    → is_space c ≡ false
apart p f c h = go (is_space c) refl
  where
    go : (b : Bool) → is_space c ≡ b → b ≡ false
    go true e = no h (f c e)
    go false e = refl

double_apart : (c d : ℕ) → is_double c d ≡ true → is_space c ≡ false
unfolding is_double is_space
double_apart c d h = not_true (among_pairs (is_no is_space) c d doubles refl h)

star_apart : is_space 42 ≡ false
unfolding is_space
star_apart = refl

name_apart : (x rest : List ℕ) → is_ncname_text x ≡ true → Ends is_space (x ++ rest)
name_apart x rest h =
    let n = name_parts x h in rw n.is (apart starts_name space_start n.first n.starts)

first_apart : (k : TokenKind) (run rest : List ℕ) → IsToken k run → Ends is_space (run ++ rest)
first_apart k _ rest (integer {c = c} a) =
    apart is_digit space_digit c (and_parts (is_digit c) _ a).0
first_apart k _ rest (literal {c = c} q i) = apart is_quote space_quote c q
first_apart k _ rest (word {x = x} h) = name_apart x rest h
first_apart k _ rest (qword x y h i) =
    rw append_assoc (name_apart x (58 ∷ y ++ rest) h)
first_apart k _ rest (any_local x h) = rw append_assoc (name_apart x (58 ∷ 42 ∷ [] ++ rest) h)
first_apart k _ rest (any_prefix h) = star_apart
first_apart k _ rest (single {c = c} h) = apart is_single space_single c h
first_apart k _ rest (double {c = c} {d = d} h) = double_apart c d h

gap_of : (gap here : List ℕ) → list_all is_space gap ≡ true → Gap false (gap ++ here) false here
gap_of [] here a = none
gap_of (c ∷ gap) here a =
    let parts = and_parts (is_space c) _ a in space parts.0 (gap_of gap here parts.1)

size_of : (xs ys : List ℕ) → size (xs ++ ys) ≡ size xs + size ys
unfolding size
size_of xs ys = ap length (encodes-append xs ys)
    ∙ length-append (encode_utf8_all xs) (encode_utf8_all ys)

abbrev pub placed : TokenKind → List ℕ → List ℕ → Placed
placed k gap run = record {
  kind = k;
  characters = run;
  from = size gap;
  to = size gap + size run;
}

-- after white space the longest token comes next
pub comes : (k : TokenKind) (gap run rest : List ℕ) → list_all is_space gap ≡ true
    → Longest false (run ++ rest) k run rest
    → TokenAt (size (gap ++ (run ++ rest))) false (gap ++ (run ++ rest)) (placed k gap run) rest
comes k gap run rest a l =
    let whole = size_of gap (run ++ rest) in
    let part = size_of run rest in
    record {
      after = false;
      here = run ++ rest;
      gap = gap_of gap (run ++ rest) a;
      stops = record {
        no_space = first_apart k run rest l.begins.is_token;
        no_comment = λ inside more e c. l.begins.allowed (rw e comment);
      };
      longest = l;
      from = omega (arith, whole);
      to = omega (arith, whole, part);
    }
