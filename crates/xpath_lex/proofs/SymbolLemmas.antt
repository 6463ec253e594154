-- The longest tokens that begin with neither a digit, a quote nor a name.
use Rattle.std.proofs.Common.{◌≡◌, ℕ, suc, ◌≤◌, List, [], ◌∷◌, ◌++◌, length, append_assoc, Bool, true, false, ◌==◌, refl, sym, subst, ap, ◌∙◌, arith}
use Rattle.std.proofs.lemmas.Bool.{and_parts}
use Rattle.xt_names.specs.Classes.{is_ncname_text}
use Rattle.xpath_lex.specs.Classes.{is_digit, is_single, is_double}
use Rattle.xpath_lex.specs.Runs.{IsMark}
use Rattle.xpath_lex.specs.Tokens.{Quoted, IsToken, integer, literal, word, qword, any_local, any_prefix, single, double, more, point, Barred, comment, name, decimal, Longest, NoneBegins}
use Rattle.xpath_lex.specs.declared.lexing.TokenKind.{TokenKind}
use Rattle.xpath_lex.specs.declared.lexing.TokenKind.TheVariants.{Integer, Literal, Word, QWord, AnyLocal, AnyPrefix, Symbol}
use Rattle.xpath_lex.proofs.CharacterFacts.{quote_digit, quote_name, single_quote, double_quote, point_quote, open_quote, star_quote, double_star}
use Rattle.xpath_lex.proofs.KindLemmas.{name_parts, all_name}
use Rattle.xpath_lex.proofs.RunLemmas.{first_same, rest_same, run_bound}
use Rattle.xpath_lex.proofs.QuoteLemmas.{LongestQuoted, NoneQuoted}
use Rattle.xt_names.specs.Characters.{starts_name, is_name_char, is_quote, Ends}
use Rattle.xt_names.proofs.BoolLemmas.{no}

-- a name begins with a start
starts_first : {P : Type 0} (c : ℕ) (x ts less : List ℕ) → c ∷ ts ≡ x ++ less → is_ncname_text x ≡ true → starts_name c ≡ false → P
starts_first c x ts less s h f =
    let n = name_parts x h in
    let first : c ≡ n.first = first_same (s ∙ ap (λ v. v ++ less) n.is) in no n.starts (rw (← first) f)

-- literals

quote_allowed : (b : Bool) (c : ℕ) (ts : List ℕ) → is_quote c ≡ true → Barred b (c ∷ ts) → ⊥
quote_allowed b _ _ q comment = no q open_quote
quote_allowed b c ts q (name s) = no s (quote_name c q)
quote_allowed b c ts q (decimal (more d k)) = no d (quote_digit c q)
quote_allowed b _ _ q (decimal (point d)) = no q point_quote

-- a token that begins with a quote is a literal
quote_only : (P : ℕ → Type 0) (c : ℕ) (ts : List ℕ) → is_quote c ≡ true
    → ((other less : List ℕ) → Quoted c other → ts ≡ other ++ less → P (suc (length other)))
    → (k : TokenKind) (other less : List ℕ) → IsToken k other → c ∷ ts ≡ other ++ less → P (length other)
quote_only P c ts q f Integer _ less (integer {c = d} {cs = ds} a) s = no (rw (← (first_same s)) at ((and_parts (is_digit d) _ a).0)) (quote_digit c q)
quote_only P c ts q f Literal _ less (literal {c = d} {cs = ds} a k) s = f ds less (rw (← (first_same s)) at k) (rest_same s)
quote_only P c ts q f Word x less (word h) s = starts_first c x ts less s h (quote_name c q)
quote_only P c ts q f QWord _ less (qword x y h g) s = starts_first c x ts (58 ∷ y ++ less) (s ∙ append_assoc x (58 ∷ y) less) h (quote_name c q)
quote_only P c ts q f AnyLocal _ less (any_local x h) s = starts_first c x ts (58 ∷ 42 ∷ less) (s ∙ append_assoc x (58 ∷ 42 ∷ []) less) h (quote_name c q)
quote_only P c ts q f AnyPrefix _ less (any_prefix h) s = no (rw (first_same s) at q) star_quote
quote_only P c ts q f Symbol _ less (single {c = d} h) s = no (rw (first_same s) at q) (single_quote d h)
quote_only P c ts q f Symbol _ less (double {c = d} {d = e} h) s = no (rw (first_same s) at q) (double_quote d e h)

pub quote_longest : (b : Bool) (c : ℕ) (ts rest : List ℕ) → is_quote c ≡ true → (l : LongestQuoted c ts rest) → Longest b (c ∷ ts) Literal (c ∷ l.run) rest
quote_longest b c ts rest q l = record {
  begins = record { allowed = quote_allowed b c ts q; is_token = literal q l.is_quoted; parts = ap (λ x. c ∷ x) l.parts };
  longest = λ k other less g. quote_only (λ n. n ≤ suc (length l.run)) c ts q (λ x y u e. (let le = l.longest x y u e in omega (arith, le))) k other less g.is_token g.parts;
}

pub quote_none : (b : Bool) (c : ℕ) (ts : List ℕ) → is_quote c ≡ true → NoneQuoted c ts → NoneBegins b (c ∷ ts)
quote_none b c ts q n = λ k run rest g. quote_only (λ n. ⊥) c ts q n k run rest g.is_token g.parts

-- symbols and `*:n`

mark_only : (P : ℕ → Type 0) (c : ℕ) (ts : List ℕ) → IsMark c
    → ((x less : List ℕ) → c ≡ 42 → ts ≡ 58 ∷ (x ++ less) → is_ncname_text x ≡ true → P (suc (suc (length x))))
    → (is_single c ≡ true → P 1)
    → ((d : ℕ) (less : List ℕ) → ts ≡ d ∷ less → is_double c d ≡ true → P 2)
    → (k : TokenKind) (other less : List ℕ) → IsToken k other → c ∷ ts ≡ other ++ less → P (length other)
mark_only P c ts m f g h Integer _ less (integer {c = d} {cs = ds} a) s = no (rw (← (first_same s)) at ((and_parts (is_digit d) _ a).0)) m.digit
mark_only P c ts m f g h Literal _ less (literal {c = d} {cs = ds} a k) s = no (rw (← (first_same s)) at a) m.quote
mark_only P c ts m f g h Word x less (word n) s = starts_first c x ts less s n m.name
mark_only P c ts m f g h QWord _ less (qword x y n e) s = starts_first c x ts (58 ∷ y ++ less) (s ∙ append_assoc x (58 ∷ y) less) n m.name
mark_only P c ts m f g h AnyLocal _ less (any_local x n) s = starts_first c x ts (58 ∷ 42 ∷ less) (s ∙ append_assoc x (58 ∷ 42 ∷ []) less) n m.name
mark_only P c ts m f g h AnyPrefix _ less (any_prefix {x = x} n) s = f x less (first_same s) (rest_same s) n
mark_only P c ts m f g h Symbol _ less (single {c = d} e) s = g (rw (← (first_same s)) at e)
mark_only P c ts m f g h Symbol _ less (double {c = d} {d = b} e) s = h b less (rest_same s) (rw (← (first_same s)) at e)

mark_allowed : (b : Bool) (c : ℕ) (ts : List ℕ) → IsMark c → ((z : List ℕ) → c ≡ 40 → ts ≡ 58 ∷ z → ⊥) → ((d : ℕ) (z : List ℕ) → c ≡ 46 → ts ≡ d ∷ z → is_digit d ≡ false) → Barred b (c ∷ ts) → ⊥
mark_allowed b _ _ m f g comment = f _ refl refl
mark_allowed b c ts m f g (name s) = no s m.name
mark_allowed b c ts m f g (decimal (more d k)) = no d m.digit
mark_allowed b _ _ m f g (decimal (point d)) = no d (g _ _ refl refl)

-- `*:n`
pub prefix_longest : (b : Bool) (x rest : List ℕ) → IsMark 42 → is_ncname_text x ≡ true → Ends is_name_char rest → Longest b (42 ∷ 58 ∷ (x ++ rest)) AnyPrefix (42 ∷ 58 ∷ x) rest
prefix_longest b x rest m h e = record {
  begins = record { allowed = mark_allowed b 42 _ m (λ z s t. cc) (λ d z s t. cc); is_token = any_prefix h; parts = refl };
  longest = λ k other less g. mark_only (λ n. n ≤ suc (suc (length x))) 42 _ m
      (λ y z s t n. (let le = run_bound is_name_char x y rest z (rest_same t) (all_name y n) e in omega (arith, le)))
      (λ s. omega arith) (λ d z t s. omega arith) k other less g.is_token g.parts;
}

-- a symbol of two characters
pub double_longest : (b : Bool) (c d : ℕ) (rest : List ℕ) → IsMark c → is_double c d ≡ true → (c ≡ 40 → d ≡ 58 → ⊥) → (c ≡ 46 → is_digit d ≡ false) → Longest b (c ∷ d ∷ rest) Symbol (c ∷ d ∷ []) rest
double_longest b c d rest m h n p = record {
  begins = record {
    allowed = mark_allowed b c (d ∷ rest) m (λ z s t. n s (first_same t)) (λ e z s t. rw (first_same t) at (p s));
    is_token = double h;
    parts = refl;
  };
  longest = λ k other less g. mark_only (λ n. n ≤ 2) c (d ∷ rest) m
      (λ x z s t f. no (let P : ℕ → Type 0 = λ y. (y == 42) ≡ true in subst P (sym s) refl) (double_star c d h))
      (λ s. omega arith) (λ e z t s. omega arith) k other less g.is_token g.parts;
}

-- a symbol of one character
pub single_longest : (b : Bool) (c : ℕ) (ts : List ℕ) → IsMark c → is_single c ≡ true
    → ((z : List ℕ) → c ≡ 40 → ts ≡ 58 ∷ z → ⊥) → ((d : ℕ) (z : List ℕ) → c ≡ 46 → ts ≡ d ∷ z → is_digit d ≡ false)
    → ((x less : List ℕ) → c ≡ 42 → ts ≡ 58 ∷ (x ++ less) → is_ncname_text x ≡ true → ⊥)
    → ((d : ℕ) (less : List ℕ) → ts ≡ d ∷ less → is_double c d ≡ true → ⊥)
    → Longest b (c ∷ ts) Symbol (c ∷ []) ts
single_longest b c ts m h n p f g = record {
  begins = record { allowed = mark_allowed b c ts m n p; is_token = single h; parts = refl };
  longest = λ k other less t. mark_only (λ n. n ≤ 1) c ts m (λ x z s e v. absurd (f x z s e v)) (λ s. omega arith) (λ d z e s. absurd (g d z e s)) k other less t.is_token t.parts;
}

-- no symbol
pub mark_none : (b : Bool) (c : ℕ) (ts : List ℕ) → IsMark c → is_single c ≡ false
    → ((x less : List ℕ) → c ≡ 42 → ts ≡ 58 ∷ (x ++ less) → is_ncname_text x ≡ true → ⊥)
    → ((d : ℕ) (less : List ℕ) → ts ≡ d ∷ less → is_double c d ≡ true → ⊥)
    → NoneBegins b (c ∷ ts)
mark_none b c ts m h f g = λ k run rest t. mark_only (λ n. ⊥) c ts m f (λ s. no s h) g k run rest t.is_token t.parts
