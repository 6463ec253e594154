-- What literals say is of characters of XML.
use Rattle.std.proofs.Common.{◌≡◌, ◌≤◌, ℕ, List, [], ◌∷◌, ◌++◌, length, Bool, true, false, cond}
use Rattle.std.proofs.Common.{◌==◌, Option, Some, None, codes, refl, sym, subst}
use Rattle.std.proofs.Common.{inl, inr, arith}
use Rattle.std.proofs.lemmas.Bool.{and_parts, and_from, eqb-true, or_cases}
use Rattle.std.proofs.lemmas.Option.{same_Some, none-some}
use Rattle.std.specs.List.{list_all}
use Rattle.std.specs.Str.{bytes_eq}
use Rattle.xt_names.specs.Classes.{is_xml_text, is_in_ranges}
use Rattle.xpath_lex.specs.Tokens.{Quoted, closes, doubled, passes, IsToken, literal}
use Rattle.xpath_lex.specs.declared.lexing.TokenKind.TheVariants.{Literal}
use Rattle.expr_tokens.specs.Literals.{piece, next_quote, next_doubling, within_quotes, unquoted}
use Rattle.query_pieces.specs.Fronts.{run_of, rest_of, eaten}
use Rattle.query_pieces.specs.Literals.{Says, over, itself, reference, line, return}
use Rattle.query_pieces.specs.References.{entity, char_of, numbered}
use Rattle.query_pieces.specs.References.{value, is_digit_of, closed, entity_at, number_at}
use Rattle.query_pieces.specs.References.{number_from, reference_from, reference_at}
use Rattle.xt_names.specs.Characters.{is_char, is_name_char, is_quote}
use Rattle.xt_names.proofs.BoolLemmas.{either}

abbrev pub all_chars : List ℕ → Bool
all_chars cs = list_all is_char cs

pub chars_text : (cs : List ℕ) → all_chars cs ≡ true → is_xml_text cs ≡ true
unfolding is_xml_text is_char
chars_text cs h = h

-- what is left after what is taken
rest_chars : (p : ℕ → Bool) (ts : List ℕ) → all_chars ts ≡ true → all_chars (rest_of p ts) ≡ true
rest_chars p [] h = refl
rest_chars p (c ∷ ts) h =
    either (p c) (λ e. rw e (rest_chars p ts (and_parts (is_char c) (all_chars ts) h).1))
    (λ e. rw e h)

eaten_chars : (c : ℕ) (ts more : List ℕ) → all_chars ts ≡ true → eaten c ts ≡ Some more
    → all_chars more ≡ true
eaten_chars c [] more h e = absurd (none-some _ e)
eaten_chars c (d ∷ ts) more h e =
    either (d == c)
    (λ i. (let same : Some ts ≡ Some more = rw i at e in
    subst (λ xs. all_chars xs ≡ true) (same_Some _ _ same)
    (and_parts (is_char d) (all_chars ts) h).1))
    (λ i. (let none : None ≡ Some more = rw i at e in absurd (none-some _ none)))

-- a reference is a character
char_fits : (n : ℕ) (c : ℕ) → char_of n ≡ Some c → is_char c ≡ true
char_fits n c e =
    either (is_char n)
    (λ i. (let same : Some n ≡ Some c = rw i at e in
    subst (λ x. is_char x ≡ true) (same_Some _ _ same) i))
    (λ i. (let none : None ≡ Some c = rw i at e in absurd (none-some _ none)))

numbered_fits : (base : _) (ts : List ℕ) (c : ℕ) → numbered base ts ≡ Some c
    → is_char c ≡ true
numbered_fits base [] c e = absurd (none-some _ e)
numbered_fits base (d ∷ ts) c e = char_fits (value base 0 (d ∷ ts)) c e

-- one of the five
entity_fits : (name : List ℕ) (c : ℕ) → entity name ≡ Some c → is_char c ≡ true
unfolding is_char is_in_ranges
entity_fits name c e = go (bytes_eq name (codes "lt")) (bytes_eq name (codes "gt"))
    (bytes_eq name (codes "amp")) (bytes_eq name (codes "quot")) (bytes_eq name (codes "apos")) e
  where
    go : (l g a q p : Bool) → cond l (Some 60) (cond g (Some 62) (cond a (Some 38)
        (cond q (Some 34) (cond p (Some 39) None)))) ≡ Some c → is_char c ≡ true
    go true g a q p h = subst (λ x. is_char x ≡ true) (same_Some _ _ h) refl
    go false true a q p h = subst (λ x. is_char x ≡ true) (same_Some _ _ h) refl
    go false false true q p h = subst (λ x. is_char x ≡ true) (same_Some _ _ h) refl
    go false false false true p h = subst (λ x. is_char x ≡ true) (same_Some _ _ h) refl
    go false false false false true h = subst (λ x. is_char x ≡ true) (same_Some _ _ h) refl
    go false false false false false h = absurd (none-some _ h)

pub record IsReferred (ts : List ℕ) (r : ℕ × List ℕ) : Type 0 where
  pub char : is_char r.0 ≡ true
  pub rest : all_chars ts ≡ true → all_chars r.1 ≡ true

closed_fits : (ts : List ℕ) (a : Option ℕ) (o : Option (List ℕ)) (r : ℕ × List ℕ)
    → ((c : ℕ) → a ≡ Some c → is_char c ≡ true)
    → ((more : List ℕ) → o ≡ Some more → all_chars ts ≡ true → all_chars more ≡ true)
    → closed a o ≡ Some r → IsReferred ts r
closed_fits ts (Some c) (Some more) r f g e =
    subst (IsReferred ts) (same_Some _ _ e) (record { char = f c refl; rest = g more refl })
closed_fits ts (Some c) None r f g e = absurd (none-some _ e)
closed_fits ts None o r f g e = absurd (none-some _ e)

entity_referred : (ts : List ℕ) (r : ℕ × List ℕ) → entity_at ts ≡ Some r → IsReferred ts r
entity_referred ts r e =
    closed_fits ts (entity (run_of is_name_char ts)) (eaten 59 (rest_of is_name_char ts)) r
    (λ c h. entity_fits (run_of is_name_char ts) c h)
    (λ more h a. eaten_chars 59 (rest_of is_name_char ts) more (rest_chars is_name_char ts a) h) e

number_referred : (base : _) (ts : List ℕ) (r : ℕ × List ℕ) → number_at base ts ≡ Some r
    → IsReferred ts r
number_referred base ts r e =
    closed_fits ts (numbered base (run_of (is_digit_of base) ts))
    (eaten 59 (rest_of (is_digit_of base) ts)) r
    (λ c h. numbered_fits base (run_of (is_digit_of base) ts) c h)
    (λ more h a. eaten_chars 59 (rest_of (is_digit_of base) ts) more
    (rest_chars (is_digit_of base) ts a) h) e

further : (ts more : List ℕ) (c : ℕ) (r : ℕ × List ℕ) → eaten c ts ≡ Some more
    → IsReferred more r → IsReferred ts r
further ts more c r e f = record {
  char = f.char;
  rest = λ a. f.rest (eaten_chars c ts more a e);
}

number_from_referred : (ts : List ℕ) (o : Option (List ℕ)) (r : ℕ × List ℕ) → eaten 120 ts ≡ o
    → number_from o ts ≡ Some r → IsReferred ts r
number_from_referred ts None r o e = search (number_referred, e)
number_from_referred ts (Some more) r o e =
    further ts more 120 r o (search (number_referred, e))

reference_from_referred : (ts : List ℕ) (o : Option (List ℕ)) (r : ℕ × List ℕ)
    → eaten 35 ts ≡ o → reference_from o ts ≡ Some r → IsReferred ts r
reference_from_referred ts None r o e = entity_referred ts r e
reference_from_referred ts (Some more) r o e =
    further ts more 35 r o (number_from_referred more (eaten 120 more) r refl e)

pub referred : (ts : List ℕ) (r : ℕ × List ℕ) → reference_at ts ≡ Some r → IsReferred ts r
referred ts r e = reference_from_referred ts (eaten 35 ts) r refl e

-- literals
pub quoted_chars : (q : ℕ) (cs : List ℕ) → is_char q ≡ true → Quoted q cs → all_chars cs ≡ true
quoted_chars q _ h closes = rw h refl
quoted_chars q _ h (doubled {cs = cs} x) = rw (h, quoted_chars q cs h x) refl
quoted_chars q _ h (passes {cs = cs} c e x) = rw (c, quoted_chars q cs h x) refl

pub append_chars : (xs ys : List ℕ) → all_chars xs ≡ true → all_chars ys ≡ true
    → all_chars (xs ++ ys) ≡ true
append_chars [] ys h i = i
append_chars (x ∷ xs) ys h i =
    let a = and_parts (is_char x) (all_chars xs) h in
    and_from (is_char x) _ a.0 (append_chars xs ys a.1 i)

pub piece_chars : (q : Option ℕ) (d : Bool) (c : ℕ) → is_char c ≡ true
    → all_chars (piece q d c) ≡ true
piece_chars None d c h = refl
piece_chars (Some q) true c h = rw h refl
piece_chars (Some q) false c h = either (c == q) (λ e. rw e refl) (λ e. rw (e, h) refl)

pub within_chars : (q : Option ℕ) (d : Bool) (cs : List ℕ) → all_chars cs ≡ true
    → all_chars (within_quotes q d cs) ≡ true
unfolding within_quotes
within_chars q d [] h = refl
within_chars q d (c ∷ cs) h =
    let a = and_parts (is_char c) (all_chars cs) h in
    append_chars (piece q d c) _ (piece_chars q d c a.0)
    (within_chars (next_quote q c) (next_doubling q d c) cs a.1)

pub quote_char : (c : ℕ) → is_quote c ≡ true → is_char c ≡ true
unfolding is_quote is_char is_in_ranges
quote_char c h = elim (or_cases (c == 34) (c == 39) h) [
  | inl a ↦ subst (λ x. is_char x ≡ true) (sym (eqb-true c 34 a)) refl
  | inr b ↦ subst (λ x. is_char x ≡ true) (sym (eqb-true c 39 b)) refl
]

pub unquoted_chars : (cs : List ℕ) → IsToken Literal cs → all_chars (unquoted cs) ≡ true
unfolding unquoted
unquoted_chars _ (literal {c = c} {cs = cs} q x) =
    let h = quote_char c q in
    within_chars None false (c ∷ cs) (and_from (is_char c) _ h (quoted_chars c cs h x))

feed : is_char 10 ≡ true
unfolding is_char is_in_ranges
feed = refl

said_chars : (ts said : List ℕ) → Says ts said → all_chars ts ≡ true → all_chars said ≡ true
said_chars _ _ over h = refl
said_chars _ _ (itself {c = c} {ts = ts} {said = said} e s) h =
    let a = and_parts (is_char c) (all_chars ts) h in
    and_from (is_char c) _ a.0 (said_chars ts said s a.1)
said_chars _ _ (reference {c = c} {ts = ts} {rest = rest} {said = said} e s) h =
    let a = and_parts (is_char 38) (all_chars ts) h in
    let r = referred ts (c, rest) e in
    and_from (is_char c) _ r.char (said_chars rest said s (r.rest a.1))
said_chars _ _ (line {ts = ts} {said = said} s) h =
    let a = and_parts (is_char 13) (all_chars (10 ∷ ts)) h in
    let b = and_parts (is_char 10) (all_chars ts) a.1 in
    and_from (is_char 10) _ feed (said_chars ts said s b.1)
said_chars _ _ (return {ts = ts} {said = said} n s) h =
    let a = and_parts (is_char 13) (all_chars ts) h in
    and_from (is_char 10) _ feed (said_chars ts said s a.1)

pub literal_sound : (cs said : List ℕ) → IsToken Literal cs → Says (unquoted cs) said
    → is_xml_text said ≡ true
literal_sound cs said i s =
    chars_text said (said_chars (unquoted cs) said s (unquoted_chars cs i))

pub literal_some : (cs : List ℕ) → IsToken Literal cs → 1 ≤ length cs
literal_some _ (literal q x) = omega arith
