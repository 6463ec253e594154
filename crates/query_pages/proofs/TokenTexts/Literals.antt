-- Literals are read back as what they say.
use Rattle.std.proofs.Common.{◌≡◌, ℕ, List, [], ◌∷◌, ◌++◌, true, false, ◌==◌}
use Rattle.std.proofs.Common.{Option, Some, None, refl, sym, ap, ◌∙◌, codes, subst, append_assoc}
use Rattle.std.proofs.lemmas.Bool.{and_parts, eqb-true}
use Rattle.std.proofs.lemmas.List.{append_cancel_right}
use Rattle.std.specs.List.{list_all}
use Rattle.xt_names.specs.Classes.{is_in_ranges}
use Rattle.xpath_lex.specs.Classes.{is_digit}
use Rattle.xpath_lex.specs.Runs.{is_inside, literal_rest}
use Rattle.xpath_lex.specs.Tokens.{Longest}
use Rattle.xpath_lex.specs.declared.lexing.TokenKind.TheVariants.{Literal}
use Rattle.xpath_lex.proofs.QuoteLemmas.{rest_run, rest_closes, rest_goes_on, rest_done}
use Rattle.xpath_lex.proofs.PartLemmas.{literal_taken}
use Rattle.expr_tokens.specs.Literals.{within_quotes, unquoted}
use Rattle.query_pieces.specs.References.{reference_at, digit, value}
use Rattle.query_pieces.specs.Literals.{is_said, Says, over, itself as stands, reference}
use Rattle.query_pages.specs.TokenTexts.Spellings.{said_text, said_texts, literal_text}
use Rattle.query_pages.proofs.TokenTexts.Spaces.{Spaced}
use Rattle.xt_names.proofs.BoolLemmas.{either, no}
use Rattle.xt_names.specs.Characters.{is_space, is_char, is_quote, is_name_char, NotNext}

amp_inside : list_all (is_inside 34) (codes "&amp;") ≡ true
unfolding is_inside is_char is_in_ranges
amp_inside = refl

return_inside : list_all (is_inside 34) (codes "&#13;") ≡ true
unfolding is_inside is_char is_in_ranges
return_inside = refl

one_inside : (c : ℕ) → is_char c ≡ true → (c == 34) ≡ false
    → list_all (is_inside 34) (c ∷ []) ≡ true
unfolding is_inside
one_inside c h n = rw (h, n) refl

-- the quote after the text closes the literal
said_closes : (cs rest : List ℕ) (best : Option (List ℕ)) → list_all is_char cs ≡ true
    → NotNext 34 rest
    → literal_rest 34 false (said_texts cs ++ 34 ∷ rest) best ≡ Some rest
said_closes [] rest best a n = rest_closes 34 rest best ∙ rest_done 34 rest (Some rest) n
said_closes (c ∷ cs) rest best a n =
    go (λ b. said_closes cs rest b (and_parts (is_char c) (list_all is_char cs) a).1 n)
  where
    more : List ℕ
    more = said_texts cs ++ 34 ∷ rest

    passed : (run : List ℕ) → list_all (is_inside 34) run ≡ true
        → ((b : Option (List ℕ)) → literal_rest 34 false (said_texts cs ++ 34 ∷ rest) b
        ≡ Some rest)
        → literal_rest 34 false ((run ++ said_texts cs) ++ 34 ∷ rest) best ≡ Some rest
    passed run i h = ap (λ ts. literal_rest 34 false ts best)
        (append_assoc run (said_texts cs) (34 ∷ rest))
        ∙ rest_run 34 run (said_texts cs ++ 34 ∷ rest) best i ∙ h best

    doubled : ((b : Option (List ℕ)) → literal_rest 34 false (said_texts cs ++ 34 ∷ rest) b
        ≡ Some rest)
        → literal_rest 34 false (34 ∷ 34 ∷ (said_texts cs ++ 34 ∷ rest)) best ≡ Some rest
    doubled h = rest_closes 34 (34 ∷ (said_texts cs ++ 34 ∷ rest)) best
        ∙ rest_goes_on 34 (said_texts cs ++ 34 ∷ rest)
        (Some (34 ∷ (said_texts cs ++ 34 ∷ rest))) ∙ h _

    go : ((b : Option (List ℕ)) → literal_rest 34 false (said_texts cs ++ 34 ∷ rest) b
        ≡ Some rest)
        → literal_rest 34 false ((said_text c ++ said_texts cs) ++ 34 ∷ rest) best ≡ Some rest
    go h = either (c == 34) (λ e. rw e (doubled h))
        (λ n. either (c == 38) (λ e. rw (n, e) (passed (codes "&amp;") amp_inside h))
        (λ m. either (c == 13) (λ e. rw (n, m, e) (passed (codes "&#13;") return_inside h))
        (λ o. rw (n, m, o) (passed (c ∷ []) (one_inside c
        (and_parts (is_char c) (list_all is_char cs) a).0 n) h))))

quote_is : is_quote 34 ≡ true
unfolding is_quote
quote_is = refl

quote_no_space : is_space 34 ≡ false
unfolding is_space
quote_no_space = refl

quote_spaced : (rest : List ℕ) → Spaced rest → NotNext 34 rest
quote_spaced [] s = tt
quote_spaced (c ∷ cs) s = λ e. no (rw (← e) at s) quote_no_space

pub literal_longest : (cs rest : List ℕ) → list_all is_char cs ≡ true → Spaced rest
    → Longest false (literal_text cs ++ rest) Literal (literal_text cs) rest
literal_longest cs rest a s =
    let old : List ℕ = literal_text cs ++ rest in
    let ts : List ℕ = said_texts cs ++ 34 ∷ rest in
    let split : old ≡ 34 ∷ ts = ap (λ x. 34 ∷ x) (append_assoc (said_texts cs) (34 ∷ []) rest) in
    let closed = said_closes cs rest None a (quote_spaced rest s) in
    let taken = literal_taken 34 old ts rest split quote_is (sym closed) false in
    let same : taken.0 ≡ literal_text cs =
    append_cancel_right taken.0 (literal_text cs) rest (sym taken.1.begins.parts) in
    subst (λ run. Longest false old Literal run rest) same taken.1

amp_back : (more : List ℕ) → reference_at (codes "amp;" ++ more) ≡ Some (38, more)
unfolding is_name_char is_in_ranges
amp_back more = refl

return_back : (more : List ℕ) → reference_at (codes "#13;" ++ more) ≡ Some (13, more)
unfolding is_digit digit value is_char is_in_ranges
return_back more = refl

abbrev within : List ℕ → List ℕ
within ts = within_quotes (Some 34) false ts

-- what is between the quotes, each doubled one single again
within_says : (cs : List ℕ) → Says (within (said_texts cs ++ 34 ∷ [])) cs
unfolding within_quotes is_said
within_says [] = over
within_says (c ∷ cs) = go (within_says cs)
  where
    itself_said : (c == 34) ≡ false → (c == 38) ≡ false → (c == 13) ≡ false
        → Says (within (said_texts cs ++ 34 ∷ [])) cs
        → Says (within ((c ∷ said_texts cs) ++ 34 ∷ [])) (c ∷ cs)
    itself_said n m o h = rw n (stands {c = c} (rw (m, o) refl) h)

    go : Says (within (said_texts cs ++ 34 ∷ [])) cs
        → Says (within ((said_text c ++ said_texts cs) ++ 34 ∷ [])) (c ∷ cs)
    go h = either (c == 34) (λ e. (let same : c ≡ 34 = eqb-true c 34 e in
        rw same (stands refl h)))
        (λ n. either (c == 38) (λ e. (let same : c ≡ 38 = eqb-true c 38 e in
        rw same (reference (amp_back (within (said_texts cs ++ 34 ∷ []))) h)))
        (λ m. either (c == 13) (λ e. (let same : c ≡ 13 = eqb-true c 13 e in
        rw same (reference (return_back (within (said_texts cs ++ 34 ∷ []))) h)))
        (λ o. rw (n, m, o) (itself_said n m o h))))

pub literal_says : (cs : List ℕ) → Says (unquoted (literal_text cs)) cs
unfolding unquoted within_quotes
literal_says cs = within_says cs
