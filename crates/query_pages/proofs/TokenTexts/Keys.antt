-- Keys are the longest tokens, and are found again.
use Rattle.std.proofs.Common.{◌≡◌, ℕ, List, [], ◌∷◌, ◌++◌, true, false, refl, subst}
use Rattle.std.proofs.lemmas.Bool.{false_from_ne_true}
use Rattle.xt_names.specs.Classes.{is_ncname_text, begins_name, is_in_ranges}
use Rattle.xpath_lex.specs.Classes.{is_digit, is_single}
use Rattle.xpath_lex.specs.Classes.{is_double, doubles}
use Rattle.xpath_lex.specs.Runs.{IsMark}
use Rattle.xpath_lex.specs.Tokens.{Longest}
use Rattle.xpath_lex.specs.declared.lexing.TokenKind.TheVariants.{Word, Symbol}
use Rattle.xpath_lex.proofs.CharacterFacts.{single_digit, single_quote, single_name}
use Rattle.xpath_lex.proofs.CharacterFacts.{double_digit, double_quote, double_name}
use Rattle.xpath_lex.proofs.NameLemmas.{word_longest}
use Rattle.xpath_lex.proofs.SymbolLemmas.{single_longest, double_longest}
use Rattle.expr_keys.specs.Keys.{key_text, is_worded}
use Rattle.expr_keys.specs.declared.keys.Key.{Key}
use Rattle.expr_keys.specs.declared.keys.Key.TheVariants as key
use Rattle.query_pages.proofs.TokenTexts.Spaces.{Spaced, not_spaced, ends_so, space_digit}
use Rattle.query_pages.proofs.TokenTexts.Spaces.{space_double, start_double, seconds}
use Rattle.xt_names.specs.Characters.{is_space, is_name_char, starts_name}
use Rattle.xt_names.proofs.BoolLemmas.{no}
use Rattle.xt_names.proofs.CharacterLemmas.{space_name}

pub word_named : (k : Key) → is_worded k ≡ true → is_ncname_text (key_text k) ≡ true
unfolding is_ncname_text begins_name is_in_ranges
word_named key.OpenParen e = cc
word_named _ e = cc

abbrev pub IsSymbol : List ℕ → Type 0
IsSymbol (c ∷ []) = is_single c ≡ true
IsSymbol (c ∷ d ∷ []) = is_double c d ≡ true
IsSymbol _ = ⊥

pub symbol_is : (k : Key) → is_worded k ≡ false → IsSymbol (key_text k)
unfolding is_single is_double
symbol_is key.OpenParen e = refl
symbol_is key.CloseParen e = refl
symbol_is key.OpenBracket e = refl
symbol_is key.CloseBracket e = refl
symbol_is key.OpenBrace e = refl
symbol_is key.CloseBrace e = refl
symbol_is key.Comma e = refl
symbol_is key.Dot e = refl
symbol_is key.Dots e = refl
symbol_is key.Slash e = refl
symbol_is key.Slashes e = refl
symbol_is key.AtSign e = refl
symbol_is key.Colons e = refl
symbol_is key.Bar e = refl
symbol_is key.Plus e = refl
symbol_is key.Minus e = refl
symbol_is key.Star e = refl
symbol_is key.Equal e = refl
symbol_is key.NotEqual e = refl
symbol_is key.Less e = refl
symbol_is key.LessEqual e = refl
symbol_is key.Greater e = refl
symbol_is key.GreaterEqual e = refl
symbol_is key.Before e = refl
symbol_is key.After e = refl
symbol_is key.Dollar e = refl
symbol_is key.Question e = refl
symbol_is key.Semicolon e = refl
symbol_is key.Assign e = refl
symbol_is _ e = absurd (cc)

colon_space : is_space 58 ≡ false
unfolding is_space
colon_space = refl

spaced_first : {P : ℕ → Type 0} (rest : List ℕ) → ((c : ℕ) → is_space c ≡ true → P c)
    → Spaced rest → (d : ℕ) (less : List ℕ) → rest ≡ d ∷ less → P d
spaced_first [] f s d less e = absurd (cc)
spaced_first {P = P} (c ∷ cs) f s d less e = let same : c ≡ d = cc in subst P same (f c s)

second_digit : (c d : ℕ) → is_double c d ≡ true → is_digit d ≡ false
unfolding is_double is_digit
second_digit c d h =
    false_from_ne_true (is_digit d) (λ e. no h (seconds is_digit c d doubles refl e))

no_open : (c d : ℕ) → is_double c d ≡ true → c ≡ 40 → d ≡ 58 → ⊥
unfolding is_double
no_open c d h e f = not_open (subst (λ y. is_double 40 y ≡ true) f
    (subst (λ x. is_double x d ≡ true) e h))
  where
    not_open : is_double 40 58 ≡ true → ⊥
    not_open e = cc

single_mark : (c : ℕ) → is_single c ≡ true → IsMark c
single_mark c h =
    record { digit = single_digit c h; quote = single_quote c h; name = single_name c h }

pub symbol_longest : (cs rest : List ℕ) → IsSymbol cs → Spaced rest
    → Longest false (cs ++ rest) Symbol cs rest
symbol_longest [] rest h s = absurd h
symbol_longest (c ∷ []) rest h s = single_longest false c rest (single_mark c h) h
    (λ z i e. not_spaced 58 rest z colon_space s e)
    (λ d z i e. spaced_first {P = λ x. is_digit x ≡ false} rest space_digit s d z e)
    (λ x less i e n. not_spaced 58 rest (x ++ less) colon_space s e)
    (λ d less e i. no i (spaced_first {P = λ x. is_double c x ≡ false} rest
    (λ x j. space_double c x j) s d less e))
symbol_longest (c ∷ d ∷ []) rest h s = double_longest false c d rest
    (record { digit = double_digit c d h; quote = double_quote c d h; name = double_name c d h })
    h (no_open c d h) (λ e. second_digit c d h)
symbol_longest (c ∷ d ∷ e ∷ cs) rest h s = absurd h

pub word_ends : (x rest : List ℕ) → is_ncname_text x ≡ true → Spaced rest
    → Longest false (x ++ rest) Word x rest
word_ends x rest h s = word_longest x rest h (ends_so is_name_char space_name rest s)
    (λ z e. not_spaced 58 rest z colon_space s e)
    (λ z e. not_spaced 58 rest (42 ∷ z) colon_space s e)

brace_single : is_single 125 ≡ true
unfolding is_single
brace_single = refl

brace_alone : (d : ℕ) → is_double 125 d ≡ true → ⊥
unfolding is_double
brace_alone d e = cc

-- whatever follows
pub brace_longest : (rest : List ℕ) → Longest false (125 ∷ rest) Symbol (125 ∷ []) rest
brace_longest rest = single_longest false 125 rest (single_mark 125 brace_single) brace_single
    (λ z i e. cc) (λ d z i e. cc) (λ x less i e n. cc) (λ d less e i. brace_alone d i)

less_single : is_single 60 ≡ true
unfolding is_single
less_single = refl

-- before a name
pub less_longest : (c : ℕ) (cs : List ℕ) → starts_name c ≡ true
    → Longest false (60 ∷ c ∷ cs) Symbol (60 ∷ []) (c ∷ cs)
less_longest c cs h = single_longest false 60 (c ∷ cs) (single_mark 60 less_single) less_single
    (λ z i e. cc) (λ d z i e. cc) (λ x less i e n. cc)
    (λ d less e i. no i (let same : c ≡ d = cc in start_double 60 d (rw same at h)))
