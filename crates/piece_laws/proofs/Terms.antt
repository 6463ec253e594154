-- The tokens of expressions.
use Rattle.std.proofs.Common.{◌≡◌, ◌≤◌, ℕ, nat_le, List, [], ◌∷◌, ◌++◌, length, true}
use Rattle.std.proofs.Common.{false, Option, Some, None, option_map, refl, sym, subst}
use Rattle.std.proofs.Common.{◌∙◌, arith, length-append}
use Rattle.std.proofs.lemmas.Bool.{and_from, leb-true}
use Rattle.std.proofs.lemmas.Option.{same_Some, none-some}
use Rattle.xt_names.specs.Classes.{is_ncname_text, begins_name}
use Rattle.xpath_lex.specs.Tokens.{IsToken, integer, literal, word, qword, any_local, any_prefix}
use Rattle.xpath_lex.specs.Tokens.{single, double}
use Rattle.xpath_lex.specs.declared.lexing.TokenKind.{TokenKind}
use Rattle.expr_length.specs.Weights.{weigh}
use Rattle.expr_keys.specs.Keys.{key_text}
use Rattle.expr_keys.specs.declared.keys.Key.{Key}
use Rattle.expr_keys.specs.declared.keys.Key.TheVariants as key
use Rattle.expr_keys.specs.declared.tokens.Token.{Token}
use Rattle.expr_keys.specs.declared.tokens.Token.TheVariants as token
use Rattle.expr_tokens.specs.Literals.{number_value}
use Rattle.expr_tokens.specs.Terms.{term_of, word_or_name}
use Rattle.expr_tokens.specs.Words.{key_of_word, key_of_symbol}
use Rattle.expr_tokens.proofs.KeyLemmas.{word_text, symbol_text}
use Rattle.query_pieces.specs.Spellings.{is_literal}
use Rattle.sound_expressions.specs.SoundForms.Sound.{is_sound_token}
use Rattle.piece_laws.proofs.Names.{qname_is, any_local_is, any_prefix_is}
use Rattle.xt_names.proofs.ListLemmas.{some_same}

-- sound, and no heavier than so many characters
pub record Fits (t : Token) (n : ℕ) : Type 0 where
  pub sound : is_sound_token t ≡ true
  pub light : weigh t ≤ n

pub mapped : {A B : Type 0} (f : A → B) (o : Option A) (b : B) → option_map f o ≡ Some b
    → (a : A) × (o ≡ Some a) × (b ≡ f a)
mapped f None b e = absurd (none-some _ e)
mapped f (Some a) b e = (a, refl, sym (same_Some _ _ e))

key_weighs : (k : Key) → nat_le (weigh (token.Key k)) (length (key_text k)) ≡ true
key_weighs key.Slashes = refl
key_weighs _ = refl

key_fits : (k : Key) (cs : List ℕ) → key_text k ≡ cs → Fits (token.Key k) (length cs)
key_fits k cs e = record {
  sound = refl;
  light = subst (λ xs. weigh (token.Key k) ≤ length xs) e (leb-true _ _ (key_weighs k));
}

named_some : (x : List ℕ) → is_ncname_text x ≡ true → 1 ≤ length x
unfolding is_ncname_text begins_name
named_some [] h = absurd cc
named_some (c ∷ cs) h = omega arith

word_fits : (x : List ℕ) (o : Option Key) → is_ncname_text x ≡ true → key_of_word x ≡ o
    → Fits (word_or_name o x) (length x)
word_fits x None h e = record { sound = h; light = named_some x h }
word_fits x (Some k) h e = key_fits k x (word_text k x e)

symbol_fits : (cs : List ℕ) (t : Token) (k : Key) → key_of_symbol cs ≡ Some k → t ≡ token.Key k
    → Fits t (length cs)
symbol_fits cs t k e f = rw f (key_fits k cs (symbol_text k cs e))

parted_some : (x y : List ℕ) (c : ℕ) → 1 ≤ length (x ++ c ∷ y)
parted_some x y c = let e = length-append x (c ∷ y) in omega (arith, e)

pub term_fits : (k : TokenKind) (cs : List ℕ) (t : Token) → IsToken k cs → is_literal k ≡ false
    → term_of k cs ≡ Some t → Fits t (length cs)
term_fits _ _ t (integer {c = c} {cs = cs} h) l e =
    let m = mapped token.Digits (number_value (c ∷ cs)) t e in
    rw m.2 (record { sound = refl; light = omega arith })
term_fits _ _ t (literal q h) l e = absurd cc
term_fits _ _ t (word {x = x} h) l e =
    rw (← (some_same e)) (word_fits x (key_of_word x) h refl)
term_fits _ _ t (qword x y h i) l e =
    let same : t ≡ token.Qname x y = some_same (sym e ∙ qname_is x y h) in
    rw same (record { sound = and_from _ _ h i; light = parted_some x y 58 })
term_fits _ _ t (any_local x h) l e =
    let same : t ≡ token.AnyLocal x = some_same (sym e ∙ any_local_is x h) in
    rw same (record { sound = h; light = parted_some x (42 ∷ []) 58 })
term_fits _ _ t (any_prefix {x = x} h) l e =
    let same : t ≡ token.AnyPrefix x = some_same (sym e ∙ any_prefix_is x) in
    rw same (record { sound = h; light = omega arith })
term_fits _ _ t (single {c = c} h) l e =
    let m = mapped token.Key (key_of_symbol (c ∷ [])) t e in
    symbol_fits (c ∷ []) t m.0 m.1 m.2
term_fits _ _ t (double {c = c} {d = d} h) l e =
    let m = mapped token.Key (key_of_symbol (c ∷ d ∷ [])) t e in
    symbol_fits (c ∷ d ∷ []) t m.0 m.1 m.2
