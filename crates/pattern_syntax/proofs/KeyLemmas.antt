-- No pattern begins with `key(` or `id(`.
use Rattle.std.proofs.Common.{◌≡◌, ◌⊎◌, inl, inr, ℕ, true, false, codes, List, [], ◌∷◌}
use Rattle.std.proofs.Common.{Option, Some, None, option_map, option_and_then, refl, sym, subst}
use Rattle.std.proofs.lemmas.Bool.{and_parts, or_cases, false_from_ne_true}
use Rattle.std.proofs.lemmas.Option.{none-some, same_Some}
use Rattle.std.proofs.lemmas.Slice.Eq.{bytes_eq-Decides}
use Rattle.std.specs.Str.{bytes_eq}
use Rattle.xpath_lex.specs.declared.lexing.TokenKind.{TokenKind}
use Rattle.xpath_lex.specs.declared.lexing.TokenKind.TheVariants.{Word, Symbol}
use Rattle.expr_keys.specs.declared.keys.Key.TheVariants.{OpenParen as open_paren}
use Rattle.expr_keys.specs.declared.tokens.Token.{Token}
use Rattle.expr_keys.specs.declared.tokens.Token.TheVariants as token
use Rattle.expr_terms.specs.declared.raws.Raw.{Raw}
use Rattle.expr_keys.specs.declared.productions.Language.TheVariants.{Xpath as xpath}
use Rattle.expr_tokens.specs.Terms.{Written, term_of, terms_of}
use Rattle.expr_grammar.specs.Grammar.{Spells}
use Rattle.xpath_syntax.specs.Spelled.{IsWritten}
use Rattle.pattern_forms.specs.PatternShapes.Shapes.{is_pattern}
use Rattle.pattern_syntax.specs.Readings.{is_key_text, is_open_text, begins_with_key}
use Rattle.pattern_syntax.proofs.CallLemmas.{called, call_is_no_pattern}
use Rattle.xt_names.proofs.BoolLemmas.{never, no as both}

-- both words are names
name_term : (cs : List ℕ) → (bytes_eq cs (codes "key") ≡ true) ⊎ (bytes_eq cs (codes "id") ≡ true)
    → term_of Word cs ≡ Some (token.Name cs)
name_term cs (inl e) = let same : cs ≡ codes "key" = (bytes_eq-Decides cs (codes "key")).0 e in
    subst (λ x. term_of Word x ≡ Some (token.Name x)) (sym same) refl
name_term cs (inr e) = let same : cs ≡ codes "id" = (bytes_eq-Decides cs (codes "id")).0 e in
    subst (λ x. term_of Word x ≡ Some (token.Name x)) (sym same) refl

key_term : (kind : TokenKind) (cs : List ℕ) → is_key_text kind cs ≡ true
    → term_of kind cs ≡ Some (token.Name cs)
key_term Word cs e = name_term cs (or_cases (bytes_eq cs (codes "key")) (bytes_eq cs (codes "id"))
    e)
key_term kind cs e = never e

open_term : (kind : TokenKind) (cs : List ℕ) → is_open_text kind cs ≡ true
    → term_of kind cs ≡ Some (token.Key open_paren)
open_term Symbol cs e = let same : cs ≡ codes "(" = (bytes_eq-Decides cs (codes "(")).0 e in
    subst (λ x. term_of Symbol x ≡ Some (token.Key open_paren)) (sym same) refl
open_term kind cs e = never e

-- the terms begin with the name and `(`
record Begun (us : List Token) : Type 0 where
  name : List ℕ
  rest : List Token
  are : us ≡ called name rest

two_terms : (cs : List ℕ) (o : Option (List Token)) (us : List Token)
    → option_map (λ vs. token.Name cs ∷ vs) (option_map (λ vs. token.Key open_paren ∷ vs) o)
    ≡ Some us → Begun us
two_terms cs None us e = absurd (none-some _ e)
two_terms cs (Some vs) us e = record { name = cs; rest = vs; are = sym (same_Some _ _ e) }

begun_terms : (t u : Written) (ts : List Written) (us : List Token) (cs : List ℕ)
    → term_of t.kind t.characters ≡ Some (token.Name cs)
    → term_of u.kind u.characters ≡ Some (token.Key open_paren)
    → terms_of (t ∷ u ∷ ts) ≡ Some us → Begun us
unfolding terms_of
begun_terms t u ts us cs a b e = two_terms cs (terms_of ts) us (subst (λ x. option_and_then (λ v.
    option_map (λ vs. v ∷ vs) (option_map (λ vs. token.Key open_paren ∷ vs) (terms_of ts))) x
    ≡ Some us) a (subst (λ y. option_and_then (λ v. option_map (λ vs. v ∷ vs) (option_and_then
    (λ w. option_map (λ vs. w ∷ vs) (terms_of ts)) y)) (term_of t.kind t.characters) ≡ Some us) b e))

begun : (ts : List Written) (us : List Token) → begins_with_key ts ≡ true
    → terms_of ts ≡ Some us → Begun us
begun [] us e f = never e
begun (t ∷ []) us e f = never e
begun (t ∷ u ∷ ts) us e f =
    let h = and_parts (is_key_text t.kind t.characters) (is_open_text u.kind u.characters) e in
    begun_terms t u ts us t.characters (key_term t.kind t.characters h.0) (open_term u.kind
    u.characters h.1) f

shapeless_key : (ts : List Written) (raw : Raw) → IsWritten ts raw → begins_with_key ts ≡ true
    → is_pattern raw ≡ false
shapeless_key ts raw w e =
    let b : Begun w.terms = begun ts w.terms e w.are in
    call_is_no_pattern xpath b.name b.rest raw (subst (λ us. Spells xpath us raw) b.are w.spelled)

pub no_key : (ts : List Written) (raw : Raw) → IsWritten ts raw → is_pattern raw ≡ true
    → begins_with_key ts ≡ false
no_key ts raw w p = false_from_ne_true (begins_with_key ts) (λ e. both p (shapeless_key ts raw w e))
