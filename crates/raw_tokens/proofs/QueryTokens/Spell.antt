-- The tokens of a query spell it.
use Rattle.std.proofs.Common.{◌≡◌, true, false, ◌&&◌, codes, List, [], ◌∷◌, ◌++◌, Option}
use Rattle.std.proofs.Common.{Some, None, refl}
use Rattle.std.proofs.lemmas.Bool.{and_parts}
use Rattle.expr_keys.specs.Tokens.{fits_function}
use Rattle.expr_keys.specs.declared.keys.Key.TheVariants as key
use Rattle.expr_keys.specs.declared.tokens.Token.{Token}
use Rattle.expr_keys.specs.declared.tokens.Token.TheVariants as token
use Rattle.expr_terms.specs.declared.raws.Raw.{Raw}
use Rattle.expr_keys.specs.declared.productions.Language.TheVariants.{Xquery as xquery}
use Rattle.expr_keys.specs.declared.productions.Nonterminal.TheVariants as place
use Rattle.query_grammar.specs.declared.declared.Typed.{Typed}
use Rattle.query_grammar.specs.declared.declared.Declared.{Declared}
use Rattle.query_grammar.specs.declared.declared.Declared.TheVariants as declared
use Rattle.query_grammar.specs.declared.declared.RawQuery.{RawQuery}
use Rattle.query_grammar.specs.Prolog.{Cut, here, there, IsTyping, untyped, as_type, IsTyped, typed}
use Rattle.query_grammar.specs.Prolog.{AreParams, last, before, MayBeParams, none, some}
use Rattle.query_grammar.specs.Prolog.{IsSignature, signed, short, outside, valued}
use Rattle.query_grammar.specs.Prolog.{defined, IsDeclaration, opened, IsQuery, body, declares}
use Rattle.query_grammar.specs.Prolog.{SpellsQuery, ordered, is_ordered}
use Rattle.raw_tokens.specs.Tokens.{tokens_of}
use Rattle.raw_tokens.specs.Stands.{is_expr}
use Rattle.raw_tokens.proofs.Derive.{tokens_derive}
use Rattle.raw_tokens.specs.QueryTokens.Tokens.{typing_tokens, typed_tokens, param_tokens}
use Rattle.raw_tokens.specs.QueryTokens.Tokens.{signature_tokens, declared_tokens, prolog_tokens}
use Rattle.raw_tokens.specs.QueryTokens.Tokens.{query_tokens}
use Rattle.raw_tokens.specs.QueryTokens.Stands.{typing_stands, typed_stands, params_stand}
use Rattle.raw_tokens.specs.QueryTokens.Stands.{declared_stands, prolog_stands, is_query}

pub cut : (t : Token) (us rest : List Token) → Cut t rest (us ++ t ∷ rest) us
cut t [] rest = here
cut t (u ∷ us) rest = there (cut t us rest)

typing : (k : Option Raw) → typing_stands k ≡ true → IsTyping (typing_tokens k) k
typing None e = untyped
typing (Some k) e = as_type refl (tokens_derive xquery place.WholeType k [] e)

typed_so : (v : Typed) → typed_stands v ≡ true → IsTyped (typed_tokens v) v
typed_so v e = let h = and_parts _ _ e in typed refl h.0 (typing v.kind h.1)

params : (p : Typed) (ps : List Typed) → params_stand (p ∷ ps) ≡ true
    → AreParams (param_tokens (p ∷ ps)) (p ∷ ps)
params p [] e = last (typed_so p (and_parts _ _ e).0)
params p (q ∷ ps) e =
    let h = and_parts (typed_stands p) (params_stand (q ∷ ps)) e in
    before (cut (token.Key key.Comma) (typed_tokens p) (param_tokens (q ∷ ps)))
    (typed_so p h.0) (params q ps h.1)

may_be_params : (ps : List Typed) → params_stand ps ≡ true → MayBeParams (param_tokens ps) ps
may_be_params [] e = none
may_be_params (p ∷ ps) e = some (params p ps e)

signature : (q : Token) (ps : List Typed) (k : Option Raw) → fits_function q ≡ true
    → params_stand ps ≡ true → typing_stands k ≡ true
    → IsSignature (signature_tokens q ps k) q ps k
signature q ps k f p t = signed f refl
    (cut (token.Key key.CloseParen) (param_tokens ps) (typing_tokens k)) (may_be_params ps p)
    (typing k t)

declaration : (d : Declared) → declared_stands d ≡ true → IsDeclaration (declared_tokens d) d
declaration (declared.Version t) e = opened refl (short refl)
declaration (declared.Namespace p u) e = opened refl (short (rw e refl))
declaration (declared.ElementDefault u) e = opened refl (short refl)
declaration (declared.FunctionDefault u) e = opened refl (short refl)
declaration (declared.BoundarySpace true) e = opened refl (short refl)
declaration (declared.BoundarySpace false) e = opened refl (short refl)
declaration declared.Setter e = opened refl (short refl)
declaration (declared.Setting n t) e = opened refl (short (rw e refl))
declaration (declared.Variable v None) e =
    let h = and_parts _ _ e in
    opened refl (outside (cut (token.Name (codes "external")) (typed_tokens v) [])
    (typed_so v h.0) refl)
declaration (declared.Variable v (Some w)) e =
    let h = and_parts _ _ e in
    opened refl (valued (cut (token.Key key.Assign) (typed_tokens v) _) (typed_so v h.0)
    (tokens_derive xquery place.ExprSingle w [] h.1))
declaration (declared.Function q ps k w) e =
    let h = and_parts _ _ e in
    let i = and_parts _ _ h.1 in
    let j = and_parts _ _ i.1 in
    opened refl (defined (cut (token.Key key.OpenBrace) (signature_tokens q ps k)
    (tokens_of w ++ token.Key key.CloseBrace ∷ [])) (signature q ps k h.0 i.0 j.0)
    (cut (token.Key key.CloseBrace) (tokens_of w) [])
    (tokens_derive xquery place.Whole w [] j.1))

query : (ds : List Declared) (v : Raw) → prolog_stands ds ≡ true → is_expr xquery v ≡ true
    → IsQuery (prolog_tokens ds (tokens_of v)) ds v
query [] v p e = body (tokens_derive xquery place.Whole v [] e)
query (d ∷ ds) v p e =
    let h = and_parts _ _ p in
    declares (cut (token.Key key.Semicolon) (declared_tokens d) (prolog_tokens ds (tokens_of v)))
    (declaration d h.0) (query ds v h.1 e)

pub tokens_spell : (q : RawQuery) → is_query q ≡ true → SpellsQuery (query_tokens q) q
tokens_spell q e =
    let h = and_parts (is_ordered q.declared) (prolog_stands q.declared && is_expr xquery q.body) e
    in
    let i = and_parts (prolog_stands q.declared) (is_expr xquery q.body) h.1 in
    ordered h.0 (query q.declared q.body i.0 i.1)
