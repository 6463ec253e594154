-- The tokens of a query spell it.
use Rattle.std.proofs.Common.{◌≡◌, ℕ, Bool, true, false, ◌&&◌, codes, List, [], ◌∷◌, ◌++◌, map}
use Rattle.std.proofs.Common.{refl}
use Rattle.std.proofs.Common.{◌∙◌, ap, Option, Some, None, is_some}
use Rattle.std.proofs.lemmas.Bool.{and_parts}
use Rattle.std.specs.Str.{bytes_eq}
use Rattle.xt_names.specs.declared.names.Binding.{Binding}
use Rattle.xt_names.specs.declared.names.ExprName.{ExprName}
use Rattle.xt_types.specs.declared.node_tests.SpaceRule.{SpaceRule}
use Rattle.xt_types.specs.declared.types.SeqType.{SeqType}
use Rattle.xt_syntax.specs.declared.exprs.Expr.{Expr}
use Rattle.xt_syntax.specs.declared.prefixes.Prefixes.{Prefixes}
use Rattle.xt_syntax.specs.declared.queries.Query.{Query}
use Rattle.xt_syntax.specs.declared.queries.QueryVar.{QueryVar}
use Rattle.xt_syntax.specs.declared.queries.QueryFunction.{QueryFunction}
use Rattle.xt_syntax.specs.declared.queries.QueryParam.{QueryParam}
use Rattle.expr_keys.specs.Classes.{fits}
use Rattle.expr_keys.specs.Tokens.{fits_word}
use Rattle.expr_keys.specs.declared.keys.Key.TheVariants as key
use Rattle.expr_keys.specs.declared.tokens.Token.{Token}
use Rattle.expr_keys.specs.declared.tokens.Token.TheVariants as token
use Rattle.expr_keys.specs.declared.productions.Class.{Class}
use Rattle.expr_keys.specs.declared.productions.Class.TheVariants as class
use Rattle.expr_keys.specs.declared.productions.Nonterminal.TheVariants as place
use Rattle.expr_keys.specs.declared.productions.Production.TheVariants as production
use Rattle.expr_tokens.specs.Terms.{word_term}
use Rattle.expr_rules.specs.ExprMeant.Names.{written_in}
use Rattle.expr_grammar.specs.Grammar.{Derives, Spells, by, next, end}
use Rattle.expr_raws.specs.PathRaws.Forms.{single, list, at, said}
use Rattle.expr_raws.specs.PathRaws.Names.{names, spellings, name_token, function_token, token_in}
use Rattle.expr_raws.proofs.PathRaws.Paths.{fitting_sound}
use Rattle.expr_raws.specs.ControlRaws.Bindings.{typing, may, typing_tokens}
use Rattle.expr_raws.specs.Raws.{form_of, raw_of, tokens_of, is_printable}
use Rattle.raw_laws.proofs.ExprSpellings.Climb.{X, climb}
use Rattle.raw_laws.proofs.ExprSpellings.Paths.{always}
use Rattle.raw_laws.proofs.ExprSpellings.Types.{sequence_spelled}
use Rattle.raw_laws.proofs.ExprSpellings.Forms.{printable_spelled}
use Rattle.raw_laws.specs.CleanRaws.Keeps.{keeps_rules}
use Rattle.query_grammar.specs.declared.declared.Declared.{Declared}
use Rattle.query_grammar.specs.declared.declared.Declared.TheVariants as declared
use Rattle.query_grammar.specs.Prolog.{IsTyping, untyped, as_type, IsTyped, typed}
use Rattle.query_grammar.specs.Prolog.{AreParams, last, before, MayBeParams, none, some}
use Rattle.query_grammar.specs.Prolog.{IsSignature, signed, short, outside, valued}
use Rattle.query_grammar.specs.Prolog.{defined, IsDeclaration, opened, IsQuery, body, declares}
use Rattle.query_grammar.specs.Prolog.{SpellsQuery, ordered, is_ordered, in_order, all_late}
use Rattle.query_grammar.specs.Prolog.{is_late}
use Rattle.raw_tokens.specs.QueryTokens.Tokens.{behind_declare}
use Rattle.printed_laws.specs.QueryRaws.Prologs as forms
use Rattle.printed_laws.specs.QueryRaws.Prologs.{DeclaredForm, token_or, is_prefix_word, option_name}
use Rattle.printed_laws.specs.QueryRaws.Prologs.{rules_text, means_rules, space_option, omit_option}
use Rattle.printed_laws.specs.QueryRaws.Declarations as made
use Rattle.printed_laws.specs.QueryRaws.Declarations.{variable_token, typing_raw, typed_tokens, typed_can}
use Rattle.printed_laws.specs.QueryRaws.Declarations.{is_clean, value_can, params, params_tokens, params_can}
use Rattle.printed_laws.specs.QueryRaws.Declarations.{named_by, signature_tokens}
use Rattle.printed_laws.specs.QueryRaws.Queries.{prefixes_of, options, late, declarations, raws, raw_query}
use Rattle.printed_laws.specs.QueryRaws.Queries.{prolog_tokens, query_tokens, all_can, can_print}
use Rattle.raw_tokens.proofs.QueryTokens.Spell.{cut}

-- the token of a name, where there is one, is of the class
pub named_fits : (c : Class) (bound : List Binding) (default : List ℕ) (n : ExprName)
    → is_some (token_in c bound default n) ≡ true
    → fits c (token_or (token_in c bound default n)) ≡ true
named_fits c bound default n = go (token_in c bound default n) refl
  where
    go : (o : Option Token) → token_in c bound default n ≡ o → is_some o ≡ true
        → fits c (token_or o) ≡ true
    go None e h = absurd (cc)
    go (Some t) e h =
        (fitting_sound c (names bound default n) (spellings bound n.local) t e).0

whole_spelled : (p : Prefixes) (e : Expr) → is_printable p e ≡ true
    → Spells X (tokens_of p e) (raw_of p e)
whole_spelled p e c =
    let s = printable_spelled p e c in
    by production.WholeExpr refl refl (next (climb (form_of p e).place list s.placed _ _ _
    (s.whole [] (λ h. refl))) end)

single_spelled : (p : Prefixes) (e : Expr) → is_printable p e ≡ true
    → Derives X place.ExprSingle (said single (form_of p e) []) (at single (form_of p e)) []
single_spelled p e c = always single (form_of p e) (printable_spelled p e c) [] (λ u. refl)

module _ (p : Prefixes) where
  typing_so : (k : Option SeqType) → may (typing p k) ≡ true
      → IsTyping (typing_tokens (typing p k) []) (typing_raw p k)
  typing_so None c = untyped
  typing_so (Some t) c = as_type refl
      (by production.WholeSequenceType refl refl (next (sequence_spelled p t c [] (λ u. refl)) end))

  typed_so : (n : ExprName) (k : Option SeqType) → typed_can p n k ≡ true
      → IsTyped (typed_tokens p n k) (made.typed p n k)
  typed_so n k c =
      let h = and_parts (is_some (name_token p.bound [] n)) (may (typing p k)) c in
      typed refl (named_fits class.Name p.bound [] n h.0) (typing_so k h.1)

  params_so : (x : QueryParam) (xs : List QueryParam) → params_can p (x ∷ xs) ≡ true
      → AreParams (params_tokens p (x ∷ xs)) (params p (x ∷ xs))
  params_so x [] c = last (typed_so x.name x.kind (and_parts (typed_can p x.name x.kind) true c).0)
  params_so x (y ∷ xs) c =
      let h = and_parts (typed_can p x.name x.kind) (params_can p (y ∷ xs)) c in
      before (cut (token.Key key.Comma) (typed_tokens p x.name x.kind) (params_tokens p (y ∷ xs)))
      (typed_so x.name x.kind h.0) (params_so y xs h.1)

  may_be_params : (xs : List QueryParam) → params_can p xs ≡ true
      → MayBeParams (params_tokens p xs) (params p xs)
  may_be_params [] c = none
  may_be_params (x ∷ xs) c = some (params_so x xs c)

  -- a declaration as it is written
  abbrev pub Declares : DeclaredForm → Type 0
  Declares f = f.can ≡ true → IsDeclaration f.tokens f.raw

  value_so : (v : QueryVar) → (o : Option Expr) → typed_can p v.name v.kind ≡ true
      → value_can p o ≡ true → IsDeclaration (behind_declare (codes "variable")
      (typed_tokens p v.name v.kind ++ made.value_tokens p o))
      (declared.Variable (made.typed p v.name v.kind) (made.value_raw p o))
  value_so v None c d = opened refl (outside
      (cut (token.Name (codes "external")) (typed_tokens p v.name v.kind) [])
      (typed_so v.name v.kind c) refl)
  value_so v (Some e) c d = opened refl (valued
      (cut (token.Key key.Assign) (typed_tokens p v.name v.kind) (said single (form_of p e) []))
      (typed_so v.name v.kind c)
      (single_spelled p e (and_parts (is_printable p e) (keeps_rules e) d).0))

  variable_so : (v : QueryVar) → Declares (made.variable p v)
  variable_so v c =
      let h = and_parts (typed_can p v.name v.kind) (value_can p v.value) c in
      value_so v v.value h.0 h.1

  signature_so : (f : QueryFunction)
      → is_some (function_token p.bound p.function_default f.name) ≡ true
      → params_can p f.params ≡ true → may (typing p f.kind) ≡ true
      → IsSignature (signature_tokens p f) (named_by p f.name) (params p f.params)
      (typing_raw p f.kind)
  signature_so f c d e = signed
      (named_fits class.Function p.bound p.function_default f.name c) refl
      (cut (token.Key key.CloseParen) (params_tokens p f.params)
      (typing_tokens (typing p f.kind) [])) (may_be_params f.params d) (typing_so f.kind e)

  function_so : (f : QueryFunction) → Declares (made.function p f)
  function_so f c =
      let named : Bool = is_some (function_token p.bound p.function_default f.name) in
      let h = and_parts named
      (params_can p f.params && (may (typing p f.kind) && is_clean p f.body)) c in
      let i = and_parts (params_can p f.params) (may (typing p f.kind) && is_clean p f.body) h.1 in
      let j = and_parts (may (typing p f.kind)) (is_clean p f.body) i.1 in
      let k = and_parts (is_printable p f.body) (keeps_rules f.body) j.1 in
      opened refl (defined (cut (token.Key key.OpenBrace) (signature_tokens p f)
      (tokens_of p f.body ++ token.Key key.CloseBrace ∷ []))
      (signature_so f h.0 i.0 j.0) (cut (token.Key key.CloseBrace) (tokens_of p f.body) [])
      (whole_spelled p f.body k.0))

  namespace_so : (b : Binding) → Declares (forms.namespace b)
  namespace_so b c =
      let t : Token = word_term b.prefix in
      let e : fits_word t ≡ true =
      (and_parts (fits_word t) (bytes_eq (written_in t).local b.prefix) c).0 in
      opened refl (short (rw e refl))

  option_so : (local text : List ℕ) (can : Bool) → Declares (forms.option p local text can)
  option_so local text can c =
      let e : fits class.Name (token_or (name_token p.bound [] (option_name local))) ≡ true =
      named_fits class.Name p.bound [] (option_name local)
      (and_parts (is_some (name_token p.bound [] (option_name local))) can c).0 in
      opened refl (short (rw e refl))

-- all of them
abbrev pub AllDeclare : List DeclaredForm → Type 0
AllDeclare [] = Unit {0}
AllDeclare (f ∷ fs) = (f.can ≡ true → IsDeclaration f.tokens f.raw) × AllDeclare fs

append_declare : (fs gs : List DeclaredForm) → AllDeclare fs → AllDeclare gs → AllDeclare (fs ++ gs)
append_declare [] gs a b = b
append_declare (f ∷ fs) gs a b = (a.0, append_declare fs gs a.1 b)

map_declare : {A : Type 0} (form : A → DeclaredForm)
    → ((x : A) → (form x).can ≡ true → IsDeclaration (form x).tokens (form x).raw)
    → (xs : List A) → AllDeclare (map (λ x. form x) xs)
map_declare form h [] = tt
map_declare form h (x ∷ xs) = (h x, map_declare form h xs)

space_declares : (p : Prefixes) (rs : List SpaceRule) → AllDeclare (space_option p rs)
space_declares p [] = tt
space_declares p (r ∷ rs) = (
  option_so p (codes "space") (rules_text p (r ∷ rs))
      (means_rules p.bound (rules_text p (r ∷ rs)) (r ∷ rs)),
  tt,
)

omit_declares : (p : Prefixes) (b : Bool) → AllDeclare (omit_option p b)
omit_declares p true = (option_so p (codes "declaration") (codes "omit") true, tt)
omit_declares p false = tt

all_declare : (q : Query) → AllDeclare (declarations q)
all_declare q =
    let p : Prefixes = prefixes_of q in (
      λ c. opened refl (short refl),
      append_declare (map (λ b. forms.namespace b) q.prefixes) (forms.preserved ∷ late q)
          (map_declare (λ b. forms.namespace b) (λ b. namespace_so p b) q.prefixes) (
            λ c. opened refl (short refl),
            append_declare (options q) (map (λ v. made.variable p v) q.variables
                ++ map (λ f. made.function p f) q.functions)
                (append_declare (space_option p q.space) (omit_option p q.omit)
                (space_declares p q.space) (omit_declares p q.omit))
                (append_declare (map (λ v. made.variable p v) q.variables)
                (map (λ f. made.function p f) q.functions)
                (map_declare (λ v. made.variable p v) (λ v. variable_so p v) q.variables)
                (map_declare (λ f. made.function p f) (λ f. function_so p f) q.functions)),
          ),
    )

-- the order of the declarations

abbrev AllLate : List DeclaredForm → Type 0
AllLate fs = all_late (raws fs) ≡ true

append_late : (fs gs : List DeclaredForm) → AllLate fs → AllLate gs → AllLate (fs ++ gs)
append_late [] gs a b = b
append_late (f ∷ fs) gs a b =
    let h = and_parts (is_late f.raw) (all_late (raws fs)) a in
    ap (λ x. x && all_late (raws (fs ++ gs))) h.0 ∙ append_late fs gs h.1 b

space_late : (p : Prefixes) (rs : List SpaceRule) → AllLate (space_option p rs)
space_late p [] = refl
space_late p (r ∷ rs) = refl

omit_late : (p : Prefixes) (b : Bool) → AllLate (omit_option p b)
omit_late p true = refl
omit_late p false = refl

map_late : {A : Type 0} (form : A → DeclaredForm) → ((x : A) → is_late (form x).raw ≡ true)
    → (xs : List A) → AllLate (map (λ x. form x) xs)
map_late form h [] = refl
map_late form h (x ∷ xs) =
    ap (λ b. b && all_late (raws (map (λ y. form y) xs))) (h x) ∙ map_late form h xs

pub late_late : (q : Query) → AllLate (late q)
late_late q =
    let p : Prefixes = prefixes_of q in
    append_late (options q) (map (λ v. made.variable p v) q.variables
    ++ map (λ f. made.function p f) q.functions)
    (append_late (space_option p q.space) (omit_option p q.omit) (space_late p q.space)
    (omit_late p q.omit))
    (append_late (map (λ v. made.variable p v) q.variables)
    (map (λ f. made.function p f) q.functions)
    (map_late (λ v. made.variable p v) (λ v. refl) q.variables)
    (map_late (λ f. made.function p f) (λ f. refl) q.functions))

late_ordered : (ds : List Declared) → all_late ds ≡ true → in_order ds ≡ true
late_ordered [] c = refl
late_ordered (declared.Setting n t ∷ ds) c = c
late_ordered (declared.Variable v w ∷ ds) c = c
late_ordered (declared.Function n ps k w ∷ ds) c = c
late_ordered (_ ∷ ds) c = absurd (cc)

namespaces_ordered : (bs : List Binding) (ds : List DeclaredForm) → in_order (raws ds) ≡ true
    → in_order (raws (map (λ b. forms.namespace b) bs ++ ds)) ≡ true
namespaces_ordered [] ds c = c
namespaces_ordered (b ∷ bs) ds c = namespaces_ordered bs ds c

all_ordered : (q : Query) → is_ordered (raws (declarations q)) ≡ true
all_ordered q = namespaces_ordered q.prefixes (forms.preserved ∷ late q)
    (late_ordered (raws (late q)) (late_late q))

query_so : (p : Prefixes) (e : Expr) → is_printable p e ≡ true → (fs : List DeclaredForm)
    → AllDeclare fs → all_can fs ≡ true
    → IsQuery (prolog_tokens fs (tokens_of p e)) (raws fs) (raw_of p e)
query_so p e c [] a d = body (whole_spelled p e c)
query_so p e c (f ∷ fs) a d =
    let h = and_parts f.can (all_can fs) d in
    declares (cut (token.Key key.Semicolon) f.tokens (prolog_tokens fs (tokens_of p e)))
    (a.0 h.0) (query_so p e c fs a.1 h.1)

pub query_spelled : (q : Query) → can_print q ≡ true → SpellsQuery (query_tokens q) (raw_query q)
query_spelled q c =
    let h = and_parts (all_can (declarations q)) (is_clean (prefixes_of q) q.body) c in
    let i = and_parts (is_printable (prefixes_of q) q.body) (keeps_rules q.body) h.1 in
    ordered (all_ordered q)
    (query_so (prefixes_of q) q.body i.0 (declarations q) (all_declare q) h.0)
