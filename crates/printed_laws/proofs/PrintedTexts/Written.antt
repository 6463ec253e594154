-- The tokens of a query can be written.
use Rattle.std.proofs.Common.{◌≡◌, ℕ, List, [], ◌∷◌, ◌++◌, map, Bool, true, false, ◌&&◌, codes}
use Rattle.std.proofs.Common.{refl}
use Rattle.std.proofs.Common.{subst, append-nil, Option, Some, None, is_some}
use Rattle.std.proofs.lemmas.Bool.{and_parts}
use Rattle.std.specs.Str.{bytes_eq}
use Rattle.xt_names.specs.declared.names.Binding.{Binding}
use Rattle.xt_names.specs.declared.names.ExprName.{ExprName}
use Rattle.xt_types.specs.declared.node_tests.SpaceRule.{SpaceRule}
use Rattle.xt_types.specs.declared.types.SeqType.{SeqType}
use Rattle.xt_syntax.specs.declared.exprs.Expr.{Expr}
use Rattle.xt_syntax.specs.declared.prefixes.Prefixes.{Prefixes}
use Rattle.xt_syntax.specs.declared.queries.Query.{Query}
use Rattle.xt_syntax.specs.declared.queries.QueryVar.{QueryVar}
use Rattle.xt_syntax.specs.declared.queries.QueryFunction.{QueryFunction}
use Rattle.xt_syntax.specs.declared.queries.QueryParam.{QueryParam}
use Rattle.expr_keys.specs.Tokens.{fits_word}
use Rattle.expr_keys.specs.declared.keys.Key.{Key}
use Rattle.expr_keys.specs.declared.keys.Key.TheVariants as key
use Rattle.expr_keys.specs.declared.tokens.Token.{Token}
use Rattle.expr_keys.specs.declared.tokens.Token.TheVariants as token
use Rattle.expr_keys.specs.declared.productions.Class.TheVariants as class
use Rattle.expr_tokens.specs.Terms.{word_term}
use Rattle.expr_rules.specs.ExprMeant.Names.{written_in}
use Rattle.query_pieces.specs.Points.{change_of_key}
use Rattle.query_pieces.specs.declared.contexts.Change.TheVariants as change
use Rattle.query_pages.specs.TokenTexts.Written.{is_written}
use Rattle.expr_raws.specs.PathRaws.Forms.{single, said}
use Rattle.expr_raws.specs.PathRaws.Names.{name_token, function_token}
use Rattle.expr_raws.specs.ControlRaws.Bindings.{typing, may, typing_tokens}
use Rattle.expr_raws.specs.ControlRaws.Types.{sequence_form}
use Rattle.expr_raws.specs.Raws.{form_of, tokens_of, is_printable}
use Rattle.raw_laws.specs.CleanRaws.Keeps.{keeps_rules}
use Rattle.token_laws.specs.WrittenTokens.Fit.{are_fit}
use Rattle.token_laws.proofs.WrittenTokens.Says.{key_stays}
use Rattle.token_laws.proofs.WrittenTokens.Paths.{name_stays, word_stays, quoted_stays, sequence_says}
use Rattle.token_laws.proofs.EndedTokens.Parts.{sequence_ends}
use Rattle.raw_tokens.specs.QueryTokens.Tokens.{behind_declare}
use Rattle.printed_laws.specs.QueryRaws.Prologs as forms
use Rattle.printed_laws.specs.QueryRaws.Prologs.{DeclaredForm, token_or, option_name, rules_text, means_rules}
use Rattle.printed_laws.specs.QueryRaws.Prologs.{space_option, omit_option}
use Rattle.printed_laws.specs.QueryRaws.Declarations as made
use Rattle.printed_laws.specs.QueryRaws.Declarations.{variable_token, typed_tokens, typed_can, is_clean}
use Rattle.printed_laws.specs.QueryRaws.Declarations.{value_tokens, value_can, params_tokens, params_can}
use Rattle.printed_laws.specs.QueryRaws.Declarations.{named_by, signature_tokens}
use Rattle.printed_laws.specs.QueryRaws.Queries.{prefixes_of, options, late, declarations, prolog_tokens}
use Rattle.printed_laws.specs.QueryRaws.Queries.{query_tokens, all_can, can_print}
use Rattle.printed_laws.proofs.QueryRaws.Spell.{named_fits}
use Rattle.printed_laws.proofs.PrintedTexts.Segments.{Segment, no_segment, one_segment, join_segments}
use Rattle.printed_laws.proofs.PrintedTexts.Segments.{block_segment, form_segment, whole_segment}
use Rattle.printed_laws.proofs.PrintedTexts.Segments.{single_segment, function_name}

-- a word, and a key that opens nothing
word_segment : (n : List ℕ) (us : List Token) → Segment us → Segment (token.Name n ∷ us)
word_segment n us a = one_segment (token.Name n) us (name_stays (token.Name n) refl) a

key_segment : (k : Key) → change_of_key k ≡ change.Stays → (us : List Token) → Segment us
    → Segment (token.Key k ∷ us)
key_segment k e us a = one_segment (token.Key k) us (key_stays k e) a

quoted_segment : (cs : List ℕ) (us : List Token) → Segment us → Segment (token.Quoted cs ∷ us)
quoted_segment cs us a = one_segment (token.Quoted cs) us (quoted_stays cs) a

declare_segment : (second : List ℕ) (us : List Token) → Segment us
    → Segment (behind_declare second us)
declare_segment second us a =
    word_segment (codes "declare") (token.Name second ∷ us) (word_segment second us a)

module _ (p : Prefixes) where
  typing_segment : (k : Option SeqType) → may (typing p k) ≡ true
      → Segment (typing_tokens (typing p k) [])
  typing_segment None c = no_segment
  typing_segment (Some t) c = key_segment key.AsWord refl ((sequence_form p t).tokens [])
      (form_segment (sequence_form p t).tokens (sequence_says p t c) (sequence_ends p t c).ends)

  typed_segment : (n : ExprName) (k : Option SeqType) → typed_can p n k ≡ true
      → Segment (typed_tokens p n k)
  typed_segment n k c =
      let h = and_parts (is_some (name_token p.bound [] n)) (may (typing p k)) c in
      key_segment key.Dollar refl (variable_token p n ∷ typing_tokens (typing p k) [])
      (one_segment (variable_token p n) (typing_tokens (typing p k) [])
      (name_stays (variable_token p n) (named_fits class.Name p.bound [] n h.0))
      (typing_segment k h.1))

  params_segment : (xs : List QueryParam) → params_can p xs ≡ true → Segment (params_tokens p xs)
  params_segment [] c = no_segment
  params_segment (x ∷ []) c =
      typed_segment x.name x.kind (and_parts (typed_can p x.name x.kind) true c).0
  params_segment (x ∷ y ∷ xs) c =
      let h = and_parts (typed_can p x.name x.kind) (params_can p (y ∷ xs)) c in
      join_segments (typed_tokens p x.name x.kind)
      (token.Key key.Comma ∷ params_tokens p (y ∷ xs)) (typed_segment x.name x.kind h.0)
      (key_segment key.Comma refl (params_tokens p (y ∷ xs)) (params_segment (y ∷ xs) h.1))

  value_segment : (o : Option Expr) → value_can p o ≡ true → Segment (value_tokens p o)
  value_segment None c = word_segment (codes "external") [] no_segment
  value_segment (Some e) c = key_segment key.Assign refl (said single (form_of p e) [])
      (single_segment p e (and_parts (is_printable p e) (keeps_rules e) c).0)

  variable_segment : (v : QueryVar) → (made.variable p v).can ≡ true
      → Segment (made.variable p v).tokens
  variable_segment v c =
      let h = and_parts (typed_can p v.name v.kind) (value_can p v.value) c in
      declare_segment (codes "variable") (typed_tokens p v.name v.kind ++ value_tokens p v.value)
      (join_segments (typed_tokens p v.name v.kind) (value_tokens p v.value)
      (typed_segment v.name v.kind h.0) (value_segment v.value h.1))

  signature_segment : (f : QueryFunction)
      → is_some (function_token p.bound p.function_default f.name) ≡ true
      → params_can p f.params ≡ true → may (typing p f.kind) ≡ true
      → Segment (signature_tokens p f)
  signature_segment f c d e =
      let name : Token = named_by p f.name in
      let last : List Token = typing_tokens (typing p f.kind) [] in
      let more : List Token = params_tokens p f.params ++ token.Key key.CloseParen ∷ last in
      one_segment name (token.Key key.OpenParen ∷ more)
      (name_stays name (function_name name
      (named_fits class.Function p.bound p.function_default f.name c)))
      (key_segment key.OpenParen refl more
      (join_segments (params_tokens p f.params) (token.Key key.CloseParen ∷ last)
      (params_segment f.params d) (key_segment key.CloseParen refl last (typing_segment f.kind e))))

  function_segment : (f : QueryFunction) → (made.function p f).can ≡ true
      → Segment (made.function p f).tokens
  function_segment f c =
      let named : Bool = is_some (function_token p.bound p.function_default f.name) in
      let h = and_parts named
      (params_can p f.params && (may (typing p f.kind) && is_clean p f.body)) c in
      let i = and_parts (params_can p f.params) (may (typing p f.kind) && is_clean p f.body) h.1 in
      let j = and_parts (may (typing p f.kind)) (is_clean p f.body) i.1 in
      let k = and_parts (is_printable p f.body) (keeps_rules f.body) j.1 in
      let block : List Token = token.Key key.OpenBrace
      ∷ (tokens_of p f.body ++ token.Key key.CloseBrace ∷ []) in
      declare_segment (codes "function") (signature_tokens p f ++ block)
      (join_segments (signature_tokens p f) block (signature_segment f h.0 i.0 j.0)
      (block_segment (tokens_of p f.body) (whole_segment p f.body k.0)))

  namespace_segment : (b : Binding) → (forms.namespace b).can ≡ true
      → Segment (forms.namespace b).tokens
  namespace_segment b c =
      let t : Token = word_term b.prefix in
      let last : List Token = token.Quoted b.uri ∷ [] in
      let more : List Token = t ∷ token.Key key.Equal ∷ last in
      word_segment (codes "declare") (token.Key key.NamespaceWord ∷ more)
      (key_segment key.NamespaceWord refl more
      (one_segment t (token.Key key.Equal ∷ last) (word_stays t
      (and_parts (fits_word t) (bytes_eq (written_in t).local b.prefix) c).0)
      (key_segment key.Equal refl last (quoted_segment b.uri [] no_segment))))

  option_segment : (local text : List ℕ) (can : Bool) → (forms.option p local text can).can ≡ true
      → Segment (forms.option p local text can).tokens
  option_segment local text can c =
      let t : Token = token_or (name_token p.bound [] (option_name local)) in
      declare_segment (codes "option") (t ∷ token.Quoted text ∷ [])
      (one_segment t (token.Quoted text ∷ []) (name_stays t
      (named_fits class.Name p.bound [] (option_name local)
      (and_parts (is_some (name_token p.bound [] (option_name local))) can c).0))
      (quoted_segment text [] no_segment))

-- all declarations
abbrev pub AllSegments : List DeclaredForm → Type 0
AllSegments [] = Unit {0}
AllSegments (f ∷ fs) = (f.can ≡ true → Segment f.tokens) × AllSegments fs

append_all : (fs gs : List DeclaredForm) → AllSegments fs → AllSegments gs → AllSegments (fs ++ gs)
append_all [] gs a b = b
append_all (f ∷ fs) gs a b = (a.0, append_all fs gs a.1 b)

map_all : {A : Type 0} (form : A → DeclaredForm)
    → ((x : A) → (form x).can ≡ true → Segment (form x).tokens) → (xs : List A)
    → AllSegments (map (λ x. form x) xs)
map_all form h [] = tt
map_all form h (x ∷ xs) = (h x, map_all form h xs)

space_all : (p : Prefixes) (rs : List SpaceRule) → AllSegments (space_option p rs)
space_all p [] = tt
space_all p (r ∷ rs) = (
  option_segment p (codes "space") (rules_text p (r ∷ rs))
      (means_rules p.bound (rules_text p (r ∷ rs)) (r ∷ rs)),
  tt,
)

omit_all : (p : Prefixes) (b : Bool) → AllSegments (omit_option p b)
omit_all p true = (option_segment p (codes "declaration") (codes "omit") true, tt)
omit_all p false = tt

all_segments : (q : Query) → AllSegments (declarations q)
all_segments q =
    let p : Prefixes = prefixes_of q in
    let vs : List DeclaredForm = map (λ v. made.variable p v) q.variables in
    let fs : List DeclaredForm = map (λ f. made.function p f) q.functions in (
      λ c. word_segment (codes "xquery")
          (token.Name (codes "version") ∷ token.Quoted (codes "1.0") ∷ [])
          (word_segment (codes "version") (token.Quoted (codes "1.0") ∷ [])
          (quoted_segment (codes "1.0") [] no_segment)),
      append_all (map (λ b. forms.namespace b) q.prefixes) (forms.preserved ∷ late q)
          (map_all (λ b. forms.namespace b) (λ b. namespace_segment p b) q.prefixes) (
            λ c. declare_segment (codes "boundary-space") (token.Name (codes "preserve") ∷ [])
                (word_segment (codes "preserve") [] no_segment),
            append_all (options q) (vs ++ fs)
                (append_all (space_option p q.space) (omit_option p q.omit) (space_all p q.space)
                (omit_all p q.omit))
                (append_all vs fs
                (map_all (λ v. made.variable p v) (λ v. variable_segment p v) q.variables)
                (map_all (λ f. made.function p f) (λ f. function_segment p f) q.functions)),
          ),
    )

prolog_segment : (fs : List DeclaredForm) (ts : List Token) → AllSegments fs → all_can fs ≡ true
    → Segment ts → Segment (prolog_tokens fs ts)
prolog_segment [] ts a c s = s
prolog_segment (f ∷ fs) ts a c s =
    let h = and_parts f.can (all_can fs) c in
    join_segments f.tokens (token.Key key.Semicolon ∷ prolog_tokens fs ts) (a.0 h.0)
    (key_segment key.Semicolon refl (prolog_tokens fs ts) (prolog_segment fs ts a.1 h.1 s))

pub query_written : (q : Query) → can_print q ≡ true → are_fit (query_tokens q) ≡ true
    → is_written (query_tokens q) ≡ true
query_written q c f =
    let h = and_parts (all_can (declarations q)) (is_clean (prefixes_of q) q.body) c in
    let i = and_parts (is_printable (prefixes_of q) q.body) (keeps_rules q.body) h.1 in
    subst (λ ts. is_written ts ≡ true) (append-nil (query_tokens q))
    (prolog_segment (declarations q) (tokens_of (prefixes_of q) q.body) (all_segments q) h.0
    (whole_segment (prefixes_of q) q.body i.0) [] refl [] f refl refl)
