-- Variables, functions and options that are printed mean what they are printed for.
use Rattle.std.proofs.Common.{◌≡◌, ℕ, Bool, true, false, ◌&&◌, List, [], ◌∷◌, ◌++◌}
use Rattle.std.proofs.Common.{refl, ◌∙◌, ap, ap₂, Option, Some, None, is_some, option_map}
use Rattle.std.proofs.lemmas.Bool.{and_parts}
use Rattle.xt_names.specs.declared.names.Binding.{Binding}
use Rattle.xt_names.specs.declared.names.ExprName.{ExprName}
use Rattle.xt_types.specs.declared.types.SeqType.{SeqType}
use Rattle.xt_syntax.specs.declared.exprs.Expr.{Expr}
use Rattle.xt_syntax.specs.declared.prefixes.Prefixes.{Prefixes}
use Rattle.xt_syntax.specs.declared.queries.QueryVar.{QueryVar}
use Rattle.xt_syntax.specs.declared.queries.QueryFunction.{QueryFunction}
use Rattle.xt_syntax.specs.declared.queries.QueryParam.{QueryParam}
use Rattle.expr_names.specs.Names.{undeclared_in, expr_name}
use Rattle.expr_keys.specs.declared.tokens.Token.{Token}
use Rattle.expr_keys.specs.declared.productions.Class.{Class}
use Rattle.expr_keys.specs.declared.productions.Class.TheVariants as class
use Rattle.expr_rules.specs.ExprMeant.Names.{written_in, written_of}
use Rattle.expr_rules.specs.ExprMeant.Parts.{expr_of}
use Rattle.expr_resolve.specs.declared.setting.Setting.{Setting}
use Rattle.expr_resolve.specs.Folds.{broken_of, expr_meant}
use Rattle.expr_raws.specs.PathRaws.Forms.{single, at}
use Rattle.expr_raws.specs.PathRaws.Names.{name_token, function_token, token_in}
use Rattle.expr_raws.proofs.PathRaws.Paths.{name_found}
use Rattle.expr_raws.proofs.PathRaws.Values.{at_means}
use Rattle.expr_raws.specs.ControlRaws.Bindings.{typing, may}
use Rattle.expr_raws.proofs.ControlRaws.Types.{sequence_means}
use Rattle.expr_raws.specs.Raws.{form_of, raw_of, is_printable}
use Rattle.expr_raws.proofs.Forms.{printable_means}
use Rattle.raw_laws.specs.CleanRaws.Keeps.{keeps_rules}
use Rattle.raw_laws.proofs.CleanRaws.Clean.{at_clean}
use Rattle.raw_laws.proofs.CleanRaws.Names.{name_declared}
use Rattle.raw_laws.proofs.CleanRaws.Types.{sequence_typed}
use Rattle.raw_laws.proofs.CleanRaws.Forms.{printable_clean}
use Rattle.query_resolve.specs.Declarations.{kind_broken, kind_meant, value_broken, typed_broken}
use Rattle.query_resolve.specs.Declarations.{params_broken, params_meant}
use Rattle.query_resolve.specs.Declarations.{variable_broken, variable_meant, function_broken}
use Rattle.query_resolve.specs.Declarations.{function_meant}
use Rattle.printed_laws.specs.QueryRaws.Prologs.{token_or}
use Rattle.printed_laws.specs.QueryRaws.Declarations.{variable_token, typing_raw, typed, typed_can, is_clean}
use Rattle.printed_laws.specs.QueryRaws.Declarations.{value_raw, value_can, params, params_can, named_by}
use Rattle.printed_laws.specs.QueryRaws.Declarations as forms

-- the token of a name, where there is one, means the name, and its prefix is declared
pub named_so : (c : Class) (bound : List Binding) (default : List ℕ) (n : ExprName)
    → is_some (token_in c bound default n) ≡ true
    → (expr_name bound default (written_in (token_or (token_in c bound default n))) ≡ n)
    × (undeclared_in bound (written_in (token_or (token_in c bound default n))) ≡ [])
unfolding written_of
named_so c bound default n = go (token_in c bound default n) refl
  where
    go : (o : Option Token) → token_in c bound default n ≡ o → is_some o ≡ true
        → (expr_name bound default (written_in (token_or o)) ≡ n)
        × (undeclared_in bound (written_in (token_or o)) ≡ [])
    go None e h = absurd (cc)
    go (Some t) e h = (name_found c bound default n t e, name_declared c bound default n t e)

abbrev set : Prefixes → Setting
set p = record { prefixes = p; strip = false }

module _ (p : Prefixes) where
  kind_means : (k : Option SeqType) → may (typing p k) ≡ true
      → kind_meant (set p) (typing_raw p k) ≡ k
  kind_means None c = refl
  kind_means (Some t) c = ap (λ x. Some x) (sequence_means (set p) t c)

  kind_clean : (k : Option SeqType) → may (typing p k) ≡ true
      → kind_broken (set p) (typing_raw p k) ≡ []
  unfolding kind_broken
  kind_clean None c = refl
  kind_clean (Some t) c =
      let h = sequence_typed (set p) t c in ap₂ (λ xs ys. xs ++ ys) h.0 h.1

  single_means : (e : Expr) → is_printable p e ≡ true
      → expr_meant (set p) (at single (form_of p e)) ≡ e
  unfolding expr_of
  single_means e c =
      ap expr_of (at_means (set p) single (form_of p e) e (printable_means (set p) refl e c))

  value_means : (o : Option Expr) → value_can p o ≡ true
      → option_map (expr_meant (set p)) (value_raw p o) ≡ o
  value_means None c = refl
  value_means (Some e) c =
      ap (λ x. Some x) (single_means e (and_parts (is_printable p e) (keeps_rules e) c).0)

  value_clean : (o : Option Expr) → value_can p o ≡ true
      → value_broken (set p) (value_raw p o) ≡ []
  unfolding value_broken
  value_clean None c = refl
  value_clean (Some e) c =
      let h = and_parts (is_printable p e) (keeps_rules e) c in
      at_clean (set p) single (form_of p e) (printable_clean (set p) refl e h.1 h.0)

  pub body_means : (e : Expr) → is_clean p e ≡ true → expr_meant (set p) (raw_of p e) ≡ e
  unfolding expr_of
  body_means e c = ap expr_of
      (printable_means (set p) refl e (and_parts (is_printable p e) (keeps_rules e) c).0)

  pub body_clean : (e : Expr) → is_clean p e ≡ true → broken_of (set p) (raw_of p e) ≡ []
  body_clean e c =
      let h = and_parts (is_printable p e) (keeps_rules e) c in
      printable_clean (set p) refl e h.1 h.0

  typed_clean : (n : ExprName) (k : Option SeqType) → typed_can p n k ≡ true
      → typed_broken (set p) (typed p n k) ≡ []
  typed_clean n k c =
      let h = and_parts (is_some (name_token p.bound [] n)) (may (typing p k)) c in
      ap₂ (λ xs ys. xs ++ ys) (named_so class.Name p.bound [] n h.0).1 (kind_clean k h.1)

  abbrev made : ExprName → Option SeqType → Option Expr → QueryVar
  made n k o = record { name = n; kind = k; value = o }

  pub variable_means : (v : QueryVar) → (forms.variable p v).can ≡ true
      → variable_meant (set p) (typed p v.name v.kind) (value_raw p v.value) ≡ v
  variable_means v c =
      let h = and_parts (typed_can p v.name v.kind) (value_can p v.value) c in
      let i = and_parts (is_some (name_token p.bound [] v.name)) (may (typing p v.kind)) h.0 in
      ap₂ (λ n k. made n k (option_map (expr_meant (set p)) (value_raw p v.value)))
      (named_so class.Name p.bound [] v.name i.0).0 (kind_means v.kind i.1)
      ∙ ap (λ o. made v.name v.kind o) (value_means v.value h.1)

  pub variable_clean : (v : QueryVar) → (forms.variable p v).can ≡ true
      → variable_broken (set p) (typed p v.name v.kind) (value_raw p v.value) ≡ []
  variable_clean v c =
      let h = and_parts (typed_can p v.name v.kind) (value_can p v.value) c in
      ap₂ (λ xs ys. xs ++ ys) (typed_clean v.name v.kind h.0) (value_clean v.value h.1)

  abbrev param : ExprName → Option SeqType → QueryParam
  param n k = record { name = n; kind = k }

  params_mean : (xs : List QueryParam) → params_can p xs ≡ true
      → params_meant (set p) (params p xs) ≡ xs
  params_mean [] c = refl
  params_mean (x ∷ xs) c =
      let h = and_parts (typed_can p x.name x.kind) (params_can p xs) c in
      let i = and_parts (is_some (name_token p.bound [] x.name)) (may (typing p x.kind)) h.0 in
      ap₂ (λ y ys. y ∷ ys)
      (ap₂ (λ n k. param n k) (named_so class.Name p.bound [] x.name i.0).0 (kind_means x.kind i.1))
      (params_mean xs h.1)

  params_clean : (xs : List QueryParam) → params_can p xs ≡ true
      → params_broken (set p) (params p xs) ≡ []
  params_clean [] c = refl
  params_clean (x ∷ xs) c =
      let h = and_parts (typed_can p x.name x.kind) (params_can p xs) c in
      ap₂ (λ ys zs. ys ++ zs) (typed_clean x.name x.kind h.0) (params_clean xs h.1)

  abbrev defined : ExprName → List QueryParam → Option SeqType → Expr → QueryFunction
  defined n xs k e = record { name = n; params = xs; kind = k; body = e }

  abbrev function_can : QueryFunction → Bool
  function_can f = is_some (function_token p.bound p.function_default f.name)
      && (params_can p f.params && (may (typing p f.kind) && is_clean p f.body))

  pub function_means : (f : QueryFunction) → function_can f ≡ true
      → function_meant (set p) (named_by p f.name) (params p f.params) (typing_raw p f.kind)
      (raw_of p f.body) ≡ f
  function_means f c =
      let named : Bool = is_some (function_token p.bound p.function_default f.name) in
      let h = and_parts named
      (params_can p f.params && (may (typing p f.kind) && is_clean p f.body)) c in
      let i = and_parts (params_can p f.params) (may (typing p f.kind) && is_clean p f.body) h.1 in
      let j = and_parts (may (typing p f.kind)) (is_clean p f.body) i.1 in
      ap₂ (λ n xs. defined n xs (kind_meant (set p) (typing_raw p f.kind))
      (expr_meant (set p) (raw_of p f.body)))
      (named_so class.Function p.bound p.function_default f.name h.0).0 (params_mean f.params i.0)
      ∙ ap₂ (λ k e. defined f.name f.params k e) (kind_means f.kind j.0) (body_means f.body j.1)

  pub function_clean : (f : QueryFunction) → function_can f ≡ true
      → function_broken (set p) (named_by p f.name) (params p f.params) (typing_raw p f.kind)
      (raw_of p f.body) ≡ []
  function_clean f c =
      let named : Bool = is_some (function_token p.bound p.function_default f.name) in
      let h = and_parts named
      (params_can p f.params && (may (typing p f.kind) && is_clean p f.body)) c in
      let i = and_parts (params_can p f.params) (may (typing p f.kind) && is_clean p f.body) h.1 in
      let j = and_parts (may (typing p f.kind)) (is_clean p f.body) i.1 in
      ap₂ (λ xs ys. xs ++ ys)
      (named_so class.Function p.bound p.function_default f.name h.0).1
      (ap₂ (λ xs ys. xs ++ ys) (params_clean f.params i.0)
      (ap₂ (λ xs ys. xs ++ ys) (kind_clean f.kind j.0) (body_clean f.body j.1)))
