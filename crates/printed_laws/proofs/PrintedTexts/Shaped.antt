-- The direct elements of a query that is printed end alike.
use Rattle.std.proofs.Common.{◌≡◌, List, [], ◌∷◌, ◌++◌, map, Bool, true, false, ◌&&◌, refl}
use Rattle.std.proofs.Common.{Option, Some, None, is_some}
use Rattle.std.proofs.lemmas.Bool.{and_parts, and_from}
use Rattle.std.specs.List.{list_all}
use Rattle.xt_names.specs.declared.names.Binding.{Binding}
use Rattle.xt_types.specs.declared.node_tests.SpaceRule.{SpaceRule}
use Rattle.xt_forms.specs.Regular.{is_regular_expr}
use Rattle.xt_syntax.specs.declared.exprs.Expr.{Expr}
use Rattle.xt_syntax.specs.declared.prefixes.Prefixes.{Prefixes}
use Rattle.xt_syntax.specs.declared.queries.Query.{Query}
use Rattle.xt_syntax.specs.declared.queries.QueryVar.{QueryVar}
use Rattle.xt_syntax.specs.declared.queries.QueryFunction.{QueryFunction}
use Rattle.closed_queries.specs.Texts.{is_sound_expr_name, is_free_binding, is_free_uri}
use Rattle.closed_queries.specs.Texts.{is_sound_name_test}
use Rattle.closed_queries.specs.ExprTexts.{has_sound_texts}
use Rattle.closed_queries.specs.Closed.{is_good_kind, is_good_expr, is_good_value, is_good_variable}
use Rattle.closed_queries.specs.Closed.{is_good_param, is_good_function, has_good_parts, is_closed}
use Rattle.closed_queries.specs.Closed.{has_different_names, query_keeps_names}
use Rattle.expr_rules.specs.ExprShapes.Shapes.{is_shaped}
use Rattle.xquery_syntax.specs.QueryLaws.Shapes.{is_shaped_value, is_shaped_in, is_shaped_query}
use Rattle.expr_raws.specs.ControlRaws.Bindings.{typing, may}
use Rattle.expr_raws.specs.PathRaws.Forms.{single}
use Rattle.expr_raws.specs.PathRaws.Names.{function_token}
use Rattle.expr_raws.specs.Raws.{form_of, is_printable}
use Rattle.raw_laws.specs.CleanRaws.Keeps.{keeps_rules}
use Rattle.raw_laws.proofs.ShapedRaws.Shaped.{at_shaped}
use Rattle.raw_laws.proofs.ShapedRaws.Forms.{printable_shaped}
use Rattle.printed_laws.specs.QueryRaws.Prologs as forms
use Rattle.printed_laws.specs.QueryRaws.Prologs.{DeclaredForm, space_option, omit_option}
use Rattle.printed_laws.specs.QueryRaws.Declarations as made
use Rattle.printed_laws.specs.QueryRaws.Declarations.{typed_can, is_clean, value_raw, value_can, params_can}
use Rattle.printed_laws.specs.QueryRaws.Queries.{prefixes_of, options, late, declarations, raws, raw_query}
use Rattle.printed_laws.specs.QueryRaws.Queries.{all_can, can_print}

sound_of : (e : Expr) → is_good_expr e ≡ true → has_sound_texts e ≡ true
unfolding is_good_expr
sound_of e h = (and_parts (is_regular_expr e) (has_sound_texts e) h).1

module _ (p : Prefixes) where
  value_so : (o : Option Expr) → value_can p o ≡ true → is_good_value o ≡ true
      → is_shaped_value (value_raw p o) ≡ true
  unfolding is_shaped_value is_good_value
  value_so None c g = refl
  value_so (Some e) c g = at_shaped single (form_of p e)
      (printable_shaped p e (sound_of e g) (and_parts (is_printable p e) (keeps_rules e) c).0)

  variable_so : (v : QueryVar) → (made.variable p v).can ≡ true → is_good_variable v ≡ true
      → is_shaped_in (made.variable p v).raw ≡ true
  unfolding is_shaped_in is_good_variable
  variable_so v c g =
      value_so v.value (and_parts (typed_can p v.name v.kind) (value_can p v.value) c).1
      (and_parts (is_good_kind v.kind) (is_good_value v.value)
      (and_parts (is_sound_expr_name v.name) (is_good_kind v.kind && is_good_value v.value) g).1).1

  function_so : (f : QueryFunction) → (made.function p f).can ≡ true
      → is_good_function f ≡ true → is_shaped_in (made.function p f).raw ≡ true
  unfolding is_shaped_in is_good_function
  function_so f c g =
      let named : Bool = is_some (function_token p.bound p.function_default f.name) in
      let h = and_parts named
      (params_can p f.params && (may (typing p f.kind) && is_clean p f.body)) c in
      let i = and_parts (params_can p f.params) (may (typing p f.kind) && is_clean p f.body) h.1 in
      let j = and_parts (may (typing p f.kind)) (is_clean p f.body) i.1 in
      let params : Bool = list_all is_good_param f.params in
      let u = and_parts (is_sound_expr_name f.name)
      (params && (is_good_kind f.kind && is_good_expr f.body)) g in
      let v = and_parts params (is_good_kind f.kind && is_good_expr f.body) u.1 in
      let w = and_parts (is_good_kind f.kind) (is_good_expr f.body) v.1 in
      printable_shaped p f.body (sound_of f.body w.1)
      (and_parts (is_printable p f.body) (keeps_rules f.body) j.1).0

abbrev all_in : List DeclaredForm → Bool
all_in fs = list_all is_shaped_in (raws fs)

append_in : (fs gs : List DeclaredForm) → all_in fs ≡ true → all_in gs ≡ true
    → all_in (fs ++ gs) ≡ true
append_in [] gs a b = b
append_in (f ∷ fs) gs a b =
    let h = and_parts (is_shaped_in f.raw) (all_in fs) a in
    and_from (is_shaped_in f.raw) (all_in (fs ++ gs)) h.0 (append_in fs gs h.1 b)

all_parts : (fs gs : List DeclaredForm) → all_can (fs ++ gs) ≡ true
    → (all_can fs ≡ true) × (all_can gs ≡ true)
all_parts [] gs c = (refl, c)
all_parts (f ∷ fs) gs c =
    let h = and_parts f.can (all_can (fs ++ gs)) c in
    let i = all_parts fs gs h.1 in
    (and_from f.can (all_can fs) h.0 i.0, i.1)

-- what has no expressions
simple_in : (bs : List Binding) → all_in (map (λ b. forms.namespace b) bs) ≡ true
unfolding is_shaped_in
simple_in [] = refl
simple_in (b ∷ bs) = simple_in bs

space_in : (p : Prefixes) (rs : List SpaceRule) → all_in (space_option p rs) ≡ true
unfolding is_shaped_in
space_in p [] = refl
space_in p (r ∷ rs) = refl

omit_in : (p : Prefixes) (b : Bool) → all_in (omit_option p b) ≡ true
unfolding is_shaped_in
omit_in p true = refl
omit_in p false = refl

front_in : is_shaped_in forms.version.raw ≡ true
unfolding is_shaped_in
front_in = refl

preserved_in : (fs : List DeclaredForm) → all_in fs ≡ true → all_in (forms.preserved ∷ fs) ≡ true
unfolding is_shaped_in
preserved_in fs a = a

variables_in : (p : Prefixes) (vs : List QueryVar)
    → all_can (map (λ v. made.variable p v) vs) ≡ true → list_all is_good_variable vs ≡ true
    → all_in (map (λ v. made.variable p v) vs) ≡ true
variables_in p [] c g = refl
variables_in p (v ∷ vs) c g =
    let more : List DeclaredForm = map (λ w. made.variable p w) vs in
    let h = and_parts (made.variable p v).can (all_can more) c in
    let i = and_parts (is_good_variable v) (list_all is_good_variable vs) g in
    and_from (is_shaped_in (made.variable p v).raw) (all_in more) (variable_so p v h.0 i.0)
    (variables_in p vs h.1 i.1)

functions_in : (p : Prefixes) (fs : List QueryFunction)
    → all_can (map (λ f. made.function p f) fs) ≡ true → list_all is_good_function fs ≡ true
    → all_in (map (λ f. made.function p f) fs) ≡ true
functions_in p [] c g = refl
functions_in p (f ∷ fs) c g =
    let more : List DeclaredForm = map (λ w. made.function p w) fs in
    let h = and_parts (made.function p f).can (all_can more) c in
    let i = and_parts (is_good_function f) (list_all is_good_function fs) g in
    and_from (is_shaped_in (made.function p f).raw) (all_in more) (function_so p f h.0 i.0)
    (functions_in p fs h.1 i.1)

-- what the good parts of a query are
record Good (q : Query) : Type 0 where
  variables : list_all is_good_variable q.variables ≡ true
  functions : list_all is_good_function q.functions ≡ true
  body : is_good_expr q.body ≡ true

good_parts : (q : Query) → is_closed q ≡ true → Good q
unfolding is_closed has_good_parts
good_parts q c =
    let vs : Bool = list_all is_good_variable q.variables in
    let fs : Bool = list_all is_good_function q.functions in
    let tests : Bool = list_all (λ r. is_sound_name_test r.test) q.space in
    let h = and_parts (has_good_parts q) (has_different_names q && query_keeps_names q) c in
    let i = and_parts (list_all is_free_binding q.prefixes)
    (is_free_uri q.element_default && (vs && (fs && (is_good_expr q.body && tests)))) h.0 in
    let j = and_parts (is_free_uri q.element_default)
    (vs && (fs && (is_good_expr q.body && tests))) i.1 in
    let k = and_parts vs (fs && (is_good_expr q.body && tests)) j.1 in
    let l = and_parts fs (is_good_expr q.body && tests) k.1 in
    record {
      variables = k.0;
      functions = l.0;
      body = (and_parts (is_good_expr q.body) tests l.1).0;
    }

pub query_shaped : (q : Query) → can_print q ≡ true → is_closed q ≡ true
    → is_shaped_query (raw_query q) ≡ true
query_shaped q c d =
    let p : Prefixes = prefixes_of q in
    let g = good_parts q d in
    let vs : List DeclaredForm = map (λ v. made.variable p v) q.variables in
    let fs : List DeclaredForm = map (λ f. made.function p f) q.functions in
    let bs : List DeclaredForm = map (λ b. forms.namespace b) q.prefixes in
    let h = and_parts (all_can (declarations q)) (is_clean p q.body) c in
    let i = and_parts (is_printable p q.body) (keeps_rules q.body) h.1 in
    let j = all_parts bs (forms.preserved ∷ late q) h.0 in
    let k = all_parts (options q) (vs ++ fs) j.1 in
    let l = all_parts vs fs k.1 in
    and_from (list_all is_shaped_in (raw_query q).declared) (is_shaped (raw_query q).body)
    (and_from (is_shaped_in forms.version.raw) (all_in (bs ++ forms.preserved ∷ late q)) front_in
    (append_in bs (forms.preserved ∷ late q) (simple_in q.prefixes)
    (preserved_in (late q) (append_in (options q) (vs ++ fs)
    (append_in (space_option p q.space) (omit_option p q.omit) (space_in p q.space)
    (omit_in p q.omit))
    (append_in vs fs (variables_in p q.variables l.0 g.variables)
    (functions_in p q.functions l.1 g.functions))))))
    (printable_shaped p q.body (sound_of q.body g.body) i.0)
