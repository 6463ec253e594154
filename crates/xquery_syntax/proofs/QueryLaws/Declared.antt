-- Variables and functions that break no rule in how they are written are regular and sound.
use Rattle.std.proofs.Common.{◌≡◌, ℕ, List, [], ◌∷◌, ◌++◌, map, Bool, true, false, ◌&&◌, Option}
use Rattle.std.proofs.Common.{Some, None, option_map, refl, sym, ap, subst, ◌∙◌}
use Rattle.std.proofs.lemmas.Bool.{and_parts, and_from}
use Rattle.std.specs.List.{list_all}
use Rattle.xt_types.specs.Regular.{is_regular_type}
use Rattle.closed_queries.specs.Closed.{is_good_kind, is_good_expr, is_good_value}
use Rattle.closed_queries.specs.Closed.{is_good_variable, is_good_param, is_good_function}
use Rattle.closed_queries.specs.Texts.{is_sound_type}
use Rattle.expr_terms.specs.declared.raws.Raw.{Raw}
use Rattle.expr_keys.specs.declared.tokens.Token.{Token}
use Rattle.expr_rules.specs.ExprMeant.Names.{written_in}
use Rattle.expr_resolve.specs.declared.setting.Setting.{Setting}
use Rattle.expr_resolve.specs.Folds.{value_of, broken_of, expr_meant, type_broken, type_meant}
use Rattle.expr_rules.specs.Rules.{type_broken_of}
use Rattle.expr_rules.specs.ExprShapes.Shapes.{is_shaped}
use Rattle.sound_expressions.proofs.ExprRegular.Regular.{whole_good, single_good, type_regular, type_sound}
use Rattle.query_grammar.specs.declared.declared.Declared.{Declared}
use Rattle.query_grammar.specs.declared.declared.Declared.TheVariants as declared
use Rattle.query_grammar.specs.declared.declared.Typed.{Typed}
use Rattle.xquery_syntax.specs.QueryLaws.Shapes.{is_shaped_value, is_shaped_in}
use Rattle.query_options.specs.declared.options.Options.{Options}
use Rattle.query_resolve.specs.Declarations.{name_broken, kind_broken, kind_meant, value_broken}
use Rattle.query_resolve.specs.Declarations.{typed_broken, param_meant, params_broken}
use Rattle.query_resolve.specs.Declarations.{params_meant, variable_broken, variable_meant}
use Rattle.query_resolve.specs.Declarations.{function_broken, function_meant}
use Rattle.query_resolve.specs.Late.{declaration_in, options_behind, late_broken}
use Rattle.query_resolve.specs.Late.{declarations_of, all_broken}
use Rattle.query_resolve.specs.Queries.{variable_and, variables_in, function_and, functions_in}
use Rattle.sound_expressions.specs.SoundForms.Sound.{SoundPrefixes}
use Rattle.sound_expressions.proofs.SoundForms.NameLemmas.{expr_name_good, no_uri, name_written, function_written}
use Rattle.xquery_syntax.proofs.QueryLaws.Told.{IsKind, IsInitial, IsBody, IfKind, IfInitial, ToldTyped}
use Rattle.xquery_syntax.proofs.QueryLaws.Told.{AllTyped, Told, AllTold}
use Rattle.xt_names.proofs.ListLemmas.{front_nil, back_nil}

module _ (s : Setting) (u : SoundPrefixes s.prefixes) where
  kind_good : (k : Option Raw) → IfKind k → kind_broken s k ≡ []
      → is_good_kind (kind_meant s k) ≡ true
  unfolding kind_broken is_good_kind
  kind_good None i e = refl
  kind_good (Some k) i e =
      let b = front_nil (broken_of s k) (type_broken_of s.prefixes.bound (value_of s k)) e in
      let r = type_regular s u i.sound i.spelled b in
      let t = type_sound s u i.sound i.spelled b in
      rw (r, t) refl

  value_good : (w : Option Raw) → IfInitial w → value_broken s w ≡ []
      → is_shaped_value w ≡ true → is_good_value (option_map (expr_meant s) w) ≡ true
  unfolding value_broken is_shaped_value is_good_value
  value_good None i e h = refl
  value_good (Some w) i e h = single_good s u i.sound i.spelled h e

  variable_good : (v : Typed) (w : Option Raw) → ToldTyped v → IfInitial w
      → variable_broken s v w ≡ [] → is_shaped_value w ≡ true
      → is_good_variable (variable_meant s v w) ≡ true
  unfolding is_good_variable
  variable_good v w t i e h =
      let a = front_nil (typed_broken s v) (value_broken s w) e in
      let b = back_nil (typed_broken s v) (value_broken s w) e in
      let k = kind_good v.kind t.kind (back_nil (name_broken s v.name) (kind_broken s v.kind) a) in
      let x = value_good w i b h in
      let n = expr_name_good s.prefixes.bound [] (written_in v.name) u.bound no_uri
      (name_written v.name t.fits t.sound) in
      rw (n, k, x) refl

  param_good : (v : Typed) → ToldTyped v → typed_broken s v ≡ []
      → is_good_param (param_meant s v) ≡ true
  unfolding is_good_param
  param_good v t e =
      let k = kind_good v.kind t.kind (back_nil (name_broken s v.name) (kind_broken s v.kind) e) in
      let n = expr_name_good s.prefixes.bound [] (written_in v.name) u.bound no_uri
      (name_written v.name t.fits t.sound) in
      rw (n, k) refl

  params_good : (ps : List Typed) → AllTyped ps → params_broken s ps ≡ []
      → list_all is_good_param (params_meant s ps) ≡ true
  params_good [] t e = refl
  params_good (p ∷ ps) t e =
      and_from (is_good_param (param_meant s p)) _
      (param_good p t.0 (front_nil (typed_broken s p) (params_broken s ps) e))
      (params_good ps t.1 (back_nil (typed_broken s p) (params_broken s ps) e))

  function_good : (n : Token) (ps : List Typed) (k : Option Raw) (w : Raw)
      → Told (declared.Function n ps k w) → function_broken s n ps k w ≡ [] → is_shaped w ≡ true
      → is_good_function (function_meant s n ps k w) ≡ true
  unfolding is_good_function
  function_good n ps k w t e h =
      let a = back_nil (name_broken s n) (params_broken s ps ++ (kind_broken s k ++ broken_of s w)) e in
      let b = back_nil (params_broken s ps) (kind_broken s k ++ broken_of s w) a in
      let name = expr_name_good s.prefixes.bound s.prefixes.function_default (written_in n) u.bound
      u.function (function_written n t.0 t.1) in
      let params =
      params_good ps t.2 (front_nil (params_broken s ps) (kind_broken s k ++ broken_of s w) a) in
      let kind = kind_good k t.3 (front_nil (kind_broken s k) (broken_of s w) b) in
      let body = whole_good s u t.4.sound t.4.spelled h (back_nil (kind_broken s k) (broken_of s w) b) in
      rw (name, params, kind, body) refl

  pub body_good : (w : Raw) → IsBody w → broken_of s w ≡ [] → is_shaped w ≡ true
      → is_good_expr (expr_meant s w) ≡ true
  body_good w i e h = whole_good s u i.sound i.spelled h e

  pub record GoodOnes (ds : List Declared) : Type 0 where
    pub variables : list_all is_good_variable (variables_in (declarations_of s ds)) ≡ true
    pub functions : list_all is_good_function (functions_in (declarations_of s ds)) ≡ true

  pub ones_good : (o : Options) (ds : List Declared) → AllTold ds → all_broken s o ds ≡ []
      → list_all is_shaped_in ds ≡ true → GoodOnes ds
  unfolding late_broken declaration_in variable_and function_and is_shaped_in
  ones_good o [] t e h = record { variables = refl; functions = refl }
  ones_good o (declared.Variable v w ∷ ds) t e h =
      let p = options_behind s o (declared.Variable v w) in
      let a = and_parts (is_shaped_value w) (list_all is_shaped_in ds) h in
      let r = ones_good p ds t.1 (back_nil (variable_broken s v w) (all_broken s p ds) e) a.1 in
      let g = variable_good v w t.0.0 t.0.1
      (front_nil (variable_broken s v w) (all_broken s p ds) e) a.0 in
      record { variables = and_from _ _ g r.variables; functions = r.functions }
  ones_good o (declared.Function n ps k w ∷ ds) t e h =
      let p = options_behind s o (declared.Function n ps k w) in
      let a = and_parts (is_shaped w) (list_all is_shaped_in ds) h in
      let r = ones_good p ds t.1 (back_nil (function_broken s n ps k w) (all_broken s p ds) e) a.1 in
      let g = function_good n ps k w t.0
      (front_nil (function_broken s n ps k w) (all_broken s p ds) e) a.0 in
      record { variables = r.variables; functions = and_from _ _ g r.functions }
  ones_good o (d ∷ ds) t e h =
      let p = options_behind s o d in
      let r = ones_good p ds t.1 (back_nil (late_broken s o d) (all_broken s p ds) e)
      (and_parts (is_shaped_in d) (list_all is_shaped_in ds) h).1 in
      record { variables = r.variables; functions = r.functions }
