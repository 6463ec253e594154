-- The query of a stylesheet is regular and nests at most 400 levels, where the stylesheet
-- is regular and its instructions and expressions nest at most 40.
use Rattle.std.proofs.Common.{◌≡◌, ◌∙◌, ◌≤◌, ◌+◌, ◌*◌, ℕ, zero, suc, List, [], ◌∷◌, ◌++◌, map, refl, sym, subst, arith}
use Rattle.std.proofs.lemmas.Bool.{and_from, and_parts, le-leb}
use Rattle.std.specs.Prelude.{Bool, true, false, ◌&&◌, nat_le, filter, flat_map, slice_get, cond, Option, Some, None}
use Rattle.std.specs.List.{list_all}
use Rattle.xt_names.specs.declared.names.ExprName.{ExprName}
use Rattle.xt_forms.specs.Nest.{nest_of}
use Rattle.xt_forms.specs.Regular.{every, is_regular_expr, is_regular_kind}
use Rattle.xt_syntax.specs.declared.exprs.Expr.{Expr}
use Rattle.xt_syntax.specs.declared.patterns.Pattern.{Pattern}
use Rattle.xt_syntax.specs.declared.queries.QueryFunction.{QueryFunction}
use Rattle.xt_syntax.specs.declared.queries.QueryVar.{QueryVar}
use Rattle.xt_sheets.specs.declared.instrs.Instr.TheViews.{out-Bound, roll-Bound, roll-out-Bound}
use Rattle.xt_sheets.specs.declared.sheets.Global.{Global}
use Rattle.xt_sheets.specs.declared.sheets.KeyRule.{KeyRule}
use Rattle.xt_sheets.specs.declared.sheets.Rule.{Rule}
use Rattle.xt_sheets.specs.declared.sheets.Sheet.{Sheet}
use Rattle.xt_sheets.specs.declared.sheets.SheetFunction.{SheetFunction}
use Rattle.xt_sheets.specs.declared.sheets.Template.{Template}
use Rattle.closed_sheets.specs.SheetForms.InstrNest.{nests, nest_steps, bound_nest_of}
use Rattle.closed_sheets.specs.SheetForms.SheetNest.{global_nest_of, template_nest_of, function_nest_of, sheet_nest_of}
use Rattle.carried_exprs.specs.Sights.{local_uri}
use Rattle.translated_forms.specs.Leaves.{leaves, leaf_steps, bound_has_leaves, body_has_leaves, value_has_leaves}
use Rattle.translated_forms.specs.Names.{mode_function, rule_function, next_function, imports_function, named_function}
use Rattle.translated_forms.specs.Places.{Place, Table, of_rule, of_named, of_function}
use Rattle.translated_forms.proofs.Rolled.{TheBound, BoundForm, bound_rolled}
use Rattle.translated_forms.proofs.Fine.{Fine, more, fine_variable, fine_context, fine_one, fine_document}
use Rattle.translated_forms.proofs.FineDispatch.{fine_called, fine_none}
use Rattle.translated_forms.proofs.FineInstrs.{whole_body}
use Rattle.translation.specs.Found.{Found}
use Rattle.translation.specs.Globals.{global_variable, variable_of_global}
use Rattle.translation.specs.Keys.{functions_from, key_functions, key_function_of, rules_named}
use Rattle.translation.specs.Limits.{callee_has_leaves, key_has_leaves, sheet_has_leaves, keeps_limit}
use Rattle.translation.specs.Limits.{value_keeps_limit, keeps_limits}
use Rattle.rule_order.specs.Rules.{Ranked, all_ranked, ranked_from}
use Rattle.translation.specs.Ranks.{rules_in, lower_than, imported_into}
use Rattle.translation.specs.Rules.{choosing, if_there, overrides, of_template, rule_functions}
use Rattle.translation.specs.Rules.{mode_functions, modes_from, all_rule_functions}
use Rattle.translation.specs.Sheets.{helper_functions, functions_of, variables_of, body_of, query_with}
use Rattle.translation.specs.Tables.{key_names, found_in_template}
use Rattle.translation.specs.Templates.{named_before, named_functions, sheet_function, template_function, template_expr}
use Rattle.query_helpers.specs.LastBody.{items_name, last_function}
use Rattle.query_helpers.specs.NodesBody.{nodes_function}
use Rattle.query_helpers.specs.SimpleBody.{simple_function}
use Rattle.query_helpers.specs.CopyBody.{copy_function}
use Rattle.translation.proofs.FineHelpers.{fine_last_body, fine_simple_body, fine_copy_body}
use Rattle.translation.proofs.FineParts.{fine_template_expr, fine_choosing, fine_key_body, fine_global_value}
use Rattle.xt_names.specs.Lists.{greatest}

-- an expression of few levels keeps the limit
fine_keeps : (n : ℕ) (e : Expr) → n ≤ 400 → Fine n e → keeps_limit e ≡ true
unfolding keeps_limit
fine_keeps n e l h =
    let i = h.nests in
    and_from (nat_le (nest_of e) 400) (is_regular_expr e) (le-leb (nest_of e) 400 (omega arith)) h.is_regular

abbrev body_keeps : QueryFunction → Bool
body_keeps f = keeps_limit f.body

abbrev All : List QueryFunction → Type 0
All fs = list_all body_keeps fs ≡ true

all_joined : (fs gs : List QueryFunction) → All fs → All gs → All (fs ++ gs)
all_joined [] gs h i = i
all_joined (f ∷ fs) gs h i =
    let q = and_parts (body_keeps f) (list_all body_keeps fs) h in
    and_from (body_keeps f) (list_all body_keeps (fs ++ gs)) q.0 (all_joined fs gs q.1 i)

one_more : (f : QueryFunction) (fs : List QueryFunction) → body_keeps f ≡ true → All fs → All (f ∷ fs)
one_more f fs h i = and_from (body_keeps f) (list_all body_keeps fs) h i

-- what is filtered
filter_choice : {A : Type 0} (test : A → Bool) (c : Bool) (x : A) (xs : List A) → test x ≡ true →
    list_all test xs ≡ true → list_all test (cond c (x ∷ xs) xs) ≡ true
filter_choice test true x xs h i = and_from (test x) (list_all test xs) h i
filter_choice test false x xs h i = i

all_filtered : {A : Type 0} (test keep : A → Bool) (xs : List A) → list_all test xs ≡ true →
    list_all test (filter keep xs) ≡ true
all_filtered test keep [] h = refl
all_filtered test keep (x ∷ xs) h =
    let q = and_parts (test x) (list_all test xs) h in
    filter_choice test (keep x) x (filter keep xs) q.0 (all_filtered test keep xs q.1)

module _ (t : Table) (keys : (name : List ℕ) → (t.keys name).uri ≡ local_uri)
    (tested : Pattern → Bool) (matches : (p : Pattern) → tested p ≡ true → Fine 60 (t.matches p)) where
  -- templates
  abbrev AreFine : List Template → Type 0
  AreFine ts = (list_all (λ x. callee_has_leaves tested x.params x.body) ts ≡ true)
      × (greatest (map template_nest_of ts) ≤ 40)

  template_keeps : (p : Place) (x : Template) → callee_has_leaves tested x.params x.body ≡ true →
      template_nest_of x ≤ 40 → keeps_limit (template_expr t p x) ≡ true
  template_keeps p x h l =
      fine_keeps 400 _ (omega arith) (fine_template_expr t keys tested matches p x h l)

  abbrev IfFine : Option Template → Type 0
  IfFine None = Unit {0}
  IfFine (Some x) = (callee_has_leaves tested x.params x.body ≡ true) × (template_nest_of x ≤ 40)

  template_got : (ts : List Template) → AreFine ts → (i : ℕ) → IfFine (slice_get ts i)
  template_got [] h i = tt
  template_got (x ∷ ts) h zero =
      let q = and_parts (callee_has_leaves tested x.params x.body)
      (list_all (λ x. callee_has_leaves tested x.params x.body) ts) h.0 in
      let l = h.1 in (q.0, omega arith)
  template_got (x ∷ ts) h (suc i) =
      let q = and_parts (callee_has_leaves tested x.params x.body)
      (list_all (λ x. callee_has_leaves tested x.params x.body) ts) h.0 in
      let l = h.1 in template_got ts (q.1, omega arith) i

  -- rules
  abbrev rule_tested : Ranked → Bool
  rule_tested r = tested r.rule.pattern

  placed_tested : (n : ℕ) (rules : List Rule) → list_all (λ r. tested r.pattern) rules ≡ true →
      list_all rule_tested (ranked_from n rules) ≡ true
  placed_tested n [] h = refl
  placed_tested n (r ∷ rules) h =
      let q = and_parts (tested r.pattern) (list_all (λ r. tested r.pattern) rules) h in
      and_from (tested r.pattern) (list_all rule_tested (ranked_from (suc n) rules)) q.0
      (placed_tested (suc n) rules q.1)

  choosing_keeps : (name : ExprName) (mode : ℕ) (rules : List Ranked) →
      list_all rule_tested rules ≡ true → body_keeps (choosing t name mode rules) ≡ true
  choosing_keeps name mode rules h =
      fine_keeps 61 _ (omega arith) (fine_choosing t keys tested matches mode rules h)

  there_keeps : (b : Bool) (f : QueryFunction) → body_keeps f ≡ true → All (if_there b f)
  there_keeps true f h = one_more f [] h refl
  there_keeps false f h = refl

  module _ (s : Sheet) (templates : AreFine s.templates)
      (rules_tested : list_all (λ r. tested r.pattern) s.rules ≡ true) where
    overrides_keep : (mode : ℕ) (rules : List Ranked) (r : Ranked) (found : Found) →
        list_all rule_tested rules ≡ true → All (overrides t s mode rules r found)
    overrides_keep mode rules r found h =
        all_joined _ _
        (there_keeps found.next (choosing t (next_function r.rank.place mode) mode (lower_than r rules))
        (choosing_keeps (next_function r.rank.place mode) mode (lower_than r rules) (all_filtered rule_tested _ rules h)))
        (there_keeps found.imports (choosing t (imports_function r.rank.place mode) mode (imported_into s.levels r rules))
        (choosing_keeps (imports_function r.rank.place mode) mode (imported_into s.levels r rules)
        (all_filtered rule_tested _ rules h)))

    template_keep : (mode : ℕ) (rules : List Ranked) (r : Ranked) (x : Option Template) →
        list_all rule_tested rules ≡ true → IfFine x → All (of_template t s mode rules r x)
    template_keep mode rules r None h i = refl
    template_keep mode rules r (Some x) h i =
        one_more (template_function t (rule_function r.rank.place mode) (of_rule r.rank.place mode) x)
        (overrides t s mode rules r (found_in_template x)) (template_keeps (of_rule r.rank.place mode) x i.0 i.1)
        (overrides_keep mode rules r (found_in_template x) h)

    rules_keep : (mode : ℕ) (all rules : List Ranked) → list_all rule_tested all ≡ true →
        All (flat_map (rule_functions t s mode all) rules)
    rules_keep mode all [] h = refl
    rules_keep mode all (r ∷ rules) h =
        all_joined (rule_functions t s mode all r) (flat_map (rule_functions t s mode all) rules)
        (template_keep mode all r (slice_get s.templates r.rule.template) h
        (template_got s.templates templates r.rule.template)) (rules_keep mode all rules h)

    modes_keep : (mode : ℕ) (modes : List ExprName) → All (modes_from t s mode modes)
    modes_keep mode [] = refl
    modes_keep mode (m ∷ modes) =
        let here = all_filtered rule_tested _ (all_ranked s.rules) (placed_tested 1 s.rules rules_tested) in
        all_joined (mode_functions t s mode) (modes_from t s (suc mode) modes)
        (one_more (choosing t (mode_function mode) mode (rules_in mode s.rules))
        (flat_map (rule_functions t s mode (rules_in mode s.rules)) (rules_in mode s.rules))
        (choosing_keeps (mode_function mode) mode (rules_in mode s.rules) here)
        (rules_keep mode (rules_in mode s.rules) (rules_in mode s.rules) here)) (modes_keep (suc mode) modes)

  -- named templates
  abbrev Rest : (ℕ → List QueryFunction) → Type 0
  Rest rest = (n : ℕ) → All (rest n)

  named_keeps : (n : ℕ) (x : Template) (name : Option ExprName) (rest : ℕ → List QueryFunction) →
      callee_has_leaves tested x.params x.body ≡ true → template_nest_of x ≤ 40 → Rest rest →
      All (named_before t n x name rest)
  named_keeps n x None rest h l i = i n
  named_keeps n x (Some name) rest h l i =
      one_more (template_function t (named_function n) of_named x) (rest (suc n)) (template_keeps of_named x h l) (i (suc n))

  all_named : (ts : List Template) → AreFine ts → Rest (named_functions t ts)
  all_named [] h n = refl
  all_named (x ∷ ts) h n =
      let q = and_parts (callee_has_leaves tested x.params x.body)
      (list_all (λ x. callee_has_leaves tested x.params x.body) ts) h.0 in let l = h.1 in
      named_keeps n x x.name (named_functions t ts) q.0 (omega arith) (all_named ts (q.1, omega arith))

  -- keys
  keys_keep : (ks : List KeyRule) → list_all (key_has_leaves tested) ks ≡ true → (n : ℕ)
      (names : List (List ℕ)) → All (functions_from t ks n names)
  keys_keep ks h n [] = refl
  keys_keep ks h n (name ∷ names) =
      one_more (key_function_of t n (rules_named ks name)) (functions_from t ks (suc n) names) (fine_keeps 66 _ (omega arith)
      (fine_key_body t keys tested matches (rules_named ks name) (all_filtered (key_has_leaves tested) _ ks h)))
      (keys_keep ks h (suc n) names)

  -- functions of the stylesheet
  functions_keep : (fs : List SheetFunction) →
      list_all (λ f. callee_has_leaves tested f.params f.body) fs ≡ true →
      greatest (map function_nest_of fs) ≤ 40 → All (map (sheet_function t) fs)
  functions_keep [] h l = refl
  functions_keep (f ∷ fs) h l =
      let q = and_parts (callee_has_leaves tested f.params f.body)
      (list_all (λ f. callee_has_leaves tested f.params f.body) fs) h in
      let r = and_parts (every (map (bound_has_leaves tested) f.params)) (body_has_leaves tested f.body) q.0 in
      one_more (sheet_function t f) (map (sheet_function t) fs) (fine_keeps (6 * 40 + 71) _ (omega arith)
      (whole_body t keys tested matches of_function f.body r.1 40 (omega arith)))
      (functions_keep fs q.1 (omega arith))

  -- globals
  abbrev variable_keeps : QueryVar → Bool
  variable_keeps v = value_keeps_limit v.value

  bound_keeps : (param : Bool) (x : BoundForm) → bound_has_leaves tested (roll-Bound Expr Pattern x) ≡ true →
      bound_nest_of (roll-Bound Expr Pattern x) ≤ 40 →
      variable_keeps (global_variable t param (roll-Bound Expr Pattern x)) ≡ true
  unfolding value_keeps_limit
  bound_keeps true x h l = refl
  bound_keeps false x h l =
      let r : (is_regular_kind x.kind && value_has_leaves tested x.value) ≡ true =
      sym (bound_rolled leaves (leaf_steps tested) x) ∙ h in
      let q = and_parts (is_regular_kind x.kind) (value_has_leaves tested x.value) r in
      let g = bound_rolled nests nest_steps x in
      fine_keeps 400 _ (omega arith)
      (fine_global_value t keys tested matches x.value x.kind q.1 (omega arith) q.0)

  global_keeps : (param : Bool) (b : TheBound) → bound_has_leaves tested b ≡ true → bound_nest_of b ≤ 40 →
      variable_keeps (global_variable t param b) ≡ true
  global_keeps param b =
      subst (λ x. bound_has_leaves tested x ≡ true → bound_nest_of x ≤ 40 →
      variable_keeps (global_variable t param x) ≡ true)
      (roll-out-Bound Expr Pattern b) (bound_keeps param (out-Bound Expr Pattern b))

  globals_keep : (gs : List Global) → list_all (λ g. bound_has_leaves tested g.bound) gs ≡ true →
      greatest (map global_nest_of gs) ≤ 40 →
      list_all variable_keeps (map (variable_of_global t) gs) ≡ true
  globals_keep [] h l = refl
  globals_keep (g ∷ gs) h l =
      let q = and_parts (bound_has_leaves tested g.bound) (list_all (λ g. bound_has_leaves tested g.bound) gs) h in
      and_from (variable_keeps (variable_of_global t g)) (list_all variable_keeps (map (variable_of_global t) gs))
      (global_keeps g.param g.bound q.0 (omega arith)) (globals_keep gs q.1 (omega arith))

  -- helpers
  helpers_keep : All helper_functions
  helpers_keep =
      one_more nodes_function (last_function ∷ simple_function ∷ copy_function ∷ [])
      (fine_keeps 1 _ (omega arith) (fine_variable items_name))
      (one_more last_function (simple_function ∷ copy_function ∷ [])
      (fine_keeps 10 _ (omega arith) fine_last_body)
      (one_more simple_function (copy_function ∷ []) (fine_keeps 11 _ (omega arith) fine_simple_body)
      (one_more copy_function [] (fine_keeps 6 _ (omega arith) fine_copy_body) refl)))

  pub query_keeps : (s : Sheet) → sheet_has_leaves tested s ≡ true → sheet_nest_of s ≤ 40 →
      keeps_limits (query_with t s) ≡ true
  unfolding sheet_has_leaves keeps_limits
  query_keeps s h l =
      let gs = list_all (λ g. bound_has_leaves tested g.bound) s.globals in
      let ts = list_all (λ x. callee_has_leaves tested x.params x.body) s.templates in
      let rs = list_all (λ r. tested r.pattern) s.rules in
      let fs = list_all (λ f. callee_has_leaves tested f.params f.body) s.functions in
      let ks = list_all (key_has_leaves tested) s.keys in
      let a = and_parts gs (ts && (rs && (fs && ks))) h in
      let b = and_parts ts (rs && (fs && ks)) a.1 in
      let c = and_parts rs (fs && ks) b.1 in
      let d = and_parts fs ks c.1 in
      let templates : AreFine s.templates = (b.0, omega arith) in
      and_from (list_all variable_keeps (variables_of t s)) (list_all body_keeps (functions_of t s) && keeps_limit (body_of t))
      (globals_keep s.globals a.0 (omega arith))
      (and_from (list_all body_keeps (functions_of t s)) (keeps_limit (body_of t))
      (all_joined (all_rule_functions t s) _ (modes_keep s templates c.0 0 s.modes)
      (all_joined (named_functions t s.templates 1) _ (all_named s.templates templates 1)
      (all_joined (key_functions t s.keys) _ (keys_keep s.keys d.1 1 (key_names s.keys))
      (all_joined helper_functions _ helpers_keep (functions_keep s.functions d.0 (omega arith))))))
      (fine_keeps 3 _ (omega arith)
      (fine_document 2 _ (fine_called _ _
      (more fine_context (more fine_one (more fine_one (fine_none t.params))))))))
