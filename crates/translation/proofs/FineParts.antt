-- Templates, functions, keys, globals and rules of a stylesheet: regular, and of so many levels at most.
use Rattle.std.proofs.Common.{◌≡◌, ◌∙◌, ◌≤◌, ◌+◌, ◌*◌, ℕ, suc, List, [], ◌∷◌, map, refl, sym, ap, subst, arith}
use Rattle.std.proofs.lemmas.Bool.{and_from, and_parts}
use Rattle.std.specs.Prelude.{Bool, true, false, ◌&&◌, codes, Option, if◌then◌else◌}
use Rattle.std.specs.List.{list_all}
use Rattle.xt_types.specs.Regular.{is_regular_test}
use Rattle.xt_types.specs.declared.axes.Axis.TheVariants.{Attribute, DescendantOrSelf}
use Rattle.xt_types.specs.declared.node_tests.Test.TheVariants.{Node}
use Rattle.xt_types.specs.declared.types.SeqType.{SeqType}
use Rattle.xt_forms.specs.Regular.{every, is_regular_kind}
use Rattle.xt_syntax.specs.declared.exprs.Expr.{Expr}
use Rattle.xt_syntax.specs.declared.exprs.Clause.TheOpen.{Comma}
use Rattle.xt_syntax.specs.declared.patterns.Pattern.{Pattern}
use Rattle.xt_sheets.specs.declared.instrs.Instr.TheOpen.{Select, Body, EmptyText, EmptyList, Required}
use Rattle.xt_sheets.specs.declared.instrs.Instr.TheViews.{out-Value, roll-Value, roll-out-Value}
use Rattle.xt_sheets.specs.declared.instrs.Instr.TheViews.{out-Bound, roll-Bound, roll-out-Bound}
use Rattle.xt_sheets.specs.declared.sheets.KeyRule.{KeyRule}
use Rattle.xt_sheets.specs.declared.sheets.Template.{Template}
use Rattle.closed_sheets.specs.SheetForms.InstrNest.{bound_nest_of, value_nest_of}
use Rattle.closed_sheets.specs.SheetForms.SheetNest.{template_nest_of}
use Rattle.carried_exprs.specs.Sights.{focused, item_name, key_name, variable_of, the_item, nothing, local_uri}
use Rattle.carried_exprs.specs.Sights.{value_name}
use Rattle.carried_exprs.proofs.RegularRolled.{regular_expr_rolled}
use Rattle.translated_forms.specs.Forms.{bind_of, for_clause, arm_of}
use Rattle.translated_forms.specs.Leaves.{leaves, leaf_steps, is_leaf, bound_has_leaves, body_has_leaves, value_has_leaves}
use Rattle.translated_forms.specs.Places.{Place, Table, of_global, use_setting, setting_at}
use Rattle.translated_forms.specs.Groups.{Named, in_body, needed}
use Rattle.translated_forms.specs.Dispatch.{first_that_matches}
use Rattle.translated_forms.specs.Instrs.{parts, part_steps, translated_bound, translated_body}
use Rattle.translated_forms.proofs.Rolled.{TheBound, TheValue, BoundForm, ValueForm, bound_rolled, value_rolled}
use Rattle.translated_forms.proofs.Fine.{fine_items, Fine, FineClause, Every, none, more, higher, fine_variable}
use Rattle.translated_forms.proofs.Fine.{fine_context, fine_one, fine_nothing, fine_root, fine_slash}
use Rattle.translated_forms.proofs.Fine.{fine_step, fine_bind, fine_for, fine_let, fine_arm}
use Rattle.translated_forms.proofs.FineFlows.{fine_flow, fine_flow_or_body, fine_if_many, fine_some, NoIf}
use Rattle.translated_forms.proofs.FineChains.{fine_chain}
use Rattle.translated_forms.proofs.FineTexts.{fine_converted, fine_library}
use Rattle.translated_forms.proofs.FineDispatch.{FineTests, no_tests, one_test, fine_first_that_matches}
use Rattle.translated_forms.proofs.FineGroups.{FineNamed, no_names, one_name, fine_needed}
use Rattle.translated_forms.proofs.FineInstrs.{fine_carried, whole_bound, whole_body, whole_value}
use Rattle.translation.specs.Globals.{document_item, document_focus, bound_before, form_value, global_value}
use Rattle.key_functions.specs.KeyBody.{has_value, key_body, listed, nodes_of_tree}
use Rattle.key_functions.specs.KeyBody.{values_by, values_name, with_attributes}
use Rattle.translation.specs.Keys.{key_parts}
use Rattle.translation.specs.Limits.{callee_has_leaves, key_has_leaves}
use Rattle.rule_order.specs.Rules.{Ranked, is_lower}
use Rattle.translation.specs.Ranks.{inserted, falling}
use Rattle.translation.specs.Rules.{tested as tested_rule}
use Rattle.translation.specs.Templates.{param_let, param_lets, template_expr}
use Rattle.xt_names.specs.Lists.{greatest}

-- the type of a parameter
kind_rolled : (t : Table) (tested : Pattern → Bool) (x : BoundForm) →
    bound_has_leaves tested (roll-Bound Expr Pattern x) ≡ true →
    is_regular_kind ((translated_bound t (roll-Bound Expr Pattern x)).kind) ≡ true
kind_rolled t tested x h =
    let r : (is_regular_kind x.kind && value_has_leaves tested x.value) ≡ true =
    sym (bound_rolled leaves (leaf_steps tested) x) ∙ h in
    rw (bound_rolled parts (part_steps t) x)
    ((and_parts (is_regular_kind x.kind) (value_has_leaves tested x.value) r).0)

kind_regular : (t : Table) (tested : Pattern → Bool) (b : TheBound) → bound_has_leaves tested b ≡ true →
    is_regular_kind ((translated_bound t b).kind) ≡ true
kind_regular t tested b =
    subst (λ x. bound_has_leaves tested x ≡ true → is_regular_kind ((translated_bound t x).kind) ≡ true)
    (roll-out-Bound Expr Pattern b) (kind_rolled t tested (out-Bound Expr Pattern b))

module _ (t : Table) (keys : (name : List ℕ) → (t.keys name).uri ≡ local_uri)
    (tested : Pattern → Bool) (matches : (p : Pattern) → tested p ≡ true → Fine 60 (t.matches p)) where
  -- parameters of a template, and the whole
  fine_param : (p : Place) (b : TheBound) (m : ℕ) → bound_has_leaves tested b ≡ true → bound_nest_of b ≤ m →
      FineClause (6 * m + 75) (param_let t p (translated_bound t b))
  fine_param p b m h l =
      fine_let (6 * m + 75) _ _ (higher (6 * m + 75) (omega arith)
      (fine_chain (6 * m + 74) _ _
      (more (fine_arm (6 * m + 74) _ _ (higher (6 * m + 74) (omega arith) (fine_variable _))
      (higher (6 * m + 74) (omega arith)
      (fine_converted 2 (omega arith) (translated_bound t b).kind _ (kind_regular t tested b h)
      (higher 2 (omega arith) (fine_variable _))))) none)
      (higher (6 * m + 74) (omega arith) (whole_bound t keys tested matches b h p))))

  fine_params : (p : Place) (bs : List TheBound) (m : ℕ) → every (map (bound_has_leaves tested) bs) ≡ true →
      greatest (map bound_nest_of bs) ≤ m → Every (FineClause (6 * m + 75)) (param_lets t p bs)
  fine_params p [] m h l = none
  fine_params p (b ∷ bs) m h l =
      let q = and_parts (bound_has_leaves tested b) (every (map (bound_has_leaves tested) bs)) h in
      more (fine_param p b m q.0 (omega arith)) (fine_params p bs m q.1 (omega arith))

  pub fine_template_expr : (p : Place) (template : Template) →
      callee_has_leaves tested template.params template.body ≡ true → template_nest_of template ≤ 40 →
      Fine 400 (template_expr t p template)
  unfolding template_expr
  fine_template_expr p template h l =
      let q = and_parts (every (map (bound_has_leaves tested) template.params))
      (body_has_leaves tested template.body) h in
      higher 400 (omega arith)
      (fine_flow_or_body (6 * 40 + 75) (param_lets t p template.params) (translated_body t template.body p)
      (fine_params p template.params 40 q.0 (omega arith))
      (higher (6 * 40 + 75) (omega arith)
      (whole_body t keys tested matches p template.body q.1 40 (omega arith))))

  -- rules in falling order
  tests_in : (rules : List Ranked) → list_all (λ r. tested r.rule.pattern) rules ≡ true →
      FineTests 60 (map (tested_rule t) rules)
  tests_in [] h = no_tests
  tests_in (r ∷ rules) h =
      let q = and_parts (tested r.rule.pattern) (list_all (λ s. tested s.rule.pattern) rules) h in
      one_test (matches r.rule.pattern q.0) (tests_in rules q.1)

  abbrev all_tested : List Ranked → Bool
  all_tested rules = list_all (λ r. tested r.rule.pattern) rules

  insert_choice : (c : Bool) (r s : Ranked) (rules others : List Ranked) →
      tested r.rule.pattern ≡ true → all_tested (s ∷ rules) ≡ true → all_tested others ≡ true →
      all_tested (if c then r ∷ s ∷ rules else s ∷ others) ≡ true
  insert_choice true r s rules others h i j =
      and_from (tested r.rule.pattern) (all_tested (s ∷ rules)) h i
  insert_choice false r s rules others h i j =
      and_from (tested s.rule.pattern) (all_tested others)
      ((and_parts (tested s.rule.pattern) (all_tested rules) i).0) j

  inserted_tested : (r : Ranked) (rules : List Ranked) → tested r.rule.pattern ≡ true →
      all_tested rules ≡ true → all_tested (inserted r rules) ≡ true
  inserted_tested r [] h i = and_from (tested r.rule.pattern) true h refl
  inserted_tested r (s ∷ rules) h i =
      insert_choice (is_lower s.rank r.rank) r s rules (inserted r rules) h i
      (inserted_tested r rules h ((and_parts (tested s.rule.pattern) (all_tested rules) i).1))

  falling_tested : (rules : List Ranked) → all_tested rules ≡ true → all_tested (falling rules) ≡ true
  falling_tested [] h = refl
  falling_tested (r ∷ rules) h =
      let q = and_parts (tested r.rule.pattern) (all_tested rules) h in
      inserted_tested r (falling rules) q.0 (falling_tested rules q.1)

  pub fine_choosing : (mode : ℕ) (rules : List Ranked) → all_tested rules ≡ true →
      Fine 61 (first_that_matches t.params mode (map (tested_rule t) (falling rules)))
  fine_choosing mode rules h =
      fine_first_that_matches 60 (omega arith) t.params mode _
      (tests_in (falling rules) (falling_tested rules h))

  -- keys
  no_if_nothing : NoIf nothing
  no_if_nothing = ap (λ f. f.is_if) (regular_expr_rolled (Comma []))

  fine_key_values : (k : KeyRule) → key_has_leaves tested k ≡ true → Fine 61 (values_by (key_parts t k))
  fine_key_values k h =
      let q = and_parts (tested k.pattern) (is_leaf k.key) h in
      fine_if_many 60 (arm_of (t.matches k.pattern, _)) [] nothing
      (more (fine_arm 60 _ _ (matches k.pattern q.0) (higher 60 (omega arith)
      (fine_slash 43 the_item _ (higher 43 (omega arith) (fine_variable item_name))
      (fine_library 42 (codes "data") _ (more (fine_carried (use_setting t) keys focused k.key q.1) none))))) none)
      (higher 60 (omega arith) fine_nothing) no_if_nothing

  all_key_values : (ks : List KeyRule) → list_all (key_has_leaves tested) ks ≡ true →
      Every (Fine 61) (map values_by (map (key_parts t) ks))
  all_key_values [] h = none
  all_key_values (k ∷ ks) h =
      let q = and_parts (key_has_leaves tested k) (list_all (key_has_leaves tested) ks) h in
      more (fine_key_values k q.0) (all_key_values ks q.1)

  fine_tree : Fine 3 nodes_of_tree
  unfolding is_regular_test
  fine_tree =
      fine_slash 2 _ _ (fine_slash 1 the_item _ (fine_variable item_name) fine_root)
      (higher 2 (omega arith) (fine_step DescendantOrSelf Node refl))

  fine_with_attributes : Fine 3 with_attributes
  unfolding is_regular_test
  fine_with_attributes =
      fine_items 2 the_item _ [] (more (higher 2 (omega arith) (fine_variable item_name))
      (more (fine_slash 1 the_item _ (fine_variable item_name) (fine_step Attribute Node refl)) none))

  fine_listed : (n : ℕ) (es : List Expr) → Every (Fine n) es → Fine (suc n) (listed es)
  fine_listed n [] none = higher (suc n) (omega arith) fine_nothing
  fine_listed n (e ∷ []) (more h none) = higher (suc n) (omega arith) h
  fine_listed n (e ∷ f ∷ es) h = fine_items n e f es h

  fine_has_value : (ks : List KeyRule) → list_all (key_has_leaves tested) ks ≡ true →
      Fine 63 (has_value (map (key_parts t) ks))
  fine_has_value ks h =
      fine_some 62 (bind_of key_name _) [] _
      (more (fine_bind 62 key_name _ (fine_listed 61 (map values_by (map (key_parts t) ks)) (all_key_values ks h))) none)
      (higher 62 (omega arith) (fine_some 2 (bind_of value_name (variable_of values_name)) [] _
      (more (fine_bind 2 value_name _ (higher 2 (omega arith) (fine_variable values_name))) none)
      (fine_library 1 (codes "deep-equal") _
      (more (fine_variable key_name) (more (fine_variable value_name) none)))))

  pub fine_key_body : (ks : List KeyRule) → list_all (key_has_leaves tested) ks ≡ true →
      Fine 66 (key_body (map (key_parts t) ks))
  fine_key_body ks h =
      fine_flow 65 (for_clause item_name nodes_of_tree) [] _
      (more (fine_for 65 item_name nodes_of_tree (higher 65 (omega arith) fine_tree)) none)
      (fine_flow 64 (for_clause item_name with_attributes) [] _
      (more (fine_for 64 item_name with_attributes (higher 64 (omega arith) fine_with_attributes)) none)
      (fine_if_many 63 (arm_of (has_value (map (key_parts t) ks), the_item)) [] nothing
      (more (fine_arm 63 _ the_item (fine_has_value ks h) (higher 63 (omega arith) (fine_variable item_name))) none)
      (higher 63 (omega arith) fine_nothing) no_if_nothing))

  -- globals
  fine_bound_before : (n : ℕ) (bs : List Named) (e : Expr) → FineNamed n bs → Fine n e → Fine (suc n) (bound_before bs e)
  fine_bound_before n bs e h i =
      fine_flow_or_body n (needed bs (in_body e)) e (fine_needed n bs (in_body e) h) i

  document_named : (n : ℕ) → 1 ≤ n → FineNamed n (document_item ∷ [])
  document_named n l = one_name (higher n l fine_context) no_names

  focus_named : (n : ℕ) → 1 ≤ n → FineNamed n document_focus
  focus_named n l =
      one_name (higher n l fine_context) (one_name (higher n l fine_one) (one_name (higher n l fine_one) no_names))

  form_fine : (x : ValueForm) (kind : Option SeqType) → value_has_leaves tested (roll-Value Expr Pattern x) ≡ true →
      is_regular_kind kind ≡ true → (other : Expr) → Fine 320 other → Fine 321 (form_value t x kind other)
  form_fine (Select e) kind h i other j =
      let r : is_leaf e ≡ true = sym (value_rolled leaves (leaf_steps tested) (Select e)) ∙ h in
      higher 321 (omega arith) (fine_bound_before 45 (document_item ∷ []) _ (document_named 45 (omega arith))
      (fine_converted 42 (omega arith) kind _ i (fine_carried (setting_at t of_global) keys focused e r)))
  form_fine (Body body) kind h i other j = fine_bound_before 320 document_focus other (focus_named 320 (omega arith)) j
  form_fine EmptyText kind h i other j = higher 321 (omega arith) j
  form_fine EmptyList kind h i other j = higher 321 (omega arith) j
  form_fine Required kind h i other j = higher 321 (omega arith) j

  pub fine_global_value : (v : TheValue) (kind : Option SeqType) → value_has_leaves tested v ≡ true →
      value_nest_of v ≤ 40 → is_regular_kind kind ≡ true → Fine 400 (global_value t v kind)
  unfolding global_value
  fine_global_value v kind h l i =
      higher 400 (omega arith)
      (form_fine (out-Value Expr Pattern v) kind
      (subst (λ x. value_has_leaves tested x ≡ true) (sym (roll-out-Value Expr Pattern v)) h) i _
      (higher 320 (omega arith) (whole_value t keys tested matches v h of_global kind i)))
