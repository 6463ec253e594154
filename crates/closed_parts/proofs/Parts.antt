-- Declarations that break no rule.
use Rattle.std.proofs.Common.{◌≡◌, ℕ, ℤ, ◌≤◌, List, [], ◌∷◌, map, Bool, true, false, not, Option}
use Rattle.std.proofs.Common.{Some, None, refl, ap, subst, ◌∙◌, arith, codes}
use Rattle.std.proofs.lemmas.Bool.{and_parts, and_from, le-leb}
use Rattle.std.proofs.lemmas.List.Folds.{list_all-map}
use Rattle.std.specs.List.{list_all}
use Rattle.xt_names.specs.Allowed.{is_empty_text}
use Rattle.xt_names.specs.declared.codes.SheetStaticCode.TheVariants.{XTSE0020, XTUN0001}
use Rattle.xt_names.specs.declared.names.ExprName.{ExprName}
use Rattle.xt_forms.specs.Regular.{every}
use Rattle.xt_syntax.specs.declared.exprs.Expr.{Expr}
use Rattle.xt_syntax.specs.declared.patterns.Pattern.{Pattern}
use Rattle.xt_tree.specs.declared.attributes.Attribute.{Attribute}
use Rattle.xt_sheets.specs.declared.sheets.SheetFunction.{SheetFunction}
use Rattle.closed_queries.specs.Closed.{is_good_kind}
use Rattle.closed_queries.specs.Texts.{is_sound_expr_name}
use Rattle.closed_sheets.specs.Instrs.{is_good_bound}
use Rattle.closed_sheets.specs.Sheets.{if_sound_name, is_good_sheet_template, is_good_function}
use Rattle.closed_sheets.specs.Sheets.{is_good_key}
use Rattle.closed_sheets.specs.Values.{is_good_pattern, is_sheet_expr}
use Rattle.sheet_bodies.specs.Bodies.{bind_value, body_value}
use Rattle.sheet_closure.specs.Declared.{has_uri}
use Rattle.sheet_expressions.specs.Uses.{is_key_use}
use Rattle.closed_sheets.specs.SheetForms.InstrNest.{bound_nest_of}
use Rattle.closed_sheets.specs.SheetForms.SheetNest.{template_nest_of, function_nest_of}
use Rattle.sheet_heads.specs.Attributes.{optional_faults, optional_value, needed_faults}
use Rattle.sheet_heads.specs.Attributes.{needed_value}
use Rattle.sheet_heads.specs.Bindings.{bound_faults}
use Rattle.closed_parts.specs.SheetLanguage.Language.{sheet_reading as reading, expr_faults, expr_value}
use Rattle.closed_parts.specs.SheetLanguage.Language.{type_faults, type_value, patterns_faults, patterns_value}
use Rattle.sheet_modules.specs.declared.templates.ModeSet.{ModeSet}
use Rattle.sheet_modules.specs.declared.templates.TemplatePart.{TemplatePart}
use Rattle.sheet_table.specs.SheetNodes.Parts.{none_faults}
use Rattle.sheet_table.specs.declared.sheet_nodes.nodes.Node.{Node}
use Rattle.sheet_parts.specs.Functions as function
use Rattle.sheet_parts.specs.Globals.{variable_faults, variable_value, parameter_faults}
use Rattle.sheet_parts.specs.Globals.{parameter_value}
use Rattle.sheet_parts.specs.Keys as key
use Rattle.sheet_parts.specs.Keys.{keys_of, key_of, use_faults}
use Rattle.sheet_parts.specs.Parameters.{front, name_faults, tunnel_faults, params_faults}
use Rattle.sheet_parts.specs.Parameters.{params_value, arguments_faults, arguments_value}
use Rattle.sheet_parts.specs.Parameters.{behind_value}
use Rattle.sheet_parts.specs.Templates.{head_faults, use_faults as rule_uses, rules_in, rule_of}
use Rattle.sheet_parts.specs.Templates.{modes_faults, modes_value, template_faults, template_value}
use Rattle.sheet_table.specs.Attributes.{attribute, has}
use Rattle.sheet_table.specs.Rules.{attribute_faults}
use Rattle.sheet_table.specs.declared.elements.XslElement.TheVariants as element
use Rattle.sheet_values.specs.declared.sheet_texts.places.StaticContext.{StaticContext}
use Rattle.sheet_values.specs.Names.{declared_faults, function_faults, qname_value}
use Rattle.sheet_values.specs.Priorities.{priority_faults, priority_value}
use Rattle.sheet_closure.specs.StandingParts.Bodies.{bound_stands, params_stand}
use Rattle.sheet_closure.specs.StandingParts.Calls.{expr_stands}
use Rattle.sheet_closure.specs.StandingParts.Patterns.{is_alternative}
use Rattle.sheet_closure.specs.StandingParts.Sheets.{global_stands, template_stands, function_stands, key_stands}
use Rattle.sheet_assembly.specs.Named.{key_rule}
use Rattle.sheet_assembly.specs.Templates.{template_of}
use Rattle.assembly_laws.specs.Laws.{declares}
use Rattle.closed_texts.proofs.ClosedNames.Names.{declared_sound, function_sound}
use Rattle.closed_texts.proofs.ClosedNames.Names.{function_uri}
use Rattle.closed_parts.specs.SoundNodes.Sound.{are_sound_nodes}
use Rattle.closed_parts.proofs.ClosedHeads.Values.{GoodPlace, sound_place, not_broken, closed_text}
use Rattle.closed_parts.proofs.ClosedHeads.Values.{optional_type, needed_patterns}
use Rattle.closed_texts.proofs.ClosedPatterns.Texts.{patterns_closed}
use Rattle.closed_parts.proofs.ClosedBodies.Required.{variable_given}
use Rattle.closed_parts.specs.Closed.{closed_part}
use Rattle.closed_parts.proofs.Params.{bind_closed, needed_name, front_sound, params_closed}
use Rattle.closed_parts.proofs.Params.{arguments_closed, callee_closed, ClosedParams, ClosedCallee}
use Rattle.xt_names.proofs.ListLemmas.{front_nil, back_nil}

-- outside of all groups
pub record TopPlace (p : StaticContext) : Type 0 where
  pub good : GoodPlace p
  pub outside : p.in_group ≡ false

both_good : (p : Pattern) → is_good_pattern p ≡ true → is_alternative p ≡ true
    → closed_part.of_pattern p ≡ true
both_good p g s = and_from (is_good_pattern p) _ g s

-- the alternatives of a pattern
patterns_asked : (ps : List Pattern) → list_all is_good_pattern ps ≡ true
    → list_all is_alternative ps ≡ true → list_all closed_part.of_pattern ps ≡ true
patterns_asked [] g s = refl
patterns_asked (p ∷ ps) g s =
    let a = and_parts (is_good_pattern p) (list_all is_good_pattern ps) g in
    let b = and_parts (is_alternative p) (list_all is_alternative ps) s in
    and_from (closed_part.of_pattern p) _ (both_good p a.0 b.0) (patterns_asked ps a.1 b.1)

-- templates
rules_asked : (p : StaticContext) → GoodPlace p → (modes : ModeSet) (priority : Option ℤ)
    (o : Option (List ℕ)) → optional_faults (patterns_faults p) o ≡ []
    → list_all (λ r. closed_part.of_pattern r.pattern)
    (rules_in reading modes priority (optional_value (patterns_value p) o)) ≡ true
rules_asked p g modes priority None f = refl
rules_asked p g modes priority (Some text) f =
    let c = patterns_closed p text (sound_place p g) f in
    list_all-map (λ r. closed_part.of_pattern r.pattern) (rule_of reading modes priority)
    (patterns_value p text)
    ∙ patterns_asked (patterns_value p text) c.good c.stands

optional_name : (p : StaticContext) → GoodPlace p → (o : Option (List ℕ))
    → optional_faults (declared_faults XTSE0020 p.bound) o ≡ []
    → if_sound_name (optional_value (qname_value p.bound) o) ≡ true
unfolding if_sound_name
optional_name p g None f = refl
optional_name p g (Some text) f = declared_sound XTSE0020 p.bound text (sound_place p g) f

named_or_not : (b : Bool) (t : TemplatePart Expr Pattern) → if_sound_name t.name ≡ true
    → if_sound_name (template_of b t).name ≡ true
unfolding if_sound_name
named_or_not true t h = h
named_or_not false t h = refl

template_asked : (b : Bool) (t : TemplatePart Expr Pattern) → if_sound_name t.name ≡ true
    → is_good_kind t.kind ≡ true → ClosedParams false t.params
    → ClosedCallee false t.params t.body → closed_part.of_template (template_of b t) ≡ true
unfolding is_good_sheet_template template_stands
template_asked b t n k c d =
    let x = c.nests in
    let y = d.body_closed.nests in
    let deep : template_nest_of (template_of b t) ≤ 40 = omega (arith, x, y) in
    and_from (is_good_sheet_template (template_of b t)) _
    (and_from (if_sound_name (template_of b t).name) _ (named_or_not b t n)
    (and_from (every (map is_good_bound t.params)) _ c.good
    (and_from (is_good_kind t.kind) _ k d.body_closed.good)))
    (and_from (template_stands (template_of b t)) _
    (and_from (params_stand t.params false) _ d.stands d.body_closed.stands)
    (le-leb (template_nest_of (template_of b t)) 40 deep))

module _ (p : StaticContext) (t : TopPlace p) where
  pub template_closed : (attributes : List Attribute) (kids : List Node)
      → are_sound_nodes kids ≡ true → template_faults reading p attributes kids ≡ []
      → declares closed_part (template_value reading p attributes kids) ≡ true
  template_closed attributes kids h f =
      let g = t.good in
      let name = attribute attributes (codes "name") in
      let kind = attribute attributes (codes "as") in
      let heads = head_faults reading p attributes in
      let params = params_faults reading p (front kids) in
      let bs = params_value reading p (front kids) in
      let a = back_nil (rule_uses attributes) _ (front_nil heads _ f) in
      let named = optional_faults (declared_faults XTSE0020 p.bound) name in
      let b = back_nil named _ a in
      let types = optional_faults (type_faults p) kind in
      let n = optional_name p g name (front_nil named _ a) in
      let k = optional_type p g kind (front_nil types _ b) in
      let r = back_nil types _ b in
      let r1 = back_nil (optional_faults priority_faults (attribute attributes (codes "priority")))
      _ r in
      let r2 = back_nil (modes_faults p (attribute attributes (codes "mode"))) _ r1 in
      let i = back_nil heads _ f in
      let c = subst (λ x. ClosedParams x bs) t.outside
      (params_closed p g (front kids) (front_sound kids h) (front_nil params _ i)) in
      let d = subst (λ x. ClosedCallee x bs (behind_value reading p kids)) t.outside
      (callee_closed p g bs kids h
      (params_closed p g (front kids) (front_sound kids h) (front_nil params _ i))
      (back_nil params _ i)) in
      let part : TemplatePart Expr Pattern = record {
        name = optional_value (qname_value p.bound) name;
        params = bs;
        kind = optional_value (type_value p) kind;
        body = behind_value reading p kids;
        has_match = has attributes (codes "match");
      } in
      and_from _ _
      (and_from _ _ (template_asked true part n k c d) (template_asked false part n k c d))
      (rules_asked p g (modes_value p (attribute attributes (codes "mode")))
      (optional_value priority_value (attribute attributes (codes "priority")))
      (attribute attributes (codes "match")) r2)

  -- functions
  function_name : (o : Option (List ℕ)) → needed_faults (function_faults p.bound) o ≡ []
      → is_sound_expr_name (needed_value (qname_value p.bound) o) ≡ true
  function_name None f = absurd cc
  function_name (Some text) f = function_sound p.bound text (sound_place p t.good) f

  function_named : (o : Option (List ℕ)) → needed_faults (function_faults p.bound) o ≡ []
      → not (is_empty_text (needed_value (qname_value p.bound) o).uri) ≡ true
  function_named None f = absurd cc
  function_named (Some text) f = ap not (function_uri p.bound text f)

  pub function_closed : (attributes : List Attribute) (kids : List Node)
      → are_sound_nodes kids ≡ true → function.element_faults reading p attributes kids ≡ []
      → declares closed_part (function.element_value reading p attributes kids) ≡ true
  unfolding is_good_function function_stands has_uri
  function_closed attributes kids h f =
      let g = t.good in
      let name = attribute attributes (codes "name") in
      let kind = attribute attributes (codes "as") in
      let heads = function.head_faults reading p attributes in
      let params = arguments_faults reading p (front kids) in
      let bs = arguments_value reading p (front kids) in
      let a = back_nil (attribute_faults element.Function attributes) _ (front_nil heads _ f) in
      let named = needed_faults (function_faults p.bound) name in
      let k = optional_type p g kind (back_nil named _ a) in
      let i = back_nil heads _ f in
      let c0 = arguments_closed p g (front kids) (front_sound kids h) (front_nil params _ i) in
      let c = subst (λ x. ClosedParams x bs) t.outside c0 in
      let d = subst (λ x. ClosedCallee x bs (behind_value reading p kids)) t.outside
      (callee_closed p g bs kids h c0 (back_nil params _ i)) in
      let x = c.nests in
      let y = d.body_closed.nests in
      let made : SheetFunction = record {
        name = needed_value (qname_value p.bound) name;
        params = bs;
        kind = optional_value (type_value p) kind;
        body = behind_value reading p kids;
      } in
      let deep : function_nest_of made ≤ 40 = omega (arith, x, y) in
      and_from (is_good_function made) _
      (and_from (is_sound_expr_name made.name) _ (function_name name (front_nil named _ a))
      (and_from (every (map is_good_bound bs)) _ c.good
      (and_from (is_good_kind made.kind) _ k d.body_closed.good)))
      (and_from (function_stands made) _
      (and_from (params_stand bs false) _ d.stands d.body_closed.stands)
      (and_from (has_uri made) _ (function_named name (front_nil named _ a))
      (le-leb (function_nest_of made) 40 deep)))

  -- keys
  keys_asked : (name : ExprName) (e : Expr) (ps : List Pattern) → is_sound_expr_name name ≡ true
      → is_sheet_expr e ≡ true → expr_stands false e ≡ true → is_key_use e ≡ true
      → list_all is_good_pattern ps ≡ true → list_all is_alternative ps ≡ true
      → list_all (λ k. closed_part.of_key (key_rule k)) (keys_of name e ps) ≡ true
  unfolding is_good_key key_stands
  keys_asked name e [] n g s u a b = refl
  keys_asked name e (x ∷ ps) n g s u a b =
      let c = and_parts (is_good_pattern x) (list_all is_good_pattern ps) a in
      let d = and_parts (is_alternative x) (list_all is_alternative ps) b in
      let k = key_rule (key_of name e x) in
      and_from (closed_part.of_key k) _
      (and_from (is_good_key k) _
      (and_from (is_sound_expr_name name) _ n (and_from (is_good_pattern x) _ c.0 g))
      (and_from (is_alternative x) _ d.0 (and_from (expr_stands false e) _ s u)))
      (keys_asked name e ps n g s u c.1 d.1)

  record ClosedUse (e : Expr) : Type 0 where
    good : is_sheet_expr e ≡ true
    stands : expr_stands false e ≡ true
    use_so : is_key_use e ≡ true

  is_true : (b : Bool) → not b ≡ false → b ≡ true
  is_true true h = refl
  is_true false h = absurd cc

  use_closed : (o : Option (List ℕ)) → needed_faults (use_faults reading p) o ≡ []
      → ClosedUse (needed_value (expr_value p) o)
  use_closed None f = absurd cc
  use_closed (Some text) f =
      let c = closed_text p t.good text (front_nil (expr_faults p text) _ f) in
      record {
        good = c.good;
        stands = subst (λ x. expr_stands x (expr_value p text) ≡ true) t.outside c.stands;
        use_so = is_true (is_key_use (expr_value p text))
            (not_broken XTUN0001 (not (is_key_use (expr_value p text)))
            (back_nil (expr_faults p text) _ f));
      }

  pub key_closed : (attributes : List Attribute) (kids : List Node)
      → key.element_faults reading p attributes kids ≡ []
      → declares closed_part (key.element_value reading p attributes) ≡ true
  key_closed attributes kids f =
      let a = back_nil (attribute_faults element.Key attributes) _ f in
      let b = back_nil (none_faults kids) _ a in
      let c = back_nil (name_faults p attributes) _ b in
      let used = needed_faults (use_faults reading p) (attribute attributes (codes "use")) in
      let n = needed_name p t.good attributes (front_nil (name_faults p attributes) _ b) in
      let e = use_closed (attribute attributes (codes "use")) (front_nil used _ c) in
      let m = needed_patterns p t.good (attribute attributes (codes "match")) (back_nil used _ c) in
      keys_asked _ _ _ n e.good e.stands e.use_so m.good m.stands

  -- globals
  pub variable_closed : (attributes : List Attribute) (kids : List Node)
      → are_sound_nodes kids ≡ true → variable_faults reading p attributes kids ≡ []
      → declares closed_part (variable_value reading p attributes kids) ≡ true
  unfolding global_stands
  variable_closed attributes kids h f =
      let b = bind_value reading (body_value reading 40) p attributes kids in
      let c = bind_closed element.Variable p attributes kids t.good h f in
      let own = front_nil (bound_faults reading p element.Variable attributes _) _ f in
      let r = variable_given attributes
      (front_nil (attribute_faults element.Variable attributes) _ own) in
      and_from (is_good_bound b) _ c.good
      (and_from _ _
      (and_from _ _ (ap not (c.required_so ∙ r))
      (subst (λ x. (bound_stands b).value.stands x ≡ true) t.outside c.stands))
      (le-leb (bound_nest_of b) 40 c.nests))

  pub parameter_closed : (attributes : List Attribute) (kids : List Node)
      → are_sound_nodes kids ≡ true → parameter_faults reading p attributes kids ≡ []
      → declares closed_part (parameter_value reading p attributes kids) ≡ true
  unfolding global_stands
  parameter_closed attributes kids h f =
      let b = bind_value reading (body_value reading 40) p attributes kids in
      let c = bind_closed element.Param p attributes kids t.good h
      (back_nil (tunnel_faults attributes) _ f) in
      and_from (is_good_bound b) _ c.good
      (and_from _ _ (subst (λ x. (bound_stands b).value.stands x ≡ true) t.outside c.stands)
      (le-leb (bound_nest_of b) 40 c.nests))
