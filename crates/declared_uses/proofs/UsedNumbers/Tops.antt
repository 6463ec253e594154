-- What is declared uses numbers of names alone, where it breaks no rule.
use Rattle.std.proofs.Common.{◌≡◌, List, [], ◌∷◌, length, Bool, true, false, ◌&&◌}
use Rattle.std.proofs.Common.{cond, Option, Some, None, refl, codes, ap, subst, sym, ◌∙◌}
use Rattle.std.proofs.lemmas.Bool.{and_from}
use Rattle.std.specs.List.{list_all}
use Rattle.xt_names.specs.Allowed.{is_empty_text}
use Rattle.xt_names.specs.declared.codes.SheetStaticCode.TheVariants.{XTSE0130, XTSE0020}
use Rattle.xt_names.specs.declared.names.Binding.{Binding}
use Rattle.xt_names.specs.declared.names.Name.{Name}
use Rattle.xt_names.specs.declared.names.ExprName.{ExprName}
use Rattle.xt_syntax.specs.declared.exprs.Expr.{Expr}
use Rattle.xt_syntax.specs.declared.patterns.Pattern.{Pattern}
use Rattle.xt_tree.specs.declared.attributes.Attribute.{Attribute}
use Rattle.xt_sheets.specs.declared.instrs.Value.TheVariants.{Required}
use Rattle.sheet_bodies.specs.Bodies.{bind_faults, bind_value, body_faults, body_value}
use Rattle.sheet_heads.specs.Attributes.{needed_value, optional_faults, optional_value}
use Rattle.sheet_heads.specs.Repeats.{repeats_broken}
use Rattle.sheet_modules.specs.declared.modules.Part.{Part}
use Rattle.sheet_modules.specs.declared.modules.Part.TheVariants.{Ignored}
use Rattle.sheet_modules.specs.declared.templates.ModeSet.{ModeSet}
use Rattle.sheet_table.specs.SheetNodes.Parts.{is_lead}
use Rattle.sheet_table.specs.declared.sheet_nodes.nodes.Node.{Node}
use Rattle.sheet_table.specs.declared.sheet_nodes.nodes.Node.TheViews.{out-Node}
use Rattle.sheet_table.specs.declared.sheet_nodes.nodes.Node.TheOpen.{Node-F, Elem, Chars}
use Rattle.sheet_parts.specs.Functions as function
use Rattle.sheet_parts.specs.Keys.{keys_of}
use Rattle.sheet_parts.specs.Parameters.{most_levels, front, rest, param_layer_faults, tunnel_faults}
use Rattle.sheet_parts.specs.Parameters.{param_layer_value, params_faults, params_value}
use Rattle.sheet_parts.specs.Parameters.{argument_value, argument_layer_value, arguments_value}
use Rattle.sheet_parts.specs.Parameters.{arguments_faults, behind_faults, behind_value}
use Rattle.sheet_parts.specs.Templates.{modes_faults, modes_value, rules_of, rules_in}
use Rattle.sheet_parts.specs.Templates.{use_faults, head_faults}
use Rattle.sheet_parts.specs.Templates.{template_faults, template_value}
use Rattle.sheet_parts.specs.Tops.{declaration_faults, declaration_value, xsl_faults, xsl_value}
use Rattle.sheet_parts.specs.Tops.{layer_faults, layer_value, top_faults}
use Rattle.sheet_parts.specs.Tops.{top_value}
use Rattle.sheet_rules.specs.Uses.{use_of_key, part_uses}
use Rattle.sheet_table.specs.Attributes.{attribute}
use Rattle.sheet_table.specs.Elements.{xsl_element}
use Rattle.sheet_table.specs.declared.contents.Content.TheVariants as content
use Rattle.sheet_table.specs.declared.elements.XslElement.{XslElement}
use Rattle.sheet_table.specs.declared.elements.XslElement.TheVariants as element
use Rattle.sheet_values.specs.SheetTexts.Places.{within}
use Rattle.sheet_values.specs.SheetTexts.Readings.{Reading}
use Rattle.sheet_values.specs.declared.sheet_texts.places.StaticContext.{StaticContext}
use Rattle.sheet_values.specs.Names.{declared_faults, qname_value}
use Rattle.sheet_values.specs.Priorities.{priority_faults, priority_value}
use Rattle.sheet_values.specs.Rules.{broken}
use Rattle.assembly_laws.specs.Laws.{has_modes, declares_modes}
use Rattle.module_loading.specs.ModuleReader.Mentions.{own_names, is_declaration, is_declaration_in}
use Rattle.module_loading.specs.declared.module_reader.mentions.Mention.TheVariants as mention
use Rattle.declared_uses.specs.Numbers.{has_number}
use Rattle.declared_uses.proofs.UsedNumbers.Covers.{in_table, covers, covers_top, FirstIsDefault}
use Rattle.declared_uses.proofs.UsedNumbers.Numbers.{rule_modes}
use Rattle.declared_uses.proofs.UsedNumbers.Forms.{Bounds, GoodBody, GoodBound, GoodBounds}
use Rattle.declared_uses.proofs.UsedNumbers.Forms.{callee_keeps, each_keeps, expr_keeps, bound_rolled, required_keeps}
use Rattle.declared_uses.proofs.UsedNumbers.Walk.{At, at_within, Named, NamedForm, first_named, others_named}
use Rattle.declared_uses.proofs.UsedNumbers.Walk.{form_named, kids_named, leading_named, behind_named, body_made}
use Rattle.declared_uses.proofs.UsedNumbers.Walk.{bind_made}
use Rattle.xt_names.specs.Names.{is_in_xslt}
use Rattle.xt_names.proofs.ListLemmas.{front_nil, back_nil}

module _ (reading : Reading Expr Pattern) (modes called : List ExprName)
    (first : FirstIsDefault modes) where
  -- what it uses has numbers, and so have its rules
  abbrev pub is_numbered : Part Expr Pattern → Bool
  is_numbered part =
      list_all (has_number modes called) (part_uses part [] [])
      && declares_modes (length modes) part

  global_made : (e : XslElement) (p : StaticContext) (attributes : List Attribute) (kids : List Node)
      → At reading modes called first p → Named reading modes called first p.bound kids
      → bind_faults reading (body_faults reading most_levels) e p attributes kids ≡ []
      → GoodBound modes called (bind_value reading (body_value reading most_levels) p attributes kids)
  global_made e p attributes kids a k f =
      bind_made reading modes called first most_levels (body_made reading modes called first most_levels) e p attributes
      kids a k f

  param_made : (p : StaticContext) (n : Node) (f : Node-F Node) → At reading modes called first p
      → NamedForm reading modes called first p.bound f → param_layer_faults reading p n f ≡ []
      → GoodBound modes called (param_layer_value reading p f)
  param_made p n (Elem own name attributes kids) a h e =
      global_made element.Param (within p own) attributes kids (at_within reading modes called first p own a)
      (kids_named reading modes called first p.bound own name attributes kids h) e
  param_made p n (Chars t) a h e = absurd cc

  params_made : (p : StaticContext) (ns : List Node) → At reading modes called first p
      → Named reading modes called first p.bound ns → params_faults reading p ns ≡ []
      → GoodBounds modes called (params_value reading p ns)
  params_made p [] a h e = tt
  params_made p (n ∷ ns) a h e =
      let layer = param_layer_faults reading p n (out-Node n) in (
        param_made p n (out-Node n) a
            (form_named reading modes called first p.bound n (first_named reading modes called first p.bound n ns h))
            (front_nil layer _ e),
        params_made p ns a (others_named reading modes called first p.bound n ns h) (back_nil layer _ e),
      )

  argument_made : (p : StaticContext) (attributes : List Attribute)
      → GoodBound modes called (argument_value reading p attributes)
  argument_made p attributes =
      bound_rolled modes called (record {
        name = needed_value (qname_value p.bound) (attribute attributes (codes "name"));
        kind = optional_value (reading.type_value p) (attribute attributes (codes "as"));
        value = Required;
        tunnel = false;
      }) (required_keeps modes called)

  argument_layer_made : (p : StaticContext) (f : Node-F Node)
      → GoodBound modes called (argument_layer_value reading p f)
  argument_layer_made p (Elem own name attributes kids) = argument_made (within p own) attributes
  argument_layer_made p (Chars t) = argument_made p []

  arguments_made : (p : StaticContext) (ns : List Node)
      → GoodBounds modes called (arguments_value reading p ns)
  arguments_made p [] = tt
  arguments_made p (n ∷ ns) = (argument_layer_made p (out-Node n), arguments_made p ns)

  behind_made : (p : StaticContext) (kids : List Node) (params : Bounds) → At reading modes called first p
      → Named reading modes called first p.bound kids → behind_faults reading p params kids ≡ []
      → GoodBody modes called (behind_value reading p kids)
  behind_made p kids params a k f =
      body_made reading modes called first most_levels p a (rest kids)
      (behind_named reading modes called first (is_lead content.Params) p.bound kids k)
      (back_nil (repeats_broken _ params) _ f)

  -- the rules of a template
  rules_numbered : (set : ModeSet) (priority : Option _) (patterns : List Pattern)
      → has_modes (length modes) set ≡ true
      → list_all (λ r. has_modes (length modes) r.modes) (rules_of reading set priority patterns) ≡ true
  rules_numbered set priority [] h = refl
  rules_numbered set priority (q ∷ patterns) h =
      and_from (has_modes (length modes) set) _ h (rules_numbered set priority patterns h)

  rules_made : (set : ModeSet) (priority : Option _) (o : Option (List Pattern))
      → has_modes (length modes) set ≡ true
      → list_all (λ r. has_modes (length modes) r.modes) (rules_in reading set priority o) ≡ true
  rules_made set priority None h = refl
  rules_made set priority (Some patterns) h = rules_numbered set priority patterns h

  record OwnModes (p : StaticContext) (o : Option XslElement) (attributes : List Attribute) : Type 0 where
    modes_in : list_all (in_table modes) (own_names mention.Modes o p.bound attributes) ≡ true

  template_made : (p : StaticContext) (attributes : List Attribute) (kids : List Node)
      → At reading modes called first p → OwnModes p (Some element.Template) attributes
      → Named reading modes called first p.bound kids → template_faults reading p attributes kids ≡ []
      → is_numbered (template_value reading p attributes kids) ≡ true
  template_made p attributes kids a o k f =
      let params = params_value reading p (front kids) in
      let heads = head_faults reading p attributes in
      let b = back_nil heads _ f in
      let name = optional_faults (declared_faults XTSE0020 p.bound) (attribute attributes (codes "name")) in
      let kind = optional_faults (reading.type_faults p) (attribute attributes (codes "as")) in
      let own = back_nil kind _ (back_nil name _ (back_nil (use_faults attributes) _
      (front_nil heads _ f))) in
      let text = attribute attributes (codes "mode") in
      let priority = optional_faults priority_faults (attribute attributes (codes "priority")) in
      let mode = front_nil (modes_faults p text) _ (back_nil priority _ own) in
      and_from _ _
      (callee_keeps modes called params (behind_value reading p kids)
      (params_made p (front kids) a
      (leading_named reading modes called first (is_lead content.Params) p.bound kids k)
      (front_nil (params_faults reading p (front kids)) _ b))
      (behind_made p kids params a k (back_nil (params_faults reading p (front kids)) _ b)) [] [] refl)
      (rules_made (modes_value p text)
      (optional_value priority_value (attribute attributes (codes "priority")))
      (optional_value (reading.patterns_value p) (attribute attributes (codes "match")))
      (subst (λ (ms : List ExprName). has_modes (length ms) (modes_value p text) ≡ true) a.modes_are
      (rule_modes p (subst FirstIsDefault (sym a.modes_are) first) text mode
      (subst (λ (ms : List ExprName). list_all (in_table ms)
      (own_names mention.Modes (Some element.Template) p.bound attributes) ≡ true) (sym a.modes_are)
      o.modes_in))))

  function_made : (p : StaticContext) (attributes : List Attribute) (kids : List Node)
      → At reading modes called first p → Named reading modes called first p.bound kids
      → function.element_faults reading p attributes kids ≡ []
      → is_numbered (function.element_value reading p attributes kids) ≡ true
  function_made p attributes kids a k f =
      let params = arguments_value reading p (front kids) in
      let b = back_nil (function.head_faults reading p attributes) _ f in
      and_from _ true
      (callee_keeps modes called params (behind_value reading p kids) (arguments_made p (front kids))
      (behind_made p kids params a k (back_nil (arguments_faults reading p (front kids)) _ b)) [] []
      refl) refl

  declaration_made : (e : XslElement) (p : StaticContext) (attributes : List Attribute) (kids : List Node)
      → At reading modes called first p → OwnModes p (Some e) attributes
      → Named reading modes called first p.bound kids → declaration_faults reading p e attributes kids ≡ []
      → is_numbered (declaration_value reading p e attributes kids) ≡ true
  declaration_made element.Template p attributes kids a o k f = template_made p attributes kids a o k f
  declaration_made element.Function p attributes kids a o k f = function_made p attributes kids a k f
  declaration_made element.Variable p attributes kids a o k f =
      and_from _ true (global_made element.Variable p attributes kids a k f [] [] refl) refl
  declaration_made element.Param p attributes kids a o k f =
      and_from _ true
      (global_made element.Param p attributes kids a k (back_nil (tunnel_faults attributes) _ f) [] []
      refl) refl
  declaration_made element.Key p attributes kids a o k f =
      and_from _ true
      (each_keeps modes called use_of_key (λ one. expr_keeps modes called one.key)
      (keys_of (needed_value (qname_value p.bound) (attribute attributes (codes "name")))
      (needed_value (reading.expr_value p) (attribute attributes (codes "use")))
      (needed_value (reading.patterns_value p) (attribute attributes (codes "match")))) [] [] refl) refl
  declaration_made element.StripSpace p attributes kids a o k f = refl
  declaration_made element.PreserveSpace p attributes kids a o k f = refl
  declaration_made element.Output p attributes kids a o k f = refl
  declaration_made _ p attributes kids a o k f = refl

  xsl_made : (o : Option XslElement) (name : Name) (p : StaticContext) (attributes : List Attribute)
      (kids : List Node) → At reading modes called first p → OwnModes p o attributes
      → Named reading modes called first p.bound kids → xsl_faults reading p o name attributes kids ≡ []
      → is_numbered (xsl_value reading p o attributes kids) ≡ true
  xsl_made None name p attributes kids a o k f = refl
  xsl_made (Some e) name p attributes kids a o k f = declaration_made e p attributes kids a o k f

  layer_made : (p : StaticContext) (f : Node-F Node) → At reading modes called first p
      → (is_declaration_in f ≡ true → NamedForm reading modes called first p.bound f)
      → layer_faults reading p f ≡ [] → is_numbered (layer_value reading p f) ≡ true
  layer_made p (Elem own name attributes kids) a h e = go (is_in_xslt name) h e
    where
      go : (b : Bool)
          → (b ≡ true → NamedForm reading modes called first p.bound (Elem own name attributes kids))
          → cond b (xsl_faults reading (within p own) (xsl_element name) name attributes kids)
          (broken XTSE0130 (is_empty_text name.uri)) ≡ []
          → is_numbered (cond b (xsl_value reading (within p own) (xsl_element name) attributes kids)
          Ignored) ≡ true
      go true h e =
          let n = h refl in
          xsl_made (xsl_element name) name (within p own) attributes kids
          (at_within reading modes called first p own a) (record { modes_in = n.modes_in.named })
          (kids_named reading modes called first p.bound own name attributes kids n) e
      go false h e = refl
  layer_made p (Chars t) a h e = refl

  -- the top nodes name nothing else
  pub record NamedTop (bound : List Binding) (n : Node) : Type 0 where
    pub modes_in : covers_top mention.Modes modes bound n ≡ true
    pub called_in : covers_top mention.Called called bound n ≡ true

  pub top_made : (p : StaticContext) (n : Node) → At reading modes called first p → NamedTop p.bound n
      → top_faults reading p n ≡ [] → is_numbered (top_value reading p n) ≡ true
  unfolding is_declaration
  top_made p n a h e =
      layer_made p (out-Node n) a (λ d. form_named reading modes called first p.bound n (record {
        modes_in = sym (ap (λ (b : Bool). cond b (covers mention.Modes modes n p.bound) true) d)
            ∙ h.modes_in;
        called_in = sym (ap (λ (b : Bool). cond b (covers mention.Called called n p.bound) true) d)
            ∙ h.called_in;
      })) e
