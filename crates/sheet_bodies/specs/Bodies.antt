-- The instructions that elements stand for. Beside each value stand the rules that can be broken in
-- it, in the order in which they are met.
use Rattle.std.specs.Prelude.{ℕ, zero, suc, List, [], ◌∷◌, ◌++◌, map}
use Rattle.std.specs.Prelude.{Bool, true, false, not, if◌then◌else◌, Option, Some, None, codes}
use Rattle.xt_names.specs.declared.names.Binding.{Binding}
use Rattle.xt_names.specs.declared.names.Name.{Name}
use Rattle.xt_names.specs.declared.codes.Code.{Code}
use Rattle.xt_names.specs.declared.codes.Code.TheVariants.{SheetStatic}
use Rattle.xt_names.specs.declared.codes.SheetStaticCode.TheVariants.{XTSE0010, XTSE0670, XTLM0004}
use Rattle.xt_tree.specs.declared.attributes.Attribute.{Attribute}
use Rattle.xt_sheets.specs.declared.instrs.Instr.{Instr}
use Rattle.xt_sheets.specs.declared.instrs.Instr.TheVariants as instr
use Rattle.xt_sheets.specs.declared.instrs.Instr.TheViews.{roll-When}
use Rattle.xt_sheets.specs.declared.instrs.When.{When}
use Rattle.xt_sheets.specs.declared.instrs.Bound.{Bound}
use Rattle.sheet_table.specs.declared.elements.XslElement.{XslElement}
use Rattle.sheet_table.specs.declared.elements.XslElement.TheVariants as element
use Rattle.sheet_table.specs.declared.contents.Content.TheVariants as content
use Rattle.sheet_table.specs.Contents.{content_of}
use Rattle.sheet_table.specs.Elements.{xsl_element, misplaced}
use Rattle.sheet_table.specs.Attributes.{attribute}
use Rattle.sheet_table.specs.Rules.{attribute_faults}
use Rattle.sheet_table.specs.SheetNodes.Parts.{is_lead, leading, behind}
use Rattle.sheet_table.specs.SheetNodes.Parts.{is_with_param, is_variable, none_faults, misplaced_node}
use Rattle.sheet_table.specs.declared.sheet_nodes.nodes.Node.{Node}
use Rattle.sheet_table.specs.declared.sheet_nodes.nodes.Node.TheViews.{out-Node}
use Rattle.sheet_table.specs.declared.sheet_nodes.nodes.Node.TheOpen.{Node-F, Elem, Chars}
use Rattle.sheet_heads.specs.SheetValues.Rules.{broken}
use Rattle.sheet_heads.specs.SheetValues.declared.sheet_texts.places.StaticContext.{StaticContext}
use Rattle.sheet_heads.specs.SheetValues.SheetTexts.Places.{within, grouped}
use Rattle.sheet_heads.specs.SheetValues.SheetTexts.Readings.{Reading}
use Rattle.sheet_heads.specs.Attributes.{needed_faults, needed_value}
use Rattle.sheet_heads.specs.declared.forms.Form.{Form}
use Rattle.sheet_heads.specs.declared.forms.Form.TheVariants as form
use Rattle.sheet_heads.specs.Forms.{form_of}
use Rattle.sheet_heads.specs.Leaves.{leaf_faults, leaf_value}
use Rattle.sheet_heads.specs.Bodied.{head_faults, own_value, with_body}
use Rattle.sheet_heads.specs.Literals.{literal_faults, literal_value}
use Rattle.sheet_heads.specs.Bindings.{bound_faults, bound_value, with_value}
use Rattle.sheet_heads.specs.Calls as call
use Rattle.sheet_heads.specs.Repeats.{repeats_broken}
use Rattle.xt_names.specs.Names.{is_in_xslt}

abbrev pub is_none : List Node → Bool
is_none [] = true
is_none (n ∷ ns) = false

-- the nodes at the front of the content of an element, and those after them
abbrev pub front : XslElement → List Node → List Node
front e kids = leading (is_lead (content_of e)) kids

abbrev pub rest : XslElement → List Node → List Node
rest e kids = behind (is_lead (content_of e)) kids

-- where the sequence constructor of an element stands
abbrev pub inner : XslElement → StaticContext → StaticContext
inner element.ForEachGroup p = grouped p
inner e p = p

abbrev pub is_otherwise : Option XslElement → Bool
is_otherwise (Some element.Otherwise) = true
is_otherwise e = false

module _ {E P : Type 0} where
  abbrev pub when : E → List (Instr E P) → When E P
  when condition body = roll-When E P (record { test = condition; body = body })

-- The rules of each element, given those of content one level below it.
module _ {E P : Type 0} (r : Reading E P) (below : StaticContext → List Node → List Code) where
  -- an instruction that holds a sequence constructor
  abbrev pub bodied_faults : XslElement → StaticContext → List Attribute → List Node → List Code
  bodied_faults e p attributes kids =
      head_faults r p e attributes (front e kids) (not (is_none (rest e kids)))
      ++ below (inner e p) (rest e kids)

  -- a literal result element (11.1)
  abbrev pub element_faults : StaticContext → List Attribute → List Node → List Code
  element_faults p attributes kids = literal_faults r p attributes ++ below p kids

  -- xsl:when (8.2)
  abbrev pub when_faults : StaticContext → List Attribute → List Node → List Code
  when_faults p attributes kids =
      attribute_faults element.When attributes
      ++ (needed_faults (r.expr_faults p) (attribute attributes (codes "test"))
      ++ below p kids)

  abbrev pub when_layer_faults : StaticContext → Node → Node-F Node → List Code
  when_layer_faults p n (Elem own name attributes kids) = when_faults (within p own) attributes kids
  when_layer_faults p n (Chars t) = SheetStatic (misplaced_node n) ∷ []

  abbrev pub whens_faults : StaticContext → List Node → List Code
  whens_faults p [] = []
  whens_faults p (n ∷ ns) = when_layer_faults p n (out-Node n) ++ whens_faults p ns

  -- xsl:otherwise (8.2)
  abbrev pub other_faults : StaticContext → List Attribute → List Node → List Code
  other_faults p attributes kids = attribute_faults element.Otherwise attributes ++ below p kids

  abbrev pub other_layer_faults : StaticContext → Node → Node-F Node → List Code
  other_layer_faults p n (Elem own name attributes kids) =
      if is_otherwise (xsl_element name) then other_faults (within p own) attributes kids
      else SheetStatic (misplaced_node n) ∷ []
  other_layer_faults p n (Chars t) = SheetStatic (misplaced_node n) ∷ []

  -- after the xsl:when: nothing, or one xsl:otherwise
  abbrev pub others_faults : StaticContext → List Node → List Code
  others_faults p [] = []
  others_faults p (n ∷ ns) = other_layer_faults p n (out-Node n) ++ none_faults ns

  -- xsl:choose (8.2): at least one xsl:when
  abbrev pub choose_faults : StaticContext → List Attribute → List Node → List Code
  choose_faults p attributes kids =
      attribute_faults element.Choose attributes
      ++ (broken XTSE0010 (is_none (front element.Choose kids))
      ++ (whens_faults p (front element.Choose kids)
      ++ others_faults p (rest element.Choose kids)))

  -- a variable or parameter (9)
  abbrev pub bind_faults : XslElement → StaticContext → List Attribute → List Node → List Code
  bind_faults e p attributes kids = bound_faults r p e attributes (not (is_none kids)) ++ below p kids

  -- xsl:with-param (10.1.1)
  abbrev pub passed_layer_faults : StaticContext → Node → Node-F Node → List Code
  passed_layer_faults p n (Elem own name attributes kids) = bind_faults element.WithParam (within p own) attributes kids
  passed_layer_faults p n (Chars t) = SheetStatic (misplaced_node n) ∷ []

  -- those among the nodes
  abbrev pub passed_faults : StaticContext → List Node → List Code
  passed_faults p [] = []
  passed_faults p (n ∷ ns) =
      if is_with_param n then passed_layer_faults p n (out-Node n) ++ passed_faults p ns
      else passed_faults p ns

-- What each element stands for, given what content one level below it stands for.
module _ {E P : Type 0} (r : Reading E P) (below : StaticContext → List Node → List (Instr E P)) where
  abbrev pub bodied_value : XslElement → StaticContext → List Attribute → List Node → Instr E P
  bodied_value e p attributes kids =
      with_body (own_value r p e attributes (front e kids)) (below (inner e p) (rest e kids))

  abbrev pub element_value : StaticContext → Name → List Attribute → List Node → Instr E P
  element_value p name attributes kids = with_body (literal_value r p name attributes) (below p kids)

  abbrev pub when_value : StaticContext → List Attribute → List Node → When E P
  when_value p attributes kids =
      when (needed_value (r.expr_value p) (attribute attributes (codes "test"))) (below p kids)

  abbrev pub when_layer_value : StaticContext → Node-F Node → When E P
  when_layer_value p (Elem own name attributes kids) = when_value (within p own) attributes kids
  when_layer_value p (Chars t) = when_value p [] []

  abbrev pub whens_value : StaticContext → List Node → List (When E P)
  whens_value p [] = []
  whens_value p (n ∷ ns) = when_layer_value p (out-Node n) ∷ whens_value p ns

  abbrev pub other_layer_value : StaticContext → Node-F Node → List (Instr E P)
  other_layer_value p (Elem own name attributes kids) = below (within p own) kids
  other_layer_value p (Chars t) = []

  abbrev pub others_value : StaticContext → List Node → List (Instr E P)
  others_value p [] = []
  others_value p (n ∷ ns) = other_layer_value p (out-Node n)

  abbrev pub choose_value : StaticContext → List Node → Instr E P
  choose_value p kids =
      instr.Choose (whens_value p (front element.Choose kids)) (others_value p (rest element.Choose kids))

  abbrev pub bind_value : StaticContext → List Attribute → List Node → Bound E P
  bind_value p attributes kids = with_value (bound_value r p attributes) (not (is_none kids)) (below p kids)

  abbrev pub passed_layer_value : StaticContext → Node-F Node → Bound E P
  passed_layer_value p (Elem own name attributes kids) = bind_value (within p own) attributes kids
  passed_layer_value p (Chars t) = bind_value p [] []

  abbrev pub passed_value : StaticContext → List Node → List (Bound E P)
  passed_value p [] = []
  passed_value p (n ∷ ns) =
      if is_with_param n then passed_layer_value p (out-Node n) ∷ passed_value p ns
      else passed_value p ns

  abbrev pub call_value : XslElement → StaticContext → List Attribute → List Node → Instr E P
  call_value e p attributes kids =
      call.with_passed (call.own_value r p e attributes (front e kids)) (passed_value p (front e kids))

  abbrev pub form_value : Form → XslElement → StaticContext → List Attribute → List Node → Instr E P
  form_value form.Leaf e p attributes kids = leaf_value r p e attributes kids
  form_value form.Bodied e p attributes kids = bodied_value e p attributes kids
  form_value form.Choice e p attributes kids = choose_value p kids
  form_value form.Binding e p attributes kids = instr.Variable (bind_value p attributes kids)
  form_value form.Call e p attributes kids = call_value e p attributes kids
  form_value form.Other e p attributes kids = instr.Chars []

  abbrev pub xsl_value : Option XslElement → StaticContext → List Attribute → List Node → Instr E P
  xsl_value None p attributes kids = instr.Chars []
  xsl_value (Some e) p attributes kids = form_value (form_of e) e p attributes kids

  abbrev pub any_value : StaticContext → Name → List Attribute → List Node → Instr E P
  any_value p name attributes kids =
      if is_in_xslt name then xsl_value (xsl_element name) p attributes kids
      else element_value p name attributes kids

  abbrev pub layer_value : StaticContext → Node-F Node → Instr E P
  layer_value p (Elem own name attributes kids) = any_value (within p own) name attributes kids
  layer_value p (Chars t) = instr.Chars t

  abbrev pub node_value : StaticContext → Node → Instr E P
  node_value p n = layer_value p (out-Node n)

  abbrev pub walk_value : StaticContext → List Node → List (Instr E P)
  walk_value p [] = []
  walk_value p (n ∷ ns) = node_value p n ∷ (if is_variable n then below p ns else walk_value p ns)

module _ {E P : Type 0} (r : Reading E P) (below : StaticContext → List Node → List Code) (made : StaticContext → List Node → List (Instr E P)) where
  -- an instruction that passes parameters, of which no two have one name
  abbrev pub call_faults : XslElement → StaticContext → List Attribute → List Node → List Code
  call_faults e p attributes kids =
      call.call_faults r p e attributes (front e kids)
      ++ (none_faults (rest e kids)
      ++ (passed_faults r below p (front e kids)
      ++ repeats_broken XTSE0670 (passed_value r made p (front e kids))))

  abbrev pub form_faults : Form → XslElement → StaticContext → List Attribute → List Node → List Code
  form_faults form.Leaf e p attributes kids = leaf_faults r p e attributes kids
  form_faults form.Bodied e p attributes kids = bodied_faults r below e p attributes kids
  form_faults form.Choice e p attributes kids = choose_faults r below p attributes kids
  form_faults form.Binding e p attributes kids = bind_faults r below e p attributes kids
  form_faults form.Call e p attributes kids = call_faults e p attributes kids
  form_faults form.Other e p attributes kids = SheetStatic XTSE0010 ∷ []

  abbrev pub xsl_faults : Option XslElement → Name → StaticContext → List Attribute → List Node → List Code
  xsl_faults None name p attributes kids = SheetStatic (misplaced name) ∷ []
  xsl_faults (Some e) name p attributes kids = form_faults (form_of e) e p attributes kids

  abbrev pub any_faults : StaticContext → Name → List Attribute → List Node → List Code
  any_faults p name attributes kids =
      if is_in_xslt name then xsl_faults (xsl_element name) name p attributes kids
      else element_faults r below p attributes kids

  abbrev pub layer_faults : StaticContext → Node-F Node → List Code
  layer_faults p (Elem own name attributes kids) = any_faults (within p own) name attributes kids
  layer_faults p (Chars t) = []

  abbrev pub node_faults : StaticContext → Node → List Code
  node_faults p n = layer_faults p (out-Node n)

  abbrev pub walk_faults : StaticContext → List Node → List Code
  walk_faults p [] = []
  walk_faults p (n ∷ ns) = node_faults p n ++ (if is_variable n then below p ns else walk_faults p ns)

-- a sequence constructor (5.7) whose instructions may have so many levels; each variable takes one of
-- those after it
unfoldable pub body_value : {E P : Type 0} → Reading E P → ℕ → StaticContext → List Node → List (Instr E P)
body_value r zero p nodes = []
body_value r (suc room) p nodes = walk_value r (body_value r room) p nodes

unfoldable pub body_faults : {E P : Type 0} → Reading E P → ℕ → StaticContext → List Node → List Code
body_faults r zero p nodes = broken XTLM0004 (not (is_none nodes))
body_faults r (suc room) p nodes = walk_faults r (body_faults r room) (body_value r room) p nodes
