-- Parameters of templates and functions, and the content after them (XSLT 2.0, 9.2, 10.3 and 5.7).
use Rattle.std.specs.Prelude.{ℕ, List, [], ◌∷◌, ◌++◌, Bool, false, not, ◌||◌, codes}
use Rattle.xt_names.specs.declared.codes.Code.{Code}
use Rattle.xt_names.specs.declared.codes.Code.TheVariants.{SheetStatic}
use Rattle.xt_names.specs.declared.codes.SheetStaticCode.TheVariants.{XTSE0020, XTSE0580, XTSE0760}
use Rattle.xt_tree.specs.declared.attributes.Attribute.{Attribute}
use Rattle.xt_sheets.specs.declared.instrs.Instr.{Instr}
use Rattle.xt_sheets.specs.declared.instrs.Instr.TheViews.{roll-Bound}
use Rattle.xt_sheets.specs.declared.instrs.Bound.{Bound}
use Rattle.xt_sheets.specs.declared.instrs.Value.TheVariants.{Required}
use Rattle.sheet_table.specs.declared.elements.XslElement.TheVariants as element
use Rattle.sheet_table.specs.declared.contents.Content.TheVariants as content
use Rattle.sheet_table.specs.Attributes.{attribute, has}
use Rattle.sheet_table.specs.Rules.{attribute_faults}
use Rattle.sheet_table.specs.SheetNodes.Parts.{is_lead, leading, behind, misplaced_node}
use Rattle.sheet_table.specs.declared.sheet_nodes.nodes.Node.{Node}
use Rattle.sheet_table.specs.declared.sheet_nodes.nodes.Node.TheViews.{out-Node}
use Rattle.sheet_table.specs.declared.sheet_nodes.nodes.Node.TheOpen.{Node-F, Elem, Chars}
use Rattle.sheet_values.specs.Rules.{broken}
use Rattle.sheet_values.specs.Names.{declared_faults, qname_value}
use Rattle.sheet_values.specs.declared.sheet_texts.places.StaticContext.{StaticContext}
use Rattle.sheet_values.specs.SheetTexts.Places.{within}
use Rattle.sheet_values.specs.SheetTexts.Readings.{Reading}
use Rattle.sheet_bodies.specs.SheetHeads.Attributes.{optional_faults, optional_value}
use Rattle.sheet_bodies.specs.SheetHeads.Attributes.{needed_faults, needed_value}
use Rattle.sheet_bodies.specs.SheetHeads.Bindings.{is_yes}
use Rattle.sheet_bodies.specs.SheetHeads.Repeats.{repeats_broken}
use Rattle.sheet_bodies.specs.Bodies.{is_none, bind_faults, bind_value, body_faults, body_value}

-- instructions nest at most 40 levels
abbrev pub most_levels : ℕ
most_levels = 40

-- the name of what an element declares, in no reserved namespace
abbrev pub name_faults : StaticContext → List Attribute → List Code
name_faults p attributes = needed_faults (declared_faults XTSE0020 p.bound) (attribute attributes (codes "name"))

-- a parameter that is passed in no call of a template is no tunnel parameter (10.1.2)
abbrev pub tunnel_faults : List Attribute → List Code
tunnel_faults attributes = broken XTSE0020 (is_yes (attribute attributes (codes "tunnel")))

-- the content of a template or a function: parameters at the front, and a sequence constructor
abbrev pub front : List Node → List Node
front kids = leading (is_lead content.Params) kids

abbrev pub rest : List Node → List Node
rest kids = behind (is_lead content.Params) kids

-- a parameter of a template (10.1.1)
module _ {E P : Type 0} (r : Reading E P) where
  abbrev pub param_faults : StaticContext → List Attribute → List Node → List Code
  param_faults p attributes kids = bind_faults r (body_faults r most_levels) element.Param p attributes kids

  abbrev pub param_value : StaticContext → List Attribute → List Node → Bound E P
  param_value p attributes kids = bind_value r (body_value r most_levels) p attributes kids

  -- a parameter of a function: it has no default, and `required` says nothing
  abbrev pub argument_faults : StaticContext → List Attribute → List Node → List Code
  argument_faults p attributes kids =
      attribute_faults element.Param attributes
      ++ (broken XTSE0760 (has attributes (codes "select") || not (is_none kids))
      ++ (tunnel_faults attributes
      ++ (name_faults p attributes
      ++ optional_faults (r.type_faults p) (attribute attributes (codes "as")))))

  abbrev pub argument_value : StaticContext → List Attribute → Bound E P
  argument_value p attributes = roll-Bound E P (record {
    name = needed_value (qname_value p.bound) (attribute attributes (codes "name"));
    kind = optional_value (r.type_value p) (attribute attributes (codes "as"));
    value = Required;
    tunnel = false;
  })

module _ {E P : Type 0} (r : Reading E P) (p : StaticContext) where
  abbrev pub param_layer_faults : Node → Node-F Node → List Code
  param_layer_faults n (Elem own name attributes kids) = param_faults r (within p own) attributes kids
  param_layer_faults n (Chars t) = SheetStatic (misplaced_node n) ∷ []

  abbrev pub param_layer_value : Node-F Node → Bound E P
  param_layer_value (Elem own name attributes kids) = param_value r (within p own) attributes kids
  param_layer_value (Chars t) = param_value r p [] []

  abbrev pub params_faults : List Node → List Code
  params_faults [] = []
  params_faults (n ∷ ns) = param_layer_faults n (out-Node n) ++ params_faults ns

  abbrev pub params_value : List Node → List (Bound E P)
  params_value [] = []
  params_value (n ∷ ns) = param_layer_value (out-Node n) ∷ params_value ns

  abbrev pub argument_layer_faults : Node → Node-F Node → List Code
  argument_layer_faults n (Elem own name attributes kids) = argument_faults r (within p own) attributes kids
  argument_layer_faults n (Chars t) = SheetStatic (misplaced_node n) ∷ []

  abbrev pub argument_layer_value : Node-F Node → Bound E P
  argument_layer_value (Elem own name attributes kids) = argument_value r (within p own) attributes
  argument_layer_value (Chars t) = argument_value r p []

  abbrev pub arguments_faults : List Node → List Code
  arguments_faults [] = []
  arguments_faults (n ∷ ns) = argument_layer_faults n (out-Node n) ++ arguments_faults ns

  abbrev pub arguments_value : List Node → List (Bound E P)
  arguments_value [] = []
  arguments_value (n ∷ ns) = argument_layer_value (out-Node n) ∷ arguments_value ns

module _ {E P : Type 0} (r : Reading E P) (p : StaticContext) where
  -- what is after the parameters, of which no two have one name
  abbrev pub behind_faults : List (Bound E P) → List Node → List Code
  behind_faults params kids = repeats_broken XTSE0580 params ++ body_faults r most_levels p (rest kids)

  abbrev pub behind_value : List Node → List (Instr E P)
  behind_value kids = body_value r most_levels p (rest kids)
