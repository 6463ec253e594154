-- The expression that an instruction becomes: one line a form, each over its parts (XSLT 2.0, 5.7).
use Rattle.std.specs.Prelude.{map, List, [], ◌∷◌, false, Option, Some, None}
use Rattle.xt_types.specs.declared.types.SeqType.{SeqType}
use Rattle.xt_syntax.specs.declared.exprs.Arm.{Arm}
use Rattle.xt_syntax.specs.declared.exprs.Expr.{Expr}
use Rattle.xt_syntax.specs.declared.exprs.Order.{Order}
use Rattle.xt_syntax.specs.declared.patterns.Pattern.{Pattern}
use Rattle.xt_sheets.specs.declared.values.Grouping.{Grouping}
use Rattle.xt_sheets.specs.declared.values.Grouping.TheVariants.{By, Adjacent, Starting}
use Rattle.xt_sheets.specs.declared.values.Sort.{Sort}
use Rattle.xt_sheets.specs.declared.instrs.Instr.{Instr}
use Rattle.xt_sheets.specs.declared.instrs.Value.{Value}
use Rattle.xt_sheets.specs.declared.instrs.Bound.{Bound}
use Rattle.xt_sheets.specs.declared.instrs.When.{When}
use Rattle.xt_sheets.specs.declared.instrs.Instr.TheOpen.{Chars, ValueOf, Literal, Element}
use Rattle.xt_sheets.specs.declared.instrs.Instr.TheOpen.{Attribute, Comment, Pi, Document, Copy}
use Rattle.xt_sheets.specs.declared.instrs.Instr.TheOpen.{CopyOf, Sequence, If, Choose, ForEach}
use Rattle.xt_sheets.specs.declared.instrs.Instr.TheOpen.{ForEachGroup, PerformSort, Variable}
use Rattle.xt_sheets.specs.declared.instrs.Instr.TheOpen.{Apply, ApplyImports, NextMatch}
use Rattle.xt_sheets.specs.declared.instrs.Instr.TheOpen.{CallTemplate, Select, Body, EmptyText}
use Rattle.xt_sheets.specs.declared.instrs.Instr.TheOpen.{EmptyList, Required}
use Rattle.xt_sheets.specs.Layers.{Kinds, Steps, InstrLayer, ValueLayer}
use Rattle.xt_sheets.specs.Layers.{instr_gives, value_gives, bound_gives, when_gives}
use Rattle.carried_exprs.specs.Sights.{nothing, named}
use Rattle.carried_exprs.specs.Carried.{carried}
use Rattle.translated_forms.specs.Names.{next_function, imports_function}
use Rattle.translated_forms.specs.Forms.{arm_of, if_chain, one_of_tests as of_kind, text_literal, failing}
use Rattle.translated_forms.specs.Texts.{source_of, source_text}
use Rattle.translated_forms.specs.Converted.{converted}
use Rattle.translated_forms.specs.NodeNames.{element_source, attribute_source, target_source}
use Rattle.translated_forms.specs.Places.{Place, Table, looped, in_group}
use Rattle.translated_forms.specs.Places.{grouping_setting, carried_at}
use Rattle.translated_forms.specs.Params.{BoundAt}
use Rattle.translated_forms.specs.Bodies.{Body as BodyOf, Part, binds, makes, body_of, sequence_of}
use Rattle.translated_forms.specs.Making.{chars_made, text_node, literal_made, element_made}
use Rattle.translated_forms.specs.Making.{attribute_made, comment_made, pi_made, document_of}
use Rattle.translated_forms.specs.Making.{document_made, copy_made, copies_made}
use Rattle.translated_forms.specs.Loops.{sort_orders, each_in, sorted}
use Rattle.translated_forms.specs.Groups.{each_group_by, each_group_adjacent, each_group_starting}
use Rattle.translated_forms.specs.Dispatch.{templates_applied, template_called, overridden}

-- a part, in its place; a value at the type of its variable
abbrev pub parts : Kinds
parts = record {
  Instrs = Place → Part;
  Values = Place → Option SeqType → Expr;
  Bounds = BoundAt;
  Whens = Place → Arm;
}

abbrev pub all_at : {A : Type 0} → Place → List (Place → A) → List A
all_at p all = map (λ a. a p) all

-- the expression of a sequence constructor
abbrev pub content_at : Place → List (Place → Part) → Expr
content_at p body = sequence_of (all_at p body)

abbrev pub body_at : Place → List (Place → Part) → BodyOf
body_at p body = body_of (all_at p body)

-- content is the value where there is a type, and else that of a document
abbrev pub content_value : Option SeqType → Expr → Expr
content_value None content = document_of content
content_value (Some kind) content = converted (Some kind) content

module _ (t : Table) where
  -- sort keys are read at an item
  abbrev pub orders_at : Place → List (Sort Expr) → List Order
  orders_at p sorts = sort_orders (carried_at t p) sorts

  abbrev pub grouped_at : Place → Expr → Grouping Expr Pattern → List Order → Expr → Expr
  grouped_at p select (By e) orders body =
      each_group_by select (carried (grouping_setting t (looped p)) e named) orders body
  grouped_at p select (Adjacent e) orders body =
      each_group_adjacent select (carried (grouping_setting t (looped p)) e named) orders body
  grouped_at p select (Starting patterns) orders body =
      each_group_starting select (of_kind (map t.matches patterns)) orders body

  abbrev pub instr_part : InstrLayer Expr Pattern parts → Place → Part
  instr_part (Chars text) p = chars_made text
  instr_part (ValueOf select body separator) p =
      text_node (source_text (carried_at t p) select (content_at p body) separator)
  instr_part (Literal name attributes body) p =
      literal_made t.prefixes (carried_at t p) name attributes (body_at p body)
  instr_part (Element name body) p =
      element_made (element_source t.prefixes (carried_at t p) name) (body_at p body)
  instr_part (Attribute name select body separator) p =
      attribute_made (attribute_source t.prefixes (carried_at t p) name)
      (source_text (carried_at t p) select (content_at p body) separator)
  instr_part (Comment select body) p =
      comment_made (source_text (carried_at t p) select (content_at p body) None)
  instr_part (Pi name select body) p =
      pi_made (target_source (carried_at t p) name)
      (source_text (carried_at t p) select (content_at p body) None)
  instr_part (Document body) p = document_made (content_at p body)
  instr_part (Copy body) p = copy_made p.has_focus (content_at p body)
  instr_part (CopyOf e) p = copies_made (carried_at t p e)
  instr_part (Sequence e) p = makes false (carried_at t p e)
  instr_part (If condition body) p =
      makes false
      (if_chain (arm_of (carried_at t p condition, content_at p body) ∷ []) nothing)
  instr_part (Choose whens other) p = makes false (if_chain (all_at p whens) (content_at p other))
  instr_part (ForEach select sorts body) p =
      makes false
      (each_in (carried_at t p select) (orders_at (looped p) sorts) (content_at (looped p) body))
  instr_part (ForEachGroup select grouping sorts body) p =
      makes false
      (grouped_at p (carried_at t p select) grouping (orders_at (in_group p) sorts)
      (content_at (in_group p) body))
  instr_part (PerformSort select sorts body) p =
      makes false
      (sorted (source_of (carried_at t p) select (content_at p body)) (orders_at (looped p) sorts))
  instr_part (Variable bound) p = binds bound.name (bound.value p)
  instr_part (Apply select mode sorts given) p =
      makes false
      (templates_applied t (carried_at t p) p select mode (orders_at (looped p) sorts) given)
  instr_part (ApplyImports given) p = makes false (overridden t p p.rule imports_function given)
  instr_part (NextMatch given) p = makes false (overridden t p p.rule next_function given)
  instr_part (CallTemplate place given) p = makes false (template_called t p place given)

  abbrev pub value_expr : ValueLayer Expr Pattern parts → Place → Option SeqType → Expr
  value_expr (Select e) p kind = converted kind (carried_at t p e)
  value_expr (Body body) p kind = content_value kind (content_at p body)
  value_expr EmptyText p kind = text_literal []
  value_expr EmptyList p kind = nothing
  value_expr Required p kind = failing

  abbrev pub part_steps : Steps Expr Pattern parts
  part_steps = record {
    of_instr = instr_part;
    of_value = value_expr;
    of_bound = λ b. record {
      name = b.name;
      kind = b.kind;
      tunnel = b.tunnel;
      value = λ p. b.value p b.kind;
    };
    of_when = λ w p. arm_of (carried_at t p w.test, content_at p w.body);
  }

  -- what an instruction becomes in a place
  abbrev pub translated_instr : Instr Expr Pattern → Place → Part
  translated_instr = instr_gives parts part_steps

  abbrev pub translated_value : Value Expr Pattern → Place → Option SeqType → Expr
  translated_value = value_gives parts part_steps

  abbrev pub translated_bound : Bound Expr Pattern → BoundAt
  translated_bound = bound_gives parts part_steps

  abbrev pub translated_when : When Expr Pattern → Place → Arm
  translated_when = when_gives parts part_steps

  -- a sequence constructor
  abbrev pub translated_body : List (Instr Expr Pattern) → Place → Expr
  translated_body body p = content_at p (map translated_instr body)
