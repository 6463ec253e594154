-- The heads of instructions that hold a sequence constructor. Beside each value stand the rules
-- that can be broken in it, in the order in which they are met.
use Rattle.std.specs.Prelude.{ℕ, List, [], ◌∷◌, ◌++◌, Bool, not, ◌&&◌, codes}
use Rattle.xt_names.specs.declared.codes.Code.{Code}
use Rattle.xt_names.specs.declared.codes.Code.TheVariants.{SheetStatic}
use Rattle.xt_names.specs.declared.codes.SheetStaticCode.TheVariants.{XTSE0010, XTSE0840, XTSE0870}
use Rattle.xt_names.specs.declared.codes.SheetStaticCode.TheVariants.{XTSE0880, XTSE0940, XTSE1040}
use Rattle.xt_tree.specs.declared.attributes.Attribute.{Attribute}
use Rattle.xt_sheets.specs.declared.instrs.Instr.{Instr}
use Rattle.xt_sheets.specs.declared.instrs.Instr.TheVariants as instr
use Rattle.sheet_table.specs.declared.elements.XslElement.{XslElement}
use Rattle.sheet_table.specs.declared.elements.XslElement.TheVariants as element
use Rattle.sheet_table.specs.Attributes.{attribute, has}
use Rattle.sheet_table.specs.Rules.{attribute_faults}
use Rattle.sheet_table.specs.declared.sheet_nodes.nodes.Node.{Node}
use Rattle.sheet_values.specs.Rules.{broken}
use Rattle.sheet_values.specs.declared.sheet_texts.places.StaticContext.{StaticContext}
use Rattle.sheet_values.specs.SheetTexts.Places.{grouped}
use Rattle.sheet_values.specs.SheetTexts.Readings.{Reading}
use Rattle.sheet_heads.specs.Attributes.{optional_faults, optional_value}
use Rattle.sheet_heads.specs.Attributes.{needed_faults, needed_value}
use Rattle.sheet_values.specs.SheetTexts.Templates.{template_faults, template_value}
use Rattle.sheet_heads.specs.Parts.{both_broken, computed_name}
use Rattle.sheet_heads.specs.Sorts.{keys_faults, keys_value}
use Rattle.sheet_heads.specs.Groupings.{grouping_faults, grouping_value}
use Rattle.sheet_heads.specs.declared.bodied.Head.{Head}
use Rattle.sheet_heads.specs.declared.bodied.Head.TheVariants as head
use Rattle.xt_names.specs.ExprNames.{uri_of}

module _ {E P : Type 0} (r : Reading E P) (p : StaticContext) where
  abbrev pub select_faults : List Attribute → List Code
  select_faults attributes = optional_faults (r.expr_faults p) (attribute attributes (codes "select"))

  abbrev pub needed_select_faults : List Attribute → List Code
  needed_select_faults attributes = needed_faults (r.expr_faults p) (attribute attributes (codes "select"))

  abbrev pub separator_faults : List Attribute → List Code
  separator_faults attributes = optional_faults (template_faults r p) (attribute attributes (codes "separator"))

  abbrev pub name_faults : List Attribute → List Code
  name_faults attributes = needed_faults (template_faults r p) (attribute attributes (codes "name"))

module _ {E P : Type 0} (r : Reading E P) (p : StaticContext) where
  -- 11.4.3: `select` or content, and not both
  abbrev pub value_of_faults : List Attribute → Bool → List Code
  value_of_faults attributes content =
      both_broken XTSE0870 attributes content
      ++ (broken XTSE0870 (not (has attributes (codes "select")) && not content)
      ++ (select_faults r p attributes
      ++ separator_faults r p attributes))

  abbrev pub value_of_value : List Attribute → Head E P
  value_of_value attributes =
      head.ValueOf (optional_value (r.expr_value p) (attribute attributes (codes "select")))
      (optional_value (template_value r p) (attribute attributes (codes "separator")))

  -- 11.2: a name without prefix is in the default namespace
  abbrev pub element_faults : List Attribute → List Code
  element_faults attributes = name_faults r p attributes

  abbrev pub element_value : List Attribute → Head E P
  element_value attributes = head.Element (computed_name r p attributes (uri_of p.bound []))

  -- 11.3: a name without prefix has no uri
  abbrev pub attribute_head_faults : List Attribute → Bool → List Code
  attribute_head_faults attributes content =
      both_broken XTSE0840 attributes content
      ++ (name_faults r p attributes
      ++ (select_faults r p attributes
      ++ separator_faults r p attributes))

  abbrev pub attribute_head_value : List Attribute → Head E P
  attribute_head_value attributes =
      head.Attribute (computed_name r p attributes [])
      (optional_value (r.expr_value p) (attribute attributes (codes "select")))
      (optional_value (template_value r p) (attribute attributes (codes "separator")))

  -- 11.8
  abbrev pub comment_faults : List Attribute → Bool → List Code
  comment_faults attributes content = both_broken XTSE0940 attributes content ++ select_faults r p attributes

  abbrev pub comment_value : List Attribute → Head E P
  comment_value attributes =
      head.Comment (optional_value (r.expr_value p) (attribute attributes (codes "select")))

  -- 11.6
  abbrev pub pi_faults : List Attribute → Bool → List Code
  pi_faults attributes content =
      both_broken XTSE0880 attributes content
      ++ (name_faults r p attributes
      ++ select_faults r p attributes)

  abbrev pub pi_value : List Attribute → Head E P
  pi_value attributes =
      head.Pi (needed_value (template_value r p) (attribute attributes (codes "name")))
      (optional_value (r.expr_value p) (attribute attributes (codes "select")))

  -- 8.1
  abbrev pub if_faults : List Attribute → List Code
  if_faults attributes = needed_faults (r.expr_faults p) (attribute attributes (codes "test"))

  abbrev pub if_value : List Attribute → Head E P
  if_value attributes = head.If (needed_value (r.expr_value p) (attribute attributes (codes "test")))

  -- 7
  abbrev pub for_each_faults : List Attribute → List Node → List Code
  for_each_faults attributes sorts = needed_select_faults r p attributes ++ keys_faults r p sorts

  abbrev pub for_each_value : List Attribute → List Node → Head E P
  for_each_value attributes sorts =
      head.ForEach (needed_value (r.expr_value p) (attribute attributes (codes "select")))
      (keys_value r p sorts)

  -- 14.3: the sort keys stand within the groups
  abbrev pub groups_faults : List Attribute → List Node → List Code
  groups_faults attributes sorts =
      needed_select_faults r p attributes
      ++ (grouping_faults r p attributes
      ++ keys_faults r (grouped p) sorts)

  abbrev pub groups_value : List Attribute → List Node → Head E P
  groups_value attributes sorts =
      head.ForEachGroup (needed_value (r.expr_value p) (attribute attributes (codes "select")))
      (grouping_value r p attributes)
      (keys_value r (grouped p) sorts)

  -- 13.2
  abbrev pub perform_faults : List Attribute → List Node → Bool → List Code
  perform_faults attributes sorts content =
      both_broken XTSE1040 attributes content
      ++ (select_faults r p attributes
      ++ keys_faults r p sorts)

  abbrev pub perform_value : List Attribute → List Node → Head E P
  perform_value attributes sorts =
      head.PerformSort (optional_value (r.expr_value p) (attribute attributes (codes "select")))
      (keys_value r p sorts)

module _ {E P : Type 0} (r : Reading E P) (p : StaticContext) where
  abbrev pub own_faults : XslElement → List Attribute → List Node → Bool → List Code
  own_faults element.ValueOf attributes sorts content = value_of_faults r p attributes content
  own_faults element.Element attributes sorts content = element_faults r p attributes
  own_faults element.Attribute attributes sorts content = attribute_head_faults r p attributes content
  own_faults element.Comment attributes sorts content = comment_faults r p attributes content
  own_faults element.ProcessingInstruction attributes sorts content = pi_faults r p attributes content
  own_faults element.Document attributes sorts content = []
  own_faults element.Copy attributes sorts content = []
  own_faults element.If attributes sorts content = if_faults r p attributes
  own_faults element.ForEach attributes sorts content = for_each_faults r p attributes sorts
  own_faults element.ForEachGroup attributes sorts content = groups_faults r p attributes sorts
  own_faults element.PerformSort attributes sorts content = perform_faults r p attributes sorts content
  own_faults e attributes sorts content = SheetStatic XTSE0010 ∷ []

  abbrev pub own_value : XslElement → List Attribute → List Node → Head E P
  own_value element.ValueOf attributes sorts = value_of_value r p attributes
  own_value element.Element attributes sorts = element_value r p attributes
  own_value element.Attribute attributes sorts = attribute_head_value r p attributes
  own_value element.Comment attributes sorts = comment_value r p attributes
  own_value element.ProcessingInstruction attributes sorts = pi_value r p attributes
  own_value element.If attributes sorts = if_value r p attributes
  own_value element.ForEach attributes sorts = for_each_value r p attributes sorts
  own_value element.ForEachGroup attributes sorts = groups_value r p attributes sorts
  own_value element.PerformSort attributes sorts = perform_value r p attributes sorts
  own_value element.Copy attributes sorts = head.Copy
  own_value e attributes sorts = head.Document

  -- the rules of the table come first
  abbrev pub head_faults : XslElement → List Attribute → List Node → Bool → List Code
  head_faults e attributes sorts content =
      attribute_faults e attributes ++ own_faults e attributes sorts content

-- the instruction of a head and the instructions that it holds
abbrev pub with_body : {E P : Type 0} → Head E P → List (Instr E P) → Instr E P
with_body (head.ValueOf select separator) body = instr.ValueOf select body separator
with_body (head.Literal name attributes) body = instr.Literal name attributes body
with_body (head.Element name) body = instr.Element name body
with_body (head.Attribute name select separator) body = instr.Attribute name select body separator
with_body (head.Comment select) body = instr.Comment select body
with_body (head.Pi name select) body = instr.Pi name select body
with_body head.Document body = instr.Document body
with_body head.Copy body = instr.Copy body
with_body (head.If condition) body = instr.If condition body
with_body (head.ForEach select sorts) body = instr.ForEach select sorts body
with_body (head.ForEachGroup select groups sorts) body = instr.ForEachGroup select groups sorts body
with_body (head.PerformSort select sorts) body = instr.PerformSort select sorts body
