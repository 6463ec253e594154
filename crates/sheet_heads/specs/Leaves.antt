-- Instructions that hold no instructions (XSLT 2.0, 11.4.2, 11.9.2 and 11.10).
use Rattle.std.specs.Prelude.{ℕ, List, [], ◌∷◌, ◌++◌, codes}
use Rattle.xt_names.specs.declared.codes.Code.{Code}
use Rattle.xt_names.specs.declared.codes.Code.TheVariants.{SheetStatic}
use Rattle.xt_names.specs.declared.codes.SheetStaticCode.TheVariants.{XTSE0010}
use Rattle.xt_tree.specs.declared.attributes.Attribute.{Attribute}
use Rattle.xt_sheets.specs.declared.instrs.Instr.{Instr}
use Rattle.xt_sheets.specs.declared.instrs.Instr.TheVariants as instr
use Rattle.sheet_table.specs.declared.elements.XslElement.{XslElement}
use Rattle.sheet_table.specs.declared.elements.XslElement.TheVariants as element
use Rattle.sheet_table.specs.Attributes.{attribute}
use Rattle.sheet_table.specs.Rules.{attribute_faults}
use Rattle.sheet_table.specs.SheetNodes.Parts.{none_faults}
use Rattle.sheet_table.specs.declared.sheet_nodes.nodes.Node.{Node}
use Rattle.sheet_values.specs.declared.sheet_texts.places.StaticContext.{StaticContext}
use Rattle.sheet_values.specs.SheetTexts.Readings.{Reading}
use Rattle.sheet_heads.specs.Attributes.{needed_faults, needed_value}
use Rattle.sheet_heads.specs.Characters.{characters_faults, characters_value}

-- xsl:text
abbrev pub text_faults : List Attribute → List Node → List Code
text_faults attributes kids = attribute_faults element.Text attributes ++ characters_faults kids

abbrev pub text_value : List Node → List ℕ
text_value kids = characters_value kids

module _ {E P : Type 0} (r : Reading E P) (p : StaticContext) where
  -- `select` and no content
  abbrev pub selected_faults : XslElement → List Attribute → List Node → List Code
  selected_faults e attributes kids =
      attribute_faults e attributes
      ++ (none_faults kids
      ++ needed_faults (r.expr_faults p) (attribute attributes (codes "select")))

  abbrev pub selected_value : List Attribute → E
  selected_value attributes = needed_value (r.expr_value p) (attribute attributes (codes "select"))

  abbrev pub leaf_faults : XslElement → List Attribute → List Node → List Code
  leaf_faults element.Text attributes kids = text_faults attributes kids
  leaf_faults element.CopyOf attributes kids = selected_faults element.CopyOf attributes kids
  leaf_faults element.Sequence attributes kids = selected_faults element.Sequence attributes kids
  leaf_faults e attributes kids = SheetStatic XTSE0010 ∷ []

  abbrev pub leaf_value : XslElement → List Attribute → List Node → Instr E P
  leaf_value element.CopyOf attributes kids = instr.CopyOf (selected_value attributes)
  leaf_value element.Sequence attributes kids = instr.Sequence (selected_value attributes)
  leaf_value e attributes kids = instr.Chars (text_value kids)
