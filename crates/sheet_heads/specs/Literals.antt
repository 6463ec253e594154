-- Literal result elements (XSLT 2.0, 11.1): attributes of XSLT are none of the result.
use Rattle.std.specs.Prelude.{ℕ, List, [], ◌∷◌, ◌++◌, if◌then◌else◌}
use Rattle.xt_names.specs.declared.codes.Code.{Code}
use Rattle.xt_names.specs.declared.names.Name.{Name}
use Rattle.xt_tree.specs.declared.attributes.Attribute.{Attribute}
use Rattle.xt_sheets.specs.declared.values.LiteralAttr.{LiteralAttr}
use Rattle.sheet_table.specs.Rules.{literal_attribute_faults}
use Rattle.sheet_values.specs.declared.sheet_texts.places.StaticContext.{StaticContext}
use Rattle.sheet_values.specs.SheetTexts.Readings.{Reading}
use Rattle.sheet_values.specs.SheetTexts.Templates.{template_faults, template_value}
use Rattle.sheet_heads.specs.declared.bodied.Head.{Head}
use Rattle.sheet_heads.specs.declared.bodied.Head.TheVariants as head
use Rattle.xt_names.specs.Names.{is_in_xslt}

module _ {E P : Type 0} (r : Reading E P) (p : StaticContext) where
  abbrev pub one_faults : Attribute → List Code
  one_faults a = template_faults r p a.value

  abbrev pub one_value : Attribute → LiteralAttr E
  one_value a = record { name = a.name; value = template_value r p a.value }

  abbrev pub values_faults : List Attribute → List Code
  values_faults [] = []
  values_faults (a ∷ rest) =
      if is_in_xslt a.name then values_faults rest else one_faults a ++ values_faults rest

  abbrev pub values_value : List Attribute → List (LiteralAttr E)
  values_value [] = []
  values_value (a ∷ rest) =
      if is_in_xslt a.name then values_value rest else one_value a ∷ values_value rest

  abbrev pub literal_faults : List Attribute → List Code
  literal_faults attributes = literal_attribute_faults attributes ++ values_faults attributes

  abbrev pub literal_value : Name → List Attribute → Head E P
  literal_value name attributes = head.Literal name (values_value attributes)
