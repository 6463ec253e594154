-- Rules and parts that several elements have.
use Rattle.std.specs.Prelude.{ℕ, List, Bool, ◌&&◌, codes}
use Rattle.xt_names.specs.declared.codes.Code.{Code}
use Rattle.xt_names.specs.declared.codes.SheetStaticCode.{SheetStaticCode}
use Rattle.xt_tree.specs.declared.attributes.Attribute.{Attribute}
use Rattle.xt_sheets.specs.declared.values.AvtName.{AvtName}
use Rattle.sheet_table.specs.Attributes.{attribute, has}
use Rattle.sheet_values.specs.Rules.{broken}
use Rattle.sheet_values.specs.declared.sheet_texts.places.StaticContext.{StaticContext}
use Rattle.sheet_values.specs.SheetTexts.Readings.{Reading}
use Rattle.sheet_heads.specs.Attributes.{needed_value}
use Rattle.sheet_values.specs.SheetTexts.Templates.{template_value}

-- `select` and content exclude each other
abbrev pub both_broken : SheetStaticCode → List Attribute → Bool → List Code
both_broken code attributes content = broken code (has attributes (codes "select") && content)

-- a name that is computed in the scope of the place (11.2 and 11.3)
abbrev pub computed_name : {E P : Type 0} → Reading E P → StaticContext → List Attribute → List ℕ → AvtName E
computed_name r p attributes uri = record {
  text = needed_value (template_value r p) (attribute attributes (codes "name"));
  scope = p.bound;
  default_uri = uri;
}
