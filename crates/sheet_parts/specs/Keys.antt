-- Keys (XSLT 2.0, 16.3.1).
use Rattle.std.specs.Prelude.{ℕ, List, ◌++◌, map, not, codes}
use Rattle.xt_names.specs.declared.names.ExprName.{ExprName}
use Rattle.xt_names.specs.declared.codes.Code.{Code}
use Rattle.xt_names.specs.declared.codes.SheetStaticCode.TheVariants.{XTUN0001}
use Rattle.xt_tree.specs.declared.attributes.Attribute.{Attribute}
use Rattle.sheet_table.specs.declared.elements.XslElement.TheVariants as element
use Rattle.sheet_table.specs.Attributes.{attribute}
use Rattle.sheet_table.specs.Rules.{attribute_faults}
use Rattle.sheet_table.specs.SheetNodes.Parts.{none_faults}
use Rattle.sheet_table.specs.declared.sheet_nodes.nodes.Node.{Node}
use Rattle.sheet_values.specs.Rules.{broken}
use Rattle.sheet_values.specs.Names.{qname_value}
use Rattle.sheet_values.specs.declared.sheet_texts.places.StaticContext.{StaticContext}
use Rattle.sheet_values.specs.SheetTexts.Readings.{Reading}
use Rattle.sheet_bodies.specs.SheetHeads.Attributes.{needed_faults, needed_value}
use Rattle.sheet_modules.specs.declared.modules.KeyPart.{KeyPart}
use Rattle.sheet_modules.specs.declared.modules.Part.{Part}
use Rattle.sheet_modules.specs.declared.modules.Part.TheVariants.{Key}
use Rattle.sheet_parts.specs.Parameters.{name_faults}

-- one alternative of the pattern
abbrev pub key_of : {E P : Type 0} → ExprName → E → P → KeyPart E P
key_of name key pattern = record { name = name; pattern = pattern; key = key }

abbrev pub keys_of : {E P : Type 0} → ExprName → E → List P → List (KeyPart E P)
keys_of name key patterns = map (key_of name key) patterns

module _ {E P : Type 0} (r : Reading E P) (p : StaticContext) where
  abbrev pub use_faults : List ℕ → List Code
  use_faults text = r.expr_faults p text ++ broken XTUN0001 (not (r.is_key_use (r.expr_value p text)))

  -- a key has no content
  abbrev pub element_faults : List Attribute → List Node → List Code
  element_faults attributes kids =
      attribute_faults element.Key attributes
      ++ (none_faults kids
      ++ (name_faults p attributes
      ++ (needed_faults use_faults (attribute attributes (codes "use"))
      ++ needed_faults (r.patterns_faults p) (attribute attributes (codes "match")))))

  abbrev pub element_value : List Attribute → Part E P
  element_value attributes = Key (keys_of
      (needed_value (qname_value p.bound) (attribute attributes (codes "name")))
      (needed_value (r.expr_value p) (attribute attributes (codes "use")))
      (needed_value (r.patterns_value p) (attribute attributes (codes "match"))))
