-- Declarations without names: links (XSLT 2.0, 3.10), white space (4.4) and output (20).
use Rattle.std.specs.Prelude.{ℕ, List, ◌++◌, map, Bool, true, false, Option, Some, None, codes}
use Rattle.std.specs.Str.{bytes_eq}
use Rattle.xt_names.specs.declared.codes.Code.{Code}
use Rattle.xt_tree.specs.declared.attributes.Attribute.{Attribute}
use Rattle.xt_types.specs.declared.node_tests.NameTest.{NameTest}
use Rattle.xt_types.specs.declared.node_tests.SpaceRule.{SpaceRule}
use Rattle.sheet_table.specs.declared.elements.XslElement.{XslElement}
use Rattle.sheet_table.specs.declared.elements.XslElement.TheVariants as element
use Rattle.sheet_table.specs.Attributes.{attribute}
use Rattle.sheet_table.specs.Rules.{attribute_faults}
use Rattle.sheet_table.specs.SheetNodes.Parts.{none_faults}
use Rattle.sheet_table.specs.declared.sheet_nodes.nodes.Node.{Node}
use Rattle.sheet_values.specs.Elements.{name_tests_faults, name_tests_value}
use Rattle.sheet_values.specs.declared.sheet_texts.places.StaticContext.{StaticContext}
use Rattle.sheet_bodies.specs.SheetHeads.Attributes.{needed_faults, needed_value}
use Rattle.sheet_modules.specs.declared.modules.Part.{Part}
use Rattle.sheet_modules.specs.declared.modules.Part.TheVariants.{Space, Output}

-- an element that the table says all of, and that has no content
abbrev pub empty_faults : XslElement → List Attribute → List Node → List Code
empty_faults e attributes kids = attribute_faults e attributes ++ none_faults kids

abbrev pub space_rule : Bool → NameTest → SpaceRule
space_rule strip test = record { strip = strip; test = test }

abbrev pub space_rules : Bool → List NameTest → List SpaceRule
space_rules strip tests = map (space_rule strip) tests

abbrev pub space_faults : StaticContext → XslElement → List Attribute → List Node → List Code
space_faults p e attributes kids =
    empty_faults e attributes kids
    ++ needed_faults (name_tests_faults p.bound) (attribute attributes (codes "elements"))

abbrev pub space_value : {E P : Type 0} → StaticContext → Bool → List Attribute → Part E P
space_value p strip attributes =
    Space (space_rules strip (needed_value (name_tests_value p.bound) (attribute attributes (codes "elements"))))

-- whether the XML declaration is left out, where it is said
unfoldable pub omits : Option (List ℕ) → Option Bool
omits None = None
omits (Some text) = Some (bytes_eq text (codes "yes"))

abbrev pub output_value : {E P : Type 0} → List Attribute → Part E P
output_value attributes = Output (omits (attribute attributes (codes "omit-xml-declaration")))
