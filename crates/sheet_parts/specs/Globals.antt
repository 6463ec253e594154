-- Global variables and parameters (XSLT 2.0, 9.5).
use Rattle.std.specs.Prelude.{List, ◌++◌, true, false}
use Rattle.xt_names.specs.declared.codes.Code.{Code}
use Rattle.xt_tree.specs.declared.attributes.Attribute.{Attribute}
use Rattle.sheet_table.specs.declared.elements.XslElement.TheVariants as element
use Rattle.sheet_table.specs.declared.sheet_nodes.nodes.Node.{Node}
use Rattle.sheet_values.specs.declared.sheet_texts.places.StaticContext.{StaticContext}
use Rattle.sheet_values.specs.SheetTexts.Readings.{Reading}
use Rattle.sheet_bodies.specs.Bodies.{bind_faults, bind_value, body_faults, body_value}
use Rattle.sheet_modules.specs.declared.modules.GlobalPart.{GlobalPart}
use Rattle.sheet_modules.specs.declared.modules.Part.{Part}
use Rattle.sheet_modules.specs.declared.modules.Part.TheVariants.{Global}
use Rattle.sheet_parts.specs.Parameters.{most_levels, tunnel_faults}

module _ {E P : Type 0} (r : Reading E P) (p : StaticContext) where
  abbrev pub variable_faults : List Attribute → List Node → List Code
  variable_faults attributes kids = bind_faults r (body_faults r most_levels) element.Variable p attributes kids

  abbrev pub variable_value : List Attribute → List Node → Part E P
  variable_value attributes kids = Global (record {
    bound = bind_value r (body_value r most_levels) p attributes kids;
    param = false;
  })

  abbrev pub parameter_faults : List Attribute → List Node → List Code
  parameter_faults attributes kids =
      tunnel_faults attributes ++ bind_faults r (body_faults r most_levels) element.Param p attributes kids

  abbrev pub parameter_value : List Attribute → List Node → Part E P
  parameter_value attributes kids = Global (record {
    bound = bind_value r (body_value r most_levels) p attributes kids;
    param = true;
  })
