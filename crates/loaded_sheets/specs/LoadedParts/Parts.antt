-- What modules declare, and the rules that each breaks by itself (XSLT 2.0, 2.9).
use Rattle.std.specs.Prelude.{List, [], ◌∷◌, ◌++◌, map}
use Rattle.xt_names.specs.declared.names.ExprName.{ExprName}
use Rattle.xt_names.specs.declared.codes.Code.{Code}
use Rattle.sheet_values.specs.SheetTexts.Readings.{Reading}
use Rattle.sheet_modules.specs.declared.modules.Part.{Part}
use Rattle.module_loading.specs.declared.loaded.LoadedModule.{LoadedModule}
use Rattle.module_loading.specs.ModuleReader.Modules.{parts_faults, parts_value, nodes_faults, nodes_value}
use Rattle.sheet_table.specs.declared.sheet_nodes.nodes.Node.{Node}

module _ {E P : Type 0} (r : Reading E P) (modes called : List ExprName) where
  -- all rules that modules of these nodes break by themselves, module by module, and what they
  -- declare
  abbrev pub all_faults : List (List Node) → List Code
  all_faults [] = []
  all_faults (nodes ∷ rest) = nodes_faults r modes called nodes ++ all_faults rest

  abbrev pub all_values : List (List Node) → List (List (Part E P))
  all_values all = map (λ nodes. nodes_value r modes called nodes) all

  -- the same of modules that are loaded
  abbrev pub modules_faults : List LoadedModule → List Code
  modules_faults [] = []
  modules_faults (m ∷ ms) =
      parts_faults r modes called m.scoped.tree m.scoped.declared ++ modules_faults ms

  abbrev pub modules_value : List LoadedModule → List (List (Part E P))
  modules_value ms = map (λ m. parts_value r modes called m.scoped.tree m.scoped.declared) ms
