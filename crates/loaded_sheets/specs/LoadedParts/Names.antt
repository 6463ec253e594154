-- Numbers of modes and of templates that are called (XSLT 2.0, 6.5 and 10.1).
use Rattle.std.specs.Prelude.{List, [], ◌∷◌, ⊤, map, slice_get, ◌==◌, Option, Some, None}
use Rattle.std.specs.Prelude.{if◌then◌else◌}
use Rattle.sheet_values.specs.Modes.{default_mode}
use Rattle.sheet_modules.specs.declared.sheet_levels.levels.Span.{Span}
use Rattle.sheet_modules.specs.declared.sheet_levels.levels.SheetLevel.{SheetLevel}
use Rattle.module_loading.specs.declared.loaded.LoadedModule.{LoadedModule}
use Rattle.module_loading.specs.ModuleReader.Modules.{CanBeRead, with_modes, with_called, module_nodes, nodes_names}
use Rattle.module_loading.specs.declared.module_reader.mentions.Mention.TheVariants as mention
use Rattle.sheet_table.specs.declared.sheet_nodes.nodes.Node.{Node}
use Rattle.loaded_sheets.specs.declared.loaded_parts.names.SheetNames.{SheetNames}

abbrev pub ModuleCanBeRead : LoadedModule → Type 0
ModuleCanBeRead m = CanBeRead m.scoped.tree m.scoped.declared

abbrev pub AllCanBeRead : List LoadedModule → Type 0
AllCanBeRead [] = ⊤
AllCanBeRead (m ∷ ms) = ModuleCanBeRead m × AllCanBeRead ms

abbrev pub names_alone : SheetNames
names_alone = record { modes = default_mode ∷ []; called = [] }

-- the nodes of each module
abbrev pub nodes_of_module : LoadedModule → List Node
nodes_of_module m = module_nodes m.scoped.tree m.scoped.declared

abbrev pub nodes_in : List LoadedModule → List (List Node)
nodes_in ms = map nodes_of_module ms

-- .. and those of a module of these nodes
abbrev pub with_nodes : Option (List Node) → SheetNames → SheetNames
with_nodes None names = names
with_nodes (Some nodes) names = record {
  modes = nodes_names mention.Modes nodes names.modes;
  called = nodes_names mention.Called nodes names.called;
}

-- .. where its first piece stands
abbrev pub with_span_of : List (List Node) → Span → SheetNames → SheetNames
with_span_of modules s names =
    if s.from == 0 then with_nodes (slice_get modules s.place) names else names

abbrev pub with_spans_of : List (List Node) → List Span → SheetNames → SheetNames
with_spans_of modules [] names = names
with_spans_of modules (s ∷ ss) names = with_spans_of modules ss (with_span_of modules s names)

abbrev pub with_levels_of : List (List Node) → List SheetLevel → SheetNames → SheetNames
with_levels_of modules [] names = names
with_levels_of modules (l ∷ ls) names = with_levels_of modules ls (with_spans_of modules l.spans names)

-- The same of modules that are loaded: those of a module
abbrev pub with_module : Option LoadedModule → SheetNames → SheetNames
with_module None names = names
with_module (Some m) names = record {
  modes = with_modes m.scoped.tree m.scoped.declared names.modes;
  called = with_called m.scoped.tree m.scoped.declared names.called;
}

-- .. where its first piece stands
abbrev pub with_span : List LoadedModule → Span → SheetNames → SheetNames
with_span modules s names =
    if s.from == 0 then with_module (slice_get modules s.place) names else names

abbrev pub with_spans : List LoadedModule → List Span → SheetNames → SheetNames
with_spans modules [] names = names
with_spans modules (s ∷ ss) names = with_spans modules ss (with_span modules s names)

abbrev pub with_levels : List LoadedModule → List SheetLevel → SheetNames → SheetNames
with_levels modules [] names = names
with_levels modules (l ∷ ls) names = with_levels modules ls (with_spans modules l.spans names)
