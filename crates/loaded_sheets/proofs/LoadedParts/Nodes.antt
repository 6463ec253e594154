-- What is said of the nodes of modules is said of the modules.
use Rattle.std.proofs.Common.{◌≡◌, ◌∙◌, List, [], ◌∷◌, ◌++◌, refl, ap, slice_get}
use Rattle.std.proofs.Common.{ℕ, zero, suc, ◌==◌, if◌then◌else◌}
use Rattle.xt_names.specs.declared.names.ExprName.{ExprName}
use Rattle.sheet_values.specs.SheetTexts.Readings.{Reading}
use Rattle.sheet_modules.specs.declared.sheet_levels.levels.Span.{Span}
use Rattle.sheet_modules.specs.declared.sheet_levels.levels.SheetLevel.{SheetLevel}
use Rattle.module_loading.specs.declared.loaded.LoadedModule.{LoadedModule}
use Rattle.module_loading.specs.ModuleReader.Modules.{with_modes, with_called, parts_faults, parts_value}
use Rattle.loaded_sheets.specs.LoadedParts.Names.{nodes_in, with_nodes, with_module, with_span_of, with_span}
use Rattle.loaded_sheets.specs.LoadedParts.Names.{with_spans_of, with_spans, with_levels_of, with_levels}
use Rattle.loaded_sheets.specs.LoadedParts.Parts.{all_faults, all_values, modules_faults, modules_value}
use Rattle.loaded_sheets.specs.declared.loaded_parts.names.SheetNames.{SheetNames}

one_module : (ms : List LoadedModule) (place : ℕ) (names : SheetNames)
    → with_nodes (slice_get (nodes_in ms) place) names ≡ with_module (slice_get ms place) names
unfolding with_modes with_called
one_module [] place names = refl
one_module (m ∷ ms) zero names = refl
one_module (m ∷ ms) (suc place) names = one_module ms place names

one_span : (ms : List LoadedModule) (s : Span) (names : SheetNames)
    → with_span_of (nodes_in ms) s names ≡ with_span ms s names
one_span ms s names =
    ap (λ (n : SheetNames). if s.from == 0 then n else names) (one_module ms s.place names)

all_spans : (ms : List LoadedModule) (ss : List Span) (names : SheetNames)
    → with_spans_of (nodes_in ms) ss names ≡ with_spans ms ss names
all_spans ms [] names = refl
all_spans ms (s ∷ ss) names =
    ap (λ (n : SheetNames). with_spans_of (nodes_in ms) ss n) (one_span ms s names)
    ∙ all_spans ms ss (with_span ms s names)

-- the names of the modes and of the templates that are called
pub names_of_modules : (ms : List LoadedModule) (ls : List SheetLevel) (names : SheetNames)
    → with_levels_of (nodes_in ms) ls names ≡ with_levels ms ls names
names_of_modules ms [] names = refl
names_of_modules ms (l ∷ ls) names =
    ap (λ (n : SheetNames). with_levels_of (nodes_in ms) ls n) (all_spans ms l.spans names)
    ∙ names_of_modules ms ls (with_spans ms l.spans names)

module _ {E P : Type 0} (r : Reading E P) (modes called : List ExprName) where
  -- the rules that modules break by themselves, and what they declare
  pub faults_of_modules : (ms : List LoadedModule)
      → all_faults r modes called (nodes_in ms) ≡ modules_faults r modes called ms
  unfolding parts_faults
  faults_of_modules [] = refl
  faults_of_modules (m ∷ ms) =
      ap (λ cs. parts_faults r modes called m.scoped.tree m.scoped.declared ++ cs) (faults_of_modules ms)

  pub values_of_modules : (ms : List LoadedModule)
      → all_values r modes called (nodes_in ms) ≡ modules_value r modes called ms
  unfolding parts_value
  values_of_modules [] = refl
  values_of_modules (m ∷ ms) =
      ap (λ ps. parts_value r modes called m.scoped.tree m.scoped.declared ∷ ps) (values_of_modules ms)
