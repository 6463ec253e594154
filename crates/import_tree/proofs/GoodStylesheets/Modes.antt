-- The modes of all modules in the order of their levels are sound.
use Rattle.std.proofs.Common.{◌≡◌, ℕ, zero, suc, List, [], ◌∷◌, Bool, true, false, cond, ◌==◌}
use Rattle.std.proofs.Common.{slice_get, Option, Some, None, refl}
use Rattle.std.proofs.lemmas.Bool.{and_parts}
use Rattle.std.specs.List.{list_all}
use Rattle.closed_sheets.specs.Sheets.{are_sound_modes}
use Rattle.xt_tree.specs.Sound.{is_sound_tree}
use Rattle.sheet_modules.specs.declared.sheet_levels.levels.Span.{Span}
use Rattle.sheet_modules.specs.declared.sheet_levels.levels.SheetLevel.{SheetLevel}
use Rattle.module_loading.specs.declared.loaded.LoadedModule.{LoadedModule}
use Rattle.module_loading.specs.ModuleReader.Modules.{module_nodes, with_modes}
use Rattle.loaded_sheets.specs.LoadedParts.Names.{names_alone, with_levels, with_module, with_span, with_spans}
use Rattle.loaded_sheets.specs.declared.loaded_parts.names.SheetNames.{SheetNames}
use Rattle.closed_parts.specs.SoundNodes.Sound.{are_good_declarations}
use Rattle.import_tree.proofs.GoodStylesheets.Singles.{sound_module}
use Rattle.import_tree.proofs.GoodStylesheets.Mentions.{nodes_named}
use Rattle.import_tree.proofs.GoodStylesheets.Tables.{GoodTable, modes_sound}

abbrev SoundModule : LoadedModule → Type 0
SoundModule m =
    (is_sound_tree m.scoped.tree ≡ true) × (are_good_declarations m.scoped.declared ≡ true)

abbrev IfSound : Option LoadedModule → Type 0
IfSound None = Unit {0}
IfSound (Some m) = SoundModule m

got_sound : (ms : List LoadedModule) → list_all (λ m. is_sound_tree m.scoped.tree) ms ≡ true
    → list_all (λ m. are_good_declarations m.scoped.declared) ms ≡ true → (at : ℕ)
    → IfSound (slice_get ms at)
got_sound [] h d zero = tt
got_sound [] h d (suc at) = tt
got_sound (m ∷ ms) h d zero = (
  (and_parts (is_sound_tree m.scoped.tree) _ h).0,
  (and_parts (are_good_declarations m.scoped.declared) _ d).0,
)
got_sound (m ∷ ms) h d (suc at) =
    got_sound ms (and_parts (is_sound_tree m.scoped.tree) _ h).1
    (and_parts (are_good_declarations m.scoped.declared) _ d).1 at

module_named : (o : Option LoadedModule) → IfSound o → (names : SheetNames)
    → GoodTable names.modes → GoodTable (with_module o names).modes
unfolding with_modes
module_named None s names t = t
module_named (Some m) s names t =
    nodes_named (module_nodes m.scoped.tree m.scoped.declared)
    (sound_module m.scoped.tree m.scoped.declared s.0 s.1) names.modes t

module _ (ms : List LoadedModule) (h : list_all (λ m. is_sound_tree m.scoped.tree) ms ≡ true)
    (d : list_all (λ m. are_good_declarations m.scoped.declared) ms ≡ true) where
  span_named : (s : Span) (names : SheetNames) → GoodTable names.modes
      → GoodTable (with_span ms s names).modes
  span_named s names t = go (s.from == 0)
    where
      go : (b : Bool) → GoodTable (cond b (with_module (slice_get ms s.place) names) names).modes
      go true = module_named (slice_get ms s.place) (got_sound ms h d s.place) names t
      go false = t

  spans_named : (ss : List Span) (names : SheetNames) → GoodTable names.modes
      → GoodTable (with_spans ms ss names).modes
  spans_named [] names t = t
  spans_named (s ∷ ss) names t = spans_named ss (with_span ms s names) (span_named s names t)

  levels_named : (ls : List SheetLevel) (names : SheetNames) → GoodTable names.modes
      → GoodTable (with_levels ms ls names).modes
  levels_named [] names t = t
  levels_named (l ∷ ls) names t =
      levels_named ls (with_spans ms l.spans names) (spans_named l.spans names t)

  pub modes_named : (ls : List SheetLevel)
      → are_sound_modes (with_levels ms ls names_alone).modes ≡ true
  modes_named ls =
      modes_sound (with_levels ms ls names_alone).modes (levels_named ls names_alone (refl, refl))
