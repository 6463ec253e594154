-- All that a loaded stylesheet declares is closed.
use Rattle.std.proofs.Common.{◌≡◌, ◌≤◌, ℕ, List, [], ◌∷◌, ◌++◌, length, Bool, true, refl, sym}
use Rattle.std.proofs.Common.{subst, arith}
use Rattle.std.proofs.lemmas.Bool.{and_from}
use Rattle.std.specs.Prelude.{⊤}
use Rattle.std.specs.List.{list_all}
use Rattle.xt_names.specs.declared.names.ExprName.{ExprName}
use Rattle.xt_syntax.specs.declared.exprs.Expr.{Expr}
use Rattle.xt_syntax.specs.declared.patterns.Pattern.{Pattern}
use Rattle.xt_tree.specs.Sound.{is_sound_tree}
use Rattle.doc_grammar.proofs.SoundDocuments.{document_sound}
use Rattle.doc_reader.specs.declared.Scoped.{Scoped}
use Rattle.sheet_modules.specs.ModuleNames.Names.{resolved}
use Rattle.sheet_modules.specs.declared.links.Link.{Link}
use Rattle.sheet_modules.specs.declared.modules.Part.{Part}
use Rattle.loaded_sheets.specs.SheetLanguage.Language.{sheet_reading as reading}
use Rattle.module_loading.specs.Held.{Holdings}
use Rattle.module_loading.specs.Loads.{IsLoadedSheet}
use Rattle.module_loading.specs.Trees.{Modules, none, linked, listed}
use Rattle.module_loading.specs.Walk.{IsModule, LeadTo}
use Rattle.module_loading.specs.declared.loaded.LoadedModule.{LoadedModule}
use Rattle.module_loading.specs.declared.loaded.LoadedSheet.{LoadedSheet}
use Rattle.module_loading.specs.ModuleReader.Modules.{parts_faults, parts_value}
use Rattle.loaded_sheets.specs.LoadedParts.Parts.{modules_faults, modules_value}
use Rattle.loaded_sheets.specs.Sheets.{declarations_in, names_in, own_faults}
use Rattle.closed_parts.specs.SoundNodes.Sound.{are_good_declarations}
use Rattle.closed_parts.proofs.DeclaredBindings.Documents.{declared_good}
use Rattle.assembly_laws.proofs.Lists.{parts_kept}
use Rattle.import_tree.proofs.GoodStylesheets.Singles.{Asks, module_closed}
use Rattle.xt_names.proofs.ListLemmas.{front_nil, back_nil}

-- the text of the module stands for a sound tree, with declarations that may stand
record IsRead (m : LoadedModule) : Type 0 where
  sound : is_sound_tree m.scoped.tree ≡ true
  good : are_good_declarations m.scoped.declared ≡ true

abbrev AreRead : List LoadedModule → Type 0
AreRead [] = ⊤
AreRead (m ∷ ms) = IsRead m × AreRead ms

both_read : (ms ns : List LoadedModule) → AreRead ms → AreRead ns → AreRead (ms ++ ns)
both_read [] ns r s = s
both_read (m ∷ ms) ns r s = (r.0, both_read ms ns r.1 s)

module _ (files : Holdings) (reads : Scoped → List Link) where
  held_read : (name : List ℕ) (m : LoadedModule) → IsModule files reads name m → IsRead m
  held_read name m i =
      let h = i.held in
      let fits : length h.bytes ≤ 0x7FFF_FFFF_FFFF_FFFF = omega (arith, h.held.fits) in
      record {
        sound = document_sound h.bytes m.scoped.tree fits h.stands.document;
        good = declared_good h.bytes m.scoped.tree m.scoped.declared h.stands.declared;
      }

  led_read : (loading : List (List ℕ)) (importer : List ℕ) (links : List Link) (tree : Modules)
      → LeadTo files reads loading importer links tree → AreRead (listed tree)
  led_read loading importer [] none h = tt
  led_read loading importer [] (linked link m below rest) h = absurd h
  led_read loading importer (l ∷ ls) none h = absurd h
  led_read loading importer (l ∷ ls) (linked link m below rest) h =
      let here = held_read (resolved importer l.href) m h.1.held in (
        here,
        both_read (listed below) (listed rest)
            (led_read (loading ++ resolved importer l.href ∷ []) (resolved importer l.href)
            m.links below h.2)
            (led_read loading importer ls rest h.3),
      )

  sheet_read : (name : List ℕ) (l : LoadedSheet) → IsLoadedSheet files reads name l
      → AreRead l.modules
  sheet_read name l i =
      subst AreRead (sym i.has_modules)
      (held_read name i.first i.is_first, led_read (name ∷ []) name i.first.links i.tree i.lead)

all_sound : (ms : List LoadedModule) → AreRead ms
    → list_all (λ m. is_sound_tree m.scoped.tree) ms ≡ true
all_sound [] r = refl
all_sound (m ∷ ms) r =
    and_from (is_sound_tree m.scoped.tree) _ r.0.sound (all_sound ms r.1)

all_good : (ms : List LoadedModule) → AreRead ms
    → list_all (λ m. are_good_declarations m.scoped.declared) ms ≡ true
all_good [] r = refl
all_good (m ∷ ms) r =
    and_from (are_good_declarations m.scoped.declared) _ r.0.good (all_good ms r.1)

module _ (files : Holdings) (reads : Scoped → List Link) (name : List ℕ) (l : LoadedSheet)
    (i : IsLoadedSheet files reads name l) where
  pub trees_sound : list_all (λ m. is_sound_tree m.scoped.tree) l.modules ≡ true
  trees_sound = all_sound l.modules (sheet_read files reads name l i)

  pub declarations_good : list_all (λ m. are_good_declarations m.scoped.declared) l.modules ≡ true
  declarations_good = all_good l.modules (sheet_read files reads name l i)

module _ (q : Part Expr Pattern → Bool) (asks : Asks q) where
  modules_closed : (modes called : List ExprName) (ms : List LoadedModule) → AreRead ms
      → modules_faults reading modes called ms ≡ []
      → list_all (list_all q) (modules_value reading modes called ms) ≡ true
  modules_closed modes called [] r e = refl
  modules_closed modes called (m ∷ ms) r e =
      let own = parts_faults reading modes called m.scoped.tree m.scoped.declared in
      and_from (list_all q (parts_value reading modes called m.scoped.tree m.scoped.declared)) _
      (module_closed q asks modes called m.scoped.tree m.scoped.declared r.0.sound r.0.good
      (front_nil own (modules_faults reading modes called ms) e))
      (modules_closed modes called ms r.1 (back_nil own _ e))

  pub loaded_closed : (files : Holdings) (reads : Scoped → List Link) (name : List ℕ)
      (l : LoadedSheet) → IsLoadedSheet files reads name l → own_faults l ≡ []
      → list_all (λ d. q d.part) (declarations_in l) ≡ true
  unfolding own_faults declarations_in
  loaded_closed files reads name l i e =
      let modes = (names_in l).modes in
      let called = (names_in l).called in
      parts_kept q (modules_value reading modes called l.modules) l.levels
      (modules_closed modes called l.modules (sheet_read files reads name l i) e)
