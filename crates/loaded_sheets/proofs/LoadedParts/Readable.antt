-- All that is loaded can be read.
use Rattle.std.proofs.Common.{◌≡◌, ℕ, zero, suc, List, [], ◌∷◌, ◌++◌, Some, sym, subst, slice_get}
use Rattle.std.proofs.lemmas.Option.{none-some, same_Some}
use Rattle.doc_reader.specs.declared.Scoped.{Scoped}
use Rattle.sheet_modules.specs.declared.links.Link.{Link}
use Rattle.module_loading.specs.declared.loaded.LoadedModule.{LoadedModule}
use Rattle.module_loading.specs.declared.loaded.LoadedSheet.{LoadedSheet}
use Rattle.module_loading.specs.Held.{Holdings}
use Rattle.module_loading.specs.Trees.{Modules, none, linked, listed}
use Rattle.module_loading.specs.Walk.{IsModule, LeadTo}
use Rattle.module_loading.specs.Loads.{IsLoadedSheet}
use Rattle.sheet_modules.specs.ModuleNames.Names.{resolved}
use Rattle.module_loading.proofs.ModuleReader.Counted.{can_be_read}
use Rattle.loaded_sheets.specs.LoadedParts.Names.{ModuleCanBeRead, AllCanBeRead}

pub all_at : (ms : List LoadedModule) (i : ℕ) (m : LoadedModule) → AllCanBeRead ms
    → slice_get ms i ≡ Some m → ModuleCanBeRead m
all_at [] i m all found = absurd (none-some m found)
all_at (x ∷ xs) zero m all found = subst ModuleCanBeRead (same_Some x m found) all.0
all_at (x ∷ xs) (suc i) m all found = all_at xs i m all.1 found

both : (xs ys : List LoadedModule) → AllCanBeRead xs → AllCanBeRead ys → AllCanBeRead (xs ++ ys)
both [] ys x y = y
both (m ∷ ms) ys x y = (x.0, both ms ys x.1 y)

module _ (files : Holdings) (links : Scoped → List Link) where
  one : (name : List ℕ) (m : LoadedModule) → IsModule files links name m → ModuleCanBeRead m
  one name m is = can_be_read is.held.bytes m.scoped.tree m.scoped.declared is.held.stands.declared

  lead_read : (loading : List (List ℕ)) (importer : List ℕ) (ls : List Link) (tree : Modules)
      → LeadTo files links loading importer ls tree → AllCanBeRead (listed tree)
  lead_read loading importer [] none lead = tt
  lead_read loading importer [] (linked link m below rest) lead = absurd lead
  lead_read loading importer (l ∷ ls) none lead = absurd lead
  lead_read loading importer (l ∷ ls) (linked link m below rest) lead = (
    one (resolved importer l.href) m lead.1.held,
    both (listed below) (listed rest)
        (lead_read (loading ++ resolved importer l.href ∷ []) (resolved importer l.href) m.links below lead.2)
        (lead_read loading importer ls rest lead.3),
  )

  pub all_read : (name : List ℕ) (sheet : LoadedSheet) → IsLoadedSheet files links name sheet
      → AllCanBeRead sheet.modules
  all_read name sheet is =
      subst AllCanBeRead (sym is.has_modules) (
        one name is.first is.is_first,
        lead_read (name ∷ []) name is.first.links is.tree is.lead,
      )
