-- What is loaded can be read, and how refusals go on.
use Rattle.std.proofs.Common.{◌<◌, ◌^◌, ℕ, ◌+◌, List, [], ◌∷◌, length, length-append, arith}
use Rattle.std.proofs.Common.{ap, inl, inr}
use Rattle.xt_io.specs.Files.{FilesState}
use Rattle.sheet_modules.specs.declared.sheet_levels.levels.SheetLevel.{SheetLevel}
use Rattle.module_loading.specs.declared.faults.SheetFault.{SheetFault}
use Rattle.module_loading.specs.declared.faults.SheetFault.TheVariants.{Load, TooLong, Malformed}
use Rattle.module_loading.specs.declared.faults.SheetFault.TheVariants.{Static, Memory}
use Rattle.module_loading.specs.declared.loaded.LoadedSheet.{LoadedSheet}
use Rattle.module_loading.specs.Held.{Holdings}
use Rattle.module_loading.specs.Trees.{spans, levels}
use Rattle.module_loading.specs.Loads.{IsLoadedSheet}
use Rattle.module_loading.specs.Refusals.{IsModuleRefusedAs}
use Rattle.module_loading.proofs.Trees.{length-listed, length-levels, levels_fit}
use Rattle.loaded_sheets.specs.LoadedParts.Names.{AllCanBeRead}
use Rattle.loaded_sheets.proofs.LoadedParts.Readable.{all_read}
use Rattle.import_tree.specs.Sheets.{sheet_links, IsUnreadAs, IsSheetRefusedAs}

pub readable : (files : Holdings) (name : List ℕ) (loaded : LoadedSheet)
    → IsLoadedSheet files sheet_links name loaded → AllCanBeRead loaded.modules
readable files name loaded is = all_read files sheet_links name loaded is

-- there are no more levels than modules
pub few_levels : (files : Holdings) (name : List ℕ) (loaded : LoadedSheet)
    → IsLoadedSheet files sheet_links name loaded → length loaded.levels + 1 < 2 ^ 32
few_levels files name loaded is =
    let top : SheetLevel = record { first = 1; spans = spans 0 0 1 is.tree } in
    let all = length-append (levels 0 1 is.tree) (top ∷ []) in
    let below = length-levels 0 1 is.tree in
    let fit = levels_fit is.tree in
    let modules = length-listed is.tree in
    let same = ap length is.has_levels in
    let loads = ap length is.has_modules in
    let few = is.few in
    omega (arith, all, below, fit, modules, same, loads, few)

-- the modules are not loaded
pub unloaded : (name : List ℕ) (old new : FilesState) (fault : SheetFault)
    → IsModuleRefusedAs sheet_links [] 0 name old new fault → IsSheetRefusedAs name old new fault
unloaded name old new (Static code) x = inl x
unloaded name old new (Load file) x = x
unloaded name old new (TooLong file n) x = x
unloaded name old new (Malformed file spot) x = x
unloaded name old new (Memory e) x = tt

-- the modules break a rule
pub unread : (name : List ℕ) (loaded : LoadedSheet) (old new : FilesState) (fault : SheetFault)
    → IsLoadedSheet old.held sheet_links name loaded → IsUnreadAs loaded fault
    → IsSheetRefusedAs name old new fault
unread name loaded old new (Static code) is x =
    inr (record { loaded = loaded; is_loaded = is; broken = x })
unread name loaded old new (Load file) is x = absurd x
unread name loaded old new (TooLong file n) is x = absurd x
unread name loaded old new (Malformed file spot) is x = absurd x
unread name loaded old new (Memory e) is x = tt
