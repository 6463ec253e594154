-- How the refusals of the parts make the refusals of a request to run a stylesheet.
use Rattle.std.proofs.Common.{◌≡◌, ℕ, List, [], ◌∷◌, Option, Some, None, true, false, inl, inr}
use Rattle.std.proofs.Common.{refl, sym, ap, ◌∙◌, subst}
use Rattle.std.proofs.lemmas.Option.{none-some, same_Some}
use Rattle.std.specs.Str.{chars, encode_utf8_all}
use Rattle.xt_io.specs.Files.{FilesState, KeepsFiles}
use Rattle.xt_names.specs.declared.codes.Code.TheVariants.{SheetStatic}
use Rattle.xt_names.specs.declared.codes.SheetStaticCode.TheVariants.{XTUN0001}
use Rattle.xt_tree.specs.declared.trees.Tree.{Tree}
use Rattle.xt_sheets.specs.declared.sheets.Sheet.{Sheet}
use Rattle.doc_grammar.specs.declared.spots.Spot.{Spot}
use Rattle.sheet_meaning.specs.First.{is_first_sheet}
use Rattle.module_loading.specs.declared.faults.SheetFault.{SheetFault}
use Rattle.module_loading.specs.declared.faults.SheetFault.TheVariants as fault
use Rattle.module_loading.specs.declared.loaded.LoadedModule.{LoadedModule}
use Rattle.module_loading.specs.declared.loaded.LoadedSheet.{LoadedSheet}
use Rattle.module_loading.specs.Held.{HoldsNoModule}
use Rattle.import_tree.specs.Sheets.{IsSheet, IsSheetRefusedAs}
use Rattle.command_words.specs.Requests.{Inputs}
use Rattle.xt_io.specs.Loads.{Holdings}
use Rattle.run_parts.specs.Inputs.{HoldsNoDocument, HoldsInputs, IsInputRefusedAs}
use Rattle.run_parts.specs.Result.{Makes, IsResultRefusedAs}
use Rattle.run_parts.specs.declared.status.Status.{Status}
use Rattle.run_parts.specs.declared.status.Status.TheVariants.{Load, TooLong, Malformed, Static}
use Rattle.run_parts.specs.declared.status.Status.TheVariants.{Dynamic, Deep, Memory}
use Rattle.xt_io.proofs.LoadLemmas.{failed_later, long_later}
use Rattle.driver.specs.SheetRuns.Sheets.{main_tree, is_first, told_of, HoldsFirst, HoldsSheet}
use Rattle.driver.specs.SheetRuns.Sheets.{IsUnloadedAs}
use Rattle.driver.specs.SheetRuns.Texts.{HasTextOf, IsNoTextOfAs, HoldsAll, HasSheetText}
use Rattle.driver.specs.SheetRuns.Texts.{IsNoSheetTextAs}
use Rattle.driver.proofs.QueryRuns.QueryLemmas.{later}
use Rattle.driver.specs.QueryRuns.Texts.{HoldsAllInputs}

no_document : (files : Holdings) (file : List ℕ) (spot : Spot)
    → HoldsNoModule files file spot → HoldsNoDocument files (encode_utf8_all file) spot
no_document files file spot x = record {
  bytes = x.bytes;
  held = record { held = x.held.held; fits = x.held.fits };
  none = x.none;
  first = x.first;
}

-- the stylesheet is not loaded
pub unloaded : (name : List ℕ) (old new : FilesState) (f : SheetFault)
    → IsSheetRefusedAs (chars name) old new f → IsUnloadedAs name old new (told_of f)
unloaded name old new (fault.Load file) x = x
unloaded name old new (fault.TooLong file n) x = x
unloaded name old new (fault.Malformed file spot) x = (x.0, no_document old.held file spot x.1)
unloaded name old new (fault.Static code) x =
    elim x [ inl link ↦ inl link | inr rule ↦ inr (inl rule) ]
unloaded name old new (fault.Memory e) x = tt

-- the stylesheet is of another form
pub other_form : (name : List ℕ) (old new : FilesState) (loaded : LoadedSheet) (sheet : Sheet)
    (status : Status) → IsSheet old.held (chars name) loaded sheet
    → (status ≡ Static (SheetStatic XTUN0001)) × (is_first loaded.modules ≡ false)
    → IsUnloadedAs name old new status
other_form name old new loaded sheet status is k =
    rw k.0 (inr (inr (refl, record { loaded = loaded; sheet = sheet; is_sheet = is; other = k.1 })))

pub first_held : (files : Holdings) (name : List ℕ) (loaded made : LoadedSheet) (sheet : Sheet)
    → IsSheet files (chars name) loaded sheet
    → (made ≡ loaded) × (is_first loaded.modules ≡ true) → HoldsFirst files name made
first_held files name loaded made sheet is k =
    rw k.0 (record { sheet = sheet; is_sheet = is; form = k.1 })

-- the first module is there
pub main_is_there : (ms : List LoadedModule) → is_first ms ≡ true → None ≡ main_tree ms → ⊥
main_is_there [] form none = cc
main_is_there (m ∷ ms) form none = none-some m.scoped.tree none

-- .. and is of the first form
pub main_is_first : (ms : List LoadedModule) (tree : Tree) → is_first ms ≡ true
    → Some tree ≡ main_tree ms → is_first_sheet tree ≡ true
main_is_first [] tree form main = cc
main_is_first (m ∷ ms) tree form main =
    ap is_first_sheet (same_Some tree m.scoped.tree main) ∙ form

pub sheet_held : (files : Holdings) (name : List ℕ) (loaded : LoadedSheet) (tree : Tree)
    → HoldsFirst files name loaded → Some tree ≡ main_tree loaded.modules → HoldsSheet files name tree
sheet_held files name loaded tree first main =
    record { loaded = loaded; first = first; is_main = sym main }

-- the inputs are refused
pub inputs_refused : (sheet : Tree) (inputs : Inputs) (old new : FilesState) (status : Status)
    → IsInputRefusedAs inputs old new status → IsNoTextOfAs sheet inputs old new status
inputs_refused sheet inputs old new (Load name) x = x
inputs_refused sheet inputs old new (TooLong name n) x = x
inputs_refused sheet inputs old new (Malformed name spot) x = x
inputs_refused sheet inputs old new Memory x = x
inputs_refused sheet inputs old new _ x = absurd x

-- the stylesheet makes no text of what the files hold
pub none_made : (sheet : Tree) (inputs : Inputs) (d : Tree) (ds : List Tree) (old new : FilesState)
    (status : Status) → HoldsInputs old.held inputs d ds
    → IsResultRefusedAs inputs.depth sheet d status → IsNoTextOfAs sheet inputs old new status
none_made sheet inputs d ds old new (Dynamic code) docs x =
    (record { document_tree = d; further_trees = ds; inputs_held = docs }, x)
none_made sheet inputs d ds old new (Deep depth) docs x =
    (record { document_tree = d; further_trees = ds; inputs_held = docs }, x.0, x.1)
none_made sheet inputs d ds old new Memory docs x = x
none_made sheet inputs d ds old new _ docs x = absurd x

-- the text is what the stylesheet makes of what the files hold
pub text_of_inputs : (files : Holdings) (sheet : Tree) (inputs : Inputs) (d : Tree) (ds : List Tree)
    (text : List ℕ) → HoldsInputs files inputs d ds → Makes inputs.depth sheet d text
    → HasTextOf files sheet inputs text
text_of_inputs files sheet inputs d ds text docs x = record {
  held = record { document_tree = d; further_trees = ds; inputs_held = docs };
  makes = x;
}

-- the stylesheet is refused
pub refused_first : (sheet : List ℕ) (inputs : Inputs) (old new : FilesState) (status : Status)
    → IsUnloadedAs sheet old new status → IsNoSheetTextAs sheet inputs old new status
refused_first sheet inputs old new (Load file) x =
    (inl (record { file = file; named = refl; asks = x.0 }), x.1)
refused_first sheet inputs old new (TooLong file n) x =
    (inl (record { file = file; named = refl; asks = x.0 }), x.1)
refused_first sheet inputs old new (Malformed file spot) x =
    inl (record { file = file; named = refl; asks = x.0 }, x.1)
refused_first sheet inputs old new (Static code) x = x
refused_first sheet inputs old new Memory x = x
refused_first sheet inputs old new _ x = absurd x

-- the stylesheet and its inputs
abbrev all_held : (sheet : List ℕ) (inputs : Inputs) (tree : Tree) (old mid : FilesState)
    → HoldsSheet old.held sheet tree → KeepsFiles old mid → HoldsAllInputs mid.held inputs
    → HoldsAll old.held sheet inputs
all_held sheet inputs tree old mid held keeps x =
    record { sheet_tree = tree; sheet_held = held; all_inputs = later inputs old mid keeps x }

-- a stylesheet that is held makes no text
pub refused_second : (sheet : List ℕ) (inputs : Inputs) (tree : Tree) (old mid new : FilesState)
    (status : Status) → HoldsSheet old.held sheet tree → KeepsFiles old mid
    → IsNoTextOfAs tree inputs mid new status → IsNoSheetTextAs sheet inputs old new status
refused_second sheet inputs tree old mid new (Load name) held keeps x = (
  inr (record { tree = tree; held = held }, rw keeps.held at x.0),
  failed_later old mid new (encode_utf8_all name) keeps x.1,
)
refused_second sheet inputs tree old mid new (TooLong name n) held keeps x = (
  inr (record { tree = tree; held = held }, rw keeps.held at x.0),
  long_later old mid new (encode_utf8_all name) n keeps x.1,
)
refused_second sheet inputs tree old mid new (Malformed name spot) held keeps x =
    inr (record { tree = tree; held = held }, rw keeps.held at x)
refused_second sheet inputs tree old mid new (Dynamic code) held keeps x =
    (all_held sheet inputs tree old mid held keeps x.0, x.1)
refused_second sheet inputs tree old mid new (Deep depth) held keeps x =
    (all_held sheet inputs tree old mid held keeps x.0, x.1, x.2)
refused_second sheet inputs tree old mid new Memory held keeps x = x
refused_second sheet inputs tree old mid new _ held keeps x = absurd x

-- the text is that of the request
pub text_made : (sheet : List ℕ) (inputs : Inputs) (tree : Tree) (text : List ℕ)
    (old mid : FilesState) → HoldsSheet old.held sheet tree → KeepsFiles old mid
    → HasTextOf mid.held tree inputs text → HasSheetText old.held sheet inputs text
text_made sheet inputs tree text old mid held keeps x =
    record { held = all_held sheet inputs tree old mid held keeps x.held; makes = x.makes }
