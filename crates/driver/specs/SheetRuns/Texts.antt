-- The text of a request to run a stylesheet, and why there is none.
use Rattle.std.specs.Prelude.{◌≡◌, ℕ, List, ⊤, ◌⊎◌}
use Rattle.std.specs.Str.{encode_utf8_all}
use Rattle.xt_io.specs.Files.{FilesState}
use Rattle.xt_tree.specs.declared.trees.Tree.{Tree}
use Rattle.xt_names.specs.declared.codes.Code.{Code}
use Rattle.doc_grammar.specs.declared.spots.Spot.{Spot}
use Rattle.sheet_meaning.specs.Outcome as outcome
use Rattle.command_words.specs.Requests.{Inputs}
use Rattle.xt_io.specs.Loads.{Holdings, IsLoadFailure, IsTooLong}
use Rattle.run_parts.specs.Inputs.{HoldsNoDocument}
use Rattle.run_parts.specs.Inputs.{IsLoadedOf, IsMalformedOf}
use Rattle.run_parts.specs.Result.{Makes, outcome_of}
use Rattle.run_parts.specs.declared.status.Status.{Status}
use Rattle.run_parts.specs.declared.status.Status.TheVariants.{Load, TooLong, Malformed, Static}
use Rattle.run_parts.specs.declared.status.Status.TheVariants.{Dynamic, Deep, Memory}
use Rattle.driver.specs.SheetRuns.Sheets.{HoldsSheet, Asks, IsSheetBroken}
use Rattle.driver.specs.QueryRuns.Texts.{HoldsAllInputs}

-- the text is what this stylesheet makes of the document, as the files hold it
pub record HasTextOf (files : Holdings) (sheet : Tree) (inputs : Inputs) (text : List ℕ)
    : Type 0 where
  pub held : HoldsAllInputs files inputs
  pub makes : Makes inputs.depth sheet held.document_tree text

-- why this stylesheet makes no text
abbrev pub IsNoTextOfAs : Tree → Inputs → FilesState → FilesState → Status → Type 0
IsNoTextOfAs sheet inputs old new (Load name) =
    IsLoadedOf inputs old.held (encode_utf8_all name)
    × IsLoadFailure old new (encode_utf8_all name)
IsNoTextOfAs sheet inputs old new (TooLong name n) =
    IsLoadedOf inputs old.held (encode_utf8_all name) × IsTooLong old new (encode_utf8_all name) n
IsNoTextOfAs sheet inputs old new (Malformed name spot) =
    IsMalformedOf inputs old.held (encode_utf8_all name) spot
IsNoTextOfAs sheet inputs old new (Dynamic code) =
    (all : HoldsAllInputs old.held inputs)
    × (outcome_of inputs.depth sheet all.document_tree ≡ outcome.Fails code)
IsNoTextOfAs sheet inputs old new (Deep depth) =
    (all : HoldsAllInputs old.held inputs) × (depth ≡ inputs.depth)
    × (outcome_of inputs.depth sheet all.document_tree ≡ outcome.Deep)
IsNoTextOfAs sheet inputs old new Memory = ⊤
IsNoTextOfAs sheet inputs old new _ = ⊥

-- some stylesheet, as the files hold it
pub record HoldsSomeSheet (files : Holdings) (sheet : List ℕ) : Type 0 where
  pub tree : Tree
  pub held : HoldsSheet files sheet tree

-- a stylesheet and what it runs on, as the files hold them
pub record HoldsAll (files : Holdings) (sheet : List ℕ) (inputs : Inputs) : Type 0 where
  pub sheet_tree : Tree
  pub sheet_held : HoldsSheet files sheet sheet_tree
  pub all_inputs : HoldsAllInputs files inputs

-- the text is what the stylesheet makes of the document, as the files hold them
pub record HasSheetText (files : Holdings) (sheet : List ℕ) (inputs : Inputs) (text : List ℕ)
    : Type 0 where
  pub held : HoldsAll files sheet inputs
  pub makes : Makes inputs.depth held.sheet_tree held.all_inputs.document_tree text

-- the stylesheet comes to load a module with this name
pub record IsModuleReached (files : Holdings) (sheet name : List ℕ) : Type 0 where
  pub file : List ℕ
  pub named : name ≡ encode_utf8_all file
  pub asks : Asks files sheet file

-- the request comes to load this file, with nothing wrong before
abbrev pub IsSheetReached : List ℕ → Inputs → Holdings → List ℕ → Type 0
IsSheetReached sheet inputs files name =
    IsModuleReached files sheet name
    ⊎ (HoldsSomeSheet files sheet × IsLoadedOf inputs files name)

-- the request comes to this file, which is no document, and this is its first fault
abbrev pub IsSheetMalformed : List ℕ → Inputs → Holdings → List ℕ → Spot → Type 0
IsSheetMalformed sheet inputs files name spot =
    (IsModuleReached files sheet name × HoldsNoDocument files name spot)
    ⊎ (HoldsSomeSheet files sheet × IsMalformedOf inputs files name spot)

-- the run fails with the code
abbrev pub IsSheetFailing : List ℕ → Inputs → Holdings → Code → Type 0
IsSheetFailing sheet inputs files code =
    (all : HoldsAll files sheet inputs)
    × (outcome_of inputs.depth all.sheet_tree all.all_inputs.document_tree ≡ outcome.Fails code)

-- the run would pass the depth
abbrev pub IsSheetTooDeep : List ℕ → Inputs → Holdings → ℕ → Type 0
IsSheetTooDeep sheet inputs files depth =
    (all : HoldsAll files sheet inputs) × (depth ≡ inputs.depth)
    × (outcome_of inputs.depth all.sheet_tree all.all_inputs.document_tree ≡ outcome.Deep)

-- why there is no text
abbrev pub IsNoSheetTextAs : List ℕ → Inputs → FilesState → FilesState → Status → Type 0
IsNoSheetTextAs sheet inputs old new (Load name) =
    IsSheetReached sheet inputs old.held (encode_utf8_all name)
    × IsLoadFailure old new (encode_utf8_all name)
IsNoSheetTextAs sheet inputs old new (TooLong name n) =
    IsSheetReached sheet inputs old.held (encode_utf8_all name)
    × IsTooLong old new (encode_utf8_all name) n
IsNoSheetTextAs sheet inputs old new (Malformed name spot) =
    IsSheetMalformed sheet inputs old.held (encode_utf8_all name) spot
IsNoSheetTextAs sheet inputs old new (Static code) = IsSheetBroken sheet old.held code
IsNoSheetTextAs sheet inputs old new (Dynamic code) = IsSheetFailing sheet inputs old.held code
IsNoSheetTextAs sheet inputs old new (Deep depth) = IsSheetTooDeep sheet inputs old.held depth
IsNoSheetTextAs sheet inputs old new Memory = ⊤
IsNoSheetTextAs sheet inputs old new _ = ⊥
