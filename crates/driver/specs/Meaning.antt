-- What each request means, and when it is refused.
use Rattle.std.specs.Prelude.{◌≡◌, ℕ, List, ⊤, Some}
use Rattle.std.specs.Str.{encode_utf8_all}
use Rattle.xt_io.specs.Files.{FilesState}
use Rattle.xt_names.specs.declared.codes.Code.{Code}
use Rattle.doc_grammar.specs.declared.spots.Spot.{Spot}
use Rattle.command_words.specs.Requests.{Asked, Transform, Query, request_of}
use Rattle.command_words.specs.Words.{Words}
use Rattle.xt_io.specs.Loads.{IsLoadFailure, IsTooLong}
use Rattle.driver.specs.SheetRuns.Sheets.{IsSheetBroken}
use Rattle.driver.specs.SheetRuns.Texts.{HasSheetText, IsSheetReached, IsSheetMalformed, IsSheetFailing}
use Rattle.driver.specs.SheetRuns.Texts.{IsSheetTooDeep}
use Rattle.driver.specs.QueryRuns.Queries.{HoldsNoQuery}
use Rattle.driver.specs.QueryRuns.Texts.{HasQueryText, IsQueryReached, IsQueryMalformed, IsQueryFailing}
use Rattle.driver.specs.QueryRuns.Texts.{IsQueryTooDeep}
use Rattle.run_parts.specs.declared.status.Status.{Status}
use Rattle.run_parts.specs.declared.status.Status.TheVariants.{Load, TooLong, Malformed, Static}
use Rattle.run_parts.specs.declared.status.Status.TheVariants.{Dynamic, Deep, Memory}

-- the text that is written for a request
abbrev pub HasText : Asked → FilesState → List ℕ → Type 0
HasText (Transform sheet inputs) files text = HasSheetText files.held sheet inputs text
HasText (Query query inputs) files text = HasQueryText files.held query inputs text

-- the words ask for something, and this is its text
abbrev pub Means : Words → FilesState → List ℕ → Type 0
Means words files text =
    (request : Asked) × (request_of words ≡ Some request) × HasText request files text

-- a request comes to load this file, with nothing wrong before
abbrev pub IsReached : Asked → FilesState → List ℕ → Type 0
IsReached (Transform sheet inputs) files name = IsSheetReached sheet inputs files.held name
IsReached (Query query inputs) files name = IsQueryReached query inputs files.held name

-- a static rule is broken, whose code this is: the modules of a stylesheet break one, or the
-- stylesheet is none that is run; or the text of a query spells none or breaks a rule
abbrev pub IsBroken : Asked → FilesState → Code → Type 0
IsBroken (Transform sheet inputs) files code = IsSheetBroken sheet files.held code
IsBroken (Query query inputs) files code = HoldsNoQuery files.held query code

-- a request comes to this file, which is no document, and this is its first fault
abbrev pub IsMalformed : Asked → FilesState → List ℕ → Spot → Type 0
IsMalformed (Transform sheet inputs) files name spot =
    IsSheetMalformed sheet inputs files.held name spot
IsMalformed (Query query inputs) files name spot =
    IsQueryMalformed query inputs files.held name spot

-- the run fails with the code
abbrev pub IsFailing : Asked → FilesState → Code → Type 0
IsFailing (Transform sheet inputs) files code = IsSheetFailing sheet inputs files.held code
IsFailing (Query query inputs) files code = IsQueryFailing query inputs files.held code

-- the run would pass the depth
abbrev pub IsTooDeep : Asked → FilesState → ℕ → Type 0
IsTooDeep (Transform sheet inputs) files depth = IsSheetTooDeep sheet inputs files.held depth
IsTooDeep (Query query inputs) files depth = IsQueryTooDeep query inputs files.held depth

-- why a request is refused so, before anything is written
abbrev pub IsRefusedAs : Asked → FilesState → FilesState → Status → Type 0
IsRefusedAs request old new (Load name) =
    IsReached request old (encode_utf8_all name) × IsLoadFailure old new (encode_utf8_all name)
IsRefusedAs request old new (TooLong name n) =
    IsReached request old (encode_utf8_all name) × IsTooLong old new (encode_utf8_all name) n
IsRefusedAs request old new (Malformed name spot) =
    IsMalformed request old (encode_utf8_all name) spot
IsRefusedAs request old new (Static code) = IsBroken request old code
IsRefusedAs request old new (Dynamic code) = IsFailing request old code
IsRefusedAs request old new (Deep depth) = IsTooDeep request old depth
IsRefusedAs request old new Memory = ⊤
IsRefusedAs request old new _ = ⊥
