-- What a run promises: `run` of src/program.rt has a clause for each of `Answers`, `Completes`,
-- `Keeps` and `Notes`. A state with a prime is the one after the run. Requests.antt of
-- command_words says what words ask for, Meaning.antt which text a request has and why it is
-- refused, and Status.antt of run_parts which line is said of a status; docs/THEOREM.md leads
-- through all of it.
use Rattle.std.specs.Prelude.{◌≡◌, ◌≤◌, ℕ, List, [], length, ◌⊎◌, Option, None, Some}
use Rattle.xt_names.specs.declared.codes.Code.{Code}
use Rattle.xt_io.specs.Files.{FilesState, KeepsFiles, Rose}
use Rattle.xt_io.specs.Sink.{SinkState, Puts, PutsPrefix}
use Rattle.doc_grammar.specs.declared.spots.Spot.{Spot}
use Rattle.command_words.specs.Requests.{Asked, request_of}
use Rattle.command_words.specs.Words.{Words}
use Rattle.xt_io.specs.Loads.{file_limit}
use Rattle.driver.specs.Meaning.{Means, IsRefusedAs, IsReached, IsBroken, IsMalformed, IsFailing}
use Rattle.driver.specs.Meaning.{IsTooDeep}
use Rattle.run_parts.specs.Status.{note_line, Tells}
use Rattle.run_parts.specs.declared.status.Status.{Status}
use Rattle.run_parts.specs.declared.status.Status.TheVariants.{Done, Usage, Write, Memory}

-- Each status comes only with its cause, and says what was written: the whole text where the run is
-- done, a prefix of it where the output failed or memory ran out, and nothing at any other status.
abbrev pub Answers : Words → FilesState → FilesState → SinkState → SinkState → Status → Type 0
Answers words files files' out out' Done =
    (text : List ℕ) × Means words files text × Puts out out' text
Answers words files files' out out' Write = (text : List ℕ) × Means words files text
    × PutsPrefix out out' text × Rose out.faults out'.faults
Answers words files files' out out' Memory =
    Puts out out' [] ⊎ ((text : List ℕ) × Means words files text × PutsPrefix out out' text)
Answers words files files' out out' Usage = (request_of words ≡ None) × Puts out out' []
Answers words files files' out out' status =
    (request : Asked) × (request_of words ≡ Some request)
    × IsRefusedAs request files files' status × Puts out out' []

-- Nothing stands against a request: the files tell what they hold, each file that it comes to is
-- held, not too long and a document, no rule is broken, the run neither fails nor is too deep, and
-- no load and no write failed.
pub record IsClean (request : Asked) (files files' : FilesState) (out out' : SinkState) : Type 0 where
  pub map : List ℕ → Option (List ℕ)
  pub told : files.held ≡ Some map
  pub fits : (name : List ℕ) → IsReached request files name
      → (bytes : List ℕ) × (map name ≡ Some bytes) × (length bytes ≤ file_limit)
  pub parsed : (name : List ℕ) (spot : Spot) → ¬ (IsMalformed request files name spot)
  pub kept : (code : Code) → ¬ (IsBroken request files code)
  pub succeeds : (code : Code) → ¬ (IsFailing request files code)
  pub ends : (depth : ℕ) → ¬ (IsTooDeep request files depth)
  pub read : ¬ (Rose files.faults files'.faults)
  pub wrote : ¬ (Rose out.faults out'.faults)

-- Where nothing stands against the request, the text is written, or memory ran out.
abbrev pub Completes : Words → FilesState → FilesState → SinkState → SinkState → Status → Type 0
Completes words files files' out out' status =
    (request : Asked) → request_of words ≡ Some request → IsClean request files files' out out'
    → (status ≡ Done) ⊎ (status ≡ Memory)

-- What the files hold stays, and their counts of failures and of bytes do not fall.
abbrev pub Keeps : FilesState → FilesState → Type 0
Keeps files files' = KeepsFiles files files'

-- The line of the status is said; nothing where the run is done, and where memory ran out a prefix
-- of some line.
abbrev pub Notes : SinkState → SinkState → Status → Type 0
Notes notes notes' Done = Puts notes notes' []
Notes notes notes' Memory = (status : Status) × PutsPrefix notes notes' (note_line status)
Notes notes notes' status = Tells notes notes' status
