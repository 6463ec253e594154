-- How the parts of a run make its answers.
use Rattle.std.proofs.Common.{◌≡◌, ◌≤◌, ℕ, List, [], length, take, inl, inr, Option, None}
use Rattle.std.proofs.Common.{Some, refl, sym, ◌∙◌, subst, arith}
use Rattle.std.specs.Str.{encode_utf8_all}
use Rattle.xt_io.specs.Files.{FilesState, IsMissing, HoldsAtLeast}
use Rattle.xt_io.specs.Sink.{SinkState, Puts}
use Rattle.xt_io.proofs.SinkLemmas.{Puts-none, Puts-whole}
use Rattle.command_words.specs.Requests.{Asked, Transform, Query, Inputs, request_of}
use Rattle.driver.specs.SheetRuns.Texts.{IsNoSheetTextAs}
use Rattle.driver.specs.QueryRuns.Texts.{IsNoQueryTextAs}
use Rattle.driver.specs.Meaning.{HasText, IsRefusedAs}
use Rattle.run_parts.specs.Status.{Tells, Writes}
use Rattle.driver.specs.Theorem.{Answers, Completes, IsClean, Notes}
use Rattle.run_parts.specs.declared.status.Status.{Status}
use Rattle.run_parts.specs.declared.status.Status.TheVariants.{Done, Usage, Load, TooLong, Malformed}
use Rattle.run_parts.specs.declared.status.Status.TheVariants.{Static, Dynamic, Deep, Write, Memory}
use Rattle.xt_names.proofs.ListLemmas.{some_same}

-- there is no text of a stylesheet, as the request for it is refused
pub sheet_refused : (sheet : List ℕ) (inputs : Inputs) (old new : FilesState) (status : Status)
    → IsNoSheetTextAs sheet inputs old new status
    → IsRefusedAs (Transform sheet inputs) old new status
sheet_refused sheet inputs old new (Load name) x = x
sheet_refused sheet inputs old new (TooLong name n) x = x
sheet_refused sheet inputs old new (Malformed name spot) x = x
sheet_refused sheet inputs old new (Static code) x = x
sheet_refused sheet inputs old new (Dynamic code) x = x
sheet_refused sheet inputs old new (Deep depth) x = x
sheet_refused sheet inputs old new Memory x = x
sheet_refused sheet inputs old new _ x = absurd x

-- there is no text of a query, as the request for it is refused
pub query_refused : (query : List ℕ) (inputs : Inputs) (old new : FilesState) (status : Status)
    → IsNoQueryTextAs query inputs old new status
    → IsRefusedAs (Query query inputs) old new status
query_refused query inputs old new (Load name) x = x
query_refused query inputs old new (TooLong name n) x = x
query_refused query inputs old new (Malformed name spot) x = x
query_refused query inputs old new (Static code) x = x
query_refused query inputs old new (Dynamic code) x = x
query_refused query inputs old new (Deep depth) x = x
query_refused query inputs old new Memory x = x
query_refused query inputs old new _ x = absurd x

-- a request that is refused before anything is written
pub answers_refused : (words : List (List ℕ)) (request : Asked) (files files' : FilesState) (out : SinkState) (status : Status)
    → request_of words ≡ Some request → IsRefusedAs request files files' status
    → Answers words files files' out out status
answers_refused words request files files' out Memory asks refused = inl (Puts-none out)
answers_refused words request files files' out Done asks refused = absurd refused
answers_refused words request files files' out Usage asks refused = absurd refused
answers_refused words request files files' out Write asks refused = absurd refused
answers_refused words request files files' out _ asks refused =
    (request, asks, refused, Puts-none out)

-- a text that is written
pub answers_written : (words : List (List ℕ)) (request : Asked) (text : List ℕ) (files files' : FilesState) (out out' : SinkState) (status : Status)
    → request_of words ≡ Some request → HasText request files text → Writes out out' text status
    → Answers words files files' out out' status
answers_written words request text files files' out out' Done asks means writes =
    (text, (request, asks, means), writes)
answers_written words request text files files' out out' Write asks means writes =
    (text, (request, asks, means), writes.0, writes.1)
answers_written words request text files files' out out' Memory asks means writes =
    inr (text, (request, asks, means), writes)
answers_written words request text files files' out out' _ asks means writes = absurd writes

-- where memory runs out afterwards
pub answers_memory : (words : List (List ℕ)) (files files' : FilesState) (out out' : SinkState) (status : Status)
    → Answers words files files' out out' status → Answers words files files' out out' Memory
answers_memory words files files' out out' Done a = inr (a.0, a.1, Puts-whole _ _ _ a.2)
answers_memory words files files' out out' Usage a = inl a.1
answers_memory words files files' out out' Write a = inr (a.0, a.1, a.2)
answers_memory words files files' out out' Memory a = a
answers_memory words files files' out out' _ a = inl a.3

-- a prefix of nothing is nothing
Puts-take : (u v : SinkState) (n : ℕ) → Puts u v (take n []) → Puts u v []
Puts-take u v n x = let e : take {A = ℕ} n [] ≡ [] = grind arith in rw e at x

-- what is said of a status
pub notes_told : (notes notes' : SinkState) (status : Status) → Tells notes notes' status
    → Notes notes notes' status
notes_told notes notes' Done t =
    elim t [ inl whole ↦ whole | inr part ↦ Puts-take notes notes' part.0.count part.0.puts ]
notes_told notes notes' Memory t =
    (Memory, elim t [ inl whole ↦ Puts-whole _ _ _ whole | inr part ↦ part.0 ])
notes_told notes notes' _ t = t

held_same : (files : FilesState) (map : List ℕ → Option (List ℕ)) (name bytes : List ℕ)
    → files.held ≡ Some map → map name ≡ Some bytes → IsMissing files.held name → ⊥
held_same files map name bytes told held missing =
    let gone : map name ≡ None = rw told at missing in
    let no : Some bytes ≡ None = sym held ∙ gone in cc

held_long : (files : FilesState) (map : List ℕ → Option (List ℕ)) (name bytes : List ℕ) (n : ℕ)
    → files.held ≡ Some map → map name ≡ Some bytes → HoldsAtLeast files.held name n
    → n ≤ length bytes
held_long files map name bytes n told held long =
    let at_least : HoldsAtLeast (Some map) name n = rw told at long in
    let same : at_least.0 ≡ bytes = some_same (sym at_least.1 ∙ held) in
    subst (λ (b : List ℕ). n ≤ length b) same at_least.2

-- a cause of the request that the words are, which no clean run has
clean_refused : (request : Asked) (files files' : FilesState) (out out' : SinkState) (status : Status)
    → IsRefusedAs request files files' status → IsClean request files files' out out'
    → status ≡ Memory
clean_refused request files files' out out' (Load name) x clean =
    let fits = clean.fits (encode_utf8_all name) x.0 in
    absurd (elim x.1 [ inl rose ↦ clean.read rose | inr missing ↦ held_same files clean.map _ fits.0 clean.told fits.1 missing ])
clean_refused request files files' out out' (TooLong name n) x clean =
    let fits = clean.fits (encode_utf8_all name) x.0 in
    let long : n ≤ length fits.0 = held_long files clean.map _ fits.0 n clean.told fits.1 x.1.2 in
    absurd (omega (arith, long, fits.2, x.1.0))
clean_refused request files files' out out' (Malformed name spot) x clean =
    absurd (clean.parsed (encode_utf8_all name) spot x)
clean_refused request files files' out out' (Static code) x clean = absurd (clean.kept code x)
clean_refused request files files' out out' (Dynamic code) x clean = absurd (clean.succeeds code x)
clean_refused request files files' out out' (Deep depth) x clean = absurd (clean.ends depth x)
clean_refused request files files' out out' Memory x clean = refl
clean_refused request files files' out out' _ x clean = absurd x

-- the request that the words are
asked_once : (words : List (List ℕ)) (request other : Asked) (files files' : FilesState) (status : Status)
    → request_of words ≡ Some request → request_of words ≡ Some other
    → IsRefusedAs other files files' status
    → IsRefusedAs request files files' status
asked_once words request other files files' status asks also x =
    let same : other ≡ request = some_same (sym also ∙ asks) in
    subst (λ (r : Asked). IsRefusedAs r files files' status) same x

-- a request that nothing stands against is served
pub answers_complete : (words : List (List ℕ)) (files files' : FilesState) (out out' : SinkState) (status : Status)
    → Answers words files files' out out' status → Completes words files files' out out' status
answers_complete words files files' out out' Done a = λ request asks clean. inl refl
answers_complete words files files' out out' Memory a = λ request asks clean. inr refl
answers_complete words files files' out out' Write a =
    λ request asks clean. absurd (clean.wrote a.3)
answers_complete words files files' out out' Usage a = λ request asks clean.
    let no : None ≡ Some request = sym a.0 ∙ asks in cc
answers_complete words files files' out out' status a = λ request asks clean.
    let same = asked_once words request a.0 files files' status asks a.1 a.2 in
    inr (clean_refused request files files' out out' status same clean)
