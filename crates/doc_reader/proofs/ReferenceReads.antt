-- A reading of a reference, in a state.
use Rattle.std.proofs.Common.{◌≡◌, ℕ, List, [], ◌∷◌, ◌++◌, Option, Some, None, refl, ap, ◌∙◌, sym}
use Rattle.doc_grammar.specs.Scopes.{opened}
use Rattle.doc_grammar.specs.RawNames.{RawName, RawTag}
use Rattle.doc_grammar.specs.Lexing.{Ref, RefStep, on, stands_for, fails, ref_step}
use Rattle.doc_grammar.specs.Machine.{Stack, State, content, refers, valued, value_refers, Stop, stop_in_ref, stop_at, step, in_reference, in_value_reference, finish, other}
use Rattle.doc_grammar.specs.Machine as machine
use Rattle.xml_source.specs.Reading.{reads}
use Rattle.xml_source.specs.References.{finds, stops, ref_reads}
use Rattle.xml_source.proofs.ReadLemmas.{goes, stuck}
use Rattle.xml_source.proofs.ReferenceReads.{ref_on, ref_ends, ref_stuck}

abbrev step_in : (Ref → State) → (ℕ → State) → RefStep → Option State
step_in k done (on r) = Some (k r)
step_in k done (stands_for v) = Some (done v)
step_in k done fails = None

-- references are read in such states
record ReadsIn (k : Ref → State) (done : ℕ → State) : Type 0 where
  steps : (r : Ref) (c : ℕ) → step opened (k r) c ≡ step_in k done (ref_step r c)
  why : (r : Ref) (c : ℕ) → stop_at (k r) c ≡ stop_in_ref r c
  ends : (r : Ref) → finish (k r) ≡ machine.stops other []

no_end : {why : Stop} {rest new : List ℕ} {v : ℕ} {P : Type 0} → stops why rest ≡ finds v new → P
no_end e = cc

found_in : (k : Ref → State) (done : ℕ → State) → ReadsIn k done → (ts new : List ℕ) (r : Ref) (v : ℕ) → ref_reads ts r ≡ finds v new → reads ts (k r) ≡ reads new (done v)
found_in k done i [] new r v e = no_end e
found_in k done i (c ∷ cs) new r v e = go (ref_step r c) refl (λ r' x. found_in k done i cs new r' v x) where
  go : (s : RefStep) → ref_step r c ≡ s → ((r' : Ref) → ref_reads cs r' ≡ finds v new → reads cs (k r') ≡ reads new (done v)) → reads (c ∷ cs) (k r) ≡ reads new (done v)
  go (on r') d again = goes (k r) (k r') c cs (i.steps r c ∙ ap (step_in k done) d) ∙ again r' (sym (ref_on r r' c cs d) ∙ e)
  go (stands_for w) d again =
      let same : finds w cs ≡ finds v new = sym (ref_ends r w c cs d) ∙ e in
      let value : w ≡ v = cc in
      let rest : cs ≡ new = cc in
      goes (k r) (done w) c cs (i.steps r c ∙ ap (step_in k done) d) ∙ ap (λ (x : ℕ). reads cs (done x)) value ∙ ap (λ (x : List ℕ). reads x (done v)) rest
  go fails d again = no_end (sym (ref_stuck r c cs d) ∙ e)

stops_in : (k : Ref → State) (done : ℕ → State) → ReadsIn k done → (ts new : List ℕ) (r : Ref) (why : Stop) → ref_reads ts r ≡ stops why new → reads ts (k r) ≡ machine.stops why new
stops_in k done i [] new r why e =
    let w : other ≡ why = cc in
    let n : [] ≡ new = cc in
    i.ends r ∙ ap (λ (x : Stop). machine.stops x []) w ∙ ap (machine.stops why) n
stops_in k done i (c ∷ cs) new r why e = go (ref_step r c) refl (λ r' x. stops_in k done i cs new r' why x) where
  go : (s : RefStep) → ref_step r c ≡ s → ((r' : Ref) → ref_reads cs r' ≡ stops why new → reads cs (k r') ≡ machine.stops why new) → reads (c ∷ cs) (k r) ≡ machine.stops why new
  go (on r') d again = goes (k r) (k r') c cs (i.steps r c ∙ ap (step_in k done) d) ∙ again r' (sym (ref_on r r' c cs d) ∙ e)
  go (stands_for w) d again = absurd (let same : finds w cs ≡ stops why new = sym (ref_ends r w c cs d) ∙ e in cc)
  go fails d again =
      let same : stops (stop_in_ref r c) (c ∷ cs) ≡ stops why new = sym (ref_stuck r c cs d) ∙ e in
      let w : stop_in_ref r c ≡ why = cc in
      let n : c ∷ cs ≡ new = cc in
      stuck (k r) c cs (i.steps r c ∙ ap (step_in k done) d) ∙ ap (λ (x : Stop). machine.stops x (c ∷ cs)) (i.why r c ∙ w) ∙ ap (machine.stops why) n

content_step : (text : List ℕ) (st : Stack) (r : Ref) (c : ℕ) → step opened (refers text r st) c ≡ step_in (λ r. refers text r st) (λ v. content 0 (text ++ v ∷ []) st) (ref_step r c)
unfolding step
content_step text st r c = go (ref_step r c) where
  go : (s : RefStep) → in_reference text st s ≡ step_in (λ r. refers text r st) (λ v. content 0 (text ++ v ∷ []) st) s
  go (on r) = refl
  go (stands_for v) = refl
  go fails = refl

in_content : (text : List ℕ) (st : Stack) → ReadsIn (λ r. refers text r st) (λ v. content 0 (text ++ v ∷ []) st)
in_content text st = record { steps = content_step text st; why = λ r c. refl; ends = λ r. refl }

pub found_in_content : (text : List ℕ) (st : Stack) (ts new : List ℕ) (r : Ref) (v : ℕ) → ref_reads ts r ≡ finds v new → reads ts (refers text r st) ≡ reads new (content 0 (text ++ v ∷ []) st)
found_in_content text st ts new r v e = found_in (λ r. refers text r st) (λ v. content 0 (text ++ v ∷ []) st) (in_content text st) ts new r v e

pub stops_in_content : (text : List ℕ) (st : Stack) (ts new : List ℕ) (r : Ref) (why : Stop) → ref_reads ts r ≡ stops why new → reads ts (refers text r st) ≡ machine.stops why new
stops_in_content text st ts new r why e = stops_in (λ r. refers text r st) (λ v. content 0 (text ++ v ∷ []) st) (in_content text st) ts new r why e

value_step : (t : RawTag) (name : RawName) (q : ℕ) (read : List ℕ) (st : Stack) (r : Ref) (c : ℕ) → step opened (value_refers t name q read r st) c ≡ step_in (λ r. value_refers t name q read r st) (λ v. valued t name q (read ++ v ∷ []) st) (ref_step r c)
unfolding step
value_step t name q read st r c = go (ref_step r c) where
  go : (s : RefStep) → in_value_reference t name q read st s ≡ step_in (λ r. value_refers t name q read r st) (λ v. valued t name q (read ++ v ∷ []) st) s
  go (on r) = refl
  go (stands_for v) = refl
  go fails = refl

in_value : (t : RawTag) (name : RawName) (q : ℕ) (read : List ℕ) (st : Stack) → ReadsIn (λ r. value_refers t name q read r st) (λ v. valued t name q (read ++ v ∷ []) st)
in_value t name q read st = record { steps = value_step t name q read st; why = λ r c. refl; ends = λ r. refl }

pub found_in_value : (t : RawTag) (name : RawName) (q : ℕ) (read : List ℕ) (st : Stack) (ts new : List ℕ) (r : Ref) (v : ℕ) → ref_reads ts r ≡ finds v new → reads ts (value_refers t name q read r st) ≡ reads new (valued t name q (read ++ v ∷ []) st)
found_in_value t name q read st ts new r v e = found_in _ (λ v. valued t name q (read ++ v ∷ []) st) (in_value t name q read st) ts new r v e

pub stops_in_value : (t : RawTag) (name : RawName) (q : ℕ) (read : List ℕ) (st : Stack) (ts new : List ℕ) (r : Ref) (why : Stop) → ref_reads ts r ≡ stops why new → reads ts (value_refers t name q read r st) ≡ machine.stops why new
stops_in_value t name q read st ts new r why e = stops_in _ (λ v. valued t name q (read ++ v ∷ []) st) (in_value t name q read st) ts new r why e
