-- A reading goes through a name, a reference, a comment, an instruction, a section and a form
-- as the grammar says.
use Rattle.std.proofs.Common.{◌≡◌, ℕ, List, [], ◌∷◌, ◌++◌, refl, Option, Some, None}
use Rattle.xt_names.specs.declared.names.Binding.{Binding}
use Rattle.xt_tree.specs.declared.trees.Tree.{Tree}
use Rattle.doc_grammar.specs.RawNames.{RawName, RawTag, tag_named}
use Rattle.doc_grammar.specs.Forms.{Form, FormStep, Spelled, form_step}
use Rattle.doc_grammar.specs.Forms as form
use Rattle.doc_grammar.specs.Document.{Rules}
use Rattle.doc_grammar.specs.Lexing.{Ref, RefStep, ref_step, Lex, LexStep, lex_step}
use Rattle.doc_grammar.specs.Lexing as lexing
use Rattle.doc_grammar.specs.Machine.{Stack, NameState, NameStep, on, behind_name, fails, name_step, State, content, refers, marked, forming, naming, tagged, attribute, equals, valued, value_refers, with_text, with_aside, in_naming, in_attribute, in_reference, in_value_reference, in_marked, in_forming, step, stop_at, whole, stops, or_stop, run}
use Rattle.doc_grammar.proofs.LexRests.{Made, node, said, RefRest, LexRest}
use Rattle.doc_grammar.proofs.Rests.{NameRest}
use Rattle.doc_grammar.proofs.NameSteps.{NameGoes, names_go}
use Rattle.doc_grammar.proofs.ReferenceSteps.{RefGoes, references_go}
use Rattle.doc_grammar.proofs.LexSteps.{LexGoes}
use Rattle.doc_grammar.proofs.SectionSteps.{lexes_go}
use Rattle.doc_grammar.proofs.FormSteps.{FormGoes, forms_go, no_form}
use Rattle.doc_grammar.proofs.Ends.{no_rest, no_reference, no_lex}

-- a reading from this state finds the tree and the declarations
pub record Reads (rules : Rules) (w : Tree) (ds : List (List Binding)) (ts : List ℕ)
    (s : State) : Type 0 where
  pub found : run rules ts s ≡ whole w ds

-- a reading goes on, and finds them
abbrev pub Next : Rules → Tree → List (List Binding) → List ℕ → Option State → Type 0
Next rules w ds ts None = ⊥
Next rules w ds ts (Some s) = Reads rules w ds ts s

pub from : (rules : Rules) (w : Tree) (ds : List (List Binding)) (c : ℕ) (ts : List ℕ) (s : State)
    → Next rules w ds ts (step rules s c) → Reads rules w ds (c ∷ ts) s
from rules w ds c ts s k = go (step rules s c) refl k where
  go : (o : Option State) → step rules s c ≡ o → Next rules w ds ts o → Reads rules w ds (c ∷ ts) s
  go None e k = absurd k
  go (Some s') e k = record { found = rw e k.found }

pub onward : {rules : Rules} {w : Tree} {ds : List (List Binding)} {c : ℕ} {ts : List ℕ} {s : State}
    → Reads rules w ds (c ∷ ts) s → Next rules w ds ts (step rules s c)
onward {rules = rules} {w = w} {ds = ds} {c = c} {ts = ts} {s = s} k =
    go (step rules s c) k.found where
      go : (o : Option State) → or_stop (run rules ts) (stops (stop_at s c) (c ∷ ts)) o ≡ whole w ds
          → Next rules w ds ts o
      go None e = absurd (cc)
      go (Some s') e = record { found = e }

-- one step more
pub goes : {rules : Rules} {w : Tree} {ds : List (List Binding)} {c : ℕ} {ts : List ℕ}
    {s s' : State}
    → step rules s c ≡ Some s' → Reads rules w ds ts s' → Reads rules w ds (c ∷ ts) s
goes e k = record { found = rw e k.found }

pub name_reads : {rules : Rules} {w : Tree} {ds : List (List Binding)} {name : RawName}
    {mid : List ℕ} (st : Stack) (ts : List ℕ) (n : NameState)
    → NameRest n ts name mid → Reads rules w ds mid (tagged (tag_named name) st)
    → Reads rules w ds ts (naming n st)
unfolding step
name_reads st [] n r k = let k' = rw (no_rest r) at k.found in absurd (cc)
name_reads {rules = rules} {w = w} {ds = ds} {name = name} {mid = mid} st (c ∷ ts) n r k =
    from rules w ds c ts (naming n st)
    (go (name_step n c) (names_go n c ts) (λ n' r'. name_reads st ts n' r' k))
  where
    go : (o : NameStep) → NameGoes n c ts o
        → ((n' : NameState) → NameRest n' ts name mid → Reads rules w ds ts (naming n' st))
        → Next rules w ds ts (in_naming rules st c o)
    go (on n') g again = again n' ((g _ _).0 r)
    go (behind_name x) g again = let same = g.0 _ _ r in onward (rw (same.0, same.1) at k)
    go fails g again = absurd (g _ _ r)

pub attribute_reads : {rules : Rules} {w : Tree} {ds : List (List Binding)} {name : RawName}
    {mid : List ℕ} (t : RawTag) (st : Stack) (ts : List ℕ) (n : NameState)
    → NameRest n ts name mid → Reads rules w ds mid (equals t name st)
    → Reads rules w ds ts (attribute t n st)
unfolding step
attribute_reads t st [] n r k = let k' = rw (no_rest r) at k.found in absurd (cc)
attribute_reads {rules = rules} {w = w} {ds = ds} {name = name} {mid = mid} t st (c ∷ ts) n r k =
    from rules w ds c ts (attribute t n st)
    (go (name_step n c) (names_go n c ts) (λ n' r'. attribute_reads t st ts n' r' k))
  where
    go : (o : NameStep) → NameGoes n c ts o
        → ((n' : NameState) → NameRest n' ts name mid → Reads rules w ds ts (attribute t n' st))
        → Next rules w ds ts (in_attribute t st c o)
    go (on n') g again = again n' ((g _ _).0 r)
    go (behind_name x) g again = let same = g.0 _ _ r in onward (rw (same.0, same.1) at k)
    go fails g again = absurd (g _ _ r)

pub reference_reads : {rules : Rules} {w : Tree} {ds : List (List Binding)} (v : ℕ)
    (mid text : List ℕ) (st : Stack) (ts : List ℕ) (r : Ref)
    → RefRest r ts v mid → Reads rules w ds mid (content 0 (text ++ v ∷ []) st)
    → Reads rules w ds ts (refers text r st)
unfolding step
reference_reads v mid text st [] r x k = absurd (no_reference r _ _ x)
reference_reads {rules = rules} {w = w} {ds = ds} v mid text st (c ∷ ts) r x k =
    from rules w ds c ts (refers text r st)
    (go (ref_step r c) (references_go r c ts)
    (λ r' x'. reference_reads v mid text st ts r' x' k))
  where
    go : (o : RefStep) → RefGoes r c ts o
        → ((r' : Ref) → RefRest r' ts v mid → Reads rules w ds ts (refers text r' st))
        → Next rules w ds ts (in_reference text st o)
    go (lexing.on r') g again = again r' ((g _ _).0 x)
    go (lexing.stands_for u) g again = let same = g.0 _ _ x in rw (same.0, same.1) at k
    go lexing.fails g again = absurd (g _ _ x)

pub value_reference_reads : {rules : Rules} {w : Tree} {ds : List (List Binding)} (v : ℕ)
    (mid : List ℕ) (t : RawTag) (name : RawName) (quote : ℕ) (read : List ℕ) (st : Stack)
    (ts : List ℕ) (r : Ref)
    → RefRest r ts v mid → Reads rules w ds mid (valued t name quote (read ++ v ∷ []) st)
    → Reads rules w ds ts (value_refers t name quote read r st)
unfolding step
value_reference_reads v mid t name quote read st [] r x k = absurd (no_reference r _ _ x)
value_reference_reads {rules = rules} {w = w} {ds = ds} v mid t name quote read st (c ∷ ts) r x k =
    from rules w ds c ts (value_refers t name quote read r st)
    (go (ref_step r c) (references_go r c ts)
    (λ r' x'. value_reference_reads v mid t name quote read st ts r' x' k))
  where
    go : (o : RefStep) → RefGoes r c ts o
        →
        ((r' : Ref) → RefRest r' ts v mid → Reads rules w ds ts
        (value_refers t name quote read r' st))
        → Next rules w ds ts (in_value_reference t name quote read st o)
    go (lexing.on r') g again = again r' ((g _ _).0 x)
    go (lexing.stands_for u) g again = let same = g.0 _ _ x in rw (same.0, same.1) at k
    go lexing.fails g again = absurd (g _ _ x)

-- where the reader comes after a node or a section
abbrev pub made_state : List ℕ → Stack → Made → State
made_state text st (node n) = content 0 [] (with_aside n (with_text text st))
made_state text st (said words) = content 0 (text ++ words) st

pub marked_reads : {rules : Rules} {w : Tree} {ds : List (List Binding)} {made : Made}
    {mid : List ℕ} (text : List ℕ) (st : Stack) (ts : List ℕ) (l : Lex)
    → LexRest l ts made mid → Reads rules w ds mid (made_state text st made)
    → Reads rules w ds ts (marked l text st)
unfolding step
marked_reads text st [] l x k = absurd (no_lex x)
marked_reads {rules = rules} {w = w} {ds = ds} {made = made} {mid = mid} text st (c ∷ ts) l x k =
    from rules w ds c ts (marked l text st)
    (go (lex_step l c) (lexes_go l c ts) (λ l' x'. marked_reads text st ts l' x' k))
  where
    go : (o : LexStep) → LexGoes l c ts o
        → ((l' : Lex) → LexRest l' ts made mid → Reads rules w ds ts (marked l' text st))
        → Next rules w ds ts (in_marked text st o)
    go (lexing.on l') g again = again l' ((g _ _).0 x)
    go (lexing.makes n) g again = let same = g.0 _ _ x in rw (same.0, same.1) at k
    go (lexing.says words) g again = let same = g.0 _ _ x in rw (same.0, same.1) at k
    go lexing.fails g again = absurd (g _ _ x)

pub form_reads : {rules : Rules} {w : Tree} {ds : List (List Binding)} {mid : List ℕ} (st : Stack)
    (ts : List ℕ) (f : Form)
    → Spelled f ts mid → Reads rules w ds mid (content 0 [] st) → Reads rules w ds ts (forming f st)
unfolding step
form_reads st [] f x k = absurd (no_form f x)
form_reads {rules = rules} {w = w} {ds = ds} {mid = mid} st (c ∷ ts) f x k =
    from rules w ds c ts (forming f st)
    (go (form_step f c) (forms_go f c ts) (λ f' x'. form_reads st ts f' x' k))
  where
    go : (o : FormStep) → FormGoes f c ts o
        → ((f' : Form) → Spelled f' ts mid → Reads rules w ds ts (forming f' st))
        → Next rules w ds ts (in_forming st o)
    go (form.goes f') g again = again f' ((g _).0 x)
    go form.done g again = rw (g.0 _ x) at k
    go form.fails g again = absurd (g _ x)
