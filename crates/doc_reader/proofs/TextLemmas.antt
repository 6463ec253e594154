-- What a reading of bytes comes to.
use Rattle.std.proofs.Common.{◌≡◌, ℕ, ◌+◌, ◌≤◌, List, ◌∷◌, ◌++◌, length, length-append, take, refl, sym, subst, ap, ◌∙◌, arith}
use Rattle.std.proofs.lemmas.List.{take_all}
use Rattle.std.proofs.lemmas.Str.{chars_past_char, utf8_valid_len-IsUtf8}
use Rattle.std.specs.Char.{encode_utf8}
use Rattle.std.specs.Str.{chars, IsUtf8}
use Rattle.xt_names.specs.declared.names.Binding.{Binding}
use Rattle.xt_tree.specs.declared.trees.Tree.{Tree}
use Rattle.doc_grammar.specs.Scopes.{opened}
use Rattle.doc_grammar.specs.Lines.{mark_bytes, without_mark, text_of, offset}
use Rattle.doc_grammar.specs.Document.{IsDocument}
use Rattle.doc_grammar.specs.Machine.{Stop, whole, stops, run, start}
use Rattle.doc_grammar.specs.Faults.{spot_of, valid_front, first_fault}
use Rattle.doc_grammar.specs.declared.spots.Spot.{Spot}
use Rattle.doc_grammar.specs.SpotCases.{HasSpot}
use Rattle.doc_grammar.proofs.Runs.{runs_document, run_refuses}
use Rattle.doc_grammar.proofs.SpotLaw.{has_spot}
use Rattle.doc_grammar.proofs.FirstFaults.{left_over}
use Rattle.doc_reader.specs.Fault.{Refused}

-- the byte order mark

mark_size : length (encode_utf8 65279) ≡ 3
unfolding encode_utf8
mark_size = refl

past_mark : (text after : List ℕ) → IsUtf8 text → text ≡ encode_utf8 65279 ++ after → chars text ≡ 65279 ∷ chars after
past_mark text after u e = chars_past_char text after 65279 u e

pub behind_mark : (text before after new : List ℕ) (c : ℕ) → before ≡ text → IsUtf8 text → before ≡ encode_utf8 c ++ after → new ≡ after → c ≡ 65279 → chars new ≡ without_mark (chars text)
behind_mark text before after new c b u e n m =
    let begins : text ≡ encode_utf8 65279 ++ after = rw m at (sym b ∙ e) in rw (past_mark text after u begins, n) refl

pub mark_counts : (text before after new : List ℕ) (c : ℕ) → before ≡ text → IsUtf8 text → before ≡ encode_utf8 c ++ after → new ≡ after → c ≡ 65279 → length text ≡ mark_bytes (chars text) + length new
mark_counts text before after new c b u e n m =
    let begins : text ≡ encode_utf8 65279 ++ after = rw m at (sym b ∙ e) in
    let marked : mark_bytes (chars text) ≡ 3 = rw (past_mark text after u begins) refl in
    let size = ap length begins ∙ length-append (encode_utf8 65279) after in
    let three = mark_size in
    rw (marked, n) (omega arith)

-- whole texts

pub as_document : (text bytes : List ℕ) (tree : Tree) (ds : List (List Binding)) → text ≡ bytes → IsUtf8 bytes → run opened (text_of (chars text)) start ≡ whole tree ds → IsDocument bytes tree
as_document text bytes tree ds e u r = (u, runs_document opened (text_of (chars bytes)) tree ds (rw e at r))

whole_front : (bytes : List ℕ) → IsUtf8 bytes → valid_front bytes ≡ bytes
whole_front bytes u = ap (λ (n : ℕ). take n bytes) (utf8_valid_len-IsUtf8 bytes u) ∙ take_all (length bytes) bytes (omega arith)

refused_at : (front : List ℕ) (spot : Spot) → Refused (run opened (text_of (chars front)) start) (offset (chars front)) spot
    → spot ≡ spot_of front (chars front) (run opened (text_of (chars front)) start)
refused_at front spot r = r.is_spot ∙ ap (spot_of front (chars front)) (sym r.is_stopped)

-- the first fault has the spot that the grammar tells
pub fault_spot : (bytes : List ℕ) (spot : Spot) → spot ≡ first_fault bytes → HasSpot bytes spot
fault_spot bytes spot e = let P : Spot → Type 0 = λ x. HasSpot bytes x in subst P (sym e) (has_spot bytes)

-- text that is UTF-8 and no document
pub as_fault : (text bytes : List ℕ) (spot : Spot) → text ≡ bytes → IsUtf8 bytes → Refused (run opened (text_of (chars text)) start) (offset (chars text)) spot
    → ((tree : Tree) → IsDocument bytes tree → ⊥) × (spot ≡ first_fault bytes) × HasSpot bytes spot
as_fault text bytes spot e u r =
    let f : List ℕ → Spot = λ front. spot_of front (chars front) (run opened (text_of (chars front)) start) in
    let here : Refused (run opened (text_of (chars bytes)) start) (offset (chars bytes)) spot = rw e at r in
    let same : spot ≡ first_fault bytes = refused_at bytes spot here ∙ ap f (sym (whole_front bytes u)) in
    (λ tree d. run_refuses opened (text_of (chars bytes)) here.rest here.why here.is_stopped tree d.1, same, fault_spot bytes spot same)

-- bytes that are no UTF-8
pub no_text_fault : (bytes : List ℕ) (spot : Spot) → (IsUtf8 bytes → ⊥) → spot ≡ first_fault bytes → ((tree : Tree) → IsDocument bytes tree → ⊥) × (spot ≡ first_fault bytes) × HasSpot bytes spot
no_text_fault bytes spot n e = (λ tree d. n d.0, e, fault_spot bytes spot e)

-- characters of which a rest is left

pub left_fits : (source fed rest : List ℕ) (why : Stop) (left total : ℕ) → source ≡ fed → total ≡ length source → run opened fed start ≡ stops why rest → length rest ≡ left → left ≤ total
left_fits source fed rest why left total s t e l =
    let front = left_over fed rest why start e in
    let size = ap length front.1 ∙ length-append front.0 rest in
    let same = ap length s in omega arith
