-- A reading of a comment, an instruction or a section, in a state.
use Rattle.std.proofs.Common.{◌≡◌, ℕ, List, [], ◌∷◌, ◌++◌, refl, ap, ◌∙◌}
use Rattle.xt_tree.specs.declared.trees.Tree.{Tree}
use Rattle.doc_grammar.specs.Scopes.{opened}
use Rattle.doc_grammar.specs.Lexing.{Lex, LexStep, on, makes, says, fails, lex_step}
use Rattle.doc_grammar.specs.Machine.{Stack, State, content, marked, with_aside, with_text, in_marked, step}
use Rattle.xml_source.specs.Reading.{reads, Fails}
use Rattle.xml_source.specs.Asides.{LexEnd, made, said, stopped, lex_goes, lex_reads}
use Rattle.xml_source.proofs.ReadLemmas.{goes, stuck}

-- how the reading ends in the state
abbrev ends_in : LexEnd → List ℕ → Stack → List ℕ → State → Type 0
ends_in (made n new) text st ts s = reads ts s ≡ reads new (content 0 [] (with_aside n (with_text text st)))
ends_in (said more new) text st ts s = reads ts s ≡ reads new (content 0 (text ++ more) st)
ends_in (stopped new) text st ts s = Fails (reads ts s) new

marked_step : (l : Lex) (text : List ℕ) (st : Stack) (c : ℕ) → step opened (marked l text st) c ≡ in_marked text st (lex_step l c)
unfolding step
marked_step l text st c = refl

before : (e : LexEnd) (text : List ℕ) (st : Stack) (ts us : List ℕ) (s r : State) → reads ts s ≡ reads us r → ends_in e text st us r → ends_in e text st ts s
before (made n new) text st ts us s r same k = same ∙ k
before (said more new) text st ts us s r same k = same ∙ k
before (stopped new) text st ts us s r same k = same ∙ k

pub marked_reads : (ts : List ℕ) (l : Lex) (text : List ℕ) (st : Stack) → ends_in (lex_reads ts l) text st ts (marked l text st)
marked_reads [] l text st = refl
marked_reads (c ∷ cs) l text st = go (lex_step l c) refl (λ k. marked_reads cs k text st) where
  go : (r : LexStep) → lex_step l c ≡ r → ((k : Lex) → ends_in (lex_reads cs k) text st cs (marked k text st)) → ends_in (lex_goes (lex_reads cs) cs (stopped (c ∷ cs)) r) text st (c ∷ cs) (marked l text st)
  go (on k) e again = before (lex_reads cs k) text st (c ∷ cs) cs (marked l text st) (marked k text st) (goes _ _ c cs (marked_step l text st c ∙ ap (in_marked text st) e)) (again k)
  go (makes n) e again = goes _ _ c cs (marked_step l text st c ∙ ap (in_marked text st) e)
  go (says more) e again = goes _ _ c cs (marked_step l text st c ∙ ap (in_marked text st) e)
  go fails e again = stuck _ c cs (marked_step l text st c ∙ ap (in_marked text st) e)

pub made_in : (ts new : List ℕ) (l : Lex) (n : Tree) (text : List ℕ) (st : Stack) → lex_reads ts l ≡ made n new → reads ts (marked l text st) ≡ reads new (content 0 [] (with_aside n (with_text text st)))
made_in ts new l n text st e = rw e at (marked_reads ts l text st)

pub said_in : (ts new : List ℕ) (l : Lex) (more text : List ℕ) (st : Stack) → lex_reads ts l ≡ said more new → reads ts (marked l text st) ≡ reads new (content 0 (text ++ more) st)
said_in ts new l more text st e = rw e at (marked_reads ts l text st)

pub stopped_in : (ts new : List ℕ) (l : Lex) (text : List ℕ) (st : Stack) → lex_reads ts l ≡ stopped new → Fails (reads ts (marked l text st)) new
stopped_in ts new l text st e = rw e at (marked_reads ts l text st)
