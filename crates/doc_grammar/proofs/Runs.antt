-- A run finds exactly the tree that its text stands for.
use Rattle.std.proofs.Common.{◌≡◌, ℕ, List, [], ◌∷◌, Option, Some, None, sym, ◌∙◌}
use Rattle.xt_names.specs.declared.names.Binding.{Binding}
use Rattle.xt_tree.specs.declared.trees.Tree.{Tree}
use Rattle.doc_grammar.specs.Document.{Rules, IsText}
use Rattle.doc_grammar.specs.Machine.{State, step, stop_at, Stop, whole, stops, or_stop, run, start}
use Rattle.doc_grammar.proofs.Residue.{top, topped}
use Rattle.doc_grammar.proofs.Rests.{Rest}
use Rattle.doc_grammar.proofs.Goes.{Goes}
use Rattle.doc_grammar.proofs.Steps.{steps}
use Rattle.doc_grammar.proofs.Ends.{Finds, at_end, finished, whole_same}

pub run_finds : (rules : Rules) (w : Tree) (cs : List ℕ) (s : State) → Rest rules w s cs → Finds (run rules cs s) w
run_finds rules w [] s r = at_end rules w s r
run_finds rules w (c ∷ cs) s r = go (step rules s c) (steps rules w s c cs) (λ s' r'. run_finds rules w cs s' r')
  where
    go : (o : Option State) → Goes rules w (Rest rules w s (c ∷ cs)) cs o → ((s' : State) → Rest rules w s' cs → Finds (run rules cs s') w) → Finds (or_stop (run rules cs) (stops (stop_at s c) (c ∷ cs)) o) w
    go None k again = absurd (k r)
    go (Some s') k again = again s' (k.0 r)

pub run_found : (rules : Rules) (tree : Tree) (ds : List (List Binding)) (cs : List ℕ) (s : State) → run rules cs s ≡ whole tree ds → Rest rules tree s cs
run_found rules tree ds [] s e = finished rules tree ds s e
run_found rules tree ds (c ∷ cs) s e = go (step rules s c) (steps rules tree s c cs) e (λ s' e'. run_found rules tree ds cs s' e')
  where
    go : (o : Option State) → Goes rules tree (Rest rules tree s (c ∷ cs)) cs o → or_stop (run rules cs) (stops (stop_at s c) (c ∷ cs)) o ≡ whole tree ds → ((s' : State) → run rules cs s' ≡ whole tree ds → Rest rules tree s' cs) → Rest rules tree s (c ∷ cs)
    go None k d again = absurd (cc)
    go (Some s') k d again = k.1 (again s' d)

-- a text that stands for a tree is read as that tree
pub document_runs : (rules : Rules) (cs : List ℕ) (tree : Tree) → IsText rules cs tree → Finds (run rules cs start) tree
document_runs rules cs tree d = run_finds rules tree cs start (top d)

-- and a text that is read as a tree stands for it
pub runs_document : (rules : Rules) (cs : List ℕ) (tree : Tree) (ds : List (List Binding)) → run rules cs start ≡ whole tree ds → IsText rules cs tree
runs_document rules cs tree ds e = topped (run_found rules tree ds cs start e)

-- a text stands for one tree
pub document_one : (rules : Rules) (cs : List ℕ) (s t : Tree) → IsText rules cs s → IsText rules cs t → s ≡ t
document_one rules cs s t a b =
    let x = document_runs rules cs s a in
    let y = document_runs rules cs t b in whole_same (sym x.1 ∙ y.1)

-- a run that stops finds nothing
pub run_refuses : (rules : Rules) (cs rest : List ℕ) (why : Stop) → run rules cs start ≡ stops why rest → (tree : Tree) → IsText rules cs tree → ⊥
run_refuses rules cs rest why e tree d =
    let x = document_runs rules cs tree d in
    let both : whole tree x.0 ≡ stops why rest = sym x.1 ∙ e in cc
