-- What the front of a skeleton may go on with is what the reader takes after it.
use Rattle.std.proofs.Common.{◌≡◌, ℕ, List, [], ◌∷◌, ◌++◌, refl, sym, ◌∙◌, ap, Option, Some, None, append_assoc}
use Rattle.std.specs.Option.{option_and_then}
use Rattle.std.proofs.lemmas.Option.{none-some}
use Rattle.xt_tree.specs.declared.trees.Tree.{Tree}
use Rattle.doc_grammar.specs.Scopes.{opened}
use Rattle.doc_grammar.specs.Document.{Rules, IsText}
use Rattle.doc_grammar.specs.Machine.{State, step, start}
use Rattle.doc_grammar.specs.Skeleton.{anyhow, Begins, after}
use Rattle.doc_grammar.proofs.Residue.{top}
use Rattle.doc_grammar.proofs.Rests.{Rest}
use Rattle.doc_grammar.proofs.Goes.{Goes}
use Rattle.doc_grammar.proofs.Steps.{steps}
use Rattle.doc_grammar.proofs.FirstFaults.{prefix_to, after_lives, after_anyhow, begins}

-- characters and more of them
after_append : (rules : Rules) (front more : List ℕ) (s : State) → after rules (front ++ more) s ≡ option_and_then (after rules more) (after rules front s)
after_append rules [] more s = refl
after_append rules (c ∷ front) more s = go (step rules s c) (λ t. after_append rules front more t)
  where
    go : (o : Option State) → ((t : State) → after rules (front ++ more) t ≡ option_and_then (after rules more) (after rules front t)) → option_and_then (after rules (front ++ more)) o ≡ option_and_then (after rules more) (option_and_then (after rules front) o)
    go None again = refl
    go (Some t) again = again t

pub after_then : (rules : Rules) (front more : List ℕ) (s m : State) (o : Option State) → after rules front s ≡ Some m → after rules more m ≡ o → after rules (front ++ more) s ≡ o
after_then rules front more s m o e d = after_append rules front more s ∙ ap (option_and_then (after rules more)) e ∙ d

pub after_both : (rules : Rules) (front more : List ℕ) (s m t : State) → after rules front s ≡ Some m → after rules more m ≡ Some t → after rules (front ++ more) s ≡ Some t
after_both rules front more s m t e d = after_then rules front more s m (Some t) e d

-- where the reader stood between them
pub after_parts : (rules : Rules) (front more : List ℕ) (s t : State) → after rules (front ++ more) s ≡ Some t → (m : State) × (after rules front s ≡ Some m) × (after rules more m ≡ Some t)
after_parts rules front more s t e = go (after rules front s) refl (sym (after_append rules front more s) ∙ e)
  where
    go : (o : Option State) → after rules front s ≡ o → option_and_then (after rules more) o ≡ Some t → (m : State) × (after rules front s ≡ Some m) × (after rules more m ≡ Some t)
    go None d k = absurd (none-some _ k)
    go (Some m) d k = (m, d, k)

-- what stops the reader completes no state
no_rest : (rules : Rules) (w : Tree) (more ts : List ℕ) (s : State) → after rules more s ≡ None → Rest rules w s (more ++ ts) → ⊥
no_rest rules w [] ts s e r = none-some _ (sym e)
no_rest rules w (c ∷ more) ts s e r = go (step rules s c) (steps rules w s c (more ++ ts)) e (λ t d q. no_rest rules w more ts t d q)
  where
    go : (o : Option State) → Goes rules w (Rest rules w s (c ∷ (more ++ ts))) (more ++ ts) o → option_and_then (after rules more) o ≡ None → ((t : State) → after rules more t ≡ None → Rest rules w t (more ++ ts) → ⊥) → ⊥
    go None k d again = k r
    go (Some t) k d again = again t d (k.0 r)

-- a front goes on with what the reader takes
pub goes_on : (front more : List ℕ) (m t : State) → after anyhow front start ≡ Some m → after anyhow more m ≡ Some t → Begins (front ++ more)
goes_on front more m t e d =
    begins (front ++ more) t (after_both anyhow front more start m t e d) (after_lives anyhow more m t d (after_lives anyhow front start m e tt))

pub begins_with : (front more : List ℕ) (m t : State) → after opened front start ≡ Some m → after anyhow more m ≡ Some t → Begins (front ++ more)
begins_with front more m t e d = goes_on front more m t (after_anyhow front start m e) d

-- and with nothing else
pub stops_on : (front more : List ℕ) (m : State) → after anyhow front start ≡ Some m → after anyhow more m ≡ None → Begins (front ++ more) → ⊥
stops_on front more m e d b =
    let t : IsText anyhow (front ++ (more ++ b.0)) b.1 = rw (append_assoc front more b.0) at b.2 in
    no_rest anyhow b.1 more b.0 m d ((prefix_to anyhow b.1 front (more ++ b.0) start m e).0 (top t))

pub begins_not : (front more : List ℕ) (m : State) → after opened front start ≡ Some m → after anyhow more m ≡ None → Begins (front ++ more) → ⊥
begins_not front more m e d b = stops_on front more m (after_anyhow front start m e) d b
