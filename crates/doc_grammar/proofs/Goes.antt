-- What it means that a step keeps the documents which the characters can still complete.
use Rattle.std.proofs.Common.{◌≡◌, ℕ, List, ◌∷◌, refl, sym, subst, Bool, true, false, cond, Option, Some, None, ◌==◌}
use Rattle.std.proofs.lemmas.Bool.{eqb-true}
use Rattle.xt_tree.specs.declared.trees.Tree.{Tree}
use Rattle.doc_grammar.specs.Document.{Rules}
use Rattle.doc_grammar.specs.Machine.{State}
use Rattle.doc_grammar.proofs.Rests.{Rest}

pub head_same : {c d : ℕ} {ts us : List ℕ} → c ∷ ts ≡ d ∷ us → d ≡ c
head_same e = cc

pub tail_same : {c d : ℕ} {ts us : List ℕ} → c ∷ ts ≡ d ∷ us → us ≡ ts
tail_same e = cc

-- The state goes on to the next exactly where its rest does, or nothing follows.
abbrev pub Goes : Rules → Tree → Type 0 → List ℕ → Option State → Type 0
Goes rules w R ts None = R → ⊥
Goes rules w R ts (Some s) = (R → Rest rules w s ts) × (Rest rules w s ts → R)

abbrev pub Steps : Rules → Tree → State → ℕ → List ℕ → Option State → Type 0
Steps rules w s c ts o = Goes rules w (Rest rules w s (c ∷ ts)) ts o

pub choose : (rules : Rules) (w : Tree) (R : Type 0) (ts : List ℕ) (b : Bool) (x y : Option State) → (b ≡ true → Goes rules w R ts x) → (b ≡ false → Goes rules w R ts y) → Goes rules w R ts (cond b x y)
choose rules w R ts true x y f g = f refl
choose rules w R ts false x y f g = g refl

-- the same rest, in another form
pub through : (rules : Rules) (w : Tree) (R S : Type 0) (ts : List ℕ) (o : Option State) → (R → S) → (S → R) → Goes rules w S ts o → Goes rules w R ts o
through rules w R S ts None f g k = λ r. k (f r)
through rules w R S ts (Some s) f g k = ((λ r. k.0 (f r)), (λ r. g (k.1 r)))

-- where the character is d, a step with d is a step with it
pub at : (rules : Rules) (w : Tree) (R : List ℕ → Type 0) (c d : ℕ) (ts : List ℕ) (o : Option State) → (c == d) ≡ true → Goes rules w (R (d ∷ ts)) ts o → Goes rules w (R (c ∷ ts)) ts o
at rules w R c d ts o e k = let P : ℕ → Type 0 = λ x. Goes rules w (R (x ∷ ts)) ts o in subst P (sym (eqb-true c d e)) k
