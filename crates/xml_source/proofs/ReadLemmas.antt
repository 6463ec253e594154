-- A reading, one character at a time.
use Rattle.std.proofs.Common.{◌≡◌, ℕ, List, ◌∷◌, Option, Some, None, ap}
use Rattle.doc_grammar.specs.Scopes.{opened}
use Rattle.doc_grammar.specs.Machine.{State, stops, step, stop_at, or_stop, run}
use Rattle.xml_source.specs.Reading.{reads}

pub goes : (s s' : State) (c : ℕ) (cs : List ℕ) → step opened s c ≡ Some s' → reads (c ∷ cs) s ≡ reads cs s'
goes s s' c cs e = ap (λ (o : Option State). or_stop (run opened cs) (stops (stop_at s c) (c ∷ cs)) o) e

pub stuck : (s : State) (c : ℕ) (cs : List ℕ) → step opened s c ≡ None → reads (c ∷ cs) s ≡ stops (stop_at s c) (c ∷ cs)
stuck s c cs e = ap (λ (o : Option State). or_stop (run opened cs) (stops (stop_at s c) (c ∷ cs)) o) e
