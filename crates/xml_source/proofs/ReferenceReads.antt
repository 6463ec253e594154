-- A reading of a reference alone.
use Rattle.std.proofs.Common.{◌≡◌, ℕ, List, ◌∷◌, ap}
use Rattle.doc_grammar.specs.Lexing.{Ref, RefStep, on, stands_for, fails, ref_step}
use Rattle.doc_grammar.specs.Machine.{stop_in_ref}
use Rattle.xml_source.specs.References.{finds, stops, ref_goes, ref_reads}

pub ref_on : (r r' : Ref) (c : ℕ) (cs : List ℕ) → ref_step r c ≡ on r' → ref_reads (c ∷ cs) r ≡ ref_reads cs r'
ref_on r r' c cs e = ap (λ (s : RefStep). ref_goes (ref_reads cs) cs (stops (stop_in_ref r c) (c ∷ cs)) s) e

pub ref_ends : (r : Ref) (v c : ℕ) (cs : List ℕ) → ref_step r c ≡ stands_for v → ref_reads (c ∷ cs) r ≡ finds v cs
ref_ends r v c cs e = ap (λ (s : RefStep). ref_goes (ref_reads cs) cs (stops (stop_in_ref r c) (c ∷ cs)) s) e

pub ref_stuck : (r : Ref) (c : ℕ) (cs : List ℕ) → ref_step r c ≡ fails → ref_reads (c ∷ cs) r ≡ stops (stop_in_ref r c) (c ∷ cs)
ref_stuck r c cs e = ap (λ (s : RefStep). ref_goes (ref_reads cs) cs (stops (stop_in_ref r c) (c ∷ cs)) s) e
