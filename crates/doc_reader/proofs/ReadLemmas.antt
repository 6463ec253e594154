-- What the steps of the code do to a reading.
use Rattle.std.proofs.Common.{◌≡◌, ℕ, List, [], MatchResult, IfOk, Result, Ok, Err, length, ap, ◌∙◌, sym}
use Rattle.doc_grammar.specs.Machine.{State, End, stops, finish, whole}
use Rattle.xml_source.specs.Reading.{reads, Ran, OnStep, stop_of}
use Rattle.doc_reader.specs.declared.readers.Whole.{Whole}
use Rattle.doc_reader.specs.declared.readers.Refusal.{Refusal}
use Rattle.xml_source.specs.declared.steps.Step.{Step}
use Rattle.xml_source.specs.declared.steps.Step.TheVariants.{On, Stopped}

-- what a step has done to a reading that is the same
pub ran_from : (e e' : End) (source : List ℕ) (s : State) (st : Step) → e ≡ e' → Ran e' source s st → Ran e source s st
ran_from e e' source s On same r = same ∙ r
ran_from e e' source s (Stopped why) same r = same ∙ r

-- and from a state that is the same
pub ran_to : (e : End) (source : List ℕ) (s s' : State) (st : Step) → s ≡ s' → Ran e source s st → Ran e source s' st
ran_to e source s s' On same r = r ∙ ap (reads source) same
ran_to e source s s' (Stopped why) same r = r

-- what the end of the text makes of a reading that has come there
pub read_to_end : {E : Type 0} (e begun : End) (over : List ℕ) (s : State) (st : Step) (r : Result (Result Whole Refusal) E) → e ≡ begun → st ≡ On → Ran begun over s st → OnStep st (over ≡ [])
    → IfOk r (λ o. MatchResult o (λ w. finish s ≡ whole w.tree w.declared) (λ f. (finish s ≡ stops (stop_of f.stop) []) × (f.left ≡ 0)))
    → IfOk r (λ o. MatchResult o (λ w. e ≡ whole w.tree w.declared) (λ f. (rest : List ℕ) × (e ≡ stops (stop_of f.stop) rest) × (length rest ≡ f.left)))
read_to_end e begun over s On (Ok (Ok w)) b is ran none ends = b ∙ ran ∙ ap (λ (ts : List ℕ). reads ts s) none ∙ ends
read_to_end e begun over s On (Ok (Err f)) b is ran none ends = ([], b ∙ ran ∙ ap (λ (ts : List ℕ). reads ts s) none ∙ ends.0, sym ends.1)
read_to_end e begun over s On (Err a) b is ran none ends = tt
read_to_end e begun over s (Stopped why) r b is ran none ends = absurd (cc)
