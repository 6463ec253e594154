-- A reading of a form, in a state.
use Rattle.std.proofs.Common.{◌≡◌, ℕ, List, [], ◌∷◌, refl, ap, ◌∙◌}
use Rattle.doc_grammar.specs.Scopes.{opened}
use Rattle.doc_grammar.specs.Forms.{Form, FormStep, goes as goes_on, done, fails, form_step, form_part}
use Rattle.doc_grammar.specs.Machine.{Stack, State, content, forming, in_forming, step, stop_in_form, stops}
use Rattle.xml_source.specs.Reading.{reads}
use Rattle.xml_source.specs.Spelling.{FormEnd, stands, form_goes, spells}
use Rattle.xml_source.specs.Spelling as spelling
use Rattle.xml_source.proofs.ReadLemmas.{goes, stuck}

-- how the reading ends in the state
abbrev pub ends_in : FormEnd → Stack → List ℕ → State → Type 0
ends_in (stands new) st ts s = reads ts s ≡ reads new (content 0 [] st)
ends_in (spelling.stops why new) st ts s = reads ts s ≡ stops why new

forming_step : (f : Form) (st : Stack) (c : ℕ) → step opened (forming f st) c ≡ in_forming st (form_step f c)
unfolding step
forming_step f st c = refl

pub before : (e : FormEnd) (st : Stack) (ts us : List ℕ) (s r : State) → reads ts s ≡ reads us r → ends_in e st us r → ends_in e st ts s
before (stands new) st ts us s r same k = same ∙ k
before (spelling.stops why new) st ts us s r same k = same ∙ k

pub forming_reads : (ts : List ℕ) (f : Form) (st : Stack) → ends_in (spells ts f) st ts (forming f st)
forming_reads [] f st = refl
forming_reads (c ∷ cs) f st = go (form_step f c) refl (λ g. forming_reads cs g st) where
  go : (r : FormStep) → form_step f c ≡ r → ((g : Form) → ends_in (spells cs g) st cs (forming g st)) → ends_in (form_goes (spells cs) cs (spelling.stops (stop_in_form (form_part f c) c) (c ∷ cs)) r) st (c ∷ cs) (forming f st)
  go (goes_on g) e again = before (spells cs g) st (c ∷ cs) cs (forming f st) (forming g st) (goes _ _ c cs (forming_step f st c ∙ ap (in_forming st) e)) (again g)
  go done e again = goes _ _ c cs (forming_step f st c ∙ ap (in_forming st) e)
  go fails e again = stuck _ c cs (forming_step f st c ∙ ap (in_forming st) e)
