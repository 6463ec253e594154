-- A reading of a form alone.
use Rattle.std.specs.Prelude.{◌≡◌, ℕ, List, [], ◌∷◌, Bool, true, false}
use Rattle.doc_grammar.specs.Forms.{Form, FormStep, goes, done, fails, form_step, form_part, Part, encoding, doctype_end, elsewhere}
use Rattle.doc_grammar.specs.Machine.{Stop, other, stop_in_form}
use Rattle.xml_source.specs.Reading.{stop_of}
use Rattle.xml_source.specs.declared.steps.Step.{Step}
use Rattle.xml_source.specs.declared.steps.Step.TheVariants.{On, Stopped}

-- it is there, and this is after it; or it stops before the rest
pub data FormEnd : Type 0 where
  stands : List ℕ → FormEnd
  stops : Stop → List ℕ → FormEnd

abbrev pub form_goes : (Form → FormEnd) → List ℕ → FormEnd → FormStep → FormEnd
form_goes go rest stop (goes f) = go f
form_goes go rest stop done = stands rest
form_goes go rest stop fails = stop

abbrev pub spells : List ℕ → Form → FormEnd
spells [] f = stops other []
spells (c ∷ cs) f = form_goes (spells cs) cs (stops (stop_in_form (form_part f c) c) (c ∷ cs)) (form_step f c)

-- how a reading ends where the code does so before the source
abbrev pub end_of : Step → List ℕ → FormEnd
end_of On new = stands new
end_of (Stopped why) new = stops (stop_of why) new

-- the whole form is taken, or the reading stops before the source
abbrev pub Spells : List ℕ → Form → Step → List ℕ → Type 0
Spells old f step new = spells old f ≡ end_of step new

-- a reading stops before the rest, which does not go on with such a part of a form
abbrev pub stops_in : Part → List ℕ → FormEnd
stops_in elsewhere ts = stops other ts
stops_in encoding [] = stops other []
stops_in encoding (c ∷ cs) = stops (stop_in_form encoding c) (c ∷ cs)
stops_in doctype_end [] = stops other []
stops_in doctype_end (c ∷ cs) = stops (stop_in_form doctype_end c) (c ∷ cs)

-- the front of each form that begins so is taken, or the reading stops in it
abbrev pub Takes : List ℕ → (Form → Form) → Part → Bool → List ℕ → Type 0
Takes old front p true new = (f : Form) → spells old (front f) ≡ spells new f
Takes old front p false new = (f : Form) → spells old (front f) ≡ stops_in p new
