-- Forms that can always be completed.
use Rattle.std.proofs.Common.{◌≡◌, ℕ, List, [], ◌∷◌, ◌++◌, refl, Bool, true, false, not, ◌&&◌, cond}
use Rattle.xt_names.specs.Classes.{is_in_ranges}
use Rattle.doc_grammar.specs.Forms.{Form, Part, Spelled, FormStep, form_step, goes, done, fails, last, one, many, choice}
use Rattle.doc_grammar.specs.Forms as forms
use Rattle.doc_grammar.specs.Prolog.{xml_declaration, doctype_declaration}
use Rattle.doc_grammar.proofs.CharacterFacts.{both}
use Rattle.xt_names.specs.Characters.{is_space, is_char, starts_name, is_name_char}
use Rattle.xt_names.proofs.BoolLemmas.{not_true}

-- the first example
abbrev pub first : Form → ℕ
first (last p class e) = e
first (one p class e f) = e
first (many class f) = first f
first (choice class f g) = first f

-- and the others
abbrev pub others : Form → List ℕ
others (last p class e) = []
others (one p class e f) = first f ∷ others f
others (many class f) = others f
others (choice class f g) = others f

-- each example is of its class, what follows a repetition is not, and what a choice takes first is
abbrev pub is_formed : Form → Bool
is_formed (last p class e) = class e
is_formed (one p class e f) = class e && is_formed f
is_formed (many class f) = not (class (first f)) && is_formed f
is_formed (choice class f g) = class (first f) && (is_formed f && is_formed g)

-- the examples spell the form
pub completes : (f : Form) (rest : List ℕ) → is_formed f ≡ true → Spelled f (first f ∷ (others f ++ rest)) rest
completes (last p class e) rest h = forms.last_one h
completes (one p class e f) rest h = forms.first_one (both h).0 (completes f rest (both h).1)
completes (many class f) rest h = forms.no_other (not_true (both h).0) (completes f rest (both h).1)
completes (choice class f g) rest h = forms.left (both h).0 (completes f rest (both (both h).1).0)

-- what is left of such a form is one
abbrev pub StaysFormed : FormStep → Type 0
StaysFormed (goes f) = is_formed f ≡ true
StaysFormed done = Unit {0}
StaysFormed fails = Unit {0}

either : (b : Bool) (x y : FormStep) → StaysFormed x → StaysFormed y → StaysFormed (cond b x y)
either true x y f g = f
either false x y f g = g

pub stays_formed : (f : Form) (c : ℕ) → is_formed f ≡ true → StaysFormed (form_step f c)
stays_formed (last p class e) c h = either (class c) _ _ tt tt
stays_formed (one p class e f) c h = either (class c) _ _ (both h).1 tt
stays_formed (many class f) c h = either (class c) _ _ h (stays_formed f c (both h).1)
stays_formed (choice class f g) c h = either (class c) _ _ (stays_formed f c (both (both h).1).0) (stays_formed g c (both (both h).1).1)

pub xml_formed : is_formed xml_declaration ≡ true
unfolding xml_declaration is_space is_char is_in_ranges
xml_formed = refl

pub doctype_formed : is_formed doctype_declaration ≡ true
unfolding doctype_declaration is_space is_char is_in_ranges starts_name is_name_char
doctype_formed = refl
