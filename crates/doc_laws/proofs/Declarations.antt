-- The XML declaration that is written is read.
use Rattle.std.proofs.Common.{◌≡◌, ℕ, List, [], ◌∷◌, ◌++◌, Bool, true, false, refl, subst, codes}
use Rattle.xt_names.specs.Classes.{is_in_ranges}
use Rattle.doc_grammar.specs.Forms.{Form, Spelled, FormStep, form_step, goes, done, fails}
use Rattle.doc_grammar.specs.Prolog.{xml_declaration}
use Rattle.doc_grammar.proofs.FormSteps.{FormGoes, forms_go}
use Rattle.xt_names.specs.Characters.{is_space, is_char}

abbrev is_nothing : List ℕ → Bool
is_nothing [] = true
is_nothing (c ∷ cs) = false

abbrev spells_behind : (Form → Bool) → Bool → FormStep → Bool
spells_behind more ends (goes f) = more f
spells_behind more ends done = ends
spells_behind more ends fails = false

-- the characters are all of the form
abbrev spells : List ℕ → Form → Bool
spells [] f = false
spells (c ∷ cs) f = spells_behind (λ g. spells cs g) (is_nothing cs) (form_step f c)

nothing_left : (cs rest : List ℕ) → is_nothing cs ≡ true → (cs ++ rest) ≡ rest
nothing_left [] rest e = refl
nothing_left (c ∷ cs) rest e = absurd (cc)

spelled : (cs : List ℕ) (f : Form) (rest : List ℕ) → spells cs f ≡ true → Spelled f (cs ++ rest) rest
spelled [] f rest e = absurd (cc)
spelled (c ∷ cs) f rest e = go (form_step f c) (forms_go f c (cs ++ rest)) e (λ g d. spelled cs g rest d)
  where
    go : (o : FormStep) → FormGoes f c (cs ++ rest) o → spells_behind (λ g. spells cs g) (is_nothing cs) o ≡ true → ((g : Form) → spells cs g ≡ true → Spelled g (cs ++ rest) rest) → Spelled f (c ∷ (cs ++ rest)) rest
    go (goes g) k d again = (k rest).1 (again g d)
    go done k d again = let P : List ℕ → Type 0 = λ x. Spelled f (c ∷ (cs ++ rest)) x in subst P (nothing_left cs rest d) k.1
    go fails k d again = absurd (cc)

pub declaration_back : (rest : List ℕ) → Spelled xml_declaration (codes " version=\"1.0\" encoding=\"UTF-8\"?>" ++ rest) rest
unfolding xml_declaration is_space is_char is_in_ranges
declaration_back rest = spelled (codes " version=\"1.0\" encoding=\"UTF-8\"?>") xml_declaration rest refl
