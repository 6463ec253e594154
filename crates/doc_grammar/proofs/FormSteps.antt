-- Each step in a form keeps what can still complete it.
use Rattle.std.proofs.Common.{◌≡◌, ℕ, List, [], ◌∷◌, refl, Bool, true, false, cond}
use Rattle.doc_grammar.specs.Forms.{Form, Part, Spelled, FormStep, form_step, goes, done, fails, last, one, many, choice}
use Rattle.doc_grammar.specs.Forms as forms
use Rattle.xt_names.proofs.BoolLemmas.{no}

-- what a character does to what may still be spelled
abbrev pub FormGoes : Form → ℕ → List ℕ → FormStep → Type 0
FormGoes f c ts (goes g) = (rest : List ℕ) → (Spelled f (c ∷ ts) rest → Spelled g ts rest) × (Spelled g ts rest → Spelled f (c ∷ ts) rest)
FormGoes f c ts done = ((rest : List ℕ) → Spelled f (c ∷ ts) rest → rest ≡ ts) × Spelled f (c ∷ ts) ts
FormGoes f c ts fails = (rest : List ℕ) → Spelled f (c ∷ ts) rest → ⊥

choose : (f : Form) (c : ℕ) (ts : List ℕ) (b : Bool) (x y : FormStep) → (b ≡ true → FormGoes f c ts x) → (b ≡ false → FormGoes f c ts y) → FormGoes f c ts (cond b x y)
choose f c ts true x y g h = g refl
choose f c ts false x y g h = h refl

through : (f g : Form) (c : ℕ) (ts : List ℕ) (o : FormStep) → ((rest : List ℕ) → Spelled f (c ∷ ts) rest → Spelled g (c ∷ ts) rest) → ((rest : List ℕ) → Spelled g (c ∷ ts) rest → Spelled f (c ∷ ts) rest) → FormGoes g c ts o → FormGoes f c ts o
through f g c ts (goes x) u v k = λ rest. ((λ r. (k rest).0 (u rest r)), (λ r. v rest ((k rest).1 r)))
through f g c ts done u v k = ((λ rest r. k.0 rest (u rest r)), v ts k.1)
through f g c ts fails u v k = λ rest r. k rest (u rest r)

last_on : {p : Part} {class : ℕ → Bool} {e c : ℕ} {ts rest : List ℕ} → Spelled (last p class e) (c ∷ ts) rest → (class c ≡ true) × (rest ≡ ts)
last_on (forms.last_one h) = (h, refl)

pub one_on : {p : Part} {class : ℕ → Bool} {e c : ℕ} {f : Form} {ts rest : List ℕ} → Spelled (one p class e f) (c ∷ ts) rest → (class c ≡ true) × Spelled f ts rest
one_on (forms.first_one h k) = (h, k)

many_on : {class : ℕ → Bool} {c : ℕ} {f : Form} {ts rest : List ℕ} → class c ≡ true → Spelled (many class f) (c ∷ ts) rest → Spelled (many class f) ts rest
many_on h (forms.another p k) = k
many_on h (forms.no_other p k) = no h p

many_over : {class : ℕ → Bool} {c : ℕ} {f : Form} {ts rest : List ℕ} → class c ≡ false → Spelled (many class f) (c ∷ ts) rest → Spelled f (c ∷ ts) rest
many_over h (forms.another p k) = no p h
many_over h (forms.no_other p k) = k

choice_left : {class : ℕ → Bool} {c : ℕ} {f g : Form} {ts rest : List ℕ} → class c ≡ true → Spelled (choice class f g) (c ∷ ts) rest → Spelled f (c ∷ ts) rest
choice_left h (forms.left p k) = k
choice_left h (forms.right p k) = no h p

choice_right : {class : ℕ → Bool} {c : ℕ} {f g : Form} {ts rest : List ℕ} → class c ≡ false → Spelled (choice class f g) (c ∷ ts) rest → Spelled g (c ∷ ts) rest
choice_right h (forms.left p k) = no p h
choice_right h (forms.right p k) = k

pub forms_go : (f : Form) (c : ℕ) (ts : List ℕ) → FormGoes f c ts (form_step f c)
forms_go (last p class e) c ts =
    choose (last p class e) c ts (class c) _ _
    (λ h. ((λ rest k. (last_on k).1), forms.last_one h))
    (λ h rest k. no (last_on k).0 h)
forms_go (one p class e f) c ts =
    choose (one p class e f) c ts (class c) _ _
    (λ h rest. ((λ k. (one_on k).1), (λ k. forms.first_one h k)))
    (λ h rest k. no (one_on k).0 h)
forms_go (many class f) c ts =
    choose (many class f) c ts (class c) _ _
    (λ h rest. ((λ k. many_on h k), (λ k. forms.another h k)))
    (λ h. through (many class f) f c ts _ (λ rest k. many_over h k) (λ rest k. forms.no_other h k) (forms_go f c ts))
forms_go (choice class f g) c ts =
    choose (choice class f g) c ts (class c) _ _
    (λ h. through (choice class f g) f c ts _ (λ rest k. choice_left h k) (λ rest k. forms.left h k) (forms_go f c ts))
    (λ h. through (choice class f g) g c ts _ (λ rest k. choice_right h k) (λ rest k. forms.right h k) (forms_go g c ts))

-- a form is at least one character
pub no_form : {rest : List ℕ} → (f : Form) → Spelled f [] rest → ⊥
no_form f k = elim k [ ]
