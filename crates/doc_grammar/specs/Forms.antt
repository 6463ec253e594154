-- Forms: texts that are read one character at a time and mean nothing but that they stand there.
use Rattle.std.specs.Prelude.{◌≡◌, ℕ, List, [], ◌∷◌, Bool, true, false, ◌==◌, if◌then◌else◌}

-- where a character of a form stands, for those whose place a refusal names
pub data Part : Type 0 where
  -- in the value of the encoding, or its closing quote
  encoding : Part
  -- at the end of a DOCTYPE, after its name or identifier
  doctype_end : Part
  elsewhere : Part

-- what comes next, each class of characters with one of its characters as an example
pub data Form : Type 0 where
  -- one character of the class, and nothing more
  last : Part → (ℕ → Bool) → ℕ → Form
  -- one character of the class, and then the others
  one : Part → (ℕ → Bool) → ℕ → Form → Form
  -- as many characters of the class as come, and then the others
  many : (ℕ → Bool) → Form → Form
  -- the first form where a character of the class comes, and else the second
  choice : (ℕ → Bool) → Form → Form → Form

-- the form is at the front of the text, before this rest
pub data Spelled : Form → List ℕ → List ℕ → Type 0 where
  last_one : {p : Part} {class : ℕ → Bool} {c e : ℕ} {ts : List ℕ} → class c ≡ true → Spelled (last p class e) (c ∷ ts) ts
  first_one : {p : Part} {class : ℕ → Bool} {c e : ℕ} {f : Form} {ts rest : List ℕ} → class c ≡ true → Spelled f ts rest → Spelled (one p class e f) (c ∷ ts) rest
  another : {class : ℕ → Bool} {c : ℕ} {f : Form} {ts rest : List ℕ} → class c ≡ true → Spelled (many class f) ts rest → Spelled (many class f) (c ∷ ts) rest
  no_other : {class : ℕ → Bool} {c : ℕ} {f : Form} {ts rest : List ℕ} → class c ≡ false → Spelled f (c ∷ ts) rest → Spelled (many class f) (c ∷ ts) rest
  left : {class : ℕ → Bool} {c : ℕ} {f g : Form} {ts rest : List ℕ} → class c ≡ true → Spelled f (c ∷ ts) rest → Spelled (choice class f g) (c ∷ ts) rest
  right : {class : ℕ → Bool} {c : ℕ} {f g : Form} {ts rest : List ℕ} → class c ≡ false → Spelled g (c ∷ ts) rest → Spelled (choice class f g) (c ∷ ts) rest

-- what a character does in a form
pub data FormStep : Type 0 where
  goes : Form → FormStep
  done : FormStep
  fails : FormStep

abbrev pub form_step : Form → ℕ → FormStep
form_step (last p class e) c = if class c then done else fails
form_step (one p class e f) c = if class c then goes f else fails
form_step (many class f) c = if class c then goes (many class f) else form_step f c
form_step (choice class f g) c = if class c then form_step f c else form_step g c

-- where the character stands that does not go on
abbrev pub form_part : Form → ℕ → Part
form_part (last p class e) c = p
form_part (one p class e f) c = p
form_part (many class f) c = form_part f c
form_part (choice class f g) c = if class c then form_part f c else form_part g c

-- these characters, and then the form
abbrev pub literal : List ℕ → Form → Form
literal [] f = f
literal (c ∷ cs) f = one elsewhere (λ d. d == c) c (literal cs f)

-- one character at least
abbrev pub some_of : (ℕ → Bool) → ℕ → Form → Form
some_of class e f = one elsewhere class e (many class f)
