-- Where a character is in the XML declaration or a DOCTYPE that does not go on there.
use Rattle.std.proofs.Common.{◌≡◌, ℕ, suc, ◌≤◌, List, [], ◌∷◌, ◌++◌, length, length-append, refl, sym, subst, ap, ◌∙◌, arith, Bool, true, false, not, ◌&&◌, ◌||◌, cond, append_assoc, codes, ◌⊎◌, inl, inr}
use Rattle.xt_names.specs.Classes.{is_in_ranges}
use Rattle.doc_grammar.specs.Forms.{Form, Part, encoding, doctype_end, elsewhere, Spelled, FormStep, form_step, form_part, goes, done, fails, last, one, many, choice, literal, some_of}
use Rattle.doc_grammar.specs.Forms as forms
use Rattle.doc_grammar.specs.Prolog.{is_one, is_letter, space, equals, quoted, declaration_end, standalone, or_end, encoding_name, encoding_declaration, version_number, xml_declaration, doctype_declaration}
use Rattle.doc_grammar.specs.SpotCases.{Begun, nothing, first_one, another, no_other, left, right}
use Rattle.doc_grammar.proofs.CharacterFacts.{both}
use Rattle.doc_grammar.proofs.FormSteps.{no_form}
use Rattle.xt_names.specs.Characters.{is_space, is_char, starts_name, is_name_char}
use Rattle.xt_names.proofs.BoolLemmas.{not_true, no}

-- a step that fails, or is the last, goes to no form
pub not_fails : {P : Type 0} {g : Form} → fails ≡ goes g → P
not_fails e = cc

pub not_done : {P : Type 0} {g : Form} → done ≡ goes g → P
not_done e = cc

goes_same : {f g : Form} → goes f ≡ goes g → f ≡ g
goes_same e = cc

-- what holds of a step that is chosen
chosen : (P : FormStep → Type 0) (b : Bool) (x y : FormStep) → (b ≡ true → P x) → (b ≡ false → P y) → P (cond b x y)
chosen P true x y f g = f refl
chosen P false x y f g = g refl

-- no character of the form is in such a part

abbrev pub lacks : (Part → Bool) → Form → Bool
lacks is (last p class e) = not (is p)
lacks is (one p class e f) = not (is p) && lacks is f
lacks is (many class f) = lacks is f
lacks is (choice class f g) = lacks is f && lacks is g

pub lacks_part : (is : Part → Bool) (f : Form) (c : ℕ) → lacks is f ≡ true → is (form_part f c) ≡ false
lacks_part is (last p class e) c h = not_true h
lacks_part is (one p class e f) c h = not_true (both h).0
lacks_part is (many class f) c h = lacks_part is f c h
lacks_part is (choice class f g) c h = go (class c) (lacks_part is f c (both h).0) (lacks_part is g c (both h).1)
  where
    go : (b : Bool) → is (form_part f c) ≡ false → is (form_part g c) ≡ false → is (cond b (form_part f c) (form_part g c)) ≡ false
    go true x y = x
    go false x y = y

abbrev LacksStill : (Part → Bool) → FormStep → Type 0
LacksStill is (goes g) = lacks is g ≡ true
LacksStill is done = Unit {0}
LacksStill is fails = Unit {0}

lacks_on : (is : Part → Bool) (f : Form) (c : ℕ) → lacks is f ≡ true → LacksStill is (form_step f c)
lacks_on is (last p class e) c h = chosen (LacksStill is) (class c) _ _ (λ t. tt) (λ t. tt)
lacks_on is (one p class e f) c h = chosen (LacksStill is) (class c) _ _ (λ t. (both h).1) (λ t. tt)
lacks_on is (many class f) c h = chosen (LacksStill is) (class c) _ _ (λ t. h) (λ t. lacks_on is f c h)
lacks_on is (choice class f g) c h = chosen (LacksStill is) (class c) _ _ (λ t. lacks_on is f c (both h).0) (λ t. lacks_on is g c (both h).1)

pub lacks_step : (is : Part → Bool) (f g : Form) (c : ℕ) → lacks is f ≡ true → form_step f c ≡ goes g → lacks is g ≡ true
lacks_step is f g c h e = let P : FormStep → Type 0 = λ o. LacksStill is o in subst P e (lacks_on is f c h)

abbrev pub is_end : Part → Bool
is_end doctype_end = true
is_end encoding = false
is_end elsewhere = false

abbrev pub is_code : Part → Bool
is_code doctype_end = false
is_code encoding = true
is_code elsewhere = false

pub xml_lacks_end : lacks is_end xml_declaration ≡ true
unfolding xml_declaration
xml_lacks_end = refl

pub doctype_lacks_code : lacks is_code doctype_declaration ≡ true
unfolding doctype_declaration
doctype_lacks_code = refl

-- a character that comes only where a space may come too

abbrev pub calm : ℕ → Form → Bool
calm d (last p class e) = not (class d)
calm d (one p class e f) = not (class d) && calm d f
calm d (many class f) = (not (class d) || class 32) && calm d f
calm d (choice class f g) = calm d f && calm d g

abbrev CalmStill : ℕ → FormStep → Type 0
CalmStill d (goes g) = calm d g ≡ true
CalmStill d done = Unit {0}
CalmStill d fails = Unit {0}

calm_on : (d : ℕ) (f : Form) (c : ℕ) → calm d f ≡ true → CalmStill d (form_step f c)
calm_on d (last p class e) c h = chosen (CalmStill d) (class c) _ _ (λ t. tt) (λ t. tt)
calm_on d (one p class e f) c h = chosen (CalmStill d) (class c) _ _ (λ t. (both h).1) (λ t. tt)
calm_on d (many class f) c h = chosen (CalmStill d) (class c) _ _ (λ t. h) (λ t. calm_on d f c (both h).1)
calm_on d (choice class f g) c h = chosen (CalmStill d) (class c) _ _ (λ t. calm_on d f c (both h).0) (λ t. calm_on d g c (both h).1)

pub calm_step : (d : ℕ) (f g : Form) (c : ℕ) → calm d f ≡ true → form_step f c ≡ goes g → calm d g ≡ true
calm_step d f g c h e = let P : FormStep → Type 0 = λ o. CalmStill d o in subst P e (calm_on d f c h)

abbrev pub SpaceToo : FormStep → Type 0
SpaceToo (goes g) = (h : Form) × (form_step g 32 ≡ goes h)
SpaceToo done = ⊥
SpaceToo fails = Unit {0}

-- after such a character a space may come
pub space_too : (d : ℕ) (f : Form) → calm d f ≡ true → SpaceToo (form_step f d)
space_too d (last p class e) h = chosen SpaceToo (class d) _ _ (λ t. no t (not_true h)) (λ t. tt)
space_too d (one p class e f) h = chosen SpaceToo (class d) _ _ (λ t. no t (not_true (both h).0)) (λ t. tt)
space_too d (many class f) h =
    let more = space_too d f (both h).1 in
    chosen SpaceToo (class d) _ _ (λ t. spaced t (both h).0) (λ t. more)
  where
    spaced : class d ≡ true → (not (class d) || class 32) ≡ true → (g : Form) × (form_step (many class f) 32 ≡ goes g)
    spaced t k =
        let P : Bool → Type 0 = λ b. (not b || class 32) ≡ true in
        let s : class 32 ≡ true = subst P t k in
        (many class f, rw s refl)
space_too d (choice class f g) h =
    let x = space_too d f (both h).0 in
    let y = space_too d g (both h).1 in
    chosen SpaceToo (class d) _ _ (λ t. x) (λ t. y)

pub xml_open_calm : calm 60 xml_declaration ≡ true
unfolding xml_declaration is_space
xml_open_calm = refl

pub xml_reference_calm : calm 38 xml_declaration ≡ true
unfolding xml_declaration is_space
xml_reference_calm = refl

pub doctype_open_calm : calm 60 doctype_declaration ≡ true
unfolding doctype_declaration is_space is_char is_in_ranges starts_name is_name_char
doctype_open_calm = refl

pub doctype_reference_calm : calm 38 doctype_declaration ≡ true
unfolding doctype_declaration is_space is_char is_in_ranges starts_name is_name_char
doctype_reference_calm = refl

-- where `>` is the last character of a DOCTYPE, and where `[` is at its end

abbrev same : Bool → Bool → Bool
same a b = cond a b (not b)

abbrev pub closes : Form → Bool
closes (last p class e) = class 62 && is_end p
closes (one p class e f) = not (is_end p) && closes f
closes (many class f) = (not (is_end (form_part f 91)) || not (class 62)) && closes f
closes (choice class f g) = same (class 91) (class 62) && (closes f && closes g)

abbrev ClosesStill : FormStep → Type 0
ClosesStill (goes g) = closes g ≡ true
ClosesStill done = Unit {0}
ClosesStill fails = Unit {0}

closes_on : (f : Form) (c : ℕ) → closes f ≡ true → ClosesStill (form_step f c)
closes_on (last p class e) c h = chosen ClosesStill (class c) _ _ (λ t. tt) (λ t. tt)
closes_on (one p class e f) c h = chosen ClosesStill (class c) _ _ (λ t. (both h).1) (λ t. tt)
closes_on (many class f) c h = chosen ClosesStill (class c) _ _ (λ t. h) (λ t. closes_on f c (both h).1)
closes_on (choice class f g) c h = chosen ClosesStill (class c) _ _ (λ t. closes_on f c (both (both h).1).0) (λ t. closes_on g c (both (both h).1).1)

pub closes_step : (f g : Form) (c : ℕ) → closes f ≡ true → form_step f c ≡ goes g → closes g ≡ true
closes_step f g c h e = let P : FormStep → Type 0 = λ o. ClosesStill o in subst P e (closes_on f c h)

pub doctype_closes : closes doctype_declaration ≡ true
unfolding doctype_declaration is_space is_char is_in_ranges starts_name is_name_char
doctype_closes = refl

-- where `[` is at the end, `>` ends the form
pub close_spelled : (f : Form) (ts : List ℕ) → closes f ≡ true → is_end (form_part f 91) ≡ true → Spelled f (62 ∷ ts) ts
close_spelled (last p class e) ts h i = forms.last_one (both h).0
close_spelled (one p class e f) ts h i = no i (not_true (both h).0)
close_spelled (many class f) ts h i = go (is_end (form_part f 91)) (class 62) refl refl (both h).0 (close_spelled f ts (both h).1 i)
  where
    go : (a b : Bool) → is_end (form_part f 91) ≡ a → class 62 ≡ b → (not a || not b) ≡ true → Spelled f (62 ∷ ts) ts → Spelled (many class f) (62 ∷ ts) ts
    go true true d e k again = absurd (cc)
    go true false d e k again = forms.no_other e again
    go false b d e k again = no i d
close_spelled (choice class f g) ts h i = go (class 91) (class 62) refl (both h).0 i (λ k. close_spelled f ts (both (both h).1).0 k) (λ k. close_spelled g ts (both (both h).1).1 k)
  where
    go : (a b : Bool) → class 62 ≡ b → same a b ≡ true → is_end (cond a (form_part f 91) (form_part g 91)) ≡ true → (is_end (form_part f 91) ≡ true → Spelled f (62 ∷ ts) ts) → (is_end (form_part g 91) ≡ true → Spelled g (62 ∷ ts) ts) → Spelled (choice class f g) (62 ∷ ts) ts
    go true true e s k x y = forms.left e (x k)
    go true false e s k x y = absurd (cc)
    go false true e s k x y = absurd (cc)
    go false false e s k x y = forms.right e (y k)

-- a form that is begun, and a character more

one_begun : (f g : Form) (c : ℕ) → form_step f c ≡ goes g → Begun f (c ∷ []) g
one_begun (last p class e) g c s = go (class c) s
  where
    go : (b : Bool) → cond b done fails ≡ goes g → Begun (last p class e) (c ∷ []) g
    go true d = not_done d
    go false d = not_fails d
one_begun (one p class e f) g c s = go (class c) refl s
  where
    go : (b : Bool) → class c ≡ b → cond b (goes f) fails ≡ goes g → Begun (one p class e f) (c ∷ []) g
    go true h d = let P : Form → Type 0 = λ x. Begun (one p class e f) (c ∷ []) x in subst P (goes_same d) (first_one h nothing)
    go false h d = not_fails d
one_begun (many class f) g c s = go (class c) refl s (λ d. one_begun f g c d)
  where
    go : (b : Bool) → class c ≡ b → cond b (goes (many class f)) (form_step f c) ≡ goes g → (form_step f c ≡ goes g → Begun f (c ∷ []) g) → Begun (many class f) (c ∷ []) g
    go true h d k = let P : Form → Type 0 = λ x. Begun (many class f) (c ∷ []) x in subst P (goes_same d) (another h nothing)
    go false h d k = no_other h (k d)
one_begun (choice class f f') g c s = go (class c) refl s (λ d. one_begun f g c d) (λ d. one_begun f' g c d)
  where
    go : (b : Bool) → class c ≡ b → cond b (form_step f c) (form_step f' c) ≡ goes g → (form_step f c ≡ goes g → Begun f (c ∷ []) g) → (form_step f' c ≡ goes g → Begun f' (c ∷ []) g) → Begun (choice class f f') (c ∷ []) g
    go true h d x y = left h (x d)
    go false h d x y = right h (y d)

pub begun_more : {f g h : Form} {cs : List ℕ} (c : ℕ) → Begun f cs g → form_step g c ≡ goes h → Begun f (cs ++ c ∷ []) h
begun_more {f = f} {h = h} c nothing e = one_begun f h c e
begun_more c (first_one p b) e = first_one p (begun_more c b e)
begun_more c (another p b) e = another p (begun_more c b e)
begun_more c (no_other p b) e = no_other p (begun_more c b e)
begun_more c (left p b) e = left p (begun_more c b e)
begun_more c (right p b) e = right p (begun_more c b e)

-- the encoding name and its closing quote, of which so many characters are read
abbrev behind_name : Form
behind_name = or_end 115 standalone declaration_end

pub data InName (q : ℕ) : ℕ → Form → Type 0 where
  at_start : InName q 0 (encoding_name q)
  at_t : InName q 1 (one encoding (is_letter 116) 116 (one encoding (is_letter 102) 102 (one encoding (is_one 45) 45 (one encoding (is_one 56) 56 (one encoding (is_one q) q behind_name)))))
  at_f : InName q 2 (one encoding (is_letter 102) 102 (one encoding (is_one 45) 45 (one encoding (is_one 56) 56 (one encoding (is_one q) q behind_name))))
  at_dash : InName q 3 (one encoding (is_one 45) 45 (one encoding (is_one 56) 56 (one encoding (is_one q) q behind_name)))
  at_eight : InName q 4 (one encoding (is_one 56) 56 (one encoding (is_one q) q behind_name))
  at_quote : InName q 5 (one encoding (is_one q) q behind_name)

pub name_short : {q n : ℕ} {g : Form} → InName q n g → n ≤ 5
name_short at_start = omega arith
name_short at_t = omega arith
name_short at_f = omega arith
name_short at_dash = omega arith
name_short at_eight = omega arith
name_short at_quote = omega arith

-- the name goes on, or ends, and after it stands no encoding
abbrev NameGoes : ℕ → ℕ → FormStep → Type 0
NameGoes q n (goes g) = InName q (suc n) g ⊎ (lacks is_code g ≡ true)
NameGoes q n done = Unit {0}
NameGoes q n fails = Unit {0}

name_on : (q n : ℕ) (g : Form) (c : ℕ) → InName q n g → NameGoes q n (form_step g c)
name_on q n g c at_start = chosen (NameGoes q 0) (is_letter 117 c) _ _ (λ h. inl at_t) (λ h. tt)
name_on q n g c at_t = chosen (NameGoes q 1) (is_letter 116 c) _ _ (λ h. inl at_f) (λ h. tt)
name_on q n g c at_f = chosen (NameGoes q 2) (is_letter 102 c) _ _ (λ h. inl at_dash) (λ h. tt)
name_on q n g c at_dash = chosen (NameGoes q 3) (is_one 45 c) _ _ (λ h. inl at_eight) (λ h. tt)
name_on q n g c at_eight = chosen (NameGoes q 4) (is_one 56 c) _ _ (λ h. inl at_quote) (λ h. tt)
name_on q n g c at_quote = chosen (NameGoes q 5) (is_one q c) _ _ (λ h. inr refl) (λ h. tt)

-- what comes first is in no encoding
abbrev Quiet : Form → Type 0
Quiet f = (c : ℕ) → is_code (form_part f c) ≡ false

-- a form in which encodings stand whole, and not at once after a choice
pub data Early : Form → Type 0 where
  free : {f : Form} → lacks is_code f ≡ true → Early f
  here : (q : ℕ) → Early (encoding_name q)
  after_one : {class : ℕ → Bool} {e : ℕ} {f : Form} → Early f → Early (one elsewhere class e f)
  after_many : {class : ℕ → Bool} {f : Form} → Quiet f → Early f → Early (many class f)
  either : {class : ℕ → Bool} {f g : Form} → Quiet f → Quiet g → Early f → Early g → Early (choice class f g)

abbrev EarlyGoes : Form → FormStep → Type 0
EarlyGoes f (goes g) = Early g ⊎ ((q : ℕ) × (f ≡ encoding_name q) × InName q 1 g)
EarlyGoes f done = Unit {0}
EarlyGoes f fails = Unit {0}

free_goes : (f : Form) (o : FormStep) → LacksStill is_code o → EarlyGoes f o
free_goes f (goes g) h = inl (free h)
free_goes f done h = tt
free_goes f fails h = tt

quiet_goes : (f g : Form) (o : FormStep) → Quiet f → EarlyGoes f o → EarlyGoes g o
quiet_goes f g (goes h) quiet (inl k) = inl k
quiet_goes f g (goes h) quiet (inr k) = let P : Form → Type 0 = λ x. is_code (form_part x 0) ≡ false in no refl (subst P k.1 (quiet 0))
quiet_goes f g done quiet k = tt
quiet_goes f g fails quiet k = tt

early_on : (g : Form) (c : ℕ) → Early g → EarlyGoes g (form_step g c)
early_on g c (free h) = free_goes g (form_step g c) (lacks_on is_code g c h)
early_on g c (here q) = chosen (EarlyGoes (encoding_name q)) (is_letter 117 c) _ _ (λ h. inr (q, refl, at_t)) (λ h. tt)
early_on g c (after_one {class = class} {e = e} {f = f} k) = chosen (EarlyGoes (one elsewhere class e f)) (class c) _ _ (λ h. inl k) (λ h. tt)
early_on g c (after_many {class = class} {f = f} quiet k) =
    let more = early_on f c k in
    chosen (EarlyGoes (many class f)) (class c) _ _ (λ h. inl (after_many quiet k)) (λ h. quiet_goes f (many class f) (form_step f c) quiet more)
early_on g c (either {class = class} {f = f} {g = f'} quiet quiet' k k') =
    let more = early_on f c k in
    let more' = early_on f' c k' in
    chosen (EarlyGoes (choice class f f')) (class c) _ _ (λ h. quiet_goes f (choice class f f') (form_step f c) quiet more) (λ h. quiet_goes f' (choice class f f') (form_step f' c) quiet' more')

quiet_choice : (class : ℕ → Bool) (f g : Form) → Quiet f → Quiet g → Quiet (choice class f g)
quiet_choice class f g x y c = go (class c)
  where
    go : (b : Bool) → is_code (cond b (form_part f c) (form_part g c)) ≡ false
    go true = x c
    go false = y c

early_part : (g : Form) (c : ℕ) → Early g → is_code (form_part g c) ≡ true → (q : ℕ) × (g ≡ encoding_name q)
early_part g c (free h) i = no i (lacks_part is_code g c h)
early_part g c (here q) i = (q, refl)
early_part g c (after_one k) i = absurd (cc)
early_part g c (after_many quiet k) i = no i (quiet c)
early_part g c (either {class = class} {f = f} {g = f'} quiet quiet' k k') i = no i (quiet_choice class f f' quiet quiet' c)

-- the XML declaration is such a form

literal_early : (cs : List ℕ) (f : Form) → Early f → Early (literal cs f)
literal_early [] f k = k
literal_early (c ∷ cs) f k = after_one (literal_early cs f k)

space_early : (f : Form) → Quiet f → Early f → Early (space f)
space_early f quiet k = after_one (after_many quiet k)

equals_early : (f : Form) → Quiet f → Early f → Early (equals f)
equals_early f quiet k = after_many (λ c. refl) (after_one (after_many quiet k))

quoted_quiet : (inner : ℕ → Form) → Quiet (quoted inner)
quoted_quiet inner = quiet_choice (is_one 34) (one elsewhere (is_one 34) 34 (inner 34)) (one elsewhere (is_one 39) 39 (inner 39)) (λ c. refl) (λ c. refl)

quoted_early : (inner : ℕ → Form) → ((q : ℕ) → Early (inner q)) → Early (quoted inner)
quoted_early inner k = either (λ c. refl) (λ c. refl) (after_one (k 34)) (after_one (k 39))

encoding_early : Early encoding_declaration
encoding_early = literal_early (codes "encoding") (equals (quoted encoding_name)) (equals_early (quoted encoding_name) (quoted_quiet encoding_name) (quoted_early encoding_name here))

abbrev behind_version : Form
behind_version = choice (is_one 115) standalone declaration_end

behind_early : Early (or_end 101 encoding_declaration behind_version)
behind_early =
    let quiet = quiet_choice (is_one 115) standalone declaration_end (λ c. refl) (λ c. refl) in
    either (λ c. refl) (λ c. refl)
    (space_early (choice (is_one 101) encoding_declaration behind_version) (quiet_choice (is_one 101) encoding_declaration behind_version (λ c. refl) quiet) (either (λ c. refl) quiet encoding_early (free refl)))
    (free refl)

version_early : (q : ℕ) → Early (version_number q)
version_early q = literal_early (codes "1.") _ (after_one (after_many (λ c. refl) (after_one behind_early)))

xml_early : Early xml_declaration
unfolding xml_declaration
xml_early = space_early _ (λ c. refl) (literal_early (codes "version") (equals (quoted version_number)) (equals_early (quoted version_number) (quoted_quiet version_number) (quoted_early version_number version_early)))

-- where a character is in the XML declaration

-- between the quotes of the encoding value, or as its closing quote
pub record InValue (cs : List ℕ) (g : Form) : Type 0 where
  pub inner : List ℕ
  pub letters : List ℕ
  pub quote : ℕ
  pub parts : cs ≡ inner ++ letters
  pub is_value : Begun xml_declaration inner (encoding_name quote)
  pub is_name : Begun (encoding_name quote) letters g
  pub place : InName quote (length letters) g

pub data Where (cs : List ℕ) (g : Form) : Type 0 where
  early : Begun xml_declaration cs g → Early g → Where cs g
  inside : InValue cs g → Where cs g
  late : lacks is_code g ≡ true → Where cs g

pub where_first : Where [] xml_declaration
where_first = early nothing xml_early

length_more : (cs : List ℕ) (c : ℕ) → suc (length cs) ≡ length (cs ++ c ∷ [])
length_more cs c = let e = length-append cs (c ∷ []) in omega arith

pub where_more : (cs : List ℕ) (g h : Form) (c : ℕ) → Where cs g → form_step g c ≡ goes h → Where (cs ++ c ∷ []) h
where_more cs g h c (early b k) e =
    let P : FormStep → Type 0 = λ o. EarlyGoes g o in go (subst P e (early_on g c k))
  where
    go : Early h ⊎ ((q : ℕ) × (g ≡ encoding_name q) × InName q 1 h) → Where (cs ++ c ∷ []) h
    go (inl x) = early (begun_more c b e) x
    go (inr x) =
        let P : Form → Type 0 = λ y. Begun xml_declaration cs y in
        let Q : Form → Type 0 = λ y. form_step y c ≡ goes h in
        inside (record { inner = cs; letters = c ∷ []; quote = x.0; parts = refl; is_value = subst P x.1 b; is_name = one_begun (encoding_name x.0) h c (subst Q x.1 e); place = x.2 })
where_more cs g h c (inside v) e =
    let P : FormStep → Type 0 = λ o. NameGoes v.quote (length v.letters) o in go (subst P e (name_on v.quote (length v.letters) g c v.place))
  where
    go : InName v.quote (suc (length v.letters)) h ⊎ (lacks is_code h ≡ true) → Where (cs ++ c ∷ []) h
    go (inl x) =
        let P : ℕ → Type 0 = λ n. InName v.quote n h in
        inside (record {
          inner = v.inner;
          letters = v.letters ++ c ∷ [];
          quote = v.quote;
          parts = ap (λ xs. xs ++ c ∷ []) v.parts ∙ append_assoc v.inner v.letters (c ∷ []);
          is_value = v.is_value;
          is_name = begun_more c v.is_name e;
          place = subst P (length_more v.letters c) x;
        })
    go (inr x) = late x
where_more cs g h c (late k) e = late (lacks_step is_code g h c k e)

no_more : (cs : List ℕ) → cs ≡ cs ++ []
no_more [] = refl
no_more (c ∷ cs) = ap (λ xs. c ∷ xs) (no_more cs)

-- where a character of the encoding value is wanted, it is there
pub in_value : (cs : List ℕ) (g : Form) (c : ℕ) → Where cs g → is_code (form_part g c) ≡ true → InValue cs g
in_value cs g c (early b k) i =
    let e = early_part g c k i in
    let P : Form → Type 0 = λ x. Begun xml_declaration cs x in
    let Q : Form → Type 0 = λ x. InValue cs x in
    subst Q (sym e.1) (record { inner = cs; letters = []; quote = e.0; parts = no_more cs; is_value = subst P e.1 b; is_name = nothing; place = at_start })
in_value cs g c (inside v) i = v
in_value cs g c (late k) i = no i (lacks_part is_code g c k)

-- and the other way

tail_none : {c : ℕ} {ts : List ℕ} → c ∷ ts ≡ 62 ∷ [] → ts ≡ []
tail_none e = cc

first_is : {c : ℕ} {ts : List ℕ} → c ∷ ts ≡ 62 ∷ [] → c ≡ 62
first_is e = cc

no_text : {f : Form} {ts rest : List ℕ} → Spelled f ts rest → ts ≡ [] → ⊥
no_text {f = f} {rest = rest} k e = let P : List ℕ → Type 0 = λ x. Spelled f x rest in no_form f (subst P e k)

same_so : (a b : Bool) → same a b ≡ true → a ≡ b
same_so true true e = refl
same_so true false e = absurd (cc)
same_so false true e = absurd (cc)
same_so false false e = refl

-- where `>` ends the form, `[` is at its end
pub close_part : {f : Form} {ts rest : List ℕ} → Spelled f ts rest → ts ≡ 62 ∷ [] → closes f ≡ true → is_end (form_part f 91) ≡ true
close_part (forms.last_one p) e h = (both h).1
close_part (forms.first_one p k) e h = absurd (no_text k (tail_none e))
close_part (forms.another p k) e h = absurd (no_text k (tail_none e))
close_part (forms.no_other p k) e h = close_part k e (both h).1
close_part (forms.left {class = class} {c = c} {f = f} {g = g} p k) e h =
    let at : class 91 ≡ true = same_so (class 91) (class 62) (both h).0 ∙ ap class (sym (first_is e)) ∙ p in
    let rest : is_end (form_part f 91) ≡ true = close_part k e (both (both h).1).0 in
    rw at rest
close_part (forms.right {class = class} {c = c} {f = f} {g = g} p k) e h =
    let at : class 91 ≡ false = same_so (class 91) (class 62) (both h).0 ∙ ap class (sym (first_is e)) ∙ p in
    let rest : is_end (form_part g 91) ≡ true = close_part k e (both (both h).1).1 in
    rw at rest

-- so many characters more than one stand in the encoding value
data Coded : ℕ → Form → Type 0 where
  coded : {class : ℕ → Bool} {e : ℕ} {f : Form} → Coded 0 (one encoding class e f)
  more_coded : {n : ℕ} {class : ℕ → Bool} {e : ℕ} {f : Form} → Coded n f → Coded (suc n) (one encoding class e f)

name_coded : (q : ℕ) → Coded 5 (encoding_name q)
name_coded q = more_coded (more_coded (more_coded (more_coded (more_coded coded))))

code_left : {f g : Form} {cs : List ℕ} (n c : ℕ) → Begun f cs g → length cs ≤ n → Coded n f → is_code (form_part g c) ≡ true
code_left n c nothing h coded = refl
code_left n c nothing h (more_coded k) = refl
code_left n c (first_one p b) h coded = absurd (omega arith)
code_left n c (first_one p b) h (more_coded {n = m} k) = code_left m c b (omega arith) k
code_left n c (another p b) h k = elim k [ ]
code_left n c (no_other p b) h k = elim k [ ]
code_left n c (left p b) h k = elim k [ ]
code_left n c (right p b) h k = elim k [ ]

-- what follows no more than the five letters of the name is in the value
pub name_part : {q : ℕ} {g : Form} {cs : List ℕ} (c : ℕ) → Begun (encoding_name q) cs g → length cs ≤ 5 → is_code (form_part g c) ≡ true
name_part {q = q} c b h = code_left 5 c b h (name_coded q)
