-- What is written for a text or a value is read back as that.
use Rattle.std.proofs.Common.{◌≡◌, ℕ, ◌<◌, List, [], ◌∷◌, ◌++◌, Bool, true, false, cond, ◌||◌, ◌==◌, refl, sym, subst, arith, codes, append_assoc, append-nil, ⊎_elim}
use Rattle.std.proofs.lemmas.Bool.{or_cases, or_parts, eqb-true}
use Rattle.xt_names.specs.Classes.{is_xml_text}
use Rattle.xt_names.specs.declared.names.Binding.{Binding}
use Rattle.xt_tree.specs.declared.trees.Tree.{Tree}
use Rattle.doc_grammar.specs.Characters.{is_text, is_value, as_value, may_stand, brackets_behind}
use Rattle.doc_grammar.specs.Lexemes.{Reference}
use Rattle.doc_grammar.specs.Lexemes as lexemes
use Rattle.doc_grammar.specs.Document.{Rules, Content, Valued}
use Rattle.doc_grammar.specs.Document as doc
use Rattle.doc_grammar.proofs.CharacterFacts.{both}
use Rattle.doc_writer.specs.Escapes.{reference, is_control, text_char, value_char, escaped_text, escaped_value}
use Rattle.doc_laws.proofs.References.{StandsFor, short_reference, control_reference}
use Rattle.xt_names.specs.Characters.{is_space, is_char}

-- references by name

ampersand : (c : ℕ) (ts : List ℕ) → (c == 38) ≡ true → StandsFor c (codes "&amp;" ++ ts) ts
ampersand c ts e = let P : ℕ → Type 0 = λ x. Reference (97 ∷ 109 ∷ 112 ∷ 59 ∷ ts) x ts in record { ts = 97 ∷ 109 ∷ 112 ∷ 59 ∷ ts; begins = refl; reads = subst P (sym (eqb-true c 38 e)) lexemes.amp }

less : (c : ℕ) (ts : List ℕ) → (c == 60) ≡ true → StandsFor c (codes "&lt;" ++ ts) ts
less c ts e = let P : ℕ → Type 0 = λ x. Reference (108 ∷ 116 ∷ 59 ∷ ts) x ts in record { ts = 108 ∷ 116 ∷ 59 ∷ ts; begins = refl; reads = subst P (sym (eqb-true c 60 e)) lexemes.lt }

greater : (c : ℕ) (ts : List ℕ) → (c == 62) ≡ true → StandsFor c (codes "&gt;" ++ ts) ts
greater c ts e = let P : ℕ → Type 0 = λ x. Reference (103 ∷ 116 ∷ 59 ∷ ts) x ts in record { ts = 103 ∷ 116 ∷ 59 ∷ ts; begins = refl; reads = subst P (sym (eqb-true c 62 e)) lexemes.gt }

quotation : (c : ℕ) (ts : List ℕ) → (c == 34) ≡ true → StandsFor c (codes "&quot;" ++ ts) ts
quotation c ts e = let P : ℕ → Type 0 = λ x. Reference (113 ∷ 117 ∷ 111 ∷ 116 ∷ 59 ∷ ts) x ts in record { ts = 113 ∷ 117 ∷ 111 ∷ 116 ∷ 59 ∷ ts; begins = refl; reads = subst P (sym (eqb-true c 34 e)) lexemes.quot }

-- references by number

short : (c d : ℕ) (ts : List ℕ) → (c == d) ≡ true → d < 16 → is_char c ≡ true → StandsFor c (reference c ++ ts) ts
short c d ts e h p = let same = eqb-true c d e in short_reference c ts (omega arith) p

returned : (c : ℕ) (ts : List ℕ) → (c == 13 || is_control c) ≡ true → is_char c ≡ true → StandsFor c (reference c ++ ts) ts
returned c ts h p = ⊎_elim (λ e. short c 13 ts e (omega arith) p) (λ e. control_reference c ts e p) (or_cases (c == 13) (is_control c) h)

spaced : (c : ℕ) (ts : List ℕ) → (c == 9 || c == 10 || c == 13 || is_control c) ≡ true → is_char c ≡ true → StandsFor c (reference c ++ ts) ts
spaced c ts h p = ⊎_elim third (λ e. control_reference c ts e p) (or_cases ((c == 9 || c == 10) || c == 13) (is_control c) h)
  where
    first : (c == 9 || c == 10) ≡ true → StandsFor c (reference c ++ ts) ts
    first x = ⊎_elim (λ e. short c 9 ts e (omega arith) p) (λ e. short c 10 ts e (omega arith) p) (or_cases (c == 9) (c == 10) x)

    third : (c == 9 || c == 10 || c == 13) ≡ true → StandsFor c (reference c ++ ts) ts
    third x = ⊎_elim first (λ e. short c 13 ts e (omega arith) p) (or_cases (c == 9 || c == 10) (c == 13) x)

-- characters that stand for themselves

stands : (n c : ℕ) → is_char c ≡ true → (c == 38) ≡ false → (c == 60) ≡ false → (c == 62) ≡ false → may_stand n c ≡ true
unfolding may_stand is_text
stands n c p a b d = rw (p, a, b, d) refl

in_value : (c : ℕ) → is_char c ≡ true → (c == 38) ≡ false → (c == 60) ≡ false → (c == 34) ≡ false → is_value 34 c ≡ true
unfolding is_value is_text
in_value c p a b d = rw (p, a, b, d) refl

as_itself : (c : ℕ) → (c == 9 || c == 10 || c == 13 || is_control c) ≡ false → as_value c ≡ c
unfolding as_value is_space
as_itself c h =
    let x = or_parts ((c == 9 || c == 10) || c == 13) (is_control c) h in
    let y = or_parts (c == 9 || c == 10) (c == 13) x.0 in
    let z = or_parts (c == 9) (c == 10) y.0 in
    rw (z.0, z.1, y.1) (go (c == 32) refl)
  where
    go : (b : Bool) → (c == 32) ≡ b → cond (((b || false) || false) || false) 32 c ≡ c
    go true e = sym (eqb-true c 32 e)
    go false e = refl

-- texts

module _ (rules : Rules) (k : ℕ) (scope : List Binding) (ts rest : List ℕ) (kids : List Tree) where
  -- after this text
  abbrev Behind : ℕ → List ℕ → List ℕ → Type 0
  Behind n text left = Content rules k scope n text left kids rest

  by_reference : (n c : ℕ) (front written left : List ℕ) → StandsFor c written left → Behind 0 (front ++ c ∷ []) left → Behind n front written
  by_reference n c front written left s go_on = let P : List ℕ → Type 0 = λ x. Behind n front x in subst P (sym s.begins) (doc.refers s.reads go_on)

  one_char : (n c : ℕ) (front left : List ℕ) → is_char c ≡ true → ((m : ℕ) → Behind m (front ++ c ∷ []) left) → Behind n front (text_char c ++ left)
  unfolding text_char
  one_char n c front left p go_on = first (c == 38) refl
    where
      last : (b : Bool) → (c == 13 || is_control c) ≡ b → (c == 38) ≡ false → (c == 60) ≡ false → (c == 62) ≡ false → Behind n front (cond b (reference c) (c ∷ []) ++ left)
      last true e x y z = by_reference n c front _ left (returned c left e p) (go_on 0)
      last false e x y z = doc.says (stands n c p x y z) (go_on (brackets_behind n c))

      third : (b : Bool) → (c == 62) ≡ b → (c == 38) ≡ false → (c == 60) ≡ false → Behind n front (cond b (codes "&gt;") (cond (c == 13 || is_control c) (reference c) (c ∷ [])) ++ left)
      third true e x y = by_reference n c front _ left (greater c left e) (go_on 0)
      third false e x y = last (c == 13 || is_control c) refl x y e

      second : (b : Bool) → (c == 60) ≡ b → (c == 38) ≡ false → Behind n front (cond b (codes "&lt;") (cond (c == 62) (codes "&gt;") (cond (c == 13 || is_control c) (reference c) (c ∷ []))) ++ left)
      second true e x = by_reference n c front _ left (less c left e) (go_on 0)
      second false e x = third (c == 62) refl x e

      first : (b : Bool) → (c == 38) ≡ b → Behind n front (cond b (codes "&amp;") (cond (c == 60) (codes "&lt;") (cond (c == 62) (codes "&gt;") (cond (c == 13 || is_control c) (reference c) (c ∷ [])))) ++ left)
      first true e = by_reference n c front _ left (ampersand c left e) (go_on 0)
      first false e = second (c == 60) refl e

  pub text_back : (n : ℕ) (front text : List ℕ) → is_xml_text text ≡ true → ((m : ℕ) → Behind m (front ++ text) ts) → Behind n front (escaped_text text ++ ts)
  unfolding is_xml_text is_char
  text_back n front [] x go_on = let P : List ℕ → Type 0 = λ f. Behind n f ts in subst P (append-nil front) (go_on n)
  text_back n front (c ∷ text) x go_on =
      let parts = both x in
      let Q : List ℕ → Type 0 = λ w. Behind n front w in
      let R : List ℕ → Type 0 = λ f. (m : ℕ) → Behind m f ts in
      subst Q (sym (append_assoc (text_char c) (escaped_text text) ts))
      (one_char n c front (escaped_text text ++ ts) parts.0 (λ m. text_back m (front ++ c ∷ []) text parts.1 (subst R (sym (append_assoc front (c ∷ []) text)) go_on)))

-- values

value_reference : (c : ℕ) (read written left value rest : List ℕ) → StandsFor c written left → Valued 34 (read ++ c ∷ []) left value rest → Valued 34 read written value rest
value_reference c read written left value rest s go_on = let P : List ℕ → Type 0 = λ x. Valued 34 read x value rest in subst P (sym s.begins) (doc.refers s.reads go_on)

value_one : (c : ℕ) (read left value rest : List ℕ) → is_char c ≡ true → Valued 34 (read ++ c ∷ []) left value rest → Valued 34 read (value_char c ++ left) value rest
unfolding value_char
value_one c read left value rest p go_on = first (c == 38) refl
  where
    last : (b : Bool) → (c == 9 || c == 10 || c == 13 || is_control c) ≡ b → (c == 38) ≡ false → (c == 60) ≡ false → (c == 34) ≡ false → Valued 34 read (cond b (reference c) (c ∷ []) ++ left) value rest
    last true e x y z = value_reference c read _ left value rest (spaced c left e p) go_on
    last false e x y z = let P : ℕ → Type 0 = λ v. Valued 34 (read ++ v ∷ []) left value rest in doc.more (in_value c p x y z) (subst P (sym (as_itself c e)) go_on)

    third : (b : Bool) → (c == 34) ≡ b → (c == 38) ≡ false → (c == 60) ≡ false → Valued 34 read (cond b (codes "&quot;") (cond (c == 9 || c == 10 || c == 13 || is_control c) (reference c) (c ∷ [])) ++ left) value rest
    third true e x y = value_reference c read _ left value rest (quotation c left e) go_on
    third false e x y = last (c == 9 || c == 10 || c == 13 || is_control c) refl x y e

    second : (b : Bool) → (c == 60) ≡ b → (c == 38) ≡ false → Valued 34 read (cond b (codes "&lt;") (cond (c == 34) (codes "&quot;") (cond (c == 9 || c == 10 || c == 13 || is_control c) (reference c) (c ∷ []))) ++ left) value rest
    second true e x = value_reference c read _ left value rest (less c left e) go_on
    second false e x = third (c == 34) refl x e

    first : (b : Bool) → (c == 38) ≡ b → Valued 34 read (cond b (codes "&amp;") (cond (c == 60) (codes "&lt;") (cond (c == 34) (codes "&quot;") (cond (c == 9 || c == 10 || c == 13 || is_control c) (reference c) (c ∷ [])))) ++ left) value rest
    first true e = value_reference c read _ left value rest (ampersand c left e) go_on
    first false e = second (c == 60) refl e

pub value_back : (read value rest : List ℕ) → is_xml_text value ≡ true → Valued 34 read (escaped_value value ++ 34 ∷ rest) (read ++ value) rest
unfolding is_xml_text is_char
value_back read [] rest x = let P : List ℕ → Type 0 = λ v. Valued 34 read (34 ∷ rest) v rest in subst P (sym (append-nil read)) doc.whole
value_back read (c ∷ value) rest x =
    let parts = both x in
    let P : List ℕ → Type 0 = λ w. Valued 34 read w (read ++ c ∷ value) rest in
    let Q : List ℕ → Type 0 = λ v. Valued 34 (read ++ c ∷ []) (escaped_value value ++ 34 ∷ rest) v rest in
    subst P (sym (append_assoc (value_char c) (escaped_value value) (34 ∷ rest)))
    (value_one c read (escaped_value value ++ 34 ∷ rest) (read ++ c ∷ value) rest parts.0 (subst Q (append_assoc read (c ∷ []) value) (value_back (read ++ c ∷ []) value rest parts.1)))
