-- Comments and processing instructions are read back.
use Rattle.std.proofs.Common.{◌≡◌, ℕ, List, [], ◌∷◌, ◌++◌, Bool, true, false, not, cond, ◌&&◌, ◌==◌, refl, sym, subst, ◌∙◌, append_assoc, append-nil}
use Rattle.std.specs.List.{list_all}
use Rattle.std.proofs.lemmas.Bool.{and_parts, or_parts, not-true, eqb-true}
use Rattle.xt_names.specs.Allowed.{is_empty_text}
use Rattle.xt_names.specs.Classes.{is_in_ranges, xml_char_ranges, is_xml_text, is_ncname_text}
use Rattle.xt_names.specs.Marks.{has_pair, ends_with, begins_white}
use Rattle.xt_names.specs.Marks as marks
use Rattle.xt_tree.specs.declared.trees.Tree.TheVariants.{Comment, Pi}
use Rattle.xt_tree.specs.Sound.{is_sound_comment, is_sound_pi, is_xml_in_any_case}
use Rattle.doc_grammar.specs.Lexemes.{UpTo, begins_with, instruction_close, CommentText, is_target, Instruction, Misc}
use Rattle.doc_grammar.specs.Lexemes as lexemes
use Rattle.doc_grammar.proofs.CharacterFacts.{mark_name}
use Rattle.doc_writer.specs.Written.{written_comment, written_pi}
use Rattle.doc_laws.proofs.Tags.{a_blank}
use Rattle.doc_laws.proofs.Names.{ncname_back}
use Rattle.xt_names.specs.Characters.{is_space, is_char, Ends}
use Rattle.xt_names.proofs.CharacterLemmas.{space_name}

first_char : (c : ℕ) (t : List ℕ) → is_xml_text (c ∷ t) ≡ true → (is_char c ≡ true) × (is_xml_text t ≡ true)
unfolding is_xml_text is_char
first_char c t x = and_parts (is_in_ranges xml_char_ranges c) (list_all (is_in_ranges xml_char_ranges) t) x

-- comments

abbrev closing : List ℕ → List ℕ
closing rest = 45 ∷ 45 ∷ 62 ∷ rest

pub record IsComment (t : List ℕ) : Type 0 where
  pub chars : is_xml_text t ≡ true
  pub pairs : has_pair 45 45 t ≡ false
  pub last : ends_with 45 t ≡ false

ends_tail : (c : ℕ) (t : List ℕ) → ends_with 45 (c ∷ t) ≡ false → ends_with 45 t ≡ false
unfolding ends_with
ends_tail c [] e = refl
ends_tail c (d ∷ t) e = e

comment_tail : (c : ℕ) (t : List ℕ) → IsComment (c ∷ t) → IsComment t
unfolding has_pair
comment_tail c t i = record {
  chars = (first_char c t i.chars).1;
  pairs = (or_parts (c == 45 && marks.begins_with 45 t) (has_pair 45 45 t) i.pairs).1;
  last = ends_tail c t i.last;
}

no_second : (c : ℕ) (t : List ℕ) → has_pair 45 45 (45 ∷ c ∷ t) ≡ false → (c == 45) ≡ false
unfolding has_pair
no_second c t e = (or_parts (c == 45) (has_pair 45 45 (c ∷ t)) e).0

lone_dash : ends_with 45 (45 ∷ []) ≡ true
unfolding ends_with
lone_dash = refl

-- after a text, and after a text and a dash
record ReadsComment (t rest : List ℕ) : Type 0 where
  plain : (read : List ℕ) → IsComment t → CommentText read (t ++ closing rest) (read ++ t) rest
  dashed : (read : List ℕ) → IsComment (45 ∷ t) → CommentText read (45 ∷ (t ++ closing rest)) (read ++ 45 ∷ t) rest

reads_comment : (t rest : List ℕ) → ReadsComment t rest
reads_comment [] rest = record {
  plain = λ read i. (let P : List ℕ → Type 0 = λ x. CommentText read (closing rest) x rest in subst P (sym (append-nil read)) lexemes.whole);
  dashed = λ read i. (let e = lone_dash in let f = i.last in absurd (cc));
}
reads_comment (c ∷ t) rest = record { plain = λ read i. plain read i (c == 45) refl (reads_comment t rest); dashed = λ read i. dashed read i (reads_comment t rest) }
  where
    plain : (read : List ℕ) → IsComment (c ∷ t) → (b : Bool) → (c == 45) ≡ b → ReadsComment t rest → CommentText read (c ∷ (t ++ closing rest)) (read ++ c ∷ t) rest
    plain read i true e k =
        let P : ℕ → Type 0 = λ x. IsComment (x ∷ t) → CommentText read (x ∷ (t ++ closing rest)) (read ++ x ∷ t) rest in
        subst P (sym (eqb-true c 45 e)) (k.dashed read) i
    plain read i false e k =
        let P : List ℕ → Type 0 = λ x. CommentText (read ++ c ∷ []) (t ++ closing rest) x rest in
        lexemes.more (first_char c t i.chars).0 e (subst P (append_assoc read (c ∷ []) t) (k.plain (read ++ c ∷ []) (comment_tail c t i)))

    dashed : (read : List ℕ) → IsComment (45 ∷ c ∷ t) → ReadsComment t rest → CommentText read (45 ∷ c ∷ (t ++ closing rest)) (read ++ 45 ∷ c ∷ t) rest
    dashed read i k =
        let one = comment_tail 45 (c ∷ t) i in
        let P : List ℕ → Type 0 = λ x. CommentText (read ++ 45 ∷ c ∷ []) (t ++ closing rest) x rest in
        lexemes.dash (first_char c t one.chars).0 (no_second c t i.pairs) (subst P (append_assoc read (45 ∷ c ∷ []) t) (k.plain (read ++ 45 ∷ c ∷ []) (comment_tail c t one)))

pub comment_parts : (t : List ℕ) → is_sound_comment t ≡ true → IsComment t
unfolding is_sound_comment
comment_parts t s =
    let a = and_parts (is_xml_text t && not (has_pair 45 45 t)) (not (ends_with 45 t)) s in
    let b = and_parts (is_xml_text t) (not (has_pair 45 45 t)) a.0 in
    record { chars = b.0; pairs = not-true (has_pair 45 45 t) b.1; last = not-true (ends_with 45 t) a.1 }

pub comment_back : (t rest : List ℕ) → is_sound_comment t ≡ true → Misc (written_comment t ++ rest) (Comment t) rest
unfolding written_comment
comment_back t rest s =
    let P : List ℕ → Type 0 = λ x. Misc x (Comment t) rest in
    subst P (sym (append_assoc (60 ∷ 33 ∷ 45 ∷ 45 ∷ t) (45 ∷ 45 ∷ 62 ∷ []) rest)) (lexemes.comment ((reads_comment t rest).plain [] (comment_parts t s)))

-- processing instructions

abbrev ending : List ℕ → List ℕ
ending rest = 63 ∷ 62 ∷ rest

no_close : (c : ℕ) (t rest : List ℕ) → has_pair 63 62 (c ∷ t) ≡ false → begins_with instruction_close (c ∷ (t ++ ending rest)) ≡ false
unfolding has_pair
no_close c [] rest h = go (c == 63) where
  go : (b : Bool) → (b && false) ≡ false
  go true = refl
  go false = refl
no_close c (d ∷ t) rest h = go (c == 63) (d == 62) (or_parts (c == 63 && d == 62) (has_pair 63 62 (d ∷ t)) h).0 where
  go : (a b : Bool) → (a && b) ≡ false → (a && (b && true)) ≡ false
  go true true e = e
  go true false e = refl
  go false b e = refl

pair_tail : (c : ℕ) (t : List ℕ) → has_pair 63 62 (c ∷ t) ≡ false → has_pair 63 62 t ≡ false
unfolding has_pair
pair_tail c t h = (or_parts (c == 63 && marks.begins_with 62 t) (has_pair 63 62 t) h).1

data_back : (read t rest : List ℕ) → is_xml_text t ≡ true → has_pair 63 62 t ≡ false → UpTo instruction_close read (t ++ ending rest) (read ++ t) rest
data_back read [] rest x h = let P : List ℕ → Type 0 = λ y. UpTo instruction_close read (ending rest) y rest in subst P (sym (append-nil read)) (lexemes.whole refl)
data_back read (c ∷ t) rest x h =
    let parts = first_char c t x in
    let P : List ℕ → Type 0 = λ y. UpTo instruction_close (read ++ c ∷ []) (t ++ ending rest) y rest in
    lexemes.more parts.0 (no_close c t rest h) (subst P (append_assoc read (c ∷ []) t) (data_back (read ++ c ∷ []) t rest parts.1 (pair_tail c t h)))

-- the parts of what is sound
pub record IsInstruction (target t : List ℕ) : Type 0 where
  pub name : is_ncname_text target ≡ true
  pub is_one : is_target target ≡ true
  pub chars : is_xml_text t ≡ true
  pub pairs : has_pair 63 62 t ≡ false
  pub white : begins_white t ≡ false

pub instruction_parts : (target t : List ℕ) → is_sound_pi target t ≡ true → IsInstruction target t
unfolding is_sound_pi is_target
instruction_parts target t s =
    let a = and_parts (((is_ncname_text target && not (is_xml_in_any_case target)) && is_xml_text t) && not (has_pair 63 62 t)) (not (begins_white t)) s in
    let b = and_parts ((is_ncname_text target && not (is_xml_in_any_case target)) && is_xml_text t) (not (has_pair 63 62 t)) a.0 in
    let d = and_parts (is_ncname_text target && not (is_xml_in_any_case target)) (is_xml_text t) b.0 in
    let e = and_parts (is_ncname_text target) (not (is_xml_in_any_case target)) d.0 in
    record { name = e.0; is_one = e.1; chars = d.1; pairs = not-true (has_pair 63 62 t) b.1; white = not-true (begins_white t) a.1 }

no_white : (c : ℕ) (t : List ℕ) → begins_white (c ∷ t) ≡ false → is_space c ≡ false
unfolding begins_white is_space
no_white c t e = e

instruction_back : (target t rest : List ℕ) → IsInstruction target t → Misc (60 ∷ 63 ∷ (target ++ (cond (is_empty_text t) [] (32 ∷ t) ++ ending rest))) (Pi target t) rest
unfolding is_empty_text
instruction_back target [] rest i = lexemes.instruction (lexemes.bare (ncname_back target (ending rest) i.name mark_name) i.is_one)
instruction_back target (c ∷ t) rest i =
    lexemes.instruction (lexemes.with_text (ncname_back target (32 ∷ ((c ∷ t) ++ ending rest)) i.name (space_name 32 a_blank)) i.is_one a_blank lexemes.no_space (no_white c t i.white) (data_back [] (c ∷ t) rest i.chars i.pairs))

pub pi_back : (target t rest : List ℕ) → is_sound_pi target t ≡ true → Misc (written_pi target t ++ rest) (Pi target t) rest
unfolding written_pi
pi_back target t rest s =
    let P : List ℕ → Type 0 = λ x. Misc x (Pi target t) rest in
    let more : List ℕ = cond (is_empty_text t) [] (32 ∷ t) in
    let e : written_pi target t ++ rest ≡ 60 ∷ 63 ∷ (target ++ (more ++ ending rest)) = append_assoc ((60 ∷ 63 ∷ target) ++ more) (63 ∷ 62 ∷ []) rest ∙ append_assoc (60 ∷ 63 ∷ target) more (ending rest) in
    subst P (sym e) (instruction_back target t rest (instruction_parts target t s))
