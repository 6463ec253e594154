-- The texts that lexemes give are sound, and no longer than what they are read from.
use Rattle.std.proofs.Common.{◌≡◌, ℕ, List, [], ◌∷◌, ◌++◌, refl, ◌∙◌, subst, Bool, true, false, ◌&&◌, ◌==◌, cond, append_assoc}
use Rattle.std.proofs.lemmas.List.Folds.{list_all-append}
use Rattle.xt_names.specs.Classes.{is_in_ranges, xml_char_ranges, is_xml_text, begins_name, is_ncname_text}
use Rattle.xt_names.specs.Marks.{has_pair, ends_with, begins_white}
use Rattle.xt_names.specs.Marks as marks
use Rattle.xt_names.proofs.MarkLemmas.{ends_with-push, has_pair-push}
use Rattle.xt_tree.specs.Sound.{is_sound_comment, is_sound_pi}
use Rattle.doc_grammar.specs.Characters.{is_text, is_value, as_value, may_stand}
use Rattle.doc_grammar.specs.Lexemes.{Spaces, Named, NCName, Digits, Reference, UpTo, begins_with, section_close, instruction_close, CommentText, is_target, Instruction}
use Rattle.doc_grammar.specs.Lexemes as lexemes
use Rattle.doc_grammar.proofs.CharacterFacts.{both, dash_char}
use Rattle.xt_names.proofs.ClassLemmas.{no_text}
use Rattle.xt_names.specs.Characters.{is_space, is_char, starts_name, is_name_char, Ends}
use Rattle.xt_names.proofs.CharacterLemmas.{name_starts}
use Rattle.std.proofs.Math.Bool.{and-false}

-- texts of characters

pub xml_push : (read : List ℕ) (c : ℕ) → is_xml_text read ≡ true → is_char c ≡ true → is_xml_text (read ++ c ∷ []) ≡ true
unfolding is_xml_text is_char
xml_push read c a p = rw (list_all-append (is_in_ranges xml_char_ranges) read (c ∷ []), a, p) refl

pub text_char : (c : ℕ) → is_text c ≡ true → is_char c ≡ true
unfolding is_text
text_char c t = (both (both t).0).0

pub stands_char : (n c : ℕ) → may_stand n c ≡ true → is_char c ≡ true
unfolding may_stand
stands_char n c t = text_char c (both t).0

space_char : is_char 32 ≡ true
unfolding is_char is_in_ranges
space_char = refl

pub value_char : (quote c : ℕ) → is_value quote c ≡ true → is_char (as_value c) ≡ true
unfolding is_value as_value
value_char quote c v = go (is_space c) where
  go : (b : Bool) → is_char (cond b 32 c) ≡ true
  go true = space_char
  go false = text_char c (both v).0

pub reference_char : {ts rest : List ℕ} {v : ℕ} → Reference ts v rest → is_char v ≡ true
unfolding is_char is_in_ranges
reference_char lexemes.amp = refl
reference_char lexemes.lt = refl
reference_char lexemes.gt = refl
reference_char lexemes.quot = refl
reference_char lexemes.apos = refl
reference_char (lexemes.by_decimal e k i) = i
reference_char (lexemes.by_hexadecimal e k i) = i

-- names

begins_push : (read : List ℕ) (c : ℕ) → begins_name read ≡ true → begins_name (read ++ c ∷ []) ≡ true
unfolding begins_name
begins_push [] c b = absurd (cc)
begins_push (x ∷ read) c b = b

ncname_push : (read : List ℕ) (c : ℕ) → is_ncname_text read ≡ true → is_name_char c ≡ true → is_ncname_text (read ++ c ∷ []) ≡ true
unfolding is_ncname_text is_name_char
ncname_push read c a p =
    let h = both a in
    rw (begins_push read c h.0, list_all-append (is_in_ranges _) read (c ∷ []), h.1, p) refl

named_text : {read ts name rest : List ℕ} → Named read ts name rest → is_ncname_text read ≡ true → is_ncname_text name ≡ true
named_text {read = read} (lexemes.more {c = c} p k) a = named_text k (ncname_push read c a p)
named_text (lexemes.whole e) a = a

one_name : (c : ℕ) → starts_name c ≡ true → is_name_char c ≡ true → is_ncname_text (c ∷ []) ≡ true
unfolding is_ncname_text begins_name starts_name is_name_char
one_name c s n = rw (s, n) refl

pub ncname_text : {ts name rest : List ℕ} → NCName ts name rest → is_ncname_text name ≡ true
ncname_text (lexemes.ncname {c = c} s k) = named_text k (one_name c s (name_starts c s))

-- comments

record IsCommentFront (read : List ℕ) : Type 0 where
  chars : is_xml_text read ≡ true
  pairs : has_pair 45 45 read ≡ false
  last : ends_with 45 read ≡ false

comment_push : (read : List ℕ) (c : ℕ) → IsCommentFront read → is_char c ≡ true → (c == 45) ≡ false → IsCommentFront (read ++ c ∷ [])
comment_push read c f p d = record {
  chars = xml_push read c f.chars p;
  pairs = rw (has_pair-push 45 45 read c, f.pairs, f.last) refl;
  last = ends_with-push 45 read c ∙ d;
}

dash_push : (read : List ℕ) (c : ℕ) → IsCommentFront read → is_char c ≡ true → (c == 45) ≡ false → IsCommentFront (read ++ 45 ∷ c ∷ [])
dash_push read c f p d =
    let pairs : has_pair 45 45 (read ++ 45 ∷ []) ≡ false = rw (has_pair-push 45 45 read 45, f.pairs, f.last) refl in
    let last : has_pair 45 45 ((read ++ 45 ∷ []) ++ c ∷ []) ≡ false = rw (has_pair-push 45 45 (read ++ 45 ∷ []) c, pairs, ends_with-push 45 read 45) d in
    let P : List ℕ → Type 0 = λ x. IsCommentFront x in
    subst P (append_assoc read (45 ∷ []) (c ∷ [])) (record {
      chars = xml_push (read ++ 45 ∷ []) c (xml_push read 45 f.chars dash_char) p;
      pairs = last;
      last = ends_with-push 45 (read ++ 45 ∷ []) c ∙ d;
    })

comment_front : {read ts text rest : List ℕ} → CommentText read ts text rest → IsCommentFront read → IsCommentFront text
comment_front {read = read} (lexemes.more {c = c} p d k) f = comment_front k (comment_push read c f p d)
comment_front {read = read} (lexemes.dash {c = c} p d k) f = comment_front k (dash_push read c f p d)
comment_front lexemes.whole f = f

no_comment : IsCommentFront []
unfolding is_xml_text has_pair ends_with
no_comment = record { chars = refl; pairs = refl; last = refl }

sound_front : (text : List ℕ) → IsCommentFront text → is_sound_comment text ≡ true
unfolding is_sound_comment
sound_front text f = rw (f.chars, f.pairs, f.last) refl

pub comment_sound : {ts text rest : List ℕ} → CommentText [] ts text rest → is_sound_comment text ≡ true
comment_sound {text = text} k = sound_front text (comment_front k no_comment)

-- texts up to what closes them

pub upto_chars : {close read ts text rest : List ℕ} → UpTo close read ts text rest → is_xml_text read ≡ true → is_xml_text text ≡ true
upto_chars {read = read} (lexemes.more {c = c} p b k) a = upto_chars k (xml_push read c a p)
upto_chars (lexemes.whole e) a = a

-- instructions

and_true : (a b : Bool) → (a && (b && true)) ≡ false → (a && b) ≡ false
and_true true true e = e
and_true true false e = refl
and_true false b e = refl

-- no `?>` in a text that has none so far
pair_push : (read : List ℕ) (c : ℕ) (ts : List ℕ) → has_pair 63 62 read ≡ false → (ends_with 63 read && c == 62) ≡ false → has_pair 63 62 (read ++ c ∷ []) ≡ false
pair_push read c ts h e = rw (has_pair-push 63 62 read c, h) e

next_mark : (read : List ℕ) (c : ℕ) (ts : List ℕ) → begins_with instruction_close (c ∷ ts) ≡ false → (ends_with 63 (read ++ c ∷ []) && marks.begins_with 62 ts) ≡ false
next_mark read c [] b = rw (ends_with-push 63 read c) (and-false (c == 63))
next_mark read c (d ∷ ts) b = rw (ends_with-push 63 read c) (and_true (c == 63) (d == 62) b)

pair_none : {read ts text rest : List ℕ} → UpTo instruction_close read ts text rest → has_pair 63 62 read ≡ false → (ends_with 63 read && marks.begins_with 62 ts) ≡ false → has_pair 63 62 text ≡ false
pair_none {read = read} (lexemes.more {c = c} {ts = ts} p b k) h e = pair_none k (pair_push read c ts h e) (next_mark read c ts b)
pair_none (lexemes.whole e) h n = h

-- what a text begins with
white_kept : {close xs ts text rest : List ℕ} {x : ℕ} → UpTo close (x ∷ xs) ts text rest → begins_white (x ∷ xs) ≡ false → begins_white text ≡ false
unfolding begins_white
white_kept (lexemes.more p b k) h = white_kept k h
white_kept (lexemes.whole e) h = h

white_first : (c : ℕ) → is_space c ≡ false → begins_white (c ∷ []) ≡ false
unfolding begins_white is_space
white_first c s = s

white_none : begins_white [] ≡ false
unfolding begins_white
white_none = refl

pub white_begin : {close ts text rest : List ℕ} → UpTo close [] ts text rest → Ends is_space ts → begins_white text ≡ false
white_begin (lexemes.more {c = c} p b k) s = white_kept k (white_first c s)
white_begin (lexemes.whole e) s = white_none

no_pair : has_pair 63 62 [] ≡ false
unfolding has_pair
no_pair = refl

no_end : ends_with 63 [] ≡ false
unfolding ends_with
no_end = refl

sound_parts : (target text : List ℕ) → is_ncname_text target ≡ true → is_target target ≡ true → is_xml_text text ≡ true → has_pair 63 62 text ≡ false → begins_white text ≡ false → is_sound_pi target text ≡ true
unfolding is_sound_pi is_target
sound_parts target text n i x p w = rw (n, i, x, p, w) refl

pub instruction_sound : {ts target text rest : List ℕ} → Instruction ts target text rest → is_sound_pi target text ≡ true
instruction_sound {target = target} (lexemes.bare n i) = sound_parts target [] (ncname_text n) i no_text no_pair white_none
instruction_sound {target = target} {text = text} (lexemes.with_text {start = start} n i s k e u) =
    sound_parts target text (ncname_text n) i (upto_chars u no_text) (pair_none u no_pair (rw no_end refl)) (white_begin u e)
