-- A written name is read back with its prefix.
use Rattle.std.proofs.Common.{◌≡◌, ℕ, List, [], ◌∷◌, ◌++◌, Bool, true, ◌||◌, refl, sym, subst, ◌∙◌, append_assoc, append-nil}
use Rattle.std.specs.List.{list_all}
use Rattle.std.proofs.lemmas.Bool.{and_parts}
use Rattle.xt_names.specs.Allowed.{is_empty_text}
use Rattle.xt_names.specs.Classes.{is_in_ranges, ncname_char_ranges, begins_name, is_ncname_text}
use Rattle.doc_grammar.specs.Characters.{is_colon}
use Rattle.doc_grammar.specs.RawNames.{RawName, plain_name, prefixed_name, written_name}
use Rattle.doc_grammar.specs.Lexemes.{Named, NCName}
use Rattle.doc_grammar.specs.Lexemes as lexemes
use Rattle.doc_grammar.specs.Document.{QName}
use Rattle.doc_grammar.specs.Document as doc
use Rattle.doc_grammar.proofs.CharacterFacts.{both}
use Rattle.doc_writer.specs.Written.{qualified}
use Rattle.xt_names.specs.Characters.{starts_name, is_name_char, Ends}
use Rattle.xt_names.proofs.CharacterLemmas.{colon_name}

-- no character of a name comes first, and no colon
pub record Stops (rest : List ℕ) : Type 0 where
  pub no_name : Ends is_name_char rest
  pub no_colon : Ends is_colon rest

named_back : (read name rest : List ℕ) → list_all is_name_char name ≡ true → Ends is_name_char rest → Named read (name ++ rest) (read ++ name) rest
named_back read [] rest a e = let P : List ℕ → Type 0 = λ x. Named read rest x rest in subst P (sym (append-nil read)) (lexemes.whole e)
named_back read (c ∷ name) rest a e =
    let parts = both a in
    let P : List ℕ → Type 0 = λ x. Named (read ++ c ∷ []) (name ++ rest) x rest in
    lexemes.more parts.0 (subst P (append_assoc read (c ∷ []) name) (named_back (read ++ c ∷ []) name rest parts.1 e))

chars_of_name : (name : List ℕ) → list_all (is_in_ranges ncname_char_ranges) name ≡ true → list_all is_name_char name ≡ true
unfolding is_name_char
chars_of_name [] a = refl
chars_of_name (c ∷ name) a =
    let parts = and_parts (is_in_ranges ncname_char_ranges c) (list_all (is_in_ranges ncname_char_ranges) name) a in
    let more = chars_of_name name parts.1 in rw (parts.0, more) refl

pub ncname_back : (name rest : List ℕ) → is_ncname_text name ≡ true → Ends is_name_char rest → NCName (name ++ rest) name rest
unfolding is_ncname_text begins_name starts_name
ncname_back [] rest n e = absurd (cc)
ncname_back (c ∷ name) rest n e =
    let parts = both n in
    lexemes.ncname parts.0 (named_back (c ∷ []) name rest (both (chars_of_name (c ∷ name) parts.1)).1 e)

-- a name as it is written; the empty prefix is none
abbrev pub raw_name : List ℕ → List ℕ → RawName
raw_name [] local = plain_name local
raw_name (c ∷ cs) local = prefixed_name (c ∷ cs) local

-- a prefix that may be written
abbrev pub is_prefix : List ℕ → Bool
is_prefix prefix = is_empty_text prefix || is_ncname_text prefix

pub qname_back : (prefix local rest : List ℕ) → is_prefix prefix ≡ true → is_ncname_text local ≡ true → Stops rest → QName (qualified prefix local ++ rest) (raw_name prefix local) rest
unfolding qualified is_empty_text
qname_back [] local rest p n s = doc.plain (ncname_back local rest n s.no_name) s.no_colon
qname_back (c ∷ cs) local rest p n s =
    let P : List ℕ → Type 0 = λ x. QName x (prefixed_name (c ∷ cs) local) rest in
    let e = append_assoc ((c ∷ cs) ++ (58 ∷ [])) local rest ∙ append_assoc (c ∷ cs) (58 ∷ []) (local ++ rest) in
    subst P (sym e) (doc.prefixed (ncname_back (c ∷ cs) (58 ∷ (local ++ rest)) p colon_name) (ncname_back local rest n s.no_name))

-- and written in the end tag
pub raw_written : (prefix local : List ℕ) → written_name (raw_name prefix local) ≡ qualified prefix local
unfolding qualified is_empty_text
raw_written [] local = refl
raw_written (c ∷ cs) local = sym (append_assoc (c ∷ cs) (58 ∷ []) local)
