-- What completes the parts of a document that are begun.
use Rattle.std.proofs.Common.{◌≡◌, ℕ, List, [], ◌∷◌, ◌++◌, refl, arith, Bool, true, false, not, Some, None, codes, append_assoc, eq-eqb}
use Rattle.std.specs.Str.{bytes_eq, str_to_ascii_lowercase}
use Rattle.std.proofs.lemmas.Slice.Eq.{bytes_eq-Decides}
use Rattle.xt_names.specs.Classes.{is_in_ranges}
use Rattle.xt_names.specs.declared.names.Binding.{Binding}
use Rattle.xt_tree.specs.Sound.{is_xml_in_any_case}
use Rattle.xt_tree.specs.TreeView.{forest_of}
use Rattle.xt_tree.specs.declared.trees.Tree.{Tree}
use Rattle.xt_tree.specs.declared.trees.Tree.TheVariants.{Doc, Comment, Pi}
use Rattle.doc_grammar.specs.Characters.{digit, is_colon}
use Rattle.doc_grammar.specs.RawNames.{RawName, plain_name, prefixed_name, written_name, RawTag, tag_named}
use Rattle.doc_grammar.specs.Scopes.{Opened, opened, top_scope}
use Rattle.doc_grammar.specs.Skeleton.{anyhow, or_unbound}
use Rattle.doc_grammar.specs.Lexemes.{is_target, Reference, section_close, instruction_close}
use Rattle.doc_grammar.specs.Lexemes as lexemes
use Rattle.doc_grammar.specs.Document.{limit, Rules, QName, EndTag, element_of, text_nodes, Element, blank, fresh, typed, rooted, Top}
use Rattle.doc_grammar.specs.Document as doc
use Rattle.doc_grammar.specs.Lexing.{Ref, ampersand, letter_a, spelling, hash, hash_x, number, Lex, dash, comment, comment_dash, comment_dashes, section_open, section, section_bracket, section_brackets, target_mark, target_space, instruction, instruction_mark}
use Rattle.doc_grammar.specs.Machine.{Stack, ground, element, NameState, reading, coloned, with_text, with_child, with_aside}
use Rattle.doc_grammar.proofs.CharacterFacts.{mark_space, a_starts, slash_name}
use Rattle.doc_grammar.proofs.Residue.{Inside, top, topped}
use Rattle.doc_grammar.proofs.Residue as residue
use Rattle.doc_grammar.proofs.LexRests.{Letters, last_letter, a_letter, RefRest, Made, node, said, Opening, LexRest}
use Rattle.doc_grammar.proofs.LexRests as lex
use Rattle.doc_grammar.proofs.Rests.{NameRest, plain, local, colon, Then}
use Rattle.doc_grammar.proofs.Live.{IsSome, IsLiveRef, IsLiveLex}
use Rattle.doc_grammar.proofs.NumberLemmas as numbers
use Rattle.xt_names.specs.Characters.{is_char, is_name_char, Ends}
use Rattle.xt_names.proofs.BoolLemmas.{no}

-- what is opened anyhow
pub gives : (scope : List Binding) (t : RawTag) → anyhow scope t ≡ Some (or_unbound scope t (opened scope t))
unfolding anyhow
gives scope t = refl

-- content

-- what completes the stack after a text
pub record Completes (n : ℕ) (text : List ℕ) (st : Stack) : Type 0 where
  pub ts : List ℕ
  pub w : Tree
  pub inside : Inside anyhow w n text st ts

pub end_spelled : (left rest : List ℕ) → EndTag left (left ++ 62 ∷ rest) rest
end_spelled [] rest = doc.closing lexemes.no_space
end_spelled (c ∷ left) rest = doc.same (end_spelled left rest)

-- an end tag for each element that is open
pub finishing : (st : Stack) (n : Tree) → Completes 0 [] (with_child n st)
finishing (ground l kids ds) n = record { ts = []; w = Doc (forest_of (kids ++ n ∷ [])); inside = top doc.ends }
finishing (element name o kids st) n =
    let f = finishing st (element_of o ((kids ++ n ∷ []) ++ [])) in
    record { ts = 60 ∷ 47 ∷ (written_name name ++ 62 ∷ f.ts); w = f.w; inside = residue.ends (end_spelled (written_name name) f.ts) f.inside }

-- `a/>`, and what it opens
abbrev root : Opened
root = or_unbound top_scope (tag_named (plain_name (97 ∷ []))) (opened top_scope (tag_named (plain_name (97 ∷ []))))

pub root_name : {rest : List ℕ} → QName (97 ∷ 47 ∷ rest) (plain_name (97 ∷ [])) (47 ∷ rest)
root_name = doc.plain (lexemes.ncname a_starts (lexemes.whole slash_name)) refl

empty_root : {rest : List ℕ} → Element anyhow 0 top_scope (60 ∷ 97 ∷ 47 ∷ 62 ∷ rest) (element_of root []) rest
empty_root = doc.empty (omega arith) root_name (doc.none doc.slash) (gives top_scope (tag_named (plain_name (97 ∷ []))))

rooting : (n : ℕ) (text : List ℕ) (l : _) (kids : List Tree) (ds : List (List Binding)) → doc.may_root l ≡ true → Completes n text (ground l kids ds)
rooting n text l kids ds m =
    record { ts = 60 ∷ 97 ∷ 47 ∷ 62 ∷ []; w = Doc (forest_of (kids ++ element_of root [] ∷ [])); inside = top (doc.root m empty_root doc.ends) }

pub completing : (n : ℕ) (text : List ℕ) (st : Stack) → Completes n text st
completing n text (ground blank kids ds) = rooting n text blank kids ds refl
completing n text (ground fresh kids ds) = rooting n text fresh kids ds refl
completing n text (ground typed kids ds) = rooting n text typed kids ds refl
completing n text (ground rooted kids ds) = record { ts = []; w = Doc (forest_of kids); inside = top doc.ends }
completing n text (element name o kids st) =
    let f = finishing st (element_of o (kids ++ text_nodes text)) in
    record { ts = 60 ∷ 47 ∷ (written_name name ++ 62 ∷ f.ts); w = f.w; inside = residue.ends (end_spelled (written_name name) f.ts) f.inside }

pub record CompletesThen (text : List ℕ) (st : Stack) (m : Made) : Type 0 where
  pub ts : List ℕ
  pub w : Tree
  pub behind : Then anyhow w text st m ts

pub then_completes : (text : List ℕ) (st : Stack) (m : Made) → CompletesThen text st m
then_completes text st (node n) = let k = completing 0 [] (with_aside n (with_text text st)) in record { ts = k.ts; w = k.w; behind = k.inside }
then_completes text st (said words) = let k = completing 0 (text ++ words) st in record { ts = k.ts; w = k.w; behind = k.inside }

-- references

pub record CompletesRef (r : Ref) : Type 0 where
  pub letters : List ℕ
  pub value : ℕ
  pub spelled : (rest : List ℕ) → RefRest r (letters ++ rest) value rest

spelling_left : (left : List ℕ) (v : ℕ) → IsSome left → (rest : List ℕ) → Letters v left (left ++ rest) v rest
spelling_left [] v h rest = absurd h
spelling_left (d ∷ []) v h rest = last_letter
spelling_left (d ∷ e ∷ left) v h rest = a_letter (spelling_left (e ∷ left) v tt rest)

some_char : is_char 65 ≡ true
unfolding is_char is_in_ranges
some_char = refl

-- `6` and `5`, or `4` and `1`
by_decimal : (rest : List ℕ) → Reference (35 ∷ 54 ∷ 53 ∷ 59 ∷ rest) 65 rest
unfolding digit
by_decimal rest = lexemes.by_decimal refl (lexemes.more refl lexemes.whole) some_char

by_hexadecimal : (rest : List ℕ) → Reference (35 ∷ 120 ∷ 52 ∷ 49 ∷ 59 ∷ rest) 65 rest
unfolding digit
by_hexadecimal rest = lexemes.by_hexadecimal refl (lexemes.more refl lexemes.whole) some_char

pub ref_completes : (r : Ref) → IsLiveRef r → CompletesRef r
ref_completes ampersand l = record { letters = 108 ∷ 116 ∷ 59 ∷ []; value = 60; spelled = λ rest. lexemes.lt }
ref_completes letter_a l = record { letters = 109 ∷ 112 ∷ 59 ∷ []; value = 38; spelled = λ rest. lexemes.amp }
ref_completes (spelling left v) l = record { letters = left; value = v; spelled = λ rest. spelling_left left v l rest }
ref_completes hash l = record { letters = 54 ∷ 53 ∷ 59 ∷ []; value = 65; spelled = by_decimal }
ref_completes hash_x l = record { letters = 52 ∷ 49 ∷ 59 ∷ []; value = 65; spelled = by_hexadecimal }
ref_completes (number b n) l = let k = numbers.completes b n l in record { letters = k.digits; value = k.value; spelled = λ rest. (k.spelled rest, k.char) }

-- comments, instructions and sections

pub record CompletesLex (l : Lex) : Type 0 where
  pub letters : List ℕ
  pub made : Made
  pub spelled : (rest : List ℕ) → LexRest l (letters ++ rest) made rest

opening_left : (left : List ℕ) → IsSome left → (rest : List ℕ) → Opening left (left ++ 93 ∷ 93 ∷ 62 ∷ rest) [] rest
opening_left [] h rest = absurd h
opening_left (d ∷ []) h rest = lex.last_letter (lexemes.whole refl)
opening_left (d ∷ e ∷ left) h rest = lex.a_letter (opening_left (e ∷ left) tt rest)

open_left : (left : List ℕ) → IsSome left → (rest : List ℕ) → LexRest (section_open left) ((left ++ 93 ∷ 93 ∷ 62 ∷ []) ++ rest) (said []) rest
open_left left h rest = rw (append_assoc left (93 ∷ 93 ∷ 62 ∷ []) rest) (lex.in_section_open (opening_left left h rest))

pub lex_completes : (l : Lex) → IsLiveLex l → CompletesLex l
lex_completes dash l = record { letters = 45 ∷ 45 ∷ 45 ∷ 62 ∷ []; made = node (Comment []); spelled = λ rest. lex.in_dash lexemes.whole }
lex_completes (comment read) l = record { letters = 45 ∷ 45 ∷ 62 ∷ []; made = node (Comment read); spelled = λ rest. lex.in_comment lexemes.whole }
lex_completes (comment_dash read) l = record { letters = 45 ∷ 62 ∷ []; made = node (Comment read); spelled = λ rest. lex.in_comment_dash lexemes.whole }
lex_completes (comment_dashes read) l = record { letters = 62 ∷ []; made = node (Comment read); spelled = λ rest. lex.in_comment_dashes lexemes.whole }
lex_completes (section_open left) l = record { letters = left ++ 93 ∷ 93 ∷ 62 ∷ []; made = said []; spelled = λ rest. open_left left l rest }
lex_completes (section read) l = record { letters = 93 ∷ 93 ∷ 62 ∷ []; made = said read; spelled = λ rest. lex.in_section (lexemes.whole refl) }
lex_completes (section_bracket read) l = record { letters = 93 ∷ 62 ∷ []; made = said read; spelled = λ rest. lex.in_section_bracket (lexemes.whole refl) }
lex_completes (section_brackets read) l = record { letters = 62 ∷ []; made = said read; spelled = λ rest. lex.in_section_brackets (lexemes.whole refl) }
lex_completes (target_mark target) l = record { letters = 62 ∷ []; made = node (Pi target []); spelled = λ rest. lex.in_target_mark }
lex_completes (target_space target) l = record { letters = 63 ∷ 62 ∷ []; made = node (Pi target []); spelled = λ rest. lex.in_target_space lexemes.no_space mark_space (lexemes.whole refl) }
lex_completes (instruction target read) l = record { letters = 63 ∷ 62 ∷ []; made = node (Pi target read); spelled = λ rest. lex.in_instruction (lexemes.whole refl) }
lex_completes (instruction_mark target read) l = record { letters = 62 ∷ []; made = node (Pi target read); spelled = λ rest. lex.in_instruction_mark (lexemes.whole refl) }

-- a target and a letter more are a target
longer : (a b c d : ℕ) (ds : List ℕ) → a ∷ b ∷ c ∷ d ∷ ds ≡ codes "xml" → ⊥
longer a b c d ds e = cc

third_same : {a b c d e f : ℕ} → a ∷ b ∷ c ∷ [] ≡ d ∷ e ∷ f ∷ [] → c ≡ f
third_same e = cc

lowered_end : (read : List ℕ) → str_to_ascii_lowercase (read ++ 97 ∷ []) ≡ codes "xml" → ⊥
lowered_end [] e = cc
lowered_end (a ∷ []) e = cc
lowered_end (a ∷ b ∷ []) e = no (eq-eqb 97 108 (third_same e)) refl
lowered_end (a ∷ b ∷ c ∷ []) e = longer _ _ _ _ _ e
lowered_end (a ∷ b ∷ c ∷ d ∷ read) e = longer _ _ _ _ _ e

pub target_letter : (read : List ℕ) → is_target (read ++ 97 ∷ []) ≡ true
unfolding is_target is_xml_in_any_case
target_letter read = go (bytes_eq (str_to_ascii_lowercase (read ++ 97 ∷ [])) (codes "xml")) refl where
  go : (b : Bool) → bytes_eq (str_to_ascii_lowercase (read ++ 97 ∷ [])) (codes "xml") ≡ b → not b ≡ true
  go true e = absurd (lowered_end read ((bytes_eq-Decides (str_to_ascii_lowercase (read ++ 97 ∷ [])) (codes "xml")).0 e))
  go false e = refl

-- names

pub record CompletesName (n : NameState) : Type 0 where
  pub letters : List ℕ
  pub name : RawName
  pub spelled : (c : ℕ) (rest : List ℕ) → is_name_char c ≡ false → is_colon c ≡ false → NameRest n (letters ++ c ∷ rest) name (c ∷ rest)

pub name_completes : (n : NameState) → CompletesName n
name_completes (reading None read) = record { letters = []; name = plain_name read; spelled = λ c rest p x. plain (lexemes.whole p) x }
name_completes (reading (Some prefix) read) = record { letters = []; name = prefixed_name prefix read; spelled = λ c rest p x. local (lexemes.whole p) }
name_completes (coloned prefix) = record { letters = 97 ∷ []; name = prefixed_name prefix (97 ∷ []); spelled = λ c rest p x. colon (lexemes.ncname a_starts (lexemes.whole p)) }
