-- Each state that is reached begins a skeleton: what completes it.
use Rattle.std.proofs.Common.{ℕ, List, [], ◌∷◌, ◌++◌, refl}
use Rattle.xt_tree.specs.declared.trees.Tree.{Tree}
use Rattle.xt_tree.specs.declared.trees.Tree.TheVariants.{Comment, Pi}
use Rattle.doc_grammar.specs.RawNames.{RawName, RawTag, with_attribute, tag_named}
use Rattle.doc_grammar.specs.Scopes.{opened}
use Rattle.doc_grammar.specs.Skeleton.{anyhow, or_unbound}
use Rattle.doc_grammar.specs.Lexemes as lexemes
use Rattle.doc_grammar.specs.Document.{element_of}
use Rattle.doc_grammar.specs.Document as doc
use Rattle.doc_grammar.specs.Machine.{Stack, ground, element, State, content, refers, tag, bang, question, targeting, marked, forming, naming, tagged, spaced, attribute, equals, assigned, valued, value_refers, slashed, ending, ended, scope_of, with_text, with_aside}
use Rattle.doc_grammar.proofs.CharacterFacts.{mark_name, slash_name, equals_name, a_starts, a_name, double_quote}
use Rattle.doc_grammar.proofs.FormLemmas as forms
use Rattle.doc_grammar.proofs.Residue.{aside_placed}
use Rattle.doc_grammar.proofs.Rests.{Opening, closes, bare, instruction, in_ending, in_ended, at_quote, Rest}
use Rattle.doc_grammar.proofs.Live.{IsLive, IsElement}
use Rattle.doc_grammar.proofs.Completions.{gives, finishing, completing, then_completes, end_spelled, ref_completes, lex_completes, target_letter, name_completes}

-- what completes a state
pub record Completed (s : State) : Type 0 where
  pub ts : List ℕ
  pub w : Tree
  pub rest : Rest anyhow w s ts

-- `>` after a slash
record CompletesTag (t : RawTag) (st : Stack) : Type 0 where
  ts : List ℕ
  w : Tree
  opening : Opening anyhow w t st (47 ∷ 62 ∷ ts)

tag_completes : (t : RawTag) (st : Stack) → CompletesTag t st
tag_completes t st =
    let k = finishing st (element_of (or_unbound (scope_of st) t (opened (scope_of st) t)) []) in
    record { ts = k.ts; w = k.w; opening = closes (gives (scope_of st) t) k.inside }

in_tag : (t : RawTag) (st : Stack) → Completed (tagged t st)
in_tag t st =
    let k = tag_completes t st in
    record { ts = 47 ∷ 62 ∷ k.ts; w = k.w; rest = record { whole = t; rest = 47 ∷ 62 ∷ k.ts; attributes = doc.none doc.slash; opening = k.opening } }

in_value : (t : RawTag) (name : RawName) (quote : ℕ) (read : List ℕ) (st : Stack) → Completed (valued t name quote read st)
in_value t name quote read st =
    let k = in_tag (with_attribute t name read) st in
    record { ts = quote ∷ k.ts; w = k.w; rest = record { value = read; after = k.ts; valued = at_quote; behind = k.rest } }

in_assigned : (t : RawTag) (name : RawName) (st : Stack) → Completed (assigned t name st)
in_assigned t name st =
    let k = in_value t name 34 [] st in
    record { ts = 34 ∷ k.ts; w = k.w; rest = record { quote = 34; mid = k.ts; space = lexemes.no_space; quoted = double_quote; behind = k.rest } }

in_equals : (t : RawTag) (name : RawName) (st : Stack) → Completed (equals t name st)
in_equals t name st =
    let k = in_assigned t name st in
    record { ts = 61 ∷ k.ts; w = k.w; rest = record { mid = k.ts; space = lexemes.no_space; behind = k.rest } }

-- a comment
behind_open : (text : List ℕ) (st : Stack) → Completed (tag text st)
behind_open text st =
    let k = completing 0 [] (with_aside (Comment []) (with_text text st)) in
    record { ts = 33 ∷ 45 ∷ 45 ∷ 45 ∷ 45 ∷ 62 ∷ k.ts; w = k.w; rest = aside_placed text st (lexemes.comment lexemes.whole) k.inside }

behind_bang : (text : List ℕ) (st : Stack) → Completed (bang text st)
behind_bang text st =
    let k = completing 0 [] (with_aside (Comment []) (with_text text st)) in
    record { ts = 45 ∷ 45 ∷ 45 ∷ 45 ∷ 62 ∷ k.ts; w = k.w; rest = aside_placed text st (lexemes.comment lexemes.whole) k.inside }

-- an instruction
behind_question : (text : List ℕ) (st : Stack) → Completed (question text st)
behind_question text st =
    let k = completing 0 [] (with_aside (Pi (97 ∷ []) []) (with_text text st)) in
    record { ts = 97 ∷ 63 ∷ 62 ∷ k.ts; w = k.w; rest = aside_placed text st (lexemes.instruction (lexemes.bare (lexemes.ncname a_starts (lexemes.whole mark_name)) (target_letter []))) k.inside }

in_target : (read text : List ℕ) (st : Stack) → Completed (targeting read text st)
in_target read text st =
    let k = completing 0 [] (with_aside (Pi (read ++ 97 ∷ []) []) (with_text text st)) in
    record { ts = 97 ∷ 63 ∷ 62 ∷ k.ts; w = k.w; rest = instruction (bare (lexemes.more a_name (lexemes.whole mark_name)) (target_letter read)) k.inside }

in_end_tag : (left : List ℕ) (st : Stack) → IsElement st → Completed (ending left st)
in_end_tag left (ground l kids ds) e = absurd e
in_end_tag left (element name o kids st) e =
    let k = finishing st (element_of o kids) in
    record { ts = left ++ 62 ∷ k.ts; w = k.w; rest = in_ending (end_spelled left k.ts) k.inside }

behind_end_name : (st : Stack) → IsElement st → Completed (ended st)
behind_end_name (ground l kids ds) e = absurd e
behind_end_name (element name o kids st) e =
    let k = finishing st (element_of o kids) in
    record { ts = 62 ∷ k.ts; w = k.w; rest = in_ended lexemes.no_space k.inside }

pub alive : (s : State) → IsLive s → Completed s
unfolding in_tag in_equals
alive (content n text st) l = let k = completing n text st in record { ts = k.ts; w = k.w; rest = k.inside }
alive (refers text r st) l =
    let c = ref_completes r l in
    let k = completing 0 (text ++ c.value ∷ []) st in
    record { ts = c.letters ++ k.ts; w = k.w; rest = record { stands_for = c.value; mid = k.ts; reference = c.spelled k.ts; behind = k.inside } }
alive (tag text st) l = behind_open text st
alive (bang text st) l = behind_bang text st
alive (question text st) l = behind_question text st
alive (targeting read text st) l = in_target read text st
alive (marked x text st) l =
    let c = lex_completes x l in
    let k = then_completes text st c.made in
    record { ts = c.letters ++ k.ts; w = k.w; rest = record { made = c.made; mid = k.ts; lex = c.spelled k.ts; behind = k.behind } }
alive (forming f st) l =
    let k = completing 0 [] st in
    record { ts = forms.first f ∷ (forms.others f ++ k.ts); w = k.w; rest = record { mid = k.ts; form = forms.completes f k.ts l; behind = k.inside } }
alive (naming n st) l =
    let c = name_completes n in
    let k = in_tag (tag_named c.name) st in
    record { ts = c.letters ++ k.ts; w = k.w; rest = record { name = c.name; mid = k.ts; named = c.spelled 47 _ slash_name refl; behind = k.rest } }
alive (tagged t st) l = in_tag t st
alive (spaced t st) l =
    let k = tag_completes t st in
    record { ts = 47 ∷ 62 ∷ k.ts; w = k.w; rest = record { whole = t; rest = 47 ∷ 62 ∷ k.ts; attributes = doc.no_more doc.slash; opening = k.opening } }
alive (attribute t n st) l =
    let c = name_completes n in
    let k = in_equals t c.name st in
    record { ts = c.letters ++ k.ts; w = k.w; rest = record { name = c.name; mid = k.ts; named = c.spelled 61 _ equals_name refl; behind = k.rest } }
alive (equals t name st) l = in_equals t name st
alive (assigned t name st) l = in_assigned t name st
alive (valued t name quote read st) l = in_value t name quote read st
alive (value_refers t name quote read r st) l =
    let c = ref_completes r l in
    let k = in_value t name quote (read ++ c.value ∷ []) st in
    record { ts = c.letters ++ k.ts; w = k.w; rest = record { stands_for = c.value; mid = k.ts; reference = c.spelled k.ts; behind = k.rest } }
alive (slashed t st) l = let k = tag_completes t st in record { ts = 62 ∷ k.ts; w = k.w; rest = k.opening }
alive (ending left st) l = in_end_tag left st l
alive (ended st) l = behind_end_name st l
