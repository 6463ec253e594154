-- Where the text ends, only what comes after a root is whole.
use Rattle.std.proofs.Common.{◌≡◌, ℕ, List, [], ◌∷◌, refl, sym, subst}
use Rattle.xt_names.specs.declared.names.Binding.{Binding}
use Rattle.xt_tree.specs.declared.trees.Tree.{Tree}
use Rattle.doc_grammar.specs.RawNames.{RawName, RawTag}
use Rattle.doc_grammar.specs.Lexemes.{Spaces, Named, NCName, Digits, Reference, UpTo, CommentText, Misc, Section}
use Rattle.doc_grammar.specs.Lexemes as lexemes
use Rattle.doc_grammar.specs.Forms.{Spelled}
use Rattle.doc_grammar.specs.Prolog.{xml_declaration}
use Rattle.doc_grammar.specs.Document.{Rules, QName, Attributes, Spaced, EndTag, Element, Level, blank, fresh, typed, rooted, Top}
use Rattle.doc_grammar.specs.Document as doc
use Rattle.doc_grammar.specs.Lexing.{Ref, ampersand, letter_a, spelling, hash, hash_x, number, Lex}
use Rattle.doc_grammar.specs.Machine.{Stack, ground, element, State, content, refers, tag, bang, question, targeting, marked, forming, naming, tagged, spaced, attribute, equals, assigned, valued, value_refers, slashed, ending, ended, NameState, End, whole, finish}
use Rattle.doc_grammar.proofs.CharacterFacts.{open_stands, open_space}
use Rattle.doc_grammar.proofs.Residue.{Inside, top}
use Rattle.doc_grammar.proofs.Residue as residue
use Rattle.doc_grammar.proofs.LexRests.{Made, RefRest, LexRest}
use Rattle.doc_grammar.proofs.LexRests as lex
use Rattle.doc_grammar.proofs.Rests.{Opening, NameRest, plain, prefixed, local, colon, InName, InTarget, instruction, declaration, bare, with_data, ValueRest, InName, InAttribute, InEnding, in_ending, InEnded, in_ended, Rest}
use Rattle.doc_grammar.proofs.FormSteps.{no_form}
use Rattle.doc_grammar.proofs.MarkupSteps.{no_element_bang}
use Rattle.doc_grammar.proofs.TargetSteps.{no_element as no_element_question}
use Rattle.xt_names.proofs.BoolLemmas.{no}

-- the reading ends with the tree
abbrev pub Finds : End → Tree → Type 0
Finds e tree = (ds : List (List Binding)) × (e ≡ whole tree ds)

pub no_ncname : {name rest : List ℕ} → NCName [] name rest → ⊥
no_ncname n = elim n [ ]

no_qname : {name : RawName} {rest : List ℕ} → QName [] name rest → ⊥
no_qname (doc.plain n e) = no_ncname n
no_qname (doc.prefixed n l) = no_ncname n

no_element : {rules : Rules} {k : ℕ} {scope rest : List _} {n : Tree} → Element rules k scope [] n rest → ⊥
no_element e = elim e [ ]

no_tag_element : {rules : Rules} {k : ℕ} {scope rest : List _} {n : Tree} → Element rules k scope (60 ∷ []) n rest → ⊥
no_tag_element (doc.empty h d a o) = no_qname d
no_tag_element (doc.full h d a o c e) = no_qname d

no_misc : {rest : List ℕ} {n : Tree} → Misc [] n rest → ⊥
no_misc m = elim m [ ]

no_section : {text rest : List ℕ} → Section [] text rest → ⊥
no_section s = elim s [ ]

-- a document is whole
finish_top : {rules : Rules} {w : Tree} {l : Level} {kids : List Tree} (n : ℕ) (text : List ℕ) (ds : List (List Binding)) → Top rules l kids [] w → Finds (finish (content n text (ground l kids ds))) w
finish_top n text ds (doc.aside m k) = absurd (no_misc m)
finish_top n text ds (doc.root m e k) = absurd (no_element e)
finish_top n text ds doc.ends = (ds, refl)

finish_content : (rules : Rules) (w : Tree) (n : ℕ) (text : List ℕ) (st : Stack) → Inside rules w n text st [] → Finds (finish (content n text st)) w
finish_content rules w n text (ground l kids ds) (top t) = finish_top n text ds t
finish_content rules w n text (element name o kids st) (residue.quotes s k) = absurd (no_section s)
finish_content rules w n text (element name o kids st) (residue.child e k) = absurd (no_element e)
finish_content rules w n text (element name o kids st) (residue.aside m k) = absurd (no_misc m)

no_tag : {rules : Rules} {w : Tree} {n : ℕ} {text : List ℕ} {st : Stack} → Inside rules w n text st (60 ∷ []) → ⊥
no_tag (top (doc.space s k)) = no s open_space
no_tag (top (doc.aside m k)) = elim m [ ]
no_tag (top (doc.root m e k)) = no_tag_element e
no_tag {n = n} (residue.says p k) = no p (open_stands n)
no_tag (residue.quotes s k) = elim s [ ]
no_tag (residue.child e k) = no_tag_element e
no_tag (residue.aside m k) = elim m [ ]

no_bang : {rules : Rules} {w : Tree} {n : ℕ} {text : List ℕ} {st : Stack} → Inside rules w n text st (60 ∷ 33 ∷ []) → ⊥
no_bang (top (doc.space s k)) = no s open_space
no_bang (top (doc.aside m k)) = elim m [ ]
no_bang (top (doc.types m f k)) = no_form _ f
no_bang (top (doc.root m e k)) = no_element_bang e
no_bang {n = n} (residue.says p k) = no p (open_stands n)
no_bang (residue.quotes s k) = elim s [ ]
no_bang (residue.child e k) = no_element_bang e
no_bang (residue.aside m k) = elim m [ ]

no_question : {rules : Rules} {w : Tree} {n : ℕ} {text : List ℕ} {st : Stack} → Inside rules w n text st (60 ∷ 63 ∷ []) → ⊥
no_question (top (doc.space s k)) = no s open_space
no_question (top (doc.aside (lexemes.instruction (lexemes.bare d i)) k)) = no_ncname d
no_question (top (doc.aside (lexemes.instruction (lexemes.with_text d i s p e u)) k)) = no_ncname d
no_question (top (doc.root m e k)) = no_element_question e
no_question {n = n} (residue.says p k) = no p (open_stands n)
no_question (residue.quotes s k) = elim s [ ]
no_question (residue.child e k) = no_element_question e
no_question (residue.aside (lexemes.instruction (lexemes.bare d i)) k) = no_ncname d
no_question (residue.aside (lexemes.instruction (lexemes.with_text d i s p e u)) k) = no_ncname d

no_more : {read name rest : List ℕ} → Named read [] name rest → rest ≡ []
no_more (lexemes.whole e) = refl

not_empty : {c : ℕ} {ts : List ℕ} → c ∷ ts ≡ [] → ⊥
not_empty e = cc

no_target : {rules : Rules} {w : Tree} {read text : List ℕ} {st : Stack} → InTarget rules w read text st [] → ⊥
no_target (instruction (bare d i) k) = not_empty (no_more d)
no_target (instruction (with_data d i s p e u) k) = not_empty (no_more d)
no_target (declaration {mid = mid} {rest = rest} d f k) = let f' : Spelled xml_declaration [] rest = rw (no_more d) at f in no_form xml_declaration f'

no_close : {d : ℕ} {ds read text rest : List ℕ} → UpTo (d ∷ ds) read [] text rest → ⊥
no_close (lexemes.whole e) = not_empty (sym e)

no_second : {d e c : ℕ} {ds read text rest : List ℕ} → UpTo (d ∷ e ∷ ds) read (c ∷ []) text rest → ⊥
no_second (lexemes.more p b k) = no_close k
no_second (lexemes.whole e) = cc

no_third : {d e f b c : ℕ} {ds read text rest : List ℕ} → UpTo (d ∷ e ∷ f ∷ ds) read (b ∷ c ∷ []) text rest → ⊥
no_third (lexemes.more p b k) = no_second k
no_third (lexemes.whole e) = cc

no_dash : {read text rest : List ℕ} → CommentText read (45 ∷ []) text rest → ⊥
no_dash (lexemes.more p d k) = cc

no_dashes : {read text rest : List ℕ} → CommentText read (45 ∷ 45 ∷ []) text rest → ⊥
no_dashes (lexemes.more p d k) = cc
no_dashes (lexemes.dash p d k) = cc

pub no_lex : {l : Lex} {m : Made} {rest : List ℕ} → LexRest l [] m rest → ⊥
no_lex (lex.in_comment t) = elim t [ ]
no_lex (lex.in_comment_dash t) = no_dash t
no_lex (lex.in_comment_dashes t) = no_dashes t
no_lex (lex.in_section_open t) = elim t [ ]
no_lex (lex.in_section t) = no_close t
no_lex (lex.in_section_bracket t) = no_second t
no_lex (lex.in_section_brackets t) = no_third t
no_lex (lex.in_target_space lexemes.no_space e t) = no_close t
no_lex (lex.in_instruction t) = no_close t
no_lex (lex.in_instruction_mark t) = no_second t

no_hash_x : {v : ℕ} {rest : List ℕ} → Reference (35 ∷ 120 ∷ []) v rest → ⊥
no_hash_x (lexemes.by_decimal e k i) = elim k [ ]

pub no_reference : (r : Ref) (v : ℕ) (rest : List ℕ) → RefRest r [] v rest → ⊥
no_reference ampersand v rest k = elim k [ ]
no_reference letter_a v rest k = elim k [ ]
no_reference (spelling left u) v rest k = elim k [ ]
no_reference hash v rest k = elim k [ ]
no_reference hash_x v rest k = no_hash_x k
no_reference (number b n) v rest k = elim (k.0) [ ]

no_attributes : {t whole : RawTag} {rest : List ℕ} → Attributes t [] whole rest → ⊥
no_attributes (doc.none e) = elim e [ ]

no_spaced : {t whole : RawTag} {rest : List ℕ} → Spaced t [] whole rest → ⊥
no_spaced (doc.no_more e) = elim e [ ]
no_spaced (doc.attribute d e q v a) = no_qname d

pub no_rest : {n : NameState} {name : RawName} {rest : List ℕ} → NameRest n [] name rest → rest ≡ []
no_rest (plain d e) = no_more d
no_rest (prefixed d l) = absurd (not_empty (no_more d))
no_rest (local d) = no_more d
no_rest (colon l) = absurd (no_ncname l)

no_name : {rules : Rules} {w : Tree} {n : NameState} {st : Stack} → InName rules w n st [] → ⊥
no_name b = let k = rw (no_rest b.named) at b.behind in no_attributes k.attributes

no_space_end : {c : ℕ} {rest : List ℕ} → Spaces [] (c ∷ rest) → ⊥
no_space_end s = elim s [ ]

no_attribute : {rules : Rules} {w : Tree} {t : RawTag} {n : NameState} {st : Stack} → InAttribute rules w t n st [] → ⊥
no_attribute b = let k = rw (no_rest b.named) at b.behind in no_space_end k.space

no_value : {quote : ℕ} {read value after : List ℕ} → ValueRest quote read [] value after → ⊥
no_value v = elim v [ ]

no_opening : {rules : Rules} {w : Tree} {t : RawTag} {st : Stack} → Opening rules w t st (47 ∷ []) → ⊥
no_opening k = elim k [ ]

no_end_tag : {left rest : List ℕ} → EndTag left [] rest → ⊥
no_end_tag (doc.closing s) = no_space_end s

no_ending : {rules : Rules} {w : Tree} {left : List ℕ} {st : Stack} → InEnding rules w left st [] → ⊥
no_ending (in_ending t u) = no_end_tag t

no_ended : {rules : Rules} {w : Tree} {st : Stack} → InEnded rules w st [] → ⊥
no_ended (in_ended s u) = no_space_end s

-- at the end of the text
pub at_end : (rules : Rules) (w : Tree) (s : State) → Rest rules w s [] → Finds (finish s) w
at_end rules w (content n text st) r = finish_content rules w n text st r
at_end rules w (refers text r st) k = absurd (no_reference r k.stands_for k.mid k.reference)
at_end rules w (tag text st) r = absurd (no_tag r)
at_end rules w (bang text st) r = absurd (no_bang r)
at_end rules w (question text st) r = absurd (no_question r)
at_end rules w (targeting read text st) r = absurd (no_target r)
at_end rules w (marked l text st) r = absurd (no_lex r.lex)
at_end rules w (forming f st) r = absurd (no_form f r.form)
at_end rules w (naming n st) r = absurd (no_name r)
at_end rules w (tagged t st) r = absurd (no_attributes r.attributes)
at_end rules w (spaced t st) r = absurd (no_spaced r.attributes)
at_end rules w (attribute t n st) r = absurd (no_attribute r)
at_end rules w (equals t name st) r = absurd (no_space_end r.space)
at_end rules w (assigned t name st) r = absurd (no_space_end r.space)
at_end rules w (valued t name quote read st) r = absurd (no_value r.valued)
at_end rules w (value_refers t name quote read r st) k = absurd (no_reference r k.stands_for k.mid k.reference)
at_end rules w (slashed t st) r = absurd (no_opening r)
at_end rules w (ending left st) r = absurd (no_ending r)
at_end rules w (ended st) r = absurd (no_ended r)

pub whole_same : {s t : Tree} {ds es : List (List Binding)} → whole s ds ≡ whole t es → s ≡ t
whole_same e = cc

-- after a root that is whole
finished_content : (rules : Rules) (tree : Tree) (ds : List (List Binding)) (n : ℕ) (text : List ℕ) (st : Stack) → finish (content n text st) ≡ whole tree ds → Inside rules tree n text st []
finished_content rules tree ds n text (ground blank kids es) e = absurd (cc)
finished_content rules tree ds n text (ground fresh kids es) e = absurd (cc)
finished_content rules tree ds n text (ground typed kids es) e = absurd (cc)
finished_content rules tree ds n text (ground rooted kids es) e = let P : Tree → Type 0 = λ x. Inside rules x n text (ground rooted kids es) [] in subst P (whole_same e) (top doc.ends)
finished_content rules tree ds n text (element name o kids st) e = absurd (cc)

pub finished : (rules : Rules) (tree : Tree) (ds : List (List Binding)) (s : State) → finish s ≡ whole tree ds → Rest rules tree s []
finished rules tree ds (content n text st) e = finished_content rules tree ds n text st e
finished rules tree ds (refers text r st) e = absurd (cc)
finished rules tree ds (tag text st) e = absurd (cc)
finished rules tree ds (bang text st) e = absurd (cc)
finished rules tree ds (question text st) e = absurd (cc)
finished rules tree ds (targeting read text st) e = absurd (cc)
finished rules tree ds (marked l text st) e = absurd (cc)
finished rules tree ds (forming f st) e = absurd (cc)
finished rules tree ds (naming n st) e = absurd (cc)
finished rules tree ds (tagged t st) e = absurd (cc)
finished rules tree ds (spaced t st) e = absurd (cc)
finished rules tree ds (attribute t n st) e = absurd (cc)
finished rules tree ds (equals t name st) e = absurd (cc)
finished rules tree ds (assigned t name st) e = absurd (cc)
finished rules tree ds (valued t name quote read st) e = absurd (cc)
finished rules tree ds (value_refers t name quote read r st) e = absurd (cc)
finished rules tree ds (slashed t st) e = absurd (cc)
finished rules tree ds (ending left st) e = absurd (cc)
finished rules tree ds (ended st) e = absurd (cc)
