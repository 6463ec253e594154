-- How many characters the parts of a document take.
use Rattle.std.proofs.Common.{ℕ, ◌+◌, ◌<◌, ◌≤◌, List, [], ◌∷◌, length, arith, ap, length-append}
use Rattle.xt_tree.specs.declared.trees.Tree.{Tree}
use Rattle.doc_grammar.specs.Characters.{Base}
use Rattle.doc_grammar.specs.RawNames.{RawName, RawTag}
use Rattle.doc_grammar.specs.Forms.{Form, Spelled}
use Rattle.doc_grammar.specs.Forms as forms
use Rattle.doc_grammar.specs.Lexemes.{Spaces, Named, NCName, Digits, Reference, UpTo, section_close, CommentText, Instruction, Misc, Section}
use Rattle.doc_grammar.specs.Lexemes as lexemes
use Rattle.doc_grammar.specs.Document.{QName, Equals, Valued, AtEnd, Attributes, Spaced, EndTag}
use Rattle.doc_grammar.specs.Document as doc

pub spaces_size : {ts rest : List ℕ} → Spaces ts rest → length rest ≤ length ts
spaces_size lexemes.no_space = omega arith
spaces_size (lexemes.a_space s k) = let low = spaces_size k in omega arith

named_size : {read ts name rest : List ℕ} → Named read ts name rest → length rest ≤ length ts
named_size (lexemes.more p k) = let low = named_size k in omega arith
named_size (lexemes.whole e) = omega arith

ncname_size : {ts name rest : List ℕ} → NCName ts name rest → length rest < length ts
ncname_size (lexemes.ncname s k) = let low = named_size k in omega arith

pub qname_size : {ts rest : List ℕ} {name : RawName} → QName ts name rest → length rest < length ts
qname_size (doc.plain n e) = ncname_size n
qname_size (doc.prefixed n l) = let a = ncname_size n in let b = ncname_size l in omega arith

digits_size : {b : Base} {n v : ℕ} {ts rest : List ℕ} → Digits b n ts v rest → length rest < length ts
digits_size (lexemes.more e k) = let low = digits_size k in omega arith
digits_size lexemes.whole = omega arith

pub reference_size : {ts rest : List ℕ} {v : ℕ} → Reference ts v rest → length rest < length ts
reference_size lexemes.amp = omega arith
reference_size lexemes.lt = omega arith
reference_size lexemes.gt = omega arith
reference_size lexemes.quot = omega arith
reference_size lexemes.apos = omega arith
reference_size (lexemes.by_decimal e k i) = let low = digits_size k in omega arith
reference_size (lexemes.by_hexadecimal e k i) = let low = digits_size k in omega arith

-- the text and what follows it
upto_size : {close read ts text rest : List ℕ} → UpTo close read ts text rest → length text + length rest ≤ length read + length ts
upto_size {read = read} (lexemes.more {c = c} p b k) = let low = upto_size k in let more = length-append read (c ∷ []) in omega arith
upto_size {close = close} (lexemes.whole {text = text} {rest = rest} e) = let same = ap length e in let more = length-append close rest in omega arith

pub section_size : {ts text rest : List ℕ} → Section ts text rest → length text + length rest < length ts
section_size (lexemes.section t) = let low = upto_size t in omega arith

comment_size : {read ts text rest : List ℕ} → CommentText read ts text rest → length rest < length ts
comment_size (lexemes.more p d k) = let low = comment_size k in omega arith
comment_size (lexemes.dash p d k) = let low = comment_size k in omega arith
comment_size lexemes.whole = omega arith

instruction_size : {ts target text rest : List ℕ} → Instruction ts target text rest → length rest < length ts
instruction_size (lexemes.bare n i) = let low = ncname_size n in omega arith
instruction_size (lexemes.with_text n i s k e u) = let a = ncname_size n in let b = spaces_size k in let d = upto_size u in omega arith

pub misc_size : {ts rest : List ℕ} {n : Tree} → Misc ts n rest → 2 + length rest ≤ length ts
misc_size (lexemes.comment t) = let low = comment_size t in omega arith
misc_size (lexemes.instruction i) = let low = instruction_size i in omega arith

pub form_size : {ts rest : List ℕ} {f : Form} → Spelled f ts rest → length rest ≤ length ts
form_size (forms.last_one h) = omega arith
form_size (forms.first_one h k) = let low = form_size k in omega arith
form_size (forms.another h k) = let low = form_size k in omega arith
form_size (forms.no_other h k) = form_size k
form_size (forms.left h k) = form_size k
form_size (forms.right h k) = form_size k

pub equals_size : {ts rest : List ℕ} → Equals ts rest → length rest < length ts
equals_size (doc.equals x y) = let a = spaces_size x in let b = spaces_size y in omega arith

valued_size : {quote : ℕ} {read ts value rest : List ℕ} → Valued quote read ts value rest → length rest < length ts
valued_size (doc.more p v) = let low = valued_size v in omega arith
valued_size (doc.refers r v) = let a = reference_size r in let b = valued_size v in omega arith
valued_size doc.whole = omega arith

-- each attribute takes one character at least
mutual
  pub attributes_size : {t whole : RawTag} {ts rest : List ℕ} → Attributes t ts whole rest → length whole.attributes + length rest ≤ length t.attributes + length ts
  attributes_size (doc.none e) = omega arith
  attributes_size (doc.space s a) = let low = spaced_size a in omega arith

  spaced_size : {t whole : RawTag} {ts rest : List ℕ} → Spaced t ts whole rest → length whole.attributes + length rest ≤ length t.attributes + length ts
  spaced_size (doc.no_more e) = omega arith
  spaced_size (doc.again s a) = let low = spaced_size a in omega arith
  spaced_size {t = t} (doc.attribute {name = name} {value = value} d e q v a) =
      let x = qname_size d in
      let y = equals_size e in
      let z = valued_size v in
      let low = attributes_size a in
      let more = length-append t.attributes (record { name = name; value = value } ∷ []) in omega arith

pub end_size : {left ts rest : List ℕ} → EndTag left ts rest → length rest < length ts
end_size (doc.same k) = let low = end_size k in omega arith
end_size (doc.closing s) = let low = spaces_size s in omega arith
