-- For each state of the reader, which characters complete it.
use Rattle.std.proofs.Common.{◌≡◌, ℕ, List, [], ◌∷◌, ◌++◌, true, false, Some, None, ◌==◌, codes}
use Rattle.xt_names.specs.declared.names.Binding.{Binding}
use Rattle.xt_tree.specs.declared.trees.Tree.{Tree}
use Rattle.xt_tree.specs.declared.trees.Tree.TheVariants.{Pi}
use Rattle.doc_grammar.specs.Characters.{is_value, as_value, is_colon}
use Rattle.doc_grammar.specs.RawNames.{RawName, plain_name, prefixed_name, RawTag, with_attribute, tag_named}
use Rattle.doc_grammar.specs.Scopes.{Opened}
use Rattle.doc_grammar.specs.Lexemes.{Spaces, Named, NCName, Reference, is_target, UpTo, instruction_close}
use Rattle.doc_grammar.specs.Forms.{Form, Spelled}
use Rattle.doc_grammar.specs.Prolog.{xml_declaration}
use Rattle.doc_grammar.specs.Document.{Rules, Attributes, Spaced, EndTag, element_of, Top, fresh, blank}
use Rattle.doc_grammar.specs.Lexing.{Ref, Lex}
use Rattle.doc_grammar.specs.Machine.{Stack, ground, element, NameState, reading, coloned, State, content, refers, tag, bang, question, targeting, marked, forming, naming, tagged, spaced, attribute, equals, assigned, valued, value_refers, slashed, ending, ended, scope_of, with_text, with_child, with_aside}
use Rattle.doc_grammar.proofs.Residue.{Inside}
use Rattle.doc_grammar.proofs.LexRests.{RefRest, Made, node, said, LexRest}
use Rattle.xt_names.specs.Characters.{is_space, is_quote, Ends}

-- between two nodes
abbrev pub Between : Rules → Tree → Stack → List ℕ → Type 0
Between rules w st ts = Inside rules w 0 [] st ts

-- the end of a start tag, and what follows it
pub data Opening (rules : Rules) (w : Tree) (t : RawTag) (st : Stack) : List ℕ → Type 0 where
  opens : {ts : List ℕ} {o : Opened} → rules (scope_of st) t ≡ Some o → Between rules w (element t.name o [] st) ts → Opening rules w t st (62 ∷ ts)
  closes : {ts : List ℕ} {o : Opened} → rules (scope_of st) t ≡ Some o → Between rules w (with_child (element_of o []) st) ts → Opening rules w t st (47 ∷ 62 ∷ ts)

-- the rest of a start tag, and what follows it
pub record InTag (rules : Rules) (w : Tree) (t : RawTag) (st : Stack) (ts : List ℕ) : Type 0 where
  pub whole : RawTag
  pub rest : List ℕ
  pub attributes : Attributes t ts whole rest
  pub opening : Opening rules w whole st rest

pub record InSpaced (rules : Rules) (w : Tree) (t : RawTag) (st : Stack) (ts : List ℕ) : Type 0 where
  pub whole : RawTag
  pub rest : List ℕ
  pub attributes : Spaced t ts whole rest
  pub opening : Opening rules w whole st rest

-- the rest of a name
pub data NameRest : NameState → List ℕ → RawName → List ℕ → Type 0 where
  plain : {read ts name rest : List ℕ} → Named read ts name rest → Ends is_colon rest → NameRest (reading None read) ts (plain_name name) rest
  prefixed : {read ts prefix mid local rest : List ℕ} → Named read ts prefix (58 ∷ mid) → NCName mid local rest → NameRest (reading None read) ts (prefixed_name prefix local) rest
  local : {read ts prefix local rest : List ℕ} → Named read ts local rest → NameRest (reading (Some prefix) read) ts (prefixed_name prefix local) rest
  colon : {ts prefix local rest : List ℕ} → NCName ts local rest → NameRest (coloned prefix) ts (prefixed_name prefix local) rest

pub record InName (rules : Rules) (w : Tree) (n : NameState) (st : Stack) (ts : List ℕ) : Type 0 where
  pub name : RawName
  pub mid : List ℕ
  pub named : NameRest n ts name mid
  pub behind : InTag rules w (tag_named name) st mid

-- the rest of a value up to its quote; that quote begins no reference
pub data ValueRest (quote : ℕ) : List ℕ → List ℕ → List ℕ → List ℕ → Type 0 where
  next_char : {c : ℕ} {read ts value rest : List ℕ} → is_value quote c ≡ true → ValueRest quote (read ++ as_value c ∷ []) ts value rest → ValueRest quote read (c ∷ ts) value rest
  next_reference : {v : ℕ} {read ts mid value rest : List ℕ} → (38 == quote) ≡ false → Reference ts v mid → ValueRest quote (read ++ v ∷ []) mid value rest → ValueRest quote read (38 ∷ ts) value rest
  at_quote : {value rest : List ℕ} → ValueRest quote value (quote ∷ rest) value rest

pub record InValue (rules : Rules) (w : Tree) (t : RawTag) (name : RawName) (quote : ℕ) (read : List ℕ) (st : Stack) (ts : List ℕ) : Type 0 where
  pub value : List ℕ
  pub after : List ℕ
  pub valued : ValueRest quote read ts value after
  pub behind : InTag rules w (with_attribute t name value) st after

pub record InValueReference (rules : Rules) (w : Tree) (t : RawTag) (name : RawName) (quote : ℕ) (read : List ℕ) (r : Ref) (st : Stack) (ts : List ℕ) : Type 0 where
  pub stands_for : ℕ
  pub mid : List ℕ
  pub reference : RefRest r ts stands_for mid
  pub behind : InValue rules w t name quote (read ++ stands_for ∷ []) st mid

-- after the `=` of an attribute
pub record InAssigned (rules : Rules) (w : Tree) (t : RawTag) (name : RawName) (st : Stack) (ts : List ℕ) : Type 0 where
  pub quote : ℕ
  pub mid : List ℕ
  pub space : Spaces ts (quote ∷ mid)
  pub quoted : is_quote quote ≡ true
  pub behind : InValue rules w t name quote [] st mid

pub record InEquals (rules : Rules) (w : Tree) (t : RawTag) (name : RawName) (st : Stack) (ts : List ℕ) : Type 0 where
  pub mid : List ℕ
  pub space : Spaces ts (61 ∷ mid)
  pub behind : InAssigned rules w t name st mid

pub record InAttribute (rules : Rules) (w : Tree) (t : RawTag) (n : NameState) (st : Stack) (ts : List ℕ) : Type 0 where
  pub name : RawName
  pub mid : List ℕ
  pub named : NameRest n ts name mid
  pub behind : InEquals rules w t name st mid

-- the rest of an end tag, and what follows it
pub data InEnding (rules : Rules) (w : Tree) (left : List ℕ) : Stack → List ℕ → Type 0 where
  in_ending : {name : RawName} {ts rest : List ℕ} {o : Opened} {kids : List Tree} {st : Stack} → EndTag left ts rest → Between rules w (with_child (element_of o kids) st) rest → InEnding rules w left (element name o kids st) ts

pub data InEnded (rules : Rules) (w : Tree) : Stack → List ℕ → Type 0 where
  in_ended : {name : RawName} {ts rest : List ℕ} {o : Opened} {kids : List Tree} {st : Stack} → Spaces ts (62 ∷ rest) → Between rules w (with_child (element_of o kids) st) rest → InEnded rules w (element name o kids st) ts

-- the rest of a reference in a text, and what follows it
pub record InReference (rules : Rules) (w : Tree) (text : List ℕ) (r : Ref) (st : Stack) (ts : List ℕ) : Type 0 where
  pub stands_for : ℕ
  pub mid : List ℕ
  pub reference : RefRest r ts stands_for mid
  pub behind : Inside rules w 0 (text ++ stands_for ∷ []) st mid

-- what follows a node or a section
abbrev pub Then : Rules → Tree → List ℕ → Stack → Made → List ℕ → Type 0
Then rules w text st (node n) ts = Between rules w (with_aside n (with_text text st)) ts
Then rules w text st (said words) ts = Inside rules w 0 (text ++ words) st ts

pub record InMarked (rules : Rules) (w : Tree) (l : Lex) (text : List ℕ) (st : Stack) (ts : List ℕ) : Type 0 where
  pub made : Made
  pub mid : List ℕ
  pub lex : LexRest l ts made mid
  pub behind : Then rules w text st made mid

pub record InForm (rules : Rules) (w : Tree) (f : Form) (st : Stack) (ts : List ℕ) : Type 0 where
  pub mid : List ℕ
  pub form : Spelled f ts mid
  pub behind : Between rules w st mid

-- the rest of an instruction, of whose target these characters are read
pub data Targeted : List ℕ → List ℕ → List ℕ → List ℕ → List ℕ → Type 0 where
  bare : {read ts target rest : List ℕ} → Named read ts target (63 ∷ 62 ∷ rest) → is_target target ≡ true → Targeted read ts target [] rest
  with_data : {c : ℕ} {read ts target mid start text rest : List ℕ} → Named read ts target (c ∷ mid) → is_target target ≡ true → is_space c ≡ true → Spaces mid start → Ends is_space start → UpTo instruction_close [] start text rest → Targeted read ts target text rest

-- that, or the rest of the XML declaration, and what follows it
pub data InTarget (rules : Rules) (w : Tree) (read text : List ℕ) : Stack → List ℕ → Type 0 where
  instruction : {st : Stack} {ts target inner rest : List ℕ} → Targeted read ts target inner rest → Between rules w (with_aside (Pi target inner) (with_text text st)) rest → InTarget rules w read text st ts
  declaration : {kids : List Tree} {ds : List (List Binding)} {ts mid rest : List ℕ} → Named read ts (codes "xml") mid → Spelled xml_declaration mid rest → Top rules fresh kids rest w → InTarget rules w read text (ground blank kids ds) ts

abbrev pub Rest : Rules → Tree → State → List ℕ → Type 0
Rest rules w (content n text st) ts = Inside rules w n text st ts
Rest rules w (refers text r st) ts = InReference rules w text r st ts
Rest rules w (tag text st) ts = Inside rules w 0 text st (60 ∷ ts)
Rest rules w (bang text st) ts = Inside rules w 0 text st (60 ∷ 33 ∷ ts)
Rest rules w (question text st) ts = Inside rules w 0 text st (60 ∷ 63 ∷ ts)
Rest rules w (targeting read text st) ts = InTarget rules w read text st ts
Rest rules w (marked l text st) ts = InMarked rules w l text st ts
Rest rules w (forming f st) ts = InForm rules w f st ts
Rest rules w (naming n st) ts = InName rules w n st ts
Rest rules w (tagged t st) ts = InTag rules w t st ts
Rest rules w (spaced t st) ts = InSpaced rules w t st ts
Rest rules w (attribute t n st) ts = InAttribute rules w t n st ts
Rest rules w (equals t name st) ts = InEquals rules w t name st ts
Rest rules w (assigned t name st) ts = InAssigned rules w t name st ts
Rest rules w (valued t name quote read st) ts = InValue rules w t name quote read st ts
Rest rules w (value_refers t name quote read r st) ts = InValueReference rules w t name quote read r st ts
Rest rules w (slashed t st) ts = Opening rules w t st (47 ∷ ts)
Rest rules w (ending left st) ts = InEnding rules w left st ts
Rest rules w (ended st) ts = InEnded rules w st ts
