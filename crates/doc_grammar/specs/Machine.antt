-- The reader, character by character.
use Rattle.std.specs.Prelude.{◌≡◌, ℕ, suc, List, [], ◌∷◌, ◌++◌, Bool, false, ◌||◌, Option, Some, None, ◌==◌, nat_lt, if◌then◌else◌, codes}
use Rattle.std.specs.Str.{bytes_eq}
use Rattle.xt_names.specs.declared.names.Binding.{Binding}
use Rattle.xt_tree.specs.TreeView.{forest_of}
use Rattle.xt_tree.specs.declared.trees.Tree.{Tree}
use Rattle.xt_tree.specs.declared.trees.Tree.TheVariants.{Doc}
use Rattle.doc_grammar.specs.Characters.{is_value, as_value, may_stand, brackets_behind}
use Rattle.doc_grammar.specs.RawNames.{RawName, written_name, RawTag, with_attribute, tag_named}
use Rattle.doc_grammar.specs.Scopes.{Opened, declarations, top_scope}
use Rattle.doc_grammar.specs.Lexemes.{is_target}
use Rattle.doc_grammar.specs.Forms.{Form, FormStep, Part, form_step, form_part}
use Rattle.doc_grammar.specs.Forms as form
use Rattle.doc_grammar.specs.Prolog.{xml_declaration, doctype_declaration}
use Rattle.doc_grammar.specs.Document.{limit, Rules, element_of, text_nodes, Level, blank, fresh, typed, rooted, begun, may_type, may_root}
use Rattle.doc_grammar.specs.Lexing.{Ref, RefStep, ref_step, ampersand, letter_a, spelling, hash, hash_x, number, Lex, LexStep, lex_step, dash, section_open, target_mark, target_space}
use Rattle.doc_grammar.specs.Lexing as lexing
use Rattle.xt_names.specs.Characters.{is_space, is_quote, starts_name, is_name_char}

-- what is open: the elements, the innermost first, each with its name as it was written, what its tag opened, and its
-- children so far; below them the document with its children so far, and the namespace declarations of each element so far
pub data Stack : Type 0 where
  ground : Level → List Tree → List (List Binding) → Stack
  element : RawName → Opened → List Tree → Stack → Stack

-- where the reader is in a name: after these characters of its last part, or after its colon
pub data NameState : Type 0 where
  reading : Option (List ℕ) → List ℕ → NameState
  coloned : List ℕ → NameState

-- what a character does in a name: it goes on, it comes after the whole name, or it may not stand here
pub data NameStep : Type 0 where
  on : NameState → NameStep
  behind_name : RawName → NameStep
  fails : NameStep

abbrev pub at_name_end : Option (List ℕ) → List ℕ → ℕ → NameStep
at_name_end None read c = if c == 58 then on (coloned read) else behind_name (record { prefix = None; local = read })
at_name_end (Some prefix) read c = behind_name (record { prefix = Some prefix; local = read })

abbrev pub name_step : NameState → ℕ → NameStep
name_step (reading prefix read) c = if is_name_char c then on (reading prefix (read ++ c ∷ [])) else at_name_end prefix read c
name_step (coloned prefix) c = if starts_name c then on (reading (Some prefix) (c ∷ [])) else fails

-- where the reader stands
pub data State : Type 0 where
  -- between the parts of the content, after so many `]` and a text; or among the children of the document
  content : ℕ → List ℕ → Stack → State
  -- in a reference, after a text
  refers : List ℕ → Ref → Stack → State
  -- after `<`, and before that a text
  tag : List ℕ → Stack → State
  -- after `<!`
  bang : List ℕ → Stack → State
  -- after `<?`, and in a target
  question : List ℕ → Stack → State
  targeting : List ℕ → List ℕ → Stack → State
  -- in a comment, an instruction or a section
  marked : Lex → List ℕ → Stack → State
  -- in the XML declaration or a DOCTYPE, after which this is open
  forming : Form → Stack → State
  -- in the name of a start tag
  naming : NameState → Stack → State
  -- in a start tag, after its name or an attribute
  tagged : RawTag → Stack → State
  -- in a start tag, after white space
  spaced : RawTag → Stack → State
  -- in the name of an attribute
  attribute : RawTag → NameState → Stack → State
  -- after the name of an attribute
  equals : RawTag → RawName → Stack → State
  -- after the `=` of an attribute
  assigned : RawTag → RawName → Stack → State
  -- in the value of an attribute, which began with this quote
  valued : RawTag → RawName → ℕ → List ℕ → Stack → State
  -- in a reference there
  value_refers : RawTag → RawName → ℕ → List ℕ → Ref → Stack → State
  -- after the `/` of an empty-element tag
  slashed : RawTag → Stack → State
  -- in the name of an end tag, of which these characters are left
  ending : List ℕ → Stack → State
  -- in an end tag, after its name
  ended : Stack → State

-- how many elements are open
abbrev pub depth : Stack → ℕ
depth (ground l kids ds) = 0
depth (element name o kids st) = suc (depth st)

-- the bindings that are in force
abbrev pub scope_of : Stack → List Binding
scope_of (ground l kids ds) = top_scope
scope_of (element name o kids st) = o.scope

-- with something read
abbrev pub with_begun : Stack → Stack
with_begun (ground l kids ds) = ground (begun l) kids ds
with_begun (element name o kids st) = element name o kids st

-- with the declarations of an element more
abbrev pub with_declared : List Binding → Stack → Stack
with_declared d (ground l kids ds) = ground l kids (ds ++ d ∷ [])
with_declared d (element name o kids st) = element name o kids (with_declared d st)

-- with a comment or an instruction more
abbrev pub with_aside : Tree → Stack → Stack
with_aside n (ground l kids ds) = ground (begun l) (kids ++ n ∷ []) ds
with_aside n (element name o kids st) = element name o (kids ++ n ∷ []) st

-- with an element more
abbrev pub with_child : Tree → Stack → Stack
with_child n (ground l kids ds) = ground rooted (kids ++ n ∷ []) ds
with_child n (element name o kids st) = element name o (kids ++ n ∷ []) st

-- with a text more; there is none among the children of the document
abbrev pub with_text : List ℕ → Stack → Stack
with_text text (ground l kids ds) = ground l kids ds
with_text text (element name o kids st) = element name o (kids ++ text_nodes text) st

-- after an element
abbrev pub behind : Tree → Stack → State
behind n st = content 0 [] (with_child n st)

-- an element may begin
abbrev pub may_open : Stack → Bool
may_open (ground l kids ds) = may_root l
may_open (element name o kids st) = nat_lt (depth (element name o kids st)) limit

abbrev pub in_content : ℕ → List ℕ → Stack → ℕ → Option State
in_content n text (ground l kids ds) c = if is_space c then Some (content 0 [] (with_begun (ground l kids ds))) else None
in_content n text (element name o kids st) c =
    if c == 38 then Some (refers text ampersand (element name o kids st))
    else if may_stand n c then Some (content (brackets_behind n c) (text ++ c ∷ []) (element name o kids st)) else None

abbrev pub in_reference : List ℕ → Stack → RefStep → Option State
in_reference text st (lexing.on r) = Some (refers text r st)
in_reference text st (lexing.stands_for v) = Some (content 0 (text ++ v ∷ []) st)
in_reference text st lexing.fails = None

abbrev pub in_value_reference : RawTag → RawName → ℕ → List ℕ → Stack → RefStep → Option State
in_value_reference t name quote read st (lexing.on r) = Some (value_refers t name quote read r st)
in_value_reference t name quote read st (lexing.stands_for v) = Some (valued t name quote (read ++ v ∷ []) st)
in_value_reference t name quote read st lexing.fails = None

abbrev pub in_marked : List ℕ → Stack → LexStep → Option State
in_marked text st (lexing.on l) = Some (marked l text st)
in_marked text st (lexing.makes n) = Some (content 0 [] (with_aside n (with_text text st)))
in_marked text st (lexing.says more) = Some (content 0 (text ++ more) st)
in_marked text st lexing.fails = None

abbrev pub in_forming : Stack → FormStep → Option State
in_forming st (form.goes f) = Some (forming f st)
in_forming st form.done = Some (content 0 [] st)
in_forming st form.fails = None

-- after `<!`, where no comment begins
abbrev pub in_bang : List ℕ → Stack → ℕ → Option State
in_bang text (ground l kids ds) c = if may_type l then in_forming (ground typed kids ds) (form_step doctype_declaration c) else None
in_bang text (element name o kids st) c = if c == 91 then Some (marked (section_open (codes "CDATA[")) text (element name o kids st)) else None

-- a target of the name `xml` is that of the XML declaration, if nothing comes before it
abbrev pub declares : Stack → List ℕ → Bool
declares (ground blank kids ds) target = bytes_eq target (codes "xml")
declares (ground fresh kids ds) target = false
declares (ground typed kids ds) target = false
declares (ground rooted kids ds) target = false
declares (element name o kids st) target = false

abbrev pub behind_plain_target : List ℕ → List ℕ → Stack → ℕ → Option State
behind_plain_target target text st c =
    if is_target target then (if is_space c then Some (marked (target_space target) text st) else if c == 63 then Some (marked (target_mark target) text st) else None)
    else None

abbrev pub behind_target : List ℕ → List ℕ → Stack → ℕ → Option State
behind_target target text st c =
    if declares st target then in_forming (with_begun st) (form_step xml_declaration c) else behind_plain_target target text st c

abbrev pub behind_slash : List ℕ → Stack → Option State
behind_slash text (ground l kids ds) = None
behind_slash text (element name o kids st) = Some (ending (written_name name) (element name o (kids ++ text_nodes text) st))

abbrev pub in_tag : List ℕ → Stack → ℕ → Option State
in_tag text st c =
    if starts_name c then (if may_open st then Some (naming (reading None (c ∷ [])) (with_text text st)) else None) else None

abbrev pub opens : RawTag → Stack → Option Opened → Option State
opens t st None = None
opens t st (Some o) = Some (content 0 [] (element t.name o [] (with_declared (declarations t.attributes) st)))

abbrev pub closes : RawTag → Stack → Option Opened → Option State
closes t st None = None
closes t st (Some o) = Some (behind (element_of o []) (with_declared (declarations t.attributes) st))

-- the end of a start tag
abbrev pub at_end : Rules → RawTag → Stack → ℕ → Option State
at_end rules t st c =
    if c == 62 then opens t st (rules (scope_of st) t) else if c == 47 then Some (slashed t st) else None

abbrev pub behind_tagged : Rules → RawTag → Stack → ℕ → Option State
behind_tagged rules t st c = if is_space c then Some (spaced t st) else at_end rules t st c

abbrev pub behind_spaced : Rules → RawTag → Stack → ℕ → Option State
behind_spaced rules t st c =
    if is_space c then Some (spaced t st) else if starts_name c then Some (attribute t (reading None (c ∷ [])) st) else at_end rules t st c

abbrev pub in_naming : Rules → Stack → ℕ → NameStep → Option State
in_naming rules st c (on n) = Some (naming n st)
in_naming rules st c (behind_name name) = behind_tagged rules (tag_named name) st c
in_naming rules st c fails = None

abbrev pub in_equals : RawTag → RawName → Stack → ℕ → Option State
in_equals t name st c = if c == 61 then Some (assigned t name st) else if is_space c then Some (equals t name st) else None

abbrev pub in_attribute : RawTag → Stack → ℕ → NameStep → Option State
in_attribute t st c (on n) = Some (attribute t n st)
in_attribute t st c (behind_name name) = in_equals t name st c
in_attribute t st c fails = None

abbrev pub in_ending : List ℕ → Stack → ℕ → Option State
in_ending [] st c = None
in_ending (d ∷ left) st c = if c == d then Some (ending left st) else None

-- the innermost element is whole
abbrev pub closed : Stack → Option State
closed (ground l kids ds) = None
closed (element name o kids st) = Some (behind (element_of o kids) st)

abbrev pub in_ended : Stack → ℕ → Option State
in_ended st c = if c == 62 then closed st else if is_space c then Some (ended st) else None

abbrev pub behind_ending : List ℕ → Stack → ℕ → Option State
behind_ending [] st c = in_ended st c
behind_ending (d ∷ left) st c = in_ending (d ∷ left) st c

unfoldable pub step : Rules → State → ℕ → Option State
step rules (content n text st) c = if c == 60 then Some (tag text st) else in_content n text st c
step rules (refers text r st) c = in_reference text st (ref_step r c)
step rules (tag text st) c =
    if c == 47 then behind_slash text st else if c == 33 then Some (bang text st) else if c == 63 then Some (question text st) else in_tag text st c
step rules (bang text st) c = if c == 45 then Some (marked dash text st) else in_bang text st c
step rules (question text st) c = if starts_name c then Some (targeting (c ∷ []) text st) else None
step rules (targeting target text st) c = if is_name_char c then Some (targeting (target ++ c ∷ []) text st) else behind_target target text st c
step rules (marked l text st) c = in_marked text st (lex_step l c)
step rules (forming f st) c = in_forming st (form_step f c)
step rules (naming n st) c = in_naming rules st c (name_step n c)
step rules (tagged t st) c = behind_tagged rules t st c
step rules (spaced t st) c = behind_spaced rules t st c
step rules (attribute t n st) c = in_attribute t st c (name_step n c)
step rules (equals t name st) c = in_equals t name st c
step rules (assigned t name st) c = if is_space c then Some (assigned t name st) else if is_quote c then Some (valued t name c [] st) else None
step rules (valued t name quote read st) c =
    if c == quote then Some (tagged (with_attribute t name read) st)
    else if c == 38 then Some (value_refers t name quote read ampersand st)
    else if is_value quote c then Some (valued t name quote (read ++ as_value c ∷ []) st) else None
step rules (value_refers t name quote read r st) c = in_value_reference t name quote read st (ref_step r c)
step rules (slashed t st) c = if c == 62 then closes t st (rules (scope_of st) t) else None
step rules (ending left st) c = behind_ending left st c
step rules (ended st) c = in_ended st c

-- Why a reading stops: a start tag breaks a rule on names, too many elements are open, a name is no reference, an internal
-- subset or another encoding begins, or anything else.
pub data Stop : Type 0 where
  names : Stop
  deep : Stop
  entity : Stop
  subset : Stop
  encoding : Stop
  other : Stop

abbrev pub at_close : ℕ → Stop
at_close c = if c == 62 then names else other

abbrev pub stop_in_name : ℕ → NameStep → Stop
stop_in_name c (on n) = other
stop_in_name c (behind_name name) = at_close c
stop_in_name c fails = other

abbrev pub stop_before_name : Stack → Stop
stop_before_name (ground l kids ds) = other
stop_before_name (element name o kids st) = deep

-- a reference by name: a name begins right after `&`, or it goes on or ends elsewhere
abbrev pub stop_in_entity : ℕ → Stop
stop_in_entity c = if is_name_char c || c == 59 then entity else other

abbrev pub stop_in_ref : Ref → ℕ → Stop
stop_in_ref ampersand c = if starts_name c then entity else other
stop_in_ref letter_a c = stop_in_entity c
stop_in_ref (spelling left v) c = stop_in_entity c
stop_in_ref hash c = other
stop_in_ref hash_x c = other
stop_in_ref (number b n) c = other

abbrev pub stop_in_form : Part → ℕ → Stop
stop_in_form form.encoding c = encoding
stop_in_form form.doctype_end c = if c == 91 then subset else other
stop_in_form form.elsewhere c = other

-- why the state does not go on with the character
abbrev pub stop_at : State → ℕ → Stop
stop_at (content n text st) c = other
stop_at (refers text r st) c = stop_in_ref r c
stop_at (tag text st) c = if starts_name c then stop_before_name st else other
stop_at (bang text st) c = other
stop_at (question text st) c = other
stop_at (targeting target text st) c = other
stop_at (marked l text st) c = other
stop_at (forming f st) c = stop_in_form (form_part f c) c
stop_at (naming n st) c = stop_in_name c (name_step n c)
stop_at (tagged t st) c = at_close c
stop_at (spaced t st) c = at_close c
stop_at (attribute t n st) c = other
stop_at (equals t name st) c = other
stop_at (assigned t name st) c = other
stop_at (valued t name quote read st) c = other
stop_at (value_refers t name quote read r st) c = stop_in_ref r c
stop_at (slashed t st) c = at_close c
stop_at (ending left st) c = other
stop_at (ended st) c = other

-- how a reading ends: with a tree and the declarations of each of its elements in document order, or before the rest, which does not go on
pub data End : Type 0 where
  whole : Tree → List (List Binding) → End
  stops : Stop → List ℕ → End

abbrev pub finish_ground : Stack → End
finish_ground (ground blank kids ds) = stops other []
finish_ground (ground fresh kids ds) = stops other []
finish_ground (ground typed kids ds) = stops other []
finish_ground (ground rooted kids ds) = whole (Doc (forest_of kids)) ds
finish_ground (element name o kids st) = stops other []

abbrev pub finish : State → End
finish (content n text st) = finish_ground st
finish s = stops other []

abbrev pub or_stop : (State → End) → End → Option State → End
or_stop go stop None = stop
or_stop go stop (Some s) = go s

abbrev pub run : Rules → List ℕ → State → End
run rules [] s = finish s
run rules (c ∷ cs) s = or_stop (run rules cs) (stops (stop_at s c) (c ∷ cs)) (step rules s c)

-- before the first character
abbrev pub start : State
start = content 0 [] (ground blank [] [])

-- the reading stops before the rest
abbrev pub StopsAt : End → List ℕ → Type 0
StopsAt e rest = (why : Stop) × (e ≡ stops why rest)
