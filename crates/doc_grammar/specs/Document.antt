-- The grammar of a document: relations by the productions of XML 1.0 and Namespaces in XML 1.0, from a text to what it
-- stands for and the rest. What a start tag gives is a parameter: the rules on names in a document, and more in its skeleton.
use Rattle.std.specs.Prelude.{◌≡◌, ℕ, suc, ◌<◌, List, [], ◌∷◌, ◌++◌, Bool, true, false, Option, Some}
use Rattle.std.specs.Str.{IsUtf8, chars}
use Rattle.xt_names.specs.declared.names.Binding.{Binding}
use Rattle.xt_tree.specs.TreeView.{forest_of}
use Rattle.xt_tree.specs.declared.trees.Tree.{Tree}
use Rattle.xt_tree.specs.declared.trees.Tree.TheVariants.{Doc, Elem, Text}
use Rattle.doc_grammar.specs.Characters.{is_value, as_value, is_colon, may_stand, brackets_behind}
use Rattle.doc_grammar.specs.RawNames.{RawName, plain_name, prefixed_name, written_name, RawTag, with_attribute, tag_named}
use Rattle.doc_grammar.specs.Scopes.{Opened, opened, top_scope}
use Rattle.doc_grammar.specs.Lines.{text_of}
use Rattle.doc_grammar.specs.Lexemes.{Spaces, NCName, Reference, Misc, Section}
use Rattle.doc_grammar.specs.Forms.{Spelled}
use Rattle.doc_grammar.specs.Prolog.{xml_declaration, doctype_declaration}
use Rattle.xt_names.specs.Characters.{is_space, is_quote, Ends}

-- how many elements are open at most
abbrev pub limit : ℕ
limit = 2000

-- what a start tag gives in a scope
abbrev pub Rules : Type 0
Rules = List Binding → RawTag → Option Opened

-- QName ::= PrefixedName | UnprefixedName; PrefixedName ::= Prefix ':' LocalPart
pub data QName : List ℕ → RawName → List ℕ → Type 0 where
  plain : {ts name rest : List ℕ} → NCName ts name rest → Ends is_colon rest → QName ts (plain_name name) rest
  prefixed : {ts prefix mid local rest : List ℕ} → NCName ts prefix (58 ∷ mid) → NCName mid local rest → QName ts (prefixed_name prefix local) rest

-- Eq ::= S? '=' S?
pub data Equals : List ℕ → List ℕ → Type 0 where
  equals : {ts mid rest : List ℕ} → Spaces ts (61 ∷ mid) → Spaces mid rest → Equals ts rest

-- The rest of an AttValue up to its quote, whose value so far is `read`.
pub data Valued (quote : ℕ) : List ℕ → List ℕ → List ℕ → List ℕ → Type 0 where
  more : {c : ℕ} {read ts value rest : List ℕ} → is_value quote c ≡ true → Valued quote (read ++ as_value c ∷ []) ts value rest → Valued quote read (c ∷ ts) value rest
  refers : {v : ℕ} {read ts mid value rest : List ℕ} → Reference ts v mid → Valued quote (read ++ v ∷ []) mid value rest → Valued quote read (38 ∷ ts) value rest
  whole : {value rest : List ℕ} → Valued quote value (quote ∷ rest) value rest

-- `>` or `/` comes first
pub data AtEnd : List ℕ → Type 0 where
  close : {ts : List ℕ} → AtEnd (62 ∷ ts)
  slash : {ts : List ℕ} → AtEnd (47 ∷ ts)

mutual
  -- (S Attribute)* S?, after the name and the attributes so far
  pub data Attributes : RawTag → List ℕ → RawTag → List ℕ → Type 0 where
    none : {t : RawTag} {rest : List ℕ} → AtEnd rest → Attributes t rest t rest
    space : {c : ℕ} {t whole : RawTag} {ts rest : List ℕ} → is_space c ≡ true → Spaced t ts whole rest → Attributes t (c ∷ ts) whole rest

  -- the same after white space; Attribute ::= Name Eq AttValue
  pub data Spaced : RawTag → List ℕ → RawTag → List ℕ → Type 0 where
    no_more : {t : RawTag} {rest : List ℕ} → AtEnd rest → Spaced t rest t rest
    again : {c : ℕ} {t whole : RawTag} {ts rest : List ℕ} → is_space c ≡ true → Spaced t ts whole rest → Spaced t (c ∷ ts) whole rest
    attribute : {quote : ℕ} {t whole : RawTag} {name : RawName} {ts eq mid value after rest : List ℕ} → QName ts name eq → Equals eq (quote ∷ mid) → is_quote quote ≡ true → Valued quote [] mid value after → Attributes (with_attribute t name value) after whole rest → Spaced t ts whole rest

-- ETag ::= '</' Name S? '>', of which these characters of the name are left
pub data EndTag : List ℕ → List ℕ → List ℕ → Type 0 where
  same : {c : ℕ} {left ts rest : List ℕ} → EndTag left ts rest → EndTag (c ∷ left) (c ∷ ts) rest
  closing : {ts rest : List ℕ} → Spaces ts (62 ∷ rest) → EndTag [] ts rest

-- the element that was opened so, with these children
abbrev pub element_of : Opened → List Tree → Tree
element_of o kids = Elem o.name o.attributes (forest_of kids)

-- a text node, where there is a text
abbrev pub text_nodes : List ℕ → List Tree
text_nodes [] = []
text_nodes (c ∷ cs) = Text (c ∷ cs) ∷ []

mutual
  -- element ::= EmptyElemTag | STag content ETag, inside of k open elements
  pub data Element (rules : Rules) : ℕ → List Binding → List ℕ → Tree → List ℕ → Type 0 where
    empty : {k : ℕ} {scope : List Binding} {name : RawName} {t : RawTag} {o : Opened} {ts mid rest : List ℕ} → k < limit → QName ts name mid → Attributes (tag_named name) mid t (47 ∷ 62 ∷ rest) → rules scope t ≡ Some o → Element rules k scope (60 ∷ ts) (element_of o []) rest
    full : {k : ℕ} {scope : List Binding} {name : RawName} {t : RawTag} {o : Opened} {ts mid inner end rest : List ℕ} {kids : List Tree} → k < limit → QName ts name mid → Attributes (tag_named name) mid t (62 ∷ inner) → rules scope t ≡ Some o → Content rules (suc k) o.scope 0 [] inner kids (60 ∷ 47 ∷ end) → EndTag (written_name t.name) end rest → Element rules k scope (60 ∷ ts) (element_of o kids) rest

  -- content ::= CharData? ((element | Reference | CDSect | PI | Comment) CharData?)*, after the text so far and so many `]`, up to an end tag
  pub data Content (rules : Rules) : ℕ → List Binding → ℕ → List ℕ → List ℕ → List Tree → List ℕ → Type 0 where
    at_end_tag : {k n : ℕ} {scope : List Binding} {text ts : List ℕ} → Content rules k scope n text (60 ∷ 47 ∷ ts) (text_nodes text) (60 ∷ 47 ∷ ts)
    says : {k n c : ℕ} {scope : List Binding} {text ts rest : List ℕ} {kids : List Tree} → may_stand n c ≡ true → Content rules k scope (brackets_behind n c) (text ++ c ∷ []) ts kids rest → Content rules k scope n text (c ∷ ts) kids rest
    refers : {k n v : ℕ} {scope : List Binding} {text ts mid rest : List ℕ} {kids : List Tree} → Reference ts v mid → Content rules k scope 0 (text ++ v ∷ []) mid kids rest → Content rules k scope n text (38 ∷ ts) kids rest
    quotes : {k n : ℕ} {scope : List Binding} {text ts more mid rest : List ℕ} {kids : List Tree} → Section ts more mid → Content rules k scope 0 (text ++ more) mid kids rest → Content rules k scope n text ts kids rest
    child : {k n : ℕ} {scope : List Binding} {text ts mid rest : List ℕ} {tree : Tree} {kids : List Tree} → Element rules k scope ts tree mid → Content rules k scope 0 [] mid kids rest → Content rules k scope n text ts (text_nodes text ++ tree ∷ kids) rest
    aside : {k n : ℕ} {scope : List Binding} {text ts mid rest : List ℕ} {tree : Tree} {kids : List Tree} → Misc ts tree mid → Content rules k scope 0 [] mid kids rest → Content rules k scope n text ts (text_nodes text ++ tree ∷ kids) rest

-- What has been read of the document: nothing, no DOCTYPE, no root, or the root.
pub data Level : Type 0 where
  blank : Level
  fresh : Level
  typed : Level
  rooted : Level

-- something is read
abbrev pub begun : Level → Level
begun blank = fresh
begun fresh = fresh
begun typed = typed
begun rooted = rooted

-- a DOCTYPE may still come
abbrev pub may_type : Level → Bool
may_type blank = true
may_type fresh = true
may_type typed = false
may_type rooted = false

-- the root may still come
abbrev pub may_root : Level → Bool
may_root blank = true
may_root fresh = true
may_root typed = true
may_root rooted = false

-- document ::= XMLDecl? Misc* (doctypedecl Misc*)? element Misc*, after the children so far; `Misc` here has no white space
pub data Top (rules : Rules) : Level → List Tree → List ℕ → Tree → Type 0 where
  declares : {kids : List Tree} {ts mid : List ℕ} {w : Tree} → Spelled xml_declaration ts mid → Top rules fresh kids mid w → Top rules blank kids (60 ∷ 63 ∷ 120 ∷ 109 ∷ 108 ∷ ts) w
  space : {l : Level} {c : ℕ} {kids : List Tree} {ts : List ℕ} {w : Tree} → is_space c ≡ true → Top rules (begun l) kids ts w → Top rules l kids (c ∷ ts) w
  aside : {l : Level} {kids : List Tree} {ts mid : List ℕ} {tree w : Tree} → Misc ts tree mid → Top rules (begun l) (kids ++ tree ∷ []) mid w → Top rules l kids ts w
  types : {l : Level} {kids : List Tree} {ts mid : List ℕ} {w : Tree} → may_type l ≡ true → Spelled doctype_declaration ts mid → Top rules typed kids mid w → Top rules l kids (60 ∷ 33 ∷ ts) w
  root : {l : Level} {kids : List Tree} {ts mid : List ℕ} {tree w : Tree} → may_root l ≡ true → Element rules 0 top_scope ts tree mid → Top rules rooted (kids ++ tree ∷ []) mid w → Top rules l kids ts w
  ends : {kids : List Tree} → Top rules rooted kids [] (Doc (forest_of kids))

-- a text by these rules on names
abbrev pub IsText : Rules → List ℕ → Tree → Type 0
IsText rules ts tree = Top rules blank [] ts tree

-- the characters are a document
abbrev pub IsDocumentText : List ℕ → Tree → Type 0
IsDocumentText ts tree = IsText opened ts tree

-- the bytes are UTF-8, and their characters are a document
abbrev pub IsDocument : List ℕ → Tree → Type 0
IsDocument bytes tree = IsUtf8 bytes × IsDocumentText (text_of (chars bytes)) tree
