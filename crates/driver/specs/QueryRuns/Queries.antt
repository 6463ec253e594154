-- Queries as the files hold them, what they give on documents, and why there is no text of it.
use Rattle.std.specs.Prelude.{◌≡◌, ℕ, ◌+◌, List, [], ◌∷◌, length, Bool, ⊤, ◌⊎◌, Option, None, Some}
use Rattle.std.specs.Prelude.{if◌then◌else◌}
use Rattle.std.specs.Str.{IsUtf8, chars, encode_utf8_all}
use Rattle.xt_io.specs.Files.{FilesState}
use Rattle.xt_names.specs.declared.codes.Code.{Code}
use Rattle.xt_names.specs.declared.codes.Code.TheVariants as code_variants
use Rattle.xt_names.specs.declared.codes.DynamicCode.TheVariants.{SENR0001}
use Rattle.xt_names.specs.declared.codes.QueryStaticCode.TheVariants.{XPST0003}
use Rattle.xt_names.specs.declared.codes.SheetStaticCode.TheVariants.{XTLM0004}
use Rattle.xt_types.specs.declared.node_tests.SpaceRule.{SpaceRule}
use Rattle.xt_tree.specs.declared.trees.Tree.{Tree}
use Rattle.xdm_items.specs.declared.items.Item.{Item}
use Rattle.xdm_items.specs.declared.items.Item.TheVariants.{Node as a_node}
use Rattle.doc_set.specs.Sets.{DocumentSet}
use Rattle.doc_writer.specs.WrittenItems.{written_items, written_items_bare}
use Rattle.doc_set.specs.WhiteSpace.Stripped.{stripped}
use Rattle.xt_syntax.specs.declared.queries.Query.{Query}
use Rattle.xt_syntax.specs.declared.prefixes.ParseFault.{ParseFault}
use Rattle.xt_syntax.specs.declared.prefixes.ParseFault.TheVariants.{Syntax, TooDeep}
use Rattle.xt_syntax.specs.declared.prefixes.ParseFault.TheVariants as parse_variants
use Rattle.xquery_syntax.specs.Spelled.{SpellsWithin, BreaksFirst, IsTooDeep, Misspelt}
use Rattle.expr_meaning.specs.Outcomes.Outcome.{Outcome, Ends, Fails}
use Rattle.expr_meaning.specs.Outcomes.Outcome as outcome
use Rattle.expr_meaning.specs.Queries.{query_outcome}
use Rattle.command_words.specs.Requests.{Inputs}
use Rattle.command_words.specs.declared.parameters.Parameter.{Parameter}
use Rattle.xquery_eval.specs.declared.params.Param.{Param}
use Rattle.xt_io.specs.Loads.{Holdings, HoldsBytes, IsLoadFailure, IsTooLong}
use Rattle.run_parts.specs.declared.status.Status.{Status}
use Rattle.run_parts.specs.declared.status.Status.TheVariants.{Load, TooLong, Static, Dynamic}
use Rattle.run_parts.specs.declared.status.Status.TheVariants.{Deep, Memory}

-- how many levels the expressions of a query may nest
abbrev pub nest_limit : ℕ
nest_limit = 400

-- the bytes are a text that spells this query
pub record IsQuery (bytes : List ℕ) (query : Query) : Type 0 where
  pub utf8 : IsUtf8 bytes
  pub spells : SpellsWithin nest_limit (chars bytes) query

-- why a text is no query: it spells none, breaks a static rule, or nests more deeply
pub data IsNone (text : List ℕ) (code : Code) : Type 0 where
  misspelt : code ≡ code_variants.QueryStatic XPST0003 → Misspelt nest_limit text
      → IsNone text code
  breaks : BreaksFirst nest_limit text code → IsNone text code
  too_deep : code ≡ code_variants.SheetStatic XTLM0004 → IsTooDeep nest_limit text
      → IsNone text code

-- why bytes are no query: they are no text, or one that is none
abbrev pub IsNoQuery : List ℕ → Code → Type 0
IsNoQuery bytes code =
    ((code ≡ code_variants.QueryStatic XPST0003) × ¬ (IsUtf8 bytes))
    ⊎ IsNone (chars bytes) code

abbrev pub IsNoneAs : List ℕ → Status → Type 0
IsNoneAs text (Static code) = IsNone text code
IsNoneAs text Memory = ⊤
IsNoneAs text _ = ⊥

abbrev pub IsNoQueryAs : List ℕ → Status → Type 0
IsNoQueryAs bytes (Static code) = IsNoQuery bytes code
IsNoQueryAs bytes Memory = ⊤
IsNoQueryAs bytes _ = ⊥

-- what is said of a text that is no query
abbrev pub told_of : ParseFault → Status
told_of Syntax = Static (code_variants.QueryStatic XPST0003)
told_of (parse_variants.Static code) = Static code
told_of TooDeep = Static (code_variants.SheetStatic XTLM0004)
told_of (parse_variants.Memory e) = Memory

-- the bytes under the name are this query
pub record HoldsQuery (files : Holdings) (name : List ℕ) (query : Query) : Type 0 where
  pub bytes : List ℕ
  pub held : HoldsBytes files name bytes
  pub stands : IsQuery bytes query

pub record HoldsSomeQuery (files : Holdings) (name : List ℕ) : Type 0 where
  pub query : Query
  pub held : HoldsQuery files name query

-- the bytes under the name are no query
pub record HoldsNoQuery (files : Holdings) (name : List ℕ) (code : Code) : Type 0 where
  pub bytes : List ℕ
  pub held : HoldsBytes files name bytes
  pub none : IsNoQuery bytes code

-- why a query is not loaded and read
abbrev pub IsQueryRefusedAs : List ℕ → FilesState → FilesState → Status → Type 0
IsQueryRefusedAs file old new (Load name) =
    (encode_utf8_all name ≡ file) × IsLoadFailure old new file
IsQueryRefusedAs file old new (TooLong name n) =
    (encode_utf8_all name ≡ file) × IsTooLong old new file n
IsQueryRefusedAs file old new (Static code) = HoldsNoQuery old.held file code
IsQueryRefusedAs file old new Memory = ⊤
IsQueryRefusedAs file old new _ = ⊥

-- the documents that doc() finds: each under its name, without the white space that the rules strip
abbrev pub set_of : List SpaceRule → List (List ℕ) → List Tree → DocumentSet
set_of rules [] trees = []
set_of rules (name ∷ names) [] = []
set_of rules (name ∷ names) (tree ∷ trees) =
    (name, stripped rules tree) ∷ set_of rules names trees

-- a parameter as the value of an external variable
abbrev pub param_of : Parameter → Param
param_of p = record { name = p.name; value = p.value }

-- how a query ends at a document, which has the number 0; those of the set have the next numbers
unfoldable pub outcome_on : Query → Tree → DocumentSet → Inputs → Outcome (List Item)
outcome_on query document set inputs = query_outcome
    (record { query = query; documents = set; given = inputs.parameters })
    (a_node (record { number = 0; tree = document; path = []; attribute = None }))
    inputs.depth (length set + 1)

-- how a query ends on documents, which are stripped by its rules first
abbrev pub items_of : Query → Inputs → Tree → List Tree → Outcome (List Item)
items_of query inputs document documents =
    outcome_on query (stripped query.space document)
    (set_of query.space inputs.documents documents) inputs

-- the text of the items, without the XML declaration where that is to be left out
abbrev pub written_for : Bool → List Item → Option (List ℕ)
written_for omit items = if omit then written_items_bare items else written_items items

-- the query ends with items, and the text is that of the items
pub record Gives (query : Query) (inputs : Inputs) (document : Tree) (documents : List Tree)
    (text : List ℕ) : Type 0 where
  pub items : List Item
  pub next : ℕ
  pub ends : items_of query inputs document documents ≡ Ends items next
  pub written : written_for query.omit items ≡ Some text

-- the query ends with items that have no text, since an attribute is among them
pub record GivesNoText (query : Query) (inputs : Inputs) (document : Tree) (documents : List Tree)
    : Type 0 where
  pub items : List Item
  pub next : ℕ
  pub ends : items_of query inputs document documents ≡ Ends items next
  pub unwritten : written_for query.omit items ≡ None

-- why a run of a query gives no items
abbrev pub IsRunRefusedAs : Outcome (List Item) → ℕ → Status → Type 0
IsRunRefusedAs o depth (Dynamic code) = o ≡ Fails code
IsRunRefusedAs o depth (Deep told) = (told ≡ depth) × (o ≡ outcome.Deep)
IsRunRefusedAs o depth Memory = ⊤
IsRunRefusedAs o depth _ = ⊥

-- why items have no text
abbrev pub IsUnwrittenAs : Option (List ℕ) → Status → Type 0
IsUnwrittenAs text (Dynamic code) = (code ≡ code_variants.Dynamic SENR0001) × (text ≡ None)
IsUnwrittenAs text Memory = ⊤
IsUnwrittenAs text _ = ⊥

-- the query fails with the code, or its items have no text
abbrev pub IsFailingOn : Query → Inputs → Tree → List Tree → Code → Type 0
IsFailingOn query inputs document documents code =
    (items_of query inputs document documents ≡ Fails code)
    ⊎ ((code ≡ code_variants.Dynamic SENR0001) × GivesNoText query inputs document documents)

-- why no text is given
abbrev pub IsNotGivenAs : Query → Inputs → Tree → List Tree → Status → Type 0
IsNotGivenAs query inputs document documents (Dynamic code) =
    IsFailingOn query inputs document documents code
IsNotGivenAs query inputs document documents (Deep depth) =
    (depth ≡ inputs.depth) × (items_of query inputs document documents ≡ outcome.Deep)
IsNotGivenAs query inputs document documents Memory = ⊤
IsNotGivenAs query inputs document documents _ = ⊥
