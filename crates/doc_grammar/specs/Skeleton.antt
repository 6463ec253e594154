-- The skeleton of a document: its grammar without the rules on names. What it means that a reading stops at the first fault.
use Rattle.std.specs.Prelude.{◌≡◌, ℕ, List, [], ◌∷◌, ◌++◌, Option, Some, None}
use Rattle.std.specs.Option.{option_and_then}
use Rattle.xt_names.specs.declared.names.Binding.{Binding}
use Rattle.xt_names.specs.declared.names.Name.{Name}
use Rattle.xt_tree.specs.declared.attributes.Attribute.{Attribute}
use Rattle.xt_tree.specs.declared.trees.Tree.{Tree}
use Rattle.doc_grammar.specs.RawNames.{RawName, RawAttribute, RawTag, tag_named}
use Rattle.doc_grammar.specs.Scopes.{Opened, opened, declarations}
use Rattle.doc_grammar.specs.Document.{Rules, IsText}
use Rattle.doc_grammar.specs.Machine.{Stack, State, naming, tagged, spaced, slashed, scope_of, NameState, name_step, behind_name, step, start, Stop, names, deep, entity, subset, encoding, other}

abbrev pub or_no_prefix : Option (List ℕ) → List ℕ
or_no_prefix None = []
or_no_prefix (Some prefix) = prefix

-- a name as it is written, in no namespace
abbrev pub unbound : RawName → Name
unbound name = record { prefix = or_no_prefix name.prefix; uri = []; local = name.local }

abbrev pub unbound_attributes : List RawAttribute → List Attribute
unbound_attributes [] = []
unbound_attributes (a ∷ more) = record { name = unbound a.name; value = a.value } ∷ unbound_attributes more

abbrev pub or_unbound : List Binding → RawTag → Option Opened → Opened
or_unbound scope t None = record { name = unbound t.name; attributes = unbound_attributes t.attributes; scope = scope ++ declarations t.attributes }
or_unbound scope t (Some o) = o

-- what a start tag opens; where it breaks a rule on names, its names as they are written
unfoldable pub anyhow : Rules
anyhow scope t = Some (or_unbound scope t (opened scope t))

-- the characters begin the skeleton of some document
abbrev pub Begins : List ℕ → Type 0
Begins front = (rest : List ℕ) × (tree : Tree) × IsText anyhow (front ++ rest) tree

-- where the reader comes after these characters
abbrev pub after : Rules → List ℕ → State → Option State
after rules [] s = Some s
after rules (c ∷ cs) s = option_and_then (after rules cs) (step rules s c)

-- the reader stands before the `>` of this start tag, in these open elements
pub data EndsTag : State → RawTag → Stack → Type 0 where
  in_name : {n : NameState} {name : RawName} {st : Stack} → name_step n 62 ≡ behind_name name → EndsTag (naming n st) (tag_named name) st
  behind_attribute : {t : RawTag} {st : Stack} → EndsTag (tagged t st) t st
  behind_space : {t : RawTag} {st : Stack} → EndsTag (spaced t st) t st
  behind_slash : {t : RawTag} {st : Stack} → EndsTag (slashed t st) t st

-- what ends with these characters is a start tag that breaks a rule on names, and no other did before
abbrev pub BreaksNames : List ℕ → Type 0
BreaksNames front = (s : State) × (t : RawTag) × (st : Stack) × (after opened front start ≡ Some s) × EndsTag s t st × (opened (scope_of st) t ≡ None)

-- no document begins so
abbrev pub BeginsNone : List ℕ → Type 0
BeginsNone front = (rest : List ℕ) (tree : Tree) → IsText opened (front ++ rest) tree → ⊥

-- the front begins a skeleton, and no skeleton goes on with the character that follows it
abbrev pub IsLongest : List ℕ → List ℕ → Type 0
IsLongest front rest = Begins front × ((c : ℕ) (more : List ℕ) → rest ≡ c ∷ more → Begins (front ++ c ∷ []) → ⊥)

-- with `>` the front begins a skeleton and no document, since the start tag that it ends breaks a rule on names
abbrev pub IsFirstTag : List ℕ → List ℕ → Type 0
IsFirstTag front rest = ((more : List ℕ) × (rest ≡ 62 ∷ more)) × Begins (front ++ 62 ∷ []) × BeginsNone (front ++ 62 ∷ []) × BreaksNames front

-- the first fault of a text is between the front and the rest
abbrev pub IsFirstFault : Stop → List ℕ → List ℕ → Type 0
IsFirstFault names front rest = IsFirstTag front rest
IsFirstFault deep front rest = IsLongest front rest
IsFirstFault entity front rest = IsLongest front rest
IsFirstFault subset front rest = IsLongest front rest
IsFirstFault encoding front rest = IsLongest front rest
IsFirstFault other front rest = IsLongest front rest
