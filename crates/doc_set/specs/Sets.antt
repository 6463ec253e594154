-- Sets of documents: trees under names.
use Rattle.std.specs.Prelude.{ℕ, ◌+◌, List, [], ◌∷◌, ◌++◌, map, length, position, slice_get, Bool, true, false, ◌&&◌, Option, Some, None, option_map, option_and_then, is_some, if◌then◌else◌}
use Rattle.std.specs.List.{list_all}
use Rattle.std.specs.Str.{bytes_eq}
use Rattle.xt_tree.specs.Place.{Place}
use Rattle.xt_tree.specs.Sound.{is_sound_tree}
use Rattle.xt_tree.specs.declared.trees.Tree.{Tree}
use Rattle.xt_tree.specs.declared.trees.Tree.TheVariants.{Doc, Elem, Text, Comment, Pi, Attr}

-- the documents in order, each with its name before it
abbrev pub DocumentSet : Type 0
DocumentSet = List (List ℕ × Tree)

abbrev pub names_of : DocumentSet → List (List ℕ)
names_of set = map (λ d. d.0) set

abbrev pub is_document : Tree → Bool
is_document (Doc kids) = true
is_document (Elem name attributes kids) = false
is_document (Text t) = false
is_document (Comment t) = false
is_document (Pi target t) = false
is_document (Attr name t) = false

abbrev pub is_sound_document : Tree → Bool
is_sound_document tree = is_document tree && is_sound_tree tree

abbrev pub are_sound_documents : DocumentSet → Bool
are_sound_documents set = list_all (λ d. is_sound_document d.1) set

-- where the document of that name stands, from 0
abbrev pub place_of : List ℕ → DocumentSet → Option ℕ
place_of name set = position (bytes_eq name) (names_of set)

abbrev pub is_named : List ℕ → DocumentSet → Bool
is_named name set = is_some (place_of name set)

-- the root of the tree at a place; trees are numbered from 1
abbrev pub root_at : DocumentSet → ℕ → Option Place
root_at set i = option_map (λ d. record { number = i + 1; tree = d.1; path = []; attribute = None }) (slice_get set i)

-- the root of the document of that name
abbrev pub root_named : List ℕ → DocumentSet → Option Place
root_named name set = option_and_then (root_at set) (place_of name set)

-- with the document at the end, unless its name is there
abbrev pub with_document : List ℕ → Tree → DocumentSet → DocumentSet
with_document name tree set = if is_named name set then set else set ++ (name, tree) ∷ []

-- the number that a document with this name gets, which is none where the name is there
abbrev pub next_number : List ℕ → DocumentSet → Option ℕ
next_number name set = if is_named name set then None else Some (length set + 1)
