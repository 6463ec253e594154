-- Names and tags as they are written, with prefixes.
use Rattle.std.specs.Prelude.{ℕ, List, [], ◌∷◌, ◌++◌, Option, Some, None}

-- a name as it is written: the part before its colon, where it has one, and the other part
pub record RawName : Type 0 where
  pub prefix : Option (List ℕ)
  pub local : List ℕ

abbrev pub plain_name : List ℕ → RawName
plain_name local = record { prefix = None; local = local }

abbrev pub prefixed_name : List ℕ → List ℕ → RawName
prefixed_name prefix local = record { prefix = Some prefix; local = local }

abbrev pub written_behind : Option (List ℕ) → List ℕ → List ℕ
written_behind None local = local
written_behind (Some prefix) local = prefix ++ (58 ∷ local)

-- the characters of a name
abbrev pub written_name : RawName → List ℕ
written_name name = written_behind name.prefix name.local

-- an attribute as it is written: its name, and its value
pub record RawAttribute : Type 0 where
  pub name : RawName
  pub value : List ℕ

-- a start tag as it is written
pub record RawTag : Type 0 where
  pub name : RawName
  pub attributes : List RawAttribute

-- the tag with one attribute more
abbrev pub with_attribute : RawTag → RawName → List ℕ → RawTag
with_attribute t name value = record { name = t.name; attributes = t.attributes ++ record { name = name; value = value } ∷ [] }

-- a start tag with no attribute read
abbrev pub tag_named : RawName → RawTag
tag_named name = record { name = name; attributes = [] }
