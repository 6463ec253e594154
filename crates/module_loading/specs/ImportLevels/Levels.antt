-- Import precedence (XSLT 2.0, 3.10.3): the post-order of the import tree over stylesheet levels,
-- from 1. A module that is included belongs to the level of the module that includes it.
use Rattle.std.specs.Prelude.{ℕ, ◌+◌, List, [], ◌∷◌, ◌++◌}

-- the links of a module in order, each with the links of the module that it names and then the
-- links after it
pub data Links : Type 0 where
  nothing : Links
  import : Links → Links → Links
  include : Links → Links → Links

-- how many levels the links make
abbrev pub level_count : Links → ℕ
level_count nothing = 0
level_count (import below rest) = level_count below + 1 + level_count rest
level_count (include below rest) = level_count below + level_count rest

-- the levels of the modules after the links of a module of the level `own`, in the order of
-- loading; so many levels are numbered before
abbrev pub placed : ℕ → ℕ → Links → List ℕ
placed before own nothing = []
placed before own (import below rest) =
    (before + level_count below + 1)
    ∷ (placed before (before + level_count below + 1) below
    ++ placed (before + level_count below + 1) own rest)
placed before own (include below rest) =
    own ∷ (placed before own below ++ placed (before + level_count below) own rest)

-- the modules of a stylesheet whose first module has these links
abbrev pub modules_of : Links → List ℕ
modules_of links = (level_count links + 1) ∷ placed 0 (level_count links + 1) links

-- for each level after the links, in order, the first of those that are imported into it
abbrev pub firsts : ℕ → Links → List ℕ
firsts before nothing = []
firsts before (import below rest) =
    firsts before below ++ (before + 1) ∷ firsts (before + level_count below + 1) rest
firsts before (include below rest) =
    firsts before below ++ firsts (before + level_count below) rest

abbrev pub firsts_of : Links → List ℕ
firsts_of links = firsts 0 links ++ 1 ∷ []
