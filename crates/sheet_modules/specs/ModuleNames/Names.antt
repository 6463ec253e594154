-- The names of the files that the links of a stylesheet lead to (XSLT 2.0, 3.10.2).
use Rattle.std.specs.Prelude.{ℕ, List, [], ◌∷◌, ◌++◌, Bool, false, if◌then◌else◌, nat_eq}
use Rattle.std.specs.List.{list_any}

abbrev pub is_slash : ℕ → Bool
is_slash c = nat_eq c 47

-- a name up to and with its last slash
abbrev pub folder_of : List ℕ → List ℕ
folder_of [] = []
folder_of (c ∷ cs) = if list_any is_slash (c ∷ cs) then c ∷ folder_of cs else []

abbrev pub begins_at_root : List ℕ → Bool
begins_at_root [] = false
begins_at_root (c ∷ cs) = is_slash c

-- the file that an href leads to in the module of this name
abbrev pub resolved : List ℕ → List ℕ → List ℕ
resolved importer href =
    if begins_at_root href then href else folder_of importer ++ href
