-- Where the files of links lie (XSLT 2.0, 3.10.2). A name has no slash, or is a folder with the name
-- of a file after its last slash.
use Rattle.std.specs.Prelude.{◌≡◌, ℕ, List, ◌∷◌, ◌++◌, false}
use Rattle.std.specs.List.{list_any}
use Rattle.sheet_modules.specs.ModuleNames.Names.{is_slash, begins_at_root, resolved}

-- in place of the importer's file stands the href
abbrev pub LiesInTheFolder : Type 0
LiesInTheFolder = (folder file href : List ℕ) → list_any is_slash file ≡ false
    → begins_at_root href ≡ false
    → resolved (folder ++ 47 ∷ file) href ≡ folder ++ 47 ∷ href

abbrev pub NeedsNoFolder : Type 0
NeedsNoFolder = (file href : List ℕ) → list_any is_slash file ≡ false → resolved file href ≡ href

abbrev pub BeginsAtTheRoot : Type 0
BeginsAtTheRoot = (importer path : List ℕ) → resolved importer (47 ∷ path) ≡ 47 ∷ path
