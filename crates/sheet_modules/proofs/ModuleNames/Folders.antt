-- Folders of names with one more character, and of names in folders.
use Rattle.std.proofs.Common.{◌≡◌, ℕ, List, [], ◌∷◌, ◌++◌, Bool, true, false, ◌||◌, if◌then◌else◌, refl, sym, ap, ◌∙◌, append_assoc, append-nil, Some, slice_get}
use Rattle.std.proofs.lemmas.List.Folds.{list_any-append}
use Rattle.std.specs.List.{list_any}
use Rattle.std.specs.Str.{chars}
use Rattle.sheet_modules.specs.ModuleNames.Names.{is_slash, folder_of, begins_at_root}
use Rattle.sheet_modules.specs.ModuleNames.Laws.{LiesInTheFolder, NeedsNoFolder, BeginsAtTheRoot}
use Rattle.std.proofs.Math.Bool.{or-true, or-false}

-- a slash stands somewhere behind
has_slash : (xs ys : List ℕ) (c : ℕ) → is_slash c ≡ true → list_any is_slash (xs ++ c ∷ ys) ≡ true
has_slash xs ys c h =
    list_any-append is_slash xs (c ∷ ys) ∙ ap (λ (b : Bool). list_any is_slash xs || (b || list_any is_slash ys)) h
    ∙ or-true (list_any is_slash xs)

-- a character that is no slash makes none
no_more : (xs : List ℕ) (c : ℕ) → is_slash c ≡ false → list_any is_slash (xs ++ c ∷ []) ≡ list_any is_slash xs
no_more xs c h =
    list_any-append is_slash xs (c ∷ []) ∙ ap (λ (b : Bool). list_any is_slash xs || (b || false)) h
    ∙ or-false (list_any is_slash xs)

-- without a slash there is no folder
no_folder : (file : List ℕ) → list_any is_slash file ≡ false → folder_of file ≡ []
no_folder [] h = refl
no_folder (c ∷ cs) h = rw h refl

-- a slash ends a folder
folder_of-slash : (xs : List ℕ) (c : ℕ) → is_slash c ≡ true → folder_of (xs ++ c ∷ []) ≡ xs ++ c ∷ []
folder_of-slash [] c h = rw h refl
folder_of-slash (x ∷ xs) c h =
    rw (has_slash (x ∷ xs) [] c h) (ap (λ (cs : List ℕ). x ∷ cs) (folder_of-slash xs c h))

-- any other character does not change it
folder_of-other : (xs : List ℕ) (c : ℕ) → is_slash c ≡ false → folder_of (xs ++ c ∷ []) ≡ folder_of xs
folder_of-other [] c h = rw h refl
folder_of-other (x ∷ xs) c h = rw (no_more (x ∷ xs) c h, folder_of-other xs c h) refl

-- the name of the file does not belong to it
folder_of-file : (folder file : List ℕ) → list_any is_slash file ≡ false
    → folder_of (folder ++ 47 ∷ file) ≡ folder ++ 47 ∷ []
folder_of-file [] file h = ap (λ (cs : List ℕ). 47 ∷ cs) (no_folder file h)
folder_of-file (x ∷ folder) file h =
    rw (has_slash (x ∷ folder) file 47 refl) (ap (λ (cs : List ℕ). x ∷ cs) (folder_of-file folder file h))

-- the loop comes to a slash, or to another character
pub slash_turn : (seen folder part whole more : List ℕ) (c : ℕ) → is_slash c ≡ true
    → folder ++ part ≡ seen → whole ≡ part ++ c ∷ [] → more ≡ folder ++ whole
    → (more ≡ folder_of (seen ++ c ∷ [])) × (more ++ [] ≡ seen ++ c ∷ [])
slash_turn seen folder part whole more c h e w m =
    let joined : more ≡ seen ++ c ∷ [] =
    m ∙ ap (λ (l : List ℕ). folder ++ l) w ∙ sym (append_assoc folder part (c ∷ []))
    ∙ ap (λ (l : List ℕ). l ++ c ∷ []) e in
    (joined ∙ sym (folder_of-slash seen c h), rw append-nil joined)

pub other_turn : (seen folder part more : List ℕ) (c : ℕ) → is_slash c ≡ false
    → folder ≡ folder_of seen → folder ++ part ≡ seen → more ≡ part ++ c ∷ []
    → (folder ≡ folder_of (seen ++ c ∷ [])) × (folder ++ more ≡ seen ++ c ∷ [])
other_turn seen folder part more c h f e m = (
  f ∙ sym (folder_of-other seen c h),
  ap (λ (l : List ℕ). folder ++ l) m ∙ sym (append_assoc folder part (c ∷ []))
      ∙ ap (λ (l : List ℕ). l ++ c ∷ []) e,
)

-- the first character, as its iterator gives it
first_char : (cs : List ℕ) (x : ℕ) → Some x ≡ slice_get cs 0 → is_slash x ≡ begins_at_root cs
first_char [] x e = cc
first_char (y ∷ cs) x e = let same : x ≡ y = cc in ap is_slash same

pub begins_by_first : (s rest : List ℕ) (x : ℕ) (r : Bool) → rest ≡ s → Some x ≡ slice_get (chars rest) 0
    → r ≡ is_slash x → r ≡ begins_at_root (chars s)
begins_by_first s rest x r e f g = rw (← e) (g ∙ first_char (chars rest) x f)

pub in_the_folder : LiesInTheFolder
in_the_folder folder file href h k =
    rw k (ap (λ (l : List ℕ). l ++ href) (folder_of-file folder file h) ∙ append_assoc folder (47 ∷ []) href)

either : (b : Bool) (href : List ℕ) → (if b then href else href) ≡ href
either true href = refl
either false href = refl

pub needs_none : NeedsNoFolder
needs_none file href h = rw (no_folder file h) (either (begins_at_root href) href)

pub at_the_root : BeginsAtTheRoot
at_the_root importer path = refl

pub ruleset laws = (in_the_folder, needs_none, at_the_root)
