-- A name is found among the functions of its first letter.
use Rattle.std.proofs.Common.{inl, inr, ◌≡◌, ℕ, List, [], ◌∷◌, ◌++◌, Option, Some, None, Bool, true, false, ◌==◌, refl, sym, ap, ◌∙◌, slice_get, length}
use Rattle.std.proofs.lemmas.Bool.{and_parts, eqb-true}
use Rattle.std.proofs.lemmas.Bool.Decides.{eqb_tells}
use Rattle.std.specs.List.{list_all}
use Rattle.std.specs.Str.{bytes_eq, chars}
use Rattle.std.proofs.lemmas.Str.{chars-nil}
use Rattle.std.proofs.lemmas.List.{nil_from_length}
use Rattle.function_table.specs.declared.builtins.Builtin.{Builtin}
use Rattle.function_table.specs.Table.{Row, joined, rows_under, table, groups}
use Rattle.function_table.specs.Find.{found_in}

-- the name begins with the character
abbrev pub text_begins : ℕ → List ℕ → Bool
text_begins d [] = false
text_begins d (x ∷ xs) = d == x

abbrev pub begins : ℕ → Row → Bool
begins d r = text_begins d r.name

abbrev pub all_begin : ℕ → List Row → Bool
all_begin d rows = list_all (begins d) rows

abbrev pub are_grouped : List (ℕ × List Row) → Bool
are_grouped gs = list_all (λ g. all_begin g.0 g.1) gs

other_name : (d c : ℕ) (cs name : List ℕ) → (c == d) ≡ false → text_begins d name ≡ true → bytes_eq (c ∷ cs) name ≡ false
other_name d c cs [] ne h = absurd (cc)
other_name d c cs (x ∷ xs) ne h = let same : d ≡ x = eqb-true d x h in rw (← same) (rw ne refl)

passes : (d c : ℕ) (cs : List ℕ) (n : ℕ) (rows rest : List Row) → (c == d) ≡ false → all_begin d rows ≡ true
    → found_in (rows ++ rest) (c ∷ cs) n ≡ found_in rest (c ∷ cs) n
unfolding found_in
passes d c cs n [] rest ne h = refl
passes d c cs n (r ∷ rows) rest ne h =
    let p = and_parts (begins d r) (all_begin d rows) h in
    rw (other_name d c cs r.name ne p.0) (passes d c cs n rows rest ne p.1)

keeps : (rows xs ys : List Row) (local : List ℕ) (n : ℕ) → found_in xs local n ≡ found_in ys local n
    → found_in (rows ++ xs) local n ≡ found_in (rows ++ ys) local n
unfolding found_in
keeps [] xs ys local n h = h
keeps (r ∷ rows) xs ys local n h = rw (keeps rows xs ys local n h) refl

pub found_under : (gs : List (ℕ × List Row)) (c : ℕ) (cs : List ℕ) (n : ℕ) → are_grouped gs ≡ true
    → found_in (joined gs) (c ∷ cs) n ≡ found_in (rows_under c gs) (c ∷ cs) n
unfolding joined rows_under
found_under [] c cs n h = refl
found_under (g ∷ gs) c cs n h =
    let p = and_parts (all_begin g.0 g.1) (are_grouped gs) h in
    let rest = found_under gs c cs n p.1 in
    elim (eqb_tells c g.0) [
      | inl same ↦ rw same.0 (keeps g.1 (joined gs) (rows_under c gs) (c ∷ cs) n rest)
      | inr other ↦ rw other.0 (passes g.0 c cs n g.1 (joined gs) other.0 p.0 ∙ rest)
    ]

-- the table's names have a first character
pub found_none : (n : ℕ) → found_in table [] n ≡ None
unfolding found_in joined
found_none n = refl

-- the table is grouped
pub found_in_table : (c : ℕ) (cs : List ℕ) (n : ℕ) → found_in (rows_under c groups) (c ∷ cs) n ≡ found_in table (c ∷ cs) n
found_in_table c cs n = sym (found_under groups c cs n refl)

first_of : (cs : List ℕ) (x n : ℕ) → Some x ≡ slice_get cs 0 → found_in (rows_under x groups) cs n ≡ found_in table cs n
first_of [] x n e = cc
first_of (y ∷ cs) x n e = let same : x ≡ y = cc in rw same (found_in_table y cs n)

-- the first character as an iterator gives it
pub found_by_first : (s rest : List ℕ) (x n : ℕ) (r : Option Builtin) → rest ≡ s → Some x ≡ slice_get (chars rest) 0
    → r ≡ found_in (rows_under x groups) (chars s) n → r ≡ found_in table (chars s) n
found_by_first s rest x n r e f g = g ∙ first_of (chars s) x n (rw (← e) f)

pub found_in_nothing : (s rest : List ℕ) (n : ℕ) → rest ≡ s → length rest ≡ 0 → None ≡ found_in table (chars s) n
found_in_nothing s rest n e h =
    let empty : s ≡ [] = nil_from_length s (ap length (sym e) ∙ h) in
    rw (empty, chars-nil) (sym (found_none n))
