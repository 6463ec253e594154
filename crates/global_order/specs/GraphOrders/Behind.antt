-- Rows of which each has places before its own alone.
use Rattle.std.specs.Prelude.{ℕ, List, [], ◌∷◌, ◌+◌, length, Bool, true, ◌&&◌, nat_eq, nat_lt}
use Rattle.std.specs.List.{list_all}

abbrev pub all_below : ℕ → List ℕ → Bool
all_below most numbers = list_all (λ n. nat_lt n most) numbers

-- each has those before it alone; so many come before the first of these
abbrev pub are_behind : ℕ → List (List ℕ) → Bool
are_behind before [] = true
are_behind before (row ∷ rows) = all_below before row && are_behind (before + 1) rows

-- each of these numbers is its place; so many come before the first of these
abbrev pub are_in_place : ℕ → List ℕ → Bool
are_in_place before [] = true
are_in_place before (n ∷ numbers) = nat_eq n before && are_in_place (before + 1) numbers

-- so many numbers, each of which is its place
unfoldable pub is_whole_order : ℕ → List ℕ → Bool
is_whole_order count numbers = nat_eq (length numbers) count && are_in_place 0 numbers
