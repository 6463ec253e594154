-- Pieces that reach past the end of a list.
use Rattle.std.proofs.Common.{◌≡◌, ◌≤◌, ℕ, List, [], length, drop}
use Rattle.std.proofs.lemmas.List.{drop_all}

pub all_dropped : {A : Type 0} (i : ℕ) (xs : List A) → length xs ≤ i → drop i xs ≡ []
all_dropped i xs h = drop_all i xs h
