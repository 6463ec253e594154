-- Which of the last places of a graph are reached from the first ones.
use Rattle.std.specs.Prelude.{ℕ, zero, suc, List, [], ◌∷◌, ◌++◌, ◌-◌, nat_lt, if◌then◌else◌}
use Rattle.global_order.specs.ReachedPlaces.Walks.{reached_from}
use Rattle.global_order.specs.Order.{Graph}

-- the number of the place among those from this one on
abbrev pub target : ℕ → ℕ → List ℕ
target at place = if nat_lt place at then [] else (place - at) ∷ []

abbrev pub targets : ℕ → List ℕ → List ℕ
targets at [] = []
targets at (p ∷ ps) = target at p ++ targets at ps

-- those that are reached from one place
abbrev pub needs_of : Graph → ℕ → ℕ → List ℕ
needs_of graph at place = targets at (reached_from graph place)

-- .. from each of so many from this one on
abbrev pub needs_from : ℕ → ℕ → Graph → ℕ → List (List ℕ)
needs_from zero place graph at = []
needs_from (suc k) place graph at =
    needs_of graph at place ∷ needs_from k (suc place) graph at
