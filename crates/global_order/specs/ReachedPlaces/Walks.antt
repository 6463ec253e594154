-- Which places of a graph are reached from a place.
use Rattle.std.specs.Prelude.{◌≡◌, ◌<◌, ◌↔◌, ℕ, zero, suc, List, [], ◌∷◌, ◌++◌, length}
use Rattle.std.specs.Prelude.{nat_eq, nat_lt, get_or, Bool, true, if◌then◌else◌}
use Rattle.std.specs.List.{list_any}
use Rattle.global_order.specs.Order.{Graph}

abbrev pub led_to : Graph → ℕ → List ℕ
led_to g i = get_or g i []

abbrev pub has : List ℕ → ℕ → Bool
has found i = list_any (nat_eq i) found

-- a row of steps leads from one place to another
pub data Reaches (g : Graph) (from : ℕ) : ℕ → Type 0 where
  itself : Reaches g from from
  further : (i j : ℕ) → Reaches g from i → has (led_to g i) j ≡ true → Reaches g from j

-- with this place at the end, unless it is there
abbrev pub with_place : List ℕ → ℕ → List ℕ
with_place found i = if has found i then found else found ++ i ∷ []

-- .. if it is one of so many
abbrev pub with_inner : ℕ → List ℕ → ℕ → List ℕ
with_inner size found i = if nat_lt i size then with_place found i else found

abbrev pub with_places : ℕ → List ℕ → List ℕ → List ℕ
with_places size found [] = found
with_places size found (i ∷ is) = with_places size (with_inner size found i) is

-- so many turns: each looks at the next of those that are found
abbrev pub walked : ℕ → Graph → ℕ → List ℕ → List ℕ
walked zero g next found = found
walked (suc k) g next found =
    walked k g (suc next) (with_places (length g) found (led_to g (get_or found next (length g))))

unfoldable pub reached_from : Graph → ℕ → List ℕ
reached_from g from = walked (length g) g 0 (from ∷ [])

-- those that are found are those of the graph that are reached
abbrev pub AreReached : Graph → ℕ → List ℕ → Type 0
AreReached g from found = (j : ℕ) → j < length g → (has found j ≡ true) ↔ Reaches g from j
