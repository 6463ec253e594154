-- Globals that are marked, and the first of those not marked whose dependences all are.
use Rattle.std.specs.Prelude.{ℕ, zero, suc, List, Bool, false, not, ◌&&◌, if◌then◌else◌, Option, Some, None, get_or}
use Rattle.std.specs.List.{list_all}
use Rattle.global_order.specs.Order.{Graph, needs_of}

-- whether the place has a mark
unfoldable pub marked : List Bool → ℕ → Bool
marked marks i = get_or marks i false

unfoldable pub are_marked : List Bool → List ℕ → Bool
are_marked marks needs = list_all (λ n. marked marks n) needs

unfoldable pub is_next_marked : Graph → List Bool → ℕ → Bool
is_next_marked g marks i = not (marked marks i) && are_marked marks (needs_of g i)

-- the first of so many globals from this place on
abbrev pub next_marked_of : ℕ → ℕ → Graph → List Bool → Option ℕ
next_marked_of zero i g marks = None
next_marked_of (suc k) i g marks =
    if is_next_marked g marks i then Some i else next_marked_of k (suc i) g marks
