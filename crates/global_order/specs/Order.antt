-- The order in which globals are evaluated (XSLT 2.0, 9.5 leaves it to the processor): again and again
-- the first in declaration order whose dependences are done.
use Rattle.std.specs.Prelude.{◌≡◌, ◌<◌, ℕ, zero, suc, List, [], ◌∷◌, ◌++◌, Bool, true, not, ◌&&◌, if◌then◌else◌, Option, Some, None, length, nat_eq, get_or}
use Rattle.std.specs.List.{list_any, list_all}

-- for each global, in declaration order, the places of those that it depends on
abbrev pub Graph : Type 0
Graph = List (List ℕ)

abbrev pub needs_of : Graph → ℕ → List ℕ
needs_of g i = get_or g i []

-- whether a global is among those that are done
unfoldable pub is_in : List ℕ → ℕ → Bool
is_in done n = list_any (λ d. nat_eq d n) done

-- whether all its dependences are done
unfoldable pub is_ready : List ℕ → List ℕ → Bool
is_ready done needs = list_all (λ n. is_in done n) needs

unfoldable pub is_next : Graph → List ℕ → ℕ → Bool
is_next g done i = not (is_in done i) && is_ready done (needs_of g i)

-- the first of so many globals from this place on that is next
abbrev pub next_of : ℕ → ℕ → Graph → List ℕ → Option ℕ
next_of zero i g done = None
next_of (suc k) i g done = if is_next g done i then Some i else next_of k (suc i) g done

abbrev pub next : Graph → List ℕ → Option ℕ
next g done = next_of (length g) 0 g done

-- so many steps, from those that are done
unfoldable pub step : (List ℕ → List ℕ) → List ℕ → Option ℕ → List ℕ
step go done None = done
step go done (Some i) = go (done ++ i ∷ [])

abbrev pub steps : ℕ → Graph → List ℕ → List ℕ
steps zero g done = done
steps (suc k) g done = step (steps k g) done (next g done)

-- the whole order, or as much of it as there is
unfoldable pub order_of : Graph → List ℕ
order_of g = steps (length g) g []

-- each of these comes after all that it depends on, where others are done before
pub data InOrder (g : Graph) : List ℕ → List ℕ → Type 0 where
  nothing : {done : List ℕ} → InOrder g done []
  behind : {done : List ℕ} → (i : ℕ) (others : List ℕ) → i < length g → is_next g done i ≡ true → InOrder g (done ++ i ∷ []) others → InOrder g done (i ∷ others)

-- A circle: some globals, each of which depends on one of them
pub record IsCircle (g : Graph) (of : ℕ → Bool) : Type 0 where
  pub one : ℕ
  pub one_in : of one ≡ true
  pub one_is : one < length g
  pub each : (i : ℕ) → i < length g → of i ≡ true → list_any of (needs_of g i) ≡ true

-- the whole of what is done grows by globals in order
pub record Grown (g : Graph) (done all : List ℕ) : Type 0 where
  pub rest : List ℕ
  pub in_order : InOrder g done rest
  pub is_all : all ≡ done ++ rest

abbrev pub IsInOrder : Graph → List ℕ → Type 0
IsInOrder g all = InOrder g [] all

-- those that the order leaves out
abbrev pub left_out : Graph → ℕ → Bool
left_out g i = not (is_in (order_of g) i)

-- a global that is left out is in a circle of such, and the order leaves out one of each circle
pub record StopsAtCircles (g : Graph) : Type 0 where
  pub left_out_by : (i : ℕ) → i < length g → left_out g i ≡ true → IsCircle g (left_out g)
  pub leaves_out : (of : ℕ → Bool) → (circle : IsCircle g of) → left_out g circle.one ≡ true
