-- What tells that an order of the first places of a graph is that of what they reach. Beside the
-- order stand `places`, where each is in it, and for one that is left out a number past its end;
-- `latest`, for each place of the graph the number of the last in the order that it reaches, from 1,
-- a greater number where it reaches one that is left out, and 0 where it reaches none; and `steps`,
-- which grow less on the way to that one.
use Rattle.std.specs.Prelude.{◌≡◌, ◌<◌, ◌≤◌, ◌+◌, ◌-◌, ℕ, zero, suc, List, Bool, true, not, length}
use Rattle.std.specs.Prelude.{[], ◌∷◌, ◌++◌, ◌&&◌, ◌||◌, nat_eq, nat_lt, get_or, set, if◌then◌else◌}
use Rattle.std.specs.List.{list_any, list_all}
use Rattle.global_order.specs.ReachedPlaces.Walks.{led_to}
use Rattle.global_order.specs.Order.{Graph}

abbrev pub at_in : List ℕ → ℕ → ℕ
at_in xs i = get_or xs i 0

-- with one more at the end of the row
abbrev pub with_more : ℕ → ℕ → List (List ℕ) → List (List ℕ)
with_more place number rows =
    if nat_lt place (length rows) then set rows place (get_or rows place [] ++ number ∷ []) else rows

-- so many numbers from this one on pass
abbrev pub all_from : ℕ → ℕ → (ℕ → Bool) → Bool
all_from zero i test = true
all_from (suc k) i test = test i && all_from k (suc i) test

abbrev pub is_placed : ℕ → List ℕ → List ℕ → ℕ → Bool
is_placed count from to i = nat_lt (at_in from i) count && nat_eq (at_in to (at_in from i)) i

-- one of so many is at its place in the order, or is left out
abbrev pub has_place : ℕ → List ℕ → List ℕ → ℕ → Bool
has_place most places order i =
    not (nat_lt (at_in places i) most) || nat_eq (at_in order (at_in places i)) i

abbrev pub is_after : ℕ → ℕ → Bool
is_after place late = nat_lt 0 late && nat_eq (late - 1) place

abbrev pub is_end : ℕ → List ℕ → List ℕ → ℕ → Bool
is_end at places latest x = is_after (at_in places x) (at_in latest (at + x))

abbrev pub is_no_later : List ℕ → ℕ → ℕ → Bool
is_no_later latest v w = not (nat_lt (at_in latest v) (at_in latest w))

abbrev pub leads_no_later : Graph → List ℕ → ℕ → Bool
leads_no_later g latest v = list_all (is_no_later latest v) (led_to g v)

abbrev pub is_on_the_way : List ℕ → List ℕ → ℕ → ℕ → Bool
is_on_the_way latest steps v w =
    nat_eq (at_in latest w) (at_in latest v) && nat_lt (at_in steps w) (at_in steps v)

abbrev pub leads_on : Graph → List ℕ → List ℕ → ℕ → Bool
leads_on g latest steps v = list_any (is_on_the_way latest steps v) (led_to g v)

abbrev pub leads_to_latest : Graph → List ℕ → List ℕ → ℕ → Bool
leads_to_latest g latest steps v = nat_eq (at_in latest v) 0 || leads_on g latest steps v

-- one of the order does not come before its latest, and one that is left out has none in the order
abbrev pub is_in_time : ℕ → List ℕ → List ℕ → ℕ → Bool
is_in_time most places latest i =
    if nat_lt (at_in places i) most
    then not (nat_lt (at_in places i) (at_in latest i))
    else nat_lt most (at_in latest i)

-- each is at its place, or in none, and not before its latest
abbrev pub is_in_order : ℕ → List ℕ → List ℕ → List ℕ → Bool
is_in_order count order places latest =
    all_from (length order) 0 (is_placed count order places)
    && (all_from count 0 (has_place (length order) places order)
    && all_from count 0 (is_in_time (length order) places latest))

-- the latest of each place is one that it reaches, and it reaches no later one
abbrev pub is_latest : Graph → ℕ → ℕ → List ℕ → List ℕ → List ℕ → Bool
is_latest g at count places latest steps =
    all_from count 0 (is_end at places latest)
    && (all_from (length g) 0 (leads_no_later g latest)
    && all_from at 0 (leads_to_latest g latest steps))

-- all from this place of the order to another are numbers below that one
abbrev pub AreBelow : List ℕ → ℕ → ℕ → Type 0
AreBelow order low p = (t : ℕ) → low ≤ t → t < p → at_in order t < at_in order p

-- .. of which each was told where such a stretch begins
pub record Begins (order begins : List ℕ) (p : ℕ) : Type 0 where
  pub back : (q : ℕ) → q < p → at_in begins q ≤ q
  pub below : (q : ℕ) → q < p → AreBelow order (at_in begins q) q

-- none comes after a greater one that could have stood there
abbrev pub AreLeast : List ℕ → List ℕ → ℕ → Type 0
AreLeast order latest count =
    (p : ℕ) → p < count → AreBelow order (at_in latest (at_in order p)) p

pub record IsOnTheWay (g : Graph) (latest steps : List ℕ) (v : ℕ) : Type 0 where
  pub to : ℕ
  pub led : list_any (nat_eq to) (led_to g v) ≡ true
  pub same : at_in latest to ≡ at_in latest v
  pub nearer : at_in steps to < at_in steps v

-- all that is to be told
pub record IsTold (g : Graph) (at count : ℕ) (order places latest steps : List ℕ) : Type 0 where
  pub size : at + count ≡ length g
  pub order_size : length order ≤ count
  pub latest_size : length latest ≡ length g
  pub stands : (t : ℕ) → t < length order → is_placed count order places t ≡ true
  pub placed : (i : ℕ) → i < count → has_place (length order) places order i ≡ true
  pub ends : (x : ℕ) → x < count → is_end at places latest x ≡ true
  pub no_later : (v : ℕ) → v < length g → leads_no_later g latest v ≡ true
  pub shown : (v : ℕ) → v < at → leads_to_latest g latest steps v ≡ true
  pub in_time : (i : ℕ) → i < count → is_in_time (length order) places latest i ≡ true
  pub least : AreLeast order latest (length order)
