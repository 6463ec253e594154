-- Globals that may be next, in a heap, and globals that wait for one on which they depend.
use Rattle.std.specs.Prelude.{◌≡◌, ◌<◌, ◌-◌, ◌++◌, ◌∷◌, ℕ, List, [], Bool, true, false, length, nat_eq, nat_lt, get_or, set, if◌then◌else◌}
use Rattle.std.specs.List.{list_any}
use Rattle.std.specs.Ordering.{nat_cmp}
use Rattle.std.specs.BinaryHeap.{IsHeap}
use Rattle.global_order.specs.Order.{Graph, needs_of, is_in, steps, order_of}
use Rattle.global_order.specs.Marks.{marked}

abbrev pub has : List ℕ → ℕ → Bool
has xs i = list_any (nat_eq i) xs

abbrev pub IsInHeap : List ℕ → Type 0
IsInHeap ready = IsHeap nat_cmp ready

-- these places are ready too
pub record Opens (size : ℕ) (old places new : List ℕ) : Type 0 where
  pub heap : IsInHeap new
  pub kept : (k : ℕ) → has old k ≡ true → has new k ≡ true
  pub more : (i : ℕ) → has places i ≡ true → has new (size - i) ≡ true

abbrev pub with_waiting : ℕ → ℕ → List (List ℕ) → List (List ℕ)
with_waiting need place rows =
    if nat_lt need (length rows) then set rows need (get_or rows need [] ++ place ∷ []) else rows

-- it waits for one on which it depends and which is not done
pub record IsWaiting (g : Graph) (done : List ℕ) (waiting : List (List ℕ)) (i : ℕ) : Type 0 where
  pub one : ℕ
  pub needed : has (needs_of g i) one ≡ true
  pub undone : is_in done one ≡ false
  pub there : one < length g → has (get_or waiting one []) i ≡ true

-- the order goes on from what is done, and what is not done is ready or waits
pub record IsGood (g : Graph) (done : List ℕ) (marks : List Bool) (ready : List ℕ) (waiting : List (List ℕ)) : Type 0 where
  pub path : order_of g ≡ steps (length g) g done
  pub marks_are : (i : ℕ) → marked marks i ≡ is_in done i
  pub size : length marks ≡ length g
  pub rows : length waiting ≡ length g
  pub heap : IsInHeap ready
  pub each : (i : ℕ) → i < length g → is_in done i ≡ false → has ready (length g - i) ≡ false → IsWaiting g done waiting i

-- .. but for one place, before which none is ready
pub record IsGoodBut (g : Graph) (done : List ℕ) (marks : List Bool) (ready : List ℕ) (waiting : List (List ℕ)) (place : ℕ) : Type 0 where
  pub path : order_of g ≡ steps (length g) g done
  pub marks_are : (i : ℕ) → marked marks i ≡ is_in done i
  pub size : length marks ≡ length g
  pub rows : length waiting ≡ length g
  pub heap : IsInHeap ready
  pub each : (i : ℕ) → i < length g → is_in done i ≡ false → has ready (length g - i) ≡ false → (i ≡ place → ⊥) → IsWaiting g done waiting i
  pub before : (j : ℕ) → j < place → has ready (length g - j) ≡ false
