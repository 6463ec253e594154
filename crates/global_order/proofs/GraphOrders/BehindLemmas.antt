-- Rows of which each has places before its own alone are put in order as they stand, and no others.
use Rattle.std.proofs.Common.{◌≡◌, ◌∙◌, sym, refl, ap, ℕ, zero, suc, ◌+◌, ◌<◌, ◌≤◌, List, [], ◌∷◌, ◌++◌}
use Rattle.std.proofs.Common.{Bool, true, false, ◌&&◌, ◌||◌, not, Some, nat_eq, nat_lt, get_or, length, length-append, arith}
use Rattle.std.proofs.Math.Nat.{eq-or-lt_of_le}
use mathlib.Core.Logic.{⊎_elim}
use Rattle.std.proofs.lemmas.Bool.{and_parts, false_from_ne_true}
use Rattle.global_order.proofs.ReachedPlaces.WalkLemmas.{same_place, nat_eq-same}
use Rattle.global_order.specs.Order.{Graph, is_in, is_ready, is_next, next, step, steps, order_of, InOrder, nothing, behind}
use Rattle.global_order.specs.Order as order_specs
use Rattle.global_order.proofs.OrderLemmas.{order-in_order}
use Rattle.global_order.proofs.GraphOrders.Tests.{no_true, is_less, test_less, all_pass, each_passes}
use Rattle.global_order.proofs.GraphOrders.Reached.{needs_length}
use Rattle.global_order.proofs.GraphOrders.RightOrders.{first_next}
use Rattle.global_order.specs.GraphOrders.Needs.{needs_from}
use Rattle.global_order.specs.GraphOrders.Behind.{all_below, are_behind, are_in_place, is_whole_order}
use Rattle.xt_names.proofs.BoolLemmas.{and_both as both}

first_in : (x n : ℕ) (xs : List ℕ) → x ≡ n → is_in (x ∷ xs) n ≡ true
unfolding is_in
first_in x n xs e =
    let here : nat_eq x n ≡ true = ap (λ (m : ℕ). nat_eq m n) e ∙ nat_eq-same n in
    rw here refl

later_in : (x n : ℕ) (xs : List ℕ) → is_in xs n ≡ true → is_in (x ∷ xs) n ≡ true
unfolding is_in
later_in x n xs h = rw h (elim (nat_eq x n) as (λ b. (b || true) ≡ true) [ true ↦ refl | false ↦ refl ])

-- numbers in their places are those up to the last
placed_has : (d : List ℕ) (a n : ℕ) → are_in_place a d ≡ true → a ≤ n → n < a + length d → is_in d n ≡ true
placed_has [] a n p low high = absurd (omega (arith, low, high))
placed_has (x ∷ xs) a n p low high =
    let t = and_parts (nat_eq x a) (are_in_place (a + 1) xs) p in
    let x_is = same_place x a t.0 in
    ⊎_elim
    (λ (same : a ≡ n). first_in x n xs (x_is ∙ same))
    (λ (less : a < n). later_in x n xs (placed_has xs (a + 1) n t.1 (omega (arith, less)) (omega (arith, high))))
    (eq-or-lt_of_le low)

placed_only : (d : List ℕ) (a n : ℕ) → are_in_place a d ≡ true → is_in d n ≡ true → n < a + length d
unfolding is_in
placed_only [] a n p e = absurd (no_true (sym e))
placed_only (x ∷ xs) a n p e =
    let t = and_parts (nat_eq x a) (are_in_place (a + 1) xs) p in
    let x_is = same_place x a t.0 in
    let P : Bool → Type 0 = λ b. nat_eq x n ≡ b → (b || is_in xs n) ≡ true → n < a + length (x ∷ xs) in
    let go : P (nat_eq x n) = elim (nat_eq x n) as P [
      | true ↦ λ s k. (let same = same_place x n s in omega (arith, x_is, same))
      | false ↦ λ s k. (let ih = placed_only xs (a + 1) n t.1 k in omega (arith, ih))
    ] in
    go refl e

placed_more : (d : List ℕ) (a n : ℕ) → n ≡ a + length d → are_in_place a d ≡ true → are_in_place a (d ++ n ∷ []) ≡ true
placed_more [] a n e p =
    let same : n ≡ a = omega (arith, e) in
    both (nat_eq n a) (are_in_place (a + 1) []) (ap (λ (m : ℕ). nat_eq m a) same ∙ nat_eq-same a) refl
placed_more (x ∷ xs) a n e p =
    let t = and_parts (nat_eq x a) (are_in_place (a + 1) xs) p in
    both (nat_eq x a) (are_in_place (a + 1) (xs ++ n ∷ [])) t.0 (placed_more xs (a + 1) n (omega (arith, e)) t.1)

-- one row of those that are behind
behind_row : (g : Graph) (b j : ℕ) → are_behind b g ≡ true → j < length g → all_below (b + j) (get_or g j []) ≡ true
behind_row [] b j h less = absurd (omega (arith, less))
behind_row (row ∷ rows) b zero h less =
    let t = and_parts (all_below b row) (are_behind (b + 1) rows) h in
    let e : b + 0 ≡ b = omega arith in
    ap (λ (m : ℕ). all_below m row) e ∙ t.0
behind_row (row ∷ rows) b (suc j) h less =
    let t = and_parts (all_below b row) (are_behind (b + 1) rows) h in
    let e : b + suc j ≡ b + 1 + j = omega arith in
    ap (λ (m : ℕ). all_below m (get_or rows j [])) e ∙ behind_row rows (b + 1) j t.1 (omega (arith, less))

all_behind : (g : Graph) (b : ℕ) → ((j : ℕ) → j < length g → all_below (b + j) (get_or g j []) ≡ true) → are_behind b g ≡ true
all_behind [] b h = refl
all_behind (row ∷ rows) b h =
    let e : b ≡ b + 0 = omega arith in
    let first : all_below b row ≡ true = ap (λ (m : ℕ). all_below m row) e ∙ h zero (omega arith) in
    both (all_below b row) (are_behind (b + 1) rows) first
    (all_behind rows (b + 1) (λ j less.
    (let k : b + 1 + j ≡ b + suc j = omega arith in
    ap (λ (m : ℕ). all_below m (get_or rows j [])) k ∙ h (suc j) (omega (arith, less)))))

-- what is below a place is done where all before it are, and nothing else is
below_ready : (row d : List ℕ) → are_in_place 0 d ≡ true → all_below (length d) row ≡ true → is_ready d row ≡ true
unfolding is_ready
below_ready row d p h =
    all_pass (is_in d) row (λ x e.
    (let less = is_less x (length d) (each_passes (λ n. nat_lt n (length d)) row x h e) in
    placed_has d 0 x p (omega arith) (omega (arith, less))))

ready_below : (row d : List ℕ) → are_in_place 0 d ≡ true → is_ready d row ≡ true → all_below (length d) row ≡ true
unfolding is_ready
ready_below row d p h =
    all_pass (λ n. nat_lt n (length d)) row (λ x e.
    (let less = placed_only d 0 x p (each_passes (is_in d) row x h e) in
    test_less x (length d) (omega (arith, less))))

is_the_next : (g : Graph) (d : List ℕ) → are_in_place 0 d ≡ true → are_behind 0 g ≡ true → length d < length g
    → is_next g d (length d) ≡ true
unfolding is_next
is_the_next g d p h less =
    let i = length d in
    let new : is_in d i ≡ false = false_from_ne_true (is_in d i) (λ e. (let no = placed_only d 0 i p e in omega (arith, no))) in
    let e : i ≡ 0 + i = omega arith in
    let row : all_below i (get_or g i []) ≡ true = ap (λ (m : ℕ). all_below m (get_or g i [])) e ∙ behind_row g 0 i h less in
    let all : is_ready d (order_specs.needs_of g i) ≡ true = below_ready (get_or g i []) d p row in
    rw (new, all) refl

already : (g : Graph) (d : List ℕ) (m : ℕ) → is_in d m ≡ true → is_next g d m ≡ false
unfolding is_next
already g d m e = rw e refl

next_is : (g : Graph) (d : List ℕ) → are_in_place 0 d ≡ true → are_behind 0 g ≡ true → length d < length g
    → next g d ≡ Some (length d)
next_is g d p h less =
    first_next (length g) 0 (length d) g d (omega arith) (omega (arith, less)) (is_the_next g d p h less)
    (λ m a b. already g d m (placed_has d 0 m p (omega arith) (omega (arith, b))))

-- all of them, each in its place
record IsWhole (g : Graph) (all : List ℕ) : Type 0 where
  placed : are_in_place 0 all ≡ true
  size : length all ≡ length g

one_step : (k : ℕ) (g : Graph) (d : List ℕ) → next g d ≡ Some (length d) → IsWhole g (steps k g (d ++ length d ∷ []))
    → IsWhole g (steps (suc k) g d)
unfolding step
one_step k g d e rest = rw e rest

all_steps : (k : ℕ) (g : Graph) (d : List ℕ) → are_behind 0 g ≡ true → are_in_place 0 d ≡ true
    → length d + k ≡ length g → IsWhole g (steps k g d)
all_steps zero g d h p e = record { placed = p; size = omega (arith, e) }
all_steps (suc k) g d h p e =
    let less : length d < length g = omega (arith, e) in
    let size = length-append d (length d ∷ []) in
    let more = placed_more d 0 (length d) (omega arith) p in
    one_step k g d (next_is g d p h less) (all_steps k g (d ++ length d ∷ []) h more (omega (arith, e, size)))

-- where the order is that in which they stand each has those before it alone
in_order_behind : (g : Graph) (done rest : List ℕ) → InOrder g done rest → are_in_place 0 done ≡ true
    → are_in_place (length done) rest ≡ true → (i : ℕ) → length done ≤ i → i < length done + length rest
    → all_below i (order_specs.needs_of g i) ≡ true
unfolding is_next
in_order_behind g done _ nothing p q i low high = absurd (omega (arith, low, high))
in_order_behind g done _ (behind j others less is more) p q i low high =
    let t = and_parts (nat_eq j (length done)) (are_in_place (length done + 1) others) q in
    let j_is = same_place j (length done) t.0 in
    let l = length-append done (j ∷ []) in
    let size : length (done ++ j ∷ []) ≡ length done + 1 = omega (arith, l) in
    ⊎_elim
    (λ (same : length done ≡ i).
    (let ready = and_parts (not (is_in done j)) (is_ready done (order_specs.needs_of g j)) is in
    let here = ready_below (order_specs.needs_of g j) done p ready.1 in
    ap (λ (m : ℕ). all_below m (order_specs.needs_of g i)) (sym same)
    ∙ (ap (λ (m : ℕ). all_below (length done) (order_specs.needs_of g m)) (sym (j_is ∙ same)) ∙ here)))
    (λ (later : length done < i).
    in_order_behind g (done ++ j ∷ []) others more (placed_more done 0 j (omega (arith, j_is)) p)
    (ap (λ (m : ℕ). are_in_place m others) size ∙ t.1) i (omega (arith, later, size)) (omega (arith, high, size)))
    (eq-or-lt_of_le low)

to_rows : (g : Graph) → is_whole_order (length g) (order_of g) ≡ true → are_behind 0 g ≡ true
unfolding is_whole_order
to_rows g h =
    let t = and_parts (nat_eq (length (order_of g)) (length g)) (are_in_place 0 (order_of g)) h in
    let size = same_place (length (order_of g)) (length g) t.0 in
    all_behind g 0 (λ j less.
    (let e : 0 + j ≡ j = omega arith in
    ap (λ (m : ℕ). all_below m (get_or g j [])) e
    ∙ in_order_behind g [] (order_of g) (order-in_order g (order_of g) refl) refl t.1 j (omega arith) (omega (arith, less, size))))

to_order : (g : Graph) → are_behind 0 g ≡ true → is_whole_order (length g) (order_of g) ≡ true
unfolding order_of is_whole_order
to_order g h =
    let all = all_steps (length g) g [] h refl (omega arith) in
    both (nat_eq (length (steps (length g) g [])) (length g)) (are_in_place 0 (steps (length g) g []))
    (ap (λ (m : ℕ). nat_eq m (length g)) all.size ∙ nat_eq-same (length g)) all.placed

same_truth : (a b : Bool) → (a ≡ true → b ≡ true) → (b ≡ true → a ≡ true) → a ≡ b
same_truth true b to from = sym (to refl)
same_truth false b to from = sym (false_from_ne_true b (λ e. no_true (sym (from e))))

rows_in_order : (g : Graph) → is_whole_order (length g) (order_of g) ≡ are_behind 0 g
rows_in_order g = same_truth (is_whole_order (length g) (order_of g)) (are_behind 0 g) (to_rows g) (to_order g)

pub order_tells : (g : Graph) (at count : ℕ) (found order : List ℕ) (whole : Bool)
    → found ≡ order_of (needs_from count 0 g at) → order ≡ found → whole ≡ is_whole_order count order
    → whole ≡ are_behind 0 (needs_from count 0 g at)
order_tells g at count found order whole is same tells =
    let rows = needs_from count 0 g at in
    let size = needs_length count 0 at g in
    tells
    ∙ (ap (is_whole_order count) (same ∙ is)
    ∙ (ap (λ (n : ℕ). is_whole_order n (order_of rows)) (sym size) ∙ rows_in_order rows))
