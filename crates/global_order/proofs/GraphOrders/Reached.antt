-- What the places of a graph reach, by what is told of them.
use Rattle.std.proofs.Common.{◌≡◌, ◌∙◌, sym, refl, ap, ℕ, zero, suc, ◌+◌, ◌-◌, ◌<◌, ◌≤◌, List, [], ◌∷◌, ◌++◌, Bool, true, false}
use Rattle.std.proofs.Common.{◌&&◌, ◌||◌, not, nat_eq, nat_lt, get_or, length, arith, if◌then◌else◌}
use mathlib.Core.Logic.{⊎_elim}
use Rattle.std.proofs.lemmas.Bool.{cases_lt, and_parts}
use Rattle.std.proofs.lemmas.Bool.Decides.{nat_tests}
use Rattle.std.proofs.lemmas.List.{get_or_past}
use Rattle.std.specs.List.{list_any}
use Rattle.global_order.specs.ReachedPlaces.Walks.{led_to, has, Reaches, itself, further, reached_from, AreReached}
use Rattle.global_order.proofs.ReachedPlaces.WalkLemmas.{same_place, nothing_past, all_reached, all_inner, are_reached}
use Rattle.global_order.specs.GraphOrders.Needs.{target, targets, needs_of, needs_from}
use Rattle.global_order.specs.GraphOrders.Checks.{at_in, is_after, is_end, is_no_later, leads_no_later, is_on_the_way, leads_to_latest}
use Rattle.global_order.specs.GraphOrders.Checks.{IsOnTheWay, IsTold}
use Rattle.global_order.proofs.GraphOrders.Tests.{no_true, is_less, is_not_less, of_cons, head_has, tail_has, each_passes, some_passes}
use Rattle.global_order.specs.Order.{Graph}

-- a step before others
joined : (g : Graph) (v w z : ℕ) → has (led_to g v) w ≡ true → Reaches g w z → Reaches g v z
joined g v w _ e itself = further v w itself e
joined g v w _ e (further i j r k) = further i j (joined g v w i e r) k

-- the place of a target
in_target : (at p x : ℕ) → has (target at p) x ≡ true → at + x ≡ p
in_target at p x =
    let P : Bool → Type 0 = λ b. nat_lt p at ≡ b → has (if b then [] else (p - at) ∷ []) x ≡ true → at + x ≡ p in
    let go : P (nat_lt p at) = elim (nat_lt p at) as P [
      | true ↦ λ e h. absurd (no_true (sym h))
      | false ↦ λ e h. of_cons (p - at) x [] h
          (λ same. (let le : at ≤ p = grind (arith, nat_tests, e) in omega (arith, same, le)))
          (λ no. absurd (no_true (sym no)))
    ] in
    go refl

of_append : {Y : Type 0} (xs ys : List ℕ) (i : ℕ) → has (xs ++ ys) i ≡ true → (has xs i ≡ true → Y) → (has ys i ≡ true → Y) → Y
of_append [] ys i h first other = other h
of_append (x ∷ xs) ys i h first other =
    of_cons x i (xs ++ ys) h
    (λ same. first (ap (has (x ∷ xs)) same ∙ head_has x xs))
    (λ k. of_append xs ys i k (λ e. first (tail_has x i xs e)) other)

has_left : (xs ys : List ℕ) (i : ℕ) → has xs i ≡ true → has (xs ++ ys) i ≡ true
has_left [] ys i h = absurd (no_true (sym h))
has_left (x ∷ xs) ys i h =
    of_cons x i xs h (λ same. ap (has (x ∷ (xs ++ ys))) same ∙ head_has x (xs ++ ys)) (λ k. tail_has x i (xs ++ ys) (has_left xs ys i k))

has_right : (xs ys : List ℕ) (i : ℕ) → has ys i ≡ true → has (xs ++ ys) i ≡ true
has_right [] ys i h = h
has_right (x ∷ xs) ys i h = tail_has x i (xs ++ ys) (has_right xs ys i h)

pub in_targets : (at : ℕ) (ps : List ℕ) (x : ℕ) → has (targets at ps) x ≡ true → has ps (at + x) ≡ true
in_targets at [] x h = absurd (no_true (sym h))
in_targets at (p ∷ ps) x h =
    of_append (target at p) (targets at ps) x h
    (λ e. ap (has (p ∷ ps)) (in_target at p x e) ∙ head_has p ps)
    (λ e. tail_has p (at + x) ps (in_targets at ps x e))

own_target : (at x p : ℕ) → at + x ≡ p → has (target at p) x ≡ true
own_target at x p same =
    let P : Bool → Type 0 = λ b. nat_lt p at ≡ b → has (if b then [] else (p - at) ∷ []) x ≡ true in
    let go : P (nat_lt p at) = elim (nat_lt p at) as P [
      | true ↦ λ e. (let less = is_less p at e in absurd (omega (arith, less, same)))
      | false ↦ λ e. (let is : x ≡ p - at = omega (arith, same) in rw is (head_has (p - at) []))
    ] in
    go refl

pub of_targets : (at : ℕ) (ps : List ℕ) (x : ℕ) → has ps (at + x) ≡ true → has (targets at ps) x ≡ true
of_targets at [] x h = absurd (no_true (sym h))
of_targets at (p ∷ ps) x h =
    of_cons p (at + x) ps h
    (λ same. has_left (target at p) (targets at ps) x (own_target at x p same))
    (λ k. has_right (target at p) (targets at ps) x (of_targets at ps x k))

-- the needs of each place
pub needs_at : (k i place at : ℕ) (g : Graph) → i < k → get_or (needs_from k place g at) i [] ≡ needs_of g at (place + i)
needs_at zero i place at g h = absurd (omega (arith, h))
needs_at (suc k) zero place at g h = let e : place ≡ place + 0 = omega arith in ap (needs_of g at) e
needs_at (suc k) (suc i) place at g h =
    let less : i < k = omega (arith, h) in
    let e : suc place + i ≡ place + suc i = omega arith in
    needs_at k i (suc place) at g less ∙ ap (needs_of g at) e

pub needs_length : (k place at : ℕ) (g : Graph) → length (needs_from k place g at) ≡ k
needs_length zero place at g = refl
needs_length (suc k) place at g = ap suc (needs_length k (suc place) at g)

module _ (g : Graph) (at count : ℕ) (order places latest steps : List ℕ) (told : IsTold g at count order places latest steps) where
  pub late_is : (x : ℕ) → x < count → at_in latest (at + x) ≡ suc (at_in places x)
  late_is x h =
      let t = and_parts (nat_lt 0 (at_in latest (at + x))) (nat_eq (at_in latest (at + x) - 1) (at_in places x)) (told.ends x h) in
      let positive = is_less 0 (at_in latest (at + x)) t.0 in
      let same = same_place (at_in latest (at + x) - 1) (at_in places x) t.1 in
      omega (arith, positive, same)

  not_later : (v w : ℕ) → has (led_to g v) w ≡ true → at_in latest w ≤ at_in latest v
  not_later v w e = ⊎_elim
      (λ (less : v < length g). is_not_less (at_in latest v) (at_in latest w)
      (each_passes (is_no_later latest v) (led_to g v) w (told.no_later v less) e))
      (λ (ge : length g ≤ v). (let no : has [] w ≡ true = rw (nothing_past g v ge) at e in absurd (no_true (sym no))))
      (cases_lt v (length g))

  -- nothing later than the latest is reached
  pub at_most : (v z : ℕ) → Reaches g v z → at_in latest z ≤ at_in latest v
  at_most v _ itself = omega arith
  at_most v _ (further i j r e) =
      let a = at_most v i r in
      let b = not_later i j e in
      omega (arith, a, b)

  -- the latest is reached
  pub record Latest (v : ℕ) : Type 0 where
    pub one : ℕ
    pub inside : one < count
    pub reached : Reaches g v (at + one)
    pub is : suc (at_in places one) ≡ at_in latest v

  shown_to : (v : ℕ) → v < at → 0 < at_in latest v → IsOnTheWay g latest steps v
  shown_to v low positive =
      let late = at_in latest v in
      let rest = list_any (is_on_the_way latest steps v) (led_to g v) in
      let P : Bool → Type 0 = λ b. nat_eq late 0 ≡ b → (b || rest) ≡ true → IsOnTheWay g latest steps v in
      let go : P (nat_eq late 0) = elim (nat_eq late 0) as P [
        | true ↦ λ e h. (let none = same_place late 0 e in absurd (omega (arith, none, positive)))
        | false ↦ λ e h. (let found = some_passes (is_on_the_way latest steps v) (led_to g v) h in
            let t = and_parts (nat_eq (at_in latest found.one) late) (nat_lt (at_in steps found.one) (at_in steps v)) found.passes in
            record {
              to = found.one;
              led = found.there;
              same = same_place (at_in latest found.one) late t.0;
              nearer = is_less (at_in steps found.one) (at_in steps v) t.1;
            })
      ] in
      go refl (told.shown v low)

  inner : (v : ℕ) → 0 < at_in latest v → v < at + count
  inner v positive = ⊎_elim
      (λ (less : v < length latest). omega (arith, less, told.latest_size, told.size))
      (λ (ge : length latest ≤ v). (let none = get_or_past latest v 0 ge in absurd (omega (arith, none, positive))))
      (cases_lt v (length latest))

  -- an end is its own latest
  at_end : (v : ℕ) → at ≤ v → 0 < at_in latest v → Latest v
  at_end v high positive =
      let inside = inner v positive in
      let is : at + (v - at) ≡ v = omega (arith, high) in
      let less : v - at < count = omega (arith, high, inside) in
      let P : ℕ → Type 0 = λ z. Reaches g v z in
      let late : at_in latest (at + (v - at)) ≡ suc (at_in places (v - at)) = late_is (v - at) less in
      record {
        one = v - at;
        inside = less;
        reached = rw is itself;
        is = sym late ∙ ap (at_in latest) is;
      }

  latest_by : (k v : ℕ) → at_in steps v ≤ k → 0 < at_in latest v → Latest v
  latest_by zero v few positive = ⊎_elim
      (λ (low : v < at). (let way = shown_to v low positive in absurd (omega (arith, way.nearer, few))))
      (λ (high : at ≤ v). at_end v high positive)
      (cases_lt v at)
  latest_by (suc k) v few positive = ⊎_elim
      (λ (low : v < at).
      (let way = shown_to v low positive in
      let next = latest_by k way.to (omega (arith, way.nearer, few)) (omega (arith, way.same, positive)) in
      record {
        one = next.one;
        inside = next.inside;
        reached = joined g v way.to (at + next.one) way.led next.reached;
        is = next.is ∙ way.same;
      }))
      (λ (high : at ≤ v). at_end v high positive)
      (cases_lt v at)

  -- what a place needs is one of those that are put in order
  pub need_inside : (i x : ℕ) → i < count → has (needs_of g at i) x ≡ true → x < count
  need_inside i x h e =
      let size = told.size in
      let less : i < length g = omega (arith, h, size) in
      let inside = all_inner g i less (at + x) (in_targets at (reached_from g i) x e) in
      omega (arith, inside, size)

  -- .. and comes before its latest
  pub need_before : (i x : ℕ) → i < count → has (needs_of g at i) x ≡ true → suc (at_in places x) ≤ at_in latest i
  need_before i x h e =
      let most = at_most i (at + x) (all_reached g i (at + x) (in_targets at (reached_from g i) x e)) in
      let late = late_is x (need_inside i x h e) in
      omega (arith, most, late)

  -- .. and one of what it needs is its latest
  pub record Needed (i : ℕ) : Type 0 where
    pub one : ℕ
    pub inside : one < count
    pub there : has (needs_of g at i) one ≡ true
    pub is : suc (at_in places one) ≡ at_in latest i

  pub latest_need : (i : ℕ) → i < count → 0 < at_in latest i → Needed i
  latest_need i h positive =
      let found = latest_by (at_in steps i) i (omega arith) positive in
      let size = told.size in
      let less : i < length g = omega (arith, h, size) in
      let inside : at + found.one < length g = omega (arith, found.inside, size) in
      let all = are_reached g i (reached_from g i) refl less (at + found.one) inside in
      record {
        one = found.one;
        inside = found.inside;
        there = of_targets at (reached_from g i) found.one (all.1 found.reached);
        is = found.is;
      }
