-- An order that is as long as the graph leaves out none, and the globals in it have all names.
use Rattle.std.proofs.Common.{◌≡◌, ◌≤◌, ◌<◌, ℕ, zero, suc, ◌+◌, List, [], ◌∷◌, ◌++◌, map, length}
use Rattle.std.proofs.Common.{Bool, true, false, not, ◌||◌, if◌then◌else◌, Option, Some, None}
use Rattle.std.proofs.Common.{slice_get, nat_eq, refl, sym, ap, subst, ◌∙◌, arith, inl, inr}
use Rattle.std.proofs.Math.Nat.{eq-or-lt_of_le}
use Rattle.std.proofs.lemmas.Bool.{and_parts, or_cases, or_left, or_right, eqb-true}
use Rattle.std.proofs.lemmas.Bool.{not-true}
use Rattle.xt_names.specs.declared.names.ExprName.{ExprName}
use Rattle.xt_sheets.specs.declared.sheets.Global.{Global}
use Rattle.xt_sheets.specs.declared.sheets.Sheet.{Sheet}
use Rattle.name_rules.specs.Scopes.{has_name}
use Rattle.global_order.specs.GraphOrders.Needs.{needs_from}
use Rattle.global_needs.specs.Needs.{needs}
use Rattle.global_order.specs.Order.{Graph, is_in, is_ready, is_next, needs_of, InOrder}
use Rattle.global_order.specs.Order as order
use Rattle.global_order.proofs.OrderLemmas.{undone, undone-all, is_in-more, last_is}
use Rattle.global_order.proofs.OrderLemmas.{order-in_order}
use Rattle.sheet_assembly.specs.Named.{at, ordered}
use Rattle.assembly_laws.specs.SheetClosure.Declared.{global_name}
use Rattle.declared_uses.specs.Orders.{places_in, AreAllInOrder}
use Rattle.xt_names.proofs.BoolLemmas.{one_less}
use Rattle.xt_names.specs.ExprNames.{same_name}
use Rattle.global_order.specs.Order.{Graph as Reached}

undone_no_more : (n i : ℕ) (done : List ℕ) → undone n (done ++ i ∷ []) ≤ undone n done
undone_no_more zero i done = omega arith
undone_no_more (suc n) i done =
    rw (is_in-more done i n)
    (omega (arith, undone_no_more n i done, one_less (is_in done n) (nat_eq i n)))

undone_less : (n i : ℕ) (done : List ℕ) → i < n → is_in done i ≡ false
    → undone n (done ++ i ∷ []) < undone n done
undone_less zero i done h e = absurd (omega (arith, h))
undone_less (suc n) i done h e = elim (eq-or-lt_of_le (let le : i ≤ n = omega (arith, h) in le)) [
  | inl same ↦
      let now : is_in done n ≡ false = subst (λ (k : ℕ). is_in done k ≡ false) same e in
      let both : (is_in done n || nat_eq i n) ≡ true = last_is done i n same now in
      rw (is_in-more done i n) (rw (both, now) (omega (arith, undone_no_more n i done)))
  | inr less ↦
      rw (is_in-more done i n)
      (omega (arith, undone_less n i done less e, one_less (is_in done n) (nat_eq i n)))
]

pub new_next : (g : Graph) (done : List ℕ) (i : ℕ) → is_next g done i ≡ true
    → is_in done i ≡ false
unfolding is_next
new_next g done i e =
    not-true (is_in done i) (and_parts (not (is_in done i)) (is_ready done (needs_of g i)) e).0

counted : (g : Graph) (done js : List ℕ) → InOrder g done js
    → undone (length g) (done ++ js) + length js ≤ undone (length g) done
counted g done _ order.nothing = go done
  where
    go : (xs : List ℕ) → undone (length g) (xs ++ []) + 0 ≤ undone (length g) xs
    go xs = subst (λ (ys : List ℕ). undone (length g) ys + 0 ≤ undone (length g) xs)
        (sym (ends xs)) (omega arith)
      where
        ends : (xs : List ℕ) → xs ++ [] ≡ xs
        ends [] = refl
        ends (x ∷ xs) = ap (λ (ys : List ℕ). x ∷ ys) (ends xs)
counted g done _ (order.behind i js less next rest) =
    let less_now = undone_less (length g) i done less (new_next g done i next) in
    let more = counted g (done ++ i ∷ []) js rest in
    let same : undone (length g) ((done ++ i ∷ []) ++ js) ≡ undone (length g) (done ++ i ∷ js) =
    ap (undone (length g)) (joined done) in
    omega (arith, less_now, more, same)
  where
    joined : (xs : List ℕ) → (xs ++ i ∷ []) ++ js ≡ xs ++ i ∷ js
    joined [] = refl
    joined (x ∷ xs) = ap (λ (ys : List ℕ). x ∷ ys) (joined xs)

none_undone : (n i : ℕ) (done : List ℕ) → undone n done ≡ 0 → i < n → is_in done i ≡ true
none_undone zero i done e less = absurd (omega (arith, less))
none_undone (suc n) i done e less =
    elim (eq-or-lt_of_le (let le : i ≤ n = omega (arith, less) in le)) [
      | inl same ↦ subst (λ (k : ℕ). is_in done k ≡ true) (sym same) (here (is_in done n) e)
      | inr lower ↦ none_undone n i done (below (is_in done n) e) lower
    ]
  where
    here : (b : Bool) → (if b then 0 else 1) + undone n done ≡ 0 → b ≡ true
    here true e = refl
    here false e = absurd (omega (arith, e))

    below : (b : Bool) → (if b then 0 else 1) + undone n done ≡ 0 → undone n done ≡ 0
    below true e = omega (arith, e)
    below false e = absurd (omega (arith, e))

pub no_longer : (g : Graph) (js : List ℕ) → InOrder g [] js → length js ≤ length g
no_longer g js o =
    let fits = counted g [] js o in
    let all = undone-all (length g) [] in
    omega (arith, fits, all)

pub all_in_order : (g : Graph) (js : List ℕ) → InOrder g [] js → length g ≤ length js → (i : ℕ)
    → i < length g → is_in js i ≡ true
all_in_order g js o long i less =
    let fits = counted g [] js o in
    let all = undone-all (length g) [] in
    none_undone (length g) i js (omega (arith, fits, all, long)) less

-- there is a row for each global
pub as_many : (k i : ℕ) (g : Reached) (at : ℕ) → length (needs_from k i g at) ≡ k
as_many zero i g at = refl
as_many (suc k) i g at = ap suc (as_many k (suc i) g at)

pub needs_each : (s : Sheet) → length (needs s) ≡ length s.globals
needs_each s = as_many (length s.globals) 0 _ _

-- an order that is as long as there are globals leaves out none
pub order_whole : (s : Sheet) → AreAllInOrder s → (i : ℕ) → i < length s.globals
    → is_in (places_in s) i ≡ true
order_whole s long i less =
    let same = needs_each s in
    all_in_order (needs s) (places_in s) (order-in_order (needs s) (places_in s) refl)
    (omega (arith, long, same)) i (omega (arith, less, same))

-- a global that has the name is at some place
pub record Named (gs : List Global) (n : ExprName) : Type 0 where
  pub place : ℕ
  pub global : Global
  pub there : slice_get gs place ≡ Some global
  pub less : place < length gs
  pub named : same_name n (global_name global) ≡ true

find_named : (gs : List Global) (n : ExprName) → has_name (map global_name gs) n ≡ true → Named gs n
find_named [] n h = absurd cc
find_named (g ∷ gs) n h =
    elim (or_cases (same_name n (global_name g)) (has_name (map global_name gs) n) h) [
      | inl e ↦ record {
        place = 0;
        global = g;
        there = refl;
        less = omega arith;
        named = e;
      }
      | inr k ↦
          let f = find_named gs n k in
          let less = f.less in
          record {
            place = suc f.place;
            global = f.global;
            there = f.there;
            less = omega (arith, less);
            named = f.named;
          }
    ]

in_ordered : (gs : List Global) (n : ExprName) (f : Named gs n) (js : List ℕ)
    → is_in js f.place ≡ true → has_name (map global_name (ordered gs js)) n ≡ true
unfolding is_in
in_ordered gs n f [] h = absurd cc
in_ordered gs n f (j ∷ js) h = elim (or_cases (nat_eq j f.place) (is_in js f.place) h) [
  | inl e ↦
      let same : j ≡ f.place = eqb-true j f.place e in
      let here : slice_get gs j ≡ Some f.global = ap (slice_get gs) same ∙ f.there in
      subst (λ (o : Option Global). has_name (map global_name (at o ++ ordered gs js)) n ≡ true)
      (sym here) (or_left (same_name n (global_name f.global)) _ f.named)
  | inr k ↦ behind (slice_get gs j) (in_ordered gs n f js k)
]
  where
    behind : (o : Option Global) → has_name (map global_name (ordered gs js)) n ≡ true
        → has_name (map global_name (at o ++ ordered gs js)) n ≡ true
    behind None k = k
    behind (Some g) k = or_right (same_name n (global_name g)) _ k

pub ordered_has : (gs : List Global) (js : List ℕ)
    → ((i : ℕ) → i < length gs → is_in js i ≡ true) → (n : ExprName)
    → has_name (map global_name gs) n ≡ true
    → has_name (map global_name (ordered gs js)) n ≡ true
ordered_has gs js all n h =
    let f = find_named gs n h in
    in_ordered gs n f js (all f.place f.less)
