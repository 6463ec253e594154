-- Where globals stand in an order.
use Rattle.std.proofs.Common.{◌≡◌, ◌<◌, ℕ, zero, suc, List, [], ◌∷◌, ◌++◌, length, take}
use Rattle.std.proofs.Common.{true, false, not, get_or, nat_eq, refl, sym, ap, subst}
use Rattle.std.proofs.Common.{◌∙◌, arith, inl, inr, append_assoc, append-nil}
use Rattle.std.proofs.lemmas.Bool.{and_parts, or_cases, or_left, or_right, eqb-true, eq-eqb}
use Rattle.std.proofs.lemmas.Bool.{cases_order}
use Rattle.global_order.specs.Order.{Graph, is_in, is_ready, is_next, needs_of, InOrder}
use Rattle.global_order.specs.Order as order
use Rattle.declared_uses.proofs.Orders.{new_next}

-- the one at this place
abbrev pub at_place : List ℕ → ℕ → ℕ
at_place js k = get_or js k 0

-- .. is within the graph, is no one that stands before, and depends on such alone
pub record Stands (g : Graph) (done js : List ℕ) (k : ℕ) : Type 0 where
  pub within : at_place js k < length g
  pub new : is_in (done ++ take k js) (at_place js k) ≡ false
  pub ready : is_ready (done ++ take k js) (needs_of g (at_place js k)) ≡ true

next_ready : (g : Graph) (done : List ℕ) (i : ℕ) → is_next g done i ≡ true
    → is_ready done (needs_of g i) ≡ true
unfolding is_next
next_ready g done i e = (and_parts (not (is_in done i)) (is_ready done (needs_of g i)) e).1

first_stands : (g : Graph) (done : List ℕ) (i : ℕ) (js : List ℕ) → i < length g
    → is_next g done i ≡ true → Stands g done (i ∷ js) 0
first_stands g done i js within next =
    let same : done ≡ done ++ [] = sym (append-nil done) in
    record {
      within = within;
      new = subst (λ (d : List ℕ). is_in d i ≡ false) same (new_next g done i next);
      ready = subst (λ (d : List ℕ). is_ready d (needs_of g i) ≡ true) same (next_ready g done i next);
    }

later_stands : (g : Graph) (done : List ℕ) (i : ℕ) (js : List ℕ) (k : ℕ)
    → Stands g (done ++ i ∷ []) js k → Stands g done (i ∷ js) (suc k)
later_stands g done i js k s =
    let same : (done ++ i ∷ []) ++ take k js ≡ done ++ (i ∷ take k js) =
    append_assoc done (i ∷ []) (take k js) in
    record {
      within = s.within;
      new = subst (λ (d : List ℕ). is_in d (at_place js k) ≡ false) same s.new;
      ready = subst (λ (d : List ℕ). is_ready d (needs_of g (at_place js k)) ≡ true) same s.ready;
    }

pub stands_at : (g : Graph) (done js : List ℕ) → InOrder g done js → (k : ℕ) → k < length js
    → Stands g done js k
stands_at g done _ order.nothing k less = absurd (omega (arith, less))
stands_at g done _ (order.behind i js within next rest) zero less =
    first_stands g done i js within next
stands_at g done _ (order.behind i js within next rest) (suc k) less =
    later_stands g done i js k
    (stands_at g (done ++ i ∷ []) js rest k (omega (arith, less)))

-- what comes before a place
pub record Before (js : List ℕ) (k i : ℕ) : Type 0 where
  pub place : ℕ
  pub less : place < k
  pub there : place < length js
  pub is : at_place js place ≡ i

pub find_before : (js : List ℕ) (k i : ℕ) → is_in (take k js) i ≡ true → Before js k i
unfolding is_in
find_before js zero i h = absurd cc
find_before [] (suc k) i h = absurd cc
find_before (j ∷ js) (suc k) i h = elim (or_cases (nat_eq j i) (is_in (take k js) i) h) [
  | inl e ↦ record {
    place = 0;
    less = omega arith;
    there = omega arith;
    is = eqb-true j i e;
  }
  | inr r ↦
      let b = find_before js k i r in
      let less = b.less in
      let there = b.there in
      record {
        place = suc b.place;
        less = omega (arith, less);
        there = omega (arith, there);
        is = b.is;
      }
]

pub stands_before : (js : List ℕ) (k q : ℕ) → q < k → q < length js
    → is_in (take k js) (at_place js q) ≡ true
unfolding is_in
stands_before js zero q less there = absurd (omega (arith, less))
stands_before [] (suc k) q less there = absurd (omega (arith, there))
stands_before (j ∷ js) (suc k) zero less there =
    or_left (nat_eq j j) _ (eq-eqb j j refl)
stands_before (j ∷ js) (suc k) (suc q) less there =
    or_right (nat_eq j (at_place js q)) _
    (stands_before js k q (omega (arith, less)) (omega (arith, there)))

-- no two places hold one
earlier : (g : Graph) (js : List ℕ) → InOrder g [] js → (k q : ℕ) → q < k → k < length js
    → at_place js q ≡ at_place js k → ⊥
earlier g js o k q less there same =
    let new = (stands_at g [] js o k there).new in
    let old = stands_before js k q less (omega (arith, less, there)) in
    let no : true ≡ false =
    sym old ∙ ap (is_in (take k js)) same ∙ new in
    cc

pub one_place : (g : Graph) (js : List ℕ) → InOrder g [] js → (k q : ℕ) → k < length js
    → q < length js → at_place js k ≡ at_place js q → k ≡ q
one_place g js o k q there also same = elim (cases_order k q) [
  | inl e ↦ e
  | inr other ↦ elim other [
    | inl less ↦ absurd (earlier g js o q k less also same)
    | inr less ↦ absurd (earlier g js o k q less there (sym same))
  ]
]
