-- The best rule is the greatest, and there is one.
use Rattle.std.proofs.Common.{◌≡◌, ◌≤◌, ◌<◌, ℕ, zero, suc, List, [], ◌∷◌, length, get_or, refl, sym, subst, ap, ◌∙◌, arith}
use Rattle.std.specs.Prelude.{Bool, true, false, filter, if◌then◌else◌, Option, Some, None, All, Contains}
use Rattle.std.specs.Prelude.{MatchOption, ◌&&◌}
use Rattle.std.specs.Cmp.{IsTotalOrder, IsStrictWeakOrder, then_total, on_total, nat_cmp_total}
use Rattle.std.specs.Cmp.{int_cmp_total}
use Rattle.std.specs.Ordering.{nat_cmp, int_cmp, ordering_then, ordering_reverse, is_lt}
use Rattle.std.specs.declared.cmp.Ordering.{Ordering}
use Rattle.std.specs.declared.cmp.Ordering.TheVariants.{Less, Equal, Greater}
use Rattle.std.proofs.lemmas.Cmp.{ranked as compared}
use Rattle.std.proofs.lemmas.List.Sorted.{ranks_by}
use Rattle.std.proofs.lemmas.List.Elements.{All-cons, All-contains}
use Rattle.xt_tree.specs.Place.{Place}
use Rattle.xt_sheets.specs.declared.sheets.Rule.{Rule}
use Rattle.rule_order.specs.Rules.{Rank, Ranked, RuleSet, rank_cmp, is_lower, ranked_from, fits, all_ranked}
use Rattle.rule_order.specs.Rules.{matching, greater, greatest, best_rule}
use Rattle.rule_order.specs.Laws.{IsBest, IsBestIfAny}

rank_total : IsTotalOrder rank_cmp
rank_total =
    then_total (on_total (λ r. r.precedence) nat_cmp_total)
    (then_total (on_total (λ r. r.priority) int_cmp_total)
    (on_total (λ r. r.place) nat_cmp_total))

abbrev pub lower : Ranked → Ranked → Bool
lower a b = is_lower a.rank b.rank

pub lower_order : IsStrictWeakOrder lower
unfolding is_lower
lower_order = ranks_by rank_total (λ r. r.rank)

pub not_below_itself : (r : Ranked) → lower r r ≡ false
not_below_itself r = by (lower r r) refl
  where
    by : (b : Bool) → lower r r ≡ b → lower r r ≡ false
    by true e = lower_order.one_way r r e
    by false e = e

-- the greatest of a list
record IsGreatest (rs : List Ranked) (b : Ranked) : Type 0 where
  here : Contains rs b
  none : All (λ s. lower b s ≡ false) rs

first_in : (r : Ranked) (rs : List Ranked) → Contains (r ∷ rs) r
first_in r rs = (0, omega arith, refl)

pub also_in : {A : Type 0} (x y : A) (xs : List A) → Contains xs y → Contains (x ∷ xs) y
also_in x y xs h = (suc h.0, omega arith, h.2)

chosen : (r : Ranked) (rs : List Ranked) (o : Option Ranked) →
    MatchOption o (rs ≡ []) (IsGreatest rs) → IsGreatest (r ∷ rs) (greater r o)
chosen r rs None e = record {
  here = first_in r rs;
  none = subst (λ l. All (λ s. lower r s ≡ false) (r ∷ l)) (sym e)
      (All-cons (λ x. lower r x ≡ false) r [] (not_below_itself r) (λ k d lt. absurd (omega arith)));
}
chosen r rs (Some s) h = by (lower r s) refl
  where
    by : (b : Bool) → lower r s ≡ b → IsGreatest (r ∷ rs) (if b then s else r)
    by true e = record {
      here = also_in r s rs h.here;
      none = All-cons (λ x. lower s x ≡ false) r rs (lower_order.one_way r s e) h.none;
    }
    by false e = record {
      here = first_in r rs;
      none = All-cons (λ x. lower r x ≡ false) r rs (not_below_itself r)
          (λ k d lt. lower_order.chain r s (get_or rs k d) e (h.none k d lt));
    }

greatest_is : (rs : List Ranked) → MatchOption (greatest rs) (rs ≡ []) (IsGreatest rs)
greatest_is [] = refl
greatest_is (r ∷ rs) = chosen r rs (greatest rs) (greatest_is rs)

pub best_is : (set : RuleSet) (rules : List Rule) (mode : ℕ) (n : Place) →
    IsBestIfAny set rules mode n (best_rule set rules mode n)
unfolding best_rule
best_is set rules mode n =
    by (greatest (matching set rules mode n)) (greatest_is (matching set rules mode n))
  where
    by : (o : Option Ranked) →
        MatchOption o (matching set rules mode n ≡ []) (IsGreatest (matching set rules mode n)) →
        IsBestIfAny set rules mode n o
    by None e = e
    by (Some r) h = record { matches = h.here; greatest = h.none }

-- the places of rules rise
abbrev From : ℕ → List Ranked → Type 0
From i [] = Unit {0}
From i (r ∷ rs) = (i ≤ r.rank.place) × From i rs

abbrev Rise : List Ranked → Type 0
Rise [] = Unit {0}
Rise (r ∷ rs) = From (suc r.rank.place) rs × Rise rs

from_less : (i j : ℕ) (rs : List Ranked) → i ≤ j → From j rs → From i rs
from_less i j [] le h = tt
from_less i j (r ∷ rs) le h = (let low = h.0 in omega arith, from_less i j rs le h.1)

ranked_above : (i : ℕ) (rules : List Rule) → From i (ranked_from i rules)
ranked_above i [] = tt
ranked_above i (r ∷ rules) = (
  omega arith,
  from_less i (suc i) (ranked_from (suc i) rules) (omega arith)
      (ranked_above (suc i) rules),
)

ranked_rise : (i : ℕ) (rules : List Rule) → Rise (ranked_from i rules)
ranked_rise i [] = tt
ranked_rise i (r ∷ rules) = (ranked_above (suc i) rules, ranked_rise (suc i) rules)

kept_above : (test : Ranked → Bool) (i : ℕ) (rs : List Ranked) → From i rs →
    From i (filter test rs)
kept_above test i [] h = tt
kept_above test i (r ∷ rs) h = by (test r) (kept_above test i rs h.1)
  where
    by : (b : Bool) → From i (filter test rs) →
        From i (if b then r ∷ filter test rs else filter test rs)
    by true g = (h.0, g)
    by false g = g

kept_rise : (test : Ranked → Bool) (rs : List Ranked) → Rise rs → Rise (filter test rs)
kept_rise test [] h = tt
kept_rise test (r ∷ rs) h =
    by (test r) (kept_above test (suc r.rank.place) rs h.0) (kept_rise test rs h.1)
  where
    by : (b : Bool) → From (suc r.rank.place) (filter test rs) → Rise (filter test rs) →
        Rise (if b then r ∷ filter test rs else filter test rs)
    by true above g = (above, g)
    by false above g = g

above_at : (i k : ℕ) (rs : List Ranked) (d : Ranked) → From i rs → k < length rs →
    i ≤ (get_or rs k d).rank.place
above_at i k [] d h lt = absurd (omega arith)
above_at i zero (r ∷ rs) d h lt = h.0
above_at i (suc k) (r ∷ rs) d h lt = above_at i k rs d h.1 (omega arith)

-- two of them with one place are one
one_at : (rs : List Ranked) → Rise rs → (a b : Ranked) → Contains rs a → Contains rs b →
    a.rank.place ≡ b.rank.place → a ≡ b
one_at [] h a b (k, lt, e) (j, less, f) same = absurd (omega arith)
one_at (r ∷ rs) h a b (zero, lt, e) (zero, less, f) same = cc
one_at (r ∷ rs) h a b (zero, lt, e) (suc j, less, f) same =
    let above : suc r.rank.place ≤ (get_or rs j b).rank.place =
    above_at (suc r.rank.place) j rs b h.0 (omega arith) in
    let p : r.rank.place ≡ a.rank.place = cc in
    let q : (get_or rs j b).rank.place ≡ b.rank.place = cc in absurd (omega arith)
one_at (r ∷ rs) h a b (suc k, lt, e) (zero, less, f) same =
    let above : suc r.rank.place ≤ (get_or rs k a).rank.place =
    above_at (suc r.rank.place) k rs a h.0 (omega arith) in
    let p : r.rank.place ≡ b.rank.place = cc in
    let q : (get_or rs k a).rank.place ≡ a.rank.place = cc in absurd (omega arith)
one_at (r ∷ rs) h a b (suc k, lt, e) (suc j, less, f) same =
    one_at rs h.1 a b (k, omega arith, e) (j, omega arith, f) same

-- ranks of which neither is lower have one place
third_equal : (o p q : Ordering) → ordering_then o (ordering_then p q) ≡ Equal → q ≡ Equal
third_equal Less p q h = absurd cc
third_equal Equal Less q h = absurd cc
third_equal Equal Equal q h = h
third_equal Equal Greater q h = absurd cc
third_equal Greater p q h = absurd cc

tied : (a b : Rank) → is_lower a b ≡ false → is_lower b a ≡ false → rank_cmp a b ≡ Equal
unfolding is_lower
tied a b h g = by (rank_cmp a b) refl
  where
    by : (o : Ordering) → rank_cmp a b ≡ o → rank_cmp a b ≡ Equal
    by Less e = let no : is_lt Less ≡ false = subst (λ o. is_lt o ≡ false) e h in absurd cc
    by Equal e = e
    by Greater e =
        let back : rank_cmp b a ≡ Less =
        rank_total.antisymm b a ∙ ap ordering_reverse e in
        let no : is_lt Less ≡ false = subst (λ o. is_lt o ≡ false) back g in absurd cc

one_place : (a b : Rank) → is_lower a b ≡ false → is_lower b a ≡ false → a.place ≡ b.place
one_place a b h g =
    compared a.place b.place Equal (sym (third_equal (nat_cmp a.precedence b.precedence)
    (int_cmp a.priority b.priority) (nat_cmp a.place b.place) (tied a b h g)))

pub one_best : (set : RuleSet) (rules : List Rule) (mode : ℕ) (n : Place) (r : Ranked) →
    IsBest set rules mode n r → best_rule set rules mode n ≡ Some r
one_best set rules mode n r h =
    by (best_rule set rules mode n) (best_is set rules mode n)
  where
    rise : Rise (matching set rules mode n)
    rise = kept_rise (λ x. set x.rank && fits mode n x.rule) (all_ranked rules)
        (ranked_rise 1 rules)

    by : (o : Option Ranked) → IsBestIfAny set rules mode n o → o ≡ Some r
    by None e =
        let some : Contains [] r = subst (λ l. Contains l r) e h.matches in
        absurd (omega (arith, some.1))
    by (Some s) g =
        let a : lower s r ≡ false = All-contains (λ x. lower s x ≡ false)
        (matching set rules mode n) r g.greatest h.matches in
        let b : lower r s ≡ false = All-contains (λ x. lower r x ≡ false)
        (matching set rules mode n) s h.greatest g.matches in
        ap Some (one_at (matching set rules mode n) rise s r g.matches h.matches
        (one_place s.rank r.rank a b))
