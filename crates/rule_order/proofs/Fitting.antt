-- The first of the candidates that fits is the best.
use Rattle.std.proofs.Common.{◌≡◌, ◌+◌, ℕ, zero, suc, List, [], ◌∷◌, get_or, refl, sym, subst, ap, ◌∙◌, arith}
use Rattle.std.specs.Prelude.{Bool, true, false, ◌&&◌, filter, find, if◌then◌else◌, slice_get}
use Rattle.std.specs.Prelude.{Option, Some, None, option_map, All, AllPairs, Contains}
use Rattle.std.specs.Option.{option_map_or}
use Rattle.std.proofs.lemmas.List.Elements.{All-contains, All-contains_itself, All-filter}
use Rattle.std.proofs.lemmas.List.Elements.{All-head, All-tail, Contains-get_or, filter_passes}
use Rattle.std.proofs.lemmas.Bool.{and_from, and_parts}
use Rattle.xt_tree.specs.Place.{Place}
use Rattle.xt_sheets.specs.declared.sheets.Rule.{Rule}
use Rattle.rule_order.specs.Rules.{Ranked, RuleSet, all_ranked, best_place, best_rule, fits}
use Rattle.rule_order.specs.Rules.{is_lower, matching, rank_at, ranked, ranked_from, rule_at}
use Rattle.rule_order.specs.Laws.{AreCandidates, IsBest, IsBestIfAny, fits_at, is_below, is_in}
use Rattle.rule_order.proofs.Greatest.{also_in, best_is, lower, lower_order}
use Rattle.rule_order.proofs.Greatest.{not_below_itself, one_best}

-- what passes a test is kept, and what is kept passes
kept_in : {A : Type 0} (p : A → Bool) (xs : List A) (x : A) → Contains xs x → p x ≡ true →
    Contains (filter p xs) x
kept_in p [] x h e = absurd (omega (arith, h.1))
kept_in p (y ∷ xs) x (zero, lt, same) e =
    let yes : p y ≡ true = ap p same ∙ e in
    subst (λ b. Contains (if b then y ∷ filter p xs else filter p xs) x) (sym yes)
    (0, omega arith, same)
kept_in p (y ∷ xs) x (suc k, lt, same) e = by (p y) (kept_in p xs x (k, omega arith, same) e)
  where
    by : (b : Bool) → Contains (filter p xs) x →
        Contains (if b then y ∷ filter p xs else filter p xs) x
    by true g = also_in y x (filter p xs) g
    by false g = g

taken : {A : Type 0} (p : A → Bool) (xs : List A) (x : A) → Contains (filter p xs) x →
    Contains xs x × (p x ≡ true)
taken p xs x h = (
  All-contains (Contains xs) (filter p xs) x
      (All-filter p (Contains xs) xs (All-contains_itself xs)) h,
  All-contains (λ y. p y ≡ true) (filter p xs) x (filter_passes p xs) h,
)

-- rules stand at the places that their ranks tell
ranked_known : (i : ℕ) (rules : List Rule) (r : Ranked) → Contains (ranked_from i rules) r →
    (k : ℕ) × (slice_get rules k ≡ Some r.rule) × (r ≡ ranked (k + i) r.rule)
ranked_known i [] r h = absurd (omega (arith, h.1))
ranked_known i (x ∷ rules) r (zero, lt, e) =
    let plus : i ≡ 0 + i = omega arith in (
      0,
      ap (λ s. Some s.rule) e,
      sym e ∙ ap (λ s. ranked i s.rule) e ∙ ap (λ n. ranked n r.rule) plus,
    )
ranked_known i (x ∷ rules) r (suc j, lt, e) =
    let h = ranked_known (suc i) rules r (j, omega arith, e) in
    let plus : h.0 + suc i ≡ suc h.0 + i = omega arith in
    (suc h.0, h.1, h.2 ∙ ap (λ n. ranked n r.rule) plus)

ranked_there : (i : ℕ) (rules : List Rule) (k : ℕ) (x : Rule) → slice_get rules k ≡ Some x →
    (n : ℕ) → n ≡ k + i → Contains (ranked_from i rules) (ranked n x)
ranked_there i [] k x e n p = absurd cc
ranked_there i (y ∷ rules) zero x e n p =
    let same : y ≡ x = cc in let q : i ≡ n = omega arith in
    (0, omega arith, ap (ranked i) same ∙ ap (λ m. ranked m x) q)
ranked_there i (y ∷ rules) (suc k) x e n p =
    also_in (ranked i y) (ranked n x) (ranked_from (suc i) rules)
    (ranked_there (suc i) rules k x e n (omega arith))

module _ (set : RuleSet) (rules : List Rule) (mode : ℕ) (n : Place) where
  abbrev test : Ranked → Bool
  test r = set r.rank && fits mode n r.rule

  -- a rule that matches, by its place
  record IsThere (r : Ranked) : Type 0 where
    rank : rank_at rules r.rank.place ≡ Some r.rank
    within : is_in set rules r.rank.place ≡ true
    fits : fits_at rules mode n r.rank.place ≡ true

  there : (r : Ranked) → Contains (matching set rules mode n) r → IsThere r
  there r h =
      let t = taken test (all_ranked rules) r h in
      let k = ranked_known 1 rules r t.0 in
      let both = and_parts (set r.rank) (fits mode n r.rule) t.1 in
      let at : r.rank.place ≡ suc k.0 = ap (λ s. s.rank.place) k.2 ∙ omega arith in
      let found : rule_at rules r.rank.place ≡ Some r.rule = ap (rule_at rules) at ∙ k.1 in
      let own : (ranked r.rank.place r.rule).rank ≡ r.rank =
      subst (λ s. (ranked s.rank.place s.rule).rank ≡ s.rank) (sym k.2) refl in
      let rank : rank_at rules r.rank.place ≡ Some r.rank =
      ap (option_map (λ x. (ranked r.rank.place x).rank)) found ∙ ap Some own in
      record {
        rank = rank;
        within = ap (λ o. option_map_or set o false) rank ∙ both.0;
        fits = ap (λ o. option_map_or (fits mode n) o false) found ∙ both.1;
      }

  -- the rule at a place, in its set
  there_at : (i : ℕ) (x : Rule) → rule_at rules i ≡ Some x →
      Contains (all_ranked rules) (ranked i x)
  there_at zero x e = absurd cc
  there_at (suc k) x e = ranked_there 1 rules k x e (suc k) (omega arith)

  rank_there : (i : ℕ) (x : Rule) → rule_at rules i ≡ Some x →
      rank_at rules i ≡ Some (ranked i x).rank
  rank_there i x e = ap (option_map (λ y. (ranked i y).rank)) e

  first_best : (places : List ℕ) → All (λ i. is_in set rules i ≡ true) places →
      AllPairs (λ i j. is_below (rank_at rules j) (rank_at rules i) ≡ true) places →
      ((r : Ranked) → Contains (matching set rules mode n) r → Contains places r.rank.place) →
      find (fits_at rules mode n) places ≡ best_place set rules mode n
  first_best [] w f h = by (best_rule set rules mode n) (best_is set rules mode n)
    where
      by : (o : Option Ranked) → IsBestIfAny set rules mode n o →
          None ≡ option_map (λ r. r.rank.place) o
      by None e = refl
      by (Some s) g = let no = h s g.matches in absurd (omega (arith, no.1))
  first_best (i ∷ places) w f h =
      by (fits_at rules mode n i) refl
      (first_best places (All-tail (λ j. is_in set rules j ≡ true) i places w)
      (λ a b d lt less. f (suc a) (suc b) d (omega arith) (omega arith)))
    where
      later : (r : Ranked) → IsThere r → fits_at rules mode n i ≡ false →
          Contains (i ∷ places) r.rank.place → Contains places r.rank.place
      later r g e (zero, lt, same) =
          let fit : fits_at rules mode n r.rank.place ≡ true = g.fits in
          let none : fits_at rules mode n r.rank.place ≡ false = ap (fits_at rules mode n) (sym same) ∙ e in
          absurd cc
      later r g e (suc k, lt, same) = (k, omega arith, same)

      lower_one : (x : Rule) → rule_at rules i ≡ Some x → (s : Ranked) → IsThere s →
          Contains (i ∷ places) s.rank.place → lower (ranked i x) s ≡ false
      lower_one x a s g (zero, lt, same) =
          let p : Some s.rank ≡ Some (ranked i x).rank =
          sym g.rank ∙ ap (rank_at rules) (sym same) ∙ rank_there i x a in
          let q : s.rank ≡ (ranked i x).rank = cc in
          subst (λ r. is_lower (ranked i x).rank r ≡ false) (sym q)
          (not_below_itself (ranked i x))
      lower_one x a s g (suc k, lt, same) =
          let below : is_below (rank_at rules (get_or (i ∷ places) (suc k) s.rank.place)) (rank_at rules i) ≡ true =
          f 0 (suc k) s.rank.place (omega arith) lt in
          let p : is_below (rank_at rules s.rank.place) (rank_at rules i) ≡ true =
          subst (λ j. is_below (rank_at rules j) (rank_at rules i) ≡ true) same below in
          let q : is_below (Some s.rank) (Some (ranked i x).rank) ≡ true =
          ap (λ o. is_below o (Some (ranked i x).rank)) (sym g.rank)
          ∙ ap (is_below (rank_at rules s.rank.place)) (sym (rank_there i x a)) ∙ p in
          lower_order.one_way s (ranked i x) q

      best : (x : Rule) → rule_at rules i ≡ Some x → fits_at rules mode n i ≡ true →
          IsBest set rules mode n (ranked i x)
      best x a e = record {
        matches = kept_in test (all_ranked rules) (ranked i x) (there_at i x a)
            (and_from (set (ranked i x).rank) (fits mode n x)
            (ap (λ o. option_map_or set o false) (sym (rank_there i x a))
            ∙ All-head (λ j. is_in set rules j ≡ true) i places w)
            (ap (λ o. option_map_or (fits mode n) o false) (sym a) ∙ e));
        greatest = λ k d lt.
            let s = get_or (matching set rules mode n) k d in
            let m = Contains-get_or (matching set rules mode n) k d lt in
            lower_one x a s (there s m) (h s m);
      }

      found : (o : Option Rule) → rule_at rules i ≡ o → fits_at rules mode n i ≡ true →
          Some i ≡ best_place set rules mode n
      found None a e =
          let no : option_map_or (fits mode n) None false ≡ true = subst (λ o. option_map_or (fits mode n) o false ≡ true) a e in
          absurd cc
      found (Some x) a e =
          sym (ap (option_map (λ r. r.rank.place)) (one_best set rules mode n (ranked i x) (best x a e)))

      by : (b : Bool) → fits_at rules mode n i ≡ b →
          (((r : Ranked) → Contains (matching set rules mode n) r →
          Contains places r.rank.place) →
          find (fits_at rules mode n) places ≡ best_place set rules mode n) →
          (if b then Some i else find (fits_at rules mode n) places) ≡ best_place set rules mode n
      by true e rest = found (rule_at rules i) refl e
      by false e rest = rest (λ r m. later r (there r m) e (h r m))

  pub first_is_best : (places : List ℕ) → AreCandidates set rules mode n places →
      find (fits_at rules mode n) places ≡ best_place set rules mode n
  first_is_best places c =
      first_best places c.within c.fall
      (λ r m. let g = there r m in c.whole r.rank.place g.within g.fits)
