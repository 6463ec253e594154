-- Tuples of two runs that go side by side: with the same keys, and with lists of bindings that are
-- related.
use Rattle.std.proofs.Common.{◌≡◌, ℕ, List, [], ◌∷◌, ◌++◌, refl, sym, ap, ◌∙◌, map}
use Rattle.std.specs.Prelude.{Bool, Option, Some, None}
use Rattle.xt_names.specs.declared.codes.Code.{Code}
use Rattle.order_group.specs.Rows.{Keyed, mixed_column, in_order}
use Rattle.order_group.proofs.Natural.{rekeyed, in_order_map}
use Rattle.std.proofs.lemmas.Simd.{map-map}
use Rattle.expr_meaning.specs.Outcomes.Outcome.{Outcome, Ends, Fails, Deep, and_then, for_each, OnEnds, Every}
use Rattle.expr_meaning.proofs.OutcomesLemmas.Steps.{made}
use Rattle.expr_meaning.proofs.OutcomesLemmas.Relations.{every_append}
use Rattle.expr_meaning.specs.SortMeaning.Sorted.{unless_mixed, ordered}
use Rattle.std.proofs.lemmas.List.{map-append}

module _ (A : Type 0) (P : A → A → Type 0) where
  abbrev pub Pairs : Type 0
  Pairs = List (Keyed (A × A))

  abbrev pub firsts : Pairs → List (Keyed A)
  firsts rows = map (rekeyed (λ x. x.0)) rows

  abbrev pub seconds : Pairs → List (Keyed A)
  seconds rows = map (rekeyed (λ x. x.1)) rows

  abbrev pub Related : Pairs → Type 0
  Related rows = Every (λ row. P row.value.0 row.value.1) rows

  abbrev pub over : (Pairs → List (Keyed A)) → Outcome Pairs → Outcome (List (Keyed A))
  over h o = and_then o (λ rows j. Ends (h rows) j)

  pub record Paired (o q : Outcome (List (Keyed A))) : Type 0 where
    pub both : Outcome Pairs
    pub first : o ≡ over firsts both
    pub second : q ≡ over seconds both
    pub related : OnEnds Related both

  pub paired_ends : (rows : Pairs) (k : ℕ) → Related rows →
      Paired (Ends (firsts rows) k) (Ends (seconds rows) k)
  paired_ends rows k h = record { both = Ends rows k; first = refl; second = refl; related = h }

  pub paired_by : (o q r t : Outcome (List (Keyed A))) → o ≡ r → q ≡ t → Paired r t → Paired o q
  paired_by o q r t h i p = record {
    both = p.both;
    first = h ∙ p.first;
    second = i ∙ p.second;
    related = p.related;
  }

  -- the same step before
  pub paired_next : {B : Type 0} (o : Outcome B) (f g : B → ℕ → Outcome (List (Keyed A))) →
      ((v : B) (k : ℕ) → Paired (f v k) (g v k)) → Paired (and_then o f) (and_then o g)
  paired_next (Ends v k) f g h = h v k
  paired_next (Fails c) f g h =
      record { both = Fails c; first = refl; second = refl; related = tt }
  paired_next Deep f g h = record { both = Deep; first = refl; second = refl; related = tt }

  over_then : (w : Outcome Pairs) → OnEnds Related w → (f g : List (Keyed A) → ℕ → Outcome (List (Keyed A))) →
      ((rows : Pairs) (k : ℕ) → Related rows → Paired (f (firsts rows) k) (g (seconds rows) k)) →
      Paired (and_then (over firsts w) f) (and_then (over seconds w) g)
  over_then (Ends rows k) r f g h = h rows k r
  over_then (Fails c) r f g h =
      record { both = Fails c; first = refl; second = refl; related = tt }
  over_then Deep r f g h = record { both = Deep; first = refl; second = refl; related = tt }

  pub paired_then : (o q : Outcome (List (Keyed A))) → Paired o q →
      (f g : List (Keyed A) → ℕ → Outcome (List (Keyed A))) →
      ((rows : Pairs) (k : ℕ) → Related rows → Paired (f (firsts rows) k) (g (seconds rows) k)) →
      Paired (and_then o f) (and_then q g)
  paired_then o q p f g h =
      paired_by (and_then o f) (and_then q g) (and_then (over firsts p.both) f)
      (and_then (over seconds p.both) g) (ap (λ x. and_then x f) p.first)
      (ap (λ x. and_then x g) p.second) (over_then p.both p.related f g h)

  -- rows one after another
  pub paired_append : (xs ys : Pairs) (k : ℕ) → Related xs → Related ys →
      Paired (Ends (firsts xs ++ firsts ys) k) (Ends (seconds xs ++ seconds ys) k)
  paired_append xs ys k h i = record {
    both = Ends (xs ++ ys) k;
    first = ap (λ l. Ends l k) (sym (map-append (rekeyed (λ x. x.0)) xs ys));
    second = ap (λ l. Ends l k) (sym (map-append (rekeyed (λ x. x.1)) xs ys));
    related = every_append (λ row. P row.value.0 row.value.1) xs ys h i;
  }

  pub paired_each : {B : Type 0} (f g : B → ℕ → Outcome (List (Keyed A))) →
      ((v : B) (k : ℕ) → Paired (f v k) (g v k)) → (xs : List B) (k : ℕ) →
      Paired (for_each f xs k) (for_each g xs k)
  paired_each f g h [] k = paired_ends [] k tt
  paired_each f g h (x ∷ xs) k =
      paired_then (f x k) (g x k) (h x k) _ _ (λ rows j r.
      paired_then (for_each f xs j) (for_each g xs j) (paired_each f g h xs j) _ _ (λ more i t.
      paired_append rows more i r t))

-- rows in the order of their keys, by their values
unless_made : {A B : Type 0} (h : A → B) (c : Option ℕ) (mixed : Code) (xs : List A) (ys : List B)
    (k : ℕ) → ys ≡ map h xs → unless_mixed c mixed ys k ≡ and_then (unless_mixed c mixed xs k) (made h)
unless_made h None mixed xs ys k e = ap (λ l. Ends l k) e
unless_made h (Some c) mixed xs ys k e = refl

pub ordered_made : {A B : Type 0} (h : A → B) (mixed : Code) (ds : List Bool) (rows : List (Keyed A))
    (k : ℕ) → ordered mixed ds (map (rekeyed h) rows) k ≡ and_then (ordered mixed ds rows k) (made h)
ordered_made h mixed ds rows k =
    ap (λ l. unless_mixed (mixed_column ds l) mixed (in_order ds (map (rekeyed h) rows)) k)
    (map-map (λ row. row.cells) (rekeyed h) rows)
    ∙ unless_made h (mixed_column ds (map (λ row. row.cells) rows)) mixed (in_order ds rows)
    (in_order ds (map (rekeyed h) rows)) k (in_order_map h ds rows)
