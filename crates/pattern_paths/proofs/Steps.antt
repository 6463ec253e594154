-- A step upwards leads to the nodes that the pattern's step matches.
use Rattle.std.proofs.Common.{◌≡◌, ℕ, List, [], ◌∷◌, ◌++◌, map, refl, ap, sym, ◌∙◌, subst, Bool}
use Rattle.std.proofs.Common.{true, false}
use Rattle.std.proofs.lemmas.Bool.{and_parts}
use Rattle.std.proofs.lemmas.List.{map-append}
use Rattle.std.specs.Prelude.{◌&&◌, if◌then◌else◌, is_some}
use Rattle.std.specs.List.{list_all, list_any}
use Rattle.xt_types.specs.declared.axes.Axis.{Axis}
use Rattle.xt_types.specs.declared.axes.Axis.TheVariants as axis
use Rattle.xt_tree.specs.Place.{Place, parent_of}
use Rattle.node_tests.specs.Tests.{passes_at}
use Rattle.node_axes.specs.Axes.{is_reverse}
use Rattle.node_axes.specs.StepWalks.Nodes.{Focus, Nodes, kept_by_all, step_nodes}
use Rattle.quiet_meaning.specs.Quietly.{Quietly, quietly_of, holds_at, is_predicate}
use Rattle.quiet_meaning.specs.Paths.{are_allowed, keeps}
use Rattle.quiet_eval.specs.QuietPlaces.Free.{IsSame, focus, is_place_free_expr}
use Rattle.xt_syntax.specs.declared.exprs.Expr.{Expr}
use Rattle.xt_syntax.specs.declared.exprs.Clause.TheOpen.{Step}
use Rattle.xt_syntax.specs.declared.patterns.PatternStep.{PatternStep}
use Rattle.expr_meaning.specs.Outcomes.Outcome.{Ends}
use Rattle.expr_meaning.specs.Env.{Env, Meaning, Program}
use Rattle.expr_meaning.specs.Meaning.{outcome}
use Rattle.expr_laws.proofs.Rolled.{rolled}
use Rattle.walk_laws.specs.NodeOrders.Counted.{IsCountable}
use Rattle.walk_laws.specs.QuietValues.Given.{at_node}
use Rattle.walk_laws.proofs.QuietValues.Truths.{AllAgree}
use Rattle.walk_laws.proofs.QuietValues.Steps.{step_gives}
use Rattle.walk_laws.proofs.Members.{AllSame, each_same, hold_here}
use Rattle.xdm_items.specs.declared.items.Item.TheVariants.{Node}
use Rattle.match_patterns.specs.Patterns.{candidates, is_same, stands_for, step_matches}
use Rattle.match_patterns.proofs.FreeLemmas.{free_member}
use Rattle.pattern_paths.specs.Predicates.{unfailing}
use Rattle.pattern_paths.specs.Upwards.{kind_test, kind_tests, kept_among, predicates, upward}
use Rattle.pattern_paths.specs.Upwards.{upward_tests}
use Rattle.pattern_paths.proofs.Kept.{holds_here}
use Rattle.pattern_paths.proofs.NodeKinds.{IsSoundPlace}
use Rattle.pattern_paths.proofs.StepForms.{IsUpward, kind_forms, kind_is, kind_same}
use Rattle.pattern_paths.proofs.Tests.{kind_all, kind_predicates}
use Rattle.pattern_paths.proofs.Unfailing.{plain_form, plain_holds, unfailing_all}
use Rattle.pattern_paths.proofs.Unfailing.{unfailing_predicates}
use Rattle.pattern_paths.proofs.Among.{among_form, among_same, among_predicate, among_holds}
use Rattle.pattern_paths.proofs.Among.{among_agrees}

-- the forms of its predicates

abbrev plain_forms : List Expr → List Quietly
plain_forms es = map plain_form (map quietly_of es)

abbrev pub predicate_forms : Bool → PatternStep → List Quietly
predicate_forms alone s =
    if list_all is_place_free_expr s.quiet then plain_forms s.quiet else among_form alone s ∷ []

abbrev pub step_forms : Bool → PatternStep → List Quietly
step_forms alone s = kind_forms s.axis s.test ++ predicate_forms alone s

-- they look at no position

plain_same : (q : Quietly) → IsSame q → IsSame (plain_form q)
plain_same q h n at few again many =
    plain_holds q (focus n at few) ∙ h n at few again many
    ∙ sym (plain_holds q (focus n again many))

plain_all_same : (qs : List Quietly) → AllSame qs → AllSame (map plain_form qs)
plain_all_same [] h = tt
plain_all_same (q ∷ qs) h = (plain_same q h.0, plain_all_same qs h.1)

predicates_same : (alone : Bool) (s : PatternStep) → AllSame (predicate_forms alone s)
predicates_same alone s = by (list_all is_place_free_expr s.quiet) refl
  where
    by : (b : Bool) → list_all is_place_free_expr s.quiet ≡ b →
        AllSame (if b then plain_forms s.quiet else among_form alone s ∷ [])
    by true e = plain_all_same (map quietly_of s.quiet) (each_same s.quiet e)
    by false e = (among_same alone s, tt)

append_same : (qs rs : List Quietly) → AllSame qs → AllSame rs → AllSame (qs ++ rs)
append_same [] rs h g = g
append_same (q ∷ qs) rs h g = (h.0, append_same qs rs h.1 g)

pub step_same : (alone : Bool) (s : PatternStep) → AllSame (step_forms alone s)
step_same alone s =
    append_same (kind_forms s.axis s.test) (predicate_forms alone s) (kind_same s.axis s.test)
    (predicates_same alone s)

-- they are predicates, and are what the expressions give

append_all : {A : Type 0} (f : A → Bool) (xs ys : List A) → list_all f xs ≡ true → list_all f ys
    ≡ true →
    list_all f (xs ++ ys) ≡ true
append_all f [] ys h g = g
append_all f (x ∷ xs) ys h g =
    let p = and_parts (f x) (list_all f xs) h in rw (p.0, append_all f xs ys p.1 g) refl

append_agree : (qs rs : List Quietly) (ms ns : List Meaning) → AllAgree qs ms → AllAgree rs ns →
    AllAgree (qs ++ rs) (ms ++ ns)
append_agree [] rs [] ns h g = g
append_agree [] rs (m ∷ ms) ns h g = absurd h
append_agree (q ∷ qs) rs [] ns h g = absurd h
append_agree (q ∷ qs) rs (m ∷ ms) ns h g = (h.0, append_agree qs rs ms ns h.1 g)

module _ (alone : Bool) (s : PatternStep) (allowed : are_allowed s.quiet ≡ true) where
  predicates_agree : (p : Program) → AllAgree (predicate_forms alone s)
      (map (outcome p) (predicates alone s))
  predicates_agree p = by (list_all is_place_free_expr s.quiet)
    where
      by : (b : Bool) → AllAgree (if b then plain_forms s.quiet else among_form alone s ∷ [])
          (map (outcome p) (if b then map unfailing s.quiet else kept_among alone s ∷ []))
      by true = unfailing_all p s.quiet allowed
      by false = (among_agrees p s allowed alone, tt)

  predicates_decide : list_all is_predicate (predicate_forms alone s) ≡ true
  predicates_decide = by (list_all is_place_free_expr s.quiet)
    where
      by : (b : Bool) →
          list_all is_predicate (if b then plain_forms s.quiet else among_form alone s ∷ []) ≡ true
      by true = unfailing_predicates s.quiet allowed
      by false = rw (among_predicate alone s) refl

  tests_agree : (p : Program) → AllAgree (step_forms alone s)
      (map (outcome p) (upward_tests alone s))
  tests_agree p =
      subst (AllAgree (step_forms alone s))
      (sym (map-append (outcome p) (kind_tests s.axis s.test) (predicates alone s)))
      (append_agree (kind_forms s.axis s.test) (predicate_forms alone s)
      (map (outcome p) (kind_tests s.axis s.test)) (map (outcome p) (predicates alone s))
      (kind_all p s.axis s.test) (predicates_agree p))

  tests_decide : list_all is_predicate (step_forms alone s) ≡ true
  tests_decide =
      append_all is_predicate (kind_forms s.axis s.test) (predicate_forms alone s)
      (kind_predicates s.axis s.test) predicates_decide

-- the nodes that it leads to
abbrev pub upward_nodes : Bool → Axis → PatternStep → Nodes
upward_nodes alone up s = step_nodes up (kind_test s.axis s.test)
    (map holds_at (step_forms alone s))

pub upward_given : (p : Program) (alone : Bool) (up : Axis) (s : PatternStep) → are_allowed s.quiet
    ≡ true →
    (env : Env) (f : Focus) → IsCountable f.node → (k : ℕ) →
    outcome p (upward alone up s) (at_node env f) k
    ≡ Ends (map Node (upward_nodes alone up s f.node)) k
upward_given p alone up s h env f c k =
    ap (λ (m : Meaning). m (at_node env f) k)
    (rolled p (Step up (kind_test s.axis s.test) (upward_tests alone s)))
    ∙ step_gives up (kind_test s.axis s.test) (step_forms alone s)
    (map (outcome p) (upward_tests alone s))
    (tests_agree alone s h p) (tests_decide alone s h) env f c k

-- the tests tell whether the step matches

append_holds : (qs rs : List Quietly) (n : Place) →
    hold_here (qs ++ rs) n ≡ (hold_here qs n && hold_here rs n)
append_holds [] rs n = refl
append_holds (q ∷ qs) rs n =
    ap (λ (b : Bool). holds_here q n && b) (append_holds qs rs n)
    ∙ grouped (holds_here q n) (hold_here qs n) (hold_here rs n)
  where
    grouped : (a b c : Bool) → (a && (b && c)) ≡ ((a && b) && c)
    grouped true b c = refl
    grouped false b c = refl

plain_hold : (n : Place) (qs : List Quietly) →
    hold_here (map plain_form qs) n ≡ list_all (λ q. holds_at q (focus n 1 1)) qs
plain_hold n [] = refl
plain_hold n (q ∷ qs) = rw (plain_holds q (focus n 1 1), plain_hold n qs) refl

stands_forward : (along : Axis) (n : Place) → stands_for along n ≡ true → is_reverse along ≡ false
unfolding stands_for is_reverse
stands_forward axis.Child n h = refl
stands_forward axis.Attribute n h = refl
stands_forward along n h = absurd cc

abbrev kept_here : PatternStep → Place → Bool
kept_here s n = list_any (is_same n) (kept_by_all (keeps s.quiet) (candidates s n))

and_true : (b : Bool) → (b && true) ≡ b
and_true true = refl
and_true false = refl

-- a node that is not alone has a parent
abbrev pub HasParent : Bool → Place → Type 0
HasParent alone n = alone ≡ false → is_some (parent_of n) ≡ true

predicates_hold : (alone : Bool) (s : PatternStep) (n : Place) → IsSoundPlace n →
    HasParent alone n →
    stands_for s.axis n ≡ true → passes_at s.axis s.test n ≡ true →
    hold_here (predicate_forms alone s) n ≡ kept_here s n
predicates_hold alone s n g p h t = by (list_all is_place_free_expr s.quiet) refl
  where
    by : (b : Bool) → list_all is_place_free_expr s.quiet ≡ b →
        hold_here (if b then plain_forms s.quiet else among_form alone s ∷ []) n ≡ kept_here s n
    by true e = plain_hold n (map quietly_of s.quiet) ∙ free_member s n e h t
    by false e =
        and_true (holds_here (among_form alone s) n)
        ∙ among_holds alone s n 1 1 (stands_forward s.axis n h) g.exists p

both_parts : (a b c d : Bool) → (a ≡ true → b ≡ true → c ≡ d) → ((a && b) && c) ≡ ((a && b) && d)
both_parts true true c d h = h refl refl
both_parts true false c d h = refl
both_parts false b c d h = refl

split : (a b c : Bool) → (a && (b && c)) ≡ ((a && b) && c)
split true b c = refl
split false b c = refl

pub step_told : (alone : Bool) (up : Axis) → IsUpward up → (s : PatternStep) (n : Place) →
    IsSoundPlace n →
    HasParent alone n →
    (passes_at up (kind_test s.axis s.test) n && hold_here (step_forms alone s) n)
    ≡ step_matches s n
unfolding step_matches
step_told alone up h s n g p =
    let kinds = hold_here (kind_forms s.axis s.test) n in
    let rest = hold_here (predicate_forms alone s) n in
    ap (λ (b : Bool). passes_at up (kind_test s.axis s.test) n && b)
    (append_holds (kind_forms s.axis s.test) (predicate_forms alone s) n)
    ∙ split (passes_at up (kind_test s.axis s.test) n) kinds rest
    ∙ ap (λ (b : Bool). b && rest) (kind_is up h s.axis s.test n g)
    ∙ both_parts (stands_for s.axis n) (passes_at s.axis s.test n) rest (kept_here s n)
    (λ a b. predicates_hold alone s n g p a b)
