-- Predicates that look at positions, at the node among those beside it.
use Rattle.std.proofs.Common.{◌≡◌, ℕ, List, [], ◌∷◌, map, refl, ap, ◌∙◌}
use Rattle.std.proofs.Common.{Bool, true, false, cond}
use Rattle.std.specs.Prelude.{◌&&◌, nat_eq, if◌then◌else◌, Option, Some, None, Ok, Err}
use Rattle.std.specs.Prelude.{is_some}
use Rattle.std.specs.List.{filter, list_all, list_any}
use Rattle.std.specs.Ordering.{is_eq}
use Rattle.std.specs.declared.cmp.Ordering.{Ordering}
use Rattle.std.specs.declared.cmp.Ordering.TheVariants.{Less, Equal, Greater}
use Rattle.std.proofs.lemmas.Bool.{eq-eqb}
use Rattle.std.proofs.lemmas.Cmp.{tied_itself}
use Rattle.xt_tree.specs.Place.{Place, has_place, parent_of, place_cmp}
use Rattle.xt_atoms.specs.Casts.{wrong_type}
use Rattle.xdm_items.specs.declared.items.Item.TheVariants.{Node}
use Rattle.lazy_seq.specs.Orders.{in_document_order}
use Rattle.node_axes.specs.Axes.{is_itself, is_reverse, spot_of}
use Rattle.xdm_items.specs.FunctionArguments.Arguments.{and_then as result_then}
use Rattle.operator_values.specs.Nodes.{is_node, same_node, is_equal, is_same_item, is_among}
use Rattle.operator_values.specs.Nodes.{intersect_value}
use Rattle.node_axes.specs.StepWalks.Nodes.{Focus, Nodes, in_tree_order, kept_by_all}
use Rattle.node_axes.specs.StepWalks.Within.{IsWithin, AreWithin}
use Rattle.node_axes.proofs.StepWalks.NodeLemmas.{filter_within, kept_within, same_in_order, slash_within}
use Rattle.node_axes.proofs.StepWalks.OrderLemmas.{itself, itself_is, place_total, within_tied}
use Rattle.quiet_meaning.specs.Quietly.{Quietly, path, quietly_of, holds_at, has_some}
use Rattle.quiet_meaning.specs.Quietly.{is_predicate}
use Rattle.quiet_meaning.specs.Paths.{are_allowed, keeps}
use Rattle.quiet_eval.specs.QuietPlaces.Free.{IsSame}
use Rattle.xt_syntax.specs.declared.exprs.Clause.TheViews.{roll-Expr}
use Rattle.xt_syntax.specs.declared.exprs.Clause.TheOpen.{Context, Filter, Intersect}
use Rattle.xt_syntax.specs.declared.patterns.PatternStep.{PatternStep}
use Rattle.expr_meaning.specs.Outcomes.Outcome.{Ends, and_then}
use Rattle.expr_meaning.specs.Env.{Env, Meaning, Program}
use Rattle.expr_meaning.specs.Meaning.{outcome}
use Rattle.expr_meaning.specs.Paths.{kept_in_turn}
use Rattle.expr_laws.proofs.Rolled.{rolled}
use Rattle.walk_laws.specs.NodeOrders.Counted.{IsCountable}
use Rattle.walk_laws.proofs.NodeOrders.Counts.{all_countable}
use Rattle.walk_laws.proofs.NodeOrders.Orders.{in_order_of_tree}
use Rattle.walk_laws.specs.QuietValues.Given.{at_node, given_at}
use Rattle.walk_laws.proofs.QuietValues.Truths.{Agrees}
use Rattle.walk_laws.proofs.QuietValues.Steps.{turn_kept}
use Rattle.walk_laws.proofs.Forward.{forward_law}
use Rattle.match_patterns.specs.Patterns.{candidates, is_same, beside as beside_in_pattern}
use Rattle.pattern_paths.specs.Predicates.{unfailing}
use Rattle.pattern_paths.specs.Upwards.{beside, kept_among, kept_beside}
use Rattle.pattern_paths.proofs.AxisAny.{agree, any_within}
use Rattle.pattern_paths.proofs.Beside.{beside_nodes, beside_within, beside_short}
use Rattle.pattern_paths.proofs.Beside.{beside_candidates}
use Rattle.pattern_paths.proofs.Beside.{beside_given, beyond_agrees, context_given, further}
use Rattle.pattern_paths.proofs.Beside.{further_is}
use Rattle.pattern_paths.proofs.Beside.{itself_within, path_value}
use Rattle.pattern_paths.proofs.Unfailing.{plain_form, plain_keeps, unfailing_all}
use Rattle.pattern_paths.proofs.Unfailing.{unfailing_predicates}
use Rattle.std.proofs.Math.Bool.{or-false, and-true}
use Rattle.xt_names.proofs.ListLemmas.{any_filter}

-- The form: the node itself, where it is among those that the predicates keep. The node may have no
-- parent, or it has one.

abbrev pub kept_nodes : Bool → PatternStep → Nodes
kept_nodes true s n = kept_by_all (keeps s.quiet) (beside_nodes s.axis s.test n)
kept_nodes false s n = further s.axis s.test (keeps s.quiet) n

abbrev is_one : Place → Place → Bool
is_one n x = list_any (is_same_item (Node x)) (Node n ∷ [])

abbrev own_nodes : Bool → PatternStep → Nodes
own_nodes alone s n = in_tree_order n (filter (is_one n) (kept_nodes alone s n))

abbrev pub among_form : Bool → PatternStep → Quietly
among_form alone s = path (own_nodes alone s)

pub among_same : (alone : Bool) (s : PatternStep) → IsSame (among_form alone s)
unfolding holds_at
among_same alone s n at few again many = refl

pub among_predicate : (alone : Bool) (s : PatternStep) → is_predicate (among_form alone s) ≡ true
unfolding is_predicate
among_predicate alone s = refl

-- the same node

same_number : (n x : Place) → IsWithin n x → nat_eq x.number n.number ≡ true
same_number n x w = eq-eqb x.number n.number w.number_is

equal_is : (o : Ordering) → is_eq o ≡ true → o ≡ Equal
equal_is Less h = absurd cc
equal_is Equal h = refl
equal_is Greater h = absurd cc

compared_here : (n x : Place) → IsWithin n x → same_node x n ≡ is_eq (place_cmp x n)
unfolding same_node
compared_here n x w = ap (λ b. is_equal (if b then Some (place_cmp x n) else None))
    (same_number n x w)

same_as : (n x : Place) → has_place n ≡ true → IsWithin n x → same_node x n ≡ is_same n x
same_as n x h w =
    compared_here n x w
    ∙ agree (is_eq (place_cmp x n)) (is_same n x)
    (λ e. (let f : x ≡ n = within_tied n x n w (itself_within n h) (equal_is (place_cmp x n) e) in
    ap (λ y. is_itself (spot_of y) (spot_of n)) f ∙ itself n))
    (λ e. (let f : x ≡ n = itself_is n x n w (itself_within n h) e in
    ap (λ y. is_eq (place_cmp y n)) f ∙ ap is_eq (tied_itself place_total n)))

one_is : (n x : Place) → has_place n ≡ true → IsWithin n x → is_one n x ≡ is_same n x
unfolding is_same_item
one_is n x h w = or-false (same_node x n) ∙ same_as n x h w

pub has_any : (ns : List Place) → has_some ns ≡ list_any (λ n. true) ns
has_any [] = refl
has_any (n ∷ ns) = refl

kept_are_within : (alone : Bool) (s : PatternStep) (n : Place) → has_place n ≡ true →
    AreWithin n (kept_nodes alone s n)
kept_are_within true s n h =
    kept_within n (keeps s.quiet) (beside_nodes s.axis s.test n) (beside_within s.axis s.test n h)
kept_are_within false s n h = slash_within _ _ n

own_found : (alone : Bool) (s : PatternStep) (n : Place) → has_place n ≡ true →
    has_some (own_nodes alone s n) ≡ list_any (is_same n) (kept_nodes alone s n)
own_found alone s n h =
    let within = kept_are_within alone s n h in
    has_any (own_nodes alone s n)
    ∙ same_in_order n (filter (is_one n) (kept_nodes alone s n))
    (filter_within n (is_one n) (kept_nodes alone s n) within) (λ m. true)
    ∙ any_filter (λ m. true) (is_one n) (kept_nodes alone s n)
    ∙ any_within (λ m. is_one n m && true) (is_same n) n (kept_nodes alone s n) within
    (λ m w. and-true (is_one n m) ∙ one_is n m h w)

-- where there is a parent, the predicates of the step keep what they keep of its children or
-- attributes
kept_of_parent : (s : PatternStep) (n : Place) → is_reverse s.axis ≡ false → has_place n ≡ true →
    (o : Option Place) →
    parent_of n ≡ o → is_some o ≡ true →
    further s.axis s.test (keeps s.quiet) n ≡ kept_by_all (keeps s.quiet) (beside_in_pattern s n o)
kept_of_parent s n f h None e p = absurd cc
kept_of_parent s n f h (Some u) e p =
    further_is s.axis s.test (keeps s.quiet) n u h e ∙ forward_law s.axis s.test (keeps s.quiet) u
    f

kept_as_in_pattern : (alone : Bool) (s : PatternStep) (n : Place) → is_reverse s.axis ≡ false →
    has_place n ≡ true → (alone ≡ false → is_some (parent_of n) ≡ true) →
    kept_nodes alone s n ≡ kept_by_all (keeps s.quiet) (candidates s n)
kept_as_in_pattern true s n f h p =
    ap (kept_by_all (keeps s.quiet)) (beside_candidates s n f)
kept_as_in_pattern false s n f h p = kept_of_parent s n f h (parent_of n) refl (p refl)

pub among_holds : (alone : Bool) (s : PatternStep) (n : Place) (at size : ℕ) → is_reverse s.axis
    ≡ false →
    has_place n ≡ true → (alone ≡ false → is_some (parent_of n) ≡ true) →
    holds_at (among_form alone s) (record { node = n; position = at; size = size })
    ≡ list_any (is_same n) (kept_by_all (keeps s.quiet) (candidates s n))
unfolding holds_at
among_holds alone s n at size f h p =
    own_found alone s n h ∙ ap (list_any (is_same n)) (kept_as_in_pattern alone s n f h p)

-- in every program

pub all_nodes : (ns : List Place) → list_all is_node (map Node ns) ≡ true
unfolding is_node
all_nodes [] = refl
all_nodes (n ∷ ns) = all_nodes ns

filtered : (n : Place) (ns : List Place) →
    filter (is_among (Node n ∷ [])) (map Node ns) ≡ map Node (filter (is_one n) ns)
filtered n [] = refl
filtered n (x ∷ ns) = by (is_one n x) (filtered n ns)
  where
    by : (b : Bool) → filter (is_among (Node n ∷ [])) (map Node ns)
        ≡ map Node (filter (is_one n) ns) →
        cond b (Node x ∷ filter (is_among (Node n ∷ [])) (map Node ns))
        (filter (is_among (Node n ∷ [])) (map Node ns))
        ≡ map Node (cond b (x ∷ filter (is_one n) ns) (filter (is_one n) ns))
    by true e = ap (λ xs. Node x ∷ xs) e
    by false e = e

intersected : (n : Place) (ns : List Place) → AreWithin n ns →
    intersect_value (map Node ns) (Node n ∷ [])
    ≡ Ok (map Node (in_tree_order n (filter (is_one n) ns)))
unfolding intersect_value is_node
intersected n ns w =
    ap (λ (b : Bool). result_then (if b then Ok (map Node ns) else Err wrong_type)
    (λ xs. Ok (in_document_order (filter (is_among (Node n ∷ [])) xs)))) (all_nodes ns)
    ∙ ap (λ xs. Ok (in_document_order xs)) (filtered n ns)
    ∙ ap Ok (in_order_of_tree n (filter (is_one n) ns) (filter_within n (is_one n) ns w))

module _ (p : Program) (s : PatternStep) (allowed : are_allowed s.quiet ≡ true) where
  abbrev forms : List Quietly
  forms = map plain_form (map quietly_of s.quiet)

  filter_given : (env : Env) (f : Focus) → IsCountable f.node → (k : ℕ) →
      outcome p (kept_beside true s) (at_node env f) k ≡ Ends (map Node (kept_nodes true s f.node))
      k
  filter_given env f c k =
      let n = f.node in
      let w = beside_within s.axis s.test n c.exists in
      ap (λ (m : Meaning). m (at_node env f) k)
      (rolled p (Filter (beside s.axis s.test) (map unfailing s.quiet)))
      ∙ ap (λ o. and_then o (kept_in_turn (map (outcome p) (map unfailing s.quiet))
      (at_node env f)))
      (beside_given p s.axis s.test env f c k)
      ∙ turn_kept forms (map (outcome p) (map unfailing s.quiet))
      (unfailing_all p s.quiet allowed) (unfailing_predicates s.quiet allowed) (at_node env f)
      (beside_nodes s.axis s.test n) (all_countable n (beside_nodes s.axis s.test n) c w)
      (beside_short s.axis s.test n c) k
      ∙ ap (λ hs. Ends (map Node (kept_by_all hs (beside_nodes s.axis s.test n))) k)
      (plain_keeps s.quiet)

  step_given : (env : Env) (f : Focus) → IsCountable f.node → (k : ℕ) →
      outcome p (kept_beside false s) (at_node env f) k
      ≡ Ends (map Node (kept_nodes false s f.node)) k
  unfolding given_at
  step_given env f c k =
      beyond_agrees p s.axis s.test forms (map unfailing s.quiet) (unfailing_all p s.quiet allowed)
      (unfailing_predicates s.quiet allowed)
      (path_value (further s.axis s.test (map holds_at forms))) env f c k
      ∙ ap (λ hs. Ends (map Node (further s.axis s.test hs f.node)) k) (plain_keeps s.quiet)

  beside_kept : (alone : Bool) (env : Env) (f : Focus) → IsCountable f.node → (k : ℕ) →
      outcome p (kept_beside alone s) (at_node env f) k
      ≡ Ends (map Node (kept_nodes alone s f.node)) k
  beside_kept true env f c k = filter_given env f c k
  beside_kept false env f c k = step_given env f c k

  pub among_agrees : (alone : Bool) → Agrees (among_form alone s) (outcome p (kept_among alone s))
  unfolding given_at
  among_agrees alone v env f c k =
      let n = f.node in
      ap (λ (m : Meaning). m (at_node env f) k)
      (rolled p (Intersect (kept_beside alone s) (roll-Expr Context)))
      ∙ rw (
        beside_kept alone env f c k,
        context_given p env f k,
        intersected n (kept_nodes alone s n) (kept_are_within alone s n c.exists),
      ) refl
