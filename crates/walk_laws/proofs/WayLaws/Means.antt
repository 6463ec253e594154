-- What an expression means that has a way.
use Rattle.std.proofs.Common.{◌≡◌, ℕ, List, [], ◌∷◌, map, refl, sym, ap, ◌∙◌, subst}
use Rattle.std.specs.Prelude.{◌&&◌, Bool, true, false, if◌then◌else◌, Option, Some, None, option_map}
use Rattle.std.specs.Prelude.{Ok, Err, option_and_then}
use Rattle.std.specs.List.{list_all}
use Rattle.std.proofs.lemmas.Bool.{and_parts}
use Rattle.xt_names.specs.declared.codes.Code.TheVariants.{Dynamic}
use Rattle.xt_names.specs.declared.codes.DynamicCode.TheVariants.{XPDY0050}
use Rattle.xt_types.specs.declared.axes.Axis.{Axis}
use Rattle.xt_types.specs.declared.axes.Axis.TheVariants as axis
use Rattle.xt_types.specs.declared.node_tests.Test.{Test}
use Rattle.xt_types.specs.declared.node_tests.Test.TheVariants as test
use Rattle.xt_tree.specs.Place.{Place, has_place}
use Rattle.xdm_items.specs.declared.items.Item.{Item}
use Rattle.xdm_items.specs.declared.items.Item.TheVariants.{Node, Atom}
use Rattle.doc_set.specs.Sets.{is_document}
use Rattle.xt_syntax.specs.declared.exprs.Expr.{Expr}
use Rattle.xt_syntax.specs.declared.exprs.Clause.TheViews.{out-Expr, roll-Expr}
use Rattle.xt_syntax.specs.declared.exprs.Clause.TheOpen.{Context, Root, Slash, Step}
use Rattle.node_axes.specs.Axes.{is_reverse}
use Rattle.node_axes.specs.StepWalks.Nodes.{Focus, step_nodes, slash_nodes}
use Rattle.quiet_meaning.specs.Quietly.{Quietly, quietly_of, holds_at, is_predicate, step, stepped}
use Rattle.quiet_meaning.specs.Quietly.{attribute, other, slashed, with_step, is_attribute_name}
use Rattle.quiet_meaning.specs.Quietly.{is_attribute_axis}
use Rattle.quiet_meaning.specs.Paths.{keeps, is_path_form, nodes_of_form}
use Rattle.quiet_meaning.proofs.FormLemmas.{rolled_quietly}
use Rattle.quiet_eval.specs.QuietPlaces.Free.{is_place_free_expr}
use Rattle.expr_meaning.specs.Outcomes.Outcome.{Ends, and_then, step_outcome, for_each}
use Rattle.expr_meaning.specs.SortMeaning.Sorted.{Placed}
use Rattle.expr_meaning.specs.Env.{Env, Meaning, Program, at_focus}
use Rattle.expr_meaning.specs.Meaning.{outcome}
use Rattle.expr_meaning.specs.Paths.{root_place, slash_of, step_of, path_value, path_places}
use Rattle.walk_laws.specs.NodeOrders.Counted.{IsCountable}
use Rattle.walk_laws.specs.QuietValues.Given.{at_node, as_placed, have_quiet_forms, has_quiet_form}
use Rattle.walk_laws.proofs.QuietValues.Laws.{step_law, path_law, here_law}
use Rattle.walk_laws.proofs.WayLaws.Predicates.{all_predicates}
use Rattle.walk_laws.proofs.Forward.{forward_law}
use Rattle.walk_laws.proofs.Below.{below_law}
use Rattle.walk_laws.specs.WayLaws.Ways.{Way, Layer, way, way_nodes, way_at, way_in, way_of, path_in}
use Rattle.walk_laws.specs.WayLaws.Ways.{last_step, last_step_in, begin_of, begin_in, document_above}
use Rattle.walk_laws.specs.WayLaws.Ways.{is_deep, is_all_below, is_all_below_in, is_child_axis}
use Rattle.walk_laws.specs.WayLaws.Ways.{is_deep_axis, is_any_node, has_none, context_node, node_in}
use Rattle.walk_laws.specs.WayLaws.Ways.{is_walked}
use Rattle.walk_laws.proofs.WayLaws.Forms.{step_means, slash_means, context_means, root_means}
use Rattle.walk_laws.proofs.WayLaws.Forms.{step_rolled, slash_rolled}
use Rattle.walk_laws.proofs.WayLaws.Nodes.{Known, known, way_in_order, path_from, at_one}
use Rattle.quiet_eval.proofs.CaseLemmas.{from_out}

-- a step from a node
pub step_gives : (p : Program) (w : Way) → Known w → (env : Env) (f : Focus) (k : ℕ) →
    f.node ≡ w.from → step_of w.along w.wanted (map (outcome p) w.tests) (at_node env f) k
    ≡ Ends (map Node (way_nodes w)) k
step_gives p w sure env f k e =
    let n : Place = f.node in
    step_law p w.along w.wanted w.tests env f k
    (subst IsCountable (sym e) sure.countable) sure.quiet
    ∙ ap (λ ns. Ends (map Node ns) k)
    (forward_law w.along w.wanted (keeps w.tests) f.node sure.forward)
    ∙ ap (λ m. Ends (map Node (way_nodes (way w.along w.wanted w.tests m))) k) e

-- `.` and `/`

root_gives : (n m : Place) (b : Bool) (k : ℕ) → (if b then Some (root_place n) else None) ≡ Some m →
    step_outcome (if b then Ok (Node (root_place n) ∷ []) else Err (Dynamic XPDY0050)) k
    ≡ Ends (Node m ∷ []) k
root_gives n m true k e = let same : root_place n ≡ m = cc in ap (λ x. Ends (Node x ∷ []) k) same
root_gives n m false k e = absurd cc

begin_gives : (p : Program) (a : Expr) (x : Layer) → out-Expr a ≡ x → (env : Env)
    (f : Placed Item) (n m : Place) (k : ℕ) → env.focus ≡ Some f → f.value ≡ Node n →
    begin_in x n ≡ Some m → outcome p a env k ≡ Ends (Node m ∷ []) k
begin_gives p a Context h env f n m k e v b =
    let same : n ≡ m = cc in
    ap (λ (o : Meaning). o env k) (context_means p a h)
    ∙ rw e (ap (λ (x : Item). Ends (x ∷ []) k) (v ∙ ap Node same))
begin_gives p a Root h env f n m k e v b =
    ap (λ (o : Meaning). o env k) (root_means p a h) ∙ rw (e, v) (root_gives n m (is_document n.tree) k b)
begin_gives p a x h env f n m k e v b = absurd cc

-- `//`

bare_step : (along : Axis) (wanted : Test) (qs : List Quietly) → is_attribute_axis along ≡ false →
    list_all is_predicate qs ≡ true →
    stepped along wanted qs ≡ step (step_nodes along wanted (map holds_at qs))
bare_step along wanted qs a h = rw (a, h) refl

child_form : is_attribute_axis axis.Child ≡ false
unfolding is_attribute_axis
child_form = refl

deep_form : is_attribute_axis axis.DescendantOrSelf ≡ false
unfolding is_attribute_axis
deep_form = refl

abbrev all_below : Expr
all_below = roll-Expr (Step axis.DescendantOrSelf test.Node [])

abbrev child_step : Test → List Expr → Expr
child_step wanted tests = roll-Expr (Step axis.Child wanted tests)

abbrev two_steps : Test → List Expr → Expr
two_steps wanted tests = roll-Expr (Slash all_below (child_step wanted tests))

two_form : (wanted : Test) (tests : List Expr) → have_quiet_forms tests ≡ true →
    quietly_of (two_steps wanted tests)
    ≡ slashed (step (step_nodes axis.DescendantOrSelf test.Node []))
    (step (step_nodes axis.Child wanted (keeps tests)))
two_form wanted tests h =
    rolled_quietly (Slash all_below (child_step wanted tests))
    ∙ ap (λ q. slashed q (quietly_of (child_step wanted tests)))
    (rolled_quietly (Step axis.DescendantOrSelf test.Node [])
    ∙ bare_step axis.DescendantOrSelf test.Node [] deep_form refl)
    ∙ ap (slashed (step (step_nodes axis.DescendantOrSelf test.Node [])))
    (rolled_quietly (Step axis.Child wanted tests)
    ∙ bare_step axis.Child wanted (map quietly_of tests) child_form (all_predicates tests h))

slashed_path : (g h : Place → List Place) → is_path_form (slashed (step g) (step h)) ≡ true
unfolding slashed with_step is_path_form
slashed_path g h = refl

slashed_nodes : (g h : Place → List Place) (n : Place) →
    nodes_of_form (slashed (step g) (step h)) n ≡ slash_nodes g h n
unfolding slashed with_step nodes_of_form
slashed_nodes g h n = refl

-- the two last steps of `//`, from a node
two_steps_give : (p : Program) (wanted : Test) (tests : List Expr) (m : Place) →
    list_all is_place_free_expr tests ≡ true → Known (way axis.Descendant wanted tests m) →
    (env : Env) (k : ℕ) →
    slash_of (outcome p all_below) (outcome p (child_step wanted tests)) (at_node env (at_one m)) k
    ≡ Ends (map Node (way_nodes (way axis.Descendant wanted tests m))) k
two_steps_give p wanted tests m free sure env k =
    let form = two_form wanted tests sure.quiet in
    ap (λ (o : Meaning). o (at_node env (at_one m)) k)
    (sym (slash_rolled p all_below (child_step wanted tests)))
    ∙ path_law p (two_steps wanted tests) env (at_one m) k sure.countable
    (ap is_path_form form ∙ slashed_path _ _)
    ∙ ap (λ q. Ends (map Node (nodes_of_form q m)) k) form
    ∙ ap (λ ns. Ends (map Node ns) k) (slashed_nodes _ _ m)
    ∙ ap (λ ns. Ends (map Node ns) k) (below_law wanted tests free m)

all_below_known : (w : Way) (along : Axis) → is_reverse along ≡ false → Known w →
    Known (way along test.Node [] w.from)
all_below_known w along h sure =
    record { forward = h; quiet = refl; countable = sure.countable }

forward_all : is_reverse axis.DescendantOrSelf ≡ false
unfolding is_reverse
forward_all = refl

deep_gives : (p : Program) (a : Meaning) (wanted : Test) (tests : List Expr) (m : Place) →
    list_all is_place_free_expr tests ≡ true → Known (way axis.Descendant wanted tests m) →
    (env : Env) (k : ℕ) → a env k ≡ Ends (Node m ∷ []) k →
    slash_of (slash_of a (outcome p all_below)) (outcome p (child_step wanted tests)) env k
    ≡ Ends (map Node (way_nodes (way axis.Descendant wanted tests m))) k
deep_gives p a wanted tests m free sure env k x =
    let all = all_below_known (way axis.Descendant wanted tests m) axis.DescendantOrSelf
    forward_all sure in
    let below : outcome p all_below (at_node env (at_one m)) k
    ≡ Ends (map Node (way_nodes (way axis.DescendantOrSelf test.Node [] m))) k =
    ap (λ (o : Meaning). o (at_node env (at_one m)) k)
    (step_rolled p axis.DescendantOrSelf test.Node [])
    ∙ step_gives p (way axis.DescendantOrSelf test.Node [] m) all env (at_one m) k refl in
    ap (λ o. and_then o (λ xs j.
    and_then (step_outcome (path_places xs) j) (λ fs i.
    and_then (for_each (λ f. outcome p (child_step wanted tests) (at_focus env f)) fs i)
    (λ ys h. step_outcome (path_value ys) h))))
    (path_from a (outcome p all_below) env m _ k x below
    (way_in_order (way axis.DescendantOrSelf test.Node [] m) forward_all) ∙ sym below)
    ∙ two_steps_give p wanted tests m free sure env k

-- every way

child_is : (along : Axis) → is_child_axis along ≡ true → along ≡ axis.Child
unfolding is_child_axis
child_is axis.Child h = refl
child_is along h = absurd cc

deep_is : (along : Axis) → is_deep_axis along ≡ true → along ≡ axis.DescendantOrSelf
unfolding is_deep_axis
deep_is axis.DescendantOrSelf h = refl
deep_is along h = absurd cc

any_is : (wanted : Test) → is_any_node wanted ≡ true → wanted ≡ test.Node
unfolding is_any_node
any_is test.Node h = refl
any_is wanted h = absurd cc

none_is : (tests : List Expr) → has_none tests ≡ true → tests ≡ []
none_is [] h = refl
none_is (e ∷ tests) h = absurd cc

all_below_is : (e : Expr) (x : Layer) → out-Expr e ≡ x → is_all_below_in x ≡ true → e ≡ all_below
all_below_is e (Step along wanted tests) o h =
    let a = and_parts (is_deep_axis along) (is_any_node wanted && has_none tests) h in
    let b = and_parts (is_any_node wanted) (has_none tests) a.1 in
    from_out e (Step along wanted tests) o
    ∙ ap (λ (z : Axis). roll-Expr (Step z wanted tests)) (deep_is along a.0)
    ∙ ap (λ (z : Test). roll-Expr (Step axis.DescendantOrSelf z tests)) (any_is wanted b.0)
    ∙ ap (λ (z : List Expr). roll-Expr (Step axis.DescendantOrSelf test.Node z)) (none_is tests b.1)
all_below_is e x o h = absurd cc

module _ (p : Program) (env : Env) (f : Placed Item) (n : Place) (k : ℕ) (focus : env.focus ≡ Some f)
    (value : f.value ≡ Node n) where
  abbrev Gives : Expr → Way → Type 0
  Gives e w = Known w → outcome p e env k ≡ Ends (map Node (way_nodes w)) k

  -- a path from one node
  begun : (a b : Expr) (along : Axis) (wanted : Test) (tests : List Expr) (w : Way) →
      out-Expr b ≡ Step along wanted tests → (x : Layer) → out-Expr a ≡ x →
      option_map (way along wanted tests) (begin_in x n) ≡ Some w → Known w →
      slash_of (outcome p a) (outcome p b) env k ≡ Ends (map Node (way_nodes w)) k
  begun a b along wanted tests w is x out h sure = by (begin_in x n) refl h
    where
      by : (o : Option Place) → begin_in x n ≡ o → option_map (way along wanted tests) o ≡ Some w →
          slash_of (outcome p a) (outcome p b) env k ≡ Ends (map Node (way_nodes w)) k
      by None e g = absurd cc
      by (Some m) e g =
          let same : way along wanted tests m ≡ w = cc in
          let know : Known (way along wanted tests m) = subst Known (sym same) sure in
          path_from (outcome p a) (outcome p b) env m _ k (begin_gives p a x out env f n m k focus value e)
          (ap (λ (o : Meaning). o (at_node env (at_one m)) k) (step_means p b along wanted tests is)
          ∙ step_gives p (way along wanted tests m) know env (at_one m) k refl)
          (way_in_order (way along wanted tests m) know.forward)
          ∙ ap (λ v. Ends (map Node (way_nodes v)) k) same

  -- a path from all nodes below one node
  deep : (a b c all : Expr) (along : Axis) (wanted : Test) (tests : List Expr) (w : Way) →
      out-Expr b ≡ Step along wanted tests → out-Expr a ≡ Slash c all →
      is_deep along all tests ≡ true →
      option_map (way axis.Descendant wanted tests) (begin_of c n) ≡ Some w → Known w →
      slash_of (outcome p a) (outcome p b) env k ≡ Ends (map Node (way_nodes w)) k
  deep a b c all along wanted tests w is out d h sure = by (begin_of c n) refl h
    where
      by : (o : Option Place) → begin_of c n ≡ o →
          option_map (way axis.Descendant wanted tests) o ≡ Some w →
          slash_of (outcome p a) (outcome p b) env k ≡ Ends (map Node (way_nodes w)) k
      by None e g = absurd cc
      by (Some m) e g =
          let same : way axis.Descendant wanted tests m ≡ w = cc in
          let know : Known (way axis.Descendant wanted tests m) = subst Known (sym same) sure in
          let x = and_parts (is_child_axis along)
          (is_all_below all && list_all is_place_free_expr tests) d in
          let y = and_parts (is_all_below all) (list_all is_place_free_expr tests) x.1 in
          let under : outcome p a ≡ slash_of (outcome p c) (outcome p all_below) =
          slash_means p a c all out
          ∙ ap (λ z. slash_of (outcome p c) (outcome p z)) (all_below_is all _ refl y.0) in
          let last : outcome p b ≡ outcome p (child_step wanted tests) =
          ap (outcome p) (from_out b (Step along wanted tests) is
          ∙ ap (λ (z : Axis). roll-Expr (Step z wanted tests)) (child_is along x.0)) in
          ap (λ (o : Meaning). slash_of o (outcome p b) env k) under
          ∙ ap (λ (o : Meaning). slash_of (slash_of (outcome p c) (outcome p all_below)) o env k) last
          ∙ deep_gives p (outcome p c) wanted tests m y.1 know env k
          (begin_gives p c _ refl env f n m k focus value e)
          ∙ ap (λ v. Ends (map Node (way_nodes v)) k) same

  last_gives : (a b : Expr) (along : Axis) (wanted : Test) (tests : List Expr) (w : Way) →
      out-Expr b ≡ Step along wanted tests → (x : Layer) → out-Expr a ≡ x →
      last_step_in x along wanted tests n ≡ Some w → Known w →
      slash_of (outcome p a) (outcome p b) env k ≡ Ends (map Node (way_nodes w)) k
  last_gives a b along wanted tests w is (Slash c all) out h sure =
      by (is_deep along all tests) refl h
    where
      by : (d : Bool) → is_deep along all tests ≡ d →
          (if d then option_map (way axis.Descendant wanted tests) (begin_of c n) else None) ≡ Some w →
          slash_of (outcome p a) (outcome p b) env k ≡ Ends (map Node (way_nodes w)) k
      by true e g = deep a b c all along wanted tests w is out e g sure
      by false e g = absurd cc
  last_gives a b along wanted tests w is x out h sure =
      begun a b along wanted tests w is x out h sure

  path_gives : (a b : Expr) (x : Layer) → out-Expr b ≡ x → (w : Way) → path_in a x n ≡ Some w →
      Known w → slash_of (outcome p a) (outcome p b) env k ≡ Ends (map Node (way_nodes w)) k
  path_gives a b (Step along wanted tests) out w h sure =
      last_gives a b along wanted tests w out (out-Expr a) refl h sure
  path_gives a b x out w h sure = absurd cc

  layer_gives : (e : Expr) (x : Layer) → out-Expr e ≡ x → (w : Way) → way_in x n ≡ Some w → Gives e w
  layer_gives e (Step along wanted tests) out w h sure =
      let same : way along wanted tests n ≡ w = cc in
      let know : Known (way along wanted tests n) = subst Known (sym same) sure in
      let g : Focus = record { node = n; position = f.place; size = f.size } in
      let here : env.focus ≡ Some (as_placed g) = focus ∙ ap Some (placed_is f n value) in
      ap (λ (o : Meaning). o env k) (step_means p e along wanted tests out)
      ∙ ap (λ z. step_of along wanted (map (outcome p) tests) z k) (sym (here_law env g here))
      ∙ step_gives p (way along wanted tests n) know env g k refl
      ∙ ap (λ v. Ends (map Node (way_nodes v)) k) same
    where
      placed_is : (f : Placed Item) (n : Place) → f.value ≡ Node n →
          f ≡ record { value = Node n; place = f.place; size = f.size }
      placed_is f n e = ap (λ (x : Item). (let r : Placed Item = record { value = x; place = f.place; size = f.size } in r)) e
  layer_gives e (Slash a b) out w h sure =
      ap (λ (o : Meaning). o env k) (slash_means p e a b out)
      ∙ path_gives a b (out-Expr b) refl w h sure
  layer_gives e x out w h sure = absurd cc

  way_gives : (e : Expr) (w : Way) → way_at e n ≡ Some w → Gives e w
  way_gives e w h = layer_gives e (out-Expr e) refl w h

-- at the focus

at_item : (p : Program) (e : Expr) (env : Env) (f : Placed Item) (x : Item) (w : Way) (k : ℕ) →
    env.focus ≡ Some f → f.value ≡ x → option_and_then (way_at e) (node_in x) ≡ Some w → Known w →
    outcome p e env k ≡ Ends (map Node (way_nodes w)) k
at_item p e env f (Node n) w k focus value h sure = way_gives p env f n k focus value e w h sure
at_item p e env f (Atom a) w k focus value h sure = absurd cc

at_focus_of : (p : Program) (e : Expr) (env : Env) (o : Option (Placed Item)) (w : Way) (k : ℕ) →
    env.focus ≡ o → way_of e o ≡ Some w → Known w →
    outcome p e env k ≡ Ends (map Node (way_nodes w)) k
at_focus_of p e env None w k focus h sure = absurd cc
at_focus_of p e env (Some f) w k focus h sure = at_item p e env f f.value w k focus refl h sure

pub way_law : (p : Program) (e : Expr) (env : Env) (w : Way) (k : ℕ) →
    way_of e env.focus ≡ Some w → is_walked w ≡ true → has_place w.from ≡ true →
    outcome p e env k ≡ Ends (map Node (way_nodes w)) k
way_law p e env w k h walked there =
    at_focus_of p e env env.focus w k refl h (known w walked there)
