-- Steps upwards lead somewhere from a node that the pattern matches, and nowhere from any other.
use Rattle.std.proofs.Common.{◌≡◌, List, [], ◌∷◌, refl, ap, sym, ◌∙◌, Bool, true, false}
use Rattle.std.specs.Prelude.{not, ◌&&◌, if◌then◌else◌, Some, Option, None, is_some}
use Rattle.std.specs.Option.{option_to_list}
use Rattle.std.specs.List.{list_any}
use Rattle.xt_types.specs.declared.axes.Axis.{Axis}
use Rattle.xt_types.specs.declared.node_tests.Test.TheVariants as test
use Rattle.xt_tree.specs.declared.trees.Tree.{Tree}
use Rattle.xt_tree.specs.declared.trees.Tree.TheVariants.{Doc, Elem, Text, Comment, Pi, Attr}
use Rattle.xt_tree.specs.Kinds.{kind_of}
use Rattle.xt_tree.specs.Place.{Place, parent_of, subtree_of}
use Rattle.node_tests.specs.Tests.{passes_at, passes_test, tree_passes, is_document}
use Rattle.node_axes.specs.Axes.{axis_nodes}
use Rattle.node_axes.specs.StepWalks.Nodes.{Nodes, step_nodes}
use Rattle.node_axes.proofs.StepWalks.NodeLemmas.{axis_within}
use Rattle.xt_syntax.specs.declared.patterns.PatternStep.{PatternStep}
use Rattle.walk_laws.proofs.QuietValues.Names.{tree_there}
use Rattle.walk_laws.proofs.Members.{hold_here}
use Rattle.match_patterns.specs.Patterns.{above, has_none, is_led_by, is_root_document}
use Rattle.match_patterns.specs.Patterns.{is_document_kind}
use Rattle.match_patterns.specs.Patterns.{step_matches, steps_match}
use Rattle.pattern_paths.specs.Upwards.{is_front, kind_test, towards}
use Rattle.pattern_paths.proofs.AxisAny.{any_within, towards_any}
use Rattle.pattern_paths.proofs.Kept.{step_any}
use Rattle.pattern_paths.proofs.NodeKinds.{IsSoundPlace, sound_within, document_stands}
use Rattle.pattern_paths.proofs.NodeKinds.{is_document_tree}
use Rattle.pattern_paths.proofs.StepForms.{IsUpward, parent_upward, ancestor_upward}
use Rattle.match_patterns.proofs.AboveLemmas.{none_up, true_or_false}
use Rattle.pattern_paths.proofs.Steps.{HasParent, step_forms, step_same, step_told, upward_nodes}

-- whether some nodes are reached, step by step
abbrev pub reach : List Nodes → Place → Bool
reach [] n = true
reach (g ∷ gs) n = list_any (reach gs) (g n)

-- the nodes that the steps upwards lead to
abbrev pub document_nodes : Bool → Axis → List Nodes
document_nodes true up = step_nodes up test.Doc [] ∷ []
document_nodes false up = []

abbrev pub nodes_upward : Bool → Axis → List PatternStep → List Nodes
nodes_upward rooted up [] = document_nodes rooted up
nodes_upward rooted up (s ∷ before) =
    upward_nodes (is_front rooted before) up s ∷ nodes_upward rooted (towards s.deep) before

pub towards_upward : (deep : Bool) → IsUpward (towards deep)
unfolding towards
towards_upward true = ancestor_upward
towards_upward false = parent_upward

-- the document

document_passes : (up : Axis) (n : Place) (t : Tree) → subtree_of n ≡ Some t →
    passes_at up test.Doc n ≡ is_document_tree t
unfolding tree_passes passes_test is_document is_document_kind
document_passes up n t e = rw e (by t)
  where
    by : (t : Tree) → is_document t ≡ is_document_kind (Some (kind_of t))
    by (Doc kids) = refl
    by (Elem name attributes kids) = refl
    by (Text s) = refl
    by (Comment s) = refl
    by (Pi target s) = refl
    by (Attr name s) = refl

document_told : (up : Axis) (n : Place) → IsSoundPlace n → passes_at up test.Doc n
    ≡ is_root_document n
document_told up n s =
    let t = tree_there n s.exists in document_passes up n t.0 t.1
    ∙ sym (document_stands n t.0 s t.1)

and_all : (b : Bool) → ((b && true) && true) ≡ b
and_all true = refl
and_all false = refl

document_reached : (up : Axis) (n : Place) → IsSoundPlace n →
    reach (document_nodes true up) n ≡ list_any (steps_match true []) (axis_nodes up n)
unfolding steps_match
document_reached up n s =
    step_any (λ m. true) up test.Doc [] tt n
    ∙ any_within (λ m. (passes_at up test.Doc m && true) && true) (λ m. true && is_root_document m)
    n
    (axis_nodes up n) (axis_within up n)
    (λ m w. and_all (passes_at up test.Doc m) ∙ document_told up m (sound_within n m s w))

-- a step, and what comes before it

any_true : (rooted : Bool) (before : List PatternStep) → (not rooted && has_none before) ≡ true →
    (up : Axis) (m : Place) → reach (nodes_upward rooted up before) m ≡ true
any_true true before h up m = absurd cc
any_true false [] h up m = refl
any_true false (s ∷ before) h up m = absurd cc

abbrev Reaches : Bool → List PatternStep → Type 0
Reaches rooted steps =
    (up : Axis) → IsUpward up → (n : Place) → IsSoundPlace n →
    reach (nodes_upward rooted up steps) n ≡ list_any (steps_match rooted steps) (axis_nodes up n)

led : (rooted : Bool) (deep : Bool) (before : List PatternStep) →
    ((not rooted && has_none before) ≡ false → Reaches rooted before) → (m : Place) →
    IsSoundPlace m →
    reach (nodes_upward rooted (towards deep) before) m
    ≡ is_led_by (steps_match rooted before) rooted deep before m
led rooted deep before more m s = by (not rooted && has_none before) refl
  where
    by : (b : Bool) → (not rooted && has_none before) ≡ b →
        reach (nodes_upward rooted (towards deep) before) m
        ≡ (if b then true else list_any (steps_match rooted before) (above deep m))
    by true e = any_true rooted before e (towards deep) m
    by false e =
        more e (towards deep) (towards_upward deep) m s
        ∙ towards_any (steps_match rooted before) deep m s.exists

-- where something comes before the step and matches there is a parent

none_above : (f : Place → Bool) (deep : Bool) (m : Place) → parent_of m ≡ None →
    list_any f (above deep m) ≡ false
unfolding above
none_above f true m e = none_up f m e
none_above f false m e = ap (λ o. list_any f (option_to_list o)) e

led_parent : (rooted deep : Bool) (before : List PatternStep) (f : Place → Bool) (m : Place) →
    is_led_by f rooted deep before m ≡ true → HasParent (is_front rooted before) m
led_parent rooted deep before f m l e = by (parent_of m) refl
  where
    found : list_any f (above deep m) ≡ true
    found = ap (λ (b : Bool). if b then true else list_any f (above deep m)) (sym e) ∙ l

    by : (o : Option Place) → parent_of m ≡ o → is_some o ≡ true
    by None g = true_or_false (list_any f (above deep m)) found (none_above f deep m g)
    by (Some u) g = refl

led_or_not : (a b : Bool) (l r : Bool) → l ≡ r → (r ≡ true → a ≡ b) → (a && l) ≡ (b && r)
led_or_not a b l true e h = ap (λ z. a && z) e ∙ ap (λ z. z && true) (h refl)
led_or_not a b l false e h = ap (λ z. a && z) e ∙ no_more a ∙ sym (no_more b)
  where
    no_more : (c : Bool) → (c && false) ≡ false
    no_more true = refl
    no_more false = refl

-- a step is reached where it matches and what comes before it does
step_reached : (rooted : Bool) (s : PatternStep) (before : List PatternStep) →
    ((not rooted && has_none before) ≡ false → Reaches rooted before) → Reaches rooted (s ∷ before)
unfolding steps_match
step_reached rooted s before more up h n g =
    let alone = is_front rooted before in
    let ahead : Place → Bool = reach (nodes_upward rooted (towards s.deep) before) in
    let leads : Place → Bool = is_led_by (steps_match rooted before) rooted s.deep before in
    step_any ahead up (kind_test s.axis s.test) (step_forms alone s) (step_same alone s) n
    ∙ any_within (λ m. (passes_at up (kind_test s.axis s.test) m && hold_here (step_forms alone s)
    m) && ahead m)
    (λ m. step_matches s m && leads m) n (axis_nodes up n) (axis_within up n)
    (λ m w. (let k = sound_within n m g w in
    led_or_not (passes_at up (kind_test s.axis s.test) m && hold_here (step_forms alone s) m)
    (step_matches s m)
    (ahead m) (leads m) (led rooted s.deep before more m k)
    (λ l. step_told alone up h s m k (led_parent rooted s.deep before (steps_match rooted before) m
    l))))

pub steps_reached : (rooted : Bool) (steps : List PatternStep) → (not rooted && has_none steps)
    ≡ false →
    Reaches rooted steps
steps_reached true [] h = λ up u n s. document_reached up n s
steps_reached false [] h = absurd cc
steps_reached true (s ∷ before) h = step_reached true s before (λ e. steps_reached true before e)
steps_reached false (s ∷ before) h = step_reached false s before
    (λ e. steps_reached false before e)
