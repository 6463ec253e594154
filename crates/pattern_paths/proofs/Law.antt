-- The expression of a pattern is true where the pattern matches.
use Rattle.std.proofs.Common.{◌≡◌, ℕ, List, [], ◌∷◌, ◌++◌, length, reverse, refl, ap, ◌∙◌, Bool}
use Rattle.std.proofs.Common.{true, false}
use Rattle.std.proofs.lemmas.Bool.{and_parts}
use Rattle.std.proofs.lemmas.List.{reverse-append}
use Rattle.std.proofs.lemmas.List.Folds.{list_all-append}
use Rattle.std.specs.Prelude.{not, ◌&&◌, ◌||◌, nat_le, if◌then◌else◌, Some}
use Rattle.xt_types.specs.declared.axes.Axis.{Axis}
use Rattle.xt_types.specs.declared.axes.Axis.TheVariants as axis
use Rattle.xt_types.specs.declared.node_tests.Test.TheVariants as test
use Rattle.xt_tree.specs.Place.{Place, has_place}
use Rattle.xt_tree.specs.Sound.{is_sound_tree}
use Rattle.xdm_items.specs.declared.items.Item.TheVariants.{Node}
use Rattle.node_axes.specs.StepWalks.Nodes.{Nodes, step_nodes}
use Rattle.node_axes.proofs.StepWalks.NodeLemmas.{step_within}
use Rattle.xt_syntax.specs.declared.exprs.Expr.{Expr}
use Rattle.xt_syntax.specs.declared.exprs.Clause.TheOpen.{Step}
use Rattle.xt_syntax.specs.declared.patterns.Pattern.{Pattern}
use Rattle.xt_syntax.specs.declared.patterns.PatternStep.{PatternStep}
use Rattle.expr_meaning.specs.Outcomes.Outcome.{Ends}
use Rattle.expr_meaning.specs.Env.{Env, Meaning, Program, look_up}
use Rattle.expr_meaning.specs.Logic.{truth_at}
use Rattle.expr_meaning.specs.Meaning.{outcome}
use Rattle.expr_laws.proofs.Rolled.{rolled}
use Rattle.walk_laws.specs.NodeOrders.Counted.{IsCountable}
use Rattle.walk_laws.proofs.NodeOrders.Counts.{sound_law}
use Rattle.walk_laws.specs.QuietValues.Given.{at_node}
use Rattle.walk_laws.proofs.QuietValues.Steps.{step_gives}
use Rattle.meaning_laws.specs.SoundValues.Sound.{IsSound}
use Rattle.match_patterns.specs.Patterns.{are_allowed_steps, has_allowed, has_none}
use Rattle.match_patterns.specs.Patterns.{pattern_matches, steps_match}
use Rattle.carried_exprs.specs.Sights.{item_name, the_item}
use Rattle.pattern_paths.specs.Upwards.{is_front, step, to_document, towards, upward_from}
use Rattle.pattern_paths.specs.Matching.{from_item, longest_path, match_test, path_along}
use Rattle.pattern_paths.specs.Matching.{some_along}
use Rattle.pattern_paths.specs.Matching.{has_step, is_whole_pattern}
use Rattle.pattern_paths.proofs.AxisAny.{itself_any}
use Rattle.pattern_paths.proofs.NodeKinds.{IsSoundPlace}
use Rattle.pattern_paths.proofs.StepForms.{itself_upward}
use Rattle.pattern_paths.proofs.Steps.{upward_given}
use Rattle.pattern_paths.proofs.Reach.{document_nodes, nodes_upward, reach, steps_reached}
use Rattle.pattern_paths.proofs.Walks.{AllLead, Leads, path_from_item, some_from_item}

-- the steps upwards lead to the nodes of the pattern's steps

document_leads : (p : Program) (up : Axis) → Leads p (step up test.Doc [])
    (step_nodes up test.Doc [])
document_leads p up env f c k =
    ap (λ (m : Meaning). m (at_node env f) k) (rolled p (Step up test.Doc []))
    ∙ step_gives up test.Doc [] [] tt refl env f c k

documents_lead : (p : Program) (rooted : Bool) (up : Axis) →
    AllLead p (to_document rooted up) (document_nodes rooted up)
documents_lead p true up = (document_leads p up, λ n. step_within up test.Doc [] n, tt)
documents_lead p false up = tt

all_lead : (p : Program) (rooted : Bool) (up : Axis) (steps : List PatternStep) →
    are_allowed_steps steps ≡ true → AllLead p (upward_from rooted up steps)
    (nodes_upward rooted up steps)
all_lead p rooted up [] h = documents_lead p rooted up
all_lead p rooted up (s ∷ before) h =
    let g = and_parts (has_allowed s) (are_allowed_steps before) h in (
      upward_given p (is_front rooted before) up s g.0,
      λ n. step_within up _ _ n,
      all_lead p rooted (towards s.deep) before g.1,
    )

-- a list turned round

last_first : (s : PatternStep) (more : List PatternStep) → reverse (s ∷ more)
    ≡ reverse more ++ s ∷ []
last_first s more = reverse-append (s ∷ []) more

turned_allowed : (steps : List PatternStep) → are_allowed_steps steps ≡ true →
    are_allowed_steps (reverse steps) ≡ true
turned_allowed [] h = refl
turned_allowed (s ∷ more) h =
    let g = and_parts (has_allowed s) (are_allowed_steps more) h in
    ap are_allowed_steps (last_first s more)
    ∙ list_all-append has_allowed (reverse more) (s ∷ [])
    ∙ rw (turned_allowed more g.1, g.0) refl

none_behind : (xs : List PatternStep) (s : PatternStep) → has_none (xs ++ s ∷ []) ≡ false
none_behind [] s = refl
none_behind (x ∷ xs) s = refl

turned_step : (steps : List PatternStep) → has_step steps ≡ true → has_none (reverse steps) ≡ false
turned_step [] h = absurd cc
turned_step (s ∷ more) h = ap has_none (last_first s more) ∙ none_behind (reverse more) s

whole_turned : (rooted : Bool) (steps : List PatternStep) → (rooted || has_step steps) ≡ true →
    (not rooted && has_none (reverse steps)) ≡ false
whole_turned true steps h = refl
whole_turned false steps h = turned_step steps h

-- the nodes of a pattern
abbrev pattern_nodes : Pattern → List Nodes
pattern_nodes p = nodes_upward p.rooted axis.Itself (reverse p.steps)

reached_where_matched : (p : Pattern) → is_whole_pattern p ≡ true → (n : Place) → IsSoundPlace n →
    reach (pattern_nodes p) n ≡ pattern_matches p n
reached_where_matched p w n s =
    steps_reached p.rooted (reverse p.steps) (whole_turned p.rooted p.steps w) axis.Itself
    itself_upward n s
    ∙ itself_any (steps_match p.rooted (reverse p.steps)) n s.exists

-- the law

from_item_tells : (q : Program) (es : List Expr) (gs : List Nodes) → AllLead q es gs →
    (env : Env) (n : Place) →
    IsCountable n → look_up env.locals item_name ≡ Some (Node n ∷ []) → (k : ℕ) →
    truth_at (outcome q (from_item es)) env k ≡ Ends (reach gs n) k
from_item_tells q es gs l env n c h k = by (nat_le (length es) longest_path)
  where
    by : (b : Bool) →
        truth_at (outcome q (if b then path_along the_item es else some_along es)) env k
        ≡ Ends (reach gs n) k
    by true = path_from_item q es gs l env n c h k
    by false = some_from_item q es gs l env n c h k

pub sound_place : (n : Place) → IsSound (Node n) → IsSoundPlace n
sound_place n s =
    let g = and_parts (is_sound_tree n.tree) (has_place n) s in record { tree = g.0; exists = g.1 }

pub match_law : (q : Program) (p : Pattern) (env : Env) (n : Place) (k : ℕ) → IsSound (Node n) →
    look_up env.locals item_name ≡ Some (Node n ∷ []) → are_allowed_steps p.steps ≡ true →
    is_whole_pattern p ≡ true →
    truth_at (outcome q (match_test p)) env k ≡ Ends (pattern_matches p n) k
match_law q p env n k s h a w =
    let g = sound_place n s in
    from_item_tells q (upward_from p.rooted axis.Itself (reverse p.steps)) (pattern_nodes p)
    (all_lead q p.rooted axis.Itself (reverse p.steps) (turned_allowed p.steps a)) env n
    (sound_law n g.tree g.exists) h k
    ∙ ap (λ b. Ends b k) (reached_where_matched p w n g)
