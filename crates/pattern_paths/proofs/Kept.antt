-- Whether some node passes of those that a step keeps whose predicates look at no position.
use Rattle.std.proofs.Common.{◌≡◌, ℕ, ◌+◌, List, [], ◌∷◌, map, refl, ap, ◌∙◌, Bool, true, false}
use Rattle.std.specs.Prelude.{◌&&◌, ◌||◌, if◌then◌else◌}
use Rattle.std.specs.List.{filter, list_any}
use Rattle.xt_types.specs.declared.axes.Axis.{Axis}
use Rattle.xt_types.specs.declared.node_tests.Test.{Test}
use Rattle.xt_tree.specs.Place.{Place}
use Rattle.node_tests.specs.Tests.{passes_at}
use Rattle.node_axes.specs.Axes.{axis_nodes}
use Rattle.node_axes.specs.StepWalks.Nodes.{kept_from, kept_by, kept_by_all, step_nodes}
use Rattle.node_axes.proofs.StepWalks.NodeLemmas.{step_same}
use Rattle.quiet_meaning.specs.Quietly.{Quietly, holds_at}
use Rattle.quiet_eval.specs.QuietPlaces.Free.{IsSame, focus}
use Rattle.walk_laws.proofs.Members.{AllSame, hold_here}
use Rattle.xt_names.proofs.ListLemmas.{any_filter, any_same}

abbrev pub holds_here : Quietly → Place → Bool
holds_here q m = holds_at q (focus m 1 1)

one_kept : (P : Place → Bool) (q : Quietly) → IsSame q → (size at : ℕ) (xs : List Place) →
    list_any P (kept_from (holds_at q) size at xs) ≡ list_any (λ m. holds_here q m && P m) xs
unfolding kept_from
one_kept P q same size at [] = refl
one_kept P q same size at (x ∷ xs) =
    by (holds_at q (focus x at size)) (one_kept P q same size (at + 1) xs)
    ∙ ap (λ (b : Bool). (b && P x) || list_any (λ m. holds_here q m && P m) xs)
    (same x at size 1 1)
  where
    by : (b : Bool) → list_any P (kept_from (holds_at q) size (at + 1) xs)
        ≡ list_any (λ m. holds_here q m && P m) xs →
        list_any P (if b then x ∷ kept_from (holds_at q) size (at + 1) xs
        else kept_from (holds_at q) size (at + 1) xs)
        ≡ ((b && P x) || list_any (λ m. holds_here q m && P m) xs)
    by true e = ap (λ (z : Bool). P x || z) e
    by false e = e

grouped : (a b c : Bool) → (a && (b && c)) ≡ ((a && b) && c)
grouped true b c = refl
grouped false b c = refl

all_kept : (P : Place → Bool) (qs : List Quietly) → AllSame qs → (xs : List Place) →
    list_any P (kept_by_all (map holds_at qs) xs) ≡ list_any (λ m. hold_here qs m && P m) xs
unfolding kept_by_all kept_by
all_kept P [] same xs = refl
all_kept P (q ∷ qs) same xs =
    all_kept P qs same.1 (kept_by (holds_at q) xs)
    ∙ one_kept (λ m. hold_here qs m && P m) q same.0 _ 1 xs
    ∙ any_same (λ m. holds_here q m && (hold_here qs m && P m)) (λ m. hold_here (q ∷ qs) m && P m)
    xs
    (λ m. grouped (holds_here q m) (hold_here qs m) (P m))

-- a step with such predicates, which has these forms
pub step_any : (P : Place → Bool) (along : Axis) (wanted : Test) (qs : List Quietly) → AllSame qs →
    (n : Place) → list_any P (step_nodes along wanted (map holds_at qs) n)
    ≡ list_any (λ m. (passes_at along wanted m && hold_here qs m) && P m) (axis_nodes along n)
step_any P along wanted qs same n =
    step_same along wanted (map holds_at qs) n P
    ∙ all_kept P qs same (filter (passes_at along wanted) (axis_nodes along n))
    ∙ any_filter (λ m. hold_here qs m && P m) (passes_at along wanted) (axis_nodes along n)
    ∙ any_same (λ m. passes_at along wanted m && (hold_here qs m && P m))
    (λ m. (passes_at along wanted m && hold_here qs m) && P m) (axis_nodes along n)
    (λ m. grouped (passes_at along wanted m) (hold_here qs m) (P m))
