-- Items without sort keys, and nodes without rules.
use Rattle.std.proofs.Common.{◌≡◌, ℕ, List, [], length, refl, ap, ◌∙◌}
use Rattle.std.specs.Prelude.{◌^◌, Bool, true, false, if◌then◌else◌, nat_lt, Option, Some, None}
use Rattle.std.specs.Prelude.{Ok, Err, slice_get}
use Rattle.std.specs.Option.{option_map_or}
use Rattle.xt_names.specs.declared.codes.Code.TheVariants.{Dynamic}
use Rattle.xt_names.specs.declared.codes.DynamicCode.TheVariants.{FOAR0002}
use Rattle.xt_tree.specs.Place.{Place, subtree_of}
use Rattle.xt_tree.specs.declared.trees.Tree.{Tree}
use Rattle.xt_atoms.specs.declared.atoms.Atom.{Atom as AtomValue}
use Rattle.xdm_items.specs.declared.items.Item.{Item}
use Rattle.xdm_items.specs.declared.items.Item.TheVariants.{Node}
use Rattle.node_builder.specs.Answers.{root_place as new_root}
use Rattle.doc_set.specs.Sets.{DocumentSet}
use Rattle.xt_sheets.specs.declared.sheets.KeyRule.{KeyRule}
use Rattle.xt_sheets.specs.declared.sheets.Rule.{Rule}
use Rattle.xt_sheets.specs.declared.sheets.Sheet.{Sheet}
use Rattle.xt_sheets.specs.declared.values.ModeUse.{ModeUse}
use Rattle.expr_meaning.specs.Outcomes.Outcome.{Outcome, Ends, and_then, step_outcome, for_each}
use Rattle.expr_meaning.proofs.OutcomesLemmas.Steps.{then_same}
use Rattle.expr_meaning.specs.SortMeaning.Sorted.{Placed, places, placed, values, sorted, sorted_places}
use Rattle.expr_meaning.proofs.SortMeaning.Sorting.{sorted_plain, values_placed, visit_plain}
use Rattle.expr_meaning.specs.Env.{Binding, Env, Meaning}
use Rattle.transform_meaning.specs.Bindings.{BoundMeaning}
use Rattle.transform_meaning.specs.Dispatch.{Doors, apply_of, built_in_below}
use Rattle.transform_meaning.specs.Dispatch.{entered_at, mode_of, passed_of, selection_of}
use Rattle.transform_meaning.specs.Keys.{found_in, given_trees, keys_of}
use Rattle.transform_meaning.specs.Places.{among, entry, in_turn}
use Rattle.transform_meaning.specs.Sorting.{each_of, mixed}
use Rattle.transform_meaning.specs.Templates.{entered}

-- without columns items stand at their places
pub places_plain : (xs : List Item) (k : ℕ) → sorted_places mixed [] xs k ≡ step_outcome (places xs) k
places_plain xs k = by (nat_lt (length xs) (2 ^ 63))
  where
    kept : List (Placed Item) → ℕ → Outcome (List (Placed Item))
    kept fs j = and_then (sorted mixed [] fs j) (λ gs i. Ends (placed (values gs)) i)

    by : (b : Bool) →
        and_then (step_outcome (if b then Ok (placed xs) else Err (Dynamic FOAR0002)) k) kept
        ≡ step_outcome (if b then Ok (placed xs) else Err (Dynamic FOAR0002)) k
    by true =
        ap (λ o. and_then o (λ gs i. Ends (placed (values gs)) i)) (sorted_plain mixed (placed xs) k)
        ∙ ap (λ ys. Ends (placed ys) k) (values_placed 1 (length xs) xs)
    by false = refl

pub each_plain : (select body : Meaning) (env : Env) (k : ℕ) → each_of select [] body env k
    ≡ and_then (select env k) (λ xs j. and_then (step_outcome (places xs) j)
    (for_each (λ f. body (in_turn env f))))
each_plain select body env k =
    then_same (select env k) _ _ (λ xs j. visit_plain mixed (λ f. body (in_turn env f)) xs j)

pub apply_plain : (rules : List Rule) (doors : Doors) (select : Option Meaning) (mode : ModeUse)
    (params : List BoundMeaning) (env : Env) (k : ℕ) →
    apply_of rules doors select mode [] params env k
    ≡ and_then (selection_of select env k) (λ xs j. and_then (step_outcome (places xs) j) (λ fs i.
    and_then (passed_of params env i) (λ passed.
    for_each (entered_at rules doors (mode_of mode env) passed) fs)))
apply_plain rules doors select mode params env k =
    then_same (selection_of select env k) _ _ (λ xs j.
    ap (λ o. and_then o (λ fs i. and_then (passed_of params env i) (λ passed.
    for_each (entered_at rules doors (mode_of mode env) passed) fs))) (places_plain xs j))

-- a node without a rule goes by what is built in for its subtree
pub built_in : (sheet : Sheet) (doors : Doors) (passed tunnel : List Binding) (mode : ℕ) (n : Place)
    (place size : ℕ) (o : Option Tree) → subtree_of n ≡ o → (k : ℕ) →
    entered sheet doors passed (entry (Some (among place size (Node n))) None mode tunnel) k
    ≡ built_in_below sheet.rules doors passed n o
    (entry (Some (among place size (Node n))) None mode tunnel) k
built_in sheet doors passed tunnel mode n place size o e k =
    ap (λ w. built_in_below sheet.rules doors passed n w
    (entry (Some (among place size (Node n))) None mode tunnel) k) e

-- a tree that is known by its number, and one that is not
pub given_tree : (document tree : Tree) (documents : DocumentSet) (keys : List KeyRule)
    (name : List ℕ) (values : List AtomValue) (n k : ℕ) →
    slice_get (given_trees document documents) n ≡ Some tree →
    keys_of document documents keys name values (new_root n tree) k
    ≡ found_in documents keys name values (new_root n tree) k
given_tree document tree documents keys name values n k e =
    ap (λ o. found_in documents keys name values (option_map_or (new_root n) o (new_root n tree)) k) e

pub made_tree : (document : Tree) (documents : DocumentSet) (keys : List KeyRule)
    (name : List ℕ) (values : List AtomValue) (root : Place) (k : ℕ) →
    slice_get (given_trees document documents) root.number ≡ None →
    keys_of document documents keys name values root k
    ≡ found_in documents keys name values root k
made_tree document documents keys name values root k e =
    ap (λ o. found_in documents keys name values (option_map_or (new_root root.number) o root) k) e
