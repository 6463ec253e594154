-- How templates are reached: by the rules of nodes, and by name (XSLT 2.0, 6 and 10.1).
use Rattle.std.specs.Prelude.{ℕ, List, [], ◌∷◌, map, if◌then◌else◌}
use Rattle.std.specs.Prelude.{Option, Some, None, option_and_then, Result, Ok, Err}
use Rattle.std.specs.List.{list_all}
use Rattle.xt_names.specs.declared.codes.Code.{Code}
use Rattle.xt_names.specs.declared.codes.Code.TheVariants.{SheetDynamic}
use Rattle.xt_names.specs.declared.codes.SheetDynamicCode.TheVariants.{XTDE0560, XTTE0510}
use Rattle.xt_names.specs.declared.codes.SheetDynamicCode.TheVariants.{XTTE0520}
use Rattle.xt_types.specs.declared.axes.Axis.TheVariants.{Child}
use Rattle.xt_tree.specs.Place.{Place, subtree_of}
use Rattle.xt_tree.specs.declared.trees.Tree.{Tree}
use Rattle.xt_tree.specs.declared.trees.Tree.TheVariants as tree
use Rattle.xdm_items.specs.declared.items.Item.{Item}
use Rattle.xdm_items.specs.declared.items.Item.TheVariants.{Node, Atom}
use Rattle.operator_values.specs.NodeAxes.Axes.{axis_nodes}
use Rattle.operator_values.specs.Nodes.{is_node}
use Rattle.xt_sheets.specs.declared.sheets.Rule.{Rule}
use Rattle.xt_sheets.specs.declared.values.ModeUse.{ModeUse}
use Rattle.xt_sheets.specs.declared.values.ModeUse.TheVariants.{Number, Current}
use Rattle.rule_order.specs.Rules.{best_of_all}
use Rattle.expr_meaning.specs.Outcomes.Outcome.{Outcome, Ends, and_then, step_outcome, for_each}
use Rattle.expr_meaning.specs.SortMeaning.Sorted.{Placed, places}
use Rattle.expr_meaning.specs.Env.{Binding, Env, Meaning, Program}
use Rattle.transform_meaning.specs.Bindings.{BoundMeaning, own_value}
use Rattle.transform_meaning.specs.Making.{new_text}
use Rattle.transform_meaning.specs.Places.{entry}
use Rattle.transform_meaning.specs.Sorting.{SortMeaning, in_sort_order}

-- The ways out of an instruction: the program of its expressions; a rule, or none, for the focus node
-- where these parameters are passed; and the template at a place.
pub record Doors : Type 0 where
  pub program : Program
  pub enter : List Binding → Meaning
  pub named : ℕ → List Binding → Meaning

-- the ordinary parameters that are passed, and the tunnel map
pub record Passed : Type 0 where
  pub ordinary : List Binding
  pub tunnel : List Binding

abbrev pub with_param : BoundMeaning → List Item → Passed → Passed
with_param p xs passed =
    if p.tunnel
    then record { ordinary = passed.ordinary; tunnel = (p.name, xs) ∷ passed.tunnel }
    else record { ordinary = (p.name, xs) ∷ passed.ordinary; tunnel = passed.tunnel }

abbrev pub passed_behind : Passed → List BoundMeaning → Env → ℕ → Outcome Passed
passed_behind passed [] env k = Ends passed k
passed_behind passed (p ∷ ps) env k =
    and_then (own_value p.value env k) (λ xs. passed_behind (with_param p xs passed) ps env)

-- the parameters in order; tunnel parameters are bound over the current tunnel map
abbrev pub passed_of : List BoundMeaning → Env → ℕ → Outcome Passed
passed_of params env k =
    passed_behind (record { ordinary = []; tunnel = env.state.tunnel }) params env k

abbrev pub child_items : Place → List Item
child_items n = map Node (axis_nodes Child n)

-- the children of the focus node
abbrev pub children_of_item : Item → Result (List Item) Code
children_of_item (Node n) = Ok (child_items n)
children_of_item (Atom a) = Err (SheetDynamic XTTE0510)

abbrev pub children_of_focus : Option (Placed Item) → Result (List Item) Code
children_of_focus None = Err (SheetDynamic XTTE0510)
children_of_focus (Some f) = children_of_item f.value

abbrev pub only_nodes : List Item → Result (List Item) Code
only_nodes xs = if list_all is_node xs then Ok xs else Err (SheetDynamic XTTE0520)

-- the nodes to which templates are applied
abbrev pub selection_of : Option Meaning → Meaning
selection_of None env k = step_outcome (children_of_focus env.focus) k
selection_of (Some select) env k = and_then (select env k) (λ xs j. step_outcome (only_nodes xs) j)

abbrev pub mode_of : ModeUse → Env → ℕ
mode_of (Number mode) env = mode
mode_of Current env = env.state.mode

-- the rule that is found for an item; an atom has none
abbrev pub for_item : (Place → Option ℕ) → Item → Option ℕ
for_item find (Node n) = find n
for_item find (Atom a) = None

abbrev pub for_focus : (Place → Option ℕ) → Option (Placed Item) → Option ℕ
for_focus find focus = option_and_then (λ f. for_item find f.value) focus

-- a node in its place, by the best of all rules of the mode
abbrev pub entered_at : List Rule → Doors → ℕ → Passed → Placed Item → ℕ → Outcome (List Item)
entered_at rules doors mode passed f k =
    doors.enter passed.ordinary
    (entry (Some f) (for_item (best_of_all rules mode) f.value) mode passed.tunnel) k

-- xsl:apply-templates
abbrev pub apply_of : List Rule → Doors → Option Meaning → ModeUse → List SortMeaning →
    List BoundMeaning → Meaning
apply_of rules doors select mode sorts params env k =
    and_then (selection_of select env k) (λ xs j.
    and_then (in_sort_order sorts env xs j) (λ fs i.
    and_then (passed_of params env i) (λ passed.
    for_each (entered_at rules doors (mode_of mode env) passed) fs)))

abbrev pub current_rule : Option ℕ → Result ℕ Code
current_rule None = Err (SheetDynamic XTDE0560)
current_rule (Some rule) = Ok rule

-- xsl:apply-imports and xsl:next-match (6.7): the focus as it stands, by the rule that the current
-- one overrides
abbrev pub overridden_of : (ℕ → ℕ → Place → Option ℕ) → Doors → List BoundMeaning → Meaning
overridden_of find doors params env k =
    and_then (step_outcome (current_rule env.state.rule) k) (λ rule j.
    and_then (passed_of params env j) (λ passed.
    doors.enter passed.ordinary
    (entry env.focus (for_focus (find rule env.state.mode) env.focus) env.state.mode
    passed.tunnel)))

-- xsl:call-template
abbrev pub call_of : Doors → ℕ → List BoundMeaning → Meaning
call_of doors place params env k =
    and_then (passed_of params env k) (λ passed.
    doors.named place passed.ordinary
    (entry env.focus env.state.rule env.state.mode passed.tunnel))

-- the built-in rules (6.6): documents and elements go on to their children, with the same mode and
-- parameters; texts and attributes give their text
abbrev pub children_entered : List Rule → Doors → List Binding → Place → Meaning
children_entered rules doors passed n env k =
    and_then (step_outcome (places (child_items n)) k)
    (for_each (entered_at rules doors env.state.mode
    (record { ordinary = passed; tunnel = env.state.tunnel })))

abbrev pub built_in_below : List Rule → Doors → List Binding → Place → Option Tree → Meaning
built_in_below rules doors passed n None env k = Ends [] k
built_in_below rules doors passed n (Some (tree.Doc kids)) env k =
    children_entered rules doors passed n env k
built_in_below rules doors passed n (Some (tree.Elem name attributes kids)) env k =
    children_entered rules doors passed n env k
built_in_below rules doors passed n (Some (tree.Text t)) env k = new_text t k
built_in_below rules doors passed n (Some (tree.Comment t)) env k = Ends [] k
built_in_below rules doors passed n (Some (tree.Pi target t)) env k = Ends [] k
built_in_below rules doors passed n (Some (tree.Attr name t)) env k = new_text t k

abbrev pub built_in_of : List Rule → Doors → List Binding → Option Item → Meaning
built_in_of rules doors passed None env k = Ends [] k
built_in_of rules doors passed (Some (Atom a)) env k = Ends [] k
built_in_of rules doors passed (Some (Node n)) env k =
    built_in_below rules doors passed n (subtree_of n) env k
