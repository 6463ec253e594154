-- Each row computes, once the recursion over its syntax is undone.
use Rattle.std.proofs.Common.{◌≡◌, ℕ, [], ◌∷◌, refl}
use Rattle.std.specs.Prelude.{Some, None, false, codes}
use Rattle.xt_names.specs.Allowed.{is_empty_text}
use Rattle.xt_names.specs.Classes.{begins_name, is_in_ranges, is_ncname_text}
use Rattle.text_operations.specs.Searches.{text_before}
use Rattle.xdm_items.specs.Truth.{truth_of, truth_of_atom}
use Rattle.xdm_items.specs.Values.{atomized}
use Rattle.lazy_seq.specs.Orders.{item_cmp, item_key}
use Rattle.transform_meaning.specs.Names.{spelled_name}
use Rattle.xt_atoms.specs.AtomTexts.{text_of}
use Rattle.xt_atoms.specs.Comparisons.{text_order}
use Rattle.xt_atoms.specs.Keys.{key_same}
use Rattle.node_tests.specs.Tests.{tree_passes, passes_test, passes_principal, passes_element, passes_name}
use Rattle.node_axes.specs.StepWalks.Nodes.{kept_by_all, kept_by}
use Rattle.function_table.specs.Find.{is_in_fn}
use Rattle.order_group.specs.Rows.{mixed_from, row_order, cell_order, directed, atom_order, is_of, cell_is_of}
use Rattle.node_builder.specs.Complex.{complex_content, taken}
use Rattle.node_builder.specs.Simple.{simple_content}
use Rattle.node_builder.specs.Trees.{numbered, limited, document_of, element_of}
use Rattle.xt_syntax.specs.declared.exprs.Clause.TheOpen.{Str, Var, Context, Step}
use Rattle.xt_syntax.specs.declared.exprs.Clause.TheViews.{roll-Expr}
use Rattle.xt_types.specs.declared.axes.Axis.TheVariants.{Child}
use Rattle.xt_types.specs.declared.node_tests.Test.TheVariants as test
use Rattle.xt_syntax.specs.declared.exprs.Expr.{Expr}
use Rattle.xt_syntax.specs.declared.patterns.Pattern.{Pattern}
use Rattle.xt_sheets.specs.declared.instrs.Instr.TheOpen.{ApplyImports, NextMatch, Select, EmptyList, Required, Sequence}
use Rattle.xt_sheets.specs.declared.instrs.Instr.TheViews.{roll-Instr, roll-Bound, roll-Value}
use Rattle.xt_sheets.specs.declared.sheets.Sheet.{Sheet}
use Rattle.xt_sheets.specs.Layers.{instr_gives, bound_gives, value_gives}
use Rattle.match_patterns.specs.Patterns.{steps_match, is_document_kind, step_matches, stands_for, is_child_kind, above}
use Rattle.operator_values.specs.Nodes.{is_node}
use Rattle.node_axes.specs.Axes.{axis_nodes, in_axis_order, on_axis, is_child, begins_with, is_attribute, is_reverse, is_itself, same_path, same_attribute}
use Rattle.xt_tree.specs.declared.trees.Tree.{Tree}
use Rattle.expr_meaning.specs.Calls.{called}
use Rattle.expr_meaning.specs.Env.{look_up, Program}
use Rattle.expr_laws.proofs.Rolled.{rolled}
use Rattle.rule_order.specs.Rules.{best_rule, fits, is_lower}
use Rattle.transform_meaning.specs.Dispatch.{Doors}
use Rattle.transform_meaning.specs.Instrs.{meanings, steps}
use Rattle.transform_meaning.specs.Keys.{key_pairs, key_text, use_program}
use Rattle.transform_meaning.specs.Making.{element_items}
use Rattle.transform_meaning.specs.Sorting.{sort_cell}
use Rattle.transform_meaning.specs.Templates.{doors_at}
use Rattle.transform_meaning.specs.Texts.{simple_text}
use Rattle.transform_laws.proofs.Rolled.{instr_mapped, instr_rolled, bound_mapped, bound_rolled, value_mapped, value_rolled}
use Rattle.transform_rows.specs.Samples.{InstrForm, BoundForm, ValueForm, a, a_b_c, a_with_b, bind_it}
use Rattle.transform_rows.specs.Samples.{bound_to, do_it, dot, r, run, string, x_name, x_var}
use Rattle.transform_rows.specs.Rows.{Rows, apply, attribute, beside, by_dot, call_n, calling}
use Rattle.transform_rows.specs.Rows.{a_with_t, chars, default_d, empty_x, go_on, going, grouped}
use Rattle.transform_rows.specs.Rows.{requiring, grouping_key, if_x, imported, in_each, k_of_y, keyed, literal_r}
use Rattle.transform_rows.specs.Rows.{seven, through, tunnel_x, twice, value_of}
use Rattle.xt_names.specs.Lists.{stable_order}

abbrev doors : Sheet → Tree → ℕ → Doors
doors s document n = doors_at (run s document) [] n

-- one step of the recursion, with the doors where so many calls are left
module _ (s : Sheet) (d : Tree) (n : ℕ) where
  instr : (x : InstrForm) → instr_gives meanings (steps s (doors s d n)) (roll-Instr Expr Pattern x)
      ≡ (steps s (doors s d n)).of_instr (instr_mapped meanings (steps s (doors s d n)) x)
  instr x = instr_rolled meanings (steps s (doors s d n)) x

  bound : (x : BoundForm) → bound_gives meanings (steps s (doors s d n)) (roll-Bound Expr Pattern x)
      ≡ (steps s (doors s d n)).of_bound (bound_mapped meanings (steps s (doors s d n)) x)
  bound x = bound_rolled meanings (steps s (doors s d n)) x

  value : (x : ValueForm) → value_gives meanings (steps s (doors s d n)) (roll-Value Expr Pattern x)
      ≡ (steps s (doors s d n)).of_value (value_mapped meanings (steps s (doors s d n)) x)
  value x = value_rolled meanings (steps s (doors s d n)) x

  abbrev program : Program
  program = (doors s d n).program

pub rows : Rows
unfolding is_empty_text element_items numbered limited document_of element_of complex_content
    taken axis_nodes in_axis_order on_axis is_child begins_with is_attribute is_reverse best_rule
    fits is_lower steps_match is_document_kind step_matches stands_for is_child_kind above
    tree_passes passes_test passes_principal passes_element passes_name kept_by_all kept_by
    is_itself same_path same_attribute look_up simple_text simple_content mixed_from stable_order
    text_of sort_cell row_order cell_order directed atom_order is_of cell_is_of text_order
    key_pairs key_text called is_in_fn key_same spelled_name text_before is_ncname_text
    begins_name is_in_ranges truth_of truth_of_atom item_cmp item_key atomized is_node
rows = record {
  literal_element =
      let s = r (do_it (literal_r []) ∷ []) in let d = a in
      rw (instr s d 0 (literal_r [])) refl;
  built_in = refl;
  built_in_lacks_calls = refl;
  later_rule =
      let s = twice in let d = a in
      rw (instr s d 0 (chars (codes "2"))) refl;
  higher_precedence =
      let s = imported (Sequence dot) in let d = a in
      rw (
        instr s d 0 (chars (codes "[")),
        instr s d 0 (Sequence dot),
        instr s d 0 (chars (codes "]")),
        rolled (program s d 0) Context,
      ) refl;
  not_imported =
      let s = beside in let d = a_with_t in
      rw (
        instr s d 2 (chars (codes "[")),
        instr s d 2 (ApplyImports []),
        instr s d 2 (chars (codes "]")),
      ) refl;
  same_attribute_twice =
      let k1 = attribute (codes "k") (codes "1") in let j2 = attribute (codes "j") (codes "2") in
      let k3 = attribute (codes "k") (codes "3") in
      let x = literal_r (do_it k1 ∷ do_it j2 ∷ do_it k3 ∷ []) in let s = r (do_it x ∷ []) in
      let d = a in
      rw (
        instr s d 0 x,
        instr s d 0 k1,
        instr s d 0 j2,
        instr s d 0 k3,
        rolled (program s d 0) (Str (codes "1")),
        rolled (program s d 0) (Str (codes "2")),
        rolled (program s d 0) (Str (codes "3")),
      ) refl;
  attribute_behind_text =
      let c = chars (codes "t") in let k1 = attribute (codes "k") (codes "1") in
      let x = literal_r (do_it c ∷ do_it k1 ∷ []) in let s = r (do_it x ∷ []) in let d = a in
      rw (instr s d 0 x, instr s d 0 c, instr s d 0 k1, rolled (program s d 0) (Str (codes "1")))
      refl;
  attribute_behind_empty_text =
      let c = chars [] in let k1 = attribute (codes "k") (codes "1") in
      let x = literal_r (do_it c ∷ do_it k1 ∷ []) in let s = r (do_it x ∷ []) in let d = a in
      rw (instr s d 0 x, instr s d 0 c, instr s d 0 k1, rolled (program s d 0) (Str (codes "1")))
      refl;
  passed_empty_list =
      let s = calling default_d in let d = a in
      rw (
        instr s d 1 (call_n []),
        instr s d 1 (chars (codes ",")),
        instr s d 1 (call_n (empty_x ∷ [])),
        bound s d 1 (bound_to EmptyList false),
        value s d 1 EmptyList,
        bound s d 0 (bound_to (Select (string (codes "d"))) false),
        value s d 0 (Select (string (codes "d"))),
        rolled (program s d 0) (Str (codes "d")),
        instr s d 0 (value_of x_var),
        rolled (program s d 0) (Var x_name),
      ) refl;
  required =
      let s = requiring in let d = a in
      rw (
        instr s d 1 (apply None [] []),
        bound s d 0 (bound_to Required false),
        value s d 0 Required,
      ) refl;
  function_calls =
      let s = going in let d = a in
      rw (
        instr s d 2 (Sequence (roll-Expr (go_on (codes "1")))),
        rolled (program s d 2) (go_on (codes "1")),
        rolled (program s d 2) (Str (codes "1")),
        instr s d 1 if_x,
        rolled (program s d 1) (Var x_name),
        instr s d 1 (Sequence (roll-Expr (go_on []))),
        rolled (program s d 1) (go_on []),
        rolled (program s d 1) (Str []),
        instr s d 0 if_x,
        rolled (program s d 0) (Var x_name),
      ) refl;
  function_lacks_calls =
      let s = going in let d = a in
      rw (
        instr s d 1 (Sequence (roll-Expr (go_on (codes "1")))),
        rolled (program s d 1) (go_on (codes "1")),
        rolled (program s d 1) (Str (codes "1")),
        instr s d 0 if_x,
        rolled (program s d 0) (Var x_name),
        instr s d 0 (Sequence (roll-Expr (go_on []))),
        rolled (program s d 0) (go_on []),
        rolled (program s d 0) (Str []),
      ) refl;
  applied_to_atom =
      let x = apply (Some (string (codes "1"))) [] [] in let s = r (do_it x ∷ []) in let d = a in
      rw (instr s d 0 x, rolled (program s d 0) (Str (codes "1"))) refl;
  no_rule_in_loop =
      let s = r (do_it in_each ∷ []) in let d = a in
      rw (instr s d 0 in_each, instr s d 0 (ApplyImports []), rolled (program s d 0) Context)
      refl;
  next_match =
      let s = imported (NextMatch []) in let d = a in
      rw (
        instr s d 1 (chars (codes "[")),
        instr s d 1 (NextMatch []),
        instr s d 1 (chars (codes "]")),
        instr s d 0 (chars (codes "m")),
      ) refl;
  apply_imports =
      let s = imported (ApplyImports []) in let d = a in
      rw (
        instr s d 1 (chars (codes "[")),
        instr s d 1 (ApplyImports []),
        instr s d 1 (chars (codes "]")),
        instr s d 0 (chars (codes "m")),
      ) refl;
  tunnel =
      let s = through in let x = apply None [] (bind_it seven ∷ []) in let d = a_with_b in
      rw (
        instr s d 2 x,
        bound s d 2 seven,
        value s d 2 (Select (string (codes "7"))),
        rolled (program s d 2) (Str (codes "7")),
        bound s d 0 tunnel_x,
        instr s d 0 (value_of x_var),
        rolled (program s d 0) (Var x_name),
      ) refl;
  sorted =
      let x = apply None (by_dot ∷ []) [] in let s = r (do_it x ∷ []) in let d = a_b_c in
      rw (instr s d 2 x, rolled (program s d 2) Context) refl;
  groups =
      let s = r (do_it grouped ∷ []) in let d = a_b_c in
      rw (
        instr s d 0 grouped,
        rolled (program s d 0) (Step Child test.Node []),
        rolled (program s d 0) Context,
        instr s d 0 (chars (codes "-")),
        instr s d 0 (value_of (roll-Expr grouping_key)),
        rolled (program s d 0) grouping_key,
      ) refl;
  keys =
      let s = keyed in let d = a_b_c in
      rw (
        instr s d 0 (value_of (roll-Expr k_of_y)),
        rolled (program s d 0) k_of_y,
        rolled (program s d 0) (Str (codes "k")),
        rolled (program s d 0) (Str (codes "y")),
        rolled (use_program []) Context,
      ) refl;
}
