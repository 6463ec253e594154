-- Each whole stylesheet computes, once the recursion over its syntax is undone.
use Rattle.std.proofs.Common.{◌≡◌, [], ◌∷◌, refl}
use Rattle.std.specs.Prelude.{codes}
use Rattle.xt_names.specs.Allowed.{is_empty_text}
use Rattle.xt_syntax.specs.declared.exprs.Expr.{Expr}
use Rattle.xt_syntax.specs.declared.exprs.Clause.TheOpen.{Str, Var, Comma}
use Rattle.xt_syntax.specs.declared.exprs.Clause.TheViews.{out-roll-Expr}
use Rattle.xt_syntax.specs.declared.patterns.Pattern.{Pattern}
use Rattle.xt_sheets.specs.declared.instrs.Instr.TheOpen.{Select}
use Rattle.xt_sheets.specs.declared.instrs.Instr.TheViews.{roll-Instr, roll-Bound, roll-Value}
use Rattle.xt_sheets.specs.declared.sheets.Sheet.{Sheet}
use Rattle.xt_sheets.specs.Layers.{instr_gives, bound_gives, value_gives}
use Rattle.carried_exprs.specs.Sights.{Setting}
use Rattle.carried_exprs.proofs.SeenRolled.{seen_expr_rolled}
use Rattle.translated_forms.specs.Forms.{flow_or_body, comma, if_chain}
use Rattle.translated_forms.specs.Texts.{part_text, joined, template_text, source_text}
use Rattle.translated_forms.specs.Converted.{converted}
use Rattle.translated_forms.specs.NodeNames.{name_source}
use Rattle.translated_forms.specs.Bodies.{items_or_flow, part_before, sequence_of}
use Rattle.translated_forms.specs.Loops.{sorted}
use Rattle.translated_forms.specs.Dispatch.{applied}
use Rattle.translated_forms.specs.Instrs.{parts, part_steps}
use Rattle.translated_forms.specs.Places.{Place, Table, of_rule, of_named, setting_at}
use Rattle.translated_forms.proofs.Rolled.{instr_mapped, bound_mapped, value_mapped}
use Rattle.translated_forms.proofs.Rolled.{instr_rolled, bound_rolled, value_rolled}
use Rattle.translation.specs.Found.{founds, found_steps}
use Rattle.rule_order.specs.Rules.{is_lower}
use Rattle.translation.specs.Sheets.{query_of_sheet}
use Rattle.translation.specs.Tables.{table_of}
use Rattle.translation.specs.Templates.{template_expr}
use Rattle.translation_rows.specs.Samples.{InstrForm, BoundForm, ValueForm, named, string}
use Rattle.translation_rows.specs.Rows.{bound_p, call_with_p, chars, literal_r, value_of, next}
use Rattle.translation_rows.specs.Sheets.{SheetRows, built_in_items, flag, passed, calling, default_d, one_rule, p_var, three_rules}

-- one step of each recursion
find : (x : InstrForm) → instr_gives founds found_steps (roll-Instr Expr Pattern x)
    ≡ found_steps.of_instr (instr_mapped founds found_steps x)
find x = instr_rolled founds found_steps x

find_bound : (x : BoundForm) → bound_gives founds found_steps (roll-Bound Expr Pattern x)
    ≡ found_steps.of_bound (bound_mapped founds found_steps x)
find_bound x = bound_rolled founds found_steps x

find_value : (x : ValueForm) → value_gives founds found_steps (roll-Value Expr Pattern x)
    ≡ found_steps.of_value (value_mapped founds found_steps x)
find_value x = value_rolled founds found_steps x

module _ (s : Sheet) where
  abbrev t : Table
  t = table_of s

  instr : (x : InstrForm) → instr_gives parts (part_steps t) (roll-Instr Expr Pattern x)
      ≡ (part_steps t).of_instr (instr_mapped parts (part_steps t) x)
  instr x = instr_rolled parts (part_steps t) x

  bound : (x : BoundForm) → bound_gives parts (part_steps t) (roll-Bound Expr Pattern x)
      ≡ (part_steps t).of_bound (bound_mapped parts (part_steps t) x)
  bound x = bound_rolled parts (part_steps t) x

  value_of_form : (x : ValueForm) → value_gives parts (part_steps t) (roll-Value Expr Pattern x)
      ≡ (part_steps t).of_value (value_mapped parts (part_steps t) x)
  value_of_form x = value_rolled parts (part_steps t) x

  abbrev w : Place → Setting
  w p = setting_at t p

pub sheet_rows : SheetRows
unfolding flow_or_body comma if_chain part_text joined template_text source_text converted name_source
    items_or_flow part_before sequence_of sorted applied is_empty_text is_lower query_of_sheet template_expr
sheet_rows = record {
  one =
      let x = literal_r [] in
      rw (instr one_rule x, find x, out-roll-Expr (Comma (built_in_items []))) refl;
  one_body = rw (find (literal_r [])) refl;
  order =
      let s = three_rules in let a = chars (codes "a") in
      rw (instr s a, instr s next, find a, find next, out-roll-Expr (Comma (built_in_items []))) refl;
  parameters =
      let s = calling in let c = call_with_p in let v = value_of p_var in
      let text = string (codes "d") in
      rw (
        instr s c,
        instr s v,
        bound s bound_p,
        bound s default_d,
        value_of_form s (Select (string (codes "1"))),
        value_of_form s (Select text),
        seen_expr_rolled (w s (of_rule 1 0)) (Str (codes "1")),
        seen_expr_rolled (w s of_named) (Str (codes "d")),
        seen_expr_rolled (w s of_named) (Var (named (codes "p"))),
        find c,
        find v,
        find_bound bound_p,
        find_bound default_d,
        find_value (Select (string (codes "1"))),
        find_value (Select text),
        out-roll-Expr (Comma (built_in_items (flag ∷ passed ∷ []))),
        out-roll-Expr (Str (codes "d")),
      ) refl;
  parameters_body =
      let c = call_with_p in let v = value_of p_var in
      rw (
        find c,
        find v,
        find_bound bound_p,
        find_bound default_d,
        find_value (Select (string (codes "1"))),
        find_value (Select (string (codes "d"))),
      ) refl;
}
