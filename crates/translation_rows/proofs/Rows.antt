-- Each row computes, once the recursion over its syntax is undone.
use Rattle.std.proofs.Common.{◌≡◌, [], ◌∷◌, List, refl}
use Rattle.std.specs.Prelude.{codes}
use Rattle.xt_names.specs.Allowed.{is_empty_text}
use Rattle.xt_names.specs.Classes.{begins_name, is_in_ranges, is_ncname_text}
use Rattle.text_operations.specs.Searches.{text_before}
use Rattle.function_table.specs.Find.{is_in_fn, found, found_in}
use Rattle.function_table.specs.Table.{joined as joined_rows}
use Rattle.xt_syntax.specs.declared.exprs.Expr.{Expr}
use Rattle.xt_syntax.specs.declared.exprs.Arm.{Arm}
use Rattle.xt_syntax.specs.declared.exprs.Clause.{Clause}
use Rattle.xt_syntax.specs.declared.exprs.Order.{Order}
use Rattle.xt_syntax.specs.declared.exprs.Flwor.{Flwor as FlworOf}
use Rattle.xt_syntax.specs.declared.exprs.Bind.{Bind}
use Rattle.xt_syntax.specs.declared.exprs.NameSource.{NameSource}
use Rattle.xt_syntax.specs.declared.exprs.DirectAttr.{DirectAttr}
use Rattle.xt_syntax.specs.declared.exprs.Part.{Part}
use Rattle.xt_syntax.specs.declared.exprs.Clause.TheFolds.{fold-roll-Expr, map-Expr}
use Rattle.xt_syntax.specs.declared.exprs.Clause.TheOpen.{Str, Var, Context, Comma, If, Call as CallOf}
use Rattle.xt_syntax.specs.declared.exprs.Clause.TheOpen.{TextC}
use Rattle.xt_syntax.specs.declared.exprs.Clause.TheViews.{out-roll-Expr, roll-Expr}
use Rattle.xt_syntax.specs.Layers.{clause_gives, name_gives, part_gives, arm_gives}
use Rattle.xt_syntax.specs.Layers.{bind_gives, attr_gives, flwor_gives, order_gives, expr_gives}
use Rattle.xt_syntax.specs.declared.patterns.Pattern.{Pattern}
use Rattle.xt_sheets.specs.declared.instrs.Instr.TheOpen.{Select}
use Rattle.xt_sheets.specs.declared.instrs.Instr.TheViews.{roll-Instr, roll-Bound, roll-Value, roll-When}
use Rattle.xt_sheets.specs.Layers.{instr_gives, bound_gives, value_gives, when_gives}
use Rattle.expr_meaning.specs.Calls.{called as called_by}
use Rattle.carried_exprs.specs.Forms.{ExprForm}
use Rattle.carried_exprs.specs.Sights.{Setting, item_name, size_name, variable_of, the_item, nothing}
use Rattle.translated_forms.specs.Names.{local_name}
use Rattle.carried_exprs.proofs.SeenRolled.{seen_expr_rolled}
use Rattle.translated_forms.specs.Forms.{flow_or_body, comma, if_chain, arm_of}
use Rattle.translated_forms.specs.Mentions.{truths, mention_steps}
use Rattle.translated_forms.specs.Texts.{part_before as text_before_part, part_text, joined, template_text, source_text}
use Rattle.translated_forms.specs.Converted.{converted}
use Rattle.transform_meaning.specs.Names.{spelled_name}
use Rattle.translated_forms.specs.NodeNames.{name_source, attribute_source}
use Rattle.translated_forms.specs.Bodies.{items_or_flow, part_before, sequence_of}
use Rattle.translated_forms.specs.Loops.{ordered, each_in, sorted}
use Rattle.translated_forms.specs.Dispatch.{applied}
use Rattle.translated_forms.specs.Instrs.{parts, part_steps}
use Rattle.translated_forms.specs.Places.{Param, Table, setting_at}
use Rattle.translated_forms.proofs.Rolled.{instr_mapped, bound_mapped, value_mapped, when_mapped}
use Rattle.translated_forms.proofs.Rolled.{instr_rolled, bound_rolled, value_rolled, when_rolled}
use Rattle.translation_rows.specs.Samples.{InstrForm, BoundForm, ValueForm, WhenForm, do_it, dot, p_param, place, string, table_with}
use Rattle.translation_rows.specs.Rows.{Rows, apply, attribute_k, bound_p, bound_v, call_with_p, chars, choose_x}
use Rattle.translation_rows.specs.Rows.{each_dot, if_y, last_call, literal_r, local, next, text_of, value_of, variable_v, when_x}
use Rattle.xt_names.specs.ExprNames.{library_name}

-- one step of each recursion
module _ (ps : List Param) where
  abbrev t : Table
  t = table_with ps

  instr : (x : InstrForm) → instr_gives parts (part_steps t) (roll-Instr Expr Pattern x)
      ≡ (part_steps t).of_instr (instr_mapped parts (part_steps t) x)
  instr x = instr_rolled parts (part_steps t) x

  bound : (x : BoundForm) → bound_gives parts (part_steps t) (roll-Bound Expr Pattern x)
      ≡ (part_steps t).of_bound (bound_mapped parts (part_steps t) x)
  bound x = bound_rolled parts (part_steps t) x

  value_of_form : (x : ValueForm) → value_gives parts (part_steps t) (roll-Value Expr Pattern x)
      ≡ (part_steps t).of_value (value_mapped parts (part_steps t) x)
  value_of_form x = value_rolled parts (part_steps t) x

  when_of : (x : WhenForm) → when_gives parts (part_steps t) (roll-When Expr Pattern x)
      ≡ (part_steps t).of_when (when_mapped parts (part_steps t) x)
  when_of x = when_rolled parts (part_steps t) x

  abbrev w : Setting
  w = setting_at t place

-- whether the size is mentioned
abbrev mentioned : ExprForm → truths.Exprs
mentioned x = (mention_steps size_name).of_expr
    (map-Expr Clause Expr NameSource Part Arm Bind DirectAttr FlworOf Order
    truths.Clauses truths.Exprs truths.Names truths.Parts truths.Arms truths.Binds truths.Attrs
    truths.Flwors truths.Orders
    (clause_gives truths (mention_steps size_name)) (expr_gives truths (mention_steps size_name))
    (name_gives truths (mention_steps size_name)) (part_gives truths (mention_steps size_name))
    (arm_gives truths (mention_steps size_name)) (bind_gives truths (mention_steps size_name))
    (attr_gives truths (mention_steps size_name)) (flwor_gives truths (mention_steps size_name))
    (order_gives truths (mention_steps size_name)) x)

mention : (x : ExprForm) → expr_gives truths (mention_steps size_name) (roll-Expr x) ≡ mentioned x
mention x = fold-roll-Expr _ _ _ _ _ _ _ _ _ _ _ _ _ _ _ _ _ _ x

pub rows : Rows
unfolding flow_or_body comma if_chain text_before_part part_text joined template_text source_text
    converted name_source spelled_name attribute_source items_or_flow part_before sequence_of ordered each_in
    sorted applied is_empty_text begins_name is_in_ranges is_ncname_text text_before is_in_fn called_by
    found found_in joined_rows
rows = record {
  literal =
      let c = chars (codes "t") in let x = literal_r (do_it c ∷ []) in
      rw (instr [] x, instr [] c) refl;
  content_with_attribute =
      let x = literal_r (do_it attribute_k ∷ []) in
      rw (instr [] x, instr [] attribute_k, seen_expr_rolled (w []) (Str (codes "1"))) refl;
  value = rw (instr [] (value_of dot), seen_expr_rolled (w []) Context) refl;
  row =
      rw (
        instr [] (chars (codes "a")),
        instr [] variable_v,
        instr [] (chars (codes "b")),
        bound [] bound_v,
        value_of_form [] (Select (string (codes "1"))),
        seen_expr_rolled (w []) (Str (codes "1")),
      ) refl;
  chain =
      rw (
        instr [] choose_x,
        when_of [] when_x,
        instr [] (chars (codes "x")),
        instr [] if_y,
        instr [] (chars (codes "y")),
        seen_expr_rolled (w []) Context,
        out-roll-Expr (Comma []),
        out-roll-Expr (If (arm_of (the_item, text_of (string (codes "y"))) ∷ []) nothing),
      ) refl;
  loop =
      rw (
        instr [] (each_dot dot),
        instr [] (value_of dot),
        seen_expr_rolled (w []) Context,
        mention (TextC (local (codes "simple") (the_item ∷ string (codes " ") ∷ []))),
        mention (CallOf (local_name (codes "simple")) (the_item ∷ string (codes " ") ∷ [])),
        mention (Var item_name),
        mention (Str (codes " ")),
      ) refl;
  loop_with_size =
      let size = variable_of size_name in
      rw (
        instr [] (each_dot last_call),
        instr [] (value_of last_call),
        seen_expr_rolled (w []) Context,
        seen_expr_rolled (w []) (CallOf (library_name (codes "last")) []),
        mention (TextC (local (codes "simple") (size ∷ string (codes " ") ∷ []))),
        mention (CallOf (local_name (codes "simple")) (size ∷ string (codes " ") ∷ [])),
        mention (Var size_name),
      ) refl;
  applied = rw (instr [] apply) refl;
  called =
      rw (
        instr (p_param ∷ []) call_with_p,
        bound (p_param ∷ []) bound_p,
        value_of_form (p_param ∷ []) (Select (string (codes "1"))),
        seen_expr_rolled (w (p_param ∷ [])) (Str (codes "1")),
      ) refl;
  next_one = rw (instr (p_param ∷ []) next) refl;
}
