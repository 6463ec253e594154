-- What small sequence constructors become.
use Rattle.std.specs.Prelude.{◌≡◌, ℕ, List, [], ◌∷◌, false, Some, None, codes}
use Rattle.xt_types.specs.declared.axes.Axis.TheVariants.{Child}
use Rattle.xt_types.specs.declared.node_tests.Test.TheVariants.{Node}
use Rattle.xt_syntax.specs.declared.exprs.Expr.{Expr}
use Rattle.xt_syntax.specs.declared.exprs.Clause.TheViews.{roll-Expr, roll-NameSource}
use Rattle.xt_syntax.specs.declared.exprs.Clause.TheOpen.{Comma, Call as CallOf, Slash, Step, ElemC}
use Rattle.xt_syntax.specs.declared.exprs.Clause.TheOpen.{AttrC, TextC, Fixed}
use Rattle.xt_sheets.specs.declared.instrs.Instr.TheOpen.{Chars, ValueOf, Literal, Attribute, If, Choose}
use Rattle.xt_sheets.specs.declared.instrs.Instr.TheOpen.{ForEach, Variable, Apply, CallTemplate, NextMatch, Select}
use Rattle.xt_sheets.specs.declared.instrs.Instr.TheViews.{roll-Value, roll-When}
use Rattle.xt_sheets.specs.declared.values.ModeUse.TheVariants.{Number}
use Rattle.carried_exprs.specs.Sights.{item_name, size_name, variable_of, the_item, nothing, library_call, position_name}
use Rattle.translated_forms.specs.Names.{items_name, count_name, local_name, mode_function}
use Rattle.translated_forms.specs.Names.{named_function, next_function, given_name}
use Rattle.translated_forms.specs.Forms.{flow, let_clause, for_at_clause, if_many, arm_of}
use Rattle.xt_syntax.specs.declared.patterns.Pattern.{Pattern}
use Rattle.translation_rows.specs.Samples.{InstrForm, BoundForm, WhenForm, TheInstr, become, bind_it, do_it}
use Rattle.translation_rows.specs.Samples.{dot, named, p_param, plain, spelled_by, string, v_name}
use Rattle.xt_names.specs.ExprNames.{library_name}

-- instructions
abbrev pub chars : List ℕ → InstrForm
chars x = Chars x

abbrev pub value_of : Expr → InstrForm
value_of e = ValueOf (Some e) [] None

abbrev pub literal_r : List TheInstr → InstrForm
literal_r body = Literal (plain (codes "r")) [] body

-- <xsl:attribute name="k" select="'1'"/>
abbrev pub attribute_k : InstrForm
attribute_k = Attribute (spelled_by (codes "k")) (Some (string (codes "1"))) [] None

abbrev pub bound_v : BoundForm
bound_v = record {
  name = v_name;
  kind = None;
  value = roll-Value Expr Pattern (Select (string (codes "1")));
  tunnel = false;
}

abbrev pub bound_p : BoundForm
bound_p = record {
  name = named (codes "p");
  kind = None;
  value = roll-Value Expr Pattern (Select (string (codes "1")));
  tunnel = false;
}

abbrev pub variable_v : InstrForm
variable_v = Variable (bind_it bound_v)

abbrev pub when_x : WhenForm
when_x = record { test = dot; body = do_it (chars (codes "x")) ∷ [] }

abbrev pub if_y : InstrForm
if_y = If dot (do_it (chars (codes "y")) ∷ [])

abbrev pub choose_x : InstrForm
choose_x = Choose (roll-When Expr Pattern when_x ∷ []) (do_it if_y ∷ [])

abbrev pub each_dot : Expr → InstrForm
each_dot e = ForEach dot [] (do_it (value_of e) ∷ [])

abbrev pub last_call : Expr
last_call = roll-Expr (CallOf (library_name (codes "last")) [])

abbrev pub apply : InstrForm
apply = Apply None (Number 0) [] []

abbrev pub call_with_p : InstrForm
call_with_p = CallTemplate 0 (bind_it bound_p ∷ [])

abbrev pub next : InstrForm
next = NextMatch []

-- expressions of the query
abbrev pub text_of : Expr → Expr
text_of e = roll-Expr (TextC e)

abbrev pub local : List ℕ → List Expr → Expr
local name args = roll-Expr (CallOf (local_name name) args)

-- text { local:simple(e, " ") }
abbrev pub value_text : Expr → Expr
value_text e = text_of (local (codes "simple") (e ∷ string (codes " ") ∷ []))

abbrev pub element_r : Expr → Expr
element_r e = roll-Expr (ElemC (roll-NameSource (Fixed (plain (codes "r")))) e)

-- $x:item/child::node()
abbrev pub all_children : Expr
all_children = roll-Expr (Slash the_item (roll-Expr (Step Child Node [])))

abbrev pub items : Expr
items = variable_of items_name

abbrev pub count_items : Expr
count_items = library_call (codes "count") (items ∷ [])

pub record Rows : Type 0 where
  pub literal : become [] (do_it (literal_r (do_it (chars (codes "t")) ∷ [])) ∷ [])
      ≡ element_r (text_of (string (codes "t")))
  pub content_with_attribute : become [] (do_it (literal_r (do_it attribute_k ∷ [])) ∷ [])
      ≡ element_r (local (codes "last")
      (roll-Expr (AttrC (roll-NameSource (Fixed (plain (codes "k"))))
      (local (codes "simple") (string (codes "1") ∷ string (codes " ") ∷ []))) ∷ []))
  pub value : become [] (do_it (value_of dot) ∷ []) ≡ value_text the_item
  pub row : become [] (do_it (chars (codes "a")) ∷ do_it variable_v ∷ do_it (chars (codes "b")) ∷ [])
      ≡ roll-Expr (Comma (text_of (string (codes "a"))
      ∷ flow (let_clause v_name (string (codes "1")) ∷ []) (text_of (string (codes "b"))) ∷ []))
  pub chain : become [] (do_it choose_x ∷ [])
      ≡ if_many (arm_of (the_item, text_of (string (codes "x")))
      ∷ arm_of (the_item, text_of (string (codes "y"))) ∷ []) nothing
  pub loop : become [] (do_it (each_dot dot) ∷ [])
      ≡ flow (for_at_clause item_name position_name the_item ∷ []) (value_text the_item)
  pub loop_with_size : become [] (do_it (each_dot last_call) ∷ [])
      ≡ flow (let_clause items_name the_item ∷ let_clause size_name count_items
      ∷ for_at_clause item_name position_name items ∷ []) (value_text (variable_of size_name))
  pub applied : become [] (do_it apply ∷ [])
      ≡ flow (let_clause items_name all_children ∷ let_clause count_name count_items
      ∷ for_at_clause item_name position_name items ∷ [])
      (roll-Expr (CallOf (mode_function 0)
      (the_item ∷ variable_of position_name ∷ variable_of count_name ∷ [])))
  pub called : become (p_param ∷ []) (do_it call_with_p ∷ [])
      ≡ flow (let_clause (given_name (codes "p") 1) (string (codes "1")) ∷ [])
      (roll-Expr (CallOf (named_function 1)
      (the_item ∷ variable_of position_name ∷ variable_of size_name
      ∷ library_call (codes "true") [] ∷ variable_of (given_name (codes "p") 1) ∷ [])))
  pub next_one : become (p_param ∷ []) (do_it next ∷ [])
      ≡ roll-Expr (CallOf (next_function 1 0)
      (the_item ∷ variable_of position_name ∷ variable_of size_name
      ∷ library_call (codes "false") [] ∷ nothing ∷ []))
