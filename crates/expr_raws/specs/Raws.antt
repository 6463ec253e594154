-- Expressions as raw values, and the tokens that spell them.
use Rattle.std.specs.Prelude.{pos, int_le, Bool, true, List, [], ◌∷◌}
use Rattle.xt_syntax.specs.declared.exprs.Expr.{Expr}
use Rattle.xt_syntax.specs.declared.exprs.Clause.TheOpen.{Int, Str, Context, Root, Comma}
use Rattle.xt_syntax.specs.declared.exprs.Clause.TheOpen.{Or, And, General, Value, Is, Before}
use Rattle.xt_syntax.specs.declared.exprs.Clause.TheOpen.{After, Range, Arith, Minus, Plus, Union}
use Rattle.xt_syntax.specs.declared.exprs.Clause.TheOpen.{Intersect, Except, Filter}
use Rattle.xt_syntax.specs.declared.exprs.Clause.TheOpen.{Var, Call, Step, Slash}
use Rattle.xt_syntax.specs.declared.exprs.Clause.TheOpen.{InstanceOf, Treat, Castable, Cast}
use Rattle.xt_syntax.specs.declared.exprs.Clause.TheOpen.{DocC, TextC, CommentC, If, Flwor, Quant}
use Rattle.xt_syntax.specs.declared.exprs.Clause.TheOpen.{ElemC, AttrC, PiC, Fixed, Computed}
use Rattle.xt_syntax.specs.declared.exprs.Clause.TheOpen.{Direct, Chars, Enclosed, Child, For, Let}
use Rattle.xt_syntax.specs.declared.prefixes.Prefixes.{Prefixes}
use Rattle.xt_syntax.specs.Layers.{Kinds, Steps, ExprLayer, NameLayer, PartLayer, ClauseLayer}
use Rattle.xt_syntax.specs.Layers.{BindLayer, FlworLayer, OrderLayer, expr_gives}
use Rattle.expr_keys.specs.declared.keys.Key.TheVariants as key
use Rattle.expr_keys.specs.declared.tokens.Token.{Token}
use Rattle.expr_keys.specs.declared.tokens.Token.TheVariants as token
use Rattle.expr_keys.specs.declared.productions.Level.TheVariants as level
use Rattle.expr_keys.specs.declared.productions.Production.TheVariants as production
use Rattle.expr_terms.specs.declared.raws.Raw.{Raw}
use Rattle.expr_terms.specs.declared.raws.Raw.TheVariants.{Leaf as leaf}
use Rattle.expr_raws.specs.PathRaws.Forms.{Form}
use Rattle.expr_raws.specs.PathRaws.Paths.{variable, call, stepped, slashed, filtered, root_form, lone}
use Rattle.expr_raws.specs.ControlRaws.Operators.{once, left, many, listed, signed, compare_key, value_key}
use Rattle.expr_raws.specs.ControlRaws.Operators.{arithmetic, ArmForm, conditional}
use Rattle.expr_raws.specs.ControlRaws.Types.{sequence_form, of_type, single_form}
use Rattle.expr_raws.specs.ControlRaws.Bindings.{BindForm, binding, quantified, ClauseForm, for_clause}
use Rattle.expr_raws.specs.ControlRaws.Bindings.{let_clause, placing, OrderForm, flowing}
use Rattle.expr_raws.specs.ElementRaws.Makers.{NameForm, fixed, computed, element, attribute, instruction}
use Rattle.expr_raws.specs.ElementRaws.Makers.{enclosing}
use Rattle.expr_raws.specs.ElementRaws.Direct.{PartForm, characters, enclosed, child, AttrForm, direct}

abbrev pub forms : Kinds
forms = record {
  Clauses = ClauseForm;
  Exprs = Form;
  Names = NameForm;
  Parts = PartForm;
  Arms = ArmForm;
  Binds = BindForm;
  Attrs = AttrForm;
  Flwors = Form;
  Orders = OrderForm;
}

abbrev pub form_step : Prefixes → ExprLayer forms → Form
form_step p (Int n) = lone production.Number (leaf (token.Digits n) ∷ []) (token.Digits n)
    (int_le (pos 0) n)
form_step p (Str cs) =
    lone production.Literal (leaf (token.Quoted cs) ∷ []) (token.Quoted cs) true
form_step p Context = lone production.Context [] (token.Key key.Dot) true
form_step p Root = root_form
form_step p (Comma fs) = listed fs
form_step p (Or fs) = many level.Or key.OrWord fs
form_step p (And fs) = many level.And key.AndWord fs
form_step p (If arms e) = conditional arms e
form_step p (General op a b) = once level.Comparison (compare_key op) a b
form_step p (Value op a b) = once level.Comparison (value_key op) a b
form_step p (Is a b) = once level.Comparison key.IsWord a b
form_step p (Before a b) = once level.Comparison key.Before a b
form_step p (After a b) = once level.Comparison key.After a b
form_step p (Range a b) = once level.Range key.ToWord a b
form_step p (Arith op a b) = arithmetic op a b
form_step p (Minus a) = signed key.Minus a
form_step p (Plus a) = signed key.Plus a
form_step p (Union a b) = left level.Union key.UnionWord a b
form_step p (Intersect a b) = left level.Intersect key.IntersectWord a b
form_step p (Except a b) = left level.Intersect key.ExceptWord a b
form_step p (Filter a fs) = filtered a fs
form_step p (InstanceOf a t) = of_type level.InstanceOf a (sequence_form p t)
form_step p (Treat a t) = of_type level.Treat a (sequence_form p t)
form_step p (Castable a k empty) = of_type level.Castable a (single_form p k empty)
form_step p (Cast a k empty) = of_type level.Cast a (single_form p k empty)
form_step p (ElemC n a) = element p n a
form_step p (AttrC n a) = attribute p n a
form_step p (PiC n a) = instruction p n a
form_step p (DocC a) = enclosing key.DocumentWord a
form_step p (TextC a) = enclosing key.TextWord a
form_step p (CommentC a) = enclosing key.CommentWord a
form_step p (Var n) = variable p n
form_step p (Call n fs) = call p n fs
form_step p (Step on t fs) = stepped p on t fs
form_step p (Slash a b) = slashed a b
form_step p (Flwor f) = f
form_step p (Quant every bs a) = quantified every bs a
form_step p (Direct n attrs ps) = direct p n attrs ps

abbrev pub name_step : NameLayer forms → NameForm
name_step (Fixed n) = fixed n
name_step (Computed f) = computed f

abbrev pub part_step : PartLayer forms → PartForm
part_step (Chars cs) = characters cs
part_step (Enclosed f) = enclosed f
part_step (Child f) = child f

abbrev pub clause_step : Prefixes → ClauseLayer forms → ClauseForm
clause_step p (For b o) = for_clause b (placing p o)
clause_step p (Let b) = let_clause b

abbrev pub bind_step : Prefixes → BindLayer forms → BindForm
bind_step p b = binding p b.var b.kind b.source

abbrev pub flwor_step : FlworLayer forms → Form
flwor_step f = flowing f.clauses f.test f.orders f.stable f.body

abbrev pub form_steps : Prefixes → Steps forms
form_steps p = record {
  of_expr = form_step p;
  of_clause = clause_step p;
  of_name = name_step;
  of_part = part_step;
  of_arm = λ a. record { test = a.test; first = a.then };
  of_bind = bind_step p;
  of_attr = λ a. record { name = a.name; parts = a.parts };
  of_flwor = flwor_step;
  of_order = λ o. record { key = o.key; descending = o.descending };
}

abbrev pub form_of : Prefixes → Expr → Form
form_of p = expr_gives forms (form_steps p)

-- the raw value of the expression under the prefixes
abbrev pub raw_of : Prefixes → Expr → Raw
raw_of p e = (form_of p e).raw

-- Whether it can be printed: integers have no sign, lists other than `()`, `or` and `and` have two
-- parts or more, filters have predicates, conditionals have arms and end in none, quantifiers have
-- bindings, FLWOR expressions have clauses and are stable with orders alone, calls are of no atomic
-- types, no characters of a direct element stand beside others, and each name and type has a token.
abbrev pub is_printable : Prefixes → Expr → Bool
is_printable p e = (form_of p e).can

-- .. and the tokens that spell it
abbrev pub tokens_of : Prefixes → Expr → List Token
tokens_of p e = (form_of p e).tokens []
