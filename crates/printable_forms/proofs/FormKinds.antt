-- Which forms are conditionals, in parentheses or not, and which are direct elements.
use Rattle.std.proofs.Common.{◌≡◌, Bool, true, false, List, [], ◌∷◌, map, nat_le, cond, refl}
use Rattle.std.proofs.Common.{Option, Some, None, sym, subst, ap, ◌∙◌}
use Rattle.std.specs.Prelude.{is_some}
use Rattle.xt_names.specs.declared.kinds.ArithOp.{ArithOp}
use Rattle.xt_names.specs.declared.kinds.ArithOp.TheVariants as arith
use Rattle.xt_names.specs.declared.names.Name.{Name}
use Rattle.xt_syntax.specs.declared.exprs.Expr.{Expr}
use Rattle.xt_syntax.specs.declared.exprs.Flwor.{Flwor as FlworOf}
use Rattle.xt_syntax.specs.declared.prefixes.Prefixes.{Prefixes}
use Rattle.xt_syntax.specs.declared.exprs.Clause.TheOpen.{Int, Str, Context, Root, Comma}
use Rattle.xt_syntax.specs.declared.exprs.Clause.TheOpen.{Or, And, General, Value, Is, Before}
use Rattle.xt_syntax.specs.declared.exprs.Clause.TheOpen.{After, Range, Arith, Minus, Plus, Union}
use Rattle.xt_syntax.specs.declared.exprs.Clause.TheOpen.{Intersect, Except, Filter}
use Rattle.xt_syntax.specs.declared.exprs.Clause.TheOpen.{Var, Call, Step, Slash}
use Rattle.xt_syntax.specs.declared.exprs.Clause.TheOpen.{InstanceOf, Treat, Castable, Cast}
use Rattle.xt_syntax.specs.declared.exprs.Clause.TheOpen.{DocC, TextC, CommentC, If, Flwor, Quant}
use Rattle.xt_syntax.specs.declared.exprs.Clause.TheOpen.{ElemC, AttrC, PiC, Direct}
use Rattle.xt_syntax.specs.declared.exprs.Clause.TheViews.{out-Expr, roll-out-Expr}
use Rattle.xt_syntax.specs.declared.exprs.Clause.TheViews.{out-Flwor, roll-out-Flwor}
use Rattle.xt_syntax.specs.declared.exprs.Clause.TheFolds.{fold-roll-Flwor}
use Rattle.xt_syntax.specs.Layers.{ExprLayer}
use Rattle.expr_terms.specs.Raws.{is_parens, is_conditional, only_chain, as_chain, as_inner_chain}
use Rattle.expr_keys.specs.declared.keys.Key.{Key}
use Rattle.expr_keys.specs.declared.keys.Key.TheVariants as key
use Rattle.expr_keys.specs.declared.tokens.Token.{Token}
use Rattle.expr_keys.specs.declared.productions.Level.{Level}
use Rattle.expr_keys.specs.declared.productions.Level.TheVariants as level
use Rattle.expr_keys.specs.declared.productions.Production.{Production}
use Rattle.expr_keys.specs.declared.productions.Production.TheVariants as production
use Rattle.expr_terms.specs.declared.raws.Raw.{Raw}
use Rattle.expr_terms.specs.declared.raws.Raw.TheVariants.{Node as node, outs-Node, outs-Leaf}
use Rattle.expr_terms.specs.declared.raws.Raw.TheViews.{out-Raw}
use Rattle.expr_terms.specs.declared.raws.Raw.TheOpen.{Node}
use Rattle.expr_raws.specs.PathRaws.Forms.{Form, single, at, in_parentheses, nothing}
use Rattle.expr_raws.specs.PathRaws.Paths.{with_token, variable_with, call_with, filtered, root_form}
use Rattle.expr_raws.specs.PathRaws.Paths.{slashed, Start, behind, from_root, root, alone, slash_raw}
use Rattle.expr_raws.specs.PathRaws.Paths.{start_of}
use Rattle.expr_raws.specs.ControlRaws.Operators.{ArmForm, many, listed, arithmetic, conditional}
use Rattle.expr_raws.specs.ElementRaws.Makers.{NameForm, fixed, computed, element, attribute, instruction}
use Rattle.expr_raws.specs.ElementRaws.Makers.{given, given_pi}
use Rattle.expr_raws.specs.ElementRaws.Direct.{PartForm, AttrForm, is_element, is_outer_leaf, front_token}
use Rattle.expr_raws.specs.ElementRaws.Direct.{direct}
use Rattle.expr_raws.specs.Raws.{form_of}
use Rattle.expr_drafts.specs.ExprPlaces.Forms.{flwor_form, name_form, arm_form, attr_form, part_form}
use Rattle.expr_drafts.specs.ExprPlaces.Roots.{parts}
use Rattle.expr_drafts.proofs.ExprPlaces.Operands.{of_expr, rolled}
use Rattle.printable_forms.specs.Roots.{is_if, is_if_layer, is_direct, is_direct_layer}

record Kind (chain element : Bool) (f : Form) : Type 0 where
  pub chained : is_some (as_inner_chain (out-Raw (at single f))) ≡ chain
  pub elemental : is_element (out-Raw f.raw) ≡ element

-- whether it is in parentheses or not
no_chain : (b : Bool) (f : Form) (q : Production) (vs : List Raw) → out-Raw f.raw ≡ Node q vs
    → is_conditional q ≡ false → is_parens q ≡ false
    → is_some (as_inner_chain (out-Raw (cond b f.raw (in_parentheses f)))) ≡ false
no_chain true f q vs o c p =
    ap (λ x. is_some (as_inner_chain x)) o
    ∙ (ap (λ (b : Bool). is_some (cond b (Some vs) (cond (is_parens q) (only_chain vs) None))) c
    ∙ ap (λ (b : Bool). is_some (cond b (only_chain vs) None)) p)
no_chain false f q vs o c p =
    ap (λ x. is_some (as_inner_chain x)) (outs-Node production.Parens (f.raw ∷ []))
    ∙ (ap (λ x. is_some (as_chain x)) o
    ∙ ap (λ (b : Bool). is_some (cond b (Some vs) None)) c)

simple : (f : Form) (q : Production) (vs : List Raw) → f.raw ≡ node q vs
    → is_conditional q ≡ false → is_parens q ≡ false → is_element (Node q vs) ≡ false
    → Kind false false f
simple f q vs e c p l =
    let o : out-Raw f.raw ≡ Node q vs = ap out-Raw e ∙ outs-Node q vs in
    record {
      chained = no_chain (nat_le f.place single) f q vs o c p;
      elemental = ap is_element o ∙ l;
    }

no_kind : Kind false false nothing
no_kind = simple nothing production.Context [] refl refl refl refl

token_kind : (o : Option Token) (f : Token → Form) → ((t : Token) → Kind false false (f t))
    → Kind false false (with_token o f)
token_kind None f h = no_kind
token_kind (Some t) f h = h t

many_kind : (m : Level) (k : Key) (fs : List Form) → Kind false false (many m k fs)
many_kind m k [] = no_kind
many_kind m k (a ∷ []) = no_kind
many_kind m k (a ∷ b ∷ fs) =
    simple (many m k (a ∷ b ∷ fs)) (production.OperatorChain m) _ refl refl refl refl

listed_kind : (fs : List Form) → Kind false false (listed fs)
listed_kind [] = record {
  chained = ap (λ x. is_some (as_inner_chain x)) (outs-Node production.Parens []);
  elemental = ap is_element (outs-Node production.Parens []);
}
listed_kind (a ∷ []) = no_kind
listed_kind (a ∷ b ∷ fs) =
    simple (listed (a ∷ b ∷ fs)) production.ExprList _ refl refl refl refl

filtered_kind : (a : Form) (fs : List Form) → Kind false false (filtered a fs)
filtered_kind a [] = no_kind
filtered_kind a (f ∷ fs) =
    simple (filtered a (f ∷ fs)) production.FilterStep _ refl refl refl refl

arithmetic_kind : (op : ArithOp) (a b : Form) → Kind false false (arithmetic op a b)
arithmetic_kind arith.Add a b = simple _ (production.OperatorChain level.Additive) _ refl refl refl refl
arithmetic_kind arith.Sub a b = simple _ (production.OperatorChain level.Additive) _ refl refl refl refl
arithmetic_kind arith.Mul a b = simple _ (production.OperatorChain level.Multiplicative) _ refl refl refl refl
arithmetic_kind arith.Idiv a b = simple _ (production.OperatorChain level.Multiplicative) _ refl refl refl refl
arithmetic_kind arith.Mod a b = simple _ (production.OperatorChain level.Multiplicative) _ refl refl refl refl

slash_kind : (s : Start) (f a b : Form) → f.raw ≡ slash_raw s a b → Kind false false f
slash_kind (behind vs) f a b e = simple f production.Steps _ e refl refl refl
slash_kind (from_root vs) f a b e = simple f production.RootSteps _ e refl refl refl
slash_kind root f a b e = simple f production.RootSteps _ e refl refl refl
slash_kind alone f a b e = simple f production.Steps _ e refl refl refl

slashed_kind : (a b : Form) → Kind false false (slashed a b)
slashed_kind a b = slash_kind (start_of (out-Raw a.raw)) (slashed a b) a b refl

element_kind : (p : Prefixes) (n : NameForm) (a : Form) → Kind false false (element p n a)
element_kind p (fixed n) a = token_kind _ (given key.ElementWord a)
    (λ t. simple _ production.Constructed _ refl refl refl refl)
element_kind p (computed f) a = simple _ production.Computed _ refl refl refl refl

attribute_kind : (p : Prefixes) (n : NameForm) (a : Form) → Kind false false (attribute p n a)
attribute_kind p (fixed n) a = token_kind _ (given key.AttributeWord a)
    (λ t. simple _ production.Constructed _ refl refl refl refl)
attribute_kind p (computed f) a = simple _ production.Computed _ refl refl refl refl

instruction_kind : (p : Prefixes) (n : NameForm) (a : Form) → Kind false false (instruction p n a)
instruction_kind p (fixed n) a = token_kind _ (given_pi a)
    (λ t. simple _ production.PiConstructed _ refl refl refl refl)
instruction_kind p (computed f) a = simple _ production.Computed _ refl refl refl refl

root_kind : Kind false false root_form
root_kind = record {
  chained = ap (λ x. is_some (as_inner_chain x)) (outs-Node production.Parens _)
      ∙ ap (λ x. is_some (as_chain x)) (outs-Node production.Rooted []);
  elemental = ap is_element (outs-Node production.Parens _);
}

conditional_kind : (arms : List ArmForm) (e : Form) → Kind true false (conditional arms e)
conditional_kind arms e = record {
  chained = ap (λ x. is_some (as_inner_chain x)) (outs-Node production.IfExpr _);
  elemental = ap is_element (outs-Node production.IfExpr _);
}

direct_kind : (p : Prefixes) (n : Name) (attrs : List AttrForm) (ps : List PartForm)
    → Kind false true (direct p n attrs ps)
direct_kind p n attrs ps = record {
  chained = no_chain true (direct p n attrs ps) production.DirectElement _
      (outs-Node production.DirectElement _) refl refl;
  elemental = ap is_element (outs-Node production.DirectElement _)
      ∙ ap is_outer_leaf (outs-Leaf (front_token n));
}

module _ (p : Prefixes) where
  flwor_kind : (f : FlworOf) → Kind false false (flwor_form p f)
  flwor_kind f = subst (λ g. Kind false false (flwor_form p g)) (roll-out-Flwor f)
      (subst (λ g. Kind false false g)
      (sym (fold-roll-Flwor _ _ _ _ _ _ _ _ _ _ _ _ _ _ _ _ _ _ (out-Flwor f)))
      (simple _ production.FlworExpr _ refl refl refl refl))

  open_kind : (x : ExprLayer parts)
      → Kind (is_if_layer parts x) (is_direct_layer parts x) (of_expr p x)
  open_kind (Int n) = simple _ production.Number _ refl refl refl refl
  open_kind (Str cs) = simple _ production.Literal _ refl refl refl refl
  open_kind (Var n) = token_kind _ variable_with
      (λ t. simple _ production.Variable _ refl refl refl refl)
  open_kind Context = simple _ production.Context _ refl refl refl refl
  open_kind Root = root_kind
  open_kind (Comma fs) = listed_kind (map (form_of p) fs)
  open_kind (Or fs) = many_kind level.Or key.OrWord (map (form_of p) fs)
  open_kind (And fs) = many_kind level.And key.AndWord (map (form_of p) fs)
  open_kind (If arms e) = conditional_kind (map (arm_form p) arms) (form_of p e)
  open_kind (Flwor f) = flwor_kind f
  open_kind (Quant every bs a) = simple _ production.QuantifiedExpr _ refl refl refl refl
  open_kind (General op a b) = simple _ (production.OperatorChain level.Comparison) _ refl refl refl refl
  open_kind (Value op a b) = simple _ (production.OperatorChain level.Comparison) _ refl refl refl refl
  open_kind (Is a b) = simple _ (production.OperatorChain level.Comparison) _ refl refl refl refl
  open_kind (Before a b) = simple _ (production.OperatorChain level.Comparison) _ refl refl refl refl
  open_kind (After a b) = simple _ (production.OperatorChain level.Comparison) _ refl refl refl refl
  open_kind (Range a b) = simple _ (production.OperatorChain level.Range) _ refl refl refl refl
  open_kind (Arith op a b) = arithmetic_kind op (form_of p a) (form_of p b)
  open_kind (Minus a) = simple _ production.Signed _ refl refl refl refl
  open_kind (Plus a) = simple _ production.Signed _ refl refl refl refl
  open_kind (Union a b) = simple _ (production.OperatorChain level.Union) _ refl refl refl refl
  open_kind (Intersect a b) = simple _ (production.OperatorChain level.Intersect) _ refl refl refl refl
  open_kind (Except a b) = simple _ (production.OperatorChain level.Intersect) _ refl refl refl refl
  open_kind (InstanceOf a t) = simple _ (production.OperatorChain level.InstanceOf) _ refl refl refl refl
  open_kind (Treat a t) = simple _ (production.OperatorChain level.Treat) _ refl refl refl refl
  open_kind (Castable a k empty) =
      simple _ (production.OperatorChain level.Castable) _ refl refl refl refl
  open_kind (Cast a k empty) = simple _ (production.OperatorChain level.Cast) _ refl refl refl refl
  open_kind (Slash a b) = slashed_kind (form_of p a) (form_of p b)
  open_kind (Step on t fs) = simple _ production.AxisStep _ refl refl refl refl
  open_kind (Filter a fs) = filtered_kind (form_of p a) (map (form_of p) fs)
  open_kind (Call n fs) = token_kind _ (call_with n _)
      (λ t. simple _ production.Call _ refl refl refl refl)
  open_kind (ElemC n a) = element_kind p (name_form p n) (form_of p a)
  open_kind (AttrC n a) = attribute_kind p (name_form p n) (form_of p a)
  open_kind (DocC a) = simple _ production.Enclosing _ refl refl refl refl
  open_kind (TextC a) = simple _ production.Enclosing _ refl refl refl refl
  open_kind (CommentC a) = simple _ production.Enclosing _ refl refl refl refl
  open_kind (PiC n a) = instruction_kind p (name_form p n) (form_of p a)
  open_kind (Direct n attrs ps) =
      direct_kind p n (map (attr_form p) attrs) (map (part_form p) ps)

  kind_of : (e : Expr) → Kind (is_if e) (is_direct e) (form_of p e)
  kind_of e = subst (λ g. Kind (is_if e) (is_direct e) (form_of p g)) (roll-out-Expr e)
      (subst (λ f. Kind (is_if e) (is_direct e) f) (sym (rolled p (out-Expr e)))
      (open_kind (out-Expr e)))

pub chain_is : (p : Prefixes) (e : Expr)
    → is_some (as_inner_chain (out-Raw (at single (form_of p e)))) ≡ is_if e
chain_is p e = (kind_of p e).chained

pub element_is : (p : Prefixes) (e : Expr) → is_element (out-Raw (form_of p e).raw) ≡ is_direct e
element_is p e = (kind_of p e).elemental
