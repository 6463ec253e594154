-- The form of each expression stands as an operand as its place tells.
use Rattle.std.proofs.Common.{◌≡◌, true, false, ◌&&◌, List, [], ◌∷◌, nat_le, cond, refl}
use Rattle.std.proofs.Common.{ℕ, sym, subst, ap, ap₂, ◌∙◌, map}
use Rattle.std.proofs.lemmas.Bool.{and_parts}
use Rattle.std.proofs.Math.Dec.{leb-zero}
use Rattle.xt_names.specs.declared.kinds.ArithOp.{ArithOp}
use Rattle.xt_names.specs.declared.kinds.ArithOp.TheVariants as arith
use Rattle.xt_syntax.specs.declared.exprs.Expr.{Expr}
use Rattle.xt_syntax.specs.declared.exprs.Arm.{Arm}
use Rattle.xt_syntax.specs.declared.exprs.Clause.{Clause}
use Rattle.xt_syntax.specs.declared.exprs.Order.{Order}
use Rattle.xt_syntax.specs.declared.exprs.Flwor.{Flwor as FlworOf}
use Rattle.xt_syntax.specs.declared.exprs.Bind.{Bind}
use Rattle.xt_syntax.specs.declared.exprs.NameSource.{NameSource}
use Rattle.xt_syntax.specs.declared.exprs.DirectAttr.{DirectAttr}
use Rattle.xt_syntax.specs.declared.exprs.Part.{Part}
use Rattle.xt_syntax.specs.declared.prefixes.Prefixes.{Prefixes}
use Rattle.xt_syntax.specs.declared.exprs.Clause.TheOpen.{Int, Str, Context, Root, Comma}
use Rattle.xt_syntax.specs.declared.exprs.Clause.TheOpen.{Or, And, General, Value, Is, Before}
use Rattle.xt_syntax.specs.declared.exprs.Clause.TheOpen.{After, Range, Arith, Minus, Plus, Union}
use Rattle.xt_syntax.specs.declared.exprs.Clause.TheOpen.{Intersect, Except, Filter}
use Rattle.xt_syntax.specs.declared.exprs.Clause.TheOpen.{Var, Call, Step, Slash}
use Rattle.xt_syntax.specs.declared.exprs.Clause.TheOpen.{InstanceOf, Treat, Castable, Cast}
use Rattle.xt_syntax.specs.declared.exprs.Clause.TheOpen.{DocC, TextC, CommentC, If, Flwor, Quant}
use Rattle.xt_syntax.specs.declared.exprs.Clause.TheOpen.{ElemC, AttrC, PiC, Direct}
use Rattle.xt_syntax.specs.declared.exprs.Clause.TheViews.{out-Expr, roll-Expr, roll-out-Expr}
use Rattle.xt_syntax.specs.declared.exprs.Clause.TheViews.{out-Flwor, roll-Flwor, roll-out-Flwor}
use Rattle.xt_syntax.specs.declared.exprs.Clause.TheFolds.{map-Expr, fold-roll-Expr}
use Rattle.xt_syntax.specs.declared.exprs.Clause.TheFolds.{fold-roll-Flwor}
use Rattle.xt_syntax.specs.Layers.{ExprLayer}
use Rattle.expr_keys.specs.Classes.{tight}
use Rattle.expr_keys.specs.declared.keys.Key.{Key}
use Rattle.expr_keys.specs.declared.keys.Key.TheVariants as key
use Rattle.expr_keys.specs.declared.tokens.Token.{Token}
use Rattle.expr_keys.specs.declared.tokens.Token.TheVariants as token
use Rattle.expr_keys.specs.declared.productions.Level.{Level}
use Rattle.expr_keys.specs.declared.productions.Level.TheVariants as level
use Rattle.expr_keys.specs.declared.productions.Production.TheVariants as production
use Rattle.expr_terms.specs.declared.raws.Raw.TheVariants.{outs-Node}
use Rattle.expr_terms.specs.declared.raws.Raw.TheViews.{out-Raw}
use Rattle.expr_raws.specs.PathRaws.Forms.{Form, step, path, of_level, said, parenthesized}
use Rattle.expr_raws.specs.PathRaws.Paths.{variable_with, call_with, filtered, root_form, start_of}
use Rattle.expr_raws.specs.PathRaws.Paths.{is_rooted, root, alone}
use Rattle.expr_raws.specs.PathRaws.Paths.{slash_tokens}
use Rattle.expr_raws.specs.ControlRaws.Operators.{once, left, many, listed, tail, operands, arithmetic}
use Rattle.expr_raws.specs.ControlRaws.Operators.{compare_key, value_key, is_mark, chain_parts}
use Rattle.expr_raws.specs.ControlRaws.Operators.{front_tokens, operand_tokens}
use Rattle.expr_raws.specs.ControlRaws.Types.{of_type, sequence_form, single_form}
use Rattle.expr_raws.specs.ElementRaws.Makers.{NameForm, fixed, computed, element, attribute, instruction}
use Rattle.expr_raws.specs.ElementRaws.Makers.{given, given_pi}
use Rattle.expr_raws.specs.Raws.{forms, form_step, form_of}
use Rattle.expr_drafts.specs.ExprPlaces.Forms.{arm_form, bind_form, clause_form, order_form, name_form}
use Rattle.expr_drafts.specs.ExprPlaces.Forms.{part_form, attr_form, flwor_form}
use Rattle.expr_drafts.specs.ExprPlaces.Roots.{parts, is_root_layer, is_root}
use Rattle.expr_drafts.proofs.ExprPlaces.Fits.{Fits, simple, primary_apart, step_apart, signs_apart}
use Rattle.expr_drafts.proofs.ExprPlaces.Fits.{single_apart, list_apart, nothing_fits, token_fits, front_some}
use Rattle.expr_drafts.proofs.ExprPlaces.Fits.{chain_fits, slashed_fits}

once_fits : (m : Level) (k : Key) (a b : Form) → nat_le (of_level m) 0 ≡ false
    → nat_le (of_level m) step ≡ nat_le (of_level m) path → Fits false (once m k a b)
once_fits m k a b o q =
    chain_fits m (once m k a b) _ (λ l ts. refl) refl refl o q

left_fits : (m : Level) (k : Key) (a b : Form) → nat_le (of_level m) 0 ≡ false
    → nat_le (of_level m) step ≡ nat_le (of_level m) path → Fits false (left m k a b)
left_fits m k a b o q = chain_fits m (left m k a b) _
    (λ l ts. front_some (operands m k a) (tail m k b) l (left m k a b) ts) refl refl o q

many_fits : (m : Level) (k : Key) (fs : List Form) → nat_le (of_level m) 0 ≡ false
    → nat_le (of_level m) step ≡ nat_le (of_level m) path → Fits false (many m k fs)
many_fits m k [] o q = nothing_fits
many_fits m k (a ∷ []) o q = nothing_fits
many_fits m k (a ∷ b ∷ fs) o q =
    chain_fits m (many m k (a ∷ b ∷ fs)) _ (λ l ts. refl) refl refl o q

typed_fits : (m : Level) (a t : Form) → nat_le (of_level m) 0 ≡ false
    → nat_le (of_level m) step ≡ nat_le (of_level m) path → Fits false (of_type m a t)
typed_fits m a t o q =
    chain_fits m (of_type m a t) _ (λ l ts. refl) refl refl o q

listed_fits : (fs : List Form) → Fits false (listed fs)
listed_fits [] = simple (listed []) production.Parens _ refl (λ l. refl) refl primary_apart
listed_fits (a ∷ []) = nothing_fits
listed_fits (a ∷ b ∷ fs) =
    simple (listed (a ∷ b ∷ fs)) production.ExprList _ refl (λ l. refl) refl (list_apart _)

filtered_fits : (a : Form) (fs : List Form) → Fits false (filtered a fs)
filtered_fits a [] = nothing_fits
filtered_fits a (f ∷ fs) =
    simple (filtered a (f ∷ fs)) production.FilterStep _ refl (λ l. refl) refl (step_apart false)

arithmetic_fits : (op : ArithOp) (a b : Form) → Fits false (arithmetic op a b)
arithmetic_fits arith.Add a b = left_fits level.Additive key.Plus a b refl refl
arithmetic_fits arith.Sub a b = left_fits level.Additive key.Minus a b refl refl
arithmetic_fits arith.Mul a b = left_fits level.Multiplicative key.Star a b refl refl
arithmetic_fits arith.Idiv a b = left_fits level.Multiplicative key.IdivWord a b refl refl
arithmetic_fits arith.Mod a b = left_fits level.Multiplicative key.ModWord a b refl refl

element_fits : (p : Prefixes) (n : NameForm) (a : Form) → Fits false (element p n a)
element_fits p (fixed n) a =
    token_fits _ (given key.ElementWord a)
    (λ t. simple _ production.Constructed _ refl (λ l. refl) refl primary_apart)
element_fits p (computed f) a =
    simple _ production.Computed _ refl (λ l. refl) refl primary_apart

attribute_fits : (p : Prefixes) (n : NameForm) (a : Form) → Fits false (attribute p n a)
attribute_fits p (fixed n) a =
    token_fits _ (given key.AttributeWord a)
    (λ t. simple _ production.Constructed _ refl (λ l. refl) refl primary_apart)
attribute_fits p (computed f) a =
    simple _ production.Computed _ refl (λ l. refl) refl primary_apart

instruction_fits : (p : Prefixes) (n : NameForm) (a : Form) → Fits false (instruction p n a)
instruction_fits p (fixed n) a =
    token_fits _ (given_pi a)
    (λ t. simple _ production.PiConstructed _ refl (λ l. refl) refl primary_apart)
instruction_fits p (computed f) a =
    simple _ production.Computed _ refl (λ l. refl) refl primary_apart

root_fits : Fits true root_form
root_fits = record {
  chained = λ l ts. ap (λ us. front_tokens us l root_form ts)
      (ap (chain_parts l) (outs-Node production.Parens _))
      ∙ ap (λ b. cond b (root_form.tokens ts) (parenthesized root_form ts))
      (leb-zero (tight l) ∙ sym (leb-zero (of_level l)));
  outer = λ h. absurd (cc);
  started = λ b ts. ap (λ x. slash_tokens (start_of x) root_form b ts)
      (outs-Node production.Parens _)
      ∙ ap (λ x. slash_tokens (cond (is_rooted x) root alone) root_form b ts)
      (outs-Node production.Rooted []);
}

module _ (p : Prefixes) where
  abbrev pub of_expr : ExprLayer parts → Form
  of_expr x = form_step p (map-Expr Clause Expr NameSource Part Arm Bind DirectAttr FlworOf Order
      forms.Clauses forms.Exprs forms.Names forms.Parts forms.Arms forms.Binds forms.Attrs
      forms.Flwors forms.Orders (clause_form p) (form_of p) (name_form p) (part_form p)
      (arm_form p) (bind_form p) (attr_form p) (flwor_form p) (order_form p) x)

  pub rolled : (x : ExprLayer parts) → form_of p (roll-Expr x) ≡ of_expr x
  rolled x = fold-roll-Expr _ _ _ _ _ _ _ _ _ _ _ _ _ _ _ _ _ _ x

  flwor_rolled : (f : FlworOf) → Fits false (flwor_form p (roll-Flwor (out-Flwor f)))
  flwor_rolled f = subst (λ g. Fits false g)
      (sym (fold-roll-Flwor _ _ _ _ _ _ _ _ _ _ _ _ _ _ _ _ _ _ (out-Flwor f)))
      (simple _ production.FlworExpr _ refl (λ l. refl) refl (single_apart _))

  flwor_fits : (f : FlworOf) → Fits false (flwor_form p f)
  flwor_fits f = subst (λ g. Fits false (flwor_form p g)) (roll-out-Flwor f) (flwor_rolled f)

  open_fits : (x : ExprLayer parts) → Fits (is_root_layer parts x) (of_expr x)
  open_fits (Int n) = simple _ production.Number _ refl (λ l. refl) refl primary_apart
  open_fits (Str cs) = simple _ production.Literal _ refl (λ l. refl) refl primary_apart
  open_fits (Var n) =
      token_fits _ variable_with
      (λ t. simple _ production.Variable _ refl (λ l. refl) refl primary_apart)
  open_fits Context = simple _ production.Context _ refl (λ l. refl) refl primary_apart
  open_fits Root = root_fits
  open_fits (Comma fs) = listed_fits _
  open_fits (Or fs) = many_fits level.Or key.OrWord _ refl refl
  open_fits (And fs) = many_fits level.And key.AndWord _ refl refl
  open_fits (If arms e) =
      simple _ production.IfExpr _ refl (λ l. refl) refl (single_apart _)
  open_fits (Flwor f) = flwor_fits f
  open_fits (Quant every bs a) =
      simple _ production.QuantifiedExpr _ refl (λ l. refl) refl (single_apart _)
  open_fits (General op a b) = once_fits level.Comparison (compare_key op) (form_of p a) (form_of p b) refl refl
  open_fits (Value op a b) = once_fits level.Comparison (value_key op) (form_of p a) (form_of p b) refl refl
  open_fits (Is a b) = once_fits level.Comparison key.IsWord (form_of p a) (form_of p b) refl refl
  open_fits (Before a b) = once_fits level.Comparison key.Before (form_of p a) (form_of p b) refl refl
  open_fits (After a b) = once_fits level.Comparison key.After (form_of p a) (form_of p b) refl refl
  open_fits (Range a b) = once_fits level.Range key.ToWord (form_of p a) (form_of p b) refl refl
  open_fits (Arith op a b) = arithmetic_fits op (form_of p a) (form_of p b)
  open_fits (Minus a) = simple _ production.Signed _ refl (λ l. refl) refl (signs_apart _)
  open_fits (Plus a) = simple _ production.Signed _ refl (λ l. refl) refl (signs_apart _)
  open_fits (Union a b) = left_fits level.Union key.UnionWord (form_of p a) (form_of p b) refl refl
  open_fits (Intersect a b) = left_fits level.Intersect key.IntersectWord (form_of p a) (form_of p b) refl refl
  open_fits (Except a b) = left_fits level.Intersect key.ExceptWord (form_of p a) (form_of p b) refl refl
  open_fits (InstanceOf a t) = typed_fits level.InstanceOf (form_of p a) (sequence_form p t) refl refl
  open_fits (Treat a t) = typed_fits level.Treat (form_of p a) (sequence_form p t) refl refl
  open_fits (Castable a k empty) = typed_fits level.Castable (form_of p a) (single_form p k empty) refl refl
  open_fits (Cast a k empty) = typed_fits level.Cast (form_of p a) (single_form p k empty) refl refl
  open_fits (Slash a b) = slashed_fits (form_of p a) (form_of p b)
  open_fits (Step on t fs) =
      simple _ production.AxisStep _ refl (λ l. refl) refl (step_apart false)
  open_fits (Filter a fs) = filtered_fits (form_of p a) (map (form_of p) fs)
  open_fits (Call n fs) =
      token_fits _ (call_with n _)
      (λ t. simple _ production.Call _ refl (λ l. refl) refl primary_apart)
  open_fits (ElemC n a) = element_fits p (name_form p n) (form_of p a)
  open_fits (AttrC n a) = attribute_fits p (name_form p n) (form_of p a)
  open_fits (DocC a) = simple _ production.Enclosing _ refl (λ l. refl) refl primary_apart
  open_fits (TextC a) = simple _ production.Enclosing _ refl (λ l. refl) refl primary_apart
  open_fits (CommentC a) = simple _ production.Enclosing _ refl (λ l. refl) refl primary_apart
  open_fits (PiC n a) = instruction_fits p (name_form p n) (form_of p a)
  open_fits (Direct n attrs ps) =
      simple _ production.DirectElement _ refl (λ l. refl) refl primary_apart

  pub fits : (e : Expr) → Fits (is_root e) (form_of p e)
  fits e = subst (λ g. Fits (is_root e) (form_of p g)) (roll-out-Expr e)
      (subst (λ f. Fits (is_root e) f) (sym (rolled (out-Expr e))) (open_fits (out-Expr e)))

pub marked_operand : (l : Level) (k : Key) (p : Prefixes) (e : Expr) (ts : List Token)
    → (is_mark k && (form_of p e).unmarked) ≡ true
    → said 0 (form_of p e) ts ≡ operand_tokens l k (form_of p e) ts
marked_operand l k p e ts m =
    ap (λ b. cond b ((form_of p e).tokens ts) (parenthesized (form_of p e) ts))
    ((fits p e).outer (and_parts (is_mark k) (form_of p e).unmarked m).1)
    ∙ sym (ap (λ b. cond b (parenthesized (form_of p e) ts)
    (front_tokens (chain_parts l (out-Raw (form_of p e).raw)) l (form_of p e) ts)) m)

pub plain_operand : (l : Level) (k : Key) (p : Prefixes) (e : Expr) (ts : List Token)
    → (is_mark k && (form_of p e).unmarked) ≡ false
    → said (of_level l) (form_of p e) ts ≡ operand_tokens l k (form_of p e) ts
plain_operand l k p e ts m =
    sym ((fits p e).chained l ts)
    ∙ sym (ap (λ b. cond b (parenthesized (form_of p e) ts)
    (front_tokens (chain_parts l (out-Raw (form_of p e).raw)) l (form_of p e) ts)) m)

-- two operands by the places beside the operator
pub chained_tokens : (l : Level) (k j : Key) (f g : Form) (m n : ℕ) (ts : List Token)
    → ((us : List Token) → said m f us ≡ operand_tokens l k f us) → j ≡ k → n ≡ tight l
    → said m f (token.Key j ∷ said n g ts) ≡ (left l k f g).tokens ts
chained_tokens l k j f g m n ts h e w =
    ap₂ (λ (i : Key) (o : ℕ). said m f (token.Key i ∷ said o g ts)) e w
    ∙ h (token.Key k ∷ said (tight l) g ts)

pub root_slash : (p : Prefixes) (a : Expr) (b : Form) (ts : List Token) → is_root a ≡ true
    → slash_tokens (start_of (out-Raw (form_of p a).raw)) (form_of p a) b ts
    ≡ token.Key key.Slash ∷ said step b ts
root_slash p a b ts r = (fits p a).started b ts ∙ ap (λ x. cond x
    (token.Key key.Slash ∷ said step b ts)
    (said path (form_of p a) (token.Key key.Slash ∷ said step b ts))) r

pub path_slash : (p : Prefixes) (a : Expr) (b : Form) (ts : List Token) → is_root a ≡ false
    → slash_tokens (start_of (out-Raw (form_of p a).raw)) (form_of p a) b ts
    ≡ said path (form_of p a) (token.Key key.Slash ∷ said step b ts)
path_slash p a b ts r = (fits p a).started b ts ∙ ap (λ x. cond x
    (token.Key key.Slash ∷ said step b ts)
    (said path (form_of p a) (token.Key key.Slash ∷ said step b ts))) r

pub ruleset slashes = (root_slash, path_slash)
