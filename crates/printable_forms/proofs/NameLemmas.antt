-- Constructors and calls can be printed where their names and their parts can.
use Rattle.std.proofs.Common.{◌≡◌, Bool, true, false, ◌&&◌, not, List, [], map, Option, Some}
use Rattle.std.proofs.Common.{None, refl, sym, ap, ◌∙◌}
use Rattle.std.specs.Prelude.{is_some}
use Rattle.xt_names.specs.declared.names.ExprName.{ExprName}
use Rattle.xt_syntax.specs.declared.exprs.Expr.{Expr}
use Rattle.xt_syntax.specs.declared.exprs.Expr.TheVariants as expr
use Rattle.xt_syntax.specs.declared.exprs.Expr.TheVariants.{rolls-Call, rolls-ElemC, rolls-AttrC}
use Rattle.xt_syntax.specs.declared.exprs.Expr.TheVariants.{rolls-PiC}
use Rattle.xt_syntax.specs.declared.exprs.NameSource.{NameSource}
use Rattle.xt_syntax.specs.declared.exprs.Clause.TheOpen.{Call, ElemC, AttrC, PiC}
use Rattle.xt_syntax.specs.declared.prefixes.Prefixes.{Prefixes}
use Rattle.expr_names.specs.Types.{call_type, type_named}
use Rattle.expr_keys.specs.declared.keys.Key.TheVariants as key
use Rattle.expr_keys.specs.declared.productions.Class.TheVariants as class
use Rattle.expr_keys.specs.declared.tokens.Token.{Token}
use Rattle.expr_raws.specs.PathRaws.Forms.{Form, all_can}
use Rattle.expr_raws.specs.PathRaws.Names.{function_token}
use Rattle.expr_raws.specs.PathRaws.Paths.{with_token, call_with}
use Rattle.expr_raws.specs.ElementRaws.Makers.{NameForm, fixed, computed, element, attribute, instruction}
use Rattle.expr_raws.specs.ElementRaws.Makers.{given, given_pi}
use Rattle.expr_raws.specs.Raws.{form_of}
use Rattle.expr_drafts.specs.ExprPlaces.Forms.{name_form}
use Rattle.expr_drafts.proofs.ExprPlaces.Operands.{rolled}
use Rattle.printable_forms.specs.Named.{named_can}

token_can : (b : Bool) (f : Token → Form) → ((t : Token) → (f t).can ≡ b) → (o : Option Token)
    → (with_token o f).can ≡ (is_some o && b)
token_can b f h None = refl
token_can b f h (Some t) = h t

call_can : (n : ExprName) (fs : List Form) (o : Option Token)
    → (with_token o (call_with n fs)).can
    ≡ ((is_some o && not (is_some (call_type (type_named n)))) && all_can fs)
call_can n fs None = refl
call_can n fs (Some t) = refl

element_can : (p : Prefixes) (n : NameForm) (c : Form) → (element p n c).can
    ≡ (named_can class.Name p.bound p.element_default n && c.can)
element_can p (fixed n) c = token_can c.can (given key.ElementWord c) (λ t. refl) _
element_can p (computed f) c = refl

attribute_can : (p : Prefixes) (n : NameForm) (c : Form) → (attribute p n c).can
    ≡ (named_can class.Name p.bound [] n && c.can)
attribute_can p (fixed n) c = token_can c.can (given key.AttributeWord c) (λ t. refl) _
attribute_can p (computed f) c = refl

instruction_can : (p : Prefixes) (n : NameForm) (c : Form) → (instruction p n c).can
    ≡ (named_can class.Word p.bound [] n && c.can)
instruction_can p (fixed n) c = token_can c.can (given_pi c) (λ t. refl) _
instruction_can p (computed f) c = refl

-- what a form asks first, and what it asks of its last part
pub then_can : (f : Form) (u c x y : Bool) → f.can ≡ (u && c) → x ≡ u → x ≡ true → y ≡ c
    → y ≡ f.can
then_can f u c x y h hx t hy = hy ∙ sym (h ∙ ap (λ (z : Bool). z && c) (sym hx ∙ t))

pub else_can : (f : Form) (u c x : Bool) → f.can ≡ (u && c) → x ≡ u → x ≡ false → x ≡ f.can
else_can f u c x h hx t = t ∙ sym (h ∙ ap (λ (z : Bool). z && c) (sym hx ∙ t))

module _ (p : Prefixes) (e : Expr) where
  pub calls : (n : ExprName) (es : List Expr) → e ≡ expr.Call n es → (form_of p e).can
      ≡ ((is_some (function_token p.bound p.function_default n)
      && not (is_some (call_type (type_named n)))) && all_can (map (form_of p) es))
  calls n es is = ap (λ (f : Form). f.can)
      (ap (form_of p) (is ∙ sym (rolls-Call n es)) ∙ rolled p (Call n es))
      ∙ call_can n (map (form_of p) es) (function_token p.bound p.function_default n)

  pub elements : (n : NameSource) (a : Expr) → e ≡ expr.ElemC n a → (form_of p e).can
      ≡ (named_can class.Name p.bound p.element_default (name_form p n) && (form_of p a).can)
  elements n a is = ap (λ (f : Form). f.can)
      (ap (form_of p) (is ∙ sym (rolls-ElemC n a)) ∙ rolled p (ElemC n a))
      ∙ element_can p (name_form p n) (form_of p a)

  pub attributes : (n : NameSource) (a : Expr) → e ≡ expr.AttrC n a → (form_of p e).can
      ≡ (named_can class.Name p.bound [] (name_form p n) && (form_of p a).can)
  attributes n a is = ap (λ (f : Form). f.can)
      (ap (form_of p) (is ∙ sym (rolls-AttrC n a)) ∙ rolled p (AttrC n a))
      ∙ attribute_can p (name_form p n) (form_of p a)

  pub instructions : (n : NameSource) (a : Expr) → e ≡ expr.PiC n a → (form_of p e).can
      ≡ (named_can class.Word p.bound [] (name_form p n) && (form_of p a).can)
  instructions n a is = ap (λ (f : Form). f.can)
      (ap (form_of p) (is ∙ sym (rolls-PiC n a)) ∙ rolled p (PiC n a))
      ∙ instruction_can p (name_form p n) (form_of p a)
