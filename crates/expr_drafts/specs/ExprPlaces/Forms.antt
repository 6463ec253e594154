-- The forms of the parts of expressions under prefixes.
use Rattle.std.specs.Prelude.{ℕ, Bool, false, List, [], ◌∷◌}
use Rattle.xt_syntax.specs.declared.exprs.Arm.{Arm}
use Rattle.xt_syntax.specs.declared.exprs.Clause.{Clause}
use Rattle.xt_syntax.specs.declared.exprs.Order.{Order}
use Rattle.xt_syntax.specs.declared.exprs.Flwor.{Flwor}
use Rattle.xt_syntax.specs.declared.exprs.Bind.{Bind}
use Rattle.xt_syntax.specs.declared.exprs.NameSource.{NameSource}
use Rattle.xt_syntax.specs.declared.exprs.DirectAttr.{DirectAttr}
use Rattle.xt_syntax.specs.declared.exprs.Part.{Part}
use Rattle.xt_syntax.specs.declared.prefixes.Prefixes.{Prefixes}
use Rattle.xt_syntax.specs.Layers.{arm_gives, clause_gives, bind_gives, order_gives, name_gives}
use Rattle.xt_syntax.specs.Layers.{attr_gives, part_gives, flwor_gives}
use Rattle.expr_keys.specs.declared.keys.Key.TheVariants as key
use Rattle.expr_keys.specs.declared.tokens.Token.{Token}
use Rattle.expr_keys.specs.declared.tokens.Token.TheVariants as token
use Rattle.expr_raws.specs.PathRaws.Forms.{Form, list, single, said, ends_unmarked}
use Rattle.expr_raws.specs.ControlRaws.Operators.{ArmForm}
use Rattle.expr_raws.specs.ControlRaws.Bindings.{BindForm, ClauseForm, OrderForm}
use Rattle.expr_raws.specs.ElementRaws.Makers.{NameForm}
use Rattle.expr_raws.specs.ElementRaws.Direct.{PartForm, AttrForm}
use Rattle.expr_raws.specs.Raws.{forms, form_steps}

module _ (p : Prefixes) where
  abbrev pub arm_form : Arm → ArmForm
  arm_form = arm_gives forms (form_steps p)

  abbrev pub clause_form : Clause → ClauseForm
  clause_form = clause_gives forms (form_steps p)

  abbrev pub bind_form : Bind → BindForm
  bind_form = bind_gives forms (form_steps p)

  abbrev pub order_form : Order → OrderForm
  order_form = order_gives forms (form_steps p)

  abbrev pub name_form : NameSource → NameForm
  name_form = name_gives forms (form_steps p)

  abbrev pub attr_form : DirectAttr → AttrForm
  attr_form = attr_gives forms (form_steps p)

  abbrev pub part_form : Part → PartForm
  part_form = part_gives forms (form_steps p)

  abbrev pub flwor_form : Flwor → Form
  flwor_form = flwor_gives forms (form_steps p)

-- if (test) then first else ..
abbrev pub arm_tokens : ArmForm → List Token → List Token
arm_tokens a rest = token.Key key.IfWord ∷ token.Key key.OpenParen
    ∷ said list a.test (token.Key key.CloseParen ∷ token.Key key.ThenWord
    ∷ said single a.first (token.Key key.ElseWord ∷ rest))

-- whether the last of two or more ends in a type without a mark
abbrev pub last_of_more : ℕ → List Form → Bool
last_of_more n [] = false
last_of_more n (f ∷ []) = false
last_of_more n (f ∷ g ∷ []) = ends_unmarked n g
last_of_more n (f ∷ g ∷ h ∷ fs) = last_of_more n (g ∷ h ∷ fs)
