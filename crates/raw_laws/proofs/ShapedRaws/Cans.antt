-- What it says of the parts that a form can be printed.
use Rattle.std.proofs.Common.{◌≡◌, List, [], Bool, true, ◌&&◌, ◌||◌, not, Option, Some, None}
use Rattle.std.proofs.Common.{is_some, refl, sym, ◌∙◌}
use Rattle.std.proofs.lemmas.Bool.{and_parts}
use Rattle.xt_names.specs.declared.names.ExprName.{ExprName}
use Rattle.xt_syntax.specs.declared.prefixes.Prefixes.{Prefixes}
use Rattle.expr_names.specs.Types.{type_named, call_type}
use Rattle.expr_keys.specs.declared.keys.Key.TheVariants as key
use Rattle.expr_keys.specs.declared.tokens.Token.{Token}
use Rattle.expr_keys.specs.declared.productions.Class.TheVariants as class
use Rattle.expr_raws.specs.PathRaws.Forms.{Form, all_can}
use Rattle.expr_raws.specs.PathRaws.Names.{function_token}
use Rattle.expr_raws.specs.PathRaws.Paths.{with_token, call_with, call}
use Rattle.expr_raws.specs.ControlRaws.Bindings.{may, has_some, ClauseForm, clauses_can, OrderForm}
use Rattle.expr_raws.specs.ControlRaws.Bindings.{orders_can, flowing}
use Rattle.expr_raws.specs.ElementRaws.Makers.{NameForm, fixed, computed, node_token, given, element}
use Rattle.expr_raws.specs.ElementRaws.Makers.{attribute, given_pi, instruction}

abbrev pub may_name : NameForm → Bool
may_name (fixed n) = true
may_name (computed f) = f.can

-- a name that is given
content_can : (c : Form) (o : Option Token) (f : Token → Form) → ((t : Token) → (f t).can ≡ c.can)
    → (with_token o f).can ≡ true → c.can ≡ true
content_can c None f e h = absurd (cc)
content_can c (Some t) f e h = sym (e t) ∙ h

pub element_parts : (p : Prefixes) (f : NameForm) (c : Form) → (element p f c).can ≡ true
    → (may_name f ≡ true) × (c.can ≡ true)
element_parts p (fixed n) c h = (
  refl,
  content_can c
      (node_token class.Name p.bound p.element_default n) (given key.ElementWord c) (λ t. refl) h,
)
element_parts p (computed f) c h = and_parts f.can c.can h

pub attribute_parts : (p : Prefixes) (f : NameForm) (c : Form) → (attribute p f c).can ≡ true
    → (may_name f ≡ true) × (c.can ≡ true)
attribute_parts p (fixed n) c h = (
  refl,
  content_can c
      (node_token class.Name p.bound [] n) (given key.AttributeWord c) (λ t. refl) h,
)
attribute_parts p (computed f) c h = and_parts f.can c.can h

pub instruction_parts : (p : Prefixes) (f : NameForm) (c : Form)
    → (instruction p f c).can ≡ true → (may_name f ≡ true) × (c.can ≡ true)
instruction_parts p (fixed n) c h = (
  refl,
  content_can c
      (node_token class.Word p.bound [] n) (given_pi c) (λ t. refl) h,
)
instruction_parts p (computed f) c h = and_parts f.can c.can h

pub call_parts : (p : Prefixes) (n : ExprName) (fs : List Form) → (call p n fs).can ≡ true
    → all_can fs ≡ true
call_parts p n fs = go (function_token p.bound p.function_default n)
  where
    go : (o : Option Token) → (with_token o (call_with n fs)).can ≡ true → all_can fs ≡ true
    go None h = absurd (cc)
    go (Some t) h = (and_parts (not (is_some (call_type (type_named n)))) (all_can fs) h).1

pub flowing_parts : (fs : List ClauseForm) (o : Option Form) (os : List OrderForm)
    (stable : Bool) (a : Form) → (flowing fs o os stable a).can ≡ true
    → (clauses_can fs ≡ true) × (may o ≡ true) × (orders_can os ≡ true) × (a.can ≡ true)
flowing_parts fs o os stable a c =
    let last : Bool = (not stable || has_some os) && a.can in
    let h = and_parts (has_some fs) (clauses_can fs && (may o && (orders_can os && last))) c in
    let i = and_parts (clauses_can fs) (may o && (orders_can os && last)) h.1 in
    let j = and_parts (may o) (orders_can os && last) i.1 in
    let k = and_parts (orders_can os) last j.1 in
    (i.0, j.0, k.0, (and_parts (not stable || has_some os) a.can k.1).1)
