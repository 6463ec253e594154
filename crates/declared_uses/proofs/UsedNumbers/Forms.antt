-- What keeps to names that have numbers: the forms of instructions whose parts do.
use Rattle.std.proofs.Common.{◌≡◌, ℕ, List, [], ◌∷◌, ◌++◌, map, Bool, true, false, cond}
use Rattle.std.proofs.Common.{Option, Some, None, refl, sym, subst, ◌∙◌}
use Rattle.std.proofs.lemmas.Bool.{and_from}
use Rattle.std.proofs.lemmas.List.Folds.{list_all-append}
use Rattle.std.specs.List.{list_all}
use Rattle.xt_names.specs.declared.names.ExprName.{ExprName}
use Rattle.xt_syntax.specs.declared.exprs.Expr.{Expr}
use Rattle.xt_syntax.specs.declared.patterns.Pattern.{Pattern}
use Rattle.xt_sheets.specs.declared.values.AvtPart.{AvtPart}
use Rattle.xt_sheets.specs.declared.values.AvtPart.TheVariants as avt
use Rattle.xt_sheets.specs.declared.values.Grouping.{Grouping}
use Rattle.xt_sheets.specs.declared.values.Grouping.TheVariants as groups
use Rattle.xt_sheets.specs.declared.values.LiteralAttr.{LiteralAttr}
use Rattle.xt_sheets.specs.declared.values.ModeUse.{ModeUse}
use Rattle.xt_sheets.specs.declared.values.Sort.{Sort}
use Rattle.xt_sheets.specs.declared.instrs.Instr.{Instr}
use Rattle.xt_sheets.specs.declared.instrs.Value.{Value}
use Rattle.xt_sheets.specs.declared.instrs.Bound.{Bound}
use Rattle.xt_sheets.specs.declared.instrs.When.{When}
use Rattle.xt_sheets.specs.declared.instrs.Instr.TheFolds.{fold-roll-Instr, fold-roll-Value}
use Rattle.xt_sheets.specs.declared.instrs.Instr.TheFolds.{fold-roll-Bound, fold-roll-When}
use Rattle.xt_sheets.specs.declared.instrs.Instr.TheFolds.{map-Instr, map-Value}
use Rattle.xt_sheets.specs.declared.instrs.Instr.TheViews.{roll-Instr, roll-Value, roll-Bound}
use Rattle.xt_sheets.specs.declared.instrs.Instr.TheViews.{roll-When}
use Rattle.xt_sheets.specs.declared.instrs.Instr.TheOpen.{Instr-F, Value-F, Bound-F}
use Rattle.xt_sheets.specs.declared.instrs.Instr.TheOpen as form
use Rattle.xt_sheets.specs.declared.instrs.Instr.TheVariants as instr
use Rattle.xt_sheets.specs.declared.instrs.Instr.TheVariants.{rolls-Chars, rolls-CopyOf, rolls-Sequence}
use Rattle.xt_sheets.specs.declared.instrs.Instr.TheVariants.{rolls-ValueOf, rolls-Literal}
use Rattle.xt_sheets.specs.declared.instrs.Instr.TheVariants.{rolls-Element, rolls-Attribute}
use Rattle.xt_sheets.specs.declared.instrs.Instr.TheVariants.{rolls-Comment, rolls-Pi, rolls-Document}
use Rattle.xt_sheets.specs.declared.instrs.Instr.TheVariants.{rolls-Copy, rolls-If, rolls-ForEach}
use Rattle.xt_sheets.specs.declared.instrs.Instr.TheVariants.{rolls-ForEachGroup, rolls-PerformSort}
use Rattle.xt_sheets.specs.declared.instrs.Instr.TheVariants.{rolls-Choose, rolls-Variable, rolls-Apply}
use Rattle.xt_sheets.specs.declared.instrs.Instr.TheVariants.{rolls-ApplyImports, rolls-NextMatch}
use Rattle.xt_sheets.specs.declared.instrs.Instr.TheVariants.{rolls-CallTemplate}
use Rattle.xt_sheets.specs.declared.instrs.Value.TheVariants as value
use Rattle.xt_sheets.specs.declared.instrs.Value.TheVariants.{rolls-Select, rolls-Body, rolls-EmptyText}
use Rattle.xt_sheets.specs.declared.instrs.Value.TheVariants.{rolls-EmptyList, rolls-Required}
use Rattle.xt_sheets.specs.Layers.{InstrLayer, ValueLayer}
use Rattle.name_rules.specs.Scopes.{has_name, with_names}
use Rattle.sheet_uses.specs.declared.uses.Use.{Use}
use Rattle.sheet_uses.specs.declared.uses.Use.TheVariants as use_of
use Rattle.sheet_uses.specs.Exprs.{Finds, Binder, nothing, two, all_in, binders_in, behind, variable_in}
use Rattle.sheet_uses.specs.Exprs.{expr_uses}
use Rattle.sheet_uses.specs.Values.{if_expr, part_uses, if_template, template_uses, attribute_uses}
use Rattle.sheet_uses.specs.Values.{sort_uses, grouping_uses}
use Rattle.sheet_uses.specs.Bodies.{BoundFound, uses, sources_in, ordinary, three, four}
use Rattle.sheet_uses.specs.Bodies.{use_steps, instr_uses, value_uses, bound_uses}
use Rattle.sheet_uses.specs.Bodies.{when_uses, param_uses, callee_uses}
use Rattle.sheet_heads.specs.Bindings.{value_in, with_value}
use Rattle.sheet_heads.specs.Bodied.{with_body}
use Rattle.sheet_heads.specs.Calls.{with_passed}
use Rattle.sheet_heads.specs.declared.bindings.BoundHead.{BoundHead}
use Rattle.sheet_heads.specs.declared.bodied.Head.{Head}
use Rattle.sheet_heads.specs.declared.bodied.Head.TheVariants as head
use Rattle.sheet_heads.specs.declared.calls.CallHead.{CallHead}
use Rattle.sheet_heads.specs.declared.calls.CallHead.TheVariants as call
use Rattle.std.specs.Prelude.{is_some}
use Rattle.declared_uses.proofs.AddedUses.Exprs.{Closed, expr_has, each_has}
use Rattle.declared_uses.specs.Numbers.{is_number_in, has_mode, has_number}

abbrev pub Instrs : Type 0
Instrs = List (Instr Expr Pattern)

abbrev pub Bounds : Type 0
Bounds = List (Bound Expr Pattern)

abbrev Form : Type 0
Form = Instr-F Expr Pattern (Instr Expr Pattern) (Value Expr Pattern) (Bound Expr Pattern)
    (When Expr Pattern)

abbrev mapped : Form → InstrLayer Expr Pattern uses
mapped =
    map-Instr Expr Pattern (Instr Expr Pattern) (Value Expr Pattern) (Bound Expr Pattern)
    (When Expr Pattern) uses.Instrs uses.Values uses.Bounds uses.Whens instr_uses value_uses bound_uses
    when_uses

instr_rolled : (x : Form) → instr_uses (roll-Instr Expr Pattern x) ≡ use_steps.of_instr (mapped x)
instr_rolled x = fold-roll-Instr _ _ _ _ _ _ _ _ _ _ x

abbrev ValueForm : Type 0
ValueForm = Value-F Expr Pattern (Instr Expr Pattern) (Value Expr Pattern) (Bound Expr Pattern)
    (When Expr Pattern)

abbrev mapped_value : ValueForm → ValueLayer Expr Pattern uses
mapped_value =
    map-Value Expr Pattern (Instr Expr Pattern) (Value Expr Pattern) (Bound Expr Pattern)
    (When Expr Pattern) uses.Instrs uses.Values uses.Bounds uses.Whens instr_uses value_uses bound_uses
    when_uses

value_rolled : (x : ValueForm)
    → value_uses (roll-Value Expr Pattern x) ≡ use_steps.of_value (mapped_value x)
value_rolled x = fold-roll-Value _ _ _ _ _ _ _ _ _ _ x

module _ (modes called : List ExprName) where
  abbrev pub numbered : Use → Bool
  numbered = has_number modes called

  -- it adds nothing without a number
  abbrev pub Keeps : Finds → Type 0
  Keeps f = (scope : List ExprName) (found : List Use) → list_all numbered found ≡ true
      → list_all numbered (f scope found) ≡ true

  one_kept : (u : Use) → numbered u ≡ true → Keeps (λ scope found. found ++ u ∷ [])
  one_kept u h scope found k =
      list_all-append numbered found (u ∷ [])
      ∙ and_from (list_all numbered found) _ k (and_from (numbered u) true h refl)

  variable_numbered : (n : ExprName) → numbered (use_of.Variable n) ≡ true
  unfolding has_number
  variable_numbered n = refl

  call_numbered : (n : ExprName) (arity : ℕ) (literal : Option (List ℕ))
      → numbered (use_of.Call n arity literal) ≡ true
  unfolding has_number
  call_numbered n arity literal = refl

  variable_kept : (n : ExprName) → Keeps (variable_in n)
  unfolding variable_in
  variable_kept n scope found k = go (has_name scope n)
    where
      go : (b : Bool) → list_all numbered (cond b found (found ++ use_of.Variable n ∷ [])) ≡ true
      go true = k
      go false = one_kept (use_of.Variable n) (variable_numbered n) scope found k

  keeping : Closed Keeps
  keeping = record {
    none = λ scope found k. k;
    after = λ a b into f g scope found k. g (into scope) (a scope found) (f scope found k);
    variable = variable_kept;
    call = λ n arity literal.
        one_kept (use_of.Call n arity literal) (call_numbered n arity literal);
  }

  pub expr_keeps : (e : Expr) → Keeps (expr_uses e).finds
  expr_keeps e = expr_has Keeps keeping e

  none_keeps : Keeps nothing
  none_keeps scope found k = k

  two_keep : (a b : Finds) → Keeps a → Keeps b → Keeps (two a b)
  two_keep a b f g scope found k = g scope (a scope found) (f scope found k)

  three_keep : (a b c : Finds) → Keeps a → Keeps b → Keeps c → Keeps (three a b c)
  three_keep a b c f g h = two_keep (two a b) c (two_keep a b f g) h

  four_keep : (a b c d : Finds) → Keeps a → Keeps b → Keeps c → Keeps d → Keeps (four a b c d)
  four_keep a b c d f g h i = two_keep (two a b) (two c d) (two_keep a b f g) (two_keep c d h i)

  pub each_keeps : {A : Type 0} (f : A → Finds) → ((x : A) → Keeps (f x)) → (xs : List A)
      → Keeps (all_in (map f xs))
  each_keeps f h xs = each_has Keeps keeping f h xs

  option_keeps : (e : Option Expr) → Keeps (if_expr e)
  option_keeps None = none_keeps
  option_keeps (Some e) = expr_keeps e

  part_keeps : (p : AvtPart Expr) → Keeps (part_uses p)
  unfolding part_uses
  part_keeps (avt.Chars text) = none_keeps
  part_keeps (avt.Code e) = expr_keeps e

  template_keeps : (ps : List (AvtPart Expr)) → Keeps (template_uses ps)
  template_keeps ps = each_keeps part_uses part_keeps ps

  if_template_keeps : (t : Option (List (AvtPart Expr))) → Keeps (if_template t)
  if_template_keeps None = none_keeps
  if_template_keeps (Some ps) = template_keeps ps

  attributes_keep : (attrs : List (LiteralAttr Expr)) → Keeps (all_in (map attribute_uses attrs))
  attributes_keep attrs = each_keeps attribute_uses (λ a. template_keeps a.value) attrs

  sorts_keep : (sorts : List (Sort Expr)) → Keeps (all_in (map sort_uses sorts))
  sorts_keep sorts = each_keeps sort_uses (λ s. expr_keeps s.key) sorts

  grouping_keeps : (g : Grouping Expr Pattern) → Keeps (grouping_uses g)
  unfolding grouping_uses
  grouping_keeps (groups.By e) = expr_keeps e
  grouping_keeps (groups.Adjacent e) = expr_keeps e
  grouping_keeps (groups.Starting ps) = none_keeps

  -- instructions, values, parameters and branches
  abbrev pub Good : Instr Expr Pattern → Type 0
  Good i = Keeps (instr_uses i).source

  abbrev pub GoodBound : Bound Expr Pattern → Type 0
  GoodBound b = Keeps (bound_uses b).source

  abbrev pub GoodWhen : When Expr Pattern → Type 0
  GoodWhen w = Keeps (when_uses w)

  abbrev pub GoodBody : Instrs → Type 0
  GoodBody [] = Unit {0}
  GoodBody (i ∷ is) = Good i × GoodBody is

  abbrev pub GoodBounds : Bounds → Type 0
  GoodBounds [] = Unit {0}
  GoodBounds (b ∷ bs) = GoodBound b × GoodBounds bs

  abbrev pub GoodWhens : List (When Expr Pattern) → Type 0
  GoodWhens [] = Unit {0}
  GoodWhens (w ∷ ws) = GoodWhen w × GoodWhens ws

  body_keeps : (is : Instrs) → GoodBody is → Keeps (binders_in (map instr_uses is))
  body_keeps [] g scope found k = k
  body_keeps (i ∷ is) g scope found k =
      body_keeps is g.1 (with_names scope (instr_uses i).names) ((instr_uses i).source scope found)
      (g.0 scope found k)

  sources_keep : (bs : Bounds) → GoodBounds bs → Keeps (sources_in (map bound_uses bs))
  sources_keep [] g scope found k = k
  sources_keep (b ∷ bs) g scope found k =
      sources_keep bs g.1 scope ((bound_uses b).source scope found) (g.0 scope found k)

  whens_keep : (ws : List (When Expr Pattern)) → GoodWhens ws → Keeps (all_in (map when_uses ws))
  whens_keep [] g scope found k = k
  whens_keep (w ∷ ws) g scope found k =
      whens_keep ws g.1 scope (when_uses w scope found) (g.0 scope found k)

  params_keep : (bs : Bounds) → GoodBounds bs → Keeps (binders_in (map param_uses bs))
  params_keep [] g scope found k = k
  params_keep (b ∷ bs) g scope found k =
      params_keep bs g.1 (with_names scope (param_uses b).names) ((bound_uses b).source scope found)
      (g.0 scope found k)

  pub callee_keeps : (params : Bounds) (body : Instrs) → GoodBounds params → GoodBody body
      → Keeps (callee_uses params body)
  callee_keeps params body g h scope found k =
      body_keeps body h (behind (map param_uses params) scope)
      (binders_in (map param_uses params) scope found) (params_keep params g scope found k)

  rolled : (x : Form) → Keeps (use_steps.of_instr (mapped x)).source
      → Good (roll-Instr Expr Pattern x)
  rolled x f = subst (λ (b : Binder). Keeps b.source) (sym (instr_rolled x)) f

  pub chars_good : (t : List ℕ) → Good (instr.Chars t)
  chars_good t = subst Good (rolls-Chars t) (rolled (form.Chars t) none_keeps)

  pub copy_of_good : (e : Expr) → Good (instr.CopyOf e)
  copy_of_good e = subst Good (rolls-CopyOf e) (rolled (form.CopyOf e) (expr_keeps e))

  pub sequence_good : (e : Expr) → Good (instr.Sequence e)
  sequence_good e = subst Good (rolls-Sequence e) (rolled (form.Sequence e) (expr_keeps e))

  pub choose_good : (ws : List (When Expr Pattern)) (other : Instrs) → GoodWhens ws → GoodBody other
      → Good (instr.Choose ws other)
  choose_good ws other g h =
      subst Good (rolls-Choose ws other)
      (rolled (form.Choose ws other) (two_keep _ _ (whens_keep ws g) (body_keeps other h)))

  pub variable_good : (b : Bound Expr Pattern) → GoodBound b → Good (instr.Variable b)
  variable_good b g = subst Good (rolls-Variable b) (rolled (form.Variable b) g)

  pub when_good : (test : Expr) (body : Instrs) → GoodBody body
      → GoodWhen (roll-When Expr Pattern (record { test = test; body = body }))
  when_good test body g =
      subst Keeps (sym (fold-roll-When _ _ _ _ _ _ _ _ _ _ (record { test = test; body = body })))
      (two_keep (expr_uses test).finds (binders_in (map instr_uses body)) (expr_keeps test)
      (body_keeps body g))

  -- heads with content
  pub with_body_good : (h : Head Expr Pattern) (body : Instrs) → GoodBody body
      → Good (with_body h body)
  with_body_good (head.ValueOf select separator) body g =
      subst Good (rolls-ValueOf select body separator)
      (rolled (form.ValueOf select body separator)
      (three_keep _ _ _ (option_keeps select) (if_template_keeps separator) (body_keeps body g)))
  with_body_good (head.Literal name attributes) body g =
      subst Good (rolls-Literal name attributes body)
      (rolled (form.Literal name attributes body)
      (two_keep _ _ (attributes_keep attributes) (body_keeps body g)))
  with_body_good (head.Element name) body g =
      subst Good (rolls-Element name body)
      (rolled (form.Element name body) (two_keep _ _ (template_keeps name.text) (body_keeps body g)))
  with_body_good (head.Attribute name select separator) body g =
      subst Good (rolls-Attribute name select body separator)
      (rolled (form.Attribute name select body separator)
      (four_keep _ _ _ _ (template_keeps name.text) (option_keeps select) (if_template_keeps separator)
      (body_keeps body g)))
  with_body_good (head.Comment select) body g =
      subst Good (rolls-Comment select body)
      (rolled (form.Comment select body) (two_keep _ _ (option_keeps select) (body_keeps body g)))
  with_body_good (head.Pi name select) body g =
      subst Good (rolls-Pi name select body)
      (rolled (form.Pi name select body)
      (three_keep _ _ _ (template_keeps name) (option_keeps select) (body_keeps body g)))
  with_body_good head.Document body g =
      subst Good (rolls-Document body) (rolled (form.Document body) (body_keeps body g))
  with_body_good head.Copy body g =
      subst Good (rolls-Copy body) (rolled (form.Copy body) (body_keeps body g))
  with_body_good (head.If test) body g =
      subst Good (rolls-If test body)
      (rolled (form.If test body) (two_keep _ _ (expr_keeps test) (body_keeps body g)))
  with_body_good (head.ForEach select sorts) body g =
      subst Good (rolls-ForEach select sorts body)
      (rolled (form.ForEach select sorts body)
      (three_keep _ _ _ (expr_keeps select) (sorts_keep sorts) (body_keeps body g)))
  with_body_good (head.ForEachGroup select grouping sorts) body g =
      subst Good (rolls-ForEachGroup select grouping sorts body)
      (rolled (form.ForEachGroup select grouping sorts body)
      (four_keep _ _ _ _ (expr_keeps select) (grouping_keeps grouping) (sorts_keep sorts)
      (body_keeps body g)))
  with_body_good (head.PerformSort select sorts) body g =
      subst Good (rolls-PerformSort select sorts body)
      (rolled (form.PerformSort select sorts body)
      (three_keep _ _ _ (option_keeps select) (sorts_keep sorts) (body_keeps body g)))

  -- the number that a head has
  abbrev pub HasNumber : CallHead Expr → Type 0
  HasNumber (call.Apply select mode sorts) = has_mode modes mode ≡ true
  HasNumber call.ApplyImports = Unit {0}
  HasNumber call.NextMatch = Unit {0}
  HasNumber (call.Template number) = is_number_in called number ≡ true

  apply_numbered : (mode : ModeUse) → has_mode modes mode ≡ true
      → numbered (use_of.Apply mode) ≡ true
  unfolding has_number
  apply_numbered mode h = h

  template_numbered : (number : ℕ) (passed : List ExprName) → is_number_in called number ≡ true
      → numbered (use_of.Template number passed) ≡ true
  unfolding has_number
  template_numbered number passed h = h

  pub with_passed_good : (h : CallHead Expr) (bs : Bounds) → HasNumber h → GoodBounds bs
      → Good (with_passed h bs)
  with_passed_good (call.Apply select mode sorts) bs n g =
      subst Good (rolls-Apply select mode sorts bs)
      (rolled (form.Apply select mode sorts bs)
      (four_keep _ _ _ _ (one_kept (use_of.Apply mode) (apply_numbered mode n)) (option_keeps select)
      (sorts_keep sorts) (sources_keep bs g)))
  with_passed_good call.ApplyImports bs n g =
      subst Good (rolls-ApplyImports bs) (rolled (form.ApplyImports bs) (sources_keep bs g))
  with_passed_good call.NextMatch bs n g =
      subst Good (rolls-NextMatch bs) (rolled (form.NextMatch bs) (sources_keep bs g))
  with_passed_good (call.Template number) bs n g =
      subst Good (rolls-CallTemplate number bs)
      (rolled (form.CallTemplate number bs)
      (λ scope found k. sources_keep bs g scope
      (found ++ use_of.Template number (ordinary (map bound_uses bs)) ∷ [])
      (one_kept (use_of.Template number (ordinary (map bound_uses bs)))
      (template_numbered number (ordinary (map bound_uses bs)) n) scope found k)))

  -- values
  valued : (x : ValueForm) → Keeps (use_steps.of_value (mapped_value x))
      → Keeps (value_uses (roll-Value Expr Pattern x))
  valued x f = subst Keeps (sym (value_rolled x)) f

  pub required_keeps : Keeps (value_uses value.Required)
  required_keeps =
      subst (λ v. Keeps (value_uses v)) rolls-Required (valued form.Required none_keeps)

  value_keeps : (select : Option Expr) (content required kind : Bool) (body : Instrs)
      → GoodBody body → Keeps (value_uses (value_in select content required kind body))
  value_keeps (Some e) content required kind body g =
      subst (λ v. Keeps (value_uses v)) (rolls-Select e) (valued (form.Select e) (expr_keeps e))
  value_keeps None true required kind body g =
      subst (λ v. Keeps (value_uses v)) (rolls-Body body) (valued (form.Body body) (body_keeps body g))
  value_keeps None false true kind body g = required_keeps
  value_keeps None false false true body g =
      subst (λ v. Keeps (value_uses v)) rolls-EmptyList (valued form.EmptyList none_keeps)
  value_keeps None false false false body g =
      subst (λ v. Keeps (value_uses v)) rolls-EmptyText (valued form.EmptyText none_keeps)

  abbrev BoundForm : Type 0
  BoundForm = Bound-F Expr Pattern (Instr Expr Pattern) (Value Expr Pattern) (Bound Expr Pattern)
      (When Expr Pattern)

  pub bound_rolled : (x : BoundForm) → Keeps (value_uses x.value)
      → GoodBound (roll-Bound Expr Pattern x)
  bound_rolled x g =
      subst (λ (b : BoundFound). Keeps b.source) (sym (fold-roll-Bound _ _ _ _ _ _ _ _ _ _ x)) g

  pub with_value_good : (h : BoundHead Expr) (content : Bool) (body : Instrs) → GoodBody body
      → GoodBound (with_value h content body)
  with_value_good h content body g =
      bound_rolled (record {
        name = h.name;
        kind = h.kind;
        value = value_in h.select content h.required (is_some h.kind) body;
        tunnel = h.tunnel;
      }) (value_keeps h.select content h.required (is_some h.kind) body g)
