-- Back forms, the instructions that they become, and what is asked of a query apart from its forms.
use Rattle.std.specs.Prelude.{ℕ, zero, suc, List, [], ◌∷◌, map, flat_map, Bool, true, false}
use Rattle.std.specs.Prelude.{not, ◌&&◌, ◌||◌, if◌then◌else◌, pos, Option, Some, None, codes}
use Rattle.std.specs.List.{list_all, list_any}
use Rattle.xt_names.specs.Allowed.{is_empty_text}
use Rattle.xt_names.specs.Classes.{is_xml_text}
use Rattle.xt_names.specs.declared.names.ExprName.{ExprName}
use Rattle.xt_names.specs.declared.names.Name.{Name}
use Rattle.xt_names.specs.declared.names.Binding.{Binding as Namespace}
use Rattle.xt_atoms.specs.AtomTexts.{lexical_qname}
use Rattle.xt_syntax.specs.declared.exprs.Expr.{Expr}
use Rattle.xt_syntax.specs.declared.exprs.Arm.{Arm}
use Rattle.xt_syntax.specs.declared.exprs.Clause.{Clause}
use Rattle.xt_syntax.specs.declared.exprs.Order.{Order}
use Rattle.xt_syntax.specs.declared.exprs.Flwor.{Flwor as FlworOf}
use Rattle.xt_syntax.specs.declared.exprs.Bind.{Bind}
use Rattle.xt_syntax.specs.declared.exprs.NameSource.{NameSource}
use Rattle.xt_syntax.specs.declared.exprs.DirectAttr.{DirectAttr}
use Rattle.xt_syntax.specs.declared.exprs.Part.{Part}
use Rattle.xt_syntax.specs.declared.exprs.Clause.TheOpen.{Expr-F, Clause-F, NameSource-F, Flwor-F}
use Rattle.xt_syntax.specs.declared.exprs.Clause.TheOpen.{Bind-F, Arm-F, Order-F}
use Rattle.xt_syntax.specs.declared.exprs.Clause.TheOpen.{Int, Str, Context, Comma, If, Flwor, Call}
use Rattle.xt_syntax.specs.declared.exprs.Clause.TheOpen.{ElemC, AttrC, TextC, For, Let, Fixed, Computed}
use Rattle.xt_syntax.specs.declared.exprs.Clause.TheViews.{out-Expr, out-Flwor, out-Clause, out-Bind}
use Rattle.xt_syntax.specs.declared.exprs.Clause.TheViews.{out-Arm, out-Order, out-NameSource}
use Rattle.xt_syntax.specs.declared.exprs.Clause.TheViews.{roll-Expr, roll-Clause, roll-Bind}
use Rattle.xt_syntax.specs.declared.exprs.Clause.TheViews.{roll-Flwor, roll-Arm}
use Rattle.xt_syntax.specs.declared.patterns.Pattern.{Pattern}
use Rattle.xt_sheets.specs.declared.instrs.Instr.{Instr}
use Rattle.xt_sheets.specs.declared.instrs.Value.{Value as ValueOf}
use Rattle.xt_sheets.specs.declared.instrs.Bound.{Bound}
use Rattle.xt_sheets.specs.declared.instrs.When.{When}
use Rattle.xt_sheets.specs.declared.instrs.Instr.TheOpen as instr
use Rattle.xt_sheets.specs.declared.instrs.Instr.TheViews.{roll-Instr, roll-Value, roll-Bound}
use Rattle.xt_sheets.specs.declared.instrs.Instr.TheViews.{roll-When}
use Rattle.xt_sheets.specs.declared.values.AvtPart.TheVariants as avt
use Rattle.xt_sheets.specs.declared.values.Sort.{Sort}
use Rattle.way_back.specs.Leaves.{is_leaf, is_leaf_at, has_local, is_missing, is_none_of}

abbrev pub TheInstr : Type 0
TheInstr = Instr Expr Pattern

abbrev pub InstrForm : Type 0
InstrForm = instr.Instr-F Expr Pattern TheInstr (ValueOf Expr Pattern) (Bound Expr Pattern)
    (When Expr Pattern)

abbrev pub ExprForm : Type 0
ExprForm = Expr-F Clause Expr NameSource Part Arm Bind DirectAttr FlworOf Order

abbrev pub ClauseForm : Type 0
ClauseForm = Clause-F Clause Expr NameSource Part Arm Bind DirectAttr FlworOf Order

abbrev pub FlworForm : Type 0
FlworForm = Flwor-F Clause Expr NameSource Part Arm Bind DirectAttr FlworOf Order

abbrev pub NameForm : Type 0
NameForm = NameSource-F Clause Expr NameSource Part Arm Bind DirectAttr FlworOf Order

abbrev pub BindForm : Type 0
BindForm = Bind-F Clause Expr NameSource Part Arm Bind DirectAttr FlworOf Order

abbrev pub ArmForm : Type 0
ArmForm = Arm-F Clause Expr NameSource Part Arm Bind DirectAttr FlworOf Order

abbrev pub OrderForm : Type 0
OrderForm = Order-F Clause Expr NameSource Part Arm Bind DirectAttr FlworOf Order

-- The instructions

abbrev pub one : InstrForm → List TheInstr
one x = roll-Instr Expr Pattern x ∷ []

abbrev pub variable : ExprName → Expr → TheInstr
variable name e =
    roll-Instr Expr Pattern (instr.Variable (roll-Bound Expr Pattern (record {
      name = name;
      kind = None;
      value = roll-Value Expr Pattern (instr.Select e);
      tunnel = false;
    })))

abbrev pub dot : Expr
dot = roll-Expr Context

-- `for $v in . return K`
abbrev pub for_dot : ExprName → Expr → Expr
for_dot name key = roll-Expr (Flwor (roll-Flwor (record {
  clauses = roll-Clause (For (roll-Bind (record { var = name; kind = None; source = dot })) None) ∷ [];
  test = None;
  orders = [];
  stable = false;
  body = key;
})))

abbrev pub sort_of : ExprName → Order → Sort Expr
sort_of name o = record {
  key = for_dot name (out-Order o).key;
  descending = (out-Order o).descending;
  number = None;
}

-- `data(E)`
abbrev pub data_of : Expr → Expr
data_of e =
    roll-Expr (Call (record { uri = codes "http://www.w3.org/2005/xpath-functions"; local = codes "data" })
    (e ∷ []))

-- the instructions between are a sequence of their own, in which a variable is bound
abbrev pub bracketed : List TheInstr → List TheInstr
bracketed body = one (instr.If (roll-Expr (Int (pos 1))) body)

abbrev pub name_text : Name → List ℕ
name_text name = lexical_qname name.prefix name.local

module _ (scope : List Namespace) where
  abbrev pub attribute_instr : NameForm → Expr → List TheInstr
  attribute_instr (Fixed name) e =
      one (instr.Attribute (record {
        text = avt.Chars (name_text name) ∷ [];
        scope = scope;
        default_uri = [];
      }) (Some (data_of e)) [] None)
  attribute_instr (Computed e) v = []

  abbrev pub element_instr : NameForm → List TheInstr → List TheInstr
  element_instr (Fixed name) body = one (instr.Literal name [] body)
  element_instr (Computed e) body = []

  abbrev pub text_instr : ExprForm → List TheInstr
  text_instr (Str text) = one (instr.Chars text)
  text_instr x = []

  abbrev pub when_of : (Expr → List TheInstr) → Arm → When Expr Pattern
  when_of go a =
      roll-When Expr Pattern (record { test = (out-Arm a).test; body = go (out-Arm a).then })

  abbrev pub where_instr : Option Expr → List TheInstr → List TheInstr
  where_instr None body = body
  where_instr (Some test) body = one (instr.If test body)

  abbrev pub loop_instr : BindForm → List Order → List TheInstr → List TheInstr
  loop_instr b orders body =
      one (instr.ForEach b.source (map (sort_of b.var) orders) (variable b.var dot ∷ body))

  -- the first clause, and what the others become
  abbrev pub clause_instr : ClauseForm → List Order → List TheInstr → List TheInstr → List TheInstr
  clause_instr (For b place) orders body rest = loop_instr (out-Bind b) orders body
  clause_instr (Let b) orders body rest = variable (out-Bind b).var (out-Bind b).source ∷ rest

  abbrev pub clauses_instr : List Clause → Option Expr → List Order → List TheInstr → List TheInstr
  clauses_instr [] test orders body = where_instr test body
  clauses_instr (c ∷ more) test orders body =
      clause_instr (out-Clause c) orders body (clauses_instr more test orders body)

  abbrev pub flwor_instr : (Expr → List TheInstr) → FlworForm → List TheInstr
  flwor_instr go f = bracketed (clauses_instr f.clauses f.test f.orders (go f.body))

  abbrev pub form_instr : (Expr → List TheInstr) → ExprForm → List TheInstr
  form_instr go (Comma all) = flat_map go all
  form_instr go (If arms other) = one (instr.Choose (map (when_of go) arms) (go other))
  form_instr go (Flwor f) = flwor_instr go (out-Flwor f)
  form_instr go (TextC e) = text_instr (out-Expr e)
  form_instr go (ElemC name content) = element_instr (out-NameSource name) (go content)
  form_instr go (AttrC name value) = attribute_instr (out-NameSource name) value
  form_instr go x = []

  abbrev pub back_step : (Expr → List TheInstr) → Expr → List TheInstr
  back_step go e = if is_leaf e then one (instr.Sequence e) else form_instr go (out-Expr e)

  -- the instructions of an expression, of which so many levels are looked at
  unfoldable pub back_at : ℕ → Expr → List TheInstr
  back_at zero e = []
  back_at (suc n) e = back_step (back_at n) e

-- Back forms. Where `free` is true no leaf reads the focus, nor does one within a loop where `inside`
-- is true.

abbrev pub is_text : ExprForm → Bool
is_text (Str text) = not (is_empty_text text) && is_xml_text text
is_text x = false

abbrev pub is_fixed : NameForm → Bool
is_fixed (Fixed name) = true
is_fixed (Computed e) = false

abbrev pub if_leaf : Option Expr → Bool → Bool
if_leaf None free = true
if_leaf (Some e) free = is_leaf_at e free

-- a variable without a type, of a leaf
abbrev pub is_bind : BindForm → Bool → Bool
is_bind b free = has_local b.var && (is_missing b.kind && is_leaf_at b.source free)

-- any number of `let`, and then one `for` or nothing
abbrev pub is_for : ClauseForm → Bool
is_for (For b place) = true
is_for (Let b) = false

abbrev pub has_for : List Clause → Bool
has_for clauses = list_any (λ c. is_for (out-Clause c)) clauses

abbrev pub clause_fits : ClauseForm → List Clause → Bool → Bool → Bool
clause_fits (For b place) more free rest =
    is_missing place && (is_none_of more && is_bind (out-Bind b) free)
clause_fits (Let b) more free rest = is_bind (out-Bind b) free && rest

abbrev pub clauses_fit : List Clause → Bool → Bool
clauses_fit [] free = true
clauses_fit (c ∷ more) free = clause_fits (out-Clause c) more free (clauses_fit more free)

abbrev pub orders_fit : List Order → Bool → Bool
orders_fit orders free = list_all (λ o. is_leaf_at (out-Order o).key free) orders

-- without a `for` there is no order, and with one no `where`
abbrev pub rest_fits : Bool → (Bool → Expr → Bool) → Bool → Bool → FlworForm → Bool
rest_fits true go inside free f =
    is_missing f.test && (orders_fit f.orders (free || inside) && go (free || inside) f.body)
rest_fits false go inside free f = if_leaf f.test free && (is_none_of f.orders && go free f.body)

abbrev pub flwor_fits : (Bool → Expr → Bool) → Bool → Bool → FlworForm → Bool
flwor_fits go inside free f =
    not (is_none_of f.clauses)
    && (clauses_fit f.clauses free && rest_fits (has_for f.clauses) go inside free f)

abbrev pub arm_fits : (Expr → Bool) → Bool → Arm → Bool
arm_fits go free a = is_leaf_at (out-Arm a).test free && go (out-Arm a).then

abbrev pub form_fits : (Bool → Expr → Bool) → Bool → Bool → ExprForm → Bool
form_fits go inside free (Comma all) = list_all (go free) all
form_fits go inside free (If arms other) = list_all (arm_fits (go free) free) arms && go free other
form_fits go inside free (Flwor f) = flwor_fits go inside free (out-Flwor f)
form_fits go inside free (TextC e) = is_text (out-Expr e)
form_fits go inside free (ElemC name content) = is_fixed (out-NameSource name) && go free content
form_fits go inside free (AttrC name value) =
    is_fixed (out-NameSource name) && is_leaf_at value free
form_fits go inside free x = false

-- Whatever is a leaf is one. With `inside` and `free` false it is a back form; with `inside` true it
-- also meets the demand on the focus.
unfoldable pub is_back_at : ℕ → Bool → Bool → Expr → Bool
is_back_at zero inside free e = false
is_back_at (suc n) inside free e =
    if is_leaf e then is_leaf_at e free else form_fits (is_back_at n inside) inside free (out-Expr e)

-- The query whose loops are counted

-- no variable of a query is without a name
abbrev pub counter : ExprName
counter = record { uri = []; local = [] }

abbrev pub counted_form_clause : ClauseForm → Clause
counted_form_clause (For b place) = roll-Clause (For b (Some counter))
counted_form_clause (Let b) = roll-Clause (Let b)

abbrev pub counted_clause : Clause → Clause
counted_clause c = counted_form_clause (out-Clause c)

abbrev pub counted_arm : (Expr → Expr) → Arm → Arm
counted_arm go a = roll-Arm (record { test = (out-Arm a).test; then = go (out-Arm a).then })

abbrev pub counted_flwor : (Expr → Expr) → FlworForm → FlworOf
counted_flwor go f = roll-Flwor (record {
  clauses = map counted_clause f.clauses;
  test = f.test;
  orders = f.orders;
  stable = f.stable;
  body = go f.body;
})

abbrev pub counted_form : (Expr → Expr) → ExprForm → Expr
counted_form go (Comma all) = roll-Expr (Comma (map go all))
counted_form go (If arms other) = roll-Expr (If (map (counted_arm go) arms) (go other))
counted_form go (Flwor f) = roll-Expr (Flwor (counted_flwor go (out-Flwor f)))
counted_form go (ElemC name content) = roll-Expr (ElemC name (go content))
counted_form go x = roll-Expr x

-- the same with a position on each `for` that is outside of leaves
unfoldable pub counted_at : ℕ → Expr → Expr
counted_at zero e = e
counted_at (suc n) e = if is_leaf e then e else counted_form (counted_at n) (out-Expr e)
