-- Small documents and stylesheets.
use Rattle.std.specs.Prelude.{ℕ, ℤ, pos, List, [], ◌∷◌, Bool, true, false, Some, None}
use Rattle.std.specs.Prelude.{codes}
use Rattle.xt_names.specs.declared.names.ExprName.{ExprName}
use Rattle.xt_names.specs.declared.names.Name.{Name}
use Rattle.xt_types.specs.declared.axes.Axis.TheVariants.{Child}
use Rattle.xt_types.specs.declared.node_tests.NameTest.{NameTest}
use Rattle.xt_types.specs.declared.node_tests.NameTest.TheVariants.{Exact}
use Rattle.xt_types.specs.declared.node_tests.Test.TheVariants.{Named}
use Rattle.xt_tree.specs.Forest.{Forest, end, elem, text}
use Rattle.xt_tree.specs.declared.trees.Tree.{Tree}
use Rattle.xt_tree.specs.declared.trees.Tree.TheVariants.{Doc}
use Rattle.xt_syntax.specs.declared.exprs.Arm.{Arm}
use Rattle.xt_syntax.specs.declared.exprs.Bind.{Bind}
use Rattle.xt_syntax.specs.declared.exprs.Clause.{Clause}
use Rattle.xt_syntax.specs.declared.exprs.Clause.TheOpen.{Expr-F, Str, Var, Context}
use Rattle.xt_syntax.specs.declared.exprs.Clause.TheViews.{roll-Expr}
use Rattle.xt_syntax.specs.declared.exprs.DirectAttr.{DirectAttr}
use Rattle.xt_syntax.specs.declared.exprs.Expr.{Expr}
use Rattle.xt_syntax.specs.declared.exprs.Flwor.{Flwor as FlworOf}
use Rattle.xt_syntax.specs.declared.exprs.NameSource.{NameSource}
use Rattle.xt_syntax.specs.declared.exprs.Order.{Order}
use Rattle.xt_syntax.specs.declared.exprs.Part.{Part}
use Rattle.xt_syntax.specs.declared.patterns.Pattern.{Pattern}
use Rattle.xt_sheets.specs.declared.instrs.Bound.{Bound}
use Rattle.xt_sheets.specs.declared.instrs.Instr.{Instr}
use Rattle.xt_sheets.specs.declared.instrs.Instr.TheOpen.{Instr-F, Bound-F, Value-F}
use Rattle.xt_sheets.specs.declared.instrs.Instr.TheViews.{roll-Instr, roll-Bound, roll-Value}
use Rattle.xt_sheets.specs.declared.instrs.Value.{Value}
use Rattle.xt_sheets.specs.declared.instrs.When.{When}
use Rattle.xt_sheets.specs.declared.sheets.Level.{Level}
use Rattle.xt_sheets.specs.declared.sheets.Rule.{Rule}
use Rattle.xt_sheets.specs.declared.sheets.Sheet.{Sheet}
use Rattle.xt_sheets.specs.declared.sheets.Template.{Template}
use Rattle.xt_sheets.specs.declared.values.AvtPart.TheVariants as avt
use Rattle.xt_sheets.specs.declared.values.AvtName.{AvtName}
use Rattle.transform_meaning.specs.Templates.{Run}

-- forms of syntax over their parts
abbrev pub ExprForm : Type 0
ExprForm = Expr-F Clause Expr NameSource Part Arm Bind DirectAttr FlworOf Order

abbrev pub TheInstr : Type 0
TheInstr = Instr Expr Pattern

abbrev pub TheBound : Type 0
TheBound = Bound Expr Pattern

abbrev pub InstrForm : Type 0
InstrForm = Instr-F Expr Pattern TheInstr (Value Expr Pattern) TheBound (When Expr Pattern)

abbrev pub ValueForm : Type 0
ValueForm = Value-F Expr Pattern TheInstr (Value Expr Pattern) TheBound (When Expr Pattern)

abbrev pub BoundForm : Type 0
BoundForm = Bound-F Expr Pattern TheInstr (Value Expr Pattern) TheBound (When Expr Pattern)

abbrev pub do_it : InstrForm → TheInstr
do_it x = roll-Instr Expr Pattern x

abbrev pub bind_it : BoundForm → TheBound
bind_it x = roll-Bound Expr Pattern x

-- names
abbrev pub plain : List ℕ → Name
plain local = record { prefix = []; uri = []; local = local }

abbrev pub named : List ℕ → ExprName
named local = record { uri = []; local = local }

abbrev pub computed : List ℕ → AvtName Expr
computed local = record { text = avt.Chars local ∷ []; scope = []; default_uri = [] }

-- documents
abbrev pub element : List ℕ → Forest → Forest → Forest
element local kids more = elem (plain local) [] kids more

-- <a/>
abbrev pub a : Tree
a = Doc (element (codes "a") end end)

-- <a>x<b>y</b></a>
abbrev pub a_with_b : Tree
a_with_b =
    Doc (element (codes "a")
    (text (codes "x") (element (codes "b") (text (codes "y") end) end)) end)

-- <a>y</a><b>x</b><c>y</c>
abbrev pub a_b_c : Tree
a_b_c =
    Doc (element (codes "a") (text (codes "y") end)
    (element (codes "b") (text (codes "x") end)
    (element (codes "c") (text (codes "y") end) end)))

-- what the result of a text is
abbrev pub only : List ℕ → Tree
only t = Doc (text t end)

-- rules
abbrev pub root_rule : ℕ → Rule
root_rule template = record {
  template = template;
  pattern = record { rooted = true; steps = [] };
  modes = 0 ∷ [];
  precedence = 1;
  priority = pos 500;
}

abbrev pub elements : NameTest → Pattern
elements name = record {
  rooted = false;
  steps = record { axis = Child; test = Named name; quiet = []; deep = false } ∷ [];
}

abbrev pub rule_for : ℕ → NameTest → ℕ → ℤ → Rule
rule_for template name precedence priority = record {
  template = template;
  pattern = elements name;
  modes = 0 ∷ [];
  precedence = precedence;
  priority = priority;
}

abbrev pub for_name : List ℕ → NameTest
for_name local = Exact (named local)

-- templates and stylesheets
abbrev pub matched : List TheInstr → Template
matched body = record { name = None; params = []; kind = None; body = body; has_match = true }

abbrev pub called : List TheBound → List TheInstr → Template
called params body = record {
  name = Some (named (codes "n"));
  params = params;
  kind = None;
  body = body;
  has_match = false;
}

abbrev pub sheet : List Level → List Rule → List Template → Sheet
sheet levels rules templates = record {
  levels = levels;
  globals = [];
  templates = templates;
  rules = rules;
  functions = [];
  keys = [];
  modes = named [] ∷ [];
  space = [];
  omit = false;
}

abbrev pub one_level : List Level
one_level = record { first = 1 } ∷ []

-- a stylesheet of one module
abbrev pub t : List Rule → List Template → Sheet
t rules templates = sheet one_level rules templates

-- .. with one rule, for `/`
abbrev pub r : List TheInstr → Sheet
r body = t (root_rule 0 ∷ []) (matched body ∷ [])

abbrev pub run : Sheet → Tree → Run
run s document = record { sheet = s; document = document; documents = []; given = [] }

-- values and expressions
abbrev pub string : List ℕ → Expr
string x = roll-Expr (Str x)

abbrev pub dot : Expr
dot = roll-Expr Context

abbrev pub x_name : ExprName
x_name = named (codes "x")

abbrev pub x_var : Expr
x_var = roll-Expr (Var x_name)

abbrev pub bound_to : ValueForm → Bool → BoundForm
bound_to value tunnel = record {
  name = x_name;
  kind = None;
  value = roll-Value Expr Pattern value;
  tunnel = tunnel;
}
