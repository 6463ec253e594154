-- Small instructions, and their place.
use Rattle.std.specs.Prelude.{ℕ, List, [], ◌∷◌, false, codes}
use Rattle.xt_names.specs.declared.names.ExprName.{ExprName}
use Rattle.xt_names.specs.declared.names.Name.{Name}
use Rattle.xt_syntax.specs.declared.exprs.Expr.{Expr}
use Rattle.xt_syntax.specs.declared.exprs.Clause.TheViews.{roll-Expr}
use Rattle.xt_syntax.specs.declared.exprs.Clause.TheOpen.{Str, Context}
use Rattle.xt_syntax.specs.declared.patterns.Pattern.{Pattern}
use Rattle.xt_sheets.specs.declared.instrs.Bound.{Bound}
use Rattle.xt_sheets.specs.declared.instrs.Instr.{Instr}
use Rattle.xt_sheets.specs.declared.instrs.Value.{Value}
use Rattle.xt_sheets.specs.declared.instrs.When.{When}
use Rattle.xt_sheets.specs.declared.instrs.Instr.TheOpen.{Instr-F, Bound-F, Value-F, When-F}
use Rattle.xt_sheets.specs.declared.instrs.Instr.TheViews.{roll-Instr, roll-Bound}
use Rattle.xt_sheets.specs.declared.values.AvtName.{AvtName}
use Rattle.xt_sheets.specs.declared.values.AvtPart.TheVariants as avt
use Rattle.carried_exprs.specs.Sights.{library_call}
use Rattle.translated_forms.specs.Names.{key_function}
use Rattle.translated_forms.specs.Places.{Param, Place, Table, of_rule}
use Rattle.translated_forms.specs.Instrs.{translated_body}

abbrev pub TheInstr : Type 0
TheInstr = Instr Expr Pattern

abbrev pub InstrForm : Type 0
InstrForm =
    Instr-F Expr Pattern TheInstr (Value Expr Pattern) (Bound Expr Pattern) (When Expr Pattern)

abbrev pub ValueForm : Type 0
ValueForm =
    Value-F Expr Pattern TheInstr (Value Expr Pattern) (Bound Expr Pattern) (When Expr Pattern)

abbrev pub BoundForm : Type 0
BoundForm =
    Bound-F Expr Pattern TheInstr (Value Expr Pattern) (Bound Expr Pattern) (When Expr Pattern)

abbrev pub WhenForm : Type 0
WhenForm =
    When-F Expr Pattern TheInstr (Value Expr Pattern) (Bound Expr Pattern) (When Expr Pattern)

abbrev pub do_it : InstrForm → TheInstr
do_it x = roll-Instr Expr Pattern x

abbrev pub bind_it : BoundForm → Bound Expr Pattern
bind_it x = roll-Bound Expr Pattern x

-- names
abbrev pub plain : List ℕ → Name
plain local = record { prefix = []; uri = []; local = local }

abbrev pub named : List ℕ → ExprName
named local = record { uri = []; local = local }

abbrev pub spelled_by : List ℕ → AvtName Expr
spelled_by local = record { text = avt.Chars local ∷ []; scope = []; default_uri = [] }

-- expressions
abbrev pub string : List ℕ → Expr
string x = roll-Expr (Str x)

abbrev pub dot : Expr
dot = roll-Expr Context

abbrev pub v_name : ExprName
v_name = named (codes "v")

-- a parameter p, whose number is 1
abbrev pub p_param : Param
p_param = record { tunnel = false; name = named (codes "p") }

-- a stylesheet of this parameter, and one of none
abbrev pub table_with : List Param → Table
table_with params = record {
  params = params;
  prefixes = [];
  keys = λ text. key_function 1;
  named = λ place. 1;
  matches = λ p. library_call (codes "true") [];
}

-- in the first rule, in the default mode
abbrev pub place : Place
place = of_rule 1 0

abbrev pub become : List Param → List TheInstr → Expr
become params body = translated_body (table_with params) body place
