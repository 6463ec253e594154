-- Global variables and parameters (XSLT 2.0, 9.5). They are evaluated at the document node, which is
-- the focus of the query too.
use Rattle.std.specs.Prelude.{List, [], ◌∷◌, Bool, true, false, Option, Some, None}
use Rattle.xt_types.specs.declared.types.SeqType.{SeqType}
use Rattle.xt_syntax.specs.declared.exprs.Expr.{Expr}
use Rattle.xt_syntax.specs.declared.exprs.Clause.TheViews.{roll-Expr}
use Rattle.xt_syntax.specs.declared.exprs.Clause.TheOpen.{Context}
use Rattle.xt_syntax.specs.declared.patterns.Pattern.{Pattern}
use Rattle.xt_syntax.specs.declared.queries.QueryVar.{QueryVar}
use Rattle.xt_sheets.specs.declared.instrs.Value.{Value}
use Rattle.xt_sheets.specs.declared.instrs.Instr.TheOpen.{Value-F, Select, Body, EmptyText}
use Rattle.xt_sheets.specs.declared.instrs.Instr.TheOpen.{EmptyList, Required}
use Rattle.xt_sheets.specs.declared.instrs.Instr.TheViews.{out-Value}
use Rattle.xt_sheets.specs.declared.instrs.Instr.{Instr}
use Rattle.xt_sheets.specs.declared.instrs.Bound.{Bound}
use Rattle.xt_sheets.specs.declared.instrs.When.{When}
use Rattle.xt_sheets.specs.declared.sheets.Global.{Global}
use Rattle.carried_exprs.specs.Sights.{focused, item_name, size_name, position_name}
use Rattle.carried_exprs.specs.Carried.{carried}
use Rattle.translated_forms.specs.Forms.{flow_or_body, number}
use Rattle.translated_forms.specs.Converted.{converted}
use Rattle.translated_forms.specs.Places.{Table, of_global, setting_at}
use Rattle.translated_forms.specs.Groups.{Named, in_body, needed}
use Rattle.translated_forms.specs.Instrs.{translated_value}

abbrev pub ValueForm : Type 0
ValueForm =
    Value-F Expr Pattern (Instr Expr Pattern) (Value Expr Pattern) (Bound Expr Pattern)
    (When Expr Pattern)

-- the document node, alone
abbrev pub document_item : Named
document_item = record { name = item_name; value = roll-Expr Context }

abbrev pub document_focus : List Named
document_focus =
    document_item ∷ record { name = position_name; value = number 1 }
    ∷ record { name = size_name; value = number 1 } ∷ []

abbrev pub bound_before : List Named → Expr → Expr
bound_before bindings e = flow_or_body (needed bindings (in_body e)) e

-- `select` reads the focus of the query; content reads variables
abbrev pub form_value : Table → ValueForm → Option SeqType → Expr → Expr
form_value t (Select e) kind other =
    bound_before (document_item ∷ []) (converted kind (carried (setting_at t of_global) e focused))
form_value t (Body body) kind other = bound_before document_focus other
form_value t EmptyText kind other = other
form_value t EmptyList kind other = other
form_value t Required kind other = other

unfoldable pub global_value : Table → Value Expr Pattern → Option SeqType → Expr
global_value t value kind =
    form_value t (out-Value Expr Pattern value) kind (translated_value t value of_global kind)

-- a parameter comes from outside, with its type
abbrev pub global_variable : Table → Bool → Bound Expr Pattern → QueryVar
global_variable t true b = record { name = b.name; kind = b.kind; value = None }
global_variable t false b =
    record { name = b.name; kind = None; value = Some (global_value t b.value b.kind) }

abbrev pub variable_of_global : Table → Global → QueryVar
variable_of_global t g = global_variable t g.param g.bound
