-- What small stylesheets make of small documents, with so many calls: the tree and the next number.
use Rattle.std.specs.Prelude.{◌≡◌, ℕ, pos, List, [], ◌∷◌, true, false, Option, Some, None, codes}
use Rattle.xt_names.specs.declared.codes.Code.TheVariants.{SheetDynamic}
use Rattle.xt_names.specs.declared.codes.SheetDynamicCode.TheVariants.{XTDE0410, XTDE0560, XTTE0520}
use Rattle.xt_names.specs.declared.codes.SheetDynamicCode.TheVariants.{XTDE0700}
use Rattle.xt_names.specs.declared.names.ExprName.{ExprName}
use Rattle.xt_types.specs.declared.axes.Axis.TheVariants.{Child}
use Rattle.xt_types.specs.declared.node_tests.NameTest.TheVariants.{Any}
use Rattle.xt_types.specs.declared.node_tests.Test.TheVariants as test
use Rattle.xt_tree.specs.Forest.{Forest, elem, end, text}
use Rattle.xt_tree.specs.declared.attributes.Attribute.{Attribute}
use Rattle.xt_tree.specs.declared.trees.Tree.{Tree}
use Rattle.xt_tree.specs.declared.trees.Tree.TheVariants.{Doc}
use Rattle.xt_syntax.specs.declared.exprs.Clause.TheOpen.{Call, Step}
use Rattle.xt_syntax.specs.declared.exprs.Clause.TheViews.{roll-Expr}
use Rattle.xt_syntax.specs.declared.exprs.Expr.{Expr}
use Rattle.xt_sheets.specs.declared.instrs.Instr.TheOpen.{Literal, Chars, Attribute as AttributeOf}
use Rattle.xt_sheets.specs.declared.instrs.Instr.TheOpen.{ApplyImports, NextMatch, Apply, ValueOf}
use Rattle.xt_sheets.specs.declared.instrs.Instr.TheOpen.{CallTemplate, Select, EmptyText, EmptyList}
use Rattle.xt_sheets.specs.declared.instrs.Instr.TheOpen.{ForEach, ForEachGroup, If, Required, Sequence}
use Rattle.xt_sheets.specs.declared.sheets.Sheet.{Sheet}
use Rattle.xt_sheets.specs.declared.values.Grouping.TheVariants.{By}
use Rattle.xt_sheets.specs.declared.values.ModeUse.TheVariants.{Number}
use Rattle.xt_sheets.specs.declared.values.Sort.{Sort}
use Rattle.expr_meaning.specs.Outcomes.Outcome.{Outcome, Ends, Fails, Deep}
use Rattle.transform_meaning.specs.Sheets.{transform_outcome}
use Rattle.transform_rows.specs.Samples.{BoundForm, ExprForm, InstrForm, TheBound, TheInstr, a, a_b_c, a_with_b, bind_it}
use Rattle.transform_rows.specs.Samples.{bound_to, called, computed, do_it, dot, element, elements}
use Rattle.transform_rows.specs.Samples.{for_name, matched, named, only, plain, r, root_rule}
use Rattle.transform_rows.specs.Samples.{rule_for, run, sheet, t, string, x_var}

abbrev pub Gives : Sheet → Tree → ℕ → Outcome Tree → Type 0
Gives s document calls o = transform_outcome (run s document) calls ≡ o

abbrev pub chars : List ℕ → InstrForm
chars x = Chars x

abbrev pub literal_r : List TheInstr → InstrForm
literal_r body = Literal (plain (codes "r")) [] body

abbrev pub r_of : List Attribute → Forest → Tree
r_of attributes kids = Doc (elem (plain (codes "r")) attributes kids end)

-- <xsl:attribute name="..">..</xsl:attribute>
abbrev pub attribute : List ℕ → List ℕ → InstrForm
attribute local value = AttributeOf (computed local) (Some (string value)) [] None

abbrev pub attribute_of : List ℕ → List ℕ → Attribute
attribute_of local value = record { name = plain local; value = value }

-- [<xsl:..>], with the instruction within
abbrev pub bracketed : InstrForm → List TheInstr
bracketed x = do_it (chars (codes "[")) ∷ do_it x ∷ do_it (chars (codes "]")) ∷ []

abbrev pub value_of : Expr → InstrForm
value_of e = ValueOf (Some e) [] None

-- two rules with one pattern
abbrev pub twice : Sheet
twice =
    t (rule_for 0 (for_name (codes "a")) 1 (pos 0) ∷ rule_for 1 (for_name (codes "a")) 1 (pos 0) ∷ [])
    (matched (do_it (chars (codes "1")) ∷ []) ∷ matched (do_it (chars (codes "2")) ∷ []) ∷ [])

-- the imported rule has the greater priority
abbrev pub imported : InstrForm → Sheet
imported next =
    sheet (record { first = 1 } ∷ record { first = 1 } ∷ [])
    (rule_for 0 (for_name (codes "a")) 1 (pos 10000) ∷ rule_for 1 Any 2 (pos 0) ∷ [])
    (matched (do_it (chars (codes "m")) ∷ []) ∷ matched (bracketed next) ∷ [])

-- x.xsl is imported before, not into, the module of the current rule
abbrev pub beside : Sheet
beside =
    sheet
    (record { first = 1 } ∷ record { first = 2 } ∷ record { first = 3 } ∷ record { first = 2 }
    ∷ record { first = 1 } ∷ [])
    (rule_for 0 (for_name (codes "a")) 1 (pos 0) ∷ rule_for 1 (for_name (codes "z")) 2 (pos 0)
    ∷ rule_for 2 (for_name (codes "z")) 3 (pos 0) ∷ rule_for 3 (for_name (codes "a")) 4 (pos 0) ∷ [])
    (matched (do_it (chars (codes "X")) ∷ []) ∷ matched [] ∷ matched []
    ∷ matched (bracketed (ApplyImports [])) ∷ [])

-- <a>t</a>
abbrev pub a_with_t : Tree
a_with_t = Doc (element (codes "a") (text (codes "t") end) end)

-- an empty list that is passed replaces what is the default
abbrev pub default_d : TheBound
default_d = bind_it (bound_to (Select (string (codes "d"))) false)

abbrev pub empty_x : TheBound
empty_x = bind_it (bound_to EmptyList false)

abbrev pub call_n : List TheBound → InstrForm
call_n passed = CallTemplate 1 passed

abbrev pub calling : TheBound → Sheet
calling param =
    t (root_rule 0 ∷ [])
    (matched (do_it (call_n []) ∷ do_it (chars (codes ",")) ∷ do_it (call_n (empty_x ∷ [])) ∷ [])
    ∷ called (param ∷ []) (do_it (value_of x_var) ∷ []) ∷ [])

abbrev pub apply : Option Expr → List (Sort Expr) → List TheBound → InstrForm
apply select sorts passed = Apply select (Number 0) sorts passed

-- a required parameter that is not passed
abbrev pub requiring : Sheet
requiring =
    t (root_rule 0 ∷ rule_for 1 (for_name (codes "a")) 1 (pos 0) ∷ [])
    (matched (do_it (apply None [] []) ∷ [])
    ∷ record (matched []) { params = bind_it (bound_to Required false) ∷ [] } ∷ [])

-- a function that calls itself once more where its argument is no empty text
abbrev pub go_name : ExprName
go_name = record { uri = codes "f"; local = codes "go" }

abbrev pub go_on : List ℕ → ExprForm
go_on x = Call go_name (string x ∷ [])

abbrev pub if_x : InstrForm
if_x = If x_var (do_it (Sequence (roll-Expr (go_on []))) ∷ [])

abbrev pub going : Sheet
going = record (r (do_it (Sequence (roll-Expr (go_on (codes "1")))) ∷ [])) {
  functions = record {
    name = go_name;
    params = bind_it (bound_to Required false) ∷ [];
    kind = None;
    body = do_it if_x ∷ [];
  } ∷ [];
}

-- in xsl:for-each there is no current rule
abbrev pub in_each : InstrForm
in_each = ForEach dot [] (do_it (ApplyImports []) ∷ [])

-- a tunnel parameter goes through built-in rules
abbrev pub seven : BoundForm
seven = bound_to (Select (string (codes "7"))) true

abbrev pub tunnel_x : BoundForm
tunnel_x = bound_to EmptyText true

abbrev pub through : Sheet
through =
    t (root_rule 0 ∷ rule_for 1 (for_name (codes "b")) 1 (pos 0) ∷ [])
    (matched (do_it (apply None [] (bind_it seven ∷ [])) ∷ [])
    ∷ record (matched (do_it (value_of x_var) ∷ [])) { params = bind_it tunnel_x ∷ [] } ∷ [])

-- order, groups and keys
abbrev pub by_dot : Sort Expr
by_dot = record { key = dot; descending = false; number = None }

abbrev pub all_below : Expr
all_below = roll-Expr (Step Child test.Node [])

abbrev pub fn_name : List ℕ → ExprName
fn_name local =
    record { uri = codes "http://www.w3.org/2005/xpath-functions"; local = local }

abbrev pub grouping_key : ExprForm
grouping_key = Call (fn_name (codes "current-grouping-key")) []

abbrev pub grouped : InstrForm
grouped =
    ForEachGroup all_below (By dot) []
    (do_it (chars (codes "-")) ∷ do_it (value_of (roll-Expr grouping_key)) ∷ [])

abbrev pub k_of_y : ExprForm
k_of_y =
    Call (fn_name (codes "key")) (string (codes "k") ∷ string (codes "y") ∷ [])

abbrev pub keyed : Sheet
keyed = record (r (do_it (value_of (roll-Expr k_of_y)) ∷ [])) {
  keys = record { name = named (codes "k"); pattern = elements Any; key = dot } ∷ [];
}

pub record Rows : Type 0 where
  pub literal_element : Gives (r (do_it (literal_r []) ∷ [])) a 1 (Ends (r_of [] end) 3)
  pub built_in : Gives (t [] []) a_with_b 4 (Ends (only (codes "xy")) 4)
  pub built_in_lacks_calls : Gives (t [] []) a_with_b 3 Deep
  pub later_rule : Gives twice a 2 (Ends (only (codes "2")) 3)
  pub higher_precedence : Gives (imported (Sequence dot)) a 2
      (Ends (Doc (text (codes "[") (element (codes "a") end (text (codes "]") end)))) 4)
  pub not_imported : Gives beside a_with_t 4 (Ends (only (codes "[t]")) 5)
  pub same_attribute_twice : Gives (r (do_it (literal_r (do_it (attribute (codes "k") (codes "1"))
      ∷ do_it (attribute (codes "j") (codes "2")) ∷ do_it (attribute (codes "k") (codes "3"))
      ∷ [])) ∷ [])) a 1
      (Ends (r_of (attribute_of (codes "j") (codes "2") ∷ attribute_of (codes "k") (codes "3") ∷ [])
      end) 6)
  pub attribute_behind_text : Gives (r (do_it (literal_r (do_it (chars (codes "t"))
      ∷ do_it (attribute (codes "k") (codes "1")) ∷ [])) ∷ [])) a 1 (Fails (SheetDynamic XTDE0410))
  pub attribute_behind_empty_text : Gives (r (do_it (literal_r (do_it (chars [])
      ∷ do_it (attribute (codes "k") (codes "1")) ∷ [])) ∷ [])) a 1
      (Ends (r_of (attribute_of (codes "k") (codes "1") ∷ []) end) 5)
  pub passed_empty_list : Gives (calling default_d) a 2 (Ends (only (codes "d,")) 5)
  pub required : Gives requiring a 2 (Fails (SheetDynamic XTDE0700))
  pub function_calls : Gives going a 3 (Ends (Doc end) 2)
  pub function_lacks_calls : Gives going a 2 Deep
  pub applied_to_atom : Gives (r (do_it (apply (Some (string (codes "1"))) [] []) ∷ [])) a 1
      (Fails (SheetDynamic XTTE0520))
  pub no_rule_in_loop : Gives (r (do_it in_each ∷ [])) a 1 (Fails (SheetDynamic XTDE0560))
  pub next_match : Gives (imported (NextMatch [])) a 3 (Ends (only (codes "[m]")) 5)
  pub apply_imports : Gives (imported (ApplyImports [])) a 3 (Ends (only (codes "[m]")) 5)
  pub tunnel : Gives through a_with_b 3 (Ends (only (codes "x7")) 4)
  pub sorted : Gives (r (do_it (apply None (by_dot ∷ []) []) ∷ [])) a_b_c 3
      (Ends (only (codes "xyy")) 5)
  pub groups : Gives (r (do_it grouped ∷ [])) a_b_c 1 (Ends (only (codes "-y-x")) 6)
  pub keys : Gives keyed a_b_c 1 (Ends (only (codes "y y")) 3)
