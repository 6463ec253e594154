-- Variables and parameters (XSLT 2.0, 9 and 10.1.1).
use Rattle.std.specs.Prelude.{ℕ, List, [], ◌∷◌, ◌++◌, Bool, true}
use Rattle.std.specs.Prelude.{false, ◌&&◌, ◌||◌, Option, Some, None, is_some, codes}
use Rattle.std.specs.Str.{bytes_eq}
use Rattle.xt_names.specs.declared.codes.Code.{Code}
use Rattle.xt_names.specs.declared.codes.SheetStaticCode.TheVariants.{XTSE0010, XTSE0020, XTSE0620}
use Rattle.xt_tree.specs.declared.attributes.Attribute.{Attribute}
use Rattle.xt_sheets.specs.declared.instrs.Instr.{Instr}
use Rattle.xt_sheets.specs.declared.instrs.Instr.TheViews.{roll-Bound}
use Rattle.xt_sheets.specs.declared.instrs.Bound.{Bound}
use Rattle.xt_sheets.specs.declared.instrs.Value.{Value}
use Rattle.xt_sheets.specs.declared.instrs.Value.TheVariants.{Select, Body}
use Rattle.xt_sheets.specs.declared.instrs.Value.TheVariants.{EmptyText, EmptyList, Required}
use Rattle.sheet_table.specs.declared.elements.XslElement.{XslElement}
use Rattle.sheet_table.specs.Attributes.{attribute, has}
use Rattle.sheet_table.specs.Rules.{attribute_faults}
use Rattle.sheet_values.specs.Rules.{broken}
use Rattle.sheet_values.specs.Names.{declared_faults, qname_value}
use Rattle.sheet_values.specs.declared.sheet_texts.places.StaticContext.{StaticContext}
use Rattle.sheet_values.specs.SheetTexts.Readings.{Reading}
use Rattle.sheet_heads.specs.Attributes.{optional_faults, optional_value}
use Rattle.sheet_heads.specs.Attributes.{needed_faults, needed_value}
use Rattle.sheet_heads.specs.Parts.{both_broken}
use Rattle.sheet_heads.specs.declared.bindings.BoundHead.{BoundHead}

unfoldable pub is_yes : Option (List ℕ) → Bool
is_yes None = false
is_yes (Some value) = bytes_eq value (codes "yes")

abbrev pub is_required : List Attribute → Bool
is_required attributes = is_yes (attribute attributes (codes "required"))

module _ {E P : Type 0} (r : Reading E P) (p : StaticContext) where
  -- the attributes are those of the table; `select` and content exclude each other, and a value
  -- that must be passed excludes both; the name is one of no reserved namespace
  abbrev pub bound_faults : XslElement → List Attribute → Bool → List Code
  bound_faults e attributes content =
      attribute_faults e attributes
      ++ (both_broken XTSE0620 attributes content
      ++ (broken XTSE0010 (is_required attributes && (has attributes (codes "select") || content))
      ++ (needed_faults (declared_faults XTSE0020 p.bound) (attribute attributes (codes "name"))
      ++ (optional_faults (r.type_faults p) (attribute attributes (codes "as"))
      ++ optional_faults (r.expr_faults p) (attribute attributes (codes "select"))))))

  abbrev pub bound_value : List Attribute → BoundHead E
  bound_value attributes = record {
    name = needed_value (qname_value p.bound) (attribute attributes (codes "name"));
    kind = optional_value (r.type_value p) (attribute attributes (codes "as"));
    select = optional_value (r.expr_value p) (attribute attributes (codes "select"));
    required = is_required attributes;
    tunnel = is_yes (attribute attributes (codes "tunnel"));
  }

-- 9.3: `select`, the content, or, where there is neither: nothing where a value must be passed, the
-- empty sequence where there is a type, and else the empty text
abbrev pub value_in : {E P : Type 0} → Option E → Bool → Bool → Bool → List (Instr E P) → Value E P
value_in (Some e) content required kind body = Select e
value_in None true required kind body = Body body
value_in None false true kind body = Required
value_in None false false true body = EmptyList
value_in None false false false body = EmptyText

module _ {E P : Type 0} where
  abbrev pub with_value : BoundHead E → Bool → List (Instr E P) → Bound E P
  with_value h content body = roll-Bound E P (record {
    name = h.name;
    kind = h.kind;
    value = value_in h.select content h.required (is_some h.kind) body;
    tunnel = h.tunnel;
  })
