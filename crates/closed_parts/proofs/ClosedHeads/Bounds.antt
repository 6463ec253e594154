-- Heads of variables, parameters and calls that break no rule, and instructions that hold none.
use Rattle.std.proofs.Common.{◌≡◌, ℕ, List, [], Bool, true, false, not, ◌&&◌, ◌||◌, Option, Some}
use Rattle.std.proofs.Common.{None, refl, ap, subst, codes}
use Rattle.std.proofs.lemmas.Bool.{and_from}
use Rattle.std.specs.Prelude.{is_some, is_none}
use Rattle.xt_names.specs.declared.codes.SheetStaticCode.TheVariants.{XTSE0010, XTSE0020, XTSE0620}
use Rattle.xt_syntax.specs.declared.exprs.Expr.{Expr}
use Rattle.xt_tree.specs.declared.attributes.Attribute.{Attribute}
use Rattle.closed_queries.specs.Closed.{is_good_kind}
use Rattle.closed_queries.specs.Texts.{is_sound_expr_name}
use Rattle.closed_sheets.specs.Values.{if_sheet_expr}
use Rattle.sheet_heads.specs.Attributes.{optional_faults, optional_value, needed_faults}
use Rattle.sheet_heads.specs.Attributes.{needed_value}
use Rattle.sheet_heads.specs.Bindings.{is_required, bound_faults, bound_value}
use Rattle.sheet_heads.specs.Calls as call
use Rattle.sheet_heads.specs.Leaves.{selected_faults, selected_value}
use Rattle.sheet_heads.specs.Parts.{both_broken}
use Rattle.sheet_heads.specs.declared.bindings.BoundHead.{BoundHead}
use Rattle.sheet_heads.specs.declared.calls.CallHead.{CallHead}
use Rattle.closed_texts.specs.SheetLanguage.Language.{sheet_reading as reading, expr_faults, expr_value}
use Rattle.closed_texts.specs.SheetLanguage.Language.{type_faults, type_value}
use Rattle.sheet_table.specs.SheetNodes.Parts.{none_faults}
use Rattle.sheet_table.specs.declared.sheet_nodes.nodes.Node.{Node}
use Rattle.sheet_table.specs.Attributes.{attribute, has}
use Rattle.sheet_table.specs.Rules.{attribute_faults}
use Rattle.sheet_table.specs.declared.elements.XslElement.{XslElement}
use Rattle.sheet_table.specs.declared.elements.XslElement.TheVariants as element
use Rattle.sheet_values.specs.declared.sheet_texts.places.StaticContext.{StaticContext}
use Rattle.sheet_values.specs.Names.{declared_faults, qname_value}
use Rattle.sheet_values.specs.Rules.{broken}
use Rattle.sheet_closure.specs.StandingParts.Values.{if_expr_stands}
use Rattle.closed_texts.proofs.ClosedNames.Names.{declared_sound}
use Rattle.closed_parts.specs.ClosedHeads.Heads.{is_alone, is_good_bound_head, is_good_call_head}
use Rattle.closed_parts.specs.ClosedHeads.Heads.{call_head_stands}
use Rattle.closed_parts.specs.SoundNodes.Sound.{are_sound_nodes}
use Rattle.closed_parts.proofs.ClosedHeads.Heads.{alone}
use Rattle.closed_parts.proofs.ClosedHeads.Values.{GoodPlace, sound_place, not_broken, has_text, needed_expr}
use Rattle.closed_parts.proofs.ClosedHeads.Values.{optional_expr, optional_type, ClosedExpr}
use Rattle.closed_parts.proofs.ClosedHeads.Sorts.{sorts_closed}
use Rattle.xt_names.proofs.ListLemmas.{front_nil, back_nil}

-- where a value must be passed, there is neither `select` nor content
required_or : (p : StaticContext) (o : Option (List ℕ)) (required content : Bool)
    → (required && (is_some o || content)) ≡ false
    → (not required || (is_none (optional_value (expr_value p) o) && not content)) ≡ true
required_or p o false content h = refl
required_or p None true content h = ap not h
required_or p (Some text) true content h = absurd cc

module _ (p : StaticContext) where
  pub record ClosedBound (content : Bool) (h : BoundHead Expr) : Type 0 where
    pub good : is_good_bound_head h ≡ true
    pub stands : if_expr_stands p.in_group h.select ≡ true
    pub one : is_alone h.select content ≡ true
    pub required : (not h.required || (is_none h.select && not content)) ≡ true

  pub record ClosedCall (h : CallHead Expr) : Type 0 where
    pub good : is_good_call_head h ≡ true
    pub stands : call_head_stands p.in_group h ≡ true

module _ (p : StaticContext) (g : GoodPlace p) where
  name_sound : (o : Option (List ℕ)) → needed_faults (declared_faults XTSE0020 p.bound) o ≡ []
      → is_sound_expr_name (needed_value (qname_value p.bound) o) ≡ true
  name_sound None f = absurd cc
  name_sound (Some text) f = declared_sound XTSE0020 p.bound text (sound_place p g) f

  pub bound_closed : (e : XslElement) (attributes : List Attribute) (content : Bool)
      → bound_faults reading p e attributes content ≡ []
      → ClosedBound p content (bound_value reading p attributes)
  bound_closed e attributes content f =
      let select = attribute attributes (codes "select") in
      let kind = attribute attributes (codes "as") in
      let name = attribute attributes (codes "name") in
      let both = both_broken XTSE0620 attributes content in
      let must = broken XTSE0010
      (is_required attributes && (has attributes (codes "select") || content)) in
      let named = needed_faults (declared_faults XTSE0020 p.bound) name in
      let a = back_nil (attribute_faults e attributes) _ f in
      let b = back_nil both _ a in
      let c = back_nil must _ b in
      let d = back_nil named _ c in
      let x = optional_expr p g select (back_nil (optional_faults (type_faults p) kind) _ d) in
      let k = optional_type p g kind (front_nil (optional_faults (type_faults p) kind) _ d) in
      let n = name_sound name (front_nil named _ c) in
      let r = not_broken XTSE0010
      (is_required attributes && (has attributes (codes "select") || content))
      (front_nil must _ b) in
      record {
        good = and_from (is_sound_expr_name (needed_value (qname_value p.bound) name)) _ n
            (and_from (is_good_kind (optional_value (type_value p) kind)) _ k x.good);
        stands = x.stands;
        one = alone p XTSE0620 attributes content (front_nil both _ a);
        required = required_or p select (is_required attributes) content
            (subst (λ t. (is_required attributes && (t || content)) ≡ false)
            (has_text attributes (codes "select")) r);
      }

  apply_closed : (attributes : List Attribute) (front : List Node) → are_sound_nodes front ≡ true
      → call.apply_faults reading p attributes front ≡ []
      → ClosedCall p (call.apply_value reading p attributes front)
  apply_closed attributes front h f =
      let select = attribute attributes (codes "select") in
      let a = back_nil (optional_faults (expr_faults p) select) _ f in
      let b = back_nil (call.mode_faults p (attribute attributes (codes "mode"))) _ a in
      let x = optional_expr p g select (front_nil (optional_faults (expr_faults p) select) _ f) in
      let y = sorts_closed p g front h b in
      record {
        good = and_from (if_sheet_expr (optional_value (expr_value p) select)) _ x.good y.good;
        stands = and_from (if_expr_stands p.in_group (optional_value (expr_value p) select)) _
            x.stands y.stands;
      }

  own_called : (e : XslElement) (attributes : List Attribute) (front : List Node)
      → are_sound_nodes front ≡ true → call.own_faults reading p e attributes front ≡ []
      → ClosedCall p (call.own_value reading p e attributes front)
  own_called element.ApplyTemplates attributes front h f = apply_closed attributes front h f
  own_called element.ApplyImports attributes front h f = record { good = refl; stands = refl }
  own_called element.NextMatch attributes front h f = record { good = refl; stands = refl }
  own_called element.CallTemplate attributes front h f = record { good = refl; stands = refl }
  own_called _ attributes front h f = absurd cc

  pub call_closed : (e : XslElement) (attributes : List Attribute) (front : List Node)
      → are_sound_nodes front ≡ true → call.call_faults reading p e attributes front ≡ []
      → ClosedCall p (call.own_value reading p e attributes front)
  call_closed e attributes front h f =
      own_called e attributes front h (back_nil (attribute_faults e attributes) _ f)

  -- `select` of an instruction that holds none
  pub selected_closed : (e : XslElement) (attributes : List Attribute) (kids : List Node)
      → selected_faults reading p e attributes kids ≡ []
      → ClosedExpr p (selected_value reading p attributes)
  selected_closed e attributes kids f =
      let a = back_nil (attribute_faults e attributes) _ f in
      needed_expr p g (attribute attributes (codes "select")) (back_nil (none_faults kids) _ a)
