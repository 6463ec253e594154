-- Instructions that pass parameters, and those that hold no instructions.
use Rattle.std.proofs.Common.{◌≡◌, ℕ, ◌≤◌, List, [], ◌∷◌, map, Bool, true, false, not, refl, ap}
use Rattle.std.proofs.Common.{subst, ◌∙◌, arith}
use Rattle.std.proofs.lemmas.Bool.{and_parts, and_from}
use Rattle.std.specs.List.{list_all}
use Rattle.xt_names.specs.declared.codes.SheetStaticCode.TheVariants.{XTSE0670}
use Rattle.xt_forms.specs.Regular.{every}
use Rattle.xt_syntax.specs.declared.exprs.Expr.{Expr}
use Rattle.xt_syntax.specs.declared.patterns.Pattern.{Pattern}
use Rattle.xt_tree.specs.declared.attributes.Attribute.{Attribute}
use Rattle.xt_sheets.specs.declared.instrs.Bound.{Bound}
use Rattle.xt_sheets.specs.declared.instrs.Instr.TheOpen as form
use Rattle.xt_sheets.specs.declared.instrs.Instr.TheVariants as instr
use Rattle.xt_sheets.specs.declared.instrs.Instr.TheVariants.{rolls-Chars, rolls-CopyOf}
use Rattle.xt_sheets.specs.declared.instrs.Instr.TheVariants.{rolls-Sequence, rolls-Apply}
use Rattle.xt_sheets.specs.declared.instrs.Instr.TheVariants.{rolls-ApplyImports, rolls-NextMatch}
use Rattle.xt_sheets.specs.declared.instrs.Instr.TheVariants.{rolls-CallTemplate}
use Rattle.closed_sheets.specs.Instrs.{is_good_bound}
use Rattle.closed_sheets.specs.Values.{if_sheet_expr, is_good_sort}
use Rattle.name_rules.specs.Scopes.{names_differ}
use Rattle.closed_sheets.specs.SheetForms.InstrNest.{bound_nest_of}
use Rattle.sheet_heads.specs.Calls as call
use Rattle.sheet_heads.specs.Characters.{characters_value}
use Rattle.sheet_heads.specs.Leaves.{leaf_faults, selected_value}
use Rattle.sheet_heads.specs.declared.calls.CallHead.{CallHead}
use Rattle.sheet_heads.specs.declared.calls.CallHead.TheVariants as head
use Rattle.closed_parts.specs.SheetLanguage.Language.{sheet_reading as reading}
use Rattle.sheet_table.specs.declared.sheet_nodes.nodes.Node.{Node}
use Rattle.sheet_table.specs.declared.elements.XslElement.TheVariants as element
use Rattle.sheet_values.specs.SheetTexts.Places.{grouped}
use Rattle.sheet_values.specs.declared.sheet_texts.places.StaticContext.{StaticContext}
use Rattle.sheet_values.specs.Rules.{broken}
use Rattle.sheet_closure.specs.StandingParts.Bodies.{bound_stands, all_given, bound_names, is_given}
use Rattle.sheet_closure.specs.StandingParts.Values.{if_expr_stands, sort_stands}
use Rattle.closed_parts.specs.SoundNodes.Sound.{are_sound_nodes}
use Rattle.closed_parts.proofs.ClosedHeads.Values.{GoodPlace}
use Rattle.closed_parts.proofs.ClosedHeads.Bounds.{ClosedCall, selected_closed}
use Rattle.closed_parts.proofs.ClosedBodies.Forms.{Bounds, ClosedInstr, rolled}
use Rattle.closed_parts.proofs.ClosedBodies.Bounds.{ClosedBoundOf}
use Rattle.closed_parts.proofs.ClosedHeads.Nodes.{characters_text}
use Rattle.xt_names.specs.Lists.{greatest}

module _ (room : ℕ) where
  pub given : (grouped : Bool) (required : Bool) (b : Bound Expr Pattern)
      → ClosedBoundOf grouped room required b → required ≡ false
      → is_given (bound_stands b) grouped ≡ true
  given grouped required b c e =
      and_from (not (bound_stands b).value.required) _ (ap not (c.required_so ∙ e)) c.stands

  pub record ClosedPassed (grouped : Bool) (bs : Bounds) : Type 0 where
    pub good : every (map is_good_bound bs) ≡ true
    pub stands : all_given (map bound_stands bs) grouped ≡ true
    pub nests : greatest (map bound_nest_of bs) ≤ room

  pub record ClosedOne (grouped : Bool) (b : Bound Expr Pattern) : Type 0 where
    pub good : is_good_bound b ≡ true
    pub stands : is_given (bound_stands b) grouped ≡ true
    pub nests : bound_nest_of b ≤ room

  pub and_passed : (grouped : Bool) (b : Bound Expr Pattern) (bs : Bounds) → ClosedOne grouped b
      → ClosedPassed grouped bs → ClosedPassed grouped (b ∷ bs)
  and_passed grouped b bs c d =
      let x = c.nests in
      let y = d.nests in
      record {
        good = and_from (is_good_bound b) _ c.good d.good;
        stands = and_from (is_given (bound_stands b) grouped) _ c.stands d.stands;
        nests = omega (arith, x, y);
      }

  pub with_passed_made : (p : StaticContext) (h : CallHead Expr) (bs : Bounds) → ClosedCall p h
      → ClosedPassed p.in_group bs → names_differ (bound_names (map bound_stands bs)) ≡ true
      → ClosedInstr p.in_group room false (call.with_passed h bs)
  with_passed_made p (head.Apply select mode sorts) bs c b d =
      let g = and_parts (if_sheet_expr select) (list_all is_good_sort sorts) c.good in
      let s = and_parts (if_expr_stands p.in_group select) (list_all (sort_stands p.in_group) sorts)
      c.stands in
      subst (ClosedInstr p.in_group room false) (rolls-Apply select mode sorts bs)
      (rolled p.in_group room false (form.Apply select mode sorts bs)
      (and_from (if_sheet_expr select) _ g.0
      (and_from (list_all is_good_sort sorts) _ g.1 b.good))
      (and_from (if_expr_stands p.in_group select) _ s.0
      (and_from (list_all (sort_stands p.in_group) sorts) _ s.1
      (and_from (names_differ (bound_names (map bound_stands bs))) _ d b.stands))) b.nests refl)
  with_passed_made p head.ApplyImports bs c b d =
      subst (ClosedInstr p.in_group room false) (rolls-ApplyImports bs)
      (rolled p.in_group room false (form.ApplyImports bs) b.good
      (and_from (names_differ (bound_names (map bound_stands bs))) _ d b.stands) b.nests refl)
  with_passed_made p head.NextMatch bs c b d =
      subst (ClosedInstr p.in_group room false) (rolls-NextMatch bs)
      (rolled p.in_group room false (form.NextMatch bs) b.good
      (and_from (names_differ (bound_names (map bound_stands bs))) _ d b.stands) b.nests refl)
  with_passed_made p (head.Template number) bs c b d =
      subst (ClosedInstr p.in_group room false) (rolls-CallTemplate number bs)
      (rolled p.in_group room false (form.CallTemplate number bs) b.good
      (and_from (names_differ (bound_names (map bound_stands bs))) _ d b.stands) b.nests refl)

  pub differ : (b : Bool) → broken XTSE0670 (not b) ≡ [] → b ≡ true
  differ true e = refl
  differ false e = absurd cc

  -- instructions that hold none
  pub text_made : (p : StaticContext) (kids : List Node) → are_sound_nodes kids ≡ true
      → ClosedInstr p.in_group room false (instr.Chars (characters_value kids))
  text_made p kids k =
      subst (ClosedInstr p.in_group room false) (rolls-Chars (characters_value kids))
      (rolled p.in_group room false (form.Chars (characters_value kids)) (characters_text kids k)
      refl (omega arith) refl)

  pub copy_of_made : (p : StaticContext) (attributes : List Attribute) (kids : List Node) → GoodPlace p
      → leaf_faults reading p element.CopyOf attributes kids ≡ []
      → ClosedInstr p.in_group room false (instr.CopyOf (selected_value reading p attributes))
  copy_of_made p attributes kids g f =
      let c = selected_closed p g element.CopyOf attributes kids f in
      subst (ClosedInstr p.in_group room false) (rolls-CopyOf (selected_value reading p attributes))
      (rolled p.in_group room false (form.CopyOf (selected_value reading p attributes)) c.good
      c.stands (omega arith) refl)

  pub sequence_made : (p : StaticContext) (attributes : List Attribute) (kids : List Node) → GoodPlace p
      → leaf_faults reading p element.Sequence attributes kids ≡ []
      → ClosedInstr p.in_group room false (instr.Sequence (selected_value reading p attributes))
  sequence_made p attributes kids g f =
      let c = selected_closed p g element.Sequence attributes kids f in
      subst (ClosedInstr p.in_group room false)
      (rolls-Sequence (selected_value reading p attributes))
      (rolled p.in_group room false (form.Sequence (selected_value reading p attributes)) c.good
      c.stands (omega arith) refl)
