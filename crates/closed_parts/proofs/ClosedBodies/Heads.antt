-- Instructions of heads that are closed, with what they hold.
use Rattle.std.proofs.Common.{◌≡◌, ℕ, ◌≤◌, [], map, length, Bool, true, false, ◌==◌, Option, Some}
use Rattle.std.proofs.Common.{None, refl, ap, subst}
use Rattle.std.proofs.lemmas.Bool.{and_parts, and_from}
use Rattle.std.specs.List.{list_all}
use Rattle.xt_syntax.specs.declared.exprs.Expr.{Expr}
use Rattle.xt_syntax.specs.declared.patterns.Pattern.{Pattern}
use Rattle.xt_sheets.specs.declared.instrs.Instr.TheOpen as form
use Rattle.xt_sheets.specs.declared.instrs.Instr.TheVariants.{rolls-ValueOf, rolls-Literal}
use Rattle.xt_sheets.specs.declared.instrs.Instr.TheVariants.{rolls-Element, rolls-Attribute}
use Rattle.xt_sheets.specs.declared.instrs.Instr.TheVariants.{rolls-Comment, rolls-Pi}
use Rattle.xt_sheets.specs.declared.instrs.Instr.TheVariants.{rolls-Document, rolls-Copy, rolls-If}
use Rattle.xt_sheets.specs.declared.instrs.Instr.TheVariants.{rolls-ForEach, rolls-ForEachGroup}
use Rattle.xt_sheets.specs.declared.instrs.Instr.TheVariants.{rolls-PerformSort}
use Rattle.closed_queries.specs.Texts.{is_sound_name}
use Rattle.closed_sheets.specs.Instrs.{is_good_body}
use Rattle.closed_sheets.specs.Values.{is_sheet_expr, if_sheet_expr, is_good_template}
use Rattle.closed_sheets.specs.Values.{if_good_template, is_good_name, is_good_attribute}
use Rattle.closed_sheets.specs.Values.{is_good_sort, is_good_grouping}
use Rattle.closed_sheets.specs.SheetForms.InstrNest.{body_nest_of}
use Rattle.sheet_heads.specs.Bodied.{with_body}
use Rattle.sheet_heads.specs.declared.bodied.Head.{Head}
use Rattle.sheet_heads.specs.declared.bodied.Head.TheVariants as head
use Rattle.sheet_values.specs.declared.sheet_texts.places.StaticContext.{StaticContext}
use Rattle.sheet_closure.specs.StandingParts.Bodies.{body_stands, instr_stands, is_one_source}
use Rattle.sheet_closure.specs.StandingParts.Calls.{expr_stands}
use Rattle.sheet_closure.specs.StandingParts.Values.{if_expr_stands, template_stands, if_template_stands}
use Rattle.sheet_closure.specs.StandingParts.Values.{attribute_stands, sort_stands, grouping_stands}
use Rattle.closed_parts.specs.ClosedHeads.Heads.{is_alone}
use Rattle.closed_parts.proofs.ClosedHeads.Heads.{ClosedHead}
use Rattle.closed_parts.proofs.ClosedBodies.Forms.{Instrs, ClosedInstr, rolled}

pub record ClosedBody (grouped : Bool) (room : ℕ) (body : Instrs) : Type 0 where
  pub good : is_good_body body ≡ true
  pub stands : body_stands body grouped ≡ true
  pub nests : body_nest_of body ≤ room

-- `select` and content do not stand beside each other
one_source : (select : Option Expr) (content : Bool) (body : Instrs)
    → is_alone select content ≡ true → (content ≡ false → body ≡ [])
    → is_one_source select (map instr_stands body) ≡ true
one_source None content body h e = refl
one_source (Some x) true body h e = absurd cc
one_source (Some x) false body h e = ap (λ (b : Instrs). length (map instr_stands b) == 0) (e refl)

-- where the content of an instruction stands
abbrev pub inside : Head Expr Pattern → Bool → Bool
inside (head.ForEachGroup select grouping sorts) grouped = true
inside h grouped = grouped

module _ (p : StaticContext) (room : ℕ) (content : Bool) where
  abbrev Made : Head Expr Pattern → Instrs → Type 0
  Made h body = ClosedInstr p.in_group room false (with_body h body)

  pub with_closed : (h : Head Expr Pattern) (body : Instrs) → ClosedHead p content h
      → ClosedBody (inside h p.in_group) room body → (content ≡ false → body ≡ []) → Made h body
  with_closed (head.ValueOf select separator) body c b e =
      let g = and_parts (if_sheet_expr select) (if_good_template separator) c.good in
      let s = and_parts (if_expr_stands p.in_group select) (if_template_stands p.in_group separator)
      c.stands in
      subst (ClosedInstr p.in_group room false) (rolls-ValueOf select body separator)
      (rolled p.in_group room false (form.ValueOf select body separator)
      (and_from (if_sheet_expr select) _ g.0 (and_from (is_good_body body) _ b.good g.1))
      (and_from (is_one_source select (map instr_stands body)) _
      (one_source select content body c.one e)
      (and_from (if_expr_stands p.in_group select) _ s.0
      (and_from (if_template_stands p.in_group separator) _ s.1 b.stands))) b.nests refl)
  with_closed (head.Literal name attributes) body c b e =
      let g = and_parts (is_sound_name name) (list_all is_good_attribute attributes) c.good in
      subst (ClosedInstr p.in_group room false) (rolls-Literal name attributes body)
      (rolled p.in_group room false (form.Literal name attributes body)
      (and_from (is_sound_name name) _ g.0
      (and_from (list_all is_good_attribute attributes) _ g.1 b.good))
      (and_from (list_all (attribute_stands p.in_group) attributes) _ c.stands b.stands) b.nests
      refl)
  with_closed (head.Element name) body c b e =
      subst (ClosedInstr p.in_group room false) (rolls-Element name body)
      (rolled p.in_group room false (form.Element name body)
      (and_from (is_good_name name) _ c.good b.good)
      (and_from (template_stands p.in_group name.text) _ c.stands b.stands) b.nests refl)
  with_closed (head.Attribute name select separator) body c b e =
      let g = and_parts (is_good_name name) _ c.good in
      let h = and_parts (if_sheet_expr select) (if_good_template separator) g.1 in
      let s = and_parts (template_stands p.in_group name.text) _ c.stands in
      let t = and_parts (if_expr_stands p.in_group select) (if_template_stands p.in_group separator)
      s.1 in
      subst (ClosedInstr p.in_group room false) (rolls-Attribute name select body separator)
      (rolled p.in_group room false (form.Attribute name select body separator)
      (and_from (is_good_name name) _ g.0 (and_from (if_sheet_expr select) _ h.0
      (and_from (is_good_body body) _ b.good h.1)))
      (and_from (is_one_source select (map instr_stands body)) _
      (one_source select content body c.one e)
      (and_from (template_stands p.in_group name.text) _ s.0
      (and_from (if_expr_stands p.in_group select) _ t.0
      (and_from (if_template_stands p.in_group separator) _ t.1 b.stands)))) b.nests refl)
  with_closed (head.Comment select) body c b e =
      subst (ClosedInstr p.in_group room false) (rolls-Comment select body)
      (rolled p.in_group room false (form.Comment select body)
      (and_from (if_sheet_expr select) _ c.good b.good)
      (and_from (is_one_source select (map instr_stands body)) _
      (one_source select content body c.one e)
      (and_from (if_expr_stands p.in_group select) _ c.stands b.stands)) b.nests refl)
  with_closed (head.Pi name select) body c b e =
      let g = and_parts (is_good_template name) (if_sheet_expr select) c.good in
      let s = and_parts (template_stands p.in_group name) (if_expr_stands p.in_group select)
      c.stands in
      subst (ClosedInstr p.in_group room false) (rolls-Pi name select body)
      (rolled p.in_group room false (form.Pi name select body)
      (and_from (is_good_template name) _ g.0 (and_from (if_sheet_expr select) _ g.1 b.good))
      (and_from (is_one_source select (map instr_stands body)) _
      (one_source select content body c.one e)
      (and_from (template_stands p.in_group name) _ s.0
      (and_from (if_expr_stands p.in_group select) _ s.1 b.stands))) b.nests refl)
  with_closed head.Document body c b e =
      subst (ClosedInstr p.in_group room false) (rolls-Document body)
      (rolled p.in_group room false (form.Document body) b.good b.stands b.nests refl)
  with_closed head.Copy body c b e =
      subst (ClosedInstr p.in_group room false) (rolls-Copy body)
      (rolled p.in_group room false (form.Copy body) b.good b.stands b.nests refl)
  with_closed (head.If condition) body c b e =
      subst (ClosedInstr p.in_group room false) (rolls-If condition body)
      (rolled p.in_group room false (form.If condition body)
      (and_from (is_sheet_expr condition) _ c.good b.good)
      (and_from (expr_stands p.in_group condition) _ c.stands b.stands) b.nests refl)
  with_closed (head.ForEach select sorts) body c b e =
      let g = and_parts (is_sheet_expr select) (list_all is_good_sort sorts) c.good in
      let s = and_parts (expr_stands p.in_group select) (list_all (sort_stands p.in_group) sorts)
      c.stands in
      subst (ClosedInstr p.in_group room false) (rolls-ForEach select sorts body)
      (rolled p.in_group room false (form.ForEach select sorts body)
      (and_from (is_sheet_expr select) _ g.0
      (and_from (list_all is_good_sort sorts) _ g.1 b.good))
      (and_from (expr_stands p.in_group select) _ s.0
      (and_from (list_all (sort_stands p.in_group) sorts) _ s.1 b.stands)) b.nests refl)
  with_closed (head.ForEachGroup select grouping sorts) body c b e =
      let g = and_parts (is_sheet_expr select) _ c.good in
      let h = and_parts (is_good_grouping grouping) (list_all is_good_sort sorts) g.1 in
      let s = and_parts (expr_stands p.in_group select) _ c.stands in
      let t = and_parts (grouping_stands p.in_group grouping) (list_all (sort_stands true) sorts)
      s.1 in
      subst (ClosedInstr p.in_group room false) (rolls-ForEachGroup select grouping sorts body)
      (rolled p.in_group room false (form.ForEachGroup select grouping sorts body)
      (and_from (is_sheet_expr select) _ g.0 (and_from (is_good_grouping grouping) _ h.0
      (and_from (list_all is_good_sort sorts) _ h.1 b.good)))
      (and_from (expr_stands p.in_group select) _ s.0
      (and_from (grouping_stands p.in_group grouping) _ t.0
      (and_from (list_all (sort_stands true) sorts) _ t.1 b.stands))) b.nests refl)
  with_closed (head.PerformSort select sorts) body c b e =
      let g = and_parts (if_sheet_expr select) (list_all is_good_sort sorts) c.good in
      let s = and_parts (if_expr_stands p.in_group select) (list_all (sort_stands p.in_group) sorts)
      c.stands in
      subst (ClosedInstr p.in_group room false) (rolls-PerformSort select sorts body)
      (rolled p.in_group room false (form.PerformSort select sorts body)
      (and_from (if_sheet_expr select) _ g.0
      (and_from (list_all is_good_sort sorts) _ g.1 b.good))
      (and_from (is_one_source select (map instr_stands body)) _
      (one_source select content body c.one e)
      (and_from (if_expr_stands p.in_group select) _ s.0
      (and_from (list_all (sort_stands p.in_group) sorts) _ s.1 b.stands))) b.nests refl)
