-- Every instruction is carried where the ways out of it are related; where the relation is strict,
-- every one whose texts and names XML allows.
use Rattle.std.proofs.Common.{◌≡◌, ◌∙◌, List, [], ◌∷◌, map, refl, sym, ap}
use Rattle.std.specs.Prelude.{Bool, ◌&&◌, Option, None}
use Rattle.std.specs.List.{list_all}
use Rattle.xt_forms.specs.Regular.{every}
use Rattle.xt_types.specs.declared.types.SeqType.{SeqType}
use Rattle.xt_syntax.specs.declared.exprs.Expr.{Expr}
use Rattle.xt_syntax.specs.declared.patterns.Pattern.{Pattern}
use Rattle.xt_sheets.specs.declared.instrs.Instr.TheFolds.{map-Instr, map-Value, map-Bound, map-When}
use Rattle.xt_sheets.specs.declared.instrs.Instr.TheFolds.{ind-Instr, ind-Bound}
use Rattle.xt_sheets.specs.declared.instrs.Instr.TheViews.{roll-Instr, roll-Value, roll-Bound}
use Rattle.xt_sheets.specs.declared.instrs.Instr.TheViews.{roll-When}
use Rattle.xt_sheets.specs.declared.instrs.Instr.TheOpen.{Chars, ValueOf, Literal, Element}
use Rattle.xt_sheets.specs.declared.instrs.Instr.TheOpen.{Attribute, Comment, Pi, Document, Copy}
use Rattle.xt_sheets.specs.declared.instrs.Instr.TheOpen.{CopyOf, Sequence, If, Choose, ForEach}
use Rattle.xt_sheets.specs.declared.instrs.Instr.TheOpen.{ForEachGroup, PerformSort, Variable}
use Rattle.xt_sheets.specs.declared.instrs.Instr.TheOpen.{Apply, ApplyImports, NextMatch}
use Rattle.xt_sheets.specs.declared.instrs.Instr.TheOpen.{CallTemplate, Select, Body, EmptyText}
use Rattle.xt_sheets.specs.declared.instrs.Instr.TheOpen.{EmptyList, Required}
use Rattle.xt_sheets.specs.declared.sheets.Sheet.{Sheet}
use Rattle.xt_sheets.specs.Layers.{Kinds, InstrLayer, ValueLayer, BoundLayer, WhenLayer}
use Rattle.closed_queries.specs.Closed.{is_good_kind}
use Rattle.closed_queries.specs.Texts.{is_sound_expr_name, is_sound_name as is_name}
use Rattle.closed_sheets.specs.Instrs.{goods, good_steps, is_good_body, is_good_bound}
use Rattle.closed_sheets.specs.Instrs.{is_good_bound_value, is_good_instr, is_good_when}
use Rattle.closed_sheets.specs.Values.{if_good_template, if_sheet_expr, is_good_attribute}
use Rattle.closed_sheets.specs.Values.{is_good_grouping, is_good_name, is_good_sort}
use Rattle.closed_sheets.specs.Values.{is_good_template, is_sheet_expr}
use Rattle.rule_order.specs.Rules.{best_below, best_imported}
use Rattle.expr_meaning.specs.Env.{Meaning}
use Rattle.expr_laws.specs.Carrier.{Carrier, IsMade}
use Rattle.expr_laws.proofs.Logic.{ArmsMeet, choice_meets, either_meets}
use Rattle.expr_laws.proofs.Values.{just_meets}
use Rattle.transform_meaning.specs.Bindings.{body_of}
use Rattle.transform_meaning.specs.Dispatch.{Doors}
use Rattle.transform_meaning.specs.Instrs.{bound_does, body_does, instr_does, meanings, steps}
use Rattle.transform_meaning.specs.Instrs.{value_does, when_does}
use Rattle.transform_laws.specs.Meets.{AreSheetPlaces, DoorsMeet, MeaningsMeet, SheetsMake}
use Rattle.transform_laws.proofs.Bindings.{BoundMeets, DoingMeets, body_meets, content_meets}
use Rattle.transform_laws.proofs.Bindings.{converted_meets, empty_text_meets, nothing_meets}
use Rattle.transform_laws.proofs.Bindings.{own_meets}
use Rattle.transform_laws.proofs.Dispatch.{overridden_meets, apply_meets, call_meets}
use Rattle.transform_laws.proofs.Grouping.{each_group_meets}
use Rattle.transform_laws.proofs.Lists.{IfBoth, Pairs}
use Rattle.transform_laws.proofs.Making.{attribute_meets, comment_meets, copy_meets, copy_of_meets}
use Rattle.transform_laws.proofs.Making.{document_meets, element_meets, literal_meets, pi_meets}
use Rattle.transform_laws.proofs.Making.{text_meets, value_meets}
use Rattle.transform_laws.proofs.Rolled.{TheBound, TheInstr, TheValue, TheWhen, BoundForm, InstrForm}
use Rattle.transform_laws.proofs.Rolled.{ValueForm, WhenForm, bound_rolled}
use Rattle.transform_laws.proofs.Rolled.{instr_mapped, instr_rolled, value_mapped, value_rolled}
use Rattle.transform_laws.proofs.Rolled.{when_rolled}
use Rattle.transform_laws.proofs.Sorting.{each_meets, sorted_meets}
use Rattle.transform_laws.proofs.Texts.{source_meets, source_text_meets}
use Rattle.transform_laws.proofs.Values.{Asked, attribute_name_means_meet, attributes_meet}
use Rattle.transform_laws.proofs.Values.{element_name_means_meet, expr_meets, first}
use Rattle.transform_laws.proofs.Values.{grouping_meets, name_known, second, select_meets}
use Rattle.transform_laws.proofs.Values.{separator_meets, sorts_meet, target_means_meet}

module _ (c : Carrier) (makes : IsMade c) (sheets : SheetsMake c) (places : AreSheetPlaces c)
    (sheet : Sheet) (d b : Doors) (doors : DoorsMeet c d b) where
  abbrev InstrOf : TheInstr → Type 0
  InstrOf x = Asked c (is_good_instr x) → DoingMeets c (instr_does sheet d x) (instr_does sheet b x)

  abbrev ValueIs : TheValue → Type 0
  ValueIs x = Asked c (is_good_bound_value x) → (kind : Option SeqType) →
      IfBoth (MeaningsMeet c) (value_does sheet d x kind) (value_does sheet b x kind)

  abbrev BoundOf : TheBound → Type 0
  BoundOf x = Asked c (is_good_bound x) → BoundMeets c (bound_does sheet d x) (bound_does sheet b x)

  abbrev WhenOf : TheWhen → Type 0
  WhenOf x = Asked c (is_good_when x) →
      MeaningsMeet c (when_does sheet d x).0 (when_does sheet b x).0
      × MeaningsMeet c (when_does sheet d x).1 (when_does sheet b x).1

  -- parts, each with what is known of it
  abbrev known : Kinds
  known = record {
    Instrs = (x : TheInstr) × InstrOf x;
    Values = (x : TheValue) × ValueIs x;
    Bounds = (x : TheBound) × BoundOf x;
    Whens = (x : TheWhen) × WhenOf x;
  }

  -- lists of parts
  instrs_meet : (ys : List known.Instrs) →
      Asked c (every (map is_good_instr (map (λ y. y.0) ys))) →
      Pairs (DoingMeets c) (map (instr_does sheet d) (map (λ y. y.0) ys))
      (map (instr_does sheet b) (map (λ y. y.0) ys))
  instrs_meet [] h = tt
  instrs_meet (y ∷ ys) h =
      let t = is_good_instr y.0 in let u = every (map is_good_instr (map (λ y. y.0) ys)) in
      (y.1 (first c t u h), instrs_meet ys (second c t u h))

  bounds_meet : (ys : List known.Bounds) →
      Asked c (every (map is_good_bound (map (λ y. y.0) ys))) →
      Pairs (BoundMeets c) (map (bound_does sheet d) (map (λ y. y.0) ys))
      (map (bound_does sheet b) (map (λ y. y.0) ys))
  bounds_meet [] h = tt
  bounds_meet (y ∷ ys) h =
      let t = is_good_bound y.0 in let u = every (map is_good_bound (map (λ y. y.0) ys)) in
      (y.1 (first c t u h), bounds_meet ys (second c t u h))

  whens_meet : (ys : List known.Whens) →
      Asked c (every (map is_good_when (map (λ y. y.0) ys))) →
      ArmsMeet c c.inner (map (when_does sheet d) (map (λ y. y.0) ys))
      (map (when_does sheet b) (map (λ y. y.0) ys))
  whens_meet [] h = tt
  whens_meet (y ∷ ys) h =
      let t = is_good_when y.0 in let u = every (map is_good_when (map (λ y. y.0) ys)) in
      (y.1 (first c t u h), whens_meet ys (second c t u h))

  abbrev all_good : List known.Instrs → Bool
  all_good ys = every (map is_good_instr (map (λ y. y.0) ys))

  abbrev content : Doors → List known.Instrs → Meaning
  content o ys = body_of (map (instr_does sheet o) (map (λ y. y.0) ys))

  content_meet : (ys : List known.Instrs) → Asked c (all_good ys) →
      MeaningsMeet c (content d ys) (content b ys)
  content_meet ys h =
      body_meets c places.alike (map (instr_does sheet d) (map (λ y. y.0) ys))
      (map (instr_does sheet b) (map (λ y. y.0) ys)) (instrs_meet ys h)

  abbrev plain_instr : InstrLayer Expr Pattern known → InstrForm
  plain_instr =
      map-Instr Expr Pattern known.Instrs known.Values known.Bounds known.Whens TheInstr TheValue
      TheBound TheWhen (λ y. y.0) (λ y. y.0) (λ y. y.0) (λ y. y.0)

  -- what is asked of an instruction, and what it does
  abbrev instr_asked : InstrForm → Bool
  instr_asked x = good_steps.of_instr (instr_mapped goods good_steps x)

  abbrev does : Doors → InstrForm → meanings.Instrs
  does o x = (steps sheet o).of_instr (instr_mapped meanings (steps sheet o) x)

  instr_meets : (y : InstrLayer Expr Pattern known) → Asked c (instr_asked (plain_instr y)) →
      DoingMeets c (does d (plain_instr y)) (does b (plain_instr y))
  instr_meets (Chars text) h = text_meets c makes sheets text h
  instr_meets (ValueOf select body separator) h =
      let t = if_sheet_expr select in let u = all_good body in let v = if_good_template separator in
      let r = second c t (u && v) h in
      value_meets c makes sheets _ _ (source_text_meets c sheets _ _
      (select_meets c places.alike makes sheets _ _ doors.programs select (first c t (u && v) h)) _ _
      (content_meet body (first c u v r)) _ _
      (separator_meets c places.alike makes sheets _ _ doors.programs separator (second c u v r)))
  instr_meets (Literal name attrs body) h =
      let t = is_name name in let u = list_all is_good_attribute attrs in let v = all_good body in
      let r = second c t (u && v) h in
      literal_meets c makes sheets name (name_known c name (first c t (u && v) h)) _ _
      (attributes_meet c places.alike makes sheets _ _ doors.programs attrs (first c u v r)) _ _
      (content_meet body (second c u v r))
  instr_meets (Element name body) h =
      let t = is_good_name name in let u = all_good body in
      element_meets c makes sheets _ _
      (element_name_means_meet c places.alike makes sheets _ _ doors.programs name (first c t u h)) _ _
      (content_meet body (second c t u h))
  instr_meets (Attribute name select body separator) h =
      let t = is_good_name name in let u = if_sheet_expr select in let v = all_good body in
      let w = if_good_template separator in
      let r = second c t (u && (v && w)) h in let o = second c u (v && w) r in
      attribute_meets c makes sheets _ _
      (attribute_name_means_meet c places.alike makes sheets _ _ doors.programs name
      (first c t (u && (v && w)) h)) _ _
      (source_text_meets c sheets _ _
      (select_meets c places.alike makes sheets _ _ doors.programs select (first c u (v && w) r)) _ _
      (content_meet body (first c v w o)) _ _
      (separator_meets c places.alike makes sheets _ _ doors.programs separator (second c v w o)))
  instr_meets (Comment select body) h =
      let t = if_sheet_expr select in let u = all_good body in
      comment_meets c makes sheets _ _ (source_text_meets c sheets _ _
      (select_meets c places.alike makes sheets _ _ doors.programs select (first c t u h)) _ _
      (content_meet body (second c t u h)) None None tt)
  instr_meets (Pi name select body) h =
      let t = is_good_template name in let u = if_sheet_expr select in let v = all_good body in
      let r = second c t (u && v) h in
      pi_meets c makes sheets _ _
      (target_means_meet c places.alike makes sheets _ _ doors.programs name (first c t (u && v) h)) _ _
      (source_text_meets c sheets _ _
      (select_meets c places.alike makes sheets _ _ doors.programs select (first c u v r)) _ _
      (content_meet body (second c u v r)) None None tt)
  instr_meets (Document body) h = document_meets c makes sheets _ _ (content_meet body h)
  instr_meets (Copy body) h =
      copy_meets c makes sheets (places.alike.focus c.inner) _ _ (content_meet body h)
  instr_meets (CopyOf e) h =
      copy_of_meets c makes sheets _ _ (expr_meets c places.alike makes sheets _ _ doors.programs e h)
  instr_meets (Sequence e) h = expr_meets c places.alike makes sheets _ _ doors.programs e h
  instr_meets (If condition body) h =
      let t = is_sheet_expr condition in let u = all_good body in
      either_meets c c.inner _ _ _ _ _ _
      (expr_meets c places.alike makes sheets _ _ doors.programs condition (first c t u h))
      (content_meet body (second c t u h)) (nothing_meets c)
  instr_meets (Choose whens other) h =
      let t = every (map is_good_when (map (λ y. y.0) whens)) in let u = all_good other in
      choice_meets c c.inner _ _ (whens_meet whens (first c t u h)) _ _
      (content_meet other (second c t u h))
  instr_meets (ForEach select sorts body) h =
      let t = is_sheet_expr select in let u = list_all is_good_sort sorts in
      let v = all_good body in let r = second c t (u && v) h in
      each_meets c places _ _
      (expr_meets c places.alike makes sheets _ _ doors.programs select (first c t (u && v) h)) _ _
      (sorts_meet c places.alike makes sheets _ _ doors.programs sorts (first c u v r)) _ _
      (content_meet body (second c u v r))
  instr_meets (ForEachGroup select grouping sorts body) h =
      let t = is_sheet_expr select in let u = is_good_grouping grouping in
      let v = list_all is_good_sort sorts in let w = all_good body in
      let r = second c t (u && (v && w)) h in let o = second c u (v && w) r in
      each_group_meets c sheets places _ _
      (expr_meets c places.alike makes sheets _ _ doors.programs select (first c t (u && (v && w)) h)) _ _
      (grouping_meets c places.alike makes sheets _ _ doors.programs grouping (first c u (v && w) r)) _ _
      (sorts_meet c places.alike makes sheets _ _ doors.programs sorts (first c v w o)) _ _
      (content_meet body (second c v w o))
  instr_meets (PerformSort select sorts body) h =
      let t = if_sheet_expr select in let u = list_all is_good_sort sorts in
      let v = all_good body in let r = second c t (u && v) h in
      sorted_meets c places _ _ (source_meets c _ _
      (select_meets c places.alike makes sheets _ _ doors.programs select (first c t (u && v) h)) _ _
      (content_meet body (second c u v r))) _ _
      (sorts_meet c places.alike makes sheets _ _ doors.programs sorts (first c u v r))
  instr_meets (Variable bound) h =
      let m = bound.1 h in (m.name, own_meets c _ _ m.value)
  instr_meets (Apply select mode sorts params) h =
      let t = if_sheet_expr select in let u = list_all is_good_sort sorts in
      let v = every (map is_good_bound (map (λ y. y.0) params)) in
      let r = second c t (u && v) h in
      apply_meets c places sheets d b doors sheet.rules _ _
      (select_meets c places.alike makes sheets _ _ doors.programs select (first c t (u && v) h)) mode _ _
      (sorts_meet c places.alike makes sheets _ _ doors.programs sorts (first c u v r)) _ _
      (bounds_meet params (second c u v r))
  instr_meets (ApplyImports params) h =
      overridden_meets c places sheets d b doors (best_imported sheet.levels sheet.rules) _ _
      (bounds_meet params h)
  instr_meets (NextMatch params) h =
      overridden_meets c places sheets d b doors (best_below sheet.rules) _ _ (bounds_meet params h)
  instr_meets (CallTemplate place params) h =
      call_meets c places sheets d b doors place _ _ (bounds_meet params h)

  instr_step : (x : InstrForm) (y : InstrLayer Expr Pattern known) → plain_instr y ≡ x →
      InstrOf (roll-Instr Expr Pattern x)
  instr_step x y is h =
      rw (
        ← is,
        instr_rolled meanings (steps sheet d) (plain_instr y),
        instr_rolled meanings (steps sheet b) (plain_instr y),
      )
      (instr_meets y (λ s. sym (instr_rolled goods good_steps (plain_instr y))
      ∙ ap (λ z. is_good_instr (roll-Instr Expr Pattern z)) is ∙ h s))

  abbrev plain_value : ValueLayer Expr Pattern known → ValueForm
  plain_value =
      map-Value Expr Pattern known.Instrs known.Values known.Bounds known.Whens TheInstr TheValue
      TheBound TheWhen (λ y. y.0) (λ y. y.0) (λ y. y.0) (λ y. y.0)

  abbrev value_asked : ValueForm → Bool
  value_asked x = good_steps.of_value (value_mapped goods good_steps x)

  abbrev value_is : Doors → ValueForm → meanings.Values
  value_is o x = (steps sheet o).of_value (value_mapped meanings (steps sheet o) x)

  value_meets_own : (y : ValueLayer Expr Pattern known) → Asked c (value_asked (plain_value y)) →
      (kind : Option SeqType) →
      IfBoth (MeaningsMeet c) (value_is d (plain_value y) kind) (value_is b (plain_value y) kind)
  value_meets_own (Select e) h kind =
      converted_meets c makes sheets kind _ _ (expr_meets c places.alike makes sheets _ _ doors.programs e h)
  value_meets_own (Body body) h kind =
      content_meets c makes sheets kind _ _ (content_meet body h)
  value_meets_own EmptyText h kind = empty_text_meets c makes sheets
  value_meets_own EmptyList h kind = just_meets c c.inner [] tt
  value_meets_own Required h kind = tt

  value_step : (x : ValueForm) (y : ValueLayer Expr Pattern known) → plain_value y ≡ x →
      ValueIs (roll-Value Expr Pattern x)
  value_step x y is h =
      rw (
        ← is,
        value_rolled meanings (steps sheet d) (plain_value y),
        value_rolled meanings (steps sheet b) (plain_value y),
      )
      (value_meets_own y (λ s. sym (value_rolled goods good_steps (plain_value y))
      ∙ ap (λ z. is_good_bound_value (roll-Value Expr Pattern z)) is ∙ h s))

  abbrev plain_bound : BoundLayer Expr Pattern known → BoundForm
  plain_bound =
      map-Bound Expr Pattern known.Instrs known.Values known.Bounds known.Whens TheInstr TheValue
      TheBound TheWhen (λ y. y.0) (λ y. y.0) (λ y. y.0) (λ y. y.0)

  bound_step : (x : BoundForm) (y : BoundLayer Expr Pattern known) → plain_bound y ≡ x →
      BoundOf (roll-Bound Expr Pattern x)
  bound_step x y is h =
      let t = is_sound_expr_name y.name in let u = is_good_kind y.kind in
      let v = is_good_bound_value y.value.0 in
      let r : Asked c (t && (u && v)) =
      (λ s. sym (bound_rolled goods good_steps (plain_bound y))
      ∙ ap (λ z. is_good_bound (roll-Bound Expr Pattern z)) is ∙ h s) in
      rw (
        ← is,
        bound_rolled meanings (steps sheet d) (plain_bound y),
        bound_rolled meanings (steps sheet b) (plain_bound y),
      )
      (record {
        name = refl;
        kind = refl;
        value = y.value.1 (second c u v (second c t (u && v) r)) y.kind;
        tunnel = refl;
      })

  abbrev plain_when : WhenLayer Expr Pattern known → WhenForm
  plain_when =
      map-When Expr Pattern known.Instrs known.Values known.Bounds known.Whens TheInstr TheValue
      TheBound TheWhen (λ y. y.0) (λ y. y.0) (λ y. y.0) (λ y. y.0)

  when_step : (x : WhenForm) (y : WhenLayer Expr Pattern known) → plain_when y ≡ x →
      WhenOf (roll-When Expr Pattern x)
  when_step x y is h =
      let t = is_sheet_expr y.test in let u = all_good y.body in
      let r : Asked c (t && u) =
      (λ s. sym (when_rolled goods good_steps (plain_when y))
      ∙ ap (λ z. is_good_when (roll-When Expr Pattern z)) is ∙ h s) in
      rw (
        ← is,
        when_rolled meanings (steps sheet d) (plain_when y),
        when_rolled meanings (steps sheet b) (plain_when y),
      ) (
        expr_meets c places.alike makes sheets _ _ doors.programs y.test (first c t u r),
        content_meet y.body (second c t u r),
      )

  pub whole_instr_meets : (x : TheInstr) → InstrOf x
  whole_instr_meets =
      ind-Instr Expr Pattern InstrOf ValueIs BoundOf WhenOf instr_step value_step bound_step
      when_step

  pub whole_bound_meets : (x : TheBound) → BoundOf x
  whole_bound_meets =
      ind-Bound Expr Pattern InstrOf ValueIs BoundOf WhenOf instr_step value_step bound_step
      when_step

  all_instrs_meet : (xs : List TheInstr) → Asked c (is_good_body xs) →
      Pairs (DoingMeets c) (map (instr_does sheet d) xs) (map (instr_does sheet b) xs)
  all_instrs_meet [] h = tt
  all_instrs_meet (x ∷ xs) h =
      let t = is_good_instr x in let u = is_good_body xs in
      (whole_instr_meets x (first c t u h), all_instrs_meet xs (second c t u h))

  pub whole_body_meets : (xs : List TheInstr) → Asked c (is_good_body xs) →
      MeaningsMeet c (body_does sheet d xs) (body_does sheet b xs)
  whole_body_meets xs h =
      body_meets c places.alike (map (instr_does sheet d) xs) (map (instr_does sheet b) xs)
      (all_instrs_meet xs h)

  pub whole_bounds_meet : (xs : List TheBound) → Asked c (every (map is_good_bound xs)) →
      Pairs (BoundMeets c) (map (bound_does sheet d) xs) (map (bound_does sheet b) xs)
  whole_bounds_meet [] h = tt
  whole_bounds_meet (x ∷ xs) h =
      let t = is_good_bound x in let u = every (map is_good_bound xs) in
      (whole_bound_meets x (first c t u h), whole_bounds_meet xs (second c t u h))
