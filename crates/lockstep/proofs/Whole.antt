-- Every instruction does in the query what it does in the stylesheet, where the ways out of it do.
use Rattle.std.proofs.Common.{◌≡◌, ◌∙◌, ℕ, List, [], ◌∷◌, map, refl, sym, ap}
use Rattle.std.specs.Prelude.{Bool, true, false, not, ◌&&◌, codes, Option, Some, None}
use Rattle.std.specs.List.{list_all}
use Rattle.xt_forms.specs.Regular.{every}
use Rattle.xt_names.specs.Classes.{is_xml_text}
use Rattle.xt_names.specs.declared.codes.Code.{Code}
use Rattle.xt_types.specs.declared.types.SeqType.{SeqType}
use Rattle.xt_syntax.specs.declared.exprs.Expr.{Expr}
use Rattle.xt_syntax.specs.declared.exprs.NameSource.{NameSource}
use Rattle.xt_syntax.specs.declared.patterns.Pattern.{Pattern}
use Rattle.xt_sheets.specs.declared.instrs.Instr.TheFolds.{map-Instr, map-Value, map-Bound, map-When}
use Rattle.xt_sheets.specs.declared.instrs.Instr.TheFolds.{ind-Instr, ind-Bound}
use Rattle.xt_sheets.specs.declared.instrs.Instr.TheViews.{roll-Instr, roll-Value, roll-Bound}
use Rattle.xt_sheets.specs.declared.instrs.Instr.TheViews.{roll-When}
use Rattle.xt_sheets.specs.declared.instrs.Instr.TheOpen.{Chars, ValueOf, Literal, Element}
use Rattle.xt_sheets.specs.declared.instrs.Instr.TheOpen.{Attribute, Comment, Pi, Document, Copy}
use Rattle.xt_sheets.specs.declared.instrs.Instr.TheOpen.{CopyOf, Sequence, If, Choose, ForEach}
use Rattle.xt_sheets.specs.declared.instrs.Instr.TheOpen.{ForEachGroup, PerformSort, Variable}
use Rattle.xt_sheets.specs.declared.instrs.Instr.TheOpen.{Apply, ApplyImports, NextMatch}
use Rattle.xt_sheets.specs.declared.instrs.Instr.TheOpen.{CallTemplate, Select, Body, EmptyText}
use Rattle.xt_sheets.specs.declared.instrs.Instr.TheOpen.{EmptyList, Required}
use Rattle.xt_sheets.specs.declared.sheets.Sheet.{Sheet}
use Rattle.xt_sheets.specs.Layers.{Kinds, InstrLayer, ValueLayer, BoundLayer, WhenLayer}
use Rattle.closed_queries.specs.Closed.{is_good_kind}
use Rattle.closed_queries.specs.Texts.{is_sound_expr_name, is_sound_name as is_name}
use Rattle.closed_sheets.specs.Instrs.{goods, good_steps, is_good_body, is_good_bound}
use Rattle.closed_sheets.specs.Instrs.{is_good_bound_value, is_good_instr, is_good_when}
use Rattle.closed_sheets.specs.Values.{if_good_template, if_sheet_expr, is_good_attribute}
use Rattle.closed_sheets.specs.Values.{is_good_grouping, is_good_name, is_good_sort}
use Rattle.closed_sheets.specs.Values.{is_good_template, is_sheet_expr}
use Rattle.sheet_closure.specs.StandingParts.Bodies.{all_stand, bound_stands, instr_stands, is_given, all_given}
use Rattle.sheet_closure.specs.StandingParts.Bodies.{standings, stand_steps, value_stands, when_stands}
use Rattle.sheet_closure.specs.StandingParts.Bodies.{bound_names, is_one_source, passed_stand}
use Rattle.sheet_closure.specs.StandingParts.Calls.{expr_stands}
use Rattle.sheet_closure.specs.StandingParts.Values.{attribute_stands, if_expr_stands, grouping_stands}
use Rattle.sheet_closure.specs.StandingParts.Values.{if_template_stands, sort_stands, template_stands}
use Rattle.name_rules.specs.Scopes.{names_differ}
use Rattle.expr_meaning.specs.Outcomes.Follow.{Relation, IsCarrying}
use Rattle.expr_meaning.specs.Env.{Env, Meaning, Program}
use Rattle.expr_meaning.specs.Meaning.{outcome, meanings as expr_meanings, steps as expr_steps}
use Rattle.xt_syntax.specs.Layers.{arm_gives}
use Rattle.expr_laws.specs.Carrier.{Meet}
use Rattle.xt_sheets.specs.Layers.{value_gives, when_gives}
use Rattle.transform_meaning.specs.Bindings.{Doing}
use Rattle.expr_laws.proofs.Logic.{ArmsMeet}
use Rattle.carried_exprs.specs.Sights.{is_own_variable}
use Rattle.transform_meaning.specs.Bindings.{BoundMeaning, body_of, own_value}
use Rattle.transform_meaning.specs.Dispatch.{Doors}
use Rattle.transform_meaning.specs.Instrs.{bound_does, body_does, instr_does, meanings, steps}
use Rattle.transform_meaning.specs.Instrs.{value_does, when_does}
use Rattle.transform_laws.proofs.Lists.{Pairs}
use Rattle.transform_laws.proofs.Rolled.{TheBound, TheInstr, TheValue, TheWhen, BoundForm, InstrForm}
use Rattle.transform_laws.proofs.Rolled.{ValueForm, WhenForm, bound_rolled}
use Rattle.transform_laws.proofs.Rolled.{instr_mapped, instr_rolled, value_mapped, value_rolled}
use Rattle.transform_laws.proofs.Rolled.{when_rolled}
use Rattle.translated_forms.specs.Bodies.{Part, sequence_of}
use Rattle.translated_forms.specs.Instrs.{all_at, parts, part_steps, translated_bound, translated_instr}
use Rattle.translated_forms.specs.Instrs.{translated_value, translated_when}
use Rattle.translated_forms.specs.Params.{BoundAt, param_of}
use Rattle.translated_forms.specs.Places.{Place, Table, carried_at}
use Rattle.translation.specs.Stands.{all_fit, bound_fits, fits, fit_steps, fits_there}
use Rattle.translation.specs.Stands.{expr_fits, if_fits, sort_fits, template_fits, separator_fits}
use Rattle.translation.specs.Stands.{attribute_fits, grouping_fits, mode_fits, looped, grouped}
use Rattle.lockstep.specs.Doors.{DoorsCarry}
use Rattle.lockstep.specs.Numbers.{NumbersTell}
use Rattle.lockstep.specs.Spots.{Spot, grouped_spot, looped_spot, stand_at}
use Rattle.lockstep.proofs.Choices.{arms_mean, choose_done, if_done, arm_means}
use Rattle.lockstep.proofs.Conversions.{converted_done}
use Rattle.lockstep.proofs.Dispatch.{call_done, imports_done, next_done}
use Rattle.lockstep.proofs.Exprs.{HasLocalNames, expr_done}
use Rattle.lockstep.proofs.Forms.{AlwaysFails, FormsMeet}
use Rattle.lockstep.proofs.Frame.{frame, Meets}
use Rattle.lockstep.proofs.Making.{comment_done, copies_done, document_done, value_done}
use Rattle.lockstep.proofs.Nodes.{comment_nodes, document_nodes, literal_nodes, value_nodes}
use Rattle.lockstep.proofs.Parts.{PartMeets, body_done}
use Rattle.lockstep.proofs.Passed.{GivenMeets, sheet_param}
use Rattle.lockstep.proofs.Templates.{source_done, source_text_done}
use Rattle.lockstep.proofs.Texts.{literal_text}
use Rattle.xt_syntax.specs.declared.exprs.Clause.TheOpen.{Call}
use Rattle.xt_sheets.specs.declared.values.AvtPart.{AvtPart}
use Rattle.xdm_items.specs.declared.items.Item.{Item}
use Rattle.node_builder.specs.Trees.{pi_of}
use Rattle.expr_meaning.specs.Making.{made}
use Rattle.expr_meaning.specs.Outcomes.Outcome.{Outcome, Ends, and_then}
use Rattle.fn_lib.specs.Functions.{function_value, value_of as function_of}
use Rattle.carry_laws.proofs.Names.{error_called}
use Rattle.query_helpers.proofs.Gives.{mean}
use Rattle.transform_meaning.specs.Instrs.{attribute_means, attribute_name_means, element_name_means}
use Rattle.transform_meaning.specs.Instrs.{select_means, separator_means}
use Rattle.transform_meaning.specs.Making.{element_made, attribute_made, pi_made, new_attribute}
use Rattle.transform_meaning.specs.Making.{element_with as named_element}
use Rattle.transform_meaning.specs.Names.{NameMeaning, target_named}
use Rattle.transform_meaning.specs.Texts.{TextMeaning, template_means, text_of_source}
use Rattle.translated_forms.specs.Bodies.{body_of as body_of_parts}
use Rattle.translated_forms.specs.Forms.{failing, text_literal}
use Rattle.translated_forms.specs.Making.{attribute_with, element_content, element_with, pi_with}
use Rattle.translated_forms.specs.NodeNames.{attribute_source, element_source, target_source}
use Rattle.translated_forms.specs.Texts.{source_text}
use Rattle.lockstep.proofs.Contents.{element_content_done}
use Rattle.lockstep.proofs.Forms.{AttributeNameMeets, ElementNameMeets, TargetMeets}
use Rattle.lockstep.proofs.Making.{attribute_done, element_done, pi_done}
use Rattle.lockstep.proofs.Nodes.{element_nodes, pi_nodes}
use Rattle.lockstep.proofs.Texts.{TextMeets}
use Rattle.sheet_closure.specs.StandingParts.Bodies.{ValueStands, body_stands}
use Rattle.translation.specs.Stands.{body_fits}
use Rattle.translated_forms.specs.Instrs.{translated_body}
use Rattle.query_helpers.proofs.Gives.{gives_text}
use Rattle.expr_meaning.specs.Calls.{call_value}
use Rattle.lockstep.proofs.Choices.{nothing_done}
use Rattle.lockstep.proofs.Makes.{makes}
use Rattle.xt_names.proofs.BoolLemmas.{and_first, and_second}
use Rattle.lockstep.proofs.ChosenUris.{no_truth}
use Rattle.xt_names.specs.ExprNames.{library_name}

module _ (like : Code → Code → Type 0) (lax : (a b : Code) → like a b) (rel : Relation)
    (carries : IsCarrying like rel) (t : Table) (local : HasLocalNames t)
    (numbers : NumbersTell t.params) (sheet : Sheet) (d : Doors) (q : Program)
    (doors : DoorsCarry rel t sheet d q)
    (forms : FormsMeet like lax rel carries t numbers sheet d q) where
  abbrev pub here : Spot → Meaning → Expr → Type 0
  here x m e = Meets like lax rel carries t x m (outcome q e)

  abbrev part_meets : Spot → Doing → Part → Type 0
  part_meets x = PartMeets like lax rel carries t q x

  abbrev p : Program
  p = d.program

  abbrev carry : Spot → Expr → Expr
  carry x e = carried_at t x.place e

  abbrev expr_here : (x : Spot) (e : Expr) → expr_fits (stand_at x) e ≡ true → here x (outcome p e) (carry x e)
  expr_here x e h = expr_done like lax rel carries t local p q doors.programs x e h

  -- what is asked where an instruction stands
  abbrev InstrOf : TheInstr → Type 0
  InstrOf i = (x : Spot) → fits_there i (stand_at x) ≡ true → is_good_instr i ≡ true →
      instr_stands i x.place.has_group ≡ true →
      part_meets x (instr_does sheet d i) (translated_instr t i x.place)

  abbrev pub ValueMeets : Bool → Spot → Option Meaning → Expr → Type 0
  ValueMeets needed x None e = (needed ≡ true) × AlwaysFails (outcome q e)
  ValueMeets needed x (Some m) e = here x m e

  abbrev ValueIs : TheValue → Type 0
  ValueIs v = (x : Spot) → value_gives fits fit_steps v (stand_at x) ≡ true →
      is_good_bound_value v ≡ true → (value_stands v).stands x.place.has_group ≡ true →
      (kind : Option SeqType) →
      ValueMeets (value_stands v).required x (value_does sheet d v kind) (translated_value t v x.place kind)

  abbrev pub Bounded : Bool → Spot → BoundMeaning → BoundAt → Type 0
  Bounded needed x m b =
      (sheet_param m ≡ param_of b) × (m.kind ≡ b.kind) × is_own_variable b.name ≡ true
      × ValueMeets needed x m.value (b.value x.place)

  abbrev BoundOf : TheBound → Type 0
  BoundOf b = (x : Spot) → bound_fits b (stand_at x) ≡ true → is_good_bound b ≡ true →
      (bound_stands b).value.stands x.place.has_group ≡ true →
      Bounded (bound_stands b).value.required x (bound_does sheet d b) (translated_bound t b)

  abbrev WhenOf : TheWhen → Type 0
  WhenOf w = (x : Spot) → when_gives fits fit_steps w (stand_at x) ≡ true → is_good_when w ≡ true →
      when_stands w x.place.has_group ≡ true →
      Meet (frame like lax rel carries t) (Some x) (when_does sheet d w).0
      (arm_gives expr_meanings (expr_steps q) (translated_when t w x.place)).0
      × Meet (frame like lax rel carries t) (Some x) (when_does sheet d w).1
      (arm_gives expr_meanings (expr_steps q) (translated_when t w x.place)).1

  -- parts, each with what is known of it
  abbrev known : Kinds
  known = record {
    Instrs = (x : TheInstr) × InstrOf x;
    Values = (x : TheValue) × ValueIs x;
    Bounds = (x : TheBound) × BoundOf x;
    Whens = (x : TheWhen) × WhenOf x;
  }

  -- lists of parts
  abbrev of_instrs : List known.Instrs → List TheInstr
  of_instrs ys = map (λ y. y.0) ys

  abbrev of_bounds : List known.Bounds → List TheBound
  of_bounds ys = map (λ y. y.0) ys

  abbrev of_whens : List known.Whens → List TheWhen
  of_whens ys = map (λ y. y.0) ys

  abbrev doings : List known.Instrs → List Doing
  doings ys = map (instr_does sheet d) (of_instrs ys)

  abbrev parts_at : Spot → List known.Instrs → List Part
  parts_at x ys = all_at x.place (map (translated_instr t) (of_instrs ys))

  abbrev fit_all : Spot → List known.Instrs → Bool
  fit_all x ys = all_fit (map fits_there (of_instrs ys)) (stand_at x)

  abbrev good_all : List known.Instrs → Bool
  good_all ys = every (map is_good_instr (of_instrs ys))

  abbrev stand_all : Spot → List known.Instrs → Bool
  stand_all x ys = all_stand (map instr_stands (of_instrs ys)) x.place.has_group

  instrs_meet : (x : Spot) (ys : List known.Instrs) → fit_all x ys ≡ true → good_all ys ≡ true →
      stand_all x ys ≡ true → Pairs (part_meets x) (doings ys) (parts_at x ys)
  instrs_meet x [] f g s = tt
  instrs_meet x (y ∷ ys) f g s = (
    y.1 x (and_first (fits_there y.0 (stand_at x)) (fit_all x ys) f) (and_first (is_good_instr y.0) (good_all ys) g)
        (and_first (instr_stands y.0 x.place.has_group) (stand_all x ys) s),
    instrs_meet x ys (and_second (fits_there y.0 (stand_at x)) (fit_all x ys) f)
        (and_second (is_good_instr y.0) (good_all ys) g)
        (and_second (instr_stands y.0 x.place.has_group) (stand_all x ys) s),
  )

  content_meets : (x : Spot) (ys : List known.Instrs) → fit_all x ys ≡ true → good_all ys ≡ true →
      stand_all x ys ≡ true → here x (body_of (doings ys)) (sequence_of (parts_at x ys))
  content_meets x ys f g s =
      body_done like lax rel carries t q x (doings ys) (parts_at x ys) (instrs_meet x ys f g s)

  abbrev fit_bounds : Spot → List known.Bounds → Bool
  fit_bounds x ys = all_fit (map bound_fits (of_bounds ys)) (stand_at x)

  abbrev good_bounds : List known.Bounds → Bool
  good_bounds ys = every (map is_good_bound (of_bounds ys))

  -- what is passed has a value
  abbrev given_all : Spot → List known.Bounds → Bool
  given_all x ys = all_given (map bound_stands (of_bounds ys)) x.place.has_group

  given_value : (needed : Bool) (x : Spot) (o : Option Meaning) (e : Expr) → not needed ≡ true →
      ValueMeets needed x o e → here x (own_value o) e
  given_value needed x None e h v = let is : needed ≡ true = v.0 in absurd (contrary needed is h)
    where
      contrary : (b : Bool) → b ≡ true → not b ≡ true → ⊥
      contrary true e g = no_truth g
      contrary false e g = no_truth e
  given_value needed x (Some m) e h v = v

  bounds_meet : (x : Spot) (ys : List known.Bounds) → fit_bounds x ys ≡ true →
      good_bounds ys ≡ true → given_all x ys ≡ true →
      Pairs (GivenMeets like lax rel carries t numbers q x) (map (bound_does sheet d) (of_bounds ys))
      (map (translated_bound t) (of_bounds ys))
  bounds_meet x [] f g s = tt
  bounds_meet x (y ∷ ys) f g s =
      let b = bound_stands y.0 in
      let stands = and_first (is_given b x.place.has_group) (given_all x ys) s in
      let m = y.1 x (and_first (bound_fits y.0 (stand_at x)) (fit_bounds x ys) f)
      (and_first (is_good_bound y.0) (good_bounds ys) g)
      (and_second (not b.value.required) (b.value.stands x.place.has_group) stands) in (
        (
          m.0,
          given_value b.value.required x (bound_does sheet d y.0).value
              ((translated_bound t y.0).value x.place)
              (and_first (not b.value.required) (b.value.stands x.place.has_group) stands) m.3,
        ),
        bounds_meet x ys (and_second (bound_fits y.0 (stand_at x)) (fit_bounds x ys) f)
            (and_second (is_good_bound y.0) (good_bounds ys) g)
            (and_second (is_given b x.place.has_group) (given_all x ys) s),
      )

  passed_given : (x : Spot) (ys : List known.Bounds) →
      passed_stand (map bound_stands (of_bounds ys)) x.place.has_group ≡ true → given_all x ys ≡ true
  passed_given x ys s = and_second (names_differ (bound_names (map bound_stands (of_bounds ys)))) (given_all x ys) s

  abbrev fit_whens : Spot → List known.Whens → Bool
  fit_whens x ys = all_fit (map (when_gives fits fit_steps) (of_whens ys)) (stand_at x)

  abbrev good_whens : List known.Whens → Bool
  good_whens ys = every (map is_good_when (of_whens ys))

  abbrev stand_whens : Spot → List known.Whens → Bool
  stand_whens x ys = all_stand (map when_stands (of_whens ys)) x.place.has_group

  whens_meet : (x : Spot) (ys : List known.Whens) → fit_whens x ys ≡ true → good_whens ys ≡ true →
      stand_whens x ys ≡ true → ArmsMeet (frame like lax rel carries t) (Some x)
      (map (when_does sheet d) (of_whens ys))
      (arms_mean q (all_at x.place (map (translated_when t) (of_whens ys))))
  whens_meet x [] f g s = tt
  whens_meet x (y ∷ ys) f g s =
      let w = when_gives fits fit_steps y.0 (stand_at x) in (
        y.1 x (and_first w (fit_whens x ys) f) (and_first (is_good_when y.0) (good_whens ys) g)
            (and_first (when_stands y.0 x.place.has_group) (stand_whens x ys) s),
        whens_meet x ys (and_second w (fit_whens x ys) f) (and_second (is_good_when y.0) (good_whens ys) g)
            (and_second (when_stands y.0 x.place.has_group) (stand_whens x ys) s),
      )

  abbrev plain_instr : InstrLayer Expr Pattern known → InstrForm
  plain_instr =
      map-Instr Expr Pattern known.Instrs known.Values known.Bounds known.Whens TheInstr TheValue
      TheBound TheWhen (λ y. y.0) (λ y. y.0) (λ y. y.0) (λ y. y.0)

  -- what is asked of an instruction, what it does, and what it becomes
  abbrev fit_instr : InstrForm → Spot → Bool
  fit_instr x at = fit_steps.of_instr (instr_mapped fits fit_steps x) (stand_at at)

  abbrev good_instr : InstrForm → Bool
  good_instr x = good_steps.of_instr (instr_mapped goods good_steps x)

  abbrev stand_instr : InstrForm → Spot → Bool
  stand_instr x at = stand_steps.of_instr (instr_mapped standings stand_steps x) at.place.has_group

  abbrev does : InstrForm → Doing
  does x = (steps sheet d).of_instr (instr_mapped meanings (steps sheet d) x)

  abbrev becomes : InstrForm → Place → Part
  becomes x at = (part_steps t).of_instr (instr_mapped parts (part_steps t) x) at

  -- what always fails
  fails_done : (x : Spot) (m : Meaning) → AlwaysFails m → here x m failing
  unfolding function_value function_of
  fails_done x m h a b at k =
      let f = h a k in
      rw (f.1, mean q (Call (library_name (codes "error")) []) b k, error_called)
      (carries.errors _ _ _ _ (lax f.0 _))

  name_first : {A : Type 0} (n : Env → ℕ → Outcome A) → AlwaysFails n →
      (go : Env → A → ℕ → Outcome (List Item)) → AlwaysFails (λ e k. and_then (n e k) (go e))
  name_first n h go e k = let f = h e k in (f.0, ap (λ o. and_then o (go e)) f.1)

  element_meets : (x : Spot) (n : NameMeaning) (o : Option NameSource) →
      ElementNameMeets like lax rel carries t numbers sheet d q x n o → (ds : List Doing) (ps : List Part) →
      Pairs (part_meets x) ds ps → here x (element_made n (body_of ds))
      (element_with o (element_content (body_of_parts ps)))
  element_meets x n None h ds ps c =
      fails_done x (element_made n (body_of ds))
      (name_first n h (λ e name. named_element name (body_of ds) e))
  element_meets x n (Some source) h ds ps c =
      element_done like lax rel carries t q x n source h (body_of ds) (element_content (body_of_parts ps))
      (element_content_done like lax rel carries t q doors.helpers x ds ps c)

  attribute_meets : (x : Spot) (n : NameMeaning) (o : Option NameSource) →
      AttributeNameMeets like lax rel carries t numbers sheet d q x n o → (v : TextMeaning) (e : Expr) →
      TextMeets like lax rel carries t q x v e → here x (attribute_made n v) (attribute_with o e)
  attribute_meets x n None h v e g =
      fails_done x (attribute_made n v)
      (name_first n h (λ env name j. and_then (v env j) (new_attribute name)))
  attribute_meets x n (Some source) h v e g = attribute_done like lax rel carries t q x n source h v e g

  target_meets : (x : Spot) (n : TextMeaning) (o : Option NameSource) →
      TargetMeets like lax rel carries t numbers sheet d q x n o → (v : TextMeaning) (e : Expr) →
      TextMeets like lax rel carries t q x v e → here x (pi_made n v) (pi_with o e)
  target_meets x n None h v e g =
      fails_done x (pi_made n v)
      (name_first n h (λ env target j. and_then (v env j) (λ w. made (pi_of target w))))
  target_meets x n (Some source) h v e g = pi_done like lax rel carries t q x n source h v e g

  abbrev text_here : Spot → TextMeaning → Expr → Type 0
  text_here x m e = TextMeets like lax rel carries t q x m e

  source_text_here : (x : Spot) (select : Option Expr) → if_fits (stand_at x) select ≡ true →
      (ys : List known.Instrs) → fit_all x ys ≡ true → good_all ys ≡ true → stand_all x ys ≡ true →
      (separator : Option (List (AvtPart Expr))) → separator_fits (stand_at x) separator ≡ true →
      if_good_template separator ≡ true →
      text_here x (text_of_source (select_means p select) (body_of (doings ys)) (separator_means p separator))
      (source_text (carry x) select (sequence_of (parts_at x ys)) separator)
  source_text_here x select h ys f g s separator i j =
      source_text_done like lax rel carries t local p q doors.programs doors.helpers x select h
      (body_of (doings ys)) (sequence_of (parts_at x ys)) (content_meets x ys f g s) separator i j

  instr_meets : (y : InstrLayer Expr Pattern known) (x : Spot) → fit_instr (plain_instr y) x ≡ true →
      good_instr (plain_instr y) ≡ true → stand_instr (plain_instr y) x ≡ true →
      part_meets x (does (plain_instr y)) (becomes (plain_instr y) x.place)
  unfolding separator_fits if_good_template
  instr_meets (Chars text) x f g s = (
    value_done like lax rel carries t q x (λ e k. Ends text k) (text_literal text)
        (literal_text like lax rel carries t q x text g (λ e k. Ends text k) (λ e k. refl)),
    λ yes. value_nodes (λ e k. Ends text k),
  )
  instr_meets (ValueOf select body separator) x f g s =
      let a = if_fits (stand_at x) select in let b = fit_all x body in
      let c = separator_fits (stand_at x) separator in
      let u = good_all body in let v = if_good_template separator in
      let i = if_expr_stands x.place.has_group select in
      let j = if_template_stands x.place.has_group separator in let k = stand_all x body in
      let r = and_second a (b && c) f in let o = and_second (if_sheet_expr select) (u && v) g in
      let w = and_second j k (and_second i (j && k) (and_second (is_one_source select (map instr_stands (of_instrs body))) (i && (j && k)) s)) in (
        value_done like lax rel carries t q x _ _
            (source_text_here x select (and_first a (b && c) f) body (and_first b c r) (and_first u v o) w separator
            (and_second b c r) (and_second u v o)),
        λ yes. value_nodes (text_of_source (select_means p select) (body_of (doings body))
            (separator_means p separator)),
      )
  instr_meets (Literal name attrs body) x f g s =
      let a = list_all (attribute_fits (stand_at x)) attrs in let b = fit_all x body in
      let u = list_all is_good_attribute attrs in let v = good_all body in
      let o = and_second (is_name name) (u && v) g in (
        forms.literal x name attrs (and_first a b f) (and_first (is_name name) (u && v) g) (and_first u v o) (doings body)
            (parts_at x body) (instrs_meet x body (and_second a b f) (and_second u v o)
            (and_second (list_all (attribute_stands x.place.has_group) attrs) (stand_all x body) s)),
        λ yes. literal_nodes name (map (attribute_means p) attrs) (body_of (doings body)),
      )
  instr_meets (Element name body) x f g s =
      let a = template_fits (stand_at x) name.text in let b = fit_all x body in
      let u = is_good_name name in let v = good_all body in (
        element_meets x (element_name_means p name) (element_source t.prefixes (carry x) name)
            (forms.element_names x name (and_first a b f) (and_first u v g)) (doings body) (parts_at x body)
            (instrs_meet x body (and_second a b f) (and_second u v g)
            (and_second (template_stands x.place.has_group name.text) (stand_all x body) s)),
        λ yes. element_nodes (element_name_means p name) (body_of (doings body)),
      )
  instr_meets (Attribute name select body separator) x f g s =
      let a = template_fits (stand_at x) name.text in let b = if_fits (stand_at x) select in
      let c = fit_all x body in let e = separator_fits (stand_at x) separator in
      let u = is_good_name name in let v = if_sheet_expr select in let w = good_all body in
      let z = if_good_template separator in
      let h = template_stands x.place.has_group name.text in
      let i = if_expr_stands x.place.has_group select in
      let j = if_template_stands x.place.has_group separator in let k = stand_all x body in
      let r = and_second a (b && (c && e)) f in let l = and_second b (c && e) r in
      let o = and_second v (w && z) (and_second u (v && (w && z)) g) in
      let n = and_second j k (and_second i (j && k) (and_second h (i && (j && k))
      (and_second (is_one_source select (map instr_stands (of_instrs body))) (h && (i && (j && k))) s))) in (
        attribute_meets x (attribute_name_means p name) (attribute_source t.prefixes (carry x) name)
            (forms.attribute_names x name (and_first a (b && (c && e)) f) (and_first u (v && (w && z)) g)) _ _
            (source_text_here x select (and_first b (c && e) r) body (and_first c e l) (and_first w z o) n separator
            (and_second c e l) (and_second w z o)),
        λ no_node. absurd (no_truth no_node),
      )
  instr_meets (Comment select body) x f g s =
      let a = if_fits (stand_at x) select in let b = fit_all x body in
      let i = if_expr_stands x.place.has_group select in let k = stand_all x body in
      let w = and_second i k (and_second (is_one_source select (map instr_stands (of_instrs body))) (i && k) s) in (
        comment_done like lax rel carries t q x _ _
            (source_text_here x select (and_first a b f) body (and_second a b f)
            (and_second (if_sheet_expr select) (good_all body) g) w None refl refl),
        λ yes. comment_nodes (text_of_source (select_means p select) (body_of (doings body)) None),
      )
  instr_meets (Pi name select body) x f g s =
      let a = template_fits (stand_at x) name in let b = if_fits (stand_at x) select in
      let c = fit_all x body in let u = is_good_template name in let v = if_sheet_expr select in
      let w = good_all body in let h = template_stands x.place.has_group name in
      let i = if_expr_stands x.place.has_group select in let k = stand_all x body in
      let r = and_second a (b && c) f in let o = and_second v w (and_second u (v && w) g) in
      let n = and_second i k (and_second h (i && k) (and_second (is_one_source select (map instr_stands (of_instrs body))) (h && (i && k)) s)) in (
        target_meets x (target_named (template_means p name)) (target_source (carry x) name)
            (forms.targets x name (and_first a (b && c) f) (and_first u (v && w) g)) _ _
            (source_text_here x select (and_first b c r) body (and_second b c r) o n None refl refl),
        λ yes. pi_nodes (target_named (template_means p name))
            (text_of_source (select_means p select) (body_of (doings body)) None),
      )
  instr_meets (Document body) x f g s = (
    document_done like lax rel carries t q x _ _ (content_meets x body f g s),
    λ yes. document_nodes (body_of (doings body)),
  )
  instr_meets (Copy body) x f g s = (
    forms.copy x _ _ (content_meets x body f g s),
    λ no_node. absurd (no_truth no_node),
  )
  instr_meets (CopyOf e) x f g s = (
    copies_done like lax rel carries t q doors.helpers x _ _ (expr_here x e f),
    λ no_node. absurd (no_truth no_node),
  )
  instr_meets (Sequence e) x f g s = (expr_here x e f, λ no_node. absurd (no_truth no_node))
  instr_meets (If condition body) x f g s =
      let a = expr_fits (stand_at x) condition in let b = fit_all x body in (
        if_done like lax rel carries t q x _ _ (expr_here x condition (and_first a b f)) _ _
            (content_meets x body (and_second a b f) (and_second (is_sheet_expr condition) (good_all body) g)
            (and_second (expr_stands x.place.has_group condition) (stand_all x body) s)),
        λ no_node. absurd (no_truth no_node),
      )
  instr_meets (Choose whens last) x f g s =
      let a = fit_whens x whens in let b = fit_all x last in
      let u = good_whens whens in let v = good_all last in
      let i = stand_whens x whens in let j = stand_all x last in (
        choose_done like lax rel carries t q x _ _
            (whens_meet x whens (and_first a b f) (and_first u v g) (and_first i j s)) _ _
            (content_meets x last (and_second a b f) (and_second u v g) (and_second i j s)),
        λ no_node. absurd (no_truth no_node),
      )
  instr_meets (ForEach select sorts body) x f g s =
      let a = expr_fits (stand_at x) select in
      let b = list_all (sort_fits (looped (stand_at x))) sorts in let c = fit_all (looped_spot x) body in
      let u = list_all is_good_sort sorts in let v = good_all body in
      let i = list_all (sort_stands x.place.has_group) sorts in let j = stand_all x body in
      let r = and_second a (b && c) f in (
        forms.each x select (and_first a (b && c) f) sorts (and_first b c r) _ _
            (content_meets (looped_spot x) body (and_second b c r)
            (and_second u v (and_second (is_sheet_expr select) (u && v) g))
            (and_second i j (and_second (expr_stands x.place.has_group select) (i && j) s))),
        λ no_node. absurd (no_truth no_node),
      )
  instr_meets (ForEachGroup select grouping sorts body) x f g s =
      let a = expr_fits (stand_at x) select in let b = grouping_fits (stand_at x) grouping in
      let c = list_all (sort_fits (grouped (stand_at x))) sorts in
      let e = fit_all (grouped_spot x) body in
      let u = is_good_grouping grouping in let v = list_all is_good_sort sorts in
      let w = good_all body in
      let h = grouping_stands x.place.has_group grouping in let i = list_all (sort_stands true) sorts in
      let j = stand_all (grouped_spot x) body in
      let r = and_second a (b && (c && e)) f in let l = and_second b (c && e) r in (
        forms.group x select (and_first a (b && (c && e)) f) grouping (and_first b (c && e) r) sorts (and_first c e l) _ _
            (content_meets (grouped_spot x) body (and_second c e l)
            (and_second v w (and_second u (v && w) (and_second (is_sheet_expr select) (u && (v && w)) g)))
            (and_second i j (and_second h (i && j) (and_second (expr_stands x.place.has_group select) (h && (i && j)) s)))),
        λ no_node. absurd (no_truth no_node),
      )
  instr_meets (PerformSort select sorts body) x f g s =
      let a = if_fits (stand_at x) select in
      let b = list_all (sort_fits (looped (stand_at x))) sorts in let c = fit_all x body in
      let u = list_all is_good_sort sorts in let v = good_all body in
      let h = if_expr_stands x.place.has_group select in
      let i = list_all (sort_stands x.place.has_group) sorts in let j = stand_all x body in
      let r = and_second a (b && c) f in (
        forms.sorted_items x _ _ (source_done like lax rel carries t local p q doors.programs doors.helpers
            x select (and_first a (b && c) f) _ _ (content_meets x body (and_second b c r)
            (and_second u v (and_second (if_sheet_expr select) (u && v) g))
            (and_second i j (and_second h (i && j) (and_second (is_one_source select (map instr_stands (of_instrs body))) (h && (i && j)) s)))))
            sorts (and_first b c r),
        λ no_node. absurd (no_truth no_node),
      )
  instr_meets (Variable bound) x f g s =
      let b = bound_stands bound.0 in
      let m = bound.1 x f g (and_second (not b.value.required) (b.value.stands x.place.has_group) s) in (
        ap (λ r. r.name) m.0,
        m.2,
        given_value b.value.required x _ _
            (and_first (not b.value.required) (b.value.stands x.place.has_group) s) m.3,
      )
  instr_meets (Apply select mode sorts given) x f g s =
      let a = if_fits (stand_at x) select in let b = mode_fits (stand_at x) mode in
      let c = list_all (sort_fits (looped (stand_at x))) sorts in let e = fit_bounds x given in
      let u = list_all is_good_sort sorts in let v = good_bounds given in
      let i = list_all (sort_stands x.place.has_group) sorts in
      let j = passed_stand (map bound_stands (of_bounds given)) x.place.has_group in
      let r = and_second a (b && (c && e)) f in let l = and_second b (c && e) r in (
        forms.apply x select (and_first a (b && (c && e)) f) mode (and_first b (c && e) r) sorts (and_first c e l) _ _
            (bounds_meet x given (and_second c e l) (and_second u v (and_second (if_sheet_expr select) (u && v) g))
            (passed_given x given (and_second i j
            (and_second (if_expr_stands x.place.has_group select) (i && j) s)))),
        λ no_node. absurd (no_truth no_node),
      )
  instr_meets (ApplyImports given) x f g s =
      let e = fit_bounds x given in (
        imports_done like lax rel carries t numbers q sheet d doors x (and_first x.has_rule e f) _ _
            (bounds_meet x given (and_second x.has_rule e f) g (passed_given x given s)),
        λ no_node. absurd (no_truth no_node),
      )
  instr_meets (NextMatch given) x f g s =
      let e = fit_bounds x given in (
        next_done like lax rel carries t numbers q sheet d doors x (and_first x.has_rule e f) _ _
            (bounds_meet x given (and_second x.has_rule e f) g (passed_given x given s)),
        λ no_node. absurd (no_truth no_node),
      )
  instr_meets (CallTemplate place given) x f g s =
      let e = fit_bounds x given in (
        call_done like lax rel carries t numbers q sheet d doors x (and_first x.place.has_focus e f) place _ _
            (bounds_meet x given (and_second x.place.has_focus e f) g (passed_given x given s)),
        λ no_node. absurd (no_truth no_node),
      )

  instr_step : (z : InstrForm) (y : InstrLayer Expr Pattern known) → plain_instr y ≡ z →
      InstrOf (roll-Instr Expr Pattern z)
  instr_step z y is x f g s =
      rw (
        ← is,
        instr_rolled meanings (steps sheet d) (plain_instr y),
        instr_rolled parts (part_steps t) (plain_instr y),
      )
      (instr_meets y x
      (ap (λ h. h (stand_at x)) (sym (instr_rolled fits fit_steps (plain_instr y))
      ∙ ap (λ w. fits_there (roll-Instr Expr Pattern w)) is) ∙ f)
      (sym (instr_rolled goods good_steps (plain_instr y))
      ∙ ap (λ w. is_good_instr (roll-Instr Expr Pattern w)) is ∙ g)
      (ap (λ h. h x.place.has_group) (sym (instr_rolled standings stand_steps (plain_instr y))
      ∙ ap (λ w. instr_stands (roll-Instr Expr Pattern w)) is) ∙ s))

  abbrev plain_value : ValueLayer Expr Pattern known → ValueForm
  plain_value =
      map-Value Expr Pattern known.Instrs known.Values known.Bounds known.Whens TheInstr TheValue
      TheBound TheWhen (λ y. y.0) (λ y. y.0) (λ y. y.0) (λ y. y.0)

  abbrev stand_value : ValueForm → ValueStands
  stand_value z = stand_steps.of_value (value_mapped standings stand_steps z)

  value_meets : (y : ValueLayer Expr Pattern known) (x : Spot) →
      fit_steps.of_value (value_mapped fits fit_steps (plain_value y)) (stand_at x) ≡ true →
      good_steps.of_value (value_mapped goods good_steps (plain_value y)) ≡ true →
      (stand_value (plain_value y)).stands x.place.has_group ≡ true → (kind : Option SeqType) →
      ValueMeets (stand_value (plain_value y)).required x
      ((steps sheet d).of_value (value_mapped meanings (steps sheet d) (plain_value y)) kind)
      ((part_steps t).of_value (value_mapped parts (part_steps t) (plain_value y)) x.place kind)
  unfolding function_value function_of is_xml_text
  value_meets (Select e) x f g s kind =
      converted_done like lax rel carries t q kind x (outcome p e) (carry x e) (expr_here x e f)
  value_meets (Body body) x f g s None =
      document_done like lax rel carries t q x _ _ (content_meets x body f g s)
  value_meets (Body body) x f g s (Some type) =
      converted_done like lax rel carries t q (Some type) x _ _ (content_meets x body f g s)
  value_meets EmptyText x f g s kind = λ a b at k.
      rw (gives_text q [] b k) (carries.ends _ _ _ _ ((makes like lax rel carries t).string [] (λ h. refl), tt))
  value_meets EmptyList x f g s kind = nothing_done like lax rel carries t q x
  value_meets Required x f g s kind = (refl, error_fails)
    where
      error_fails : AlwaysFails (outcome q failing)
      error_fails b k = (
        _,
        mean q (Call (library_name (codes "error")) []) b k
            ∙ ap (λ c. call_value q c (library_name (codes "error")) b [] k) error_called,
      )

  value_step : (z : ValueForm) (y : ValueLayer Expr Pattern known) → plain_value y ≡ z →
      ValueIs (roll-Value Expr Pattern z)
  value_step z y is x f g s kind =
      rw (
        ← is,
        value_rolled meanings (steps sheet d) (plain_value y),
        value_rolled parts (part_steps t) (plain_value y),
        value_rolled standings stand_steps (plain_value y),
      )
      (value_meets y x
      (ap (λ h. h (stand_at x)) (sym (value_rolled fits fit_steps (plain_value y))
      ∙ ap (λ w. value_gives fits fit_steps (roll-Value Expr Pattern w)) is) ∙ f)
      (sym (value_rolled goods good_steps (plain_value y))
      ∙ ap (λ w. is_good_bound_value (roll-Value Expr Pattern w)) is ∙ g)
      (ap (λ h. h.stands x.place.has_group) (sym (value_rolled standings stand_steps (plain_value y))
      ∙ ap (λ w. value_stands (roll-Value Expr Pattern w)) is) ∙ s) kind)

  abbrev plain_bound : BoundLayer Expr Pattern known → BoundForm
  plain_bound =
      map-Bound Expr Pattern known.Instrs known.Values known.Bounds known.Whens TheInstr TheValue
      TheBound TheWhen (λ y. y.0) (λ y. y.0) (λ y. y.0) (λ y. y.0)

  bound_step : (z : BoundForm) (y : BoundLayer Expr Pattern known) → plain_bound y ≡ z →
      BoundOf (roll-Bound Expr Pattern z)
  bound_step z y is x f g s =
      let own = is_own_variable y.name in
      let there = value_gives fits fit_steps y.value.0 (stand_at x) in
      let name = is_sound_expr_name y.name in let type = is_good_kind y.kind in
      let good = is_good_bound_value y.value.0 in
      let a : (own && there) ≡ true =
      ap (λ h. h (stand_at x)) (sym (bound_rolled fits fit_steps (plain_bound y))
      ∙ ap (λ w. bound_fits (roll-Bound Expr Pattern w)) is) ∙ f in
      let b : (name && (type && good)) ≡ true =
      sym (bound_rolled goods good_steps (plain_bound y))
      ∙ ap (λ w. is_good_bound (roll-Bound Expr Pattern w)) is ∙ g in
      let c : (value_stands y.value.0).stands x.place.has_group ≡ true =
      ap (λ h. h.value.stands x.place.has_group) (sym (bound_rolled standings stand_steps (plain_bound y))
      ∙ ap (λ w. bound_stands (roll-Bound Expr Pattern w)) is) ∙ s in
      rw (
        ← is,
        bound_rolled meanings (steps sheet d) (plain_bound y),
        bound_rolled parts (part_steps t) (plain_bound y),
        bound_rolled standings stand_steps (plain_bound y),
      ) (
        refl,
        refl,
        and_first own there a,
        y.value.1 x (and_second own there a) (and_second type good (and_second name (type && good) b)) c y.kind,
      )

  abbrev plain_when : WhenLayer Expr Pattern known → WhenForm
  plain_when =
      map-When Expr Pattern known.Instrs known.Values known.Bounds known.Whens TheInstr TheValue
      TheBound TheWhen (λ y. y.0) (λ y. y.0) (λ y. y.0) (λ y. y.0)

  when_step : (z : WhenForm) (y : WhenLayer Expr Pattern known) → plain_when y ≡ z →
      WhenOf (roll-When Expr Pattern z)
  when_step z y is x f g s =
      let test = expr_fits (stand_at x) y.test in let rest = fit_all x y.body in
      let good = is_sheet_expr y.test in let goods_all = good_all y.body in
      let stands = expr_stands x.place.has_group y.test in let stands_all = stand_all x y.body in
      let a : (test && rest) ≡ true =
      ap (λ h. h (stand_at x)) (sym (when_rolled fits fit_steps (plain_when y))
      ∙ ap (λ w. when_gives fits fit_steps (roll-When Expr Pattern w)) is) ∙ f in
      let b : (good && goods_all) ≡ true =
      sym (when_rolled goods good_steps (plain_when y))
      ∙ ap (λ w. is_good_when (roll-When Expr Pattern w)) is ∙ g in
      let c : (stands && stands_all) ≡ true =
      ap (λ h. h x.place.has_group) (sym (when_rolled standings stand_steps (plain_when y))
      ∙ ap (λ w. when_stands (roll-When Expr Pattern w)) is) ∙ s in
      rw (
        ← is,
        when_rolled meanings (steps sheet d) (plain_when y),
        when_rolled parts (part_steps t) (plain_when y),
        arm_means q (carry x y.test) (sequence_of (parts_at x y.body)),
      ) (
        expr_here x y.test (and_first test rest a),
        content_meets x y.body (and_second test rest a) (and_second good goods_all b) (and_second stands stands_all c),
      )

  pub whole_instr_done : (i : TheInstr) → InstrOf i
  whole_instr_done =
      ind-Instr Expr Pattern InstrOf ValueIs BoundOf WhenOf instr_step value_step bound_step when_step

  pub whole_bound_done : (b : TheBound) → BoundOf b
  whole_bound_done =
      ind-Bound Expr Pattern InstrOf ValueIs BoundOf WhenOf instr_step value_step bound_step when_step

  all_instrs_done : (x : Spot) (is : List TheInstr) → body_fits is (stand_at x) ≡ true →
      is_good_body is ≡ true → body_stands is x.place.has_group ≡ true →
      Pairs (part_meets x) (map (instr_does sheet d) is) (all_at x.place (map (translated_instr t) is))
  all_instrs_done x [] f g s = tt
  all_instrs_done x (i ∷ is) f g s = (
    whole_instr_done i x (and_first (fits_there i (stand_at x)) (body_fits is (stand_at x)) f)
        (and_first (is_good_instr i) (is_good_body is) g)
        (and_first (instr_stands i x.place.has_group) (body_stands is x.place.has_group) s),
    all_instrs_done x is (and_second (fits_there i (stand_at x)) (body_fits is (stand_at x)) f)
        (and_second (is_good_instr i) (is_good_body is) g)
        (and_second (instr_stands i x.place.has_group) (body_stands is x.place.has_group) s),
  )

  -- the content of a template, of a function and of a variable
  pub whole_body_done : (x : Spot) (is : List TheInstr) → body_fits is (stand_at x) ≡ true →
      is_good_body is ≡ true → body_stands is x.place.has_group ≡ true →
      here x (body_does sheet d is) (translated_body t is x.place)
  whole_body_done x is f g s =
      body_done like lax rel carries t q x (map (instr_does sheet d) is)
      (all_at x.place (map (translated_instr t) is)) (all_instrs_done x is f g s)
