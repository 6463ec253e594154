-- What instructions become is regular and nests six levels at most for each level of instructions,
-- beside those of expressions.
use Rattle.std.proofs.Common.{◌≡◌, ◌∙◌, ◌≤◌, ◌+◌, ◌*◌, ℕ, suc, max, List, [], ◌∷◌, map, refl, sym, ap, arith}
use Rattle.std.proofs.lemmas.Bool.{and_parts, leb-true}
use Rattle.std.specs.Prelude.{Bool, true, false, ◌&&◌, nat_le, codes, Option, Some, None}
use Rattle.std.specs.List.{list_all}
use Rattle.xt_types.specs.declared.types.SeqType.{SeqType}
use Rattle.xt_forms.specs.Nest.{nest_of}
use Rattle.xt_forms.specs.Regular.{every, is_regular_expr, is_regular_kind}
use Rattle.xt_syntax.specs.declared.exprs.Expr.{Expr}
use Rattle.xt_syntax.specs.declared.patterns.Pattern.{Pattern}
use Rattle.xt_sheets.specs.declared.values.Sort.{Sort}
use Rattle.xt_syntax.specs.declared.exprs.Order.{Order}
use Rattle.xt_sheets.specs.declared.values.Grouping.{Grouping}
use Rattle.xt_sheets.specs.declared.values.Grouping.TheVariants.{By, Adjacent, Starting}
use Rattle.xt_sheets.specs.declared.instrs.Instr.TheFolds.{map-Instr, map-Value, map-Bound, map-When}
use Rattle.xt_sheets.specs.declared.instrs.Instr.TheFolds.{ind-Instr, ind-Value, ind-Bound}
use Rattle.xt_sheets.specs.declared.instrs.Instr.TheViews.{roll-Instr, roll-Value, roll-Bound}
use Rattle.xt_sheets.specs.declared.instrs.Instr.TheViews.{roll-When}
use Rattle.xt_sheets.specs.declared.instrs.Instr.TheOpen.{Chars, ValueOf, Literal, Element}
use Rattle.xt_sheets.specs.declared.instrs.Instr.TheOpen.{Attribute, Comment, Pi, Document, Copy}
use Rattle.xt_sheets.specs.declared.instrs.Instr.TheOpen.{CopyOf, Sequence, If, Choose, ForEach}
use Rattle.xt_sheets.specs.declared.instrs.Instr.TheOpen.{ForEachGroup, PerformSort, Variable}
use Rattle.xt_sheets.specs.declared.instrs.Instr.TheOpen.{Apply, ApplyImports, NextMatch}
use Rattle.xt_sheets.specs.declared.instrs.Instr.TheOpen.{CallTemplate, Select, Body, EmptyText}
use Rattle.xt_sheets.specs.declared.instrs.Instr.TheOpen.{EmptyList, Required}
use Rattle.xt_sheets.specs.Layers.{Kinds, InstrLayer, ValueLayer, BoundLayer, WhenLayer}
use Rattle.closed_sheets.specs.SheetForms.InstrNest.{Nested, nests, nest_steps, most_levels, nested_of, when_nest_of}
use Rattle.closed_sheets.specs.SheetForms.InstrNest.{bound_nest_of, value_nest_of}
use Rattle.carried_exprs.specs.Sights.{Setting, Sight, named, focused, absent, HasLocalKeys, local_uri, nothing}
use Rattle.carried_exprs.specs.Levels.{levels_added}
use Rattle.carried_exprs.specs.Carried.{carried}
use Rattle.carried_exprs.proofs.Nesting.{nest_carried}
use Rattle.carried_exprs.proofs.Regularity.{regular_carried}
use Rattle.translated_forms.specs.Names.{of_rule}
use Rattle.translated_forms.specs.Forms.{arm_of, one_of_tests}
use Rattle.translated_forms.specs.Texts.{Template, source_text}
use Rattle.translated_forms.specs.Leaves.{leaves, leaf_steps, is_leaf, if_leaf, template_leaves}
use Rattle.translated_forms.specs.Leaves.{separator_leaves, attribute_leaves, sort_leaf, grouping_leaves}
use Rattle.translated_forms.specs.Leaves.{has_leaves, value_has_leaves, bound_has_leaves, when_has_leaves}
use Rattle.translated_forms.specs.NodeNames.{element_source, attribute_source, target_source}
use Rattle.translated_forms.specs.Places.{Place, RuleIn, Table, looped, in_group, setting_at, grouping_setting}
use Rattle.translated_forms.specs.Places.{carried_at, sight_at}
use Rattle.translated_forms.specs.Params.{given_lets}
use Rattle.translated_forms.specs.Bodies.{Part, makes, sequence_of}
use Rattle.translated_forms.specs.Dispatch.{selection, overridden}
use Rattle.translated_forms.specs.Instrs.{parts, part_steps, all_at, content_value, grouped_at}
use Rattle.translated_forms.specs.Instrs.{orders_at, translated_instr, translated_value, translated_bound}
use Rattle.translated_forms.specs.Instrs.{translated_when, translated_body}
use Rattle.translated_forms.proofs.Rolled.{TheInstr, TheValue, TheBound, TheWhen, InstrForm, ValueForm}
use Rattle.translated_forms.proofs.Rolled.{BoundForm, WhenForm, instr_mapped, value_mapped}
use Rattle.translated_forms.proofs.Rolled.{instr_rolled, value_rolled, bound_rolled, when_rolled}
use Rattle.translated_forms.proofs.Fine.{Fine, FineArm, FineClause, FineOrder, Every, none, more, higher}
use Rattle.translated_forms.proofs.Fine.{all_higher, fine_text, fine_nothing, fine_or, fine_document}
use Rattle.translated_forms.proofs.Fine.{fine_text_node, fine_comment, fine_let, fine_arm}
use Rattle.translated_forms.proofs.FineChains.{fine_chain}
use Rattle.translated_forms.proofs.FineTexts.{CarriesTo, fine_failing, fine_library, fine_converted}
use Rattle.translated_forms.proofs.FineTexts.{fine_source_of, fine_source_text}
use Rattle.translated_forms.proofs.FineNames.{fine_element_source, fine_attribute_source, fine_target_source}
use Rattle.translated_forms.proofs.FineNames.{bare_target}
use Rattle.translated_forms.proofs.FineBodies.{PartFits, fits_binds, fits_makes, AllFit, none_fit, more_fit}
use Rattle.translated_forms.proofs.FineBodies.{fine_body, fine_sequence}
use Rattle.translated_forms.proofs.FineMaking.{fine_element_with, fine_attribute_with, fine_pi_with}
use Rattle.translated_forms.proofs.FineMaking.{source_higher, fine_element_content, fine_literal, fine_copy}
use Rattle.translated_forms.proofs.FineMaking.{fine_copies}
use Rattle.translated_forms.proofs.FineLoops.{fine_orders, fine_each, fine_sorted}
use Rattle.translated_forms.proofs.FineGroups.{fine_group_by, fine_group_adjacent, fine_group_starting}
use Rattle.translated_forms.proofs.FineDispatch.{fine_applied, fine_arguments, fine_selection}
use Rattle.translated_forms.proofs.FineDispatch.{fine_with_given}
use Rattle.xt_names.specs.Lists.{greatest}

at_most_two : (s : Sight) → levels_added s ≤ 2
at_most_two named = omega arith
at_most_two focused = omega arith
at_most_two absent = omega arith

-- an expression that is carried
pub fine_carried : (w : Setting) → HasLocalKeys w → (s : Sight) (e : Expr) → is_leaf e ≡ true →
    Fine 42 (carried w e s)
unfolding is_leaf
fine_carried w keys s e h =
    let p = and_parts (nat_le (nest_of e) 40) (is_regular_expr e) h in
    let a = leb-true (nest_of e) 40 p.0 in let b = at_most_two s in let c = nest_carried w e s in
    record { nests = omega arith; is_regular = (regular_carried w keys e s).regular p.1 }

fine_one_of : (n : ℕ) → 1 ≤ n → (es : List Expr) → Every (Fine n) es → Fine (suc n) (one_of_tests es)
unfolding one_of_tests
fine_one_of n l [] none = higher (suc n) (omega arith) (fine_library 0 _ [] none)
fine_one_of n l (e ∷ []) (more h none) = higher (suc n) (omega arith) h
fine_one_of n l (e ∷ f ∷ es) h = fine_or n e f es h

makes_fit : (m : ℕ) (is_node : Bool) (e : Expr) → Fine (6 * m + 76) e →
    PartFits (record { levels = 1 + m; binds = false }) (makes is_node e)
makes_fit m is_node e h = fits_makes refl (higher (6 * (1 + m) + 70) (omega arith) h)

module _ (t : Table) (keys : (name : List ℕ) → (t.keys name).uri ≡ local_uri)
    (tested : Pattern → Bool) (matches : (p : Pattern) → tested p ≡ true → Fine 60 (t.matches p)) where
  carries : (p : Place) → CarriesTo 42 (carried_at t p)
  carries p e h = fine_carried (setting_at t p) keys (sight_at p) e h

  tests_fine : (ps : List Pattern) → list_all tested ps ≡ true → Every (Fine 60) (map t.matches ps)
  tests_fine [] h = none
  tests_fine (p ∷ ps) h =
      let q = and_parts (tested p) (list_all tested ps) h in more (matches p q.0) (tests_fine ps q.1)

  abbrev pub InstrIs : TheInstr → Type 0
  InstrIs x = has_leaves tested x ≡ true → (p : Place) → PartFits (nested_of x) (translated_instr t x p)

  abbrev pub ValueIs : TheValue → Type 0
  ValueIs x = value_has_leaves tested x ≡ true → (p : Place) (kind : Option SeqType) →
      is_regular_kind kind ≡ true → Fine (6 * value_nest_of x + 74) (translated_value t x p kind)

  abbrev pub BoundIs : TheBound → Type 0
  BoundIs x = bound_has_leaves tested x ≡ true → (p : Place) →
      Fine (6 * bound_nest_of x + 74) ((translated_bound t x).value p)

  abbrev pub WhenIs : TheWhen → Type 0
  WhenIs x = when_has_leaves tested x ≡ true → (p : Place) →
      FineArm (6 * when_nest_of x + 71) (translated_when t x p)

  -- parts, each with what is known of it
  abbrev known : Kinds
  known = record {
    Instrs = (x : TheInstr) × InstrIs x;
    Values = (x : TheValue) × ValueIs x;
    Bounds = (x : TheBound) × BoundIs x;
    Whens = (x : TheWhen) × WhenIs x;
  }

  abbrev all_leaves : List known.Instrs → Bool
  all_leaves ys = every (map (has_leaves tested) (map (λ y. y.0) ys))

  abbrev levels : List known.Instrs → List Nested
  levels ys = map nested_of (map (λ y. y.0) ys)

  abbrev parts_of : Place → List known.Instrs → List Part
  parts_of p ys = all_at p (map (translated_instr t) (map (λ y. y.0) ys))

  all_fit : (p : Place) (ys : List known.Instrs) → all_leaves ys ≡ true → AllFit (levels ys) (parts_of p ys)
  all_fit p [] h = none_fit
  all_fit p (y ∷ ys) h =
      let q = and_parts (has_leaves tested y.0) (all_leaves ys) h in
      more_fit (y.1 q.0 p) (all_fit p ys q.1)

  -- content
  abbrev most : List known.Instrs → ℕ
  most ys = most_levels (levels ys)

  content : (p : Place) (ys : List known.Instrs) → all_leaves ys ≡ true → (m : ℕ) → most ys ≤ m →
      Fine (6 * m + 71) (sequence_of (parts_of p ys))
  content p ys h m l = fine_sequence m (levels ys) (parts_of p ys) (all_fit p ys h) l

  -- tests and contents
  whens_fine : (p : Place) (ys : List known.Whens) (m : ℕ) →
      every (map (when_has_leaves tested) (map (λ y. y.0) ys)) ≡ true →
      greatest (map when_nest_of (map (λ y. y.0) ys)) ≤ m →
      Every (FineArm (6 * m + 71)) (all_at p (map (translated_when t) (map (λ y. y.0) ys)))
  whens_fine p [] m h l = none
  whens_fine p (y ∷ ys) m h l =
      let q = and_parts (when_has_leaves tested y.0) (every (map (when_has_leaves tested) (map (λ y. y.0) ys))) h in
      more (higher (6 * m + 71) (omega arith) (y.1 q.0 p)) (whens_fine p ys m q.1 (omega arith))

  -- what is passed
  given_fine : (p : Place) (ys : List known.Bounds) (m : ℕ) →
      every (map (bound_has_leaves tested) (map (λ y. y.0) ys)) ≡ true →
      greatest (map bound_nest_of (map (λ y. y.0) ys)) ≤ m →
      Every (FineClause (6 * m + 74)) (given_lets t p (map (translated_bound t) (map (λ y. y.0) ys)))
  given_fine p [] m h l = none
  given_fine p (y ∷ ys) m h l =
      let q = and_parts (bound_has_leaves tested y.0) (every (map (bound_has_leaves tested) (map (λ y. y.0) ys))) h in
      more (fine_let (6 * m + 74) _ _ (higher (6 * m + 74) (omega arith) (y.1 q.0 p)))
      (given_fine p ys m q.1 (omega arith))

  abbrev plain_instr : InstrLayer Expr Pattern known → InstrForm
  plain_instr =
      map-Instr Expr Pattern known.Instrs known.Values known.Bounds known.Whens TheInstr TheValue
      TheBound TheWhen (λ y. y.0) (λ y. y.0) (λ y. y.0) (λ y. y.0)

  abbrev leaves_asked : InstrForm → Bool
  leaves_asked x = (leaf_steps tested).of_instr (instr_mapped leaves (leaf_steps tested) x)

  abbrev nested_is : InstrForm → Nested
  nested_is x = nest_steps.of_instr (instr_mapped nests nest_steps x)

  abbrev part_is : InstrForm → Place → Part
  part_is x p = (part_steps t).of_instr (instr_mapped parts (part_steps t) x) p

  -- a text of `select` or content
  source_fine : (p : Place) (select : Option Expr) (ys : List known.Instrs) (s : Option Template) →
      if_leaf select ≡ true → all_leaves ys ≡ true → separator_leaves s ≡ true →
      Fine (6 * most ys + 73) (source_text (carried_at t p) select (sequence_of (parts_of p ys)) s)
  source_fine p select ys s h i j =
      let m = most ys in
      higher (6 * m + 73) (omega arith)
      (fine_source_text 42 (carried_at t p) (carries p) (6 * m + 70) (omega arith) (omega arith) select
      (sequence_of (parts_of p ys)) s h j (higher (suc (6 * m + 70)) (omega arith) (content p ys i m (omega arith))))

  no_separator : (p : Place) (select : Option Expr) (ys : List known.Instrs) → if_leaf select ≡ true →
      all_leaves ys ≡ true →
      Fine (6 * most ys + 73) (source_text (carried_at t p) select (sequence_of (parts_of p ys)) None)
  unfolding separator_leaves
  no_separator p select ys h i = source_fine p select ys None h i refl

  orders_fine : (p : Place) (n : ℕ) → 45 ≤ n → (sorts : List (Sort Expr)) → list_all sort_leaf sorts ≡ true →
      Every (FineOrder n) (orders_at t p sorts)
  orders_fine p n l sorts h =
      all_higher n l (fine_orders 42 (carried_at t p) (carries p) 42 (omega arith) (omega arith) sorts h)

  groups_fine : (p : Place) (m : ℕ) (select : Expr) (g : Grouping Expr Pattern) (orders : List Order) (body : Expr) →
      64 ≤ m → Fine m select → grouping_leaves tested g ≡ true → Every (FineOrder m) orders → Fine m body →
      Fine (suc (suc m)) (grouped_at t p select g orders body)
  unfolding grouping_leaves
  groups_fine p m select (By e) orders body l h i j k =
      fine_group_by 42 m (omega arith) (omega arith) select _ orders body h
      (fine_carried (grouping_setting t (looped p)) keys named e i) j k
  groups_fine p m select (Adjacent e) orders body l h i j k =
      fine_group_adjacent 42 m (omega arith) (omega arith) select _ orders body h
      (fine_carried (grouping_setting t (looped p)) keys named e i) j k
  groups_fine p m select (Starting patterns) orders body l h i j k =
      fine_group_starting 61 m (omega arith) (omega arith) select _ orders body h
      (fine_one_of 60 (omega arith) (map t.matches patterns) (tests_fine patterns i)) j k

  overridden_fine : (p : Place) (rule : Option RuleIn) (stem : List ℕ) (ys : List known.Bounds) (m : ℕ) →
      every (map (bound_has_leaves tested) (map (λ y. y.0) ys)) ≡ true →
      greatest (map bound_nest_of (map (λ y. y.0) ys)) ≤ m →
      Fine (6 * m + 76) (overridden t p rule (of_rule stem) (map (translated_bound t) (map (λ y. y.0) ys)))
  overridden_fine p None stem ys m h l = higher (6 * m + 76) (omega arith) fine_failing
  overridden_fine p (Some r) stem ys m h l =
      higher (6 * m + 76) (omega arith)
      (fine_with_given (6 * m + 74) (omega arith) t p _ _ (given_fine p ys m h l))

  instr_fits : (y : InstrLayer Expr Pattern known) → leaves_asked (plain_instr y) ≡ true → (p : Place) →
      PartFits (nested_is (plain_instr y)) (part_is (plain_instr y) p)
  instr_fits (Chars text) h p =
      makes_fit 0 true _ (higher 76 (omega arith) (fine_text_node 1 _ (fine_text text)))
  instr_fits (ValueOf select body separator) h p =
      let a = and_parts (if_leaf select) (all_leaves body && separator_leaves separator) h in
      let b = and_parts (all_leaves body) (separator_leaves separator) a.1 in let m = most body in
      makes_fit m true _ (higher (6 * m + 76) (omega arith)
      (fine_text_node (6 * m + 73) _ (source_fine p select body separator a.0 b.0 b.1)))
  instr_fits (Literal name attributes body) h p =
      let a = and_parts (list_all attribute_leaves attributes) (all_leaves body) h in let m = most body in
      makes_fit m true _ (higher (6 * m + 76) (omega arith)
      (fine_literal 42 (omega arith) (carried_at t p) (carries p) t.prefixes m name attributes _ a.0
      (fine_body m (levels body) (parts_of p body) (all_fit p body a.1) (omega arith))))
  instr_fits (Element name body) h p =
      let a = and_parts (template_leaves name.text) (all_leaves body) h in let m = most body in
      makes_fit m true _ (higher (6 * m + 76) (omega arith)
      (fine_element_with (6 * m + 72) (element_source t.prefixes (carried_at t p) name) _
      (source_higher 45 (6 * m + 72) (omega arith) _
      (fine_element_source 42 (carried_at t p) (carries p) 43 (omega arith) (omega arith) t.prefixes name a.0))
      (fine_element_content m _
      (fine_body m (levels body) (parts_of p body) (all_fit p body a.1) (omega arith)))))
  instr_fits (Attribute name select body separator) h p =
      let a = and_parts (template_leaves name.text)
      (if_leaf select && (all_leaves body && separator_leaves separator)) h in
      let b = and_parts (if_leaf select) (all_leaves body && separator_leaves separator) a.1 in
      let c = and_parts (all_leaves body) (separator_leaves separator) b.1 in let m = most body in
      makes_fit m false _ (higher (6 * m + 76) (omega arith)
      (fine_attribute_with (6 * m + 73) (attribute_source t.prefixes (carried_at t p) name) _
      (source_higher 45 (6 * m + 73) (omega arith) _
      (fine_attribute_source 42 (carried_at t p) (carries p) 43 (omega arith) (omega arith) t.prefixes name a.0))
      (source_fine p select body separator b.0 c.0 c.1)))
  instr_fits (Comment select body) h p =
      let a = and_parts (if_leaf select) (all_leaves body) h in let m = most body in
      makes_fit m true _ (higher (6 * m + 76) (omega arith)
      (fine_comment (6 * m + 73) _ (no_separator p select body a.0 a.1)))
  instr_fits (Pi name select body) h p =
      let a = and_parts (template_leaves name) (if_leaf select && all_leaves body) h in
      let b = and_parts (if_leaf select) (all_leaves body) a.1 in let m = most body in
      makes_fit m true _ (higher (6 * m + 76) (omega arith)
      (fine_pi_with (6 * m + 73) (target_source (carried_at t p) name) _
      (source_higher 44 (6 * m + 73) (omega arith) _
      (fine_target_source 42 (carried_at t p) (carries p) 43 (omega arith) (omega arith) name a.0))
      (bare_target (carried_at t p) name) (no_separator p select body b.0 b.1)))
  instr_fits (Document body) h p =
      let m = most body in
      makes_fit m true _ (higher (6 * m + 76) (omega arith)
      (fine_document (6 * m + 71) _ (content p body h m (omega arith))))
  instr_fits (Copy body) h p =
      let m = most body in
      makes_fit m false _ (higher (6 * m + 76) (omega arith)
      (fine_copy (6 * m + 71) (omega arith) p.has_focus _ (content p body h m (omega arith))))
  instr_fits (CopyOf e) h p =
      makes_fit 0 false _ (higher 76 (omega arith) (fine_copies 42 (omega arith) _ (carries p e h)))
  instr_fits (Sequence e) h p = makes_fit 0 false _ (higher 76 (omega arith) (carries p e h))
  instr_fits (If condition body) h p =
      let a = and_parts (is_leaf condition) (all_leaves body) h in let m = most body in
      makes_fit m false _ (higher (6 * m + 76) (omega arith)
      (fine_chain (6 * m + 71) (arm_of (carried_at t p condition, sequence_of (parts_of p body)) ∷ []) nothing
      (more (fine_arm (6 * m + 71) _ _ (higher (6 * m + 71) (omega arith) (carries p condition a.0))
      (content p body a.1 m (omega arith))) none) (higher (6 * m + 71) (omega arith) fine_nothing)))
  instr_fits (Choose whens other) h p =
      let g = greatest (map when_nest_of (map (λ y. y.0) whens)) in let m = max g (most other) in
      let a = and_parts (every (map (when_has_leaves tested) (map (λ y. y.0) whens))) (all_leaves other) h in
      makes_fit m false _ (higher (6 * m + 76) (omega arith)
      (fine_chain (6 * m + 71) _ _ (whens_fine p whens m a.0 (omega arith))
      (content p other a.1 m (omega arith))))
  instr_fits (ForEach select sorts body) h p =
      let a = and_parts (is_leaf select) (list_all sort_leaf sorts && all_leaves body) h in
      let b = and_parts (list_all sort_leaf sorts) (all_leaves body) a.1 in let m = most body in
      makes_fit m false _ (higher (6 * m + 76) (omega arith)
      (fine_each (6 * m + 71) (omega arith) _ _ _ (higher (6 * m + 71) (omega arith) (carries p select a.0))
      (orders_fine (looped p) (6 * m + 71) (omega arith) sorts b.0)
      (content (looped p) body b.1 m (omega arith))))
  instr_fits (ForEachGroup select grouping sorts body) h p =
      let a = and_parts (is_leaf select)
      (grouping_leaves tested grouping && (list_all sort_leaf sorts && all_leaves body)) h in
      let b = and_parts (grouping_leaves tested grouping) (list_all sort_leaf sorts && all_leaves body) a.1 in
      let c = and_parts (list_all sort_leaf sorts) (all_leaves body) b.1 in let m = most body in
      makes_fit m false _ (higher (6 * m + 76) (omega arith)
      (groups_fine p (6 * m + 71) _ grouping _ _ (omega arith)
      (higher (6 * m + 71) (omega arith) (carries p select a.0)) b.0
      (orders_fine (in_group p) (6 * m + 71) (omega arith) sorts c.0)
      (content (in_group p) body c.1 m (omega arith))))
  instr_fits (PerformSort select sorts body) h p =
      let a = and_parts (if_leaf select) (list_all sort_leaf sorts && all_leaves body) h in
      let b = and_parts (list_all sort_leaf sorts) (all_leaves body) a.1 in let m = most body in
      makes_fit m false _ (higher (6 * m + 76) (omega arith)
      (fine_sorted (6 * m + 71) (omega arith) _ _
      (fine_source_of 42 (carried_at t p) (carries p) (6 * m + 71) (omega arith) select _ a.0
      (content p body b.1 m (omega arith)))
      (orders_fine (looped p) (6 * m + 71) (omega arith) sorts b.0)))
  instr_fits (Variable bound) h p =
      fits_binds refl (omega arith)
      (higher (6 * (1 + bound_nest_of bound.0) + 69) (omega arith) (bound.1 h p))
  instr_fits (Apply select mode sorts given) h p =
      let m = greatest (map bound_nest_of (map (λ y. y.0) given)) in
      let a = and_parts (if_leaf select) (list_all sort_leaf sorts
      && every (map (bound_has_leaves tested) (map (λ y. y.0) given))) h in
      let b = and_parts (list_all sort_leaf sorts)
      (every (map (bound_has_leaves tested) (map (λ y. y.0) given))) a.1 in
      makes_fit m false _ (higher (6 * m + 76) (omega arith)
      (fine_applied (6 * m + 74) (omega arith) _ _ _ _
      (higher (6 * m + 74) (omega arith)
      (fine_sorted 45 (omega arith) (selection (carried_at t p) p select) (orders_at t (looped p) sorts)
      (fine_selection 42 45 (omega arith) (omega arith) (carried_at t p) (carries p) p select a.0)
      (orders_fine (looped p) 45 (omega arith) sorts b.0)))
      (given_fine p given m b.1 (omega arith)) (fine_arguments t p _)))
  instr_fits (ApplyImports given) h p =
      let m = greatest (map bound_nest_of (map (λ y. y.0) given)) in
      makes_fit m false _ (overridden_fine p p.rule (codes "im") given m h (omega arith))
  instr_fits (NextMatch given) h p =
      let m = greatest (map bound_nest_of (map (λ y. y.0) given)) in
      makes_fit m false _ (overridden_fine p p.rule (codes "nx") given m h (omega arith))
  instr_fits (CallTemplate place given) h p =
      let m = greatest (map bound_nest_of (map (λ y. y.0) given)) in
      makes_fit m false _ (higher (6 * m + 76) (omega arith)
      (fine_with_given (6 * m + 74) (omega arith) t p _ _ (given_fine p given m h (omega arith))))

  instr_step : (x : InstrForm) (y : InstrLayer Expr Pattern known) → plain_instr y ≡ x →
      InstrIs (roll-Instr Expr Pattern x)
  instr_step x y is h p =
      rw (
        ← is,
        instr_rolled nests nest_steps (plain_instr y),
        instr_rolled parts (part_steps t) (plain_instr y),
      )
      (instr_fits y (sym (instr_rolled leaves (leaf_steps tested) (plain_instr y))
      ∙ ap (λ z. has_leaves tested (roll-Instr Expr Pattern z)) is ∙ h) p)

  -- values
  abbrev plain_value : ValueLayer Expr Pattern known → ValueForm
  plain_value =
      map-Value Expr Pattern known.Instrs known.Values known.Bounds known.Whens TheInstr TheValue
      TheBound TheWhen (λ y. y.0) (λ y. y.0) (λ y. y.0) (λ y. y.0)

  content_value_fine : (m : ℕ) (kind : Option SeqType) (e : Expr) → is_regular_kind kind ≡ true →
      Fine (6 * m + 71) e → Fine (6 * m + 74) (content_value kind e)
  content_value_fine m None e h i = higher (6 * m + 74) (omega arith) (fine_document (6 * m + 71) e i)
  content_value_fine m (Some kind) e h i =
      higher (6 * m + 74) (omega arith) (fine_converted (6 * m + 71) (omega arith) (Some kind) e h i)

  value_fine : (y : ValueLayer Expr Pattern known) →
      (leaf_steps tested).of_value (value_mapped leaves (leaf_steps tested) (plain_value y)) ≡ true →
      (p : Place) (kind : Option SeqType) → is_regular_kind kind ≡ true →
      Fine (6 * nest_steps.of_value (value_mapped nests nest_steps (plain_value y)) + 74)
      ((part_steps t).of_value (value_mapped parts (part_steps t) (plain_value y)) p kind)
  value_fine (Select e) h p kind i =
      higher 74 (omega arith) (fine_converted 42 (omega arith) kind _ i (carries p e h))
  value_fine (Body body) h p kind i =
      let m = most body in content_value_fine m kind _ i (content p body h m (omega arith))
  value_fine EmptyText h p kind i = higher 74 (omega arith) (fine_text [])
  value_fine EmptyList h p kind i = higher 74 (omega arith) fine_nothing
  value_fine Required h p kind i = higher 74 (omega arith) fine_failing

  value_step : (x : ValueForm) (y : ValueLayer Expr Pattern known) → plain_value y ≡ x →
      ValueIs (roll-Value Expr Pattern x)
  value_step x y is h p kind i =
      rw (
        ← is,
        value_rolled nests nest_steps (plain_value y),
        value_rolled parts (part_steps t) (plain_value y),
      )
      (value_fine y (sym (value_rolled leaves (leaf_steps tested) (plain_value y))
      ∙ ap (λ z. value_has_leaves tested (roll-Value Expr Pattern z)) is ∙ h) p kind i)

  -- variables and parameters
  abbrev plain_bound : BoundLayer Expr Pattern known → BoundForm
  plain_bound =
      map-Bound Expr Pattern known.Instrs known.Values known.Bounds known.Whens TheInstr TheValue
      TheBound TheWhen (λ y. y.0) (λ y. y.0) (λ y. y.0) (λ y. y.0)

  bound_step : (x : BoundForm) (y : BoundLayer Expr Pattern known) → plain_bound y ≡ x →
      BoundIs (roll-Bound Expr Pattern x)
  bound_step x y is h p =
      let r : (is_regular_kind y.kind && value_has_leaves tested y.value.0) ≡ true =
      sym (bound_rolled leaves (leaf_steps tested) (plain_bound y))
      ∙ ap (λ z. bound_has_leaves tested (roll-Bound Expr Pattern z)) is ∙ h in
      let a = and_parts (is_regular_kind y.kind) (value_has_leaves tested y.value.0) r in
      rw (
        ← is,
        bound_rolled nests nest_steps (plain_bound y),
        bound_rolled parts (part_steps t) (plain_bound y),
      )
      (y.value.1 a.1 p y.kind a.0)

  -- tests and contents
  abbrev plain_when : WhenLayer Expr Pattern known → WhenForm
  plain_when =
      map-When Expr Pattern known.Instrs known.Values known.Bounds known.Whens TheInstr TheValue
      TheBound TheWhen (λ y. y.0) (λ y. y.0) (λ y. y.0) (λ y. y.0)

  when_step : (x : WhenForm) (y : WhenLayer Expr Pattern known) → plain_when y ≡ x →
      WhenIs (roll-When Expr Pattern x)
  when_step x y is h p =
      let r : (is_leaf y.test && all_leaves y.body) ≡ true =
      sym (when_rolled leaves (leaf_steps tested) (plain_when y))
      ∙ ap (λ z. when_has_leaves tested (roll-When Expr Pattern z)) is ∙ h in
      let a = and_parts (is_leaf y.test) (all_leaves y.body) r in let m = most y.body in
      rw (
        ← is,
        when_rolled nests nest_steps (plain_when y),
        when_rolled parts (part_steps t) (plain_when y),
      )
      (fine_arm (6 * m + 71) _ _ (higher (6 * m + 71) (omega arith) (carries p y.test a.0))
      (content p y.body a.1 m (omega arith)))

  pub whole_instr : (x : TheInstr) → InstrIs x
  whole_instr =
      ind-Instr Expr Pattern InstrIs ValueIs BoundIs WhenIs instr_step value_step bound_step when_step

  pub whole_value : (x : TheValue) → ValueIs x
  whole_value =
      ind-Value Expr Pattern InstrIs ValueIs BoundIs WhenIs instr_step value_step bound_step when_step

  pub whole_bound : (x : TheBound) → BoundIs x
  whole_bound =
      ind-Bound Expr Pattern InstrIs ValueIs BoundIs WhenIs instr_step value_step bound_step when_step

  all_instrs : (p : Place) (xs : List TheInstr) → every (map (has_leaves tested) xs) ≡ true →
      AllFit (map nested_of xs) (all_at p (map (translated_instr t) xs))
  all_instrs p [] h = none_fit
  all_instrs p (x ∷ xs) h =
      let q = and_parts (has_leaves tested x) (every (map (has_leaves tested) xs)) h in
      more_fit (whole_instr x q.0 p) (all_instrs p xs q.1)

  -- a sequence constructor
  pub whole_body : (p : Place) (xs : List TheInstr) → every (map (has_leaves tested) xs) ≡ true → (m : ℕ) →
      most_levels (map nested_of xs) ≤ m → Fine (6 * m + 71) (translated_body t xs p)
  whole_body p xs h m l =
      fine_sequence m (map nested_of xs) (all_at p (map (translated_instr t) xs)) (all_instrs p xs h) l
