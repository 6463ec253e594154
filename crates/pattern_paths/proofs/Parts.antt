-- The test of a pattern has each property that its forms keep.
use Rattle.std.proofs.Common.{◌≡◌, ℕ, List, [], ◌∷◌, ◌++◌, map, length, reverse, refl, ap, sym}
use Rattle.std.proofs.Common.{◌∙◌, subst}
use Rattle.std.proofs.Common.{Bool, true, false}
use Rattle.std.proofs.lemmas.List.{length-map, reverse-append}
use Rattle.std.specs.Prelude.{nat_le, if◌then◌else◌, codes}
use Rattle.std.specs.List.{list_all}
use Rattle.xt_types.specs.declared.axes.Axis.{Axis}
use Rattle.xt_types.specs.declared.axes.Axis.TheVariants as axis
use Rattle.xt_types.specs.declared.node_tests.NameTest.{NameTest}
use Rattle.xt_types.specs.declared.node_tests.NameTest.TheVariants.{Any, Uri, Local, Exact}
use Rattle.xt_types.specs.declared.node_tests.Test.{Test}
use Rattle.xt_types.specs.declared.node_tests.Test.TheVariants as test
use Rattle.xt_syntax.specs.declared.exprs.Expr.{Expr}
use Rattle.xt_syntax.specs.declared.exprs.Clause.TheViews.{out-Expr, roll-Expr, roll-out-Expr}
use Rattle.xt_syntax.specs.declared.exprs.Clause.TheOpen.{And, General, Slash, Step, Context, Str}
use Rattle.xt_syntax.specs.declared.patterns.Pattern.{Pattern}
use Rattle.xt_syntax.specs.declared.patterns.PatternStep.{PatternStep}
use Rattle.quiet_eval.specs.QuietPlaces.Free.{is_place_free_expr}
use Rattle.walk_laws.specs.QuietValues.Given.{has_quiet_form}
use Rattle.expr_meaning.specs.Outcomes.Outcome.{Every}
use Rattle.carried_exprs.specs.Forms.{ExprForm}
use Rattle.carried_exprs.specs.Sights.{the_item, library_call}
use Rattle.pattern_paths.specs.Predicates.{integer_castable, integer_nodes, integer_comparison}
use Rattle.pattern_paths.specs.Predicates.{unfailing_part}
use Rattle.pattern_paths.specs.Predicates.{unfailing_form, unfailing}
use Rattle.pattern_paths.specs.Upwards.{step, may_be_child, child_tests, attribute_of, name_tests}
use Rattle.pattern_paths.specs.Upwards.{has_text}
use Rattle.pattern_paths.specs.Upwards.{attribute_test, attribute_tests, kind_test, kind_tests}
use Rattle.pattern_paths.specs.Upwards.{parent, beside}
use Rattle.pattern_paths.specs.Upwards.{is_front, kept_among, kept_beside, predicates}
use Rattle.pattern_paths.specs.Upwards.{upward_tests, upward, towards, to_document, upward_from}
use Rattle.pattern_paths.specs.Matching.{any_match_test, path_along, some_along, longest_path}
use Rattle.pattern_paths.specs.Matching.{from_item, match_test}
use Rattle.pattern_paths.specs.Built.{IsKept, HasParts, is_some_at_all}

append_every : {A : Type 0} (P : A → Type 0) (xs ys : List A) → Every P xs → Every P ys →
    Every P (xs ++ ys)
append_every P [] ys h g = g
append_every P (x ∷ xs) ys h g = (h.0, append_every P xs ys h.1 g)

pub as_rolled : (e : Expr) (x : ExprForm) → out-Expr e ≡ x → e ≡ roll-Expr x
as_rolled e x h = sym (roll-out-Expr e) ∙ ap roll-Expr h

module _ (P : Expr → Type 0) (T : Test → Type 0) (k : IsKept P T) where
  -- predicates

  nodes_kept : (a : Expr) (x : ExprForm) → out-Expr a ≡ x → P a → P (integer_nodes a x)
  nodes_kept a (Step along wanted tests) h g =
      k.stepped along wanted (integer_castable ∷ [])
      (k.step_test along wanted tests (subst P (as_rolled a (Step along wanted tests) h) g))
      (k.castable, tt)
  nodes_kept a x h g = g

  comparison_kept : (e : Expr) (x : ExprForm) → out-Expr e ≡ x → P e → P (integer_comparison e x)
  comparison_kept e (General op a b) h g =
      let parts = k.compared_parts op a b (subst P (as_rolled e (General op a b) h) g) in
      k.compared op (integer_nodes a (out-Expr a)) b (nodes_kept a (out-Expr a) refl parts.0)
      parts.1
  comparison_kept e x h g = g

  part_kept : (e : Expr) → P e → P (unfailing_part e)
  part_kept e g = by (has_quiet_form e)
    where
      by : (b : Bool) → P (if b then e else integer_comparison e (out-Expr e))
      by true = g
      by false = comparison_kept e (out-Expr e) refl g

  parts_kept : (es : List Expr) → Every P es → Every P (map unfailing_part es)
  parts_kept [] g = tt
  parts_kept (e ∷ es) g = (part_kept e g.0, parts_kept es g.1)

  form_kept : (e : Expr) (x : ExprForm) → out-Expr e ≡ x → P e → P (unfailing_form e x)
  form_kept e (And all) h g =
      let whole = subst P (as_rolled e (And all) h) g in
      k.joined all (map unfailing_part all) whole (length-map all unfailing_part)
      (parts_kept all (k.joined_parts all whole))
  form_kept e x h g = comparison_kept e x h g

  unfailing_kept : (e : Expr) → P e → P (unfailing e)
  unfailing_kept e g = by (has_quiet_form e)
    where
      by : (b : Bool) → P (if b then e else unfailing_form e (out-Expr e))
      by true = g
      by false = form_kept e (out-Expr e) refl g

  all_unfailing : (es : List Expr) → Every P es → Every P (map unfailing es)
  all_unfailing [] g = tt
  all_unfailing (e ∷ es) g = (unfailing_kept e g.0, all_unfailing es g.1)

  -- which node

  child_kept : P may_be_child
  child_kept =
      k.negated _ (k.either _ _ [] (
        k.stepped axis.Itself test.Doc [] k.document tt,
        (k.stepped axis.Itself (test.Attr Any) [] k.attribute tt, tt),
      ))

  child_all : (wanted : Test) → Every P (child_tests wanted)
  child_all test.Node = (child_kept, tt)
  child_all test.Doc = (child_kept, tt)
  child_all (test.Attr names) = (child_kept, tt)
  child_all (test.Named names) = tt
  child_all (test.Elem names) = tt
  child_all test.Text = tt
  child_all test.Comment = tt
  child_all (test.Pi target) = tt

  text_kept : (function text : List ℕ) → P (library_call function []) → P (roll-Expr (Str text)) →
      P (has_text function text)
  text_kept function text f t = k.compared _ (library_call function []) (roll-Expr (Str text)) f t

  named_all : (names : NameTest) → T (test.Named names) → Every P (name_tests names)
  named_all Any t = tt
  named_all (Uri uri) t = (
    text_kept (codes "namespace-uri") uri k.uri_called (k.uri_text uri t),
    tt,
  )
  named_all (Local local) t = (
    text_kept (codes "local-name") local k.local_called
        (k.local_text local t),
    tt,
  )
  named_all (Exact name) t = tt

  attribute_named_all : (names : NameTest) → T (test.Attr names) → Every P (name_tests names)
  attribute_named_all Any t = tt
  attribute_named_all (Uri uri) t =
      (text_kept (codes "namespace-uri") uri k.uri_called (k.attribute_uri uri t), tt)
  attribute_named_all (Local local) t =
      (text_kept (codes "local-name") local k.local_called (k.attribute_local local t), tt)
  attribute_named_all (Exact name) t = tt

  attribute_all : (wanted : Test) → T wanted → Every P (attribute_tests wanted)
  attribute_all (test.Named names) t = named_all names t
  attribute_all (test.Attr names) t = attribute_named_all names t
  attribute_all test.Node t = tt
  attribute_all test.Text t = (k.never, tt)
  attribute_all test.Comment t = (k.never, tt)
  attribute_all (test.Pi target) t = (k.never, tt)
  attribute_all test.Doc t = (k.never, tt)
  attribute_all (test.Elem names) t = (k.never, tt)

  kind_all : (along : Axis) (wanted : Test) → T wanted → Every P (kind_tests along wanted)
  unfolding kind_tests
  kind_all axis.Attribute wanted t = attribute_all wanted t
  kind_all axis.Child wanted t = child_all wanted
  kind_all along wanted t = (k.never, tt)

  named_of : (names : NameTest) → T (test.Named names) → T (attribute_of names)
  named_of Any t = k.attribute
  named_of (Uri uri) t = k.attribute
  named_of (Local local) t = k.attribute
  named_of (Exact name) t = k.attribute_named name t

  attribute_of_own : (names : NameTest) → T (test.Attr names) → T (attribute_of names)
  attribute_of_own Any t = k.attribute
  attribute_of_own (Uri uri) t = k.attribute
  attribute_of_own (Local local) t = k.attribute
  attribute_of_own (Exact name) t = t

  attribute_kept : (wanted : Test) → T wanted → T (attribute_test wanted)
  attribute_kept (test.Named names) t = named_of names t
  attribute_kept (test.Attr names) t = attribute_of_own names t
  attribute_kept test.Node t = k.attribute
  attribute_kept test.Text t = k.attribute
  attribute_kept test.Comment t = k.attribute
  attribute_kept (test.Pi target) t = k.attribute
  attribute_kept test.Doc t = k.attribute
  attribute_kept (test.Elem names) t = k.attribute

  kind_kept : (along : Axis) (wanted : Test) → T wanted → T (kind_test along wanted)
  unfolding kind_test
  kind_kept axis.Attribute wanted t = attribute_kept wanted t
  kind_kept along wanted t = t

  -- predicates that look at their place

  parent_kept : P parent
  parent_kept = k.stepped axis.Parent test.Node [] k.node tt

  beside_kept : (along : Axis) (wanted : Test) → T wanted → P (beside along wanted)
  beside_kept along wanted t =
      k.chosen parent _ parent_kept (k.slashed parent (step along wanted []) parent_kept
      (k.stepped along wanted [] t tt))

  some_placed : (es : List Expr) → list_all is_place_free_expr es ≡ false →
      is_some_at_all (map unfailing es) ≡ true
  some_placed [] h = absurd cc
  some_placed (e ∷ es) h = refl

  abbrev StepParts : PatternStep → Type 0
  StepParts s = T s.test × Every P s.quiet

  beside_among : (alone : Bool) (s : PatternStep) → StepParts s → list_all is_place_free_expr
      s.quiet ≡ false →
      P (kept_beside alone s)
  beside_among true s g h =
      k.filtered (beside s.axis s.test) (map unfailing s.quiet) (some_placed s.quiet h)
      (beside_kept s.axis s.test g.0) (all_unfailing s.quiet g.1)
  beside_among false s g h =
      k.slashed parent (step s.axis s.test (map unfailing s.quiet)) parent_kept
      (k.stepped s.axis s.test (map unfailing s.quiet) g.0 (all_unfailing s.quiet g.1))

  predicates_kept : (alone : Bool) (s : PatternStep) → StepParts s → Every P (predicates alone s)
  predicates_kept alone s g = by (list_all is_place_free_expr s.quiet) refl
    where
      by : (b : Bool) → list_all is_place_free_expr s.quiet ≡ b →
          Every P (if b then map unfailing s.quiet else kept_among alone s ∷ [])
      by true e = all_unfailing s.quiet g.1
      by false e = (
        k.intersected (kept_beside alone s) (roll-Expr Context) (beside_among alone s g e)
            k.context,
        tt,
      )

  -- steps

  upward_kept : (alone : Bool) (up : Axis) (s : PatternStep) → StepParts s → P (upward alone up s)
  upward_kept alone up s g =
      k.stepped up (kind_test s.axis s.test) (upward_tests alone s) (kind_kept s.axis s.test g.0)
      (append_every P (kind_tests s.axis s.test) (predicates alone s) (kind_all s.axis s.test g.0)
      (predicates_kept alone s g))

  document_kept : (rooted : Bool) (up : Axis) → Every P (to_document rooted up)
  document_kept true up = (k.stepped up test.Doc [] k.document tt, tt)
  document_kept false up = tt

  steps_kept : (rooted : Bool) (up : Axis) (steps : List PatternStep) → Every StepParts steps →
      Every P (upward_from rooted up steps)
  steps_kept rooted up [] g = document_kept rooted up
  steps_kept rooted up (s ∷ before) g = (
    upward_kept (is_front rooted before) up s g.0,
    steps_kept rooted (towards s.deep) before
        g.1,
  )

  path_kept : (a : Expr) (es : List Expr) → P a → Every P es → P (path_along a es)
  path_kept a [] g h = g
  path_kept a (e ∷ es) g h = path_kept (roll-Expr (Slash a e)) es (k.slashed a e g h.0) h.1

  many : (es : List Expr) → nat_le (length es) longest_path ≡ false → is_some_at_all es ≡ true
  many [] h = absurd cc
  many (e ∷ es) h = refl

  from_item_kept : (es : List Expr) → Every P es → P (from_item es)
  from_item_kept es g = by (nat_le (length es) longest_path) refl
    where
      by : (b : Bool) → nat_le (length es) longest_path ≡ b →
          P (if b then path_along the_item es else some_along es)
      by true e = path_kept the_item es k.item g
      by false e = k.bound es (many es e) g

  turned_every : (steps : List PatternStep) → Every StepParts steps →
      Every StepParts (reverse steps)
  turned_every [] g = tt
  turned_every (s ∷ steps) g =
      subst (Every StepParts) (sym (reverse-append (s ∷ []) steps))
      (append_every StepParts (reverse steps) (s ∷ []) (turned_every steps g.1) (g.0, tt))

  pub pattern_kept : (p : Pattern) → HasParts P T p → P (match_test p)
  pattern_kept p g =
      from_item_kept (upward_from p.rooted axis.Itself (reverse p.steps))
      (steps_kept p.rooted axis.Itself (reverse p.steps) (turned_every p.steps g))

  patterns_kept : (ps : List Pattern) → Every (HasParts P T) ps → Every P (map match_test ps)
  patterns_kept [] g = tt
  patterns_kept (p ∷ ps) g = (pattern_kept p g.0, patterns_kept ps g.1)

  pub alternatives_kept : (ps : List Pattern) → Every (HasParts P T) ps → P (any_match_test ps)
  alternatives_kept [] g = k.never
  alternatives_kept (p ∷ []) g = pattern_kept p g.0
  alternatives_kept (p ∷ q ∷ more) g =
      k.either (match_test p) (match_test q) (map match_test more) (patterns_kept (p ∷ q ∷ more) g)
