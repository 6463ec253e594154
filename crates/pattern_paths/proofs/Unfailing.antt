-- The predicates of a pattern decide in every program as they do in the pattern, and fail nowhere.
use Rattle.std.proofs.Common.{◌≡◌, ℤ, List, [], ◌∷◌, map, refl, ap, ap₂, sym, ◌∙◌, subst, Bool}
use Rattle.std.proofs.Common.{true, false}
use Rattle.std.specs.Prelude.{◌||◌, if◌then◌else◌, nat_eq, length}
use Rattle.std.specs.List.{list_all, filter}
use Rattle.std.proofs.lemmas.Bool.{and_parts}
use Rattle.xt_names.specs.declared.kinds.CompareOp.{CompareOp}
use Rattle.xt_tree.specs.Place.{Place}
use Rattle.xt_forms.specs.Quiet as forms
use Rattle.xt_forms.specs.Quiet.{quiet_form_of}
use Rattle.xt_syntax.specs.declared.exprs.Expr.{Expr}
use Rattle.xt_syntax.specs.declared.exprs.Clause.TheViews.{out-Expr, roll-Expr}
use Rattle.xt_syntax.specs.declared.exprs.Clause.TheOpen.{Int, And, General}
use Rattle.xdm_items.specs.FunctionArguments.Answers.{of_truth}
use Rattle.node_axes.specs.StepWalks.Nodes.{Focus}
use Rattle.xt_atoms.specs.declared.atoms.Atom.TheVariants as atom
use Rattle.quiet_meaning.specs.Values.{some_compares}
use Rattle.quiet_meaning.specs.Forms.{form_of}
use Rattle.quiet_meaning.specs.Quietly.{Quietly, integer, last}
use Rattle.quiet_meaning.specs.Quietly.{attribute, step, path, condition, numeric, conjunction}
use Rattle.quiet_meaning.specs.Quietly.{other}
use Rattle.quiet_meaning.specs.Quietly.{quietly_of, is_truth, is_numeric, is_predicate}
use Rattle.quiet_meaning.specs.Quietly.{is_pattern_form, holds_at}
use Rattle.quiet_meaning.specs.Quietly.{holds_all, is_conjunction, all_of, compared}
use Rattle.quiet_meaning.specs.Quietly.{compared_with_integer}
use Rattle.quiet_meaning.specs.Paths.{are_allowed, keeps}
use Rattle.quiet_meaning.proofs.FormLemmas.{gives_quietly, all_are_alike}
use Rattle.expr_meaning.specs.Outcomes.Outcome.{Ends}
use Rattle.expr_meaning.specs.Env.{Meaning, Program}
use Rattle.expr_meaning.specs.Logic.{as_items}
use Rattle.expr_meaning.specs.Meaning.{outcome}
use Rattle.expr_laws.proofs.Rolled.{rolled}
use Rattle.walk_laws.specs.QuietValues.Given.{at_node, given_at, has_quiet_form}
use Rattle.walk_laws.proofs.QuietValues.Truths.{Agrees, AllAgree, first_agrees}
use Rattle.walk_laws.proofs.QuietValues.Whole.{as_given}
use Rattle.carried_exprs.specs.Forms.{ExprForm}
use Rattle.pattern_paths.specs.Predicates.{integer_nodes, integer_comparison, unfailing_part}
use Rattle.pattern_paths.specs.Predicates.{unfailing_form, unfailing}
use Rattle.pattern_paths.proofs.Origins.{a_comparison, an_and, origin, may_give}
use Rattle.pattern_paths.proofs.Origins.{its_origin, quiet_by_form}
use Rattle.pattern_paths.proofs.Whole.{numeric_agrees, nodes, whole_step}
use Rattle.pattern_paths.proofs.Comparisons.{is_numeric_of, an_integer_is, an_attribute_is}
use Rattle.pattern_paths.proofs.Parts.{as_rolled}

-- the form of what a predicate becomes: what is compared with an integer is a condition

abbrev pub plain_form : Quietly → Quietly
plain_form (numeric c) = condition c
plain_form (conjunction c) = condition c
plain_form q = q

pub plain_holds : (q : Quietly) (f : Focus) → holds_at (plain_form q) f ≡ holds_at q f
unfolding holds_at
plain_holds (numeric c) f = refl
plain_holds (conjunction c) f = refl
plain_holds q f = refl

pub plain_predicate : (q : Quietly) → is_pattern_form q ≡ true → is_predicate (plain_form q) ≡ true
unfolding is_pattern_form is_predicate
plain_predicate (integer n) h = refl
plain_predicate last h = refl
plain_predicate (attribute g) h = refl
plain_predicate (step g) h = refl
plain_predicate (path g) h = refl
plain_predicate (condition c) h = refl
plain_predicate (numeric c) h = refl
plain_predicate (conjunction c) h = refl
plain_predicate q h = absurd cc

-- quiet predicates are none of these

quiet_is_plain : (q : Quietly) → forms.is_predicate (form_of q) ≡ true → plain_form q ≡ q
unfolding form_of forms.is_predicate
quiet_is_plain (numeric c) h = absurd cc
quiet_is_plain (conjunction c) h = absurd cc
quiet_is_plain q h = refl

quiet_agrees : (p : Program) (e : Expr) → has_quiet_form e ≡ true →
    Agrees (plain_form (quietly_of e)) (outcome p e)
quiet_agrees p e h =
    subst (λ q. Agrees q (outcome p e))
    (sym (quiet_is_plain (quietly_of e) (ap forms.is_predicate (all_are_alike e) ∙ h)))
    (as_given p e)

-- .. and other allowed predicates are

pub data IsLoud (q : Quietly) : Type 0 where
  compares : (c : Focus → Bool) → q ≡ numeric c → IsLoud q
  joins : (c : Focus → Bool) → q ≡ conjunction c → IsLoud q

loud : (q : Quietly) → is_pattern_form q ≡ true → forms.is_predicate (form_of q) ≡ false → IsLoud q
unfolding is_pattern_form form_of forms.is_predicate
loud (numeric c) h g = compares c refl
loud (conjunction c) h g = joins c refl
loud q h g = absurd cc

loud_here : (e : Expr) → is_pattern_form (quietly_of e) ≡ true → has_quiet_form e ≡ false →
    IsLoud (quietly_of e)
loud_here e h g = loud (quietly_of e) h (ap forms.is_predicate (all_are_alike e) ∙ g)

-- the comparison decides as in the pattern

numeric_inside : (c d : Focus → Bool) → numeric c ≡ numeric d → c ≡ d
numeric_inside c d h = cc

conjunction_inside : (c d : Focus → Bool) → conjunction c ≡ conjunction d → c ≡ d
conjunction_inside c d h = cc

comparison_inside : (op : CompareOp) (k : ℤ) (g : Place → List Place) (c : Focus → Bool) →
    compared op (attribute g) (integer k) ≡ numeric c →
    (λ f. some_compares op (atom.Int k) (g f.node)) ≡ c
unfolding compared compared_with_integer
comparison_inside op k g c h = numeric_inside (λ f. some_compares op (atom.Int k) (g f.node)) c h

module _ (p : Program) where
  comparison_agrees : (op : CompareOp) (a b : Expr) (c : Focus → Bool) →
      compared op (quietly_of a) (quietly_of b) ≡ numeric c →
      Agrees (condition c) (outcome p (roll-Expr (General op (integer_nodes a (out-Expr a)) b)))
  comparison_agrees op a b c h =
      let d = is_numeric_of op (quietly_of a) (quietly_of b) c h in
      let y = an_integer_is b d.number d.right in
      let s = an_attribute_is a d.path d.left in
      let k = d.number in
      let same : (λ f. some_compares op (atom.Int k) (nodes op k s.wanted f.node)) ≡ c =
      ap {B = Focus → Bool} (λ (g : Place → List Place) (f : Focus). some_compares op (atom.Int k)
      (g f.node)) (sym s.leads)
      ∙ comparison_inside op k d.path c (ap₂ (λ x z. compared op x z) (sym d.left) (sym d.right)
      ∙ h) in
      let parts : roll-Expr (General op (whole_step op k s.wanted) (roll-Expr (Int k)))
      ≡ roll-Expr (General op (integer_nodes a (out-Expr a)) b) =
      sym (ap₂ (λ x z. roll-Expr (General op x z)) (ap (integer_nodes a) s.is)
      (as_rolled b (Int k) y)) in
      subst (λ z. Agrees (condition z)
      (outcome p (roll-Expr (General op (integer_nodes a (out-Expr a)) b)))) same
      (subst (λ e. Agrees (condition (λ f. some_compares op (atom.Int k)
      (nodes op k s.wanted f.node))) (outcome p e))
      parts (numeric_agrees op k s.wanted p))

  numeric_form : (e : Expr) (c : Focus → Bool) (x : ExprForm) → out-Expr e ≡ x →
      may_give x a_comparison ≡ true → gives_quietly x ≡ numeric c →
      Agrees (condition c) (outcome p (integer_comparison e x))
  numeric_form e c (General op a b) h m q = comparison_agrees op a b c q
  numeric_form e c x h m q = absurd cc

  numeric_origin : (c : Focus → Bool) → origin (numeric c) ≡ a_comparison
  unfolding origin
  numeric_origin c = refl

  whole_agrees : (e : Expr) (c : Focus → Bool) → quietly_of e ≡ numeric c →
      Agrees (condition c) (outcome p (integer_comparison e (out-Expr e)))
  whole_agrees e c h =
      numeric_form e c (out-Expr e) refl
      (its_origin e a_comparison (ap origin h ∙ numeric_origin c))
      (sym (quiet_by_form e) ∙ h)

  -- the parts of an `and` of which one is such a comparison

  abbrev is_part : Quietly → Bool
  is_part q = is_truth q || is_numeric q

  part_truth : (q : Quietly) → is_part q ≡ true → is_truth (plain_form q) ≡ true
  unfolding is_truth is_numeric
  part_truth (attribute g) h = refl
  part_truth (step g) h = refl
  part_truth (path g) h = refl
  part_truth (condition c) h = refl
  part_truth (numeric c) h = refl
  part_truth q h = absurd cc

  part_allowed : (q : Quietly) → is_part q ≡ true → is_pattern_form q ≡ true
  unfolding is_truth is_numeric is_pattern_form
  part_allowed (attribute g) h = refl
  part_allowed (step g) h = refl
  part_allowed (path g) h = refl
  part_allowed (condition c) h = refl
  part_allowed (numeric c) h = refl
  part_allowed q h = absurd cc

  no_and : (c : Focus → Bool) (q : Quietly) → q ≡ conjunction c → is_part q ≡ true → ⊥
  unfolding is_truth is_numeric
  no_and c q e h = let g : false ≡ true = ap is_part (sym e) ∙ h in absurd cc

  loud_part : (e : Expr) → is_part (quietly_of e) ≡ true → IsLoud (quietly_of e) →
      Agrees (plain_form (quietly_of e)) (outcome p (integer_comparison e (out-Expr e)))
  loud_part e h (compares c q) =
      subst (λ r. Agrees (plain_form r) (outcome p (integer_comparison e (out-Expr e)))) (sym q)
      (whole_agrees e c q)
  loud_part e h (joins c q) = absurd (no_and c (quietly_of e) q h)

  part_agrees : (e : Expr) → is_part (quietly_of e) ≡ true →
      Agrees (plain_form (quietly_of e)) (outcome p (unfailing_part e))
  part_agrees e h = by (has_quiet_form e) refl
    where
      by : (b : Bool) → has_quiet_form e ≡ b →
          Agrees (plain_form (quietly_of e))
          (outcome p (if b then e else integer_comparison e (out-Expr e)))
      by true g = quiet_agrees p e g
      by false g = loud_part e h (loud_here e (part_allowed (quietly_of e) h) g)

  abbrev plain_forms : List Expr → List Quietly
  plain_forms all = map plain_form (map quietly_of all)

  parts_agree : (all : List Expr) → list_all is_part (map quietly_of all) ≡ true →
      AllAgree (plain_forms all) (map (outcome p) (map unfailing_part all))
  parts_agree [] h = tt
  parts_agree (e ∷ all) h =
      let g = and_parts (is_part (quietly_of e)) (list_all is_part (map quietly_of all)) h in
      (part_agrees e g.0, parts_agree all g.1)

  parts_truths : (qs : List Quietly) → list_all is_part qs ≡ true →
      list_all is_truth (map plain_form qs) ≡ true
  parts_truths [] h = refl
  parts_truths (q ∷ qs) h =
      let g = and_parts (is_part q) (list_all is_part qs) h in
      rw (part_truth q g.0, parts_truths qs g.1) refl

  all_plain : (f : Focus) (qs : List Quietly) →
      list_all (λ q. holds_at q f) (map plain_form qs) ≡ holds_all qs f
  all_plain f [] = refl
  all_plain f (q ∷ qs) = rw (plain_holds q f, all_plain f qs) refl

  and_agrees : (all : List Expr) → list_all is_part (map quietly_of all) ≡ true →
      Agrees (condition (holds_all (map quietly_of all)))
      (outcome p (roll-Expr (And (map unfailing_part all))))
  unfolding given_at
  and_agrees all h v env f c k =
      ap (λ (m : Meaning). m (at_node env f) k) (rolled p (And (map unfailing_part all)))
      ∙ ap as_items (first_agrees false (plain_forms all)
      (map (outcome p) (map unfailing_part all))
      (parts_agree all h) (parts_truths (map quietly_of all) h) env f c k)
      ∙ ap (λ b. Ends (of_truth b) k) (all_plain f (map quietly_of all))

  joined_agrees : (all : List Expr) (c : Focus → Bool) → all_of (map quietly_of all)
      ≡ conjunction c →
      Agrees (condition c) (outcome p (roll-Expr (And (map unfailing_part all))))
  joined_agrees all c h =
      by (list_all is_truth (map quietly_of all)) (is_conjunction (map quietly_of all)) refl h
    where
      by : (b d : Bool) → is_conjunction (map quietly_of all) ≡ d →
          (if b then condition (holds_all (map quietly_of all))
          else if d then conjunction (holds_all (map quietly_of all)) else other) ≡ conjunction c →
          Agrees (condition c) (outcome p (roll-Expr (And (map unfailing_part all))))
      by true d e g = absurd cc
      by false true e g =
          let parts = and_parts (list_all is_part (map quietly_of all))
          (nat_eq (length (filter is_numeric (map quietly_of all))) 1) e in
          subst (λ z. Agrees (condition z) (outcome p (roll-Expr (And (map unfailing_part all)))))
          (conjunction_inside (holds_all (map quietly_of all)) c g) (and_agrees all parts.0)
      by false false e g = absurd cc

  conjunction_form : (e : Expr) (c : Focus → Bool) (x : ExprForm) → out-Expr e ≡ x →
      may_give x an_and ≡ true → gives_quietly x ≡ conjunction c →
      Agrees (condition c) (outcome p (unfailing_form e x))
  conjunction_form e c (And all) h m q = joined_agrees all c q
  conjunction_form e c x h m q = absurd cc

  conjunction_origin : (c : Focus → Bool) → origin (conjunction c) ≡ an_and
  unfolding origin
  conjunction_origin c = refl

  alone_form : (e : Expr) (x : ExprForm) → may_give x a_comparison ≡ true →
      unfailing_form e x ≡ integer_comparison e x
  alone_form e (General op a b) m = refl
  alone_form e x m = absurd cc

  loud_agrees : (e : Expr) → IsLoud (quietly_of e) →
      Agrees (plain_form (quietly_of e)) (outcome p (unfailing_form e (out-Expr e)))
  loud_agrees e (compares c q) =
      let m = its_origin e a_comparison (ap origin q ∙ numeric_origin c) in
      subst (λ r. Agrees (plain_form r) (outcome p (unfailing_form e (out-Expr e)))) (sym q)
      (subst (λ z. Agrees (condition c) (outcome p z)) (sym (alone_form e (out-Expr e) m))
      (whole_agrees e c q))
  loud_agrees e (joins c q) =
      subst (λ r. Agrees (plain_form r) (outcome p (unfailing_form e (out-Expr e)))) (sym q)
      (conjunction_form e c (out-Expr e) refl
      (its_origin e an_and (ap origin q ∙ conjunction_origin c))
      (sym (quiet_by_form e) ∙ q))

  pub unfailing_agrees : (e : Expr) → is_pattern_form (quietly_of e) ≡ true →
      Agrees (plain_form (quietly_of e)) (outcome p (unfailing e))
  unfailing_agrees e h = by (has_quiet_form e) refl
    where
      by : (b : Bool) → has_quiet_form e ≡ b →
          Agrees (plain_form (quietly_of e))
          (outcome p (if b then e else unfailing_form e (out-Expr e)))
      by true g = quiet_agrees p e g
      by false g = loud_agrees e (loud_here e h g)

  -- all predicates of a step

  pub unfailing_all : (es : List Expr) → are_allowed es ≡ true →
      AllAgree (map plain_form (map quietly_of es)) (map (outcome p) (map unfailing es))
  unfailing_all [] h = tt
  unfailing_all (e ∷ es) h =
      let g = and_parts (is_pattern_form (quietly_of e)) (are_allowed es) h in
      (unfailing_agrees e g.0, unfailing_all es g.1)

pub unfailing_predicates : (es : List Expr) → are_allowed es ≡ true →
    list_all is_predicate (map plain_form (map quietly_of es)) ≡ true
unfailing_predicates [] h = refl
unfailing_predicates (e ∷ es) h =
    let g = and_parts (is_pattern_form (quietly_of e)) (are_allowed es) h in
    rw (plain_predicate (quietly_of e) g.0, unfailing_predicates es g.1) refl

-- .. keep what the pattern's predicates keep
pub plain_keeps : (es : List Expr) → map holds_at (map plain_form (map quietly_of es)) ≡ keeps es
plain_keeps [] = refl
plain_keeps (e ∷ es) =
    ap₂ (λ h hs. h ∷ hs) (λ i f. plain_holds (quietly_of e) f i) (plain_keeps es)
