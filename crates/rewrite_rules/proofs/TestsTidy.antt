-- The rules for not() and boolean() give what is tidier.
use Rattle.std.proofs.Common.{◌≡◌, ℕ, ◌+◌, ◌≤◌, ◌<◌, max, List, [], ◌∷◌, map, ap, sym, ◌∙◌, subst, arith}
use Rattle.std.specs.Prelude.{Bool, true, false, ◌||◌, Option, Some, None, codes}
use Rattle.xt_names.specs.declared.names.ExprName.{ExprName}
use Rattle.xt_forms.specs.Nest.{nest_of, arm_nest_of, clause_nest_of, order_nest_of}
use Rattle.xt_syntax.specs.declared.exprs.Expr.{Expr}
use Rattle.xt_syntax.specs.declared.exprs.Arm.{Arm}
use Rattle.xt_syntax.specs.declared.exprs.Clause.{Clause}
use Rattle.xt_syntax.specs.declared.exprs.Order.{Order}
use Rattle.xt_syntax.specs.declared.exprs.Clause.TheOpen.{If, And, Or, Call, Flwor}
use Rattle.xt_syntax.specs.declared.exprs.Clause.TheViews.{out-Expr, roll-Expr, roll-out-Expr, out-Arm}
use Rattle.xt_syntax.specs.declared.exprs.Clause.TheViews.{out-Flwor, roll-out-Flwor}
use Rattle.expr_meaning.specs.Env.{Program}
use Rattle.expr_meaning.specs.Meaning.{outcome}
use Rattle.rewrite_rules.specs.Forms.{ExprForm, some_of}
use Rattle.rewrite_rules.specs.Known.{Known, constant, negation, emptiness, existence, truth, unknown}
use Rattle.rewrite_rules.specs.Known.{known, call}
use Rattle.rewrite_rules.specs.Sizes.{size_of}
use Rattle.rewrite_rules.specs.Law.{OnSome, IsTidier, Tidies, Same}
use Rattle.rewrite_rules.specs.Logic.{connected}
use Rattle.rewrite_rules.specs.Tests.{turned, negated_test, rule_4, is_boolean, bare, bare_arm}
use Rattle.rewrite_rules.specs.Tests.{is_boolean_arm, bare_where, bare_negated, rule_5_form, rule_5}
use Rattle.rewrite_rules.proofs.KnownMeans.{Means, known_means}
use Rattle.rewrite_rules.proofs.Measured.{size_rolled, nest_rolled, arm_size_of, arm_size, arm_nest}
use Rattle.rewrite_rules.proofs.Measured.{arm_size_rolled, arm_nest_rolled, flow_size, flow_nest}
use Rattle.rewrite_rules.proofs.Measured.{clause_size_of, order_size_of}
use Rattle.rewrite_rules.proofs.TestsSame.{negation_same, not_same, choice_bare, parts_same}
use Rattle.rewrite_rules.proofs.FlowsSame.{where_same, flow_form, flow_expr}
use Rattle.rewrite_rules.proofs.KnownSizes.{OneMore, Measures, known_measures, call_more, bare_size}
use Rattle.rewrite_rules.proofs.KnownSizes.{bare_nest, bares_size, bares_nest}
use Rattle.rewrite_rules.proofs.LogicTidy.{connected_size, connected_nest}
use Rattle.rewrite_rules.proofs.Counts.{count, count_or, if_some, sizes, nests_in, arm_sizes, arm_nests}
use Rattle.xt_names.specs.Lists.{greatest, total}
use Rattle.xt_names.specs.ExprNames.{library_name}

-- not() of empty() and of exists()
abbrev Smaller : Expr → Expr → Type 0
Smaller e r = (nest_of r ≤ nest_of e) × (size_of r < size_of e)

two_more : (e a x r : Expr) → OneMore a e → OneMore x a → OneMore x r → Smaller e r
two_more e a x r h i j = (
  deep (nest_of x) (nest_of a) (nest_of r) (nest_of e) i.1 h.1 j.1,
  less (size_of x) (size_of a) (size_of r) (size_of e) i.0 h.0 j.0,
)
  where
    deep : (x a r e : ℕ) → a ≡ 1 + x → e ≡ 1 + a → r ≡ 1 + x → r ≤ e
    deep x a r e h i j = omega arith

    less : (x a r e : ℕ) → a ≡ 1 + x → e ≡ 1 + a → r ≡ 1 + x → r < e
    less x a r e h i j = omega arith

turned_smaller : (e a : Expr) (d : Known) → OneMore a e → Measures d a →
    OnSome (Smaller e) (turned d)
turned_smaller e a (emptiness x) h i =
    two_more e a x (call (codes "exists") (x ∷ [])) h i (call_more (library_name (codes "exists")) x)
turned_smaller e a (existence x) h i =
    two_more e a x (call (codes "empty") (x ∷ [])) h i (call_more (library_name (codes "empty")) x)
turned_smaller e a (constant t) h i = tt
turned_smaller e a (negation x) h i = tt
turned_smaller e a (truth x) h i = tt
turned_smaller e a unknown h i = tt

negated_smaller : (e : Expr) (d : Known) → Measures d e → OnSome (Smaller e) (negated_test d)
negated_smaller e (negation a) h = turned_smaller e a (known a) h (known_measures a)
negated_smaller e (constant t) h = tt
negated_smaller e (emptiness a) h = tt
negated_smaller e (existence a) h = tt
negated_smaller e (truth a) h = tt
negated_smaller e unknown h = tt

both : (bound : List ExprName) (e : Expr) (r : Option Expr) → OnSome (λ v. Same v e) r →
    OnSome (Smaller e) r → OnSome (IsTidier bound e) r
both bound e None s m = tt
both bound e (Some v) s m = record { same = λ p env b k. s p env k; nest = m.0; size = m.1 }

pub rule_4_tidies : Tidies rule_4
rule_4_tidies bound e =
    both bound e (negated_test (known e)) (negation_same e)
    (negated_smaller e (known e) (known_measures e))

-- boolean() as a test of an `if`
bare_arm_size : (a : Arm) → arm_size_of (bare_arm a) + count (is_boolean_arm a) ≤ arm_size_of a
bare_arm_size a =
    subst (λ n. n + count (is_boolean_arm a) ≤ arm_size_of a)
    (sym (arm_size_rolled (record { test = bare (out-Arm a).test; then = (out-Arm a).then })))
    (subst (λ n. (size_of (bare (out-Arm a).test) + size_of (out-Arm a).then) + count (is_boolean_arm a) ≤ n)
    (sym (arm_size a))
    (by (size_of (bare (out-Arm a).test)) (size_of (out-Arm a).test) (size_of (out-Arm a).then)
    (count (is_boolean_arm a)) (bare_size (out-Arm a).test)))
  where
    by : (b t s c : ℕ) → b + c ≤ t → (b + s) + c ≤ t + s
    by b t s c h = omega arith

bare_arm_nest : (a : Arm) → arm_nest_of (bare_arm a) ≤ arm_nest_of a
bare_arm_nest a =
    subst (λ n. n ≤ arm_nest_of a)
    (sym (arm_nest_rolled (record { test = bare (out-Arm a).test; then = (out-Arm a).then })))
    (subst (λ n. max (nest_of (bare (out-Arm a).test)) (nest_of (out-Arm a).then) ≤ n) (sym (arm_nest a))
    (by (nest_of (bare (out-Arm a).test)) (nest_of (out-Arm a).test) (nest_of (out-Arm a).then)
    (bare_nest (out-Arm a).test)))
  where
    by : (b t s : ℕ) → b ≤ t → max b s ≤ max t s
    by b t s h = grind arith

arms_size : (arms : List Arm) →
    arm_sizes (map bare_arm arms) + count (some_of is_boolean_arm arms) ≤ arm_sizes arms
arms_size [] = omega arith
arms_size (a ∷ arms) =
    by (arm_size_of (bare_arm a)) (arm_sizes (map bare_arm arms)) (arm_size_of a) (arm_sizes arms)
    (is_boolean_arm a) (some_of is_boolean_arm arms) (bare_arm_size a) (arms_size arms)
  where
    by : (a b s t : ℕ) (c d : Bool) → a + count c ≤ s → b + count d ≤ t →
        (a + b) + count (c || d) ≤ s + t
    by a b s t c d h i = let j : count (c || d) ≤ count c + count d = count_or c d in omega arith

arms_nest : (arms : List Arm) → arm_nests (map bare_arm arms) ≤ arm_nests arms
arms_nest [] = omega arith
arms_nest (a ∷ arms) =
    by (arm_nest_of (bare_arm a)) (arm_nests (map bare_arm arms)) (arm_nest_of a) (arm_nests arms)
    (bare_arm_nest a) (arms_nest arms)
  where
    by : (a b s t : ℕ) → a ≤ s → b ≤ t → max a b ≤ max s t
    by a b s t h i = grind arith

less_by : (a b : ℕ) (c : Bool) → c ≡ true → a + count c ≤ b → a < b
less_by a b true h i = omega arith
less_by a b false h i = absurd cc

module _ (bound : List ExprName) where
  if_tidier : (arms : List Arm) (other : Expr) → some_of is_boolean_arm arms ≡ true →
      IsTidier bound (roll-Expr (If arms other)) (roll-Expr (If (map bare_arm arms) other))
  if_tidier arms other h = record {
    same = λ p env b k. choice_bare arms other p env k;
    nest = subst (λ n. n ≤ nest_of (roll-Expr (If arms other))) (sym (nest_rolled (If (map bare_arm arms) other)))
        (subst (λ n. 1 + max (arm_nests (map bare_arm arms)) (nest_of other) ≤ n)
        (sym (nest_rolled (If arms other)))
        (deep (arm_nests (map bare_arm arms)) (arm_nests arms) (nest_of other) (arms_nest arms)));
    size = subst (λ n. n < size_of (roll-Expr (If arms other))) (sym (size_rolled (If (map bare_arm arms) other)))
        (subst (λ n. 1 + (arm_sizes (map bare_arm arms) + size_of other) < n)
        (sym (size_rolled (If arms other)))
        (less (arm_sizes (map bare_arm arms)) (arm_sizes arms) (size_of other)
        (less_by (arm_sizes (map bare_arm arms)) (arm_sizes arms) (some_of is_boolean_arm arms) h
        (arms_size arms))));
  }
    where
      deep : (a b c : ℕ) → a ≤ b → 1 + max a c ≤ 1 + max b c
      deep a b c h = grind arith

      less : (a b c : ℕ) → a < b → 1 + (a + c) < 1 + (b + c)
      less a b c h = omega arith

  parts_tidier : (d : Bool) (es : List Expr) → some_of is_boolean es ≡ true →
      IsTidier bound (roll-Expr (connected d es)) (roll-Expr (connected d (map bare es)))
  parts_tidier d es h = record {
    same = λ p env b k. parts_same d es p env k;
    nest = subst (λ n. n ≤ nest_of (roll-Expr (connected d es))) (sym (connected_nest d (map bare es)))
        (subst (λ n. 1 + nests_in (map bare es) ≤ n) (sym (connected_nest d es))
        (deep (nests_in (map bare es)) (nests_in es) (bares_nest es)));
    size = subst (λ n. n < size_of (roll-Expr (connected d es))) (sym (connected_size d (map bare es)))
        (subst (λ n. 1 + sizes (map bare es) < n) (sym (connected_size d es))
        (less (sizes (map bare es)) (sizes es)
        (less_by (sizes (map bare es)) (sizes es) (some_of is_boolean es) h (bares_size es))));
  }
    where
      deep : (a b : ℕ) → a ≤ b → 1 + a ≤ 1 + b
      deep a b h = omega arith

      less : (a b : ℕ) → a < b → 1 + a < 1 + b
      less a b h = omega arith

  where_tidier : (cs : List Clause) (e : Expr) (os : List Order) (s : Bool) (body : Expr) →
      is_boolean e ≡ true → IsTidier bound (flow_expr (flow_form cs (Some e) os s body))
      (flow_expr (flow_form cs (Some (bare e)) os s body))
  where_tidier cs e os s body h = record {
    same = λ p env b k. where_same cs e os s body p env k;
    nest = subst (λ n. n ≤ nest_of (flow_expr (flow_form cs (Some e) os s body)))
        (sym (flow_nest cs (Some (bare e)) os s body))
        (subst (λ n. 1 + max (greatest (map clause_nest_of cs)) (max (nest_of (bare e))
        (max (greatest (map order_nest_of os)) (nest_of body))) ≤ n) (sym (flow_nest cs (Some e) os s body))
        (deep (greatest (map clause_nest_of cs)) (nest_of (bare e)) (nest_of e)
        (max (greatest (map order_nest_of os)) (nest_of body)) (bare_nest e)));
    size = subst (λ n. n < size_of (flow_expr (flow_form cs (Some e) os s body)))
        (sym (flow_size cs (Some (bare e)) os s body))
        (subst (λ n. 1 + (total (map clause_size_of cs) + (size_of (bare e)
        + (total (map order_size_of os) + size_of body))) < n) (sym (flow_size cs (Some e) os s body))
        (less (total (map clause_size_of cs)) (size_of (bare e)) (size_of e)
        (total (map order_size_of os) + size_of body)
        (less_by (size_of (bare e)) (size_of e) (is_boolean e) h (bare_size e))));
  }
    where
      deep : (c a b r : ℕ) → a ≤ b → 1 + max c (max a r) ≤ 1 + max c (max b r)
      deep c a b r h = grind arith

      less : (c a b r : ℕ) → a < b → 1 + (c + (a + r)) < 1 + (c + (b + r))
      less c a b r h = omega arith

  flow_tidies : (cs : List Clause) (test : Option Expr) (os : List Order) (s : Bool) (body : Expr) →
      OnSome (IsTidier bound (flow_expr (flow_form cs test os s body)))
      (bare_where (flow_form cs test os s body) test)
  flow_tidies cs None os s body = tt
  flow_tidies cs (Some e) os s body =
      if_some (IsTidier bound (flow_expr (flow_form cs (Some e) os s body))) (is_boolean e)
      (flow_expr (flow_form cs (Some (bare e)) os s body)) (where_tidier cs e os s body)

  not_tidier : (e a : Expr) → ((p : Program) → Means p (negation a) (outcome p e)) → OneMore a e →
      is_boolean a ≡ true → IsTidier bound e (call (codes "not") (bare a ∷ []))
  not_tidier e a m o h = record {
    same = λ p env b k. not_same e a m p env k;
    nest = subst (λ n. n ≤ nest_of e) (sym (call_more (library_name (codes "not")) (bare a)).1)
        (subst (λ n. 1 + nest_of (bare a) ≤ n) (sym o.1)
        (deep (nest_of (bare a)) (nest_of a) (bare_nest a)));
    size = subst (λ n. n < size_of e) (sym (call_more (library_name (codes "not")) (bare a)).0)
        (subst (λ n. 1 + size_of (bare a) < n) (sym o.0)
        (less (size_of (bare a)) (size_of a)
        (less_by (size_of (bare a)) (size_of a) (is_boolean a) h (bare_size a))));
  }
    where
      deep : (a b : ℕ) → a ≤ b → 1 + a ≤ 1 + b
      deep a b h = omega arith

      less : (a b : ℕ) → a < b → 1 + a < 1 + b
      less a b h = omega arith

  call_tidies : (e : Expr) (d : Known) → ((p : Program) → Means p d (outcome p e)) → Measures d e →
      OnSome (IsTidier bound e) (bare_negated d)
  call_tidies e (negation a) m o =
      if_some (IsTidier bound e) (is_boolean a) (call (codes "not") (bare a ∷ [])) (not_tidier e a m o)
  call_tidies e (constant t) m o = tt
  call_tidies e (emptiness a) m o = tt
  call_tidies e (existence a) m o = tt
  call_tidies e (truth a) m o = tt
  call_tidies e unknown m o = tt

  form_tidies : (e : Expr) (x : ExprForm) → roll-Expr x ≡ e →
      OnSome (IsTidier bound e) (rule_5_form x (known e))
  form_tidies e (If arms other) h =
      subst (λ z. OnSome (IsTidier bound z) (rule_5_form (If arms other) (known e))) h
      (if_some (IsTidier bound (roll-Expr (If arms other))) (some_of is_boolean_arm arms)
      (roll-Expr (If (map bare_arm arms) other)) (if_tidier arms other))
  form_tidies e (And es) h =
      subst (λ z. OnSome (IsTidier bound z) (rule_5_form (And es) (known e))) h
      (if_some (IsTidier bound (roll-Expr (And es))) (some_of is_boolean es)
      (roll-Expr (And (map bare es))) (parts_tidier false es))
  form_tidies e (Or es) h =
      subst (λ z. OnSome (IsTidier bound z) (rule_5_form (Or es) (known e))) h
      (if_some (IsTidier bound (roll-Expr (Or es))) (some_of is_boolean es)
      (roll-Expr (Or (map bare es))) (parts_tidier true es))
  form_tidies e (Flwor f) h =
      subst (λ z. OnSome (IsTidier bound z) (rule_5_form (Flwor f) (known e)))
      (ap (λ g. roll-Expr (Flwor g)) (roll-out-Flwor f) ∙ h)
      (flow_tidies (out-Flwor f).clauses (out-Flwor f).test (out-Flwor f).orders (out-Flwor f).stable
      (out-Flwor f).body)
  form_tidies e (Call name args) h =
      call_tidies e (known e) (λ p. known_means p e) (known_measures e)
  form_tidies e x h = tt

pub rule_5_tidies : Tidies rule_5
rule_5_tidies bound e = form_tidies bound e (out-Expr e) (roll-out-Expr e)
