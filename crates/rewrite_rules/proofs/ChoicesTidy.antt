-- The rule for `if` gives what is tidier.
use Rattle.std.proofs.Common.{◌≡◌, ℕ, ◌+◌, ◌≤◌, ◌<◌, max, List, [], ◌∷◌, ◌++◌, ap, sym, ◌∙◌, subst, arith}
use Rattle.std.specs.Prelude.{Bool, true, false, ◌||◌, Option, Some, None, is_some}
use Rattle.xt_names.specs.declared.names.ExprName.{ExprName}
use Rattle.xt_forms.specs.Nest.{nest_of, arm_nest_of}
use Rattle.xt_syntax.specs.declared.exprs.Expr.{Expr}
use Rattle.xt_syntax.specs.declared.exprs.Arm.{Arm}
use Rattle.xt_syntax.specs.declared.exprs.Clause.TheOpen.{If}
use Rattle.xt_syntax.specs.declared.exprs.Clause.TheViews.{out-Expr, roll-Expr, roll-out-Expr, out-Arm}
use Rattle.rewrite_rules.specs.Forms.{ExprForm, some_of}
use Rattle.rewrite_rules.specs.Sizes.{size_of}
use Rattle.rewrite_rules.specs.Law.{OnSome, IsTidier, Tidies}
use Rattle.rewrite_rules.specs.Choices.{arm_truth, is_decided, kept_arm, kept_arms, last_here, last_part}
use Rattle.rewrite_rules.specs.Choices.{chained, choice, rule_2_form, rule_2}
use Rattle.rewrite_rules.proofs.Measured.{size_rolled, nest_rolled, arm_size_of, arm_size, arm_nest, positive}
use Rattle.rewrite_rules.proofs.ChoicesSame.{choice_same, choice_joins}
use Rattle.expr_laws.proofs.Rolled.{rolled}
use Rattle.rewrite_rules.proofs.Counts.{count, if_some, arm_sizes, arm_nests, totals_append, greatest_append}

-- sizes
arm_kept : (a : Arm) (t : Option Bool) (kept : List Arm) (last : Expr) (d : Bool) (n : ℕ) →
    arm_sizes kept + size_of last + count d ≤ n →
    arm_sizes (kept_arm t a kept) + size_of (last_here t a last) + count (is_some t || d)
    ≤ arm_size_of a + n
arm_kept a None kept last d n h = by (arm_size_of a) (arm_sizes kept) (size_of last) (count d) n h
  where
    by : (s a l c n : ℕ) → a + l + c ≤ n → (s + a) + l + c ≤ s + n
    by s a l c n h = omega arith
arm_kept a (Some true) kept last d n h =
    subst (λ s. 0 + size_of (out-Arm a).then + 1 ≤ s + n) (sym (arm_size a))
    (by (size_of (out-Arm a).test) (size_of (out-Arm a).then) n (positive (out-Arm a).test))
  where
    by : (t s n : ℕ) → 1 ≤ t → 0 + s + 1 ≤ (t + s) + n
    by t s n h = omega arith
arm_kept a (Some false) kept last d n h =
    subst (λ s. arm_sizes kept + size_of last + 1 ≤ s + n) (sym (arm_size a))
    (by (arm_sizes kept) (size_of last) (count d) n (size_of (out-Arm a).test)
    (size_of (out-Arm a).then) h (positive (out-Arm a).test))
  where
    by : (a l c n t s : ℕ) → a + l + c ≤ n → 1 ≤ t → a + l + 1 ≤ (t + s) + n
    by a l c n t s h i = omega arith

arms_kept : (arms : List Arm) (other : Expr) →
    arm_sizes (kept_arms arms) + size_of (last_part arms other) + count (some_of is_decided arms)
    ≤ arm_sizes arms + size_of other
arms_kept [] other = by (size_of other)
  where
    by : (n : ℕ) → 0 + n + 0 ≤ 0 + n
    by n = omega arith
arms_kept (a ∷ arms) other =
    subst (λ n. arm_sizes (kept_arms (a ∷ arms)) + size_of (last_part (a ∷ arms) other)
    + count (some_of is_decided (a ∷ arms)) ≤ n) (by (arm_size_of a) (arm_sizes arms) (size_of other))
    (arm_kept a (arm_truth a) (kept_arms arms) (last_part arms other) (some_of is_decided arms)
    (arm_sizes arms + size_of other) (arms_kept arms other))
  where
    by : (a b c : ℕ) → a + (b + c) ≡ (a + b) + c
    by a b c = omega arith

chain_size : (arms : List Arm) (other : Expr) (x : ExprForm) → roll-Expr x ≡ other →
    size_of (chained arms other x) ≤ 1 + (arm_sizes arms + size_of other)
chain_size arms other (If more last) h =
    subst (λ n. n ≤ 1 + (arm_sizes arms + size_of other)) (sym (size_rolled (If (arms ++ more) last)))
    (subst (λ n. 1 + (arm_sizes (arms ++ more) + size_of last) ≤ 1 + (arm_sizes arms + n))
    (sym (size_rolled (If more last)) ∙ ap size_of h)
    (subst (λ n. 1 + (n + size_of last) ≤ 1 + (arm_sizes arms + (1 + (arm_sizes more + size_of last))))
    (sym (totals_append arm_size_of arms more)) (by (arm_sizes arms) (arm_sizes more) (size_of last))))
  where
    by : (a b c : ℕ) → 1 + ((a + b) + c) ≤ 1 + (a + (1 + (b + c)))
    by a b c = omega arith
chain_size arms other x h =
    subst (λ n. n ≤ 1 + (arm_sizes arms + size_of other)) (sym (size_rolled (If arms other)))
    (by (1 + (arm_sizes arms + size_of other)))
  where
    by : (n : ℕ) → n ≤ n
    by n = omega arith

choice_size : (arms : List Arm) (other : Expr) →
    size_of (choice arms other) ≤ 1 + (arm_sizes arms + size_of other)
choice_size [] other = by (size_of other)
  where
    by : (n : ℕ) → n ≤ 1 + (0 + n)
    by n = omega arith
choice_size (a ∷ arms) other = chain_size (a ∷ arms) other (out-Expr other) (roll-out-Expr other)

-- nesting
arm_kept_nest : (a : Arm) (t : Option Bool) (kept : List Arm) (last : Expr) (n : ℕ) →
    max (arm_nests kept) (nest_of last) ≤ n →
    max (arm_nests (kept_arm t a kept)) (nest_of (last_here t a last)) ≤ max (arm_nest_of a) n
arm_kept_nest a None kept last n h = by (arm_nest_of a) (arm_nests kept) (nest_of last) n h
  where
    by : (s a l n : ℕ) → max a l ≤ n → max (max s a) l ≤ max s n
    by s a l n h = grind arith
arm_kept_nest a (Some true) kept last n h =
    subst (λ s. max 0 (nest_of (out-Arm a).then) ≤ max s n) (sym (arm_nest a))
    (by (nest_of (out-Arm a).test) (nest_of (out-Arm a).then) n)
  where
    by : (t s n : ℕ) → max 0 s ≤ max (max t s) n
    by t s n = grind arith
arm_kept_nest a (Some false) kept last n h =
    by (arm_nest_of a) (max (arm_nests kept) (nest_of last)) n h
  where
    by : (s a n : ℕ) → a ≤ n → a ≤ max s n
    by s a n h = grind arith

arms_kept_nest : (arms : List Arm) (other : Expr) →
    max (arm_nests (kept_arms arms)) (nest_of (last_part arms other))
    ≤ max (arm_nests arms) (nest_of other)
arms_kept_nest [] other = by (max 0 (nest_of other))
  where
    by : (n : ℕ) → n ≤ n
    by n = omega arith
arms_kept_nest (a ∷ arms) other =
    subst (λ n. max (arm_nests (kept_arms (a ∷ arms))) (nest_of (last_part (a ∷ arms) other)) ≤ n)
    (by (arm_nest_of a) (arm_nests arms) (nest_of other))
    (arm_kept_nest a (arm_truth a) (kept_arms arms) (last_part arms other)
    (max (arm_nests arms) (nest_of other)) (arms_kept_nest arms other))
  where
    by : (a b c : ℕ) → max a (max b c) ≡ max (max a b) c
    by a b c = grind arith

chain_nest : (arms : List Arm) (other : Expr) (x : ExprForm) → roll-Expr x ≡ other →
    nest_of (chained arms other x) ≤ 1 + max (arm_nests arms) (nest_of other)
chain_nest arms other (If more last) h =
    subst (λ n. n ≤ 1 + max (arm_nests arms) (nest_of other)) (sym (nest_rolled (If (arms ++ more) last)))
    (subst (λ n. 1 + max (arm_nests (arms ++ more)) (nest_of last) ≤ 1 + max (arm_nests arms) n)
    (sym (nest_rolled (If more last)) ∙ ap nest_of h)
    (subst (λ n. 1 + max n (nest_of last) ≤ 1 + max (arm_nests arms) (1 + max (arm_nests more) (nest_of last)))
    (sym (greatest_append arm_nest_of arms more)) (by (arm_nests arms) (arm_nests more) (nest_of last))))
  where
    by : (a b c : ℕ) → 1 + max (max a b) c ≤ 1 + max a (1 + max b c)
    by a b c = grind arith
chain_nest arms other x h =
    subst (λ n. n ≤ 1 + max (arm_nests arms) (nest_of other)) (sym (nest_rolled (If arms other)))
    (by (1 + max (arm_nests arms) (nest_of other)))
  where
    by : (n : ℕ) → n ≤ n
    by n = omega arith

choice_nest : (arms : List Arm) (other : Expr) →
    nest_of (choice arms other) ≤ 1 + max (arm_nests arms) (nest_of other)
choice_nest [] other = by (nest_of other)
  where
    by : (n : ℕ) → n ≤ 1 + max 0 n
    by n = grind arith
choice_nest (a ∷ arms) other = chain_nest (a ∷ arms) other (out-Expr other) (roll-out-Expr other)

module _ (bound : List ExprName) where
  if_tidier : (arms : List Arm) (other : Expr) → some_of is_decided arms ≡ true →
      IsTidier bound (roll-Expr (If arms other)) (choice (kept_arms arms) (last_part arms other))
  if_tidier arms other h = record {
    same = λ p env b k. choice_same arms other p env k;
    nest = subst (λ n. nest_of (choice (kept_arms arms) (last_part arms other)) ≤ n)
        (sym (nest_rolled (If arms other)))
        (deep (nest_of (choice (kept_arms arms) (last_part arms other)))
        (max (arm_nests (kept_arms arms)) (nest_of (last_part arms other)))
        (max (arm_nests arms) (nest_of other))
        (choice_nest (kept_arms arms) (last_part arms other)) (arms_kept_nest arms other));
    size = subst (λ n. size_of (choice (kept_arms arms) (last_part arms other)) < n)
        (sym (size_rolled (If arms other)))
        (less (size_of (choice (kept_arms arms) (last_part arms other)))
        (arm_sizes (kept_arms arms) + size_of (last_part arms other)) (arm_sizes arms + size_of other)
        (some_of is_decided arms) h (choice_size (kept_arms arms) (last_part arms other))
        (arms_kept arms other));
  }
    where
      deep : (r a b : ℕ) → r ≤ 1 + a → a ≤ b → r ≤ 1 + b
      deep r a b h i = omega arith

      less : (r a b : ℕ) (c : Bool) → c ≡ true → r ≤ 1 + a → a + count c ≤ b → r < 1 + b
      less r a b true h i j = omega arith
      less r a b false h i j = absurd cc

  form_tidies : (x : ExprForm) → OnSome (IsTidier bound (roll-Expr x)) (rule_2_form x)
  form_tidies (If arms other) =
      if_some (IsTidier bound (roll-Expr (If arms other))) (some_of is_decided arms)
      (choice (kept_arms arms) (last_part arms other)) (if_tidier arms other)
  form_tidies x = tt

-- an `if` that is the last part of an `if` joins its chain
joined_size : (arms : List Arm) (other : Expr) (more : List Arm) (last : Expr) →
    roll-Expr (If more last) ≡ other →
    size_of (roll-Expr (If (arms ++ more) last)) < size_of (roll-Expr (If arms other))
joined_size arms other more last h =
    subst (λ n. n < size_of (roll-Expr (If arms other))) (sym (size_rolled (If (arms ++ more) last)))
    (subst (λ n. 1 + (arm_sizes (arms ++ more) + size_of last) < n) (sym (size_rolled (If arms other)))
    (subst (λ n. 1 + (arm_sizes (arms ++ more) + size_of last) < 1 + (arm_sizes arms + n))
    (sym (size_rolled (If more last)) ∙ ap size_of h)
    (subst (λ n. 1 + (n + size_of last) < 1 + (arm_sizes arms + (1 + (arm_sizes more + size_of last))))
    (sym (totals_append arm_size_of arms more)) (by (arm_sizes arms) (arm_sizes more) (size_of last)))))
  where
    by : (a b c : ℕ) → 1 + ((a + b) + c) < 1 + (a + (1 + (b + c)))
    by a b c = omega arith

pick_choice : (arms : List Arm) (other : Expr) (more : List Arm) (last : Expr) → out-Expr other ≡ If more last →
    (size_of (choice arms other) < size_of (roll-Expr (If arms other)))
pick_choice [] other more last h =
    subst (λ n. size_of other < n) (sym (size_rolled (If [] other))) (by (size_of other))
  where
    by : (n : ℕ) → n < 1 + (0 + n)
    by n = omega arith
pick_choice (a ∷ arms) other more last h =
    subst (λ x. size_of (chained (a ∷ arms) other x) < size_of (roll-Expr (If (a ∷ arms) other))) (sym h)
    (joined_size (a ∷ arms) other more last (ap roll-Expr (sym h) ∙ roll-out-Expr other))

pub chain_tidier : (bound : List ExprName) (arms : List Arm) (other : Expr) (more : List Arm) (last : Expr) →
    out-Expr other ≡ If more last → IsTidier bound (roll-Expr (If arms other)) (choice arms other)
chain_tidier bound arms other more last h = record {
  same = λ p env b k. choice_joins p arms other env k ∙ sym (ap (λ m. m env k) (rolled p (If arms other)));
  nest = subst (λ n. nest_of (choice arms other) ≤ n) (sym (nest_rolled (If arms other))) (choice_nest arms other);
  size = pick_choice arms other more last h;
}

pub rule_2_tidies : Tidies rule_2
rule_2_tidies bound e =
    subst (λ z. OnSome (IsTidier bound z) (rule_2_form (out-Expr e))) (roll-out-Expr e)
    (form_tidies bound (out-Expr e))
