-- The rule for `for` gives what is tidier.
use Rattle.std.proofs.Common.{◌≡◌, ℕ, ◌+◌, ◌≤◌, ◌<◌, max, List, [], ◌∷◌, map, refl, ap, ap₂, sym, ◌∙◌, subst, arith}
use Rattle.std.specs.Prelude.{Bool, true, false, ◌||◌, if◌then◌else◌, Option, Some, None}
use Rattle.xt_names.specs.declared.names.ExprName.{ExprName}
use Rattle.xt_forms.specs.Nest.{nest_of, clause_nest_of, order_nest_of}
use Rattle.xt_syntax.specs.declared.exprs.Expr.{Expr}
use Rattle.xt_syntax.specs.declared.exprs.Clause.{Clause}
use Rattle.xt_syntax.specs.declared.exprs.Order.{Order}
use Rattle.xt_syntax.specs.declared.exprs.Clause.TheOpen.{Flwor, For, Let}
use Rattle.xt_syntax.specs.declared.exprs.Clause.TheViews.{out-Expr, roll-Expr, roll-out-Expr}
use Rattle.xt_syntax.specs.declared.exprs.Clause.TheViews.{out-Flwor, roll-out-Flwor}
use Rattle.xt_syntax.specs.declared.exprs.Clause.TheViews.{out-Clause, roll-Clause, roll-out-Clause}
use Rattle.rewrite_rules.specs.Forms.{ExprForm, ClauseForm, some_of}
use Rattle.rewrite_rules.specs.Sizes.{size_of}
use Rattle.rewrite_rules.specs.Law.{OnSome, IsTidier, Tidies}
use Rattle.rewrite_rules.specs.Loops.{is_single_form, is_single, let_of, as_let, loops_rule}
use Rattle.rewrite_rules.specs.Loops.{rule_6_form, rule_6}
use Rattle.rewrite_rules.proofs.Measured.{flow_size, flow_nest, clause_size_of, order_size_of, one_size}
use Rattle.rewrite_rules.proofs.Measured.{one_nest, for_size, let_size, for_nest, let_nest, bind_size_of}
use Rattle.rewrite_rules.proofs.FlowsSame.{loops_same, flow_form, flow_expr}
use Rattle.rewrite_rules.proofs.Counts.{count, count_or, if_some}
use Rattle.xt_names.specs.Lists.{greatest, total}

let_size_of : (c : Clause) (x : ClauseForm) → roll-Clause x ≡ c → is_single_form x ≡ true →
    clause_size_of (let_of c x) + 1 ≤ clause_size_of c
let_size_of c (For b None) h s =
    subst (λ n. n + 1 ≤ clause_size_of c) (sym (let_size b))
    (subst (λ n. bind_size_of b + 1 ≤ n) (sym (for_size b None) ∙ ap clause_size_of h) (by (bind_size_of b)))
  where
    by : (n : ℕ) → n + 1 ≤ 1 + n
    by n = omega arith
let_size_of c (For b (Some place)) h s = absurd cc
let_size_of c (Let b) h s = absurd cc

as_let_size : (c : Clause) → clause_size_of (as_let c) + count (is_single c) ≤ clause_size_of c
as_let_size c = by (is_single c) refl
  where
    same : (n : ℕ) → n + 0 ≤ n
    same n = omega arith

    by : (t : Bool) → is_single c ≡ t →
        clause_size_of (if t then let_of c (out-Clause c) else c) + count t ≤ clause_size_of c
    by true h = let_size_of c (out-Clause c) (roll-out-Clause c) h
    by false h = same (clause_size_of c)

let_nest_of : (c : Clause) (x : ClauseForm) → roll-Clause x ≡ c →
    clause_nest_of (let_of c x) ≡ clause_nest_of c
let_nest_of c (For b place) h = let_nest b ∙ sym (for_nest b place) ∙ ap clause_nest_of h
let_nest_of c (Let b) h = refl

as_let_nest : (c : Clause) → clause_nest_of (as_let c) ≡ clause_nest_of c
as_let_nest c = by (is_single c)
  where
    by : (t : Bool) → clause_nest_of (if t then let_of c (out-Clause c) else c) ≡ clause_nest_of c
    by true = let_nest_of c (out-Clause c) (roll-out-Clause c)
    by false = refl

as_lets_size : (cs : List Clause) →
    total (map clause_size_of (map as_let cs)) + count (some_of is_single cs)
    ≤ total (map clause_size_of cs)
as_lets_size [] = omega arith
as_lets_size (c ∷ cs) =
    by (clause_size_of (as_let c)) (total (map clause_size_of (map as_let cs))) (clause_size_of c)
    (total (map clause_size_of cs)) (is_single c) (some_of is_single cs) (as_let_size c) (as_lets_size cs)
  where
    by : (a b s t : ℕ) (c d : Bool) → a + count c ≤ s → b + count d ≤ t →
        (a + b) + count (c || d) ≤ s + t
    by a b s t c d h i = let j : count (c || d) ≤ count c + count d = count_or c d in omega arith

as_lets_nest : (cs : List Clause) → map clause_nest_of (map as_let cs) ≡ map clause_nest_of cs
as_lets_nest [] = refl
as_lets_nest (c ∷ cs) = ap₂ (λ a b. a ∷ b) (as_let_nest c) (as_lets_nest cs)

module _ (bound : List ExprName) where
  loops_tidier : (cs : List Clause) (test : Option Expr) (os : List Order) (s : Bool) (body : Expr) →
      some_of is_single cs ≡ true → IsTidier bound (flow_expr (flow_form cs test os s body))
      (flow_expr (flow_form (map as_let cs) test os s body))
  loops_tidier cs test os s body h = record {
    same = λ p env b k. loops_same cs test os s body p env k;
    nest = subst (λ n. n ≤ nest_of (flow_expr (flow_form cs test os s body)))
        (flow_nest cs test os s body
        ∙ ap (λ ns. 1 + max (greatest ns) (max (one_nest test) (max (greatest (map order_nest_of os)) (nest_of body))))
        (sym (as_lets_nest cs)) ∙ sym (flow_nest (map as_let cs) test os s body))
        (same (nest_of (flow_expr (flow_form cs test os s body))));
    size = subst (λ n. n < size_of (flow_expr (flow_form cs test os s body)))
        (sym (flow_size (map as_let cs) test os s body))
        (subst (λ n. 1 + (total (map clause_size_of (map as_let cs)) + (one_size test
        + (total (map order_size_of os) + size_of body))) < n) (sym (flow_size cs test os s body))
        (less (total (map clause_size_of (map as_let cs))) (total (map clause_size_of cs))
        (one_size test + (total (map order_size_of os) + size_of body)) (some_of is_single cs) h
        (as_lets_size cs)));
  }
    where
      same : (n : ℕ) → n ≤ n
      same n = omega arith

      less : (a b r : ℕ) (c : Bool) → c ≡ true → a + count c ≤ b → 1 + (a + r) < 1 + (b + r)
      less a b r true h i = omega arith
      less a b r false h i = absurd cc

  flow_tidies : (cs : List Clause) (test : Option Expr) (os : List Order) (s : Bool) (body : Expr) →
      OnSome (IsTidier bound (flow_expr (flow_form cs test os s body)))
      (loops_rule (flow_form cs test os s body))
  flow_tidies cs test os s body =
      if_some (IsTidier bound (flow_expr (flow_form cs test os s body))) (some_of is_single cs)
      (flow_expr (flow_form (map as_let cs) test os s body)) (loops_tidier cs test os s body)

  form_tidies : (x : ExprForm) → OnSome (IsTidier bound (roll-Expr x)) (rule_6_form x)
  form_tidies (Flwor f) =
      subst (λ g. OnSome (IsTidier bound (roll-Expr (Flwor g))) (loops_rule (out-Flwor f)))
      (roll-out-Flwor f)
      (flow_tidies (out-Flwor f).clauses (out-Flwor f).test (out-Flwor f).orders (out-Flwor f).stable
      (out-Flwor f).body)
  form_tidies x = tt

pub rule_6_tidies : Tidies rule_6
rule_6_tidies bound e =
    subst (λ z. OnSome (IsTidier bound z) (rule_6_form (out-Expr e))) (roll-out-Expr e)
    (form_tidies bound (out-Expr e))
