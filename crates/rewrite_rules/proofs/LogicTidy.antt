-- The rule for `and` and `or` gives what is tidier.
use Rattle.std.proofs.Common.{◌≡◌, ℕ, ◌+◌, ◌≤◌, ◌<◌, max, List, [], ◌∷◌, sym, ◌∙◌, subst, arith}
use Rattle.std.specs.Prelude.{Bool, true, false, not, if◌then◌else◌, Option, Some, None, codes}
use Rattle.std.specs.Bool.{beq}
use Rattle.xt_names.specs.declared.names.ExprName.{ExprName}
use Rattle.xt_forms.specs.Nest.{nest_of}
use Rattle.xt_syntax.specs.declared.exprs.Expr.{Expr}
use Rattle.xt_syntax.specs.declared.exprs.Clause.TheOpen.{And, Or}
use Rattle.xt_syntax.specs.declared.exprs.Clause.TheViews.{out-Expr, roll-Expr, roll-out-Expr}
use Rattle.rewrite_rules.specs.Forms.{ExprForm}
use Rattle.rewrite_rules.specs.Known.{fixed_truth}
use Rattle.rewrite_rules.specs.Sizes.{size_of}
use Rattle.rewrite_rules.specs.Law.{OnSome, IsTidier, Tidies}
use Rattle.rewrite_rules.specs.Logic.{kept_part, kept_parts, has_parts, goes_here, loses, connected}
use Rattle.rewrite_rules.specs.Logic.{joined, logic_rule, rule_8_form, rule_8}
use Rattle.rewrite_rules.proofs.Measured.{size_rolled, nest_rolled, positive}
use Rattle.rewrite_rules.proofs.LogicSame.{logic_same}
use Rattle.rewrite_rules.proofs.KnownSizes.{call_more, constant_size, constant_nest}
use Rattle.rewrite_rules.proofs.Counts.{count, if_some, sizes, nests_in}
use Rattle.xt_names.specs.ExprNames.{library_name}

pub connected_size : (d : Bool) (es : List Expr) → size_of (roll-Expr (connected d es)) ≡ 1 + sizes es
connected_size true es = size_rolled (Or es)
connected_size false es = size_rolled (And es)

pub connected_nest : (d : Bool) (es : List Expr) → nest_of (roll-Expr (connected d es)) ≡ 1 + nests_in es
connected_nest true es = nest_rolled (Or es)
connected_nest false es = nest_rolled (And es)

joined_size : (d : Bool) (es : List Expr) → size_of (joined d es) ≡ 1 + sizes es
joined_size d [] = constant_size (not d)
joined_size d (e ∷ []) = (call_more (library_name (codes "boolean")) e).0 ∙ plus (size_of e)
  where
    plus : (n : ℕ) → 1 + n ≡ 1 + (n + 0)
    plus n = omega arith
joined_size d (a ∷ b ∷ more) = connected_size d (a ∷ b ∷ more)

joined_nest : (d : Bool) (es : List Expr) → nest_of (joined d es) ≡ 1 + nests_in es
joined_nest d [] = constant_nest (not d)
joined_nest d (e ∷ []) = (call_more (library_name (codes "boolean")) e).1 ∙ most (nest_of e)
  where
    most : (n : ℕ) → 1 + n ≡ 1 + max n 0
    most n = grind arith
joined_nest d (a ∷ b ∷ more) = connected_nest d (a ∷ b ∷ more)

some_size : (es : List Expr) → count (has_parts es) ≤ sizes es
some_size [] = omega arith
some_size (e ∷ es) = by (size_of e) (sizes es) (positive e)
  where
    by : (a b : ℕ) → 1 ≤ a → 1 ≤ a + b
    by a b h = omega arith

module _ (d : Bool) where
  part_size : (e : Expr) (t : Option Bool) (kept es : List Expr) (l : Bool) →
      sizes kept + count l ≤ sizes es →
      sizes (kept_part d t e kept) + count (goes_here d t es l) ≤ size_of e + sizes es
  part_size e None kept es l h = by (size_of e) (sizes kept) (count l) (sizes es) h
    where
      by : (s a c n : ℕ) → a + c ≤ n → (s + a) + c ≤ s + n
      by s a c n h = omega arith
  part_size e (Some t) kept es l h = by (beq t d)
    where
      last : (s a n : ℕ) → a ≤ n → (s + 0) + a ≤ s + n
      last s a n h = omega arith

      gone : (s a c n : ℕ) → 1 ≤ s → a + c ≤ n → a + 1 ≤ s + n
      gone s a c n h i = omega arith

      by : (b : Bool) → sizes (if b then e ∷ [] else kept) + count (if b then has_parts es else true)
          ≤ size_of e + sizes es
      by true = last (size_of e) (count (has_parts es)) (sizes es) (some_size es)
      by false = gone (size_of e) (sizes kept) (count l) (sizes es) (positive e) h

  parts_size : (es : List Expr) → sizes (kept_parts d es) + count (loses d es) ≤ sizes es
  parts_size [] = omega arith
  parts_size (e ∷ es) =
      part_size e (fixed_truth e) (kept_parts d es) es (loses d es) (parts_size es)

  part_nest : (e : Expr) (t : Option Bool) (kept es : List Expr) → nests_in kept ≤ nests_in es →
      nests_in (kept_part d t e kept) ≤ max (nest_of e) (nests_in es)
  part_nest e None kept es h = by (nest_of e) (nests_in kept) (nests_in es) h
    where
      by : (s a n : ℕ) → a ≤ n → max s a ≤ max s n
      by s a n h = grind arith
  part_nest e (Some t) kept es h = by (beq t d)
    where
      first : (s n : ℕ) → max s 0 ≤ max s n
      first s n = grind arith

      gone : (s a n : ℕ) → a ≤ n → a ≤ max s n
      gone s a n h = grind arith

      by : (b : Bool) → nests_in (if b then e ∷ [] else kept) ≤ max (nest_of e) (nests_in es)
      by true = first (nest_of e) (nests_in es)
      by false = gone (nest_of e) (nests_in kept) (nests_in es) h

  parts_nest : (es : List Expr) → nests_in (kept_parts d es) ≤ nests_in es
  parts_nest [] = omega arith
  parts_nest (e ∷ es) = part_nest e (fixed_truth e) (kept_parts d es) es (parts_nest es)

  logic_tidier : (bound : List ExprName) (es : List Expr) → loses d es ≡ true →
      IsTidier bound (roll-Expr (connected d es)) (joined d (kept_parts d es))
  logic_tidier bound es h = record {
    same = λ p env b k. logic_same d es p env k;
    nest = subst (λ n. n ≤ nest_of (roll-Expr (connected d es))) (sym (joined_nest d (kept_parts d es)))
        (subst (λ n. 1 + nests_in (kept_parts d es) ≤ n) (sym (connected_nest d es))
        (deep (nests_in (kept_parts d es)) (nests_in es) (parts_nest es)));
    size = subst (λ n. n < size_of (roll-Expr (connected d es))) (sym (joined_size d (kept_parts d es)))
        (subst (λ n. 1 + sizes (kept_parts d es) < n) (sym (connected_size d es))
        (less (sizes (kept_parts d es)) (sizes es) (loses d es) h (parts_size es)));
  }
    where
      deep : (a b : ℕ) → a ≤ b → 1 + a ≤ 1 + b
      deep a b h = omega arith

      less : (a b : ℕ) (c : Bool) → c ≡ true → a + count c ≤ b → 1 + a < 1 + b
      less a b true h i = omega arith
      less a b false h i = absurd cc

  rule_tidies : (bound : List ExprName) (es : List Expr) →
      OnSome (IsTidier bound (roll-Expr (connected d es))) (logic_rule d es)
  rule_tidies bound es =
      if_some (IsTidier bound (roll-Expr (connected d es))) (loses d es) (joined d (kept_parts d es))
      (logic_tidier bound es)

form_tidies : (bound : List ExprName) (x : ExprForm) →
    OnSome (IsTidier bound (roll-Expr x)) (rule_8_form x)
form_tidies bound (And es) = rule_tidies false bound es
form_tidies bound (Or es) = rule_tidies true bound es
form_tidies bound x = tt

pub rule_8_tidies : Tidies rule_8
rule_8_tidies bound e =
    subst (λ z. OnSome (IsTidier bound z) (rule_8_form (out-Expr e))) (roll-out-Expr e)
    (form_tidies bound (out-Expr e))
