-- The rule for lists gives what is tidier.
use Rattle.std.proofs.Common.{◌≡◌, ℕ, ◌+◌, ◌≤◌, ◌<◌, max, List, [], ◌∷◌, ap, sym, ◌∙◌, subst, arith}
use Rattle.std.specs.Prelude.{Bool, true, false, ◌||◌}
use Rattle.xt_names.specs.declared.names.ExprName.{ExprName}
use Rattle.xt_forms.specs.Nest.{nest_of}
use Rattle.xt_syntax.specs.declared.exprs.Expr.{Expr}
use Rattle.xt_syntax.specs.declared.exprs.Clause.TheOpen.{Comma}
use Rattle.xt_syntax.specs.declared.exprs.Clause.TheViews.{out-Expr, roll-Expr, roll-out-Expr}
use Rattle.rewrite_rules.specs.Forms.{ExprForm, some_of}
use Rattle.rewrite_rules.specs.Sizes.{size_of}
use Rattle.rewrite_rules.specs.Law.{OnSome, IsTidier, Tidies}
use Rattle.rewrite_rules.specs.Lists.{is_list_form, is_list, parts_in, flat, rule_3_form, rule_3}
use Rattle.rewrite_rules.proofs.Measured.{size_rolled, nest_rolled}
use Rattle.rewrite_rules.proofs.ListsSame.{part_same, list_same}
use Rattle.rewrite_rules.proofs.Counts.{count, if_some, count_or, sizes, nests_in, sizes_append, nests_append}

pub piece_size : (e : Expr) (x : ExprForm) → roll-Expr x ≡ e →
    sizes (parts_in e x) + count (is_list_form x) ≤ size_of e
piece_size e (Comma all) h =
    subst (λ n. sizes all + 1 ≤ n) (sym (size_rolled (Comma all)) ∙ ap size_of h) (by (sizes all))
  where
    by : (n : ℕ) → n + 1 ≤ 1 + n
    by n = omega arith
piece_size e x h = by (size_of e)
  where
    by : (n : ℕ) → (n + 0) + 0 ≤ n
    by n = omega arith

flat_size : (es : List Expr) → sizes (flat es) + count (some_of is_list es) ≤ sizes es
flat_size [] = omega arith
flat_size (e ∷ es) =
    by (sizes (parts_in e (out-Expr e))) (sizes (flat es)) (size_of e) (sizes es)
    (is_list e) (some_of is_list es) (piece_size e (out-Expr e) (roll-out-Expr e)) (flat_size es)
    (sizes (flat (e ∷ es))) (sizes_append (parts_in e (out-Expr e)) (flat es))
  where
    by : (a b s t : ℕ) (c d : Bool) → a + count c ≤ s → b + count d ≤ t → (n : ℕ) → n ≡ a + b →
        n + count (c || d) ≤ s + t
    by a b s t c d h i n e = let j : count (c || d) ≤ count c + count d = count_or c d in omega arith

piece_nest : (e : Expr) (x : ExprForm) → roll-Expr x ≡ e → nests_in (parts_in e x) ≤ nest_of e
piece_nest e (Comma all) h =
    subst (λ n. nests_in all ≤ n) (sym (nest_rolled (Comma all)) ∙ ap nest_of h) (by (nests_in all))
  where
    by : (n : ℕ) → n ≤ 1 + n
    by n = omega arith
piece_nest e x h = by (nest_of e)
  where
    by : (n : ℕ) → max n 0 ≤ n
    by n = grind arith

flat_nest : (es : List Expr) → nests_in (flat es) ≤ nests_in es
flat_nest [] = omega arith
flat_nest (e ∷ es) =
    subst (λ n. n ≤ nests_in (e ∷ es)) (sym (nests_append (parts_in e (out-Expr e)) (flat es)))
    (by (nests_in (parts_in e (out-Expr e))) (nests_in (flat es)) (nest_of e) (nests_in es)
    (piece_nest e (out-Expr e) (roll-out-Expr e)) (flat_nest es))
  where
    by : (a b s t : ℕ) → a ≤ s → b ≤ t → max a b ≤ max s t
    by a b s t h i = grind arith

module _ (bound : List ExprName) where
  flat_tidier : (es : List Expr) → some_of is_list es ≡ true →
      IsTidier bound (roll-Expr (Comma es)) (roll-Expr (Comma (flat es)))
  flat_tidier es h = record {
    same = λ p env b k. list_same es p env k;
    nest = subst (λ n. n ≤ nest_of (roll-Expr (Comma es))) (sym (nest_rolled (Comma (flat es))))
        (subst (λ n. 1 + nests_in (flat es) ≤ n) (sym (nest_rolled (Comma es)))
        (grows (nests_in (flat es)) (nests_in es) (flat_nest es)));
    size = subst (λ n. n < size_of (roll-Expr (Comma es))) (sym (size_rolled (Comma (flat es))))
        (subst (λ n. 1 + sizes (flat es) < n) (sym (size_rolled (Comma es)))
        (less (sizes (flat es)) (sizes es) (some_of is_list es) h (flat_size es)));
  }
    where
      grows : (a b : ℕ) → a ≤ b → 1 + a ≤ 1 + b
      grows a b h = omega arith

      less : (a b : ℕ) (c : Bool) → c ≡ true → a + count c ≤ b → 1 + a < 1 + b
      less a b true h i = omega arith
      less a b false h i = absurd cc

  part_tidier : (e : Expr) → IsTidier bound (roll-Expr (Comma (e ∷ []))) e
  part_tidier e = record {
    same = λ p env b k. part_same e p env k;
    nest = subst (λ n. nest_of e ≤ n) (sym (nest_rolled (Comma (e ∷ [])))) (deeper (nest_of e));
    size = subst (λ n. size_of e < n) (sym (size_rolled (Comma (e ∷ [])))) (larger (size_of e));
  }
    where
      deeper : (n : ℕ) → n ≤ 1 + max n 0
      deeper n = grind arith

      larger : (n : ℕ) → n < 1 + (n + 0)
      larger n = omega arith

  form_tidies : (x : ExprForm) → OnSome (IsTidier bound (roll-Expr x)) (rule_3_form x)
  form_tidies (Comma []) = tt
  form_tidies (Comma (e ∷ [])) = part_tidier e
  form_tidies (Comma (a ∷ b ∷ more)) =
      if_some (IsTidier bound (roll-Expr (Comma (a ∷ b ∷ more)))) (some_of is_list (a ∷ b ∷ more))
      (roll-Expr (Comma (flat (a ∷ b ∷ more)))) (flat_tidier (a ∷ b ∷ more))
  form_tidies x = tt

pub rule_3_tidies : Tidies rule_3
rule_3_tidies bound e =
    subst (λ z. OnSome (IsTidier bound z) (rule_3_form (out-Expr e))) (roll-out-Expr e)
    (form_tidies bound (out-Expr e))
