-- A pass over an expression changes no outcome.
use Rattle.std.proofs.Common.{◌≡◌, ℕ, List, [], ◌∷◌, refl, sym, ap, ◌∙◌, subst}
use Rattle.std.specs.Prelude.{true, Option, Some, None}
use Rattle.xt_names.specs.declared.names.ExprName.{ExprName}
use Rattle.xt_syntax.specs.declared.exprs.Expr.{Expr}
use Rattle.xt_syntax.specs.declared.exprs.Arm.{Arm}
use Rattle.xt_syntax.specs.declared.exprs.Clause.TheOpen.{If, Var}
use Rattle.xt_syntax.specs.declared.exprs.Clause.TheViews.{out-Expr, roll-Expr, roll-out-Expr}
use Rattle.expr_meaning.specs.Env.{Env, Program}
use Rattle.expr_meaning.specs.Meaning.{outcome}
use Rattle.expr_meaning.specs.Values.{variable}
use Rattle.expr_laws.proofs.Rolled.{rolled}
use Rattle.expr_meaning.specs.Outcomes.Outcome.{Every}
use Rattle.rewrite_rules.specs.Forms.{ExprForm}
use Rattle.rewrite_rules.specs.Law.{Binds, OnSome, IsTidier, Tidies, SameWhere}
use Rattle.rewrite_rules.specs.Moving.{Moving}
use Rattle.rewrite_rules.specs.Sights.{plain}
use Rattle.rewrite_rules.specs.Passes.{chain_of, chain_form, chain_rule, Rule, rules, or_by, by_first}
use Rattle.rewrite_rules.specs.Passes.{or_same, once, unchanged_variable, tidied}
use Rattle.rewrite_rules.specs.Choices.{choice}
use Rattle.rewrite_rules.proofs.ChoicesTidy.{rule_2_tidies, chain_tidier}
use Rattle.rewrite_rules.proofs.ListsTidy.{rule_3_tidies}
use Rattle.rewrite_rules.proofs.TestsTidy.{rule_4_tidies, rule_5_tidies}
use Rattle.rewrite_rules.proofs.LoopsTidy.{rule_6_tidies}
use Rattle.rewrite_rules.proofs.LogicTidy.{rule_8_tidies}
use Rattle.rewrite_rules.proofs.LetsTidy.{rule_1_tidies, rule_7_tidies}
use Rattle.rewrite_rules.proofs.SightsMove.{sight_bound, sight_focused, sight_focus, sight_state}
use Rattle.rewrite_rules.proofs.Whole.{always_moved}

chain_part : (bound : List ExprName) (arms : List Arm) (other : Expr) (x : ExprForm) → out-Expr other ≡ x →
    OnSome (IsTidier bound (roll-Expr (If arms other))) (chain_of (choice arms other) other x)
chain_part bound arms other (If more last) h = chain_tidier bound arms other more last h
chain_part bound arms other x h = tt

chain_form_tidies : (bound : List ExprName) (x : ExprForm) →
    OnSome (IsTidier bound (roll-Expr x)) (chain_form x)
chain_form_tidies bound (If arms other) = chain_part bound arms other (out-Expr other) refl
chain_form_tidies bound x = tt

pub chain_rule_tidies : Tidies chain_rule
chain_rule_tidies bound e =
    subst (λ z. OnSome (IsTidier bound z) (chain_rule bound e)) (roll-out-Expr e)
    (chain_form_tidies bound (out-Expr e))

or_tidies : (bound : List ExprName) (e : Expr) (a b : Option Expr) → OnSome (IsTidier bound e) a →
    OnSome (IsTidier bound e) b → OnSome (IsTidier bound e) (or_by a b)
or_tidies bound e (Some r) b h i = h
or_tidies bound e None b h i = i

abbrev pub AllTidy : List Rule → Type 0
AllTidy rs = Every Tidies rs

first_tidies : (rs : List Rule) → AllTidy rs → Tidies (by_first rs)
first_tidies [] h bound e = tt
first_tidies (r ∷ rs) h bound e =
    or_tidies bound e (r bound e) (by_first rs bound e) (h.0 bound e) (first_tidies rs h.1 bound e)

pub rules_tidy : Tidies (by_first rules)
rules_tidy = first_tidies rules (
  chain_rule_tidies,
  (
    rule_1_tidies,
    (
      rule_2_tidies,
      (
        rule_3_tidies,
        (rule_4_tidies, (rule_5_tidies, (rule_6_tidies, (rule_7_tidies, (rule_8_tidies, tt))))),
      ),
    ),
  ),
)

-- one application at most
by_same : (bound : List ExprName) (e : Expr) (o : Option Expr) → OnSome (IsTidier bound e) o →
    SameWhere bound (or_same e o) e
by_same bound e None h p env b k = refl
by_same bound e (Some r) h p env b k = h.same p env b k

pub once_same : (bound : List ExprName) (e : Expr) → SameWhere bound (once bound e) e
once_same bound e = by_same bound e (by_first rules bound e) (rules_tidy bound e)

-- names that are local
abbrev pub named : Moving (List ExprName)
named = record {
  after = λ v names. v ∷ names;
  at = λ names e f. (e ≡ f) × Binds names e;
  bound = λ names e f h v xs. sight_bound (plain names) e f h v xs;
  focused = λ names e f h q. sight_focused (plain names) e f h q;
  focus = λ names e f h. sight_focus (plain names) e f h;
  state = λ names e f h. sight_state (plain names) e f h;
}

module _ (p : Program) where
  variable_same : (names : List ExprName) (n : ExprName) → true ≡ true → (e f : Env) →
      (e ≡ f) × Binds names e → (k : ℕ) → variable p n e k ≡ outcome p (unchanged_variable names n) f k
  variable_same names n g e f h k =
      ap (λ x. variable p n x k) h.0 ∙ sym (ap (λ m. m f k) (rolled p (Var n)))

  fixed_same : (names : List ExprName) (x : Expr) (e f : Env) → (e ≡ f) × Binds names e → (k : ℕ) →
      outcome p (once names x) f k ≡ outcome p x f k
  fixed_same names x e f h k = once_same names x p f (subst (Binds names) h.0 h.1) k

  pub tidied_same : (names : List ExprName) (e : Expr) (env : Env) → Binds names env → (k : ℕ) →
      outcome p (tidied names e) env k ≡ outcome p e env k
  tidied_same names e env b k =
      sym (always_moved (List ExprName) named p unchanged_variable once (λ s n. true) variable_same fixed_same
      (λ s n. refl) e names env env (refl, b) k).0
