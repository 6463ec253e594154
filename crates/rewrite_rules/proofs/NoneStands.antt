-- Where a pass changes nothing no rule stands.
use Rattle.std.proofs.Common.{◌≡◌, ℕ, ◌≤◌, ◌<◌, List, [], ◌∷◌, refl, sym, ap, map, subst, arith, inl, inr}
use Rattle.std.specs.Prelude.{Option, Some, None}
use Rattle.xt_names.specs.declared.names.ExprName.{ExprName}
use Rattle.xt_syntax.specs.declared.exprs.Expr.{Expr}
use Rattle.xt_syntax.specs.declared.queries.Query.{Query}
use Rattle.expr_meaning.specs.Outcomes.Outcome.{Every}
use Rattle.rewrite_rules.specs.Law.{OnSome, IsTidier}
use Rattle.rewrite_rules.specs.Sizes.{size_of}
use Rattle.rewrite_rules.specs.Ended.{query_size}
use Rattle.rewrite_rules.specs.Passes.{rules, by_first, or_same, once, tidied, tidied_value, tidied_variable}
use Rattle.rewrite_rules.specs.Passes.{tidied_function, tidied_query, passes}
use Rattle.rewrite_rules.specs.Tidy.{ChangesLittle, NoneStands, ValueTidy, FunctionTidy, QueryTidy}
use Rattle.rewrite_rules.proofs.PassesSame.{rules_tidy}
use Rattle.rewrite_rules.proofs.PassesEnd.{passes_end}
use Rattle.rewrite_rules.proofs.PassesSettle.{moved_settles}
use Rattle.rewrite_rules.proofs.Settling.{Settles}

module _ (mark : List ExprName → Expr → Expr) (little : ChangesLittle mark) where
  at_form : (bound : List ExprName) (e : Expr) (o : Option Expr) → by_first rules bound e ≡ o →
      OnSome (IsTidier bound e) o → Settles size_of (mark bound e) (or_same e o) e
  at_form bound e None h t = inl (refl, little bound e h)
  at_form bound e (Some r) h t = inr t.size

  no_larger : (bound : List ExprName) (e : Expr) (o : Option Expr) → OnSome (IsTidier bound e) o →
      size_of (or_same e o) ≤ size_of e
  no_larger bound e None t = by (size_of e)
    where
      by : (n : ℕ) → n ≤ n
      by n = omega arith
  no_larger bound e (Some r) t = by (size_of r) (size_of e) t.size
    where
      by : (a b : ℕ) → a < b → a ≤ b
      by a b h = omega arith

  fixed : (bound : List ExprName) (e m x : Expr) → Settles size_of m x e →
      Settles size_of (mark bound m) (once bound x) e
  fixed bound e m x (inl p) =
      subst (λ z. Settles size_of (mark bound z) (once bound x) e) (sym p.1)
      (subst (λ z. Settles size_of (mark bound e) (once bound z) e) (sym p.0)
      (at_form bound e (by_first rules bound e) refl (rules_tidy bound e)))
  fixed bound e m x (inr p) =
      inr (by (size_of (once bound x)) (size_of x) (size_of e)
      (no_larger bound x (by_first rules bound x) (rules_tidy bound x)) p)
    where
      by : (a b c : ℕ) → a ≤ b → b < c → a < c
      by a b c h i = omega arith

  marked : (bound : List ExprName) (e m : Expr) → tidied bound e ≡ e → Settles size_of m (tidied bound e) e → m ≡ e
  marked bound e m h (inl p) = p.1
  marked bound e m h (inr p) = absurd (never (size_of e) (subst (λ z. size_of z < size_of e) h p))
    where
      never : (n : ℕ) → n < n → ⊥
      never n h = omega arith

pub none_stands : (bound : List ExprName) (e : Expr) → tidied bound e ≡ e → NoneStands bound e
none_stands bound e h mark little =
    marked mark little bound e _ h
    (moved_settles (List ExprName) (λ v names. v ∷ names) once mark (fixed mark little) e bound)

-- a query
head_or : {A : Type 0} → A → List A → A
head_or x [] = x
head_or x (z ∷ zs) = z

tail_of : {A : Type 0} → List A → List A
tail_of [] = []
tail_of (z ∷ zs) = zs

value_or : {A : Type 0} → A → Option A → A
value_or x None = x
value_or x (Some z) = z

head_same : {A : Type 0} (x y : A) (xs ys : List A) → (x ∷ xs) ≡ (y ∷ ys) → x ≡ y
unfolding head_or
head_same x y xs ys h = ap (head_or x) h

tail_same : {A : Type 0} (x y : A) (xs ys : List A) → (x ∷ xs) ≡ (y ∷ ys) → xs ≡ ys
unfolding tail_of
tail_same x y xs ys h = ap tail_of h

some_same : {A : Type 0} (x y : A) → Some x ≡ Some y → x ≡ y
unfolding value_or
some_same x y h = ap (value_or x) h

each_same : {A : Type 0} (P : A → Type 0) (t : A → A) → ((x : A) → t x ≡ x → P x) → (xs : List A) →
    map t xs ≡ xs → Every P xs
each_same P t h [] e = tt
each_same P t h (x ∷ xs) e =
    (h x (head_same (t x) x (map t xs) xs e), each_same P t h xs (tail_same (t x) x (map t xs) xs e))

value_tidy : (o : Option Expr) → tidied_value o ≡ o → ValueTidy o
value_tidy None h = tt
value_tidy (Some e) h = none_stands [] e (some_same (tidied [] e) e h)

query_tidy : (q : Query) → tidied_query q ≡ q → QueryTidy q
query_tidy q h = (
  each_same (λ v. ValueTidy v.value) tidied_variable
      (λ v e. value_tidy v.value (ap (λ w. w.value) e)) q.variables (ap (λ z. z.variables) h),
  each_same FunctionTidy tidied_function
      (λ f e. none_stands (map (λ p. p.name) f.params) f.body (ap (λ w. w.body) e)) q.functions
      (ap (λ z. z.functions) h),
  none_stands [] q.body (ap (λ z. z.body) h),
)

pub passes_tidy : (q : Query) (n : ℕ) → query_size q ≤ n → QueryTidy (passes n q)
passes_tidy q n h = query_tidy (passes n q) (passes_end n q h)
