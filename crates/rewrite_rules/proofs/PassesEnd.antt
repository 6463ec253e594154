-- Passes over a query end: with as many passes as it is large one more changes nothing.
use Rattle.std.proofs.Common.{◌≡◌, ℕ, zero, suc, ◌+◌, ◌≤◌, ◌<◌, List, [], ◌∷◌, refl, sym, ap, ◌∙◌, map, arith, inl, inr}
use Rattle.std.specs.Prelude.{◌⊎◌, Option, Some, None}
use Rattle.xt_names.specs.declared.names.ExprName.{ExprName}
use Rattle.xt_forms.specs.Nest.{nest_of}
use Rattle.xt_syntax.specs.declared.exprs.Expr.{Expr}
use Rattle.xt_syntax.specs.declared.queries.Query.{Query}
use Rattle.xt_syntax.specs.declared.queries.QueryFunction.{QueryFunction}
use Rattle.xt_syntax.specs.declared.queries.QueryVar.{QueryVar}
use Rattle.rewrite_rules.specs.Sizes.{size_of}
use Rattle.rewrite_rules.specs.Law.{OnSome, IsTidier}
use Rattle.rewrite_rules.specs.Passes.{rules, by_first, or_same, once, tidied}
use Rattle.rewrite_rules.specs.Passes.{tidied_value, tidied_variable, tidied_function, tidied_query, passes}
use Rattle.rewrite_rules.specs.Ended.{variable_size, function_size, query_size}
use Rattle.rewrite_rules.proofs.Calmer.{Calmer, calm, calm_smaller, calm_then, calm_one, calm_list}
use Rattle.rewrite_rules.proofs.PassesSame.{rules_tidy}
use Rattle.rewrite_rules.proofs.PassesTidy.{moved_calm}
use Rattle.rewrite_rules.specs.Ended.{value_size}
use Rattle.xt_names.specs.Lists.{greatest, total}

by_calm : (bound : List ExprName) (e : Expr) (o : Option Expr) → OnSome (IsTidier bound e) o →
    Calmer size_of nest_of (or_same e o) e
by_calm bound e None h = calm size_of nest_of e
by_calm bound e (Some r) h = calm_smaller size_of nest_of r e h.size h.nest

once_calm : (bound : List ExprName) (e : Expr) → Calmer size_of nest_of (once bound e) e
once_calm bound e = by_calm bound e (by_first rules bound e) (rules_tidy bound e)

pub tidied_calm : (bound : List ExprName) (e : Expr) → Calmer size_of nest_of (tidied bound e) e
tidied_calm bound e = moved_calm (List ExprName) (λ v names. v ∷ names) once once_calm e bound

-- a query
abbrev nothing : {A : Type 0} → A → ℕ
nothing x = 0

abbrev same_max : (n : ℕ) → n ≡ n
same_max n = refl

value_calm : (o : Option Expr) → Calmer value_size nothing (tidied_value o) o
value_calm None = calm value_size nothing None
value_calm (Some e) =
    calm_one (λ z. Some z) size_of nothing value_size nothing 0 0 (λ z. zero_is (size_of z)) (λ z. refl)
    (tidied [] e) e (record { less = (tidied_calm [] e).less; flat = omega arith })
  where
    zero_is : (n : ℕ) → n ≡ 0 + n
    zero_is n = omega arith

variable_calm : (v : QueryVar) → Calmer variable_size nothing (tidied_variable v) v
variable_calm v =
    calm_one (λ z. record v { value = z }) value_size nothing variable_size nothing 0 0
    (λ z. zero_is (value_size z)) (λ z. refl) (tidied_value v.value) v.value (value_calm v.value)
  where
    zero_is : (n : ℕ) → n ≡ 0 + n
    zero_is n = omega arith

function_calm : (f : QueryFunction) → Calmer function_size nothing (tidied_function f) f
function_calm f =
    calm_one (λ z. record f { body = z }) size_of nothing function_size nothing 0 0
    (λ z. zero_is (size_of z)) (λ z. refl) (tidied (map (λ p. p.name) f.params) f.body) f.body
    (record { less = (tidied_calm (map (λ p. p.name) f.params) f.body).less; flat = omega arith })
  where
    zero_is : (n : ℕ) → n ≡ 0 + n
    zero_is n = omega arith

all_calm : {A : Type 0} (size : A → ℕ) (t : A → A) → ((x : A) → Calmer size nothing (t x) x) → (xs : List A) →
    Calmer (λ l. total (map size l)) (λ l. greatest (map (λ x. 0) l)) (map t xs) xs
all_calm size t h [] = calm (λ l. total (map size l)) (λ l. greatest (map (λ x. 0) l)) []
all_calm size t h (x ∷ xs) = calm_list size (λ x. 0) (t x) x (h x) (map t xs) xs (all_calm size t h xs)

flat_none : {A : Type 0} (size nest : A → ℕ) (x y : A) → Calmer size nest x y → Calmer size nothing x y
flat_none size nest x y h = record { less = h.less; flat = omega arith }

abbrev parts_sizes : List QueryVar → ℕ
parts_sizes vs = total (map variable_size vs)

query_calm : (q : Query) → Calmer query_size nothing (tidied_query q) q
query_calm q =
    let vs = map tidied_variable q.variables in
    let fs = map tidied_function q.functions in
    calm_then query_size nothing (tidied_query q) (record q { functions = fs; body = tidied [] q.body }) q
    (calm_one (λ z. record q { variables = z; functions = fs; body = tidied [] q.body })
    (λ l. total (map variable_size l)) nothing query_size nothing
    (total (map function_size fs) + size_of (tidied [] q.body)) 0
    (λ z. turn (total (map variable_size z)) (total (map function_size fs) + size_of (tidied [] q.body))) (λ z. refl)
    vs q.variables (flat_none _ _ vs q.variables (all_calm variable_size tidied_variable variable_calm q.variables)))
    (calm_then query_size nothing (record q { functions = fs; body = tidied [] q.body })
    (record q { body = tidied [] q.body }) q
    (calm_one (λ z. record q { functions = z; body = tidied [] q.body })
    (λ l. total (map function_size l)) nothing query_size nothing
    (total (map variable_size q.variables) + size_of (tidied [] q.body)) 0
    (λ z. middle (total (map variable_size q.variables)) (total (map function_size z)) (size_of (tidied [] q.body)))
    (λ z. refl) fs q.functions
    (flat_none _ _ fs q.functions (all_calm function_size tidied_function function_calm q.functions)))
    (calm_one (λ z. record q { body = z }) size_of nothing query_size nothing
    (total (map variable_size q.variables) + total (map function_size q.functions)) 0
    (λ z. behind (total (map variable_size q.variables)) (total (map function_size q.functions)) (size_of z))
    (λ z. refl) (tidied [] q.body) q.body (flat_none size_of nest_of _ _ (tidied_calm [] q.body))))
  where
    turn : (a r : ℕ) → a + r ≡ r + a
    turn a r = omega arith

    middle : (a b c : ℕ) → a + (b + c) ≡ (a + c) + b
    middle a b c = omega arith

    behind : (a b c : ℕ) → a + (b + c) ≡ (a + b) + c
    behind a b c = omega arith

-- what does not change stays so
stays : (n : ℕ) (q : Query) → tidied_query q ≡ q → passes n q ≡ q
stays zero q h = refl
stays (suc n) q h = ap (passes n) h ∙ stays n q h

ends : (n : ℕ) (q : Query) → query_size q ≤ n → tidied_query (passes n q) ≡ passes n q
ends zero q h = by (query_calm q).less
  where
    none : (a b : ℕ) → a < b → b ≤ 0 → ⊥
    none a b h i = omega arith

    by : (tidied_query q ≡ q) ⊎ (query_size (tidied_query q) < query_size q) → tidied_query q ≡ q
    by (inl p) = p
    by (inr p) = absurd (none (query_size (tidied_query q)) (query_size q) p h)
ends (suc n) q h = by (query_calm q).less (ends n (tidied_query q))
  where
    fewer : (a b n : ℕ) → a < b → b ≤ suc n → a ≤ n
    fewer a b n h i = omega arith

    by : (tidied_query q ≡ q) ⊎ (query_size (tidied_query q) < query_size q) →
        (query_size (tidied_query q) ≤ n →
        tidied_query (passes n (tidied_query q)) ≡ passes n (tidied_query q)) →
        tidied_query (passes n (tidied_query q)) ≡ passes n (tidied_query q)
    by (inl p) later =
        let same : passes n (tidied_query q) ≡ q = ap (passes n) p ∙ stays n q p in
        ap tidied_query same ∙ p ∙ sym same
    by (inr p) later = later (fewer (query_size (tidied_query q)) (query_size q) n p h)

pub passes_end : (n : ℕ) (q : Query) → query_size q ≤ n → tidied_query (passes n q) ≡ passes n q
passes_end = ends
