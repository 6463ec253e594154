-- The relations say what the function says.
use Rattle.std.proofs.Common.{◌≡◌, List, [], ◌∷◌, ◌++◌, Option, Some, None, Result, Ok, Err, refl}
use Rattle.std.proofs.Common.{sym, ap, subst, ◌∙◌, Bool, ℕ}
use Rattle.std.proofs.lemmas.Option.{none-some, same_Some}
use Rattle.xt_names.specs.declared.codes.Code.{Code}
use Rattle.xt_names.specs.declared.names.Binding.{Binding}
use Rattle.xt_types.specs.declared.node_tests.SpaceRule.{SpaceRule}
use Rattle.xt_syntax.specs.declared.exprs.Expr.{Expr}
use Rattle.xt_syntax.specs.declared.queries.Query.{Query}
use Rattle.xt_syntax.specs.declared.queries.QueryVar.{QueryVar}
use Rattle.xt_syntax.specs.declared.queries.QueryFunction.{QueryFunction}
use Rattle.expr_names.specs.declared.fault.ResolveFault.{ResolveFault}
use Rattle.expr_names.specs.declared.fault.ResolveFault.TheVariants.{Static, Memory}
use Rattle.expr_names.specs.Answers.{first, Answers}
use Rattle.closed_queries.specs.declared.prolog_rules.declarations.Declaration.{Declaration}
use Rattle.closed_queries.specs.PrologRules.Declarations.{query_broken}
use Rattle.closed_queries.specs.PrologRules.Setters.{nothing_seen, setters_broken}
use Rattle.expr_resolve.specs.declared.setting.Setting.{Setting}
use Rattle.expr_resolve.specs.Folds.{broken_of, expr_meant}
use Rattle.query_grammar.specs.declared.declared.Declared.{Declared}
use Rattle.query_grammar.specs.declared.declared.Declared.TheVariants as declared
use Rattle.query_grammar.specs.declared.declared.RawQuery.{RawQuery}
use Rattle.query_options.specs.Options.{no_options}
use Rattle.query_options.specs.declared.options.Options.{Options}
use Rattle.query_resolve.specs.QueryPrologs.Setters.{setters_of, version_broken}
use Rattle.query_resolve.specs.Declarations.{variable_meant, function_meant}
use Rattle.query_resolve.specs.Late.{declaration_in, options_behind, declarations_of, late_broken}
use Rattle.query_resolve.specs.Late.{all_broken}
use Rattle.query_resolve.specs.Queries.{variable_and, function_and, variables_in, functions_in}
use Rattle.query_resolve.specs.Queries.{setting_of, late_of, rules_broken, query_meant, value}
use Rattle.query_resolve.specs.Queries.{static, value_or, resolved, Gives}
use Rattle.query_resolve.specs.Meaning.{Among, here, there, BrokenIn, by_first, by_later, Broken}
use Rattle.query_resolve.specs.Meaning.{by_version, by_setter, by_declaration, by_body, by_name}
use Rattle.query_resolve.specs.Meaning.{Declares, nothing, variable, function, other, Meant}
use Rattle.query_resolve.specs.Meaning.{Resolved}

among_front : {c : Code} {xs : List Code} (ys : List Code) → Among c xs → Among c (xs ++ ys)
among_front ys here = here
among_front ys (there a) = there (among_front ys a)

among_back : {c : Code} (xs : List Code) {ys : List Code} → Among c ys → Among c (xs ++ ys)
among_back [] a = a
among_back (x ∷ xs) a = there (among_back xs a)

-- a code of two lists is one of either
among_parts : {c : Code} {P : Type 0} (xs ys : List Code) → (Among c xs → P) → (Among c ys → P)
    → Among c (xs ++ ys) → P
among_parts [] ys f g a = g a
among_parts (x ∷ xs) ys f g here = f here
among_parts (x ∷ xs) ys f g (there a) = among_parts xs ys (λ b. f (there b)) g a

among_first : (cs : List Code) (c : Code) → first cs ≡ Some c → Among c cs
among_first [] c e = absurd (none-some _ e)
among_first (d ∷ cs) c e = subst (λ (x : Code). Among c (x ∷ cs)) (sym (same_Some _ _ e)) here

none_among : (c : Code) → Among c [] → ⊥
none_among c a = elim a [ ]

none_broken : (cs : List Code) → ((c : Code) → Among c cs → ⊥) → cs ≡ []
none_broken [] h = refl
none_broken (c ∷ cs) h = absurd (h c here)

-- the declarations
in_among : {s : Setting} {c : Code} {o : Options} {ds : List Declared} → BrokenIn s c o ds
    → Among c (all_broken s o ds)
in_among (by_first {ds = ds} a) = among_front _ a
in_among (by_later b) = among_back _ (in_among b)

among_in : (s : Setting) (c : Code) (o : Options) (ds : List Declared) → Among c (all_broken s o ds)
    → BrokenIn s c o ds
among_in s c o [] a = absurd (none_among c a)
among_in s c o (d ∷ ds) a =
    among_parts (late_broken s o d) (all_broken s (options_behind s o d) ds) (λ b. by_first b)
    (λ b. by_later (among_in s c (options_behind s o d) ds b)) a

-- the whole
pub broken_among : (raw : RawQuery) (c : Code) → Broken raw c → Among c (rules_broken raw)
broken_among raw c (by_version a) = among_front _ (among_front _ a)
broken_among raw c (by_setter a) = among_front _ (among_back (version_broken raw.declared) a)
broken_among raw c (by_declaration b) = among_back _ (among_front _ (among_front _ (in_among b)))
broken_among raw c (by_body a) =
    among_back _ (among_front _
    (among_back (all_broken (setting_of raw) no_options raw.declared) a))
broken_among raw c (by_name a) =
    among_back _ (among_back
    (all_broken (setting_of raw) no_options raw.declared ++ broken_of (setting_of raw) raw.body)
    a)

pub among_broken : (raw : RawQuery) (c : Code) → Among c (rules_broken raw) → Broken raw c
among_broken raw c a =
    let names = query_broken (late_of raw).declarations (expr_meant (setting_of raw) raw.body) in
    let body = broken_of (setting_of raw) raw.body in
    let late = all_broken (setting_of raw) no_options raw.declared in
    let version = version_broken raw.declared in
    let setters = setters_broken nothing_seen (setters_of raw.declared) in
    among_parts (version ++ setters) ((late ++ body) ++ names)
    (among_parts version setters (λ b. by_version b) (λ b. by_setter b))
    (among_parts (late ++ body) names (among_parts late body
    (λ b. by_declaration (among_in (setting_of raw) c no_options raw.declared b)) (λ b. by_body b))
    (λ b. by_name b)) a

-- the variables and functions among the declarations are those that are declared
declares_by : (s : Setting) (d : Declared) (ds : List Declared)
    → Declares s ds (variables_in (declarations_of s ds)) (functions_in (declarations_of s ds))
    → Declares s (d ∷ ds) (variables_in (declaration_in s d ++ declarations_of s ds))
    (functions_in (declaration_in s d ++ declarations_of s ds))
unfolding declaration_in variable_and function_and
declares_by s (declared.Version t) ds h = other refl h
declares_by s (declared.Namespace p u) ds h = other refl h
declares_by s (declared.ElementDefault u) ds h = other refl h
declares_by s (declared.FunctionDefault u) ds h = other refl h
declares_by s (declared.BoundarySpace b) ds h = other refl h
declares_by s declared.Setter ds h = other refl h
declares_by s (declared.Setting n t) ds h = other refl h
declares_by s (declared.Variable v w) ds h = variable h
declares_by s (declared.Function n ps k w) ds h = function h

declares_all : (s : Setting) (ds : List Declared)
    → Declares s ds (variables_in (declarations_of s ds)) (functions_in (declarations_of s ds))
declares_all s [] = nothing
declares_all s (d ∷ ds) = declares_by s d ds (declares_all s ds)

declared_are : {s : Setting} {ds : List Declared} {vs : List QueryVar} {fs : List QueryFunction}
    → Declares s ds vs fs
    → (vs ≡ variables_in (declarations_of s ds)) × (fs ≡ functions_in (declarations_of s ds))
unfolding declaration_in variable_and function_and
declared_are nothing = (refl, refl)
declared_are {s = s} (variable {v = v} {value = w} h) =
    let r = declared_are h in (ap (λ (vs : List QueryVar). variable_meant s v w ∷ vs) r.0, r.1)
declared_are {s = s} (function {name = n} {params = ps} {kind = k} {body = b} h) =
    let r = declared_are h in
    (r.0, ap (λ (fs : List QueryFunction). function_meant s n ps k b ∷ fs) r.1)
declared_are (other e h) = let r = declared_are h in rw e r

pub meant_by : (raw : RawQuery) → rules_broken raw ≡ [] → Meant raw (query_meant raw)
meant_by raw e = record {
  unbroken = λ c b. none_among c (subst (λ (cs : List Code). Among c cs) e (broken_among raw c b));
  prefixes = refl;
  default = refl;
  declares = declares_all (setting_of raw) raw.declared;
  body = refl;
  space = refl;
  omit = refl;
}

abbrev query_is : List Binding → List ℕ → List QueryVar → List QueryFunction → Expr → List SpaceRule
    → Bool → Query
query_is p e v f b s o = record {
  prefixes = p;
  element_default = e;
  variables = v;
  functions = f;
  body = b;
  space = s;
  omit = o;
}

same_parts : (p q : List Binding) (e d : List ℕ) (v u : List QueryVar) (f g : List QueryFunction)
    (b c : Expr) (s r : List SpaceRule) (o n : Bool)
    → p ≡ q → e ≡ d → v ≡ u → f ≡ g → b ≡ c → s ≡ r → o ≡ n
    → query_is p e v f b s o ≡ query_is q d u g c r n
same_parts p q e d v u f g b c s r o n i j k l m x y = rw (i, j, k, l, m, x, y) refl

same_query : (a b : Query) → a.prefixes ≡ b.prefixes → a.element_default ≡ b.element_default
    → a.variables ≡ b.variables → a.functions ≡ b.functions → a.body ≡ b.body → a.space ≡ b.space
    → a.omit ≡ b.omit → a ≡ b
same_query a b p e v f w s o =
    same_parts a.prefixes b.prefixes a.element_default b.element_default a.variables b.variables
    a.functions b.functions a.body b.body a.space b.space a.omit b.omit p e v f w s o

pub meant_is : (raw : RawQuery) (q : Query) → Meant raw q
    → (rules_broken raw ≡ []) × (q ≡ query_meant raw)
meant_is raw q m =
    let d = declared_are m.declares in (
      none_broken (rules_broken raw) (λ c a. m.unbroken c (among_broken raw c a)),
      same_query q (query_meant raw) m.prefixes m.default d.0 d.1 m.body m.space m.omit,
    )

-- an answer by the case that it is
pub resolved_by : (raw : RawQuery) (r : Result Query ResolveFault)
    → Answers r (rules_broken raw) (query_meant raw) → Resolved r raw
resolved_by raw (Ok q) h = subst (Meant raw) (sym h.1) (meant_by raw h.0)
resolved_by raw (Err (Static c)) h = among_broken raw c (among_first (rules_broken raw) c h)
resolved_by raw (Err (Memory e)) h = tt

pub gives_by : (raw : RawQuery) (r : Result Query ResolveFault)
    → Answers r (rules_broken raw) (query_meant raw) → Gives r (resolved raw)
gives_by raw (Ok q) h = rw (h.0, h.1) refl
gives_by raw (Err (Static c)) h = rw h refl
gives_by raw (Err (Memory e)) h = tt

pub ruleset resolving = (resolved_by, gives_by)

-- the laws
pub means_one : (raw : RawQuery) (a b : Query) → Meant raw a → Meant raw b → a ≡ b
means_one raw a b x y = (meant_is raw a x).1 ∙ sym (meant_is raw b y).1

pub meant_resolved : (raw : RawQuery) (q : Query) → Meant raw q → resolved raw ≡ value q
meant_resolved raw q m = let e = meant_is raw q m in rw e.0 (ap value (sym e.1))

not_static : (c : Code) (q : Query) → static c ≡ value q → ⊥
not_static c q e = cc

value_by : (raw : RawQuery) (q : Query) (cs : List Code)
    → value_or (first cs) (query_meant raw) ≡ value q → (cs ≡ []) × (query_meant raw ≡ q)
value_by raw q [] e = (refl, cc)
value_by raw q (c ∷ cs) e = absurd (not_static c q e)

pub resolved_meant : (raw : RawQuery) (q : Query) → resolved raw ≡ value q → Meant raw q
resolved_meant raw q e =
    let h = value_by raw q (rules_broken raw) e in subst (Meant raw) h.1 (meant_by raw h.0)

pub meant_unbroken : (raw : RawQuery) (a : Query) (c : Code) → Meant raw a → Broken raw c → ⊥
meant_unbroken raw a c m b = m.unbroken c b
