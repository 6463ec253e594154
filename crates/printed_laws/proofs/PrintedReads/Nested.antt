-- A query that is printed nests no deeper than the query.
use Rattle.std.proofs.Common.{◌≡◌, ◌≤◌, ℕ, max, List, [], ◌∷◌, ◌++◌, map, Bool, true, false, ◌&&◌}
use Rattle.std.proofs.Common.{Option, Some, None, is_some, arith}
use Rattle.std.proofs.lemmas.Bool.{and_parts}
use Rattle.xt_names.specs.declared.names.Binding.{Binding}
use Rattle.xt_types.specs.declared.node_tests.SpaceRule.{SpaceRule}
use Rattle.xt_syntax.specs.declared.exprs.Expr.{Expr}
use Rattle.xt_syntax.specs.declared.prefixes.Prefixes.{Prefixes}
use Rattle.xt_syntax.specs.declared.queries.Query.{Query}
use Rattle.xt_syntax.specs.declared.queries.QueryVar.{QueryVar}
use Rattle.xt_syntax.specs.declared.queries.QueryFunction.{QueryFunction}
use Rattle.xt_forms.specs.Nest.{nest_of}
use Rattle.expr_terms.specs.Nest.{raw_nest_of}
use Rattle.expr_raws.specs.PathRaws.Forms.{single}
use Rattle.expr_raws.specs.PathRaws.Names.{function_token}
use Rattle.expr_raws.specs.ControlRaws.Bindings.{typing, may}
use Rattle.expr_raws.specs.Raws.{form_of, raw_of, is_printable}
use Rattle.raw_laws.specs.CleanRaws.Keeps.{keeps_rules}
use Rattle.raw_laws.proofs.NestRaws.Within.{at_within}
use Rattle.raw_laws.proofs.NestRaws.Forms.{printable_within}
use Rattle.query_grammar.specs.declared.declared.Declared.TheVariants as declared
use Rattle.query_reader.specs.QuerySteps.Stands.{nest_in}
use Rattle.query_texts.specs.Texts.{declared_nest, query_nest}
use Rattle.printed_laws.specs.QueryRaws.Prologs as forms
use Rattle.printed_laws.specs.QueryRaws.Prologs.{DeclaredForm, space_option, omit_option}
use Rattle.printed_laws.specs.QueryRaws.Declarations as made
use Rattle.printed_laws.specs.QueryRaws.Declarations.{typed, typed_can, is_clean, value_raw, value_can}
use Rattle.printed_laws.specs.QueryRaws.Declarations.{params_can}
use Rattle.printed_laws.specs.QueryRaws.Queries.{prefixes_of, options, late, declarations, raws, raw_query}
use Rattle.printed_laws.specs.QueryRaws.Queries.{all_can, can_print}
use Rattle.printed_laws.specs.PrintedReads.Nests.{value_nest_of, variables_nest_of, functions_nest_of}
use Rattle.printed_laws.specs.PrintedReads.Nests.{query_nest_of}

-- where they can be printed, none nests deeper than that
abbrev AllNest : ℕ → List DeclaredForm → Type 0
AllNest n [] = Unit {0}
AllNest n (f ∷ fs) = (f.can ≡ true → nest_in f.raw ≤ n) × AllNest n fs

append_nest : (n : ℕ) (fs gs : List DeclaredForm) → AllNest n fs → AllNest n gs
    → AllNest n (fs ++ gs)
append_nest n [] gs a b = b
append_nest n (f ∷ fs) gs a b = (a.0, append_nest n fs gs a.1 b)

wider_nest : (m n : ℕ) (fs : List DeclaredForm) → m ≤ n → AllNest m fs → AllNest n fs
wider_nest m n [] h a = tt
wider_nest m n (f ∷ fs) h a = (
  λ c.
      let b : nest_in f.raw ≤ m = a.0 c in
      omega arith,
  wider_nest m n fs h a.1,
)

deepest : (n : ℕ) (fs : List DeclaredForm) → AllNest n fs → all_can fs ≡ true
    → declared_nest (raws fs) ≤ n
deepest n [] a c = omega arith
deepest n (f ∷ fs) a c =
    let h = and_parts f.can (all_can fs) c in
    let b : nest_in f.raw ≤ n = a.0 h.0 in
    let d : declared_nest (raws fs) ≤ n = deepest n fs a.1 h.1 in
    omega arith

module _ (p : Prefixes) where
  value_in : (v : QueryVar) (o : Option Expr) → value_can p o ≡ true
      → nest_in (declared.Variable (typed p v.name v.kind) (value_raw p o)) ≤ value_nest_of o
  value_in v None c = omega arith
  value_in v (Some e) c =
      let h = and_parts (is_printable p e) (keeps_rules e) c in
      (at_within single (form_of p e) (nest_of e) (printable_within p e h.0)).below

  variables_in : (vs : List QueryVar)
      → AllNest (variables_nest_of vs) (map (λ v. made.variable p v) vs)
  variables_in [] = tt
  variables_in (v ∷ vs) =
      let fs : List DeclaredForm = map (λ w. made.variable p w) vs in
      let m : ℕ = value_nest_of v.value in
      let n : ℕ = variables_nest_of vs in
      let less : n ≤ max m n = omega arith in (
        λ c.
            let h = and_parts (typed_can p v.name v.kind) (value_can p v.value) c in
            let b : nest_in (made.variable p v).raw ≤ m = value_in v v.value h.1 in
            omega arith,
        wider_nest n (max m n) fs less (variables_in vs),
      )

  functions_in : (gs : List QueryFunction)
      → AllNest (functions_nest_of gs) (map (λ f. made.function p f) gs)
  functions_in [] = tt
  functions_in (g ∷ gs) =
      let fs : List DeclaredForm = map (λ f. made.function p f) gs in
      let m : ℕ = nest_of g.body in
      let n : ℕ = functions_nest_of gs in
      let less : n ≤ max m n = omega arith in (
        λ c.
            let named : Bool = is_some (function_token p.bound p.function_default g.name) in
            let more : Bool = may (typing p g.kind) && is_clean p g.body in
            let h = and_parts named (params_can p g.params && more) c in
            let i = and_parts (params_can p g.params) more h.1 in
            let j = and_parts (may (typing p g.kind)) (is_clean p g.body) i.1 in
            let k = and_parts (is_printable p g.body) (keeps_rules g.body) j.1 in
            let b : raw_nest_of (raw_of p g.body) ≤ m = (printable_within p g.body k.0).below in
            omega arith,
        wider_nest n (max m n) fs less (functions_in gs),
      )

  space_in : (n : ℕ) (rs : List SpaceRule) → AllNest n (space_option p rs)
  space_in n [] = tt
  space_in n (r ∷ rs) = (λ c. omega arith, tt)

  omit_in : (n : ℕ) (b : Bool) → AllNest n (omit_option p b)
  omit_in n true = (λ c. omega arith, tt)
  omit_in n false = tt

namespaces_in : (n : ℕ) (bs : List Binding) → AllNest n (map (λ b. forms.namespace b) bs)
namespaces_in n [] = tt
namespaces_in n (b ∷ bs) = (λ c. omega arith, namespaces_in n bs)

all_in : (q : Query) → AllNest (query_nest_of q) (declarations q)
all_in q =
    let p : Prefixes = prefixes_of q in
    let n : ℕ = query_nest_of q in
    let vs : List DeclaredForm = map (λ v. made.variable p v) q.variables in
    let fs : List DeclaredForm = map (λ f. made.function p f) q.functions in
    let bs : List DeclaredForm = map (λ b. forms.namespace b) q.prefixes in
    let j : variables_nest_of q.variables ≤ n = omega arith in
    let k : functions_nest_of q.functions ≤ n = omega arith in (
      λ c. omega arith,
      append_nest n bs (forms.preserved ∷ late q) (namespaces_in n q.prefixes) (
        λ c. omega arith,
        append_nest n (options q) (vs ++ fs)
            (append_nest n (space_option p q.space) (omit_option p q.omit) (space_in p n q.space)
            (omit_in p n q.omit))
            (append_nest n vs fs
            (wider_nest (variables_nest_of q.variables) n vs j (variables_in p q.variables))
            (wider_nest (functions_nest_of q.functions) n fs k (functions_in p q.functions))),
      ),
    )

pub query_within : (q : Query) → can_print q ≡ true → query_nest (raw_query q) ≤ query_nest_of q
query_within q c =
    let p : Prefixes = prefixes_of q in
    let h = and_parts (all_can (declarations q)) (is_clean p q.body) c in
    let i = and_parts (is_printable p q.body) (keeps_rules q.body) h.1 in
    let a : declared_nest (raws (declarations q)) ≤ query_nest_of q =
    deepest (query_nest_of q) (declarations q) (all_in q) h.0 in
    let b : raw_nest_of (raw_of p q.body) ≤ nest_of q.body =
    (printable_within p q.body i.0).below in
    omega arith
