-- The prefixes after setters that are namespaces alone.
use Rattle.std.proofs.Common.{◌≡◌, List, [], ◌∷◌, ◌++◌, map, refl, ap, ap₂, ◌∙◌, ℕ}
use Rattle.std.specs.Prelude.{codes}
use Rattle.xt_names.specs.declared.names.Binding.{Binding}
use Rattle.xt_syntax.specs.declared.prefixes.Prefixes.{Prefixes}
use Rattle.closed_queries.specs.declared.prolog_rules.setters.Setter.{Setter}
use Rattle.closed_queries.specs.declared.prolog_rules.setters.Setter.TheVariants as setter
use Rattle.query_resolve.specs.QueryPrologs.Prefixes.{binding_and, declared_bindings, predeclared, element_or}
use Rattle.query_resolve.specs.QueryPrologs.Prefixes.{element_default, function_or, function_default}
use Rattle.query_resolve.specs.QueryPrologs.Prefixes as setters
use Rattle.printed_laws.specs.QueryRaws.Prologs.{prefixes_behind}

abbrev all : List Binding → List Setter
all bs = map (λ b. setter.Namespace b) bs

all_bound : (bs : List Binding) → declared_bindings (all bs) ≡ bs
unfolding binding_and
all_bound [] = refl
all_bound (b ∷ bs) = ap (λ cs. b ∷ cs) (all_bound bs)

no_element : (bs : List Binding) → element_default (all bs) ≡ []
unfolding element_or
no_element [] = refl
no_element (b ∷ bs) = no_element bs

no_function : (bs : List Binding)
    → function_default (all bs) ≡ codes "http://www.w3.org/2005/xpath-functions"
unfolding function_or
no_function [] = refl
no_function (b ∷ bs) = no_function bs

abbrev made : List Binding → List ℕ → List ℕ → Prefixes
made bs e f = record {
  bound = bs ++ predeclared;
  element_default = e;
  function_default = f;
}

pub namespaces_alone : (bs : List Binding) → setters.prefixes_of (all bs) ≡ prefixes_behind bs
namespaces_alone bs =
    ap (λ cs. made cs (element_default (all bs)) (function_default (all bs))) (all_bound bs)
    ∙ ap₂ (λ e f. made bs e f) (no_element bs) (no_function bs)
