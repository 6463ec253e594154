-- The version, the namespaces and the setters of a prolog (XQuery 1.0, 4.1 to 4.13).
use Rattle.std.specs.Prelude.{List, ◌++◌, map, Bool, false, not, codes}
use Rattle.std.specs.List.{list_any}
use Rattle.std.specs.Str.{bytes_eq}
use Rattle.xt_names.specs.declared.codes.Code.{Code}
use Rattle.xt_names.specs.declared.codes.QueryStaticCode.TheVariants.{XQST0031}
use Rattle.closed_queries.specs.PrologRules.Setters.{broken_if, nothing_seen, setters_broken}
use Rattle.closed_queries.specs.declared.prolog_rules.setters.Setter.{Setter}
use Rattle.closed_queries.specs.declared.prolog_rules.setters.Setter.TheVariants as setter
use Rattle.expr_rules.specs.ExprMeant.Names.{written_in}
use Rattle.query_grammar.specs.declared.declared.Declared.{Declared}
use Rattle.query_grammar.specs.declared.declared.Declared.TheVariants as declared

-- what a declaration sets
unfoldable pub setter_of : Declared → Setter
setter_of (declared.Namespace prefix uri) =
    setter.Namespace (record { prefix = (written_in prefix).local; uri = uri })
setter_of (declared.ElementDefault uri) = setter.ElementDefault uri
setter_of (declared.FunctionDefault uri) = setter.FunctionDefault uri
setter_of (declared.BoundarySpace preserve) = setter.BoundarySpace preserve
setter_of _ = setter.Other

abbrev pub setters_of : List Declared → List Setter
setters_of ds = map setter_of ds

unfoldable pub is_other_version : Declared → Bool
is_other_version (declared.Version text) = not (bytes_eq text (codes "1.0"))
is_other_version _ = false

-- the version is 1.0
abbrev pub version_broken : List Declared → List Code
version_broken ds = broken_if (list_any is_other_version ds) XQST0031

-- the rules of the first part of a prolog, in reading order
abbrev pub first_part_broken : List Declared → List Code
first_part_broken ds = version_broken ds ++ setters_broken nothing_seen (setters_of ds)
