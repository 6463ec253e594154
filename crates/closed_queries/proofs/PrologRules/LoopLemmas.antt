-- Turns of the loops over declarations.
use Rattle.std.proofs.Common.{◌≡◌, ℕ, ◌+◌, ◌<◌, length, get_or, drop, List, Option}
use Rattle.xt_names.specs.declared.codes.Code.{Code}
use Rattle.xt_names.specs.declared.names.ExprName.{ExprName}
use Rattle.xt_syntax.specs.declared.exprs.Expr.{Expr}
use Rattle.name_rules.specs.declared.functions.Signature.{Signature}
use Rattle.name_rules.specs.Faults.{first, earlier}
use Rattle.name_rules.proofs.FaultLemmas.{earlier_of_more}
use Rattle.closed_queries.specs.declared.prolog_rules.declarations.Declaration.{Declaration}
use Rattle.closed_queries.specs.declared.prolog_rules.seen.Seen.{Seen}
use Rattle.closed_queries.specs.declared.prolog_rules.setters.Setter.{Setter}
use Rattle.closed_queries.specs.PrologRules.Declarations.{declaration_broken, scope_behind, functions_behind, declarations_broken}
use Rattle.closed_queries.specs.PrologRules.Setters.{setter_broken, seen_behind, setters_broken}
use Rattle.xt_names.proofs.ListLemmas.{drop_at}

pub turn_of_setters : (all : List Setter) (i : ℕ) (x : Setter) (seen inner : Seen) (fault found next whole : Option Code)
    → i < length all → x ≡ get_or all i x → found ≡ first (setter_broken seen x) → next ≡ earlier fault found → inner ≡ seen_behind seen x
    → earlier fault (first (setters_broken seen (drop i all))) ≡ whole
    → earlier next (first (setters_broken inner (drop (i + 1) all))) ≡ whole
turn_of_setters all i x seen inner fault found next whole h e p n s inv =
    let k = rw (drop_at all i x h e) at inv in
    rw (n, p, s, earlier_of_more fault (setter_broken seen x) (setters_broken (seen_behind seen x) (drop (i + 1) all))) k

pub turn_of_declarations : (functions : List Signature) (body : Expr) (all : List Declaration) (i : ℕ) (x : Declaration) (scope inner : List ExprName)
    (declared more : List Signature) (fault found next whole : Option Code)
    → i < length all → x ≡ get_or all i x → found ≡ first (declaration_broken functions scope declared x) → next ≡ earlier fault found
    → inner ≡ scope_behind scope x → more ≡ functions_behind declared x
    → earlier fault (first (declarations_broken functions scope declared (drop i all) body)) ≡ whole
    → earlier next (first (declarations_broken functions inner more (drop (i + 1) all) body)) ≡ whole
turn_of_declarations functions body all i x scope inner declared more fault found next whole h e p n s m inv =
    let k = rw (drop_at all i x h e) at inv in
    rw (n, p, s, m, earlier_of_more fault (declaration_broken functions scope declared x) (declarations_broken functions (scope_behind scope x) (functions_behind declared x) (drop (i + 1) all) body)) k
