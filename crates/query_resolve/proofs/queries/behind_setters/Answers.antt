use Rattle.std.proofs.Common.{List, ◌++◌, subst}
use Rattle.expr_names.specs.Answers.{Answers}
use Rattle.expr_resolve.specs.Folds.{broken_of, expr_meant}
use Rattle.closed_queries.specs.PrologRules.Declarations.{query_broken}
use Rattle.query_grammar.specs.declared.declared.Declared.{Declared}
use Rattle.query_options.specs.Options.{no_options}
use Rattle.query_resolve.specs.Late.{late_meant, all_broken}
use Rattle.query_resolve.specs.Queries.{query_by}
use Rattle.query_resolve.proofs.queries.behind_setters.Goals as goal

pub returns : goal.returns
returns c =
    let s = c.args.s.now in
    let body = c.args.raw.now.body in
    let slice = c.as_slice.result.now in
    let both = c.with_late.ensures (all_broken s no_options slice) (broken_of s body)
    (late_meant s slice) (expr_meant s body) c.late_of-late.ensures c.resolve-body.ensures in
    let named = c.checked_parts.ensures _ _ both in
    let made = c.made_query.ensures _ _ named in
    subst (λ (ds : List Declared).
    Answers c.made_query.result
    ((all_broken s no_options ds ++ broken_of s body)
    ++ query_broken (late_meant s ds).declarations (expr_meant s body))
    (query_by c.args.setters.now s (late_meant s ds) (expr_meant s body)))
    c.as_slice.ensures made
