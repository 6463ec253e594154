use Rattle.std.proofs.Common.{◌≡◌, List, [], ◌++◌, ap, sym, subst, ◌∙◌}
use Rattle.xt_names.specs.declared.codes.Code.{Code}
use Rattle.expr_names.specs.Answers.{Answers}
use Rattle.expr_resolve.specs.Folds.{expr_meant}
use Rattle.closed_queries.specs.declared.prolog_rules.setters.Setter.{Setter}
use Rattle.query_resolve.specs.QueryPrologs.Setters.{setters_of, first_part_broken}
use Rattle.query_resolve.specs.Late.{late_meant}
use Rattle.query_resolve.specs.Queries.{setting_behind, setting_of, rest_broken, query_by}
use Rattle.query_resolve.specs.Queries.{query_meant}
use Rattle.query_resolve.proofs.queries.query_in.Goals as goal

pub returns : goal.returns
returns c =
    let raw = c.args.raw.now in
    let h = c.in_ok-setters.ensures in
    let same : c.as_slice-2.result.now ≡ setters_of raw.declared =
    c.as_slice-2.ensures ∙ h.1 ∙ ap setters_of c.as_slice.ensures in
    let none : first_part_broken raw.declared ≡ [] =
    ap first_part_broken (sym c.as_slice.ensures) ∙ h.0 in
    subst (λ (cs : List Code).
    Answers c.in_setting.result (cs ++ rest_broken (setting_of raw) raw) (query_meant raw))
    (sym none)
    (subst (λ (ss : List Setter).
    Answers c.in_setting.result (rest_broken (setting_behind ss) raw)
    (query_by ss (setting_behind ss) (late_meant (setting_behind ss) raw.declared)
    (expr_meant (setting_behind ss) raw.body))) same c.in_setting.ensures)
