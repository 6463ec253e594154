use Rattle.std.proofs.Common.{subst}
use Rattle.expr_names.specs.Answers.{Answers}
use Rattle.expr_resolve.specs.declared.setting.Setting.{Setting}
use Rattle.expr_resolve.specs.Folds.{expr_meant}
use Rattle.query_resolve.specs.Late.{late_meant}
use Rattle.query_resolve.specs.Queries.{rest_broken, query_by}
use Rattle.query_resolve.proofs.queries.in_setting.Goals as goal

pub returns : goal.returns
returns c =
    let raw = c.args.raw.now in
    subst (λ (s : Setting). Answers c.behind_setters.result (rest_broken s raw)
    (query_by c.args.setters.now s (late_meant s raw.declared) (expr_meant s raw.body)))
    c.in_ok-setting.ensures c.behind_setters.ensures
