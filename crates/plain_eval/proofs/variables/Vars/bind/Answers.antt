use Rattle.std.proofs.Common.{◌≡◌, ◌∷◌, [], ap, ◌∙◌}
use Rattle.node_walks.specs.Moves.{given}
use Rattle.eval_scopes.specs.Scopes.{pushed_on}
use Rattle.eval_scopes.proofs.ScopeLemmas.{pushed_last}
use Rattle.plain_eval.specs.Bound.{Bound}
use Rattle.plain_eval.specs.Plain.{with_variable}
use Rattle.plain_eval.proofs.variables.Vars.bind.Goals as goal

pub returns-clause-ok : goal.returns-clause-ok
returns-clause-ok c =
    let old = c.self.inside.variables.items in
    let documents = c.self.inside.documents in
    let xs = given c.args.value.moves in
    let name = c.args.name.now in
    let bound : pushed_on [] c.push.new.self.items ≡ (name, xs) ∷ pushed_on [] old =
    ap (pushed_on []) c.in_ok-push.ensures.items
    ∙ pushed_last [] old c.in_ok-held.field-0
    ∙ ap (λ b. b ∷ pushed_on [] old) c.in_ok-held.ensures in
    let one : ◌≡◌ {A = Bound}
    (record { locals = pushed_on [] c.push.new.self.items; documents = documents })
    (with_variable name xs (record { locals = pushed_on [] old; documents = documents })) =
    λ i. record { locals = bound i; documents = documents } in
    one ∙ ap (with_variable name xs) c.self.view_is
