use Rattle.std.proofs.Common.{◌≡◌, None, Some, ap, sym, ◌∙◌}
use Rattle.expr_meaning.specs.Env.{look_up}
use Rattle.eval_scopes.specs.Tables.{value_there}
use Rattle.eval_scopes.proofs.TableLemmas.{found_by}
use Rattle.eval_scopes.proofs.globals.Globals.find.Goals as goal

pub returns-in-None : goal.returns-in-None
returns-in-None c =
    found_by c.self.inside.variables.items c.self.inside.places c.self.invariant c.args.name.now
    None (sym c.in-None.ensures.value)
    ∙ ap (λ bs. look_up bs c.args.name.now) c.self.view_is

pub returns-in-Some : goal.returns-in-Some
returns-in-Some c =
    let vs = c.self.inside.variables.items in
    let place = Some c.in-Some.place.now in
    c.value_there.ensures
    ∙ ap (λ ws. value_there ws place) c.as_slice.ensures.value
    ∙ found_by vs c.self.inside.places c.self.invariant c.args.name.now place
    (sym c.in-Some.ensures.value)
    ∙ ap (λ bs. look_up bs c.args.name.now) c.self.view_is
