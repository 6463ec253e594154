use Rattle.std.proofs.Common.{◌≡◌, None, Some, ap, sym, ◌∙◌}
use Rattle.indexmap.specs.IndexMap.{get}
use Rattle.name_rules.specs.Scopes.{same_signature, signature}
use Rattle.expr_meaning.specs.Queries.{find_function}
use Rattle.xquery_eval.proofs.TableLemmas.{not_there, there}
use Rattle.xquery_eval.proofs.functions.FunctionTable.find.Goals as goal

pub returns-in-None : goal.returns-in-None
returns-in-None c =
    let places = c.self.inside.places in
    let named = ap (λ n. get same_signature places (signature n c.args.arity)) c.in_ok-copy.ensures in
    not_there c.self.inside.functions.now places c.self.invariant c.args.name.now c.args.arity
    (sym named ∙ sym c.in-None.ensures.value)
    ∙ ap (λ fs. find_function fs c.args.name.now c.args.arity) c.self.view_is

pub returns : goal.returns
returns c =
    let places = c.self.inside.places in
    let named = ap (λ n. get same_signature places (signature n c.args.arity)) c.in_ok-copy.ensures in
    c.function_at.ensures
    ∙ there c.self.inside.functions.now places c.self.invariant c.args.name.now c.args.arity
    c.in-Some.place.now (sym named ∙ sym c.in-Some.ensures.value)
    ∙ ap (λ fs. find_function fs c.args.name.now c.args.arity) c.self.view_is
