use Rattle.std.proofs.Common.{sym, ◌∙◌, refl}
use Rattle.std.proofs.lemmas.Result.{IfOk-weaker}
use Rattle.query_grammar.specs.Machine as machine
use Rattle.query_reader.proofs.QuerySteps.FrontLemmas.{held_as, held_head}
use Rattle.query_reader.proofs.query_steps.fronts.held_step.Goals as goal

pub returns-in-None : goal.returns-in-None
returns-in-None c =
    IfOk-weaker c.both_steps.result _ _
    (λ x h. λ ts e f. held_as c.args.limit x c.args.first.now c.args.token.now c.args.behind
    c.args.second _ _ ts (sym c.opening_of.ensures ∙ c.in-None.is) (h ts e f))
    c.both_steps.ensures

pub returns-in-Some : goal.returns-in-Some
returns-in-Some c = λ ts e f.
    record {
      mode = machine.head c.in-Some.opening c.new.result.items;
      onto =
          held_head c.args.first.now c.args.token.now c.args.behind c.args.second _
          c.in-Some.opening c.new.result.items (sym c.opening_of.ensures ∙ c.in-Some.is)
          c.new.ensures.items;
      stands = refl;
    }
