use Rattle.std.proofs.Common.{◌∙◌, sym, arith}
use Rattle.eval_scopes.proofs.ScopeLemmas.{all_left, none_found, last_found, last_passed}
use Rattle.eval_scopes.proofs.scopes.look_up_last.Goals as goal

pub loop-left-init : goal.loop-left-init
loop-left-init c = record {
  within = omega arith;
  found = all_left c.args.variables.now c.args.name.now;
}

pub loop-left-preserved : goal.loop-left-preserved
loop-left-preserved c =
    let test = c.loop-left-test.true in
    let within = c.loop-left.invariant.within in
    record {
      within = omega arith;
      found = last_passed c.args.variables.now c.loop-left.left c.index-variables-left.result
          c.args.name.now (omega arith) within c.index-variables-left.is
          c.loop-left.invariant.found (sym c.eq.ensures ∙ c.if-eq.false);
    }

pub returns-then-eq : goal.returns-then-eq
returns-then-eq c =
    let test = c.loop-left-test.true in
    let within = c.loop-left.invariant.within in
    last_found c.args.variables.now c.loop-left.left c.index-variables-left.result
    c.args.name.now (omega arith) within c.index-variables-left.is
    c.loop-left.invariant.found (sym c.eq.ensures ∙ c.if-eq.true)

pub returns : goal.returns
returns c =
    let test = c.loop-left-test.false in
    none_found c.args.variables.now c.loop-left.left c.args.name.now (omega arith)
    c.loop-left.invariant.found
