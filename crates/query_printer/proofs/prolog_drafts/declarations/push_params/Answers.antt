use Rattle.std.proofs.Common.{◌<◌, ◌-◌, length, arith}
use Rattle.xt_syntax.specs.declared.queries.QueryParam.{QueryParam}
use Rattle.printed_laws.specs.QueryRaws.Declarations.{typed_can}
use Rattle.query_printer.proofs.PrologDrafts.CanLemmas.{all_at}
use Rattle.query_printer.proofs.PrologDrafts.Params.{param_turn, finish_params}
use Rattle.query_printer.proofs.prolog_drafts.declarations.push_params.Goals as goal

pub loop-left-preserved : goal.loop-left-preserved
loop-left-preserved c =
    let test = c.loop-left-test.true in
    let positive : 0 < c.loop-left.left = omega arith in
    record {
      within = omega arith;
      same = param_turn c.args.prefixes.now c.args.params.now c.loop-left.left
          c.index-params-left.result _ _ _ _ positive c.loop-left.invariant.within
          c.index-params-left.is c.loop-left.invariant.same c.in_ok-push_comma.ensures.between
          c.in_ok-push_comma.ensures.last c.in_ok-push_typed.ensures;
    }

pub push_typed-requires : goal.push_typed-requires
push_typed-requires c =
    let less : c.loop-left.left - 1 < length c.args.params.now = omega arith in
    all_at (λ (x : QueryParam). typed_can c.args.prefixes.now x.name x.kind) c.args.params.now
    (c.loop-left.left - 1) c.index-params-left.result c.requires less c.index-params-left.is

pub returns : goal.returns
returns c = finish_params c.args.prefixes.now c.args.params.now c.loop-left.left _ _
    c.loop-left-test.false c.loop-left.invariant.same
