use Rattle.std.proofs.Common.{map, ap, sym, ◌∙◌, arith, rules}
use Rattle.std.proofs.Math.ListN.{drop_of_length-le}
use Rattle.order_group.specs.Groups.{plain_mark}
use Rattle.order_group.specs.Steps.{continued}
use Rattle.order_group.proofs.Runs.{continued_end, turn_starts}
use Rattle.order_group.proofs.groups.add_starts.Goals as goal

pub loop-begins-preserved : goal.loop-begins-preserved
loop-begins-preserved c =
    record {
      place = omega arith;
      left = turn_starts c.loop-begins.groups.items _ c.loop-begins.place c.loop-begins.begins-index _ c.args.rest.now (omega arith) (search rules) c.in_ok-add_place.ensures ∙ c.loop-begins.invariant.left;
    }

pub returns : goal.returns
returns c =
    let gs = c.loop-begins.groups.items in
    let n = c.loop-begins.place in
    sym (continued_end gs n)
    ∙ ap (λ l. continued gs n (map plain_mark l)) (sym (drop_of_length-le c.args.rest.now (omega arith)))
    ∙ c.loop-begins.invariant.left
