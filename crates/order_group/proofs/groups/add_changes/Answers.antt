use Rattle.std.proofs.Common.{Some, not, ap, sym, ◌∙◌, arith}
use Rattle.std.proofs.Math.ListN.{drop_of_length-le}
use Rattle.order_group.specs.Groups.{changes}
use Rattle.order_group.specs.Steps.{continued, with_mark}
use Rattle.order_group.proofs.Runs.{continued_end, turn_changes}
use Rattle.order_group.proofs.groups.add_changes.Goals as goal

pub loop-key-preserved : goal.loop-key-preserved
loop-key-preserved c =
    let gs = c.loop-key.groups.items in
    let n = c.loop-key.place in
    let b = c.key-item.result in
    let made = c.in_ok-add_place.ensures ∙ ap (λ s. with_mark gs (record { begins = not s; key = Some b }) n) c.key_same.ensures in
    record {
      place = omega arith;
      left = turn_changes gs _ n c.loop-key.key-index c.loop-key.before.now b c.args.rest.now (omega arith) c.key-item.is made ∙ c.loop-key.invariant.left;
    }

pub returns : goal.returns
returns c =
    let gs = c.loop-key.groups.items in
    let n = c.loop-key.place in
    sym (continued_end gs n)
    ∙ ap (λ l. continued gs n (changes c.loop-key.before.now l)) (sym (drop_of_length-le c.args.rest.now (omega arith)))
    ∙ c.loop-key.invariant.left
