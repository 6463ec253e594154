use Rattle.std.proofs.Common.{◌≡◌, ◌<◌, ◌-◌, suc, Some, length, slice_get, slice_set, sym, ◌∙◌, ap, arith}
use Rattle.std.proofs.lemmas.Option.{slice_get-get_or}
use Rattle.order_group.proofs.Runs.{extended_set}
use Rattle.order_group.proofs.groups.extend_last.Goals as goal

pub returns-in_ok-push : goal.returns-in_ok-push
returns-in_ok-push c =
    let gs = c.args.groups.now.items in
    let i = c.len-count.result - 1 in
    let r = c.index_mut.result.now in
    let last : suc i ≡ length gs = omega arith in
    let below : i < length gs = omega arith in
    let here : slice_get gs i ≡ Some r = slice_get-get_or gs i r below ∙ ap Some (sym c.index_mut.ensures.value) in
    ap (λ members. slice_set gs i (record { key = r.key; members = members })) c.in_ok-push.ensures.ok
    ∙ sym (extended_set gs c.args.place i r last here)
