use Rattle.std.proofs.Common.{◌≡◌, ◌<◌, ◌∙◌, length, min, ap, arith}
use Rattle.driver.specs.QueryRuns.Queries.{set_of}
use Rattle.driver.proofs.QueryRuns.SetLemmas.{new_turn, set_end}
use Rattle.driver.proofs.query_runs.query.set_of.Goals as goal

pub add-requires : goal.add-requires
add-requires c =
    let inside : c.loop-place.place < length c.as_slice-keys.result.now = omega (arith, c.loop-place-test.true, c.min-place-end.ensures) in
    new_turn c.loop-place.set c.as_slice-keys.result.now c.loop-place.place c.index-keys-place.result inside c.index-keys-place.is c.loop-place.invariant.differ

pub returns : goal.returns
returns c =
    let all : c.loop-place.place ≡ min (length c.as_slice-keys.result.now) (length c.as_slice-roots.result.now) = omega (arith, c.loop-place-test.false, c.loop-place.auto.place-end, c.min-place-end.ensures) in
    set_end c.args.rules.now c.loop-place.set (set_of c.args.rules.now c.as_slice-keys.result.now c.as_slice-roots.result.now) c.as_slice-keys.result.now c.as_slice-roots.result.now c.loop-place.place all c.loop-place.invariant.whole
    ∙ ap (λ ks. set_of c.args.rules.now ks c.as_slice-roots.result.now) c.as_slice-keys.ensures
    ∙ ap (λ ts. set_of c.args.rules.now c.args.names.now ts) c.as_slice-roots.ensures
