use Rattle.std.proofs.Common.{◌≡◌, ◌<◌, ◌≤◌, ◌+◌, ◌++◌, ◌∷◌, [], inl, inr, length, ap, arith}
use Rattle.std.proofs.lemmas.Bool.{cases_lt}
use Rattle.node_axes.specs.Moves.{count_at}
use Rattle.node_axes.proofs.LoopLemmas.{climb_found, climb_more}
use Rattle.node_axes.proofs.moves.skip.Goals as goal

pub returns-in-Some-next_place-clause-yes : goal.returns-in-Some-next_place-clause-yes
returns-in-Some-next_place-clause-yes c = λ _.
    let h = c.in-Some-next_place.ensures in
    let k = ap (count_at c.args.tree.now) c.as_slice.ensures.value in
    let l : c.in-Some.place + 1 < count_at c.args.tree.now c.pop.new.self.items = omega arith in
    let e : c.push.new.path.items ≡ c.pop.new.self.items ++ (c.in-Some.place + 1) ∷ [] = cc in
    let b : c.args.base < length c.loop-path.path.items = omega arith in
    climb_found c.args.tree.now c.args.base c.args.path.now.items c.loop-path.path.items c.pop.new.self.items c.push.new.path.items c.in-Some.place c.loop-path.invariant.climb
    c.in-Some.ensures.items b l e

pub loop-path-preserved-in_default-next_place : goal.loop-path-preserved-in_default-next_place
loop-path-preserved-in_default-next_place c =
    let h = c.in_default-next_place.ensures in
    let k = ap (count_at c.args.tree.now) c.as_slice.ensures.value in
    let n : count_at c.args.tree.now c.as_slice.result.now ≤ c.in-Some.place + 1 =
        elim (cases_lt (c.in-Some.place + 1) (count_at c.args.tree.now c.as_slice.result.now)) [ inl u ↦ absurd (h u) | inr v ↦ v ] in
    let l : count_at c.args.tree.now c.pop.new.self.items ≤ c.in-Some.place + 1 = omega arith in
    let b : c.args.base < length c.loop-path.path.items = omega arith in
    record {
      climb = climb_more c.args.tree.now c.args.base c.args.path.now.items c.loop-path.path.items c.pop.new.self.items c.in-Some.place c.loop-path.invariant.climb
      c.in-Some.ensures.items b l;
      room = omega (arith, c.loop-path.invariant.room, c.pop.ensures.capacity);
    }
