use Rattle.std.proofs.Common.{◌≡◌, ◌≤◌, length, true, false, arith}
use Rattle.node_axes.specs.Paths.{stands, is_over}
use Rattle.node_axes.proofs.LoopLemmas.{back_start, back_left_at, back_stop, back_more, back_end, mid_exists, at_first, no_length}
use Rattle.node_axes.proofs.moves.go_back.Goals as goal

pub loop-place-init : goal.loop-place-init
loop-place-init c = record { back = back_start c.args.tree.now c.args.start.now c.args.path.now.items c.requires.exists c.requires.clear; room = omega arith }

pub go_last-requires-clause-exists : goal.go_last-requires-clause-exists
go_last-requires-clause-exists c =
    mid_exists c.args.tree.now c.loop-place.path.items c.pop.new.self.items c.push.new.path.items c.in-Some.place c.loop-place.invariant.back.exists c.in-Some.ensures.items
    c.push.ensures.items

pub returns-then-place-gt0-clause-yes : goal.returns-then-place-gt0-clause-yes
returns-then-place-gt0-clause-yes c = λ _.
    back_left_at c.args.tree.now c.args.start.now c.args.path.now.items c.loop-place.path.items c.pop.new.self.items c.push.new.path.items c.go_last.new.path.items c.in-Some.place
    c.requires.start c.requires.exists c.loop-place.invariant.back c.in-Some.ensures.items (omega arith) c.push.ensures.items
    (record { exists = c.go_last.ensures.exists; behind = c.go_last.ensures.behind }) c.go_last.ensures.last

pub returns-then-not-is_above-clause-yes : goal.returns-then-not-is_above-clause-yes
returns-then-not-is_above-clause-yes c = λ _.
    let o : is_over (stands c.pop.new.self.items c.args.start.now) ≡ false = cc in
    let l : c.in-Some.place ≤ 0 = omega arith in
    back_stop c.args.tree.now c.args.start.now c.args.path.now.items c.loop-place.path.items c.pop.new.self.items c.loop-place.invariant.back
    (at_first c.loop-place.path.items c.pop.new.self.items c.in-Some.place c.in-Some.ensures.items l) o

pub loop-place-preserved : goal.loop-place-preserved
loop-place-preserved c =
    let o : is_over (stands c.pop.new.self.items c.args.start.now) ≡ true = cc in
    let l : c.in-Some.place ≤ 0 = omega arith in record {
      back = back_more c.args.tree.now c.args.start.now c.args.path.now.items c.loop-place.path.items c.pop.new.self.items c.loop-place.invariant.back
          (at_first c.loop-place.path.items c.pop.new.self.items c.in-Some.place c.in-Some.ensures.items l) o;
      room = omega (arith, c.loop-place.invariant.room, c.pop.ensures.capacity);
    }

pub returns-clause-no : goal.returns-clause-no
returns-clause-no c = λ _.
    let h = c.in_default.ensures.cases in
    let l : length c.loop-place.path.items ≡ 0 = omega (arith, h.0) in
    back_end c.args.tree.now c.args.start.now c.args.path.now.items c.loop-place.path.items c.loop-place.invariant.back (no_length c.loop-place.path.items l)
