use Rattle.std.proofs.Common.{◌≡◌, ◌+◌, ◌++◌, drop, ap, ◌∙◌, arith}
use Rattle.key_index.specs.Merges.{merged}
use Rattle.key_index.proofs.MergeLemmas.{less_at, equal_at, greater_at, no_first, no_second, ends}
use Rattle.key_index.proofs.merges.merged.Goals.{then-loop-left-test+else-right-second}
use Rattle.key_index.proofs.merges.merged.Goals.{else-loop-left-test}
use Rattle.key_index.proofs.merges.merged.Goals as goal

pub loop-left-preserved-in-Less : goal.loop-left-preserved-in-Less
loop-left-preserved-in-Less c =
    let l = c.loop-left-test.true in let r = c.if-right-second.true in
    let i = c.loop-left.invariant in let k = i.right_within in
    record {
      merges = ap (λ z. z ++ merged (drop (c.loop-left.left + 1) c.args.first.now)
          (drop c.loop-left.right c.args.second.now)) c.in_ok-push-in-Less.ensures.items
          ∙ less_at c.loop-left.made.items c.args.first.now c.args.second.now _ c.loop-left.left c.loop-left.right l r c.in-Less.ensures i.merges;
      left_within = omega arith;
      right_within = omega arith;
    }

pub loop-left-preserved-in-Equal : goal.loop-left-preserved-in-Equal
loop-left-preserved-in-Equal c =
    let l = c.loop-left-test.true in let r = c.if-right-second.true in
    let i = c.loop-left.invariant in
    record {
      merges = ap (λ z. z ++ merged (drop (c.loop-left.left + 1) c.args.first.now)
          (drop (c.loop-left.right + 1) c.args.second.now)) c.in_ok-push-in-Equal.ensures.items
          ∙ equal_at c.loop-left.made.items c.args.first.now c.args.second.now _ c.loop-left.left c.loop-left.right l r c.in-Equal.ensures i.merges;
      left_within = omega arith;
      right_within = omega arith;
    }

pub loop-left-preserved : goal.loop-left-preserved
loop-left-preserved c =
    let l = c.loop-left-test.true in let r = c.if-right-second.true in
    let i = c.loop-left.invariant in let k = i.left_within in
    record {
      merges = ap (λ z. z ++ merged (drop c.loop-left.left c.args.first.now)
          (drop (c.loop-left.right + 1) c.args.second.now)) c.in_ok-push-in-Greater.ensures.items ∙ greater_at c.loop-left.made.items c.args.first.now c.args.second.now _ c.loop-left.left c.loop-left.right l r c.in-Greater.ensures i.merges;
      left_within = omega arith;
      right_within = omega arith;
    }

pub returns : goal.returns
returns c =
    let xs = c.args.first.now in
    let ys = c.args.second.now in
    let i = c.loop-left.left in
    let j = c.loop-left.right in
    let rest : merged (drop i xs) (drop j ys)
    ≡ drop i xs ++ drop j ys = elim c.loop-left-test.branch [
      | then-loop-left-test+else-right-second w ↦ let f = w.if-right-second.false in no_second xs ys i j (omega arith)
      | else-loop-left-test w ↦ let f = w.loop-left-test.false in no_first xs ys i j (omega arith)
    ] in
    ends c.loop-left.made.items xs ys _ c.extend_from_slice.new.self.items _ i j rest
    c.in_ok-extend_from_slice.ensures.items c.in_ok-extend_from_slice-2.ensures.items c.loop-left.invariant.merges
