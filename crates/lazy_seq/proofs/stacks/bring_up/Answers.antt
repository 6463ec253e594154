use Rattle.std.proofs.Common.{rules, ◌≡◌, length, Ok, Bool, Result, sym, ap, ◌∙◌}
use Rattle.std.specs.declared.alloc.AllocError.{AllocError}
use Rattle.node_walks.specs.Moves.{has_item}
use Rattle.node_walks.proofs.MoveLemmas.{same_given}
use Rattle.lazy_seq.proofs.MoveLemmas.{stands_item}
use Rattle.lazy_seq.specs.Stacks.{stacked}
use Rattle.lazy_seq.proofs.StackLemmas.{none_stacked, no_parts}
use Rattle.lazy_seq.proofs.stacks.bring_up.Goals as goal

fine : Bool → Result Bool AllocError
fine b = Ok b

pub returns-then-branch-clause-some : goal.returns-then-branch-clause-some
unfolding fine
returns-then-branch-clause-some g c =
    let r = c.turn.ensures.ready (c.in_ok-turn.was ∙ ap fine c.if-branch.true) in
    sym (stands_item (stacked c.turn.new.parts.items) r.stands)
    ∙ ap has_item (same_given (stacked c.turn.new.parts.items) (stacked c.args.parts.now.items)
    (c.turn.ensures.rest ∙ c.loop-parts.invariant.rest))

pub returns-clause-some : goal.returns-clause-some
returns-clause-some g c =
    let n : length c.loop-parts.parts.items ≡ 0 = search rules in
    sym (none_stacked c.loop-parts.parts.items (stacked c.args.parts.now.items) n
    c.loop-parts.invariant.rest)

pub returns-clause-none : goal.returns-clause-none
returns-clause-none g c =
    let n : length c.loop-parts.parts.items ≡ 0 = search rules in
    λ _. no_parts c.loop-parts.parts.items n
