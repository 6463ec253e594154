use Rattle.std.proofs.Common.{◌≡◌, ◌++◌, sym, ap, subst, ◌∙◌}
use Rattle.std.specs.Result.{IfOk}
use Rattle.node_walks.specs.Moves.{settled, giving}
use Rattle.lazy_seq.specs.Flow.{Flow}
use Rattle.lazy_seq.specs.Leaves.{leaf_moves}
use Rattle.lazy_seq.specs.Shapes.{flow_of}
use Rattle.lazy_seq.specs.Stacks.{stacked}
use Rattle.lazy_seq.proofs.MoveLemmas.{ok_after}
use Rattle.lazy_seq.proofs.seqs.Seq.next.Goals.{in-Leaf, in-Parts}
use Rattle.lazy_seq.proofs.seqs.Seq.next.Goals as goal

pub returns-clause-ok : goal.returns-clause-ok
returns-clause-ok g c =
    elim c.match-self.branch [
      | in-Leaf w ↦
          rw (w.result-is, w.self-inside-is)
          (ok_after w.next.result c.args.self.now.moves (leaf_moves w.next.new.self)
          (subst (λ (z : Flow). IfOk w.next.result
          (λ item. settled z.moves ≡ giving item ++ leaf_moves w.next.new.self))
          (ap flow_of (sym w.in-Leaf.is) ∙ c.self.view_is)
          w.next.ensures.after))
      | in-Parts w ↦
          rw (w.result-is, w.self-inside-is)
          (ok_after w.next_of_parts.result c.args.self.now.moves
          (stacked w.next_of_parts.new.parts.items)
          (subst (λ (z : Flow). IfOk w.next_of_parts.result
          (λ item. settled z.moves ≡ giving item ++ stacked w.next_of_parts.new.parts.items))
          (ap flow_of (sym w.in-Parts.is) ∙ c.self.view_is) w.next_of_parts.ensures.after))
    ]
