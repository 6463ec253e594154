use Rattle.std.proofs.Common.{◌≡◌, ◌≤◌, drop, take, length}
use Rattle.doc_writer.specs.HeadView.{head_at}
use Rattle.doc_writer.specs.Heads.{with_attributes}
use Rattle.doc_writer.proofs.heads.Heads.open.Given as goal

abbrev pub invariant-loop-attribute : goal.invariant-loop-attribute
invariant-loop-attribute l = record {
  outer : take l.place l.self.scope ≡ take l.initial.place l.initial.self.scope;
  within : l.place ≤ length l.self.scope;
  head : with_attributes (head_at l.place l.self.scope l.self.used) (drop l.attribute-index l.attributes)
      ≡ with_attributes (head_at l.place l.initial.self.scope l.initial.self.used) l.attributes;
}
