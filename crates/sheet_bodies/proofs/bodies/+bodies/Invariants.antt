use Rattle.std.proofs.Common.{◌≡◌, ◌+◌, ◌*◌, ◌++◌, ◌≤◌, drop}
use Rattle.sheet_bodies.specs.Bodies.{body_faults, body_value, whens_faults, whens_value, passed_faults, passed_value}
use Rattle.sheet_bodies.proofs.bodies.+bodies.Given as goal

abbrev pub invariant-read_body-loop-node : goal.invariant-read_body-loop-node
invariant-read_body-loop-node g l = record {
  faults : body_faults (g.R.Reader.reads l.reader) l.fn.room l.place l.nodes
      ≡ body_faults (g.R.Reader.reads l.reader) l.left l.place (drop l.node-index l.nodes);
  value : body_value (g.R.Reader.reads l.reader) l.fn.room l.place l.nodes
      ≡ l.made ++ body_value (g.R.Reader.reads l.reader) l.left l.place (drop l.node-index l.nodes);
  left : l.left ≤ l.fn.room;
}

abbrev pub invariant-read_whens-loop-node : goal.invariant-read_whens-loop-node
invariant-read_whens-loop-node g l = record {
  faults : whens_faults (g.R.Reader.reads l.reader) (body_faults (g.R.Reader.reads l.reader) l.below) l.place l.nodes
      ≡ whens_faults (g.R.Reader.reads l.reader) (body_faults (g.R.Reader.reads l.reader) l.below) l.place (drop l.node-index l.nodes);
  value : whens_value (g.R.Reader.reads l.reader) (body_value (g.R.Reader.reads l.reader) l.below) l.place l.nodes
      ≡ l.made ++ whens_value (g.R.Reader.reads l.reader) (body_value (g.R.Reader.reads l.reader) l.below) l.place (drop l.node-index l.nodes);
}

abbrev pub invariant-read_passed-loop-node : goal.invariant-read_passed-loop-node
invariant-read_passed-loop-node g l = record {
  faults : passed_faults (g.R.Reader.reads l.reader) (body_faults (g.R.Reader.reads l.reader) l.below) l.place l.nodes
      ≡ passed_faults (g.R.Reader.reads l.reader) (body_faults (g.R.Reader.reads l.reader) l.below) l.place (drop l.node-index l.nodes);
  value : passed_value (g.R.Reader.reads l.reader) (body_value (g.R.Reader.reads l.reader) l.below) l.place l.nodes
      ≡ l.made ++ passed_value (g.R.Reader.reads l.reader) (body_value (g.R.Reader.reads l.reader) l.below) l.place (drop l.node-index l.nodes);
}

abbrev pub decreases-read_body : goal.decreases-read_body
decreases-read_body g l = 10 * l.room + 0

abbrev pub decreases-read_bound : goal.decreases-read_bound
decreases-read_bound g l = 10 * l.below + 1

abbrev pub decreases-read_bodied : goal.decreases-read_bodied
decreases-read_bodied g l = 10 * l.below + 1

abbrev pub decreases-read_when : goal.decreases-read_when
decreases-read_when g l = 10 * l.below + 1

abbrev pub decreases-read_other : goal.decreases-read_other
decreases-read_other g l = 10 * l.below + 1

abbrev pub decreases-read_with_param : goal.decreases-read_with_param
decreases-read_with_param g l = 10 * l.below + 2

abbrev pub decreases-read_when_node : goal.decreases-read_when_node
decreases-read_when_node g l = 10 * l.below + 2

abbrev pub decreases-read_other_node : goal.decreases-read_other_node
decreases-read_other_node g l = 10 * l.below + 2

abbrev pub decreases-read_passed_node : goal.decreases-read_passed_node
decreases-read_passed_node g l = 10 * l.below + 3

abbrev pub decreases-read_whens : goal.decreases-read_whens
decreases-read_whens g l = 10 * l.below + 3

abbrev pub decreases-read_others : goal.decreases-read_others
decreases-read_others g l = 10 * l.below + 3

abbrev pub decreases-read_passed : goal.decreases-read_passed
decreases-read_passed g l = 10 * l.below + 4

abbrev pub decreases-read_choose : goal.decreases-read_choose
decreases-read_choose g l = 10 * l.below + 4

abbrev pub decreases-read_call : goal.decreases-read_call
decreases-read_call g l = 10 * l.below + 5

abbrev pub decreases-read_form : goal.decreases-read_form
decreases-read_form g l = 10 * l.below + 6

abbrev pub decreases-read_xsl : goal.decreases-read_xsl
decreases-read_xsl g l = 10 * l.below + 7

abbrev pub decreases-read_element : goal.decreases-read_element
decreases-read_element g l = 10 * l.below + 8

abbrev pub decreases-read_node : goal.decreases-read_node
decreases-read_node g l = 10 * l.below + 9
