use Rattle.std.proofs.Common.{arith}
use Rattle.node_axes.proofs.EndLemmas.{spot_path, own_next_at, own_end_at, top_owner_at, other_end_at}
use Rattle.node_axes.proofs.axis_steps.next.Goals as goal
use Rattle.xt_names.proofs.BoolLemmas.{never}

pub next_of_node-requires-clause-exists : goal.next_of_node-requires-clause-exists
next_of_node-requires-clause-exists c = spot_path c.args.start.now.tree c.args.path.now.items c.args.attribute.now c.requires.exists

pub next_of_node-requires-clause-start : goal.next_of_node-requires-clause-start
next_of_node-requires-clause-start c = spot_path c.args.start.now.tree c.args.start.now.path c.args.start.now.attribute c.requires.start

pub returns-in-Some-attribute_behind-clause-yes : goal.returns-in-Some-attribute_behind-clause-yes
returns-in-Some-attribute_behind-clause-yes c = λ _.
    let h = c.in-Some-attribute_behind.ensures in
    own_next_at c.args.axis c.args.start.now.tree c.tree.result.now (c.args.start.now.path, c.args.start.now.attribute) c.args.path.now.items c.as_slice.result.now c.args.attribute.now c.in-Some.place
    c.in-Some-attribute_behind.behind c.in-Attribute.is c.tree.ensures c.as_slice.ensures.value c.in-Some.is c.requires.on h.0 h.1

pub returns-in-None-attribute_behind-clause-no : goal.returns-in-None-attribute_behind-clause-no
returns-in-None-attribute_behind-clause-no c = λ _.
    let h = c.in-None-attribute_behind.ensures in
    own_end_at c.args.axis c.args.start.now.tree c.tree.result.now (c.args.start.now.path, c.args.start.now.attribute) c.args.path.now.items c.as_slice.result.now c.args.attribute.now c.in-Some.place
    c.in-Attribute.is c.tree.ensures c.as_slice.ensures.value c.in-Some.is c.requires.on h

pub returns-in-AncestorOrSelf-clause-yes : goal.returns-in-AncestorOrSelf-clause-yes
returns-in-AncestorOrSelf-clause-yes c = λ _.
    top_owner_at c.args.axis c.args.start.now.tree (c.args.start.now.path, c.args.start.now.attribute) c.args.path.now.items c.args.attribute.now c.in-Some.place c.in-AncestorOrSelf.is c.in-Some.is
    c.requires.exists c.requires.on

pub returns-in_default : goal.returns-in_default
returns-in_default c = record {
  yes = λ e. never e;
  no = λ _.
      other_end_at c.args.axis c.args.start.now.tree (c.args.start.now.path, c.args.start.now.attribute) c.args.path.now.items c.args.attribute.now c.in-Some.place c.in_default.not-Attribute
      c.in_default.not-AncestorOrSelf c.in-Some.is c.requires.on;
  room = omega arith;
}
