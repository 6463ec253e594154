use Rattle.std.proofs.Common.{None, Some, refl, sym, ◌∙◌}
use Rattle.xt_types.specs.declared.axes.Axis.TheVariants.{Attribute, Itself, DescendantOrSelf, AncestorOrSelf}
use Rattle.node_axes.specs.Moves.{every}
use Rattle.node_axes.proofs.UpLemmas.{itself_first, with_first}
use Rattle.node_axes.proofs.TopLemmas.{top_first}
use Rattle.node_axes.proofs.AnyLemmas.{at_lands, at_ends}
use Rattle.node_axes.proofs.EndLemmas.{start_path, spot_as, own_first_at, own_none_at}
use Rattle.node_axes.proofs.axis_steps.first.Goals as goal

pub first_of_node-requires : goal.first_of_node-requires
first_of_node-requires c = record {
  axis = c.in_default.not-Attribute;
  plain = sym c.requires.same ∙ c.in-None.is;
  at = c.requires.at;
  exists = start_path c.args.start.now.tree c.args.start.now.path c.args.path.now.items c.args.start.now.attribute c.requires.at c.requires.exists;
  room = c.requires.room;
}

pub first_of_attribute-requires : goal.first_of_attribute-requires
first_of_attribute-requires c = record {
  itself = c.in_default-axis.not-Itself;
  below = c.in_default-axis.not-DescendantOrSelf;
  above = c.in_default-axis.not-AncestorOrSelf;
  place = sym c.requires.same ∙ c.in-Some.is;
  at = c.requires.at;
  exists = start_path c.args.start.now.tree c.args.start.now.path c.args.path.now.items c.args.start.now.attribute c.requires.at c.requires.exists;
  room = c.requires.room;
}

pub returns-in-Some-attribute_at-clause-yes : goal.returns-in-Some-attribute_at-clause-yes
returns-in-Some-attribute_at-clause-yes c = λ _.
    let h = c.in-Some-attribute_at.ensures in
    at_lands c.args.axis Attribute c.args.start.now.tree c.tree.result.now c.args.start.now.path c.args.path.now.items c.args.start.now.attribute None every
    (c.args.path.now.items, Some c.in-Some-attribute_at.place) c.in-Attribute.is c.tree.ensures c.requires.at (sym c.requires.same ∙ c.in-None.is)
    (own_first_at c.tree.result.now c.args.path.now.items c.as_slice.result.now c.in-Some-attribute_at.place c.as_slice.ensures.value h.0 h.1)

pub returns-in-None-attribute_at-clause-no : goal.returns-in-None-attribute_at-clause-no
returns-in-None-attribute_at-clause-no c = λ _.
    let h = c.in-None-attribute_at.ensures in
    at_ends c.args.axis Attribute c.args.start.now.tree c.tree.result.now c.args.start.now.path c.args.path.now.items c.args.start.now.attribute None every
    c.in-Attribute.is c.tree.ensures c.requires.at (sym c.requires.same ∙ c.in-None.is)
    (own_none_at c.tree.result.now c.args.path.now.items c.as_slice.result.now c.as_slice.ensures.value h)

pub returns-in-Itself-clause-yes : goal.returns-in-Itself-clause-yes
returns-in-Itself-clause-yes c = λ _.
    at_lands c.args.axis Itself c.args.start.now.tree c.args.start.now.tree c.args.start.now.path c.args.path.now.items c.args.start.now.attribute c.args.attribute.now every
    (c.args.path.now.items, c.args.attribute.now) c.in-Itself.is refl c.requires.at (sym c.requires.same)
    (itself_first c.args.start.now.tree (c.args.path.now.items, c.args.attribute.now)
    (spot_as c.args.start.now.tree c.args.start.now.path c.args.path.now.items c.args.start.now.attribute c.args.attribute.now c.requires.at c.requires.same c.requires.exists))

pub returns-in-DescendantOrSelf-clause-yes : goal.returns-in-DescendantOrSelf-clause-yes
returns-in-DescendantOrSelf-clause-yes c = λ _.
    at_lands c.args.axis DescendantOrSelf c.args.start.now.tree c.args.start.now.tree c.args.start.now.path c.args.path.now.items c.args.start.now.attribute c.args.attribute.now every
    (c.args.path.now.items, c.args.attribute.now) c.in-DescendantOrSelf.is refl c.requires.at (sym c.requires.same)
    (with_first c.args.start.now.tree (c.args.path.now.items, c.args.attribute.now)
    (spot_as c.args.start.now.tree c.args.start.now.path c.args.path.now.items c.args.start.now.attribute c.args.attribute.now c.requires.at c.requires.same c.requires.exists))

pub returns-in-AncestorOrSelf-clause-yes : goal.returns-in-AncestorOrSelf-clause-yes
returns-in-AncestorOrSelf-clause-yes c = λ _.
    at_lands c.args.axis AncestorOrSelf c.args.start.now.tree c.args.start.now.tree c.args.start.now.path c.args.path.now.items c.args.start.now.attribute c.args.attribute.now every
    (c.args.path.now.items, c.args.attribute.now) c.in-AncestorOrSelf.is refl c.requires.at (sym c.requires.same)
    (top_first c.args.start.now.tree (c.args.path.now.items, c.args.attribute.now)
    (spot_as c.args.start.now.tree c.args.start.now.path c.args.path.now.items c.args.start.now.attribute c.args.attribute.now c.requires.at c.requires.same c.requires.exists))
