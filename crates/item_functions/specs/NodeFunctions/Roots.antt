-- The root of a node's tree (XQuery 1.0 and XPath 2.0 Functions and Operators, 14.9).
use Rattle.std.specs.Prelude.{[], None}
use Rattle.xt_tree.specs.Place.{Place}

abbrev pub root_of : Place → Place
root_of n = record { number = n.number; tree = n.tree; path = []; attribute = None }
