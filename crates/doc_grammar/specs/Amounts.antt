-- How much a tree holds.
use Rattle.std.specs.Prelude.{ℕ, ◌+◌, List, [], ◌∷◌, length}
use Rattle.xt_tree.specs.declared.attributes.Attribute.{Attribute}
use Rattle.xt_tree.specs.declared.trees.Tree.{Tree}
use Rattle.xt_tree.specs.Forest.{Forest, end, doc, elem, text, comment, pi, attr}
use Rattle.xt_tree.specs.TreeView.{alone}

-- the elements of a forest
abbrev pub elements_in : Forest → ℕ
elements_in end = 0
elements_in (doc kids rest) = elements_in kids + elements_in rest
elements_in (elem name attributes kids rest) = 1 + elements_in kids + elements_in rest
elements_in (text t rest) = elements_in rest
elements_in (comment t rest) = elements_in rest
elements_in (pi target t rest) = elements_in rest
elements_in (attr name t rest) = elements_in rest

-- how many elements a tree has, the root included
abbrev pub element_count : Tree → ℕ
element_count tree = elements_in (alone tree)

-- the characters of the values of all these attributes
abbrev pub value_characters : List Attribute → ℕ
value_characters [] = 0
value_characters (a ∷ more) = length a.value + value_characters more

-- the characters of the values of all attributes of a forest
abbrev pub values_in : Forest → ℕ
values_in end = 0
values_in (doc kids rest) = values_in kids + values_in rest
values_in (elem name attributes kids rest) =
    value_characters attributes + values_in kids + values_in rest
values_in (text t rest) = values_in rest
values_in (comment t rest) = values_in rest
values_in (pi target t rest) = values_in rest
values_in (attr name t rest) = length t + values_in rest

-- how many characters the values of all attributes of a tree have together
abbrev pub value_size : Tree → ℕ
value_size tree = values_in (alone tree)
