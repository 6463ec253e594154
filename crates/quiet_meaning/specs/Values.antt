-- The values that quiet predicates compare.
use Rattle.std.specs.Prelude.{ℕ, List, [], Bool, false, if◌then◌else◌, Option, Some, None, Result, Ok, Err}
use Rattle.std.specs.List.{list_any}
use Rattle.xt_names.specs.declared.names.Name.{Name}
use Rattle.xt_names.specs.declared.codes.Code.{Code}
use Rattle.xt_names.specs.declared.kinds.CompareOp.{CompareOp}
use Rattle.xt_tree.specs.declared.trees.Tree.{Tree}
use Rattle.xt_tree.specs.declared.trees.Tree.TheVariants as tree
use Rattle.xt_tree.specs.Place.{Place, subtree_of}
use Rattle.xt_atoms.specs.AtomTexts.{lexical_qname}
use Rattle.xt_atoms.specs.Comparisons.{general_comparison}
use Rattle.xt_atoms.specs.declared.atoms.Atom.{Atom}
use Rattle.xdm_items.specs.Values.{typed_value_below}

-- no failure keeps a node
unfoldable pub is_true : Result Bool Code → Bool
is_true (Ok truth) = truth
is_true (Err code) = false

-- whether the two compare so, by the general comparison of single atoms
unfoldable pub compares : CompareOp → Atom → Atom → Bool
compares op a b = is_true (general_comparison op a b)

-- whether the typed value of some of the nodes compares so
unfoldable pub some_compares : CompareOp → Atom → List Place → Bool
some_compares op b nodes = list_any (λ n. compares op (typed_value_below (subtree_of n)) b) nodes

-- the text that name() gives, and the one of local-name()
unfoldable pub written_name : Bool → Name → List ℕ
written_name whole name = if whole then lexical_qname name.prefix name.local else name.local

unfoldable pub name_below : Bool → Option Tree → List ℕ
name_below whole None = []
name_below whole (Some (tree.Doc kids)) = []
name_below whole (Some (tree.Elem name attributes kids)) = written_name whole name
name_below whole (Some (tree.Text t)) = []
name_below whole (Some (tree.Comment t)) = []
name_below whole (Some (tree.Pi target t)) = target
name_below whole (Some (tree.Attr name t)) = written_name whole name

unfoldable pub name_text : Bool → Place → List ℕ
name_text whole n = name_below whole (subtree_of n)
