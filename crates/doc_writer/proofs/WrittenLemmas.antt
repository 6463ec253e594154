-- The text of one tree and of those after it.
use Rattle.std.proofs.Common.{◌≡◌, ℕ, List, [], ◌∷◌, ◌++◌, suc, refl, false, length, nat_eq, arith, ◌∙◌}
use Rattle.std.proofs.lemmas.Bool.Decides.{nat_tests}
use Rattle.xt_names.specs.declared.names.Binding.{Binding}
use Rattle.xt_tree.specs.declared.trees.Tree.{Tree}
use Rattle.xt_tree.specs.declared.trees.Tree.TheVariants.{Doc, Elem, Text, Comment, Pi, Attr}
use Rattle.xt_tree.specs.Forest.{Forest}
use Rattle.xt_tree.specs.TreeView.{put, forest_of}
use Rattle.doc_writer.specs.Written.{written_forest, written_node, is_end}

pub written_forest-put : (scope : List Binding) (t : Tree) (rest : Forest) → written_forest scope (put t rest) ≡ written_node scope t ++ written_forest scope rest
written_forest-put scope (Doc kids) rest = refl
written_forest-put scope (Elem name attributes kids) rest = refl
written_forest-put scope (Text t) rest = refl
written_forest-put scope (Comment t) rest = refl
written_forest-put scope (Pi target t) rest = refl
written_forest-put scope (Attr name t) rest = refl

is_end-put : (t : Tree) (rest : Forest) → is_end (put t rest) ≡ false
is_end-put (Doc kids) rest = refl
is_end-put (Elem name attributes kids) rest = refl
is_end-put (Text t) rest = refl
is_end-put (Comment t) rest = refl
is_end-put (Pi target t) rest = refl
is_end-put (Attr name t) rest = refl

pub nonzero : (n : ℕ) → false ≡ nat_eq (suc n) 0
nonzero n = grind (arith, nat_tests)

pub is_end_of : (ts : List Tree) → is_end (forest_of ts) ≡ nat_eq (length ts) 0
is_end_of [] = refl
is_end_of (t ∷ ts) = is_end-put t (forest_of ts) ∙ nonzero (length ts)
