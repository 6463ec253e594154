-- The elements of the trees that are left at a turn.
use Rattle.std.proofs.Common.{◌≡◌, ap, ℕ, suc, ◌+◌, ◌<◌, ◌≤◌, List, ◌∷◌, length, get_or, drop, drop-cons, arith}
use Rattle.xt_names.specs.declared.names.Name.{Name}
use Rattle.xt_tree.specs.Forest.{Forest}
use Rattle.xt_tree.specs.TreeView.{forest_of}
use Rattle.xt_tree.specs.declared.attributes.Attribute.{Attribute}
use Rattle.xt_tree.specs.declared.trees.Tree.{Tree}
use Rattle.xt_tree.specs.declared.trees.Tree.TheVariants.{Elem}
use Rattle.sheet_table.specs.SheetNodes.Cleaned.{elements_in}

elements_left : (ts : List Tree) (i : ℕ) (t : Tree) (name : Name) (attributes : List Attribute) (kids : Forest) → i < length ts → t ≡ get_or ts i t → t ≡ Elem name attributes kids
    → elements_in (forest_of (drop i ts)) ≡ 1 + elements_in kids + elements_in (forest_of (drop (suc i) ts))
elements_left ts i t name attributes kids less is same =
    let d = drop-cons ts i t less in
    let e : drop i ts ≡ Elem name attributes kids ∷ drop (suc i) ts = cc in
    ap (λ xs. elements_in (forest_of xs)) e

-- an element's own declaration and those below it are among those that are left
pub elements_within : (ts : List Tree) (i : ℕ) (t : Tree) (name : Name) (attributes : List Attribute) (kids : Forest) (slice : List Tree) (next from most : ℕ)
    → i < length ts → t ≡ get_or ts i t → t ≡ Elem name attributes kids → forest_of slice ≡ kids
    → next + elements_in (forest_of (drop i ts)) ≡ from + elements_in (forest_of ts) → from + elements_in (forest_of ts) ≤ most
    → next + 1 + elements_in (forest_of slice) ≤ most
elements_within ts i t name attributes kids slice next from most less is same view left within =
    let e = elements_left ts i t name attributes kids less is same in
    let k = ap elements_in view in
    omega (arith, e, k, left, within)
