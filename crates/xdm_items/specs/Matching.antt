-- Matching of a sequence with a sequence type (XPath 2.0, 2.5.4).
use Rattle.std.specs.Prelude.{ℕ, List, length, Bool, true, false, ◌&&◌, ◌==◌, nat_le, nat_lt}
use Rattle.std.specs.List.{list_all}
use Rattle.xt_names.specs.declared.kinds.AtomType.{AtomType}
use Rattle.xt_names.specs.declared.kinds.AtomType.TheVariants as kind
use Rattle.xt_types.specs.declared.axes.Axis.TheVariants.{Itself}
use Rattle.xt_types.specs.declared.types.Count.{Count}
use Rattle.xt_types.specs.declared.types.Count.TheVariants.{One, Opt, Many, More}
use Rattle.xt_types.specs.declared.types.ItemType.{ItemType}
use Rattle.xt_types.specs.declared.types.ItemType.TheVariants.{Any, Kind, Atomic}
use Rattle.xt_types.specs.declared.types.SeqType.{SeqType}
use Rattle.xt_types.specs.declared.types.SeqType.TheVariants.{Empty, Of}
use Rattle.node_tests.specs.Tests.{passes_at}
use Rattle.xt_atoms.specs.declared.atoms.Atom.{Atom as AtomValue}
use Rattle.xt_atoms.specs.declared.atoms.Atom.TheVariants as atom
use Rattle.xdm_items.specs.declared.items.Item.{Item}
use Rattle.xdm_items.specs.declared.items.Item.TheVariants.{Node, Atom}

-- an atom has one type, and that is an xs:anyAtomicType
unfoldable pub has_atom_type : AtomType → AtomValue → Bool
has_atom_type kind.Any a = true
has_atom_type kind.Str (atom.Str text) = true
has_atom_type kind.Untyped (atom.Untyped text) = true
has_atom_type kind.Int (atom.Int number) = true
has_atom_type kind.Bool (atom.Bool truth) = true
has_atom_type kind.QName (atom.QName name) = true
has_atom_type _ _ = false

unfoldable pub matches_item : ItemType → Item → Bool
matches_item Any item = true
matches_item (Kind wanted) (Node n) = passes_at Itself wanted n
matches_item (Kind wanted) (Atom a) = false
matches_item (Atomic type) (Node n) = false
matches_item (Atomic type) (Atom a) = has_atom_type type a

-- so many items
unfoldable pub allows_count : Count → ℕ → Bool
allows_count One n = n == 1
allows_count Opt n = nat_le n 1
allows_count Many n = true
allows_count More n = nat_lt 0 n

unfoldable pub matches_type : SeqType → List Item → Bool
matches_type Empty items = length items == 0
matches_type (Of item count) items = allows_count count (length items) && list_all (matches_item item) items
