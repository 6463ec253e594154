-- The key that an atom is.
use Rattle.xt_atoms.specs.declared.atoms.Atom.{Atom}
use Rattle.xt_atoms.specs.declared.atoms.Atom.TheVariants as atom
use Rattle.order_group.specs.declared.atom_keys.keys.AtomKey.{AtomKey}
use Rattle.order_group.specs.declared.atom_keys.keys.AtomKey.TheVariants as key

unfoldable pub key_of : Atom → AtomKey
key_of (atom.Str text) = key.Str text
key_of (atom.Untyped text) = key.Str text
key_of (atom.Int number) = key.Int number
key_of (atom.Bool truth) = key.Bool truth
key_of (atom.QName name) = key.QName name
