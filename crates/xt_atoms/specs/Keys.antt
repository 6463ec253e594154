-- Equal keys (XSLT 2.0, 14.3 and 16.3), and what may be in one sort column (13.1).
use Rattle.std.specs.Prelude.{Bool, false, Option, Some, None}
use Rattle.std.specs.Bool.{beq}
use Rattle.std.specs.Ordering.{int_eq}
use Rattle.std.specs.Str.{bytes_eq}
use Rattle.xt_atoms.specs.Comparisons.{same_name}
use Rattle.xt_atoms.specs.declared.atoms.Atom.{Atom}
use Rattle.xt_atoms.specs.declared.atoms.Atom.TheVariants as atom
use Rattle.xt_atoms.specs.declared.keys.SortClass.{SortClass}
use Rattle.xt_atoms.specs.declared.keys.SortClass.TheVariants as class

-- texts are compared as they are written, untyped or not; other atoms are the same where kind and value are
unfoldable pub key_same : Atom → Atom → Bool
key_same (atom.Str a) (atom.Str b) = bytes_eq a b
key_same (atom.Str a) (atom.Untyped b) = bytes_eq a b
key_same (atom.Untyped a) (atom.Str b) = bytes_eq a b
key_same (atom.Untyped a) (atom.Untyped b) = bytes_eq a b
key_same (atom.Int a) (atom.Int b) = int_eq a b
key_same (atom.Bool a) (atom.Bool b) = beq a b
key_same (atom.QName a) (atom.QName b) = same_name a b
key_same _ _ = false

-- a name has no order
unfoldable pub sort_class : Atom → Option SortClass
sort_class (atom.Str text) = Some class.Text
sort_class (atom.Untyped text) = Some class.Text
sort_class (atom.Int number) = Some class.Int
sort_class (atom.Bool truth) = Some class.Bool
sort_class (atom.QName name) = None
