-- What types mean (XPath 2.0, 2.5.3).
use Rattle.std.specs.Prelude.{List, [], ◌∷◌, false}
use Rattle.xt_names.specs.declared.names.Binding.{Binding}
use Rattle.xt_names.specs.declared.kinds.AtomType.TheVariants as atom
use Rattle.xt_types.specs.declared.types.Count.{Count}
use Rattle.xt_types.specs.declared.types.Count.TheVariants as count
use Rattle.xt_types.specs.declared.types.ItemType.{ItemType}
use Rattle.xt_types.specs.declared.types.ItemType.TheVariants as item
use Rattle.xt_types.specs.declared.types.SeqType.{SeqType}
use Rattle.xt_types.specs.declared.types.SeqType.TheVariants as sequence
use Rattle.expr_keys.specs.declared.keys.Key.{Key}
use Rattle.expr_keys.specs.declared.keys.Key.TheVariants as key
use Rattle.expr_rules.specs.declared.expr_meant.meant.Meant.{Meant}
use Rattle.expr_rules.specs.declared.expr_meant.meant.Meant.TheVariants as meant
use Rattle.expr_rules.specs.ExprMeant.Parts.{key_of, has_parts}
use Rattle.expr_rules.specs.Known.{type_of}

unfoldable pub item_of : List Binding → Meant → ItemType
item_of bound (meant.Token t) = item.Atomic (type_of bound (meant.Token t))
item_of bound (meant.Kind kind) = item.Kind kind
item_of bound _ = item.Any

-- a type without a mark is of one item
unfoldable pub sequence_of : List Binding → Meant → SeqType
sequence_of bound (meant.Sequence kind) = kind
sequence_of bound m = sequence.Of (item_of bound m) count.One

unfoldable pub count_in : Key → Count
count_in key.Question = count.Opt
count_in key.Star = count.Many
count_in key.Plus = count.More
count_in _ = count.One

abbrev pub count_of : List Meant → Count
count_of [] = count.One
count_of (m ∷ ms) = count_in (key_of m)

-- a type with its mark
abbrev pub marked : List Binding → List Meant → SeqType
marked bound [] = sequence.Empty
marked bound (m ∷ ms) = sequence.Of (item_of bound m) (count_of ms)

-- a type that is the first part
abbrev pub typed : List Binding → List Meant → SeqType
typed bound [] = sequence.Empty
typed bound (m ∷ ms) = sequence_of bound m

-- a type of a cast, and whether `?` comes after it
abbrev pub single : List Binding → List Meant → Meant
single bound [] = meant.Single atom.Any false
single bound (m ∷ ms) = meant.Single (type_of bound m) (has_parts ms)
