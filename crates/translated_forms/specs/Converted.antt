-- Values that are converted to a type (XSLT 2.0, 9.3; XPath 2.0, 3.1.5).
use Rattle.std.specs.Prelude.{[], ◌∷◌, true, codes, Option, Some, None}
use Rattle.xt_names.specs.declared.kinds.AtomType.{AtomType}
use Rattle.xt_names.specs.declared.kinds.AtomType.TheVariants as atom
use Rattle.xt_types.specs.declared.types.Count.{Count}
use Rattle.xt_types.specs.declared.types.Count.TheVariants.{One, Many}
use Rattle.xt_types.specs.declared.types.ItemType.{ItemType}
use Rattle.xt_types.specs.declared.types.ItemType.TheVariants as item
use Rattle.xt_types.specs.declared.types.SeqType.{SeqType}
use Rattle.xt_types.specs.declared.types.SeqType.TheVariants.{Empty, Of}
use Rattle.xt_syntax.specs.declared.exprs.Expr.{Expr}
use Rattle.xt_syntax.specs.declared.exprs.Clause.TheViews.{roll-Expr}
use Rattle.xt_syntax.specs.declared.exprs.Clause.TheOpen.{Cast, InstanceOf, Treat}
use Rattle.carried_exprs.specs.Sights.{variable_of, library_call}
use Rattle.translated_forms.specs.Names.{atom_name}
use Rattle.translated_forms.specs.Forms.{for_in, if_of}

-- `e treat as T`
abbrev pub treated : Expr → SeqType → Expr
treated e kind = roll-Expr (Treat e kind)

abbrev pub data_of : Expr → Expr
data_of e = library_call (codes "data") (e ∷ [])

abbrev pub untyped : SeqType
untyped = Of (item.Atomic atom.Untyped) One

abbrev pub cast_if_untyped : AtomType → Expr
cast_if_untyped kind =
    if_of (roll-Expr (InstanceOf (variable_of atom_name) untyped))
    (roll-Expr (Cast (variable_of atom_name) kind true)) (variable_of atom_name)

-- the atoms, of which those without a type are cast in order
abbrev pub cast_atoms : AtomType → Expr → Expr
cast_atoms kind e = for_in atom_name (data_of e) (cast_if_untyped kind)

unfoldable pub atoms_for : AtomType → Expr → Expr
atoms_for atom.Str e = cast_atoms atom.Str e
atoms_for atom.Untyped e = data_of e
atoms_for atom.Int e = cast_atoms atom.Int e
atoms_for atom.Bool e = cast_atoms atom.Bool e
atoms_for atom.QName e = data_of e
atoms_for atom.Any e = data_of e

unfoldable pub item_converted : ItemType → Count → Expr → Expr
item_converted item.Any Many e = e
item_converted item.Any count e = treated e (Of item.Any count)
item_converted (item.Kind wanted) count e = treated e (Of (item.Kind wanted) count)
item_converted (item.Atomic atom.Any) Many e = data_of e
item_converted (item.Atomic kind) count e = treated (atoms_for kind e) (Of (item.Atomic kind) count)

unfoldable pub converted : Option SeqType → Expr → Expr
converted None e = e
converted (Some Empty) e = treated e Empty
converted (Some (Of kind count)) e = item_converted kind count e
