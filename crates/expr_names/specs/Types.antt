-- The atomic types that names mean (XPath 2.0, 2.5.1), and those that a cast is to (3.10.2).
use Rattle.std.specs.Prelude.{ℕ, List, [], ◌∷◌, Option, Some, None, if◌then◌else◌, codes}
use Rattle.std.specs.Str.{bytes_eq}
use Rattle.xt_names.specs.declared.names.ExprName.{ExprName}
use Rattle.xt_names.specs.declared.kinds.AtomType.{AtomType}
use Rattle.xt_names.specs.declared.kinds.AtomType.TheVariants as atom
use Rattle.xt_names.specs.declared.codes.Code.{Code}
use Rattle.xt_names.specs.declared.codes.Code.TheVariants.{QueryStatic}
use Rattle.xt_names.specs.declared.codes.QueryStaticCode.TheVariants.{XPST0017, XPST0051, XPST0080}

abbrev pub local_type : List ℕ → Option AtomType
local_type local =
    if bytes_eq local (codes "string") then Some atom.Str
    else if bytes_eq local (codes "untypedAtomic") then Some atom.Untyped
    else if bytes_eq local (codes "integer") then Some atom.Int
    else if bytes_eq local (codes "boolean") then Some atom.Bool
    else if bytes_eq local (codes "QName") then Some atom.QName
    else if bytes_eq local (codes "anyAtomicType") then Some atom.Any
    else None

unfoldable pub type_named : ExprName → Option AtomType
type_named name = if bytes_eq name.uri (codes "http://www.w3.org/2001/XMLSchema") then local_type name.local else None

-- a call of the name of such a type is a cast to it
unfoldable pub call_type : Option AtomType → Option AtomType
call_type (Some atom.Str) = Some atom.Str
call_type (Some atom.Untyped) = Some atom.Untyped
call_type (Some atom.Int) = Some atom.Int
call_type (Some atom.Bool) = Some atom.Bool
call_type (Some atom.QName) = None
call_type (Some atom.Any) = None
call_type None = None

-- a cast to xs:anyAtomicType has a code of its own, and so have the other types that no cast is to
unfoldable pub cast_broken : Option AtomType → List Code
cast_broken None = QueryStatic XPST0051 ∷ []
cast_broken (Some atom.Str) = []
cast_broken (Some atom.Untyped) = []
cast_broken (Some atom.Int) = []
cast_broken (Some atom.Bool) = []
cast_broken (Some atom.QName) = QueryStatic XPST0051 ∷ []
cast_broken (Some atom.Any) = QueryStatic XPST0080 ∷ []

-- the type of an item is known
unfoldable pub known_broken : Option AtomType → List Code
known_broken None = QueryStatic XPST0051 ∷ []
known_broken (Some kind) = []

-- any type stands where the name means none
unfoldable pub type_or_any : Option AtomType → AtomType
type_or_any None = atom.Any
type_or_any (Some kind) = kind

-- a call that is a cast has one argument
unfoldable pub arity_broken : {A : Type 0} → Option AtomType → List A → List Code
arity_broken None args = []
arity_broken (Some kind) [] = QueryStatic XPST0017 ∷ []
arity_broken (Some kind) (a ∷ []) = []
arity_broken (Some kind) (a ∷ b ∷ args) = QueryStatic XPST0017 ∷ []
