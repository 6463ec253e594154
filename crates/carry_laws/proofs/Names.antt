-- What is called by the names that the translation writes, and how many arguments each call has.
use Rattle.std.proofs.Common.{◌≡◌, ℕ, List, refl, ap}
use Rattle.std.proofs.lemmas.Bool.{and_parts, eqb-true}
use Rattle.std.specs.Prelude.{Bool, true, false, ◌||◌, ◌==◌, if◌then◌else◌, codes, Option, Some}
use Rattle.std.specs.Prelude.{None}
use Rattle.std.specs.Str.{bytes_eq}
use Rattle.xt_names.specs.declared.names.ExprName.{ExprName}
use Rattle.function_table.specs.Find.{found, found_in, is_in_fn}
use Rattle.function_table.specs.Table.{joined}
use Rattle.function_table.specs.declared.builtins.Builtin.{Builtin}
use Rattle.function_table.specs.declared.builtins.Builtin.TheVariants as function
use Rattle.expr_meaning.specs.Calls.{Called, library, document, current, current_group, current_key}
use Rattle.expr_meaning.specs.Calls.{key, declared, called, called_in_library, of_library, is_local}
use Rattle.carried_exprs.specs.Sights.{local_uri}
use Rattle.xt_names.specs.ExprNames.{library_name}

pub string_called : called (library_name (codes "string")) 1 ≡ library function.String
unfolding called found found_in joined is_in_fn
string_called = refl

pub string_length_called : called (library_name (codes "string-length")) 1
    ≡ library function.StringLength
unfolding called found found_in joined is_in_fn
string_length_called = refl

pub normalize_space_called : called (library_name (codes "normalize-space")) 1
    ≡ library function.NormalizeSpace
unfolding called found found_in joined is_in_fn
normalize_space_called = refl

pub name_called : called (library_name (codes "name")) 1 ≡ library function.Name
unfolding called found found_in joined is_in_fn
name_called = refl

pub local_name_called : called (library_name (codes "local-name")) 1 ≡ library function.LocalName
unfolding called found found_in joined is_in_fn
local_name_called = refl

pub namespace_uri_called : called (library_name (codes "namespace-uri")) 1
    ≡ library function.NamespaceUri
unfolding called found found_in joined is_in_fn
namespace_uri_called = refl

pub root_called : called (library_name (codes "root")) 1 ≡ library function.Root
unfolding called found found_in joined is_in_fn
root_called = refl

pub error_called : called (library_name (codes "error")) 0 ≡ library function.Error
unfolding called found found_in joined is_in_fn
error_called = refl

pub doc_called : called (library_name (codes "doc")) 1 ≡ document
unfolding called found found_in joined is_in_fn
doc_called = refl

-- a function of the translation is a declared one
pub local_called : (name : ExprName) → name.uri ≡ local_uri → (n : ℕ) → called name n ≡ declared
unfolding called is_in_fn
local_called name h n = by (is_in_fn name) outside
  where
    outside : is_in_fn name ≡ false
    outside = ap (λ uri. bytes_eq uri (codes "http://www.w3.org/2005/xpath-functions")) h

    by : (b : Bool) → b ≡ false → (if b then called_in_library name n else declared) ≡ declared
    by true e = absurd cc
    by false e = refl

-- so many arguments
abbrev pub TakesSoMany : Called → ℕ → Type 0
TakesSoMany (library f) n = Unit {0}
TakesSoMany document n = n ≡ 1
TakesSoMany current n = n ≡ 0
TakesSoMany current_group n = n ≡ 0
TakesSoMany current_key n = n ≡ 0
TakesSoMany key n = n ≡ 2
TakesSoMany declared n = Unit {0}

chosen : (t : Bool) (a b : Called) (n : ℕ) → (t ≡ true → TakesSoMany a n) → TakesSoMany b n →
    TakesSoMany (if t then a else b) n
chosen true a b n h g = h refl
chosen false a b n h g = g

of_table : (o : Option Builtin) (n : ℕ) → TakesSoMany (of_library o) n
of_table None n = tt
of_table (Some f) n = tt

wanted : (name : ExprName) (n : ℕ) (local : List ℕ) (m : ℕ) → is_local name n local m ≡ true → n ≡ m
wanted name n local m h = eqb-true n m (and_parts (bytes_eq name.local local) (n == m) h).1

either_wanted : (a b : Bool) (n : ℕ) → (a ≡ true → n ≡ 1) → (b ≡ true → n ≡ 1) →
    (a || b) ≡ true → n ≡ 1
either_wanted true b n h g e = h refl
either_wanted false b n h g e = g e

pub takes : (name : ExprName) (n : ℕ) → TakesSoMany (called name n) n
unfolding called
takes name n =
    chosen (is_in_fn name) (called_in_library name n) declared n
    (λ e. chosen _ document _ n
    (either_wanted (is_local name n (codes "doc") 1) (is_local name n (codes "document") 1) n
    (wanted name n (codes "doc") 1) (wanted name n (codes "document") 1))
    (chosen _ current _ n (wanted name n (codes "current") 0)
    (chosen _ current_group _ n (wanted name n (codes "current-group") 0)
    (chosen _ current_key _ n (wanted name n (codes "current-grouping-key") 0)
    (chosen _ key _ n (wanted name n (codes "key") 2) (of_table (found name n) n)))))) tt
