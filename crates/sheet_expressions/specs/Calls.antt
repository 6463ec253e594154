-- What a stylesheet asks of a call of a function (XSLT 2.0, 14.1, 16.3 and 16.6).
use Rattle.std.specs.Prelude.{ℕ, List, Bool, not, ◌&&◌, ◌||◌, ◌==◌, codes, if◌then◌else◌}
use Rattle.std.specs.Str.{bytes_eq}
use Rattle.xt_names.specs.declared.names.ExprName.{ExprName}
use Rattle.function_table.specs.Find.{is_in_fn}
use Rattle.sheet_expressions.specs.declared.calls.SheetCall.{SheetCall}
use Rattle.sheet_expressions.specs.declared.calls.SheetCall.TheVariants as call

-- functions on texts that are left out
unfoldable pub is_left_out_text : List ℕ → Bool
is_left_out_text local =
    bytes_eq local (codes "lower-case")
    || bytes_eq local (codes "matches")
    || bytes_eq local (codes "normalize-unicode")
    || bytes_eq local (codes "replace")
    || bytes_eq local (codes "tokenize")
    || bytes_eq local (codes "upper-case")
    || bytes_eq local (codes "format-number")

-- .. and others
unfoldable pub is_left_out_other : List ℕ → Bool
is_left_out_other local =
    bytes_eq local (codes "avg")
    || bytes_eq local (codes "generate-id")
    || bytes_eq local (codes "id")
    || bytes_eq local (codes "idref")
    || bytes_eq local (codes "number")
    || bytes_eq local (codes "system-property")
    || bytes_eq local (codes "unparsed-text")

-- these are left out whatever they are called with, error() where it has arguments, and key() where
-- it has three
abbrev pub is_left_out : List ℕ → ℕ → Bool
is_left_out local arity =
    is_left_out_text local
    || is_left_out_other local
    || (bytes_eq local (codes "error") && not (arity == 0))
    || (bytes_eq local (codes "key") && arity == 3)

-- they have a value within an xsl:for-each-group alone
abbrev pub is_of_group : List ℕ → ℕ → Bool
is_of_group local arity =
    (bytes_eq local (codes "current-group") || bytes_eq local (codes "current-grouping-key"))
    && arity == 0

abbrev pub call_in_fn : List ℕ → ℕ → SheetCall
call_in_fn local arity =
    if is_left_out local arity then call.LeftOut
    else if is_of_group local arity then call.InGroup
    else if bytes_eq local (codes "key") && arity == 2 then call.Key
    else call.Plain

-- what is asked of a call of the function with so many arguments
unfoldable pub sheet_call : ExprName → ℕ → SheetCall
sheet_call name arity = if is_in_fn name then call_in_fn name.local arity else call.Plain
