-- The rule that a stylesheet is refused for, where no module of it breaks one alone.
use Rattle.std.specs.Prelude.{List, [], ◌∷◌, Bool, Option, Some, None, if◌then◌else◌}
use Rattle.std.specs.List.{list_any}
use Rattle.std.specs.Str.{bytes_eq}
use Rattle.xt_names.specs.Codes.{code_text}
use Rattle.xt_names.specs.declared.codes.Code.{Code}
use Rattle.xt_names.specs.declared.codes.Code.TheVariants.{QueryStatic, SheetStatic}
use Rattle.xt_names.specs.declared.codes.QueryStaticCode.TheVariants.{XPST0008, XPST0017}
use Rattle.xt_names.specs.declared.codes.SheetStaticCode.TheVariants.{XTSE0630, XTSE0650, XTSE0660, XTSE0680}
use Rattle.xt_names.specs.declared.codes.SheetStaticCode.TheVariants.{XTSE0690, XTSE0770, XTDE0640, XTDE1260}
use Rattle.xt_names.specs.declared.codes.SheetStaticCode.TheVariants.{XTUN0001, XTSE1560}

-- the rules in the order in which a stylesheet is refused for them
abbrev pub wide_codes : List Code
wide_codes =
    QueryStatic XPST0008 ∷ QueryStatic XPST0017 ∷ SheetStatic XTSE0630 ∷ SheetStatic XTSE0650
    ∷ SheetStatic XTSE0660 ∷ SheetStatic XTSE0680 ∷ SheetStatic XTSE0690 ∷ SheetStatic XTSE0770
    ∷ SheetStatic XTDE0640 ∷ SheetStatic XTDE1260 ∷ SheetStatic XTUN0001 ∷ SheetStatic XTSE1560 ∷ []

abbrev pub has_code : List Code → Code → Bool
has_code all wanted = list_any (λ c. bytes_eq (code_text c) (code_text wanted)) all

abbrev pub first_of : List Code → List Code → Option Code
first_of [] all = None
first_of (w ∷ ws) all = if has_code all w then Some w else first_of ws all

-- the first rule of the order that is among those that are broken
abbrev pub first_wide : List Code → Option Code
first_wide all = first_of wide_codes all
