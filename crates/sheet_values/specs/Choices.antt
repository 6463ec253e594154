-- Attributes with one of two values (XSLT 2.0, 3.6).
use Rattle.std.specs.Prelude.{ℕ, List, [], Bool, not, ◌||◌, codes}
use Rattle.std.specs.Str.{bytes_eq}
use Rattle.xt_names.specs.declared.codes.Code.{Code}
use Rattle.xt_names.specs.declared.codes.SheetStaticCode.TheVariants.{XTSE0020}
use Rattle.sheet_values.specs.Rules.{broken}

-- the text is one of the two
abbrev pub choice_faults : List ℕ → List ℕ → List ℕ → List Code
choice_faults first second text =
    broken XTSE0020 (not (bytes_eq text first || bytes_eq text second))

-- whether it is the first
abbrev pub choice_value : List ℕ → List ℕ → Bool
choice_value first text = bytes_eq text first

abbrev pub yes_faults : List ℕ → List Code
yes_faults text = choice_faults (codes "yes") (codes "no") text

abbrev pub yes_value : List ℕ → Bool
yes_value text = choice_value (codes "yes") text
