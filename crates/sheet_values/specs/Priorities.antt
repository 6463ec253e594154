-- Priorities in thousandths (XSLT 2.0, 6.4; decimals are those of XML Schema 2, 3.2.3).
use Rattle.std.specs.Prelude.{ℕ, suc, ◌+◌, ◌*◌, ◌-◌, ℤ, pos, ◌-ℤ◌, List, [], ◌∷◌, length, take, drop}
use Rattle.std.specs.Prelude.{Bool, false, not, ◌&&◌, ◌||◌, ◌==◌, nat_le, nat_lt, if◌then◌else◌}
use Rattle.std.specs.List.{list_all}
use Rattle.xt_names.specs.Allowed.{is_empty_text}
use Rattle.xt_names.specs.declared.codes.Code.{Code}
use Rattle.xt_names.specs.declared.codes.Code.TheVariants.{SheetStatic}
use Rattle.xt_names.specs.declared.codes.SheetStaticCode.TheVariants.{XTSE0020, XTUN0001}
use Rattle.xt_names.specs.Characters.{digit}

abbrev pub is_digit : ℕ → Bool
is_digit c = nat_le 48 c && nat_le c 57

abbrev pub are_digits : List ℕ → Bool
are_digits cs = list_all is_digit cs

-- one digit or more, and at most so many
abbrev pub has_digits : ℕ → List ℕ → Bool
has_digits most cs = not (is_empty_text cs) && nat_le (length cs) most && are_digits cs

-- the number that digits write, after those that write `n`
abbrev pub number : ℕ → List ℕ → ℕ
number n [] = n
number n (c ∷ cs) = number (10 * n + digit c) cs

-- how many characters come before the first point
abbrev pub point_place : List ℕ → ℕ
point_place [] = 0
point_place (c ∷ cs) = if c == 46 then 0 else suc (point_place cs)

abbrev pub has_point : List ℕ → Bool
has_point cs = nat_lt (point_place cs) (length cs)

-- what comes before the point, and what after it
abbrev pub whole_of : List ℕ → List ℕ
whole_of cs = take (point_place cs) cs

abbrev pub fraction_of : List ℕ → List ℕ
fraction_of cs = drop (suc (point_place cs)) cs

-- up to nine digits, and up to three after a point
abbrev pub is_taken : List ℕ → Bool
is_taken cs =
    has_digits 9 (whole_of cs) && (not (has_point cs) || has_digits 3 (fraction_of cs))

-- digits on one side of the point or on both, or without a point
abbrev pub is_decimal : List ℕ → Bool
is_decimal cs =
    are_digits (whole_of cs) && are_digits (fraction_of cs)
    && not (is_empty_text (whole_of cs) && is_empty_text (fraction_of cs))

-- the thousandths after the point
abbrev pub thousandths : List ℕ → ℕ
thousandths [] = 0
thousandths (a ∷ []) = 100 * digit a
thousandths (a ∷ b ∷ []) = 100 * digit a + 10 * digit b
thousandths (a ∷ b ∷ c ∷ cs) = 100 * digit a + 10 * digit b + digit c

abbrev pub all_thousandths : List ℕ → ℕ
all_thousandths cs = 1000 * number 0 (whole_of cs) + thousandths (fraction_of cs)

abbrev pub is_negative : List ℕ → Bool
is_negative [] = false
is_negative (c ∷ cs) = c == 45

-- the text after a minus, and after a sign
abbrev pub without_minus : List ℕ → List ℕ
without_minus [] = []
without_minus (c ∷ cs) = if c == 45 then cs else c ∷ cs

abbrev pub without_sign : List ℕ → List ℕ
without_sign [] = []
without_sign (c ∷ cs) = if c == 45 || c == 43 then cs else c ∷ cs

abbrev pub signed : Bool → ℕ → ℤ
signed negative n = if negative then pos 0 -ℤ pos n else pos n

-- a decimal that is not taken is left out; what is no decimal is no priority
abbrev pub refused : List ℕ → List Code
refused cs =
    if is_decimal (without_sign cs) then SheetStatic XTUN0001 ∷ []
    else SheetStatic XTSE0020 ∷ []

abbrev pub priority_faults : List ℕ → List Code
priority_faults text = if is_taken (without_minus text) then [] else refused text

abbrev pub priority_value : List ℕ → ℤ
priority_value text = signed (is_negative text) (all_thousandths (without_minus text))
