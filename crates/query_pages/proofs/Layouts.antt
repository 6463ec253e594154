-- Gaps are white space.
use Rattle.std.proofs.Common.{◌≡◌, ◌<◌, ◌≤◌, ℕ, ◌-◌, zero, suc, List, [], ◌∷◌, length, get_or, true}
use Rattle.std.proofs.Common.{refl, ap}
use Rattle.std.proofs.lemmas.List.{get_or_default, get_or_past}
use Rattle.std.specs.List.{list_all}
use Rattle.expr_keys.specs.declared.tokens.Token.{Token}
use Rattle.query_pages.specs.TokenTexts.Texts.{is_gap, IsLayout, text_of}
use Rattle.query_pages.specs.declared.gaps.Gap.{Gap}
use Rattle.query_pages.specs.declared.gaps.Gap.TheVariants as gap
use Rattle.query_pages.specs.Gaps.{spaces, gap_text}
use Rattle.query_pages.specs.Laid.{gap_at, laid, IsTextOf}
use Rattle.xt_names.specs.Characters.{is_space}

all_spaces : (n : ℕ) → list_all is_space (spaces n) ≡ true
unfolding is_space
all_spaces zero = refl
all_spaces (suc n) = all_spaces n

gap_white : (g : Gap) → is_gap (gap_text g) ≡ true
unfolding is_space
gap_white gap.Space = refl
gap_white (gap.Soft n) = refl
gap_white (gap.Line n) = all_spaces n

pub at_there : (gs : List Gap) (n : ℕ) (d : Gap) → n < length gs
    → gap_at gs n ≡ gap_text (get_or gs n d)
at_there gs n d h = ap gap_text (get_or_default gs n gap.Space d h)

pub at_past : (gs : List Gap) (n : ℕ) → length gs ≤ n → gap_at gs n ≡ 32 ∷ []
at_past gs n h = ap gap_text (get_or_past gs n gap.Space h)

pub ruleset gaps = (at_there, at_past)

pub laid_white : (n : ℕ) (gs : List Gap) → IsLayout (laid n gs)
laid_white n gs = λ ts. gap_white (get_or gs (n - length ts) gap.Space)

pub as_text : (n : ℕ) (gs : List Gap) (ts : List Token) (text : List ℕ)
    → text ≡ text_of (laid n gs) ts → IsTextOf ts text
as_text n gs ts text e = record { layout = laid n gs; spaced = laid_white n gs; same = e }
