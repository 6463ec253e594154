-- What comes before a token: a space, or a new line and spaces.
use Rattle.std.specs.Prelude.{ℕ, zero, suc, List, [], ◌∷◌}
use Rattle.query_pages.specs.declared.gaps.Gap.{Gap}
use Rattle.query_pages.specs.declared.gaps.Gap.TheVariants as gap

abbrev pub spaces : ℕ → List ℕ
spaces zero = []
spaces (suc n) = 32 ∷ spaces n

abbrev pub gap_text : Gap → List ℕ
gap_text gap.Space = 32 ∷ []
gap_text (gap.Soft n) = 32 ∷ []
gap_text (gap.Line n) = 10 ∷ spaces n
