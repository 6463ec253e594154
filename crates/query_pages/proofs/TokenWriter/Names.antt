-- Names and numbers as they are written.
use Rattle.std.proofs.Common.{◌≡◌, ℕ, ℤ, List, [], ◌∷◌, ◌++◌, true, false, refl}
use Rattle.std.specs.Prelude.{pos, negsuc, int_le}
use Rattle.std.specs.Fmt.{signed_decimal}
use Rattle.xt_names.specs.Allowed.{is_empty_text}
use Rattle.query_pages.specs.TokenTexts.Spellings.{name_text, number_text}

pub name_alone : (p n : List ℕ) → is_empty_text p ≡ true → name_text p n ≡ n
unfolding is_empty_text
name_alone [] n e = refl
name_alone (c ∷ cs) n e = absurd (cc)

pub name_behind : (p n : List ℕ) → is_empty_text p ≡ false → name_text p n ≡ p ++ 58 ∷ n
unfolding is_empty_text
name_behind [] n e = absurd (cc)
name_behind (c ∷ cs) n e = refl

pub ruleset names = (name_alone, name_behind)

pub number_is : (z : ℤ) → int_le (pos 0) z ≡ true → number_text z ≡ signed_decimal z
number_is (pos n) e = refl
number_is (negsuc n) e = absurd (cc)
