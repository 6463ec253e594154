-- Integers that are no code point of a character of XML.
use Rattle.std.proofs.Common.{◌≡◌, ℕ, ◌<◌, ℤ, pos, negsuc, Result, Err, refl, arith, inr}
use Rattle.std.proofs.lemmas.Int.{ints}
use Rattle.std.specs.Prelude.{◌<ℤ◌}
use Rattle.xt_names.specs.declared.codes.Code.{Code}
use Rattle.text_functions.specs.TextFunctions.{xml_character, no_character}
use Rattle.text_functions.proofs.TextLemmas.{no_xml_character}

abbrev refused : Result ℕ Code
refused = Err no_character

pub large_code : (z : ℤ) → pos 1114111 <ℤ z → refused ≡ xml_character z
large_code (pos n) h = rw (no_xml_character n (inr (omega (arith, ints)))) refl
large_code (negsuc n) h = absurd (omega (arith, ints))
