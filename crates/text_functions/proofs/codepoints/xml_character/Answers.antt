use Rattle.std.proofs.Common.{◌≡◌, true, ℤ, pos, ◌<ℤ◌, FitsSigned, to_z, of_z, w64, rules, arith}
use lib.Signed.{lt_z}
use Rattle.std.proofs.lemmas.Int.{ints}
use Rattle.text_functions.proofs.CodepointLemmas.{large_code}
use Rattle.text_functions.proofs.codepoints.xml_character.Goals as goal

above : (z : ℤ) → FitsSigned w64 z → lt_z (pos 1114111) (to_z w64 (of_z w64 z)) ≡ true → pos 1114111 <ℤ z
above z f t = grind (arith, ints)

pub returns-then-code-gt1114111 : goal.returns-then-code-gt1114111
returns-then-code-gt1114111 c =
    let f : FitsSigned w64 c.args.code = search rules in
    large_code c.args.code (above c.args.code f c.if-code-gt1114111.true)
