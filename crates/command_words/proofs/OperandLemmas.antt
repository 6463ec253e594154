-- Too few operands.
use Rattle.std.proofs.Common.{◌≡◌, ℕ, ◌<◌, List, [], ◌∷◌, length, None, refl, arith}
use Rattle.command_words.specs.Apart.{Told}
use Rattle.command_words.specs.Requests.{run_of, run_of_operands}

without_two : (greatest usual : ℕ) (t : Told) (words : List (List ℕ)) → length words < 2
    → run_of_operands greatest usual t words ≡ None
without_two greatest usual t [] h = refl
without_two greatest usual t (program ∷ []) h = refl
without_two greatest usual t (program ∷ document ∷ more) h = absurd (omega (arith, h))

pub too_few : (greatest usual : ℕ) (t : Told) → length t.operands < 2
    → run_of greatest usual t ≡ None
too_few greatest usual t h = without_two greatest usual t t.operands h
