use Rattle.std.proofs.Common.{◌≡◌, ℕ, take, nat_eq}
use Rattle.std.specs.HashMap.{get}
use Rattle.text_operations.specs.Translations.{partner}
use Rattle.text_operations.proofs.translations.partners_of.Given as goal

abbrev pub invariant-loop-i : goal.invariant-loop-i
invariant-loop-i l = (q : ℕ) → get nat_eq l.partners q ≡ partner (take l.i l.from) l.to q
