use Rattle.std.proofs.Common.{◌≡◌}
use Rattle.std.specs.Str.{chars}
use Rattle.text_operations.specs.Translations.{translated}
use Rattle.text_operations.proofs.translations.translated.Given as goal

abbrev pub invariant-loop-c : goal.invariant-loop-c
invariant-loop-c l = l.made ≡ translated (chars l.fn.from) (chars l.fn.to) l.yielded
