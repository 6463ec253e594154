use Rattle.std.proofs.Common.{◌≡◌, drop}
use Rattle.std.specs.Str.{chars}
use Rattle.expr_tokens.specs.Words.{key_in}
use Rattle.expr_tokens.proofs.keys.key_in.Given as goal

abbrev pub invariant-loop-key : goal.invariant-loop-key
invariant-loop-key l = key_in (drop l.key-index l.keys) (chars l.text) ≡ key_in l.keys (chars l.text)
