use Rattle.std.proofs.Common.{◌≡◌, ◌≤◌, [], take, drop}
use Rattle.query_grammar.specs.Machine.{inside}
use Rattle.query_reader.proofs.query_heads.signatures.closing.Given as goal

abbrev pub invariant-loop-i : goal.invariant-loop-i
invariant-loop-i l = (l.depth ≤ l.i)
    × (inside 0 [] l.tokens ≡ inside l.depth (take l.i l.tokens) (drop l.i l.tokens))
