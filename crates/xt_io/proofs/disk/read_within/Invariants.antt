use Rattle.std.proofs.Common.{◌≡◌, ◌≤◌, vec_len}
use Rattle.xt_io.proofs.disk.read_within.Given as goal

-- what was read is within the limit, and is held
abbrev pub invariant-loop : goal.invariant-loop
invariant-loop g l = (l.taken ≤ l.limit) × (vec_len l.bytes ≡ l.taken)
