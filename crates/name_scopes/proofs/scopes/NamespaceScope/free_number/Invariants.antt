use Rattle.std.proofs.Common.{◌≡◌, ◌-◌, ◌<◌, ℕ, true}
use Rattle.name_scopes.specs.Scopes.{binds, free_number, numbered_prefix}
use Rattle.name_scopes.proofs.scopes.NamespaceScope.free_number.Given as goal

abbrev pub invariant-loop-n : goal.invariant-loop-n
invariant-loop-n l = record {
  same : free_number l.self (l.most - l.n) l.n ≡ free_number l.self l.most 0;
  bound : (k : ℕ) → k < l.n → binds l.self (numbered_prefix k) ≡ true;
}
