-- Levels that are counted up to the greatest number.
use Rattle.std.proofs.Common.{◌≡◌, ℕ, arith}
use Rattle.std.specs.Prelude.{min, nat_le}

pub few_levels : (n : ℕ) → nat_le (min n 4294967295) 40 ≡ nat_le n 40
few_levels n = grind arith

pub ruleset levels = (few_levels)
