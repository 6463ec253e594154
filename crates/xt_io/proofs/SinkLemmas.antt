-- Writes in a row.
use Rattle.std.proofs.Common.{ℕ, ◌+◌, List, [], ◌++◌, length, take, drop, ap, ◌∙◌, sym, append_assoc, append-nil, arith, Option, None, Some}
use Rattle.std.specs.Io.KnownBytes.{Appends}
use Rattle.std.proofs.Math.Seq.{take-add, take-length}
use Rattle.xt_io.specs.Sink.{SinkState, Puts, PutsPrefix}

pub Appends-then : (u v w : Option (List ℕ)) (a b : List ℕ) → Appends u v a → Appends v w b → Appends u w (a ++ b)
Appends-then None v w a b x y = tt
Appends-then (Some xs) None w a b x y = absurd x
Appends-then (Some xs) (Some ys) None a b x y = y
Appends-then (Some xs) (Some ys) (Some zs) a b x y = y ∙ ap (λ (t : List ℕ). t ++ b) x ∙ append_assoc xs a b

pub Puts-then : (u v w : SinkState) (a b : List ℕ) → Puts u v a → Puts v w b → Puts u w (a ++ b)
Puts-then u v w a b x y = record {
  appends = Appends-then u.written v.written w.written a b x.appends y.appends;
  faults = record { no_less = omega (arith, x.faults.no_less, y.faults.no_less); stops = omega (arith, x.faults.stops, y.faults.stops) };
}

-- one more write of a loop over a piece
pub Puts-more : (u v w : SinkState) (n m : ℕ) (piece : List ℕ)
    → Puts u v (take n piece) → Puts v w (take m (drop n piece)) → Puts u w (take (n + m) piece)
Puts-more u v w n m piece x y = rw take-add (Puts-then u v w (take n piece) (take m (drop n piece)) x y)

-- nothing was written
pub Puts-none : (u : SinkState) → Puts u u []
Puts-none u = record { appends = Appends-none u.written; faults = record { no_less = omega arith; stops = omega arith } } where
  Appends-none : (v : Option (List ℕ)) → Appends v v []
  Appends-none None = tt
  Appends-none (Some xs) = sym (append-nil xs)

-- the whole is a prefix
pub Puts-whole : (u v : SinkState) (a : List ℕ) → Puts u v a → PutsPrefix u v a
Puts-whole u v a x = record { count = length a; puts = rw take-length x }

-- nothing is a prefix
pub PutsPrefix-none : (u : SinkState) (a : List ℕ) → PutsPrefix u u a
PutsPrefix-none u a = record { count = 0; puts = Puts-none u }
