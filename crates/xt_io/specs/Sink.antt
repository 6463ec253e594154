-- What a sink means, and when a write is refused.
use Rattle.std.specs.Prelude.{ℕ, List, take, Option, ⊤}
use Rattle.std.specs.Io.KnownBytes.{Appends}
use Rattle.xt_io.specs.Files.{Rose, Counts}
use Rattle.xt_io.specs.declared.sink.SinkFault.{SinkFault}
use Rattle.xt_io.specs.declared.sink.SinkFault.TheVariants.{Failed, Memory}

-- what a sink means: the bytes written so far, where it tells, and how often it has failed
pub record SinkState : Type 0 where
  pub written : Option (List ℕ)
  pub faults : ℕ

-- these bytes were appended, where the sink tells
pub record Puts (old new : SinkState) (bytes : List ℕ) : Type 0 where
  pub appends : Appends old.written new.written bytes
  pub faults : Counts old.faults new.faults

-- a prefix of these bytes was appended
pub record PutsPrefix (old new : SinkState) (bytes : List ℕ) : Type 0 where
  pub count : ℕ
  pub puts : Puts old new (take count bytes)

-- when a write is refused so
abbrev pub HasSinkCause : SinkState → SinkState → SinkFault → Type 0
HasSinkCause old new Failed = Rose old.faults new.faults
HasSinkCause old new (Memory e) = ⊤
