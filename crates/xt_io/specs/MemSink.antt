-- What a sink in memory shows.
use Rattle.std.specs.Prelude.{ℕ, ◌+◌, ◌-◌, ◌^◌, ◌==◌, min, List, [], Some, Bool}
use Rattle.std.specs.List.{list_any}
use Rattle.xt_io.specs.Files.{last_count}
use Rattle.xt_io.specs.Sink.{SinkState}
use Rattle.xt_io.specs.declared.mem_sink.MemSink.{MemSink}

-- what was written
abbrev pub sink_bytes : MemSink → List ℕ
sink_bytes sink = sink.bytes.items

-- the numbers of the writes that are to fail, the most bytes that one takes, how many were made, and how many failed
pub record Writes : Type 0 where
  pub failing : List ℕ
  pub most : ℕ
  pub made : ℕ
  pub faults : ℕ

abbrev pub writes_of : MemSink → Writes
writes_of sink = record { failing = sink.failing.items; most = sink.most; made = sink.made; faults = sink.faults }

abbrev pub no_writes : Writes
no_writes = record { failing = []; most = 2 ^ 64 - 1; made = 0; faults = 0 }

-- the number of the next write
abbrev pub next_write : Writes → ℕ
next_write writes = min (writes.made + 1) last_count

-- the next write is listed as one that is to fail
abbrev pub fails_next_write : Writes → Bool
fails_next_write writes = list_any (λ call. call == next_write writes) writes.failing

-- what the sink means: it tells what was written
abbrev pub sink_state : MemSink → SinkState
sink_state sink = record { written = Some sink.bytes.items; faults = sink.faults }
