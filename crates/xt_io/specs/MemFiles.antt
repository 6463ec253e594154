-- What files in memory show.
use Rattle.std.specs.Prelude.{ℕ, ◌+◌, ◌==◌, min, List, [], Option, Some, Bool}
use Rattle.std.specs.Option.{option_map}
use Rattle.std.specs.List.{list_any}
use Rattle.std.specs.BTreeMap.{get_by_text}
use Rattle.xt_io.specs.Files.{FilesState, last_count}
use Rattle.xt_io.specs.declared.mem_files.MemFiles.{MemFiles}

-- what is held under a name
abbrev pub files_held : MemFiles → List ℕ → Option (List ℕ)
files_held files name = option_map (λ bytes. bytes.items) (get_by_text files.entries name)

-- the numbers of the loads that are to fail, how many loads were made, and the two counts
pub record Loads : Type 0 where
  pub failing : List ℕ
  pub made : ℕ
  pub faults : ℕ
  pub taken : ℕ

abbrev pub loads_of : MemFiles → Loads
loads_of files = record { failing = files.failing.items; made = files.made; faults = files.faults; taken = files.taken }

abbrev pub no_loads : Loads
no_loads = record { failing = []; made = 0; faults = 0; taken = 0 }

-- the number of the next load
abbrev pub next_load : Loads → ℕ
next_load loads = min (loads.made + 1) last_count

-- the next load is listed as one that is to fail
abbrev pub fails_next_load : Loads → Bool
fails_next_load loads = list_any (λ call. call == next_load loads) loads.failing

-- what the files mean as a source: they tell what they hold
abbrev pub files_state : MemFiles → FilesState
files_state files = record { held = Some (λ name. files_held files name); faults = files.faults; taken = files.taken }
