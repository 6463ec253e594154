use Rattle.std.proofs.Common.{List, ◌++◌, drop}
use Rattle.xt_io.specs.Files.{KeepsFiles}
use Rattle.run_parts.specs.Further.{AreLoaded}
use Rattle.run_parts.specs.declared.inputs.Loaded.{Loaded}
use Rattle.run_parts.proofs.inputs.load_files.Given as goal

abbrev pub invariant-loop-name : goal.invariant-loop-name
invariant-loop-name g l = record {
  loaded : (more : List Loaded) → AreLoaded (g.F.Files.state l.initial.files).held (drop l.name-index l.names) more
      → AreLoaded (g.F.Files.state l.initial.files).held l.names (l.loaded ++ more);
  keeps : KeepsFiles (g.F.Files.state l.initial.files) (g.F.Files.state l.files);
}
