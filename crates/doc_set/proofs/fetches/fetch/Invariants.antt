use Rattle.std.proofs.Common.{ℕ, ◌++◌, List, drop}
use Rattle.xt_io.specs.Files.{KeepsFiles}
use Rattle.doc_set.specs.Fetches.{AreHeld}
use Rattle.doc_set.proofs.fetches.fetch.Given as goal

abbrev pub invariant-loop-name : goal.invariant-loop-name
invariant-loop-name g l = record {
  held : (more : List (List ℕ)) → AreHeld (g.F.Files.state l.initial.files).held (drop l.name-index l.names) more → AreHeld (g.F.Files.state l.initial.files).held l.names (l.texts ++ more);
  keeps : KeepsFiles (g.F.Files.state l.initial.files) (g.F.Files.state l.files);
}
