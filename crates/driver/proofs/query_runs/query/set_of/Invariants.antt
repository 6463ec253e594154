use Rattle.std.proofs.Common.{◌≡◌, ◌++◌, true, drop}
use Rattle.doc_set.specs.Sets.{names_of}
use Rattle.command_words.specs.Texts.{are_different}
use Rattle.driver.specs.QueryRuns.Queries.{set_of}
use Rattle.driver.proofs.query_runs.query.set_of.Given as goal

abbrev pub invariant-loop-place : goal.invariant-loop-place
invariant-loop-place l = record {
  whole : l.set ++ set_of l.rules (drop l.place l.keys) (drop l.place l.roots) ≡ set_of l.rules l.keys l.roots;
  differ : are_different (names_of l.set ++ drop l.place l.keys) ≡ true;
}
