use Rattle.std.proofs.Common.{◌≡◌, List, ℕ, length, ap, arith}
use Rattle.run_parts.proofs.InputLemmas.{trees_end}
use Rattle.run_parts.proofs.inputs.read_files.Goals as goal

pub returns-clause-trees : goal.returns-clause-trees
returns-clause-trees c =
    let same : length c.as_slice-file-items.result.now ≡ length c.args.loaded.now = ap length c.as_slice-file-items.ensures in
    trees_end c.args.loaded.now c.loop-file.file-index c.loop-file.trees (omega arith) c.loop-file.invariant.trees
