use Rattle.std.proofs.Common.{◌≡◌, List, ℕ, length, ap, arith}
use Rattle.run_parts.proofs.InputLemmas.{loaded_end}
use Rattle.run_parts.proofs.inputs.load_files.Goals as goal

pub returns-clause-loaded : goal.returns-clause-loaded
returns-clause-loaded g c =
    let same : length c.as_slice-name-items.result.now ≡ length c.args.names.now = ap length c.as_slice-name-items.ensures in
    loaded_end (g.F.Files.state c.args.files.now).held c.args.names.now c.loop-name.name-index c.loop-name.loaded (omega arith) c.loop-name.invariant.loaded
