use Rattle.std.proofs.Common.{◌≡◌, List, ℕ, [], drop, length, ap, sym, subst, arith}
use Rattle.std.proofs.Math.ListN.{drop_of_length-le}
use Rattle.std.proofs.lemmas.List.{append-nil}
use Rattle.doc_set.specs.Fetches.{AreHeld}
use Rattle.doc_set.proofs.fetches.fetch.Goals as goal

pub returns-clause-held : goal.returns-clause-held
returns-clause-held g c =
    let held = (g.F.Files.state c.args.files.now).held in
    let names = c.args.names.now in
    let same : length c.as_slice-name-items.result.now ≡ length names = ap length c.as_slice-name-items.ensures in
    let over : drop c.loop-name.name-index names ≡ [] = drop_of_length-le names (omega arith) in
    subst (AreHeld held names) (append-nil c.loop-name.texts)
    (c.loop-name.invariant.held [] (subst (λ (l : List (List ℕ)). AreHeld held l []) (sym over) tt))
