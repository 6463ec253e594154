use Rattle.std.specs.Str.{chars}
use Rattle.import_tree.proofs.Reasons.{readable, few_levels}
use Rattle.import_tree.proofs.loads.load_with_modules.Goals as goal

pub sheet_in-sheet-requires-clause-readable : goal.sheet_in-sheet-requires-clause-readable
sheet_in-sheet-requires-clause-readable g c =
    readable (g.F.Files.state c.args.files.now).held (chars c.args.name.now) c.in-Ok.loaded
    c.in-Ok.ensures.loaded

pub sheet_in-sheet-requires-clause-levels : goal.sheet_in-sheet-requires-clause-levels
sheet_in-sheet-requires-clause-levels g c =
    few_levels (g.F.Files.state c.args.files.now).held (chars c.args.name.now) c.in-Ok.loaded
    c.in-Ok.ensures.loaded
