use Rattle.std.proofs.Common.{rules}
use Rattle.std.proofs.lemmas.Result.{err_from_is_err_and}
use Rattle.std.specs.Str.{chars}
use Rattle.module_loading.proofs.Walks.{whole_at}
use Rattle.module_loading.proofs.Stops.{whole_refused}
use Rattle.module_loading.proofs.walk.load_modules.Goals as goal

pub returns-in_err-spans-clause-refused : goal.returns-in_err-spans-clause-refused
returns-in_err-spans-clause-refused g c =
    let p = err_from_is_err_and c.from_residual-in_err-spans.result c.from_residual-in_err-spans.ensures.1 in
    rw (p.1, p.2) (whole_refused (g.L.LinkReader.links c.args.reader.now) (chars c.args.name.now) c.in_ok-name.name _ _
    (g.F.Files.state c.args.files.now) (g.F.Files.state c.load_module.new.files) c.in_err-spans.field-0.0
    c.in_ok-name.ensures.ok (search rules) (search rules) c.in_err-spans.ensures.refused)

pub returns-clause-loaded : goal.returns-clause-loaded
returns-clause-loaded g c =
    whole_at (g.F.Files.state c.args.files.now).held (g.L.LinkReader.links c.args.reader.now) (chars c.args.name.now)
    c.in_ok-name.name _ _ _ _ c.in_ok-spans.spans c.in_ok-name.ensures.ok (search rules) (search rules) (search rules)
    c.in_ok-spans.ensures.loaded (search rules) (search rules)
