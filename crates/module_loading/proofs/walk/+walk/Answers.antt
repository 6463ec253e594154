-- The walk, link by link.
use Rattle.std.proofs.Common.{◌≤◌, ◌<◌, length, arith, rules, drop, refl, ◌∙◌}
use Rattle.std.proofs.lemmas.Grind.{common_steps}
use Rattle.std.proofs.lemmas.Result.{err_from_is_err_and, IfErr-weaker}
use Rattle.module_loading.specs.Walk.{most_modules}
use Rattle.module_loading.proofs.Walks.{one_link_at, more_links_at, one_module_at, no_links_at}
use Rattle.module_loading.proofs.Walks.{parted, on_ok, grows, fit_then, added_size}
use Rattle.module_loading.proofs.Stops.{is_so, circle_refused, many_refused, link_refused_at}
use Rattle.module_loading.proofs.Stops.{first_refused_at, later_refused_at, itself_refused, links_refused_at}
use Rattle.module_loading.proofs.walk.+walk.Goals as goal

pub load_link-returns-then-is_loading-clause-refused : goal.load_link-returns-then-is_loading-clause-refused
load_link-returns-then-is_loading-clause-refused g t c =
    rw c.circle.ensures (circle_refused (g.L.LinkReader.links c.args.reader.now) c.args.importer.now.loading
    (length c.args.loaded.now.modules) c.args.importer.now.name c.args.link.now
    (g.F.Files.state c.args.files.now) (g.F.Files.state c.args.files.now)
    (is_so _ _ _ _ _ _ c.as_slice.ensures c.in_ok-name.ensures c.is_loading.ensures c.if-is_loading.true))

pub load_link-returns-then-len-ge-MOST_MODULES-clause-refused : goal.load_link-returns-then-len-ge-MOST_MODULES-clause-refused
load_link-returns-then-len-ge-MOST_MODULES-clause-refused g t c =
    let many : most_modules ≤ length c.args.loaded.now.modules = omega arith in
    many_refused (g.L.LinkReader.links c.args.reader.now) c.args.importer.now.loading
    (length c.args.loaded.now.modules) c.args.importer.now.name c.args.link.now
    (g.F.Files.state c.args.files.now) (g.F.Files.state c.args.files.now)
    (is_so _ _ _ _ _ _ c.as_slice.ensures c.in_ok-name.ensures c.is_loading.ensures c.if-is_loading.false) many

pub load_link-returns-in_err-spans-clause-refused : goal.load_link-returns-in_err-spans-clause-refused
load_link-returns-in_err-spans-clause-refused g t c =
    let p = err_from_is_err_and c.from_residual-in_err-spans.result c.from_residual-in_err-spans.ensures.1 in
    let room : length c.args.loaded.now.modules < most_modules = omega arith in
    rw (p.1, p.2) (link_refused_at (g.L.LinkReader.links c.args.reader.now) c.args.importer.now.loading
    (length c.args.loaded.now.modules) c.args.importer.now.name c.in_ok-name.name c.args.link.now
    (g.F.Files.state c.args.files.now) (g.F.Files.state c.load_module.new.files) c.in_err-spans.field-0.0
    c.in_ok-name.ensures
    (is_so _ _ _ _ _ _ c.as_slice.ensures c.in_ok-name.ensures c.is_loading.ensures c.if-is_loading.false)
    room c.in_err-spans.ensures.refused)

pub load_link-returns-clause-loaded : goal.load_link-returns-clause-loaded
load_link-returns-clause-loaded g t c =
    one_link_at (g.F.Files.state c.args.files.now).held (g.L.LinkReader.links c.args.reader.now)
    c.args.importer.now.loading c.args.importer.now.name c.in_ok-name.name c.args.link.now
    c.args.loaded.now c.load_module.new.loaded c.place.new.loaded c.args.pieces.now c.place.new.pieces
    c.in_ok-spans.spans c.len-before.result c.in_ok-name.ensures c.len-before.ensures
    (is_so _ _ _ _ _ _ c.as_slice.ensures c.in_ok-name.ensures c.is_loading.ensures c.if-is_loading.false)
    c.in_ok-spans.ensures.loaded c.in_ok-place.ensures

pub load_link-load_module-requires : goal.load_link-load_module-requires
load_link-load_module-requires g t c κs within =
    let room : length c.args.loaded.now.modules < 64 = omega arith in
    (omega (arith, c.decreases, room), search rules)

pub load_links-load_link-requires : goal.load_links-load_link-requires
load_links-load_link-requires g t c κs within =
    (omega (arith, c.decreases), search rules)

pub load_links-returns-in_err-load_link-in-len1-up-clause-refused : goal.load_links-returns-in_err-load_link-in-len1-up-clause-refused
load_links-returns-in_err-load_link-in-len1-up-clause-refused g t c =
    let p = err_from_is_err_and c.from_residual-in_err-load_link-in-len1-up.result c.from_residual-in_err-load_link-in-len1-up.ensures.1 in
    rw (p.1, p.2) (first_refused_at (g.L.LinkReader.links c.args.reader.now) c.args.importer.now.loading
    (length c.args.loaded.now.modules) c.args.importer.now.name c.link-item.result (drop 1 c.args.links.now)
    c.args.links.now (g.F.Files.state c.args.files.now) (g.F.Files.state c.load_link.new.files)
    c.in_err-load_link-in-len1-up.field-0.0
    (parted c.args.links.now (drop 1 c.args.links.now) c.link-item.result c.in-len1-up.len_at_least c.link-item.is refl)
    c.in_err-load_link-in-len1-up.ensures.refused)

pub load_links-load_links-requires : goal.load_links-load_links-requires
load_links-load_links-requires g t c κs within =
    let a = c.in_ok-load_link-in-len1-up.ensures.loaded in
    let more = grows (g.F.Files.state c.args.files.now).held (g.L.LinkReader.links c.args.reader.now)
    c.args.importer.now.loading c.args.importer.now.name c.link-item.result c.args.loaded.now
    c.load_link.new.loaded c.end_piece-in-len1-up.new.pieces c.load_link.new.pieces a in
    let fit = fit_then (g.F.Files.state c.args.files.now).held (g.L.LinkReader.links c.args.reader.now)
    c.args.importer.now.loading c.args.importer.now.name c.link-item.result c.args.loaded.now
    c.load_link.new.loaded c.end_piece-in-len1-up.new.pieces c.load_link.new.pieces c.requires.levels a in
    let few : length c.load_link.new.loaded.modules ≤ 64 = a.few in
    (omega (arith, c.decreases, more, few), search rules)

pub load_links-returns-in_ok-end_piece-in-empty-clause-loaded : goal.load_links-returns-in_ok-end_piece-in-empty-clause-loaded
load_links-returns-in_ok-end_piece-in-empty-clause-loaded g t c =
    no_links_at (g.F.Files.state c.args.files.now).held (g.L.LinkReader.links c.args.reader.now)
    c.args.importer.now.loading c.args.importer.now.name c.args.links.now c.args.loaded.now c.args.pieces.now
    c.end_piece.new.pieces.spans c.in-empty.len_below c.requires.room c.in_ok-end_piece-in-empty.ensures.spans

pub load_links-returns-in_ok-load_link-in-len1-up-clause-loaded : goal.load_links-returns-in_ok-load_link-in-len1-up-clause-loaded
load_links-returns-in_ok-load_link-in-len1-up-clause-loaded g t c =
    on_ok c.load_links.result _ _
    (λ b. more_links_at (g.F.Files.state c.args.files.now).held (g.L.LinkReader.links c.args.reader.now)
    c.args.importer.now.loading c.args.importer.now.name c.link-item.result _ c.args.links.now
    (g.F.Files.state c.load_link.new.files).held c.args.loaded.now c.load_link.new.loaded c.load_links.new.loaded
    c.args.pieces.now c.end_piece-in-len1-up.new.pieces c.load_link.new.pieces c.load_links.new.pieces.spans
    (parted c.args.links.now _ c.link-item.result c.in-len1-up.len_at_least c.link-item.is (grind (arith, common_steps)))
    c.in_ok-load_link-in-len1-up.ensures.keeps.held
    c.in_ok-end_piece-in-len1-up.ensures.place c.in_ok-end_piece-in-len1-up.ensures.from
    c.in_ok-end_piece-in-len1-up.ensures.spans c.in_ok-load_link-in-len1-up.ensures.loaded b)
    c.load_links.ensures.loaded

pub load_links-returns-in_ok-load_link-in-len1-up-clause-refused : goal.load_links-returns-in_ok-load_link-in-len1-up-clause-refused
load_links-returns-in_ok-load_link-in-len1-up-clause-refused g t c =
    IfErr-weaker c.load_links.result _ _
    (λ fault x. later_refused_at (g.L.LinkReader.links c.args.reader.now) c.args.importer.now.loading
    c.args.importer.now.name c.link-item.result _ c.args.links.now c.args.loaded.now c.load_link.new.loaded
    c.end_piece-in-len1-up.new.pieces c.load_link.new.pieces (g.F.Files.state c.args.files.now)
    (g.F.Files.state c.load_link.new.files) (g.F.Files.state c.load_links.new.files) fault
    (parted c.args.links.now _ c.link-item.result c.in-len1-up.len_at_least c.link-item.is (grind (arith, common_steps)))
    c.in_ok-load_link-in-len1-up.ensures.keeps c.in_ok-load_link-in-len1-up.ensures.loaded x)
    c.load_links.ensures.refused

pub load_module-returns-in_err-links-clause-refused : goal.load_module-returns-in_err-links-clause-refused
load_module-returns-in_err-links-clause-refused g t c =
    let p = err_from_is_err_and c.from_residual.result c.from_residual.ensures.1 in
    rw (p.1, p.2) (itself_refused (g.L.LinkReader.links c.args.reader.now) c.args.loading.now
    (length c.args.loaded.now.modules) c.args.name.now (g.F.Files.state c.args.files.now)
    (g.F.Files.state c.add_module.new.files) c.in_err-links.field-0.0 c.in_err-links.ensures.refused)

pub load_module-load_links-requires : goal.load_module-load_links-requires
load_module-load_links-requires g t c κs within =
    let size = added_size (g.F.Files.state c.args.files.now).held (g.L.LinkReader.links c.args.reader.now)
    c.args.name.now c.args.loaded.now c.add_module.new.loaded c.in_ok-links.links c.in_ok-links.ensures.added in
    let room : length c.add_module.new.loaded.modules ≤ 64 = omega (arith, size.0, c.requires.room) in
    let fit : length c.add_module.new.loaded.levels ≤ length c.add_module.new.loaded.modules =
    omega (arith, size.0, size.1, c.requires.levels) in
    (omega (arith, c.decreases, size.0, c.requires.room), search rules)

pub load_module-returns-in_err-load_links-clause-refused : goal.load_module-returns-in_err-load_links-clause-refused
load_module-returns-in_err-load_links-clause-refused g t c =
    let p = err_from_is_err_and c.from_residual-in_err-load_links.result c.from_residual-in_err-load_links.ensures.1 in
    rw (p.1, p.2) (links_refused_at (g.L.LinkReader.links c.args.reader.now) c.args.loading.now
    c.in_ok-importer.importer.loading c.args.name.now c.in_ok-importer.importer.name c.in_ok-links.links
    c.as_slice-links.result.now c.args.loaded.now c.add_module.new.loaded (g.F.Files.state c.args.files.now)
    (g.F.Files.state c.add_module.new.files) (g.F.Files.state c.load_links.new.files) c.in_err-load_links.field-0.0
    c.in_ok-importer.ensures.1 c.in_ok-importer.ensures.0 (c.as_slice-links.ensures ∙ c.get.ensures)
    c.in_ok-links.ensures.keeps c.in_ok-links.ensures.added c.in_err-load_links.ensures.refused)

pub load_module-returns-clause-loaded : goal.load_module-returns-clause-loaded
load_module-returns-clause-loaded g t c =
    one_module_at (g.F.Files.state c.args.files.now).held (g.L.LinkReader.links c.args.reader.now) c.args.loading.now
    c.in_ok-importer.importer.loading c.args.name.now c.in_ok-importer.importer.name c.in_ok-links.links
    c.as_slice-links.result.now (g.F.Files.state c.add_module.new.files).held c.args.loaded.now
    c.add_module.new.loaded c.load_links.new.loaded
    (record { place = c.len.result; from = 0; spans = c.new.result }) c.load_links.new.pieces.spans
    c.in_ok-importer.ensures.1 c.in_ok-importer.ensures.0 (c.as_slice-links.ensures ∙ c.get.ensures)
    c.in_ok-links.ensures.keeps.held c.in_ok-links.ensures.added c.in_ok-load_links.ensures.loaded
    c.len.ensures refl c.new.ensures
