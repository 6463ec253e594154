use Rattle.sheet_assembly.proofs.Whole.{whole}
use Rattle.sheet_assembly.specs.Sheets.{Parts}
use Rattle.sheet_assembly.proofs.sheets.assemble.Goals as goal

pub returns : goal.returns
returns c =
    let p : Parts = record {
      declarations = c.args.declarations.now;
      modes = c.args.modes.now;
      called = c.args.called.now;
      levels = c.args.levels.now;
      order = c.args.order.now;
    } in
    whole p c.in_ok-marks.marks.items c.deref.result.now c.deref-2.result.now c.deref-3.result.now
    c.as_slice-count.result.now c.as_slice-mode_count.result.now c.as_slice-3.result.now
    c.in_ok-standing.standing c.as_slice.result.now c.as_slice-2.result.now
    c.in_ok-sheet_levels.field-0 c.in_ok-in_order.field-0 c.in_ok-templates.field-0
    c.in_ok-rules.field-0 c.in_ok-functions.field-0 c.in_ok-keys.field-0 c.in_ok-names.field-0
    c.in_ok-spaces.field-0 c.omit.result
    c.in_ok-marks.ensures c.deref.ensures.value c.deref-2.ensures.value c.deref-3.ensures.value
    c.as_slice-count.ensures c.as_slice-mode_count.ensures c.as_slice-3.ensures
    c.in_ok-standing.ensures c.as_slice.ensures c.as_slice-2.ensures
    c.in_ok-sheet_levels.ensures c.in_ok-in_order.ensures c.in_ok-templates.ensures
    c.in_ok-rules.ensures c.in_ok-functions.ensures c.in_ok-keys.ensures c.in_ok-names.ensures
    c.in_ok-spaces.ensures c.omit.ensures
