use Rattle.std.proofs.Common.{◌≡◌, true, sym, ◌∙◌, ap}
use Rattle.std.specs.List.{list_all}
use Rattle.quiet_eval.specs.QuietPlaces.Free.{is_place_free_expr}
use Rattle.match_patterns.proofs.FreeLemmas.{free_member}
use Rattle.match_patterns.proofs.steps.is_kept.Goals as goal

pub returns-then-are_place_free : goal.returns-then-are_place_free
returns-then-are_place_free c =
    let f : list_all is_place_free_expr c.args.step.now.quiet ≡ true =
    ap (list_all is_place_free_expr) (sym c.as_slice.ensures) ∙ sym c.are_place_free.ensures ∙ c.if-are_place_free.true
    in
    rw (← free_member c.args.step.now c.args.node.now f c.requires.stands c.requires.passes, ← c.as_slice-then-are_place_free.ensures) c.all_hold.ensures
