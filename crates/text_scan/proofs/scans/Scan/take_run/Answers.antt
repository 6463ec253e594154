use Rattle.std.proofs.Common.{◌++◌, sym, ◌∙◌, ap, arith, refl}
use Rattle.std.specs.Char.{encode_utf8}
use Rattle.std.specs.Str.{chars}
use Rattle.text_scan.proofs.ScanLemmas.{Taken-none, Taken-more, taken_run, taken_seam, taken_short, run_ends, run_ends_all, shorter_run}
use Rattle.xt_names.proofs.ListLemmas.{front_of_range}
use Rattle.text_scan.proofs.scans.Scan.take_run.Goals.{in-Some+then-not-has, in_default}
use Rattle.text_scan.proofs.scans.Scan.take_run.Goals as goal

pub loop-c-init : goal.loop-c-init
loop-c-init g c = record {
  text = c.as_str-whole.utf8;
  utf8 = c.as_str-whole.utf8;
  same = c.as_str-whole.ensures;
  taken = Taken-none _ _ _ refl;
}

pub loop-c-preserved : goal.loop-c-preserved
loop-c-preserved g c = record {
  text = c.as_str-rest.utf8;
  utf8 = c.as_str-rest.utf8;
  same = c.as_str-rest.ensures;
  taken = Taken-more g.C.Class.class _ _ _ c.in-Some.c c.loop-c.invariant.taken c.loop-c.invariant.utf8
      (c.loop-c.invariant.same ∙ c.in-Some.ensures.steps.0 ∙ ap (λ b. encode_utf8 c.in-Some.c ++ b) (sym c.as_str-rest.ensures)) (sym c.has.ensures ∙ c.if-not-has.false);
}

pub range-requires-clause-end_boundary : goal.range-requires-clause-end_boundary
range-requires-clause-end_boundary g c =
    let short = taken_short g.C.Class.class _ _ c.loop-c.invariant.taken in
    taken_seam g.C.Class.class _ _ _ c.loop-c.invariant.taken (omega (arith, short)) c.loop-c.invariant.utf8

pub returns-clause-run : goal.returns-clause-run
returns-clause-run g c =
    let short = taken_short g.C.Class.class _ _ c.loop-c.invariant.taken in
    let t = taken_run g.C.Class.class _ _ _ _ c.loop-c.invariant.taken (omega (arith, short)) (front_of_range _ _ _ c.range.ensures.value) c.range.utf8 in
    sym c.self.view_is ∙ ap chars (sym (c.as_str-whole.ensures ∙ c.chars-chars.ensures.rest)) ∙ t.0

pub returns-clause-passes : goal.returns-clause-passes
returns-clause-passes g c =
    let short = taken_short g.C.Class.class _ _ c.loop-c.invariant.taken in
    let t = taken_run g.C.Class.class _ _ _ _ c.loop-c.invariant.taken (omega (arith, short)) (front_of_range _ _ _ c.range.ensures.value) c.range.utf8 in t.1

pub returns-clause-ends : goal.returns-clause-ends
returns-clause-ends g c =
    elim c.match-next.branch [
      | in-Some+then-not-has w ↦ run_ends g.C.Class.class _ _ _ w.in-Some.c c.loop-c.invariant.same c.next.ensures.steps.2 w.in-Some.is (sym w.has.ensures ∙ w.if-not-has.true)
      | in_default w ↦ run_ends_all g.C.Class.class _ _ _ c.loop-c.invariant.same c.next.ensures.steps.2 w.in_default.not-Some
    ]

pub returns-clause-shorter : goal.returns-clause-shorter
returns-clause-shorter g c =
    let short = taken_short g.C.Class.class _ _ c.loop-c.invariant.taken in
    let t = taken_run g.C.Class.class _ _ _ _ c.loop-c.invariant.taken (omega (arith, short)) (front_of_range _ _ _ c.range.ensures.value) c.range.utf8 in
    shorter_run _ _ _ (sym c.self.view_is ∙ ap chars (sym (c.as_str-whole.ensures ∙ c.chars-chars.ensures.rest)) ∙ t.0)
