use Rattle.text_scan.proofs.ScanLemmas.{eaten}
use Rattle.text_scan.proofs.scans.Scan.eat.Goals as goal

pub returns-in-Some : goal.returns-in-Some
returns-in-Some c =
    eaten _ _ _ _ _ _ c.args.c c.in-Some.next c.self.view_is c.chars-chars.ensures.rest c.as_str-text.ensures c.as_str-text.utf8 c.in-Some.ensures.steps.0 c.as_str-self-inside.ensures c.if-next-c.true
