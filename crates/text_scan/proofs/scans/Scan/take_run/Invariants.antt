use Rattle.std.proofs.Common.{◌≡◌}
use denote.Text.{Utf8}
use denote.Shadow.{shadow}
use Rattle.std.specs.Str.{IsUtf8}
use Rattle.std.specs.Str.Iter.{chars_rest}
use Rattle.text_scan.proofs.ScanLemmas.{Taken}
use Rattle.text_scan.proofs.scans.Scan.take_run.Given as goal

abbrev pub invariant-loop-c : goal.invariant-loop-c
invariant-loop-c g l = record {
  text : shadow (Utf8 l.rest);
  utf8 : IsUtf8 l.rest;
  same : l.rest ≡ chars_rest l.chars;
  taken : Taken g.C.Class.class l.whole l.rest;
}
