use Rattle.std.proofs.Common.{◌≡◌, ◌≤◌, ◌-◌, ℕ, List, ◌++◌, drop}
use denote.Text.{Utf8}
use denote.Shadow.{shadow}
use Rattle.std.specs.Str.{chars, IsUtf8}
use Rattle.std.specs.Str.Iter.{chars_rest}
use Rattle.text_operations.proofs.positions.skip_chars.Given as goal

abbrev pub invariant-loop-skipped : goal.invariant-loop-skipped
invariant-loop-skipped l = record {
  text : shadow (Utf8 l.rest);
  utf8 : IsUtf8 l.rest;
  same : l.rest ≡ chars_rest l.left;
  few : l.skipped ≤ l.count;
  kept : chars l.rest ≡ drop l.skipped (chars l.fn.text);
  part : (front : List ℕ) × (l.fn.text ≡ front ++ l.rest);
}

abbrev pub decreases-loop-skipped : goal.decreases-loop-skipped
decreases-loop-skipped l = l.count - l.skipped
