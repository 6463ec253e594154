use Rattle.std.proofs.Common.{◌≡◌, length}
use denote.Text.{Utf8}
use denote.Shadow.{shadow}
use Rattle.std.specs.Str.{chars, IsUtf8}
use Rattle.std.specs.Str.Iter.{chars_rest}
use Rattle.xt_atoms.specs.Lexical.{without_trailing_white}
use Rattle.xt_atoms.proofs.trims.without_trailing_white.Given as goal

abbrev pub invariant-loop-c : goal.invariant-loop-c
invariant-loop-c l = record {
  text : shadow (Utf8 l.rest);
  utf8 : IsUtf8 l.rest;
  same : l.rest ≡ chars_rest l.left;
  kept : without_trailing_white (chars l.rest) ≡ without_trailing_white (chars l.fn.text);
}

abbrev pub decreases-loop-c : goal.decreases-loop-c
decreases-loop-c l = length (chars_rest l.left)
