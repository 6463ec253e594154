use Rattle.std.proofs.Common.{◌≡◌, ◌++◌, length}
use denote.Text.{Utf8}
use denote.Shadow.{shadow}
use Rattle.std.specs.List.{flat_map}
use Rattle.std.specs.Str.{chars}
use Rattle.doc_writer.proofs.escapes.push_escaped.Given as goal

abbrev pub invariant-loop-left : goal.invariant-loop-left
invariant-loop-left g l = record {
  text : shadow (Utf8 l.left);
  same : l.out ++ flat_map g.E.Escape.written (chars l.left) ≡ l.initial.out ++ flat_map g.E.Escape.written (chars l.initial.left);
}

abbrev pub decreases-loop-left : goal.decreases-loop-left
decreases-loop-left g l = length l.left
