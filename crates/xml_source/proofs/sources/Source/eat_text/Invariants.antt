use Rattle.std.proofs.Common.{◌≡◌, ◌++◌, ◌≤◌, length}
use Rattle.std.specs.Str.{chars, IsUtf8}
use Rattle.std.specs.Str.Iter.{chars_rest}
use Rattle.xml_source.proofs.sources.Source.eat_text.Given as goal

abbrev pub invariant-loop-c : goal.invariant-loop-c
invariant-loop-c l = record {
  split : chars l.text ≡ l.yielded ++ chars (chars_rest l.c-iterator);
  utf8 : IsUtf8 (chars_rest l.c-iterator);
  same : l.initial.self ≡ l.yielded ++ l.self;
  shorter : length l.self ≤ length l.initial.self;
}
