use Rattle.std.proofs.Common.{◌≡◌, drop}
use Rattle.loaded_sheets.specs.LoadedParts.Names.{with_spans_of}
use Rattle.loaded_sheets.proofs.loaded_parts.names.add_spans.Given as goal

abbrev pub invariant-loop-span : goal.invariant-loop-span
invariant-loop-span l =
    with_spans_of l.modules (drop l.span-index l.spans) l.names
    ≡ with_spans_of l.modules l.spans l.initial.names
