use Rattle.std.proofs.Common.{◌≡◌, ◌≤◌, length}
use Rattle.doc_grammar.specs.Lexing.{number}
use Rattle.xml_source.specs.References.{ref_reads, base_view}
use Rattle.xml_source.proofs.sources.Source.more_digits.Given as goal

abbrev pub invariant-digits : goal.invariant-digits
invariant-digits l = record {
  same : ref_reads l.initial.self (number (base_view l.base) l.initial.n) ≡ ref_reads l.self (number (base_view l.base) l.n);
  small : l.n ≤ 0x10_FFFF;
  shorter : length l.self ≤ length l.initial.self;
}

abbrev pub decreases-digits : goal.decreases-digits
decreases-digits l = length l.self
