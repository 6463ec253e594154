use Rattle.std.proofs.Common.{◌≡◌, ◌≤◌, length}
use Rattle.doc_grammar.specs.Lexing.{dash, comment}
use Rattle.xml_source.specs.Asides.{lex_reads}
use Rattle.xml_source.proofs.sources.Source.comment.Given as goal

abbrev pub invariant-dashes : goal.invariant-dashes
invariant-dashes l = record {
  same : lex_reads l.fn.self dash ≡ lex_reads l.self (comment l.text);
  shorter : length l.self ≤ length l.fn.self;
}

abbrev pub decreases-dashes : goal.decreases-dashes
decreases-dashes l = length l.self
