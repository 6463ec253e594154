use Rattle.std.proofs.Common.{◌≡◌, ◌≤◌, ◌++◌, length, List, ℕ, codes}
use Rattle.doc_grammar.specs.Lexing.{section, section_open}
use Rattle.xml_source.specs.Asides.{lex_reads}
use Rattle.xml_source.proofs.sources.Source.section.Given as goal

abbrev pub invariant-brackets : goal.invariant-brackets
invariant-brackets l = record {
  more : List ℕ;
  text : l.text ≡ l.fn.text ++ more;
  same : lex_reads l.fn.self (section_open (codes "CDATA[")) ≡ lex_reads l.self (section more);
  shorter : length l.self ≤ length l.fn.self;
}

abbrev pub decreases-brackets : goal.decreases-brackets
decreases-brackets l = length l.self
