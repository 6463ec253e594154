use Rattle.std.proofs.Common.{◌≡◌, ◌≤◌, ◌++◌, length, List, ℕ}
use Rattle.doc_grammar.specs.Lexing.{section_bracket, section_brackets}
use Rattle.xml_source.specs.Asides.{lex_reads}
use Rattle.xml_source.proofs.sources.Source.brackets.Given as goal

abbrev pub invariant-brackets : goal.invariant-brackets
invariant-brackets l = record {
  more : List ℕ;
  text : l.text ≡ l.fn.text ++ more;
  same : (read : List ℕ) → lex_reads l.fn.self (section_bracket read) ≡ lex_reads l.self (section_brackets (read ++ more));
  shorter : length l.self ≤ length l.fn.self;
}

abbrev pub decreases-brackets : goal.decreases-brackets
decreases-brackets l = length l.self
