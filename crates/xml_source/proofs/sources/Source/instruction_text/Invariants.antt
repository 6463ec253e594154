use Rattle.std.proofs.Common.{◌≡◌, ◌≤◌, length, List, ℕ}
use Rattle.doc_grammar.specs.Lexing.{instruction}
use Rattle.xml_source.specs.Asides.{lex_reads}
use Rattle.xml_source.proofs.sources.Source.instruction_text.Given as goal

abbrev pub invariant-marks : goal.invariant-marks
invariant-marks l = record {
  same : (target : List ℕ) → lex_reads l.fn.self (instruction target l.fn.text) ≡ lex_reads l.self (instruction target l.text);
  shorter : length l.self ≤ length l.fn.self;
}

abbrev pub decreases-marks : goal.decreases-marks
decreases-marks l = length l.self
