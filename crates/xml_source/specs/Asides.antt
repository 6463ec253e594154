-- A reading of a comment, an instruction after its target, or a section alone.
use Rattle.std.specs.Prelude.{ℕ, List, [], ◌∷◌, ◌==◌, if◌then◌else◌}
use Rattle.xt_tree.specs.declared.trees.Tree.{Tree}
use Rattle.doc_grammar.specs.Lexing.{Lex, LexStep, on, makes, says, fails, target_mark, target_space, lex_step}
use Rattle.xt_names.specs.Characters.{is_space}

-- it makes a node, or says a text, and this is after it; or it stops before the rest
pub data LexEnd : Type 0 where
  made : Tree → List ℕ → LexEnd
  said : List ℕ → List ℕ → LexEnd
  stopped : List ℕ → LexEnd

abbrev pub lex_goes : (Lex → LexEnd) → List ℕ → LexEnd → LexStep → LexEnd
lex_goes go rest stop (on l) = go l
lex_goes go rest stop (makes n) = made n rest
lex_goes go rest stop (says text) = said text rest
lex_goes go rest stop fails = stop

abbrev pub lex_reads : List ℕ → Lex → LexEnd
lex_reads [] l = stopped []
lex_reads (c ∷ cs) l = lex_goes (lex_reads cs) cs (stopped (c ∷ cs)) (lex_step l c)

-- after the target of an instruction
abbrev pub target_reads : List ℕ → List ℕ → LexEnd
target_reads [] target = stopped []
target_reads (c ∷ cs) target =
    if is_space c then lex_reads cs (target_space target) else if c == 63 then lex_reads cs (target_mark target) else stopped (c ∷ cs)
