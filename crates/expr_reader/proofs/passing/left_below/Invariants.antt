use Rattle.std.proofs.Common.{◌≡◌, ◌≤◌, length, take}
use Rattle.expr_terms.specs.declared.choices.Second.{Second}
use Rattle.expr_keys.specs.declared.productions.Language.{Language}
use Rattle.expr_terms.specs.declared.raws.Raw.{Raw}
use Rattle.expr_grammar.specs.Machine.{advance}
use Rattle.expr_reader.specs.View.{frames_of, with_value}
use Rattle.expr_reader.proofs.passing.left_below.Given as goal

abbrev pub invariant-loop-count : goal.invariant-loop-count
invariant-loop-count l = (l.count ≤ length l.frames) × ((k : Language) (s : Second) (v : Raw) → advance k l.token s (with_value v (frames_of l.frames)) ≡ advance k l.token s (with_value v (frames_of (take l.count l.frames))))

abbrev pub decreases-loop-count : goal.decreases-loop-count
decreases-loop-count l = l.count
