use Rattle.std.specs.Str.{chars}
use Rattle.doc_reader.proofs.MarkupReads.{instruction_stops, instruction_put}
use Rattle.doc_reader.proofs.readers.Reader.instruction.Goals as goal

pub returns-then-not-branch-clause-ran : goal.returns-then-not-branch-clause-ran
returns-then-not-branch-clause-ran c =
    instruction_stops _ _ (chars c.args.target.now) _ _ c.requires.ends c.requires.no_declaration c.requires.target (rw c.if-not-branch.true at (c.in_ok-instruction.ensures.reads (chars c.args.target.now)))

pub returns-clause-ran : goal.returns-clause-ran
returns-clause-ran c =
    instruction_put _ _ _ (chars c.args.target.now) _ _ _ _ _ _ c.requires.ends c.requires.no_declaration c.requires.target (rw c.if-not-branch.false at (c.in_ok-instruction.ensures.reads (chars c.args.target.now)))
    c.in_ok-target.ensures.ok c.in_ok-to_text.ensures c.in_ok-aside.ensures.here c.in_ok-aside.ensures.source
