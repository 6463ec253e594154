use Rattle.doc_grammar.specs.Lexing.{dash}
use Rattle.doc_reader.proofs.AsideReads.{stopped_in}
use Rattle.doc_reader.proofs.MarkupReads.{comment_made}
use Rattle.doc_reader.proofs.readers.Reader.comment.Goals as goal

pub returns-then-not-branch-clause-ran : goal.returns-then-not-branch-clause-ran
returns-then-not-branch-clause-ran c = stopped_in _ _ dash _ _ (rw c.if-not-branch.true at c.in_ok-comment.ensures.reads)

pub returns-clause-ran : goal.returns-clause-ran
returns-clause-ran c =
    comment_made _ _ _ _ _ _ _ _ (rw c.if-not-branch.false at c.in_ok-comment.ensures.reads) c.in_ok-to_text.ensures c.in_ok-aside.ensures.here c.in_ok-aside.ensures.source
