use Rattle.std.proofs.Common.{map}
use Rattle.std.specs.String.{string_bytes}
use Rattle.driver.proofs.Runs.{answers_memory, answers_complete, notes_told}
use Rattle.driver.proofs.program.run.Goals as goal

pub returns-in-Ok-clause-notes : goal.returns-in-Ok-clause-notes
returns-in-Ok-clause-notes g c = notes_told _ _ c.perform-status.result c.in-Ok.ensures.told

pub returns-in-Err-clause-answers : goal.returns-in-Err-clause-answers
returns-in-Err-clause-answers g c =
    answers_memory (map string_bytes c.args.words.now)
    (g.F.Files.state c.args.files.now) (g.F.Files.state c.perform-status.new.files)
    (g.S.Sink.state c.args.out.now) (g.S.Sink.state c.perform-status.new.out)
    c.perform-status.result c.perform-status.ensures.answers

pub returns-in-Ok-clause-complete : goal.returns-in-Ok-clause-complete
returns-in-Ok-clause-complete g c =
    answers_complete (map string_bytes c.args.words.now)
    (g.F.Files.state c.args.files.now) (g.F.Files.state c.perform-status.new.files)
    (g.S.Sink.state c.args.out.now) (g.S.Sink.state c.perform-status.new.out)
    c.perform-status.result c.perform-status.ensures.answers
