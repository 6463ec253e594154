use Rattle.std.proofs.Common.{map, option_map, string_bytes, sym, ap, ◌∙◌}
use Rattle.command_words.specs.Requests.{asked}
use Rattle.command_words.proofs.OnceLemmas.{request_once}
use Rattle.driver.proofs.Runs.{answers_refused}
use Rattle.driver.proofs.program.perform.Goals as goal

pub text_of-requires : goal.text_of-requires
text_of-requires g c =
    (request_once (map string_bytes c.args.words.now) (asked c.in-Some.request) (sym c.in-Ok.ensures ∙ ap (option_map asked) c.in-Some.is)).documents

pub returns-clause-answers : goal.returns-clause-answers
returns-clause-answers g c =
    answers_refused (map string_bytes c.args.words.now) (asked c.in-Some.request)
    (g.F.Files.state c.args.files.now) (g.F.Files.state c.text_of.new.files) (g.S.Sink.state c.args.out.now) c.in-Err-text_of.status
    (sym c.in-Ok.ensures ∙ ap (option_map asked) c.in-Some.is) c.in-Err-text_of.ensures.refused
