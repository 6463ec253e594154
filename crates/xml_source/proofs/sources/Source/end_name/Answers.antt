use Rattle.std.proofs.Common.{ap}
use Rattle.std.specs.Option.{option_map}
use Rattle.std.specs.Str.{chars}
use Rattle.xml_source.proofs.NameLemmas.{ended_name}
use Rattle.xml_source.proofs.sources.Source.end_name.Goals as goal

pub returns-clause-eaten : goal.returns-clause-eaten
returns-clause-eaten c =
    ended_name c.eat_text-3.result _ (chars c.in-Some.prefix.now) _ _ _ _ _ (ap (option_map (λ p. chars p.now)) c.in-Some.is) c.if-not-eat_text.ensures.eaten c.if-not-eat.ensures c.eat_text-3.ensures.eaten
