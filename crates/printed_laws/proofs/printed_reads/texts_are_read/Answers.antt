use Rattle.std.proofs.Common.{Ok}
use Rattle.query_pages.specs.TokenTexts.Texts.{text_of}
use Rattle.printed_laws.specs.QueryRaws.Queries.{query_tokens}
use Rattle.xquery_syntax.proofs.ParsedLemmas.{answered_once}
use Rattle.printed_laws.proofs.PrintedReads.Nested.{query_within}
use Rattle.printed_laws.proofs.PrintedReads.TextsWithin.{text_within}
use Rattle.printed_laws.proofs.printed_reads.texts_are_read.Goals as goal

pub returns-clause-nests : goal.returns-clause-nests
returns-clause-nests c = query_within

pub returns-clause-within : goal.returns-clause-within
returns-clause-within c = text_within

pub returns-clause-parsed : goal.returns-clause-parsed
returns-clause-parsed c = λ k g q r l i d f n p s. answered_once k (text_of g (query_tokens q))
    r (Ok q) p (text_within k g q l i d f n) s tt
