use Rattle.xquery_syntax.proofs.PrologLaws.PrologLemmas.{different_names, names_kept}
use Rattle.xquery_syntax.proofs.prolog_laws.unbroken_prologs_keep_names.Goals as goal

pub returns-clause-different : goal.returns-clause-different
returns-clause-different c = different_names

pub returns-clause-kept : goal.returns-clause-kept
returns-clause-kept c = names_kept
