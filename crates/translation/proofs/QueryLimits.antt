-- The query of a stylesheet keeps the limits.
use Rattle.std.proofs.Common.{refl}
use Rattle.std.specs.Prelude.{Bool}
use Rattle.xt_syntax.specs.declared.patterns.Pattern.{Pattern}
use Rattle.translated_forms.proofs.BoundsLemmas.{bounded_fine}
use Rattle.translation.specs.Laws.{TestsKeepLimits, QueriesKeepLimits}
use Rattle.translation.specs.PatternTests.{match_test}
use Rattle.translation.specs.Sheets.{query_of_sheet}
use Rattle.translation.specs.Tables.{table_of}
use Rattle.translation.proofs.FineQuery.{query_keeps}

pub queries_keep : (tested : Pattern → Bool) → TestsKeepLimits tested → QueriesKeepLimits tested
unfolding query_of_sheet
queries_keep tested tests s h l =
    query_keeps (table_of s) (λ name. refl) tested (λ p i. bounded_fine 60 (match_test p) (tests p i)) s h l
