use Rattle.std.proofs.Common.{ap₂, ◌++◌}
use Rattle.raw_laws.proofs.CleanRaws.Forms.{printable_clean}
use Rattle.raw_laws.proofs.CleanRaws.Types.{sequence_typed}
use Rattle.raw_laws.proofs.clean_raws.raw_values_break_nothing.Goals as goal

pub returns-clause-whole : goal.returns-clause-whole
returns-clause-whole c = λ s e strip h k. printable_clean s strip e k h

pub returns-clause-kind : goal.returns-clause-kind
returns-clause-kind c = λ s t h.
    let g = sequence_typed s t h in
    ap₂ (λ xs ys. xs ++ ys) g.0 g.1
