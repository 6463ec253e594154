-- Sort columns whose keys are related.
use Rattle.std.specs.Prelude.{◌≡◌, ℕ, List, [], ◌∷◌}
use Rattle.expr_meaning.specs.Outcomes.Outcome.{Anything}
use Rattle.expr_meaning.specs.Outcomes.Follow.{Relation}
use Rattle.expr_meaning.specs.SortMeaning.Sorted.{Column}

-- column by column the keys of good values are related, and the directions are the same
abbrev pub ColumnsRelate : {A : Type 0} →
    Relation → (A → Type 0) → List (Column A) → List (Column A) → Type 0
ColumnsRelate rel P [] [] = Unit {0}
ColumnsRelate rel P [] (d ∷ ds) = ⊥
ColumnsRelate rel P (c ∷ cs) [] = ⊥
ColumnsRelate {A = A} rel P (c ∷ cs) (d ∷ ds) =
    ((x : A) (k : ℕ) → P x → rel _ Anything (c.key x k) (d.key x k))
    × (c.descending ≡ d.descending) × ColumnsRelate rel P cs ds
