-- Declarations of the output that contradict each other (XSLT 2.0, 20).
use Rattle.std.specs.Prelude.{ℕ, List, [], ◌∷◌, Bool, true, false, ◌&&◌, ◌==◌, nat_lt, not, Some, None, if◌then◌else◌}
use Rattle.std.specs.List.{list_any}
use Rattle.sheet_modules.specs.declared.modules.Part.{Part}
use Rattle.sheet_modules.specs.declared.modules.Part.TheVariants as part
use Rattle.sheet_rules.specs.declared.sheet_declarations.lists.Declaration.{Declaration}

module _ {E P : Type 0} where
  -- it says whether the XML declaration is left out
  abbrev pub speaks : Part E P → Bool
  speaks (part.Output (Some omit)) = true
  speaks (part.Output None) = false
  speaks (part.Global g) = false
  speaks (part.Template t rules) = false
  speaks (part.Function f) = false
  speaks (part.Key keys) = false
  speaks (part.Space rules) = false
  speaks part.Ignored = false
  speaks part.Linked = false

  abbrev pub says : Part E P → Bool → Bool
  says (part.Output (Some said)) omit = if omit then said else not said
  says (part.Output None) omit = false
  says (part.Global g) omit = false
  says (part.Template t rules) omit = false
  says (part.Function f) omit = false
  says (part.Key keys) omit = false
  says (part.Space rules) omit = false
  says part.Ignored omit = false
  says part.Linked omit = false

  abbrev pub above : Declaration E P → ℕ → ℕ
  above d level = if speaks d.part && nat_lt level d.level then d.level else level

  -- the highest precedence at which one says so, or 0
  abbrev pub highest : List (Declaration E P) → ℕ
  highest [] = 0
  highest (d ∷ ds) = above d (highest ds)

  abbrev pub says_at : List (Declaration E P) → ℕ → Bool → Bool
  says_at ds level omit = list_any (λ d. (d.level == level) && says d.part omit) ds

  abbrev pub outputs_differ : List (Declaration E P) → Bool
  outputs_differ ds = says_at ds (highest ds) true && says_at ds (highest ds) false
