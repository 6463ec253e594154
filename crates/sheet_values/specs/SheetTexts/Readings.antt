-- What texts mean where they stand, and which rules they break there. E is the type of what
-- expressions are read as, P that of the alternatives of patterns.
use Rattle.std.specs.Prelude.{ℕ, ℤ, List, Bool}
use Rattle.xt_names.specs.declared.codes.Code.{Code}
use Rattle.xt_types.specs.declared.types.SeqType.{SeqType}
use Rattle.sheet_values.specs.declared.sheet_texts.places.StaticContext.{StaticContext}

-- of each kind of text all rules that are broken, in reading order, and the value, which says
-- something where none is
pub record Reading (E P : Type 0) : Type 0 where
  pub expr_faults : StaticContext → List ℕ → List Code
  pub expr_value : StaticContext → List ℕ → E
  pub patterns_faults : StaticContext → List ℕ → List Code
  pub patterns_value : StaticContext → List ℕ → List P
  pub type_faults : StaticContext → List ℕ → List Code
  pub type_value : StaticContext → List ℕ → SeqType
  -- an expression that may be the `use` of a key (16.3.1)
  pub is_key_use : E → Bool
  -- of one alternative of a pattern, in thousandths (6.4)
  pub default_priority : P → ℤ
