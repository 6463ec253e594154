-- What the answers of the reader say of the tokens.
use Rattle.std.specs.Prelude.{◌≡◌, ◌≤◌, ◌<◌, ℕ, nat_le, Bool, true, false, List, Option, Some, None, is_some, if◌then◌else◌}
use Rattle.expr_keys.specs.declared.tokens.Token.{Token}
use Rattle.expr_terms.specs.declared.raws.Raw.{Raw}
use Rattle.expr_terms.specs.declared.choices.Second.{Second}
use Rattle.expr_keys.specs.declared.productions.Language.{Language}
use Rattle.expr_terms.specs.Nest.{raw_nest_of}
use Rattle.expr_grammar.specs.declared.expr_nest.measures.Measure.{Measure}
use Rattle.expr_grammar.specs.ExprNest.Measures.{nest_by, predicate_nest_of}
use Rattle.expr_grammar.specs.Grammar.{Spells, SpellsType}
use Rattle.expr_grammar.specs.Machine.{Frame, advance, finish}
use Rattle.expr_reader.specs.declared.readings.Reading.{Reading}
use Rattle.expr_reader.specs.declared.readings.Reading.TheVariants.{Value, Nothing, TooDeep}
use Rattle.expr_reader.specs.Outline.{outline, outlines, Sinks}

-- what is read, where it nests no deeper than the limit
abbrev pub within : ℕ → Option Raw → Reading
within k None = Nothing
within k (Some v) = if nat_le (raw_nest_of v) k then Value v else TooDeep

-- .. by what counts
abbrev pub within_by : Measure → ℕ → Option Raw → Reading
within_by m k None = Nothing
within_by m k (Some v) = if nat_le (nest_by m v) k then Value v else TooDeep

-- the value is spelled within the limit, nothing is spelled, or something past the limit is
abbrev pub Parsed : Language → List Token → ℕ → Reading → Type 0
Parsed l ts k Nothing = (v : Raw) → Spells l ts v → ⊥
Parsed l ts k (Value v) = Spells l ts v × (raw_nest_of v ≤ k)
Parsed l ts k TooDeep = (v : Raw) × (Spells l ts v × (k < raw_nest_of v))

-- .. where levels outside of predicates do not count
abbrev pub ParsedAsPattern : Language → List Token → ℕ → Reading → Type 0
ParsedAsPattern l ts k Nothing = (v : Raw) → Spells l ts v → ⊥
ParsedAsPattern l ts k (Value v) = Spells l ts v × (predicate_nest_of v ≤ k)
ParsedAsPattern l ts k TooDeep = (v : Raw) × (Spells l ts v × (k < predicate_nest_of v))

abbrev pub ParsedType : Language → List Token → ℕ → Reading → Type 0
ParsedType l ts k Nothing = (v : Raw) → SpellsType l ts v → ⊥
ParsedType l ts k (Value v) = SpellsType l ts v × (raw_nest_of v ≤ k)
ParsedType l ts k TooDeep = (v : Raw) × (SpellsType l ts v × (k < raw_nest_of v))

-- where a token leads to, but for what the open productions have
abbrev pub Outlined : Bool → Option (List Frame) → List Frame → Type 0
Outlined true o new = outlines o ≡ Some (outline new)
Outlined false o new = o ≡ None

abbrev pub Stepped : Bool → Option (List Frame) → List Frame → Type 0
Stepped true o new = o ≡ Some new
Stepped false o new = o ≡ None

-- A token has been led into the productions that are open. As long as no part was too deep, they are as the machine has them; from then
-- on only where they stand is, and what is read will nest deeper than the limit.
pub record Advanced (went : Bool) (m : Measure) (k : ℕ) (was deep : Bool) (l : Language) (t : Token) (s : Second) (old new : List Frame) : Type 0 where
  pub outlined : Outlined went (advance l t s old) new
  pub exact : deep ≡ false → Stepped went (advance l t s old) new
  pub sinks : was ≡ false → deep ≡ true → Sinks m k l t s old
  pub stays : was ≡ true → deep ≡ true

abbrev pub Judged : Reading → Raw → Measure → ℕ → Bool → Type 0
Judged Nothing v m k deep = ⊥
Judged (Value w) v m k deep = (deep ≡ false) × (w ≡ v) × (nest_by m v ≤ k)
Judged TooDeep v m k deep = deep ≡ false → k < nest_by m v

-- the tokens have come to their end
abbrev pub Finished : Reading → Measure → ℕ → Bool → List Frame → Type 0
Finished Nothing m k deep fs = finish fs ≡ None
Finished (Value v) m k deep fs = (deep ≡ false) × (finish fs ≡ Some v) × (nest_by m v ≤ k)
Finished TooDeep m k deep fs = (is_some (finish fs) ≡ true) × (deep ≡ false → (w : Raw) → finish fs ≡ Some w → k < nest_by m w)
