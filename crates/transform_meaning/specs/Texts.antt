-- Texts of instructions: simple content and attribute value templates (XSLT 2.0, 5.6 and 5.7.2).
use Rattle.std.specs.Prelude.{ℕ, List, [], ◌∷◌, map, Bool, true, false, if◌then◌else◌}
use Rattle.std.specs.Prelude.{Option, Some, None, Result, Ok}
use Rattle.std.specs.List.{list_any}
use Rattle.xt_names.specs.declared.codes.Code.{Code}
use Rattle.xdm_items.specs.declared.items.Item.{Item}
use Rattle.xt_syntax.specs.declared.exprs.Expr.{Expr}
use Rattle.xt_sheets.specs.declared.values.AvtPart.{AvtPart}
use Rattle.xt_sheets.specs.declared.values.AvtPart.TheVariants.{Chars, Code as Enclosed}
use Rattle.node_builder.specs.Simple.{Part, run, value, part_of, simple_content}
use Rattle.expr_meaning.specs.Outcomes.Outcome.{Outcome, Ends, and_then, step_outcome, for_each}
use Rattle.expr_meaning.specs.SortMeaning.Sorted.{counted}
use Rattle.expr_meaning.specs.Env.{Env, Meaning, Program}
use Rattle.expr_meaning.specs.Meaning.{outcome}

-- what gives a text
abbrev pub TextMeaning : Type 0
TextMeaning = Env → ℕ → Outcome (List ℕ)

abbrev pub is_run : Part → Bool
is_run (run t) = true
is_run (value t) = false

abbrev pub has_text_node : List Item → Bool
has_text_node xs = list_any (λ x. is_run (part_of x)) xs

-- items among which a text node stands are counted
unfoldable pub simple_text : List ℕ → List Item → Result (List ℕ) Code
simple_text separator xs =
    if has_text_node xs then counted xs (simple_content separator xs)
    else Ok (simple_content separator xs)

-- `select`, or else the content
abbrev pub source_of : Option Meaning → Meaning → Meaning
source_of None content = content
source_of (Some select) content = select

abbrev pub space : List ℕ
space = 32 ∷ []

-- a space is between the items of `select`, and nothing between those of the content, unless
-- there is a separator
abbrev pub separator_of : Option Meaning → Option TextMeaning → TextMeaning
separator_of None None env k = Ends [] k
separator_of (Some select) None env k = Ends space k
separator_of select (Some separator) env k = separator env k

-- `select` or the content, then the separator, as one text
abbrev pub text_of_source : Option Meaning → Meaning → Option TextMeaning → TextMeaning
text_of_source select content separator env k =
    and_then (source_of select content env k) (λ xs j.
    and_then (separator_of select separator env j) (λ t i.
    step_outcome (simple_text t xs) i))

-- a part of an attribute value template: characters, or `{ a }` as simple content
pub data PartMeaning : Type 0 where
  chars : List ℕ → PartMeaning
  enclosed : Meaning → PartMeaning

abbrev pub part_text : Env → PartMeaning → ℕ → Outcome (List ℕ)
part_text env (chars text) k = Ends text k
part_text env (enclosed m) k = and_then (m env k) (λ xs j. step_outcome (simple_text space xs) j)

-- the texts of its parts, one after another
abbrev pub template_text : List PartMeaning → TextMeaning
template_text parts env k = for_each (part_text env) parts k

abbrev pub part_means : Program → AvtPart Expr → PartMeaning
part_means program (Chars text) = chars text
part_means program (Enclosed e) = enclosed (outcome program e)

abbrev pub template_means : Program → List (AvtPart Expr) → TextMeaning
template_means program parts = template_text (map (part_means program) parts)
