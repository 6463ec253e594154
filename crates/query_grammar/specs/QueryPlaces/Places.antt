-- Where an operand may come next: there `<` directly before a name begins a direct element
-- (XQuery 1.0, 3.7.1), and elsewhere it compares.
use Rattle.std.specs.Prelude.{◌≡◌, ◌||◌, Bool, true, false, if◌then◌else◌}
use Rattle.std.specs.Prelude.{List, [], ◌∷◌, Some}
use Rattle.query_grammar.specs.QueryPlaces.TokenNames.{Token}
use Rattle.query_grammar.specs.QueryPlaces.Terms.{Language, Nonterminal, whole, expr, arguments, expr_single, order_spec}
use Rattle.query_grammar.specs.QueryPlaces.Terms.{level, unary_expr, path_expr, after_root, relative_path_expr, step_expr, primary_expr}
use Rattle.query_grammar.specs.QueryPlaces.Terms.{dir_elem_constructor}
use Rattle.query_grammar.specs.QueryPlaces.Terms.{Class, start_tag_open, Symbol, tok, one, maybe, many, longest}
use Rattle.query_grammar.specs.QueryPlaces.Terms.{Production}
use Rattle.query_grammar.specs.QueryPlaces.Terms.{next_expr_single}
use Rattle.expr_keys.specs.Classes.{is_after_root}
use Rattle.expr_terms.specs.Choices.{second_of}
use Rattle.expr_grammar.specs.Machine.{Frame, doing, advance, start}

-- whether an operand may be at the front of the nonterminal
abbrev pub begins_operand : Nonterminal → Bool
begins_operand whole = true
begins_operand expr = true
begins_operand arguments = true
begins_operand expr_single = true
begins_operand order_spec = true
begins_operand (level l) = true
begins_operand unary_expr = true
begins_operand path_expr = true
begins_operand after_root = true
begins_operand relative_path_expr = true
begins_operand step_expr = true
begins_operand primary_expr = true
begins_operand dir_elem_constructor = true
begins_operand _ = false

abbrev pub is_outer : Class → Bool
is_outer start_tag_open = true
is_outer _ = false

-- whether an operand may come next where this is wanted, and after it what `below` tells
abbrev pub wanted : List Symbol → Bool → Bool
wanted [] below = below
wanted (tok c ∷ ss) below = is_outer c
wanted (one n ∷ ss) below = begins_operand n
wanted (maybe n ∷ ss) below = begins_operand n || wanted ss below
wanted (many n ∷ ss) below = begins_operand n || wanted ss below
wanted (longest n ∷ ss) below = if is_after_root n then true else wanted ss below

-- whether an operand may come next
abbrev pub wants_operand : List Frame → Bool
wants_operand [] = false
wants_operand (doing p vs ss ∷ fs) = wanted ss (wants_operand fs)

abbrev pub awaits_step : List Symbol → Bool
awaits_step (longest n ∷ ss) = is_after_root n
awaits_step _ = false

-- whether the last token was a `/` that stands alone unless a step follows
abbrev pub is_lone_slash : List Frame → Bool
is_lone_slash [] = false
is_lone_slash (doing p vs ss ∷ fs) = awaits_step ss

-- a single expression is wanted, and nothing more
abbrev pub start_single : List Frame
start_single = doing next_expr_single [] (one expr_single ∷ []) ∷ []

-- where reading begins
pub data IsStart : List Frame → Type 0 where
  production : (p : Production) → IsStart (start p)
  single_alone : IsStart start_single

-- the open productions that tokens lead to from these
pub data Reached (l : Language) (from : List Frame) : List Frame → Type 0 where
  began : Reached l from from
  onward : {fs gs : List Frame} (t : Token) (ts : List Token) → Reached l from fs
      → advance l t (second_of ts) fs ≡ Some gs → Reached l from gs
