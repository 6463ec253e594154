-- Whether a raw value is well formed at a nonterminal, before the tokens that follow: each part
-- stands where the body of its production wants it.
use Rattle.std.specs.Prelude.{ℕ, zero, suc, Bool, true, false, ◌&&◌, ◌||◌, not, if◌then◌else◌}
use Rattle.std.specs.Prelude.{List, [], ◌∷◌, map, is_some}
use Rattle.expr_keys.specs.Classes.{fits}
use Rattle.expr_terms.specs.Productions.{body, keeps, passes, speaks}
use Rattle.expr_terms.specs.Raws.{is_parens, is_otherwise, is_conditional, only_parens}
use Rattle.expr_terms.specs.Raws.{as_inner_chain}
use Rattle.expr_keys.specs.declared.keys.Key.TheVariants as key
use Rattle.expr_keys.specs.declared.tokens.Token.{Token}
use Rattle.expr_keys.specs.declared.tokens.Token.TheVariants as token
use Rattle.expr_keys.specs.declared.productions.Class.{Class}
use Rattle.expr_keys.specs.declared.productions.Symbol.{Symbol}
use Rattle.expr_keys.specs.declared.productions.Symbol.TheVariants.{Tok as tok, One as one}
use Rattle.expr_keys.specs.declared.productions.Symbol.TheVariants.{Maybe as maybe, Many as many}
use Rattle.expr_keys.specs.declared.productions.Symbol.TheVariants.{Longest as longest}
use Rattle.expr_keys.specs.declared.productions.Language.{Language}
use Rattle.expr_keys.specs.declared.productions.Nonterminal.{Nonterminal}
use Rattle.expr_keys.specs.declared.productions.Nonterminal.TheVariants as place
use Rattle.expr_keys.specs.declared.productions.Production.{Production}
use Rattle.expr_terms.specs.declared.raws.Raw.{Raw}
use Rattle.expr_terms.specs.declared.raws.Raw.TheVariants.{Leaf as leaf, Node as node}
use Rattle.expr_terms.specs.declared.raws.Raw.TheViews.{out-Raw}
use Rattle.expr_terms.specs.declared.raws.Raw.TheFolds.{fold-Raw}
use Rattle.expr_terms.specs.declared.raws.Raw.TheOpen.{Raw-F, Leaf, Node}
use Rattle.expr_grammar.specs.Grammar.{next_begins}
use Rattle.raw_tokens.specs.Places.{Way, form, through, nowhere, way, leads}
use Rattle.raw_tokens.specs.Tokens.{Printed, raws, others, all_tokens, is_next}
use Rattle.raw_tokens.specs.Tokens.{seq_tokens, arm_tokens}
use Rattle.raw_tokens.specs.Tokens.{form_tokens, tokens_within, deep, printed_step}

-- a value, and whether it is well formed at a nonterminal, before the tokens that follow
pub record Placed : Type 0 where
  pub printed : Printed
  pub stands : Nonterminal → List Token → Bool

abbrev pub prints : List Placed → List Printed
prints ps = map (λ p. p.printed) ps

abbrev pub is_nothing : List Placed → Bool
is_nothing [] = true
is_nothing (p ∷ ps) = false

abbrev pub is_one : List Placed → Bool
is_one [] = false
is_one (p ∷ []) = true
is_one (p ∷ q ∷ ps) = false

abbrev pub fits_leaf : Class → Raw-F Raw → Bool
fits_leaf c (Leaf t) = fits c t
fits_leaf c (Node p vs) = false

abbrev pub first_fits : Class → List Placed → Bool
first_fits c [] = false
first_fits c (p ∷ ps) = fits_leaf c (out-Raw p.printed.raw)

abbrev pub first_stands : Nonterminal → List Placed → List Token → Bool
first_stands n [] ts = false
first_stands n (p ∷ ps) ts = p.stands n ts

abbrev pub front_placed : Nonterminal → List Placed → List Placed
front_placed n [] = []
front_placed n (p ∷ ps) =
    if leads n (out-Raw p.printed.raw) then p ∷ front_placed n ps else []

abbrev pub behind_placed : Nonterminal → List Placed → List Placed
behind_placed n [] = []
behind_placed n (p ∷ ps) =
    if leads n (out-Raw p.printed.raw) then behind_placed n ps else p ∷ ps

abbrev pub all_stand : Nonterminal → List Placed → List Token → Bool
all_stand n [] ts = true
all_stand n (p ∷ ps) ts = p.stands n (all_tokens n (prints ps) ts) && all_stand n ps ts

-- The parts of a production. What may be left out and must not be where the next token could
-- begin it looks at that token.
abbrev pub seq_stands : List Symbol → List Placed → List Token → Bool
seq_stands [] ps rest = is_nothing ps
seq_stands (tok c ∷ ss) ps rest =
    if keeps c then first_fits c ps && seq_stands ss (others ps) rest
    else seq_stands ss ps rest
seq_stands (one n ∷ ss) ps rest =
    first_stands n ps (seq_tokens ss (prints (others ps)) rest) && seq_stands ss (others ps) rest
seq_stands (maybe n ∷ ss) ps rest =
    if is_next n (prints ps)
    then first_stands n ps (seq_tokens ss (prints (others ps)) rest)
    && seq_stands ss (others ps) rest
    else seq_stands ss ps rest
seq_stands (many n ∷ ss) ps rest =
    all_stand n (front_placed n ps) (seq_tokens ss (prints (behind_placed n ps)) rest)
    && seq_stands ss (behind_placed n ps) rest
seq_stands (longest n ∷ ss) ps rest =
    if is_next n (prints ps)
    then first_stands n ps (seq_tokens ss (prints (others ps)) rest)
    && seq_stands ss (others ps) rest
    else not (next_begins n (seq_tokens ss (prints ps) rest)) && seq_stands ss ps rest

-- an arm and its test
abbrev pub arm_stands : Placed → Placed → List Token → Bool
arm_stands arm test rest =
    test.stands place.Expr (token.Key key.CloseParen ∷ token.Key key.ThenWord
    ∷ arm.printed.tokens place.ExprSingle (token.Key key.ElseWord ∷ rest))
    && arm.stands place.ExprSingle (token.Key key.ElseWord ∷ rest)

abbrev pub arms_stand : List Placed → List Token → Bool
arms_stand [] rest = true
arms_stand (arm ∷ []) rest = false
arms_stand (arm ∷ test ∷ ps) rest =
    arm_stands arm test rest && arms_stand ps (arm_tokens arm.printed test.printed rest)

-- What comes after the last `else` is no conditional, which would go on with the chain; and
-- there is an arm.
abbrev pub chain_stands : List Placed → List Token → Bool
chain_stands [] rest = false
chain_stands (p ∷ ps) rest =
    not (is_some (as_inner_chain (out-Raw p.printed.raw))) && (not (is_nothing ps)
    && (p.stands place.ExprSingle rest && arms_stand ps (p.printed.tokens place.ExprSingle rest)))

-- parentheses do not stand right in parentheses, and what adds nothing to one part has more
abbrev pub is_kept : Production → List Placed → Bool
is_kept p ps =
    if is_parens p then not (only_parens (raws (prints ps)))
    else not (is_one ps && passes p)

-- a production with its parts
abbrev pub form_stands : Language → Production → List Placed → List Token → Bool
form_stands l p ps rest =
    speaks l p && (if is_conditional p then chain_stands ps rest
    else not (is_otherwise p) && (is_kept p ps && seq_stands (body p) ps rest))

abbrev pub way_stands : Language → Placed → (List Token → Bool) → List Token → Way → Bool
way_stands l inner own rest form = own rest
way_stands l inner own rest (through p) = speaks l p && seq_stands (body p) (inner ∷ []) rest
way_stands l inner own rest nowhere = false

-- a value at a nonterminal, through at most so many productions that hand it on
abbrev pub stands_within : Language → ℕ → Raw → (List Token → List Token) → (List Token → Bool)
    → Nonterminal → List Token → Bool
stands_within l zero v own_tokens own n rest = false
stands_within l (suc d) v own_tokens own n rest =
    way_stands l (record {
      printed = record { raw = v; tokens = tokens_within d v own_tokens };
      stands = stands_within l d v own_tokens own;
    }) own rest (way n (out-Raw v))

abbrev pub placed_step : Language → Raw-F Placed → Placed
placed_step l (Leaf t) = record {
  printed = printed_step (Leaf t);
  stands = stands_within l deep (leaf t) (λ rest. rest) (λ rest. false);
}
placed_step l (Node p ps) = record {
  printed = printed_step (Node p (prints ps));
  stands = stands_within l deep (node p (raws (prints ps))) (form_tokens p (prints ps))
      (form_stands l p ps);
}

unfoldable pub placed_of : Language → Raw → Placed
placed_of l = fold-Raw Placed (placed_step l)

-- whether the value is at the nonterminal, before the tokens that follow
abbrev pub stands_at : Language → Nonterminal → Raw → List Token → Bool
stands_at l n v rest = (placed_of l v).stands n rest

-- whether the value is well formed as an expression
abbrev pub is_expr : Language → Raw → Bool
is_expr l v = stands_at l place.Whole v []

-- .. and as a sequence type
abbrev pub is_type : Language → Raw → Bool
is_type l v = stands_at l place.WholeType v []

-- whether the tokens would go on with a `/` that stands alone, or with a type that bears no mark
abbrev pub goes_on : List Token → Bool
goes_on ts = next_begins place.AfterRoot ts || next_begins place.OccurrenceIndicator ts
