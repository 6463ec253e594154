-- The tokens that spell a raw value, before those that follow: the body of its production with
-- the leaves and parts that it keeps.
use Rattle.std.specs.Prelude.{ℕ, zero, suc, Bool, false, if◌then◌else◌}
use Rattle.std.specs.Prelude.{List, [], ◌∷◌, map}
use Rattle.expr_terms.specs.Productions.{body, keeps}
use Rattle.expr_terms.specs.Raws.{is_conditional}
use Rattle.expr_keys.specs.declared.keys.Key.TheVariants as key
use Rattle.expr_keys.specs.declared.tokens.Token.{Token}
use Rattle.expr_keys.specs.declared.tokens.Token.TheVariants as token
use Rattle.expr_keys.specs.declared.productions.Class.{Class}
use Rattle.expr_keys.specs.declared.productions.Class.TheVariants as class
use Rattle.expr_keys.specs.declared.productions.Symbol.{Symbol}
use Rattle.expr_keys.specs.declared.productions.Symbol.TheVariants.{Tok as tok, One as one}
use Rattle.expr_keys.specs.declared.productions.Symbol.TheVariants.{Maybe as maybe, Many as many}
use Rattle.expr_keys.specs.declared.productions.Symbol.TheVariants.{Longest as longest}
use Rattle.expr_keys.specs.declared.productions.Nonterminal.{Nonterminal}
use Rattle.expr_keys.specs.declared.productions.Nonterminal.TheVariants as place
use Rattle.expr_keys.specs.declared.productions.Production.{Production}
use Rattle.expr_terms.specs.declared.raws.Raw.{Raw}
use Rattle.expr_terms.specs.declared.raws.Raw.TheVariants.{Leaf as leaf, Node as node}
use Rattle.expr_terms.specs.declared.raws.Raw.TheViews.{out-Raw}
use Rattle.expr_terms.specs.declared.raws.Raw.TheFolds.{fold-Raw}
use Rattle.expr_terms.specs.declared.raws.Raw.TheOpen.{Raw-F, Leaf, Node}
use Rattle.raw_tokens.specs.Places.{Way, form, through, nowhere, way, leads}

-- a value, and its tokens where it is at a nonterminal, before those that follow
pub record Printed : Type 0 where
  pub raw : Raw
  pub tokens : Nonterminal → List Token → List Token

abbrev pub raws : List Printed → List Raw
raws ps = map (λ p. p.raw) ps

-- the token of a class that keeps none
abbrev pub fixed : Class → Token
fixed (class.Key k) = token.Key k
fixed class.AttributeEnd = token.AttributeEnd
fixed class.TagEnd = token.TagEnd
fixed class.EmptyEnd = token.EmptyEnd
fixed _ = token.EnclosedOpen

abbrev pub others : {A : Type 0} → List A → List A
others [] = []
others (x ∷ xs) = xs

abbrev pub leaf_of : Raw-F Raw → Token
leaf_of (Leaf t) = t
leaf_of (Node p vs) = token.EnclosedOpen

abbrev pub first_leaf : List Printed → Token
first_leaf [] = token.EnclosedOpen
first_leaf (p ∷ ps) = leaf_of (out-Raw p.raw)

abbrev pub first_tokens : Nonterminal → List Printed → List Token → List Token
first_tokens n [] ts = ts
first_tokens n (p ∷ ps) ts = p.tokens n ts

abbrev pub all_tokens : Nonterminal → List Printed → List Token → List Token
all_tokens n [] ts = ts
all_tokens n (p ∷ ps) ts = p.tokens n (all_tokens n ps ts)

-- whether the first of the parts is of the nonterminal
abbrev pub is_next : Nonterminal → List Printed → Bool
is_next n [] = false
is_next n (p ∷ ps) = leads n (out-Raw p.raw)

-- the parts at the front that are of the nonterminal, and those after them
abbrev pub front : Nonterminal → List Printed → List Printed
front n [] = []
front n (p ∷ ps) = if leads n (out-Raw p.raw) then p ∷ front n ps else []

abbrev pub behind : Nonterminal → List Printed → List Printed
behind n [] = []
behind n (p ∷ ps) = if leads n (out-Raw p.raw) then behind n ps else p ∷ ps

-- the tokens of the parts of a production
abbrev pub seq_tokens : List Symbol → List Printed → List Token → List Token
seq_tokens [] ps rest = rest
seq_tokens (tok c ∷ ss) ps rest =
    if keeps c then first_leaf ps ∷ seq_tokens ss (others ps) rest
    else fixed c ∷ seq_tokens ss ps rest
seq_tokens (one n ∷ ss) ps rest = first_tokens n ps (seq_tokens ss (others ps) rest)
seq_tokens (maybe n ∷ ss) ps rest =
    if is_next n ps then first_tokens n ps (seq_tokens ss (others ps) rest)
    else seq_tokens ss ps rest
seq_tokens (many n ∷ ss) ps rest = all_tokens n (front n ps) (seq_tokens ss (behind n ps) rest)
seq_tokens (longest n ∷ ss) ps rest =
    if is_next n ps then first_tokens n ps (seq_tokens ss (others ps) rest)
    else seq_tokens ss ps rest

-- `if (test) then arm else ..`
abbrev pub arm_tokens : Printed → Printed → List Token → List Token
arm_tokens arm test rest =
    token.Key key.IfWord ∷ token.Key key.OpenParen ∷ test.tokens place.Expr
    (token.Key key.CloseParen ∷ token.Key key.ThenWord ∷ arm.tokens place.ExprSingle
    (token.Key key.ElseWord ∷ rest))

abbrev pub arms_tokens : List Printed → List Token → List Token
arms_tokens [] rest = rest
arms_tokens (arm ∷ []) rest = rest
arms_tokens (arm ∷ test ∷ ps) rest = arms_tokens ps (arm_tokens arm test rest)

-- A conditional has its parts in reverse order: what comes after the last `else`, then the last
-- arm and its test, and so on.
abbrev pub chain_tokens : List Printed → List Token → List Token
chain_tokens [] rest = rest
chain_tokens (p ∷ ps) rest = arms_tokens ps (p.tokens place.ExprSingle rest)

-- .. of a production with its parts
abbrev pub form_tokens : Production → List Printed → List Token → List Token
form_tokens p ps rest =
    if is_conditional p then chain_tokens ps rest else seq_tokens (body p) ps rest

abbrev pub way_tokens : Raw → (Nonterminal → List Token → List Token)
    → (List Token → List Token) → List Token → Way → List Token
way_tokens v inner own rest form = own rest
way_tokens v inner own rest (through p) =
    seq_tokens (body p) (record { raw = v; tokens = inner } ∷ []) rest
way_tokens v inner own rest nowhere = rest

-- the tokens of a value at a nonterminal, from its own: through at most so many productions
abbrev pub tokens_within : ℕ → Raw → (List Token → List Token) → Nonterminal → List Token
    → List Token
tokens_within zero v own n rest = rest
tokens_within (suc d) v own n rest =
    way_tokens v (tokens_within d v own) own rest (way n (out-Raw v))

-- more than the productions that hand one value on
unfoldable pub deep : ℕ
deep = 40

abbrev pub printed_step : Raw-F Printed → Printed
printed_step (Leaf t) =
    record { raw = leaf t; tokens = tokens_within deep (leaf t) (λ rest. rest) }
printed_step (Node p ps) = record {
  raw = node p (raws ps);
  tokens = tokens_within deep (node p (raws ps)) (form_tokens p ps);
}

unfoldable pub printed_of : Raw → Printed
printed_of = fold-Raw Printed printed_step

-- the tokens that spell the value at the nonterminal, before those that follow
abbrev pub tokens_at : Nonterminal → Raw → List Token → List Token
tokens_at n v rest = (printed_of v).tokens n rest

-- the tokens that spell the value as an expression
abbrev pub tokens_of : Raw → List Token
tokens_of v = tokens_at place.Whole v []

-- .. and as a sequence type
abbrev pub type_tokens_of : Raw → List Token
type_tokens_of v = tokens_at place.WholeType v []
