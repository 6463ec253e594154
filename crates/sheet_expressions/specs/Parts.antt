-- The parts of calls, as they are written (XPath 2.0, 3.1.5).
use Rattle.std.specs.Prelude.{ℕ, List, [], ◌∷◌, length, Option, Some, None, option_map}
use Rattle.xt_names.specs.declared.names.Binding.{Binding}
use Rattle.xt_names.specs.declared.names.ExprName.{ExprName}
use Rattle.xt_names.specs.declared.codes.Code.{Code}
use Rattle.xt_syntax.specs.declared.prefixes.Prefixes.{Prefixes}
use Rattle.expr_keys.specs.declared.productions.Production.{Production}
use Rattle.expr_keys.specs.declared.productions.Production.TheVariants as production
use Rattle.expr_keys.specs.declared.tokens.Token.{Token}
use Rattle.expr_keys.specs.declared.tokens.Token.TheVariants as token
use Rattle.expr_terms.specs.declared.raws.Raw.{Raw}
use Rattle.expr_terms.specs.declared.raws.Raw.TheVariants.{Leaf as leaf, Node as node}
use Rattle.expr_terms.specs.declared.raws.Raw.TheViews.{out-Raw}
use Rattle.expr_terms.specs.declared.raws.Raw.TheOpen.{Raw-F, Leaf, Node}
use Rattle.sheet_values.specs.ExprRules.ExprMeant.Names.{written_in}
use Rattle.expr_names.specs.Names.{undeclared_in, expr_name}
use Rattle.expr_names.specs.declared.written.Written.{Written}
use Rattle.sheet_expressions.specs.declared.calls.SheetCall.{SheetCall}
use Rattle.sheet_expressions.specs.Calls.{sheet_call}
use Rattle.sheet_expressions.specs.Keys.{key_text}

abbrev pub no_name : ExprName
no_name = record { uri = []; local = [] }

-- a name whose prefix is not declared names no function
unfoldable pub name_unless : List Code → ExprName → ExprName
name_unless [] n = n
name_unless (c ∷ cs) n = no_name

abbrev pub name_written : Prefixes → Written → ExprName
name_written p w = name_unless (undeclared_in p.bound w) (expr_name p.bound p.function_default w)

abbrev pub name_in : Prefixes → Raw-F Raw → ExprName
name_in p (Leaf t) = name_written p (written_in t)
name_in p (Node q vs) = no_name

-- the function that is called: its name is the first part
abbrev pub called_name : Prefixes → List Raw → ExprName
called_name p [] = no_name
called_name p (v ∷ vs) = name_in p (out-Raw v)

unfoldable pub argued_of : Production → List Raw → ℕ
argued_of production.ArgumentList vs = length vs
argued_of _ vs = 0

abbrev pub argued_in : Raw-F Raw → ℕ
argued_in (Leaf t) = 0
argued_in (Node q vs) = argued_of q vs

-- how many arguments it has: they are the second part where there are any
abbrev pub arity_of : List Raw → ℕ
arity_of [] = 0
arity_of (v ∷ []) = 0
arity_of (v ∷ a ∷ vs) = argued_in (out-Raw a)

-- what a stylesheet asks of the call
abbrev pub call_asks : Prefixes → List Raw → SheetCall
call_asks p vs = sheet_call (called_name p vs) (arity_of vs)

unfoldable pub quoted_in : Token → Option (List ℕ)
quoted_in (token.Quoted t) = Some t
quoted_in _ = None

abbrev pub quoted_leaf : Raw-F Raw → Option (List ℕ)
quoted_leaf (Leaf t) = quoted_in t
quoted_leaf (Node q vs) = None

abbrev pub first_quoted : List Raw → Option (List ℕ)
first_quoted [] = None
first_quoted (v ∷ vs) = quoted_leaf (out-Raw v)

unfoldable pub literal_of : Production → List Raw → Option (List ℕ)
literal_of production.Literal vs = first_quoted vs
literal_of _ vs = None

-- the characters of a literal
abbrev pub literal_in : Raw-F Raw → Option (List ℕ)
literal_in (Leaf t) = None
literal_in (Node q vs) = literal_of q vs

abbrev pub as_literal : List ℕ → Raw
as_literal t = node production.Literal (leaf (token.Quoted t) ∷ [])

-- a literal that writes the name of a key, with that name
abbrev pub key_literal : List Binding → Raw → Option Raw
key_literal bound v = option_map (λ t. as_literal (key_text bound t)) (literal_in (out-Raw v))

abbrev pub first_key : List Binding → List Raw → Option Raw
first_key bound [] = None
first_key bound (v ∷ vs) = key_literal bound v

abbrev pub on_first : (Raw → Option Raw) → List Raw → Option (List Raw)
on_first f [] = None
on_first f (v ∷ vs) = option_map (λ w. w ∷ vs) (f v)

abbrev pub on_last : (Raw → Option Raw) → List Raw → Option (List Raw)
on_last f [] = None
on_last f (v ∷ []) = option_map (λ w. w ∷ []) (f v)
on_last f (v ∷ w ∷ vs) = option_map (λ us. v ∷ us) (on_last f (w ∷ vs))

abbrev pub key_arguments_in : List Binding → Raw-F Raw → Option Raw
key_arguments_in bound (Leaf t) = None
key_arguments_in bound (Node q vs) = option_map (node q) (on_first (key_literal bound) vs)

-- arguments of which the first is such a literal
abbrev pub key_arguments : List Binding → Raw → Option Raw
key_arguments bound v = key_arguments_in bound (out-Raw v)

-- a call of key(), whose arguments stand last
abbrev pub key_call : List Binding → List Raw → Option Raw
key_call bound vs = option_map (node production.Call) (on_last (key_arguments bound) vs)
