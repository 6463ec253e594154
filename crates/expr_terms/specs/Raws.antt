-- The values: what was read, by its productions.
use Rattle.std.specs.Prelude.{Bool, true, false, List, [], ◌∷◌, ◌++◌, Option, Some, None, is_some, if◌then◌else◌}
use Rattle.expr_keys.specs.declared.tokens.Token.{Token}
use Rattle.expr_terms.specs.Productions.{Class, Production, parens, if_expr, else_expr, keeps, passes}
pub use Rattle.expr_terms.specs.declared.raws.Raw.{Raw}
pub use Rattle.expr_terms.specs.declared.raws.Raw.TheVariants.{Leaf as leaf, Node as node}
use Rattle.expr_terms.specs.declared.raws.Raw.TheViews.{out-Raw}
use Rattle.expr_terms.specs.declared.raws.Raw.TheOpen.{Raw-F, Leaf, Node}

abbrev pub keep : Class → Token → List Raw → List Raw
keep c t vs = if keeps c then leaf t ∷ vs else vs

abbrev pub is_parens : Production → Bool
is_parens parens = true
is_parens _ = false

abbrev pub is_conditional : Production → Bool
is_conditional if_expr = true
is_conditional _ = false

abbrev pub is_otherwise : Production → Bool
is_otherwise else_expr = true
is_otherwise _ = false

abbrev pub as_parens : Raw-F Raw → Bool
as_parens (Leaf t) = false
as_parens (Node p vs) = is_parens p

-- parentheses within parentheses add nothing
abbrev pub in_parens : Raw → Raw
in_parens v = if as_parens (out-Raw v) then v else node parens (v ∷ [])

abbrev pub only_parens : List Raw → Bool
only_parens [] = false
only_parens (v ∷ []) = as_parens (out-Raw v)
only_parens (v ∷ w ∷ vs) = false

-- the parts of a conditional
abbrev pub as_chain : Raw-F Raw → Option (List Raw)
as_chain (Leaf t) = None
as_chain (Node p vs) = if is_conditional p then Some vs else None

abbrev pub only_chain : List Raw → Option (List Raw)
only_chain [] = None
only_chain (v ∷ []) = as_chain (out-Raw v)
only_chain (v ∷ w ∷ vs) = None

-- .. and of one in parentheses
abbrev pub as_inner_chain : Raw-F Raw → Option (List Raw)
as_inner_chain (Leaf t) = None
as_inner_chain (Node p vs) = if is_conditional p then Some vs else if is_parens p then only_chain vs else None

abbrev pub only_inner : List Raw → Bool
only_inner [] = false
only_inner (v ∷ []) = is_some (as_inner_chain (out-Raw v))
only_inner (v ∷ w ∷ vs) = false

abbrev pub chain_or : Option (List Raw) → Raw → Raw
chain_or None v = node else_expr (v ∷ [])
chain_or (Some vs) v = node else_expr vs

-- An `if` that is the last part of an `if`, in parentheses or not, goes on with its chain. The parts of a chain stand in the
-- order in which they are joined: the last `else`, then the last arm (`then`, test), and so on to the first.
abbrev pub in_else : Raw → Raw
in_else v = chain_or (as_inner_chain (out-Raw v)) v

abbrev pub as_last : Raw-F Raw → Bool
as_last (Leaf t) = false
as_last (Node p vs) = is_otherwise p

abbrev pub as_parts : Raw-F Raw → List Raw
as_parts (Leaf t) = []
as_parts (Node p vs) = vs

-- the parts of the last part
abbrev pub as_else : Raw → Raw-F Raw → List Raw
as_else v (Leaf t) = v ∷ []
as_else v (Node p vs) = if is_otherwise p then vs else v ∷ []

abbrev pub in_chain : Raw → Raw → Raw → Raw
in_chain test arm last = node if_expr (as_else last (out-Raw last) ++ arm ∷ test ∷ [])

abbrev pub build_parens : List Raw → Raw
build_parens [] = node parens []
build_parens (v ∷ []) = in_parens v
build_parens (v ∷ w ∷ vs) = node parens (v ∷ w ∷ vs)

abbrev pub build_else : List Raw → Raw
build_else [] = node else_expr []
build_else (v ∷ []) = in_else v
build_else (v ∷ w ∷ vs) = node else_expr (v ∷ w ∷ vs)

abbrev pub build_chain : List Raw → Raw
build_chain [] = node if_expr []
build_chain (v ∷ []) = node if_expr (v ∷ [])
build_chain (v ∷ w ∷ []) = node if_expr (v ∷ w ∷ [])
build_chain (v ∷ w ∷ x ∷ []) = in_chain v w x
build_chain (v ∷ w ∷ x ∷ y ∷ vs) = node if_expr (v ∷ w ∷ x ∷ y ∷ vs)

abbrev pub build_plain : Production → List Raw → Raw
build_plain p [] = node p []
build_plain p (v ∷ []) = if passes p then v else node p (v ∷ [])
build_plain p (v ∷ w ∷ vs) = node p (v ∷ w ∷ vs)

-- the value of a production, from those of its parts
abbrev pub build : Production → List Raw → Raw
build p vs = if is_parens p then build_parens vs else if is_otherwise p then build_else vs else if is_conditional p then build_chain vs else build_plain p vs
