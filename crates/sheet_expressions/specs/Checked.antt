-- Expressions of stylesheets, as they are written, with the calls in them (XSLT 2.0, 14.1, 16.3 and
-- 16.6).
use Rattle.std.specs.Prelude.{List, [], ◌∷◌, Bool, Option, Some, None, option_map}
use Rattle.std.specs.Prelude.{option_and_then, if◌then◌else◌}
use Rattle.xt_syntax.specs.declared.prefixes.Prefixes.{Prefixes}
use Rattle.expr_keys.specs.declared.productions.Production.{Production}
use Rattle.expr_keys.specs.declared.productions.Production.TheVariants as production
use Rattle.expr_terms.specs.declared.raws.Raw.{Raw}
use Rattle.expr_terms.specs.declared.raws.Raw.TheVariants.{Leaf as leaf, Node as node}
use Rattle.expr_terms.specs.declared.raws.Raw.TheFolds.{fold-Raw}
use Rattle.expr_terms.specs.declared.raws.Raw.TheOpen.{Raw-F, Leaf, Node}
use Rattle.sheet_expressions.specs.declared.calls.SheetCall.{SheetCall}
use Rattle.sheet_expressions.specs.declared.calls.SheetCall.TheVariants as call
use Rattle.sheet_expressions.specs.Parts.{call_asks, key_call}

-- the call of which a stylesheet asks this, where it may stand, in a group or outside of one
unfoldable pub allowed_call : Prefixes → Bool → SheetCall → List Raw → Option Raw
allowed_call p grouped call.Plain vs = Some (node production.Call vs)
allowed_call p grouped call.LeftOut vs = None
allowed_call p grouped call.InGroup vs = if grouped then Some (node production.Call vs) else None
allowed_call p grouped call.Key vs = key_call p.bound vs

-- a production with these parts
unfoldable pub checked_node : Prefixes → Bool → Production → List Raw → Option Raw
checked_node p grouped production.Call vs = allowed_call p grouped (call_asks p vs) vs
checked_node p grouped q vs = Some (node q vs)

-- .. where all parts are there
abbrev pub all_some : List (Option Raw) → Option (List Raw)
all_some [] = Some []
all_some (o ∷ os) = option_and_then (λ v. option_map (λ vs. v ∷ vs) (all_some os)) o

abbrev pub checked_layer : Prefixes → Bool → Raw-F (Option Raw) → Option Raw
checked_layer p grouped (Leaf t) = Some (leaf t)
checked_layer p grouped (Node q os) = option_and_then (checked_node p grouped q) (all_some os)

-- the same value with the names of keys in place of the literals that write them; none where a call
-- is in it that may not
abbrev pub checked : Prefixes → Bool → Raw → Option Raw
checked p grouped = fold-Raw (Option Raw) (checked_layer p grouped)
