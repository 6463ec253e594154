-- The folds at a leaf and at a node.
use Rattle.std.proofs.Common.{◌≡◌, List, map, sym, ◌∙◌, ap}
use Rattle.expr_keys.specs.declared.tokens.Token.{Token}
use Rattle.expr_keys.specs.declared.productions.Language.{Language}
use Rattle.expr_keys.specs.declared.productions.Production.{Production}
use Rattle.expr_terms.specs.declared.raws.Raw.{Raw}
use Rattle.expr_terms.specs.declared.raws.Raw.TheVariants.{Leaf as leaf, Node as node}
use Rattle.expr_terms.specs.declared.raws.Raw.TheVariants.{rolls-Leaf, rolls-Node}
use Rattle.expr_terms.specs.declared.raws.Raw.TheOpen.{Leaf, Node}
use Rattle.raw_tokens.specs.Tokens.{printed_step, printed_of}
use Rattle.raw_tokens.specs.Stands.{placed_step, placed_of}
use Rattle.raw_tokens.proofs.Derive.{printed-roll, placed-roll}

pub printed-leaf : (t : Token) → printed_of (leaf t) ≡ printed_step (Leaf t)
printed-leaf t = ap printed_of (sym (rolls-Leaf t)) ∙ printed-roll (Leaf t)

pub printed-node : (p : Production) (vs : List Raw)
    → printed_of (node p vs) ≡ printed_step (Node p (map printed_of vs))
printed-node p vs = ap printed_of (sym (rolls-Node p vs)) ∙ printed-roll (Node p vs)

pub placed-leaf : (l : Language) (t : Token) → placed_of l (leaf t) ≡ placed_step l (Leaf t)
placed-leaf l t = ap (placed_of l) (sym (rolls-Leaf t)) ∙ placed-roll l (Leaf t)

pub placed-node : (l : Language) (p : Production) (vs : List Raw)
    → placed_of l (node p vs) ≡ placed_step l (Node p (map (placed_of l) vs))
placed-node l p vs = ap (placed_of l) (sym (rolls-Node p vs)) ∙ placed-roll l (Node p vs)
