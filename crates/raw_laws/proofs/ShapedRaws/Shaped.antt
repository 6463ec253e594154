-- Raw values whose direct elements end alike, by their parts.
use Rattle.std.proofs.Common.{◌≡◌, ℕ, nat_le, List, [], ◌∷◌, ◌++◌, map, reverse, Bool, true, false}
use Rattle.std.proofs.Common.{cond, refl, sym, ◌∙◌, ap, subst}
use Rattle.std.proofs.lemmas.List.{reverse-append}
use Rattle.std.proofs.lemmas.Bool.{and_parts, and_from}
use Rattle.std.specs.List.{list_all}
use Rattle.expr_keys.specs.declared.tokens.Token.{Token}
use Rattle.expr_keys.specs.declared.productions.Production.{Production}
use Rattle.expr_keys.specs.declared.productions.Production.TheVariants as production
use Rattle.expr_terms.specs.declared.raws.Raw.{Raw}
use Rattle.expr_terms.specs.declared.raws.Raw.TheVariants.{Leaf as leaf, Node as node, rolls-Leaf}
use Rattle.expr_terms.specs.declared.raws.Raw.TheVariants.{rolls-Node}
use Rattle.expr_terms.specs.declared.raws.Raw.TheViews.{roll-Raw}
use Rattle.expr_terms.specs.declared.raws.Raw.TheFolds.{map-Raw, fold-roll-Raw}
use Rattle.expr_terms.specs.declared.raws.Raw.TheOpen.{Raw-F, Leaf, Node}
use Rattle.expr_rules.specs.ExprShapes.Shapes.{is_good, own_shape, shape_layer, shape_of, is_shaped}
use Rattle.expr_rules.specs.declared.expr_shapes.shapes.Shape.{Shape}
use Rattle.expr_raws.specs.PathRaws.Forms.{Form, at, all_at}

shape_rolled : (x : Raw-F Raw) → shape_of (roll-Raw x) ≡ shape_layer (map-Raw Raw Shape shape_of x)
shape_rolled x = fold-roll-Raw _ _ x

abbrev pub shapes : List Raw → List Shape
shapes vs = map shape_of vs

pub leaf_shape : (t : Token) → shape_of (leaf t) ≡ shape_layer (Leaf t)
leaf_shape t = ap shape_of (sym (rolls-Leaf t)) ∙ shape_rolled (Leaf t)

pub node_shape : (p : Production) (vs : List Raw)
    → shape_of (node p vs) ≡ shape_layer (Node p (shapes vs))
node_shape p vs = ap shape_of (sym (rolls-Node p vs)) ∙ shape_rolled (Node p vs)

abbrev pub Shaped : Raw → Type 0
Shaped v = is_shaped v ≡ true

pub leaf_shaped : (t : Token) → Shaped (leaf t)
leaf_shaped t = ap is_good (leaf_shape t)

abbrev pub AllShaped : List Raw → Type 0
AllShaped [] = Unit {0}
AllShaped (v ∷ vs) = Shaped v × AllShaped vs

pub append_shaped : (us vs : List Raw) → AllShaped us → AllShaped vs → AllShaped (us ++ vs)
append_shaped [] vs a b = b
append_shaped (u ∷ us) vs a b = (a.0, append_shaped us vs a.1 b)

pub reverse_shaped : (vs : List Raw) → AllShaped vs → AllShaped (reverse vs)
reverse_shaped [] a = tt
reverse_shaped (v ∷ vs) a = subst (λ ws. AllShaped ws) (sym (reverse-append (v ∷ []) vs))
    (append_shaped (reverse vs) (v ∷ []) (reverse_shaped vs a.1) (a.0, tt))

pub all_good : (vs : List Raw) → AllShaped vs → list_all is_good (shapes vs) ≡ true
all_good [] a = refl
all_good (v ∷ vs) a = and_from (is_shaped v) (list_all is_good (shapes vs)) a.0 (all_good vs a.1)

all_shaped : (vs : List Raw) → list_all is_good (shapes vs) ≡ true → AllShaped vs
all_shaped [] e = tt
all_shaped (v ∷ vs) e =
    let h = and_parts (is_shaped v) (list_all is_good (shapes vs)) e in
    (h.0, all_shaped vs h.1)

pub node_shaped : (p : Production) (vs : List Raw) → AllShaped vs
    → own_shape p (shapes vs) ≡ true → Shaped (node p vs)
node_shaped p vs a e = ap is_good (node_shape p vs)
    ∙ and_from (list_all is_good (shapes vs)) (own_shape p (shapes vs)) (all_good vs a) e

-- the parts of what is shaped
pub parts_shaped : (p : Production) (vs : List Raw) → Shaped (node p vs) → AllShaped vs
parts_shaped p vs e = all_shaped vs (and_parts (list_all is_good (shapes vs))
    (own_shape p (shapes vs)) (ap is_good (sym (node_shape p vs)) ∙ e)).0

pub own_of : (p : Production) (vs : List Raw) → Shaped (node p vs)
    → own_shape p (shapes vs) ≡ true
own_of p vs e = (and_parts (list_all is_good (shapes vs)) (own_shape p (shapes vs))
    (ap is_good (sym (node_shape p vs)) ∙ e)).1

-- productions of no direct elements and attributes
abbrev pub is_loose : Production → Bool
is_loose production.DirectElement = false
is_loose production.ChildElement = false
is_loose production.AttributeValue = false
is_loose _ = true

loose_own : (p : Production) → is_loose p ≡ true → (ss : List Shape) → own_shape p ss ≡ true
unfolding own_shape
loose_own production.DirectElement c ss = absurd (cc)
loose_own production.ChildElement c ss = absurd (cc)
loose_own production.AttributeValue c ss = absurd (cc)
loose_own _ c ss = refl

pub loose : (p : Production) → is_loose p ≡ true → (vs : List Raw) → AllShaped vs
    → Shaped (node p vs)
loose p c vs a = node_shaped p vs a (loose_own p c (shapes vs))

pub at_shaped : (n : ℕ) (f : Form) → Shaped f.raw → Shaped (at n f)
at_shaped n f c = go (nat_le f.place n)
  where
    go : (b : Bool) → Shaped (cond b f.raw (node production.Parens (f.raw ∷ [])))
    go true = c
    go false = loose production.Parens refl (f.raw ∷ []) (c, tt)

abbrev pub AllForms : List Form → Type 0
AllForms [] = Unit {0}
AllForms (f ∷ fs) = Shaped f.raw × AllForms fs

pub all_at_shaped : (n : ℕ) (fs : List Form) → AllForms fs → AllShaped (all_at n fs)
all_at_shaped n [] a = tt
all_at_shaped n (f ∷ fs) a = (at_shaped n f a.0, all_at_shaped n fs a.1)
