-- Where there is no rule, each tree stays as it is.
use Rattle.std.proofs.Common.{◌≡◌, ◌∙◌, ◌<◌, List, [], ◌∷◌, Bool, false, refl, ap, sym, arith, length}
use Rattle.xt_types.specs.declared.node_tests.SpaceRule.{SpaceRule}
use Rattle.xt_tree.specs.declared.trees.Tree.{Tree}
use Rattle.xt_tree.specs.declared.trees.Tree.TheVariants.{Doc, Elem, Text, Comment, Pi, Attr}
use Rattle.xt_tree.specs.Forest.{Forest, end, doc, elem, text, comment, pi, attr}
use Rattle.doc_set.specs.WhiteSpace.Stripped.{preserves, drops_in, strips, stripped_forest, stripped}

pub none_go : (kept : Bool) (f : Forest) → stripped_forest [] kept false f ≡ f
unfolding drops_in strips
none_go kept end = refl
none_go kept (doc kids rest) = rw (none_go kept kids, none_go kept rest) refl
none_go kept (elem name attributes kids rest) =
    rw (none_go (preserves kept attributes) kids, none_go kept rest) refl
none_go kept (text t rest) = rw (none_go kept rest) refl
none_go kept (comment t rest) = rw (none_go kept rest) refl
none_go kept (pi target t rest) = rw (none_go kept rest) refl
none_go kept (attr name t rest) = rw (none_go kept rest) refl

pub whole_stays : (t : Tree) → stripped [] t ≡ t
unfolding drops_in strips
whole_stays (Doc kids) = ap (λ f. Doc f) (none_go false kids)
whole_stays (Elem name attributes kids) =
    ap (λ f. Elem name attributes f) (none_go (preserves false attributes) kids)
whole_stays (Text t) = refl
whole_stays (Comment t) = refl
whole_stays (Pi target t) = refl
whole_stays (Attr name t) = refl

-- of a list that is shorter than one
none_below : (rules : List SpaceRule) → length rules < 1 → rules ≡ []
none_below [] h = refl
none_below (r ∷ rest) h = absurd (omega (arith, h))

pub whole_below : (rules : List SpaceRule) (t : Tree) → length rules < 1 → t ≡ stripped rules t
whole_below rules t h =
    sym (ap (λ rs. stripped rs t) (none_below rules h) ∙ whole_stays t)
