-- A step is no part that stands behind `//`.
use Rattle.std.proofs.Common.{◌≡◌, Bool, true, false, List, [], ◌∷◌, refl, sym, ◌∙◌, ap, subst}
use Rattle.expr_terms.specs.declared.raws.Raw.TheViews.{out-Raw}
use Rattle.expr_terms.specs.declared.raws.Raw.TheFolds.{map-Raw}
use Rattle.expr_terms.specs.declared.raws.Raw.TheOpen.{Raw-F, Leaf, Node}
use Rattle.expr_length.specs.TokenNames.{Token}
use Rattle.expr_length.specs.Terms.{Language, step_expr, primary_expr, dir_elem_constructor, Production, axis_step, attribute_step, test_step, parent_step, filter_step, number, literal, variable, parens, context, call, computed, constructed, pi_constructed, enclosing, direct_constructor, direct_element}
use Rattle.expr_length.specs.RawNames.{Raw, node}
use Rattle.expr_terms.specs.Productions.{body, head, passes}
use Rattle.expr_terms.specs.Raws.{build, build_plain, in_parens, is_parens, is_otherwise, is_conditional}
use Rattle.expr_terms.specs.Nest.{Mark, plain, deep, Levels, levels_step, levels_of, mark_of}
use Rattle.expr_grammar.specs.Grammar.{Derives, by, Seq, end, taken, next, without, with, stop, again}
use Rattle.expr_grammar.proofs.ExprNest.Levels.{levels-out, levels-node}

abbrev pub Shallow : Raw → Type 0
Shallow v = (levels_of v).mark ≡ deep → ⊥

plain_shallow : (v : Raw) (k : Mark) → (levels_of v).mark ≡ k → k ≡ plain → Shallow v
plain_shallow v k e f g = absurd_plain (sym f ∙ sym e ∙ g)
  where
    absurd_plain : plain ≡ deep → ⊥
    absurd_plain e = absurd cc

node_shallow : (p : Production) (vs : List Raw) → mark_of p ≡ plain → Shallow (node p vs)
node_shallow p vs e = plain_shallow (node p vs) (mark_of p) (ap (λ x. x.mark) (levels-node p vs)) e

built_plain : (p : Production) (vs : List Raw) → passes p ≡ false → build_plain p vs ≡ node p vs
built_plain p [] e = refl
built_plain p (v ∷ []) e = rw e refl
built_plain p (v ∷ w ∷ vs) e = refl

built : (p : Production) (vs : List Raw) → is_parens p ≡ false → is_otherwise p ≡ false → is_conditional p ≡ false → passes p ≡ false → build p vs ≡ node p vs
built p vs a b c e = rw (a, b, c) (built_plain p vs e)

built_shallow : (p : Production) (vs : List Raw) → is_parens p ≡ false → is_otherwise p ≡ false → is_conditional p ≡ false → passes p ≡ false → mark_of p ≡ plain → Shallow (build p vs)
built_shallow p vs a b c e m = subst (λ v. Shallow v) (sym (built p vs a b c e)) (node_shallow p vs m)

parens_shallow : (v : Raw) (f : Raw-F Raw) → out-Raw v ≡ f → Shallow (in_parens v)
parens_shallow v (Leaf t) e = rw e (node_shallow parens (v ∷ []) refl)
parens_shallow v (Node p vs) e = go (is_parens p) refl
  where
    marked : (levels_of v).mark ≡ mark_of p
    marked = ap (λ x. x.mark) (levels-out v ∙ ap (λ g. levels_step (map-Raw Raw Levels levels_of g)) e)

    parens_mark : (q : Production) → is_parens q ≡ true → mark_of q ≡ plain
    parens_mark parens h = refl
    parens_mark _ h = absurd cc

    go : (b : Bool) → is_parens p ≡ b → Shallow (in_parens v)
    go true h = rw (e, h) (plain_shallow v (mark_of p) marked (parens_mark p h))
    go false h = rw (e, h) (node_shallow parens (v ∷ []) refl)

direct_shallow : (p : Production) (vs : List Raw) → head p ≡ dir_elem_constructor → Shallow (build p vs)
direct_shallow direct_element vs e = built_shallow direct_element vs refl refl refl refl refl
direct_shallow _ vs e = absurd cc

primary_shallow : {l : Language} (p : Production) {ts rest : List Token} {vs : List Raw} → head p ≡ primary_expr → Seq l (body p) ts vs rest → Shallow (build p vs)
primary_shallow number {vs = vs} e q = built_shallow number vs refl refl refl refl refl
primary_shallow literal {vs = vs} e q = built_shallow literal vs refl refl refl refl refl
primary_shallow variable {vs = vs} e q = built_shallow variable vs refl refl refl refl refl
primary_shallow context {vs = vs} e q = built_shallow context vs refl refl refl refl refl
primary_shallow call {vs = vs} e q = built_shallow call vs refl refl refl refl refl
primary_shallow computed {vs = vs} e q = built_shallow computed vs refl refl refl refl refl
primary_shallow constructed {vs = vs} e q = built_shallow constructed vs refl refl refl refl refl
primary_shallow pi_constructed {vs = vs} e q = built_shallow pi_constructed vs refl refl refl refl refl
primary_shallow enclosing {vs = vs} e q = built_shallow enclosing vs refl refl refl refl refl
primary_shallow parens e (taken f (without (taken g end))) = node_shallow parens [] refl
primary_shallow parens e (taken f (with {v = v} d (taken g end))) = parens_shallow v (out-Raw v) refl
primary_shallow direct_constructor e (next (by p {vs = vs} s h q) end) = direct_shallow p vs h
primary_shallow _ e q = absurd cc

step_built : {l : Language} (p : Production) {ts rest : List Token} {vs : List Raw} → head p ≡ step_expr → Seq l (body p) ts vs rest → Shallow (build p vs)
step_built axis_step {vs = vs} e q = built_shallow axis_step vs refl refl refl refl refl
step_built attribute_step {vs = vs} e q = built_shallow attribute_step vs refl refl refl refl refl
step_built test_step {vs = vs} e q = built_shallow test_step vs refl refl refl refl refl
step_built parent_step {vs = vs} e q = built_shallow parent_step vs refl refl refl refl refl
step_built filter_step e (next (by p {vs = vs} s h q) (stop end)) = primary_shallow p h q
step_built filter_step e (next {v = v} d (again {v = w} {vs = ws} dw s)) = node_shallow filter_step (v ∷ w ∷ ws) refl
step_built _ e q = absurd cc

pub step_shallow : {l : Language} {ts rest : List Token} {v : Raw} → Derives l step_expr ts v rest → Shallow v
step_shallow (by p s e q) = step_built p e q
