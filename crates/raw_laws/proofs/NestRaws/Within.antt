-- How deep raw values nest, by bounds on their parts.
use Rattle.std.proofs.Common.{◌≡◌, ℕ, ◌+◌, ◌≤◌, max, nat_le, List, [], ◌∷◌, ◌++◌, map, reverse}
use Rattle.std.proofs.Common.{Bool, true, false, cond, refl, sym, ◌∙◌, ap, subst, arith}
use Rattle.std.specs.Prelude.{◌==◌}
use Rattle.std.proofs.lemmas.List.{reverse-append}
use Rattle.expr_keys.specs.declared.tokens.Token.{Token}
use Rattle.expr_keys.specs.declared.productions.Production.{Production}
use Rattle.expr_keys.specs.declared.productions.Production.TheVariants as production
use Rattle.expr_terms.specs.declared.raws.Raw.{Raw}
use Rattle.expr_terms.specs.declared.raws.Raw.TheVariants.{Leaf as leaf, Node as node, outs-Leaf}
use Rattle.expr_terms.specs.declared.raws.Raw.TheFolds.{map-Raw}
use Rattle.expr_terms.specs.Nest.{Mark, plain, deep, last, Levels, levels_step, levels_of}
use Rattle.expr_terms.specs.Nest.{raw_nest_of, mark_of, before_parts, is_left, is_arms, left_part}
use Rattle.expr_terms.specs.Nest.{arm_part, with_part, with_parts, whole_nest}
use Rattle.expr_grammar.specs.ExprNest.Held.{held}
use Rattle.expr_grammar.proofs.ExprNest.Levels.{levels-out, levels-node, nest-node, held-append}
use Rattle.expr_raws.specs.PathRaws.Forms.{Form, at, all_at}

-- the value of an expression that nests no deeper than that
pub record Within (n : ℕ) (v : Raw) : Type 0 where
  pub below : raw_nest_of v ≤ n
  pub plainly : (levels_of v).mark ≡ plain
  pub some : 1 ≤ n

pub wider : (m n : ℕ) (v : Raw) → m ≤ n → Within m v → Within n v
wider m n v h w =
    let b : raw_nest_of v ≤ m = w.below in
    let s : 1 ≤ m = w.some in
    record { below = omega arith; plainly = w.plainly; some = omega arith }

pub leaf_none : (t : Token) → raw_nest_of (leaf t) ≡ 0
leaf_none t = ap (λ x. x.nest) (levels-out (leaf t))
    ∙ ap (λ f. (levels_step (map-Raw Raw Levels levels_of f)).nest) (outs-Leaf t)

pub leaf_below : (n : ℕ) (t : Token) → raw_nest_of (leaf t) ≤ n
leaf_below n t = let e : raw_nest_of (leaf t) ≡ 0 = leaf_none t in omega arith

pub node_mark : (p : Production) (vs : List Raw) → (levels_of (node p vs)).mark ≡ mark_of p
node_mark p vs = ap (λ x. x.mark) (levels-node p vs)

-- all of them nest no deeper than that
abbrev pub AllBelow : ℕ → List Raw → Type 0
AllBelow n [] = Unit {0}
AllBelow n (v ∷ vs) = (raw_nest_of v ≤ n) × AllBelow n vs

pub append_below : (n : ℕ) (us vs : List Raw) → AllBelow n us → AllBelow n vs
    → AllBelow n (us ++ vs)
append_below n [] vs a b = b
append_below n (u ∷ us) vs a b = (a.0, append_below n us vs a.1 b)

pub reverse_below : (n : ℕ) (vs : List Raw) → AllBelow n vs → AllBelow n (reverse vs)
reverse_below n [] a = tt
reverse_below n (v ∷ vs) a = subst (λ ws. AllBelow n ws) (sym (reverse-append (v ∷ []) vs))
    (append_below n (reverse vs) (v ∷ []) (reverse_below n vs a.1) (a.0, tt))

pub all_wider : (m n : ℕ) (vs : List Raw) → m ≤ n → AllBelow m vs → AllBelow n vs
all_wider m n [] h a = tt
all_wider m n (v ∷ vs) h a =
    let b : raw_nest_of v ≤ m = a.0 in
    (omega arith, all_wider m n vs h a.1)

part_below : (p : Production) → is_left p ≡ false → (a n : ℕ) → a ≤ n → (v : Levels) → v.nest ≤ n
    → with_part p a v ≤ n
part_below p e a n h v b = go (is_left p) (is_arms p) (a == 0) v.mark e
  where
    go : (l r z : Bool) (m : Mark) → l ≡ false
        → cond l (cond z v.nest (left_part a m v.nest))
        (cond r (arm_part a m v.nest) (max a v.nest)) ≤ n
    go true r z m f = absurd (cc)
    go false true z plain f = omega arith
    go false true z deep f = omega arith
    go false true z last f = omega arith
    go false false z m f = omega arith

parts_below : (p : Production) → is_left p ≡ false → (a n : ℕ) → a ≤ n → (vs : List Raw)
    → AllBelow n vs → with_parts p a (map levels_of vs) ≤ n
parts_below p e a n h [] b = h
parts_below p e a n h (v ∷ vs) b = parts_below p e (with_part p a (levels_of v)) n
    (part_below p e a n h (levels_of v) b.0) vs b.1

held_below : (p : Production) → is_left p ≡ false → before_parts p ≡ 0 → (n : ℕ) (vs : List Raw)
    → AllBelow n vs → held p vs ≤ n
held_below p e z n vs b =
    let h : before_parts p ≤ n = omega arith in
    parts_below p e (before_parts p) n h vs b

-- a production that is no level of its own
pub node_below : (p : Production) → is_left p ≡ false → before_parts p ≡ 0
    → ((a : ℕ) → whole_nest p a ≡ a) → (n : ℕ) (vs : List Raw) → AllBelow n vs
    → raw_nest_of (node p vs) ≤ n
node_below p e z w n vs b =
    let h : held p vs ≤ n = held_below p e z n vs b in
    let i : raw_nest_of (node p vs) ≡ held p vs = nest-node p vs ∙ w (held p vs) in
    omega arith

-- one that is a level
pub level_within : (p : Production) → is_left p ≡ false → before_parts p ≡ 0 → mark_of p ≡ plain
    → ((a : ℕ) → whole_nest p a ≡ 1 + a) → (n : ℕ) (vs : List Raw) → AllBelow n vs
    → Within (1 + n) (node p vs)
level_within p e z m w n vs b =
    let h : held p vs ≤ n = held_below p e z n vs b in
    let i : raw_nest_of (node p vs) ≡ 1 + held p vs = nest-node p vs ∙ w (held p vs) in
    record { below = omega arith; plainly = node_mark p vs ∙ m; some = omega arith }

-- one more part after parts that nest to the left
joined : (p : Production) → is_left p ≡ true → (a m : ℕ) → a ≤ m → (v : Levels)
    → v.mark ≡ plain → (n : ℕ) → v.nest ≤ n → with_part p a v ≤ 1 + max m n
joined p e a m h v k n b = go (is_left p) (a == 0) v.mark e k
  where
    go : (l z : Bool) (x : Mark) → l ≡ true → x ≡ plain
        → cond l (cond z v.nest (left_part a x v.nest))
        (cond (is_arms p) (arm_part a x v.nest) (max a v.nest)) ≤ 1 + max m n
    go true true x f g = omega arith
    go true false plain f g = omega arith
    go true false deep f g = absurd (cc)
    go true false last f g = absurd (cc)
    go false z x f g = absurd (cc)

pub chain_more : (p : Production) → is_left p ≡ true → ((a : ℕ) → whole_nest p a ≡ a)
    → mark_of p ≡ plain → (us : List Raw) (m : ℕ) → held p us ≤ m → (v : Raw)
    → (levels_of v).mark ≡ plain → (n : ℕ) → raw_nest_of v ≤ n
    → Within (1 + max m n) (node p (us ++ v ∷ []))
chain_more p e w k us m h v x n b =
    let i : raw_nest_of (node p (us ++ v ∷ [])) ≡ with_part p (held p us) (levels_of v) =
    nest-node p (us ++ v ∷ []) ∙ w (held p (us ++ v ∷ [])) ∙ held-append p us (v ∷ []) in
    let j : with_part p (held p us) (levels_of v) ≤ 1 + max m n =
    joined p e (held p us) m h (levels_of v) x n b in
    record {
      below = omega arith;
      plainly = node_mark p (us ++ v ∷ []) ∙ k;
      some = omega arith;
    }

-- the first part alone
pub first_held : (p : Production) → before_parts p ≡ 0 → (v : Raw) (n : ℕ) → raw_nest_of v ≤ n
    → held p (v ∷ []) ≤ n
first_held p z v n b = subst (λ a. with_part p a (levels_of v) ≤ n) (sym z)
    (go (is_left p) (is_arms p) (levels_of v).mark)
  where
    go : (l r : Bool) (m : Mark)
        → cond l (raw_nest_of v) (cond r (arm_part 0 m (raw_nest_of v))
        (max 0 (raw_nest_of v))) ≤ n
    go true r m = b
    go false true plain = omega arith
    go false true deep = omega arith
    go false true last = omega arith
    go false false m = omega arith

pub parens_within : (v : Raw) (n : ℕ) → 1 ≤ n → raw_nest_of v ≤ n
    → Within n (node production.Parens (v ∷ []))
parens_within v n s b =
    let e : raw_nest_of (node production.Parens (v ∷ [])) ≡ max 1 (max 0 (raw_nest_of v)) =
    nest-node production.Parens (v ∷ []) in
    record {
      below = omega arith;
      plainly = node_mark production.Parens (v ∷ []);
      some = s;
    }

pub at_within : (k : ℕ) (f : Form) (n : ℕ) → Within n f.raw → Within n (at k f)
at_within k f n w = go (nat_le f.place k)
  where
    go : (b : Bool) → Within n (cond b f.raw (node production.Parens (f.raw ∷ [])))
    go true = w
    go false = parens_within f.raw n w.some w.below

abbrev pub AllWithin : ℕ → List Form → Type 0
AllWithin n [] = Unit {0}
AllWithin n (f ∷ fs) = Within n f.raw × AllWithin n fs

pub all_at_below : (k n : ℕ) (fs : List Form) → AllWithin n fs → AllBelow n (all_at k fs)
all_at_below k n [] a = tt
all_at_below k n (f ∷ fs) a = ((at_within k f n a.0).below, all_at_below k n fs a.1)
