-- Lists, operators and conditionals that are printed nest no deeper than what they mean.
use Rattle.std.proofs.Common.{◌≡◌, ℕ, ◌+◌, ◌≤◌, max, List, [], ◌∷◌, ◌++◌, map, Bool, true, false}
use Rattle.std.proofs.Common.{cond, ◌&&◌, refl, sym, ◌∙◌, ap, arith}
use Rattle.expr_keys.specs.declared.keys.Key.{Key}
use Rattle.expr_keys.specs.declared.tokens.Token.TheVariants as token
use Rattle.expr_keys.specs.declared.productions.Level.{Level}
use Rattle.expr_keys.specs.declared.productions.Production.TheVariants as production
use Rattle.expr_terms.specs.declared.raws.Raw.{Raw}
use Rattle.expr_terms.specs.declared.raws.Raw.TheVariants.{Node as node, rolls-Node}
use Rattle.expr_terms.specs.declared.raws.Raw.TheViews.{out-Raw, roll-Raw, roll-out-Raw}
use Rattle.expr_terms.specs.declared.raws.Raw.TheOpen.{Raw-F, Leaf, Node}
use Rattle.expr_terms.specs.Nest.{raw_nest_of, is_left_level, whole_nest}
use Rattle.expr_grammar.specs.ExprNest.Held.{held}
use Rattle.expr_grammar.proofs.ExprNest.Levels.{nest-node}
use Rattle.expr_raws.specs.PathRaws.Forms.{Form, below, single, list, signs, at, all_at, in_parentheses}
use Rattle.expr_raws.specs.PathRaws.Forms.{key_leaf}
use Rattle.expr_raws.specs.ControlRaws.Operators.{tail, once, is_chain_of, chain_parts, or_first, is_mark}
use Rattle.expr_raws.specs.ControlRaws.Operators.{operands, left, many, listed, signed, ArmForm, arm_parts}
use Rattle.expr_raws.specs.ControlRaws.Operators.{conditional}
use Rattle.expr_raws.specs.ControlRaws.Types.{of_type}
use Rattle.expr_raws.proofs.ControlRaws.Chains.{chain_of}
use Rattle.raw_laws.proofs.NestRaws.Within.{Within, leaf_below, node_mark, AllBelow, reverse_below}
use Rattle.raw_laws.proofs.NestRaws.Within.{all_wider, node_below, level_within, chain_more, first_held}
use Rattle.raw_laws.proofs.NestRaws.Within.{parens_within, at_within, AllWithin, all_at_below, wider}
use Rattle.raw_laws.proofs.NestRaws.Paths.{nothing_within}

tail_below : (l : Level) (k : Key) (b : Form) (n : ℕ) → Within n b.raw
    → raw_nest_of (tail l k b) ≤ n
tail_below l k b n w = node_below (production.OperatorTail l) refl refl (λ a. refl) n
    (key_leaf k ∷ at (below l) b ∷ [])
    (leaf_below n (token.Key k), ((at_within (below l) b n w).below, tt))

-- the nest of operators that follow one another is that of their parts
flat : (l : Level) → is_left_level l ≡ true → (a : ℕ) → whole_nest (production.OperatorChain l) a ≡ a
flat l e a = ap (λ b. cond b a (1 + a)) e

-- one operator more after the operands so far
tailed : (l : Level) → is_left_level l ≡ true → (k : Key) (us : List Raw) (b : Form) (m n : ℕ)
    → held (production.OperatorChain l) us ≤ m → Within n b.raw
    → Within (1 + max m n) (node (production.OperatorChain l) (us ++ tail l k b ∷ []))
tailed l e k us b m n h w = chain_more (production.OperatorChain l) e (flat l e) refl us m h (tail l k b)
    (node_mark (production.OperatorTail l) (key_leaf k ∷ at (below l) b ∷ [])) n
    (tail_below l k b n w)

pub once_within : (l : Level) → is_left_level l ≡ true → (k : Key) (a b : Form) (m n : ℕ)
    → Within m a.raw → Within n b.raw → Within (1 + max m n) (once l k a b).raw
once_within l e k a b m n wa wb = tailed l e k (at (below l) a ∷ []) b m n
    (first_held (production.OperatorChain l) refl (at (below l) a) m (at_within (below l) a m wa).below) wb

pub of_type_within : (l : Level) → is_left_level l ≡ true → (a t : Form) (m : ℕ)
    → Within m a.raw → raw_nest_of t.raw ≤ 0 → Within (1 + m) (of_type l a t).raw
of_type_within l e a t m wa h =
    let o : raw_nest_of (node (production.OperatorTail l) (t.raw ∷ [])) ≤ 0 =
    node_below (production.OperatorTail l) refl refl (λ x. refl) 0 (t.raw ∷ []) (h, tt) in
    let s : 1 + max m 0 ≤ 1 + m = omega arith in
    wider (1 + max m 0) (1 + m) (of_type l a t).raw s
    (chain_more (production.OperatorChain l) e (flat l e) refl (at (below l) a ∷ []) m
    (first_held (production.OperatorChain l) refl (at (below l) a) m (at_within (below l) a m wa).below)
    (node (production.OperatorTail l) (t.raw ∷ []))
    (node_mark (production.OperatorTail l) (t.raw ∷ [])) 0 o)

operands_held : (l : Level) → is_left_level l ≡ true → (k : Key) (a : Form) (m : ℕ)
    → Within m a.raw → held (production.OperatorChain l) (operands l k a) ≤ m
operands_held l e k a m w = pick (is_mark k && a.unmarked)
  where
    alone : (v : Raw) → Within m v → held (production.OperatorChain l) (v ∷ []) ≤ m
    alone v x = first_held (production.OperatorChain l) refl v m x.below

    first : (us : List Raw) → held (production.OperatorChain l) us ≤ m
        → held (production.OperatorChain l) (or_first us (at (below l) a)) ≤ m
    first [] h = alone (at (below l) a) (at_within (below l) a m w)
    first (u ∷ us) h = h

    go : (f : Raw-F Raw) → roll-Raw f ≡ a.raw → held (production.OperatorChain l) (chain_parts l f) ≤ m
    go (Leaf t) o = omega arith
    go (Node p vs) o = parts (is_chain_of l p) refl
      where
        parts : (b : Bool) → is_chain_of l p ≡ b → held (production.OperatorChain l) (cond b vs []) ≤ m
        parts false i = omega arith
        parts true i =
            let is : node (production.OperatorChain l) vs ≡ a.raw =
            ap (λ q. node q vs) (sym (chain_of l p i)) ∙ sym (rolls-Node p vs) ∙ o in
            let x : raw_nest_of a.raw ≡ held (production.OperatorChain l) vs =
            sym (ap (λ v. raw_nest_of v) is) ∙ nest-node (production.OperatorChain l) vs
            ∙ flat l e (held (production.OperatorChain l) vs) in
            let y : raw_nest_of a.raw ≤ m = w.below in
            omega arith

    pick : (b : Bool) → held (production.OperatorChain l) (cond b (in_parentheses a ∷ [])
        (or_first (chain_parts l (out-Raw a.raw)) (at (below l) a))) ≤ m
    pick true = alone (in_parentheses a) (parens_within a.raw m w.some w.below)
    pick false = first (chain_parts l (out-Raw a.raw)) (go (out-Raw a.raw) (roll-out-Raw a.raw))

pub left_within : (l : Level) → is_left_level l ≡ true → (k : Key) (a b : Form) (m n : ℕ)
    → Within m a.raw → Within n b.raw → Within (1 + max m n) (left l k a b).raw
left_within l e k a b m n wa wb =
    tailed l e k (operands l k a) b m n (operands_held l e k a m wa) wb

tails_below : (l : Level) (k : Key) (n : ℕ) (fs : List Form) → AllWithin n fs
    → AllBelow n (map (λ f. tail l k f) fs)
tails_below l k n [] a = tt
tails_below l k n (f ∷ fs) a = (tail_below l k f n a.0, tails_below l k n fs a.1)

pub many_within : (l : Level) → is_left_level l ≡ false → (k : Key) (fs : List Form) (n : ℕ)
    → AllWithin n fs → (many l k fs).can ≡ true → Within (1 + n) (many l k fs).raw
many_within l e k [] n a c = absurd (cc)
many_within l e k (f ∷ []) n a c = absurd (cc)
many_within l e k (f ∷ g ∷ fs) n a c = level_within (production.OperatorChain l) e refl refl
    (λ x. ap (λ b. cond b x (1 + x)) e) n (at (below l) f ∷ map (λ x. tail l k x) (g ∷ fs))
    ((at_within (below l) f n a.0).below, tails_below l k n (g ∷ fs) a.1)

pub listed_within : (fs : List Form) (n : ℕ) → AllWithin n fs → (listed fs).can ≡ true
    → Within (1 + n) (listed fs).raw
listed_within [] n a c =
    let h : 1 ≤ 1 + n = omega arith in
    wider 1 (1 + n) (listed []).raw h nothing_within
listed_within (f ∷ []) n a c = absurd (cc)
listed_within (f ∷ g ∷ fs) n a c = level_within production.ExprList refl refl refl (λ x. refl) n
    (all_at single (f ∷ g ∷ fs)) (all_at_below single n (f ∷ g ∷ fs) a)

pub signed_within : (k : Key) (a : Form) (n : ℕ) → Within n a.raw
    → Within (1 + n) (signed k a).raw
signed_within k a n w = level_within production.Signed refl refl refl (λ x. refl) n
    (key_leaf k ∷ at signs a ∷ []) (leaf_below n (token.Key k), ((at_within signs a n w).below, tt))

-- conditionals

abbrev pub AllArms : ℕ → List ArmForm → Type 0
AllArms n [] = Unit {0}
AllArms n (a ∷ arms) = (Within n a.test.raw × Within n a.first.raw) × AllArms n arms

arms_below : (n : ℕ) (arms : List ArmForm) (v : Raw) → AllArms n arms → raw_nest_of v ≤ n
    → AllBelow n (arm_parts arms v)
arms_below n [] v a b = (b, tt)
arms_below n (f ∷ arms) v a b = (
  (at_within list f.test n a.0.0).below,
  ((at_within single f.first n a.0.1).below, arms_below n arms v a.1 b),
)

pub if_within : (arms : List ArmForm) (e : Form) (n : ℕ) → AllArms n arms → Within n e.raw
    → Within (1 + n) (conditional arms e).raw
if_within arms e n a w =
    let vs : List Raw = arm_parts arms (at single e) in
    level_within production.IfExpr refl refl refl (λ x. refl) n _
    (reverse_below n vs (arms_below n arms (at single e) a (at_within single e n w).below))
