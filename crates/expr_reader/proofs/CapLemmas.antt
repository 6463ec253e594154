-- Counts that end past every limit.
use Rattle.std.proofs.Common.{◌≡◌, ℕ, zero, suc, length, drop, ◌+◌, ◌<◌, ◌≤◌, ◌==◌, max, min, Bool}
use Rattle.std.proofs.Common.{true, false, cond, ◌&&◌, List, [], ◌∷◌, ◌++◌, refl, sym, subst, ap}
use Rattle.std.proofs.Common.{append-nil, arith}
use Rattle.std.proofs.Math.Dec.{eqb-suc-zero}
use Rattle.expr_reader.specs.TokenNames.{Token}
use Rattle.expr_reader.specs.Terms.{Class, Symbol, tok, Production, operator_chain, else_expr, if_expr}
use Rattle.expr_reader.specs.RawNames.{Raw, leaf}
use Rattle.expr_terms.specs.Productions.{body, keeps, passes}
use Rattle.expr_terms.specs.Raws.{keep, build, is_parens, is_otherwise, is_conditional, only_inner}
use Rattle.expr_terms.specs.Nest.{Mark, plain, deep, last, Levels, levels_of, raw_nest_of}
use Rattle.expr_terms.specs.Nest.{is_left_level, is_left, is_arms, with_part, left_part, arm_part}
use Rattle.expr_terms.specs.Nest.{whole_nest}
use Rattle.expr_grammar.specs.ExprNest.Held.{held, is_alone, built_nest}
use Rattle.expr_grammar.specs.declared.expr_nest.measures.Measure.{Measure}
use Rattle.expr_grammar.specs.declared.expr_nest.measures.Measure.TheVariants.{Whole, Predicates}
use Rattle.expr_grammar.specs.ExprNest.Measures.{is_step, is_outside, predicate_nest_of, widest, counted}
use Rattle.expr_grammar.specs.ExprNest.Measures.{held_by, built_within, nest_by}
use Rattle.expr_grammar.proofs.ExprNest.Built.{nest_of_build}
use Rattle.expr_grammar.proofs.ExprNest.Levels.{held-append}
use Rattle.expr_grammar.proofs.ExprNest.Within.{within-leaf, widest-append, within_of_build}
use Rattle.expr_reader.specs.Counts.{SameCount, chosen}
use Rattle.expr_reader.proofs.CountLemmas.{leaf-kept}

wrong : {P : Type 0} → false ≡ true → P
wrong e = cc

-- .. or just below
abbrev Close : ℕ → ℕ → Type 0
Close a b = min 65599 a ≡ min 65599 b

-- the same number, or both are past every limit
same_zero : (a b : ℕ) → SameCount a b → (a == 0) ≡ (b == 0)
same_zero zero zero e = refl
same_zero zero (suc b) e = absurd (omega arith)
same_zero (suc a) zero e = absurd (omega arith)
same_zero (suc a) (suc b) e = grind arith

left_same : (a b n r : ℕ) (k : Mark) → SameCount a b → SameCount n r
    → SameCount (left_part a k n) (left_part b k r)
left_same a b n r plain e f = omega arith
left_same a b n r deep e f = omega arith
left_same a b n r last e f = omega arith

arm_close : (a b n r : ℕ) (k : Mark) → SameCount a b → SameCount n r
    → Close (arm_part a k n) (arm_part b k r)
arm_close a b n r plain e f = omega arith
arm_close a b n r deep e f = omega arith
arm_close a b n r last e f = omega arith

closer : (a b : ℕ) → SameCount a b → Close a b
closer a b e = omega arith

capped : (a b : ℕ) → SameCount a b → SameCount (min a 70000) b
capped a b e = omega arith

capped_close : (a b : ℕ) → Close a b → Close (min a 70000) b
capped_close a b e = omega arith

abbrev part : ℕ → Mark → Levels
part n k = record { nest = n; mark = k }

part_close : (p : Production) (a b n r : ℕ) (k : Mark) → SameCount a b → SameCount n r
    → Close (with_part p a (part n k)) (with_part p b (part r k))
part_close p a b n r k e f = go (is_left p) (is_arms p) (a == 0) (b == 0) (same_zero a b e)
  where
    go : (c d y z : Bool) → y ≡ z → Close (cond c (cond y n (left_part a k n)) (cond d (arm_part a
        k n) (max a n))) (cond c (cond z r (left_part b k r)) (cond d (arm_part b k r) (max b r)))
    go true d true true h = closer n r f
    go true d true false h = wrong (sym h)
    go true d false true h = wrong h
    go true d false false h = closer _ _ (left_same a b n r k e f)
    go false true y z h = arm_close a b n r k e f
    go false false y z h = omega arith

part_same : (p : Production) (a b n r : ℕ) (k : Mark) → is_arms p ≡ false → SameCount a b
    → SameCount n r → SameCount (with_part p a (part n k)) (with_part p b (part r k))
part_same p a b n r k g e f = go (is_left p) (is_arms p) (a == 0) (b == 0) g (same_zero a b e)
  where
    go : (c d y z : Bool) → d ≡ false → y ≡ z
        → SameCount (cond c (cond y n (left_part a k n)) (cond d (arm_part a k n) (max a n)))
        (cond c (cond z r (left_part b k r)) (cond d (arm_part b k r) (max b r)))
    go true d true true g h = f
    go true d true false g h = wrong (sym h)
    go true d false true g h = wrong h
    go true d false false g h = left_same a b n r k e f
    go false true y z g h = wrong (sym g)
    go false false y z g h = omega arith

alone_more : (vs : List Raw) (v : Raw) → is_alone (vs ++ v ∷ []) ≡ (length vs == 0)
alone_more [] v = refl
alone_more (u ∷ []) v = refl
alone_more (u ∷ x ∷ vs) v = sym (eqb-suc-zero (length (x ∷ vs)))

counted_close : (m : Measure) (p : Production) (a b x y : ℕ) (alone : Bool) → Close a x
    → Close b y → Close (counted m p a b alone) (counted m p x y alone)
counted_close Whole p a b x y alone e f = e
counted_close Predicates p a b x y alone e f = go (is_step p) (is_outside p) (alone && passes p)
  where
    go : (c d g : Bool) → Close (cond c a (cond d b (cond g b a))) (cond c x (cond d y (cond g y
        x)))
    go true d g = e
    go false true g = f
    go false false true = f
    go false false false = e

arms_whole : (m : Measure) (p : Production) (a b : ℕ) (alone : Bool) → is_arms p ≡ true
    → counted m p a b alone ≡ a
arms_whole Whole p a b alone e = refl
arms_whole Predicates if_expr a b true e = refl
arms_whole Predicates if_expr a b false e = refl
arms_whole Predicates else_expr a b true e = refl
arms_whole Predicates else_expr a b false e = refl
arms_whole Predicates _ a b alone e = wrong e

-- one more part
module _ (p : Production) (vs : List Raw) (v : Raw) (a b n i : ℕ) (sa : SameCount a (held p vs))
    (sb : SameCount b (widest vs)) (sn : SameCount n (raw_nest_of v)) (si : SameCount i
    (predicate_nest_of v)) where
  abbrev more : ℕ
  more = min (with_part p a (part n (levels_of v).mark)) 70000

  abbrev wider : ℕ
  wider = min (max b i) 70000

  held_more : held p (vs ++ v ∷ []) ≡ with_part p (held p vs) (levels_of v)
  held_more = held-append p vs (v ∷ [])

  widest_more : widest (vs ++ v ∷ []) ≡ max (widest vs) (max (predicate_nest_of v) 0)
  widest_more = widest-append vs (v ∷ [])

  more_close : Close more (held p (vs ++ v ∷ []))
  more_close = rw held_more (capped_close _ _ (part_close p a (held p vs) n (raw_nest_of v)
      (levels_of v).mark sa sn))

  wider_same : SameCount wider (widest (vs ++ v ∷ []))
  wider_same = rw widest_more (omega arith)

  counted_more : (m : Measure) → Close (counted m p more wider (length vs == 0)) (held_by m p (vs
      ++ v ∷ []))
  counted_more m = rw (alone_more vs v) (counted_close m p more wider (held p (vs ++ v ∷ []))
      (widest (vs ++ v ∷ [])) (length vs == 0) more_close (closer _ _ wider_same))

  too_many : (m : Measure) (k : ℕ) → k < 65536 → k < counted m p more wider (length vs == 0)
      → k < held_by m p (vs ++ v ∷ [])
  too_many m k s h = let c = counted_more m in omega arith

  same_more : (m : Measure) (k : ℕ) → k < 65536 → counted m p more wider (length vs == 0) ≤ k
      → SameCount more (held p (vs ++ v ∷ []))
  same_more m k s h = go (is_arms p) refl
    where
      exact : more ≤ k → SameCount more (held p (vs ++ v ∷ []))
      exact l = let c = more_close in omega arith

      go : (c : Bool) → is_arms p ≡ c → SameCount more (held p (vs ++ v ∷ []))
      go true e = exact (rw (arms_whole m p more wider (length vs == 0) e) at h)
      go false e = rw held_more (capped _ _ (part_same p a (held p vs) n (raw_nest_of v)
          (levels_of v).mark e sa sn))

-- .. as the code counts
module _ (p : Production) (vs : List Raw) (v : Raw) (a b n i x y k c : ℕ) (m : Measure) (d : Bool)
  where
    abbrev Counted : Type 0
    Counted = (x ≡ min (with_part p a (part n (levels_of v).mark)) 70000) × (y ≡ min (max b i)
        70000) × (d ≡ (length vs == 0)) × (c ≡ counted m p x y d) × (k < 65536)

    pub part_is_dropped : SameCount a (held p vs) → SameCount b (widest vs)
        → SameCount n (raw_nest_of v) → SameCount i (predicate_nest_of v) → Counted → k < c
        → k < held_by m p (vs ++ v ∷ [])
    part_is_dropped sa sb sn si e h = too_many p vs v a b n i sa sb sn si m k e.4 (rw (
      ← e.0,
      ← e.1,
      ← e.2,
      ← e.3,
    ) h)

    pub part_is_kept : SameCount a (held p vs) → SameCount b (widest vs)
        → SameCount n (raw_nest_of v) → SameCount i (predicate_nest_of v) → Counted → c ≤ k
        → SameCount x (held p (vs ++ v ∷ [])) × SameCount y (widest (vs ++ v ∷ []))
    part_is_kept sa sb sn si e h = (
      subst (λ z. SameCount z (held p (vs ++ v ∷ []))) (sym e.0) (same_more p vs v a b n i sa sb sn
          si m k e.4 (rw (← e.0, ← e.1, ← e.2, ← e.3) h)),
      subst (λ z. SameCount z (widest (vs ++ v ∷ []))) (sym e.1) (wider_same p vs v a b n i sa sb sn
          si),
    )

-- a token more
pub kept_same : (p : Production) (n : ℕ) (c : Class) (ss : List Symbol) (t : Token) (vs : List
    Raw) (a : ℕ) → drop n (body p) ≡ tok c ∷ ss → SameCount a (held p vs)
    → SameCount a (held p (vs ++ keep c t []))
kept_same p n c ss t vs a e s = rw (leaf-kept p n c ss t vs e) s

kept_widest : (c : Class) (t : Token) (vs : List Raw) → widest (vs ++ keep c t []) ≡ widest vs
kept_widest c t vs = go (keeps c)
  where
    go : (b : Bool) → widest (vs ++ cond b (leaf t ∷ []) []) ≡ widest vs
    go true = let h = widest-append vs (leaf t ∷ []) in let z = within-leaf t in omega arith
    go false = ap widest (append-nil vs)

pub kept_within : (c : Class) (t : Token) (vs : List Raw) (a : ℕ) → SameCount a (widest vs)
    → SameCount a (widest (vs ++ keep c t []))
kept_within c t vs a s = rw (kept_widest c t vs) s

pub ruleset kept = (kept_same, kept_within)

-- the value of a production
whole_same : (p : Production) (a b : ℕ) → SameCount a b
    → SameCount (whole_nest p a) (whole_nest p b)
whole_same (operator_chain l) a b e = go (is_left_level l)
  where
    go : (c : Bool) → SameCount (cond c a (1 + a)) (cond c b (1 + b))
    go true = e
    go false = omega arith
whole_same _ a b e = omega arith

built_same : (p : Production) (vs : List Raw) (a b : ℕ) → SameCount a b
    → SameCount (built_nest p a vs) (built_nest p b vs)
built_same p vs a b e = go (is_parens p) (is_otherwise p) (is_conditional p) (only_inner vs)
    (is_alone vs && passes p)
  where
    go : (c d f g h : Bool) → SameCount (cond c (max 1 a) (cond d (cond g a (1 + a)) (cond f (1 +
        a) (cond h a (whole_nest p a))))) (cond c (max 1 b) (cond d (cond g b (1 + b)) (cond f (1
        + b) (cond h b (whole_nest p b)))))
    go true d f g h = omega arith
    go false true f true h = e
    go false true f false h = omega arith
    go false false true g h = omega arith
    go false false false g true = e
    go false false false g false = whole_same p a b e

pub closed_same : (p : Production) (vs : List Raw) (a : ℕ) → SameCount a (held p vs)
    → SameCount (built_nest p a vs) (raw_nest_of (build p vs))
closed_same p vs a s = rw (nest_of_build p vs) (built_same p vs a (held p vs) s)

pub closed_within : (p : Production) (vs : List Raw) (a b : ℕ) → SameCount a (held p vs)
    → SameCount b (widest vs) → SameCount (built_within p a b (built_nest p a vs) (is_alone vs))
    (predicate_nest_of (build p vs))
closed_within p vs a b s r = rw (within_of_build p vs) (go (is_step p) (is_outside p) (is_alone vs
    && passes p))
  where
    go : (c d g : Bool) → SameCount (cond c a (cond d b (cond g b (built_nest p a vs)))) (cond c
        (held p vs) (cond d (widest vs) (cond g (widest vs) (built_nest p (held p vs) vs))))
    go true d g = s
    go false true g = r
    go false false true = r
    go false false false = built_same p vs a (held p vs) s

pub ruleset closings = (closed_same, closed_within)

-- what counts of a value
pub chosen_past : (m : Measure) (v : Raw) (a b k : ℕ) → SameCount a (raw_nest_of v)
    → SameCount b (predicate_nest_of v) → k < 65536 → k < chosen m a b → k < nest_by m v
chosen_past Whole v a b k s r l h = omega arith
chosen_past Predicates v a b k s r l h = omega arith

pub chosen_within : (m : Measure) (v : Raw) (a b k : ℕ) → SameCount a (raw_nest_of v)
    → SameCount b (predicate_nest_of v) → k < 65536 → chosen m a b ≤ k → nest_by m v ≤ k
chosen_within Whole v a b k s r l h = omega arith
chosen_within Predicates v a b k s r l h = omega arith

pub ruleset choosing = (chosen_past, chosen_within)
