-- No expression nests more than one level deeper than it has tokens.
use Rattle.std.proofs.Common.{◌≡◌, ℕ, ◌+◌, ◌≤◌, max, map, Bool, true, false, cond, ◌&&◌, ◌==◌, nat_le, List, [], ◌∷◌, length, refl, sym, ◌∙◌, ap, subst, arith}
use Rattle.std.proofs.lemmas.Bool.{and_parts, leb-true}
use Rattle.expr_terms.specs.declared.raws.Raw.TheVariants.{outs-Leaf}
use Rattle.expr_terms.specs.declared.raws.Raw.TheFolds.{map-Raw}
use Rattle.expr_keys.specs.declared.productions.Level.TheVariants.{Additive as additive_level}
use Rattle.expr_length.specs.TokenNames.{Token}
use Rattle.expr_length.specs.Terms.{Language, Level, or_level, and_level, comparison_level, range_level, multiplicative_level, union_level, intersect_level, instance_of_level, treat_level, castable_level, cast_level, Nonterminal, expr, expr_single, primary_expr, level, tail, path_expr, after_root, relative_path_expr, step_expr, step_more, Class, Symbol, one, many, Production, expr_list, operator_chain, filter_step, steps, root_steps, rooted_deep, parens, else_expr, if_expr, operator_tail}
use Rattle.expr_length.specs.RawNames.{Raw, leaf}
use Rattle.expr_terms.specs.Productions.{body, head, keeps, passes}
use Rattle.expr_terms.specs.Raws.{keep, build, only_inner}
use Rattle.expr_terms.specs.Nest.{Mark, plain, deep, last, Levels, levels_step, levels_of, raw_nest_of, before_parts, is_left, is_left_level, is_arms, left_part, arm_part, with_part, with_parts, whole_nest}
use Rattle.expr_grammar.specs.Grammar.{Derives, by, Seq, end, taken, next, without, with, stop, again, bare, given, Spells}
use Rattle.expr_grammar.specs.ExprNest.Held.{held, is_alone, built_nest}
use Rattle.expr_grammar.proofs.ExprNest.Built.{nest_of_build}
use Rattle.expr_grammar.proofs.ExprNest.Levels.{levels-out}
use Rattle.expr_length.proofs.Spare.{spare, shortest, least, fits, adds, floor, margin, fine, fine_operated}
use Rattle.expr_length.proofs.Shallow.{Shallow, step_shallow}

-- what is known of a value of the nonterminal
pub record Claim (n : Nonterminal) (v : Raw) (ts rest : List Token) : Type 0 where
  pub tokens : ℕ
  pub are : length ts ≡ tokens + length rest
  pub some : shortest n ≤ tokens
  pub nests : raw_nest_of v + spare n ≤ tokens + 1

-- .. and of the parts of a production, after so many tokens
pub record Parts (p : Production) (m a u : ℕ) (vs : List Raw) (ss : List Symbol) (ts rest : List Token) : Type 0 where
  pub tokens : ℕ
  pub are : length ts ≡ tokens + length rest
  pub enough : least ss ≤ tokens
  pub nests : with_parts p a (map levels_of vs) + m ≤ (u + tokens) + 1

-- one more part of a production whose parts stand beside each other
pub beside : (p : Production) (a : ℕ) (v : Levels) → is_left p ≡ false → with_part p a v ≤ max a v.nest
beside p a v e = rw e (at (is_arms p) v.mark)
  where
    at : (b : Bool) (k : Mark) → cond b (arm_part a k v.nest) (max a v.nest) ≤ max a v.nest
    at true plain = omega arith
    at true deep = omega arith
    at true last = omega arith
    at false k = omega arith

leaf_levels : (t : Token) → levels_of (leaf t) ≡ record { nest = 0; mark = plain }
leaf_levels t = levels-out (leaf t) ∙ ap (λ f. levels_step (map-Raw Raw Levels levels_of f)) (outs-Leaf t)

pub beside_leaf : (p : Production) (a : ℕ) (t : Token) → is_left p ≡ false → with_part p a (levels_of (leaf t)) ≡ a
beside_leaf p a t e = rw (leaf_levels t, e) (at (is_arms p))
  where
    at : (b : Bool) → cond b (max a 0) (max a 0) ≡ a
    at true = omega arith
    at false = omega arith

pub kept : (p : Production) (a : ℕ) (c : Class) (t : Token) (vs : List Raw) → is_left p ≡ false → with_parts p a (map levels_of (keep c t vs)) ≡ with_parts p a (map levels_of vs)
kept p a c t vs e = go (keeps c)
  where
    go : (b : Bool) → with_parts p a (map levels_of (cond b (leaf t ∷ vs) vs)) ≡ with_parts p a (map levels_of vs)
    go true = ap (λ x. with_parts p x (map levels_of vs)) (beside_leaf p a t e)
    go false = refl

-- .. and of one whose parts nest to the left
pub leftward : (p : Production) (a : ℕ) (v : Levels) → is_left p ≡ true → with_part p a v ≤ 1 + max (1 + max a 1) v.nest
leftward p a v e = rw e (at (a == 0) v.mark)
  where
    at : (b : Bool) (k : Mark) → cond b v.nest (left_part a k v.nest) ≤ 1 + max (1 + max a 1) v.nest
    at true k = omega arith
    at false plain = omega arith
    at false deep = omega arith
    at false last = omega arith

pub left_shallow : (a : ℕ) (k : Mark) (n : ℕ) → (k ≡ deep → ⊥) → left_part a k n ≡ 1 + max a n
left_shallow a plain n h = refl
left_shallow a deep n h = absurd (h refl)
left_shallow a last n h = refl

pub whole_bound : (p : Production) (a : ℕ) → whole_nest p a ≤ adds p + max (floor p) a
whole_bound (operator_chain l) a = go (is_left_level l)
  where
    go : (b : Bool) → cond b a (1 + a) ≤ cond b 0 1 + max 0 a
    go true = omega arith
    go false = omega arith
whole_bound _ a = omega arith

-- the whole counts its own level and its parts
pub plain_bound : (p : Production) (a : ℕ) (b : Bool) → cond b a (whole_nest p a) ≤ adds p + max (floor p) a
plain_bound p a true = omega arith
plain_bound p a false = whole_bound p a

pub built_bound : (p : Production) (a : ℕ) (vs : List Raw) → built_nest p a vs ≤ adds p + max (floor p) a
built_bound parens a vs = omega arith
built_bound else_expr a vs = go (only_inner vs)
  where
    go : (b : Bool) → cond b a (1 + a) ≤ 1 + max 0 a
    go true = omega arith
    go false = omega arith
built_bound if_expr a vs = omega arith
built_bound p a vs = plain_bound p a (is_alone vs && passes p)

pub before_none : (p : Production) → is_left p ≡ false → before_parts p ≡ 0
before_none root_steps e = absurd cc
before_none rooted_deep e = absurd cc
before_none _ e = refl

short_some : (n : Nonterminal) → 1 ≤ shortest n
short_some step_more = omega arith
short_some (tail l) = omega arith
short_some _ = omega arith

finish_flat : {ts rest : List Token} (p : Production) (vs : List Raw) → is_left p ≡ false → fine p ≡ true → Parts p (margin p) (before_parts p) 0 vs (body p) ts rest → Claim (head p) (build p vs) ts rest
finish_flat p vs i f r =
    let a = and_parts (fits (margin p) 0 (body p)) (nat_le (margin p + floor p) (1 + least (body p)) && nat_le (shortest (head p)) (least (body p))) f in
    let b = and_parts (nat_le (margin p + floor p) (1 + least (body p))) (nat_le (shortest (head p)) (least (body p))) a.1 in
    let low : margin p + floor p ≤ 1 + least (body p) = leb-true _ _ b.0 in
    let short : shortest (head p) ≤ least (body p) = leb-true _ _ b.1 in
    let n = nest_of_build p vs in
    let g = built_bound p (held p vs) vs in
    let e = r.enough in
    let h : held p vs + margin p ≤ (0 + r.tokens) + 1 = r.nests in
    record { tokens = r.tokens; are = r.are; some = omega arith; nests = omega arith }

-- the same where some parts are known
finish_some : {ts rest : List Token} (p : Production) (n : Nonterminal) (vs : List Raw) (ss : List Symbol) → floor p ≡ 0 → Parts p (adds p + spare n) (before_parts p) 0 vs ss ts rest → shortest n ≤ least ss → Claim n (build p vs) ts rest
finish_some p n vs ss f r t =
    let b = nest_of_build p vs in
    let g = built_bound p (held p vs) vs in
    let e = r.enough in
    let h : held p vs + (adds p + spare n) ≤ (0 + r.tokens) + 1 = r.nests in
    record { tokens = r.tokens; are = r.are; some = omega arith; nests = omega arith }

-- two of them at least
several : {ts mid low rest : List Token} (p : Production) (m : ℕ) (n k : Nonterminal) (v w : Raw) (ws : List Raw) → is_left p ≡ false → Claim n v ts mid → Claim k w mid low → ((a u : ℕ) → 2 ≤ u → a + m ≤ u + 1 → Parts p m a u ws (many k ∷ []) low rest) → before_parts p ≡ 0 → m ≤ spare n + 1 → m ≤ spare k + 1 → Parts p m (before_parts p) 0 (v ∷ w ∷ ws) (one n ∷ one k ∷ []) ts rest
several p m n k v w ws i a b more z g h =
    let a1 = a.are in
    let a2 = a.some in
    let a3 = a.nests in
    let b1 = b.are in
    let b2 = b.some in
    let b3 = b.nests in
    let sn = short_some n in
    let sk = short_some k in
    let x = beside p (before_parts p) (levels_of v) i in
    let y = beside p (with_part p (before_parts p) (levels_of v)) (levels_of w) i in
    let r = more (with_part p (with_part p (before_parts p) (levels_of v)) (levels_of w)) (a.tokens + b.tokens) (omega arith) (omega arith) in
    let r1 = r.are in
    let r3 = r.nests in
    record { tokens = (a.tokens + b.tokens) + r.tokens; are = omega arith; enough = omega arith; nests = omega arith }

-- one part more to the left
left_more : {ts mid rest : List Token} (p : Production) (m a u : ℕ) (k : Nonterminal) (v : Raw) (vs : List Raw) → is_left p ≡ true → 2 ≤ shortest k → m ≤ u → 1 + m ≤ spare k + u → a + m ≤ u + 1 → (c : Claim k v ts mid) → ((b : ℕ) → b + m ≤ (u + c.tokens) + 1 → Parts p m b (u + c.tokens) vs [] mid rest) → Parts p m a u (v ∷ vs) [] ts rest
left_more p m a u k v vs i h e f b c more =
    let c1 = c.are in
    let c2 = c.some in
    let c3 = c.nests in
    let w = leftward p a (levels_of v) i in
    let r = more (with_part p a (levels_of v)) (omega arith) in
    let r1 = r.are in
    let r3 = r.nests in
    record { tokens = c.tokens + r.tokens; are = omega arith; enough = omega arith; nests = omega arith }

-- a level of operators that associate to the left
left_level : {ts mid rest : List Token} (l : Level) (n : Nonterminal) (v : Raw) (vs : List Raw) → is_left_level l ≡ true → (c : Claim n v ts mid) → Parts (operator_chain l) 0 (raw_nest_of v) c.tokens vs [] mid rest → Claim (level l) (build (operator_chain l) (v ∷ vs)) ts rest
left_level l n v vs e c r =
    let c1 = c.are in
    let c2 = c.some in
    let sn = short_some n in
    let r1 = r.are in
    let first : with_part (operator_chain l) 0 (levels_of v) ≡ raw_nest_of v = rw e refl in
    let g = built_bound (operator_chain l) (held (operator_chain l) (v ∷ vs)) (v ∷ vs) in
    let none : adds (operator_chain l) ≡ 0 = rw e refl in
    let s = nest_of_build (operator_chain l) (v ∷ vs) in
    let h : held (operator_chain l) (v ∷ vs) + 0 ≤ (c.tokens + r.tokens) + 1 = subst (λ x. with_parts (operator_chain l) x (map levels_of vs) + 0 ≤ (c.tokens + r.tokens) + 1) (sym first) r.nests in
    record { tokens = c.tokens + r.tokens; are = omega arith; some = omega arith; nests = omega arith }

left_first : {ts mid : List Token} (n : Nonterminal) (v : Raw) (c : Claim n v ts mid) → raw_nest_of v + 0 ≤ c.tokens + 1
left_first n v c = let a = c.nests in omega arith

-- steps
steps_claim : {ts mid rest : List Token} (v : Raw) (vs : List Raw) (c : Claim step_expr v ts mid) → Parts steps 1 (raw_nest_of v) c.tokens vs [] mid rest → Claim relative_path_expr (build steps (v ∷ vs)) ts rest
steps_claim v vs c r =
    let c1 = c.are in
    let c2 = c.some in
    let r1 = r.are in
    let g = built_bound steps (held steps (v ∷ vs)) (v ∷ vs) in
    let s = nest_of_build steps (v ∷ vs) in
    let h : held steps (v ∷ vs) + 1 ≤ (c.tokens + r.tokens) + 1 = r.nests in
    record { tokens = c.tokens + r.tokens; are = omega arith; some = omega arith; nests = omega arith }

rooted_claim : {ts mid rest : List Token} (v : Raw) (vs : List Raw) (c : Claim step_expr v ts mid) → Parts root_steps 0 (with_part root_steps 1 (levels_of v)) c.tokens vs [] mid rest → Claim after_root (build root_steps (v ∷ vs)) ts rest
rooted_claim v vs c r =
    let c1 = c.are in
    let c2 = c.some in
    let r1 = r.are in
    let g = built_bound root_steps (held root_steps (v ∷ vs)) (v ∷ vs) in
    let s = nest_of_build root_steps (v ∷ vs) in
    let h : held root_steps (v ∷ vs) + 0 ≤ (c.tokens + r.tokens) + 1 = r.nests in
    record { tokens = c.tokens + r.tokens; are = omega arith; some = omega arith; nests = omega arith }

rooted_first : {ts mid : List Token} (v : Raw) → Shallow v → (c : Claim step_expr v ts mid) → with_part root_steps 1 (levels_of v) + 0 ≤ c.tokens + 1
rooted_first v h c =
    let e = left_shallow 1 (levels_of v).mark (raw_nest_of v) h in
    let a = c.nests in
    let b = c.some in
    rw e (omega arith)

deep_claim : {t : Token} {ts mid rest : List Token} (v : Raw) (vs : List Raw) (c : Claim step_expr v ts mid) → Parts rooted_deep 0 (with_part rooted_deep 2 (levels_of v)) (1 + c.tokens) vs [] mid rest → Claim path_expr (build rooted_deep (v ∷ vs)) (t ∷ ts) rest
deep_claim v vs c r =
    let c1 = c.are in
    let c2 = c.some in
    let r1 = r.are in
    let g = built_bound rooted_deep (held rooted_deep (v ∷ vs)) (v ∷ vs) in
    let s = nest_of_build rooted_deep (v ∷ vs) in
    let h : held rooted_deep (v ∷ vs) + 0 ≤ ((1 + c.tokens) + r.tokens) + 1 = r.nests in
    record { tokens = 1 + (c.tokens + r.tokens); are = omega arith; some = omega arith; nests = omega arith }

deep_first : {ts mid : List Token} (v : Raw) → Shallow v → (c : Claim step_expr v ts mid) → with_part rooted_deep 2 (levels_of v) + 0 ≤ (1 + c.tokens) + 1
deep_first v h c =
    let e = left_shallow 2 (levels_of v).mark (raw_nest_of v) h in
    let a = c.nests in
    let b = c.some in
    rw e (omega arith)

nothing_more : {ts : List Token} (p : Production) (m a u : ℕ) → a + m ≤ u + 1 → Parts p m a u [] [] ts ts
nothing_more p m a u b = record { tokens = 0; are = omega arith; enough = omega arith; nests = omega arith }

same_claim : {ts rest : List Token} (n k : Nonterminal) (v : Raw) → shortest k ≡ 1 → spare k ≤ spare n → Claim n v ts rest → Claim k v ts rest
same_claim n k v e h c =
    let a = c.some in
    let b = c.nests in
    let s = short_some n in
    record { tokens = c.tokens; are = c.are; some = rw e (omega arith); nests = omega arith }

fits_fine : (p : Production) → fine p ≡ true → fits (margin p) 0 (body p) ≡ true
fits_fine p f = (and_parts (fits (margin p) 0 (body p)) (nat_le (margin p + floor p) (1 + least (body p)) && nat_le (shortest (head p)) (least (body p))) f).0

starts_fine : (p : Production) → is_left p ≡ false → fine p ≡ true → before_parts p + margin p ≤ (0 + least (body p)) + 1
starts_fine p i f =
    let a = and_parts (fits (margin p) 0 (body p)) (nat_le (margin p + floor p) (1 + least (body p)) && nat_le (shortest (head p)) (least (body p))) f in
    let b = and_parts (nat_le (margin p + floor p) (1 + least (body p))) (nat_le (shortest (head p)) (least (body p))) a.1 in
    let low : margin p + floor p ≤ 1 + least (body p) = leb-true _ _ b.0 in
    let z = before_none p i in
    omega arith

at_head : {n : Nonterminal} {v : Raw} {ts rest : List Token} (p : Production) → head p ≡ n → Claim (head p) v ts rest → Claim n v ts rest
at_head {v = v} {ts = ts} {rest = rest} p e c = subst (λ n. Claim n v ts rest) e c

mutual
  claims : {l : Language} {n : Nonterminal} {ts rest : List Token} {v : Raw} → Derives l n ts v rest → Claim n v ts rest
  claims (by expr_list o e (next {v = v} dv (stop end))) =
      at_head expr_list e (same_claim expr_single expr v refl (omega arith) (claims dv))
  claims (by expr_list o e (next {v = v} dv (again {v = w} {vs = ws} dw s))) =
      let r = several expr_list 1 _ _ v w ws refl (claims dv) (claims dw) (λ a u h b. parts_of expr_list 1 2 a u refl s refl h (omega arith)) refl (omega arith) (omega arith) in
      at_head expr_list e (finish_some expr_list _ (v ∷ w ∷ ws) _ refl r (omega arith))
  claims (by (operator_chain or_level) o e (next {v = v} dv (stop end))) =
      at_head (operator_chain or_level) e (same_claim (level and_level) (level or_level) v refl (omega arith) (claims dv))
  claims (by (operator_chain or_level) o e (next {v = v} dv (again {v = w} {vs = ws} dw s))) =
      let r = several (operator_chain or_level) 1 _ _ v w ws refl (claims dv) (claims dw) (λ a u h b. parts_of (operator_chain or_level) 1 2 a u refl s refl h (omega arith)) refl (omega arith) (omega arith) in
      at_head (operator_chain or_level) e (finish_some (operator_chain or_level) _ (v ∷ w ∷ ws) _ refl r (omega arith))
  claims (by (operator_chain and_level) o e (next {v = v} dv (stop end))) =
      at_head (operator_chain and_level) e (same_claim (level comparison_level) (level and_level) v refl (omega arith) (claims dv))
  claims (by (operator_chain and_level) o e (next {v = v} dv (again {v = w} {vs = ws} dw s))) =
      let r = several (operator_chain and_level) 1 _ _ v w ws refl (claims dv) (claims dw) (λ a u h b. parts_of (operator_chain and_level) 1 2 a u refl s refl h (omega arith)) refl (omega arith) (omega arith) in
      at_head (operator_chain and_level) e (finish_some (operator_chain and_level) _ (v ∷ w ∷ ws) _ refl r (omega arith))
  claims (by filter_step o e (next {v = v} dv (stop end))) =
      at_head filter_step e (same_claim primary_expr step_expr v refl (omega arith) (claims dv))
  claims (by filter_step o e (next {v = v} dv (again {v = w} {vs = ws} dw s))) =
      let r = several filter_step 2 _ _ v w ws refl (claims dv) (claims dw) (λ a u h b. parts_of filter_step 2 2 a u refl s refl h (omega arith)) refl (omega arith) (omega arith) in
      at_head filter_step e (finish_some filter_step _ (v ∷ w ∷ ws) _ refl r (omega arith))
  claims (by (operator_chain additive_level) o e (next {n = n} {v = v} {vs = vs} dv s)) =
      let c = claims dv in
      at_head (operator_chain additive_level) e (left_level additive_level n v vs refl c (lefts (operator_chain additive_level) 0 (raw_nest_of v) c.tokens (tail additive_level) refl (omega arith) (omega arith) (omega arith) s (left_first n v c)))
  claims (by (operator_chain multiplicative_level) o e (next {n = n} {v = v} {vs = vs} dv s)) =
      let c = claims dv in
      at_head (operator_chain multiplicative_level) e (left_level multiplicative_level n v vs refl c (lefts (operator_chain multiplicative_level) 0 (raw_nest_of v) c.tokens (tail multiplicative_level) refl (omega arith) (omega arith) (omega arith) s (left_first n v c)))
  claims (by (operator_chain union_level) o e (next {n = n} {v = v} {vs = vs} dv s)) =
      let c = claims dv in
      at_head (operator_chain union_level) e (left_level union_level n v vs refl c (lefts (operator_chain union_level) 0 (raw_nest_of v) c.tokens (tail union_level) refl (omega arith) (omega arith) (omega arith) s (left_first n v c)))
  claims (by (operator_chain intersect_level) o e (next {n = n} {v = v} {vs = vs} dv s)) =
      let c = claims dv in
      at_head (operator_chain intersect_level) e (left_level intersect_level n v vs refl c (lefts (operator_chain intersect_level) 0 (raw_nest_of v) c.tokens (tail intersect_level) refl (omega arith) (omega arith) (omega arith) s (left_first n v c)))
  claims (by (operator_chain comparison_level) o e (next {n = n} {v = v} dv (without end))) =
      let c = claims dv in
      at_head (operator_chain comparison_level) e (left_level comparison_level n v [] refl c (nothing_more (operator_chain comparison_level) 0 (raw_nest_of v) c.tokens (left_first n v c)))
  claims (by (operator_chain comparison_level) o e (next {n = n} {v = v} dv (with {v = w} dw end))) =
      let c = claims dv in
      at_head (operator_chain comparison_level) e (left_level comparison_level n v (w ∷ []) refl c (left_more (operator_chain comparison_level) 0 (raw_nest_of v) c.tokens (tail comparison_level) w [] refl (omega arith) (omega arith) (omega arith) (left_first n v c) (claims dw) (λ b h. nothing_more (operator_chain comparison_level) 0 b _ h)))
  claims (by (operator_chain range_level) o e (next {n = n} {v = v} dv (without end))) =
      let c = claims dv in
      at_head (operator_chain range_level) e (left_level range_level n v [] refl c (nothing_more (operator_chain range_level) 0 (raw_nest_of v) c.tokens (left_first n v c)))
  claims (by (operator_chain range_level) o e (next {n = n} {v = v} dv (with {v = w} dw end))) =
      let c = claims dv in
      at_head (operator_chain range_level) e (left_level range_level n v (w ∷ []) refl c (left_more (operator_chain range_level) 0 (raw_nest_of v) c.tokens (tail range_level) w [] refl (omega arith) (omega arith) (omega arith) (left_first n v c) (claims dw) (λ b h. nothing_more (operator_chain range_level) 0 b _ h)))
  claims (by (operator_chain instance_of_level) o e (next {n = n} {v = v} dv (without end))) =
      let c = claims dv in
      at_head (operator_chain instance_of_level) e (left_level instance_of_level n v [] refl c (nothing_more (operator_chain instance_of_level) 0 (raw_nest_of v) c.tokens (left_first n v c)))
  claims (by (operator_chain instance_of_level) o e (next {n = n} {v = v} dv (with {v = w} dw end))) =
      let c = claims dv in
      at_head (operator_chain instance_of_level) e (left_level instance_of_level n v (w ∷ []) refl c (left_more (operator_chain instance_of_level) 0 (raw_nest_of v) c.tokens (tail instance_of_level) w [] refl (omega arith) (omega arith) (omega arith) (left_first n v c) (claims dw) (λ b h. nothing_more (operator_chain instance_of_level) 0 b _ h)))
  claims (by (operator_chain treat_level) o e (next {n = n} {v = v} dv (without end))) =
      let c = claims dv in
      at_head (operator_chain treat_level) e (left_level treat_level n v [] refl c (nothing_more (operator_chain treat_level) 0 (raw_nest_of v) c.tokens (left_first n v c)))
  claims (by (operator_chain treat_level) o e (next {n = n} {v = v} dv (with {v = w} dw end))) =
      let c = claims dv in
      at_head (operator_chain treat_level) e (left_level treat_level n v (w ∷ []) refl c (left_more (operator_chain treat_level) 0 (raw_nest_of v) c.tokens (tail treat_level) w [] refl (omega arith) (omega arith) (omega arith) (left_first n v c) (claims dw) (λ b h. nothing_more (operator_chain treat_level) 0 b _ h)))
  claims (by (operator_chain castable_level) o e (next {n = n} {v = v} dv (without end))) =
      let c = claims dv in
      at_head (operator_chain castable_level) e (left_level castable_level n v [] refl c (nothing_more (operator_chain castable_level) 0 (raw_nest_of v) c.tokens (left_first n v c)))
  claims (by (operator_chain castable_level) o e (next {n = n} {v = v} dv (with {v = w} dw end))) =
      let c = claims dv in
      at_head (operator_chain castable_level) e (left_level castable_level n v (w ∷ []) refl c (left_more (operator_chain castable_level) 0 (raw_nest_of v) c.tokens (tail castable_level) w [] refl (omega arith) (omega arith) (omega arith) (left_first n v c) (claims dw) (λ b h. nothing_more (operator_chain castable_level) 0 b _ h)))
  claims (by (operator_chain cast_level) o e (next {n = n} {v = v} dv (without end))) =
      let c = claims dv in
      at_head (operator_chain cast_level) e (left_level cast_level n v [] refl c (nothing_more (operator_chain cast_level) 0 (raw_nest_of v) c.tokens (left_first n v c)))
  claims (by (operator_chain cast_level) o e (next {n = n} {v = v} dv (with {v = w} dw end))) =
      let c = claims dv in
      at_head (operator_chain cast_level) e (left_level cast_level n v (w ∷ []) refl c (left_more (operator_chain cast_level) 0 (raw_nest_of v) c.tokens (tail cast_level) w [] refl (omega arith) (omega arith) (omega arith) (left_first n v c) (claims dw) (λ b h. nothing_more (operator_chain cast_level) 0 b _ h)))
  claims (by steps o e (next {v = v} {vs = vs} dv s)) =
      let c = claims dv in
      let c2 = c.some in
      at_head steps e (steps_claim v vs c (lefts steps 1 (raw_nest_of v) c.tokens step_more refl (omega arith) (omega arith) (omega arith) s c.nests))
  claims (by root_steps o e (next {v = v} {vs = vs} dv s)) =
      let c = claims dv in
      at_head root_steps e (rooted_claim v vs c (lefts root_steps 0 (with_part root_steps 1 (levels_of v)) c.tokens step_more refl (omega arith) (omega arith) (omega arith) s (rooted_first v (step_shallow dv) c)))
  claims (by rooted_deep o e (taken g (next {v = v} {vs = vs} dv s))) =
      let c = claims dv in
      at_head rooted_deep e (deep_claim v vs c (lefts rooted_deep 0 (with_part rooted_deep 2 (levels_of v)) (1 + c.tokens) step_more refl (omega arith) (omega arith) (omega arith) s (deep_first v (step_shallow dv) c)))
  claims (by (operator_tail l) {vs = vs} s e q) = at_head (operator_tail l) e (finish_flat (operator_tail l) vs refl (fine_operated l) (parts_of (operator_tail l) (margin (operator_tail l)) 0 (before_parts (operator_tail l)) 0 refl q (fits_fine (operator_tail l) (fine_operated l)) (omega arith) (starts_fine (operator_tail l) refl (fine_operated l))))
  claims (by p {vs = vs} s e q) = at_head p e (finish_flat p vs refl refl (parts_of p (margin p) 0 (before_parts p) 0 refl q (fits_fine p refl) (omega arith) (starts_fine p refl refl)))

  -- parts that nest to the left
  lefts : {l : Language} (p : Production) (m a u : ℕ) (k : Nonterminal) {ts rest : List Token} {vs : List Raw} → is_left p ≡ true → 2 ≤ shortest k → m ≤ u → 1 + m ≤ spare k + u → Seq l (many k ∷ []) ts vs rest → a + m ≤ u + 1 → Parts p m a u vs [] ts rest
  lefts p m a u k i h e f (stop end) b = nothing_more p m a u b
  lefts p m a u k i h e f (again {v = v} {vs = vs} dv s) b =
      let c = claims dv in
      left_more p m a u k v vs i h e f b c (λ x y. lefts p m x (u + c.tokens) k i h (omega arith) (omega arith) s y)

  -- parts that stand beside each other
  parts_of : {l : Language} (p : Production) (m d a u : ℕ) {ss : List Symbol} {ts rest : List Token} {vs : List Raw} → is_left p ≡ false → Seq l ss ts vs rest → fits m d ss ≡ true → d ≤ u → a + m ≤ (u + least ss) + 1 → Parts p m a u vs ss ts rest
  parts_of p m d a u i end f h b = record { tokens = 0; are = omega arith; enough = omega arith; nests = omega arith }
  parts_of p m d a u i (taken {c = c} {ss = ss} {t = t} {vs = vs} g s) f h b =
      let r = parts_of p m (1 + d) a (u + 1) i s f (omega arith) (omega arith) in
      let k = kept p a c t vs i in
      let x = r.are in
      let y = r.enough in
      let z = r.nests in
      record { tokens = 1 + r.tokens; are = omega arith; enough = omega arith; nests = omega arith }
  parts_of p m d a u i (next {n = n} {ss = ss} {v = v} dv s) f h b =
      let k = claims dv in
      let parts = and_parts (nat_le m (spare n + (d + least ss))) (fits m (1 + d) ss) f in
      let g : m ≤ spare n + (d + least ss) = leb-true _ _ parts.0 in
      let w = beside p a (levels_of v) i in
      let k1 = k.are in
      let k2 = k.some in
      let k3 = k.nests in
      let one_at_least = short_some n in
      let r = parts_of p m (1 + d) (with_part p a (levels_of v)) (u + k.tokens) i s parts.1 (omega arith) (omega arith) in
      let x = r.are in
      let y = r.enough in
      let z = r.nests in
      record { tokens = k.tokens + r.tokens; are = omega arith; enough = omega arith; nests = omega arith }
  parts_of p m d a u i (without {n = n} {ss = ss} s) f h b =
      let parts = and_parts (nat_le m (spare n + (d + least ss))) (fits m d ss) f in
      let r = parts_of p m d a u i s parts.1 h b in
      record { tokens = r.tokens; are = r.are; enough = r.enough; nests = r.nests }
  parts_of p m d a u i (with {n = n} {ss = ss} {v = v} dv s) f h b =
      let k = claims dv in
      let parts = and_parts (nat_le m (spare n + (d + least ss))) (fits m d ss) f in
      let g : m ≤ spare n + (d + least ss) = leb-true _ _ parts.0 in
      let w = beside p a (levels_of v) i in
      let k1 = k.are in
      let k3 = k.nests in
      let r = parts_of p m d (with_part p a (levels_of v)) (u + k.tokens) i s parts.1 (omega arith) (omega arith) in
      let x = r.are in
      let y = r.enough in
      let z = r.nests in
      record { tokens = k.tokens + r.tokens; are = omega arith; enough = omega arith; nests = omega arith }
  parts_of p m d a u i (stop {n = n} {ss = ss} s) f h b =
      let parts = and_parts (nat_le m (spare n + (d + least ss))) (fits m d ss) f in
      let r = parts_of p m d a u i s parts.1 h b in
      record { tokens = r.tokens; are = r.are; enough = r.enough; nests = r.nests }
  parts_of p m d a u i (again {n = n} {ss = ss} {v = v} dv s) f h b =
      let k = claims dv in
      let parts = and_parts (nat_le m (spare n + (d + least ss))) (fits m d ss) f in
      let g : m ≤ spare n + (d + least ss) = leb-true _ _ parts.0 in
      let w = beside p a (levels_of v) i in
      let k1 = k.are in
      let k3 = k.nests in
      let r = parts_of p m d (with_part p a (levels_of v)) (u + k.tokens) i s f (omega arith) (omega arith) in
      let x = r.are in
      let y = r.enough in
      let z = r.nests in
      record { tokens = k.tokens + r.tokens; are = omega arith; enough = omega arith; nests = omega arith }
  parts_of p m d a u i (bare {n = n} {ss = ss} e s) f h b =
      let parts = and_parts (nat_le m (spare n + (d + least ss))) (fits m d ss) f in
      let r = parts_of p m d a u i s parts.1 h b in
      record { tokens = r.tokens; are = r.are; enough = r.enough; nests = r.nests }
  parts_of p m d a u i (given {n = n} {ss = ss} {v = v} e dv s) f h b =
      let k = claims dv in
      let parts = and_parts (nat_le m (spare n + (d + least ss))) (fits m d ss) f in
      let g : m ≤ spare n + (d + least ss) = leb-true _ _ parts.0 in
      let w = beside p a (levels_of v) i in
      let k1 = k.are in
      let k3 = k.nests in
      let r = parts_of p m d (with_part p a (levels_of v)) (u + k.tokens) i s parts.1 (omega arith) (omega arith) in
      let x = r.are in
      let y = r.enough in
      let z = r.nests in
      record { tokens = k.tokens + r.tokens; are = omega arith; enough = omega arith; nests = omega arith }

pub spelled_within : {l : Language} {ts : List Token} {v : Raw} → Spells l ts v → raw_nest_of v ≤ 1 + length ts
spelled_within s = let k = claims s in let a = k.are in let b = k.nests in omega arith
