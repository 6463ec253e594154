-- The tokens of operators, lists and conditionals spell them.
use Rattle.std.proofs.Common.{◌≡◌, ℕ, zero, nat_le, List, [], ◌∷◌, ◌++◌, map, Bool, true, false}
use Rattle.std.proofs.Common.{◌&&◌, cond, not, refl, sym, ◌∙◌, ap, subst, reverse, Option, Some}
use Rattle.std.proofs.Common.{None, is_some}
use Rattle.std.proofs.lemmas.Bool.{and_parts}
use Rattle.std.proofs.lemmas.List.{reverse-append}
use Rattle.expr_keys.specs.Classes.{tight, fits}
use Rattle.expr_terms.specs.Productions.{repeats, operation, body}
use Rattle.expr_terms.specs.Productions.{below as under}
use Rattle.expr_terms.specs.Raws.{as_parens, as_inner_chain, build, chain_or, as_else, in_chain}
use Rattle.expr_keys.specs.declared.keys.Key.{Key}
use Rattle.expr_keys.specs.declared.keys.Key.TheVariants as key
use Rattle.expr_keys.specs.declared.tokens.Token.{Token}
use Rattle.expr_keys.specs.declared.tokens.Token.TheVariants as token
use Rattle.expr_keys.specs.declared.productions.Class.TheVariants as class
use Rattle.expr_keys.specs.declared.productions.Level.{Level}
use Rattle.expr_keys.specs.declared.productions.Level.TheVariants as level
use Rattle.expr_keys.specs.declared.productions.Symbol.{Symbol}
use Rattle.expr_keys.specs.declared.productions.Symbol.TheVariants.{Tok as tok, One as one}
use Rattle.expr_keys.specs.declared.productions.Symbol.TheVariants.{Maybe as maybe, Many as many}
use Rattle.expr_keys.specs.declared.productions.Nonterminal.{Nonterminal}
use Rattle.expr_keys.specs.declared.productions.Nonterminal.TheVariants as place
use Rattle.expr_keys.specs.declared.productions.Production.{Production}
use Rattle.expr_keys.specs.declared.productions.Production.TheVariants as production
use Rattle.expr_terms.specs.declared.raws.Raw.{Raw}
use Rattle.expr_terms.specs.declared.raws.Raw.TheVariants.{Leaf as leaf, Node as node, outs-Node}
use Rattle.expr_terms.specs.declared.raws.Raw.TheViews.{out-Raw}
use Rattle.expr_terms.specs.declared.raws.Raw.TheOpen.{Raw-F, Leaf, Node}
use Rattle.expr_grammar.specs.Grammar.{next_begins, Derives, by, Seq, end, taken, next, with}
use Rattle.expr_grammar.specs.Grammar.{without, stop, again}
use Rattle.expr_raws.specs.PathRaws.Forms.{Form, primary, step, signs, of_level, below, single, list, at}
use Rattle.expr_raws.specs.PathRaws.Forms.{said, all_at, all_said, all_can, key_leaf, ends_unmarked}
use Rattle.expr_raws.specs.PathRaws.Forms.{parenthesized, in_parentheses}
use Rattle.expr_raws.specs.ControlRaws.Operators as operators
use Rattle.expr_raws.specs.ControlRaws.Operators.{tail, once, is_chain_of, chain_parts, or_first, is_mark}
use Rattle.expr_raws.specs.ControlRaws.Operators.{operands, front_tokens, operand_tokens, left, tails}
use Rattle.expr_raws.specs.ControlRaws.Operators.{last_unmarked, listed, signed, ArmForm, arm_parts}
use Rattle.expr_raws.specs.ControlRaws.Operators.{arms_tokens, arms_can, has_arms, conditional}
use Rattle.expr_raws.proofs.ControlRaws.Chains.{chain_of}
use Rattle.raw_laws.proofs.ExprSpellings.Climb.{X, Rise, spot, climb}
use Rattle.raw_laws.proofs.ExprSpellings.Spelled.{Calm, CalmIf, Inside, Spelled, closed, opened, no_parens}
use Rattle.raw_laws.proofs.ExprSpellings.Spelled.{in_parentheses_spelled, least, goes_on}
use Rattle.raw_laws.proofs.ExprSpellings.Paths.{All, Always, always, one_more, comma_items, form}
use Rattle.raw_laws.proofs.ExprSpellings.Paths.{as_primary, in_parens_spelled, empty_spelled}
use Rattle.xt_names.proofs.BoolLemmas.{not_true}

clash : {P : Type 0} (c : Bool) → c ≡ false → c ≡ true → P
clash true e h = cc
clash false e h = cc

-- a chain of operators with its parts
abbrev chain : Level → List Raw → (List Token → List Token) → Bool → Bool → Form
chain l vs tokens b c = record {
  raw = node (production.OperatorChain l) vs;
  tokens = tokens;
  place = of_level l;
  unmarked = b;
  can = c;
}

-- what is so of each level
pub record LevelFacts (l : Level) : Type 0 where
  beneath : spot (below l) ≡ under l
  over : place.Level l ≡ spot (of_level l)
  fits_in : nat_le (of_level l) list ≡ true
  loose : nat_le (of_level l) step ≡ false

module _ (l : Level) (z : LevelFacts l) where
  pub chain_spelled : (tokens : List Token → List Token) (v w : Raw) (vs : List Raw) (b c : Bool)
      → ((rest : List Token) → CalmIf b rest
      → Seq X (body (production.OperatorChain l)) (tokens rest) (v ∷ w ∷ vs) rest)
      → Spelled (chain l (v ∷ w ∷ vs) tokens b c)
  chain_spelled tokens v w vs b c s = record {
    whole = λ rest u. subst (λ n. Derives X n (tokens rest) (node (production.OperatorChain l)
        (v ∷ w ∷ vs)) rest) z.over (by (production.OperatorChain l) refl refl (s rest u));
    inside = opened tokens b (production.OperatorChain l) (v ∷ w ∷ vs) refl refl s;
    placed = z.fits_in;
    tightest = λ h. no_parens (production.OperatorChain l) (v ∷ w ∷ vs) refl h;
    ended = λ h. no_parens (production.OperatorChain l) (v ∷ w ∷ vs) refl h;
    at_step = ap (λ x. cond x b false) z.loose;
  }

  -- .. where one part is after others
  long_spelled : (tokens : List Token → List Token) (u : Raw) (us : List Raw) (v : Raw) (b c : Bool)
      → ((rest : List Token) → CalmIf b rest
      → Seq X (body (production.OperatorChain l)) (tokens rest) ((u ∷ us) ++ v ∷ []) rest)
      → Spelled (chain l ((u ∷ us) ++ v ∷ []) tokens b c)
  long_spelled tokens u [] v b c s = chain_spelled tokens u v [] b c s
  long_spelled tokens u (w ∷ us) v b c s = chain_spelled tokens u w (us ++ v ∷ []) b c s

  pub operand : (f : Form) → Always (below l) f → (rest : List Token)
      → CalmIf (ends_unmarked (below l) f) rest
      → Derives X (under l) (said (below l) f rest) (at (below l) f) rest
  operand f a rest u = subst (λ n. Derives X n (said (below l) f rest) (at (below l) f) rest)
      z.beneath (a rest u)

  module _ (plain : operation l ≡ tok (class.Operator l) ∷ one (under l) ∷ []) (k : Key)
      (is : fits (class.Operator l) (token.Key k) ≡ true) where
    tail_spelled : (f : Form) → Always (below l) f → (rest : List Token)
        → CalmIf (ends_unmarked (below l) f) rest
        → Derives X (place.Tail l) (token.Key k ∷ said (below l) f rest) (tail l k f) rest
    tail_spelled f a rest u = by (production.OperatorTail l) refl refl
        (subst (λ ss. Seq X ss (token.Key k ∷ said (below l) f rest)
        (key_leaf k ∷ at (below l) f ∷ []) rest) (sym plain)
        (taken is (next (operand f a rest u) end)))

    abbrev CalmKey : Type 0
    CalmKey = fits class.Mark (token.Key k) ≡ false

    pub once_spelled : repeats l ≡ false → CalmKey → (f g : Form) → Always (below l) f
        → Always (below l) g → Spelled (once l k f g)
    once_spelled single calm f g a b = chain_spelled
        (λ rest. said (below l) f (token.Key k ∷ said (below l) g rest))
        (at (below l) f) (tail l k g) [] _ _
        (λ rest u. subst (λ r. Seq X (one (under l) ∷ (cond r (many (place.Tail l))
        (maybe (place.Tail l))) ∷ []) (said (below l) f (token.Key k ∷ said (below l) g rest))
        (at (below l) f ∷ tail l k g ∷ []) rest) (sym single)
        (next (operand f a _ (λ h. calm)) (with (tail_spelled g b rest u) end)))

    module _ (more : repeats l ≡ true) where
      -- the parts that an operand at the left gives
      abbrev Parts : List Token → List Raw → List Token → Type 0
      Parts ts vs rest = Seq X (one (under l) ∷ many (place.Tail l) ∷ []) ts vs rest

      as_body : {ts rest : List Token} {vs : List Raw} → Parts ts vs rest
          → Seq X (body (production.OperatorChain l)) ts vs rest
      as_body {ts} {rest} {vs} s = subst (λ r. Seq X (one (under l) ∷ (cond r
          (many (place.Tail l)) (maybe (place.Tail l))) ∷ []) ts vs rest) (sym more) s

      as_parts : {ts rest : List Token} {vs : List Raw}
          → Seq X (body (production.OperatorChain l)) ts vs rest → Parts ts vs rest
      as_parts {ts} {rest} {vs} s = subst (λ r. Seq X (one (under l) ∷ (cond r
          (many (place.Tail l)) (maybe (place.Tail l))) ∷ []) ts vs rest) more s

      longer : {ts mid rest : List Token} {us : List Raw} {v : Raw} → Parts ts us mid
          → Derives X (place.Tail l) mid v rest → Parts ts (us ++ v ∷ []) rest
      longer (next d s) e = next d (one_more s e)

      tails_spelled : CalmKey → (f : Form) (fs : List Form) → Always (below l) f
          → All (Always (below l)) fs → (rest : List Token)
          → CalmIf (last_unmarked (below l) (f ∷ fs)) rest
          → Seq X (many (place.Tail l) ∷ []) (tails l k (f ∷ fs) rest)
          (map (λ g. tail l k g) (f ∷ fs)) rest
      tails_spelled calm f [] a attrs rest u = again (tail_spelled f a rest u) (stop end)
      tails_spelled calm f (g ∷ fs) a attrs rest u =
          again (tail_spelled f a (tails l k (g ∷ fs) rest) (λ h. calm))
          (tails_spelled calm g fs attrs.0 attrs.1 rest u)

      pub many_spelled : CalmKey → (fs : List Form) → All (Always (below l)) fs
          → (operators.many l k fs).can ≡ true → Spelled (operators.many l k fs)
      many_spelled calm [] a c = absurd (cc)
      many_spelled calm (f ∷ []) a c = absurd (cc)
      many_spelled calm (f ∷ g ∷ fs) a c = chain_spelled
          (λ rest. said (below l) f (tails l k (g ∷ fs) rest)) (at (below l) f) (tail l k g)
          (map (λ h. tail l k h) fs) _ _
          (λ rest u. as_body (next (operand f a.0 _ (λ h. calm))
          (tails_spelled calm g fs a.1.0 a.1.1 rest u)))

      -- the left operand, in front of the operator
      module _ (marked : is_mark k ≡ false → CalmKey) (f g : Form) (s : Spelled f)
          (b : Always (below l) g) where
        abbrev behind : List Token → List Token
        behind rest = token.Key k ∷ said (below l) g rest

        calm_front : (is_mark k && f.unmarked) ≡ false → (rest : List Token)
            → CalmIf f.unmarked (behind rest)
        calm_front e rest = go (is_mark k) refl e
          where
            go : (m : Bool) → is_mark k ≡ m → (m && f.unmarked) ≡ false
                → CalmIf f.unmarked (behind rest)
            go true i e = λ h. clash f.unmarked e h
            go false i e = λ h. marked i

        ended_calm : (is_mark k && f.unmarked) ≡ false → (rest : List Token)
            → CalmIf (ends_unmarked (below l) f) (behind rest)
        ended_calm e rest = go (nat_le f.place (below l))
          where
            go : (n : Bool) → CalmIf (cond n f.unmarked false) (behind rest)
            go true = calm_front e rest
            go false = λ h. absurd (clash false refl h)

        abbrev joined : List Raw → (List Token → List Token) → Form
        joined us ts = chain l (us ++ tail l k g ∷ []) (λ rest. ts (behind rest))
            (ends_unmarked (below l) g) (f.can && g.can)

        in_front : (u : Raw) (us : List Raw) (ts : List Token → List Token)
            → ((rest : List Token) → Parts (ts (behind rest)) (u ∷ us) (behind rest))
            → Spelled (joined (u ∷ us) ts)
        in_front u us ts p = long_spelled (λ rest. ts (behind rest)) u us (tail l k g) _ _
            (λ rest c. as_body (longer (p rest) (tail_spelled g b rest c)))

        bracketed : (is_mark k && f.unmarked) ≡ true
            → Spelled (joined (in_parentheses f ∷ []) (λ rest. parenthesized f rest))
        bracketed e = in_front (in_parentheses f) [] (λ rest. parenthesized f rest)
            (λ rest. next (subst (λ n. Derives X n (parenthesized f (behind rest))
            (in_parentheses f) (behind rest)) z.beneath
            (climb zero (below l) (least (below l)) _ _ _
            (in_parentheses_spelled f s (apart (as_parens (out-Raw f.raw)) refl) (behind rest))))
            (stop end))
          where
            apart : (p : Bool) → as_parens (out-Raw f.raw) ≡ p → as_parens (out-Raw f.raw) ≡ false
            apart false i = i
            apart true i =
                let h = and_parts (is_mark k) f.unmarked e in clash f.unmarked (s.ended i) h.1

        alone : (is_mark k && f.unmarked) ≡ false
            → Spelled (joined (at (below l) f ∷ []) (λ rest. said (below l) f rest))
        alone e = in_front (at (below l) f) [] (λ rest. said (below l) f rest)
            (λ rest. next (operand f (always (below l) f s) (behind rest) (ended_calm e rest))
            (stop end))

        -- the parts of a chain of the level go on with the operator
        going_on : (is_mark k && f.unmarked) ≡ false → (v : Raw-F Raw)
            → Inside f.tokens f.unmarked v
            → Spelled (joined (or_first (chain_parts l v) (at (below l) f))
            (front_tokens (chain_parts l v) l f))
        going_on e (Leaf t) i = alone e
        going_on e (Node p vs) i = go (is_chain_of l p) refl vs i
          where
            go : (c : Bool) → is_chain_of l p ≡ c → (us : List Raw)
                → Inside f.tokens f.unmarked (Node p us)
                → Spelled (joined (or_first (cond c us []) (at (below l) f))
                (front_tokens (cond c us []) l f))
            go false c us i = alone e
            go true c [] i = alone e
            go true c (u ∷ us) i =
                let same : p ≡ production.OperatorChain l = chain_of l p c in
                in_front u us f.tokens (λ rest. as_parts (subst (λ q. goes_on q ≡ true
                → (ts : List Token) → CalmIf f.unmarked ts
                → Seq X (body q) (f.tokens ts) (u ∷ us) ts) same i.0 refl (behind rest)
                (calm_front e rest)))

        pub left_spelled : Spelled (left l k f g)
        left_spelled = go (is_mark k && f.unmarked) refl
          where
            go : (m : Bool) → (is_mark k && f.unmarked) ≡ m
                → Spelled (joined (cond m (in_parentheses f ∷ [])
                (or_first (chain_parts l (out-Raw f.raw)) (at (below l) f)))
                (λ rest. cond m (parenthesized f rest)
                (front_tokens (chain_parts l (out-Raw f.raw)) l f rest)))
            go true e = bracketed e
            go false e = going_on e (out-Raw f.raw) s.inside

pub facts : (l : Level) → LevelFacts l
facts level.Or = record { beneath = refl; over = refl; fits_in = refl; loose = refl }
facts _ = record { beneath = refl; over = refl; fits_in = refl; loose = refl }

-- lists

pub listed_spelled : (fs : List Form) → All (Always single) fs → (listed fs).can ≡ true
    → Spelled (listed fs)
listed_spelled [] a c = in_parens_spelled [] (λ rest. token.Key key.OpenParen
    ∷ token.Key key.CloseParen ∷ rest) (λ rest. empty_spelled rest)
listed_spelled (f ∷ []) a c = absurd (cc)
listed_spelled (f ∷ g ∷ fs) a c = record {
  whole = λ rest u.
      by production.ExprList refl refl (comma_items f (g ∷ fs) a.0 a.1 rest u);
  inside = closed (all_said single (f ∷ g ∷ fs)) (last_unmarked single (g ∷ fs))
      production.ExprList (all_at single (f ∷ g ∷ fs)) refl;
  placed = refl;
  tightest = λ h. no_parens production.ExprList (all_at single (f ∷ g ∷ fs)) refl h;
  ended = λ h. no_parens production.ExprList (all_at single (f ∷ g ∷ fs)) refl h;
  at_step = refl;
}

-- signs

pub signed_spelled : (k : Key) → fits class.Sign (token.Key k) ≡ true → (f : Form)
    → Always signs f → Spelled (signed k f)
signed_spelled k e f a = record {
  whole = λ rest u. by production.Signed refl refl (taken e (next (a rest u) end));
  inside = closed (λ rest. token.Key k ∷ said signs f rest) (ends_unmarked signs f)
      production.Signed (key_leaf k ∷ at signs f ∷ []) refl;
  placed = refl;
  tightest = λ h. no_parens production.Signed (key_leaf k ∷ at signs f ∷ []) refl h;
  ended = λ h. no_parens production.Signed (key_leaf k ∷ at signs f ∷ []) refl h;
  at_step = refl;
}

-- conditionals

abbrev pub ArmSpelled : ArmForm → Type 0
ArmSpelled a = Always list a.test × Always single a.first

abbrev pub AllArms : List ArmForm → Type 0
AllArms [] = Unit {0}
AllArms (a ∷ arms) = ArmSpelled a × AllArms arms

module _ (e : Form) (d : Always single e)
    (last : not (is_some (as_inner_chain (out-Raw (at single e)))) ≡ true) where
  abbrev back : List ArmForm → List Raw
  back arms = reverse (arm_parts arms (at single e))

  abbrev behind_if : List ArmForm → List Token → List Token
  behind_if arms rest = arms_tokens arms (said single e rest)

  none_if : {A : Type 0} (o : Option A) → is_some o ≡ false → o ≡ None
  none_if None h = refl
  none_if (Some x) h = absurd (cc)

  ends_in : build production.ElseExpr (at single e ∷ [])
      ≡ node production.ElseExpr (at single e ∷ [])
  ends_in = ap (λ o. chain_or o (at single e))
      (none_if (as_inner_chain (out-Raw (at single e))) (not_true last))

  goes_in : (us : List Raw) → build production.ElseExpr (node production.IfExpr us ∷ [])
      ≡ node production.ElseExpr us
  goes_in us = ap (λ f. chain_or (as_inner_chain f) (node production.IfExpr us))
      (outs-Node production.IfExpr us)

  joins : (t u : Raw) (us : List Raw) → in_chain t u (node production.ElseExpr us)
      ≡ node production.IfExpr (us ++ u ∷ t ∷ [])
  joins t u us = ap (λ f. node production.IfExpr
      (as_else (node production.ElseExpr us) f ++ u ∷ t ∷ [])) (outs-Node production.ElseExpr us)

  abbrev Else : List ArmForm → List Token → Type 0
  Else arms rest = Derives X place.ElsePart (token.Key key.ElseWord ∷ behind_if arms rest)
      (node production.ElseExpr (back arms)) rest

  ifs : (x : ArmForm) (arms : List ArmForm) → ArmSpelled x → (rest : List Token)
      → Else arms rest → Derives X place.ExprSingle (behind_if (x ∷ arms) rest)
      (node production.IfExpr (back (x ∷ arms))) rest
  ifs x arms a rest o = subst (λ v. Derives X place.ExprSingle (behind_if (x ∷ arms) rest) v rest)
      (joins (at list x.test) (at single x.first) (back arms)
      ∙ ap (λ vs. node production.IfExpr vs) (sym (reverse-append
      (at list x.test ∷ at single x.first ∷ []) (arm_parts arms (at single e)))))
      (by production.IfExpr refl refl (taken refl (taken refl
      (next (a.0 _ (λ h. refl)) (taken refl (taken refl
      (next (a.1 _ (λ h. refl)) (next o end))))))))

  otherwise : (arms : List ArmForm) → AllArms arms → (rest : List Token)
      → CalmIf (ends_unmarked single e) rest → Else arms rest
  otherwise [] a rest u = subst (λ v. Derives X place.ElsePart (token.Key key.ElseWord
      ∷ said single e rest) v rest) ends_in
      (by production.ElseExpr refl refl (taken refl (next (d rest u) end)))
  otherwise (x ∷ arms) a rest u = subst (λ v. Derives X place.ElsePart (token.Key key.ElseWord
      ∷ behind_if (x ∷ arms) rest) v rest) (goes_in (back (x ∷ arms)))
      (by production.ElseExpr refl refl (taken refl
      (next (ifs x arms a.0 rest (otherwise arms a.1 rest u)) end)))

pub conditional_spelled : (arms : List ArmForm) (e : Form) → AllArms arms → Always single e
    → (conditional arms e).can ≡ true → Spelled (conditional arms e)
conditional_spelled arms e a d c =
    let last : Bool = not (is_some (as_inner_chain (out-Raw (at single e)))) in
    let h = and_parts (has_arms arms) (arms_can arms && (e.can && last)) c in
    let i = and_parts (arms_can arms) (e.can && last) h.1 in
    let j = and_parts e.can last i.1 in
    let vs : List Raw = reverse (arm_parts arms (at single e)) in
    record {
      whole = λ rest u. some arms a h.0 j.1 rest u;
      inside = closed (λ rest. arms_tokens arms (said single e rest)) (ends_unmarked single e)
          production.IfExpr vs refl;
      placed = refl;
      tightest = λ g. no_parens production.IfExpr vs refl g;
      ended = λ g. no_parens production.IfExpr vs refl g;
      at_step = refl;
    }
  where
    some : (xs : List ArmForm) → AllArms xs → has_arms xs ≡ true
        → not (is_some (as_inner_chain (out-Raw (at single e)))) ≡ true → (rest : List Token)
        → CalmIf (ends_unmarked single e) rest
        → Derives X place.ExprSingle (arms_tokens xs (said single e rest))
        (node production.IfExpr (reverse (arm_parts xs (at single e)))) rest
    some [] b h l rest u = absurd (cc)
    some (x ∷ xs) b h l rest u =
        ifs e d l x xs b.0 rest (otherwise e d l xs b.1 rest u)
