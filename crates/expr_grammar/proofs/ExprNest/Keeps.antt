-- What an open production has so far nests no deeper than what is read in the end.
use Rattle.std.proofs.Common.{◌≡◌, ◌⊎◌, inl, inr, ℕ, zero, suc, ◌≤◌, Bool, true, false, cond, List, [], ◌∷◌, ◌++◌, append_assoc, append-nil, Option, Some, None, option_and_then, refl, sym, subst, arith}
use Rattle.std.proofs.lemmas.Option.{none-some, same_Some}
use Rattle.expr_grammar.specs.ExprNest.TokenNames.{Token}
use Rattle.expr_grammar.specs.ExprNest.Terms.{Language, Nonterminal, Symbol, tok, one, maybe, many, longest, Production}
use Rattle.expr_grammar.specs.ExprNest.RawNames.{Raw}
use Rattle.expr_terms.specs.declared.choices.Second.{Second}
use Rattle.expr_terms.specs.Choices.{second_of, choose}
use Rattle.expr_keys.specs.Classes.{fits, begins}
use Rattle.expr_terms.specs.Productions.{body, speaks}
use Rattle.expr_terms.specs.Raws.{keep, build}
use Rattle.expr_grammar.specs.Machine.{Frame, doing, entered, picked, descend, deep, Way, stuck, moved, through, or_else, along, outcome, climb, advance, skips, ended, finish, run}
use Rattle.expr_grammar.specs.declared.expr_nest.measures.Measure.{Measure}
use Rattle.expr_grammar.specs.ExprNest.Measures.{held_by, nest_by}
use Rattle.expr_grammar.proofs.ExprNest.Counting.{held_less_by, part_less_by}

module _ (m : Measure) where
  -- the value of the production nests at least `k`, whatever follows
  abbrev Holds : ℕ → Production → List Raw → Type 0
  Holds k p vs = (ws : List Raw) → k ≤ nest_by m (build p (vs ++ ws))

  -- .. as that of some open production does
  abbrev Within : ℕ → List Frame → Type 0
  Within k [] = ⊥
  Within k (doing p vs ss ∷ fs) = Holds k p vs ⊎ Within k fs

  more : (k : ℕ) (p : Production) (vs us : List Raw) → Holds k p vs → Holds k p (vs ++ us)
  more k p vs us h = λ ws. subst (λ x. k ≤ nest_by m (build p x)) (sym (append_assoc vs us ws)) (h (us ++ ws))

  closes : (k : ℕ) (p q : Production) (vs us : List Raw) → Holds k p vs → Holds k q (us ++ build p vs ∷ [])
  closes k p q vs us h = λ ws.
      let a : k ≤ nest_by m (build p vs) = rw append-nil at (h []) in
      let b : nest_by m (build p vs) ≤ nest_by m (build q (us ++ build p vs ∷ ws)) = part_less_by m q us ws (build p vs) in
      let c : k ≤ nest_by m (build q (us ++ build p vs ∷ ws)) = omega arith in
      subst (λ x. k ≤ nest_by m (build q x)) (sym (append_assoc us (build p vs ∷ []) ws)) c

  abbrev Next : ℕ → List Frame → Option (List Frame) → Type 0
  Next k fs o = (gs : List Frame) → o ≡ Some gs → Within k fs → Within k gs

  none_next : (k : ℕ) (fs : List Frame) → Next k fs None
  none_next k fs gs e w = absurd (none-some _ e)

  some_next : (k : ℕ) (fs hs : List Frame) → (Within k fs → Within k hs) → Next k fs (Some hs)
  some_next k fs hs f gs e w = subst (λ x. Within k x) (same_Some _ _ e) (f w)

  module _ (l : Language) (t : Token) (s : Second) (k : ℕ) where
    enters : (go : Nonterminal → List Frame → Option (List Frame)) (p : Production) (ss : List Symbol) (fs : List Frame) → ((n : Nonterminal) (hs : List Frame) → Next k hs (go n hs)) → Next k fs (entered go t p ss fs)
    enters go p [] fs rec = none_next k fs
    enters go p (tok c ∷ ss) fs rec = at (fits c t)
      where
        at : (b : Bool) → Next k fs (cond b (Some (doing p (keep c t []) ss ∷ fs)) None)
        at true = some_next k fs (doing p (keep c t []) ss ∷ fs) (λ w. inr w)
        at false = none_next k fs
    enters go p (one n ∷ ss) fs rec = λ gs e w. rec n (doing p [] ss ∷ fs) gs e (inr w)
    enters go p (maybe n ∷ ss) fs rec = none_next k fs
    enters go p (many n ∷ ss) fs rec = none_next k fs
    enters go p (longest n ∷ ss) fs rec = none_next k fs

    picks : (go : Nonterminal → List Frame → Option (List Frame)) (fs : List Frame) (o : Option Production) → ((n : Nonterminal) (hs : List Frame) → Next k hs (go n hs)) → Next k fs (picked go l t fs o)
    picks go fs None rec = none_next k fs
    picks go fs (Some p) rec = at (speaks l p)
      where
        at : (b : Bool) → Next k fs (cond b (entered go t p (body p) fs) None)
        at true = enters go p (body p) fs rec
        at false = none_next k fs

    descends : (d : ℕ) (n : Nonterminal) (fs : List Frame) → Next k fs (descend l d n t s fs)
    descends zero n fs = none_next k fs
    descends (suc d) n fs = picks (λ m gs. descend l d m t s gs) fs (choose n t s) (λ m hs. descends d m hs)

    abbrev Goes : Production → List Raw → List Frame → Way → Type 0
    Goes p vs fs w = (gs : List Frame) → w ≡ moved gs → Holds k p vs ⊎ Within k fs → Within k gs

    stuck_goes : (p : Production) (vs : List Raw) (fs : List Frame) → Goes p vs fs stuck
    stuck_goes p vs fs gs e h = stuck_moved e
      where
        stuck_moved : {gs : List Frame} {P : Type 0} → stuck ≡ moved gs → P
        stuck_moved e = cc

    moved_goes : (p : Production) (vs : List Raw) (fs hs : List Frame) → (Holds k p vs ⊎ Within k fs → Within k hs) → Goes p vs fs (moved hs)
    moved_goes p vs fs hs f gs e h = subst (λ x. Within k x) (same_moved e) (f h)
      where
        same_moved : {a b : List Frame} → moved a ≡ moved b → a ≡ b
        same_moved e = cc

    or_goes : (p : Production) (vs : List Raw) (fs : List Frame) (ss : List Symbol) (o : Option (List Frame)) (w : Way) → Next k (doing p vs ss ∷ fs) o → Goes p vs fs w → Goes p vs fs (or_else o w)
    or_goes p vs fs ss None w d r = r
    or_goes p vs fs ss (Some hs) w d r = moved_goes p vs fs hs (λ h. d hs refl h)

    alongs : (p : Production) (vs : List Raw) (fs : List Frame) (ss : List Symbol) → Goes p vs fs (along l t s p vs fs ss)
    alongs p vs fs [] = λ gs e h. through_moved e
      where
        through_moved : {gs : List Frame} {P : Type 0} → through ≡ moved gs → P
        through_moved e = cc
    alongs p vs fs (tok c ∷ ss) = at (fits c t)
      where
        held_more : Holds k p vs ⊎ Within k fs → Within k (doing p (vs ++ keep c t []) ss ∷ fs)
        held_more (inl h) = inl (more k p vs (keep c t []) h)
        held_more (inr w) = inr w

        at : (b : Bool) → Goes p vs fs (cond b (moved (doing p (vs ++ keep c t []) ss ∷ fs)) stuck)
        at true = moved_goes p vs fs (doing p (vs ++ keep c t []) ss ∷ fs) held_more
        at false = stuck_goes p vs fs
    alongs p vs fs (one n ∷ ss) = or_goes p vs fs ss (descend l deep n t s (doing p vs ss ∷ fs)) stuck (descends deep n (doing p vs ss ∷ fs)) (stuck_goes p vs fs)
    alongs p vs fs (maybe n ∷ ss) = or_goes p vs fs ss (descend l deep n t s (doing p vs ss ∷ fs)) (along l t s p vs fs ss) (descends deep n (doing p vs ss ∷ fs)) (alongs p vs fs ss)
    alongs p vs fs (many n ∷ ss) = or_goes p vs fs (many n ∷ ss) (descend l deep n t s (doing p vs (many n ∷ ss) ∷ fs)) (along l t s p vs fs ss) (descends deep n (doing p vs (many n ∷ ss) ∷ fs)) (alongs p vs fs ss)
    alongs p vs fs (longest n ∷ ss) = at (begins n t) (alongs p vs fs ss)
      where
        at : (b : Bool) → Goes p vs fs (along l t s p vs fs ss) → Goes p vs fs (cond b (or_else (descend l deep n t s (doing p vs ss ∷ fs)) stuck) (along l t s p vs fs ss))
        at true r = or_goes p vs fs ss (descend l deep n t s (doing p vs ss ∷ fs)) stuck (descends deep n (doing p vs ss ∷ fs)) (stuck_goes p vs fs)
        at false r = r

    joins : (p : Production) (vs : List Raw) (ss : List Symbol) (fs : List Frame) (w : Way) (o : Option (List Frame)) → Goes p vs fs w → ((gs : List Frame) → o ≡ Some gs → Holds k p vs ⊎ Within k fs → Within k gs) → Next k (doing p vs ss ∷ fs) (outcome w o)
    joins p vs ss fs stuck o a b = none_next k (doing p vs ss ∷ fs)
    joins p vs ss fs (moved hs) o a b = some_next k (doing p vs ss ∷ fs) hs (λ h. a hs refl h)
    joins p vs ss fs through o a b = b

    climbs : (fs : List Frame) (p : Production) (vs : List Raw) (ss : List Symbol) → Next k (doing p vs ss ∷ fs) (climb l t s fs p vs ss)
    climbs [] p vs ss = joins p vs ss [] _ None (alongs p vs [] ss) (λ gs e h. absurd (none-some _ e))
    climbs (doing q us rs ∷ fs) p vs ss = joins p vs ss (doing q us rs ∷ fs) _ _ (alongs p vs (doing q us rs ∷ fs) ss) (λ gs e h. climbs fs q (us ++ build p vs ∷ []) rs gs e (up h))
      where
        up : Holds k p vs ⊎ Within k (doing q us rs ∷ fs) → Within k (doing q (us ++ build p vs ∷ []) rs ∷ fs)
        up (inl h) = inl (closes k p q vs us h)
        up (inr (inl h)) = inl (more k q us (build p vs ∷ []) h)
        up (inr (inr w)) = inr w

    pub advances : (fs : List Frame) → Next k fs (advance l t s fs)
    advances [] = none_next k []
    advances (doing p vs ss ∷ fs) = climbs fs p vs ss

  cond_gives : (b : Bool) (x w : Raw) → cond b (Some x) None ≡ Some w → x ≡ w
  cond_gives true x w e = same_Some _ _ e
  cond_gives false x w e = absurd (none-some _ e)

  cond_passes : (b : Bool) (o : Option Raw) (w : Raw) → cond b o None ≡ Some w → o ≡ Some w
  cond_passes true o w e = e
  cond_passes false o w e = absurd (none-some _ e)

  ends : (k : ℕ) (w : Raw) (fs : List Frame) (p : Production) (vs : List Raw) (ss : List Symbol) → ended fs p vs ss ≡ Some w → Holds k p vs ⊎ Within k fs → k ≤ nest_by m w
  ends k w [] p vs ss e (inl h) =
      let s = cond_gives (skips ss) (build p vs) w e in
      let a : k ≤ nest_by m (build p vs) = rw append-nil at (h []) in
      subst (λ x. k ≤ nest_by m x) s a
  ends k w [] p vs ss e (inr h) = absurd h
  ends k w (doing q us rs ∷ fs) p vs ss e h = ends k w fs q (us ++ build p vs ∷ []) rs (cond_passes (skips ss) _ w e) (up h)
    where
      up : Holds k p vs ⊎ Within k (doing q us rs ∷ fs) → Holds k q (us ++ build p vs ∷ []) ⊎ Within k fs
      up (inl h) = inl (closes k p q vs us h)
      up (inr (inl h)) = inl (more k q us (build p vs ∷ []) h)
      up (inr (inr w)) = inr w

  finishes : (k : ℕ) (w : Raw) (fs : List Frame) → finish fs ≡ Some w → Within k fs → k ≤ nest_by m w
  finishes k w [] e h = absurd h
  finishes k w (doing p vs ss ∷ fs) e h = ends k w fs p vs ss e h

  pub runs : (l : Language) (k : ℕ) (w : Raw) (ts : List Token) (fs : List Frame) → run l ts fs ≡ Some w → Within k fs → k ≤ nest_by m w
  runs l k w [] fs e h = finishes k w fs e h
  runs l k w (t ∷ ts) fs e h = go (advance l t (second_of ts) fs) (advances l t (second_of ts) k fs) e (λ gs d r. runs l k w ts gs d r)
    where
      go : (o : Option (List Frame)) → Next k fs o → option_and_then (run l ts) o ≡ Some w → ((gs : List Frame) → run l ts gs ≡ Some w → Within k gs → k ≤ nest_by m w) → k ≤ nest_by m w
      go None n e rec = absurd (none-some _ e)
      go (Some gs) n e rec = rec gs e (n gs refl h)

  pub parts_nest_no_deeper : (l : Language) (ts : List Token) (p : Production) (vs : List Raw) (ss : List Symbol) (fs : List Frame) (w : Raw) → run l ts (doing p vs ss ∷ fs) ≡ Some w → held_by m p vs ≤ nest_by m w
  parts_nest_no_deeper l ts p vs ss fs w e = runs l (held_by m p vs) w ts (doing p vs ss ∷ fs) e (inl (λ ws. held_less_by m p vs ws))
