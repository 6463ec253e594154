-- What the productions that are open have does not matter for where tokens lead to.
use Rattle.std.proofs.Common.{◌≡◌, ℕ, zero, suc, Bool, true, false, cond, List, [], ◌∷◌, ◌++◌, Option, Some, None, is_some, option_and_then, refl, sym, ap, subst}
use Rattle.expr_reader.specs.TokenNames.{Token}
use Rattle.expr_reader.specs.Terms.{Language, Nonterminal, Symbol, tok, one, maybe, many, longest, Production}
use Rattle.expr_reader.specs.RawNames.{Raw}
use Rattle.expr_terms.specs.declared.choices.Second.{Second}
use Rattle.expr_terms.specs.Choices.{second_of, choose}
use Rattle.expr_keys.specs.Classes.{fits, begins}
use Rattle.expr_terms.specs.Productions.{body, speaks}
use Rattle.expr_terms.specs.Raws.{keep, build}
use Rattle.expr_grammar.specs.Machine.{Frame, doing, entered, picked, descend, deep, Way, stuck, moved, through, or_else, along, outcome, climb, advance, skips, ended, finish, run}
use Rattle.expr_reader.specs.Outline.{outline, outlines}

-- the same productions are open, at the same places
data Alike : List Frame → List Frame → Type 0 where
  none : Alike [] []
  more : {p : Production} {ss : List Symbol} {vs us : List Raw} {fs gs : List Frame} → Alike fs gs → Alike (doing p vs ss ∷ fs) (doing p us ss ∷ gs)

never : {P : Type 0} {f : Frame} {fs : List Frame} → [] ≡ f ∷ fs → P
never e = cc

same : (fs : List Frame) → Alike fs fs
same [] = none
same (doing p vs ss ∷ fs) = more (same fs)

line : {fs gs : List Frame} → Alike fs gs → outline fs ≡ outline gs
line none = refl
line (more {p} {ss} {vs} {us} {fs} {gs} a) = ap (λ x. doing p [] ss ∷ x) (line a)

same_production : {p q : Production} {ss rs : List Symbol} {fs gs : List Frame} → doing p [] ss ∷ fs ≡ doing q [] rs ∷ gs → p ≡ q
same_production e = cc

same_rest : {p q : Production} {ss rs : List Symbol} {fs gs : List Frame} → doing p [] ss ∷ fs ≡ doing q [] rs ∷ gs → ss ≡ rs
same_rest e = cc

same_below : {p q : Production} {ss rs : List Symbol} {fs gs : List Frame} → doing p [] ss ∷ fs ≡ doing q [] rs ∷ gs → fs ≡ gs
same_below e = cc

alike : (fs gs : List Frame) → outline fs ≡ outline gs → Alike fs gs
alike [] [] e = none
alike [] (doing q us rs ∷ gs) e = never e
alike (doing p vs ss ∷ fs) [] e = never (sym e)
alike (doing p vs ss ∷ fs) (doing q us rs ∷ gs) e = subst (λ x. Alike (doing p vs ss ∷ fs) (doing x us rs ∷ gs)) (same_production e) (subst (λ x. Alike (doing p vs ss ∷ fs) (doing p us x ∷ gs)) (same_rest e) (more (alike fs gs (same_below e))))

-- .. where a token leads to
abbrev SameEnd : Option (List Frame) → Option (List Frame) → Type 0
SameEnd o u = outlines o ≡ outlines u

abbrev wayline : Way → Way
wayline stuck = stuck
wayline (moved fs) = moved (outline fs)
wayline through = through

module _ (l : Language) (t : Token) (s : Second) where
  enters : (go : Nonterminal → List Frame → Option (List Frame)) (p : Production) (ss : List Symbol) {fs gs : List Frame} → Alike fs gs → ((n : Nonterminal) (hs ks : List Frame) → Alike hs ks → SameEnd (go n hs) (go n ks)) → SameEnd (entered go t p ss fs) (entered go t p ss gs)
  enters go p [] a rec = refl
  enters go p (tok c ∷ ss) {fs} {gs} a rec = at (fits c t)
    where
      at : (b : Bool) → SameEnd (cond b (Some (doing p (keep c t []) ss ∷ fs)) None) (cond b (Some (doing p (keep c t []) ss ∷ gs)) None)
      at true = ap (λ x. Some (doing p [] ss ∷ x)) (line a)
      at false = refl
  enters go p (one n ∷ ss) {fs} {gs} a rec = rec n (doing p [] ss ∷ fs) (doing p [] ss ∷ gs) (more a)
  enters go p (maybe n ∷ ss) a rec = refl
  enters go p (many n ∷ ss) a rec = refl
  enters go p (longest n ∷ ss) a rec = refl

  picks : (go : Nonterminal → List Frame → Option (List Frame)) {fs gs : List Frame} (o : Option Production) → Alike fs gs → ((n : Nonterminal) (hs ks : List Frame) → Alike hs ks → SameEnd (go n hs) (go n ks)) → SameEnd (picked go l t fs o) (picked go l t gs o)
  picks go None a rec = refl
  picks go {fs} {gs} (Some p) a rec = at (speaks l p)
    where
      at : (b : Bool) → SameEnd (cond b (entered go t p (body p) fs) None) (cond b (entered go t p (body p) gs) None)
      at true = enters go p (body p) a rec
      at false = refl

  descends : (d : ℕ) (n : Nonterminal) {fs gs : List Frame} → Alike fs gs → SameEnd (descend l d n t s fs) (descend l d n t s gs)
  descends zero n a = refl
  descends (suc d) n a = picks (λ m gs. descend l d m t s gs) (choose n t s) a (λ m hs ks b. descends d m b)

  abbrev SameWay : Way → Way → Type 0
  SameWay v w = wayline v ≡ wayline w

  or_elses : (o u : Option (List Frame)) (v w : Way) → SameEnd o u → SameWay v w → SameWay (or_else o v) (or_else u w)
  or_elses None None v w e r = r
  or_elses None (Some gs) v w e r = absurd cc
  or_elses (Some fs) None v w e r = absurd cc
  or_elses (Some fs) (Some gs) v w e r = cc

  alongs : (p : Production) (vs us : List Raw) {fs gs : List Frame} → Alike fs gs → (ss : List Symbol) → SameWay (along l t s p vs fs ss) (along l t s p us gs ss)
  alongs p vs us a [] = refl
  alongs p vs us {fs} {gs} a (tok c ∷ ss) = at (fits c t)
    where
      at : (b : Bool) → SameWay (cond b (moved (doing p (vs ++ keep c t []) ss ∷ fs)) stuck) (cond b (moved (doing p (us ++ keep c t []) ss ∷ gs)) stuck)
      at true = ap (λ x. moved (doing p [] ss ∷ x)) (line a)
      at false = refl
  alongs p vs us a (one n ∷ ss) = or_elses _ _ stuck stuck (descends deep n (more a)) refl
  alongs p vs us a (maybe n ∷ ss) = or_elses _ _ _ _ (descends deep n (more a)) (alongs p vs us a ss)
  alongs p vs us a (many n ∷ ss) = or_elses _ _ _ _ (descends deep n (more a)) (alongs p vs us a ss)
  alongs p vs us {fs} {gs} a (longest n ∷ ss) = at (begins n t) (alongs p vs us a ss)
    where
      at : (b : Bool) → SameWay (along l t s p vs fs ss) (along l t s p us gs ss) → SameWay (cond b (or_else (descend l deep n t s (doing p vs ss ∷ fs)) stuck) (along l t s p vs fs ss)) (cond b (or_else (descend l deep n t s (doing p us ss ∷ gs)) stuck) (along l t s p us gs ss))
      at true r = or_elses _ _ stuck stuck (descends deep n (more a)) refl
      at false r = r

  joins : (v w : Way) (o u : Option (List Frame)) → SameWay v w → SameEnd o u → SameEnd (outcome v o) (outcome w u)
  joins stuck stuck o u e r = refl
  joins stuck (moved gs) o u e r = absurd cc
  joins stuck through o u e r = absurd cc
  joins (moved fs) stuck o u e r = absurd cc
  joins (moved fs) (moved gs) o u e r = cc
  joins (moved fs) through o u e r = absurd cc
  joins through stuck o u e r = absurd cc
  joins through (moved gs) o u e r = absurd cc
  joins through through o u e r = r

  climbs : {fs gs : List Frame} → Alike fs gs → (r : Production) (xs ys : List Raw) (rs : List Symbol) → SameEnd (climb l t s fs r xs rs) (climb l t s gs r ys rs)
  climbs none r xs ys rs = joins _ _ None None (alongs r xs ys none rs) refl
  climbs (more {p} {ss} {vs} {us} {fs} {gs} a) r xs ys rs = joins _ _ _ _ (alongs r xs ys (more a) rs) (climbs a p (vs ++ build r xs ∷ []) (us ++ build r ys ∷ []) ss)

  advances : {fs gs : List Frame} → Alike fs gs → SameEnd (advance l t s fs) (advance l t s gs)
  advances none = refl
  advances (more {p} {ss} {vs} {us} {fs} {gs} a) = climbs a p vs us ss

ends : {fs gs : List Frame} → Alike fs gs → (r : Production) (xs ys : List Raw) (rs : List Symbol) → is_some (ended fs r xs rs) ≡ is_some (ended gs r ys rs)
ends none r xs ys rs = at (skips rs)
  where
    at : (b : Bool) → is_some (cond b (Some (build r xs)) None) ≡ is_some (cond b (Some (build r ys)) None)
    at true = refl
    at false = refl
ends (more {p} {ss} {vs} {us} {fs} {gs} a) r xs ys rs = at (skips rs) (ends a p (vs ++ build r xs ∷ []) (us ++ build r ys ∷ []) ss)
  where
    at : (b : Bool) → is_some (ended fs p (vs ++ build r xs ∷ []) ss) ≡ is_some (ended gs p (us ++ build r ys ∷ []) ss) → is_some (cond b (ended fs p (vs ++ build r xs ∷ []) ss) None) ≡ is_some (cond b (ended gs p (us ++ build r ys ∷ []) ss) None)
    at true e = e
    at false e = refl

finishes : {fs gs : List Frame} → Alike fs gs → is_some (finish fs) ≡ is_some (finish gs)
finishes none = refl
finishes (more {p} {ss} {vs} {us} {fs} {gs} a) = ends a p vs us ss

runs : (l : Language) (ts : List Token) (fs gs : List Frame) → Alike fs gs → is_some (run l ts fs) ≡ is_some (run l ts gs)
runs l [] fs gs a = finishes a
runs l (t ∷ ts) fs gs a = go (advance l t (second_of ts) fs) (advance l t (second_of ts) gs) (advances l t (second_of ts) a) (λ hs ks b. runs l ts hs ks b)
  where
    lines : (hs ks : List Frame) → Some (outline hs) ≡ Some (outline ks) → outline hs ≡ outline ks
    lines hs ks e = cc

    go : (o u : Option (List Frame)) → SameEnd o u → ((hs ks : List Frame) → Alike hs ks → is_some (run l ts hs) ≡ is_some (run l ts ks)) → is_some (option_and_then (run l ts) o) ≡ is_some (option_and_then (run l ts) u)
    go None None e rec = refl
    go None (Some ks) e rec = absurd cc
    go (Some hs) None e rec = absurd cc
    go (Some hs) (Some ks) e rec = rec hs ks (alike hs ks (lines hs ks e))

pub advance-outline : (l : Language) (t : Token) (s : Second) (fs gs : List Frame) → outline fs ≡ outline gs → outlines (advance l t s fs) ≡ outlines (advance l t s gs)
advance-outline l t s fs gs e = advances l t s (alike fs gs e)

pub finish-outline : (fs gs : List Frame) → outline fs ≡ outline gs → is_some (finish fs) ≡ is_some (finish gs)
finish-outline fs gs e = finishes (alike fs gs e)

pub run-outline : (l : Language) (ts : List Token) (fs gs : List Frame) → outline fs ≡ outline gs → is_some (run l ts fs) ≡ is_some (run l ts gs)
run-outline l ts fs gs e = runs l ts fs gs (alike fs gs e)
