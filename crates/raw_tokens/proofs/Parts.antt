-- The tokens of the parts of a production derive its body.
use Rattle.std.proofs.Common.{◌≡◌, Bool, true, false, cond, ◌&&◌, not, List, [], ◌∷◌, refl, sym}
use Rattle.std.proofs.Common.{◌∙◌, ap, subst}
use Rattle.std.proofs.lemmas.Bool.{eq-eqb, and_parts}
use Rattle.expr_keys.specs.Keys.{code}
use Rattle.expr_keys.specs.declared.productions.Level.TheVariants as level
use Rattle.expr_keys.specs.declared.productions.Nonterminal.TheVariants as place
use Rattle.expr_keys.specs.declared.productions.Production.{Production}
use Rattle.expr_keys.specs.declared.productions.Production.TheVariants as production
use Rattle.expr_keys.specs.Classes.{fits}
use Rattle.expr_terms.specs.Productions.{body, below, repeats, keeps}
use Rattle.expr_terms.specs.Raws.{keep}
use Rattle.expr_keys.specs.declared.tokens.Token.{Token}
use Rattle.expr_keys.specs.declared.productions.Class.{Class}
use Rattle.expr_keys.specs.declared.productions.Class.TheVariants as class
use Rattle.expr_keys.specs.declared.productions.Symbol.{Symbol}
use Rattle.expr_keys.specs.declared.productions.Symbol.TheVariants.{Tok as tok, One as one}
use Rattle.expr_keys.specs.declared.productions.Symbol.TheVariants.{Maybe as maybe, Many as many}
use Rattle.expr_keys.specs.declared.productions.Symbol.TheVariants.{Longest as longest}
use Rattle.expr_keys.specs.declared.productions.Language.{Language}
use Rattle.expr_keys.specs.declared.productions.Nonterminal.{Nonterminal}
use Rattle.expr_terms.specs.declared.raws.Raw.{Raw}
use Rattle.expr_terms.specs.declared.raws.Raw.TheVariants.{Leaf as leaf, rolls-Leaf}
use Rattle.expr_terms.specs.declared.raws.Raw.TheViews.{out-Raw, roll-Raw, roll-out-Raw}
use Rattle.expr_terms.specs.declared.raws.Raw.TheOpen.{Raw-F, Leaf, Node}
use Rattle.expr_grammar.specs.Grammar.{next_begins, Derives, Seq, end, taken, next, without}
use Rattle.expr_grammar.specs.Grammar.{with, stop, again, bare, given}
use Rattle.raw_tokens.specs.Places.{leads}
use Rattle.raw_tokens.specs.Tokens.{raws, fixed, leaf_of, others, first_leaf}
use Rattle.raw_tokens.specs.Tokens.{all_tokens, front, behind, seq_tokens}
use Rattle.raw_tokens.specs.Stands.{Placed, prints, fits_leaf, first_fits}
use Rattle.raw_tokens.specs.Stands.{front_placed, behind_placed, all_stand}
use Rattle.raw_tokens.specs.Stands.{seq_stands}
use Rattle.raw_tokens.proofs.Begins.{is_longest, begins_so}
use Rattle.raw_tokens.proofs.Built.{never, false_of}

abbrev pub values : List Placed → List Raw
values ps = raws (prints ps)

-- what must not be left out is one of the two
abbrev all_longest : List Symbol → Bool
all_longest [] = true
all_longest (longest n ∷ ss) = is_longest n && all_longest ss
all_longest (_ ∷ ss) = all_longest ss

pub longest_body : (p : Production) → all_longest (body p) ≡ true
longest_body (production.OperatorChain l) = go (repeats l)
  where
    go : (b : Bool)
        → all_longest (one (below l) ∷ cond b (many (place.Tail l)) (maybe (place.Tail l)) ∷ [])
        ≡ true
    go true = refl
    go false = refl
longest_body (production.OperatorTail level.InstanceOf) = refl
longest_body (production.OperatorTail level.Treat) = refl
longest_body (production.OperatorTail level.Castable) = refl
longest_body (production.OperatorTail level.Cast) = refl
longest_body (production.OperatorTail level.Or) = refl
longest_body (production.OperatorTail _) = refl
longest_body production.WholeExpr = refl
longest_body _ = refl

module _ (l : Language) where
  -- its tokens derive it wherever it stands
  abbrev pub Good : Placed → Type 0
  Good p = (n : Nonterminal) (rest : List Token) → p.stands n rest ≡ true
      → Derives l n (p.printed.tokens n rest) p.printed.raw rest

  abbrev pub AllGood : List Placed → Type 0
  AllGood [] = Unit {0}
  AllGood (p ∷ ps) = Good p × AllGood ps

fits_fixed : (c : Class) → keeps c ≡ false → fits c (fixed c) ≡ true
fits_fixed (class.Key k) e = eq-eqb (code k) (code k) refl
fits_fixed class.AttributeEnd e = refl
fits_fixed class.TagEnd e = refl
fits_fixed class.EmptyEnd e = refl
fits_fixed class.EnclosedOpen e = refl
fits_fixed _ e = never (sym e)

record IsLeaf (c : Class) (v : Raw) (t : Token) : Type 0 where
  is : leaf t ≡ v
  fit : fits c t ≡ true

leaf_is : (c : Class) (v : Raw) → fits_leaf c (out-Raw v) ≡ true → IsLeaf c v (leaf_of (out-Raw v))
leaf_is c v = go (out-Raw v) (roll-out-Raw v)
  where
    go : (f : Raw-F Raw) → roll-Raw f ≡ v → fits_leaf c f ≡ true → IsLeaf c v (leaf_of f)
    go (Leaf t) o e = record { is = sym (rolls-Leaf t) ∙ o; fit = e }
    go (Node p vs) o e = never e

keeps_it : (c : Class) (t : Token) (vs : List Raw) → keeps c ≡ true → keep c t vs ≡ leaf t ∷ vs
keeps_it c t vs e = rw e refl

drops_it : (c : Class) (t : Token) (vs : List Raw) → keeps c ≡ false → keep c t vs ≡ vs
drops_it c t vs e = rw e refl

front_prints : (n : Nonterminal) (ps : List Placed)
    → front n (prints ps) ≡ prints (front_placed n ps)
front_prints n [] = refl
front_prints n (p ∷ ps) = go (front_prints n ps) (leads n (out-Raw p.printed.raw))
  where
    go : front n (prints ps) ≡ prints (front_placed n ps)
        → (b : Bool) → cond b (p.printed ∷ front n (prints ps)) []
        ≡ prints (cond b (p ∷ front_placed n ps) [])
    go h true = ap (λ qs. p.printed ∷ qs) h
    go h false = refl

behind_prints : (n : Nonterminal) (ps : List Placed)
    → behind n (prints ps) ≡ prints (behind_placed n ps)
behind_prints n [] = refl
behind_prints n (p ∷ ps) = go (behind_prints n ps) (leads n (out-Raw p.printed.raw))
  where
    go : behind n (prints ps) ≡ prints (behind_placed n ps)
        → (b : Bool) → cond b (behind n (prints ps)) (p.printed ∷ prints ps)
        ≡ prints (cond b (behind_placed n ps) (p ∷ ps))
    go h true = h
    go h false = refl

module _ (l : Language) where
  all_behind : (n : Nonterminal) (ps : List Placed) → AllGood l ps
      → AllGood l (behind_placed n ps)
  all_behind n [] g = tt
  all_behind n (p ∷ ps) g = go (all_behind n ps g.1) (leads n (out-Raw p.printed.raw))
    where
      go : AllGood l (behind_placed n ps) → (b : Bool)
          → AllGood l (cond b (behind_placed n ps) (p ∷ ps))
      go h true = h
      go h false = g

  many_derive : (n : Nonterminal) {ss : List Symbol} {ts rest : List Token} (ps : List Placed)
      → AllGood l ps → all_stand n (front_placed n ps) ts ≡ true
      → Seq l ss ts (values (behind_placed n ps)) rest
      → Seq l (many n ∷ ss) (all_tokens n (prints (front_placed n ps)) ts) (values ps) rest
  many_derive n [] g = λ e s. stop s
  many_derive n {ss = ss} {ts = ts} {rest = rest} (p ∷ ps) g =
      go (λ e s. many_derive n ps g.1 e s) (leads n (out-Raw p.printed.raw))
    where
      go : (all_stand n (front_placed n ps) ts ≡ true
          → Seq l ss ts (values (behind_placed n ps)) rest
          → Seq l (many n ∷ ss) (all_tokens n (prints (front_placed n ps)) ts) (values ps) rest)
          → (b : Bool) → all_stand n (cond b (p ∷ front_placed n ps) []) ts ≡ true
          → Seq l ss ts (values (cond b (behind_placed n ps) (p ∷ ps))) rest
          → Seq l (many n ∷ ss) (all_tokens n (prints (cond b (p ∷ front_placed n ps) [])) ts)
          (values (p ∷ ps)) rest
      go more true e s = let h = and_parts _ _ e in again (g.0 n _ h.0) (more h.1 s)
      go more false e s = stop s

  tok_derives : (c : Class) (ss : List Symbol) (ps : List Placed) (rest : List Token)
      → ((qs : List Placed) → AllGood l qs → seq_stands ss qs rest ≡ true
      → Seq l ss (seq_tokens ss (prints qs) rest) (values qs) rest)
      → AllGood l ps → seq_stands (tok c ∷ ss) ps rest ≡ true
      → Seq l (tok c ∷ ss) (seq_tokens (tok c ∷ ss) (prints ps) rest) (values ps) rest
  tok_derives c ss ps rest more g = go (keeps c) refl ps g
    where
      go : (b : Bool) → keeps c ≡ b → (ps : List Placed) → AllGood l ps
          → cond b (first_fits c ps && seq_stands ss (others ps) rest) (seq_stands ss ps rest)
          ≡ true
          → Seq l (tok c ∷ ss) (cond b (first_leaf (prints ps) ∷ seq_tokens ss (others
          (prints ps)) rest) (fixed c ∷ seq_tokens ss (prints ps) rest)) (values ps) rest
      go true b [] g e = never e
      go true b (p ∷ ps) g e =
          let h = and_parts _ _ e in
          let i = leaf_is c p.printed.raw h.0 in
          let t : Token = leaf_of (out-Raw p.printed.raw) in
          subst (λ vs. Seq l (tok c ∷ ss) (t ∷ seq_tokens ss (prints ps) rest) vs rest)
          (keeps_it c t (values ps) b ∙ ap (λ v. v ∷ values ps) i.is)
          (taken i.fit (more ps g.1 h.1))
      go false b ps g e =
          subst (λ vs. Seq l (tok c ∷ ss) (fixed c ∷ seq_tokens ss (prints ps) rest) vs rest)
          (drops_it c (fixed c) (values ps) b) (taken (fits_fixed c b) (more ps g e))

  -- what may be left out
  maybe_derives : (n : Nonterminal) (ss : List Symbol) (ps : List Placed) (rest : List Token)
      → ((qs : List Placed) → AllGood l qs → seq_stands ss qs rest ≡ true
      → Seq l ss (seq_tokens ss (prints qs) rest) (values qs) rest)
      → AllGood l ps → seq_stands (maybe n ∷ ss) ps rest ≡ true
      → Seq l (maybe n ∷ ss) (seq_tokens (maybe n ∷ ss) (prints ps) rest) (values ps) rest
  maybe_derives n ss [] rest more g e = without (more [] tt e)
  maybe_derives n ss (p ∷ ps) rest more g e = go (leads n (out-Raw p.printed.raw)) e
    where
      go : (b : Bool)
          → cond b (p.stands n (seq_tokens ss (prints ps) rest) && seq_stands ss ps rest)
          (seq_stands ss (p ∷ ps) rest) ≡ true
          → Seq l (maybe n ∷ ss) (cond b (p.printed.tokens n (seq_tokens ss (prints ps) rest))
          (seq_tokens ss (prints (p ∷ ps)) rest)) (values (p ∷ ps)) rest
      go true e = let h = and_parts _ _ e in with (g.0 n _ h.0) (more ps g.1 h.1)
      go false e = without (more (p ∷ ps) g e)

  -- .. and must not where the next token could begin it
  longest_derives : (n : Nonterminal) (ss : List Symbol) (ps : List Placed) (rest : List Token)
      → is_longest n ≡ true → ((qs : List Placed) → AllGood l qs → seq_stands ss qs rest ≡ true
      → Seq l ss (seq_tokens ss (prints qs) rest) (values qs) rest)
      → AllGood l ps → seq_stands (longest n ∷ ss) ps rest ≡ true
      → Seq l (longest n ∷ ss) (seq_tokens (longest n ∷ ss) (prints ps) rest) (values ps) rest
  longest_derives n ss [] rest is more g e =
      let h = and_parts _ _ e in bare (false_of h.0) (more [] tt h.1)
  longest_derives n ss (p ∷ ps) rest is more g e = go (leads n (out-Raw p.printed.raw)) e
    where
      go : (b : Bool)
          → cond b (p.stands n (seq_tokens ss (prints ps) rest) && seq_stands ss ps rest)
          (not (next_begins n (seq_tokens ss (prints (p ∷ ps)) rest))
          && seq_stands ss (p ∷ ps) rest) ≡ true
          → Seq l (longest n ∷ ss) (cond b (p.printed.tokens n (seq_tokens ss (prints ps) rest))
          (seq_tokens ss (prints (p ∷ ps)) rest)) (values (p ∷ ps)) rest
      go true e =
          let h = and_parts _ _ e in
          let d = g.0 n _ h.0 in
          given (begins_so n is d) d (more ps g.1 h.1)
      go false e = let h = and_parts _ _ e in bare (false_of h.0) (more (p ∷ ps) g h.1)

  pub parts_derive : (ss : List Symbol) (ps : List Placed) (rest : List Token)
      → all_longest ss ≡ true → AllGood l ps → seq_stands ss ps rest ≡ true
      → Seq l ss (seq_tokens ss (prints ps) rest) (values ps) rest
  parts_derive [] [] rest is g e = end
  parts_derive [] (p ∷ ps) rest is g e = never e
  parts_derive (tok c ∷ ss) ps rest is g e =
      tok_derives c ss ps rest (λ qs h f. parts_derive ss qs rest is h f) g e
  parts_derive (one n ∷ ss) [] rest is g e = never e
  parts_derive (one n ∷ ss) (p ∷ ps) rest is g e =
      let h = and_parts _ _ e in next (g.0 n _ h.0) (parts_derive ss ps rest is g.1 h.1)
  parts_derive (maybe n ∷ ss) ps rest is g e =
      maybe_derives n ss ps rest (λ qs h f. parts_derive ss qs rest is h f) g e
  parts_derive (many n ∷ ss) ps rest is g e =
      let h = and_parts _ _ e in
      rw (front_prints n ps, behind_prints n ps) (many_derive n ps g h.0
      (parts_derive ss (behind_placed n ps) rest is (all_behind n ps g) h.1))
  parts_derive (longest n ∷ ss) ps rest is g e =
      let h = and_parts _ _ is in
      longest_derives n ss ps rest h.0 (λ qs i f. parts_derive ss qs rest h.1 i f) g e
