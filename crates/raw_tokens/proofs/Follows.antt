-- What follows a value matters to its tokens and to whether it stands by its first token alone.
use Rattle.std.proofs.Common.{◌≡◌, ℕ, zero, suc, Bool, true, false, cond, List}
use Rattle.std.proofs.Common.{[], ◌∷◌, ◌++◌, map, refl, sym, ap, subst}
use Rattle.expr_terms.specs.Productions.{keeps, body}
use Rattle.expr_terms.specs.Raws.{is_conditional}
use Rattle.expr_keys.specs.declared.tokens.Token.{Token}
use Rattle.expr_keys.specs.declared.productions.Symbol.{Symbol}
use Rattle.expr_keys.specs.declared.productions.Symbol.TheVariants.{Tok as tok, One as one}
use Rattle.expr_keys.specs.declared.productions.Symbol.TheVariants.{Maybe as maybe, Many as many}
use Rattle.expr_keys.specs.declared.productions.Symbol.TheVariants.{Longest as longest}
use Rattle.expr_keys.specs.declared.productions.Nonterminal.{Nonterminal}
use Rattle.expr_keys.specs.declared.productions.Nonterminal.TheVariants as place
use Rattle.expr_keys.specs.declared.productions.Production.{Production}
use Rattle.expr_terms.specs.declared.raws.Raw.{Raw}
use Rattle.expr_terms.specs.declared.raws.Raw.TheVariants.{Leaf as leaf}
use Rattle.expr_terms.specs.declared.raws.Raw.TheViews.{out-Raw}
use Rattle.expr_terms.specs.declared.raws.Raw.TheFolds.{map-Raw, ind-Raw}
use Rattle.expr_terms.specs.declared.raws.Raw.TheOpen.{Raw-F, Leaf, Node}
use Rattle.raw_tokens.specs.Places.{Way, form, through, nowhere, way, leads}
use Rattle.raw_tokens.specs.Tokens.{Printed, fixed, others, first_leaf, first_tokens}
use Rattle.raw_tokens.specs.Tokens.{all_tokens, is_next, front, behind, seq_tokens, arm_tokens}
use Rattle.raw_tokens.specs.Tokens.{arms_tokens, chain_tokens, form_tokens, way_tokens}
use Rattle.raw_tokens.specs.Tokens.{tokens_within, deep, printed_step, printed_of, tokens_at}
use Rattle.raw_tokens.proofs.Derive.{printed-roll}

abbrev pub Related : Type 1
Related = List Token → List Token → Type 0

abbrev pub Closed : Related → Type 0
Closed R = (t : Token) (a b : List Token) → R a b → R (t ∷ a) (t ∷ b)

module _ (R : Related) (closed : Closed R) where
  -- what follows stays related
  abbrev pub Keeps : Printed → Type 0
  Keeps p = (n : Nonterminal) (a b : List Token) → R a b → R (p.tokens n a) (p.tokens n b)

  abbrev pub AllKeep : List Printed → Type 0
  AllKeep [] = Unit {0}
  AllKeep (p ∷ ps) = Keeps p × AllKeep ps

  others_keep : (ps : List Printed) → AllKeep ps → AllKeep (others ps)
  others_keep [] k = tt
  others_keep (p ∷ ps) k = k.1

  first_keeps : (n : Nonterminal) (ps : List Printed) (a b : List Token) → AllKeep ps → R a b
      → R (first_tokens n ps a) (first_tokens n ps b)
  first_keeps n [] a b k r = r
  first_keeps n (p ∷ ps) a b k r = k.0 n a b r

  pub all_keep : (n : Nonterminal) (ps : List Printed) (a b : List Token) → AllKeep ps → R a b
      → R (all_tokens n ps a) (all_tokens n ps b)
  all_keep n [] a b k r = r
  all_keep n (p ∷ ps) a b k r = k.0 n _ _ (all_keep n ps a b k.1 r)

  front_keeps : (n : Nonterminal) (ps : List Printed) → AllKeep ps → AllKeep (front n ps)
  front_keeps n [] k = tt
  front_keeps n (p ∷ ps) k = go (front_keeps n ps k.1) (leads n (out-Raw p.raw))
    where
      go : AllKeep (front n ps) → (b : Bool) → AllKeep (cond b (p ∷ front n ps) [])
      go h true = (k.0, h)
      go h false = tt

  behind_keeps : (n : Nonterminal) (ps : List Printed) → AllKeep ps → AllKeep (behind n ps)
  behind_keeps n [] k = tt
  behind_keeps n (p ∷ ps) k = go (behind_keeps n ps k.1) (leads n (out-Raw p.raw))
    where
      go : AllKeep (behind n ps) → (b : Bool) → AllKeep (cond b (behind n ps) (p ∷ ps))
      go h true = h
      go h false = k

  either : (c : Bool) (x y u v : List Token) → R x u → R y v → R (cond c x y) (cond c u v)
  either true x y u v r s = r
  either false x y u v r s = s

  pub seq_keeps : (ss : List Symbol) (ps : List Printed) (a b : List Token) → AllKeep ps → R a b
      → R (seq_tokens ss ps a) (seq_tokens ss ps b)
  seq_keeps [] ps a b k r = r
  seq_keeps (tok c ∷ ss) ps a b k r = either (keeps c) _ _ _ _
      (closed (first_leaf ps) _ _ (seq_keeps ss (others ps) a b (others_keep ps k) r))
      (closed (fixed c) _ _ (seq_keeps ss ps a b k r))
  seq_keeps (one n ∷ ss) ps a b k r =
      first_keeps n ps _ _ k (seq_keeps ss (others ps) a b (others_keep ps k) r)
  seq_keeps (maybe n ∷ ss) ps a b k r = either (is_next n ps) _ _ _ _
      (first_keeps n ps _ _ k (seq_keeps ss (others ps) a b (others_keep ps k) r))
      (seq_keeps ss ps a b k r)
  seq_keeps (many n ∷ ss) ps a b k r = all_keep n (front n ps) _ _ (front_keeps n ps k)
      (seq_keeps ss (behind n ps) a b (behind_keeps n ps k) r)
  seq_keeps (longest n ∷ ss) ps a b k r = either (is_next n ps) _ _ _ _
      (first_keeps n ps _ _ k (seq_keeps ss (others ps) a b (others_keep ps k) r))
      (seq_keeps ss ps a b k r)

  pub arm_keeps : (arm test : Printed) (a b : List Token) → Keeps arm → Keeps test → R a b
      → R (arm_tokens arm test a) (arm_tokens arm test b)
  arm_keeps arm test a b h i r = closed _ _ _ (closed _ _ _ (i place.Expr _ _ (closed _ _ _
      (closed _ _ _ (h place.ExprSingle _ _ (closed _ _ _ r))))))

  arms_keep : (ps : List Printed) (a b : List Token) → AllKeep ps → R a b
      → R (arms_tokens ps a) (arms_tokens ps b)
  arms_keep [] a b k r = r
  arms_keep (arm ∷ []) a b k r = r
  arms_keep (arm ∷ test ∷ ps) a b k r =
      arms_keep ps _ _ k.1.1 (arm_keeps arm test a b k.0 k.1.0 r)

  chain_keeps : (ps : List Printed) (a b : List Token) → AllKeep ps → R a b
      → R (chain_tokens ps a) (chain_tokens ps b)
  chain_keeps [] a b k r = r
  chain_keeps (p ∷ ps) a b k r = arms_keep ps _ _ k.1 (k.0 place.ExprSingle a b r)

  pub form_keeps : (p : Production) (ps : List Printed) (a b : List Token) → AllKeep ps → R a b
      → R (form_tokens p ps a) (form_tokens p ps b)
  form_keeps p ps a b k r = either (is_conditional p) _ _ _ _ (chain_keeps ps a b k r)
      (seq_keeps (body p) ps a b k r)

  pub within_keeps : (d : ℕ) (v : Raw) (own : List Token → List Token)
      → ((a b : List Token) → R a b → R (own a) (own b))
      → (n : Nonterminal) (a b : List Token) → R a b
      → R (tokens_within d v own n a) (tokens_within d v own n b)
  within_keeps zero v own k n a b r = r
  within_keeps (suc d) v own k n a b r = go (within_keeps d v own k) (way n (out-Raw v))
    where
      go : ((m : Nonterminal) (x y : List Token) → R x y
          → R (tokens_within d v own m x) (tokens_within d v own m y)) → (w : Way)
          → R (way_tokens v (tokens_within d v own) own a w)
          (way_tokens v (tokens_within d v own) own b w)
      go h form = k a b r
      go h (through p) =
          seq_keeps (body p) (record { raw = v; tokens = tokens_within d v own } ∷ []) a b
          (h, tt) r
      go h nowhere = r

  abbrev pub KeepsAt : Raw → Type 0
  KeepsAt v = Keeps (printed_of v)

  every_keeps : (ys : List ((v : Raw) × KeepsAt v))
      → AllKeep (map printed_of (map (λ y. y.0) ys))
  every_keeps [] = tt
  every_keeps (y ∷ ys) = (y.1, every_keeps ys)

  layer_keeps : (y : Raw-F ((v : Raw) × KeepsAt v)) → Keeps (printed_step (map-Raw Raw Printed
      printed_of (map-Raw ((v : Raw) × KeepsAt v) Raw (λ p. p.0) y)))
  layer_keeps (Leaf t) = within_keeps deep (leaf t) (λ rest. rest) (λ a b r. r)
  layer_keeps (Node p ys) = within_keeps deep _ (form_tokens p (map printed_of (map (λ y. y.0)
      ys))) (λ a b r. form_keeps p (map printed_of (map (λ y. y.0) ys)) a b (every_keeps ys) r)

  pub tokens_keep : (v : Raw) → Keeps (printed_of v)
  tokens_keep = ind-Raw KeepsAt (λ x y is. subst (λ p. Keeps p) (sym (printed-roll x))
      (subst (λ z. Keeps (printed_step (map-Raw Raw Printed printed_of z))) is (layer_keeps y)))

-- what follows comes after the tokens
pub tokens_before : (n : Nonterminal) (v : Raw) (a rest : List Token)
    → tokens_at n v (a ++ rest) ≡ tokens_at n v a ++ rest
tokens_before n v a rest = tokens_keep (λ x y. x ≡ y ++ rest) (λ t x y e. ap (λ ts. t ∷ ts) e) v n
    (a ++ rest) a refl
