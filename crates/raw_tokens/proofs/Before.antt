-- A value comes before tokens that do not go on with it as it comes before nothing.
use Rattle.std.proofs.Common.{◌≡◌, ℕ, zero, suc, Bool, true, false, cond, ◌&&◌, ◌||◌, not, List}
use Rattle.std.proofs.Common.{[], ◌∷◌, ◌++◌, map, refl, sym, ◌∙◌, ap, subst}
use Rattle.expr_keys.specs.Classes.{begins, is_after_root}
use Rattle.expr_terms.specs.Productions.{keeps, body}
use Rattle.expr_terms.specs.Raws.{is_conditional}
use Rattle.expr_keys.specs.declared.tokens.Token.{Token}
use Rattle.expr_keys.specs.declared.productions.Symbol.{Symbol}
use Rattle.expr_keys.specs.declared.productions.Symbol.TheVariants.{Tok as tok, One as one}
use Rattle.expr_keys.specs.declared.productions.Symbol.TheVariants.{Maybe as maybe, Many as many}
use Rattle.expr_keys.specs.declared.productions.Symbol.TheVariants.{Longest as longest}
use Rattle.expr_keys.specs.declared.productions.Language.{Language}
use Rattle.expr_keys.specs.declared.productions.Nonterminal.{Nonterminal}
use Rattle.expr_keys.specs.declared.productions.Nonterminal.TheVariants as place
use Rattle.expr_keys.specs.declared.productions.Production.{Production}
use Rattle.expr_terms.specs.declared.raws.Raw.{Raw}
use Rattle.expr_terms.specs.declared.raws.Raw.TheVariants.{Leaf as leaf, Node as node}
use Rattle.expr_terms.specs.declared.raws.Raw.TheViews.{out-Raw}
use Rattle.expr_terms.specs.declared.raws.Raw.TheFolds.{map-Raw, ind-Raw}
use Rattle.expr_terms.specs.declared.raws.Raw.TheOpen.{Raw-F, Leaf, Node}
use Rattle.expr_grammar.specs.Grammar.{next_begins, Derives}
use Rattle.raw_tokens.specs.Places.{Way, form, through, nowhere, way, leads}
use Rattle.raw_tokens.specs.Tokens.{raws, others, is_next, seq_tokens, form_tokens}
use Rattle.raw_tokens.specs.Tokens.{tokens_within, deep, tokens_at}
use Rattle.raw_tokens.specs.Stands.{Placed, prints, first_stands}
use Rattle.raw_tokens.specs.Stands.{front_placed, behind_placed, all_stand, seq_stands}
use Rattle.raw_tokens.specs.Stands.{arms_stand, chain_stands, form_stands}
use Rattle.raw_tokens.specs.Stands.{way_stands, stands_within, placed_step, placed_of, stands_at}
use Rattle.raw_tokens.specs.Stands.{goes_on}
use Rattle.raw_tokens.proofs.Built.{never}
use Rattle.raw_tokens.proofs.Follows.{Closed, Keeps, AllKeep, all_keep, seq_keeps, arm_keeps}
use Rattle.raw_tokens.proofs.Follows.{form_keeps, within_keeps, tokens_before}
use Rattle.raw_tokens.proofs.Derive.{placed-roll, tokens_derive}

-- they begin the same
abbrev Alike : List Token → List Token → Type 0
Alike a b = (n : Nonterminal) → next_begins n a ≡ next_begins n b

more_alike : Closed Alike
more_alike t a b r n = refl

both : {a b c d : Bool} → a ≡ b → c ≡ d → (a && c) ≡ (b && d)
both e f = rw (e, f) refl

choose : (c : Bool) {x y u v : Bool} → x ≡ u → y ≡ v → cond c x y ≡ cond c u v
choose true e f = e
choose false e f = f

-- what it is before tokens depends on how they begin
record Steady (p : Placed) : Type 0 where
  keeps : Keeps Alike more_alike p.printed
  same : (n : Nonterminal) (a b : List Token) → Alike a b → p.stands n a ≡ p.stands n b

abbrev AllSteady : List Placed → Type 0
AllSteady [] = Unit {0}
AllSteady (p ∷ ps) = Steady p × AllSteady ps

prints_keep : (ps : List Placed) → AllSteady ps → AllKeep Alike more_alike (prints ps)
prints_keep [] s = tt
prints_keep (p ∷ ps) s = (s.0.keeps, prints_keep ps s.1)

others_steady : (ps : List Placed) → AllSteady ps → AllSteady (others ps)
others_steady [] s = tt
others_steady (p ∷ ps) s = s.1

front_steady : (n : Nonterminal) (ps : List Placed) → AllSteady ps
    → AllSteady (front_placed n ps)
front_steady n [] s = tt
front_steady n (p ∷ ps) s = go (front_steady n ps s.1) (leads n (out-Raw p.printed.raw))
  where
    go : AllSteady (front_placed n ps) → (b : Bool)
        → AllSteady (cond b (p ∷ front_placed n ps) [])
    go h true = (s.0, h)
    go h false = tt

behind_steady : (n : Nonterminal) (ps : List Placed) → AllSteady ps
    → AllSteady (behind_placed n ps)
behind_steady n [] s = tt
behind_steady n (p ∷ ps) s = go (behind_steady n ps s.1) (leads n (out-Raw p.printed.raw))
  where
    go : AllSteady (behind_placed n ps) → (b : Bool)
        → AllSteady (cond b (behind_placed n ps) (p ∷ ps))
    go h true = h
    go h false = s

seq_alike : (ss : List Symbol) (ps : List Placed) (a b : List Token) → AllSteady ps → Alike a b
    → Alike (seq_tokens ss (prints ps) a) (seq_tokens ss (prints ps) b)
seq_alike ss ps a b s r = seq_keeps Alike more_alike ss (prints ps) a b (prints_keep ps s) r

first_same : (n : Nonterminal) (ps : List Placed) (a b : List Token) → AllSteady ps → Alike a b
    → first_stands n ps a ≡ first_stands n ps b
first_same n [] a b s r = refl
first_same n (p ∷ ps) a b s r = s.0.same n a b r

all_same : (n : Nonterminal) (ps : List Placed) (a b : List Token) → AllSteady ps → Alike a b
    → all_stand n ps a ≡ all_stand n ps b
all_same n [] a b s r = refl
all_same n (p ∷ ps) a b s r = both (s.0.same n _ _ (all_keep Alike more_alike n (prints ps) a b
    (prints_keep ps s.1) r)) (all_same n ps a b s.1 r)

seq_same : (ss : List Symbol) (ps : List Placed) (a b : List Token) → AllSteady ps → Alike a b
    → seq_stands ss ps a ≡ seq_stands ss ps b
seq_same [] ps a b s r = refl
seq_same (tok c ∷ ss) ps a b s r = choose (keeps c)
    (both refl (seq_same ss (others ps) a b (others_steady ps s) r)) (seq_same ss ps a b s r)
seq_same (one n ∷ ss) ps a b s r = both
    (first_same n ps _ _ s (seq_alike ss (others ps) a b (others_steady ps s) r))
    (seq_same ss (others ps) a b (others_steady ps s) r)
seq_same (maybe n ∷ ss) ps a b s r = choose (is_next n (prints ps))
    (both (first_same n ps _ _ s (seq_alike ss (others ps) a b (others_steady ps s) r))
    (seq_same ss (others ps) a b (others_steady ps s) r)) (seq_same ss ps a b s r)
seq_same (many n ∷ ss) ps a b s r = both
    (all_same n (front_placed n ps) _ _ (front_steady n ps s)
    (seq_alike ss (behind_placed n ps) a b (behind_steady n ps s) r))
    (seq_same ss (behind_placed n ps) a b (behind_steady n ps s) r)
seq_same (longest n ∷ ss) ps a b s r = choose (is_next n (prints ps))
    (both (first_same n ps _ _ s (seq_alike ss (others ps) a b (others_steady ps s) r))
    (seq_same ss (others ps) a b (others_steady ps s) r))
    (both (ap not (seq_alike ss ps a b s r n)) (seq_same ss ps a b s r))

arms_same : (ps : List Placed) (a b : List Token) → AllSteady ps → Alike a b
    → arms_stand ps a ≡ arms_stand ps b
arms_same [] a b s r = refl
arms_same (arm ∷ []) a b s r = refl
arms_same (arm ∷ test ∷ ps) a b s r = both
    (both (s.1.0.same place.Expr _ _ (λ n. refl)) (s.0.same place.ExprSingle _ _ (λ n. refl)))
    (arms_same ps _ _ s.1.1 (arm_keeps Alike more_alike arm.printed test.printed a b s.0.keeps
    s.1.0.keeps r))

chain_same : (ps : List Placed) (a b : List Token) → AllSteady ps → Alike a b
    → chain_stands ps a ≡ chain_stands ps b
chain_same [] a b s r = refl
chain_same (p ∷ ps) a b s r = both refl (both refl (both (s.0.same place.ExprSingle a b r)
    (arms_same ps _ _ s.1 (s.0.keeps place.ExprSingle a b r))))

form_same : (l : Language) (p : Production) (ps : List Placed) (a b : List Token) → AllSteady ps
    → Alike a b → form_stands l p ps a ≡ form_stands l p ps b
form_same l p ps a b s r = both refl (choose (is_conditional p) (chain_same ps a b s r)
    (both refl (both refl (seq_same (body p) ps a b s r))))

none_left : (a b : Bool) → (a || b) ≡ false → a ≡ false
none_left true b e = never (sym e)
none_left false b e = refl

none_right : (a b : Bool) → (a || b) ≡ false → b ≡ false
none_right true b e = never (sym e)
none_right false b e = e

module _ (l : Language) where
  within_same : (d : ℕ) (v : Raw) (tokens : List Token → List Token)
      (stands : List Token → Bool)
      → ((a b : List Token) → Alike a b → Alike (tokens a) (tokens b))
      → ((a b : List Token) → Alike a b → stands a ≡ stands b)
      → (n : Nonterminal) (a b : List Token) → Alike a b
      → stands_within l d v tokens stands n a ≡ stands_within l d v tokens stands n b
  within_same zero v tokens stands k s n a b r = refl
  within_same (suc d) v tokens stands k s n a b r =
      go (within_same d v tokens stands k s) (way n (out-Raw v))
    where
      go : ((m : Nonterminal) (x y : List Token) → Alike x y
          → stands_within l d v tokens stands m x ≡ stands_within l d v tokens stands m y)
          → (w : Way)
          → way_stands l (record {
            printed = record { raw = v; tokens = tokens_within d v tokens };
            stands = stands_within l d v tokens stands;
          }) stands a w ≡ way_stands l (record {
            printed = record { raw = v; tokens = tokens_within d v tokens };
            stands = stands_within l d v tokens stands;
          }) stands b w
      go h form = s a b r
      go h (through p) =
          let inner : Placed = record {
            printed = record { raw = v; tokens = tokens_within d v tokens };
            stands = stands_within l d v tokens stands;
          } in
          let steady : Steady inner = record {
            keeps = within_keeps Alike more_alike d v tokens k;
            same = h;
          } in
          both refl (seq_same (body p) (inner ∷ []) a b (steady, tt) r)
      go h nowhere = refl

  abbrev IsSteady : Raw → Type 0
  IsSteady v = Steady (placed_of l v)

  every_steady : (ys : List ((v : Raw) × IsSteady v))
      → AllSteady (map (placed_of l) (map (λ y. y.0) ys))
  every_steady [] = tt
  every_steady (y ∷ ys) = (y.1, every_steady ys)

  node_steady : (p : Production) (ps : List Placed) → AllSteady ps
      → Steady (placed_step l (Node p ps))
  node_steady p ps s = record {
    keeps = within_keeps Alike more_alike deep (node p (raws (prints ps)))
        (form_tokens p (prints ps))
        (λ a b r. form_keeps Alike more_alike p (prints ps) a b (prints_keep ps s) r);
    same = within_same deep (node p (raws (prints ps))) (form_tokens p (prints ps))
        (form_stands l p ps)
        (λ a b r. form_keeps Alike more_alike p (prints ps) a b (prints_keep ps s) r)
        (λ a b r. form_same l p ps a b s r);
  }

  leaf_steady : (t : Token) → Steady (placed_step l (Leaf t))
  leaf_steady t = record {
    keeps = within_keeps Alike more_alike deep (leaf t) (λ rest. rest) (λ a b r. r);
    same = within_same deep (leaf t) (λ rest. rest) (λ rest. false) (λ a b r. r)
        (λ a b r. refl);
  }

  layer_steady : (y : Raw-F ((v : Raw) × IsSteady v)) → Steady (placed_step l (map-Raw Raw Placed
      (placed_of l) (map-Raw ((v : Raw) × IsSteady v) Raw (λ p. p.0) y)))
  layer_steady (Leaf t) = leaf_steady t
  layer_steady (Node p ys) =
      node_steady p (map (placed_of l) (map (λ y. y.0) ys)) (every_steady ys)

  steady : (v : Raw) → IsSteady v
  steady = ind-Raw IsSteady (λ x y is. subst (λ p. Steady p) (sym (placed-roll l x))
      (subst (λ z. Steady (placed_step l (map-Raw Raw Placed (placed_of l) z))) is
      (layer_steady y)))

  no_mark : (ts : List Token) → goes_on ts ≡ false → Alike ts []
  no_mark [] e n = refl
  no_mark (t ∷ ts) e n = go (is_after_root n)
    where
      go : (b : Bool) → cond b (begins place.AfterRoot t) (begins place.OccurrenceIndicator t) ≡ false
      go true = none_left _ _ e
      go false = none_right _ _ e

  pub stands_before : (n : Nonterminal) (v : Raw) (rest : List Token) → goes_on rest ≡ false
      → stands_at l n v rest ≡ stands_at l n v []
  stands_before n v rest e = (steady v).same n rest [] (no_mark rest e)

  pub derives_before : (n : Nonterminal) (v : Raw) (rest : List Token)
      → stands_at l n v [] ≡ true → goes_on rest ≡ false
      → Derives l n (tokens_at n v [] ++ rest) v rest
  derives_before n v rest s e = subst (λ ts. Derives l n ts v rest) (tokens_before n v [] rest)
      (tokens_derive l n v rest (stands_before n v rest e ∙ s))
