-- The tokens of a value derive it wherever it stands.
use Rattle.std.proofs.Common.{◌≡◌, ℕ, zero, suc, Bool, true, false, cond, ◌&&◌, not, List, []}
use Rattle.std.proofs.Common.{◌∷◌, map, Option, Some, None, refl, sym, ◌∙◌, ap, subst}
use Rattle.std.proofs.lemmas.Bool.{and_parts}
use Rattle.expr_terms.specs.Productions.{head, body, passes}
use Rattle.expr_terms.specs.Raws.{is_conditional, is_otherwise}
use Rattle.expr_keys.specs.declared.tokens.Token.{Token}
use Rattle.expr_keys.specs.declared.productions.Language.{Language}
use Rattle.expr_keys.specs.declared.productions.Nonterminal.{Nonterminal}
use Rattle.expr_keys.specs.declared.productions.Production.{Production}
use Rattle.expr_terms.specs.declared.raws.Raw.{Raw}
use Rattle.expr_terms.specs.declared.raws.Raw.TheVariants.{Leaf as leaf, Node as node, outs-Leaf}
use Rattle.expr_terms.specs.declared.raws.Raw.TheVariants.{outs-Node, rolls-Leaf, rolls-Node}
use Rattle.expr_terms.specs.declared.raws.Raw.TheViews.{out-Raw, roll-Raw}
use Rattle.expr_terms.specs.declared.raws.Raw.TheFolds.{map-Raw, fold-roll-Raw, ind-Raw}
use Rattle.expr_terms.specs.declared.raws.Raw.TheOpen.{Raw-F, Leaf, Node}
use Rattle.expr_grammar.specs.Grammar.{Derives, by}
use Rattle.raw_tokens.specs.Places.{Way, form, through, nowhere, way_of, way, same_place, passing}
use Rattle.raw_tokens.specs.Tokens.{Printed, raws, seq_tokens, form_tokens, way_tokens}
use Rattle.raw_tokens.specs.Tokens.{tokens_within, deep, printed_step, printed_of, tokens_at}
use Rattle.raw_tokens.specs.Stands.{Placed, prints, seq_stands, form_stands, way_stands}
use Rattle.raw_tokens.specs.Stands.{is_kept, chain_stands, stands_within, placed_step, placed_of}
use Rattle.raw_tokens.specs.Stands.{stands_at}
use Rattle.raw_tokens.proofs.Places.{same, Passing, passing_is}
use Rattle.raw_tokens.proofs.Built.{never, false_of, is_the_conditional, handed_on, kept}
use Rattle.raw_tokens.proofs.Parts.{values, Good, AllGood, parts_derive, longest_body}
use Rattle.raw_tokens.proofs.Chains.{chain_derives}

module _ (l : Language) where
  -- its own tokens derive it at the nonterminal
  abbrev Owned : Nonterminal → Raw → (List Token → List Token) → (List Token → Bool) → Type 0
  Owned n v tokens stands = (rest : List Token) → stands rest ≡ true
      → Derives l n (tokens rest) v rest

  abbrev IsWay : Nonterminal → Raw → (List Token → List Token) → (List Token → Bool) → Way
      → Type 0
  IsWay n v tokens stands form = Owned n v tokens stands
  IsWay n v tokens stands (through p) = (head p ≡ n) × (passes p ≡ true)
  IsWay n v tokens stands nowhere = Unit {0}

  passing_way : (n : Nonterminal) (v : Raw) (tokens : List Token → List Token)
      (stands : List Token → Bool) (o : Option Production) → Passing n o
      → IsWay n v tokens stands (way_of o)
  passing_way n v tokens stands None h = tt
  passing_way n v tokens stands (Some p) h = h

  within_derives : (d : ℕ) (v : Raw) (tokens : List Token → List Token)
      (stands : List Token → Bool)
      → ((n : Nonterminal) → IsWay n v tokens stands (way n (out-Raw v)))
      → (n : Nonterminal) (rest : List Token) → stands_within l d v tokens stands n rest ≡ true
      → Derives l n (tokens_within d v tokens n rest) v rest
  within_derives zero v tokens stands ways n rest e = never e
  within_derives (suc d) v tokens stands ways n rest e =
      go (within_derives d v tokens stands ways) (way n (out-Raw v)) (ways n) e
    where
      go : ((m : Nonterminal) (ts : List Token) → stands_within l d v tokens stands m ts ≡ true
          → Derives l m (tokens_within d v tokens m ts) v ts)
          → (w : Way) → IsWay n v tokens stands w
          → way_stands l (record {
            printed = record { raw = v; tokens = tokens_within d v tokens };
            stands = stands_within l d v tokens stands;
          }) stands rest w ≡ true
          → Derives l n (way_tokens v (tokens_within d v tokens) tokens rest w) v rest
      go good form h e = h rest e
      go good (through p) h e =
          let i = and_parts _ _ e in
          let inner : Placed = record {
            printed = record { raw = v; tokens = tokens_within d v tokens };
            stands = stands_within l d v tokens stands;
          } in
          subst (λ w. Derives l n (seq_tokens (body p) (inner.printed ∷ []) rest) w rest)
          (handed_on p v h.1)
          (by p i.0 h.0 (parts_derive l (body p) (inner ∷ []) rest (longest_body p) (good, tt) i.1))
      go good nowhere h e = never e

  -- a node where it is a form of the nonterminal
  form_derives : (p : Production) (ps : List Placed) → AllGood l ps
      → Owned (head p) (node p (values ps)) (form_tokens p (prints ps)) (form_stands l p ps)
  form_derives p ps g rest e = go (is_conditional p) refl (and_parts _ _ e).1
    where
      go : (b : Bool) → is_conditional p ≡ b
          → cond b (chain_stands ps rest)
          (not (is_otherwise p) && (is_kept p ps && seq_stands (body p) ps rest)) ≡ true
          → Derives l (head p) (form_tokens p (prints ps) rest) (node p (values ps)) rest
      go true b f = let P : Production → Type 0 = λ q. Derives l (head q) (form_tokens q
          (prints ps) rest) (node q (values ps)) rest in
          subst P (sym (is_the_conditional p b)) (chain_derives l ps rest g f)
      go false b f =
          let h = and_parts _ _ f in
          let i = and_parts _ _ h.1 in
          rw b (subst (λ w. Derives l (head p) (seq_tokens (body p) (prints ps) rest) w rest)
          (kept p ps b (false_of h.0) i.0)
          (by p (and_parts _ _ e).0 refl (parts_derive l (body p) ps rest (longest_body p) g i.1)))

  leaf_good : (t : Token) → Good l (placed_step l (Leaf t))
  leaf_good t = within_derives deep (leaf t) (λ rest. rest) (λ rest. false)
      (λ n. subst (λ f. IsWay n (leaf t) (λ rest. rest) (λ rest. false) (way n f))
      (sym (outs-Leaf t)) (passing_way n (leaf t) (λ rest. rest) (λ rest. false)
      (passing n (Leaf t)) (passing_is n (Leaf t))))

  node_ways : (p : Production) (ps : List Placed) → AllGood l ps → (n : Nonterminal)
      → IsWay n (node p (values ps)) (form_tokens p (prints ps)) (form_stands l p ps)
      (way n (Node p (values ps)))
  node_ways p ps g n = go (same_place (head p) n) refl
    where
      go : (b : Bool) → same_place (head p) n ≡ b
          → IsWay n (node p (values ps)) (form_tokens p (prints ps)) (form_stands l p ps)
          (cond b form (way_of (passing n (Node p (values ps)))))
      go true b = subst (λ m. Owned m (node p (values ps)) (form_tokens p (prints ps))
          (form_stands l p ps)) (same (head p) n b) (form_derives p ps g)
      go false b = passing_way n (node p (values ps)) (form_tokens p (prints ps))
          (form_stands l p ps) (passing n (Node p (values ps)))
          (passing_is n (Node p (values ps)))

  node_good : (p : Production) (ps : List Placed) → AllGood l ps
      → Good l (placed_step l (Node p ps))
  node_good p ps g = within_derives deep (node p (values ps)) (form_tokens p (prints ps))
      (form_stands l p ps) (λ n. subst (λ f. IsWay n (node p (values ps)) (form_tokens p
      (prints ps)) (form_stands l p ps) (way n f)) (sym (outs-Node p (values ps)))
      (node_ways p ps g n))

  pub placed-roll : (x : Raw-F Raw) → placed_of l (roll-Raw x)
      ≡ placed_step l (map-Raw Raw Placed (placed_of l) x)
  unfolding placed_of
  placed-roll x = fold-roll-Raw _ _ x

  abbrev IsGood : Raw → Type 0
  IsGood v = Good l (placed_of l v)

  all_good : (ys : List ((v : Raw) × IsGood v))
      → AllGood l (map (placed_of l) (map (λ y. y.0) ys))
  all_good [] = tt
  all_good (y ∷ ys) = (y.1, all_good ys)

  layer_good : (y : Raw-F ((v : Raw) × IsGood v)) → Good l (placed_step l (map-Raw Raw Placed
      (placed_of l) (map-Raw ((v : Raw) × IsGood v) Raw (λ p. p.0) y)))
  layer_good (Leaf t) = leaf_good t
  layer_good (Node p ys) = node_good p (map (placed_of l) (map (λ y. y.0) ys)) (all_good ys)

  good : (v : Raw) → IsGood v
  good = ind-Raw IsGood (λ x y is. subst (λ p. Good l p) (sym (placed-roll x))
      (subst (λ z. Good l (placed_step l (map-Raw Raw Placed (placed_of l) z))) is
      (layer_good y)))

pub printed-roll : (x : Raw-F Raw) → printed_of (roll-Raw x)
    ≡ printed_step (map-Raw Raw Printed printed_of x)
unfolding printed_of
printed-roll x = fold-roll-Raw _ _ x

abbrev SameRaw : Raw → Type 0
SameRaw v = (printed_of v).raw ≡ v

same_raws : (ys : List ((v : Raw) × SameRaw v))
    → raws (map printed_of (map (λ y. y.0) ys)) ≡ map (λ y. y.0) ys
same_raws [] = refl
same_raws (y ∷ ys) = ap (λ v. v ∷ raws (map printed_of (map (λ y. y.0) ys))) y.1
    ∙ ap (λ vs. y.0 ∷ vs) (same_raws ys)

layer_raw : (y : Raw-F ((v : Raw) × SameRaw v)) → (printed_step (map-Raw Raw Printed printed_of
    (map-Raw ((v : Raw) × SameRaw v) Raw (λ p. p.0) y))).raw
    ≡ roll-Raw (map-Raw ((v : Raw) × SameRaw v) Raw (λ p. p.0) y)
layer_raw (Leaf t) = sym (rolls-Leaf t)
layer_raw (Node p ys) = ap (λ vs. node p vs) (same_raws ys) ∙ sym (rolls-Node p _)

pub same_raw : (v : Raw) → (printed_of v).raw ≡ v
same_raw = ind-Raw SameRaw (λ x y is. ap (λ p. p.raw) (printed-roll x)
    ∙ subst (λ z. (printed_step (map-Raw Raw Printed printed_of z)).raw ≡ roll-Raw z) is
    (layer_raw y))

module _ (l : Language) where
  abbrev SamePrinted : Raw → Type 0
  SamePrinted v = (placed_of l v).printed ≡ printed_of v

  same_prints : (ys : List ((v : Raw) × SamePrinted v))
      → prints (map (placed_of l) (map (λ y. y.0) ys)) ≡ map printed_of (map (λ y. y.0) ys)
  same_prints [] = refl
  same_prints (y ∷ ys) = ap (λ p. p ∷ prints (map (placed_of l) (map (λ y. y.0) ys))) y.1
      ∙ ap (λ ps. printed_of y.0 ∷ ps) (same_prints ys)

  layer_printed : (y : Raw-F ((v : Raw) × SamePrinted v)) → (placed_step l (map-Raw Raw Placed
      (placed_of l) (map-Raw ((v : Raw) × SamePrinted v) Raw (λ p. p.0) y))).printed
      ≡ printed_step (map-Raw Raw Printed printed_of (map-Raw ((v : Raw) × SamePrinted v) Raw
      (λ p. p.0) y))
  layer_printed (Leaf t) = refl
  layer_printed (Node p ys) = ap (λ ps. printed_step (Node p ps)) (same_prints ys)

  same_printed : (v : Raw) → (placed_of l v).printed ≡ printed_of v
  same_printed = ind-Raw SamePrinted (λ x y is. ap (λ p. p.printed) (placed-roll l x)
      ∙ subst (λ z. (placed_step l (map-Raw Raw Placed (placed_of l) z)).printed
      ≡ printed_step (map-Raw Raw Printed printed_of z)) is (layer_printed y)
      ∙ sym (printed-roll x))

  pub tokens_derive : (n : Nonterminal) (v : Raw) (rest : List Token)
      → stands_at l n v rest ≡ true → Derives l n (tokens_at n v rest) v rest
  tokens_derive n v rest e =
      subst (λ w. Derives l n (tokens_at n v rest) w rest) (same_raw v)
      (subst (λ p. Derives l n (p.tokens n rest) p.raw rest) (same_printed v)
      (good l v n rest e))
