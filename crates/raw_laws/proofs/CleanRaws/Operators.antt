-- Lists, operators and conditionals that are printed break no rule.
use Rattle.std.proofs.Common.{◌≡◌, List, [], ◌∷◌, ◌++◌, map, Bool, true, false, cond}
use Rattle.std.proofs.Common.{◌&&◌, refl, sym, ◌∙◌, ap}
use Rattle.expr_keys.specs.declared.keys.Key.{Key}
use Rattle.expr_keys.specs.declared.tokens.Token.TheVariants as token
use Rattle.expr_keys.specs.declared.productions.Level.{Level}
use Rattle.expr_keys.specs.declared.productions.Production.TheVariants as production
use Rattle.expr_terms.specs.declared.raws.Raw.{Raw}
use Rattle.expr_terms.specs.declared.raws.Raw.TheVariants.{Node as node, rolls-Node}
use Rattle.expr_terms.specs.declared.raws.Raw.TheViews.{out-Raw, roll-Raw, roll-out-Raw}
use Rattle.expr_terms.specs.declared.raws.Raw.TheOpen.{Raw-F, Leaf, Node}
use Rattle.expr_resolve.specs.declared.setting.Setting.{Setting}
use Rattle.expr_resolve.specs.Folds.{broken_of}
use Rattle.expr_raws.specs.PathRaws.Forms.{Form, below, single, list, signs, at, all_at, in_parentheses}
use Rattle.expr_raws.specs.PathRaws.Forms.{key_leaf}
use Rattle.expr_raws.specs.ControlRaws.Operators.{tail, once, is_chain_of, chain_parts, or_first, is_mark}
use Rattle.expr_raws.specs.ControlRaws.Operators.{operands, left, many, listed, signed, ArmForm, arm_parts}
use Rattle.expr_raws.specs.ControlRaws.Operators.{conditional}
use Rattle.expr_raws.proofs.ControlRaws.Chains.{chain_of}
use Rattle.raw_laws.proofs.CleanRaws.Clean.{Clean, AllClean, append_clean, free_clean, free_parts}
use Rattle.raw_laws.proofs.CleanRaws.Clean.{leaf_clean, at_clean, AllGood, all_clean, is_free_level}
use Rattle.raw_laws.proofs.CleanRaws.Clean.{reversed_clean}

module _ (s : Setting) where
  tail_clean : (l : Level) → is_free_level l ≡ true → (k : Key) (b : Form) → Clean s b.raw
      → Clean s (tail l k b)
  tail_clean l i k b c = free_clean s (production.OperatorTail l) i (key_leaf k ∷ at (below l) b ∷ [])
      (leaf_clean s (token.Key k), (at_clean s (below l) b c, tt))

  pub once_clean : (l : Level) → is_free_level l ≡ true → (k : Key) (a b : Form)
      → Clean s a.raw → Clean s b.raw → Clean s (once l k a b).raw
  once_clean l i k a b ca cb = free_clean s (production.OperatorChain l) refl
      (at (below l) a ∷ tail l k b ∷ []) (at_clean s (below l) a ca, (tail_clean l i k b cb, tt))

  -- the parts of operators of the level that follow one another
  operands_clean : (l : Level) (k : Key) (a : Form) → Clean s a.raw → AllClean s (operands l k a)
  operands_clean l k a c = pick (is_mark k && a.unmarked)
    where
      first : (us : List Raw) → AllClean s us → AllClean s (or_first us (at (below l) a))
      first [] x = (at_clean s (below l) a c, tt)
      first (u ∷ us) x = x

      go : (f : Raw-F Raw) → roll-Raw f ≡ a.raw → AllClean s (chain_parts l f)
      go (Leaf t) o = tt
      go (Node p vs) o = parts (is_chain_of l p) refl
        where
          parts : (b : Bool) → is_chain_of l p ≡ b → AllClean s (cond b vs [])
          parts false e = tt
          parts true e =
              let is : node (production.OperatorChain l) vs ≡ a.raw =
              ap (λ q. node q vs) (sym (chain_of l p e)) ∙ sym (rolls-Node p vs) ∙ o in
              free_parts s (production.OperatorChain l) refl vs (ap (λ v. broken_of s v) is ∙ c)

      pick : (m : Bool) → AllClean s (cond m (in_parentheses a ∷ [])
          (or_first (chain_parts l (out-Raw a.raw)) (at (below l) a)))
      pick true = (free_clean s production.Parens refl (a.raw ∷ []) (c, tt), tt)
      pick false = first (chain_parts l (out-Raw a.raw)) (go (out-Raw a.raw) (roll-out-Raw a.raw))

  pub left_clean : (l : Level) → is_free_level l ≡ true → (k : Key) (a b : Form)
      → Clean s a.raw → Clean s b.raw → Clean s (left l k a b).raw
  left_clean l i k a b ca cb = free_clean s (production.OperatorChain l) refl
      (operands l k a ++ tail l k b ∷ [])
      (append_clean s (operands l k a) (tail l k b ∷ []) (operands_clean l k a ca)
      (tail_clean l i k b cb, tt))

  tails_clean : (l : Level) → is_free_level l ≡ true → (k : Key) (fs : List Form)
      → AllGood s fs → AllClean s (map (λ f. tail l k f) fs)
  tails_clean l i k [] a = tt
  tails_clean l i k (f ∷ fs) a = (tail_clean l i k f a.0.0, tails_clean l i k fs a.1)

  pub many_clean : (l : Level) → is_free_level l ≡ true → (k : Key) (fs : List Form)
      → AllGood s fs → (many l k fs).can ≡ true → Clean s (many l k fs).raw
  many_clean l i k [] a c = absurd (cc)
  many_clean l i k (f ∷ []) a c = absurd (cc)
  many_clean l i k (f ∷ g ∷ fs) a c = free_clean s (production.OperatorChain l) refl
      (at (below l) f ∷ map (λ x. tail l k x) (g ∷ fs))
      (at_clean s (below l) f a.0.0, tails_clean l i k (g ∷ fs) a.1)

  pub listed_clean : (fs : List Form) → AllGood s fs → (listed fs).can ≡ true
      → Clean s (listed fs).raw
  listed_clean [] a c = free_clean s production.Parens refl [] tt
  listed_clean (f ∷ []) a c = absurd (cc)
  listed_clean (f ∷ g ∷ fs) a c = free_clean s production.ExprList refl
      (all_at single (f ∷ g ∷ fs)) (all_clean s single (f ∷ g ∷ fs) a)

  pub signed_clean : (k : Key) (a : Form) → Clean s a.raw → Clean s (signed k a).raw
  signed_clean k a c = free_clean s production.Signed refl (key_leaf k ∷ at signs a ∷ [])
      (leaf_clean s (token.Key k), (at_clean s signs a c, tt))

  -- conditionals

  abbrev pub AllArms : List ArmForm → Type 0
  AllArms [] = Unit {0}
  AllArms (a ∷ arms) = (Clean s a.test.raw × Clean s a.first.raw) × AllArms arms

  arms_clean : (arms : List ArmForm) (v : Raw) → AllArms arms → Clean s v
      → AllClean s (arm_parts arms v)
  arms_clean [] v a c = (c, tt)
  arms_clean (f ∷ arms) v a c =
      (at_clean s list f.test a.0.0, (at_clean s single f.first a.0.1, arms_clean arms v a.1 c))

  pub if_clean : (arms : List ArmForm) (e : Form) → AllArms arms → Clean s e.raw
      → Clean s (conditional arms e).raw
  if_clean arms e a c = reversed_clean s (arm_parts arms (at single e))
      (arms_clean arms (at single e) a (at_clean s single e c))
