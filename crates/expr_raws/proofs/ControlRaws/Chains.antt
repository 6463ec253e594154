-- Operators that follow one another mean what they are printed for.
use Rattle.std.proofs.Common.{◌≡◌, ℕ, List, [], ◌∷◌, ◌++◌, map, Bool, true, false, ◌&&◌}
use Rattle.std.proofs.Common.{cond, nat_lt, nat_eq, refl, sym, ◌∙◌, ap}
use Rattle.std.proofs.lemmas.Bool.{eqb-true}
use Rattle.expr_keys.specs.Classes.{tight}
use Rattle.xt_syntax.specs.declared.exprs.Expr.{Expr}
use Rattle.expr_keys.specs.declared.keys.Key.{Key}
use Rattle.expr_keys.specs.declared.tokens.Token.TheVariants as token
use Rattle.expr_keys.specs.declared.productions.Level.{Level}
use Rattle.expr_keys.specs.declared.productions.Level.TheVariants as level
use Rattle.expr_keys.specs.declared.productions.Production.{Production}
use Rattle.expr_keys.specs.declared.productions.Production.TheVariants as production
use Rattle.expr_terms.specs.declared.raws.Raw.{Raw}
use Rattle.expr_terms.specs.declared.raws.Raw.TheVariants.{Leaf as leaf, Node as node}
use Rattle.expr_terms.specs.declared.raws.Raw.TheVariants.{rolls-Node}
use Rattle.expr_terms.specs.declared.raws.Raw.TheViews.{out-Raw, roll-Raw, roll-out-Raw}
use Rattle.expr_terms.specs.declared.raws.Raw.TheOpen.{Raw-F, Leaf, Node}
use Rattle.expr_rules.specs.declared.expr_meant.meant.Meant.{Meant}
use Rattle.expr_rules.specs.declared.expr_meant.meant.Meant.TheVariants as meant
use Rattle.expr_rules.specs.ExprMeant.Parts.{expr_of, expr_or, key_of, key_in}
use Rattle.expr_raws.specs.ExprControl.Table.{control_value}
use Rattle.expr_raws.specs.ExprControl.Operators.{operated}
use Rattle.expr_raws.specs.ExprControl.Operators as operators
use Rattle.expr_resolve.specs.declared.setting.Setting.{Setting}
use Rattle.expr_resolve.specs.Tables.{is_chain, family_of, value_in}
use Rattle.expr_resolve.specs.Folds.{value_of}
use Rattle.expr_raws.specs.PathRaws.Forms.{Form, below, at, in_parentheses, key_leaf}
use Rattle.expr_raws.specs.ControlRaws.Operators.{tail, once, left, is_chain_of}
use Rattle.expr_raws.specs.ControlRaws.Operators.{chain_parts, or_first, is_mark}
use Rattle.expr_raws.proofs.PathRaws.Values.{value_leaf, value_node, at_means, append_values, parens_mean}

module _ (s : Setting) where
  -- levels whose operators have an operand at the right
  abbrev pub Plain : Level → Type 0
  Plain l = (ms : List Meant) → operated s.prefixes.bound l ms ≡ operators.tail ms

  pub tail_means : (l : Level) → Plain l → (k : Key) (b : Form) (e : Expr)
      → value_of s b.raw ≡ meant.Expr e → value_of s (tail l k b) ≡ meant.Tail k e
  unfolding is_chain family_of value_in control_value expr_or key_of key_in
  tail_means l plain k b e h =
      value_node s (production.OperatorTail l) (key_leaf k ∷ at (below l) b ∷ [])
      ∙ rw (value_leaf s (token.Key k), at_means s (below l) b e h) (plain _)

  -- levels whose operators associate to the left
  abbrev pub Leftly : Level → Type 0
  Leftly l = (ms : List Meant) → operators.chained l ms ≡ operators.left_chain l ms

  pub chain_means : (l : Level) (vs : List Raw)
      → value_of s (node (production.OperatorChain l) vs)
      ≡ meant.Expr (operators.chained l (map (value_of s) vs))
  unfolding is_chain family_of value_in control_value
  chain_means l vs = value_node s (production.OperatorChain l) vs

  pub once_means : (l : Level) → Plain l → Leftly l → (k : Key) (a b : Form) (x y : Expr)
      → value_of s a.raw ≡ meant.Expr x → value_of s b.raw ≡ meant.Expr y
      → value_of s (once l k a b).raw ≡ meant.Expr (operators.operated_by l k x y)
  unfolding expr_of operators.joined
  once_means l plain leftly k a b x y h i =
      chain_means l (at (below l) a ∷ tail l k b ∷ [])
      ∙ ap (λ e. meant.Expr e) (leftly _)
      ∙ rw (at_means s (below l) a x h, tail_means l plain k b y i) refl

  -- one more operator after those of the level
  chain_on : (l : Level) (e : Expr) (ms : List Meant) (m : Meant)
      → operators.chain_from l e (ms ++ m ∷ [])
      ≡ operators.joined l (operators.chain_from l e ms) m
  chain_on l e [] m = refl
  chain_on l e (n ∷ ms) m = chain_on l (operators.joined l e n) ms m

  pub chain_ends : (l : Level) → Plain l → Leftly l → (k : Key) (u : Raw) (us : List Raw)
      (b : Form) (x y : Expr)
      → operators.left_chain l (map (value_of s) (u ∷ us)) ≡ x → value_of s b.raw ≡ meant.Expr y
      → value_of s (node (production.OperatorChain l) ((u ∷ us) ++ tail l k b ∷ []))
      ≡ meant.Expr (operators.operated_by l k x y)
  unfolding operators.joined
  chain_ends l plain leftly k u us b x y h i =
      chain_means l ((u ∷ us) ++ tail l k b ∷ [])
      ∙ ap (λ e. meant.Expr e) (leftly _
      ∙ ap (λ ms. operators.left_chain l ms) (append_values s (u ∷ us) (tail l k b ∷ []))
      ∙ chain_on l (expr_of (value_of s u)) (map (value_of s) us) (value_of s (tail l k b))
      ∙ rw (tail_means l plain k b y i) (ap (λ e. operators.operated_by l k e y) h))

abbrev level_of : ℕ → Level
level_of n = cond (nat_lt n 9) (cond (nat_lt n 6) (cond (nat_lt n 4) level.Cast (cond (nat_lt n
    5) level.Castable level.Treat)) (cond (nat_lt n 7) level.InstanceOf (cond (nat_lt n 8)
    level.Intersect level.Union))) (cond (nat_lt n 12) (cond (nat_lt n 10) level.Multiplicative (cond
    (nat_lt n 11) level.Additive level.Range)) (cond (nat_lt n 13) level.Comparison (cond (nat_lt n
    14) level.And level.Or)))

level_back : (l : Level) → level_of (tight l) ≡ l
level_back level.Or = refl
level_back _ = refl

pub same_level : (m l : Level) → nat_eq (tight m) (tight l) ≡ true → m ≡ l
same_level m l e = sym (level_back m) ∙ ap level_of (eqb-true (tight m) (tight l) e) ∙ level_back l

pub chain_of : (l : Level) (p : Production) → is_chain_of l p ≡ true → p ≡ production.OperatorChain l
chain_of l (production.OperatorChain m) e = ap (λ x. production.OperatorChain x) (same_level m l e)
chain_of l _ e = absurd (cc)

module _ (s : Setting) where
  left_parts : (l : Level) → Leftly s l → (a : Form) (x : Expr)
      → value_of s a.raw ≡ meant.Expr x
      → operators.left_chain l (map (value_of s)
      (or_first (chain_parts l (out-Raw a.raw)) (at (below l) a))) ≡ x
  unfolding expr_of
  left_parts l leftly a x h = go (out-Raw a.raw) (roll-out-Raw a.raw)
    where
      go : (f : Raw-F Raw) → roll-Raw f ≡ a.raw → operators.left_chain l (map (value_of s)
          (or_first (chain_parts l f) (at (below l) a))) ≡ x
      go (Leaf t) o = rw (at_means s (below l) a x h) refl
      go (Node p vs) o = parts (is_chain_of l p) refl vs o
        where
          parts : (b : Bool) → is_chain_of l p ≡ b → (us : List Raw)
              → roll-Raw (Node p us) ≡ a.raw
              → operators.left_chain l (map (value_of s)
              (or_first (cond b us []) (at (below l) a))) ≡ x
          parts false b us o = rw (at_means s (below l) a x h) refl
          parts true b [] o = rw (at_means s (below l) a x h) refl
          parts true b (u ∷ us) o =
              let is : node (production.OperatorChain l) (u ∷ us) ≡ a.raw =
              ap (λ q. node q (u ∷ us)) (sym (chain_of l p b)) ∙ sym (rolls-Node p (u ∷ us)) ∙ o in
              let value : meant.Expr (operators.chained l (map (value_of s) (u ∷ us)))
              ≡ meant.Expr x = sym (chain_means s l (u ∷ us)) ∙ ap (λ v. value_of s v) is ∙ h in
              sym (leftly _) ∙ ap expr_of value

  pub left_means : (l : Level) → Plain s l → Leftly s l → (k : Key) (a b : Form) (x y : Expr)
      → value_of s a.raw ≡ meant.Expr x → value_of s b.raw ≡ meant.Expr y
      → value_of s (left l k a b).raw ≡ meant.Expr (operators.operated_by l k x y)
  unfolding expr_of
  left_means l plain leftly k a b x y h i = pick (is_mark k && a.unmarked)
    where
      go : (us : List Raw)
          → operators.left_chain l (map (value_of s) (or_first us (at (below l) a))) ≡ x
          → value_of s (node (production.OperatorChain l) (or_first us (at (below l) a) ++ tail l k b ∷ []))
          ≡ meant.Expr (operators.operated_by l k x y)
      go [] e = chain_ends s l plain leftly k (at (below l) a) [] b x y e i
      go (u ∷ us) e = chain_ends s l plain leftly k u us b x y e i

      pick : (m : Bool) → value_of s (node (production.OperatorChain l)
          (cond m (in_parentheses a ∷ []) (or_first (chain_parts l (out-Raw a.raw))
          (at (below l) a)) ++ tail l k b ∷ [])) ≡ meant.Expr (operators.operated_by l k x y)
      pick true = chain_ends s l plain leftly k (in_parentheses a) [] b x y
          (ap expr_of (parens_mean s a.raw x h)) i
      pick false = go (chain_parts l (out-Raw a.raw)) (left_parts l leftly a x h)
