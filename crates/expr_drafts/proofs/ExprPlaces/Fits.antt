-- How a form stands as an operand: told by how tightly it binds alone.
use Rattle.std.proofs.Common.{◌≡◌, ℕ, ◌+◌, ◌<◌, ◌≤◌, Bool, true, false, List, [], ◌∷◌, ◌++◌}
use Rattle.std.proofs.Common.{Option, Some, None, nat_le, nat_eq, cond, refl, sym, ap, ◌∙◌, arith}
use Rattle.std.proofs.Common.{◌⊎◌, inl, inr}
use Rattle.std.proofs.lemmas.Bool.{eqb-true, eq-eqb, le-leb}
use Rattle.std.proofs.lemmas.Bool.Decides.{leb_tells}
use Rattle.std.proofs.Math.Dec.{leb-zero}
use Rattle.expr_keys.specs.Classes.{tight}
use Rattle.expr_keys.specs.declared.keys.Key.TheVariants as key
use Rattle.expr_keys.specs.declared.tokens.Token.{Token}
use Rattle.expr_keys.specs.declared.tokens.Token.TheVariants as token
use Rattle.expr_keys.specs.declared.productions.Level.{Level}
use Rattle.expr_keys.specs.declared.productions.Level.TheVariants as level
use Rattle.expr_keys.specs.declared.productions.Production.TheVariants as production
use Rattle.expr_terms.specs.declared.raws.Raw.{Raw}
use Rattle.expr_keys.specs.declared.productions.Production.{Production}
use Rattle.expr_terms.specs.declared.raws.Raw.TheVariants.{Node as node, outs-Node}
use Rattle.expr_terms.specs.declared.raws.Raw.TheViews.{out-Raw}
use Rattle.expr_terms.specs.declared.raws.Raw.TheOpen.{Node}
use Rattle.expr_raws.specs.PathRaws.Forms.{Form, path, step, of_level, said, parenthesized, nothing}
use Rattle.expr_raws.specs.PathRaws.Paths.{with_token, Start, alone, behind, from_root, root, behind_steps}
use Rattle.expr_raws.specs.PathRaws.Paths.{start_of, slash_raw, slash_tokens, slashed}
use Rattle.expr_raws.specs.ControlRaws.Operators.{chain_parts, front_tokens}

-- the tokens as the left operand of an operator that may join others of its level, and of `/`; and
-- that what ends in a type is no primary expression
pub record Fits (alone : Bool) (f : Form) : Type 0 where
  pub chained : (l : Level) (ts : List Token)
      → front_tokens (chain_parts l (out-Raw f.raw)) l f ts ≡ said (of_level l) f ts
  pub outer : f.unmarked ≡ true → nat_le f.place 0 ≡ false
  pub started : (b : Form) (ts : List Token)
      → slash_tokens (start_of (out-Raw f.raw)) f b ts ≡ cond alone
      (token.Key key.Slash ∷ said step b ts) (said path f (token.Key key.Slash ∷ said step b ts))

said_alike : (m n : ℕ) (f : Form) (ts : List Token) → nat_le f.place m ≡ nat_le f.place n
    → said m f ts ≡ said n f ts
said_alike m n f ts e = ap (λ b. cond b (f.tokens ts) (parenthesized f ts)) e

-- a place that is that of no level and no path, and of no primary expression that ends in a type
pub record Apart (place : ℕ) (unmarked : Bool) : Type 0 where
  pub levels : (l : Level) → nat_le place (tight l) ≡ nat_le place (of_level l)
  pub outer : unmarked ≡ true → nat_le place 0 ≡ false
  pub paths : nat_le place step ≡ nat_le place path

pub simple : (f : Form) (p : Production) (vs : List Raw) → f.raw ≡ node p vs
    → ((l : Level) → chain_parts l (Node p vs) ≡ []) → start_of (Node p vs) ≡ alone
    → Apart f.place f.unmarked → Fits false f
simple f p vs e c s a =
    let o : out-Raw f.raw ≡ Node p vs = ap out-Raw e ∙ outs-Node p vs in
    record {
      chained = λ l ts. ap (λ us. front_tokens us l f ts) (ap (chain_parts l) o ∙ c l)
          ∙ said_alike (tight l) (of_level l) f ts (a.levels l);
      outer = a.outer;
      started = λ b ts. ap (λ x. slash_tokens x f b ts) (ap start_of o ∙ s)
          ∙ said_alike step path f (token.Key key.Slash ∷ said step b ts) a.paths;
    }

pub primary_apart : Apart 0 false
primary_apart = record {
  levels = λ l. leb-zero (tight l) ∙ sym (leb-zero (of_level l));
  outer = λ h. absurd (cc);
  paths = refl;
}

levels_step : (l : Level) → nat_le 1 (tight l) ≡ nat_le 1 (of_level l)
levels_step level.Or = refl
levels_step level.And = refl
levels_step level.Comparison = refl
levels_step level.Range = refl
levels_step level.Additive = refl
levels_step level.Multiplicative = refl
levels_step level.Union = refl
levels_step level.Intersect = refl
levels_step level.InstanceOf = refl
levels_step level.Treat = refl
levels_step level.Castable = refl
levels_step level.Cast = refl

pub step_apart : (u : Bool) → Apart 1 u
step_apart u = record { levels = levels_step; outer = λ h. refl; paths = refl }

levels_signs : (l : Level) → nat_le 3 (tight l) ≡ nat_le 3 (of_level l)
levels_signs level.Or = refl
levels_signs level.And = refl
levels_signs level.Comparison = refl
levels_signs level.Range = refl
levels_signs level.Additive = refl
levels_signs level.Multiplicative = refl
levels_signs level.Union = refl
levels_signs level.Intersect = refl
levels_signs level.InstanceOf = refl
levels_signs level.Treat = refl
levels_signs level.Castable = refl
levels_signs level.Cast = refl

pub signs_apart : (u : Bool) → Apart 3 u
signs_apart u = record { levels = levels_signs; outer = λ h. refl; paths = refl }

levels_single : (l : Level) → nat_le 16 (tight l) ≡ nat_le 16 (of_level l)
levels_single level.Or = refl
levels_single level.And = refl
levels_single level.Comparison = refl
levels_single level.Range = refl
levels_single level.Additive = refl
levels_single level.Multiplicative = refl
levels_single level.Union = refl
levels_single level.Intersect = refl
levels_single level.InstanceOf = refl
levels_single level.Treat = refl
levels_single level.Castable = refl
levels_single level.Cast = refl

pub single_apart : (u : Bool) → Apart 16 u
single_apart u = record { levels = levels_single; outer = λ h. refl; paths = refl }

levels_list : (l : Level) → nat_le 17 (tight l) ≡ nat_le 17 (of_level l)
levels_list level.Or = refl
levels_list level.And = refl
levels_list level.Comparison = refl
levels_list level.Range = refl
levels_list level.Additive = refl
levels_list level.Multiplicative = refl
levels_list level.Union = refl
levels_list level.Intersect = refl
levels_list level.InstanceOf = refl
levels_list level.Treat = refl
levels_list level.Castable = refl
levels_list level.Cast = refl

pub list_apart : (u : Bool) → Apart 17 u
list_apart u = record { levels = levels_list; outer = λ h. refl; paths = refl }

pub nothing_fits : Fits false nothing
nothing_fits = simple nothing production.Context _ refl (λ l. refl) refl primary_apart

pub token_fits : (o : Option Token) (f : Token → Form) → ((t : Token) → Fits false (f t))
    → Fits false (with_token o f)
token_fits None f h = nothing_fits
token_fits (Some t) f h = h t

eq_le : (a b : ℕ) → nat_eq a b ≡ true → nat_le (a + 1) (b + 1) ≡ true
eq_le a b h = le-leb (a + 1) (b + 1) (let e = eqb-true a b h in omega arith)

ne_le : (a b : ℕ) → nat_eq a b ≡ false → nat_le (a + 1) b ≡ nat_le (a + 1) (b + 1)
ne_le a b h = go (leb_tells (a + 1) b) (leb_tells (a + 1) (b + 1))
  where
    go : ((nat_le (a + 1) b ≡ true) × (a + 1 ≤ b)) ⊎ ((nat_le (a + 1) b ≡ false) × (b < a + 1))
        → ((nat_le (a + 1) (b + 1) ≡ true) × (a + 1 ≤ b + 1))
        ⊎ ((nat_le (a + 1) (b + 1) ≡ false) × (b + 1 < a + 1))
        → nat_le (a + 1) b ≡ nat_le (a + 1) (b + 1)
    go (inl x) (inl y) = x.0 ∙ sym y.0
    go (inl x) (inr y) = absurd (omega arith)
    go (inr x) (inl y) =
        let e : a ≡ b = omega arith in
        let g : nat_eq a b ≡ true = eq-eqb a b e in absurd (cc)
    go (inr x) (inr y) = x.0 ∙ sym y.0

pub front_some : (us : List Raw) (x : Raw) (l : Level) (f : Form) (ts : List Token)
    → front_tokens (us ++ x ∷ []) l f ts ≡ f.tokens ts
front_some [] x l f ts = refl
front_some (u ∷ us) x l f ts = refl

-- an operator of a level, which joins those of its level
pub chain_fits : (m : Level) (f : Form) (vs : List Raw)
    → ((l : Level) (ts : List Token) → front_tokens vs l f ts ≡ f.tokens ts)
    → f.place ≡ of_level m
    → f.raw ≡ node (production.OperatorChain m) vs
    → nat_le (of_level m) 0 ≡ false → nat_le (of_level m) step ≡ nat_le (of_level m) path
    → Fits false f
chain_fits m f vs h p e o q = record {
  chained = λ l ts. ap (λ us. front_tokens us l f ts) (ap (chain_parts l) view)
      ∙ go l ts (nat_eq (tight m) (tight l)) refl;
  outer = λ u. ap (λ n. nat_le n 0) p ∙ o;
  started = λ b ts. ap (λ x. slash_tokens x f b ts) (ap start_of view)
      ∙ said_alike step path f (token.Key key.Slash ∷ said step b ts)
      (ap (λ n. nat_le n step) p ∙ (q ∙ ap (λ n. nat_le n path) (sym p)));
}
  where
    view : out-Raw f.raw ≡ Node (production.OperatorChain m) vs
    view = ap out-Raw e ∙ outs-Node (production.OperatorChain m) vs

    go : (l : Level) (ts : List Token) (x : Bool) → nat_eq (tight m) (tight l) ≡ x
        → front_tokens (cond x vs []) l f ts ≡ said (of_level l) f ts
    go l ts true i = h l ts ∙ sym (ap (λ b. cond b (f.tokens ts) (parenthesized f ts))
        (ap (λ n. nat_le n (of_level l)) p ∙ eq_le (tight m) (tight l) i))
    go l ts false i = said_alike (tight l) (of_level l) f ts
        (ap (λ n. nat_le n (tight l)) p
        ∙ (ne_le (tight m) (tight l) i ∙ ap (λ n. nat_le n (of_level l)) (sym p)))

-- a path, which other steps join
behind_some : (vs : List Raw) (x : Raw) (f b : Form) (ts : List Token)
    → slash_tokens (behind_steps (vs ++ x ∷ [])) f b ts
    ≡ f.tokens (token.Key key.Slash ∷ said step b ts)
behind_some [] x f b ts = refl
behind_some (v ∷ vs) x f b ts = refl

path_chains : (s : Start) (a b : Form) (l : Level)
    → chain_parts l (out-Raw (slash_raw s a b)) ≡ []
path_chains (behind vs) a b l = ap (chain_parts l) (outs-Node production.Steps _)
path_chains (from_root vs) a b l = ap (chain_parts l) (outs-Node production.RootSteps _)
path_chains root a b l = ap (chain_parts l) (outs-Node production.RootSteps _)
path_chains alone a b l = ap (chain_parts l) (outs-Node production.Steps _)

path_starts : (s : Start) (a b f c : Form) (ts : List Token)
    → slash_tokens (start_of (out-Raw (slash_raw s a b))) f c ts
    ≡ f.tokens (token.Key key.Slash ∷ said step c ts)
path_starts (behind vs) a b f c ts =
    ap (λ x. slash_tokens (start_of x) f c ts) (outs-Node production.Steps _)
    ∙ behind_some vs _ f c ts
path_starts (from_root vs) a b f c ts =
    ap (λ x. slash_tokens (start_of x) f c ts) (outs-Node production.RootSteps _)
path_starts root a b f c ts =
    ap (λ x. slash_tokens (start_of x) f c ts) (outs-Node production.RootSteps _)
path_starts alone a b f c ts =
    ap (λ x. slash_tokens (start_of x) f c ts) (outs-Node production.Steps _)

levels_path : (l : Level) → nat_le 2 (tight l) ≡ nat_le 2 (of_level l)
levels_path level.Or = refl
levels_path level.And = refl
levels_path level.Comparison = refl
levels_path level.Range = refl
levels_path level.Additive = refl
levels_path level.Multiplicative = refl
levels_path level.Union = refl
levels_path level.Intersect = refl
levels_path level.InstanceOf = refl
levels_path level.Treat = refl
levels_path level.Castable = refl
levels_path level.Cast = refl

pub slashed_fits : (a b : Form) → Fits false (slashed a b)
slashed_fits a b = record {
  chained = λ l ts. ap (λ us. front_tokens us l (slashed a b) ts)
      (path_chains (start_of (out-Raw a.raw)) a b l)
      ∙ said_alike (tight l) (of_level l) (slashed a b) ts (levels_path l);
  outer = λ h. refl;
  started = λ c ts. path_starts (start_of (out-Raw a.raw)) a b (slashed a b) c ts;
}
