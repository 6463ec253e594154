-- What it is that the tokens of a form spell it.
use Rattle.std.proofs.Common.{◌≡◌, ℕ, zero, nat_le, List, [], ◌∷◌, Bool, true, false, cond, refl}
use Rattle.std.proofs.Common.{sym, ◌∙◌, ap, subst, arith, ◌≤◌}
use Rattle.std.proofs.lemmas.Bool.{le-leb}
use Rattle.expr_terms.specs.Productions.{body}
use Rattle.expr_terms.specs.Raws.{as_parens, in_parens, build}
use Rattle.expr_keys.specs.declared.keys.Key.TheVariants as key
use Rattle.expr_keys.specs.declared.tokens.Token.{Token}
use Rattle.expr_keys.specs.declared.tokens.Token.TheVariants as token
use Rattle.expr_keys.specs.declared.productions.Nonterminal.{Nonterminal}
use Rattle.expr_keys.specs.declared.productions.Nonterminal.TheVariants as place
use Rattle.expr_keys.specs.declared.productions.Production.{Production}
use Rattle.expr_keys.specs.declared.productions.Production.TheVariants as production
use Rattle.expr_terms.specs.declared.raws.Raw.{Raw}
use Rattle.expr_terms.specs.declared.raws.Raw.TheVariants.{Node as node, outs-Node}
use Rattle.expr_terms.specs.declared.raws.Raw.TheViews.{out-Raw}
use Rattle.expr_terms.specs.declared.raws.Raw.TheOpen.{Raw-F, Leaf, Node}
use Rattle.expr_grammar.specs.Grammar.{next_begins, Derives, by, Seq, end, taken, next, with}
use Rattle.expr_raws.specs.PathRaws.Forms.{Form, step, list, at, said, ends_unmarked, in_parentheses}
use Rattle.expr_raws.specs.PathRaws.Forms.{parenthesized}
use Rattle.raw_laws.proofs.ExprSpellings.Climb.{X, Rise, spot, climb}

-- tokens that are no mark of a type before them
abbrev pub Calm : List Token → Type 0
Calm rest = next_begins place.OccurrenceIndicator rest ≡ false

abbrev pub CalmIf : Bool → List Token → Type 0
CalmIf b rest = b ≡ true → Calm rest

-- what may go on with more parts of its production
abbrev pub goes_on : Production → Bool
goes_on (production.OperatorChain l) = true
goes_on production.Steps = true
goes_on _ = false

abbrev pub is_root : Production → Bool
is_root production.RootSteps = true
is_root _ = false

abbrev pub is_direct : Production → Bool
is_direct production.DirectElement = true
is_direct _ = false

abbrev pub is_closed : Production → Bool
is_closed (production.OperatorChain l) = false
is_closed production.Steps = false
is_closed production.RootSteps = false
is_closed production.DirectElement = false
is_closed _ = true

-- .. of which the parts are known
abbrev pub Inside : (List Token → List Token) → Bool → Raw-F Raw → Type 0
Inside tokens b (Leaf t) = Unit {0}
Inside tokens b (Node p vs) = (goes_on p ≡ true → (rest : List Token) → CalmIf b rest
    → Seq X (body p) (tokens rest) vs rest)
    × (is_root p ≡ true → (rest : List Token) → (ts : List Token)
    × (tokens rest ≡ token.Key key.Slash ∷ ts) × Seq X (body p) ts vs rest)
    × (is_direct p ≡ true → (rest : List Token) → Seq X (body p) (tokens rest) vs rest)

pub record Spelled (f : Form) : Type 0 where
  -- its tokens derive its raw value at its place
  pub whole : (rest : List Token) → CalmIf f.unmarked rest
      → Derives X (spot f.place) (f.tokens rest) f.raw rest
  pub inside : Inside f.tokens f.unmarked (out-Raw f.raw)
  pub placed : nat_le f.place list ≡ true
  -- parentheses bind most tightly, and end in no type
  pub tightest : as_parens (out-Raw f.raw) ≡ true → f.place ≡ zero
  pub ended : as_parens (out-Raw f.raw) ≡ true → f.unmarked ≡ false
  -- steps end in no type
  pub at_step : ends_unmarked step f ≡ false

clash : {P : Type 0} (c : Bool) → c ≡ false → c ≡ true → P
clash true e h = cc
clash false e h = cc

ends_here : (p : Production) → is_closed p ≡ true
    → (goes_on p ≡ false) × (is_root p ≡ false) × (is_direct p ≡ false)
ends_here (production.OperatorChain l) e = absurd (cc)
ends_here production.Steps e = absurd (cc)
ends_here production.RootSteps e = absurd (cc)
ends_here production.DirectElement e = absurd (cc)
ends_here _ e = (refl, refl, refl)

-- a node of a production that goes on with nothing
pub closed : (tokens : List Token → List Token) (b : Bool) (p : Production) (vs : List Raw)
    → is_closed p ≡ true → Inside tokens b (out-Raw (node p vs))
closed tokens b p vs e =
    let h = ends_here p e in
    subst (λ f. Inside tokens b f) (sym (outs-Node p vs))
    (λ g. clash (goes_on p) h.0 g, λ g. clash (is_root p) h.1 g, λ g. clash (is_direct p) h.2 g)

-- .. and of one that goes on
pub opened : (tokens : List Token → List Token) (b : Bool) (p : Production) (vs : List Raw)
    → is_root p ≡ false → is_direct p ≡ false → ((rest : List Token) → CalmIf b rest
    → Seq X (body p) (tokens rest) vs rest) → Inside tokens b (out-Raw (node p vs))
opened tokens b p vs g d s = subst (λ f. Inside tokens b f) (sym (outs-Node p vs))
    (λ h. s, λ h. clash (is_root p) g h, λ h. clash (is_direct p) d h)

pub no_parens : (p : Production) (vs : List Raw) → as_parens (Node p vs) ≡ false
    → {A : Type 0} → as_parens (out-Raw (node p vs)) ≡ true → A
no_parens p vs e h = clash (as_parens (Node p vs)) e (ap as_parens (sym (outs-Node p vs)) ∙ h)

pub least : (n : ℕ) → nat_le zero n ≡ true
least n = let h : zero ≤ n = omega arith in le-leb zero n h

module _ (f : Form) (s : Spelled f) where
  -- within parentheses
  pub in_parentheses_spelled : as_parens (out-Raw f.raw) ≡ false → (rest : List Token)
      → Derives X place.PrimaryExpr (parenthesized f rest) (in_parentheses f) rest
  in_parentheses_spelled e rest =
      let ts : List Token = token.Key key.CloseParen ∷ rest in
      let d : Derives X place.Expr (f.tokens ts) f.raw ts =
      climb f.place list s.placed (f.tokens ts) f.raw ts (s.whole ts (λ u. refl)) in
      subst (λ v. Derives X place.PrimaryExpr (parenthesized f rest) v rest)
      (ap (λ b. cond b f.raw (node production.Parens (f.raw ∷ []))) e)
      (by production.Parens refl refl (taken refl (with d (taken refl end))))

  pub at_spelled : (n : ℕ) (rest : List Token) → CalmIf (ends_unmarked n f) rest
      → Derives X (spot n) (said n f rest) (at n f) rest
  at_spelled n rest = go (nat_le f.place n) refl
    where
      lone : (c : Bool) → as_parens (out-Raw f.raw) ≡ c → nat_le f.place n ≡ false
          → as_parens (out-Raw f.raw) ≡ false
      lone false a e = a
      lone true a e =
          let z : nat_le zero n ≡ false = ap (λ k. nat_le k n) (sym (s.tightest a)) ∙ e in
          clash (nat_le zero n) z (least n)

      go : (b : Bool) → nat_le f.place n ≡ b → CalmIf (cond b f.unmarked false) rest
          → Derives X (spot n) (cond b (f.tokens rest) (parenthesized f rest))
          (cond b f.raw (in_parentheses f)) rest
      go true e c = climb f.place n e (f.tokens rest) f.raw rest (s.whole rest c)
      go false e c = climb zero n (least n) (parenthesized f rest) (in_parentheses f) rest
          (in_parentheses_spelled (lone (as_parens (out-Raw f.raw)) refl e) rest)
