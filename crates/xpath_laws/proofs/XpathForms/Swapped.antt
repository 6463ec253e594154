-- Values as they are written, and the same with the texts of some literals changed.
use Rattle.std.proofs.Common.{◌≡◌, ℕ, List, [], ◌∷◌, true, sym, ap, ◌∙◌}
use Rattle.xt_names.specs.Classes.{is_xml_text}
use Rattle.expr_keys.specs.declared.productions.Production.{Production}
use Rattle.expr_keys.specs.declared.productions.Production.TheVariants as production
use Rattle.expr_keys.specs.declared.tokens.Token.{Token}
use Rattle.expr_keys.specs.declared.tokens.Token.TheVariants as token
use Rattle.expr_terms.specs.declared.raws.Raw.{Raw}
use Rattle.expr_terms.specs.declared.raws.Raw.TheVariants.{Leaf as leaf, Node as node, rolls-Leaf}
use Rattle.expr_terms.specs.declared.raws.Raw.TheVariants.{rolls-Node}
use Rattle.expr_terms.specs.declared.raws.Raw.TheViews.{out-Raw, roll-Raw, roll-out-Raw}
use Rattle.expr_terms.specs.declared.raws.Raw.TheOpen.{Leaf, Node}

abbrev pub IfCall : Production → Type 0 → Type 0
IfCall production.Call A = A
IfCall _ A = Unit {0}

pub no_call : (q : Production) (A : Type 0) → A → IfCall q A
no_call production.Call A a = a
no_call _ A a = tt

-- what a raw value is
pub node_is : (v : Raw) (q : Production) (vs : List Raw) → out-Raw v ≡ Node q vs → v ≡ node q vs
node_is v q vs e = sym (roll-out-Raw v) ∙ ap roll-Raw e ∙ rolls-Node q vs

pub leaf_is : (v : Raw) (t : Token) → out-Raw v ≡ Leaf t → v ≡ leaf t
leaf_is v t e = sym (roll-out-Raw v) ∙ ap roll-Raw e ∙ rolls-Leaf t

-- a literal
pub record IsLiteral (v : Raw) : Type 0 where
  pub text : List ℕ
  pub others : List Raw
  pub is : out-Raw v ≡ Node production.Literal (leaf (token.Quoted text) ∷ others)

-- the same value with the texts of some literals changed, in which each call has what is asked of it
module _ (A : List Raw → Type 0) where
  mutual
    pub data Swapped : Raw → Raw → Type 0 where
      leaf_same : {v w : Raw} (t : Token) → out-Raw v ≡ Leaf t → out-Raw w ≡ Leaf t → Swapped v w
      literal_other : {v w : Raw} (t u : List ℕ) (vs : List Raw)
          → out-Raw v ≡ Node production.Literal (leaf (token.Quoted t) ∷ vs)
          → out-Raw w ≡ Node production.Literal (leaf (token.Quoted u) ∷ [])
          → is_xml_text u ≡ true → Swapped v w
      node_same : {v w : Raw} (q : Production) (vs ws : List Raw) → out-Raw v ≡ Node q vs
          → out-Raw w ≡ Node q ws → IfCall q (A ws) → AllSwapped vs ws
          → Swapped v w

    pub data AllSwapped : List Raw → List Raw → Type 0 where
      nothing : AllSwapped [] []
      both : {v w : Raw} {vs ws : List Raw} → Swapped v w → AllSwapped vs ws
          → AllSwapped (v ∷ vs) (w ∷ ws)
