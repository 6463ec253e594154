-- What whole expressions of XPath mean.
use Rattle.std.proofs.Common.{◌≡◌, List, [], ◌∷◌, map, refl, sym, ap, subst, ◌∙◌}
use Rattle.expr_terms.specs.Nest.{raw_nest_of}
use Rattle.expr_keys.specs.declared.productions.Language.TheVariants.{Xpath as xpath}
use Rattle.expr_keys.specs.declared.productions.Production.{Production}
use Rattle.expr_keys.specs.declared.productions.Production.TheVariants as production
use Rattle.expr_keys.specs.declared.tokens.Token.{Token}
use Rattle.expr_terms.specs.declared.raws.Raw.{Raw}
use Rattle.expr_terms.specs.declared.raws.Raw.TheVariants.{Node as node, outs-Leaf}
use Rattle.expr_terms.specs.declared.raws.Raw.TheVariants.{outs-Node, rolls-Leaf, rolls-Node}
use Rattle.expr_terms.specs.declared.raws.Raw.TheViews.{out-Raw, roll-Raw}
use Rattle.expr_terms.specs.declared.raws.Raw.TheFolds.{map-Raw, ind-Raw}
use Rattle.expr_terms.specs.declared.raws.Raw.TheOpen.{Raw-F, Leaf, Node}
use Rattle.expr_grammar.specs.Grammar.{Spells}
use Rattle.expr_resolve.specs.declared.setting.Setting.{Setting}
use Rattle.expr_resolve.specs.Tables.{is_chain, end as end_rules}
use Rattle.expr_resolve.specs.Folds.{value_of, broken_of, expr_meant}
use Rattle.xpath_laws.proofs.XpathForms.Found.{EachUnbroken, parts_unbroken, end_unbroken}
use Rattle.xpath_laws.proofs.XpathForms.Swapped.{IfCall, no_call, Swapped, AllSwapped, leaf_same, literal_other}
use Rattle.xpath_laws.proofs.XpathForms.Swapped.{node_same, nothing, both, node_is}
use Rattle.xpath_laws.proofs.XpathForms.Reread.{Alike, reread}
use Rattle.xpath_laws.proofs.XpathForms.Fits.{Property, Fit}
use Rattle.xpath_laws.proofs.XpathForms.Joined.{one_expr}
use Rattle.xpath_laws.proofs.XpathForms.Chained.{told_of}
use Rattle.xpath_laws.proofs.XpathForms.Grown.{Rules, whole_good}

-- each value is the same as itself
abbrev Anything : List Raw → Type 0
Anything vs = Unit {0}

abbrev IsItself : Raw → Type 0
IsItself v = Swapped Anything v v

abbrev bare : List ((v : Raw) × IsItself v) → List Raw
bare ys = map (λ y. y.0) ys

out-rolled : (x : Raw-F Raw) → out-Raw (roll-Raw x) ≡ x
out-rolled (Leaf t) = ap out-Raw (rolls-Leaf t) ∙ outs-Leaf t
out-rolled (Node q vs) = ap out-Raw (rolls-Node q vs) ∙ outs-Node q vs

all_themselves : (ys : List ((v : Raw) × IsItself v)) → AllSwapped Anything (bare ys) (bare ys)
all_themselves [] = nothing
all_themselves (y ∷ ys) = both y.1 (all_themselves ys)

layer_itself : (y : Raw-F ((v : Raw) × IsItself v)) (v : Raw)
    → out-Raw v ≡ map-Raw ((v : Raw) × IsItself v) Raw (λ z. z.0) y → IsItself v
layer_itself (Leaf t) v o = leaf_same t o o
layer_itself (Node q ys) v o =
    node_same q (bare ys) (bare ys) o o (no_call q (Unit {0}) tt) (all_themselves ys)

pub itself : (v : Raw) → IsItself v
itself = ind-Raw IsItself (λ x y is. layer_itself y (roll-Raw x) (out-rolled x ∙ sym is))

module _ (s : Setting) (A : List Raw → Type 0) where
  -- .. and no call breaks a rule
  abbrev pub Ruled : List Raw → Type 0
  Ruled vs = A vs × (end_rules s production.Call (map (value_of s) vs) ≡ [])

  call_ruled : (q : Production) (ws : List Raw) → broken_of s (node q ws) ≡ [] → IfCall q (A ws)
      → IfCall q (Ruled ws)
  unfolding is_chain
  call_ruled production.Call ws k a = (a, end_unbroken s production.Call ws refl k)
  call_ruled _ ws k a = tt

  mutual
    ruled : {v w : Raw} → Swapped A v w → broken_of s w ≡ [] → Swapped Ruled v w
    ruled (leaf_same t a b) k = leaf_same t a b
    ruled (literal_other t u vs a b c) k = literal_other t u vs a b c
    ruled {w = w} (node_same q vs ws a b c d) k =
        let of_node : broken_of s (node q ws) ≡ [] =
        subst (λ x. broken_of s x ≡ []) (node_is w q ws b) k in
        node_same q vs ws a b (call_ruled q ws of_node c)
        (all_ruled d (parts_unbroken s q ws of_node))

    all_ruled : {vs ws : List Raw} → AllSwapped A vs ws → EachUnbroken s ws
        → AllSwapped Ruled vs ws
    all_ruled nothing k = nothing
    all_ruled (both x more) k = both (ruled x k.0) (all_ruled more k.1)

  -- other texts of literals are spelled by other tokens
  pub record Respelled (ts : List Token) (w : Raw) : Type 0 where
    pub new : List Token
    pub alike : Alike ts new
    pub spelled : Spells xpath new w

  pub respelled : {ts : List Token} {v w : Raw} → Spells xpath ts v → Swapped A v w
      → Respelled ts w
  respelled {w = w} d x =
      let r = reread A d w x in record { new = r.new; alike = r.alike; spelled = r.spelled }

  pub fits : (asked : Property) → Rules asked s Ruled → {ts : List Token} {v w : Raw}
      → Spells xpath ts v → Swapped A v w → broken_of s w ≡ []
      → Fit asked (raw_nest_of w) (expr_meant s w)
  fits asked r {w = w} d x b =
      let t = (reread Ruled d w (ruled x b)).tree in
      one_expr asked (told_of s w) (whole_good asked s Ruled r t)

abbrev nothing_asked : Property
nothing_asked = record { Holds = λ e. Unit {0}; of_form = λ x h. tt }

plain_rules : (s : Setting) → Rules nothing_asked s (Ruled s Anything)
plain_rules s = record {
  variable = λ name. tt;
  unbroken = λ vs a. a.1;
  bare_call = λ t a. tt;
  call = λ t a vs es x e n f h. tt;
}

-- an expression that breaks no rule is of XPath, and nests no deeper than it is written
pub xpath_fits : (s : Setting) {ts : List Token} {v : Raw} → Spells xpath ts v
    → broken_of s v ≡ [] → Fit nothing_asked (raw_nest_of v) (expr_meant s v)
xpath_fits s {v = v} d b = fits s Anything nothing_asked (plain_rules s) d (itself v) b
