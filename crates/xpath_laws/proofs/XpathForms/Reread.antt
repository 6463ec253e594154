-- What is read of an expression in which the names of keys stand in place of literals: the same, of
-- other tokens.
use Rattle.std.proofs.Common.{◌≡◌, ℕ, List, [], ◌∷◌, Bool, true, false, cond}
use Rattle.std.proofs.Common.{refl, sym, ap, subst, ◌∙◌, inl, inr}
use Rattle.xt_names.specs.Classes.{is_xml_text}
use Rattle.expr_keys.specs.Classes.{fits, begins}
use Rattle.expr_terms.specs.Productions.{body, head, speaks, keeps}
use Rattle.expr_terms.specs.Raws.{build, keep}
use Rattle.expr_keys.specs.declared.productions.Language.TheVariants.{Xpath as xpath}
use Rattle.expr_keys.specs.declared.productions.Class.{Class}
use Rattle.expr_keys.specs.declared.productions.Class.TheVariants as class
use Rattle.expr_keys.specs.declared.productions.Nonterminal.{Nonterminal}
use Rattle.expr_keys.specs.declared.productions.Production.{Production}
use Rattle.expr_keys.specs.declared.productions.Production.TheVariants as production
use Rattle.expr_keys.specs.declared.productions.Symbol.{Symbol}
use Rattle.expr_keys.specs.declared.productions.Symbol.TheVariants.{Tok as tok, One as one}
use Rattle.expr_keys.specs.declared.productions.Symbol.TheVariants.{Maybe as maybe, Many as many}
use Rattle.expr_keys.specs.declared.productions.Symbol.TheVariants.{Longest as longest}
use Rattle.expr_keys.specs.declared.tokens.Token.{Token}
use Rattle.expr_keys.specs.declared.tokens.Token.TheVariants as token
use Rattle.expr_terms.specs.declared.raws.Raw.{Raw}
use Rattle.expr_terms.specs.declared.raws.Raw.TheVariants.{Leaf as leaf, Node as node, outs-Leaf}
use Rattle.expr_terms.specs.declared.raws.Raw.TheOpen.{Leaf, Node}
use Rattle.expr_grammar.specs.Grammar.{Derives, by, Seq, next_begins}
use Rattle.expr_grammar.specs.Grammar as grammar
use Rattle.xpath_laws.proofs.XpathForms.Swapped.{IfCall, Swapped, AllSwapped, leaf_same}
use Rattle.xpath_laws.proofs.XpathForms.Swapped.{literal_other, node_same, nothing, both, leaf_is}
use Rattle.xpath_laws.proofs.XpathForms.Rebuilt.{Rebuilt, rebuilt}

-- what is read of an expression of XPath, without its tokens; each call in it may be there
module _ (A : List Raw → Type 0) where
  mutual
    pub data Tree : Nonterminal → Raw → Type 0 where
      grown : {n : Nonterminal} (q : Production) {vs : List Raw} → speaks xpath q ≡ true
          → head q ≡ n → IfCall q (A vs) → Trees (body q) vs → Tree n (build q vs)

    pub data Trees : List Symbol → List Raw → Type 0 where
      ended : Trees [] []
      read : {c : Class} {ss : List Symbol} (t : Token) {vs : List Raw} → fits c t ≡ true
          → Trees ss vs → Trees (tok c ∷ ss) (keep c t vs)
      part : {n : Nonterminal} {ss : List Symbol} {v : Raw} {vs : List Raw} → Tree n v
          → Trees ss vs → Trees (one n ∷ ss) (v ∷ vs)
      absent : {n : Nonterminal} {ss : List Symbol} {vs : List Raw} → Trees ss vs
          → Trees (maybe n ∷ ss) vs
      present : {n : Nonterminal} {ss : List Symbol} {v : Raw} {vs : List Raw} → Tree n v
          → Trees ss vs → Trees (maybe n ∷ ss) (v ∷ vs)
      over : {n : Nonterminal} {ss : List Symbol} {vs : List Raw} → Trees ss vs
          → Trees (many n ∷ ss) vs
      more : {n : Nonterminal} {ss : List Symbol} {v : Raw} {vs : List Raw} → Tree n v
          → Trees (many n ∷ ss) vs → Trees (many n ∷ ss) (v ∷ vs)
      alone : {n : Nonterminal} {ss : List Symbol} {vs : List Raw} → Trees ss vs
          → Trees (longest n ∷ ss) vs
      behind : {n : Nonterminal} {ss : List Symbol} {v : Raw} {vs : List Raw} → Tree n v
          → Trees ss vs → Trees (longest n ∷ ss) (v ∷ vs)

-- tokens that are the same, but that some literals have other texts
pub data AlikeToken : Token → Token → Type 0 where
  same_token : {t : Token} → AlikeToken t t
  other_text : {t u : List ℕ} → is_xml_text u ≡ true → AlikeToken (token.Quoted t) (token.Quoted u)

pub data Alike : List Token → List Token → Type 0 where
  no_tokens : Alike [] []
  and_token : {t u : Token} {ts us : List Token} → AlikeToken t u → Alike ts us
      → Alike (t ∷ ts) (u ∷ us)

begins_alike : (n : Nonterminal) (t u : Token) → AlikeToken t u → begins n t ≡ begins n u
begins_alike n t _ same_token = refl
begins_alike n _ _ (other_text h) = refl

next_alike : (n : Nonterminal) (ts us : List Token) → Alike ts us
    → next_begins n ts ≡ next_begins n us
next_alike n _ _ no_tokens = refl
next_alike n _ _ (and_token {t = t} {u = u} a others) = begins_alike n t u a

module _ (A : List Raw → Type 0) where
  record Again (n : Nonterminal) (ts : List Token) (w : Raw) (rest : List Token) : Type 0 where
    new : List Token
    alike : Alike ts new
    spelled : Derives xpath n new w rest
    tree : Tree A n w

  record AgainAll (ss : List Symbol) (ts : List Token) (ws : List Raw) (rest : List Token)
      : Type 0 where
    new : List Token
    alike : Alike ts new
    spelled : Seq xpath ss new ws rest
    trees : Trees A ss ws

  rebuilt_again : {n : Nonterminal} {ts : List Token} (q : Production) (vs : List Raw) (w : Raw)
      (rest : List Token) → speaks xpath q ≡ true → head q ≡ n → (r : Rebuilt A q vs w)
      → AgainAll (body q) ts r.parts rest → Again n ts w rest
  rebuilt_again {n} {ts} q vs w rest o e r a =
      subst (λ x. Again n ts x rest) (sym r.is) (record {
        new = a.new;
        alike = a.alike;
        spelled = by q o e a.spelled;
        tree = grown q o e r.fits a.trees;
      })

  quoted_alike : (t : Token) (u : List ℕ) → fits class.Quoted t ≡ true → is_xml_text u ≡ true
      → AlikeToken t (token.Quoted u)
  quoted_alike (token.Quoted t) u f h = other_text h
  quoted_alike _ u f h = absurd cc

  quoted_again : {n : Nonterminal} {ts rest : List Token} {vs : List Raw} (rest' : List Token)
      → head production.Literal ≡ n → (u : List ℕ) → is_xml_text u ≡ true
      → Seq xpath (tok class.Quoted ∷ []) ts vs rest → Alike rest rest'
      → Again n ts (node production.Literal (leaf (token.Quoted u) ∷ [])) rest'
  quoted_again rest' e u h (grammar.taken {t = t} f grammar.end) a = record {
    new = token.Quoted u ∷ rest';
    alike = and_token (quoted_alike t u f h) a;
    spelled = by production.Literal refl e (grammar.taken refl grammar.end);
    tree = grown production.Literal refl e tt (read (token.Quoted u) refl ended);
  }

  literal_again : {n : Nonterminal} {ts rest : List Token} {vs : List Raw} (q : Production) (w : Raw)
      (rest' : List Token) → q ≡ production.Literal → head q ≡ n → (u : List ℕ)
      → is_xml_text u ≡ true → w ≡ node production.Literal (leaf (token.Quoted u) ∷ [])
      → Seq xpath (body q) ts vs rest → Alike rest rest' → Again n ts w rest'
  literal_again {n} {ts} production.Literal w rest' i e u h is d a =
      subst (λ x. Again n ts x rest') (sym is) (quoted_again rest' e u h d a)
  literal_again _ w rest' i e u h is d a = absurd cc

  record Kept (t : Token) (vs ws : List Raw) (b : Bool) : Type 0 where
    others : List Raw
    swapped : AllSwapped A vs others
    is : ws ≡ cond b (leaf t ∷ others) others

  leaf_stays : (t : Token) (w : Raw) → Swapped A (leaf t) w → w ≡ leaf t
  leaf_stays t w (leaf_same k a b) =
      let same : Leaf k ≡ Leaf t = sym a ∙ outs-Leaf t in leaf_is w t (b ∙ same)
  leaf_stays t w (literal_other x y vs a b c) =
      let no : Node production.Literal (leaf (token.Quoted x) ∷ vs) ≡ Leaf t =
      sym a ∙ outs-Leaf t in absurd cc
  leaf_stays t w (node_same q vs ws a b c d) =
      let no : Node q vs ≡ Leaf t = sym a ∙ outs-Leaf t in absurd cc

  kept : (t : Token) (vs ws : List Raw) (b : Bool)
      → AllSwapped A (cond b (leaf t ∷ vs) vs) ws → Kept t vs ws b
  kept t vs _ true (both {w = w} {ws = ws} s after) = record {
    others = ws;
    swapped = after;
    is = ap (λ x. x ∷ ws) (leaf_stays t w s);
  }
  kept t vs ws false s = record { others = ws; swapped = s; is = refl }

  taken_again : {c : Class} {ss : List Symbol} {ts : List Token} (t : Token) (vs ws : List Raw)
      (rest : List Token) → fits c t ≡ true → (k : Kept t vs ws (keeps c))
      → AgainAll ss ts k.others rest → AgainAll (tok c ∷ ss) (t ∷ ts) ws rest
  taken_again {c} {ss} {ts} t vs ws rest f k a =
      subst (λ x. AgainAll (tok c ∷ ss) (t ∷ ts) x rest) (sym k.is) (record {
        new = t ∷ a.new;
        alike = and_token same_token a.alike;
        spelled = grammar.taken f a.spelled;
        trees = read t f a.trees;
      })

  mutual
    derived : {n : Nonterminal} {ts rest : List Token} {v : Raw} → Derives xpath n ts v rest
        → (w : Raw) → Swapped A v w → (rest' : List Token) → Alike rest rest'
        → Again n ts w rest'
    derived (by q {vs = vs} o e d) w s rest' a = elim (rebuilt A q vs w s) [
      | inl r ↦ rebuilt_again q vs w rest' o e r (sequel d r.parts r.swapped rest' a)
      | inr l ↦ literal_again q w rest' l.form e l.new l.text l.is d a
    ]

    sequel : {ss : List Symbol} {ts rest : List Token} {vs : List Raw} → Seq xpath ss ts vs rest
        → (ws : List Raw) → AllSwapped A vs ws → (rest' : List Token) → Alike rest rest'
        → AgainAll ss ts ws rest'
    sequel grammar.end _ nothing rest' a =
        record { new = rest'; alike = a; spelled = grammar.end; trees = ended }
    sequel (grammar.taken {c = c} {t = t} {vs = vs} f q) ws s rest' a =
        let k = kept t vs ws (keeps c) s in
        taken_again t vs ws rest' f k (sequel q k.others k.swapped rest' a)
    sequel (grammar.next d q) _ (both {w = w} {ws = ws} s after) rest' a =
        let r = sequel q ws after rest' a in
        let x = derived d w s r.new r.alike in
        record {
          new = x.new;
          alike = x.alike;
          spelled = grammar.next x.spelled r.spelled;
          trees = part x.tree r.trees;
        }
    sequel (grammar.without q) ws s rest' a =
        let r = sequel q ws s rest' a in
        record {
          new = r.new;
          alike = r.alike;
          spelled = grammar.without r.spelled;
          trees = absent r.trees;
        }
    sequel (grammar.with d q) _ (both {w = w} {ws = ws} s after) rest' a =
        let r = sequel q ws after rest' a in
        let x = derived d w s r.new r.alike in
        record {
          new = x.new;
          alike = x.alike;
          spelled = grammar.with x.spelled r.spelled;
          trees = present x.tree r.trees;
        }
    sequel (grammar.stop q) ws s rest' a =
        let r = sequel q ws s rest' a in
        record {
          new = r.new;
          alike = r.alike;
          spelled = grammar.stop r.spelled;
          trees = over r.trees;
        }
    sequel (grammar.again d q) _ (both {w = w} {ws = ws} s others) rest' a =
        let r = sequel q ws others rest' a in
        let x = derived d w s r.new r.alike in
        record {
          new = x.new;
          alike = x.alike;
          spelled = grammar.again x.spelled r.spelled;
          trees = more x.tree r.trees;
        }
    sequel (grammar.bare {n = n} {ts = ts} h q) ws s rest' a =
        let r = sequel q ws s rest' a in
        record {
          new = r.new;
          alike = r.alike;
          spelled = grammar.bare (sym (next_alike n ts r.new r.alike) ∙ h) r.spelled;
          trees = alone r.trees;
        }
    sequel (grammar.given {n = n} {ts = ts} h d q) _ (both {w = w} {ws = ws} s after) rest' a =
        let r = sequel q ws after rest' a in
        let x = derived d w s r.new r.alike in
        record {
          new = x.new;
          alike = x.alike;
          spelled = grammar.given (sym (next_alike n ts x.new x.alike) ∙ h) x.spelled r.spelled;
          trees = behind x.tree r.trees;
        }

  -- all of the tokens
  pub record Reread (n : Nonterminal) (ts : List Token) (w : Raw) : Type 0 where
    pub new : List Token
    pub alike : Alike ts new
    pub spelled : Derives xpath n new w []
    pub tree : Tree A n w

  pub reread : {n : Nonterminal} {ts : List Token} {v : Raw} → Derives xpath n ts v [] → (w : Raw)
      → Swapped A v w → Reread n ts w
  reread {ts = ts} d w s =
      let a = derived d w s [] no_tokens in
      record {
        new = a.new;
        alike = a.alike;
        spelled = a.spelled;
        tree = a.tree;
      }
