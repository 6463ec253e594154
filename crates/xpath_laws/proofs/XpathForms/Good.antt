-- What is known of what is read, by nonterminals.
use Rattle.std.proofs.Common.{◌≡◌, ℕ, List, [], ◌∷◌, map, length, Bool, true, false, cond}
use Rattle.std.proofs.Common.{None, refl, sym, ap, subst, ◌∙◌}
use Rattle.xt_syntax.specs.declared.exprs.Expr.{Expr}
use Rattle.xt_syntax.specs.declared.exprs.Expr.TheVariants as expr
use Rattle.expr_terms.specs.Nest.{plain, with_parts}
use Rattle.expr_keys.specs.Classes.{fits}
use Rattle.expr_terms.specs.Productions.{body, keeps, passes}
use Rattle.expr_terms.specs.Raws.{build, build_plain, is_parens, is_conditional, is_otherwise}
use Rattle.expr_terms.specs.Raws.{as_inner_chain, keep}
use Rattle.expr_keys.specs.declared.productions.Class.{Class}
use Rattle.expr_keys.specs.declared.productions.Class.TheVariants as class
use Rattle.expr_keys.specs.declared.productions.Level.TheVariants as level
use Rattle.expr_keys.specs.declared.productions.Nonterminal.{Nonterminal}
use Rattle.expr_keys.specs.declared.productions.Nonterminal.TheVariants as nonterminal
use Rattle.expr_keys.specs.declared.productions.Production.{Production}
use Rattle.expr_keys.specs.declared.productions.Production.TheVariants as production
use Rattle.expr_keys.specs.declared.productions.Symbol.{Symbol}
use Rattle.expr_keys.specs.declared.productions.Symbol.TheVariants.{Tok as tok, One as one}
use Rattle.expr_keys.specs.declared.productions.Symbol.TheVariants.{Maybe as maybe, Many as many}
use Rattle.expr_keys.specs.declared.productions.Symbol.TheVariants.{Longest as longest}
use Rattle.expr_keys.specs.declared.tokens.Token.{Token}
use Rattle.expr_keys.specs.declared.tokens.Token.TheVariants as token
use Rattle.expr_terms.specs.declared.raws.Raw.{Raw}
use Rattle.expr_terms.specs.declared.raws.Raw.TheVariants.{Leaf as leaf, Node as node, outs-Leaf}
use Rattle.expr_terms.specs.declared.raws.Raw.TheVariants.{outs-Node}
use Rattle.expr_terms.specs.declared.raws.Raw.TheViews.{out-Raw}
use Rattle.expr_terms.specs.declared.raws.Raw.TheOpen.{Raw-F, Leaf, Node}
use Rattle.expr_rules.specs.declared.expr_meant.meant.Meant.{Meant}
use Rattle.expr_rules.specs.declared.expr_meant.meant.Meant.TheVariants as meant
use Rattle.expr_rules.specs.ExprMeant.Parts.{expr_of, exprs_of}
use Rattle.expr_primaries.specs.ExprPaths.Table.{path_value}
use Rattle.expr_primaries.specs.ExprPaths.Primaries as primaries
use Rattle.expr_resolve.specs.declared.setting.Setting.{Setting}
use Rattle.expr_resolve.specs.Tables.{act, family_of, value_in, is_chain}
use Rattle.expr_resolve.specs.Folds.{value_of}
use Rattle.xpath_laws.proofs.XpathForms.Found.{value_leaf, value_node}
use Rattle.xpath_laws.proofs.XpathForms.Swapped.{IsLiteral}
use Rattle.xpath_laws.proofs.XpathForms.Nests.{leaf_levels}
use Rattle.xpath_laws.proofs.XpathForms.Fits.{Property, AllFit}
use Rattle.xpath_laws.proofs.XpathForms.Parts.{Told, told, leaf_told, levels_in, values_in, made, IsExpr}
use Rattle.xpath_laws.proofs.XpathForms.Parts.{AreArguments, arguments_are, Table, Filled, end, taken, next}
use Rattle.xpath_laws.proofs.XpathForms.Parts.{without, with, stop, again, bare, given}
use Rattle.xpath_laws.proofs.XpathForms.Made as make
use Rattle.xpath_laws.proofs.XpathForms.Chained.{told_of, IfChain, GoodExpr, IsElse, no_text}
use Rattle.xpath_laws.proofs.XpathForms.Chained.{told_node, values_are}

pub built_plain : (q : Production) (vs : List Raw) → passes q ≡ false → build_plain q vs ≡ node q vs
built_plain q [] e = refl
built_plain q (v ∷ []) e = rw e refl
built_plain q (v ∷ w ∷ vs) e = refl

pub built : (q : Production) (vs : List Raw) → is_parens q ≡ false → is_otherwise q ≡ false
    → is_conditional q ≡ false → passes q ≡ false → build q vs ≡ node q vs
built q vs a b c e = rw (a, b, c) (built_plain q vs e)

unfoldable pub is_text : Production → Bool
is_text production.Literal = true
is_text _ = false

pub other_form : (q : Production) → is_text q ≡ false → q ≡ production.Literal → ⊥
unfolding is_text
other_form production.Literal e f = absurd cc
other_form _ e f = cc

-- the literal that the first one is
abbrev pub FirstIs : List Expr → List ℕ → Type 0
FirstIs [] t = ⊥
FirstIs (e ∷ es) t = e ≡ expr.Str t

module _ (asked : Property) (s : Setting) where
  abbrev pub T : Raw → Told
  T v = told_of s v

  abbrev pub Ts : List Raw → List Told
  Ts vs = map (told_of s) vs

  pub record GoodArguments (v : Raw) : Type 0 where
    pub nest : ℕ
    pub list : List Expr
    pub is : T v ≡ told nest plain (meant.Arguments list)
    pub fit : AllFit asked nest list
    pub parts : List Raw
    pub node_of : out-Raw v ≡ Node production.ArgumentList parts
    pub size : length list ≡ length parts
    pub literal : (w : Raw) (ws : List Raw) → parts ≡ w ∷ ws → (l : IsLiteral w)
        → FirstIs list l.text

  abbrev pub Good : Nonterminal → Raw → Type 0
  Good nonterminal.ElsePart v = IsElse asked s v
  Good nonterminal.Arguments v = GoodArguments v
  Good nonterminal.Whole v = GoodExpr asked s v
  Good nonterminal.Expr v = GoodExpr asked s v
  Good nonterminal.CommaExprSingle v = GoodExpr asked s v
  Good nonterminal.ExprSingle v = GoodExpr asked s v
  Good (nonterminal.Level l) v = GoodExpr asked s v
  Good nonterminal.UnaryExpr v = GoodExpr asked s v
  Good nonterminal.PathExpr v = GoodExpr asked s v
  Good nonterminal.AfterRoot v = GoodExpr asked s v
  Good nonterminal.RelativePathExpr v = GoodExpr asked s v
  Good nonterminal.StepExpr v = GoodExpr asked s v
  Good nonterminal.Predicate v = GoodExpr asked s v
  Good nonterminal.PrimaryExpr v = GoodExpr asked s v
  Good n v = Table asked n (T v)

  pub table_of : (n : Nonterminal) (v : Raw) → Good n v → Table asked n (T v)
  table_of nonterminal.ElsePart v g = tt
  table_of nonterminal.Arguments v g = subst (AreArguments asked) (sym g.is) (arguments_are g.fit)
  table_of nonterminal.Whole v g = g.made
  table_of nonterminal.Expr v g = g.made
  table_of nonterminal.CommaExprSingle v g = g.made
  table_of nonterminal.ExprSingle v g = g.made
  table_of (nonterminal.Level l) v g = g.made
  table_of nonterminal.UnaryExpr v g = g.made
  table_of nonterminal.PathExpr v g = g.made
  table_of nonterminal.AfterRoot v g = g.made
  table_of nonterminal.RelativePathExpr v g = g.made
  table_of nonterminal.StepExpr v g = g.made
  table_of nonterminal.Predicate v g = g.made
  table_of nonterminal.PrimaryExpr v g = g.made
  table_of (nonterminal.Tail level.Or) v g = g
  table_of (nonterminal.Tail level.And) v g = g
  table_of _ v g = g

  -- the parts of a production, as they are read
  pub data Parts : List Symbol → List Raw → Type 0 where
    ended : Parts [] []
    read : {c : Class} {ss : List Symbol} (t : Token) {vs : List Raw} → fits c t ≡ true
        → Parts ss vs → Parts (tok c ∷ ss) (keep c t vs)
    part : {n : Nonterminal} {ss : List Symbol} {v : Raw} {vs : List Raw} → Good n v → Parts ss vs
        → Parts (one n ∷ ss) (v ∷ vs)
    absent : {n : Nonterminal} {ss : List Symbol} {vs : List Raw} → Parts ss vs
        → Parts (maybe n ∷ ss) vs
    present : {n : Nonterminal} {ss : List Symbol} {v : Raw} {vs : List Raw} → Good n v
        → Parts ss vs → Parts (maybe n ∷ ss) (v ∷ vs)
    over : {n : Nonterminal} {ss : List Symbol} {vs : List Raw} → Parts ss vs
        → Parts (many n ∷ ss) vs
    more : {n : Nonterminal} {ss : List Symbol} {v : Raw} {vs : List Raw} → Good n v
        → Parts (many n ∷ ss) vs → Parts (many n ∷ ss) (v ∷ vs)
    alone : {n : Nonterminal} {ss : List Symbol} {vs : List Raw} → Parts ss vs
        → Parts (longest n ∷ ss) vs
    behind : {n : Nonterminal} {ss : List Symbol} {v : Raw} {vs : List Raw} → Good n v
        → Parts ss vs → Parts (longest n ∷ ss) (v ∷ vs)

  pub leaf_is_told : (t : Token) → T (leaf t) ≡ leaf_told t
  leaf_is_told t =
      ap (λ l. record { levels = l; value = value_of s (leaf t) }) (leaf_levels t)
      ∙ ap (λ m. told 0 plain m) (value_leaf s t)

  pub kept_told : (t : Token) (vs : List Raw) (b : Bool)
      → Ts (cond b (leaf t ∷ vs) vs) ≡ cond b (leaf_told t ∷ Ts vs) (Ts vs)
  kept_told t vs true = ap (λ x. x ∷ Ts vs) (leaf_is_told t)
  kept_told t vs false = refl

  pub filled : {ss : List Symbol} {vs : List Raw} → Parts ss vs → Filled asked ss (Ts vs)
  filled ended = end
  filled (read {c = c} {ss = ss} t {vs = vs} f q) =
      subst (Filled asked (tok c ∷ ss)) (sym (kept_told t vs (keeps c))) (taken t f (filled q))
  filled (part {n = n} {v = v} g q) = next (table_of n v g) (filled q)
  filled (absent q) = without (filled q)
  filled (present {n = n} {v = v} g q) = with (table_of n v g) (filled q)
  filled (over q) = stop (filled q)
  filled (more {n = n} {v = v} g q) = again (table_of n v g) (filled q)
  filled (alone q) = bare (filled q)
  filled (behind {n = n} {v = v} g q) = given (table_of n v g) (filled q)

  -- a node that is no literal
  pub node_expr : (q : Production) (vs : List Raw) → is_chain q ≡ false → is_conditional q ≡ false
      → is_parens q ≡ false → is_text q ≡ false → IsExpr asked (made s q (Ts vs))
      → GoodExpr asked s (node q vs)
  node_expr q vs c i j t g =
      let inner : as_inner_chain (out-Raw (node q vs)) ≡ None =
      ap as_inner_chain (outs-Node q vs) ∙ rw (i, j) refl in
      record {
        made = subst (IsExpr asked) (sym (told_node asked s q vs c)) g;
        inner = subst (IfChain asked s) (sym inner) tt;
        literal = no_text asked s (node q vs) q vs (outs-Node q vs) (other_form q t);
      }

  pub plain_expr : (q : Production) (vs : List Raw) → is_chain q ≡ false → is_conditional q ≡ false
      → is_parens q ≡ false → is_otherwise q ≡ false → passes q ≡ false → is_text q ≡ false
      → IsExpr asked (made s q (Ts vs)) → GoodExpr asked s (build q vs)
  plain_expr q vs c i j o e t g =
      subst (GoodExpr asked s) (sym (built q vs j o i e)) (node_expr q vs c i j t g)

  -- .. and a part of another kind
  pub plain_part : (A : Told → Type 0) (q : Production) (vs : List Raw) → is_chain q ≡ false
      → is_conditional q ≡ false → is_parens q ≡ false → is_otherwise q ≡ false → passes q ≡ false
      → A (made s q (Ts vs)) → A (T (build q vs))
  plain_part A q vs c i j o e g =
      subst (λ v. A (T v)) (sym (built q vs j o i e)) (subst A (sym (told_node asked s q vs c)) g)

  -- literals
  pub literal_told : (t : Token) (u : List ℕ) → t ≡ token.Quoted u
      → expr_of (act s production.Literal (meant.Token t ∷ [])) ≡ expr.Str u
  unfolding family_of value_in path_value primaries.literal_of primaries.literal_in expr_of
  literal_told t u e =
      subst (λ x. expr_of (act s production.Literal (meant.Token x ∷ [])) ≡ expr.Str u) (sym e) refl

  abbrev token_in : Raw-F Raw → Token → Token
  token_in (Leaf t) other = t
  token_in (Node q vs) other = other

  first_leaf : (t u : Token) (vs ws : List Raw) → leaf t ∷ vs ≡ leaf u ∷ ws → t ≡ u
  first_leaf t u vs ws e =
      let same : leaf t ≡ leaf u = heads (leaf t) (leaf u) vs ws e in
      ap (λ f. token_in f t) (sym (outs-Leaf t) ∙ ap out-Raw same ∙ outs-Leaf u)
    where
      heads : (a b : Raw) (xs ys : List Raw) → a ∷ xs ≡ b ∷ ys → a ≡ b
      heads a b xs ys e = cc

  pub literal_good : (t : Token) → fits class.Quoted t ≡ true
      → GoodExpr asked s (node production.Literal (leaf t ∷ []))
  unfolding is_chain
  literal_good t f =
      let w = node production.Literal (leaf t ∷ []) in
      let is : Filled asked (body production.Literal) (Ts (leaf t ∷ [])) = filled (read t f ended) in
      let value : value_of s w ≡ act s production.Literal (meant.Token t ∷ []) =
      value_node s production.Literal (leaf t ∷ []) refl
      ∙ ap (λ m. act s production.Literal (m ∷ [])) (value_leaf s t) in
      record {
        made = subst (IsExpr asked) (sym (told_node asked s production.Literal (leaf t ∷ []) refl))
            (make.literal_made asked s is);
        inner = subst (IfChain asked s)
            (sym (ap as_inner_chain (outs-Node production.Literal (leaf t ∷ [])))) tt;
        literal = λ l.
            let same : Node production.Literal (leaf t ∷ [])
            ≡ Node production.Literal (leaf (token.Quoted l.text) ∷ l.others) =
            sym (outs-Node production.Literal (leaf t ∷ [])) ∙ l.is in
            ap expr_of value
            ∙ literal_told t l.text (first_leaf t (token.Quoted l.text) [] l.others (parts_same _ _ same));
      }
    where
      parts_same : (vs ws : List Raw) → Node production.Literal vs ≡ Node production.Literal ws
          → vs ≡ ws
      parts_same vs ws e = cc

  -- arguments
  pub list_length : (es : List Expr) (ms : List Meant) → es ≡ exprs_of ms → length es ≡ length ms
  list_length es ms e = ap length e ∙ go ms
    where
      go : (ms : List Meant) → length (exprs_of ms) ≡ length ms
      go [] = refl
      go (m ∷ ms) = rw (go ms) refl

  pub map_length : {A B : Type 0} (f : A → B) (xs : List A) → length (map f xs) ≡ length xs
  map_length f [] = refl
  map_length f (x ∷ xs) = rw (map_length f xs) refl

  pub arguments_good : (v : Raw) (vs : List Raw) → GoodExpr asked s v
      → Filled asked (body production.ArgumentList) (Ts (v ∷ vs))
      → GoodArguments (node production.ArgumentList (v ∷ vs))
  unfolding is_chain family_of value_in path_value
  arguments_good v vs g q =
      let es = exprs_of (values_in (Ts (v ∷ vs))) in
      record {
        nest = with_parts production.ArgumentList 0 (levels_in (Ts (v ∷ vs)));
        list = es;
        is = told_node asked s production.ArgumentList (v ∷ vs) refl;
        fit = make.argued_made asked s q;
        parts = v ∷ vs;
        node_of = outs-Node production.ArgumentList (v ∷ vs);
        size = list_length es (values_in (Ts (v ∷ vs))) refl
            ∙ ap length (values_are asked s (v ∷ vs)) ∙ map_length (value_of s) (v ∷ vs);
        literal = λ w ws e l. go w (heads v w vs ws e) l;
      }
    where
      heads : (a b : Raw) (xs ys : List Raw) → a ∷ xs ≡ b ∷ ys → a ≡ b
      heads a b xs ys e = cc

      go : (w : Raw) → v ≡ w → (l : IsLiteral w)
          → FirstIs (exprs_of (values_in (Ts (v ∷ vs)))) l.text
      go w e l =
          let is : out-Raw v ≡ Node production.Literal (leaf (token.Quoted l.text) ∷ l.others) =
          ap out-Raw e ∙ l.is in
          g.literal (record { text = l.text; others = l.others; is = is })
