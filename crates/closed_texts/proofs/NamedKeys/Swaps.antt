-- Expressions as they are written, and the same with the names of keys in place of the literals
-- that write them: in them each call may stand.
use Rattle.std.proofs.Common.{◌≡◌, ℕ, List, [], ◌∷◌, map, Bool, true, false, cond}
use Rattle.std.proofs.Common.{Option, Some, None, option_map, option_and_then, is_some, refl, sym}
use Rattle.std.proofs.Common.{ap, subst, ◌∙◌}
use Rattle.std.proofs.lemmas.Option.{same_Some, none-some}
use Rattle.xt_names.specs.Classes.{is_xml_text}
use Rattle.xt_syntax.specs.declared.prefixes.Prefixes.{Prefixes}
use Rattle.function_table.specs.Find.{is_in_fn}
use Rattle.expr_keys.specs.declared.productions.Production.{Production}
use Rattle.expr_keys.specs.declared.productions.Production.TheVariants as production
use Rattle.expr_keys.specs.declared.tokens.Token.{Token}
use Rattle.expr_keys.specs.declared.tokens.Token.TheVariants as token
use Rattle.expr_terms.specs.declared.raws.Raw.{Raw}
use Rattle.expr_terms.specs.declared.raws.Raw.TheVariants.{Leaf as leaf, Node as node, rolls-Leaf}
use Rattle.expr_terms.specs.declared.raws.Raw.TheVariants.{rolls-Node, outs-Leaf, outs-Node}
use Rattle.expr_terms.specs.declared.raws.Raw.TheViews.{out-Raw, roll-Raw}
use Rattle.expr_terms.specs.declared.raws.Raw.TheFolds.{map-Raw, fold-roll-Raw, ind-Raw}
use Rattle.expr_terms.specs.declared.raws.Raw.TheOpen.{Raw-F, Leaf, Node}
use Rattle.sheet_expressions.specs.declared.calls.SheetCall.{SheetCall}
use Rattle.sheet_expressions.specs.declared.calls.SheetCall.TheVariants as call
use Rattle.sheet_expressions.specs.Calls.{sheet_call}
use Rattle.sheet_expressions.specs.Keys.{key_text}
use Rattle.sheet_expressions.specs.Parts.{called_name, name_in, argued_of, argued_in, arity_of}
use Rattle.sheet_expressions.specs.Parts.{call_asks, quoted_in, quoted_leaf, first_quoted}
use Rattle.sheet_expressions.specs.Parts.{literal_of, literal_in, as_literal, key_literal, on_first}
use Rattle.sheet_expressions.specs.Parts.{on_last, key_arguments_in, key_arguments}
use Rattle.sheet_expressions.specs.Checked.{allowed_call, checked_node, all_some, checked_layer}
use Rattle.sheet_expressions.specs.Checked.{checked}
use Rattle.sheet_closure.specs.StandingParts.Calls.{may_stand}
use Rattle.xpath_laws.proofs.XpathForms.Swapped.{no_call, leaf_is, Swapped, AllSwapped, leaf_same}
use Rattle.xpath_laws.proofs.XpathForms.Swapped.{literal_other, node_same, nothing, both, IsLiteral}

-- the literal that the first part is
abbrev pub first_of : Raw-F Raw → Option (List ℕ)
first_of (Leaf t) = None
first_of (Node q []) = None
first_of (Node q (v ∷ vs)) = literal_in (out-Raw v)

-- the literal that is the first argument of a call, whose arguments stand last
abbrev pub argument_in : List Raw → Option (List ℕ)
argument_in [] = None
argument_in (v ∷ []) = first_of (out-Raw v)
argument_in (v ∷ w ∷ vs) = argument_in (w ∷ vs)

-- the call may be there
abbrev pub CallFits : Prefixes → Bool → List Raw → Type 0
CallFits p grouped vs = may_stand grouped (call_asks p vs) (argument_in vs) ≡ true

-- a literal
literal_part : (q : Production) (us : List Raw) (t : List ℕ) → literal_of q us ≡ Some t
    → (q ≡ production.Literal) × (first_quoted us ≡ Some t)
unfolding literal_of
literal_part production.Literal us t e = (refl, e)
literal_part _ us t e = absurd (none-some _ e)

quoted_token : (k : Token) (t : List ℕ) → quoted_in k ≡ Some t → k ≡ token.Quoted t
unfolding quoted_in
quoted_token (token.Quoted u) t e = ap (λ x. token.Quoted x) (same_Some _ _ e)
quoted_token _ t e = absurd (none-some _ e)

quoted_part : (f : Raw-F Raw) (t : List ℕ) → quoted_leaf f ≡ Some t
    → f ≡ Leaf (token.Quoted t)
quoted_part (Leaf k) t e = ap (λ x. Leaf x) (quoted_token k t e)
quoted_part (Node q vs) t e = absurd (none-some _ e)

pub literal_is : (v : Raw) (f : Raw-F Raw) (t : List ℕ) → out-Raw v ≡ f → literal_in f ≡ Some t
    → IsLiteral v
literal_is v (Leaf k) t o e = absurd (none-some _ e)
literal_is v (Node q us) t o e =
    let l = literal_part q us t e in
    go us (o ∙ ap (λ x. Node x us) l.0) l.1
  where
    go : (us : List Raw) → out-Raw v ≡ Node production.Literal us → first_quoted us ≡ Some t
        → IsLiteral v
    go [] o e = absurd (none-some _ e)
    go (u ∷ us) o e =
        let k = leaf_is u (token.Quoted t) (quoted_part (out-Raw u) t e) in
        record { text = t; others = us; is = o ∙ ap (λ x. Node production.Literal (x ∷ us)) k }

module _ (p : Prefixes) (grouped : Bool) where
  abbrev Fits : List Raw → Type 0
  Fits vs = CallFits p grouped vs

  -- a call of what is no name is of no function that stylesheets ask for
  unnamed_fits : (v : Raw) (q : Production) (us vs : List Raw) → out-Raw v ≡ Node q us
      → CallFits p grouped (v ∷ vs)
  unfolding sheet_call is_in_fn may_stand
  unnamed_fits v q us vs e = rw e refl

  module _ (keys : (t : List ℕ) → is_xml_text (key_text p.bound t) ≡ true) where
    abbrev own_key : List ℕ → Raw
    own_key t = as_literal (key_text p.bound t)

    node_same_is : {q r : Production} {us ws : List Raw} → Node q us ≡ Node r ws
        → (q ≡ r) × (us ≡ ws)
    node_same_is e = (cc, cc)

    -- what stands in place of a literal is one
    leaf_swapped : (v w : Raw) (t : Token) → Swapped Fits v w → out-Raw w ≡ Leaf t → v ≡ leaf t
    leaf_swapped v w t (leaf_same k a b) e =
        let same : Leaf k ≡ Leaf t = sym b ∙ e in leaf_is v t (a ∙ same)
    leaf_swapped v w t (literal_other x y vs a b c) e =
        let no : Node production.Literal (leaf (token.Quoted y) ∷ []) ≡ Leaf t = sym b ∙ e in
        absurd cc
    leaf_swapped v w t (node_same q vs ws a b c d) e =
        let no : Node q ws ≡ Leaf t = sym b ∙ e in absurd cc

    first_swapped : (vs : List Raw) (t : Token) (ws : List Raw) → AllSwapped Fits vs (leaf t ∷ ws)
        → (us : List Raw) × (vs ≡ leaf t ∷ us)
    first_swapped _ t ws (both {v = v} {vs = vs} s more) =
        (vs, ap (λ x. x ∷ vs) (leaf_swapped v (leaf t) t s (outs-Leaf t)))

    literal_swapped : (v w : Raw) → Swapped Fits v w → IsLiteral w → IsLiteral v
    literal_swapped v w (leaf_same k a b) l =
        let no : Leaf k ≡ Node production.Literal (leaf (token.Quoted l.text) ∷ l.others) =
        sym b ∙ l.is in absurd cc
    literal_swapped v w (literal_other x y vs a b c) l =
        record { text = x; others = vs; is = a }
    literal_swapped v w (node_same q vs ws a b c d) l =
        let same : Node q ws ≡ Node production.Literal (leaf (token.Quoted l.text) ∷ l.others) =
        sym b ∙ l.is in
        let parts = node_same_is same in
        let f = first_swapped vs (token.Quoted l.text) l.others
        (subst (AllSwapped Fits vs) parts.1 d) in
        record {
          text = l.text;
          others = f.0;
          is = a ∙ ap (λ x. Node x vs) parts.0 ∙ ap (λ x. Node production.Literal x) f.1;
        }

    as_key : (v w : Raw) (t : List ℕ) → Swapped Fits v w → IsLiteral w → Swapped Fits v (own_key t)
    as_key v w t s l =
        let k = literal_swapped v w s l in
        literal_other k.text (key_text p.bound t) k.others k.is
        (outs-Node production.Literal (leaf (token.Quoted (key_text p.bound t)) ∷ [])) (keys t)

    -- arguments whose first one is such a literal
    record KeyArguments (w x : Raw) : Type 0 where
      form : Production
      first : Raw
      others : List Raw
      text : List ℕ
      is : out-Raw w ≡ Node form (first ∷ others)
      literal : IsLiteral first
      made : x ≡ node form (own_key text ∷ others)

    mapped : {A B : Type 0} (f : A → B) (o : Option A) (b : B) → option_map f o ≡ Some b
        → (a : A) × (o ≡ Some a) × (b ≡ f a)
    mapped f None b e = absurd (none-some _ e)
    mapped f (Some a) b e = (a, refl, sym (same_Some _ _ e))

    then_is : {A B : Type 0} (f : A → Option B) (o : Option A) (b : B)
        → option_and_then f o ≡ Some b → (a : A) × (o ≡ Some a) × (f a ≡ Some b)
    then_is f None b e = absurd (none-some _ e)
    then_is f (Some a) b e = (a, refl, e)

    key_first : (us : List Raw) (xs : List Raw) → on_first (key_literal p.bound) us ≡ Some xs
        → (r : Raw) × (rs : List Raw) × (t : List ℕ) × (us ≡ r ∷ rs) × IsLiteral r
        × (xs ≡ own_key t ∷ rs)
    key_first [] xs e = absurd (none-some _ e)
    key_first (r ∷ rs) xs e =
        let m = mapped (λ w. w ∷ rs) (key_literal p.bound r) xs e in
        let k = mapped own_key (literal_in (out-Raw r)) m.0 m.1 in
        (r, rs, k.0, refl, literal_is r (out-Raw r) k.0 refl k.1, m.2 ∙ ap (λ y. y ∷ rs) k.2)

    key_made : (w x : Raw) (f : Raw-F Raw) → out-Raw w ≡ f
        → key_arguments_in p.bound f ≡ Some x → KeyArguments w x
    key_made w x (Leaf t) o e = absurd (none-some _ e)
    key_made w x (Node q us) o e =
        let m = mapped (node q) (on_first (key_literal p.bound) us) x e in
        let k = key_first us m.0 m.1 in
        record {
          form = q;
          first = k.0;
          others = k.1;
          text = k.2;
          is = o ∙ ap (λ y. Node q y) k.3;
          literal = k.4;
          made = m.2 ∙ ap (node q) k.5;
        }

    arguments_swapped : (v w x : Raw) → Swapped Fits v w → KeyArguments w x → Swapped Fits v x
    arguments_swapped v w x (leaf_same t a b) k =
        let no : Leaf t ≡ Node k.form (k.first ∷ k.others) = sym b ∙ k.is in absurd cc
    arguments_swapped v w x (literal_other t u vs a b c) k =
        let same : Node production.Literal (leaf (token.Quoted u) ∷ [])
        ≡ Node k.form (k.first ∷ k.others) = sym b ∙ k.is in
        let first : leaf (token.Quoted u) ≡ k.first = go _ _ _ _ (node_same_is same).1 in
        let no : Leaf (token.Quoted u)
        ≡ Node production.Literal (leaf (token.Quoted k.literal.text) ∷ k.literal.others) =
        sym (outs-Leaf (token.Quoted u)) ∙ ap out-Raw first ∙ k.literal.is in absurd cc
      where
        go : (a b : Raw) (xs ys : List Raw) → a ∷ xs ≡ b ∷ ys → a ≡ b
        go a b xs ys e = cc
    arguments_swapped v w x (node_same q vs ws a b c d) k =
        let same : Node q ws ≡ Node k.form (k.first ∷ k.others) = sym b ∙ k.is in
        let parts = node_same_is same in
        subst (Swapped Fits v) (sym k.made)
        (go vs (a ∙ ap (λ y. Node y vs) parts.0) (subst (AllSwapped Fits vs) parts.1 d))
      where
        go : (vs : List Raw) → out-Raw v ≡ Node k.form vs → AllSwapped Fits vs (k.first ∷ k.others)
            → Swapped Fits v (node k.form (own_key k.text ∷ k.others))
        go _ o (both {v = y} {vs = ys} s more) =
            let key = own_key k.text in
            let fits = unnamed_fits key production.Literal
            (leaf (token.Quoted (key_text p.bound k.text)) ∷ []) k.others
            (outs-Node production.Literal (leaf (token.Quoted (key_text p.bound k.text)) ∷ [])) in
            node_same k.form (y ∷ ys) (key ∷ k.others) o (outs-Node k.form (key ∷ k.others))
            (no_call k.form (CallFits p grouped (key ∷ k.others)) fits)
            (both (as_key y k.first k.text s k.literal) more)

    -- the last parts of a call
    abbrev arguments_of : List Raw → ℕ
    arguments_of [] = 0
    arguments_of (v ∷ vs) = argued_in (out-Raw v)

    arity_is : (v : Raw) (vs : List Raw) → arity_of (v ∷ vs) ≡ arguments_of vs
    arity_is v [] = refl
    arity_is v (a ∷ vs) = refl

    record KeyCall (vs ws us : List Raw) : Type 0 where
      swapped : AllSwapped Fits vs us
      named : is_some (argument_in us) ≡ true
      name : called_name p us ≡ called_name p ws
      arguments : arguments_of us ≡ arguments_of ws
      arity : arity_of us ≡ arity_of ws

    literal_some : (v : Raw) → IsLiteral v → is_some (literal_in (out-Raw v)) ≡ true
    unfolding literal_of quoted_in
    literal_some v l =
        rw l.is (ap (λ f. is_some (quoted_leaf f)) (outs-Leaf (token.Quoted l.text)))

    key_literal_is : (t : List ℕ) → IsLiteral (own_key t)
    key_literal_is t = record {
      text = key_text p.bound t;
      others = [];
      is = outs-Node production.Literal (leaf (token.Quoted (key_text p.bound t)) ∷ []);
    }

    same_size : (q : Production) (a b : Raw) (vs : List Raw)
        → argued_of q (a ∷ vs) ≡ argued_of q (b ∷ vs)
    unfolding argued_of
    same_size production.ArgumentList a b vs = refl
    same_size _ a b vs = refl

    one_call : (v w x : Raw) → Swapped Fits v w → KeyArguments w x
        → KeyCall (v ∷ []) (w ∷ []) (x ∷ [])
    one_call v w x s k =
        let key = own_key k.text in
        let out : out-Raw x ≡ Node k.form (key ∷ k.others) =
        ap out-Raw k.made ∙ outs-Node k.form (key ∷ k.others) in
        record {
          swapped = both (arguments_swapped v w x s k) nothing;
          named = rw out (literal_some key (key_literal_is k.text));
          name = ap (name_in p) out ∙ sym (ap (name_in p) k.is);
          arguments = ap argued_in out ∙ same_size k.form key k.first k.others
              ∙ sym (ap argued_in k.is);
          arity = refl;
        }

    longer : (v w : Raw) (vs ws us : List Raw) → Swapped Fits v w → KeyCall vs ws us
        → KeyCall (v ∷ vs) (w ∷ ws) (w ∷ us)
    longer v w vs ws us s k = record {
      swapped = both s k.swapped;
      named = go us k.named;
      name = refl;
      arguments = refl;
      arity = arity_is w us ∙ k.arguments ∙ sym (arity_is w ws);
    }
      where
        go : (us : List Raw) → is_some (argument_in us) ≡ true
            → is_some (argument_in (w ∷ us)) ≡ true
        go [] e = absurd cc
        go (u ∷ us) e = e

    key_found : (vs ws us : List Raw) → AllSwapped Fits vs ws
        → on_last (key_arguments p.bound) ws ≡ Some us → KeyCall vs ws us
    key_found _ _ us nothing e = absurd (none-some _ e)
    key_found _ _ us (both {v = v} {w = w} s nothing) e =
        let m = mapped (λ x. x ∷ []) (key_arguments p.bound w) us e in
        subst (KeyCall (v ∷ []) (w ∷ [])) (sym m.2)
        (one_call v w m.0 s (key_made w m.0 (out-Raw w) refl m.1))
    key_found _ _ us (both {v = v} {w = w} s (both {v = x} {w = y} {vs = xs} {ws = ys} t more)) e =
        let m = mapped (λ zs. w ∷ zs) (on_last (key_arguments p.bound) (y ∷ ys)) us e in
        subst (KeyCall (v ∷ x ∷ xs) (w ∷ y ∷ ys)) (sym m.2)
        (longer v w (x ∷ xs) (y ∷ ys) m.0 s (key_found (x ∷ xs) (y ∷ ys) m.0 (both t more) m.1))

    key_fits : (c : SheetCall) (o : Option (List ℕ)) → c ≡ call.Key → is_some o ≡ true
        → may_stand grouped c o ≡ true
    unfolding may_stand
    key_fits c o e h = rw e h

    -- a production whose parts are swapped
    call_swapped : (v w : Raw) (vs ws : List Raw) (c : SheetCall)
        → out-Raw v ≡ Node production.Call vs → AllSwapped Fits vs ws → call_asks p ws ≡ c
        → allowed_call p grouped c ws ≡ Some w → Swapped Fits v w
    unfolding allowed_call may_stand
    call_swapped v w vs ws call.Plain o s a e =
        subst (Swapped Fits v) (same_Some _ _ e)
        (node_same production.Call vs ws o (outs-Node production.Call ws) (rw a refl) s)
    call_swapped v w vs ws call.LeftOut o s a e = absurd (none-some _ e)
    call_swapped v w vs ws call.InGroup o s a e = go grouped refl e
      where
        go : (b : Bool) → grouped ≡ b → cond b (Some (node production.Call ws)) None ≡ Some w
            → Swapped Fits v w
        go true g e =
            subst (Swapped Fits v) (same_Some _ _ e)
            (node_same production.Call vs ws o (outs-Node production.Call ws) (rw a g) s)
        go false g e = absurd (none-some _ e)
    call_swapped v w vs ws call.Key o s a e =
        let m = mapped (node production.Call) (on_last (key_arguments p.bound) ws) w e in
        let k = key_found vs ws m.0 s m.1 in
        let asks : call_asks p m.0 ≡ call.Key = rw (k.name, k.arity) a in
        subst (Swapped Fits v) (sym m.2)
        (node_same production.Call vs m.0 o (outs-Node production.Call m.0)
        (key_fits (call_asks p m.0) (argument_in m.0) asks k.named) k.swapped)

    node_swapped : (v w : Raw) (q : Production) (vs ws : List Raw) → out-Raw v ≡ Node q vs
        → AllSwapped Fits vs ws → checked_node p grouped q ws ≡ Some w → Swapped Fits v w
    unfolding checked_node
    node_swapped v w production.Call vs ws o s e =
        call_swapped v w vs ws (call_asks p ws) o s refl e
    node_swapped v w q vs ws o s e =
        subst (Swapped Fits v) (same_Some _ _ e) (node_same q vs ws o (outs-Node q ws) tt s)

    abbrev IsSwapped : Raw → Type 0
    IsSwapped v = (w : Raw) → checked p grouped v ≡ Some w → Swapped Fits v w

    abbrev bare : List ((v : Raw) × IsSwapped v) → List Raw
    bare ys = map (λ y. y.0) ys

    all_swapped : (ys : List ((v : Raw) × IsSwapped v)) (ws : List Raw)
        → all_some (map (checked p grouped) (bare ys)) ≡ Some ws → AllSwapped Fits (bare ys) ws
    all_swapped [] ws e = subst (AllSwapped Fits []) (same_Some _ _ e) nothing
    all_swapped (y ∷ ys) ws e =
        let t = then_is
        (λ v. option_map (λ vs. v ∷ vs) (all_some (map (checked p grouped) (bare ys))))
        (checked p grouped y.0) ws e in
        let m = mapped (λ vs. t.0 ∷ vs) (all_some (map (checked p grouped) (bare ys))) ws t.2 in
        subst (AllSwapped Fits (y.0 ∷ bare ys)) (sym m.2)
        (both (y.1 t.0 t.1) (all_swapped ys m.0 m.1))

    checked-roll : (x : Raw-F Raw) → checked p grouped (roll-Raw x)
        ≡ checked_layer p grouped (map-Raw Raw (Option Raw) (checked p grouped) x)
    checked-roll x = fold-roll-Raw _ _ x

    out-rolled : (x : Raw-F Raw) → out-Raw (roll-Raw x) ≡ x
    out-rolled (Leaf t) = ap out-Raw (rolls-Leaf t) ∙ outs-Leaf t
    out-rolled (Node q vs) = ap out-Raw (rolls-Node q vs) ∙ outs-Node q vs

    layer_swapped : (y : Raw-F ((v : Raw) × IsSwapped v)) (v w : Raw)
        → out-Raw v ≡ map-Raw ((v : Raw) × IsSwapped v) Raw (λ z. z.0) y
        → checked_layer p grouped (map-Raw Raw (Option Raw) (checked p grouped)
        (map-Raw ((v : Raw) × IsSwapped v) Raw (λ z. z.0) y)) ≡ Some w → Swapped Fits v w
    layer_swapped (Leaf t) v w o e =
        leaf_same t o (ap out-Raw (sym (same_Some _ _ e)) ∙ outs-Leaf t)
    layer_swapped (Node q ys) v w o e =
        let t = then_is (checked_node p grouped q)
        (all_some (map (checked p grouped) (bare ys))) w e in
        node_swapped v w q (bare ys) t.0 o (all_swapped ys t.0 t.1) t.2

    pub swapped : (v : Raw) → IsSwapped v
    swapped = ind-Raw IsSwapped (λ x y is w e.
        layer_swapped y (roll-Raw x) w (out-rolled x ∙ sym is)
        (subst
        (λ z. checked_layer p grouped (map-Raw Raw (Option Raw) (checked p grouped) z) ≡ Some w)
        (sym is) (sym (checked-roll x) ∙ e)))
