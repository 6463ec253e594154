-- Constructors with names mean what they are printed for.
use Rattle.std.proofs.Common.{◌≡◌, ℕ, List, [], ◌∷◌, Bool, true, ◌&&◌, refl, sym, ◌∙◌, ap, ap₂}
use Rattle.std.proofs.Common.{Option, Some, None}
use Rattle.std.proofs.lemmas.Bool.{and_parts}
use Rattle.std.proofs.lemmas.Slice.Eq.{bytes_eq-Decides}
use Rattle.std.specs.Str.{bytes_eq}
use Rattle.xt_names.specs.declared.names.Binding.{Binding}
use Rattle.xt_names.specs.declared.names.Name.{Name}
use Rattle.xt_syntax.specs.declared.exprs.Expr.{Expr}
use Rattle.xt_syntax.specs.declared.exprs.Expr.TheVariants as expr
use Rattle.xt_syntax.specs.declared.exprs.NameSource.{NameSource}
use Rattle.xt_syntax.specs.declared.exprs.NameSource.TheVariants as source
use Rattle.expr_names.specs.Names.{uri_in, undeclared_in}
use Rattle.expr_keys.specs.declared.keys.Key.{Key}
use Rattle.expr_keys.specs.declared.keys.Key.TheVariants as key
use Rattle.expr_keys.specs.declared.tokens.Token.{Token}
use Rattle.expr_keys.specs.declared.tokens.Token.TheVariants as token
use Rattle.expr_keys.specs.declared.productions.Production.TheVariants as production
use Rattle.expr_terms.specs.declared.raws.Raw.TheVariants.{Leaf as leaf}
use Rattle.expr_keys.specs.declared.productions.Class.{Class}
use Rattle.expr_keys.specs.declared.productions.Class.TheVariants as class
use Rattle.expr_rules.specs.declared.expr_meant.meant.Meant.TheVariants as meant
use Rattle.expr_rules.specs.ExprMeant.Names.{written_in, written_of}
use Rattle.expr_rules.specs.ExprMeant.Parts.{expr_of, expr_or, key_of, key_in}
use Rattle.expr_rules.specs.Known.{node_name_of}
use Rattle.expr_raws.specs.ExprPrimaries.ExprElements.Computed.{named_by, fixed_name, enclosing_by}
use Rattle.expr_raws.specs.ExprPrimaries.ExprElements.Table.{element_value}
use Rattle.expr_resolve.specs.declared.setting.Setting.{Setting}
use Rattle.expr_resolve.specs.Tables.{is_chain, family_of, value_in}
use Rattle.expr_resolve.specs.Folds.{value_of}
use Rattle.expr_raws.specs.PathRaws.Forms.{Form, list, at, key_leaf}
use Rattle.expr_raws.specs.PathRaws.Names.{no_codes}
use Rattle.expr_raws.specs.PathRaws.Paths.{with_token}
use Rattle.expr_raws.specs.ElementRaws.Makers.{NameForm, fixed, computed, gives_name, node_token, given}
use Rattle.expr_raws.specs.ElementRaws.Makers.{made}
use Rattle.expr_raws.specs.ElementRaws.Makers.{node_spelling, enclosing}
use Rattle.expr_raws.specs.ElementRaws.Makers.{element, attribute, given_pi, instruction}
use Rattle.expr_raws.proofs.PathRaws.Values.{value_leaf, value_node, at_means}
use Rattle.expr_raws.proofs.PathRaws.Paths.{fitting_sound}

pub name_given : (bound : List Binding) (default : List ℕ) (n : Name) (t : Token)
    → gives_name bound default n t ≡ true → node_name_of bound default (meant.Token t) ≡ n
unfolding written_of
name_given bound default n t e =
    let p : Bool = bytes_eq (written_in t).prefix n.prefix in
    let u : Bool = bytes_eq (uri_in bound default (written_in t)) n.uri in
    let l : Bool = bytes_eq (written_in t).local n.local in
    let h = and_parts (p && (u && l)) (no_codes (undeclared_in bound (written_in t))) e in
    let i = and_parts p (u && l) h.0 in
    let j = and_parts u l i.1 in
    let make : List ℕ → List ℕ → List ℕ → Name =
    λ x y z. record { prefix = x; uri = y; local = z } in
    ap₂ (λ x y. make x y (written_in t).local)
    ((bytes_eq-Decides (written_in t).prefix n.prefix).0 i.0)
    ((bytes_eq-Decides (uri_in bound default (written_in t)) n.uri).0 j.0)
    ∙ ap (λ z. make n.prefix n.uri z) ((bytes_eq-Decides (written_in t).local n.local).0 j.1)

node_found : (c : Class) (bound : List Binding) (default : List ℕ) (n : Name) (t : Token)
    → node_token c bound default n ≡ Some t → node_name_of bound default (meant.Token t) ≡ n
node_found c bound default n t e = name_given bound default n t
    (fitting_sound c (gives_name bound default n) (node_spelling n ∷ []) t e).1

module _ (s : Setting) where
  -- what a name means
  abbrev pub NameMeans : NameForm → NameSource → Type 0
  NameMeans (fixed n) x = x ≡ source.Fixed n
  NameMeans (computed f) x = (e : Expr) × (x ≡ source.Computed e)
      × (f.can ≡ true → value_of s f.raw ≡ meant.Expr e)

  made_means : (k : Key) (f c : Form) (e x : Expr) → value_of s f.raw ≡ meant.Expr e
      → value_of s c.raw ≡ meant.Expr x
      → value_of s (made k f c).raw ≡ meant.Expr (named_by k (source.Computed e) x)
  unfolding is_chain family_of value_in element_value key_of key_in expr_or expr_of
  made_means k f c e x h i =
      value_node s production.Computed (key_leaf k ∷ at list f ∷ at list c ∷ [])
      ∙ rw (value_leaf s (token.Key k), at_means s list f e h, at_means s list c x i) refl

  given_means : (k : Key) (c : Form) (t : Token) (n : Name) (x : Expr)
      → fixed_name s.prefixes.bound s.prefixes.element_default k (meant.Token t) ≡ n
      → value_of s c.raw ≡ meant.Expr x
      → value_of s (given k c t).raw ≡ meant.Expr (named_by k (source.Fixed n) x)
  unfolding is_chain family_of value_in element_value key_of key_in expr_or
  given_means k c t n x h i =
      value_node s production.Constructed (key_leaf k ∷ leaf t ∷ at list c ∷ [])
      ∙ rw (value_leaf s (token.Key k), value_leaf s t, at_means s list c x i)
      (ap (λ m. meant.Expr (named_by k (source.Fixed m) x)) h)

  given_pi_means : (c : Form) (t : Token) (n : Name) (x : Expr)
      → node_name_of s.prefixes.bound [] (meant.Token t) ≡ n → value_of s c.raw ≡ meant.Expr x
      → value_of s (given_pi c t).raw ≡ meant.Expr (expr.PiC (source.Fixed n) x)
  unfolding is_chain family_of value_in element_value expr_or
  given_pi_means c t n x h i =
      value_node s production.PiConstructed (leaf t ∷ at list c ∷ [])
      ∙ rw (value_leaf s t, at_means s list c x i)
      (ap (λ m. meant.Expr (expr.PiC (source.Fixed m) x)) h)

  abbrev Content : Form → Expr → Type 0
  Content c x = c.can ≡ true → value_of s c.raw ≡ meant.Expr x

  fixed_element : (n : Name) (c : Form) (x : Expr) (o : Option Token)
      → node_token class.Name s.prefixes.bound s.prefixes.element_default n ≡ o → Content c x
      → (with_token o (given key.ElementWord c)).can ≡ true
      → value_of s (with_token o (given key.ElementWord c)).raw
      ≡ meant.Expr (expr.ElemC (source.Fixed n) x)
  unfolding named_by fixed_name
  fixed_element n c x None o h e = absurd (cc)
  fixed_element n c x (Some t) o h e = given_means key.ElementWord c t n x
      (node_found class.Name s.prefixes.bound s.prefixes.element_default n t o) (h e)

  fixed_attribute : (n : Name) (c : Form) (x : Expr) (o : Option Token)
      → node_token class.Name s.prefixes.bound [] n ≡ o → Content c x
      → (with_token o (given key.AttributeWord c)).can ≡ true
      → value_of s (with_token o (given key.AttributeWord c)).raw
      ≡ meant.Expr (expr.AttrC (source.Fixed n) x)
  unfolding named_by fixed_name
  fixed_attribute n c x None o h e = absurd (cc)
  fixed_attribute n c x (Some t) o h e = given_means key.AttributeWord c t n x
      (node_found class.Name s.prefixes.bound [] n t o) (h e)

  fixed_pi : (n : Name) (c : Form) (x : Expr) (o : Option Token)
      → node_token class.Word s.prefixes.bound [] n ≡ o → Content c x
      → (with_token o (given_pi c)).can ≡ true
      → value_of s (with_token o (given_pi c)).raw ≡ meant.Expr (expr.PiC (source.Fixed n) x)
  fixed_pi n c x None o h e = absurd (cc)
  fixed_pi n c x (Some t) o h e =
      given_pi_means c t n x (node_found class.Word s.prefixes.bound [] n t o) (h e)

  pub element_means : (f : NameForm) (c : Form) (n : NameSource) (x : Expr) → NameMeans f n
      → Content c x → (element s.prefixes f c).can ≡ true
      → value_of s (element s.prefixes f c).raw ≡ meant.Expr (expr.ElemC n x)
  unfolding named_by
  element_means (fixed m) c n x i h e = fixed_element m c x _ refl h e
      ∙ ap (λ y. meant.Expr (expr.ElemC y x)) (sym i)
  element_means (computed f) c n x i h e =
      let j = and_parts f.can c.can e in
      made_means key.ElementWord f c i.0 x (i.2 j.0) (h j.1)
      ∙ ap (λ y. meant.Expr (expr.ElemC y x)) (sym i.1)

  pub attribute_means : (f : NameForm) (c : Form) (n : NameSource) (x : Expr) → NameMeans f n
      → Content c x → (attribute s.prefixes f c).can ≡ true
      → value_of s (attribute s.prefixes f c).raw ≡ meant.Expr (expr.AttrC n x)
  unfolding named_by
  attribute_means (fixed m) c n x i h e = fixed_attribute m c x _ refl h e
      ∙ ap (λ y. meant.Expr (expr.AttrC y x)) (sym i)
  attribute_means (computed f) c n x i h e =
      let j = and_parts f.can c.can e in
      made_means key.AttributeWord f c i.0 x (i.2 j.0) (h j.1)
      ∙ ap (λ y. meant.Expr (expr.AttrC y x)) (sym i.1)

  pub instruction_means : (f : NameForm) (c : Form) (n : NameSource) (x : Expr) → NameMeans f n
      → Content c x → (instruction s.prefixes f c).can ≡ true
      → value_of s (instruction s.prefixes f c).raw ≡ meant.Expr (expr.PiC n x)
  unfolding named_by
  instruction_means (fixed m) c n x i h e = fixed_pi m c x _ refl h e
      ∙ ap (λ y. meant.Expr (expr.PiC y x)) (sym i)
  instruction_means (computed f) c n x i h e =
      let j = and_parts f.can c.can e in
      made_means key.ProcessingInstructionWord f c i.0 x (i.2 j.0) (h j.1)
      ∙ ap (λ y. meant.Expr (expr.PiC y x)) (sym i.1)

  pub enclosing_means : (k : Key) (a : Form) (x e : Expr) → value_of s a.raw ≡ meant.Expr x
      → enclosing_by k x ≡ e → value_of s (enclosing k a).raw ≡ meant.Expr e
  unfolding is_chain family_of value_in element_value key_of key_in expr_or
  enclosing_means k a x e h i =
      value_node s production.Enclosing (key_leaf k ∷ at list a ∷ [])
      ∙ rw (value_leaf s (token.Key k), at_means s list a x h) (ap (λ y. meant.Expr y) i)
