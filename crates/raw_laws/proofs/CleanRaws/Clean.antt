-- Raw values that break no rule, by their parts.
use Rattle.std.proofs.Common.{◌≡◌, ℕ, nat_le, List, [], ◌∷◌, ◌++◌, map, reverse, Bool, true, false}
use Rattle.std.proofs.Common.{cond, refl, sym, ◌∙◌, ap, ap₂, subst, append-nil}
use Rattle.std.proofs.lemmas.List.{reverse-append}
use Rattle.xt_names.specs.Allowed.{is_empty_text}
use Rattle.xt_names.specs.declared.codes.Code.{Code}
use Rattle.xt_names.specs.declared.names.Binding.{Binding}
use Rattle.xt_syntax.specs.declared.exprs.Expr.{Expr}
use Rattle.expr_names.specs.Names.{undeclared_in, test_broken}
use Rattle.expr_keys.specs.Keys.{same_key}
use Rattle.expr_keys.specs.declared.keys.Key.{Key}
use Rattle.expr_keys.specs.declared.keys.Key.TheVariants.{Star as star}
use Rattle.expr_keys.specs.declared.tokens.Token.{Token}
use Rattle.expr_keys.specs.declared.tokens.Token.TheVariants as token
use Rattle.expr_keys.specs.declared.productions.Level.{Level}
use Rattle.expr_keys.specs.declared.productions.Level.TheVariants as level
use Rattle.expr_keys.specs.declared.productions.Production.{Production}
use Rattle.expr_keys.specs.declared.productions.Production.TheVariants as production
use Rattle.expr_terms.specs.declared.raws.Raw.{Raw}
use Rattle.expr_terms.specs.declared.raws.Raw.TheVariants.{Leaf as leaf, Node as node, rolls-Leaf}
use Rattle.expr_terms.specs.declared.raws.Raw.TheVariants.{rolls-Node}
use Rattle.expr_terms.specs.declared.raws.Raw.TheViews.{roll-Raw}
use Rattle.expr_terms.specs.declared.raws.Raw.TheFolds.{map-Raw, fold-roll-Raw}
use Rattle.expr_terms.specs.declared.raws.Raw.TheOpen.{Raw-F, Leaf, Node}
use Rattle.expr_rules.specs.ExprMeant.Names.{written_in, written_of, written_test_in, written_key}
use Rattle.expr_rules.specs.ExprMeant.Parts.{key_of}
use Rattle.expr_rules.specs.declared.expr_meant.meant.Meant.{Meant}
use Rattle.expr_rules.specs.declared.expr_meant.meant.Meant.TheVariants as meant
use Rattle.expr_names.specs.declared.written.WrittenTest.TheVariants as test
use Rattle.expr_rules.specs.Rules.{undeclared_of, test_broken_of, type_broken_of, cast_broken_of}
use Rattle.expr_rules.specs.Rules.{axis_key_broken, operated_broken, own_broken, end_broken}
use Rattle.expr_resolve.specs.declared.setting.Setting.{Setting}
use Rattle.expr_resolve.specs.Tables.{own, end, is_chain, is_tag, before_last}
use Rattle.expr_resolve.specs.Folds.{Found, values, checked, steps_broken}
use Rattle.expr_resolve.specs.Folds.{all_broken, parts_broken, parts_values, found_layer, found_of}
use Rattle.expr_resolve.specs.Folds.{value_of, broken_of}
use Rattle.expr_raws.specs.PathRaws.Forms.{Form, at, all_at}
use Rattle.expr_raws.proofs.PathRaws.Values.{at_means}
use Rattle.xt_names.specs.Lists.{is_none}

pub no_parts : {A : Type 0} (xs ys : List A) → xs ++ ys ≡ [] → (xs ≡ []) × (ys ≡ [])
no_parts [] ys e = (refl, e)
no_parts (x ∷ xs) ys e = absurd (cc)

-- levels whose operators have no type at their right
abbrev pub is_free_level : Level → Bool
is_free_level level.InstanceOf = false
is_free_level level.Treat = false
is_free_level _ = true

-- productions without rules of their own, whose parts stand in reading order
abbrev pub is_free : Production → Bool
is_free production.AxisStep = false
is_free production.AttributeStep = false
is_free production.TestStep = false
is_free production.NamedKind = false
is_free production.Variable = false
is_free production.Call = false
is_free production.ForIn = false
is_free production.LetAssign = false
is_free production.QuantifiedIn = false
is_free production.AtVariable = false
is_free production.Constructed = false
is_free production.DirectElement = false
is_free production.ChildElement = false
is_free production.AttributeValue = false
is_free production.AsType = false
is_free production.ItemsType = false
is_free production.SingleAtomicType = false
is_free production.IfExpr = false
is_free (production.OperatorTail l) = is_free_level l
is_free _ = true

free_operated : (l : Level) → is_free_level l ≡ true → (bound : List Binding) (m : Meant)
    → operated_broken l bound m ≡ []
unfolding operated_broken
free_operated level.InstanceOf c bound m = absurd (cc)
free_operated level.Treat c bound m = absurd (cc)
free_operated _ c bound m = refl

free_own : (p : Production) → is_free p ≡ true → (bound : List Binding) (first : Bool) (m : Meant)
    → own_broken bound p first m ≡ []
unfolding own_broken
free_own production.AxisStep c bound first m = absurd (cc)
free_own production.AttributeStep c bound first m = absurd (cc)
free_own production.TestStep c bound first m = absurd (cc)
free_own production.NamedKind c bound first m = absurd (cc)
free_own production.Variable c bound first m = absurd (cc)
free_own production.Call c bound first m = absurd (cc)
free_own production.ForIn c bound first m = absurd (cc)
free_own production.LetAssign c bound first m = absurd (cc)
free_own production.QuantifiedIn c bound first m = absurd (cc)
free_own production.AtVariable c bound first m = absurd (cc)
free_own production.Constructed c bound first m = absurd (cc)
free_own production.DirectElement c bound first m = absurd (cc)
free_own production.ChildElement c bound first m = absurd (cc)
free_own production.AttributeValue c bound first m = absurd (cc)
free_own production.AsType c bound first m = absurd (cc)
free_own production.ItemsType c bound first m = absurd (cc)
free_own production.SingleAtomicType c bound first m = absurd (cc)
free_own (production.OperatorTail l) c bound first m = free_operated l c bound m
free_own _ c bound first m = refl

free_end : (p : Production) → is_free p ≡ true → (bound : List Binding) (functions : List ℕ)
    (ms : List Meant) → end_broken bound functions p ms ≡ []
unfolding end_broken
free_end production.Call c bound functions ms = absurd (cc)
free_end production.ForIn c bound functions ms = absurd (cc)
free_end _ c bound functions ms = refl

free_tag : (p : Production) → is_free p ≡ true → is_tag p ≡ false
unfolding is_tag
free_tag production.DirectElement c = absurd (cc)
free_tag production.ChildElement c = absurd (cc)
free_tag _ c = refl

free_chain : (p : Production) → is_free p ≡ true → is_chain p ≡ false
unfolding is_chain
free_chain production.IfExpr c = absurd (cc)
free_chain _ c = refl

pub no_doubles : (b last : Bool) (ms : List Meant) → b ≡ false → before_last b last ms ≡ []
unfolding before_last
no_doubles true last ms e = absurd (cc)
no_doubles false last ms e = refl

-- what is no token breaks nothing where it stands

abbrev pub is_token : Meant → Bool
is_token (meant.Token t) = true
is_token _ = false

pub untold_name : (bound : List Binding) (m : Meant) → is_token m ≡ false
    → undeclared_of bound m ≡ []
unfolding written_of undeclared_in is_empty_text
untold_name bound (meant.Token t) e = absurd (cc)
untold_name bound _ e = refl

untold_test : (bound : List Binding) (m : Meant) → is_token m ≡ false
    → test_broken_of bound m ≡ []
unfolding test_broken_of
untold_test bound (meant.Token t) e = absurd (cc)
untold_test bound _ e = refl

pub untold_type : (bound : List Binding) (m : Meant) → is_token m ≡ false
    → type_broken_of bound m ≡ []
unfolding type_broken_of
untold_type bound (meant.Token t) e = absurd (cc)
untold_type bound _ e = refl

untold_cast : (bound : List Binding) (m : Meant) → is_token m ≡ false
    → cast_broken_of bound m ≡ []
unfolding cast_broken_of
untold_cast bound (meant.Token t) e = absurd (cc)
untold_cast bound _ e = refl

untold_axis : (m : Meant) → is_token m ≡ false → axis_key_broken (key_of m) ≡ []
unfolding axis_key_broken key_of
untold_axis (meant.Token t) e = absurd (cc)
untold_axis _ e = refl

either : (b : Bool) (xs ys : List Code) → xs ≡ [] → ys ≡ [] → cond b xs ys ≡ []
either true xs ys e f = e
either false xs ys e f = f

untold_operated : (l : Level) (bound : List Binding) (m : Meant) → is_token m ≡ false
    → operated_broken l bound m ≡ []
unfolding operated_broken
untold_operated level.InstanceOf bound m e = untold_type bound m e
untold_operated level.Treat bound m e = untold_type bound m e
untold_operated _ bound m e = refl

pub untold_own : (bound : List Binding) (p : Production) (first : Bool) (m : Meant)
    → is_token m ≡ false → own_broken bound p first m ≡ []
unfolding own_broken
untold_own bound production.AxisStep first m e = either first (axis_key_broken (key_of m))
    (test_broken_of bound m) (untold_axis m e) (untold_test bound m e)
untold_own bound production.AttributeStep first m e = untold_test bound m e
untold_own bound production.TestStep first m e = untold_test bound m e
untold_own bound production.NamedKind first m e = untold_test bound m e
untold_own bound production.Variable first m e = untold_name bound m e
untold_own bound production.Call first m e = untold_name bound m e
untold_own bound production.ForIn first m e = untold_name bound m e
untold_own bound production.LetAssign first m e = untold_name bound m e
untold_own bound production.QuantifiedIn first m e = untold_name bound m e
untold_own bound production.AtVariable first m e = untold_name bound m e
untold_own bound production.Constructed first m e = untold_name bound m e
untold_own bound production.DirectElement first m e = untold_name bound m e
untold_own bound production.ChildElement first m e = untold_name bound m e
untold_own bound production.AttributeValue first m e = untold_name bound m e
untold_own bound production.AsType first m e = untold_type bound m e
untold_own bound production.ItemsType first m e =
    either first (type_broken_of bound m) [] (untold_type bound m e) refl
untold_own bound production.SingleAtomicType first m e = untold_cast bound m e
untold_own bound (production.OperatorTail l) first m e = untold_operated l bound m e
untold_own bound _ first m e = refl

-- a key is no name with a prefix
pub key_name : (bound : List Binding) (k : Key)
    → undeclared_of bound (meant.Token (token.Key k)) ≡ []
unfolding written_of written_in undeclared_in is_empty_text
key_name bound k = refl

pub key_test : (bound : List Binding) (k : Key)
    → test_broken_of bound (meant.Token (token.Key k)) ≡ []
unfolding test_broken_of written_test_in test_broken undeclared_in is_empty_text
key_test bound k = go (same_key star k)
  where
    go : (b : Bool) → test_broken bound (cond b test.Any (test.Exact (written_key k))) ≡ []
    go true = refl
    go false = refl

module _ (s : Setting) where
  found_rolled : (x : Raw-F Raw) → found_of s (roll-Raw x)
      ≡ found_layer s (map-Raw Raw Found (found_of s) x)
  found_rolled x = fold-roll-Raw _ _ x

  abbrev pub Clean : Raw → Type 0
  Clean v = broken_of s v ≡ []

  abbrev pub founds : List Raw → List Found
  founds vs = map (found_of s) vs

  pub leaf_clean : (t : Token) → Clean (leaf t)
  leaf_clean t = ap (λ v. broken_of s v) (sym (rolls-Leaf t))
      ∙ ap (λ f. f.broken) (found_rolled (Leaf t))

  pub broken_node : (p : Production) (vs : List Raw) → broken_of s (node p vs)
      ≡ parts_broken s p (founds vs) ++ end s p (parts_values p (founds vs))
  broken_node p vs = ap (λ v. broken_of s v) (sym (rolls-Node p vs))
      ∙ ap (λ f. f.broken) (found_rolled (Node p vs))

  pub values_found : (vs : List Raw) → values (founds vs) ≡ map (value_of s) vs
  values_found [] = refl
  values_found (v ∷ vs) = ap (λ ms. value_of s v ∷ ms) (values_found vs)

  -- all of them break nothing
  abbrev pub AllClean : List Raw → Type 0
  AllClean [] = Unit {0}
  AllClean (v ∷ vs) = Clean v × AllClean vs

  pub append_clean : (us vs : List Raw) → AllClean us → AllClean vs → AllClean (us ++ vs)
  append_clean [] vs a b = b
  append_clean (u ∷ us) vs a b = (a.0, append_clean us vs a.1 b)

  reverse_clean : (vs : List Raw) → AllClean vs → AllClean (reverse vs)
  reverse_clean [] a = tt
  reverse_clean (v ∷ vs) a = subst (λ ws. AllClean ws) (sym (reverse-append (v ∷ []) vs))
      (append_clean (reverse vs) (v ∷ []) (reverse_clean vs a.1) (a.0, tt))

  codes_clean : (vs : List Raw) → AllClean vs → all_broken (founds vs) ≡ []
  codes_clean [] a = refl
  codes_clean (v ∷ vs) a = ap₂ (λ xs ys. xs ++ ys) a.0 (codes_clean vs a.1)

  clean_codes : (vs : List Raw) → all_broken (founds vs) ≡ [] → AllClean vs
  clean_codes [] e = tt
  clean_codes (v ∷ vs) e =
      let h = no_parts (broken_of s v) (all_broken (founds vs)) e in
      (h.0, clean_codes vs h.1)

  -- a production without rules
  free_steps : (p : Production) → is_free p ≡ true → (seen : List Meant) (fs : List Found)
      → steps_broken s p seen fs ≡ all_broken fs
  free_steps p c seen [] = refl
  free_steps p c seen (f ∷ fs) =
      ap₂ (λ xs ys. (xs ++ (f.broken ++ ys)) ++ steps_broken s p (seen ++ f.value ∷ []) fs)
      (no_doubles (is_tag p) (is_none fs) seen (free_tag p c))
      (free_own p c s.prefixes.bound (is_none seen) f.value)
      ∙ ap₂ (λ xs ys. xs ++ ys) (append-nil f.broken) (free_steps p c (seen ++ f.value ∷ []) fs)

  free_codes : (p : Production) → is_free p ≡ true → (vs : List Raw)
      → broken_of s (node p vs) ≡ all_broken (founds vs)
  free_codes p c vs = broken_node p vs
      ∙ ap₂ (λ xs ys. xs ++ ys)
      (ap (λ b. cond b (all_broken (reverse (founds vs))) (steps_broken s p [] (founds vs)))
      (free_chain p c) ∙ free_steps p c [] (founds vs))
      (free_end p c s.prefixes.bound s.prefixes.function_default (parts_values p (founds vs)))
      ∙ append-nil (all_broken (founds vs))

  pub free_clean : (p : Production) → is_free p ≡ true → (vs : List Raw) → AllClean vs
      → Clean (node p vs)
  free_clean p c vs a = free_codes p c vs ∙ codes_clean vs a

  pub free_parts : (p : Production) → is_free p ≡ true → (vs : List Raw) → Clean (node p vs)
      → AllClean vs
  free_parts p c vs a = clean_codes vs (sym (free_codes p c vs) ∙ a)

  founds_back : (vs : List Raw) → founds (reverse vs) ≡ reverse (founds vs)
  founds_back [] = refl
  founds_back (v ∷ vs) = ap founds (reverse-append (v ∷ []) vs) ∙ append (reverse vs)
      ∙ ap (λ fs. fs ++ found_of s v ∷ []) (founds_back vs)
      ∙ sym (reverse-append (found_of s v ∷ []) (founds vs))
    where
      append : (us : List Raw) → founds (us ++ v ∷ []) ≡ founds us ++ found_of s v ∷ []
      append [] = refl
      append (u ∷ us) = ap (λ fs. found_of s u ∷ fs) (append us)

  -- a conditional, whose parts stand in reverse order
  pub conditional_clean : (vs : List Raw) → AllClean vs → Clean (node production.IfExpr vs)
  unfolding is_chain end_broken
  conditional_clean vs a = broken_node production.IfExpr vs
      ∙ append-nil (all_broken (reverse (founds vs)))
      ∙ ap all_broken (sym (founds_back vs)) ∙ codes_clean (reverse vs) (reverse_clean vs a)

  pub reversed_clean : (vs : List Raw) → AllClean vs
      → Clean (node production.IfExpr (reverse vs))
  reversed_clean vs a = conditional_clean (reverse vs) (reverse_clean vs a)

  -- parts that break nothing where they stand, of which the first may be that of the production
  abbrev pub Own : Production → Bool → Raw → Type 0
  Own p first v = own s p first (value_of s v) ≡ []

  abbrev pub Told : Production → Bool → List Raw → Type 0
  Told p first [] = Unit {0}
  Told p first (v ∷ vs) = (Clean v × Own p first v) × Told p false vs

  pub none_behind : {A : Type 0} (xs : List A) (y : A) (ys : List A)
      → is_none (xs ++ y ∷ ys) ≡ false
  none_behind [] y ys = refl
  none_behind (x ∷ xs) y ys = refl

  pub step_clean : (p : Production) (seen : List Meant) (b : Bool) → is_none seen ≡ b → (v : Raw)
      → Clean v → Own p b v → checked s p (is_none seen) (found_of s v) ≡ []
  step_clean p seen b e v c o = ap₂ (λ xs first. xs ++ own s p first (value_of s v)) c e
      ∙ ap (λ xs. [] ++ xs) o

  told_steps : (p : Production) → is_tag p ≡ false → (seen : List Meant) (b : Bool)
      → is_none seen ≡ b → (vs : List Raw) → Told p b vs
      → steps_broken s p seen (founds vs) ≡ []
  told_steps p tag seen b e [] t = refl
  told_steps p tag seen b e (v ∷ vs) t =
      ap₂ (λ xs ys. (xs ++ ys) ++ steps_broken s p (seen ++ value_of s v ∷ []) (founds vs))
      (no_doubles (is_tag p) (is_none (founds vs)) seen tag)
      (step_clean p seen b e v t.0.0 t.0.1)
      ∙ told_steps p tag (seen ++ value_of s v ∷ []) false
      (none_behind seen (value_of s v) []) vs t.1

  pub told_clean : (p : Production) → is_tag p ≡ false → is_chain p ≡ false → (vs : List Raw)
      → Told p true vs → end s p (map (value_of s) vs) ≡ [] → Clean (node p vs)
  told_clean p tag chain vs t e = broken_node p vs
      ∙ ap₂ (λ xs ys. xs ++ ys)
      (ap (λ b. cond b (all_broken (reverse (founds vs))) (steps_broken s p [] (founds vs))) chain
      ∙ told_steps p tag [] true refl vs t)
      (ap (λ b. end s p (cond b (reverse (values (founds vs))) (values (founds vs)))) chain
      ∙ ap (λ ms. end s p ms) (values_found vs) ∙ e)

  pub append_told : (p : Production) (us vs : List Raw) → Told p false us → Told p false vs
      → Told p false (us ++ vs)
  append_told p [] vs a b = b
  append_told p (u ∷ us) vs a b = (a.0, append_told p us vs a.1 b)

  pub untold : (p : Production) (first : Bool) (v : Raw) (m : Meant) → value_of s v ≡ m
      → is_token m ≡ false → Own p first v
  untold p first v m h e = ap (λ x. own s p first x) h ∙ untold_own s.prefixes.bound p first m e

  -- an expression that breaks nothing
  abbrev pub Good : Raw → Type 0
  Good v = Clean v × ((e : Expr) × (value_of s v ≡ meant.Expr e))

  pub good_told : (p : Production) (first : Bool) (v : Raw) → Good v → Clean v × Own p first v
  good_told p first v g = (g.0, untold p first v (meant.Expr g.1.0) g.1.1 refl)

  pub at_clean : (n : ℕ) (f : Form) → Clean f.raw → Clean (at n f)
  at_clean n f c = go (nat_le f.place n)
    where
      go : (b : Bool) → Clean (cond b f.raw (node production.Parens (f.raw ∷ [])))
      go true = c
      go false = free_clean production.Parens refl (f.raw ∷ []) (c, tt)

  pub at_good : (n : ℕ) (f : Form) → Good f.raw → Good (at n f)
  at_good n f g = (at_clean n f g.0, (g.1.0, at_means s n f g.1.0 g.1.1))

  abbrev pub AllGood : List Form → Type 0
  AllGood [] = Unit {0}
  AllGood (f ∷ fs) = Good f.raw × AllGood fs

  pub all_told : (p : Production) (n : ℕ) (fs : List Form) → AllGood fs → Told p false (all_at n fs)
  all_told p n [] a = tt
  all_told p n (f ∷ fs) a =
      (good_told p false (at n f) (at_good n f a.0), all_told p n fs a.1)

  pub all_clean : (n : ℕ) (fs : List Form) → AllGood fs → AllClean (all_at n fs)
  all_clean n [] a = tt
  all_clean n (f ∷ fs) a = (at_clean n f a.0.0, all_clean n fs a.1)
