-- Forms of expressions that are known by their kind.
use Rattle.std.proofs.Common.{◌≡◌, ◌<◌, ℕ, false, List, [], ◌∷◌, length, map, refl, sym, ap, ◌∙◌}
use Rattle.std.proofs.Common.{◌⊎◌, inl, inr, arith}
use Rattle.xt_names.specs.declared.kinds.ArithOp.{ArithOp}
use Rattle.xt_syntax.specs.declared.exprs.Expr.{Expr}
use Rattle.xt_syntax.specs.declared.exprs.Expr.TheVariants as expr
use Rattle.xt_syntax.specs.declared.exprs.Expr.TheVariants.{rolls-Comma, rolls-Or, rolls-And}
use Rattle.xt_syntax.specs.declared.exprs.Expr.TheVariants.{rolls-Arith, rolls-Filter}
use Rattle.xt_syntax.specs.declared.exprs.Expr.TheVariants.{rolls-ElemC, rolls-AttrC, rolls-PiC}
use Rattle.xt_syntax.specs.declared.exprs.NameSource.{NameSource}
use Rattle.xt_syntax.specs.declared.exprs.Clause.TheOpen.{Comma, Or, And, Arith, Filter}
use Rattle.xt_syntax.specs.declared.exprs.Clause.TheOpen.{ElemC, AttrC, PiC}
use Rattle.xt_syntax.specs.declared.prefixes.Prefixes.{Prefixes}
use Rattle.expr_keys.specs.declared.keys.Key.{Key}
use Rattle.expr_keys.specs.declared.keys.Key.TheVariants as key
use Rattle.expr_keys.specs.declared.productions.Level.{Level}
use Rattle.expr_keys.specs.declared.productions.Level.TheVariants as level
use Rattle.expr_raws.specs.PathRaws.Forms.{Form}
use Rattle.expr_raws.specs.PathRaws.Paths.{filtered}
use Rattle.expr_raws.specs.ControlRaws.Operators.{listed, many, arithmetic}
use Rattle.expr_raws.specs.ElementRaws.Makers.{element, attribute, instruction}
use Rattle.expr_raws.specs.Raws.{form_of}
use Rattle.expr_drafts.specs.ExprPlaces.Forms.{name_form, last_of_more}
use Rattle.expr_drafts.proofs.ExprPlaces.Leaves.{element_place, attribute_place, instruction_place}
use Rattle.expr_drafts.proofs.ExprPlaces.Leaves.{element_unmarked, attribute_unmarked, instruction_unmarked}
use Rattle.expr_drafts.proofs.ExprPlaces.Operands.{rolled}

module _ (p : Prefixes) (e : Expr) where
  pub comma_form : (es items : List Expr) → e ≡ expr.Comma items → es ≡ items
      → listed (map (form_of p) es) ≡ form_of p e
  comma_form es items is same =
      ap (λ (xs : List Expr). listed (map (form_of p) xs)) same
      ∙ sym (ap (form_of p) (is ∙ sym (rolls-Comma items)) ∙ rolled p (Comma items))

  pub or_form : (es items : List Expr) → e ≡ expr.Or items → es ≡ items
      → many level.Or key.OrWord (map (form_of p) es) ≡ form_of p e
  or_form es items is same =
      ap (λ (xs : List Expr). many level.Or key.OrWord (map (form_of p) xs)) same
      ∙ sym (ap (form_of p) (is ∙ sym (rolls-Or items)) ∙ rolled p (Or items))

  pub and_form : (es items : List Expr) → e ≡ expr.And items → es ≡ items
      → many level.And key.AndWord (map (form_of p) es) ≡ form_of p e
  and_form es items is same =
      ap (λ (xs : List Expr). many level.And key.AndWord (map (form_of p) xs)) same
      ∙ sym (ap (form_of p) (is ∙ sym (rolls-And items)) ∙ rolled p (And items))

  pub filter_form : (a : Expr) (es items : List Expr) → e ≡ expr.Filter a items → es ≡ items
      → filtered (form_of p a) (map (form_of p) es) ≡ form_of p e
  filter_form a es items is same =
      ap (λ (xs : List Expr). filtered (form_of p a) (map (form_of p) xs)) same
      ∙ sym (ap (form_of p) (is ∙ sym (rolls-Filter a items)) ∙ rolled p (Filter a items))

  pub arith_form : (op : ArithOp) (a b : Expr) → e ≡ expr.Arith op a b
      → arithmetic op (form_of p a) (form_of p b) ≡ form_of p e
  arith_form op a b is =
      sym (ap (form_of p) (is ∙ sym (rolls-Arith op a b)) ∙ rolled p (Arith op a b))

  element_form : (n : NameSource) (a : Expr) → e ≡ expr.ElemC n a
      → form_of p e ≡ element p (name_form p n) (form_of p a)
  element_form n a is =
      ap (form_of p) (is ∙ sym (rolls-ElemC n a)) ∙ rolled p (ElemC n a)

  attribute_form : (n : NameSource) (a : Expr) → e ≡ expr.AttrC n a
      → form_of p e ≡ attribute p (name_form p n) (form_of p a)
  attribute_form n a is =
      ap (form_of p) (is ∙ sym (rolls-AttrC n a)) ∙ rolled p (AttrC n a)

  instruction_form : (n : NameSource) (a : Expr) → e ≡ expr.PiC n a
      → form_of p e ≡ instruction p (name_form p n) (form_of p a)
  instruction_form n a is =
      ap (form_of p) (is ∙ sym (rolls-PiC n a)) ∙ rolled p (PiC n a)

  -- a constructor whose name is given or computed
  abbrev pub IsMaker : Type 0
  IsMaker =
      ((n : NameSource) × (a : Expr) × e ≡ expr.ElemC n a)
      ⊎ (((n : NameSource) × (a : Expr) × e ≡ expr.AttrC n a)
      ⊎ ((n : NameSource) × (a : Expr) × e ≡ expr.PiC n a))

  pub maker_place : IsMaker → 0 ≡ (form_of p e).place
  maker_place (inl (n, a, is)) =
      sym (ap (λ (f : Form). f.place) (element_form n a is)
      ∙ element_place p (name_form p n) (form_of p a))
  maker_place (inr (inl (n, a, is))) =
      sym (ap (λ (f : Form). f.place) (attribute_form n a is)
      ∙ attribute_place p (name_form p n) (form_of p a))
  maker_place (inr (inr (n, a, is))) =
      sym (ap (λ (f : Form). f.place) (instruction_form n a is)
      ∙ instruction_place p (name_form p n) (form_of p a))

  pub maker_unmarked : IsMaker → false ≡ (form_of p e).unmarked
  maker_unmarked (inl (n, a, is)) =
      sym (ap (λ (f : Form). f.unmarked) (element_form n a is)
      ∙ element_unmarked p (name_form p n) (form_of p a))
  maker_unmarked (inr (inl (n, a, is))) =
      sym (ap (λ (f : Form). f.unmarked) (attribute_form n a is)
      ∙ attribute_unmarked p (name_form p n) (form_of p a))
  maker_unmarked (inr (inr (n, a, is))) =
      sym (ap (λ (f : Form). f.unmarked) (instruction_form n a is)
      ∙ instruction_unmarked p (name_form p n) (form_of p a))

module _ (f : Expr → Form) where
  pub one_listed : (es : List Expr) → length es < 2 → 0 ≡ (listed (map f es)).place
  one_listed [] h = refl
  one_listed (a ∷ []) h = refl
  one_listed (a ∷ b ∷ es) h = absurd (omega arith)

  pub one_of_many : (l : Level) (k : Key) (es : List Expr) → length es < 2
      → 0 ≡ (many l k (map f es)).place
  one_of_many l k [] h = refl
  one_of_many l k (a ∷ []) h = refl
  one_of_many l k (a ∷ b ∷ es) h = absurd (omega arith)

  pub one_last : (n : ℕ) (es : List Expr) → length es < 2 → false ≡ last_of_more n (map f es)
  one_last n [] h = refl
  one_last n (a ∷ []) h = refl
  one_last n (a ∷ b ∷ es) h = absurd (omega arith)
