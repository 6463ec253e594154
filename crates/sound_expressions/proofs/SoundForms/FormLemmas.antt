-- What makes each form of expression regular, with sound texts: what makes its parts so.
use Rattle.std.proofs.Common.{◌≡◌, ℕ, ℤ, List, [], ◌∷◌, Bool, true, false, not, ◌||◌, ◌==◌, map}
use Rattle.std.proofs.Common.{length, Option, Some, None, refl, ap, subst, ◌∙◌, arith, nat_le}
use Rattle.std.proofs.lemmas.Bool.{ne_eqb, le-leb}
use Rattle.std.specs.Prelude.{int_le, pos}
use Rattle.xt_names.specs.Allowed.{is_empty_text}
use Rattle.xt_names.specs.Classes.{is_xml_text}
use Rattle.xt_names.specs.declared.names.ExprName.{ExprName}
use Rattle.xt_names.specs.declared.names.Name.{Name}
use Rattle.xt_names.specs.declared.kinds.AtomType.{AtomType}
use Rattle.xt_names.specs.declared.kinds.CompareOp.{CompareOp}
use Rattle.xt_names.specs.declared.kinds.ArithOp.{ArithOp}
use Rattle.xt_types.specs.Regular.{is_regular_test, is_regular_type}
use Rattle.xt_types.specs.declared.axes.Axis.{Axis}
use Rattle.xt_types.specs.declared.node_tests.Test.{Test}
use Rattle.xt_types.specs.declared.types.SeqType.{SeqType}
use Rattle.xt_syntax.specs.declared.exprs.Expr.{Expr}
use Rattle.xt_syntax.specs.declared.exprs.Expr.TheVariants as expr
use Rattle.xt_syntax.specs.declared.exprs.Expr.TheVariants.{rolls-Int, rolls-Str, rolls-Var, rolls-Context, rolls-Root, rolls-Comma}
use Rattle.xt_syntax.specs.declared.exprs.Expr.TheVariants.{rolls-Or, rolls-And, rolls-If, rolls-Flwor, rolls-Quant, rolls-General}
use Rattle.xt_syntax.specs.declared.exprs.Expr.TheVariants.{rolls-Value, rolls-Is, rolls-Before, rolls-After, rolls-Range, rolls-Arith}
use Rattle.xt_syntax.specs.declared.exprs.Expr.TheVariants.{rolls-Minus, rolls-Plus, rolls-Union, rolls-Intersect, rolls-Except, rolls-InstanceOf}
use Rattle.xt_syntax.specs.declared.exprs.Expr.TheVariants.{rolls-Treat, rolls-Castable, rolls-Cast, rolls-Slash, rolls-Step, rolls-Filter}
use Rattle.xt_syntax.specs.declared.exprs.Expr.TheVariants.{rolls-Call, rolls-ElemC, rolls-AttrC, rolls-DocC, rolls-TextC, rolls-CommentC}
use Rattle.xt_syntax.specs.declared.exprs.Expr.TheVariants.{rolls-PiC, rolls-Direct}
use Rattle.xt_syntax.specs.declared.exprs.Clause.{Clause}
use Rattle.xt_syntax.specs.declared.exprs.NameSource.{NameSource}
use Rattle.xt_syntax.specs.declared.exprs.Part.{Part}
use Rattle.xt_syntax.specs.declared.exprs.Arm.{Arm}
use Rattle.xt_syntax.specs.declared.exprs.Bind.{Bind}
use Rattle.xt_syntax.specs.declared.exprs.DirectAttr.{DirectAttr}
use Rattle.xt_syntax.specs.declared.exprs.Flwor.{Flwor as FlworOf}
use Rattle.xt_syntax.specs.declared.exprs.Order.{Order}
use Rattle.xt_syntax.specs.declared.exprs.Clause.TheVariants as clause
use Rattle.xt_syntax.specs.declared.exprs.Clause.TheVariants.{rolls-For, rolls-Let}
use Rattle.xt_syntax.specs.declared.exprs.NameSource.TheVariants as source
use Rattle.xt_syntax.specs.declared.exprs.NameSource.TheVariants.{rolls-Fixed, rolls-Computed}
use Rattle.xt_syntax.specs.declared.exprs.Part.TheVariants as part
use Rattle.xt_syntax.specs.declared.exprs.Part.TheVariants.{rolls-Chars, rolls-Enclosed, rolls-Child}
use Rattle.xt_syntax.specs.declared.exprs.Clause.TheOpen.{Expr-F, Clause-F, NameSource-F, Part-F, Flwor-F}
use Rattle.xt_syntax.specs.declared.exprs.Clause.TheOpen.{Int, Str, Var, Context, Root, Comma, Or, And}
use Rattle.xt_syntax.specs.declared.exprs.Clause.TheOpen.{If, Flwor, Quant, General, Value, Is, Before, After}
use Rattle.xt_syntax.specs.declared.exprs.Clause.TheOpen.{Range, Arith, Minus, Plus, Union, Intersect, Except, InstanceOf}
use Rattle.xt_syntax.specs.declared.exprs.Clause.TheOpen.{Treat, Castable, Cast, Slash, Step, Filter, Call, ElemC}
use Rattle.xt_syntax.specs.declared.exprs.Clause.TheOpen.{AttrC, DocC, TextC, CommentC, PiC, Direct, For, Let}
use Rattle.xt_syntax.specs.declared.exprs.Clause.TheOpen.{Fixed, Computed, Chars, Enclosed, Child}
use Rattle.xt_syntax.specs.declared.exprs.Clause.TheViews.{roll-Expr, roll-Clause, roll-NameSource, roll-Part}
use Rattle.xt_syntax.specs.declared.exprs.Clause.TheViews.{roll-Flwor, out-Arm, out-Bind, out-DirectAttr, out-Order}
use Rattle.xt_syntax.specs.declared.exprs.Clause.TheFolds.{fold-roll-Expr, fold-roll-Clause, fold-roll-NameSource}
use Rattle.xt_syntax.specs.declared.exprs.Clause.TheFolds.{fold-roll-Part, fold-roll-Flwor, fold_out-Arm, fold_out-Bind}
use Rattle.xt_syntax.specs.declared.exprs.Clause.TheFolds.{fold_out-DirectAttr, fold_out-Order}
use Rattle.xt_syntax.specs.declared.exprs.Clause.TheFolds.{map-Expr, map-Clause, map-NameSource, map-Part, map-Flwor}
use Rattle.xt_forms.specs.Regular.{regulars, every, every_regular, is_cast_type}
use Rattle.xt_forms.specs.Regular.{is_cast_name, is_bare_name, is_regular_kind, are_regular_parts}
use Rattle.xt_forms.specs.Regular.{has_no_child, expr_facts, clause_regular, name_facts, part_facts}
use Rattle.xt_forms.specs.Regular.{flwor_regular, expr_facts_of, is_regular_arm, is_regular_clause}
use Rattle.xt_forms.specs.Regular.{is_regular_bind, is_regular_order, name_facts_of}
use Rattle.xt_forms.specs.Regular.{is_regular_attr, part_facts_of, is_regular_flwor}
use Rattle.xt_forms.specs.Regular.{is_regular_expr}
use Rattle.closed_queries.specs.Texts.{is_sound_expr_name, is_sound_name, is_sound_attribute_name}
use Rattle.closed_queries.specs.Texts.{is_sound_test, is_sound_type, is_sound_kind}
use Rattle.closed_queries.specs.ExprTexts.{Bound, sounds, every_bound, expr_sound, clause_sound}
use Rattle.closed_queries.specs.ExprTexts.{name_sound, part_sound, flwor_sound}
use Rattle.closed_queries.specs.ExprTexts.{has_sound_texts, is_sound_arm, is_sound_clause, bound_of}
use Rattle.closed_queries.specs.ExprTexts.{is_sound_order, is_sound_source, is_sound_attr}
use Rattle.closed_queries.specs.ExprTexts.{is_sound_part, is_sound_flwor, is_sound_place}

-- regular, with sound texts
pub record Fine (e : Expr) : Type 0 where
  pub regular : is_regular_expr e ≡ true
  pub sound : has_sound_texts e ≡ true

-- .. and no `if`
pub record Form (e : Expr) : Type 0 where
  pub fine : Fine e
  pub no_if : (expr_facts_of e).is_if ≡ false

abbrev Exprs : Type 0
Exprs = Expr-F Clause Expr NameSource Part Arm Bind DirectAttr FlworOf Order

abbrev expr_facts_at : Exprs → regulars.Exprs
expr_facts_at x = expr_facts
    (map-Expr Clause Expr NameSource Part Arm Bind DirectAttr FlworOf Order regulars.Clauses
    regulars.Exprs regulars.Names regulars.Parts regulars.Arms regulars.Binds regulars.Attrs
    regulars.Flwors regulars.Orders is_regular_clause expr_facts_of name_facts_of part_facts_of
    is_regular_arm is_regular_bind is_regular_attr is_regular_flwor is_regular_order x)

rolled_expr_facts : (x : Exprs) → expr_facts_of (roll-Expr x) ≡ expr_facts_at x
rolled_expr_facts x = fold-roll-Expr _ _ _ _ _ _ _ _ _ _ _ _ _ _ _ _ _ _ x

abbrev expr_sound_at : Exprs → Bool
expr_sound_at x = expr_sound
    (map-Expr Clause Expr NameSource Part Arm Bind DirectAttr FlworOf Order sounds.Clauses
    sounds.Exprs sounds.Names sounds.Parts sounds.Arms sounds.Binds sounds.Attrs sounds.Flwors
    sounds.Orders is_sound_clause has_sound_texts is_sound_source is_sound_part is_sound_arm
    bound_of is_sound_attr is_sound_flwor is_sound_order x)

rolled_expr_sound : (x : Exprs) → has_sound_texts (roll-Expr x) ≡ expr_sound_at x
rolled_expr_sound x = fold-roll-Expr _ _ _ _ _ _ _ _ _ _ _ _ _ _ _ _ _ _ x

abbrev Clauses : Type 0
Clauses = Clause-F Clause Expr NameSource Part Arm Bind DirectAttr FlworOf Order

abbrev clause_facts_at : Clauses → Bool
clause_facts_at x = clause_regular
    (map-Clause Clause Expr NameSource Part Arm Bind DirectAttr FlworOf Order regulars.Clauses
    regulars.Exprs regulars.Names regulars.Parts regulars.Arms regulars.Binds regulars.Attrs
    regulars.Flwors regulars.Orders is_regular_clause expr_facts_of name_facts_of part_facts_of
    is_regular_arm is_regular_bind is_regular_attr is_regular_flwor is_regular_order x)

rolled_clause_facts : (x : Clauses) → is_regular_clause (roll-Clause x) ≡ clause_facts_at x
rolled_clause_facts x = fold-roll-Clause _ _ _ _ _ _ _ _ _ _ _ _ _ _ _ _ _ _ x

abbrev clause_sound_at : Clauses → Bool
clause_sound_at x = clause_sound
    (map-Clause Clause Expr NameSource Part Arm Bind DirectAttr FlworOf Order sounds.Clauses
    sounds.Exprs sounds.Names sounds.Parts sounds.Arms sounds.Binds sounds.Attrs sounds.Flwors
    sounds.Orders is_sound_clause has_sound_texts is_sound_source is_sound_part is_sound_arm
    bound_of is_sound_attr is_sound_flwor is_sound_order x)

rolled_clause_sound : (x : Clauses) → is_sound_clause (roll-Clause x) ≡ clause_sound_at x
rolled_clause_sound x = fold-roll-Clause _ _ _ _ _ _ _ _ _ _ _ _ _ _ _ _ _ _ x

abbrev NameSources : Type 0
NameSources = NameSource-F Clause Expr NameSource Part Arm Bind DirectAttr FlworOf Order

abbrev name_facts_at : NameSources → regulars.Names
name_facts_at x = name_facts
    (map-NameSource Clause Expr NameSource Part Arm Bind DirectAttr FlworOf Order regulars.Clauses
    regulars.Exprs regulars.Names regulars.Parts regulars.Arms regulars.Binds regulars.Attrs
    regulars.Flwors regulars.Orders is_regular_clause expr_facts_of name_facts_of part_facts_of
    is_regular_arm is_regular_bind is_regular_attr is_regular_flwor is_regular_order x)

rolled_name_facts : (x : NameSources) → name_facts_of (roll-NameSource x) ≡ name_facts_at x
rolled_name_facts x = fold-roll-NameSource _ _ _ _ _ _ _ _ _ _ _ _ _ _ _ _ _ _ x

abbrev name_sound_at : NameSources → Bool
name_sound_at x = name_sound
    (map-NameSource Clause Expr NameSource Part Arm Bind DirectAttr FlworOf Order sounds.Clauses
    sounds.Exprs sounds.Names sounds.Parts sounds.Arms sounds.Binds sounds.Attrs sounds.Flwors
    sounds.Orders is_sound_clause has_sound_texts is_sound_source is_sound_part is_sound_arm
    bound_of is_sound_attr is_sound_flwor is_sound_order x)

rolled_name_sound : (x : NameSources) → is_sound_source (roll-NameSource x) ≡ name_sound_at x
rolled_name_sound x = fold-roll-NameSource _ _ _ _ _ _ _ _ _ _ _ _ _ _ _ _ _ _ x

abbrev Parts : Type 0
Parts = Part-F Clause Expr NameSource Part Arm Bind DirectAttr FlworOf Order

abbrev part_facts_at : Parts → regulars.Parts
part_facts_at x = part_facts
    (map-Part Clause Expr NameSource Part Arm Bind DirectAttr FlworOf Order regulars.Clauses
    regulars.Exprs regulars.Names regulars.Parts regulars.Arms regulars.Binds regulars.Attrs
    regulars.Flwors regulars.Orders is_regular_clause expr_facts_of name_facts_of part_facts_of
    is_regular_arm is_regular_bind is_regular_attr is_regular_flwor is_regular_order x)

rolled_part_facts : (x : Parts) → part_facts_of (roll-Part x) ≡ part_facts_at x
rolled_part_facts x = fold-roll-Part _ _ _ _ _ _ _ _ _ _ _ _ _ _ _ _ _ _ x

abbrev part_sound_at : Parts → Bool
part_sound_at x = part_sound
    (map-Part Clause Expr NameSource Part Arm Bind DirectAttr FlworOf Order sounds.Clauses
    sounds.Exprs sounds.Names sounds.Parts sounds.Arms sounds.Binds sounds.Attrs sounds.Flwors
    sounds.Orders is_sound_clause has_sound_texts is_sound_source is_sound_part is_sound_arm
    bound_of is_sound_attr is_sound_flwor is_sound_order x)

rolled_part_sound : (x : Parts) → is_sound_part (roll-Part x) ≡ part_sound_at x
rolled_part_sound x = fold-roll-Part _ _ _ _ _ _ _ _ _ _ _ _ _ _ _ _ _ _ x

abbrev Flwors : Type 0
Flwors = Flwor-F Clause Expr NameSource Part Arm Bind DirectAttr FlworOf Order

abbrev flwor_facts_at : Flwors → Bool
flwor_facts_at x = flwor_regular
    (map-Flwor Clause Expr NameSource Part Arm Bind DirectAttr FlworOf Order regulars.Clauses
    regulars.Exprs regulars.Names regulars.Parts regulars.Arms regulars.Binds regulars.Attrs
    regulars.Flwors regulars.Orders is_regular_clause expr_facts_of name_facts_of part_facts_of
    is_regular_arm is_regular_bind is_regular_attr is_regular_flwor is_regular_order x)

rolled_flwor_facts : (x : Flwors) → is_regular_flwor (roll-Flwor x) ≡ flwor_facts_at x
rolled_flwor_facts x = fold-roll-Flwor _ _ _ _ _ _ _ _ _ _ _ _ _ _ _ _ _ _ x

abbrev flwor_sound_at : Flwors → Bool
flwor_sound_at x = flwor_sound
    (map-Flwor Clause Expr NameSource Part Arm Bind DirectAttr FlworOf Order sounds.Clauses
    sounds.Exprs sounds.Names sounds.Parts sounds.Arms sounds.Binds sounds.Attrs sounds.Flwors
    sounds.Orders is_sound_clause has_sound_texts is_sound_source is_sound_part is_sound_arm
    bound_of is_sound_attr is_sound_flwor is_sound_order x)

rolled_flwor_sound : (x : Flwors) → is_sound_flwor (roll-Flwor x) ≡ flwor_sound_at x
rolled_flwor_sound x = fold-roll-Flwor _ _ _ _ _ _ _ _ _ _ _ _ _ _ _ _ _ _ x

form_roll : (x : Exprs) → (expr_facts_at x).regular ≡ true → (expr_facts_at x).is_if ≡ false
    → expr_sound_at x ≡ true → Form (roll-Expr x)
form_roll x r i s = record {
  fine = record {
    regular = ap (λ f. f.regular) (rolled_expr_facts x) ∙ r;
    sound = rolled_expr_sound x ∙ s;
  };
  no_if = ap (λ f. f.is_if) (rolled_expr_facts x) ∙ i;
}

-- lists of parts
abbrev pub AllFine : List Expr → Type 0
AllFine [] = Unit {0}
AllFine (e ∷ es) = Fine e × AllFine es

regulars_of : (es : List Expr) → AllFine es → every_regular (map expr_facts_of es) ≡ true
regulars_of [] f = refl
regulars_of (e ∷ es) f = rw (f.0.regular, regulars_of es f.1) refl

sounds_of : (es : List Expr) → AllFine es → every (map has_sound_texts es) ≡ true
sounds_of [] f = refl
sounds_of (e ∷ es) f = rw (f.0.sound, sounds_of es f.1) refl

not_one : {A : Type 0} (x y : A) (zs : List A) → (length (x ∷ y ∷ zs) == 1) ≡ false
not_one x y zs = ne_eqb (length (x ∷ y ∷ zs)) 1 (λ e. omega (arith, e))

two_some : {A : Type 0} (x y : A) (zs : List A) → nat_le 2 (length (x ∷ y ∷ zs)) ≡ true
two_some x y zs = le-leb 2 (length (x ∷ y ∷ zs)) (omega arith)

one_some : {A : Type 0} (x : A) (xs : List A) → (length (x ∷ xs) == 0) ≡ false
one_some x xs = ne_eqb (length (x ∷ xs)) 0 (λ e. omega (arith, e))

-- leaves
pub form_int : (n : ℤ) → int_le (pos 0) n ≡ true → Form (expr.Int n)
form_int n h = subst Form (rolls-Int n) (form_roll (Int n) h refl refl)

pub form_str : (t : List ℕ) → is_xml_text t ≡ true → Form (expr.Str t)
form_str t h = subst Form (rolls-Str t) (form_roll (Str t) refl refl h)

pub form_var : (n : ExprName) → is_sound_expr_name n ≡ true → Form (expr.Var n)
form_var n h = subst Form (rolls-Var n) (form_roll (Var n) refl refl h)

pub form_context : Form expr.Context
form_context = subst Form rolls-Context (form_roll Context refl refl refl)

pub form_root : Form expr.Root
form_root = subst Form rolls-Root (form_roll Root refl refl refl)

-- lists
pub form_empty : Form (expr.Comma [])
form_empty = subst Form (rolls-Comma []) (form_roll (Comma []) refl refl refl)

pub form_comma : (a b : Expr) (es : List Expr) → AllFine (a ∷ b ∷ es)
    → Form (expr.Comma (a ∷ b ∷ es))
form_comma a b es f = subst Form (rolls-Comma (a ∷ b ∷ es)) (form_roll (Comma (a ∷ b ∷ es))
    (rw (not_one (expr_facts_of a) (expr_facts_of b) (map expr_facts_of es), regulars_of (a ∷ b ∷ es) f) refl)
    refl (sounds_of (a ∷ b ∷ es) f))

pub form_or : (a b : Expr) (es : List Expr) → AllFine (a ∷ b ∷ es) → Form (expr.Or (a ∷ b ∷ es))
form_or a b es f = subst Form (rolls-Or (a ∷ b ∷ es)) (form_roll (Or (a ∷ b ∷ es))
    (rw (two_some (expr_facts_of a) (expr_facts_of b) (map expr_facts_of es), regulars_of (a ∷ b ∷ es) f) refl)
    refl (sounds_of (a ∷ b ∷ es) f))

pub form_and : (a b : Expr) (es : List Expr) → AllFine (a ∷ b ∷ es) → Form (expr.And (a ∷ b ∷ es))
form_and a b es f = subst Form (rolls-And (a ∷ b ∷ es)) (form_roll (And (a ∷ b ∷ es))
    (rw (two_some (expr_facts_of a) (expr_facts_of b) (map expr_facts_of es), regulars_of (a ∷ b ∷ es) f) refl)
    refl (sounds_of (a ∷ b ∷ es) f))

-- two parts
pub form_general : (op : CompareOp) (a b : Expr) → Fine a → Fine b → Form (expr.General op a b)
form_general op a b f g = subst Form (rolls-General op a b)
    (form_roll (General op a b) (rw (f.regular, g.regular) refl) refl (rw (f.sound, g.sound) refl))

pub form_value : (op : CompareOp) (a b : Expr) → Fine a → Fine b → Form (expr.Value op a b)
form_value op a b f g = subst Form (rolls-Value op a b)
    (form_roll (Value op a b) (rw (f.regular, g.regular) refl) refl (rw (f.sound, g.sound) refl))

pub form_is : (a b : Expr) → Fine a → Fine b → Form (expr.Is a b)
form_is a b f g = subst Form (rolls-Is a b)
    (form_roll (Is a b) (rw (f.regular, g.regular) refl) refl (rw (f.sound, g.sound) refl))

pub form_before : (a b : Expr) → Fine a → Fine b → Form (expr.Before a b)
form_before a b f g = subst Form (rolls-Before a b)
    (form_roll (Before a b) (rw (f.regular, g.regular) refl) refl (rw (f.sound, g.sound) refl))

pub form_after : (a b : Expr) → Fine a → Fine b → Form (expr.After a b)
form_after a b f g = subst Form (rolls-After a b)
    (form_roll (After a b) (rw (f.regular, g.regular) refl) refl (rw (f.sound, g.sound) refl))

pub form_range : (a b : Expr) → Fine a → Fine b → Form (expr.Range a b)
form_range a b f g = subst Form (rolls-Range a b)
    (form_roll (Range a b) (rw (f.regular, g.regular) refl) refl (rw (f.sound, g.sound) refl))

pub form_arith : (op : ArithOp) (a b : Expr) → Fine a → Fine b → Form (expr.Arith op a b)
form_arith op a b f g = subst Form (rolls-Arith op a b)
    (form_roll (Arith op a b) (rw (f.regular, g.regular) refl) refl (rw (f.sound, g.sound) refl))

pub form_union : (a b : Expr) → Fine a → Fine b → Form (expr.Union a b)
form_union a b f g = subst Form (rolls-Union a b)
    (form_roll (Union a b) (rw (f.regular, g.regular) refl) refl (rw (f.sound, g.sound) refl))

pub form_intersect : (a b : Expr) → Fine a → Fine b → Form (expr.Intersect a b)
form_intersect a b f g = subst Form (rolls-Intersect a b)
    (form_roll (Intersect a b) (rw (f.regular, g.regular) refl) refl (rw (f.sound, g.sound) refl))

pub form_except : (a b : Expr) → Fine a → Fine b → Form (expr.Except a b)
form_except a b f g = subst Form (rolls-Except a b)
    (form_roll (Except a b) (rw (f.regular, g.regular) refl) refl (rw (f.sound, g.sound) refl))

pub form_slash : (a b : Expr) → Fine a → Fine b → Form (expr.Slash a b)
form_slash a b f g = subst Form (rolls-Slash a b)
    (form_roll (Slash a b) (rw (f.regular, g.regular) refl) refl (rw (f.sound, g.sound) refl))

-- one part
pub form_minus : (a : Expr) → Fine a → Form (expr.Minus a)
form_minus a f = subst Form (rolls-Minus a) (form_roll (Minus a) f.regular refl f.sound)

pub form_plus : (a : Expr) → Fine a → Form (expr.Plus a)
form_plus a f = subst Form (rolls-Plus a) (form_roll (Plus a) f.regular refl f.sound)

pub form_document : (a : Expr) → Fine a → Form (expr.DocC a)
form_document a f = subst Form (rolls-DocC a) (form_roll (DocC a) f.regular refl f.sound)

pub form_text : (a : Expr) → Fine a → Form (expr.TextC a)
form_text a f = subst Form (rolls-TextC a) (form_roll (TextC a) f.regular refl f.sound)

pub form_comment : (a : Expr) → Fine a → Form (expr.CommentC a)
form_comment a f = subst Form (rolls-CommentC a) (form_roll (CommentC a) f.regular refl f.sound)

pub form_instance : (a : Expr) (k : SeqType) → Fine a → is_regular_type k ≡ true
    → is_sound_type k ≡ true → Form (expr.InstanceOf a k)
form_instance a k f r s = subst Form (rolls-InstanceOf a k)
    (form_roll (InstanceOf a k) (rw (f.regular, r) refl) refl (rw (f.sound, s) refl))

pub form_treat : (a : Expr) (k : SeqType) → Fine a → is_regular_type k ≡ true
    → is_sound_type k ≡ true → Form (expr.Treat a k)
form_treat a k f r s = subst Form (rolls-Treat a k)
    (form_roll (Treat a k) (rw (f.regular, r) refl) refl (rw (f.sound, s) refl))

pub form_castable : (a : Expr) (k : AtomType) (b : Bool) → Fine a → is_cast_type k ≡ true
    → Form (expr.Castable a k b)
form_castable a k b f r = subst Form (rolls-Castable a k b)
    (form_roll (Castable a k b) (rw (f.regular, r) refl) refl f.sound)

pub form_cast : (a : Expr) (k : AtomType) (b : Bool) → Fine a → is_cast_type k ≡ true
    → Form (expr.Cast a k b)
form_cast a k b f r = subst Form (rolls-Cast a k b)
    (form_roll (Cast a k b) (rw (f.regular, r) refl) refl f.sound)

-- steps, filters and calls
pub form_step : (on : Axis) (t : Test) (es : List Expr) → is_regular_test t ≡ true
    → is_sound_test t ≡ true → AllFine es → Form (expr.Step on t es)
form_step on t es r s f = subst Form (rolls-Step on t es) (form_roll (Step on t es)
    (rw (r, regulars_of es f) refl) refl (rw (s, sounds_of es f) refl))

pub form_filter : (a b : Expr) (es : List Expr) → Fine a → AllFine (b ∷ es)
    → Form (expr.Filter a (b ∷ es))
form_filter a b es f g = subst Form (rolls-Filter a (b ∷ es)) (form_roll (Filter a (b ∷ es))
    (rw (f.regular, one_some (expr_facts_of b) (map expr_facts_of es), regulars_of (b ∷ es) g) refl)
    refl (rw (f.sound, sounds_of (b ∷ es) g) refl))

pub form_call : (n : ExprName) (es : List Expr) → is_cast_name n ≡ false
    → is_sound_expr_name n ≡ true → AllFine es → Form (expr.Call n es)
form_call n es c s f = subst Form (rolls-Call n es) (form_roll (Call n es)
    (rw (c, regulars_of es f) refl) refl (rw (s, sounds_of es f) refl))

-- conditionals
abbrev pub FineArm : Arm → Type 0
FineArm a = Fine (out-Arm a).test × Fine (out-Arm a).then

abbrev pub AllArms : List Arm → Type 0
AllArms [] = Unit {0}
AllArms (a ∷ as') = FineArm a × AllArms as'

arm_regular : (a : Arm) → FineArm a → is_regular_arm a ≡ true
arm_regular a f = fold_out-Arm _ _ _ _ _ _ _ _ _ _ _ _ _ _ _ _ _ _ a
    ∙ rw (f.0.regular, f.1.regular) refl

arm_sound : (a : Arm) → FineArm a → is_sound_arm a ≡ true
arm_sound a f = fold_out-Arm _ _ _ _ _ _ _ _ _ _ _ _ _ _ _ _ _ _ a
    ∙ rw (f.0.sound, f.1.sound) refl

arms_regular : (xs : List Arm) → AllArms xs → every (map is_regular_arm xs) ≡ true
arms_regular [] f = refl
arms_regular (a ∷ xs) f = rw (arm_regular a f.0, arms_regular xs f.1) refl

arms_sound : (xs : List Arm) → AllArms xs → every (map is_sound_arm xs) ≡ true
arms_sound [] f = refl
arms_sound (a ∷ xs) f = rw (arm_sound a f.0, arms_sound xs f.1) refl

pub fine_if : (a : Arm) (xs : List Arm) (e : Expr) → AllArms (a ∷ xs) → Form e
    → Fine (expr.If (a ∷ xs) e)
fine_if a xs e f g = subst Fine (rolls-If (a ∷ xs) e) (record {
  regular = ap (λ x. x.regular) (rolled_expr_facts (If (a ∷ xs) e))
      ∙ rw (one_some (is_regular_arm a) (map is_regular_arm xs), arms_regular (a ∷ xs) f, g.fine.regular, g.no_if) refl;
  sound = rolled_expr_sound (If (a ∷ xs) e) ∙ rw (arms_sound (a ∷ xs) f, g.fine.sound) refl;
})

-- bindings
pub record FineBind (b : Bind) : Type 0 where
  pub kind : is_regular_kind (out-Bind b).kind ≡ true
  pub sound_kind : is_sound_kind (out-Bind b).kind ≡ true
  pub name : is_sound_expr_name (out-Bind b).var ≡ true
  pub source : Fine (out-Bind b).source

pub bind_regular : (b : Bind) → FineBind b → is_regular_bind b ≡ true
bind_regular b f = fold_out-Bind _ _ _ _ _ _ _ _ _ _ _ _ _ _ _ _ _ _ b
    ∙ rw (f.kind, f.source.regular) refl

pub bind_sound_is : (b : Bind) → FineBind b → (bound_of b).sound ≡ true
bind_sound_is b f = ap (λ (x : Bound). x.sound) (fold_out-Bind _ _ _ _ _ _ _ _ _ _ _ _ _ _ _ _ _ _ b)
    ∙ rw (f.name, f.sound_kind, f.source.sound) refl

bind_var : (b : Bind) → (bound_of b).var ≡ (out-Bind b).var
bind_var b = ap (λ (x : Bound). x.var) (fold_out-Bind _ _ _ _ _ _ _ _ _ _ _ _ _ _ _ _ _ _ b)

abbrev pub AllBinds : List Bind → Type 0
AllBinds [] = Unit {0}
AllBinds (b ∷ bs) = FineBind b × AllBinds bs

binds_regular : (bs : List Bind) → AllBinds bs → every (map is_regular_bind bs) ≡ true
binds_regular [] f = refl
binds_regular (b ∷ bs) f = rw (bind_regular b f.0, binds_regular bs f.1) refl

binds_sound : (bs : List Bind) → AllBinds bs → every_bound (map bound_of bs) ≡ true
binds_sound [] f = refl
binds_sound (b ∷ bs) f = rw (bind_sound_is b f.0, binds_sound bs f.1) refl

pub form_quant : (q : Bool) (b : Bind) (bs : List Bind) (e : Expr) → AllBinds (b ∷ bs) → Fine e
    → Form (expr.Quant q (b ∷ bs) e)
form_quant q b bs e f g = subst Form (rolls-Quant q (b ∷ bs) e) (form_roll (Quant q (b ∷ bs) e)
    (rw (one_some (is_regular_bind b) (map is_regular_bind bs), binds_regular (b ∷ bs) f, g.regular) refl)
    refl (rw (binds_sound (b ∷ bs) f, g.sound) refl))

-- clauses
pub record FineClause (c : Clause) : Type 0 where
  pub regular : is_regular_clause c ≡ true
  pub sound : is_sound_clause c ≡ true

pub fine_for : (b : Bind) (p : Option ExprName) → FineBind b
    → is_sound_place (out-Bind b).var p ≡ true → FineClause (clause.For b p)
fine_for b p f s = subst FineClause (rolls-For b p) (record {
  regular = rolled_clause_facts (For b p) ∙ bind_regular b f;
  sound = rolled_clause_sound (For b p) ∙ rw (bind_sound_is b f, bind_var b, s) refl;
})

pub fine_let : (b : Bind) → FineBind b → FineClause (clause.Let b)
fine_let b f = subst FineClause (rolls-Let b) (record {
  regular = rolled_clause_facts (Let b) ∙ bind_regular b f;
  sound = rolled_clause_sound (Let b) ∙ bind_sound_is b f;
})

abbrev pub AllClauses : List Clause → Type 0
AllClauses [] = Unit {0}
AllClauses (c ∷ cs) = FineClause c × AllClauses cs

clauses_regular : (cs : List Clause) → AllClauses cs → every (map is_regular_clause cs) ≡ true
clauses_regular [] f = refl
clauses_regular (c ∷ cs) f = rw (f.0.regular, clauses_regular cs f.1) refl

clauses_sound : (cs : List Clause) → AllClauses cs → every (map is_sound_clause cs) ≡ true
clauses_sound [] f = refl
clauses_sound (c ∷ cs) f = rw (f.0.sound, clauses_sound cs f.1) refl

abbrev pub FineOrder : Order → Type 0
FineOrder o = Fine (out-Order o).key

order_regular : (o : Order) → FineOrder o → is_regular_order o ≡ true
order_regular o f = fold_out-Order _ _ _ _ _ _ _ _ _ _ _ _ _ _ _ _ _ _ o ∙ f.regular

order_sound : (o : Order) → FineOrder o → is_sound_order o ≡ true
order_sound o f = fold_out-Order _ _ _ _ _ _ _ _ _ _ _ _ _ _ _ _ _ _ o ∙ f.sound

abbrev pub AllOrders : List Order → Type 0
AllOrders [] = Unit {0}
AllOrders (o ∷ os) = FineOrder o × AllOrders os

orders_regular : (os : List Order) → AllOrders os → every (map is_regular_order os) ≡ true
orders_regular [] f = refl
orders_regular (o ∷ os) f = rw (order_regular o f.0, orders_regular os f.1) refl

orders_sound : (os : List Order) → AllOrders os → every (map is_sound_order os) ≡ true
orders_sound [] f = refl
orders_sound (o ∷ os) f = rw (order_sound o f.0, orders_sound os f.1) refl

abbrev pub FineTest : Option Expr → Type 0
FineTest None = Unit {0}
FineTest (Some e) = Fine e

-- a FLWOR is stable only where it orders
abbrev pub IsOrdered : List Order → Bool → Type 0
IsOrdered [] stable = stable ≡ false
IsOrdered (o ∷ os) stable = Unit {0}

abbrev flwor_is : List Clause → Option Expr → List Order → Bool → Expr → Flwors
flwor_is cs t os b e = record { clauses = cs; test = t; orders = os; stable = b; body = e }

ordered_so : (os : List Order) (b : Bool) → IsOrdered os b
    → ((not (length (map is_regular_order os) == 0)) || not b) ≡ true
ordered_so [] b i = rw i refl
ordered_so (o ∷ os) b i = rw (one_some (is_regular_order o) (map is_regular_order os)) refl

flwor_so : (c : Clause) (cs : List Clause) (t : Option Expr) (os : List Order) (b : Bool) (e : Expr)
    → AllClauses (c ∷ cs) → FineTest t → AllOrders os → IsOrdered os b → Fine e
    → (flwor_facts_at (flwor_is (c ∷ cs) t os b e) ≡ true)
    × (flwor_sound_at (flwor_is (c ∷ cs) t os b e) ≡ true)
flwor_so c cs None os b e f t o i g = (
  rw (one_some (is_regular_clause c) (map is_regular_clause cs), clauses_regular (c ∷ cs) f, ordered_so os b i, orders_regular os o, g.regular) refl,
  rw (clauses_sound (c ∷ cs) f, orders_sound os o, g.sound) refl,
)
flwor_so c cs (Some x) os b e f t o i g = (
  rw (one_some (is_regular_clause c) (map is_regular_clause cs), clauses_regular (c ∷ cs) f, t.regular, ordered_so os b i, orders_regular os o, g.regular) refl,
  rw (clauses_sound (c ∷ cs) f, t.sound, orders_sound os o, g.sound) refl,
)

pub form_flwor : (c : Clause) (cs : List Clause) (t : Option Expr) (os : List Order) (b : Bool)
    (e : Expr) → AllClauses (c ∷ cs) → FineTest t → AllOrders os → IsOrdered os b → Fine e
    → Form (expr.Flwor (roll-Flwor (flwor_is (c ∷ cs) t os b e)))
form_flwor c cs t os b e f g o i h =
    let x = flwor_is (c ∷ cs) t os b e in
    let r = flwor_so c cs t os b e f g o i h in
    subst Form (rolls-Flwor (roll-Flwor x)) (form_roll (Flwor (roll-Flwor x))
    (rolled_flwor_facts x ∙ r.0) refl (rolled_flwor_sound x ∙ r.1))

-- constructors
pub record FineName (n : NameSource) : Type 0 where
  pub regular : (name_facts_of n).regular ≡ true
  pub sound : is_sound_source n ≡ true

pub fine_fixed : (n : Name) → is_sound_name n ≡ true → FineName (source.Fixed n)
fine_fixed n h = subst FineName (rolls-Fixed n) (record {
  regular = ap (λ x. x.regular) (rolled_name_facts (Fixed n));
  sound = rolled_name_sound (Fixed n) ∙ h;
})

pub fixed_bare : (n : Name) → is_bare_name n ≡ true → (name_facts_of (source.Fixed n)).is_bare ≡ true
fixed_bare n h = subst (λ (x : NameSource). (name_facts_of x).is_bare ≡ true) (rolls-Fixed n)
    (ap (λ x. x.is_bare) (rolled_name_facts (Fixed n)) ∙ h)

pub fine_computed : (e : Expr) → Fine e → FineName (source.Computed e)
fine_computed e f = subst FineName (rolls-Computed e) (record {
  regular = ap (λ x. x.regular) (rolled_name_facts (Computed e)) ∙ f.regular;
  sound = rolled_name_sound (Computed e) ∙ f.sound;
})

pub computed_bare : (e : Expr) → (name_facts_of (source.Computed e)).is_bare ≡ true
computed_bare e = subst (λ (x : NameSource). (name_facts_of x).is_bare ≡ true) (rolls-Computed e)
    (ap (λ x. x.is_bare) (rolled_name_facts (Computed e)))

pub form_element : (n : NameSource) (e : Expr) → FineName n → Fine e → Form (expr.ElemC n e)
form_element n e f g = subst Form (rolls-ElemC n e) (form_roll (ElemC n e)
    (rw (f.regular, g.regular) refl) refl (rw (f.sound, g.sound) refl))

pub form_attribute : (n : NameSource) (e : Expr) → FineName n → Fine e → Form (expr.AttrC n e)
form_attribute n e f g = subst Form (rolls-AttrC n e) (form_roll (AttrC n e)
    (rw (f.regular, g.regular) refl) refl (rw (f.sound, g.sound) refl))

pub form_pi : (n : NameSource) (e : Expr) → FineName n → (name_facts_of n).is_bare ≡ true → Fine e
    → Form (expr.PiC n e)
form_pi n e f b g = subst Form (rolls-PiC n e) (form_roll (PiC n e)
    (rw (f.regular, b, g.regular) refl) refl (rw (f.sound, g.sound) refl))

-- direct elements
pub record FineParts (ps : List Part) : Type 0 where
  pub regular : are_regular_parts (map part_facts_of ps) ≡ true
  pub sound : every (map is_sound_part ps) ≡ true

pub record FineAttr (a : DirectAttr) : Type 0 where
  pub name : is_sound_attribute_name (out-DirectAttr a).name ≡ true
  pub parts : FineParts (out-DirectAttr a).parts
  pub childless : has_no_child (map part_facts_of (out-DirectAttr a).parts) ≡ true

attr_regular : (a : DirectAttr) → FineAttr a → is_regular_attr a ≡ true
attr_regular a f = fold_out-DirectAttr _ _ _ _ _ _ _ _ _ _ _ _ _ _ _ _ _ _ a
    ∙ rw (f.parts.regular, f.childless) refl

attr_sound : (a : DirectAttr) → FineAttr a → is_sound_attr a ≡ true
attr_sound a f = fold_out-DirectAttr _ _ _ _ _ _ _ _ _ _ _ _ _ _ _ _ _ _ a
    ∙ rw (f.name, f.parts.sound) refl

abbrev pub AllAttrs : List DirectAttr → Type 0
AllAttrs [] = Unit {0}
AllAttrs (a ∷ xs) = FineAttr a × AllAttrs xs

attrs_regular : (xs : List DirectAttr) → AllAttrs xs → every (map is_regular_attr xs) ≡ true
attrs_regular [] f = refl
attrs_regular (a ∷ xs) f = rw (attr_regular a f.0, attrs_regular xs f.1) refl

attrs_sound : (xs : List DirectAttr) → AllAttrs xs → every (map is_sound_attr xs) ≡ true
attrs_sound [] f = refl
attrs_sound (a ∷ xs) f = rw (attr_sound a f.0, attrs_sound xs f.1) refl

pub form_direct : (n : Name) (xs : List DirectAttr) (ps : List Part) → is_sound_name n ≡ true
    → AllAttrs xs → FineParts ps → Form (expr.Direct n xs ps)
form_direct n xs ps s f g = subst Form (rolls-Direct n xs ps) (form_roll (Direct n xs ps)
    (rw (attrs_regular xs f, g.regular) refl) refl (rw (s, attrs_sound xs f, g.sound) refl))

pub direct_is : (n : Name) (xs : List DirectAttr) (ps : List Part)
    → (expr_facts_of (expr.Direct n xs ps)).is_direct ≡ true
direct_is n xs ps = subst (λ (e : Expr). (expr_facts_of e).is_direct ≡ true) (rolls-Direct n xs ps)
    (ap (λ x. x.is_direct) (rolled_expr_facts (Direct n xs ps)))

-- a part that is no run of characters
pub record FinePart (p : Part) : Type 0 where
  pub regular : (part_facts_of p).regular ≡ true
  pub no_chars : (part_facts_of p).is_chars ≡ false
  pub sound : is_sound_part p ≡ true

pub fine_enclosed : (e : Expr) → Fine e → FinePart (part.Enclosed e)
fine_enclosed e f = subst FinePart (rolls-Enclosed e) (record {
  regular = ap (λ x. x.regular) (rolled_part_facts (Enclosed e)) ∙ f.regular;
  no_chars = ap (λ x. x.is_chars) (rolled_part_facts (Enclosed e));
  sound = rolled_part_sound (Enclosed e) ∙ f.sound;
})

pub enclosed_childless : (e : Expr) → (part_facts_of (part.Enclosed e)).is_child ≡ false
enclosed_childless e = subst (λ (x : Part). (part_facts_of x).is_child ≡ false) (rolls-Enclosed e)
    (ap (λ x. x.is_child) (rolled_part_facts (Enclosed e)))

pub fine_child : (e : Expr) → Fine e → (expr_facts_of e).is_direct ≡ true → FinePart (part.Child e)
fine_child e f d = subst FinePart (rolls-Child e) (record {
  regular = ap (λ x. x.regular) (rolled_part_facts (Child e)) ∙ rw (f.regular, d) refl;
  no_chars = ap (λ x. x.is_chars) (rolled_part_facts (Child e));
  sound = rolled_part_sound (Child e) ∙ f.sound;
})

-- a run of characters
pub record IsRun (t : List ℕ) (p : Part) : Type 0 where
  pub regular : (part_facts_of p).regular ≡ not (is_empty_text t)
  pub chars : (part_facts_of p).is_chars ≡ true
  pub child : (part_facts_of p).is_child ≡ false
  pub sound : is_sound_part p ≡ is_xml_text t

pub run_is : (t : List ℕ) → IsRun t (part.Chars t)
run_is t = subst (IsRun t) (rolls-Chars t) (record {
  regular = ap (λ x. x.regular) (rolled_part_facts (Chars t));
  chars = ap (λ x. x.is_chars) (rolled_part_facts (Chars t));
  child = ap (λ x. x.is_child) (rolled_part_facts (Chars t));
  sound = rolled_part_sound (Chars t);
})
