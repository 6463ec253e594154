-- What the productions of operators, types, lists and bindings mean.
use Rattle.std.proofs.Common.{◌≡◌, List, [], ◌∷◌, ◌++◌, Bool, true, false, cond, ◌||◌}
use Rattle.std.proofs.Common.{Option, Some, None, refl}
use Rattle.std.specs.List.{list_any}
use Rattle.xt_names.specs.declared.codes.Code.{Code}
use Rattle.xt_names.specs.declared.kinds.AtomType.{AtomType}
use Rattle.xt_names.specs.declared.names.Binding.{Binding}
use Rattle.xt_names.specs.declared.names.ExprName.{ExprName}
use Rattle.xt_types.specs.Regular.{is_regular_type, is_regular_item}
use Rattle.xt_types.specs.declared.types.Count.{Count}
use Rattle.xt_types.specs.declared.types.SeqType.{SeqType}
use Rattle.xt_types.specs.declared.types.SeqType.TheVariants as sequence
use Rattle.xt_forms.specs.Regular.{is_regular_kind, is_cast_type}
use Rattle.xt_syntax.specs.declared.exprs.Expr.{Expr}
use Rattle.xt_syntax.specs.declared.exprs.Clause.{Clause}
use Rattle.closed_queries.specs.Texts.{is_sound_expr_name, is_sound_type, is_sound_item}
use Rattle.closed_queries.specs.Texts.{is_sound_kind}
use Rattle.closed_queries.specs.ExprTexts.{is_sound_place}
use Rattle.expr_names.specs.Names.{undeclared_in}
use Rattle.expr_names.specs.Types.{type_named}
use Rattle.expr_keys.specs.Tokens.{fits_name}
use Rattle.expr_keys.specs.declared.keys.Key.{Key}
use Rattle.expr_keys.specs.declared.keys.Key.TheVariants as key
use Rattle.expr_keys.specs.declared.productions.Level.{Level}
use Rattle.expr_keys.specs.declared.productions.Level.TheVariants as level
use Rattle.expr_keys.specs.declared.tokens.Token.{Token}
use Rattle.expr_rules.specs.declared.expr_meant.meant.Meant.{Meant}
use Rattle.expr_rules.specs.declared.expr_meant.meant.Meant.TheVariants as meant
use Rattle.expr_rules.specs.ExprMeant.Names.{written_in, written_of}
use Rattle.expr_rules.specs.Known.{name_of, type_of}
use Rattle.expr_rules.specs.Rules.{is_place_of, cast_broken_of}
use Rattle.expr_control.specs.Operators.{compared, combined, operated_by, of_type, of_single, joined}
use Rattle.expr_control.specs.Operators.{chain_from, signed_by}
use Rattle.expr_control.specs.Types.{item_of, sequence_of}
use Rattle.sound_expressions.specs.SoundForms.Sound.{is_sound_token, SoundBindings}
use Rattle.sound_expressions.proofs.SoundForms.NameLemmas.{expr_name_good, no_uri, name_written, cast_good}
use Rattle.sound_expressions.proofs.SoundForms.FormLemmas.{Fine, Form, form_general, form_value, form_is}
use Rattle.sound_expressions.proofs.SoundForms.FormLemmas.{form_before, form_after, form_range, form_arith}
use Rattle.sound_expressions.proofs.SoundForms.FormLemmas.{form_union, form_intersect, form_except, form_minus}
use Rattle.sound_expressions.proofs.SoundForms.FormLemmas.{form_plus, form_instance, form_treat, form_castable}
use Rattle.sound_expressions.proofs.SoundForms.FormLemmas.{form_cast, FineBind, AllClauses}
use Rattle.sound_expressions.proofs.ExprRegular.Claims.{GoodType, IsItem, item_token, item_kind, item_any}
use Rattle.sound_expressions.proofs.ExprRegular.Claims.{IsType, type_sequence, type_item, IsTail, tail_operand}
use Rattle.sound_expressions.proofs.ExprRegular.Claims.{tail_type, tail_single}
use Rattle.sound_expressions.proofs.ExprRegular.Lists.{All}
use Rattle.xt_names.proofs.ListLemmas.{back_nil}
use Rattle.xt_names.specs.ExprNames.{same_name}

-- types
pub empty_good : GoodType sequence.Empty
unfolding is_regular_type is_sound_type
empty_good = record { regular = refl; sound = refl }

pub item_good : (bound : List Binding) (m : Meant) (c : Count) → IsItem m
    → GoodType (sequence.Of (item_of bound m) c)
unfolding is_regular_type is_sound_type is_regular_item is_sound_item item_of
item_good bound _ c item_token = record { regular = refl; sound = refl }
item_good bound _ c (item_kind g) =
    record { regular = rw (g.kind, g.regular) refl; sound = g.sound }
item_good bound _ c item_any = record { regular = refl; sound = refl }

item_sequence : (bound : List Binding) (m : Meant) → IsItem m → GoodType (sequence_of bound m)
unfolding sequence_of
item_sequence bound _ (item_token {t = t}) = item_good bound (meant.Token t) _ item_token
item_sequence bound _ (item_kind {t = t} g) = item_good bound (meant.Kind t) _ (item_kind g)
item_sequence bound _ item_any = item_good bound meant.AnyItem _ item_any

pub sequence_good : (bound : List Binding) (m : Meant) → IsType m → GoodType (sequence_of bound m)
unfolding sequence_of
sequence_good bound _ (type_sequence g) = g
sequence_good bound m (type_item i) = item_sequence bound m i

pub kind_regular : (k : SeqType) → GoodType k → is_regular_kind (Some k) ≡ true
unfolding is_regular_kind
kind_regular k g = g.regular

pub kind_sound : (k : SeqType) → GoodType k → is_sound_kind (Some k) ≡ true
unfolding is_sound_kind
kind_sound k g = g.sound

pub no_kind : (is_regular_kind None ≡ true) × (is_sound_kind None ≡ true)
unfolding is_regular_kind is_sound_kind
no_kind = (refl, refl)

pub single_good : (bound : List Binding) (t : Token) → cast_broken_of bound (meant.Token t) ≡ []
    → is_cast_type (type_of bound (meant.Token t)) ≡ true
unfolding cast_broken_of
single_good bound t e = cast_good (type_named (name_of bound [] (meant.Token t)))
    (back_nil (undeclared_in bound (written_of (meant.Token t))) _ e)

-- operators
pub compared_form : (k : Key) (a b : Expr) → Fine a → Fine b → Form (compared k a b)
unfolding compared
compared_form key.Equal a b f g = form_general _ a b f g
compared_form key.NotEqual a b f g = form_general _ a b f g
compared_form key.Less a b f g = form_general _ a b f g
compared_form key.LessEqual a b f g = form_general _ a b f g
compared_form key.Greater a b f g = form_general _ a b f g
compared_form key.GreaterEqual a b f g = form_general _ a b f g
compared_form key.EqWord a b f g = form_value _ a b f g
compared_form key.NeWord a b f g = form_value _ a b f g
compared_form key.LtWord a b f g = form_value _ a b f g
compared_form key.LeWord a b f g = form_value _ a b f g
compared_form key.GtWord a b f g = form_value _ a b f g
compared_form key.GeWord a b f g = form_value _ a b f g
compared_form key.Before a b f g = form_before a b f g
compared_form key.After a b f g = form_after a b f g
compared_form _ a b f g = form_is a b f g

combined_form : (k : Key) (a b : Expr) → Fine a → Fine b → Form (combined k a b)
unfolding combined
combined_form key.Plus a b f g = form_arith _ a b f g
combined_form key.Minus a b f g = form_arith _ a b f g
combined_form key.Star a b f g = form_arith _ a b f g
combined_form key.IdivWord a b f g = form_arith _ a b f g
combined_form key.ModWord a b f g = form_arith _ a b f g
combined_form key.IntersectWord a b f g = form_intersect a b f g
combined_form key.ExceptWord a b f g = form_except a b f g
combined_form key.ToWord a b f g = form_range a b f g
combined_form _ a b f g = form_union a b f g

operated_form : (l : Level) (k : Key) (a b : Expr) → Fine a → Fine b → Form (operated_by l k a b)
unfolding operated_by
operated_form level.Comparison k a b f g = compared_form k a b f g
operated_form _ k a b f g = combined_form k a b f g

typed_form : (l : Level) (a : Expr) (k : SeqType) → Fine a → GoodType k → Form (of_type l a k)
unfolding of_type
typed_form level.Treat a k f g = form_treat a k f g.regular g.sound
typed_form _ a k f g = form_instance a k f g.regular g.sound

single_form : (l : Level) (a : Expr) (k : AtomType) (b : Bool) → Fine a → is_cast_type k ≡ true
    → Form (of_single l a k b)
unfolding of_single
single_form level.Cast a k b f c = form_cast a k b f c
single_form _ a k b f c = form_castable a k b f c

pub joined_form : (l : Level) (a : Expr) (m : Meant) → Fine a → IsTail m → Form (joined l a m)
unfolding joined
joined_form l a _ f (tail_operand {k = k} {e = b} g) = operated_form l k a b f g
joined_form l a _ f (tail_type {k = k} g) = typed_form l a k f g
joined_form l a _ f (tail_single {k = k} {b = b} c) = single_form l a k b f c

pub chain_form : (l : Level) (a : Expr) (ms : List Meant) → Form a → All IsTail ms
    → Form (chain_from l a ms)
chain_form l a [] f g = f
chain_form l a (m ∷ ms) f g = chain_form l (joined l a m) ms (joined_form l a m f.fine g.0) g.1

pub signed_form : (k : Key) (a : Expr) → Fine a → Form (signed_by k a)
unfolding signed_by
signed_form key.Minus a f = form_minus a f
signed_form _ a f = form_plus a f

-- bindings
pub name_good : (bound : List Binding) (t : Token) → SoundBindings bound → fits_name t ≡ true
    → is_sound_token t ≡ true → is_sound_expr_name (name_of bound [] (meant.Token t)) ≡ true
unfolding written_of
name_good bound t u f s =
    expr_name_good bound [] (written_in t) u no_uri (name_written t f s)

pub bind_good : (v : ExprName) (k : Option SeqType) (e : Expr) → is_sound_expr_name v ≡ true
    → is_regular_kind k ≡ true → is_sound_kind k ≡ true → Fine e
    → FineBind (record { var = v; kind = k; source = e })
bind_good v k e n r s f = record { kind = r; sound_kind = s; name = n; source = f }

pub no_place : (v : ExprName) → is_sound_place v None ≡ true
unfolding is_sound_place
no_place v = refl

other_place : (a : Bool) (c : Code) → cond (a || false) (c ∷ []) [] ≡ [] → a ≡ false
other_place true c e = absurd cc
other_place false c e = refl

pub place_good : (v p : ExprName) (e : Expr) (c : Code) → is_sound_expr_name p ≡ true
    → cond (list_any (is_place_of v) (meant.Place p ∷ meant.Expr e ∷ [])) (c ∷ []) [] ≡ []
    → is_sound_place v (Some p) ≡ true
unfolding is_sound_place is_place_of
place_good v p e c n h = rw (n, other_place (same_name v p) c h) refl

pub typed_place_good : (v p : ExprName) (k : SeqType) (e : Expr) (c : Code)
    → is_sound_expr_name p ≡ true → cond (list_any (is_place_of v)
    (meant.Sequence k ∷ meant.Place p ∷ meant.Expr e ∷ [])) (c ∷ []) [] ≡ []
    → is_sound_place v (Some p) ≡ true
unfolding is_sound_place is_place_of
typed_place_good v p k e c n h = rw (n, other_place (same_name v p) c h) refl

pub clauses_append : (cs ds : List Clause) → AllClauses cs → AllClauses ds
    → AllClauses (cs ++ ds)
clauses_append [] ds f g = g
clauses_append (c ∷ cs) ds f g = (f.0, clauses_append cs ds f.1 g)
