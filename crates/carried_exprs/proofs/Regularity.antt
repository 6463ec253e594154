-- An expression of the form that the grammar gives keeps it where it is carried.
use Rattle.std.proofs.Common.{◌≡◌, ℕ, List, [], ◌∷◌, length, map, refl, sym, ap, ◌∙◌, subst}
use Rattle.std.proofs.lemmas.Bool.{and_from}
use Rattle.std.specs.Prelude.{Bool, true, false, not, ◌&&◌, ◌||◌, ◌==◌, nat_le, codes, Option, Some, None}
use Rattle.xt_types.specs.declared.node_tests.Test.{Test}
use Rattle.xt_names.specs.declared.names.Name.{Name}
use Rattle.std.proofs.Common.{suc}
use Rattle.xt_names.specs.declared.names.ExprName.{ExprName}
use Rattle.xt_types.specs.Regular.{is_regular_test, is_regular_type}
use Rattle.xt_forms.specs.Regular.{regulars, every, every_regular, every_part_regular}
use Rattle.xt_forms.specs.Regular.{is_some_at_all, is_cast_type, is_cast_name, is_regular_kind}
use Rattle.xt_forms.specs.Regular.{chars_apart, are_regular_parts, has_no_child}
use Rattle.xt_forms.specs.Regular.{expr_facts_of, is_regular_arm, is_regular_clause, is_regular_bind}
use Rattle.xt_forms.specs.Regular.{is_regular_order, name_facts_of, is_regular_attr, part_facts_of}
use Rattle.xt_forms.specs.Regular.{is_regular_flwor, is_regular_expr}
use Rattle.xt_syntax.specs.declared.exprs.Expr.{Expr}
use Rattle.xt_syntax.specs.declared.exprs.Arm.{Arm}
use Rattle.xt_syntax.specs.declared.exprs.Clause.{Clause}
use Rattle.xt_syntax.specs.declared.exprs.Order.{Order}
use Rattle.xt_syntax.specs.declared.exprs.Flwor.{Flwor as FlworOf}
use Rattle.xt_syntax.specs.declared.exprs.Bind.{Bind}
use Rattle.xt_syntax.specs.declared.exprs.NameSource.{NameSource}
use Rattle.xt_syntax.specs.declared.exprs.DirectAttr.{DirectAttr}
use Rattle.xt_syntax.specs.declared.exprs.Part.{Part}
use Rattle.xt_syntax.specs.declared.exprs.Clause.TheOpen.{Expr-F, Arm-F, Clause-F, Order-F}
use Rattle.xt_syntax.specs.declared.exprs.Clause.TheOpen.{Flwor-F, Bind-F, NameSource-F, DirectAttr-F}
use Rattle.xt_syntax.specs.declared.exprs.Clause.TheOpen.{Part-F}
use Rattle.xt_syntax.specs.declared.exprs.Clause.TheOpen.{Int, Str, Var, Context, Root, Comma, Or}
use Rattle.xt_syntax.specs.declared.exprs.Clause.TheOpen.{And, If, Flwor, Quant, General, Value, Is}
use Rattle.xt_syntax.specs.declared.exprs.Clause.TheOpen.{Before, After, Range, Arith, Minus, Plus}
use Rattle.xt_syntax.specs.declared.exprs.Clause.TheOpen.{Union, Intersect, Except, InstanceOf}
use Rattle.xt_syntax.specs.declared.exprs.Clause.TheOpen.{Treat, Castable, Cast, Slash, Step}
use Rattle.xt_syntax.specs.declared.exprs.Clause.TheOpen.{Filter, Call, ElemC, AttrC, DocC, TextC}
use Rattle.xt_syntax.specs.declared.exprs.Clause.TheOpen.{CommentC, PiC, Direct, For, Let, Fixed}
use Rattle.xt_syntax.specs.declared.exprs.Clause.TheOpen.{Computed, Chars, Enclosed, Child}
use Rattle.xt_syntax.specs.declared.exprs.Clause.TheViews.{roll-Expr, roll-Arm, roll-Clause}
use Rattle.xt_syntax.specs.declared.exprs.Clause.TheViews.{roll-Order, roll-Flwor, roll-Bind}
use Rattle.xt_syntax.specs.declared.exprs.Clause.TheViews.{roll-NameSource, roll-DirectAttr, roll-Part}
use Rattle.xt_syntax.specs.declared.exprs.Clause.TheFolds.{ind-Expr}
use Rattle.xt_syntax.specs.declared.exprs.Clause.TheFolds.{map-Expr, map-Arm, map-Clause, map-Order}
use Rattle.xt_syntax.specs.declared.exprs.Clause.TheFolds.{map-Flwor, map-Bind, map-NameSource}
use Rattle.xt_syntax.specs.declared.exprs.Clause.TheFolds.{map-DirectAttr, map-Part}
use Rattle.xt_syntax.specs.Layers.{Kinds, ExprLayer, ClauseLayer, NameLayer, PartLayer, ArmLayer}
use Rattle.xt_syntax.specs.Layers.{BindLayer, AttrLayer, FlworLayer, OrderLayer}
use Rattle.xt_syntax.specs.Layers.{clause_gives, name_gives, part_gives, arm_gives}
use Rattle.xt_syntax.specs.Layers.{bind_gives, attr_gives, flwor_gives, order_gives}
use Rattle.function_table.specs.declared.builtins.Builtin.{Builtin}
use Rattle.function_table.specs.declared.builtins.Builtin.TheVariants as function
use Rattle.expr_meaning.specs.Calls.{Called, library, document, current, current_group, current_key}
use Rattle.expr_meaning.specs.Calls.{key, declared, called}
use Rattle.carried_exprs.specs.Forms.{ExprForm}
use Rattle.carried_exprs.specs.Sights.{Sight, named, focused, absent, Setting, the_item, nothing}
use Rattle.carried_exprs.specs.Sights.{item_or_nothing, library_call}
use Rattle.carried_exprs.specs.Sights.{variable_of}
use Rattle.carried_exprs.specs.Calls.{without_argument, string_of_item, current_seen}
use Rattle.carried_exprs.specs.Calls.{literal_of, key_of_name, called_seen}
use Rattle.carried_exprs.specs.Carried.{seen, seen_steps, carried, all_in}
use Rattle.carried_exprs.proofs.SeenRolled.{seen_expr_value, seen_expr_rolled, seen_arm_rolled}
use Rattle.carried_exprs.proofs.SeenRolled.{seen_bind_rolled, seen_order_rolled, seen_flwor_rolled}
use Rattle.carried_exprs.proofs.SeenRolled.{seen_clause_rolled, seen_name_rolled, seen_part_rolled}
use Rattle.carried_exprs.proofs.SeenRolled.{seen_attr_rolled, seen_flwor_value, seen_clause_value}
use Rattle.carried_exprs.proofs.SeenRolled.{seen_name_value, seen_part_value}
use Rattle.carried_exprs.specs.Sights.{HasLocalKeys, local_uri}
use Rattle.carried_exprs.proofs.RegularRolled.{regular_expr_value, regular_expr_rolled, regular_arm_rolled}
use Rattle.carried_exprs.proofs.RegularRolled.{regular_bind_rolled, regular_order_rolled, regular_flwor_rolled}
use Rattle.carried_exprs.proofs.RegularRolled.{regular_clause_rolled, regular_name_rolled, regular_part_rolled}
use Rattle.carried_exprs.proofs.RegularRolled.{regular_attr_rolled, regular_flwor_value, regular_clause_value}
use Rattle.carried_exprs.proofs.RegularRolled.{regular_name_value, regular_part_value}
use Rattle.xt_names.proofs.BoolLemmas.{and_first as first, and_second as second, is_false}
use Rattle.xt_names.specs.ExprNames.{library_name}

abbrev pub ExprFacts : Type 0
ExprFacts = regulars.Exprs

abbrev pub NameFacts : Type 0
NameFacts = regulars.Names

abbrev pub PartFacts : Type 0
PartFacts = regulars.Parts

-- what is kept of the facts of an expression
pub record FactsKept (a b : ExprFacts) : Type 0 where
  pub regular : a.regular ≡ true → b.regular ≡ true
  pub is_if : b.is_if ≡ a.is_if
  pub is_direct : b.is_direct ≡ a.is_direct

pub record PartKept (a b : PartFacts) : Type 0 where
  pub regular : a.regular ≡ true → b.regular ≡ true
  pub is_chars : b.is_chars ≡ a.is_chars
  pub is_child : b.is_child ≡ a.is_child

pub record NameKept (a b : NameFacts) : Type 0 where
  pub regular : a.regular ≡ true → b.regular ≡ true
  pub is_bare : b.is_bare ≡ a.is_bare

-- facts of an expression that is neither an `if` nor a direct element
abbrev IsOther : ExprFacts → Type 0
IsOther a = (a.is_if ≡ false) × (a.is_direct ≡ false)

other_kept : (a b : ExprFacts) → IsOther a → IsOther b → (a.regular ≡ true → b.regular ≡ true) →
    FactsKept a b
other_kept a b h g r = record { regular = r; is_if = g.0 ∙ sym h.0; is_direct = g.1 ∙ sym h.1 }

-- lists of parts
length_kept : {A X : Type 0} (f : A → X) (c : A → Sight → A) (s : Sight) (xs : List A) →
    length (map f (all_in s (map c xs))) ≡ length (map f xs)
length_kept f c s [] = refl
length_kept f c s (x ∷ xs) = λ i. suc (length_kept f c s xs i)

every_kept : {A : Type 0} (f : A → Bool) (c : A → Sight → A) (s : Sight)
    (ys : List ((x : A) × ((s : Sight) → f x ≡ true → f (c x s) ≡ true))) →
    every (map f (map (λ y. y.0) ys)) ≡ true →
    every (map f (all_in s (map c (map (λ y. y.0) ys)))) ≡ true
every_kept f c s [] h = refl
every_kept f c s (y ∷ ys) h =
    let t = f y.0 in let u = every (map f (map (λ z. z.0) ys)) in
    and_from (f (c y.0 s)) (every (map f (all_in s (map c (map (λ z. z.0) ys)))))
    (y.1 s (first t u h)) (every_kept f c s ys (second t u h))

-- names that the translation writes
library_no_cast : (local : List ℕ) → is_cast_name (library_name local) ≡ false
unfolding is_cast_name
library_no_cast local = refl

keys_no_cast : (name : ExprName) → name.uri ≡ local_uri → is_cast_name name ≡ false
unfolding is_cast_name
keys_no_cast name h = rw h refl

abbrev facts : Expr → ExprFacts
facts e = expr_facts_of e

abbrev pub all_regular : List Expr → Bool
all_regular es = every_regular (map expr_facts_of es)

variable_facts : (name : ExprName) → IsOther (facts (variable_of name)) × (is_regular_expr (variable_of name) ≡ true)
variable_facts name =
    let r = regular_expr_rolled (Var name) in
    ((ap (λ f. f.is_if) r, ap (λ f. f.is_direct) r), ap (λ f. f.regular) r)

abbrev IsPlain : Expr → Type 0
IsPlain e = IsOther (facts e) × (is_regular_expr e ≡ true)

context_plain : IsPlain (roll-Expr Context)
context_plain =
    let r = regular_expr_rolled Context in
    ((ap (λ f. f.is_if) r, ap (λ f. f.is_direct) r), ap (λ f. f.regular) r)

nothing_plain : IsPlain nothing
nothing_plain =
    let r = regular_expr_rolled (Comma []) in
    ((ap (λ f. f.is_if) r, ap (λ f. f.is_direct) r), ap (λ f. f.regular) r)

call_other : (name : ExprName) (es : List Expr) → IsOther (facts (roll-Expr (Call name es)))
call_other name es =
    let r = regular_expr_rolled (Call name es) in (ap (λ f. f.is_if) r, ap (λ f. f.is_direct) r)

call_plain : (name : ExprName) (es : List Expr) → is_cast_name name ≡ false → all_regular es ≡ true →
    IsPlain (roll-Expr (Call name es))
call_plain name es h g = (
  call_other name es,
  ap (λ f. f.regular) (regular_expr_rolled (Call name es))
      ∙ and_from (not (is_cast_name name)) (all_regular es) (ap not h) g,
)

item_plain : (s : Sight) → IsPlain (item_or_nothing s)
item_plain named = variable_facts _
item_plain focused = context_plain
item_plain absent = nothing_plain

one_plain : (local : List ℕ) (e : Expr) → IsPlain e → IsPlain (library_call local (e ∷ []))
one_plain local e h =
    call_plain (library_name local) (e ∷ []) (library_no_cast local)
    (and_from (is_regular_expr e) true h.1 refl)

string_plain : IsPlain string_of_item
string_plain = one_plain (codes "string") the_item (variable_facts _)

without_plain : (f : Builtin) (name : ExprName) → is_cast_name name ≡ false →
    IsPlain (without_argument f name)
without_plain function.Position name h = variable_facts _
without_plain function.Last name h = variable_facts _
without_plain function.StringLength name h = one_plain (codes "string-length") string_of_item string_plain
without_plain function.NormalizeSpace name h = one_plain (codes "normalize-space") string_of_item string_plain
without_plain function.String name h = string_plain
without_plain function.Name name h = one_plain (codes "name") the_item (variable_facts _)
without_plain function.LocalName name h = one_plain (codes "local-name") the_item (variable_facts _)
without_plain function.NamespaceUri name h = one_plain (codes "namespace-uri") the_item (variable_facts _)
without_plain function.Root name h = one_plain (codes "root") the_item (variable_facts _)
without_plain f name h = call_plain name [] h refl

without_other : (f : Builtin) (name : ExprName) → IsOther (facts (without_argument f name))
without_other function.Position name = (variable_facts _).0
without_other function.Last name = (variable_facts _).0
without_other function.StringLength name = call_other _ _
without_other function.NormalizeSpace name = call_other _ _
without_other function.String name = call_other _ _
without_other function.Name name = call_other _ _
without_other function.LocalName name = call_other _ _
without_other function.NamespaceUri name = call_other _ _
without_other function.Root name = call_other _ _
without_other f name = call_other _ _

module _ (w : Setting) (local : HasLocalKeys w) where
  key_name_plain : (s : Sight) (o : Option (List ℕ)) (value : Expr) → is_regular_expr value ≡ true →
      IsPlain (key_of_name w s o value)
  key_name_plain s None value h = item_plain s
  key_name_plain s (Some t) value h =
      call_plain (w.keys t) (item_or_nothing s ∷ value ∷ []) (keys_no_cast (w.keys t) (local t))
      (and_from (is_regular_expr (item_or_nothing s)) (is_regular_expr value && true) (item_plain s).1
      (and_from (is_regular_expr value) true h refl))

  key_name_other : (s : Sight) (o : Option (List ℕ)) (value : Expr) → IsOther (facts (key_of_name w s o value))
  key_name_other s None value = (item_plain s).0
  key_name_other s (Some t) value = call_other _ _

  current_plain : (b : Bool) → IsPlain (current_seen b)
  current_plain true = variable_facts _
  current_plain false = call_plain (library_name (codes "error")) [] (library_no_cast (codes "error")) refl

  called_other : (s : Sight) (d : Called) (name : ExprName) (es : List Expr) →
      IsOther (facts (called_seen w s d name es))
  called_other named (library f) name [] = without_other f name
  called_other named (library f) name (e ∷ es) = call_other _ _
  called_other focused (library f) name es = call_other _ _
  called_other absent (library f) name es = call_other _ _
  called_other s document name es = call_other _ _
  called_other s current name es = (current_plain w.has_current).0
  called_other s current_group name es = (variable_facts _).0
  called_other s current_key name es = (variable_facts _).0
  called_other s key name [] = (item_plain s).0
  called_other s key name (e ∷ []) = (item_plain s).0
  called_other s key name (e ∷ v ∷ es) = key_name_other s (literal_of e) v
  called_other s declared name es = call_other _ _

  called_plain : (s : Sight) (d : Called) (name : ExprName) (es : List Expr) →
      is_cast_name name ≡ false → all_regular es ≡ true → IsPlain (called_seen w s d name es)
  called_plain named (library f) name [] h g = without_plain f name h
  called_plain named (library f) name (e ∷ es) h g = call_plain name (e ∷ es) h g
  called_plain focused (library f) name es h g = call_plain name es h g
  called_plain absent (library f) name es h g = call_plain name es h g
  called_plain s document name es h g =
      call_plain (library_name (codes "doc")) es (library_no_cast (codes "doc")) g
  called_plain s current name es h g = current_plain w.has_current
  called_plain s current_group name es h g = variable_facts _
  called_plain s current_key name es h g = variable_facts _
  called_plain s key name [] h g = item_plain s
  called_plain s key name (e ∷ []) h g = item_plain s
  called_plain s key name (e ∷ v ∷ es) h g =
      key_name_plain s (literal_of e) v
      (first (is_regular_expr v) (all_regular es)
      (second (is_regular_expr e) (is_regular_expr v && all_regular es) g))
  called_plain s declared name es h g = call_plain name es h g

  abbrev ClauseIs : Clause → Type 0
  ClauseIs x = (s : Sight) → is_regular_clause x ≡ true → is_regular_clause (clause_gives seen (seen_steps w) x s) ≡ true

  abbrev ExprIs : Expr → Type 0
  ExprIs x = (s : Sight) → FactsKept (facts x) (facts (carried w x s))

  abbrev NameIs : NameSource → Type 0
  NameIs x = (s : Sight) → NameKept (name_facts_of x) (name_facts_of (name_gives seen (seen_steps w) x s))

  abbrev PartIs : Part → Type 0
  PartIs x = (s : Sight) → PartKept (part_facts_of x) (part_facts_of (part_gives seen (seen_steps w) x s))

  abbrev ArmIs : Arm → Type 0
  ArmIs x = (s : Sight) → is_regular_arm x ≡ true → is_regular_arm (arm_gives seen (seen_steps w) x s) ≡ true

  abbrev BindIs : Bind → Type 0
  BindIs x = (s : Sight) → is_regular_bind x ≡ true → is_regular_bind (bind_gives seen (seen_steps w) x s) ≡ true

  abbrev AttrIs : DirectAttr → Type 0
  AttrIs x = (s : Sight) → is_regular_attr x ≡ true → is_regular_attr (attr_gives seen (seen_steps w) x s) ≡ true

  abbrev FlworIs : FlworOf → Type 0
  FlworIs x = (s : Sight) → is_regular_flwor x ≡ true → is_regular_flwor (flwor_gives seen (seen_steps w) x s) ≡ true

  abbrev OrderIs : Order → Type 0
  OrderIs x = (s : Sight) → is_regular_order x ≡ true → is_regular_order (order_gives seen (seen_steps w) x s) ≡ true

  abbrev known : Kinds
  known = record {
    Clauses = (x : Clause) × ClauseIs x;
    Exprs = (x : Expr) × ExprIs x;
    Names = (x : NameSource) × NameIs x;
    Parts = (x : Part) × PartIs x;
    Arms = (x : Arm) × ArmIs x;
    Binds = (x : Bind) × BindIs x;
    Attrs = (x : DirectAttr) × AttrIs x;
    Flwors = (x : FlworOf) × FlworIs x;
    Orders = (x : Order) × OrderIs x;
  }

  abbrev plain_clause : ClauseLayer known → Clause-F Clause Expr NameSource Part Arm Bind DirectAttr FlworOf Order
  plain_clause = map-Clause known.Clauses known.Exprs known.Names known.Parts known.Arms known.Binds known.Attrs known.Flwors known.Orders
      Clause Expr NameSource Part Arm Bind DirectAttr FlworOf Order
      (λ y. y.0) (λ y. y.0) (λ y. y.0) (λ y. y.0) (λ y. y.0) (λ y. y.0) (λ y. y.0) (λ y. y.0) (λ y. y.0)

  abbrev plain_expr : ExprLayer known → Expr-F Clause Expr NameSource Part Arm Bind DirectAttr FlworOf Order
  plain_expr = map-Expr known.Clauses known.Exprs known.Names known.Parts known.Arms known.Binds known.Attrs known.Flwors known.Orders
      Clause Expr NameSource Part Arm Bind DirectAttr FlworOf Order
      (λ y. y.0) (λ y. y.0) (λ y. y.0) (λ y. y.0) (λ y. y.0) (λ y. y.0) (λ y. y.0) (λ y. y.0) (λ y. y.0)

  abbrev plain_name : NameLayer known → NameSource-F Clause Expr NameSource Part Arm Bind DirectAttr FlworOf Order
  plain_name = map-NameSource known.Clauses known.Exprs known.Names known.Parts known.Arms known.Binds known.Attrs known.Flwors known.Orders
      Clause Expr NameSource Part Arm Bind DirectAttr FlworOf Order
      (λ y. y.0) (λ y. y.0) (λ y. y.0) (λ y. y.0) (λ y. y.0) (λ y. y.0) (λ y. y.0) (λ y. y.0) (λ y. y.0)

  abbrev plain_part : PartLayer known → Part-F Clause Expr NameSource Part Arm Bind DirectAttr FlworOf Order
  plain_part = map-Part known.Clauses known.Exprs known.Names known.Parts known.Arms known.Binds known.Attrs known.Flwors known.Orders
      Clause Expr NameSource Part Arm Bind DirectAttr FlworOf Order
      (λ y. y.0) (λ y. y.0) (λ y. y.0) (λ y. y.0) (λ y. y.0) (λ y. y.0) (λ y. y.0) (λ y. y.0) (λ y. y.0)

  abbrev plain_arm : ArmLayer known → Arm-F Clause Expr NameSource Part Arm Bind DirectAttr FlworOf Order
  plain_arm = map-Arm known.Clauses known.Exprs known.Names known.Parts known.Arms known.Binds known.Attrs known.Flwors known.Orders
      Clause Expr NameSource Part Arm Bind DirectAttr FlworOf Order
      (λ y. y.0) (λ y. y.0) (λ y. y.0) (λ y. y.0) (λ y. y.0) (λ y. y.0) (λ y. y.0) (λ y. y.0) (λ y. y.0)

  abbrev plain_bind : BindLayer known → Bind-F Clause Expr NameSource Part Arm Bind DirectAttr FlworOf Order
  plain_bind = map-Bind known.Clauses known.Exprs known.Names known.Parts known.Arms known.Binds known.Attrs known.Flwors known.Orders
      Clause Expr NameSource Part Arm Bind DirectAttr FlworOf Order
      (λ y. y.0) (λ y. y.0) (λ y. y.0) (λ y. y.0) (λ y. y.0) (λ y. y.0) (λ y. y.0) (λ y. y.0) (λ y. y.0)

  abbrev plain_attr : AttrLayer known → DirectAttr-F Clause Expr NameSource Part Arm Bind DirectAttr FlworOf Order
  plain_attr = map-DirectAttr known.Clauses known.Exprs known.Names known.Parts known.Arms known.Binds known.Attrs known.Flwors known.Orders
      Clause Expr NameSource Part Arm Bind DirectAttr FlworOf Order
      (λ y. y.0) (λ y. y.0) (λ y. y.0) (λ y. y.0) (λ y. y.0) (λ y. y.0) (λ y. y.0) (λ y. y.0) (λ y. y.0)

  abbrev plain_flwor : FlworLayer known → Flwor-F Clause Expr NameSource Part Arm Bind DirectAttr FlworOf Order
  plain_flwor = map-Flwor known.Clauses known.Exprs known.Names known.Parts known.Arms known.Binds known.Attrs known.Flwors known.Orders
      Clause Expr NameSource Part Arm Bind DirectAttr FlworOf Order
      (λ y. y.0) (λ y. y.0) (λ y. y.0) (λ y. y.0) (λ y. y.0) (λ y. y.0) (λ y. y.0) (λ y. y.0) (λ y. y.0)

  abbrev plain_order : OrderLayer known → Order-F Clause Expr NameSource Part Arm Bind DirectAttr FlworOf Order
  plain_order = map-Order known.Clauses known.Exprs known.Names known.Parts known.Arms known.Binds known.Attrs known.Flwors known.Orders
      Clause Expr NameSource Part Arm Bind DirectAttr FlworOf Order
      (λ y. y.0) (λ y. y.0) (λ y. y.0) (λ y. y.0) (λ y. y.0) (λ y. y.0) (λ y. y.0) (λ y. y.0) (λ y. y.0)

  abbrev es_of : List known.Exprs → Sight → List Expr
  es_of ys s = all_in s (map (carried w) (map (λ y. y.0) ys))

  all_kept : (ys : List known.Exprs) (s : Sight) → all_regular (map (λ y. y.0) ys) ≡ true →
      all_regular (es_of ys s) ≡ true
  all_kept [] s h = refl
  all_kept (y ∷ ys) s h =
      let t = is_regular_expr y.0 in let u = all_regular (map (λ z. z.0) ys) in
      and_from (is_regular_expr (carried w y.0 s)) (all_regular (es_of ys s))
      ((y.1 s).regular (first t u h)) (all_kept ys s (second t u h))

  as_long : (ys : List known.Exprs) (s : Sight) →
      length (map expr_facts_of (es_of ys s)) ≡ length (map expr_facts_of (map (λ y. y.0) ys))
  as_long ys s = length_kept expr_facts_of (carried w) s (map (λ y. y.0) ys)

  abbrev ps_of : List known.Parts → Sight → List Part
  ps_of ys s = all_in s (map (part_gives seen (seen_steps w)) (map (λ y. y.0) ys))

  parts_kept : (ys : List known.Parts) (s : Sight) →
      every_part_regular (map part_facts_of (map (λ y. y.0) ys)) ≡ true →
      every_part_regular (map part_facts_of (ps_of ys s)) ≡ true
  parts_kept [] s h = refl
  parts_kept (y ∷ ys) s h =
      let t = (part_facts_of y.0).regular in
      let u = every_part_regular (map part_facts_of (map (λ z. z.0) ys)) in
      and_from (part_facts_of (part_gives seen (seen_steps w) y.0 s)).regular
      (every_part_regular (map part_facts_of (ps_of ys s)))
      ((y.1 s).regular (first t u h)) (parts_kept ys s (second t u h))

  apart_kept : (after : Bool) (ys : List known.Parts) (s : Sight) →
      chars_apart after (map part_facts_of (ps_of ys s))
      ≡ chars_apart after (map part_facts_of (map (λ y. y.0) ys))
  apart_kept after [] s = refl
  apart_kept after (y ∷ ys) s =
      ap (λ c. not (after && c) && chars_apart c (map part_facts_of (ps_of ys s))) (y.1 s).is_chars
      ∙ ap (λ r. not (after && (part_facts_of y.0).is_chars) && r)
      (apart_kept (part_facts_of y.0).is_chars ys s)

  no_child_kept : (ys : List known.Parts) (s : Sight) →
      has_no_child (map part_facts_of (ps_of ys s))
      ≡ has_no_child (map part_facts_of (map (λ y. y.0) ys))
  no_child_kept [] s = refl
  no_child_kept (y ∷ ys) s =
      ap (λ c. not c && has_no_child (map part_facts_of (ps_of ys s))) (y.1 s).is_child
      ∙ ap (λ r. not (part_facts_of y.0).is_child && r) (no_child_kept ys s)

  regular_parts_kept : (ys : List known.Parts) (s : Sight) →
      are_regular_parts (map part_facts_of (map (λ y. y.0) ys)) ≡ true →
      are_regular_parts (map part_facts_of (ps_of ys s)) ≡ true
  regular_parts_kept ys s h =
      let t = every_part_regular (map part_facts_of (map (λ y. y.0) ys)) in
      let u = chars_apart false (map part_facts_of (map (λ y. y.0) ys)) in
      and_from (every_part_regular (map part_facts_of (ps_of ys s)))
      (chars_apart false (map part_facts_of (ps_of ys s))) (parts_kept ys s (first t u h))
      (apart_kept false ys s ∙ second t u h)

  -- a form of the query whose facts are plain ones
  form_kept : (x : ExprForm) (a : ExprFacts) → IsOther a → IsOther (regular_expr_value x) →
      (a.regular ≡ true → (regular_expr_value x).regular ≡ true) → FactsKept a (facts (roll-Expr x))
  form_kept x a h g r =
      subst (FactsKept a) (sym (regular_expr_rolled x)) (other_kept a (regular_expr_value x) h g r)

  plain_kept : (e : Expr) (a : ExprFacts) → IsOther a → IsPlain e → FactsKept a (facts e)
  plain_kept e a h p = other_kept a (facts e) h p.0 (λ r. p.1)

  two_kept : (a b : known.Exprs) (s t : Sight) →
      (is_regular_expr a.0 && is_regular_expr b.0) ≡ true →
      (is_regular_expr (carried w a.0 s) && is_regular_expr (carried w b.0 t)) ≡ true
  two_kept a b s t h =
      let x = is_regular_expr a.0 in let y = is_regular_expr b.0 in
      and_from (is_regular_expr (carried w a.0 s)) (is_regular_expr (carried w b.0 t))
      ((a.1 s).regular (first x y h)) ((b.1 t).regular (second x y h))

  one_kept : (a : known.Exprs) (s : Sight) (more : Bool) → (is_regular_expr a.0 && more) ≡ true →
      (is_regular_expr (carried w a.0 s) && more) ≡ true
  one_kept a s more h =
      and_from (is_regular_expr (carried w a.0 s)) more
      ((a.1 s).regular (first (is_regular_expr a.0) more h)) (second (is_regular_expr a.0) more h)

  at_least_kept : (n : ℕ) (ys : List known.Exprs) (s : Sight) →
      (nat_le n (length (map expr_facts_of (map (λ y. y.0) ys))) && all_regular (map (λ y. y.0) ys)) ≡ true →
      (nat_le n (length (map expr_facts_of (es_of ys s))) && all_regular (es_of ys s)) ≡ true
  at_least_kept n ys s h =
      let t = nat_le n (length (map expr_facts_of (map (λ y. y.0) ys))) in
      let u = all_regular (map (λ y. y.0) ys) in
      and_from (nat_le n (length (map expr_facts_of (es_of ys s)))) (all_regular (es_of ys s))
      (ap (nat_le n) (as_long ys s) ∙ first t u h) (all_kept ys s (second t u h))

  first3 : (a b c : Bool) → (a && b && c) ≡ true → a ≡ true
  first3 true b c h = refl
  first3 false b c h = absurd cc

  second3 : (a b c : Bool) → (a && b && c) ≡ true → b ≡ true
  second3 true true c h = refl
  second3 true false c h = absurd cc
  second3 false b c h = absurd cc

  third3 : (a b c : Bool) → (a && b && c) ≡ true → c ≡ true
  third3 true true c h = h
  third3 true false c h = absurd cc
  third3 false b c h = absurd cc

  three_from : (a b c : Bool) → a ≡ true → b ≡ true → c ≡ true → (a && b && c) ≡ true
  three_from true true true h g i = refl
  three_from true true false h g i = absurd cc
  three_from true false c h g i = absurd cc
  three_from false b c h g i = absurd cc

  step_kept : (wanted : Test) (tests : List known.Exprs) →
      (is_regular_test wanted && all_regular (map (λ y. y.0) tests)) ≡ true →
      (is_regular_test wanted && all_regular (es_of tests focused)) ≡ true
  step_kept wanted tests h =
      let t = is_regular_test wanted in let u = all_regular (map (λ y. y.0) tests) in
      and_from (is_regular_test wanted) (all_regular (es_of tests focused)) (first t u h)
      (all_kept tests focused (second t u h))

  if_kept : (arms : List known.Arms) (b : known.Exprs) (s : Sight) →
      FactsKept (regular_expr_value (plain_expr (If arms b)))
      (facts (seen_expr_value w (plain_expr (If arms b)) s))
  if_kept arms b s =
      let old : List Arm = map (λ y. y.0) arms in
      let new : List Arm = all_in s (map (arm_gives seen (seen_steps w)) old) in
      let n = is_some_at_all (map is_regular_arm old) in let v = every (map is_regular_arm old) in
      let t = n && v in
      let u = is_regular_expr b.0 in let x = not (facts b.0).is_if in
      subst (FactsKept (regular_expr_value (plain_expr (If arms b))))
      (sym (regular_expr_rolled (If new (carried w b.0 s))))
      (record {
        regular = λ r. three_from (is_some_at_all (map is_regular_arm new) && every (map is_regular_arm new))
            (is_regular_expr (carried w b.0 s)) (not (facts (carried w b.0 s)).is_if)
            (and_from (is_some_at_all (map is_regular_arm new)) (every (map is_regular_arm new))
            (ap (λ m. not (m == 0)) (length_kept is_regular_arm (arm_gives seen (seen_steps w)) s old)
            ∙ first n v (first3 t u x r))
            (every_kept is_regular_arm (arm_gives seen (seen_steps w)) s arms (second n v (first3 t u x r))))
            ((b.1 s).regular (second3 t u x r)) (ap not (b.1 s).is_if ∙ third3 t u x r);
        is_if = refl;
        is_direct = refl;
      })

  direct_kept : (name : Name) (attrs : List known.Attrs) (parts : List known.Parts) (s : Sight) →
      FactsKept (regular_expr_value (plain_expr (Direct name attrs parts)))
      (facts (seen_expr_value w (plain_expr (Direct name attrs parts)) s))
  direct_kept name attrs parts s =
      let old : List DirectAttr = map (λ y. y.0) attrs in
      let new : List DirectAttr = all_in s (map (attr_gives seen (seen_steps w)) old) in
      let t = every (map is_regular_attr old) in
      let u = are_regular_parts (map part_facts_of (map (λ y. y.0) parts)) in
      subst (FactsKept (regular_expr_value (plain_expr (Direct name attrs parts))))
      (sym (regular_expr_rolled (Direct name new (ps_of parts s))))
      (record {
        regular = λ r. and_from (every (map is_regular_attr new))
            (are_regular_parts (map part_facts_of (ps_of parts s)))
            (every_kept is_regular_attr (attr_gives seen (seen_steps w)) s attrs (first t u r))
            (regular_parts_kept parts s (second t u r));
        is_if = refl;
        is_direct = refl;
      })

  form_is : (y : ExprLayer known) (s : Sight) →
      FactsKept (regular_expr_value (plain_expr y)) (facts (seen_expr_value w (plain_expr y) s))
  form_is (Int n) s = form_kept (Int n) _ (refl, refl) (refl, refl) (λ r. r)
  form_is (Str t) s = form_kept (Str t) _ (refl, refl) (refl, refl) (λ r. r)
  form_is (Var v) s = form_kept (Var v) _ (refl, refl) (refl, refl) (λ r. r)
  form_is Context named = plain_kept the_item _ (refl, refl) (variable_facts _)
  form_is Context focused = form_kept Context _ (refl, refl) (refl, refl) (λ r. r)
  form_is Context absent = form_kept Context _ (refl, refl) (refl, refl) (λ r. r)
  form_is Root named =
      form_kept (Slash the_item (roll-Expr Root)) _ (refl, refl) (refl, refl)
      (λ r. and_from (is_regular_expr the_item) (is_regular_expr (roll-Expr Root)) (variable_facts _).1
      (ap (λ f. f.regular) (regular_expr_rolled Root)))
  form_is Root focused = form_kept Root _ (refl, refl) (refl, refl) (λ r. r)
  form_is Root absent = form_kept Root _ (refl, refl) (refl, refl) (λ r. r)
  form_is (Comma all) s =
      let n = length (map expr_facts_of (map (λ y. y.0) all)) in
      let t = not (n == 1) in let u = all_regular (map (λ y. y.0) all) in
      form_kept (Comma (es_of all s)) _ (refl, refl) (refl, refl)
      (λ r. and_from (not (length (map expr_facts_of (es_of all s)) == 1)) (all_regular (es_of all s))
      (ap (λ m. not (m == 1)) (as_long all s) ∙ first t u r) (all_kept all s (second t u r)))
  form_is (Or all) s =
      form_kept (Or (es_of all s)) _ (refl, refl) (refl, refl) (at_least_kept 2 all s)
  form_is (And all) s =
      form_kept (And (es_of all s)) _ (refl, refl) (refl, refl) (at_least_kept 2 all s)
  form_is (If arms b) s = if_kept arms b s
  form_is (Flwor a) s =
      form_kept (Flwor (flwor_gives seen (seen_steps w) a.0 s)) _ (refl, refl) (refl, refl) (a.1 s)
  form_is (Quant every_one binds b) s =
      let n = is_some_at_all (map is_regular_bind (map (λ y. y.0) binds)) in
      let t = every (map is_regular_bind (map (λ y. y.0) binds)) in let u = is_regular_expr b.0 in
      let new : List Bind = all_in s (map (bind_gives seen (seen_steps w)) (map (λ y. y.0) binds)) in
      form_kept (Quant every_one new (carried w b.0 s)) _ (refl, refl) (refl, refl)
      (λ r. three_from (is_some_at_all (map is_regular_bind new)) (every (map is_regular_bind new))
      (is_regular_expr (carried w b.0 s))
      (ap (λ m. not (m == 0)) (length_kept is_regular_bind (bind_gives seen (seen_steps w)) s (map (λ y. y.0) binds))
      ∙ first3 n t u r)
      (every_kept is_regular_bind (bind_gives seen (seen_steps w)) s binds (second3 n t u r))
      ((b.1 s).regular (third3 n t u r)))
  form_is (General op a b) s =
      form_kept (General op (carried w a.0 s) (carried w b.0 s)) _ (refl, refl) (refl, refl) (two_kept a b s s)
  form_is (Value op a b) s =
      form_kept (Value op (carried w a.0 s) (carried w b.0 s)) _ (refl, refl) (refl, refl) (two_kept a b s s)
  form_is (Is a b) s =
      form_kept (Is (carried w a.0 s) (carried w b.0 s)) _ (refl, refl) (refl, refl) (two_kept a b s s)
  form_is (Before a b) s =
      form_kept (Before (carried w a.0 s) (carried w b.0 s)) _ (refl, refl) (refl, refl) (two_kept a b s s)
  form_is (After a b) s =
      form_kept (After (carried w a.0 s) (carried w b.0 s)) _ (refl, refl) (refl, refl) (two_kept a b s s)
  form_is (Range a b) s =
      form_kept (Range (carried w a.0 s) (carried w b.0 s)) _ (refl, refl) (refl, refl) (two_kept a b s s)
  form_is (Arith op a b) s =
      form_kept (Arith op (carried w a.0 s) (carried w b.0 s)) _ (refl, refl) (refl, refl) (two_kept a b s s)
  form_is (Union a b) s =
      form_kept (Union (carried w a.0 s) (carried w b.0 s)) _ (refl, refl) (refl, refl) (two_kept a b s s)
  form_is (Intersect a b) s =
      form_kept (Intersect (carried w a.0 s) (carried w b.0 s)) _ (refl, refl) (refl, refl) (two_kept a b s s)
  form_is (Except a b) s =
      form_kept (Except (carried w a.0 s) (carried w b.0 s)) _ (refl, refl) (refl, refl) (two_kept a b s s)
  form_is (Minus a) s = form_kept (Minus (carried w a.0 s)) _ (refl, refl) (refl, refl) (a.1 s).regular
  form_is (Plus a) s = form_kept (Plus (carried w a.0 s)) _ (refl, refl) (refl, refl) (a.1 s).regular
  form_is (DocC a) s = form_kept (DocC (carried w a.0 s)) _ (refl, refl) (refl, refl) (a.1 s).regular
  form_is (TextC a) s = form_kept (TextC (carried w a.0 s)) _ (refl, refl) (refl, refl) (a.1 s).regular
  form_is (CommentC a) s = form_kept (CommentC (carried w a.0 s)) _ (refl, refl) (refl, refl) (a.1 s).regular
  form_is (InstanceOf a kind) s =
      form_kept (InstanceOf (carried w a.0 s) kind) _ (refl, refl) (refl, refl) (one_kept a s (is_regular_type kind))
  form_is (Treat a kind) s =
      form_kept (Treat (carried w a.0 s) kind) _ (refl, refl) (refl, refl) (one_kept a s (is_regular_type kind))
  form_is (Castable a kind empty) s =
      form_kept (Castable (carried w a.0 s) kind empty) _ (refl, refl) (refl, refl) (one_kept a s (is_cast_type kind))
  form_is (Cast a kind empty) s =
      form_kept (Cast (carried w a.0 s) kind empty) _ (refl, refl) (refl, refl) (one_kept a s (is_cast_type kind))
  form_is (Slash a b) s =
      form_kept (Slash (carried w a.0 s) (carried w b.0 focused)) _ (refl, refl) (refl, refl) (two_kept a b s focused)
  form_is (Step axis wanted tests) named =
      let step : ExprForm = Step axis wanted (es_of tests focused) in
      form_kept (Slash the_item (roll-Expr step)) _ (refl, refl) (refl, refl)
      (λ r. and_from (is_regular_expr the_item) (is_regular_expr (roll-Expr step)) (variable_facts _).1
      (ap (λ f. f.regular) (regular_expr_rolled step) ∙ step_kept wanted tests r))
  form_is (Step axis wanted tests) focused =
      form_kept (Step axis wanted (es_of tests focused)) _ (refl, refl) (refl, refl) (step_kept wanted tests)
  form_is (Step axis wanted tests) absent =
      form_kept (Step axis wanted (es_of tests focused)) _ (refl, refl) (refl, refl) (step_kept wanted tests)
  form_is (Filter a tests) s =
      let n = is_regular_expr a.0 in let t = is_some_at_all (map expr_facts_of (map (λ y. y.0) tests)) in
      let u = all_regular (map (λ y. y.0) tests) in
      form_kept (Filter (carried w a.0 s) (es_of tests focused)) _ (refl, refl) (refl, refl)
      (λ r. three_from (is_regular_expr (carried w a.0 s)) (is_some_at_all (map expr_facts_of (es_of tests focused)))
      (all_regular (es_of tests focused)) ((a.1 s).regular (first3 n t u r))
      (ap (λ m. not (m == 0)) (as_long tests focused) ∙ second3 n t u r)
      (all_kept tests focused (third3 n t u r)))
  form_is (Call name args) s =
      let t = not (is_cast_name name) in let u = all_regular (map (λ y. y.0) args) in
      let d = called name (length (es_of args s)) in
      other_kept _ (facts (called_seen w s d name (es_of args s))) (refl, refl)
      (called_other s d name (es_of args s))
      (λ r. (called_plain s d name (es_of args s) (is_false (is_cast_name name) (first t u r))
      (all_kept args s (second t u r))).1)
  form_is (ElemC a b) s =
      let t = (name_facts_of a.0).regular in let u = is_regular_expr b.0 in
      form_kept (ElemC (name_gives seen (seen_steps w) a.0 s) (carried w b.0 s)) _ (refl, refl) (refl, refl)
      (λ r. and_from (name_facts_of (name_gives seen (seen_steps w) a.0 s)).regular (is_regular_expr (carried w b.0 s))
      ((a.1 s).regular (first t u r)) ((b.1 s).regular (second t u r)))
  form_is (AttrC a b) s =
      let t = (name_facts_of a.0).regular in let u = is_regular_expr b.0 in
      form_kept (AttrC (name_gives seen (seen_steps w) a.0 s) (carried w b.0 s)) _ (refl, refl) (refl, refl)
      (λ r. and_from (name_facts_of (name_gives seen (seen_steps w) a.0 s)).regular (is_regular_expr (carried w b.0 s))
      ((a.1 s).regular (first t u r)) ((b.1 s).regular (second t u r)))
  form_is (PiC a b) s =
      let n = (name_facts_of a.0).regular in let t = (name_facts_of a.0).is_bare in
      let u = is_regular_expr b.0 in
      form_kept (PiC (name_gives seen (seen_steps w) a.0 s) (carried w b.0 s)) _ (refl, refl) (refl, refl)
      (λ r. three_from (name_facts_of (name_gives seen (seen_steps w) a.0 s)).regular
      (name_facts_of (name_gives seen (seen_steps w) a.0 s)).is_bare (is_regular_expr (carried w b.0 s))
      ((a.1 s).regular (first3 n t u r)) ((a.1 s).is_bare ∙ second3 n t u r)
      ((b.1 s).regular (third3 n t u r)))
  form_is (Direct name attrs parts) s = direct_kept name attrs parts s

  expr_step : (x : Expr-F Clause Expr NameSource Part Arm Bind DirectAttr FlworOf Order) (y : ExprLayer known) → plain_expr y ≡ x → ExprIs (roll-Expr x)
  expr_step x y is s =
      rw (← is, seen_expr_rolled w (plain_expr y), regular_expr_rolled (plain_expr y)) (form_is y s)

  arm_step : (x : Arm-F Clause Expr NameSource Part Arm Bind DirectAttr FlworOf Order) (y : ArmLayer known) → plain_arm y ≡ x → ArmIs (roll-Arm x)
  arm_step x y is s h =
      let new : Arm-F Clause Expr NameSource Part Arm Bind DirectAttr FlworOf Order = record { test = carried w y.test.0 s; then = carried w y.then.0 s } in
      let r = sym (regular_arm_rolled (plain_arm y)) ∙ ap (λ z. is_regular_arm (roll-Arm z)) is ∙ h in
      rw (← is, seen_arm_rolled w (plain_arm y), regular_arm_rolled new) (two_kept y.test y.then s s r)

  bind_step : (x : Bind-F Clause Expr NameSource Part Arm Bind DirectAttr FlworOf Order) (y : BindLayer known) → plain_bind y ≡ x → BindIs (roll-Bind x)
  bind_step x y is s h =
      let new : Bind-F Clause Expr NameSource Part Arm Bind DirectAttr FlworOf Order = record { var = y.var; kind = y.kind; source = carried w y.source.0 s } in
      let t = is_regular_kind y.kind in let u = is_regular_expr y.source.0 in
      let r : (t && u) ≡ true =
      sym (regular_bind_rolled (plain_bind y)) ∙ ap (λ z. is_regular_bind (roll-Bind z)) is ∙ h in
      rw (← is, seen_bind_rolled w (plain_bind y), regular_bind_rolled new)
      (and_from (is_regular_kind y.kind) (is_regular_expr (carried w y.source.0 s)) (first t u r)
      ((y.source.1 s).regular (second t u r)))

  order_step : (x : Order-F Clause Expr NameSource Part Arm Bind DirectAttr FlworOf Order) (y : OrderLayer known) → plain_order y ≡ x → OrderIs (roll-Order x)
  order_step x y is s h =
      let new : Order-F Clause Expr NameSource Part Arm Bind DirectAttr FlworOf Order = record { key = carried w y.key.0 s; descending = y.descending } in
      let r : is_regular_expr y.key.0 ≡ true =
      sym (regular_order_rolled (plain_order y)) ∙ ap (λ z. is_regular_order (roll-Order z)) is ∙ h in
      rw (← is, seen_order_rolled w (plain_order y), regular_order_rolled new) ((y.key.1 s).regular r)

  attr_step : (x : DirectAttr-F Clause Expr NameSource Part Arm Bind DirectAttr FlworOf Order) (y : AttrLayer known) → plain_attr y ≡ x → AttrIs (roll-DirectAttr x)
  attr_step x y is s h =
      let new : DirectAttr-F Clause Expr NameSource Part Arm Bind DirectAttr FlworOf Order = record { name = y.name; parts = ps_of y.parts s } in
      let t = are_regular_parts (map part_facts_of (map (λ z. z.0) y.parts)) in
      let u = has_no_child (map part_facts_of (map (λ z. z.0) y.parts)) in
      let r : (t && u) ≡ true =
      sym (regular_attr_rolled (plain_attr y)) ∙ ap (λ z. is_regular_attr (roll-DirectAttr z)) is ∙ h in
      rw (← is, seen_attr_rolled w (plain_attr y), regular_attr_rolled new)
      (and_from (are_regular_parts (map part_facts_of (ps_of y.parts s)))
      (has_no_child (map part_facts_of (ps_of y.parts s))) (regular_parts_kept y.parts s (first t u r))
      (no_child_kept y.parts s ∙ second t u r))

  clause_is : (y : ClauseLayer known) (s : Sight) → regular_clause_value (plain_clause y) ≡ true →
      is_regular_clause (seen_clause_value w (plain_clause y) s) ≡ true
  clause_is (For b place) s h =
      regular_clause_rolled (For (bind_gives seen (seen_steps w) b.0 s) place) ∙ b.1 s h
  clause_is (Let b) s h =
      regular_clause_rolled (Let (bind_gives seen (seen_steps w) b.0 s)) ∙ b.1 s h

  clause_step : (x : Clause-F Clause Expr NameSource Part Arm Bind DirectAttr FlworOf Order) (y : ClauseLayer known) → plain_clause y ≡ x → ClauseIs (roll-Clause x)
  clause_step x y is s h =
      let r = sym (regular_clause_rolled (plain_clause y)) ∙ ap (λ z. is_regular_clause (roll-Clause z)) is ∙ h in
      rw (← is, seen_clause_rolled w (plain_clause y)) (clause_is y s r)

  name_is : (y : NameLayer known) (s : Sight) →
      NameKept (regular_name_value (plain_name y)) (name_facts_of (seen_name_value w (plain_name y) s))
  name_is (Fixed n) s =
      let r = regular_name_rolled (Fixed n) in
      record { regular = λ h. ap (λ f. f.regular) r ∙ h; is_bare = ap (λ f. f.is_bare) r }
  name_is (Computed e) s =
      let r = regular_name_rolled (Computed (carried w e.0 s)) in
      record { regular = λ h. ap (λ f. f.regular) r ∙ (e.1 s).regular h; is_bare = ap (λ f. f.is_bare) r }

  name_step : (x : NameSource-F Clause Expr NameSource Part Arm Bind DirectAttr FlworOf Order) (y : NameLayer known) → plain_name y ≡ x → NameIs (roll-NameSource x)
  name_step x y is s =
      rw (← is, seen_name_rolled w (plain_name y), regular_name_rolled (plain_name y)) (name_is y s)

  part_is : (y : PartLayer known) (s : Sight) →
      PartKept (regular_part_value (plain_part y)) (part_facts_of (seen_part_value w (plain_part y) s))
  part_is (Chars t) s =
      let r = regular_part_rolled (Chars t) in record {
        regular = λ h. ap (λ f. f.regular) r ∙ h;
        is_chars = ap (λ f. f.is_chars) r;
        is_child = ap (λ f. f.is_child) r;
      }
  part_is (Enclosed e) s =
      let r = regular_part_rolled (Enclosed (carried w e.0 s)) in record {
        regular = λ h. ap (λ f. f.regular) r ∙ (e.1 s).regular h;
        is_chars = ap (λ f. f.is_chars) r;
        is_child = ap (λ f. f.is_child) r;
      }
  part_is (Child e) s =
      let r = regular_part_rolled (Child (carried w e.0 s)) in
      let t = is_regular_expr e.0 in let u = (facts e.0).is_direct in record {
        regular = λ h. ap (λ f. f.regular) r
            ∙ and_from (is_regular_expr (carried w e.0 s)) (facts (carried w e.0 s)).is_direct
            ((e.1 s).regular (first t u h)) ((e.1 s).is_direct ∙ second t u h);
        is_chars = ap (λ f. f.is_chars) r;
        is_child = ap (λ f. f.is_child) r;
      }

  part_step : (x : Part-F Clause Expr NameSource Part Arm Bind DirectAttr FlworOf Order) (y : PartLayer known) → plain_part y ≡ x → PartIs (roll-Part x)
  part_step x y is s =
      rw (← is, seen_part_rolled w (plain_part y), regular_part_rolled (plain_part y)) (part_is y s)

  abbrev a_flwor : List known.Clauses → Option known.Exprs → List known.Orders → Bool →
      known.Exprs → FlworLayer known
  a_flwor clauses tested orders stable body = record {
    clauses = clauses;
    test = tested;
    orders = orders;
    stable = stable;
    body = body;
  }

  abbrev cs_of : List known.Clauses → Sight → List Clause
  cs_of ys s = all_in s (map (clause_gives seen (seen_steps w)) (map (λ y. y.0) ys))

  abbrev os_of : List known.Orders → Sight → List Order
  os_of ys s = all_in s (map (order_gives seen (seen_steps w)) (map (λ y. y.0) ys))

  abbrev new_flwor : List known.Clauses → Option Expr → List known.Orders → Bool → known.Exprs →
      Sight → Flwor-F Clause Expr NameSource Part Arm Bind DirectAttr FlworOf Order
  new_flwor clauses tested orders stable body s = record {
    clauses = cs_of clauses s;
    test = tested;
    orders = os_of orders s;
    stable = stable;
    body = carried w body.0 s;
  }

  six : (a b c d e f : Bool) → (a && b && c && d && e && f) ≡ true →
      (a ≡ true) × (b ≡ true) × (c ≡ true) × (d ≡ true) × (e ≡ true) × (f ≡ true)
  six true true true true true true h = (refl, refl, refl, refl, refl, refl)
  six false b c d e f h = absurd cc
  six true false c d e f h = absurd cc
  six true true false d e f h = absurd cc
  six true true true false e f h = absurd cc
  six true true true true false f h = absurd cc
  six true true true true true false h = absurd cc

  flwor_is : (clauses : List known.Clauses) (tested : Option known.Exprs)
      (orders : List known.Orders) (stable : Bool) (body : known.Exprs) (s : Sight) →
      regular_flwor_value (plain_flwor (a_flwor clauses tested orders stable body)) ≡ true →
      is_regular_flwor (seen_flwor_value w (plain_flwor (a_flwor clauses tested orders stable body)) s) ≡ true
  flwor_is clauses None orders stable body s h =
      let p = six _ _ true _ _ _ h in
      regular_flwor_rolled (new_flwor clauses None orders stable body s)
      ∙ rw (
        ap (λ m. not (m == 0)) (length_kept is_regular_clause (clause_gives seen (seen_steps w)) s
            (map (λ y. y.0) clauses)) ∙ p.0,
        every_kept is_regular_clause (clause_gives seen (seen_steps w)) s clauses p.1,
        ap (λ m. not (m == 0) || not stable) (length_kept is_regular_order (order_gives seen (seen_steps w)) s
            (map (λ y. y.0) orders)) ∙ p.3,
        every_kept is_regular_order (order_gives seen (seen_steps w)) s orders p.4,
        (body.1 s).regular p.5,
      ) refl
  flwor_is clauses (Some t) orders stable body s h =
      let p = six _ _ (is_regular_expr t.0) _ _ _ h in
      regular_flwor_rolled (new_flwor clauses (Some (carried w t.0 s)) orders stable body s)
      ∙ rw (
        ap (λ m. not (m == 0)) (length_kept is_regular_clause (clause_gives seen (seen_steps w)) s
            (map (λ y. y.0) clauses)) ∙ p.0,
        every_kept is_regular_clause (clause_gives seen (seen_steps w)) s clauses p.1,
        (t.1 s).regular p.2,
        ap (λ m. not (m == 0) || not stable) (length_kept is_regular_order (order_gives seen (seen_steps w)) s
            (map (λ y. y.0) orders)) ∙ p.3,
        every_kept is_regular_order (order_gives seen (seen_steps w)) s orders p.4,
        (body.1 s).regular p.5,
      ) refl

  flwor_step : (x : Flwor-F Clause Expr NameSource Part Arm Bind DirectAttr FlworOf Order) (y : FlworLayer known) → plain_flwor y ≡ x → FlworIs (roll-Flwor x)
  flwor_step x y is s h =
      let r = sym (regular_flwor_rolled (plain_flwor y)) ∙ ap (λ z. is_regular_flwor (roll-Flwor z)) is ∙ h in
      rw (← is, seen_flwor_rolled w (plain_flwor y))
      (flwor_is y.clauses y.test y.orders y.stable y.body s r)

  pub regular_carried : (e : Expr) → ExprIs e
  regular_carried = ind-Expr ClauseIs ExprIs NameIs PartIs ArmIs BindIs AttrIs FlworIs OrderIs
      clause_step expr_step name_step part_step arm_step bind_step attr_step flwor_step order_step
