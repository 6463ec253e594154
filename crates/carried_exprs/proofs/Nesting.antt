-- An expression nests at most two levels more where it is carried, and none more after a focus of its
-- own.
use Rattle.std.proofs.Common.{◌≡◌, ◌+◌, ◌≤◌, ℕ, max, List, [], ◌∷◌, length, map, sym, subst, arith}
use Rattle.std.specs.Prelude.{Bool, true, false, codes, Option, Some, None}
use Rattle.xt_names.specs.declared.names.ExprName.{ExprName}
use Rattle.xt_forms.specs.Nest.{nest_of, arm_nest_of, clause_nest_of}
use Rattle.xt_forms.specs.Nest.{bind_nest_of, order_nest_of, name_nest_of, attr_nest_of, part_nest_of}
use Rattle.xt_forms.specs.Nest.{flwor_nest_of}
use Rattle.xt_syntax.specs.declared.exprs.Expr.{Expr}
use Rattle.xt_syntax.specs.declared.exprs.Arm.{Arm}
use Rattle.xt_syntax.specs.declared.exprs.Clause.{Clause}
use Rattle.xt_syntax.specs.declared.exprs.Order.{Order}
use Rattle.xt_syntax.specs.declared.exprs.Flwor.{Flwor as FlworOf}
use Rattle.xt_syntax.specs.declared.exprs.Bind.{Bind}
use Rattle.xt_syntax.specs.declared.exprs.NameSource.{NameSource}
use Rattle.xt_syntax.specs.declared.exprs.DirectAttr.{DirectAttr}
use Rattle.xt_syntax.specs.declared.exprs.Part.{Part}
use Rattle.xt_syntax.specs.declared.exprs.Clause.TheOpen.{Expr-F, Arm-F, Clause-F, Order-F}
use Rattle.xt_syntax.specs.declared.exprs.Clause.TheOpen.{Flwor-F, Bind-F, NameSource-F, DirectAttr-F}
use Rattle.xt_syntax.specs.declared.exprs.Clause.TheOpen.{Part-F}
use Rattle.xt_syntax.specs.declared.exprs.Clause.TheOpen.{Int, Str, Var, Context, Root, Comma, Or}
use Rattle.xt_syntax.specs.declared.exprs.Clause.TheOpen.{And, If, Flwor, Quant, General, Value, Is}
use Rattle.xt_syntax.specs.declared.exprs.Clause.TheOpen.{Before, After, Range, Arith, Minus, Plus}
use Rattle.xt_syntax.specs.declared.exprs.Clause.TheOpen.{Union, Intersect, Except, InstanceOf}
use Rattle.xt_syntax.specs.declared.exprs.Clause.TheOpen.{Treat, Castable, Cast, Slash, Step}
use Rattle.xt_syntax.specs.declared.exprs.Clause.TheOpen.{Filter, Call, ElemC, AttrC, DocC, TextC}
use Rattle.xt_syntax.specs.declared.exprs.Clause.TheOpen.{CommentC, PiC, Direct, For, Let, Fixed}
use Rattle.xt_syntax.specs.declared.exprs.Clause.TheOpen.{Computed, Chars, Enclosed, Child}
use Rattle.xt_syntax.specs.declared.exprs.Clause.TheViews.{roll-Expr, roll-Arm, roll-Clause, out-Expr}
use Rattle.xt_syntax.specs.declared.exprs.Clause.TheViews.{roll-Order, roll-Flwor, roll-Bind}
use Rattle.xt_syntax.specs.declared.exprs.Clause.TheViews.{roll-NameSource, roll-DirectAttr, roll-Part}
use Rattle.xt_syntax.specs.declared.exprs.Clause.TheViews.{roll-out-Expr}
use Rattle.xt_syntax.specs.declared.exprs.Clause.TheFolds.{ind-Expr}
use Rattle.xt_syntax.specs.declared.exprs.Clause.TheFolds.{map-Expr, map-Arm, map-Clause, map-Order}
use Rattle.xt_syntax.specs.declared.exprs.Clause.TheFolds.{map-Flwor, map-Bind, map-NameSource}
use Rattle.xt_syntax.specs.declared.exprs.Clause.TheFolds.{map-DirectAttr, map-Part}
use Rattle.xt_syntax.specs.Layers.{Kinds, ExprLayer, ClauseLayer, NameLayer, PartLayer, ArmLayer}
use Rattle.xt_syntax.specs.Layers.{BindLayer, AttrLayer, FlworLayer, OrderLayer}
use Rattle.xt_syntax.specs.Layers.{clause_gives, name_gives, part_gives, arm_gives}
use Rattle.xt_syntax.specs.Layers.{bind_gives, attr_gives, flwor_gives, order_gives}
use Rattle.function_table.specs.declared.builtins.Builtin.{Builtin}
use Rattle.function_table.specs.declared.builtins.Builtin.TheVariants as function
use Rattle.expr_meaning.specs.Calls.{Called, library, document, current, current_group, current_key}
use Rattle.expr_meaning.specs.Calls.{key, declared, called}
use Rattle.carried_exprs.specs.Forms.{ExprForm}
use Rattle.carried_exprs.specs.Sights.{Sight, named, focused, absent, Setting, the_item}
use Rattle.carried_exprs.specs.Sights.{item_or_nothing, library_call}
use Rattle.carried_exprs.specs.Sights.{variable_of}
use Rattle.carried_exprs.specs.Calls.{without_argument, string_of_item, library_seen, current_seen}
use Rattle.carried_exprs.specs.Calls.{literal_of, key_of_name, key_seen, called_seen}
use Rattle.carried_exprs.specs.Levels.{levels_added}
use Rattle.carried_exprs.specs.Carried.{seen, seen_steps, carried, all_in}
use Rattle.carried_exprs.proofs.SeenRolled.{seen_expr_value, seen_expr_rolled, seen_arm_rolled}
use Rattle.carried_exprs.proofs.SeenRolled.{seen_bind_rolled, seen_order_rolled, seen_flwor_rolled}
use Rattle.carried_exprs.proofs.SeenRolled.{seen_clause_rolled, seen_name_rolled, seen_part_rolled}
use Rattle.carried_exprs.proofs.SeenRolled.{seen_attr_rolled, seen_flwor_value, seen_clause_value}
use Rattle.carried_exprs.proofs.SeenRolled.{seen_name_value, seen_part_value}
use Rattle.carried_exprs.proofs.NestRolled.{nest_expr_value, nest_expr_rolled, nest_arm_rolled}
use Rattle.carried_exprs.proofs.NestRolled.{nest_bind_rolled, nest_order_rolled, nest_flwor_rolled}
use Rattle.carried_exprs.proofs.NestRolled.{nest_clause_rolled, nest_name_rolled, nest_part_rolled}
use Rattle.carried_exprs.proofs.NestRolled.{nest_attr_rolled, nest_flwor_value, nest_clause_value}
use Rattle.carried_exprs.proofs.NestRolled.{nest_name_value, nest_part_value}
use Rattle.xt_forms.proofs.NestLemmas.{most}
use Rattle.xt_names.specs.Lists.{greatest}
use Rattle.xt_names.specs.ExprNames.{library_name}

-- the greatest of a list
greatest_seen : {A : Type 0} (n : A → ℕ) (c : A → Sight → A) (s : Sight)
    (ys : List ((x : A) × ((s : Sight) → n (c x s) ≤ n x + levels_added s))) →
    greatest (map n (all_in s (map c (map (λ y. y.0) ys)))) ≤ greatest (map n (map (λ y. y.0) ys)) + levels_added s
greatest_seen n c s [] = omega arith
greatest_seen n c s (y ∷ ys) =
    let h = y.1 s in let g = greatest_seen n c s ys in omega arith

-- each expression nests
form_nests : (x : ExprForm) → 1 ≤ nest_expr_value x
form_nests Context = omega arith
form_nests (Int n) = omega arith
form_nests (Str t) = omega arith
form_nests (Var v) = omega arith
form_nests Root = omega arith
form_nests (Comma all) = omega arith
form_nests (Or all) = omega arith
form_nests (And all) = omega arith
form_nests (If arms other) = omega arith
form_nests (Flwor f) = omega arith
form_nests (Quant e bs t) = omega arith
form_nests (General op a b) = omega arith
form_nests (Value op a b) = omega arith
form_nests (Is a b) = omega arith
form_nests (Before a b) = omega arith
form_nests (After a b) = omega arith
form_nests (Range a b) = omega arith
form_nests (Arith op a b) = omega arith
form_nests (Minus a) = omega arith
form_nests (Plus a) = omega arith
form_nests (Union a b) = omega arith
form_nests (Intersect a b) = omega arith
form_nests (Except a b) = omega arith
form_nests (InstanceOf a kind) = omega arith
form_nests (Treat a kind) = omega arith
form_nests (Castable a kind empty) = omega arith
form_nests (Cast a kind empty) = omega arith
form_nests (Slash a b) = omega arith
form_nests (Step axis wanted tests) = omega arith
form_nests (Filter of tests) = omega arith
form_nests (Call name args) = omega arith
form_nests (ElemC name c) = omega arith
form_nests (AttrC name c) = omega arith
form_nests (DocC c) = omega arith
form_nests (TextC c) = omega arith
form_nests (CommentC c) = omega arith
form_nests (PiC name c) = omega arith
form_nests (Direct name attrs parts) = omega arith

nests_some : (e : Expr) → 1 ≤ nest_of e
nests_some e =
    subst (λ x. 1 ≤ nest_of x) (roll-out-Expr e)
    (subst (λ n. 1 ≤ n) (sym (nest_expr_rolled (out-Expr e))) (form_nests (out-Expr e)))

call_nest : (name : ExprName) (es : List Expr) → nest_of (roll-Expr (Call name es)) ≡ 1 + most es
call_nest name es = nest_expr_rolled (Call name es)

variable_nest : (name : ExprName) → nest_of (variable_of name) ≡ 1
variable_nest name = nest_expr_rolled (Var name)

item_nest : (s : Sight) → nest_of (item_or_nothing s) ≡ 1
item_nest named = nest_expr_rolled (Var _)
item_nest focused = nest_expr_rolled Context
item_nest absent = nest_expr_rolled (Comma [])

one_nest : (local : List ℕ) (e : Expr) (n : ℕ) → nest_of e ≡ n →
    nest_of (library_call local (e ∷ [])) ≤ 1 + n
one_nest local e n h =
    let g = call_nest (library_name local) (e ∷ []) in omega arith

string_nest : nest_of string_of_item ≤ 2
string_nest =
    let h = one_nest (codes "string") the_item 1 (variable_nest _) in omega arith

text_nest : (local : List ℕ) → nest_of (library_call local (string_of_item ∷ [])) ≤ 3
text_nest local =
    let h = call_nest (library_name local) (string_of_item ∷ []) in
    let g = string_nest in omega arith

none_nest : (name : ExprName) → nest_of (roll-Expr (Call name [])) ≤ 3
none_nest name = let h = call_nest name [] in omega arith

without_nest : (f : Builtin) (name : ExprName) → nest_of (without_argument f name) ≤ 3
without_nest function.Position name = let h = variable_nest _ in subst (λ n. n ≤ 3) (sym h) (omega arith)
without_nest function.Last name = let h = variable_nest _ in subst (λ n. n ≤ 3) (sym h) (omega arith)
without_nest function.StringLength name = text_nest (codes "string-length")
without_nest function.NormalizeSpace name = text_nest (codes "normalize-space")
without_nest function.String name = let h = string_nest in omega arith
without_nest function.Name name =
    let h = one_nest (codes "name") the_item 1 (variable_nest _) in omega arith
without_nest function.LocalName name =
    let h = one_nest (codes "local-name") the_item 1 (variable_nest _) in omega arith
without_nest function.NamespaceUri name =
    let h = one_nest (codes "namespace-uri") the_item 1 (variable_nest _) in omega arith
without_nest function.Root name =
    let h = one_nest (codes "root") the_item 1 (variable_nest _) in omega arith
without_nest f name = none_nest name

module _ (w : Setting) where
  -- calls
  library_nest : (s : Sight) (f : Builtin) (name : ExprName) (es : List Expr) →
      nest_of (library_seen s f name es) ≤ max (1 + levels_added s) (1 + most es)
  library_nest named f name [] = let h = without_nest f name in omega arith
  library_nest named f name (e ∷ es) = let h = call_nest name (e ∷ es) in omega arith
  library_nest focused f name es = let h = call_nest name es in omega arith
  library_nest absent f name es = let h = call_nest name es in omega arith

  current_nest : (b : Bool) → nest_of (current_seen b) ≡ 1
  current_nest true = variable_nest _
  current_nest false = call_nest (library_name (codes "error")) []

  literal_nest : (s : Sight) (o : Option (List ℕ)) (name value : Expr) (rest : List Expr) →
      nest_of (key_of_name w s o value) ≤ 1 + most (name ∷ value ∷ rest)
  literal_nest s None name value rest = let h = item_nest s in omega arith
  literal_nest s (Some t) name value rest =
      let h = item_nest s in let g = call_nest (w.keys t) (item_or_nothing s ∷ value ∷ []) in
      let i = nests_some name in omega arith

  key_nest : (s : Sight) (es : List Expr) → nest_of (key_seen w s es) ≤ 1 + most es
  key_nest s [] = let h = item_nest s in omega arith
  key_nest s (e ∷ []) = let h = item_nest s in omega arith
  key_nest s (e ∷ v ∷ es) = literal_nest s (literal_of e) e v es

  called_nest : (s : Sight) (d : Called) (name : ExprName) (es : List Expr) →
      nest_of (called_seen w s d name es) ≤ max (1 + levels_added s) (1 + most es)
  called_nest s (library f) name es = library_nest s f name es
  called_nest s document name es = let h = call_nest (library_name (codes "doc")) es in omega arith
  called_nest s current name es = let h = current_nest w.has_current in omega arith
  called_nest s current_group name es = let h = variable_nest _ in subst (λ n. n ≤ max (1 + levels_added s) (1 + most es)) (sym h) (omega arith)
  called_nest s current_key name es = let h = variable_nest _ in subst (λ n. n ≤ max (1 + levels_added s) (1 + most es)) (sym h) (omega arith)
  called_nest s key name es = let h = key_nest s es in omega arith
  called_nest s declared name es = let h = call_nest name es in omega arith

  abbrev ClauseIs : Clause → Type 0
  ClauseIs x = (s : Sight) → clause_nest_of (clause_gives seen (seen_steps w) x s) ≤ clause_nest_of x + levels_added s

  abbrev ExprIs : Expr → Type 0
  ExprIs x = (s : Sight) → nest_of (carried w x s) ≤ nest_of x + levels_added s

  abbrev NameIs : NameSource → Type 0
  NameIs x = (s : Sight) → name_nest_of (name_gives seen (seen_steps w) x s) ≤ name_nest_of x + levels_added s

  abbrev PartIs : Part → Type 0
  PartIs x = (s : Sight) → part_nest_of (part_gives seen (seen_steps w) x s) ≤ part_nest_of x + levels_added s

  abbrev ArmIs : Arm → Type 0
  ArmIs x = (s : Sight) → arm_nest_of (arm_gives seen (seen_steps w) x s) ≤ arm_nest_of x + levels_added s

  abbrev BindIs : Bind → Type 0
  BindIs x = (s : Sight) → bind_nest_of (bind_gives seen (seen_steps w) x s) ≤ bind_nest_of x + levels_added s

  abbrev AttrIs : DirectAttr → Type 0
  AttrIs x = (s : Sight) → attr_nest_of (attr_gives seen (seen_steps w) x s) ≤ attr_nest_of x + levels_added s

  abbrev FlworIs : FlworOf → Type 0
  FlworIs x = (s : Sight) → flwor_nest_of (flwor_gives seen (seen_steps w) x s) ≤ flwor_nest_of x + levels_added s

  abbrev OrderIs : Order → Type 0
  OrderIs x = (s : Sight) → order_nest_of (order_gives seen (seen_steps w) x s) ≤ order_nest_of x + levels_added s

  abbrev known : Kinds
  known = record {
    Clauses = (x : Clause) × ClauseIs x;
    Exprs = (x : Expr) × ExprIs x;
    Names = (x : NameSource) × NameIs x;
    Parts = (x : Part) × PartIs x;
    Arms = (x : Arm) × ArmIs x;
    Binds = (x : Bind) × BindIs x;
    Attrs = (x : DirectAttr) × AttrIs x;
    Flwors = (x : FlworOf) × FlworIs x;
    Orders = (x : Order) × OrderIs x;
  }

  abbrev plain_clause : ClauseLayer known → Clause-F Clause Expr NameSource Part Arm Bind DirectAttr FlworOf Order
  plain_clause = map-Clause known.Clauses known.Exprs known.Names known.Parts known.Arms known.Binds known.Attrs known.Flwors known.Orders
      Clause Expr NameSource Part Arm Bind DirectAttr FlworOf Order
      (λ y. y.0) (λ y. y.0) (λ y. y.0) (λ y. y.0) (λ y. y.0) (λ y. y.0) (λ y. y.0) (λ y. y.0) (λ y. y.0)

  abbrev plain_expr : ExprLayer known → Expr-F Clause Expr NameSource Part Arm Bind DirectAttr FlworOf Order
  plain_expr = map-Expr known.Clauses known.Exprs known.Names known.Parts known.Arms known.Binds known.Attrs known.Flwors known.Orders
      Clause Expr NameSource Part Arm Bind DirectAttr FlworOf Order
      (λ y. y.0) (λ y. y.0) (λ y. y.0) (λ y. y.0) (λ y. y.0) (λ y. y.0) (λ y. y.0) (λ y. y.0) (λ y. y.0)

  abbrev plain_name : NameLayer known → NameSource-F Clause Expr NameSource Part Arm Bind DirectAttr FlworOf Order
  plain_name = map-NameSource known.Clauses known.Exprs known.Names known.Parts known.Arms known.Binds known.Attrs known.Flwors known.Orders
      Clause Expr NameSource Part Arm Bind DirectAttr FlworOf Order
      (λ y. y.0) (λ y. y.0) (λ y. y.0) (λ y. y.0) (λ y. y.0) (λ y. y.0) (λ y. y.0) (λ y. y.0) (λ y. y.0)

  abbrev plain_part : PartLayer known → Part-F Clause Expr NameSource Part Arm Bind DirectAttr FlworOf Order
  plain_part = map-Part known.Clauses known.Exprs known.Names known.Parts known.Arms known.Binds known.Attrs known.Flwors known.Orders
      Clause Expr NameSource Part Arm Bind DirectAttr FlworOf Order
      (λ y. y.0) (λ y. y.0) (λ y. y.0) (λ y. y.0) (λ y. y.0) (λ y. y.0) (λ y. y.0) (λ y. y.0) (λ y. y.0)

  abbrev plain_arm : ArmLayer known → Arm-F Clause Expr NameSource Part Arm Bind DirectAttr FlworOf Order
  plain_arm = map-Arm known.Clauses known.Exprs known.Names known.Parts known.Arms known.Binds known.Attrs known.Flwors known.Orders
      Clause Expr NameSource Part Arm Bind DirectAttr FlworOf Order
      (λ y. y.0) (λ y. y.0) (λ y. y.0) (λ y. y.0) (λ y. y.0) (λ y. y.0) (λ y. y.0) (λ y. y.0) (λ y. y.0)

  abbrev plain_bind : BindLayer known → Bind-F Clause Expr NameSource Part Arm Bind DirectAttr FlworOf Order
  plain_bind = map-Bind known.Clauses known.Exprs known.Names known.Parts known.Arms known.Binds known.Attrs known.Flwors known.Orders
      Clause Expr NameSource Part Arm Bind DirectAttr FlworOf Order
      (λ y. y.0) (λ y. y.0) (λ y. y.0) (λ y. y.0) (λ y. y.0) (λ y. y.0) (λ y. y.0) (λ y. y.0) (λ y. y.0)

  abbrev plain_attr : AttrLayer known → DirectAttr-F Clause Expr NameSource Part Arm Bind DirectAttr FlworOf Order
  plain_attr = map-DirectAttr known.Clauses known.Exprs known.Names known.Parts known.Arms known.Binds known.Attrs known.Flwors known.Orders
      Clause Expr NameSource Part Arm Bind DirectAttr FlworOf Order
      (λ y. y.0) (λ y. y.0) (λ y. y.0) (λ y. y.0) (λ y. y.0) (λ y. y.0) (λ y. y.0) (λ y. y.0) (λ y. y.0)

  abbrev plain_flwor : FlworLayer known → Flwor-F Clause Expr NameSource Part Arm Bind DirectAttr FlworOf Order
  plain_flwor = map-Flwor known.Clauses known.Exprs known.Names known.Parts known.Arms known.Binds known.Attrs known.Flwors known.Orders
      Clause Expr NameSource Part Arm Bind DirectAttr FlworOf Order
      (λ y. y.0) (λ y. y.0) (λ y. y.0) (λ y. y.0) (λ y. y.0) (λ y. y.0) (λ y. y.0) (λ y. y.0) (λ y. y.0)

  abbrev plain_order : OrderLayer known → Order-F Clause Expr NameSource Part Arm Bind DirectAttr FlworOf Order
  plain_order = map-Order known.Clauses known.Exprs known.Names known.Parts known.Arms known.Binds known.Attrs known.Flwors known.Orders
      Clause Expr NameSource Part Arm Bind DirectAttr FlworOf Order
      (λ y. y.0) (λ y. y.0) (λ y. y.0) (λ y. y.0) (λ y. y.0) (λ y. y.0) (λ y. y.0) (λ y. y.0) (λ y. y.0)

  -- forms with one part, with two, with a list of parts
  abbrev FormIs : ExprLayer known → Type 0
  FormIs y = (s : Sight) → nest_of (seen_expr_value w (plain_expr y) s) ≤ nest_expr_value (plain_expr y) + levels_added s

  form_is : (y : ExprLayer known) → FormIs y
  form_is (Int n) s = let g = nest_expr_rolled (Int n) in omega arith
  form_is (Str t) s = let g = nest_expr_rolled (Str t) in omega arith
  form_is (Var v) s = let g = nest_expr_rolled (Var v) in omega arith
  form_is Context named = let g = variable_nest _ in subst (λ n. n ≤ 3) (sym g) (omega arith)
  form_is Context focused = let g = nest_expr_rolled Context in omega arith
  form_is Context absent = let g = nest_expr_rolled Context in omega arith
  form_is Root named =
      let g = nest_expr_rolled (Slash the_item (roll-Expr Root)) in
      let h : nest_of the_item ≡ 1 = variable_nest _ in
      let i = nest_expr_rolled Root in omega arith
  form_is Root focused = let g = nest_expr_rolled Root in omega arith
  form_is Root absent = let g = nest_expr_rolled Root in omega arith
  form_is (Comma all) s =
      let h = greatest_seen nest_of (carried w) s all in
      let g = nest_expr_rolled (Comma (all_in s (map (carried w) (map (λ y. y.0) all)))) in omega arith
  form_is (Or all) s =
      let h = greatest_seen nest_of (carried w) s all in
      let g = nest_expr_rolled (Or (all_in s (map (carried w) (map (λ y. y.0) all)))) in omega arith
  form_is (And all) s =
      let h = greatest_seen nest_of (carried w) s all in
      let g = nest_expr_rolled (And (all_in s (map (carried w) (map (λ y. y.0) all)))) in omega arith
  form_is (If arms b) s =
      let h = greatest_seen arm_nest_of (arm_gives seen (seen_steps w)) s arms in let i = b.1 s in
      let g = nest_expr_rolled (If (all_in s (map (arm_gives seen (seen_steps w)) (map (λ y. y.0) arms))) (carried w b.0 s)) in
      omega arith
  form_is (Flwor a) s =
      let h = a.1 s in let g = nest_expr_rolled (Flwor (flwor_gives seen (seen_steps w) a.0 s)) in omega arith
  form_is (Quant every_one binds b) s =
      let h = greatest_seen bind_nest_of (bind_gives seen (seen_steps w)) s binds in let i = b.1 s in
      let g = nest_expr_rolled (Quant every_one (all_in s (map (bind_gives seen (seen_steps w)) (map (λ y. y.0) binds))) (carried w b.0 s)) in
      omega arith
  form_is (General op a b) s =
      let h = a.1 s in let i = b.1 s in let g = nest_expr_rolled (General op (carried w a.0 s) (carried w b.0 s)) in omega arith
  form_is (Value op a b) s =
      let h = a.1 s in let i = b.1 s in let g = nest_expr_rolled (Value op (carried w a.0 s) (carried w b.0 s)) in omega arith
  form_is (Is a b) s =
      let h = a.1 s in let i = b.1 s in let g = nest_expr_rolled (Is (carried w a.0 s) (carried w b.0 s)) in omega arith
  form_is (Before a b) s =
      let h = a.1 s in let i = b.1 s in let g = nest_expr_rolled (Before (carried w a.0 s) (carried w b.0 s)) in omega arith
  form_is (After a b) s =
      let h = a.1 s in let i = b.1 s in let g = nest_expr_rolled (After (carried w a.0 s) (carried w b.0 s)) in omega arith
  form_is (Range a b) s =
      let h = a.1 s in let i = b.1 s in let g = nest_expr_rolled (Range (carried w a.0 s) (carried w b.0 s)) in omega arith
  form_is (Arith op a b) s =
      let h = a.1 s in let i = b.1 s in let g = nest_expr_rolled (Arith op (carried w a.0 s) (carried w b.0 s)) in omega arith
  form_is (Union a b) s =
      let h = a.1 s in let i = b.1 s in let g = nest_expr_rolled (Union (carried w a.0 s) (carried w b.0 s)) in omega arith
  form_is (Intersect a b) s =
      let h = a.1 s in let i = b.1 s in let g = nest_expr_rolled (Intersect (carried w a.0 s) (carried w b.0 s)) in omega arith
  form_is (Except a b) s =
      let h = a.1 s in let i = b.1 s in let g = nest_expr_rolled (Except (carried w a.0 s) (carried w b.0 s)) in omega arith
  form_is (Minus a) s =
      let h = a.1 s in let g = nest_expr_rolled (Minus (carried w a.0 s)) in omega arith
  form_is (Plus a) s =
      let h = a.1 s in let g = nest_expr_rolled (Plus (carried w a.0 s)) in omega arith
  form_is (DocC a) s =
      let h = a.1 s in let g = nest_expr_rolled (DocC (carried w a.0 s)) in omega arith
  form_is (TextC a) s =
      let h = a.1 s in let g = nest_expr_rolled (TextC (carried w a.0 s)) in omega arith
  form_is (CommentC a) s =
      let h = a.1 s in let g = nest_expr_rolled (CommentC (carried w a.0 s)) in omega arith
  form_is (InstanceOf a kind) s =
      let h = a.1 s in let g = nest_expr_rolled (InstanceOf (carried w a.0 s) kind) in omega arith
  form_is (Treat a kind) s =
      let h = a.1 s in let g = nest_expr_rolled (Treat (carried w a.0 s) kind) in omega arith
  form_is (Castable a kind empty) s =
      let h = a.1 s in let g = nest_expr_rolled (Castable (carried w a.0 s) kind empty) in omega arith
  form_is (Cast a kind empty) s =
      let h = a.1 s in let g = nest_expr_rolled (Cast (carried w a.0 s) kind empty) in omega arith
  form_is (Slash a b) s =
      let h = a.1 s in let i = b.1 focused in
      let g = nest_expr_rolled (Slash (carried w a.0 s) (carried w b.0 focused)) in omega arith
  form_is (Step axis wanted tests) named =
      let h = greatest_seen nest_of (carried w) focused tests in
      let step : ExprForm = Step axis wanted (all_in focused (map (carried w) (map (λ y. y.0) tests))) in
      let i = nest_expr_rolled step in
      let j : nest_of the_item ≡ 1 = variable_nest _ in
      let g = nest_expr_rolled (Slash the_item (roll-Expr step)) in omega arith
  form_is (Step axis wanted tests) focused =
      let h = greatest_seen nest_of (carried w) focused tests in
      let g = nest_expr_rolled (Step axis wanted (all_in focused (map (carried w) (map (λ y. y.0) tests)))) in
      omega arith
  form_is (Step axis wanted tests) absent =
      let h = greatest_seen nest_of (carried w) focused tests in
      let g = nest_expr_rolled (Step axis wanted (all_in focused (map (carried w) (map (λ y. y.0) tests)))) in
      omega arith
  form_is (Filter a tests) s =
      let h = greatest_seen nest_of (carried w) focused tests in let i = a.1 s in
      let g = nest_expr_rolled (Filter (carried w a.0 s) (all_in focused (map (carried w) (map (λ y. y.0) tests)))) in
      omega arith
  form_is (Call name args) s =
      let es : List Expr = all_in s (map (carried w) (map (λ y. y.0) args)) in
      let h = greatest_seen nest_of (carried w) s args in
      let g = called_nest s (called name (length es)) name es in omega arith
  form_is (ElemC a b) s =
      let h = a.1 s in let i = b.1 s in
      let g = nest_expr_rolled (ElemC (name_gives seen (seen_steps w) a.0 s) (carried w b.0 s)) in omega arith
  form_is (AttrC a b) s =
      let h = a.1 s in let i = b.1 s in
      let g = nest_expr_rolled (AttrC (name_gives seen (seen_steps w) a.0 s) (carried w b.0 s)) in omega arith
  form_is (PiC a b) s =
      let h = a.1 s in let i = b.1 s in
      let g = nest_expr_rolled (PiC (name_gives seen (seen_steps w) a.0 s) (carried w b.0 s)) in omega arith
  form_is (Direct name attrs parts) s =
      let h = greatest_seen attr_nest_of (attr_gives seen (seen_steps w)) s attrs in
      let i = greatest_seen part_nest_of (part_gives seen (seen_steps w)) s parts in
      let g = nest_expr_rolled (Direct name (all_in s (map (attr_gives seen (seen_steps w)) (map (λ y. y.0) attrs)))
      (all_in s (map (part_gives seen (seen_steps w)) (map (λ y. y.0) parts)))) in omega arith

  expr_step : (x : Expr-F Clause Expr NameSource Part Arm Bind DirectAttr FlworOf Order) (y : ExprLayer known) → plain_expr y ≡ x → ExprIs (roll-Expr x)
  expr_step x y is s =
      rw (← is, seen_expr_rolled w (plain_expr y), nest_expr_rolled (plain_expr y)) (form_is y s)

  arm_step : (x : Arm-F Clause Expr NameSource Part Arm Bind DirectAttr FlworOf Order) (y : ArmLayer known) → plain_arm y ≡ x → ArmIs (roll-Arm x)
  arm_step x y is s =
      let new : Arm-F Clause Expr NameSource Part Arm Bind DirectAttr FlworOf Order = record { test = carried w y.test.0 s; then = carried w y.then.0 s } in
      let h = y.test.1 s in let i = y.then.1 s in
      rw (← is, seen_arm_rolled w (plain_arm y), nest_arm_rolled (plain_arm y), nest_arm_rolled new) (omega arith)

  bind_step : (x : Bind-F Clause Expr NameSource Part Arm Bind DirectAttr FlworOf Order) (y : BindLayer known) → plain_bind y ≡ x → BindIs (roll-Bind x)
  bind_step x y is s =
      let new : Bind-F Clause Expr NameSource Part Arm Bind DirectAttr FlworOf Order = record { var = y.var; kind = y.kind; source = carried w y.source.0 s } in
      rw (← is, seen_bind_rolled w (plain_bind y), nest_bind_rolled (plain_bind y), nest_bind_rolled new) (y.source.1 s)

  order_step : (x : Order-F Clause Expr NameSource Part Arm Bind DirectAttr FlworOf Order) (y : OrderLayer known) → plain_order y ≡ x → OrderIs (roll-Order x)
  order_step x y is s =
      let new : Order-F Clause Expr NameSource Part Arm Bind DirectAttr FlworOf Order = record { key = carried w y.key.0 s; descending = y.descending } in
      rw (← is, seen_order_rolled w (plain_order y), nest_order_rolled (plain_order y), nest_order_rolled new) (y.key.1 s)

  attr_step : (x : DirectAttr-F Clause Expr NameSource Part Arm Bind DirectAttr FlworOf Order) (y : AttrLayer known) → plain_attr y ≡ x → AttrIs (roll-DirectAttr x)
  attr_step x y is s =
      let new : DirectAttr-F Clause Expr NameSource Part Arm Bind DirectAttr FlworOf Order = record {
        name = y.name;
        parts = all_in s (map (part_gives seen (seen_steps w)) (map (λ z. z.0) y.parts));
      } in
      rw (← is, seen_attr_rolled w (plain_attr y), nest_attr_rolled (plain_attr y), nest_attr_rolled new)
      (greatest_seen part_nest_of (part_gives seen (seen_steps w)) s y.parts)

  clause_is : (y : ClauseLayer known) (s : Sight) →
      clause_nest_of (seen_clause_value w (plain_clause y) s) ≤ nest_clause_value (plain_clause y) + levels_added s
  clause_is (For b place) s =
      let h = b.1 s in let g = nest_clause_rolled (For (bind_gives seen (seen_steps w) b.0 s) place) in omega arith
  clause_is (Let b) s =
      let h = b.1 s in let g = nest_clause_rolled (Let (bind_gives seen (seen_steps w) b.0 s)) in omega arith

  clause_step : (x : Clause-F Clause Expr NameSource Part Arm Bind DirectAttr FlworOf Order) (y : ClauseLayer known) → plain_clause y ≡ x → ClauseIs (roll-Clause x)
  clause_step x y is s =
      rw (← is, seen_clause_rolled w (plain_clause y), nest_clause_rolled (plain_clause y)) (clause_is y s)

  name_is : (y : NameLayer known) (s : Sight) →
      name_nest_of (seen_name_value w (plain_name y) s) ≤ nest_name_value (plain_name y) + levels_added s
  name_is (Fixed n) s = let g = nest_name_rolled (Fixed n) in omega arith
  name_is (Computed e) s = let h = e.1 s in let g = nest_name_rolled (Computed (carried w e.0 s)) in omega arith

  name_step : (x : NameSource-F Clause Expr NameSource Part Arm Bind DirectAttr FlworOf Order) (y : NameLayer known) → plain_name y ≡ x → NameIs (roll-NameSource x)
  name_step x y is s =
      rw (← is, seen_name_rolled w (plain_name y), nest_name_rolled (plain_name y)) (name_is y s)

  part_is : (y : PartLayer known) (s : Sight) →
      part_nest_of (seen_part_value w (plain_part y) s) ≤ nest_part_value (plain_part y) + levels_added s
  part_is (Chars t) s = let g = nest_part_rolled (Chars t) in omega arith
  part_is (Enclosed e) s = let h = e.1 s in let g = nest_part_rolled (Enclosed (carried w e.0 s)) in omega arith
  part_is (Child e) s = let h = e.1 s in let g = nest_part_rolled (Child (carried w e.0 s)) in omega arith

  part_step : (x : Part-F Clause Expr NameSource Part Arm Bind DirectAttr FlworOf Order) (y : PartLayer known) → plain_part y ≡ x → PartIs (roll-Part x)
  part_step x y is s =
      rw (← is, seen_part_rolled w (plain_part y), nest_part_rolled (plain_part y)) (part_is y s)

  abbrev a_flwor : List known.Clauses → Option known.Exprs → List known.Orders → Bool →
      known.Exprs → FlworLayer known
  a_flwor clauses tested orders stable body = record {
    clauses = clauses;
    test = tested;
    orders = orders;
    stable = stable;
    body = body;
  }

  abbrev new_flwor : List known.Clauses → Option Expr → List known.Orders → Bool → known.Exprs →
      Sight → Flwor-F Clause Expr NameSource Part Arm Bind DirectAttr FlworOf Order
  new_flwor clauses tested orders stable body s = record {
    clauses = all_in s (map (clause_gives seen (seen_steps w)) (map (λ y. y.0) clauses));
    test = tested;
    orders = all_in s (map (order_gives seen (seen_steps w)) (map (λ y. y.0) orders));
    stable = stable;
    body = carried w body.0 s;
  }

  flwor_is : (clauses : List known.Clauses) (tested : Option known.Exprs)
      (orders : List known.Orders) (stable : Bool) (body : known.Exprs) (s : Sight) →
      flwor_nest_of (seen_flwor_value w (plain_flwor (a_flwor clauses tested orders stable body)) s)
      ≤ nest_flwor_value (plain_flwor (a_flwor clauses tested orders stable body)) + levels_added s
  flwor_is clauses None orders stable body s =
      let c = greatest_seen clause_nest_of (clause_gives seen (seen_steps w)) s clauses in
      let o = greatest_seen order_nest_of (order_gives seen (seen_steps w)) s orders in
      let b = body.1 s in
      rw (nest_flwor_rolled (new_flwor clauses None orders stable body s)) (omega arith)
  flwor_is clauses (Some t) orders stable body s =
      let c = greatest_seen clause_nest_of (clause_gives seen (seen_steps w)) s clauses in
      let o = greatest_seen order_nest_of (order_gives seen (seen_steps w)) s orders in
      let b = body.1 s in let h = t.1 s in
      rw (nest_flwor_rolled (new_flwor clauses (Some (carried w t.0 s)) orders stable body s)) (omega arith)

  flwor_step : (x : Flwor-F Clause Expr NameSource Part Arm Bind DirectAttr FlworOf Order) (y : FlworLayer known) → plain_flwor y ≡ x → FlworIs (roll-Flwor x)
  flwor_step x y is s =
      rw (← is, seen_flwor_rolled w (plain_flwor y), nest_flwor_rolled (plain_flwor y))
      (flwor_is y.clauses y.test y.orders y.stable y.body s)

  pub nest_carried : (e : Expr) → ExprIs e
  nest_carried = ind-Expr ClauseIs ExprIs NameIs PartIs ArmIs BindIs AttrIs FlworIs OrderIs
      clause_step expr_step name_step part_step arm_step bind_step attr_step flwor_step order_step
