-- What a scope breaks no rule for, a wider one does not either.
use Rattle.std.proofs.Common.{◌≡◌, List, [], ◌∷◌, ◌++◌, Bool, Option, Some, None, refl, map, cond}
use Rattle.std.proofs.Common.{true, false, sym, subst}
use Rattle.xt_names.specs.declared.names.ExprName.{ExprName}
use Rattle.xt_names.specs.declared.codes.Code.{Code}
use Rattle.xt_names.specs.declared.codes.Code.TheVariants.{QueryStatic}
use Rattle.xt_names.specs.declared.codes.QueryStaticCode.TheVariants.{XPST0008}
use Rattle.xt_syntax.specs.declared.exprs.Expr.{Expr}
use Rattle.xt_syntax.specs.declared.exprs.Arm.{Arm}
use Rattle.xt_syntax.specs.declared.exprs.Clause.{Clause}
use Rattle.xt_syntax.specs.declared.exprs.Order.{Order}
use Rattle.xt_syntax.specs.declared.exprs.Flwor.{Flwor as FlworOf}
use Rattle.xt_syntax.specs.declared.exprs.Bind.{Bind}
use Rattle.xt_syntax.specs.declared.exprs.NameSource.{NameSource}
use Rattle.xt_syntax.specs.declared.exprs.DirectAttr.{DirectAttr}
use Rattle.xt_syntax.specs.declared.exprs.Part.{Part}
use Rattle.xt_syntax.specs.declared.exprs.Clause.TheOpen.{Expr-F, Arm-F, Clause-F, Order-F}
use Rattle.xt_syntax.specs.declared.exprs.Clause.TheOpen.{Flwor-F, Bind-F, NameSource-F}
use Rattle.xt_syntax.specs.declared.exprs.Clause.TheOpen.{DirectAttr-F, Part-F}
use Rattle.xt_syntax.specs.declared.exprs.Clause.TheOpen.{Int, Str, Var, Context, Root, Comma, Or}
use Rattle.xt_syntax.specs.declared.exprs.Clause.TheOpen.{And, If, Flwor, Quant, General, Value}
use Rattle.xt_syntax.specs.declared.exprs.Clause.TheOpen.{Is, Before, After, Range, Arith, Minus}
use Rattle.xt_syntax.specs.declared.exprs.Clause.TheOpen.{Plus, Union, Intersect, Except}
use Rattle.xt_syntax.specs.declared.exprs.Clause.TheOpen.{InstanceOf, Treat, Castable, Cast, Slash}
use Rattle.xt_syntax.specs.declared.exprs.Clause.TheOpen.{Step, Filter, Call, ElemC, AttrC, DocC}
use Rattle.xt_syntax.specs.declared.exprs.Clause.TheOpen.{TextC, CommentC, PiC, Direct, For, Let}
use Rattle.xt_syntax.specs.declared.exprs.Clause.TheOpen.{Fixed, Computed, Chars, Enclosed, Child}
use Rattle.xt_syntax.specs.declared.exprs.Clause.TheViews.{roll-Expr, roll-Arm, roll-Clause}
use Rattle.xt_syntax.specs.declared.exprs.Clause.TheViews.{roll-Order, roll-Flwor, roll-Bind}
use Rattle.xt_syntax.specs.declared.exprs.Clause.TheViews.{roll-NameSource, roll-DirectAttr}
use Rattle.xt_syntax.specs.declared.exprs.Clause.TheViews.{roll-Part}
use Rattle.xt_syntax.specs.declared.exprs.Clause.TheFolds.{fold-roll-Expr, fold-roll-Arm}
use Rattle.xt_syntax.specs.declared.exprs.Clause.TheFolds.{fold-roll-Clause, fold-roll-Order}
use Rattle.xt_syntax.specs.declared.exprs.Clause.TheFolds.{fold-roll-Flwor, fold-roll-Bind}
use Rattle.xt_syntax.specs.declared.exprs.Clause.TheFolds.{fold-roll-NameSource, fold-roll-Part}
use Rattle.xt_syntax.specs.declared.exprs.Clause.TheFolds.{fold-roll-DirectAttr, ind-Expr}
use Rattle.xt_syntax.specs.declared.exprs.Clause.TheFolds.{map-Expr, map-Arm, map-Clause}
use Rattle.xt_syntax.specs.declared.exprs.Clause.TheFolds.{map-Order, map-Flwor, map-Bind}
use Rattle.xt_syntax.specs.declared.exprs.Clause.TheFolds.{map-NameSource, map-DirectAttr}
use Rattle.xt_syntax.specs.declared.exprs.Clause.TheFolds.{map-Part}
use Rattle.xt_syntax.specs.Layers.{Kinds, ExprLayer, ClauseLayer, NameLayer, PartLayer}
use Rattle.xt_syntax.specs.Layers.{ArmLayer, BindLayer, AttrLayer, FlworLayer, OrderLayer}
use Rattle.name_rules.specs.declared.functions.Signature.{Signature}
use Rattle.name_rules.specs.Scopes.{has_name, with_names}
use Rattle.name_rules.specs.Broken.{Rule, Binder, rules, rule_steps, nothing, two, all_in, if_any}
use Rattle.name_rules.specs.Broken.{binders_in, behind, variable_in}
use Rattle.name_rules.specs.Broken.{expr_rule, clause_rule, name_rule, part_rule, flwor_rule}
use Rattle.name_rules.specs.Broken.{names_broken_of, arm_broken, clause_binder, bind_binder}
use Rattle.name_rules.specs.Broken.{order_broken, name_broken, attr_broken, part_broken}
use Rattle.name_rules.specs.Broken.{flwor_broken}
use Rattle.xquery_syntax.proofs.PrologLaws.ScopeLemmas.{Within, within_names, within_behind}
use Rattle.xt_names.proofs.ListLemmas.{front_nil, back_nil}

-- what breaks nothing in a scope breaks nothing in a wider one
abbrev pub Mono : Rule → Type 0
Mono r = (s t : List ExprName) → Within s t → r s ≡ [] → r t ≡ []

none_mono : Mono nothing
none_mono s t w e = refl

two_mono : (a b : Rule) → Mono a → Mono b → Mono (two a b)
two_mono a b f g s t w e =
    rw (f s t w (front_nil (a s) (b s) e), g s t w (back_nil (a s) (b s) e)) refl

all_mono : {A : Type 0} (f : A → Rule) (ys : List ((x : A) × Mono (f x)))
    → Mono (all_in (map f (map (λ y. y.0) ys)))
all_mono f [] s t w e = refl
all_mono f (y ∷ ys) s t w e =
    two_mono (f y.0) (all_in (map f (map (λ y. y.0) ys))) y.1 (all_mono f ys) s t w e

binders_mono : {A : Type 0} (f : A → Binder) (ys : List ((x : A) × Mono (f x).source))
    → Mono (binders_in (map f (map (λ y. y.0) ys)))
binders_mono f [] s t w e = refl
binders_mono f (y ∷ ys) s t w e =
    let ns = (f y.0).names in
    let a = front_nil ((f y.0).source s) (binders_in (map f (map (λ y. y.0) ys)) (with_names s ns)) e in
    let b = back_nil ((f y.0).source s) (binders_in (map f (map (λ y. y.0) ys)) (with_names s ns)) e in
    rw (y.1 s t w a, binders_mono f ys (with_names s ns) (with_names t ns) (within_names s t ns w) b)
    refl

-- what comes after what binds
bound_mono : (bs : List Binder) (r : Rule) → Mono (binders_in bs) → Mono r
    → Mono (λ scope. binders_in bs scope ++ r (behind bs scope))
bound_mono bs r f g s t w e =
    let a = front_nil (binders_in bs s) (r (behind bs s)) e in
    let b = back_nil (binders_in bs s) (r (behind bs s)) e in
    rw (f s t w a, g (behind bs s) (behind bs t) (within_behind bs s t w) b) refl

variable_mono : (n : ExprName) → Mono (variable_in n)
unfolding variable_in
variable_mono n s t w e = rw (w n (go (has_name s n) e)) refl
  where
    go : (b : Bool) → cond b [] (QueryStatic XPST0008 ∷ []) ≡ [] → b ≡ true
    go true e = refl
    go false e = absurd cc

always_mono : (cs : List Code) (r : Rule) → Mono r → Mono (λ scope. cs ++ r scope)
always_mono cs r f s t w e = rw (front_nil cs (r s) e, f s t w (back_nil cs (r s) e)) refl

module _ (fs : List Signature) where
  abbrev ClauseOf : Clause → Type 0
  ClauseOf x = Mono (clause_binder fs x).source

  abbrev ExprOf : Expr → Type 0
  ExprOf x = Mono (names_broken_of fs x)

  abbrev NameSourceOf : NameSource → Type 0
  NameSourceOf x = Mono (name_broken fs x)

  abbrev PartOf : Part → Type 0
  PartOf x = Mono (part_broken fs x)

  abbrev ArmOf : Arm → Type 0
  ArmOf x = Mono (arm_broken fs x)

  abbrev BindOf : Bind → Type 0
  BindOf x = Mono (bind_binder fs x).source

  abbrev DirectAttrOf : DirectAttr → Type 0
  DirectAttrOf x = Mono (attr_broken fs x)

  abbrev FlworKeeps : FlworOf → Type 0
  FlworKeeps x = Mono (flwor_broken fs x)

  abbrev OrderOf : Order → Type 0
  OrderOf x = Mono (order_broken fs x)

  -- parts, each with what is known of it
  abbrev known : Kinds
  known = record {
    Clauses = (x : Clause) × ClauseOf x;
    Exprs = (x : Expr) × ExprOf x;
    Names = (x : NameSource) × NameSourceOf x;
    Parts = (x : Part) × PartOf x;
    Arms = (x : Arm) × ArmOf x;
    Binds = (x : Bind) × BindOf x;
    Attrs = (x : DirectAttr) × DirectAttrOf x;
    Flwors = (x : FlworOf) × FlworKeeps x;
    Orders = (x : Order) × OrderOf x;
  }

  abbrev plain_clause : ClauseLayer known →
      Clause-F Clause Expr NameSource Part Arm Bind DirectAttr FlworOf Order
  plain_clause =
      map-Clause known.Clauses known.Exprs known.Names known.Parts known.Arms known.Binds
      known.Attrs known.Flwors known.Orders Clause Expr NameSource Part Arm Bind DirectAttr
      FlworOf Order (λ y. y.0) (λ y. y.0) (λ y. y.0) (λ y. y.0) (λ y. y.0) (λ y. y.0) (λ y. y.0)
      (λ y. y.0) (λ y. y.0)

  abbrev clause_value : Clause-F Clause Expr NameSource Part Arm Bind DirectAttr FlworOf Order → Binder
  clause_value x = clause_rule
      (map-Clause Clause Expr NameSource Part Arm Bind DirectAttr FlworOf Order rules.Clauses
      rules.Exprs rules.Names rules.Parts rules.Arms rules.Binds rules.Attrs rules.Flwors
      rules.Orders (clause_binder fs) (names_broken_of fs) (name_broken fs) (part_broken fs)
      (arm_broken fs) (bind_binder fs) (attr_broken fs) (flwor_broken fs) (order_broken fs) x)

  rolled_clause : (x : Clause-F Clause Expr NameSource Part Arm Bind DirectAttr FlworOf Order) →
      clause_binder fs (roll-Clause x) ≡ clause_value x
  rolled_clause x = fold-roll-Clause _ _ _ _ _ _ _ _ _ _ _ _ _ _ _ _ _ _ x

  abbrev plain_expr : ExprLayer known →
      Expr-F Clause Expr NameSource Part Arm Bind DirectAttr FlworOf Order
  plain_expr =
      map-Expr known.Clauses known.Exprs known.Names known.Parts known.Arms known.Binds
      known.Attrs known.Flwors known.Orders Clause Expr NameSource Part Arm Bind DirectAttr
      FlworOf Order (λ y. y.0) (λ y. y.0) (λ y. y.0) (λ y. y.0) (λ y. y.0) (λ y. y.0) (λ y. y.0)
      (λ y. y.0) (λ y. y.0)

  abbrev expr_value : Expr-F Clause Expr NameSource Part Arm Bind DirectAttr FlworOf Order → Rule
  expr_value x = expr_rule fs
      (map-Expr Clause Expr NameSource Part Arm Bind DirectAttr FlworOf Order rules.Clauses
      rules.Exprs rules.Names rules.Parts rules.Arms rules.Binds rules.Attrs rules.Flwors
      rules.Orders (clause_binder fs) (names_broken_of fs) (name_broken fs) (part_broken fs)
      (arm_broken fs) (bind_binder fs) (attr_broken fs) (flwor_broken fs) (order_broken fs) x)

  rolled_expr : (x : Expr-F Clause Expr NameSource Part Arm Bind DirectAttr FlworOf Order) →
      names_broken_of fs (roll-Expr x) ≡ expr_value x
  rolled_expr x = fold-roll-Expr _ _ _ _ _ _ _ _ _ _ _ _ _ _ _ _ _ _ x

  abbrev plain_name : NameLayer known →
      NameSource-F Clause Expr NameSource Part Arm Bind DirectAttr FlworOf Order
  plain_name =
      map-NameSource known.Clauses known.Exprs known.Names known.Parts known.Arms known.Binds
      known.Attrs known.Flwors known.Orders Clause Expr NameSource Part Arm Bind DirectAttr
      FlworOf Order (λ y. y.0) (λ y. y.0) (λ y. y.0) (λ y. y.0) (λ y. y.0) (λ y. y.0) (λ y. y.0)
      (λ y. y.0) (λ y. y.0)

  abbrev name_value : NameSource-F Clause Expr NameSource Part Arm Bind DirectAttr FlworOf Order → Rule
  name_value x = name_rule
      (map-NameSource Clause Expr NameSource Part Arm Bind DirectAttr FlworOf Order rules.Clauses
      rules.Exprs rules.Names rules.Parts rules.Arms rules.Binds rules.Attrs rules.Flwors
      rules.Orders (clause_binder fs) (names_broken_of fs) (name_broken fs) (part_broken fs)
      (arm_broken fs) (bind_binder fs) (attr_broken fs) (flwor_broken fs) (order_broken fs) x)

  rolled_name : (x : NameSource-F Clause Expr NameSource Part Arm Bind DirectAttr FlworOf Order) →
      name_broken fs (roll-NameSource x) ≡ name_value x
  rolled_name x = fold-roll-NameSource _ _ _ _ _ _ _ _ _ _ _ _ _ _ _ _ _ _ x

  abbrev plain_part : PartLayer known →
      Part-F Clause Expr NameSource Part Arm Bind DirectAttr FlworOf Order
  plain_part =
      map-Part known.Clauses known.Exprs known.Names known.Parts known.Arms known.Binds
      known.Attrs known.Flwors known.Orders Clause Expr NameSource Part Arm Bind DirectAttr
      FlworOf Order (λ y. y.0) (λ y. y.0) (λ y. y.0) (λ y. y.0) (λ y. y.0) (λ y. y.0) (λ y. y.0)
      (λ y. y.0) (λ y. y.0)

  abbrev part_value : Part-F Clause Expr NameSource Part Arm Bind DirectAttr FlworOf Order → Rule
  part_value x = part_rule
      (map-Part Clause Expr NameSource Part Arm Bind DirectAttr FlworOf Order rules.Clauses
      rules.Exprs rules.Names rules.Parts rules.Arms rules.Binds rules.Attrs rules.Flwors
      rules.Orders (clause_binder fs) (names_broken_of fs) (name_broken fs) (part_broken fs)
      (arm_broken fs) (bind_binder fs) (attr_broken fs) (flwor_broken fs) (order_broken fs) x)

  rolled_part : (x : Part-F Clause Expr NameSource Part Arm Bind DirectAttr FlworOf Order) →
      part_broken fs (roll-Part x) ≡ part_value x
  rolled_part x = fold-roll-Part _ _ _ _ _ _ _ _ _ _ _ _ _ _ _ _ _ _ x

  abbrev plain_arm : ArmLayer known →
      Arm-F Clause Expr NameSource Part Arm Bind DirectAttr FlworOf Order
  plain_arm =
      map-Arm known.Clauses known.Exprs known.Names known.Parts known.Arms known.Binds known.Attrs
      known.Flwors known.Orders Clause Expr NameSource Part Arm Bind DirectAttr FlworOf Order
      (λ y. y.0) (λ y. y.0) (λ y. y.0) (λ y. y.0) (λ y. y.0) (λ y. y.0) (λ y. y.0) (λ y. y.0)
      (λ y. y.0)

  abbrev arm_value : Arm-F Clause Expr NameSource Part Arm Bind DirectAttr FlworOf Order → Rule
  arm_value x = (rule_steps fs).of_arm
      (map-Arm Clause Expr NameSource Part Arm Bind DirectAttr FlworOf Order rules.Clauses
      rules.Exprs rules.Names rules.Parts rules.Arms rules.Binds rules.Attrs rules.Flwors
      rules.Orders (clause_binder fs) (names_broken_of fs) (name_broken fs) (part_broken fs)
      (arm_broken fs) (bind_binder fs) (attr_broken fs) (flwor_broken fs) (order_broken fs) x)

  rolled_arm : (x : Arm-F Clause Expr NameSource Part Arm Bind DirectAttr FlworOf Order) →
      arm_broken fs (roll-Arm x) ≡ arm_value x
  rolled_arm x = fold-roll-Arm _ _ _ _ _ _ _ _ _ _ _ _ _ _ _ _ _ _ x

  abbrev plain_bind : BindLayer known →
      Bind-F Clause Expr NameSource Part Arm Bind DirectAttr FlworOf Order
  plain_bind =
      map-Bind known.Clauses known.Exprs known.Names known.Parts known.Arms known.Binds
      known.Attrs known.Flwors known.Orders Clause Expr NameSource Part Arm Bind DirectAttr
      FlworOf Order (λ y. y.0) (λ y. y.0) (λ y. y.0) (λ y. y.0) (λ y. y.0) (λ y. y.0) (λ y. y.0)
      (λ y. y.0) (λ y. y.0)

  abbrev bind_value : Bind-F Clause Expr NameSource Part Arm Bind DirectAttr FlworOf Order → Binder
  bind_value x = (rule_steps fs).of_bind
      (map-Bind Clause Expr NameSource Part Arm Bind DirectAttr FlworOf Order rules.Clauses
      rules.Exprs rules.Names rules.Parts rules.Arms rules.Binds rules.Attrs rules.Flwors
      rules.Orders (clause_binder fs) (names_broken_of fs) (name_broken fs) (part_broken fs)
      (arm_broken fs) (bind_binder fs) (attr_broken fs) (flwor_broken fs) (order_broken fs) x)

  rolled_bind : (x : Bind-F Clause Expr NameSource Part Arm Bind DirectAttr FlworOf Order) →
      bind_binder fs (roll-Bind x) ≡ bind_value x
  rolled_bind x = fold-roll-Bind _ _ _ _ _ _ _ _ _ _ _ _ _ _ _ _ _ _ x

  abbrev plain_attr : AttrLayer known →
      DirectAttr-F Clause Expr NameSource Part Arm Bind DirectAttr FlworOf Order
  plain_attr =
      map-DirectAttr known.Clauses known.Exprs known.Names known.Parts known.Arms known.Binds
      known.Attrs known.Flwors known.Orders Clause Expr NameSource Part Arm Bind DirectAttr
      FlworOf Order (λ y. y.0) (λ y. y.0) (λ y. y.0) (λ y. y.0) (λ y. y.0) (λ y. y.0) (λ y. y.0)
      (λ y. y.0) (λ y. y.0)

  abbrev attr_value : DirectAttr-F Clause Expr NameSource Part Arm Bind DirectAttr FlworOf Order → Rule
  attr_value x = (rule_steps fs).of_attr
      (map-DirectAttr Clause Expr NameSource Part Arm Bind DirectAttr FlworOf Order rules.Clauses
      rules.Exprs rules.Names rules.Parts rules.Arms rules.Binds rules.Attrs rules.Flwors
      rules.Orders (clause_binder fs) (names_broken_of fs) (name_broken fs) (part_broken fs)
      (arm_broken fs) (bind_binder fs) (attr_broken fs) (flwor_broken fs) (order_broken fs) x)

  rolled_attr : (x : DirectAttr-F Clause Expr NameSource Part Arm Bind DirectAttr FlworOf Order) →
      attr_broken fs (roll-DirectAttr x) ≡ attr_value x
  rolled_attr x = fold-roll-DirectAttr _ _ _ _ _ _ _ _ _ _ _ _ _ _ _ _ _ _ x

  abbrev plain_flwor : FlworLayer known →
      Flwor-F Clause Expr NameSource Part Arm Bind DirectAttr FlworOf Order
  plain_flwor =
      map-Flwor known.Clauses known.Exprs known.Names known.Parts known.Arms known.Binds
      known.Attrs known.Flwors known.Orders Clause Expr NameSource Part Arm Bind DirectAttr
      FlworOf Order (λ y. y.0) (λ y. y.0) (λ y. y.0) (λ y. y.0) (λ y. y.0) (λ y. y.0) (λ y. y.0)
      (λ y. y.0) (λ y. y.0)

  abbrev flwor_value : Flwor-F Clause Expr NameSource Part Arm Bind DirectAttr FlworOf Order → Rule
  flwor_value x = flwor_rule
      (map-Flwor Clause Expr NameSource Part Arm Bind DirectAttr FlworOf Order rules.Clauses
      rules.Exprs rules.Names rules.Parts rules.Arms rules.Binds rules.Attrs rules.Flwors
      rules.Orders (clause_binder fs) (names_broken_of fs) (name_broken fs) (part_broken fs)
      (arm_broken fs) (bind_binder fs) (attr_broken fs) (flwor_broken fs) (order_broken fs) x)

  rolled_flwor : (x : Flwor-F Clause Expr NameSource Part Arm Bind DirectAttr FlworOf Order) →
      flwor_broken fs (roll-Flwor x) ≡ flwor_value x
  rolled_flwor x = fold-roll-Flwor _ _ _ _ _ _ _ _ _ _ _ _ _ _ _ _ _ _ x

  abbrev plain_order : OrderLayer known →
      Order-F Clause Expr NameSource Part Arm Bind DirectAttr FlworOf Order
  plain_order =
      map-Order known.Clauses known.Exprs known.Names known.Parts known.Arms known.Binds
      known.Attrs known.Flwors known.Orders Clause Expr NameSource Part Arm Bind DirectAttr
      FlworOf Order (λ y. y.0) (λ y. y.0) (λ y. y.0) (λ y. y.0) (λ y. y.0) (λ y. y.0) (λ y. y.0)
      (λ y. y.0) (λ y. y.0)

  abbrev order_value : Order-F Clause Expr NameSource Part Arm Bind DirectAttr FlworOf Order → Rule
  order_value x = (rule_steps fs).of_order
      (map-Order Clause Expr NameSource Part Arm Bind DirectAttr FlworOf Order rules.Clauses
      rules.Exprs rules.Names rules.Parts rules.Arms rules.Binds rules.Attrs rules.Flwors
      rules.Orders (clause_binder fs) (names_broken_of fs) (name_broken fs) (part_broken fs)
      (arm_broken fs) (bind_binder fs) (attr_broken fs) (flwor_broken fs) (order_broken fs) x)

  rolled_order : (x : Order-F Clause Expr NameSource Part Arm Bind DirectAttr FlworOf Order) →
      order_broken fs (roll-Order x) ≡ order_value x
  rolled_order x = fold-roll-Order _ _ _ _ _ _ _ _ _ _ _ _ _ _ _ _ _ _ x

  abbrev flwor_layer : Flwor-F Clause Expr NameSource Part Arm Bind DirectAttr FlworOf Order →
      FlworLayer rules
  flwor_layer x = map-Flwor Clause Expr NameSource Part Arm Bind DirectAttr FlworOf Order
      rules.Clauses rules.Exprs rules.Names rules.Parts rules.Arms rules.Binds rules.Attrs
      rules.Flwors rules.Orders (clause_binder fs) (names_broken_of fs) (name_broken fs)
      (part_broken fs) (arm_broken fs) (bind_binder fs) (attr_broken fs) (flwor_broken fs)
      (order_broken fs) x

  clause_so : (y : ClauseLayer known) → Mono (clause_value (plain_clause y)).source
  clause_so (For b None) = b.1
  clause_so (For b (Some at)) = b.1
  clause_so (Let b) = b.1

  clause_step : (x : Clause-F Clause Expr NameSource Part Arm Bind DirectAttr FlworOf Order)
      (y : ClauseLayer known) → plain_clause y ≡ x → ClauseOf (roll-Clause x)
  clause_step x y is = subst (λ z. ClauseOf (roll-Clause z)) is
      (subst (λ (r : Binder). Mono r.source) (sym (rolled_clause (plain_clause y))) (clause_so y))

  -- the parts of a form, one after the other
  all_so : (ys : List known.Exprs)
      → Mono (all_in (map (names_broken_of fs) (map (λ y. y.0) ys)))
  all_so ys = all_mono (names_broken_of fs) ys

  both_so : (a b : known.Exprs) → Mono (two (names_broken_of fs a.0) (names_broken_of fs b.0))
  both_so a b = two_mono (names_broken_of fs a.0) (names_broken_of fs b.0) a.1 b.1

  named_so : (n : known.Names) (e : known.Exprs)
      → Mono (two (name_broken fs n.0) (names_broken_of fs e.0))
  named_so n e = two_mono (name_broken fs n.0) (names_broken_of fs e.0) n.1 e.1

  expr_so : (y : ExprLayer known) → Mono (expr_value (plain_expr y))
  expr_so (Int n) = none_mono
  expr_so (Str t) = none_mono
  expr_so (Var name) = variable_mono name
  expr_so Context = none_mono
  expr_so Root = none_mono
  expr_so (Comma all) = all_so all
  expr_so (Or all) = all_so all
  expr_so (And all) = all_so all
  expr_so (If arms other) = two_mono _ _ (all_mono (arm_broken fs) arms) other.1
  expr_so (Flwor f) = f.1
  expr_so (Quant every binds test) = bound_mono (map (bind_binder fs) (map (λ y. y.0) binds))
      (names_broken_of fs test.0) (binders_mono (bind_binder fs) binds) test.1
  expr_so (General op a b) = both_so a b
  expr_so (Value op a b) = both_so a b
  expr_so (Is a b) = both_so a b
  expr_so (Before a b) = both_so a b
  expr_so (After a b) = both_so a b
  expr_so (Range a b) = both_so a b
  expr_so (Arith op a b) = both_so a b
  expr_so (Minus a) = a.1
  expr_so (Plus a) = a.1
  expr_so (Union a b) = both_so a b
  expr_so (Intersect a b) = both_so a b
  expr_so (Except a b) = both_so a b
  expr_so (InstanceOf a kind) = a.1
  expr_so (Treat a kind) = a.1
  expr_so (Castable a kind empty) = a.1
  expr_so (Cast a kind empty) = a.1
  expr_so (Slash a b) = both_so a b
  expr_so (Step axis wanted tests) = all_so tests
  expr_so (Filter of tests) = two_mono _ _ of.1 (all_so tests)
  expr_so (Call name args) = always_mono _ _ (all_so args)
  expr_so (ElemC name content) = named_so name content
  expr_so (AttrC name content) = named_so name content
  expr_so (DocC content) = content.1
  expr_so (TextC content) = content.1
  expr_so (CommentC content) = content.1
  expr_so (PiC name content) = named_so name content
  expr_so (Direct name attrs parts) =
      two_mono _ _ (all_mono (attr_broken fs) attrs) (all_mono (part_broken fs) parts)

  expr_step : (x : Expr-F Clause Expr NameSource Part Arm Bind DirectAttr FlworOf Order)
      (y : ExprLayer known) → plain_expr y ≡ x → ExprOf (roll-Expr x)
  expr_step x y is = subst (λ z. ExprOf (roll-Expr z)) is
      (subst Mono (sym (rolled_expr (plain_expr y))) (expr_so y))

  name_so : (y : NameLayer known) → Mono (name_value (plain_name y))
  name_so (Fixed n) = none_mono
  name_so (Computed e) = e.1

  name_step : (x : NameSource-F Clause Expr NameSource Part Arm Bind DirectAttr FlworOf Order)
      (y : NameLayer known) → plain_name y ≡ x → NameSourceOf (roll-NameSource x)
  name_step x y is = subst (λ z. NameSourceOf (roll-NameSource z)) is
      (subst Mono (sym (rolled_name (plain_name y))) (name_so y))

  part_so : (y : PartLayer known) → Mono (part_value (plain_part y))
  part_so (Chars t) = none_mono
  part_so (Enclosed e) = e.1
  part_so (Child e) = e.1

  part_step : (x : Part-F Clause Expr NameSource Part Arm Bind DirectAttr FlworOf Order)
      (y : PartLayer known) → plain_part y ≡ x → PartOf (roll-Part x)
  part_step x y is = subst (λ z. PartOf (roll-Part z)) is
      (subst Mono (sym (rolled_part (plain_part y))) (part_so y))

  arm_so : (y : ArmLayer known) → Mono (arm_value (plain_arm y))
  arm_so y = two_mono (names_broken_of fs y.test.0) (names_broken_of fs y.then.0) y.test.1 y.then.1

  arm_step : (x : Arm-F Clause Expr NameSource Part Arm Bind DirectAttr FlworOf Order)
      (y : ArmLayer known) → plain_arm y ≡ x → ArmOf (roll-Arm x)
  arm_step x y is = subst (λ z. ArmOf (roll-Arm z)) is
      (subst Mono (sym (rolled_arm (plain_arm y))) (arm_so y))

  bind_so : (y : BindLayer known) → Mono (bind_value (plain_bind y)).source
  bind_so y = y.source.1

  bind_step : (x : Bind-F Clause Expr NameSource Part Arm Bind DirectAttr FlworOf Order)
      (y : BindLayer known) → plain_bind y ≡ x → BindOf (roll-Bind x)
  bind_step x y is = subst (λ z. BindOf (roll-Bind z)) is
      (subst (λ (r : Binder). Mono r.source) (sym (rolled_bind (plain_bind y))) (bind_so y))

  attr_so : (y : AttrLayer known) → Mono (attr_value (plain_attr y))
  attr_so y = all_mono (part_broken fs) y.parts

  attr_step : (x : DirectAttr-F Clause Expr NameSource Part Arm Bind DirectAttr FlworOf Order)
      (y : AttrLayer known) → plain_attr y ≡ x → DirectAttrOf (roll-DirectAttr x)
  attr_step x y is = subst (λ z. DirectAttrOf (roll-DirectAttr z)) is
      (subst Mono (sym (rolled_attr (plain_attr y))) (attr_so y))

  test_so : (o : Option known.Exprs) (f : FlworLayer known)
      → Mono (if_any (flwor_layer (plain_flwor (record f { test = o }))).test)
  test_so None f = none_mono
  test_so (Some e) f = e.1

  flwor_so : (y : FlworLayer known) → Mono (flwor_value (plain_flwor y))
  flwor_so y =
      let f = flwor_layer (plain_flwor y) in
      let orders = all_in (map (order_broken fs) (map (λ o. o.0) y.orders)) in
      let body = names_broken_of fs y.body.0 in
      bound_mono (map (clause_binder fs) (map (λ c. c.0) y.clauses)) (two (if_any f.test) (two orders body))
      (binders_mono (clause_binder fs) y.clauses)
      (two_mono (if_any f.test) (two orders body) (test_so y.test y)
      (two_mono orders body (all_mono (order_broken fs) y.orders) y.body.1))

  flwor_step : (x : Flwor-F Clause Expr NameSource Part Arm Bind DirectAttr FlworOf Order)
      (y : FlworLayer known) → plain_flwor y ≡ x → FlworKeeps (roll-Flwor x)
  flwor_step x y is = subst (λ z. FlworKeeps (roll-Flwor z)) is
      (subst Mono (sym (rolled_flwor (plain_flwor y))) (flwor_so y))

  order_so : (y : OrderLayer known) → Mono (order_value (plain_order y))
  order_so y = y.key.1

  order_step : (x : Order-F Clause Expr NameSource Part Arm Bind DirectAttr FlworOf Order)
      (y : OrderLayer known) → plain_order y ≡ x → OrderOf (roll-Order x)
  order_step x y is = subst (λ z. OrderOf (roll-Order z)) is
      (subst Mono (sym (rolled_order (plain_order y))) (order_so y))

  -- an expression that keeps to its names in a scope does so in a wider one
  pub names_mono : (e : Expr) → Mono (names_broken_of fs e)
  names_mono = ind-Expr ClauseOf ExprOf NameSourceOf PartOf ArmOf BindOf DirectAttrOf FlworKeeps OrderOf
      clause_step expr_step name_step part_step arm_step bind_step attr_step flwor_step order_step
