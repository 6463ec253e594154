-- The rules of a form are those of its parts.
use Rattle.std.proofs.Common.{◌≡◌, List, ◌++◌, Bool, Option, Some, None, ◌⊎◌, inl, inr, length, map, refl, ap, sym, ◌∙◌}
use Rattle.std.proofs.lemmas.List.{length-map}
use Rattle.std.specs.Prelude.{option_map}
use Rattle.xt_names.specs.declared.codes.Code.{Code}
use Rattle.xt_names.specs.declared.names.Name.{Name}
use Rattle.xt_names.specs.declared.names.ExprName.{ExprName}
use Rattle.xt_names.specs.declared.kinds.CompareOp.{CompareOp}
use Rattle.xt_names.specs.declared.kinds.ArithOp.{ArithOp}
use Rattle.xt_syntax.specs.declared.exprs.Expr.{Expr}
use Rattle.xt_syntax.specs.declared.exprs.Arm.{Arm}
use Rattle.xt_syntax.specs.declared.exprs.Bind.{Bind}
use Rattle.xt_syntax.specs.declared.exprs.Clause.{Clause}
use Rattle.xt_syntax.specs.declared.exprs.Order.{Order}
use Rattle.xt_syntax.specs.declared.exprs.Flwor.{Flwor as FlworOf}
use Rattle.xt_syntax.specs.declared.exprs.NameSource.{NameSource}
use Rattle.xt_syntax.specs.declared.exprs.DirectAttr.{DirectAttr}
use Rattle.xt_syntax.specs.declared.exprs.Part.{Part}
use Rattle.xt_syntax.specs.declared.exprs.Expr.TheVariants.{If, Quant, Filter, Call, Direct, ElemC, AttrC, PiC, General, Value, Arith, Is, Before, After, Range, Union, Intersect, Except, Slash, rolls-If, rolls-Quant, rolls-Filter, rolls-Call, rolls-Direct, rolls-ElemC, rolls-AttrC, rolls-PiC, rolls-General, rolls-Value, rolls-Arith, rolls-Is, rolls-Before, rolls-After, rolls-Range, rolls-Union, rolls-Intersect, rolls-Except, rolls-Slash}
use Rattle.xt_syntax.specs.declared.exprs.Clause.TheViews.{out-Arm, out-Flwor}
use Rattle.xt_syntax.specs.declared.exprs.Clause.TheFolds.{fold-roll-Expr, fold_out-Arm, fold_out-Flwor, map-Flwor}
use Rattle.xt_syntax.specs.declared.exprs.Clause.TheOpen.{Flwor-F}
use Rattle.xt_syntax.specs.Layers.{FlworLayer}
use Rattle.name_rules.specs.declared.functions.Signature.{Signature}
use Rattle.name_rules.specs.Broken.{Rule, Binder, rules, flwor_rule, names_broken_of, arm_broken, bind_binder, clause_binder, order_broken, name_broken, attr_broken, part_broken, flwor_broken, all_in, if_any, binders_in, behind, function_in}

pub of_If : (fs : List Signature) (arms : List Arm) (other : Expr) (s : List ExprName) → names_broken_of fs (If arms other) s ≡ all_in (map (arm_broken fs) arms) s ++ names_broken_of fs other s
of_If fs arms other s = ap (λ e'. names_broken_of fs e' s) (sym (rolls-If arms other)) ∙ ap (λ (r : Rule). r s) (fold-roll-Expr _ _ _ _ _ _ _ _ _ _ _ _ _ _ _ _ _ _ _)

pub of_Quant : (fs : List Signature) (every : Bool) (binds : List Bind) (e : Expr) (s : List ExprName) → names_broken_of fs (Quant every binds e) s ≡ binders_in (map (bind_binder fs) binds) s ++ names_broken_of fs e (behind (map (bind_binder fs) binds) s)
of_Quant fs every binds e s = ap (λ e'. names_broken_of fs e' s) (sym (rolls-Quant every binds e)) ∙ ap (λ (r : Rule). r s) (fold-roll-Expr _ _ _ _ _ _ _ _ _ _ _ _ _ _ _ _ _ _ _)

pub of_Filter : (fs : List Signature) (of : Expr) (tests : List Expr) (s : List ExprName) → names_broken_of fs (Filter of tests) s ≡ names_broken_of fs of s ++ all_in (map (names_broken_of fs) tests) s
of_Filter fs of tests s = ap (λ e'. names_broken_of fs e' s) (sym (rolls-Filter of tests)) ∙ ap (λ (r : Rule). r s) (fold-roll-Expr _ _ _ _ _ _ _ _ _ _ _ _ _ _ _ _ _ _ _)

pub of_Call : (fs : List Signature) (name : ExprName) (args : List Expr) (s : List ExprName) → names_broken_of fs (Call name args) s ≡ function_in fs name (length args) ++ all_in (map (names_broken_of fs) args) s
of_Call fs name args s =
    ap (λ e'. names_broken_of fs e' s) (sym (rolls-Call name args)) ∙ ap (λ (r : Rule). r s) (fold-roll-Expr _ _ _ _ _ _ _ _ _ _ _ _ _ _ _ _ _ _ _)
    ∙ ap (λ n. function_in fs name n ++ all_in (map (names_broken_of fs) args) s) (length-map args (names_broken_of fs))

pub of_Direct : (fs : List Signature) (name : Name) (attrs : List DirectAttr) (parts : List Part) (s : List ExprName) → names_broken_of fs (Direct name attrs parts) s ≡ all_in (map (attr_broken fs) attrs) s ++ all_in (map (part_broken fs) parts) s
of_Direct fs name attrs parts s = ap (λ e'. names_broken_of fs e' s) (sym (rolls-Direct name attrs parts)) ∙ ap (λ (r : Rule). r s) (fold-roll-Expr _ _ _ _ _ _ _ _ _ _ _ _ _ _ _ _ _ _ _)

pub of_ElemC : (fs : List Signature) (name : NameSource) (content : Expr) (s : List ExprName) → names_broken_of fs (ElemC name content) s ≡ name_broken fs name s ++ names_broken_of fs content s
of_ElemC fs name content s = ap (λ e'. names_broken_of fs e' s) (sym (rolls-ElemC name content)) ∙ ap (λ (r : Rule). r s) (fold-roll-Expr _ _ _ _ _ _ _ _ _ _ _ _ _ _ _ _ _ _ _)

pub of_AttrC : (fs : List Signature) (name : NameSource) (content : Expr) (s : List ExprName) → names_broken_of fs (AttrC name content) s ≡ name_broken fs name s ++ names_broken_of fs content s
of_AttrC fs name content s = ap (λ e'. names_broken_of fs e' s) (sym (rolls-AttrC name content)) ∙ ap (λ (r : Rule). r s) (fold-roll-Expr _ _ _ _ _ _ _ _ _ _ _ _ _ _ _ _ _ _ _)

pub of_PiC : (fs : List Signature) (name : NameSource) (content : Expr) (s : List ExprName) → names_broken_of fs (PiC name content) s ≡ name_broken fs name s ++ names_broken_of fs content s
of_PiC fs name content s = ap (λ e'. names_broken_of fs e' s) (sym (rolls-PiC name content)) ∙ ap (λ (r : Rule). r s) (fold-roll-Expr _ _ _ _ _ _ _ _ _ _ _ _ _ _ _ _ _ _ _)

pub of_General : (fs : List Signature) (op : CompareOp) (a b : Expr) (s : List ExprName) → names_broken_of fs (General op a b) s ≡ names_broken_of fs a s ++ names_broken_of fs b s
of_General fs op a b s = ap (λ e'. names_broken_of fs e' s) (sym (rolls-General op a b)) ∙ ap (λ (r : Rule). r s) (fold-roll-Expr _ _ _ _ _ _ _ _ _ _ _ _ _ _ _ _ _ _ _)

pub of_Value : (fs : List Signature) (op : CompareOp) (a b : Expr) (s : List ExprName) → names_broken_of fs (Value op a b) s ≡ names_broken_of fs a s ++ names_broken_of fs b s
of_Value fs op a b s = ap (λ e'. names_broken_of fs e' s) (sym (rolls-Value op a b)) ∙ ap (λ (r : Rule). r s) (fold-roll-Expr _ _ _ _ _ _ _ _ _ _ _ _ _ _ _ _ _ _ _)

pub of_Arith : (fs : List Signature) (op : ArithOp) (a b : Expr) (s : List ExprName) → names_broken_of fs (Arith op a b) s ≡ names_broken_of fs a s ++ names_broken_of fs b s
of_Arith fs op a b s = ap (λ e'. names_broken_of fs e' s) (sym (rolls-Arith op a b)) ∙ ap (λ (r : Rule). r s) (fold-roll-Expr _ _ _ _ _ _ _ _ _ _ _ _ _ _ _ _ _ _ _)

pub of_Is : (fs : List Signature) (a b : Expr) (s : List ExprName) → names_broken_of fs (Is a b) s ≡ names_broken_of fs a s ++ names_broken_of fs b s
of_Is fs a b s = ap (λ e'. names_broken_of fs e' s) (sym (rolls-Is a b)) ∙ ap (λ (r : Rule). r s) (fold-roll-Expr _ _ _ _ _ _ _ _ _ _ _ _ _ _ _ _ _ _ _)

pub of_Before : (fs : List Signature) (a b : Expr) (s : List ExprName) → names_broken_of fs (Before a b) s ≡ names_broken_of fs a s ++ names_broken_of fs b s
of_Before fs a b s = ap (λ e'. names_broken_of fs e' s) (sym (rolls-Before a b)) ∙ ap (λ (r : Rule). r s) (fold-roll-Expr _ _ _ _ _ _ _ _ _ _ _ _ _ _ _ _ _ _ _)

pub of_After : (fs : List Signature) (a b : Expr) (s : List ExprName) → names_broken_of fs (After a b) s ≡ names_broken_of fs a s ++ names_broken_of fs b s
of_After fs a b s = ap (λ e'. names_broken_of fs e' s) (sym (rolls-After a b)) ∙ ap (λ (r : Rule). r s) (fold-roll-Expr _ _ _ _ _ _ _ _ _ _ _ _ _ _ _ _ _ _ _)

pub of_Range : (fs : List Signature) (a b : Expr) (s : List ExprName) → names_broken_of fs (Range a b) s ≡ names_broken_of fs a s ++ names_broken_of fs b s
of_Range fs a b s = ap (λ e'. names_broken_of fs e' s) (sym (rolls-Range a b)) ∙ ap (λ (r : Rule). r s) (fold-roll-Expr _ _ _ _ _ _ _ _ _ _ _ _ _ _ _ _ _ _ _)

pub of_Union : (fs : List Signature) (a b : Expr) (s : List ExprName) → names_broken_of fs (Union a b) s ≡ names_broken_of fs a s ++ names_broken_of fs b s
of_Union fs a b s = ap (λ e'. names_broken_of fs e' s) (sym (rolls-Union a b)) ∙ ap (λ (r : Rule). r s) (fold-roll-Expr _ _ _ _ _ _ _ _ _ _ _ _ _ _ _ _ _ _ _)

pub of_Intersect : (fs : List Signature) (a b : Expr) (s : List ExprName) → names_broken_of fs (Intersect a b) s ≡ names_broken_of fs a s ++ names_broken_of fs b s
of_Intersect fs a b s = ap (λ e'. names_broken_of fs e' s) (sym (rolls-Intersect a b)) ∙ ap (λ (r : Rule). r s) (fold-roll-Expr _ _ _ _ _ _ _ _ _ _ _ _ _ _ _ _ _ _ _)

pub of_Except : (fs : List Signature) (a b : Expr) (s : List ExprName) → names_broken_of fs (Except a b) s ≡ names_broken_of fs a s ++ names_broken_of fs b s
of_Except fs a b s = ap (λ e'. names_broken_of fs e' s) (sym (rolls-Except a b)) ∙ ap (λ (r : Rule). r s) (fold-roll-Expr _ _ _ _ _ _ _ _ _ _ _ _ _ _ _ _ _ _ _)

pub of_Slash : (fs : List Signature) (a b : Expr) (s : List ExprName) → names_broken_of fs (Slash a b) s ≡ names_broken_of fs a s ++ names_broken_of fs b s
of_Slash fs a b s = ap (λ e'. names_broken_of fs e' s) (sym (rolls-Slash a b)) ∙ ap (λ (r : Rule). r s) (fold-roll-Expr _ _ _ _ _ _ _ _ _ _ _ _ _ _ _ _ _ _ _)

pub of_arm : (fs : List Signature) (a : Arm) (s : List ExprName) → arm_broken fs a s ≡ names_broken_of fs (out-Arm a).test s ++ names_broken_of fs (out-Arm a).then s
of_arm fs a s = ap (λ (r : Rule). r s) (fold_out-Arm _ _ _ _ _ _ _ _ _ _ _ _ _ _ _ _ _ _ _)

abbrev mapped : List Signature → Flwor-F Clause Expr NameSource Part Arm Bind DirectAttr FlworOf Order → FlworLayer rules
mapped fs = map-Flwor Clause Expr NameSource Part Arm Bind DirectAttr FlworOf Order Binder Rule Rule Rule Rule Binder Rule Rule Rule (clause_binder fs) (names_broken_of fs) (name_broken fs) (part_broken fs) (arm_broken fs) (bind_binder fs) (attr_broken fs) (flwor_broken fs) (order_broken fs)

test_at : (fs : List Signature) (x : Flwor-F Clause Expr NameSource Part Arm Bind DirectAttr FlworOf Order) (t : Option Expr) (s : List ExprName) → if_any (mapped fs (record x { test = t })).test s ≡ if_any (option_map (names_broken_of fs) t) s
test_at fs x None s = refl
test_at fs x (Some e) s = refl

pub of_flwor : (fs : List Signature) (f : FlworOf) (s : List ExprName) →
    let inner = behind (map (clause_binder fs) (out-Flwor f).clauses) s in
    flwor_broken fs f s
    ≡ binders_in (map (clause_binder fs) (out-Flwor f).clauses) s
    ++ (if_any (option_map (names_broken_of fs) (out-Flwor f).test) inner ++ (all_in (map (order_broken fs) (out-Flwor f).orders) inner ++ names_broken_of fs (out-Flwor f).body inner))
of_flwor fs f s =
    let x = out-Flwor f in
    let inner = behind (map (clause_binder fs) x.clauses) s in
    let p : flwor_broken fs f ≡ flwor_rule (mapped fs x) = fold_out-Flwor _ _ _ _ _ _ _ _ _ _ _ _ _ _ _ _ _ _ f in
    ap (λ (r : Rule). r s) p
    ∙ ap (λ (t : List Code). binders_in (map (clause_binder fs) x.clauses) s ++ (t ++ (all_in (map (order_broken fs) x.orders) inner ++ names_broken_of fs x.body inner))) (test_at fs x x.test inner)

-- a form of two parts
abbrev pub HasTwoParts : Expr → Expr → Expr → Type 0
HasTwoParts e a b = ((x : CompareOp) × (e ≡ General x a b)) ⊎ (((x : CompareOp) × (e ≡ Value x a b)) ⊎ (((x : ArithOp) × (e ≡ Arith x a b)) ⊎ ((e ≡ Is a b) ⊎ ((e ≡ Before a b) ⊎ ((e ≡ After a b) ⊎ ((e ≡ Range a b) ⊎ ((e ≡ Union a b) ⊎ ((e ≡ Intersect a b) ⊎ ((e ≡ Except a b) ⊎ ((e ≡ Slash a b)))))))))))

pub of_two : (fs : List Signature) (e a b : Expr) (s : List ExprName) → HasTwoParts e a b → names_broken_of fs e s ≡ names_broken_of fs a s ++ names_broken_of fs b s
of_two fs e a b s h = elim h [ inl p ↦ rw p.1 (of_General fs p.0 a b s) | inr h0 ↦ elim h0 [ inl p ↦ rw p.1 (of_Value fs p.0 a b s) | inr h1 ↦ elim h1 [ inl p ↦ rw p.1 (of_Arith fs p.0 a b s) | inr h2 ↦ elim h2 [ inl p ↦ rw p (of_Is fs a b s) | inr h3 ↦ elim h3 [ inl p ↦ rw p (of_Before fs a b s) | inr h4 ↦ elim h4 [ inl p ↦ rw p (of_After fs a b s) | inr h5 ↦ elim h5 [ inl p ↦ rw p (of_Range fs a b s) | inr h6 ↦ elim h6 [ inl p ↦ rw p (of_Union fs a b s) | inr h7 ↦ elim h7 [ inl p ↦ rw p (of_Intersect fs a b s) | inr h8 ↦ elim h8 [ inl p ↦ rw p (of_Except fs a b s) | inr h9 ↦ rw h9 (of_Slash fs a b s) ] ] ] ] ] ] ] ] ] ]

-- a form of a name and content
abbrev pub HasName : Expr → NameSource → Expr → Type 0
HasName e name content = ((e ≡ ElemC name content)) ⊎ ((e ≡ AttrC name content) ⊎ (e ≡ PiC name content))

pub of_named : (fs : List Signature) (e : Expr) (name : NameSource) (content : Expr) (s : List ExprName) → HasName e name content → names_broken_of fs e s ≡ name_broken fs name s ++ names_broken_of fs content s
of_named fs e name content s h = elim h [ inl p ↦ rw p (of_ElemC fs name content s) | inr k ↦ elim k [ inl p ↦ rw p (of_AttrC fs name content s) | inr p ↦ rw p (of_PiC fs name content s) ] ]
