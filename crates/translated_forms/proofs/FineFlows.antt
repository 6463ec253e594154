-- Flows, conditions and quantifiers that are regular and nest so many levels at most.
use Rattle.std.proofs.Common.{◌≡◌, ◌∙◌, ◌≤◌, ℕ, suc, List, [], ◌∷◌, length, map, refl, ap, arith}
use Rattle.std.proofs.lemmas.Bool.{and_from}
use Rattle.std.specs.Prelude.{Bool, true, false, not, ◌&&◌, ◌||◌, ◌==◌, Option, Some, None}
use Rattle.xt_forms.specs.Nest.{arm_nest_of, clause_nest_of, bind_nest_of}
use Rattle.xt_forms.specs.Nest.{order_nest_of, flwor_nest_of}
use Rattle.xt_forms.specs.Regular.{every, expr_facts_of, is_regular_arm}
use Rattle.xt_forms.specs.Regular.{is_regular_clause, is_regular_bind, is_regular_order}
use Rattle.xt_forms.specs.Regular.{is_regular_flwor, is_regular_expr}
use Rattle.xt_syntax.specs.declared.exprs.Expr.{Expr}
use Rattle.xt_syntax.specs.declared.exprs.Arm.{Arm}
use Rattle.xt_syntax.specs.declared.exprs.Bind.{Bind}
use Rattle.xt_syntax.specs.declared.exprs.Clause.{Clause}
use Rattle.xt_syntax.specs.declared.exprs.Order.{Order}
use Rattle.xt_syntax.specs.declared.exprs.Flwor.{Flwor as FlworOf}
use Rattle.xt_syntax.specs.declared.exprs.NameSource.{NameSource}
use Rattle.xt_syntax.specs.declared.exprs.Part.{Part}
use Rattle.xt_syntax.specs.declared.exprs.DirectAttr.{DirectAttr}
use Rattle.xt_syntax.specs.declared.exprs.Clause.TheOpen.{If, Flwor, Quant, Flwor-F}
use Rattle.xt_syntax.specs.declared.exprs.Clause.TheViews.{roll-Expr, roll-Flwor}
use Rattle.carried_exprs.proofs.NestRolled.{nest_expr_rolled, nest_flwor_rolled}
use Rattle.carried_exprs.proofs.RegularRolled.{regular_flwor_rolled}
use Rattle.translated_forms.specs.Forms.{flow, flow_where, flow_ordered}
use Rattle.translated_forms.specs.Forms.{flow_or_body, if_many}
use Rattle.translated_forms.proofs.Fine.{Fine, FineArm, FineClause, FineBind, FineOrder}
use Rattle.translated_forms.proofs.Fine.{Every, greatest_fine, every_fine, higher, fine_form}
use Rattle.translated_forms.proofs.Fine.{not_none}

abbrev FlworForm : Type 0
FlworForm = Flwor-F Clause Expr NameSource Part Arm Bind DirectAttr FlworOf Order

abbrev flwor_form : List Clause → Option Expr → List Order → Bool → Expr → FlworForm
flwor_form clauses test orders stable body = record {
  clauses = clauses;
  test = test;
  orders = orders;
  stable = stable;
  body = body;
}

-- a flow of the parts of which this is known
whole_flow : (n : ℕ) (x : FlworForm) → flwor_nest_of (roll-Flwor x) ≤ n →
    is_regular_flwor (roll-Flwor x) ≡ true → Fine (suc n) (roll-Expr (Flwor (roll-Flwor x)))
whole_flow n x nests regular =
    let g = nest_expr_rolled (Flwor (roll-Flwor x)) in
    fine_form (suc n) (Flwor (roll-Flwor x)) (omega arith) regular

six : (a b c d e f : Bool) → a ≡ true → b ≡ true → c ≡ true → d ≡ true → e ≡ true → f ≡ true →
    (a && b && c && d && e && f) ≡ true
six a b c d e f p q r s t u =
    and_from (a && b && c && d && e) f
    (and_from (a && b && c && d) e
    (and_from (a && b && c) d (and_from (a && b) c (and_from a b p q) r) s) t) u

pub fine_flow : (n : ℕ) (c : Clause) (cs : List Clause) (body : Expr) →
    Every (FineClause n) (c ∷ cs) → Fine n body → Fine (suc n) (flow (c ∷ cs) body)
fine_flow n c cs body h i =
    let x = flwor_form (c ∷ cs) None [] false body in let l = length (map is_regular_clause cs) in
    let g = nest_flwor_rolled x in let j = i.nests in
    let k = greatest_fine clause_nest_of is_regular_clause n (c ∷ cs) h in
    whole_flow n x (omega arith)
    (regular_flwor_rolled x
    ∙ six (not (suc l == 0)) (every (map is_regular_clause (c ∷ cs))) true true true (is_regular_expr body)
    (not_none l) (every_fine clause_nest_of is_regular_clause n (c ∷ cs) h) refl refl refl
    i.is_regular)

pub fine_flow_where : (n : ℕ) (c : Clause) (cs : List Clause) (test body : Expr) →
    Every (FineClause n) (c ∷ cs) → Fine n test → Fine n body →
    Fine (suc n) (flow_where (c ∷ cs) test body)
fine_flow_where n c cs test body h t i =
    let x = flwor_form (c ∷ cs) (Some test) [] false body in
    let l = length (map is_regular_clause cs) in
    let g = nest_flwor_rolled x in let j = i.nests in let m = t.nests in
    let k = greatest_fine clause_nest_of is_regular_clause n (c ∷ cs) h in
    whole_flow n x (omega arith)
    (regular_flwor_rolled x
    ∙ six (not (suc l == 0)) (every (map is_regular_clause (c ∷ cs))) (is_regular_expr test) true true
    (is_regular_expr body) (not_none l) (every_fine clause_nest_of is_regular_clause n (c ∷ cs) h)
    t.is_regular refl refl i.is_regular)

true_or : (a b : Bool) → a ≡ true → (a || b) ≡ true
true_or true b h = refl
true_or false b h = absurd cc

pub fine_flow_ordered : (n : ℕ) (c : Clause) (cs : List Clause) (o : Order) (os : List Order)
    (body : Expr) → Every (FineClause n) (c ∷ cs) → Every (FineOrder n) (o ∷ os) → Fine n body →
    Fine (suc n) (flow_ordered (c ∷ cs) (o ∷ os) body)
fine_flow_ordered n c cs o os body h t i =
    let x = flwor_form (c ∷ cs) None (o ∷ os) true body in
    let l = length (map is_regular_clause cs) in let p = length (map is_regular_order os) in
    let g = nest_flwor_rolled x in let j = i.nests in
    let m = greatest_fine order_nest_of is_regular_order n (o ∷ os) t in
    let k = greatest_fine clause_nest_of is_regular_clause n (c ∷ cs) h in
    whole_flow n x (omega arith)
    (regular_flwor_rolled x
    ∙ six (not (suc l == 0)) (every (map is_regular_clause (c ∷ cs))) true (not (suc p == 0) || false)
    (every (map is_regular_order (o ∷ os))) (is_regular_expr body) (not_none l)
    (every_fine clause_nest_of is_regular_clause n (c ∷ cs) h) refl
    (true_or (not (suc p == 0)) false (not_none p))
    (every_fine order_nest_of is_regular_order n (o ∷ os) t) i.is_regular)

pub fine_flow_or_body : (n : ℕ) (cs : List Clause) (body : Expr) → Every (FineClause n) cs →
    Fine n body → Fine (suc n) (flow_or_body cs body)
unfolding flow_or_body
fine_flow_or_body n [] body h i = higher (suc n) (omega arith) i
fine_flow_or_body n (c ∷ cs) body h i = fine_flow n c cs body h i

-- conditions
abbrev pub NoIf : Expr → Type 0
NoIf e = (expr_facts_of e).is_if ≡ false

pub fine_if_many : (n : ℕ) (a : Arm) (arms : List Arm) (other : Expr) →
    Every (FineArm n) (a ∷ arms) → Fine n other → NoIf other → Fine (suc n) (if_many (a ∷ arms) other)
fine_if_many n a arms other h i plain =
    let g = nest_expr_rolled (If (a ∷ arms) other) in let j = i.nests in
    let l = length (map is_regular_arm arms) in
    let k = greatest_fine arm_nest_of is_regular_arm n (a ∷ arms) h in
    fine_form (suc n) (If (a ∷ arms) other) (omega arith)
    (and_from ((not (suc l == 0) && every (map is_regular_arm (a ∷ arms))) && is_regular_expr other)
    (not (expr_facts_of other).is_if)
    (and_from (not (suc l == 0) && every (map is_regular_arm (a ∷ arms))) (is_regular_expr other)
    (and_from (not (suc l == 0)) (every (map is_regular_arm (a ∷ arms))) (not_none l)
    (every_fine arm_nest_of is_regular_arm n (a ∷ arms) h)) i.is_regular) (ap not plain))

-- a quantifier over one variable, and over two
pub fine_some : (n : ℕ) (b : Bind) (bs : List Bind) (test : Expr) → Every (FineBind n) (b ∷ bs) →
    Fine n test → Fine (suc n) (roll-Expr (Quant false (b ∷ bs) test))
fine_some n b bs test h i =
    let g = nest_expr_rolled (Quant false (b ∷ bs) test) in let j = i.nests in
    let l = length (map is_regular_bind bs) in
    let k = greatest_fine bind_nest_of is_regular_bind n (b ∷ bs) h in
    fine_form (suc n) (Quant false (b ∷ bs) test) (omega arith)
    (and_from (not (suc l == 0) && every (map is_regular_bind (b ∷ bs))) (is_regular_expr test)
    (and_from (not (suc l == 0)) (every (map is_regular_bind (b ∷ bs))) (not_none l)
    (every_fine bind_nest_of is_regular_bind n (b ∷ bs) h)) i.is_regular)
