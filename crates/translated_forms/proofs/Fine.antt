-- Expressions that are regular and nest so many levels at most: one rule a form.
use Rattle.std.proofs.Common.{◌≡◌, ◌∙◌, ◌≤◌, ℕ, suc, List, [], ◌∷◌, length, map, refl, ap, arith}
use Rattle.std.proofs.lemmas.Bool.{and_from, ne_eqb, le-leb}
use Rattle.std.specs.Prelude.{Bool, true, false, not, ◌&&◌, ◌==◌, nat_le, Some, None, pos}
use Rattle.xt_names.specs.declared.kinds.AtomType.{AtomType}
use Rattle.xt_names.specs.declared.names.ExprName.{ExprName}
use Rattle.xt_names.specs.declared.names.Name.{Name}
use Rattle.xt_types.specs.Regular.{is_regular_test, is_regular_type}
use Rattle.xt_types.specs.declared.axes.Axis.{Axis}
use Rattle.xt_types.specs.declared.node_tests.Test.{Test}
use Rattle.xt_types.specs.declared.types.SeqType.{SeqType}
use Rattle.xt_names.specs.declared.kinds.CompareOp.{CompareOp}
use Rattle.xt_names.specs.declared.kinds.ArithOp.{ArithOp}
use Rattle.xt_forms.specs.Nest.{nest_of, arm_nest_of, clause_nest_of, bind_nest_of}
use Rattle.xt_forms.specs.Nest.{order_nest_of, name_nest_of}
use Rattle.xt_forms.specs.Regular.{every, every_regular, is_cast_type, is_cast_name, expr_facts_of, is_regular_kind}
use Rattle.xt_forms.specs.Regular.{is_regular_arm, is_regular_clause, is_regular_bind}
use Rattle.xt_forms.specs.Regular.{is_regular_order, name_facts_of, is_regular_expr}
use Rattle.xt_syntax.specs.declared.exprs.Expr.{Expr}
use Rattle.xt_syntax.specs.declared.exprs.Arm.{Arm}
use Rattle.xt_syntax.specs.declared.exprs.Bind.{Bind}
use Rattle.xt_syntax.specs.declared.exprs.Clause.{Clause}
use Rattle.xt_syntax.specs.declared.exprs.Order.{Order}
use Rattle.xt_syntax.specs.declared.exprs.NameSource.{NameSource}
use Rattle.xt_syntax.specs.declared.exprs.Clause.TheOpen.{Int, Str, Var, Context, Root, Comma, Or}
use Rattle.xt_syntax.specs.declared.exprs.Clause.TheOpen.{General, Arith, Union}
use Rattle.xt_syntax.specs.declared.exprs.Clause.TheOpen.{InstanceOf, Treat, Castable, Cast, Slash}
use Rattle.xt_syntax.specs.declared.exprs.Clause.TheOpen.{Step, Filter, Call, ElemC, AttrC, DocC}
use Rattle.xt_syntax.specs.declared.exprs.Clause.TheOpen.{TextC, CommentC, PiC, For, Let, Fixed}
use Rattle.xt_syntax.specs.declared.exprs.Clause.TheOpen.{Computed, Arm-F, Bind-F, Order-F}
use Rattle.xt_syntax.specs.declared.exprs.Clause.TheViews.{roll-Expr}
use Rattle.xt_syntax.specs.declared.exprs.Clause.TheViews.{roll-NameSource}
use Rattle.carried_exprs.specs.Forms.{ExprForm}
use Rattle.carried_exprs.specs.Sights.{variable_of, nothing}
use Rattle.carried_exprs.proofs.NestRolled.{nest_expr_rolled, nest_arm_rolled, nest_bind_rolled}
use Rattle.carried_exprs.proofs.NestRolled.{nest_order_rolled}
use Rattle.carried_exprs.proofs.NestRolled.{nest_clause_rolled, nest_name_rolled}
use Rattle.carried_exprs.proofs.RegularRolled.{regular_expr_value, regular_expr_rolled}
use Rattle.carried_exprs.proofs.RegularRolled.{regular_arm_rolled, regular_bind_rolled}
use Rattle.carried_exprs.proofs.RegularRolled.{regular_order_rolled}
use Rattle.carried_exprs.proofs.RegularRolled.{regular_clause_rolled, regular_name_rolled}
use Rattle.translated_forms.specs.Forms.{bind_of, let_clause, for_clause, for_at_clause}
use Rattle.translated_forms.specs.Forms.{arm_of, order_of}
use Rattle.xt_names.specs.Lists.{greatest}

pub record IsFine {A : Type 0} (nest : A → ℕ) (regular : A → Bool) (n : ℕ) (x : A) : Type 0 where
  pub nests : nest x ≤ n
  pub is_regular : regular x ≡ true

abbrev pub Fine : ℕ → Expr → Type 0
Fine n e = IsFine nest_of is_regular_expr n e

abbrev pub FineArm : ℕ → Arm → Type 0
FineArm n a = IsFine arm_nest_of is_regular_arm n a

abbrev pub FineClause : ℕ → Clause → Type 0
FineClause n c = IsFine clause_nest_of is_regular_clause n c

abbrev pub FineBind : ℕ → Bind → Type 0
FineBind n b = IsFine bind_nest_of is_regular_bind n b

abbrev pub FineOrder : ℕ → Order → Type 0
FineOrder n o = IsFine order_nest_of is_regular_order n o

abbrev pub is_regular_name : NameSource → Bool
is_regular_name s = (name_facts_of s).regular

abbrev pub FineName : ℕ → NameSource → Type 0
FineName n s = IsFine name_nest_of is_regular_name n s

-- of a list
pub data Every {A : Type 0} (P : A → Type 0) : List A → Type 0 where
  none : Every P []
  more : {x : A} {xs : List A} (first : P x) (rest : Every P xs) → Every P (x ∷ xs)

pub greatest_fine : {A : Type 0} (nest : A → ℕ) (regular : A → Bool) (n : ℕ) (xs : List A) →
    Every (IsFine nest regular n) xs → greatest (map nest xs) ≤ n
greatest_fine nest regular n [] none = omega arith
greatest_fine nest regular n (x ∷ xs) (more h rest) =
    let i = h.nests in let g = greatest_fine nest regular n xs rest in omega arith

pub every_fine : {A : Type 0} (nest : A → ℕ) (regular : A → Bool) (n : ℕ) (xs : List A) →
    Every (IsFine nest regular n) xs → every (map regular xs) ≡ true
every_fine nest regular n [] none = refl
every_fine nest regular n (x ∷ xs) (more h rest) =
    and_from (regular x) (every (map regular xs)) h.is_regular (every_fine nest regular n xs rest)

pub all_regular : (n : ℕ) (es : List Expr) → Every (Fine n) es →
    every_regular (map expr_facts_of es) ≡ true
all_regular n [] none = refl
all_regular n (e ∷ es) (more h rest) =
    and_from (is_regular_expr e) (every_regular (map expr_facts_of es)) h.is_regular
    (all_regular n es rest)

-- at more levels
pub higher : {A : Type 0} {nest : A → ℕ} {regular : A → Bool} {n : ℕ} {x : A} (m : ℕ) → n ≤ m →
    IsFine nest regular n x → IsFine nest regular m x
higher {A} {nest} {regular} {n} {x} m up h =
    let i = h.nests in record { nests = omega arith; is_regular = h.is_regular }

pub all_higher : {A : Type 0} {nest : A → ℕ} {regular : A → Bool} {n : ℕ} {xs : List A} (m : ℕ) →
    n ≤ m → Every (IsFine nest regular n) xs → Every (IsFine nest regular m) xs
all_higher m up none = none
all_higher m up (more h rest) = more (higher m up h) (all_higher m up rest)

-- a form of which this is known
pub fine_form : (n : ℕ) (x : ExprForm) → nest_of (roll-Expr x) ≤ n →
    (regular_expr_value x).regular ≡ true → Fine n (roll-Expr x)
fine_form n x nests regular = record {
  nests = nests;
  is_regular = ap (λ f. f.regular) (regular_expr_rolled x) ∙ regular;
}

-- leaves
pub fine_text : (t : List ℕ) → Fine 1 (roll-Expr (Str t))
fine_text t = let g = nest_expr_rolled (Str t) in fine_form 1 (Str t) (omega arith) refl

pub fine_one : Fine 1 (roll-Expr (Int (pos 1)))
fine_one = let g = nest_expr_rolled (Int (pos 1)) in fine_form 1 (Int (pos 1)) (omega arith) refl

pub fine_variable : (v : ExprName) → Fine 1 (variable_of v)
fine_variable v = let g = nest_expr_rolled (Var v) in fine_form 1 (Var v) (omega arith) refl

pub fine_context : Fine 1 (roll-Expr Context)
fine_context = let g = nest_expr_rolled Context in fine_form 1 Context (omega arith) refl

pub fine_root : Fine 1 (roll-Expr Root)
fine_root = let g = nest_expr_rolled Root in fine_form 1 Root (omega arith) refl

pub fine_nothing : Fine 1 nothing
fine_nothing = let g = nest_expr_rolled (Comma []) in fine_form 1 (Comma []) (omega arith) refl

-- how long lists are
pub not_one : (n : ℕ) → not (suc (suc n) == 1) ≡ true
not_one n = ap not (ne_eqb (suc (suc n)) 1 (λ h. omega arith))

pub not_none : (n : ℕ) → not (suc n == 0) ≡ true
not_none n = ap not (ne_eqb (suc n) 0 (λ h. omega arith))

two_or_more : (n : ℕ) → nat_le 2 (suc (suc n)) ≡ true
two_or_more n = le-leb 2 (suc (suc n)) (omega arith)

-- lists of items and of operands
pub fine_items : (n : ℕ) (e f : Expr) (es : List Expr) → Every (Fine n) (e ∷ f ∷ es) →
    Fine (suc n) (roll-Expr (Comma (e ∷ f ∷ es)))
fine_items n e f es h =
    let g = nest_expr_rolled (Comma (e ∷ f ∷ es)) in
    let i = greatest_fine nest_of is_regular_expr n (e ∷ f ∷ es) h in
    let l = length (map expr_facts_of es) in
    fine_form (suc n) (Comma (e ∷ f ∷ es)) (omega arith)
    (and_from (not (suc (suc l) == 1)) (every_regular (map expr_facts_of (e ∷ f ∷ es)))
    (not_one l) (all_regular n (e ∷ f ∷ es) h))

pub fine_or : (n : ℕ) (e f : Expr) (es : List Expr) → Every (Fine n) (e ∷ f ∷ es) →
    Fine (suc n) (roll-Expr (Or (e ∷ f ∷ es)))
fine_or n e f es h =
    let g = nest_expr_rolled (Or (e ∷ f ∷ es)) in
    let i = greatest_fine nest_of is_regular_expr n (e ∷ f ∷ es) h in
    let l = length (map expr_facts_of es) in
    fine_form (suc n) (Or (e ∷ f ∷ es)) (omega arith)
    (and_from (nat_le 2 (suc (suc l))) (every_regular (map expr_facts_of (e ∷ f ∷ es)))
    (two_or_more l) (all_regular n (e ∷ f ∷ es) h))

-- two parts, and one
pub fine_general : (n : ℕ) (op : CompareOp) (a b : Expr) → Fine n a → Fine n b →
    Fine (suc n) (roll-Expr (General op a b))
fine_general n op a b h i =
    let g = nest_expr_rolled (General op a b) in let j = h.nests in let k = i.nests in
    fine_form (suc n) (General op a b) (omega arith)
    (and_from (is_regular_expr a) (is_regular_expr b) h.is_regular i.is_regular)

pub fine_arith : (n : ℕ) (op : ArithOp) (a b : Expr) → Fine n a → Fine n b →
    Fine (suc n) (roll-Expr (Arith op a b))
fine_arith n op a b h i =
    let g = nest_expr_rolled (Arith op a b) in let j = h.nests in let k = i.nests in
    fine_form (suc n) (Arith op a b) (omega arith)
    (and_from (is_regular_expr a) (is_regular_expr b) h.is_regular i.is_regular)

pub fine_slash : (n : ℕ) (a b : Expr) → Fine n a → Fine n b → Fine (suc n) (roll-Expr (Slash a b))
fine_slash n a b h i =
    let g = nest_expr_rolled (Slash a b) in let j = h.nests in let k = i.nests in
    fine_form (suc n) (Slash a b) (omega arith)
    (and_from (is_regular_expr a) (is_regular_expr b) h.is_regular i.is_regular)

pub fine_union : (n : ℕ) (a b : Expr) → Fine n a → Fine n b → Fine (suc n) (roll-Expr (Union a b))
fine_union n a b h i =
    let g = nest_expr_rolled (Union a b) in let j = h.nests in let k = i.nests in
    fine_form (suc n) (Union a b) (omega arith)
    (and_from (is_regular_expr a) (is_regular_expr b) h.is_regular i.is_regular)

pub fine_instance : (n : ℕ) (a : Expr) (kind : SeqType) → Fine n a → is_regular_type kind ≡ true →
    Fine (suc n) (roll-Expr (InstanceOf a kind))
fine_instance n a kind h i =
    let g = nest_expr_rolled (InstanceOf a kind) in let j = h.nests in
    fine_form (suc n) (InstanceOf a kind) (omega arith)
    (and_from (is_regular_expr a) (is_regular_type kind) h.is_regular i)

pub fine_treat : (n : ℕ) (a : Expr) (kind : SeqType) → Fine n a → is_regular_type kind ≡ true →
    Fine (suc n) (roll-Expr (Treat a kind))
fine_treat n a kind h i =
    let g = nest_expr_rolled (Treat a kind) in let j = h.nests in
    fine_form (suc n) (Treat a kind) (omega arith)
    (and_from (is_regular_expr a) (is_regular_type kind) h.is_regular i)

pub fine_cast : (n : ℕ) (a : Expr) (kind : AtomType) (empty : Bool) → Fine n a →
    is_cast_type kind ≡ true → Fine (suc n) (roll-Expr (Cast a kind empty))
fine_cast n a kind empty h i =
    let g = nest_expr_rolled (Cast a kind empty) in let j = h.nests in
    fine_form (suc n) (Cast a kind empty) (omega arith)
    (and_from (is_regular_expr a) (is_cast_type kind) h.is_regular i)

pub fine_castable : (n : ℕ) (a : Expr) (kind : AtomType) (empty : Bool) → Fine n a →
    is_cast_type kind ≡ true → Fine (suc n) (roll-Expr (Castable a kind empty))
fine_castable n a kind empty h i =
    let g = nest_expr_rolled (Castable a kind empty) in let j = h.nests in
    fine_form (suc n) (Castable a kind empty) (omega arith)
    (and_from (is_regular_expr a) (is_cast_type kind) h.is_regular i)

-- steps, predicates and calls
pub fine_step : (axis : Axis) (wanted : Test) → is_regular_test wanted ≡ true →
    Fine 1 (roll-Expr (Step axis wanted []))
fine_step axis wanted h =
    let g = nest_expr_rolled (Step axis wanted []) in
    fine_form 1 (Step axis wanted []) (omega arith) (and_from (is_regular_test wanted) true h refl)

pub fine_filter : (n : ℕ) (a e : Expr) (es : List Expr) → Fine n a → Every (Fine n) (e ∷ es) →
    Fine (suc n) (roll-Expr (Filter a (e ∷ es)))
fine_filter n a e es h i =
    let g = nest_expr_rolled (Filter a (e ∷ es)) in let j = h.nests in
    let k = greatest_fine nest_of is_regular_expr n (e ∷ es) i in
    let l = length (map expr_facts_of es) in
    fine_form (suc n) (Filter a (e ∷ es)) (omega arith)
    (and_from (is_regular_expr a && not (suc l == 0)) (every_regular (map expr_facts_of (e ∷ es)))
    (and_from (is_regular_expr a) (not (suc l == 0)) h.is_regular (not_none l))
    (all_regular n (e ∷ es) i))

pub fine_call : (n : ℕ) (name : ExprName) (args : List Expr) → is_cast_name name ≡ false →
    Every (Fine n) args → Fine (suc n) (roll-Expr (Call name args))
fine_call n name args h i =
    let g = nest_expr_rolled (Call name args) in
    let k = greatest_fine nest_of is_regular_expr n args i in
    fine_form (suc n) (Call name args) (omega arith)
    (and_from (not (is_cast_name name)) (every_regular (map expr_facts_of args))
    (ap not h) (all_regular n args i))

-- constructors
pub fine_document : (n : ℕ) (a : Expr) → Fine n a → Fine (suc n) (roll-Expr (DocC a))
fine_document n a h =
    let g = nest_expr_rolled (DocC a) in let j = h.nests in
    fine_form (suc n) (DocC a) (omega arith) h.is_regular

pub fine_text_node : (n : ℕ) (a : Expr) → Fine n a → Fine (suc n) (roll-Expr (TextC a))
fine_text_node n a h =
    let g = nest_expr_rolled (TextC a) in let j = h.nests in
    fine_form (suc n) (TextC a) (omega arith) h.is_regular

pub fine_comment : (n : ℕ) (a : Expr) → Fine n a → Fine (suc n) (roll-Expr (CommentC a))
fine_comment n a h =
    let g = nest_expr_rolled (CommentC a) in let j = h.nests in
    fine_form (suc n) (CommentC a) (omega arith) h.is_regular

pub fine_element : (n : ℕ) (s : NameSource) (a : Expr) → FineName n s → Fine n a →
    Fine (suc n) (roll-Expr (ElemC s a))
fine_element n s a h i =
    let g = nest_expr_rolled (ElemC s a) in let j = h.nests in let k = i.nests in
    fine_form (suc n) (ElemC s a) (omega arith)
    (and_from (is_regular_name s) (is_regular_expr a) h.is_regular i.is_regular)

pub fine_attribute : (n : ℕ) (s : NameSource) (a : Expr) → FineName n s → Fine n a →
    Fine (suc n) (roll-Expr (AttrC s a))
fine_attribute n s a h i =
    let g = nest_expr_rolled (AttrC s a) in let j = h.nests in let k = i.nests in
    fine_form (suc n) (AttrC s a) (omega arith)
    (and_from (is_regular_name s) (is_regular_expr a) h.is_regular i.is_regular)

pub fine_pi : (n : ℕ) (s : NameSource) (a : Expr) → FineName n s → (name_facts_of s).is_bare ≡ true →
    Fine n a → Fine (suc n) (roll-Expr (PiC s a))
fine_pi n s a h b i =
    let g = nest_expr_rolled (PiC s a) in let j = h.nests in let k = i.nests in
    fine_form (suc n) (PiC s a) (omega arith)
    (and_from (is_regular_name s && (name_facts_of s).is_bare) (is_regular_expr a)
    (and_from (is_regular_name s) (name_facts_of s).is_bare h.is_regular b) i.is_regular)

pub fine_fixed : (n : ℕ) (name : Name) → FineName n (roll-NameSource (Fixed name))
fine_fixed n name =
    let g = nest_name_rolled (Fixed name) in
    record { nests = omega arith; is_regular = ap (λ f. f.regular) (regular_name_rolled (Fixed name)) }

pub fine_computed : (n : ℕ) (e : Expr) → Fine n e → FineName n (roll-NameSource (Computed e))
fine_computed n e h =
    let g = nest_name_rolled (Computed e) in let i = h.nests in record {
      nests = omega arith;
      is_regular = ap (λ f. f.regular) (regular_name_rolled (Computed e)) ∙ h.is_regular;
    }

-- clauses, arms and keys of an order
pub fine_bind : (n : ℕ) (v : ExprName) (e : Expr) → Fine n e → FineBind n (bind_of v e)
unfolding is_regular_kind
fine_bind n v e h =
    let x : Bind-F Clause Expr NameSource _ Arm Bind _ _ Order = record { var = v; kind = None; source = e } in
    let g = nest_bind_rolled x in let i = h.nests in
    record { nests = omega arith; is_regular = regular_bind_rolled x ∙ h.is_regular }

pub fine_let : (n : ℕ) (v : ExprName) (e : Expr) → Fine n e → FineClause n (let_clause v e)
fine_let n v e h =
    let b = fine_bind n v e h in let g = nest_clause_rolled (Let (bind_of v e)) in let i = b.nests in
    record { nests = omega arith; is_regular = regular_clause_rolled (Let (bind_of v e)) ∙ b.is_regular }

pub fine_for : (n : ℕ) (v : ExprName) (e : Expr) → Fine n e → FineClause n (for_clause v e)
fine_for n v e h =
    let b = fine_bind n v e h in let g = nest_clause_rolled (For (bind_of v e) None) in
    let i = b.nests in record {
      nests = omega arith;
      is_regular = regular_clause_rolled (For (bind_of v e) None) ∙ b.is_regular;
    }

pub fine_for_at : (n : ℕ) (v p : ExprName) (e : Expr) → Fine n e → FineClause n (for_at_clause v p e)
fine_for_at n v p e h =
    let b = fine_bind n v e h in let g = nest_clause_rolled (For (bind_of v e) (Some p)) in
    let i = b.nests in record {
      nests = omega arith;
      is_regular = regular_clause_rolled (For (bind_of v e) (Some p)) ∙ b.is_regular;
    }

pub fine_arm : (n : ℕ) (a b : Expr) → Fine n a → Fine n b → FineArm n (arm_of (a, b))
fine_arm n a b h i =
    let x : Arm-F Clause Expr NameSource _ Arm Bind _ _ Order = record { test = a; then = b } in
    let g = nest_arm_rolled x in let j = h.nests in let k = i.nests in record {
      nests = omega arith;
      is_regular = regular_arm_rolled x
          ∙ and_from (is_regular_expr a) (is_regular_expr b) h.is_regular i.is_regular;
    }

pub fine_order : (n : ℕ) (a : Expr) (descending : Bool) → Fine n a →
    FineOrder n (order_of a descending)
fine_order n a descending h =
    let x : Order-F Clause Expr NameSource _ Arm Bind _ _ Order = record { key = a; descending = descending } in
    let g = nest_order_rolled x in let j = h.nests in
    record { nests = omega arith; is_regular = regular_order_rolled x ∙ h.is_regular }
