-- What nests no deeper than one number nests no deeper than a greater one.
use Rattle.std.proofs.Common.{◌≡◌, ℕ, ◌≤◌, max, List, [], ◌∷◌, Option, Some, None, arith}
use Rattle.expr_terms.specs.Nest.{raw_nest_of}
use Rattle.expr_raws.specs.PathRaws.Forms.{Form}
use Rattle.expr_raws.specs.ControlRaws.Operators.{ArmForm}
use Rattle.expr_raws.specs.ControlRaws.Bindings.{BindForm, ClauseForm, OrderForm}
use Rattle.expr_raws.specs.ElementRaws.Direct.{PartForm, characters, enclosed, child, AttrForm}
use Rattle.raw_laws.proofs.NestRaws.Within.{AllWithin, wider}
use Rattle.raw_laws.proofs.NestRaws.Operators.{AllArms}
use Rattle.raw_laws.proofs.NestRaws.Bindings.{BindWithin, AllBinds, AllClauses, TestWithin, AllOrders}
use Rattle.raw_laws.proofs.NestRaws.Elements.{PartWithin, AllParts, AllAttrs}

pub one_less : (m n : ℕ) → m ≤ max m n
one_less m n = omega arith

pub rest_less : (m n : ℕ) → n ≤ max m n
rest_less m n = omega arith

pub all_wider : (m n : ℕ) (fs : List Form) → m ≤ n → AllWithin m fs → AllWithin n fs
all_wider m n [] h a = tt
all_wider m n (f ∷ fs) h a = (wider m n f.raw h a.0, all_wider m n fs h a.1)

pub arms_wider : (m n : ℕ) (fs : List ArmForm) → m ≤ n → AllArms m fs → AllArms n fs
arms_wider m n [] h a = tt
arms_wider m n (f ∷ fs) h a = (
  (wider m n f.test.raw h a.0.0, wider m n f.first.raw h a.0.1),
  arms_wider m n fs h a.1,
)

pub bind_wider : (m n : ℕ) (f : BindForm) → m ≤ n → BindWithin m f → BindWithin n f
bind_wider m n f h b = record {
  name = b.name;
  kind = b.kind;
  source = λ c. wider m n f.source.raw h (b.source c);
}

pub binds_wider : (m n : ℕ) (fs : List BindForm) → m ≤ n → AllBinds m fs → AllBinds n fs
binds_wider m n [] h a = tt
binds_wider m n (f ∷ fs) h a = (bind_wider m n f h a.0, binds_wider m n fs h a.1)

pub part_wider : (m n : ℕ) (f : PartForm) → m ≤ n → PartWithin m f → PartWithin n f
part_wider m n (characters cs) h a = tt
part_wider m n (enclosed f) h a = λ c. wider m n f.raw h (a c)
part_wider m n (child f) h a = λ c. wider m n f.raw h (a c)

pub parts_wider : (m n : ℕ) (fs : List PartForm) → m ≤ n → AllParts m fs → AllParts n fs
parts_wider m n [] h a = tt
parts_wider m n (f ∷ fs) h a = (part_wider m n f h a.0, parts_wider m n fs h a.1)

pub attrs_wider : (m n : ℕ) (fs : List AttrForm) → m ≤ n → AllAttrs m fs → AllAttrs n fs
attrs_wider m n [] h a = tt
attrs_wider m n (f ∷ fs) h a = (parts_wider m n f.parts h a.0, attrs_wider m n fs h a.1)

pub clauses_wider : (m n : ℕ) (fs : List ClauseForm) → m ≤ n → AllClauses m fs → AllClauses n fs
clauses_wider m n [] h a = tt
clauses_wider m n (f ∷ fs) h a = (
  λ c.
      let b : raw_nest_of f.raw ≤ m = a.0 c in
      omega arith,
  clauses_wider m n fs h a.1,
)

pub test_wider : (m n : ℕ) (o : Option Form) → m ≤ n → TestWithin m o → TestWithin n o
test_wider m n None h a = tt
test_wider m n (Some f) h a = wider m n f.raw h a

pub orders_wider : (m n : ℕ) (fs : List OrderForm) → m ≤ n → AllOrders m fs → AllOrders n fs
orders_wider m n [] h a = tt
orders_wider m n (f ∷ fs) h a =
    (λ c. wider m n f.key.raw h (a.0 c), orders_wider m n fs h a.1)
