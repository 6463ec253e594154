-- Declarations one by one: their order, and how deep they nest.
use Rattle.std.proofs.Common.{◌≡◌, ◌<◌, ◌≤◌, ℕ, max, Bool, true, false, cond, List, [], ◌∷◌, ◌++◌}
use Rattle.std.proofs.Common.{refl, sym, ◌∙◌, ap, subst, arith, append_assoc, Option, Some, None}
use Rattle.std.proofs.Common.{option_map, option_and_then}
use Rattle.expr_terms.specs.declared.raws.Raw.{Raw}
use Rattle.query_grammar.specs.declared.declared.Declared.{Declared}
use Rattle.query_grammar.specs.declared.declared.Declared.TheVariants as declared
use Rattle.query_grammar.specs.declared.declared.RawQuery.{RawQuery}
use Rattle.query_grammar.specs.Machine.{behind, of_body}
use Rattle.query_reader.specs.QuerySteps.Stands.{nest_in}
use Rattle.query_texts.specs.declared.orders.Order.{Order}
use Rattle.query_texts.specs.declared.orders.Order.TheVariants.{First, Early, Late}
use Rattle.query_texts.specs.Orders.{placed, may_follow}
use Rattle.query_texts.specs.Texts.{declared_nest}
use Rattle.query_texts.specs.Standings.{behind_all, if_follows, AreKept}

abbrev Placing : Order → Declared → Option Order → Type 0
Placing o d None = (es : List Declared) → may_follow o (d ∷ es) ≡ false
Placing o d (Some p) = (es : List Declared) → may_follow o (d ∷ es) ≡ may_follow p es

placing : (o : Order) (d : Declared) → Placing o d (placed o d)
placing First (declared.Version t) = λ es. refl
placing First (declared.Setting n t) = λ es. refl
placing First (declared.Variable v w) = λ es. refl
placing First (declared.Function q ps k w) = λ es. refl
placing First _ = λ es. refl
placing Early (declared.Version t) = λ es. refl
placing Early (declared.Setting n t) = λ es. refl
placing Early (declared.Variable v w) = λ es. refl
placing Early (declared.Function q ps k w) = λ es. refl
placing Early _ = λ es. refl
placing Late (declared.Setting n t) = λ es. refl
placing Late (declared.Variable v w) = λ es. refl
placing Late (declared.Function q ps k w) = λ es. refl
placing Late _ = λ es. refl

-- what nests is a variable or a function
pub nests_late : (o : Order) (d : Declared) (k : ℕ) → k < nest_in d
    → (es : List Declared) → may_follow o (d ∷ es) ≡ may_follow Late es
nests_late First (declared.Variable v w) k h = λ es. refl
nests_late First (declared.Function q ps t w) k h = λ es. refl
nests_late First _ k h = absurd (omega (arith, h))
nests_late Early (declared.Variable v w) k h = λ es. refl
nests_late Early (declared.Function q ps t w) k h = λ es. refl
nests_late Early _ k h = absurd (omega (arith, h))
nests_late Late (declared.Variable v w) k h = λ es. refl
nests_late Late (declared.Function q ps t w) k h = λ es. refl
nests_late Late _ k h = absurd (omega (arith, h))

pub nest_append : (ds : List Declared) (d : Declared)
    → declared_nest (ds ++ d ∷ []) ≡ max (declared_nest ds) (nest_in d)
nest_append [] d = omega arith
nest_append (e ∷ ds) d = let h = nest_append ds d in omega (arith, h)

pub nest_all : (ds : List Declared) → declared_nest (ds ++ []) ≡ declared_nest ds
nest_all [] = refl
nest_all (e ∷ ds) = ap (max (nest_in e)) (nest_all ds)

-- one declaration more
moved_if : (b : Bool) (ds : List Declared) (d : Declared) (q : RawQuery)
    → option_map (behind_all ds) (cond b (Some (behind d q)) None)
    ≡ option_map (behind_all (ds ++ d ∷ [])) (cond b (Some q) None)
moved_if true ds d q =
    ap (λ z. Some (record { declared = z; body = q.body })) (sym (append_assoc ds (d ∷ [])
    q.declared))
moved_if false ds d q = refl

moved_on : (o p : Order) (ds : List Declared) (d : Declared) (r : Option RawQuery)
    → ((es : List Declared) → may_follow o (d ∷ es) ≡ may_follow p es)
    → option_map (behind_all ds) (option_and_then (if_follows o) (option_map (behind d) r))
    ≡ option_map (behind_all (ds ++ d ∷ [])) (option_and_then (if_follows p) r)
moved_on o p ds d None f = refl
moved_on o p ds d (Some q) f =
    ap (λ b. option_map (behind_all ds) (cond b (Some (behind d q)) None)) (f q.declared)
    ∙ moved_if (may_follow p q.declared) ds d q

stopped : (o : Order) (ds : List Declared) (d : Declared) (r : Option RawQuery)
    → ((es : List Declared) → may_follow o (d ∷ es) ≡ false)
    → option_map (behind_all ds) (option_and_then (if_follows o) (option_map (behind d) r)) ≡ None
stopped o ds d None f = refl
stopped o ds d (Some q) f =
    ap (λ b. option_map (behind_all ds) (cond b (Some (behind d q)) None)) (f q.declared)

pub placed_on : (o p : Order) (ds : List Declared) (d : Declared) (r : Option RawQuery)
    → placed o d ≡ Some p
    → option_map (behind_all ds) (option_and_then (if_follows o) (option_map (behind d) r))
    ≡ option_map (behind_all (ds ++ d ∷ [])) (option_and_then (if_follows p) r)
placed_on o p ds d r e =
    moved_on o p ds d r (subst (λ z. Placing o d z) e (placing o d))

pub placed_none : (o : Order) (ds : List Declared) (d : Declared) (r : Option RawQuery)
    → placed o d ≡ None
    → option_map (behind_all ds) (option_and_then (if_follows o) (option_map (behind d) r)) ≡ None
placed_none o ds d r e = stopped o ds d r (subst (λ z. Placing o d z) e (placing o d))

pub late_on : (o : Order) (k : ℕ) (ds : List Declared) (d : Declared) (r : Option RawQuery)
    → k < nest_in d
    → option_map (behind_all ds) (option_and_then (if_follows o) (option_map (behind d) r))
    ≡ option_map (behind_all (ds ++ d ∷ [])) (option_and_then (if_follows Late) r)
late_on o k ds d r h = moved_on o Late ds d r (nests_late o d k h)

pub kept_more : (k : ℕ) (deep : Bool) (xs ys ds : List Declared) (e d : Declared)
    → AreKept k deep xs ds → e ≡ d → nest_in d ≤ k → ys ≡ xs ++ e ∷ []
    → AreKept k deep ys (ds ++ d ∷ [])
kept_more k true xs ys ds e d h f n g = let a = nest_append ds d in omega (arith, a, h)
kept_more k false xs ys ds e d h f n g =
    let a = nest_append ds d in
    let b = h.1 in (
      g ∙ (ap (λ z. z ++ e ∷ []) h.0 ∙ ap (λ z. ds ++ z ∷ []) f),
      omega (arith, a, b, n),
    )

pub kept_deep : (k : ℕ) (xs ds : List Declared) (d : Declared) → k < nest_in d
    → AreKept k true xs (ds ++ d ∷ [])
kept_deep k xs ds d h = let a = nest_append ds d in omega (arith, a, h)

-- after the last declaration
pub all_follow : (o : Order) (r : Option Raw)
    → option_and_then (if_follows o) (option_map of_body r) ≡ option_map of_body r
all_follow o None = refl
all_follow First (Some v) = refl
all_follow Early (Some v) = refl
all_follow Late (Some v) = refl
