-- The parameters of a template: what is passed, converted, or else their own values.
use Rattle.std.proofs.Common.{◌≡◌, ℕ, suc, List, [], ◌∷◌, refl, sym, ap, ◌∙◌, subst, map}
use Rattle.std.proofs.lemmas.Bool.{and_parts}
use Rattle.std.specs.Prelude.{Bool, true, false, ◌||◌, if◌then◌else◌, is_some}
use Rattle.std.specs.Prelude.{Option, Some, None}
use Rattle.std.specs.List.{list_any}
use Rattle.std.specs.Str.{bytes_eq}
use Rattle.std.proofs.lemmas.Slice.Eq.{bytes_eq-Decides}
use Rattle.xt_names.specs.declared.codes.Code.{Code}
use Rattle.xt_names.specs.declared.codes.Code.TheVariants.{SheetDynamic}
use Rattle.xt_names.specs.declared.codes.SheetDynamicCode.TheVariants.{XTDE0700}
use Rattle.xt_names.specs.declared.names.ExprName.{ExprName}
use Rattle.xdm_items.specs.declared.items.Item.{Item}
use Rattle.xdm_items.specs.FunctionArguments.Answers.{of_truth}
use Rattle.xt_syntax.specs.declared.exprs.Expr.{Expr}
use Rattle.expr_meaning.specs.Outcomes.Outcome.{Ends, and_then, step_outcome, Every}
use Rattle.expr_meaning.specs.Outcomes.Follow.{Relation, IsCarrying}
use Rattle.expr_meaning.specs.Env.{Binding, Env, Meaning, Program, bind, with_bound, look_up}
use Rattle.expr_meaning.specs.Logic.{chosen, truth_at}
use Rattle.expr_meaning.specs.Meaning.{outcome}
use Rattle.expr_meaning.specs.Queries.{converted_to}
use Rattle.expr_laws.specs.Carrier.{AreBound}
use Rattle.meaning_laws.specs.SoundValues.Sound.{IsSound}
use Rattle.carried_exprs.specs.Sights.{variable_of}
use Rattle.carry_laws.proofs.Places.{IsOwn, not_hidden}
use Rattle.query_helpers.proofs.Gives.{gives_variable, tells_truth}
use Rattle.transform_meaning.specs.Bindings.{BoundMeaning, default_value, given_or_default}
use Rattle.transform_meaning.specs.Bindings.{param_value as sheet_value, params_then, passed_value}
use Rattle.transform_meaning.specs.Dispatch.{Passed}
use Rattle.transform_laws.proofs.Bindings.{found_known}
use Rattle.transform_laws.proofs.Lists.{Pairs}
use Rattle.transform_laws.specs.Meets.{IfGood}
use Rattle.translated_forms.specs.Converted.{converted as converted_expr}
use Rattle.translated_forms.specs.Forms.{arm_of}
use Rattle.translated_forms.specs.Params.{BoundAt, flag_of, number_from, number_in, param_of, same_param}
use Rattle.translated_forms.specs.Params.{value_of}
use Rattle.translated_forms.specs.Places.{Param, Place, Table}
use Rattle.translation.specs.Templates.{param_value}
use Rattle.lockstep.specs.Doors.{ArePassed, passed_for}
use Rattle.lockstep.specs.Spots.{Spot, IsAt, ParamIsSeen}
use Rattle.lockstep.proofs.Choices.{arm_means, chain_is}
use Rattle.lockstep.proofs.Conversions.{converted_at}
use Rattle.lockstep.proofs.Forms.{AlwaysFails}
use Rattle.lockstep.proofs.Frame.{Meets, at_behind}
use Rattle.lockstep.proofs.Lets.{lets_then}
use Rattle.lockstep.proofs.Passed.{sheet_param}
use Rattle.xt_names.specs.ExprNames.{same_name}
use Rattle.xt_names.specs.Allowed.{same_truth}

-- all parameters of the table, as they are passed
abbrev pub AllSeen : List Binding → Passed → ℕ → List Param → Type 0
AllSeen locals passed n [] = Unit {0}
AllSeen locals passed n (p ∷ ps) =
    ParamIsSeen locals n p (passed_for passed p) × AllSeen locals passed (suc n) ps

seen_behind : (bs : List Binding) → AreBound IsOwn IsSound bs → (locals : List Binding) (passed : Passed)
    (n : ℕ) (ps : List Param) → AllSeen locals passed n ps → AllSeen (with_bound bs locals) passed n ps
seen_behind bs o locals passed n [] h = tt
seen_behind bs o locals passed n (p ∷ ps) h = (
  (not_hidden IsSound bs locals _ _ o h.0.0, not_hidden IsSound bs locals _ _ o h.0.1),
  seen_behind bs o locals passed (suc n) ps h.1,
)

-- a parameter of the table
abbrev pub IsListed : List Param → Param → Type 0
IsListed ps r = list_any (λ p. same_param p r) ps ≡ true

tunnels_same : (a b : Bool) → same_truth a b ≡ true → a ≡ b
tunnels_same true b h = sym h
tunnels_same false true h = h
tunnels_same false false h = refl

params_same : (p r : Param) → same_param p r ≡ true → p ≡ r
params_same p r h =
    let a = and_parts (same_truth p.tunnel r.tunnel) (same_name p.name r.name) h in
    let b = and_parts (bytes_eq p.name.uri r.name.uri) (bytes_eq p.name.local r.name.local) a.1 in
    let uri = (bytes_eq-Decides p.name.uri r.name.uri).0 b.0 in
    let local = (bytes_eq-Decides p.name.local r.name.local).0 b.1 in
    let tunnel = tunnels_same p.tunnel r.tunnel a.0 in
    λ i. record { tunnel = tunnel i; name = record { uri = uri i; local = local i } }

listed_seen : (locals : List Binding) (passed : Passed) (n : ℕ) (ps : List Param) (r : Param) →
    AllSeen locals passed n ps → IsListed ps r →
    ParamIsSeen locals (number_from n ps r) r (passed_for passed r)
listed_seen locals passed n [] r h is = absurd cc
listed_seen locals passed n (p ∷ ps) r h is =
    by (same_param p r) refl is (λ more. listed_seen locals passed (suc n) ps r h.1 more)
  where
    by : (b : Bool) → same_param p r ≡ b → (b || list_any (λ p. same_param p r) ps) ≡ true →
        (IsListed ps r → ParamIsSeen locals (number_from (suc n) ps r) r (passed_for passed r)) →
        ParamIsSeen locals (if b then n else number_from (suc n) ps r) r (passed_for passed r)
    by true e g more =
        subst (λ s. ParamIsSeen locals n s (passed_for passed s)) (params_same p r e) h.0
    by false e g more = more g

module _ (like : Code → Code → Type 0) (lax : (a b : Code) → like a b) (rel : Relation)
    (carries : IsCarrying like rel) (t : Table) (q : Program) where
  -- a parameter of the stylesheet and what it becomes: its own value, or none where it is required
  abbrev pub OwnValue : Spot → Option Meaning → Expr → Type 0
  OwnValue x None e = AlwaysFails (outcome q e)
  OwnValue x (Some m) e = Meets like lax rel carries t x m (outcome q e)

  pub record ParamMeets (x : Spot) (m : BoundMeaning) (b : BoundAt) : Type 0 where
    pub same : sheet_param m ≡ param_of b
    pub kind : m.kind ≡ b.kind
    pub own : IsOwn b.name
    pub value : OwnValue x m.value (b.value x.place)
    pub listed : IsListed t.params (param_of b)

  abbrev number_of : BoundAt → ℕ
  number_of b = number_in t.params (param_of b)

  abbrev flag_expr : BoundAt → Expr
  flag_expr b = variable_of (flag_of (number_of b) (param_of b))

  abbrev value_expr : BoundAt → Expr
  value_expr b = variable_of (value_of (number_of b) (param_of b))

  -- the value that is passed, or the own value
  param_is : (b : BoundAt) (p : Place) (f : Env) (o : Option (List Item)) →
      ParamIsSeen f.locals (number_of b) (param_of b) o → (k : ℕ) →
      outcome q (param_value t p b) f k
      ≡ chosen (outcome q (converted_expr b.kind (value_expr b))) (outcome q (b.value p)) f (is_some o) k
  param_is b p f o seen k =
      chain_is q (arm_of (flag_expr b, converted_expr b.kind (value_expr b)) ∷ []) (b.value p) f k
      ∙ ap (λ (m : Meaning × Meaning). and_then (truth_at m.0 f k) (chosen m.1 (outcome q (b.value p)) f))
      (arm_means q (flag_expr b) (converted_expr b.kind (value_expr b)))
      ∙ ap (λ u. and_then u (chosen (outcome q (converted_expr b.kind (value_expr b))) (outcome q (b.value p)) f))
      (tells_truth q (flag_expr b) f (is_some o)
      (gives_variable q (flag_of (number_of b) (param_of b)) f (of_truth (is_some o)) seen.0) k)

  own_meets : (x : Spot) (o : Option Meaning) (e : Expr) → OwnValue x o e → (a f : Env) → IsAt t x a f →
      (k : ℕ) → rel (List Item) (Every IsSound) (default_value (SheetDynamic XTDE0700) o a k) (outcome q e f k)
  own_meets x None e h a f at k = let g = h f k in rw (g.1) (carries.errors _ _ _ _ (lax _ g.0))
  own_meets x (Some m) e h a f at k = h a f at k

  one_param : (x : Spot) (m : BoundMeaning) (b : BoundAt) → ParamMeets x m b → (a f : Env) →
      IsAt t x a f → (o : Option (List Item)) → IfGood IsSound o →
      ParamIsSeen f.locals (number_of b) (param_of b) o → (k : ℕ) →
      rel (List Item) (Every IsSound) (given_or_default (SheetDynamic XTDE0700) m o a k)
      (outcome q (param_value t x.place b) f k)
  one_param x m b h a f at None good seen k =
      rw (param_is b x.place f None seen k) (own_meets x m.value (b.value x.place) h.value a f at k)
  one_param x m b h a f at (Some xs) good seen k =
      rw (param_is b x.place f (Some xs) seen k)
      (subst (λ kind. rel (List Item) (Every IsSound) (step_outcome (converted_to kind xs) k)
      (outcome q (converted_expr b.kind (value_expr b)) f k)) (sym h.kind)
      (converted_at like lax rel carries t q b.kind (Ends xs k) (value_expr b) f k
      (rw (gives_variable q (value_of (number_of b) (param_of b)) f xs seen.1 k)
      (carries.ends _ _ _ _ good))))

  -- what is passed, as the stylesheet looks it up
  looked_up : (m : BoundMeaning) (b : BoundAt) → sheet_param m ≡ param_of b → (passed : Passed) (a : Env) →
      a.state.tunnel ≡ passed.tunnel → passed_value passed.ordinary m a ≡ passed_for passed (param_of b)
  looked_up m b same passed a there =
      ap (λ tunnel. look_up (if m.tunnel then tunnel else passed.ordinary) m.name) there
      ∙ ap (passed_for passed) same

  passed_good : (passed : Passed) → ArePassed passed → (p : Param) → IfGood IsSound (passed_for passed p)
  passed_good passed good p = by p.tunnel
    where
      by : (b : Bool) → IfGood IsSound (look_up (if b then passed.tunnel else passed.ordinary) p.name)
      by true = found_known IsSound passed.tunnel p.name good.tunnel
      by false = found_known IsSound passed.ordinary p.name good.ordinary

  abbrev pub param_bindings : Place → List BoundAt → List (ExprName × Expr)
  param_bindings p bs = map (λ b. (b.name, param_value t p b)) bs

  -- the parameters in order, each seeing those before it, and then the rest
  pub params_done : (x : Spot) (ms : List BoundMeaning) (bs : List BoundAt) →
      Pairs (ParamMeets x) ms bs → (passed : Passed) → ArePassed passed → (m : Meaning) (rest : Meaning) →
      Meets like lax rel carries t x m rest → (a f : Env) → IsAt t x a f →
      a.state.tunnel ≡ passed.tunnel → AllSeen f.locals passed 1 t.params → (k : ℕ) →
      rel (List Item) (Every IsSound) (params_then passed.ordinary ms m a k)
      (lets_then q (param_bindings x.place bs) rest f k)
  params_done x [] [] h passed good m rest meets a f at there seen k = meets a f at k
  params_done x [] (b ∷ bs) h passed good m rest meets a f at there seen k = absurd h
  params_done x (p ∷ ms) [] h passed good m rest meets a f at there seen k = absurd h
  params_done x (p ∷ ms) (b ∷ bs) h passed good m rest meets a f at there seen k =
      let name : p.name ≡ b.name = ap (λ r. r.name) h.0.same in
      carries.next _ _ (Every IsSound) (Every IsSound) (sheet_value passed.ordinary p a k)
      (outcome q (param_value t x.place b) f k) _ _
      (subst (λ o. rel (List Item) (Every IsSound) (given_or_default (SheetDynamic XTDE0700) p o a k)
      (outcome q (param_value t x.place b) f k)) (sym (looked_up p b h.0.same passed a there))
      (one_param x p b h.0 a f at (passed_for passed (param_of b)) (passed_good passed good (param_of b))
      (listed_seen f.locals passed 1 t.params (param_of b) seen h.0.listed) k)) (λ xs j g.
      subst (λ v. rel (List Item) (Every IsSound) (params_then passed.ordinary ms m (bind v xs a) j)
      (lets_then q (param_bindings x.place bs) rest (bind b.name xs f) j)) (sym name)
      (params_done x ms bs h.1 passed good m rest meets (bind b.name xs a) (bind b.name xs f)
      (at_behind t x a f at ((b.name, xs) ∷ []) ((h.0.own, g), tt)) there
      (seen_behind ((b.name, xs) ∷ []) ((h.0.own, g), tt) f.locals passed 1 t.params seen) j))
