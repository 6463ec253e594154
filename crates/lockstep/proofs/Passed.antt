-- Parameters that are passed: each is evaluated in its turn, and held until the call.
use Rattle.std.proofs.Common.{◌≡◌, ℕ, suc, List, [], ◌∷◌, ◌++◌, refl, sym, ap, ◌∙◌, subst, map}
use Rattle.std.specs.Prelude.{Bool, true, false, ◌&&◌, ◌||◌, codes, if◌then◌else◌}
use Rattle.std.specs.Prelude.{Option, Some}
use Rattle.xt_names.specs.declared.codes.Code.{Code}
use Rattle.xt_names.specs.declared.names.ExprName.{ExprName}
use Rattle.xdm_items.specs.declared.items.Item.{Item}
use Rattle.xt_syntax.specs.declared.exprs.Expr.{Expr}
use Rattle.expr_meaning.specs.Outcomes.Outcome.{Outcome, and_then, Every}
use Rattle.expr_meaning.specs.Outcomes.Follow.{Relation, IsCarrying}
use Rattle.expr_meaning.specs.Env.{Binding, Env, Meaning, Program, bind, look_up}
use Rattle.expr_meaning.specs.Meaning.{outcome}
use Rattle.meaning_laws.specs.SoundValues.Sound.{IsSound}
use Rattle.carried_exprs.specs.Sights.{made_name}
use Rattle.carried_exprs.specs.Sights.{Sight, named, focused, absent}
use Rattle.carry_laws.proofs.Places.{IsOwn}
use Rattle.std.specs.Str.{bytes_eq}
use Rattle.std.proofs.lemmas.Slice.Eq.{bytes_eq-Decides}
use Rattle.expr_meaning.proofs.OutcomesLemmas.Steps.{then_assoc}
use Rattle.translated_forms.specs.Places.{sight_at}
use Rattle.carry_laws.specs.Seen.{Holds, FocusIsSeen, CurrentIsSeen, GroupIsSeen}
use Rattle.transform_meaning.specs.Bindings.{BoundMeaning, own_value}
use Rattle.transform_meaning.specs.Dispatch.{Passed, passed_behind, with_param}
use Rattle.transform_laws.proofs.Lists.{Pairs}
use Rattle.translated_forms.specs.Params.{BoundAt, param_of, same_param, number_in, given_of, flag_of}
use Rattle.translated_forms.specs.Params.{value_of}
use Rattle.translated_forms.specs.Places.{Param, Table, Place}
use Rattle.lockstep.specs.Doors.{ArePassed, passed_for}
use Rattle.lockstep.specs.Numbers.{AreApart, IsApart, NumbersTell}
use Rattle.lockstep.specs.Spots.{Spot, IsAt, TunnelsAreSeen, TunnelIsSeen, TunnelMapIsSeen}
use Rattle.lockstep.proofs.Frame.{Meets, Passes, passed_by, own_differs}
use Rattle.lockstep.proofs.Names.{has_hyphen, numbered_differs}
use Rattle.lockstep.proofs.Lets.{lets_then}
use Rattle.xt_names.specs.ExprNames.{same_name}
use Rattle.xt_names.specs.Allowed.{same_truth}

-- a parameter of a stylesheet and what it becomes
abbrev pub sheet_param : BoundMeaning → Param
sheet_param m = record { tunnel = m.tunnel; name = m.name }

-- what is passed when some parameters are done: their values are held, and of others what was there
abbrev pub IsHeld : Bool → List Binding → Passed → Passed → ℕ → Param → Type 0
IsHeld true locals start passed n p =
    (xs : List Item) × (passed_for passed p ≡ Some xs) × Holds locals (given_of n p) xs
IsHeld false locals start passed n p = passed_for passed p ≡ passed_for start p

abbrev pub AreHeld : (Param → Bool) → List Binding → Passed → Passed → ℕ → List Param → Type 0
AreHeld done locals start passed n [] = Unit {0}
AreHeld done locals start passed n (p ∷ ps) =
    IsHeld (done p) locals start passed n p × AreHeld done locals start passed (suc n) ps

-- with one more
abbrev pub and_done : Param → (Param → Bool) → Param → Bool
and_done r done p = same_param p r || done p

texts_swap : (a b : List ℕ) → bytes_eq a b ≡ bytes_eq b a
texts_swap a b = by (bytes_eq a b) refl (bytes_eq b a) refl
  where
    by : (c : Bool) → bytes_eq a b ≡ c → (d : Bool) → bytes_eq b a ≡ d → c ≡ d
    by true e true g = refl
    by true e false g =
        let yes : bytes_eq b a ≡ true = (bytes_eq-Decides b a).1 (sym ((bytes_eq-Decides a b).0 e)) in cc
    by false e true g =
        let yes : bytes_eq a b ≡ true = (bytes_eq-Decides a b).1 (sym ((bytes_eq-Decides b a).0 g)) in cc
    by false e false g = refl

pub names_swap : (a b : ExprName) → same_name a b ≡ same_name b a
names_swap a b = λ i. texts_swap a.uri b.uri i && texts_swap a.local b.local i

pub name_itself : (a : ExprName) → same_name a a ≡ true
name_itself a =
    rw ((bytes_eq-Decides a.uri a.uri).1 refl, (bytes_eq-Decides a.local a.local).1 refl) refl

-- look-up in what is passed, with one more
put_param : Bool → ExprName → List Item → Passed → Passed
put_param true v xs passed =
    record { ordinary = passed.ordinary; tunnel = (v, xs) ∷ passed.tunnel }
put_param false v xs passed =
    record { ordinary = (v, xs) ∷ passed.ordinary; tunnel = passed.tunnel }

put_same : (b : Bool) (v : ExprName) (xs : List Item) (passed : Passed) →
    (if b then record { ordinary = passed.ordinary; tunnel = (v, xs) ∷ passed.tunnel }
    else record { ordinary = (v, xs) ∷ passed.ordinary; tunnel = passed.tunnel })
    ≡ put_param b v xs passed
unfolding put_param
put_same true v xs passed = refl
put_same false v xs passed = refl

found_at : Bool → Passed → ExprName → Option (List Item)
found_at d passed w = look_up (if d then passed.tunnel else passed.ordinary) w

put_found : (b d : Bool) (v w : ExprName) (xs : List Item) (passed : Passed) →
    found_at d (put_param b v xs passed) w
    ≡ (if same_truth d b && same_name w v then Some xs else found_at d passed w)
unfolding look_up put_param found_at
put_found true true v w xs passed =
    ap (λ c. if c then Some xs else look_up passed.tunnel w) (names_swap v w)
put_found true false v w xs passed = refl
put_found false true v w xs passed = refl
put_found false false v w xs passed =
    ap (λ c. if c then Some xs else look_up passed.ordinary w) (names_swap v w)

passed_more : (m : BoundMeaning) (xs : List Item) (passed : Passed) (p : Param) →
    passed_for (with_param m xs passed) p
    ≡ (if same_param p (sheet_param m) then Some xs else passed_for passed p)
unfolding found_at
passed_more m xs passed p =
    ap (λ o. look_up (if p.tunnel then o.tunnel else o.ordinary) p.name)
    (put_same m.tunnel m.name xs passed)
    ∙ put_found m.tunnel p.tunnel m.name p.name xs passed

module _ (params : List Param) (r : Param) (xs : List Item) where
  abbrev given_name : ExprName
  given_name = given_of (number_in params r) r

  held_more : (m : BoundMeaning) → sheet_param m ≡ r → (done : Param → Bool)
      (locals : List Binding) (start passed : Passed) (n : ℕ) (p : Param) → IsApart params n p r →
      IsHeld (done p) locals start passed n p →
      IsHeld (and_done r done p) ((given_name, xs) ∷ locals) start (with_param m xs passed) n p
  unfolding look_up
  held_more m is done locals start passed n p apart h = by (same_param p r) refl (done p) h
    where
      more : passed_for (with_param m xs passed) p
          ≡ (if same_param p r then Some xs else passed_for passed p)
      more =
          passed_more m xs passed p
          ∙ ap (λ s. if same_param p s then Some xs else passed_for passed p) is

      by : (b : Bool) → same_param p r ≡ b → (d : Bool) → IsHeld d locals start passed n p →
          IsHeld (b || d) ((given_name, xs) ∷ locals) start (with_param m xs passed) n p
      by true e d g = (
        xs,
        more ∙ ap (λ c. if c then Some xs else passed_for passed p) e,
        ap (λ c. if c then Some xs else look_up locals (given_of n p))
            (ap (λ v. same_name v (given_of n p)) (apart.same e) ∙ name_itself (given_of n p)),
      )
      by false e true g = (
        g.0,
        more ∙ ap (λ c. if c then Some xs else passed_for passed p) e ∙ g.1,
        ap (λ c. if c then Some xs else look_up locals (given_of n p)) (apart.other e) ∙ g.2,
      )
      by false e false g = more ∙ ap (λ c. if c then Some xs else passed_for passed p) e ∙ g

  all_held_more : (m : BoundMeaning) → sheet_param m ≡ r → (done : Param → Bool)
      (locals : List Binding) (start passed : Passed) (n : ℕ) (ps : List Param) →
      AreApart params n ps r → AreHeld done locals start passed n ps →
      AreHeld (and_done r done) ((given_name, xs) ∷ locals) start (with_param m xs passed) n ps
  all_held_more m is done locals start passed n [] apart h = tt
  all_held_more m is done locals start passed n (p ∷ ps) apart h = (
    held_more m is done locals start passed n p apart.0 h.0,
    all_held_more m is done locals start passed (suc n) ps apart.1 h.1,
  )

  -- what the value's variable does not hide
  past : (name : ExprName) → same_name given_name name ≡ false → Passes ((given_name, xs) ∷ []) name
  past name h = passed_by ((given_name, xs) ∷ []) name (h, tt)

  tunnel_past : (b : Bool) (tunnel locals : List Binding) (n : ℕ) (p : Param) →
      IsApart params n p r → TunnelIsSeen b tunnel locals n p →
      TunnelIsSeen b tunnel ((given_name, xs) ∷ locals) n p
  tunnel_past false tunnel locals n p apart h = tt
  tunnel_past true tunnel locals n p apart h = (
    past (flag_of n p) apart.flag locals ∙ h.0,
    past (value_of n p) apart.value locals ∙ h.1,
  )

  tunnels_past : (tunnel locals : List Binding) (n : ℕ) (ps : List Param) →
      AreApart params n ps r → TunnelsAreSeen tunnel locals n ps →
      TunnelsAreSeen tunnel ((given_name, xs) ∷ locals) n ps
  tunnels_past tunnel locals n [] apart h = tt
  tunnels_past tunnel locals n (p ∷ ps) apart h = (
    tunnel_past p.tunnel tunnel locals n p apart.0 h.0,
    tunnels_past tunnel locals (suc n) ps apart.1 h.1,
  )

  map_past : (b : Bool) (tunnel locals : List Binding) → AreApart params 1 params r →
      TunnelMapIsSeen b params tunnel locals →
      TunnelMapIsSeen b params tunnel ((given_name, xs) ∷ locals)
  map_past true tunnel locals apart h = tunnels_past tunnel locals 1 params apart h
  map_past false tunnel locals apart h = h

  no_own : (name : ExprName) → IsOwn name → Passes ((given_name, xs) ∷ []) name
  no_own name own = past name (own_differs given_name name refl own)

  made_past : (name : List ℕ) → has_hyphen name ≡ false → Passes ((given_name, xs) ∷ []) (made_name name)
  made_past name h =
      past (made_name name) (numbered_differs (codes "with-" ++ r.name.local) (number_in params r) name h)

  focus_past : (s : Sight) (e f : Env) → FocusIsSeen IsSound s e f →
      FocusIsSeen IsSound s e (bind given_name xs f)
  focus_past named e f o = (
    o.0,
    o.1,
    o.2,
    made_past (codes "item") refl f.locals ∙ o.3,
    made_past (codes "position") refl f.locals ∙ o.4,
    made_past (codes "size") refl f.locals ∙ o.5,
  )
  focus_past focused e f o = o
  focus_past absent e f o = o

  current_past : (b : Bool) (e f : Env) → CurrentIsSeen IsSound b e f →
      CurrentIsSeen IsSound b e (bind given_name xs f)
  current_past true e f o = (o.0, o.1, o.2, made_past (codes "item") refl f.locals ∙ o.3)
  current_past false e f o = o

  group_past : (b : Bool) (e f : Env) → GroupIsSeen IsSound b e f →
      GroupIsSeen IsSound b e (bind given_name xs f)
  group_past true e f o = (
    made_past (codes "group") refl f.locals ∙ o.0,
    made_past (codes "key") refl f.locals ∙ o.1,
    o.2,
    o.3,
  )
  group_past false e f o = o

at_given : (t : Table) (x : Spot) (e f : Env) → IsAt t x e f → (r : Param) →
    AreApart t.params 1 t.params r → (xs : List Item) →
    IsAt t x e (bind (given_of (number_in t.params r) r) xs f)
at_given t x e f h r apart xs = record {
  seen = record {
    locals = λ name own. h.seen.locals name own ∙ sym (no_own t.params r xs name own f.locals);
    known = h.seen.known;
    focus = focus_past t.params r xs (sight_at x.place) e f h.seen.focus;
    current = current_past t.params r xs x.place.has_focus e f h.seen.current;
    group = group_past t.params r xs x.place.has_group e f h.seen.group;
  };
  tunnel = map_past t.params r xs x.place.has_tunnel e.state.tunnel f.locals apart h.tunnel;
  tunnel_known = h.tunnel_known;
  mode = h.mode;
  rule = h.rule;
}

put_good : (m : BoundMeaning) (xs : List Item) (passed : Passed) → Every IsSound xs →
    ArePassed passed → ArePassed (with_param m xs passed)
put_good m xs passed g h = by m.tunnel
  where
    by : (b : Bool) → ArePassed (if b
        then record { ordinary = passed.ordinary; tunnel = (m.name, xs) ∷ passed.tunnel }
        else record { ordinary = (m.name, xs) ∷ passed.ordinary; tunnel = passed.tunnel })
    by true = record { ordinary = h.ordinary; tunnel = (g, h.tunnel) }
    by false = record { ordinary = (g, h.ordinary); tunnel = h.tunnel }

-- the variables of their values
abbrev pub given_bindings : Table → Program → Place → List BoundAt → List (ExprName × Expr)
given_bindings t q p bs =
    map (λ b. (given_of (number_in t.params (param_of b)) (param_of b), b.value p)) bs

-- those that are done when these are
abbrev pub done_behind : List BoundAt → (Param → Bool) → Param → Bool
done_behind [] done = done
done_behind (b ∷ bs) done = done_behind bs (and_done (param_of b) done)

module _ (like : Code → Code → Type 0) (lax : (a b : Code) → like a b) (rel : Relation)
    (carries : IsCarrying like rel) (t : Table) (numbers : NumbersTell t.params) (q : Program) where
  -- a parameter that is passed, with its value
  abbrev pub GivenMeets : Spot → BoundMeaning → BoundAt → Type 0
  GivenMeets x m b =
      (sheet_param m ≡ param_of b)
      × Meets like lax rel carries t x (own_value m.value) (outcome q (b.value x.place))

  pub given_then : (x : Spot) (ms : List BoundMeaning) (bs : List BoundAt) →
      Pairs (GivenMeets x) ms bs → (start : Passed) (done : Param → Bool)
      (passed : Passed) → ArePassed passed → (a f : Env) → IsAt t x a f →
      AreHeld done f.locals start passed 1 t.params →
      (go : Passed → ℕ → Outcome (List Item)) (rest : Meaning) →
      ((end : Passed) → ArePassed end → (g : Env) → IsAt t x a g →
      AreHeld (done_behind bs done) g.locals start end 1 t.params → (k : ℕ) →
      rel (List Item) (Every IsSound) (go end k) (rest g k)) → (k : ℕ) →
      rel (List Item) (Every IsSound) (and_then (passed_behind passed ms a k) go)
      (lets_then q (given_bindings t q x.place bs) rest f k)
  given_then x [] [] h start done passed good a f at held go rest next k =
      next passed good f at held k
  given_then x [] (b ∷ bs) h start done passed good a f at held go rest next k = absurd h
  given_then x (m ∷ ms) [] h start done passed good a f at held go rest next k = absurd h
  given_then x (m ∷ ms) (b ∷ bs) h start done passed good a f at held go rest next k =
      let r = param_of b in
      subst (λ o. rel (List Item) (Every IsSound) o
      (lets_then q (given_bindings t q x.place (b ∷ bs)) rest f k))
      (sym (then_assoc (own_value m.value a k) (λ xs. passed_behind (with_param m xs passed) ms a) go))
      (carries.next _ _ (Every IsSound) (Every IsSound) (own_value m.value a k)
      (outcome q (b.value x.place) f k) _ _ (h.0.1 a f at k) (λ xs j g.
      given_then x ms bs h.1 start (and_done r done) (with_param m xs passed)
      (put_good m xs passed g good) a (bind (given_of (number_in t.params r) r) xs f)
      (at_given t x a f at r (numbers r) xs)
      (all_held_more t.params r xs m h.0.0 done f.locals start passed 1 t.params (numbers r) held)
      go rest next j))
