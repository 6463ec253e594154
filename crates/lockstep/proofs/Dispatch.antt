-- Templates are called by name, and by the rules that a rule overrides, as in the stylesheet.
use Rattle.std.proofs.Common.{◌≡◌, ℕ, suc, List, [], ◌∷◌, refl, sym, ap, ◌∙◌, subst, map}
use Rattle.std.specs.Prelude.{Bool, true, false, ◌&&◌, ◌||◌, codes, if◌then◌else◌, is_some}
use Rattle.std.specs.Prelude.{Option, Some, None}
use Rattle.xt_names.specs.declared.codes.Code.{Code}
use Rattle.xt_names.specs.declared.names.ExprName.{ExprName}
use Rattle.xdm_items.specs.declared.items.Item.{Item}
use Rattle.xdm_items.specs.FunctionArguments.Answers.{of_truth}
use Rattle.function_table.specs.Find.{found, found_in, is_in_fn}
use Rattle.function_table.specs.Table.{joined}
use Rattle.function_table.specs.declared.builtins.Builtin.TheVariants as function
use Rattle.fn_lib.specs.Functions.{function_value, value_of as function_of}
use Rattle.xt_sheets.specs.declared.sheets.Sheet.{Sheet}
use Rattle.xt_tree.specs.Place.{Place as XmlPlace}
use Rattle.carry_laws.proofs.Names.{error_called}
use Rattle.xt_syntax.specs.declared.exprs.Expr.{Expr}
use Rattle.xt_syntax.specs.declared.exprs.Clause.TheOpen.{Call}
use Rattle.expr_meaning.specs.Outcomes.Outcome.{Outcome, Fails, and_then, step_outcome, Every}
use Rattle.expr_meaning.specs.Outcomes.Follow.{Relation, IsCarrying}
use Rattle.expr_meaning.specs.SortMeaning.Sorted.{Placed}
use Rattle.expr_meaning.specs.Calls.{called, library, call_value, position_of, size_of}
use Rattle.expr_meaning.specs.Env.{Binding, Env, Program, look_up}
use Rattle.expr_meaning.specs.Meaning.{outcome}
use Rattle.meaning_laws.specs.SoundValues.Sound.{IsSound}
use Rattle.carried_exprs.specs.Sights.{item_name, position_name, size_name, variable_of, nothing}
use Rattle.carried_exprs.specs.Sights.{local_uri, named}
use Rattle.translated_forms.specs.Forms.{flow_or_body}
use Rattle.carry_laws.specs.Seen.{Holds, FocusIsSeen}
use Rattle.query_helpers.proofs.Gives.{mean, Gives, gives_variable, gives_nothing}
use Rattle.rule_order.specs.Rules.{best_below, best_imported}
use Rattle.transform_meaning.specs.Bindings.{BoundMeaning}
use Rattle.transform_meaning.specs.Dispatch.{Doors, Passed, passed_of, call_of, overridden_of}
use Rattle.transform_meaning.specs.Dispatch.{current_rule, for_focus, for_item}
use Rattle.transform_meaning.specs.Places.{entry}
use Rattle.transform_laws.proofs.Lists.{Pairs}
use Rattle.translated_forms.specs.Dispatch.{at_focus, with_given, template_called, overridden}
use Rattle.translated_forms.specs.Forms.{failing}
use Rattle.translated_forms.specs.Names.{named_function, next_function, imports_function}
use Rattle.translated_forms.specs.Params.{BoundAt, param_of, same_param, given_of, flag_of, value_of}
use Rattle.translated_forms.specs.Params.{is_given, truth}
use Rattle.translated_forms.specs.Params.{arguments_from, passed_arguments, given_let, given_lets}
use Rattle.translated_forms.specs.Places.{Param, Table, Place, RuleIn, sight_of}
use Rattle.lockstep.specs.Doors.{ArePassed, DoorsCarry, passed_for, arguments_of, focus_arguments}
use Rattle.lockstep.specs.Numbers.{NumbersTell}
use Rattle.lockstep.specs.Spots.{Spot, IsAt, items_if, RuleIsSeen, TunnelsAreSeen, TunnelIsSeen}
use Rattle.lockstep.specs.Spots.{TunnelMapIsSeen}
use Rattle.lockstep.proofs.Calls.{AllGive, call_given}
use Rattle.lockstep.proofs.Frame.{Meets}
use Rattle.lockstep.proofs.Lets.{let_of, flow_or_body_lets}
use Rattle.lockstep.proofs.Passed.{IsHeld, AreHeld, GivenMeets, given_bindings, done_behind, and_done}
use Rattle.lockstep.proofs.Passed.{given_then}
use Rattle.std.proofs.Math.Bool.{or-false}
use Rattle.xt_names.specs.ExprNames.{library_name}

true_called : called (library_name (codes "true")) 0 ≡ library function.True
unfolding called found found_in joined is_in_fn
true_called = refl

false_called : called (library_name (codes "false")) 0 ≡ library function.False
unfolding called found found_in joined is_in_fn
false_called = refl

-- what is done is what is given
either_order : (a b c : Bool) → (b || (a || c)) ≡ ((a || b) || c)
either_order true true c = refl
either_order true false c = refl
either_order false true c = refl
either_order false false c = refl

done_is : (bs : List BoundAt) (done : Param → Bool) (p : Param) →
    done_behind bs done p ≡ (is_given bs p || done p)
done_is [] done p = refl
done_is (b ∷ bs) done p =
    done_is bs (and_done (param_of b) done) p
    ∙ either_order (same_param p (param_of b)) (is_given bs p) (done p)

none_held : (locals : List Binding) (start : Passed) (n : ℕ) (ps : List Param) →
    AreHeld (λ p. false) locals start start n ps
none_held locals start n [] = tt
none_held locals start n (p ∷ ps) = (refl, none_held locals start (suc n) ps)

module _ (q : Program) where
  truth_given : (b : Bool) (f : Env) → Gives q (truth b) f (of_truth b)
  unfolding function_value function_of
  truth_given true f k =
      mean q (Call (library_name (codes "true")) []) f k
      ∙ ap (λ c. call_value q c (library_name (codes "true")) f [] k) true_called
  truth_given false f k =
      mean q (Call (library_name (codes "false")) []) f k
      ∙ ap (λ c. call_value q c (library_name (codes "false")) f [] k) false_called

  -- one parameter of the call
  abbrev flag_expr : Bool → Bool → Bool → ℕ → Param → Expr
  flag_expr c d h n p =
      if c then truth true else if d && h then variable_of (flag_of n p) else truth false

  abbrev value_expr : Bool → Bool → Bool → ℕ → Param → Expr
  value_expr c d h n p =
      if c then variable_of (given_of n p) else if d && h then variable_of (value_of n p) else nothing

  abbrev HeldOr : Bool → Bool → List Binding → List Binding → ℕ → Param → Option (List Item) → Type 0
  HeldOr true d tunnel locals n p o = (xs : List Item) × (o ≡ Some xs) × Holds locals (given_of n p) xs
  HeldOr false d tunnel locals n p o = o ≡ look_up (if d then tunnel else []) p.name

  abbrev TunnelOr : Bool → Bool → List Binding → List Binding → ℕ → Param → Type 0
  TunnelOr true d tunnel locals n p = TunnelIsSeen d tunnel locals n p
  TunnelOr false d tunnel locals n p = tunnel ≡ []

  abbrev BothGive : Expr → Expr → Env → Option (List Item) → Type 0
  BothGive flag value f o = Gives q flag f (of_truth (is_some o)) × Gives q value f (items_if o)

  none_given : (f : Env) (o : Option (List Item)) → o ≡ None → BothGive (truth false) nothing f o
  none_given f o is =
      subst (BothGive (truth false) nothing f) (sym is) (truth_given false f, gives_nothing q f)

  entry_given : (c d h : Bool) (tunnel : List Binding) (f : Env) (n : ℕ) (p : Param)
      (o : Option (List Item)) → HeldOr c d tunnel f.locals n p o → TunnelOr h d tunnel f.locals n p →
      BothGive (flag_expr c d h n p) (value_expr c d h n p) f o
  unfolding look_up
  entry_given true d h tunnel f n p o held seen =
      subst (BothGive (truth true) (variable_of (given_of n p)) f) (sym held.1)
      (truth_given true f, gives_variable q (given_of n p) f held.0 held.2)
  entry_given false true true tunnel f n p o held seen =
      subst (BothGive (variable_of (flag_of n p)) (variable_of (value_of n p)) f) (sym held) (
        gives_variable q (flag_of n p) f (of_truth (is_some (look_up tunnel p.name))) seen.0,
        gives_variable q (value_of n p) f (items_if (look_up tunnel p.name)) seen.1,
      )
  entry_given false true false tunnel f n p o held seen =
      none_given f o (held ∙ ap (λ l. look_up l p.name) seen)
  entry_given false false true tunnel f n p o held seen = none_given f o held
  entry_given false false false tunnel f n p o held seen = none_given f o held

  abbrev TunnelsOr : Bool → List Binding → List Binding → ℕ → List Param → Type 0
  TunnelsOr h tunnel locals n [] = Unit {0}
  TunnelsOr h tunnel locals n (p ∷ ps) =
      TunnelOr h p.tunnel tunnel locals n p × TunnelsOr h tunnel locals (suc n) ps

  tunnels_seen : (tunnel locals : List Binding) (n : ℕ) (ps : List Param) →
      TunnelsAreSeen tunnel locals n ps → TunnelsOr true tunnel locals n ps
  tunnels_seen tunnel locals n [] h = tt
  tunnels_seen tunnel locals n (p ∷ ps) h = (h.0, tunnels_seen tunnel locals (suc n) ps h.1)

  no_tunnels : (tunnel locals : List Binding) (n : ℕ) (ps : List Param) → tunnel ≡ [] →
      TunnelsOr false tunnel locals n ps
  no_tunnels tunnel locals n [] h = tt
  no_tunnels tunnel locals n (p ∷ ps) h = (h, no_tunnels tunnel locals (suc n) ps h)

  tunnels_or : (h : Bool) (tunnel locals : List Binding) (ps : List Param) →
      TunnelMapIsSeen h ps tunnel locals → TunnelsOr h tunnel locals 1 ps
  tunnels_or true tunnel locals ps m = tunnels_seen tunnel locals 1 ps m
  tunnels_or false tunnel locals ps m = no_tunnels tunnel locals 1 ps m

  -- all parameters of the call
  abbrev start_of : List Binding → Passed
  start_of tunnel = record { ordinary = []; tunnel = tunnel }

  held_or : (c : Bool) (locals tunnel : List Binding) (passed : Passed) (n : ℕ) (p : Param) →
      IsHeld c locals (start_of tunnel) passed n p →
      HeldOr c p.tunnel tunnel locals n p (passed_for passed p)
  held_or true locals tunnel passed n p h = h
  held_or false locals tunnel passed n p h = h

  arguments_given : (bs : List BoundAt) (h : Bool) (tunnel : List Binding) (f : Env) (passed : Passed)
      (done : Param → Bool) → ((p : Param) → done p ≡ is_given bs p) → (n : ℕ) (ps : List Param) →
      AreHeld done f.locals (start_of tunnel) passed n ps → TunnelsOr h tunnel f.locals n ps →
      AllGive q (arguments_from n bs h ps) f (arguments_of ps passed)
  arguments_given bs h tunnel f passed done is n [] held seen = tt
  arguments_given bs h tunnel f passed done is n (p ∷ ps) held seen =
      let e = entry_given (is_given bs p) p.tunnel h tunnel f n p (passed_for passed p)
      (subst (λ c. HeldOr c p.tunnel tunnel f.locals n p (passed_for passed p)) (is p)
      (held_or (done p) f.locals tunnel passed n p held.0)) seen.0 in
      (e.0, (e.1, arguments_given bs h tunnel f passed done is (suc n) ps held.1 seen.1))

  -- the focus, and then these
  at_focus_given : (name : ExprName) → name.uri ≡ local_uri → (args : List Expr) (f : Env)
      (p : Placed Item) → Holds f.locals item_name (p.value ∷ []) →
      Holds f.locals position_name (position_of p) → Holds f.locals size_name (size_of p) →
      (lists : List (List Item)) → AllGive q args f lists → (k : ℕ) →
      outcome q (at_focus name args) f k ≡ q.calls name (focus_arguments p lists) k
  at_focus_given name local args f p item position size lists h k =
      call_given q name local (variable_of item_name ∷ variable_of position_name ∷ variable_of size_name ∷ args)
      f (focus_arguments p lists) (
        gives_variable q item_name f (p.value ∷ []) item,
        (
          gives_variable q position_name f (position_of p) position,
          (gives_variable q size_name f (size_of p) size, h),
        ),
      ) k

module _ (like : Code → Code → Type 0) (lax : (a b : Code) → like a b) (rel : Relation)
    (carries : IsCarrying like rel) (t : Table) (numbers : NumbersTell t.params) (q : Program) where
  lets_given : (p : Place) (bs : List BoundAt) →
      given_lets t p bs ≡ map (let_of q) (given_bindings t q p bs)
  lets_given p [] = refl
  lets_given p (b ∷ bs) = ap (λ cs. given_let t p b ∷ cs) (lets_given p bs)

  -- a call after what is passed
  pub with_given_done : (x : Spot) → x.place.has_focus ≡ true → (ms : List BoundMeaning)
      (bs : List BoundAt) → Pairs (GivenMeets like lax rel carries t numbers q x) ms bs →
      (name : ExprName) → name.uri ≡ local_uri → (a b : Env) → IsAt t x a b →
      (go : Passed → ℕ → Outcome (List Item)) →
      ((p : Placed Item) → a.focus ≡ Some p → IsSound p.value → (passed : Passed) → ArePassed passed →
      (k : ℕ) → rel (List Item) (Every IsSound) (go passed k)
      (q.calls name (focus_arguments p (arguments_of t.params passed)) k)) → (k : ℕ) →
      rel (List Item) (Every IsSound) (and_then (passed_of ms a k) go)
      (outcome q (with_given t x.place bs name) b k)
  with_given_done x focus ms bs h name local a b at go next k =
      subst (λ o. rel (List Item) (Every IsSound) (and_then (passed_of ms a k) go) o)
      (sym (ap (λ cs. outcome q (flow_or_body cs (at_focus name (passed_arguments t x.place bs))) b k)
      (lets_given x.place bs)
      ∙ flow_or_body_lets q (given_bindings t q x.place bs)
      (at_focus name (passed_arguments t x.place bs)) b k))
      (given_then like lax rel carries t numbers q x ms bs h (start_of q a.state.tunnel) (λ p. false)
      (start_of q a.state.tunnel) (record { ordinary = tt; tunnel = at.tunnel_known }) a b at
      (none_held b.locals (start_of q a.state.tunnel) 1 t.params) go
      (outcome q (at_focus name (passed_arguments t x.place bs))) (λ passed good f there held j.
      let seen : FocusIsSeen IsSound named a f =
      subst (λ d. FocusIsSeen IsSound (sight_of d) a f) focus there.seen.focus in
      rw (at_focus_given q name local (passed_arguments t x.place bs) f seen.0 seen.3 seen.4 seen.5
      (arguments_of t.params passed)
      (arguments_given q bs x.place.has_tunnel a.state.tunnel f passed (done_behind bs (λ p. false))
      (λ p. done_is bs (λ p. false) p ∙ or-false (is_given bs p)) 1 t.params held
      (tunnels_or q x.place.has_tunnel a.state.tunnel f.locals t.params there.tunnel)) j)
      (next seen.0 seen.1 seen.2 passed good j)) k)

  module _ (sheet : Sheet) (d : Doors) (doors : DoorsCarry rel t sheet d q) where
    -- xsl:call-template
    pub call_done : (x : Spot) → x.place.has_focus ≡ true → (place : ℕ) (ms : List BoundMeaning)
        (bs : List BoundAt) → Pairs (GivenMeets like lax rel carries t numbers q x) ms bs →
        Meets like lax rel carries t x (call_of d place ms)
        (outcome q (template_called t x.place place bs))
    call_done x focus place ms bs h a b at k =
        with_given_done x focus ms bs h (named_function (t.named place)) refl a b at
        (λ passed. d.named place passed.ordinary
        (entry a.focus a.state.rule a.state.mode passed.tunnel)) (λ p is sound passed good j.
        subst (λ o. rel (List Item) (Every IsSound)
        (d.named place passed.ordinary (entry o a.state.rule a.state.mode passed.tunnel) j)
        (q.calls (named_function (t.named place)) (focus_arguments p (arguments_of t.params passed)) j))
        (sym is) (doors.named place passed good p sound a.state.rule a.state.mode j)) k

    -- `error()`
    failing_is : (f : Env) (k : ℕ) → (c : Code) × (outcome q failing f k ≡ Fails c)
    unfolding function_value function_of
    failing_is f k = (
      _,
      mean q (Call (library_name (codes "error")) []) f k
          ∙ ap (λ c. call_value q c (library_name (codes "error")) f [] k) error_called,
    )

    -- the rules that the current rule overrides
    abbrev Found : Type 0
    Found = ℕ → ℕ → XmlPlace → Option ℕ

    abbrev Enters : Found → (ℕ → ℕ → ExprName) → Type 0
    Enters find function =
        (rule mode : ℕ) (passed : Passed) → ArePassed passed → (f : Placed Item) → IsSound f.value →
        (k : ℕ) → rel (List Item) (Every IsSound)
        (d.enter passed.ordinary
        (entry (Some f) (for_item (find rule mode) f.value) mode passed.tunnel) k)
        (q.calls (function rule mode) (focus_arguments f (arguments_of t.params passed)) k)

    abbrev overridden_go : Found → List BoundMeaning → Env → ℕ → ℕ → Outcome (List Item)
    overridden_go find ms a rule j =
        and_then (passed_of ms a j) (λ passed. d.enter passed.ordinary
        (entry a.focus (for_focus (find rule a.state.mode) a.focus) a.state.mode passed.tunnel))

    overridden_by : (find : Found) (function : ℕ → ℕ → ExprName) →
        ((rule mode : ℕ) → (function rule mode).uri ≡ local_uri) → Enters find function → (x : Spot) →
        x.place.has_focus ≡ true → (ms : List BoundMeaning) (bs : List BoundAt) →
        Pairs (GivenMeets like lax rel carries t numbers q x) ms bs → (o : Option RuleIn) (a b : Env) →
        IsAt t x a b → RuleIsSeen o a.state.rule a.state.mode → (k : ℕ) →
        rel (List Item) (Every IsSound) (overridden_of find d ms a k)
        (outcome q (overridden t x.place o function bs) b k)
    overridden_by find function local enters x focus ms bs h None a b at is k =
        let error = failing_is b k in
        subst (λ r. rel (List Item) (Every IsSound)
        (and_then (step_outcome (current_rule r) k) (overridden_go find ms a))
        (outcome q failing b k)) (sym is)
        (rw (error.1) (carries.errors _ _ _ _ (lax _ error.0)))
    overridden_by find function local enters x focus ms bs h (Some r) a b at is k =
        subst (λ s. rel (List Item) (Every IsSound)
        (and_then (step_outcome (current_rule s) k) (overridden_go find ms a))
        (outcome q (with_given t x.place bs (function r.place r.mode)) b k)) (sym is.0)
        (with_given_done x focus ms bs h (function r.place r.mode) (local r.place r.mode) a b at
        (λ passed. d.enter passed.ordinary
        (entry a.focus (for_focus (find r.place a.state.mode) a.focus) a.state.mode passed.tunnel))
        (λ p is_focus sound passed good j.
        subst (λ m. rel (List Item) (Every IsSound)
        (d.enter passed.ordinary (entry a.focus (for_focus (find r.place m) a.focus) m passed.tunnel) j)
        (q.calls (function r.place r.mode) (focus_arguments p (arguments_of t.params passed)) j))
        (sym is.1)
        (subst (λ o. rel (List Item) (Every IsSound)
        (d.enter passed.ordinary (entry o (for_focus (find r.place r.mode) o) r.mode passed.tunnel) j)
        (q.calls (function r.place r.mode) (focus_arguments p (arguments_of t.params passed)) j))
        (sym is_focus) (enters r.place r.mode passed good p sound j))) k)

    -- xsl:next-match and xsl:apply-imports
    pub next_done : (x : Spot) → x.has_rule ≡ true → (ms : List BoundMeaning) (bs : List BoundAt) →
        Pairs (GivenMeets like lax rel carries t numbers q x) ms bs →
        Meets like lax rel carries t x (overridden_of (best_below sheet.rules) d ms)
        (outcome q (overridden t x.place x.place.rule next_function bs))
    next_done x has ms bs h a b at k =
        let rule = at.rule has in
        overridden_by (best_below sheet.rules) next_function (λ rule mode. refl) doors.next x rule.0 ms bs
        h x.place.rule a b at rule.1 k

    pub imports_done : (x : Spot) → x.has_rule ≡ true → (ms : List BoundMeaning) (bs : List BoundAt) →
        Pairs (GivenMeets like lax rel carries t numbers q x) ms bs →
        Meets like lax rel carries t x (overridden_of (best_imported sheet.levels sheet.rules) d ms)
        (outcome q (overridden t x.place x.place.rule imports_function bs))
    imports_done x has ms bs h a b at k =
        let rule = at.rule has in
        overridden_by (best_imported sheet.levels sheet.rules) imports_function (λ rule mode. refl)
        doors.imports x rule.0 ms bs h x.place.rule a b at rule.1 k
