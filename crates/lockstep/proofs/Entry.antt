-- Where a generated function begins, its parameters hold what the stylesheet reads.
use Rattle.std.proofs.Common.{◌≡◌, ◌+◌, ◌<◌, ◌^◌, ℕ, suc, List, [], ◌∷◌, ◌++◌, length, refl, sym, ap, ◌∙◌, subst}
use Rattle.std.proofs.Common.{arith, length-append}
use Rattle.std.specs.Prelude.{Bool, true, false, codes, decimal, if◌then◌else◌, is_some, Option, Some, None}
use Rattle.std.specs.Prelude.{Ok}
use Rattle.xt_names.specs.declared.names.ExprName.{ExprName}
use Rattle.xdm_items.specs.declared.items.Item.{Item}
use Rattle.xdm_items.specs.FunctionArguments.Answers.{of_truth}
use Rattle.expr_meaning.specs.Outcomes.Outcome.{Every}
use Rattle.expr_meaning.specs.SortMeaning.Sorted.{Placed}
use Rattle.expr_meaning.specs.Calls.{position_of, size_of}
use Rattle.expr_meaning.specs.Env.{Binding, look_up}
use Rattle.expr_meaning.specs.Queries.{body_env, bound_params}
use Rattle.meaning_laws.specs.SoundValues.Sound.{IsSound}
use Rattle.carried_exprs.specs.Sights.{item_name, made_name, made_uri, position_name, size_name}
use Rattle.carry_laws.proofs.Places.{IsOwn}
use Rattle.transform_meaning.specs.Dispatch.{Passed}
use Rattle.transform_meaning.specs.Places.{entry}
use Rattle.translated_forms.specs.Names.{numbered}
use Rattle.translated_forms.specs.Params.{flag_of, value_of}
use Rattle.translated_forms.specs.Places.{Param, Place, Table}
use Rattle.translation.specs.Templates.{focus_params, pairs_from}
use Rattle.lockstep.specs.Doors.{ArePassed, arguments_of, focus_arguments, passed_for}
use Rattle.lockstep.specs.Spots.{Spot, IsAt, ModeIsSeen, ParamIsSeen, RuleIsSeen, TunnelsAreSeen, items_if}
use Rattle.lockstep.proofs.Frame.{own_differs}
use Rattle.lockstep.proofs.Names.{IsMadeName, numbers_differ}
use Rattle.lockstep.specs.Spots.{TunnelIsSeen}
use Rattle.translated_forms.specs.Places.{RuleIn}
use Rattle.carry_laws.specs.Seen.{Holds, OnSome}
use Rattle.lockstep.proofs.Numbered.{made_apart, numbers_apart}
use Rattle.lockstep.proofs.Params.{AllSeen}
use Rattle.lockstep.proofs.Passed.{name_itself}
use Rattle.xt_names.specs.ExprNames.{same_name}

-- what the parameters are bound to
abbrev pub pairs_bound : ℕ → List Param → Passed → List Binding
pairs_bound n [] passed = []
pairs_bound n (p ∷ ps) passed =
    (flag_of n p, of_truth (is_some (passed_for passed p)))
    ∷ (value_of n p, items_if (passed_for passed p)) ∷ pairs_bound (suc n) ps passed

abbrev pub focus_bound : Placed Item → List Param → Passed → List Binding
focus_bound f params passed =
    (item_name, f.value ∷ []) ∷ (position_name, position_of f) ∷ (size_name, size_of f)
    ∷ pairs_bound 1 params passed

pairs_are : (n : ℕ) (ps : List Param) (passed : Passed) →
    bound_params (pairs_from n ps) (arguments_of ps passed) ≡ Ok (pairs_bound n ps passed)
pairs_are n [] passed = refl
pairs_are n (p ∷ ps) passed = rw (pairs_are (suc n) ps passed) refl

pub focus_is : (f : Placed Item) (params : List Param) (passed : Passed) →
    bound_params (focus_params params) (focus_arguments f (arguments_of params passed))
    ≡ Ok (focus_bound f params passed)
focus_is f params passed = rw (pairs_are 1 params passed) refl

-- a name that is none of theirs
abbrev Apart : ExprName → ℕ → List Param → Type 0
Apart name n [] = Unit {0}
Apart name n (p ∷ ps) =
    (same_name name (flag_of n p) ≡ false) × (same_name name (value_of n p) ≡ false) × Apart name (suc n) ps

in_front : (name : ExprName) (xs : List Item) (locals : List Binding) (passed : Passed) (n : ℕ)
    (ps : List Param) → Apart name n ps → AllSeen locals passed n ps →
    AllSeen ((name, xs) ∷ locals) passed n ps
unfolding look_up
in_front name xs locals passed n [] a h = tt
in_front name xs locals passed n (p ∷ ps) a h = (
  (
    ap (λ b. if b then Some xs else look_up locals (flag_of n p)) a.0 ∙ h.0.0,
    ap (λ b. if b then Some xs else look_up locals (value_of n p)) a.1 ∙ h.0.1,
  ),
  in_front name xs locals passed (suc n) ps a.2 h.1,
)

-- numbers below are apart
lower : (s : List ℕ) (m n : ℕ) (ps : List Param) → m < n → n + length ps < 2 ^ 64 →
    Apart (made_name (numbered s m)) n ps
lower s m n [] h few = tt
lower s m n (p ∷ ps) h few = (
  numbers_apart s (codes "has-" ++ p.name.local) m n (omega arith) (omega arith) (λ e. absurd (omega (arith, e))),
  numbers_apart s p.name.local m n (omega arith) (omega arith) (λ e. absurd (omega (arith, e))),
  lower s m (suc n) ps (omega arith) (omega arith),
)

longer : (l d : List ℕ) → (codes "has-" ++ l) ++ d ≡ l ++ d → ⊥
longer l d e =
    absurd (omega (
      arith,
      ap length e,
      length-append (codes "has-" ++ l) d,
      length-append l d,
      length-append (codes "has-") l,
    ))

flag_apart : (n : ℕ) (p : Param) → same_name (flag_of n p) (value_of n p) ≡ false
flag_apart n p =
    made_apart (numbered (codes "has-" ++ p.name.local) n) (numbered p.name.local n)
    (λ e. longer p.name.local (codes "-" ++ decimal n) e)

pairs_seen : (passed : Passed) (n : ℕ) (ps : List Param) → n + length ps < 2 ^ 64 →
    AllSeen (pairs_bound n ps passed) passed n ps
unfolding look_up
pairs_seen passed n [] few = tt
pairs_seen passed n (p ∷ ps) few =
    let rest = pairs_bound (suc n) ps passed in
    let o = passed_for passed p in (
      (
        ap (λ b. if b then Some (of_truth (is_some o))
            else look_up ((value_of n p, items_if o) ∷ rest) (flag_of n p)) (name_itself (flag_of n p)),
        ap (λ b. if b then Some (of_truth (is_some o))
            else look_up ((value_of n p, items_if o) ∷ rest) (value_of n p)) (flag_apart n p)
            ∙ ap (λ b. if b then Some (items_if o) else look_up rest (value_of n p)) (name_itself (value_of n p)),
      ),
      in_front (flag_of n p) (of_truth (is_some o)) ((value_of n p, items_if o) ∷ rest) passed (suc n) ps
          (lower (codes "has-" ++ p.name.local) n (suc n) ps (omega arith) (omega arith))
          (in_front (value_of n p) (items_if o) rest passed (suc n) ps
          (lower p.name.local n (suc n) ps (omega arith) (omega arith))
          (pairs_seen passed (suc n) ps (omega arith))),
    )

plain_apart : (name : ExprName) → IsMadeName name → (n : ℕ) (ps : List Param) → Apart name n ps
plain_apart name h n [] = tt
plain_apart name h n (p ∷ ps) = (
  numbers_differ name h (codes "has-" ++ p.name.local) n,
  numbers_differ name h p.name.local n,
  plain_apart name h (suc n) ps,
)

pub focus_seen : (f : Placed Item) (params : List Param) (passed : Passed) →
    1 + length params < 2 ^ 64 → AllSeen (focus_bound f params passed) passed 1 params
focus_seen f params passed few =
    in_front item_name _ _ passed 1 params (plain_apart item_name (refl, refl) 1 params)
    (in_front position_name _ _ passed 1 params (plain_apart position_name (refl, refl) 1 params)
    (in_front size_name _ _ passed 1 params (plain_apart size_name (refl, refl) 1 params)
    (pairs_seen passed 1 params few)))

-- no name of the stylesheet's own is bound
abbrev AllMadeUris : List Binding → Type 0
AllMadeUris bs = Every (λ b. b.0.uri ≡ made_uri) bs

none_own : (bs : List Binding) → AllMadeUris bs → (name : ExprName) → IsOwn name → look_up bs name ≡ None
unfolding look_up
none_own [] h name own = refl
none_own (b ∷ bs) h name own =
    ap (λ c. if c then Some b.1 else look_up bs name) (own_differs b.0 name h.0 own)
    ∙ none_own bs h.1 name own

pairs_made : (n : ℕ) (ps : List Param) (passed : Passed) → AllMadeUris (pairs_bound n ps passed)
pairs_made n [] passed = tt
pairs_made n (p ∷ ps) passed = (refl, (refl, pairs_made (suc n) ps passed))

tunnels_of : (passed : Passed) (locals : List Binding) (n : ℕ) (ps : List Param) →
    AllSeen locals passed n ps → TunnelsAreSeen passed.tunnel locals n ps
tunnels_of passed locals n [] h = tt
tunnels_of passed locals n (p ∷ ps) h = (by p.tunnel h.0, tunnels_of passed locals (suc n) ps h.1)
  where
    by : (b : Bool) → ParamIsSeen locals n p (look_up (if b then passed.tunnel else passed.ordinary) p.name) →
        TunnelIsSeen b passed.tunnel locals n p
    by true g = g
    by false g = tt

-- the place of the content of a template
abbrev pub template_place : Option RuleIn → Place
template_place rule =
    record { has_focus = true; has_group = false; rule = rule; has_tunnel = true }

no_list : (name : ExprName) → look_up [] name ≡ None
unfolding look_up
no_list name = refl

item_held : (f : Placed Item) (params : List Param) (passed : Passed) →
    Holds (focus_bound f params passed) item_name (f.value ∷ [])
unfolding look_up
item_held f params passed = refl

position_held : (f : Placed Item) (params : List Param) (passed : Passed) →
    Holds (focus_bound f params passed) position_name (position_of f)
unfolding look_up
position_held f params passed = refl

size_held : (f : Placed Item) (params : List Param) (passed : Passed) →
    Holds (focus_bound f params passed) size_name (size_of f)
unfolding look_up
size_held f params passed = refl

pub entry_at : (t : Table) → 1 + length t.params < 2 ^ 64 → (x : Spot) (in_template : Option RuleIn) →
    x.place ≡ template_place in_template → (f : Placed Item) → IsSound f.value → (passed : Passed) →
    ArePassed passed → (rule : Option ℕ) (mode : ℕ) → (x.in_rule ≡ true → ModeIsSeen in_template mode) →
    (x.has_rule ≡ true → RuleIsSeen in_template rule mode) →
    IsAt t x (entry (Some f) rule mode passed.tunnel) (body_env (focus_bound f t.params passed))
entry_at t few x in_template place f sound passed good rule mode modes rules =
    subst (λ y. IsAt t y (entry (Some f) rule mode passed.tunnel) (body_env (focus_bound f t.params passed)))
    (λ i. record { place = sym place i; in_rule = x.in_rule; has_rule = x.has_rule })
    (record {
      seen = record {
        locals = λ name own. no_list name ∙ sym (none_own (focus_bound f t.params passed)
            (refl, (refl, (refl, pairs_made 1 t.params passed))) name own);
        known = λ name. subst (OnSome (Every IsSound)) (sym (no_list name)) tt;
        focus = (
          f,
          refl,
          sound,
          item_held f t.params passed,
          position_held f t.params passed,
          size_held f t.params passed,
        );
        current = (f.value, refl, sound, item_held f t.params passed);
        group = tt;
      };
      tunnel = tunnels_of passed (focus_bound f t.params passed) 1 t.params (focus_seen f t.params passed few);
      tunnel_known = good.tunnel;
      mode = modes;
      rule = λ has. (refl, rules has);
    })
