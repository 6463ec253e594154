-- Wherever instructions go, the query sees what the stylesheet reads.
use Rattle.std.proofs.Common.{◌≡◌, ℕ, suc, List, [], ◌∷◌, ◌++◌, refl, sym, ap, ◌∙◌, subst}
use Rattle.std.proofs.lemmas.Slice.Eq.{bytes_eq-Decides}
use Rattle.std.specs.Str.{bytes_eq}
use Rattle.std.specs.Prelude.{codes, Bool, true, false, Option, Some, None}
use Rattle.xt_names.specs.declared.codes.Code.{Code}
use Rattle.xt_names.specs.declared.names.ExprName.{ExprName}
use Rattle.xdm_items.specs.declared.items.Item.{Item}
use Rattle.expr_meaning.specs.Outcomes.Outcome.{Every}
use Rattle.expr_meaning.specs.Outcomes.Follow.{Relation, IsCarrying}
use Rattle.expr_meaning.specs.SortMeaning.Sorted.{Placed}
use Rattle.expr_meaning.specs.Env.{Binding, Env, Meaning, Group, look_up}
use Rattle.expr_meaning.specs.Env.{with_bound, bind_all}
use Rattle.expr_meaning.specs.Calls.{position_of, size_of, members_of, key_of}
use Rattle.expr_laws.specs.Carrier.{Carrier, AreBound, Meet}
use Rattle.meaning_laws.specs.SoundValues.Sound.{IsSound}
use Rattle.meaning_laws.proofs.SoundFunctions.Kept.{values_kept}
use Rattle.carried_exprs.specs.Sights.{item_name, position_name, size_name, group_name, key_name}
use Rattle.carried_exprs.specs.Sights.{is_own_variable, made_name, made_uri, Setting, Sight, named}
use Rattle.carried_exprs.specs.Sights.{focused, absent}
use Rattle.carry_laws.specs.Seen.{Holds, IsSeen, FocusIsSeen, GroupIsSeen}
use Rattle.carry_laws.specs.Seen.{CurrentIsSeen}
use Rattle.carry_laws.proofs.Places.{IsOwn, not_hidden, seen_behind}
use Rattle.translated_forms.specs.Places.{Param, Table, setting_at, sight_at}
use Rattle.transform_meaning.specs.Places.{at_item, in_turn, in_group, first_in, item_in}
use Rattle.translated_forms.specs.Names.{numbered}
use Rattle.lockstep.specs.Spots.{Spot, IsAt, AtSpot, TunnelIsSeen, TunnelsAreSeen, TunnelMapIsSeen}
use Rattle.lockstep.specs.Spots.{looped_spot, grouped_spot}
use Rattle.lockstep.proofs.Names.{IsMadeName, numbers_differ}
use Rattle.xt_names.specs.ExprNames.{same_name}

-- bindings with names of the stylesheet's own
tunnel_behind : (bs : List Binding) → AreBound IsOwn IsSound bs → (b : Bool)
    (tunnel locals : List Binding) (n : ℕ) (p : Param) → TunnelIsSeen b tunnel locals n p →
    TunnelIsSeen b tunnel (with_bound bs locals) n p
tunnel_behind bs o false tunnel locals n p h = tt
tunnel_behind bs o true tunnel locals n p h =
    (not_hidden IsSound bs locals _ _ o h.0, not_hidden IsSound bs locals _ _ o h.1)

tunnels_behind : (bs : List Binding) → AreBound IsOwn IsSound bs → (tunnel locals : List Binding)
    (n : ℕ) (ps : List Param) → TunnelsAreSeen tunnel locals n ps →
    TunnelsAreSeen tunnel (with_bound bs locals) n ps
tunnels_behind bs o tunnel locals n [] h = tt
tunnels_behind bs o tunnel locals n (p ∷ ps) h = (
  tunnel_behind bs o p.tunnel tunnel locals n p h.0,
  tunnels_behind bs o tunnel locals (suc n) ps h.1,
)

map_behind : (bs : List Binding) → AreBound IsOwn IsSound bs → (b : Bool) (ps : List Param)
    (tunnel locals : List Binding) → TunnelMapIsSeen b ps tunnel locals →
    TunnelMapIsSeen b ps tunnel (with_bound bs locals)
map_behind bs o true ps tunnel locals h = tunnels_behind bs o tunnel locals 1 ps h
map_behind bs o false ps tunnel locals h = h

pub at_behind : (t : Table) (x : Spot) (e f : Env) → IsAt t x e f → (bs : List Binding) →
    AreBound IsOwn IsSound bs → IsAt t x (bind_all bs e) (bind_all bs f)
at_behind t x e f h bs o = record {
  seen = seen_behind IsSound (setting_at t x.place) (sight_at x.place) e f h.seen bs o;
  tunnel = map_behind bs o x.place.has_tunnel t.params e.state.tunnel f.locals h.tunnel;
  tunnel_known = h.tunnel_known;
  mode = h.mode;
  rule = h.rule;
}

pub spot_behind : (t : Table) (o : Option Spot) (e f : Env) → AtSpot t o e f → (bs : List Binding) →
    AreBound IsOwn IsSound bs → AtSpot t o (bind_all bs e) (bind_all bs f)
spot_behind t None e f h bs o = tt
spot_behind t (Some x) e f h bs o = at_behind t x e f h bs o

-- bindings of the query alone, with names that are made up without numbers
abbrev pub AreMade : List Binding → Type 0
AreMade bs = Every (λ b. IsMadeName b.0) bs

-- a name that none of the bindings has
abbrev pub Passes : List Binding → ExprName → Type 0
Passes bs name = (locals : List Binding) → look_up (with_bound bs locals) name ≡ look_up locals name

pub passed_by : (bs : List Binding) (name : ExprName) → Every (λ b. same_name b.0 name ≡ false) bs →
    Passes bs name
unfolding look_up
passed_by [] name h locals = refl
passed_by (b ∷ bs) name h locals = rw (h.0) (passed_by bs name h.1 locals)

pub own_differs : (a b : ExprName) → a.uri ≡ made_uri → IsOwn b → same_name a b ≡ false
unfolding is_own_variable
own_differs a b m own = by (bytes_eq a.uri b.uri) refl
  where
    by : (d : Bool) → bytes_eq a.uri b.uri ≡ d → same_name a b ≡ false
    by false e = rw e refl
    by true e =
        let same : b.uri ≡ made_uri = sym ((bytes_eq-Decides a.uri b.uri).0 e) ∙ m in
        let yes : bytes_eq b.uri made_uri ≡ true = (bytes_eq-Decides b.uri made_uri).1 same in
        absurd cc

all_made : (P : ExprName → Type 0) → ((name : ExprName) → IsMadeName name → P name) →
    (bs : List Binding) → AreMade bs → Every (λ b. P b.0) bs
all_made P h [] m = tt
all_made P h (b ∷ bs) m = (h b.0 m.0, all_made P h bs m.1)

pub own_passes : (bs : List Binding) → AreMade bs → (name : ExprName) → IsOwn name → Passes bs name
own_passes bs m name own =
    passed_by bs name
    (all_made (λ a. same_name a name ≡ false) (λ a i. own_differs a name i.0 own) bs m)

pub number_passes : (bs : List Binding) → AreMade bs → (stem : List ℕ) (n : ℕ) →
    Passes bs (made_name (numbered stem n))
number_passes bs m stem n =
    passed_by bs (made_name (numbered stem n))
    (all_made (λ a. same_name a (made_name (numbered stem n)) ≡ false)
    (λ a i. numbers_differ a i stem n) bs m)

module _ (bs : List Binding) (made : AreMade bs) where
  tunnel_within : (b : Bool) (tunnel locals : List Binding) (n : ℕ) (p : Param) →
      TunnelIsSeen b tunnel locals n p → TunnelIsSeen b tunnel (with_bound bs locals) n p
  tunnel_within false tunnel locals n p h = tt
  tunnel_within true tunnel locals n p h = (
    number_passes bs made (codes "has-" ++ p.name.local) n locals ∙ h.0,
    number_passes bs made p.name.local n locals ∙ h.1,
  )

  tunnels_within : (tunnel locals : List Binding) (n : ℕ) (ps : List Param) →
      TunnelsAreSeen tunnel locals n ps → TunnelsAreSeen tunnel (with_bound bs locals) n ps
  tunnels_within tunnel locals n [] h = tt
  tunnels_within tunnel locals n (p ∷ ps) h = (
    tunnel_within p.tunnel tunnel locals n p h.0,
    tunnels_within tunnel locals (suc n) ps h.1,
  )

  map_within : (b : Bool) (ps : List Param) (tunnel locals : List Binding) →
      TunnelMapIsSeen b ps tunnel locals → TunnelMapIsSeen b ps tunnel (with_bound bs locals)
  map_within true ps tunnel locals h = tunnels_within tunnel locals 1 ps h
  map_within false ps tunnel locals h = h

  -- the group stays
  group_within : (b : Bool) (e d f : Env) → e.state.group ≡ d.state.group → Passes bs group_name →
      Passes bs key_name → GroupIsSeen IsSound b e f → GroupIsSeen IsSound b d (bind_all bs f)
  group_within false e d f same g k h = tt
  group_within true e d f same g k h = (
    g f.locals ∙ h.0 ∙ ap (λ o. Some (members_of o)) same,
    k f.locals ∙ h.1 ∙ ap (λ o. Some (key_of o)) same,
    subst (λ o. Every IsSound (members_of o)) same h.2,
    subst (λ o. Every IsSound (key_of o)) same h.3,
  )

  own_within : (w : Setting) (s : Sight) (e f : Env) → IsSeen IsSound w s e f → (name : ExprName) →
      is_own_variable name ≡ true → look_up e.locals name ≡ look_up (with_bound bs f.locals) name
  own_within w s e f h name own = h.locals name own ∙ sym (own_passes bs made name own f.locals)

  module _ (t : Table) (x : Spot) (e f : Env) (h : IsAt t x e f) where
    -- at an item of a loop, which the query's bindings hold
    module _ (p : Placed Item) (g : IsSound p.value)
        (item : Holds (with_bound bs f.locals) item_name (p.value ∷ []))
        (position : Holds (with_bound bs f.locals) position_name (position_of p))
        (size : Holds (with_bound bs f.locals) size_name (size_of p))
        (group : Passes bs group_name) (key : Passes bs key_name) where
      pub at_turn : IsAt t (looped_spot x) (in_turn e p) (bind_all bs f)
      at_turn = record {
        seen = record {
          locals = own_within _ _ e f h.seen;
          known = h.seen.known;
          focus = (p, refl, g, item, position, size);
          current = (p.value, refl, g, item);
          group = group_within x.place.has_group e (in_turn e p) f refl group key h.seen.group;
        };
        tunnel = map_within x.place.has_tunnel t.params e.state.tunnel f.locals h.tunnel;
        tunnel_known = h.tunnel_known;
        mode = h.mode;
        rule = λ no. absurd cc;
      }

      pub at_sort : IsAt t (looped_spot x) (at_item e p) (bind_all bs f)
      at_sort = record {
        seen = record {
          locals = own_within _ _ e f h.seen;
          known = h.seen.known;
          focus = (p, refl, g, item, position, size);
          current = (p.value, refl, g, item);
          group = group_within x.place.has_group e (at_item e p) f refl group key h.seen.group;
        };
        tunnel = map_within x.place.has_tunnel t.params e.state.tunnel f.locals h.tunnel;
        tunnel_known = h.tunnel_known;
        mode = h.mode;
        rule = λ no. absurd cc;
      }

    -- at a group, whose first item the bindings hold in the place of the group
    pub at_group : (g : Placed Group) → Every IsSound g.value.members → Every IsSound (key_of (Some g.value)) →
        (p : Placed Item) → first_in g ≡ Some p → IsSound p.value →
        Holds (with_bound bs f.locals) item_name (p.value ∷ []) →
        Holds (with_bound bs f.locals) position_name (position_of p) →
        Holds (with_bound bs f.locals) size_name (size_of p) →
        Holds (with_bound bs f.locals) group_name g.value.members →
        Holds (with_bound bs f.locals) key_name (key_of (Some g.value)) →
        IsAt t (grouped_spot x) (in_group e g) (bind_all bs f)
    at_group g members key p first sound item position size held held_key = record {
      seen = record {
        locals = own_within _ _ e f h.seen;
        known = h.seen.known;
        focus = (p, first, sound, item, position, size);
        current = (p.value, ap item_in first, sound, item);
        group = (held, held_key, members, key);
      };
      tunnel = map_within x.place.has_tunnel t.params e.state.tunnel f.locals h.tunnel;
      tunnel_known = h.tunnel_known;
      mode = h.mode;
      rule = λ no. absurd cc;
    }

    -- what else the query binds for itself is not seen
    focus_within : Passes bs item_name → Passes bs position_name → Passes bs size_name → (s : Sight) →
        FocusIsSeen IsSound s e f → FocusIsSeen IsSound s e (bind_all bs f)
    focus_within i p s named o =
        (o.0, o.1, o.2, i f.locals ∙ o.3, p f.locals ∙ o.4, s f.locals ∙ o.5)
    focus_within i p s focused o = o
    focus_within i p s absent o = o

    current_within : Passes bs item_name → (b : Bool) → CurrentIsSeen IsSound b e f →
        CurrentIsSeen IsSound b e (bind_all bs f)
    current_within i true o = (o.0, o.1, o.2, i f.locals ∙ o.3)
    current_within i false o = o

    pub at_within : Passes bs item_name → Passes bs position_name → Passes bs size_name →
        Passes bs group_name → Passes bs key_name → IsAt t x e (bind_all bs f)
    at_within i p s g k = record {
      seen = record {
        locals = own_within _ _ e f h.seen;
        known = h.seen.known;
        focus = focus_within i p s (sight_at x.place) h.seen.focus;
        current = current_within i x.place.has_focus h.seen.current;
        group = group_within x.place.has_group e e f refl g k h.seen.group;
      };
      tunnel = map_within x.place.has_tunnel t.params e.state.tunnel f.locals h.tunnel;
      tunnel_known = h.tunnel_known;
      mode = h.mode;
      rule = h.rule;
    }

module _ (like : Code → Code → Type 0) (lax : (a b : Code) → like a b) (rel : Relation)
    (carries : IsCarrying like rel) (t : Table) where
  -- Instructions are related wherever they may be, as expressions are: with all that is known of the
  -- relation.
  abbrev pub frame : Carrier
  frame = record {
    strict = Unit {0};
    like = like;
    alike = λ c. lax c c;
    rel = rel;
    carries = carries;
    good = IsSound;
    kept = values_kept;
    own_variable = IsOwn;
    own_function = λ name. Unit {0};
    Sight = Option Spot;
    inner = None;
    at = AtSpot t;
    bound = spot_behind t;
    focused = λ s e f h p g. tt;
  }

  abbrev pub Meets : Spot → Meaning → Meaning → Type 0
  Meets x m n = Meet frame (Some x) m n
