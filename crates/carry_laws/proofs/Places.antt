-- What is bound, and a focus that is made, is seen on both sides.
use Rattle.std.proofs.Common.{◌≡◌, ℕ, List, [], ◌∷◌, refl, ap}
use Rattle.std.proofs.lemmas.Bool.{and_parts}
use Rattle.std.specs.Prelude.{Bool, true, false, not, if◌then◌else◌, Option, Some}
use Rattle.std.specs.Str.{bytes_eq}
use Rattle.xt_names.specs.declared.names.ExprName.{ExprName}
use Rattle.xdm_items.specs.declared.items.Item.{Item}
use Rattle.expr_meaning.specs.Outcomes.Outcome.{Every}
use Rattle.expr_meaning.specs.SortMeaning.Sorted.{Placed}
use Rattle.expr_meaning.specs.Env.{Binding, Env, with_bound, bind_all, at_focus, look_up}
use Rattle.expr_laws.specs.Carrier.{AreBound}
use Rattle.carried_exprs.specs.Sights.{Sight, named, focused, absent, Setting, is_own_variable}
use Rattle.carried_exprs.specs.Sights.{made_uri, made_name, may_name}
use Rattle.carry_laws.specs.Seen.{OnSome, Holds, FocusIsSeen, CurrentIsSeen, GroupIsSeen, IsSeen}
use Rattle.xt_names.specs.ExprNames.{same_name}

abbrev pub IsOwn : ExprName → Type 0
IsOwn name = is_own_variable name ≡ true

-- .. as is each that may be named
pub named_own : (w : Setting) (name : ExprName) → may_name w name ≡ true → IsOwn name
named_own w name h = (and_parts w.has_keys (is_own_variable name) h).1

pub all_own : (good : Item → Type 0) (w : Setting) (bs : List Binding) →
    AreBound (λ name. may_name w name ≡ true) good bs → AreBound IsOwn good bs
all_own good w [] h = tt
all_own good w (b ∷ bs) h = ((named_own w b.0 h.0.0, h.0.1), all_own good w bs h.1)

-- a name of the stylesheet's own is none that the translation makes up
not_made : (name : ExprName) (local : List ℕ) → IsOwn name →
    same_name name (made_name local) ≡ false
unfolding is_own_variable
not_made name local h = by (bytes_eq name.uri made_uri) refl h
  where
    by : (b : Bool) → bytes_eq name.uri made_uri ≡ b → not b ≡ true →
        same_name name (made_name local) ≡ false
    by true e g = cc
    by false e g = rw e refl

module _ (good : Item → Type 0) where
  -- so it hides no variable of the translation
  pub not_hidden : (bs locals : List Binding) (local : List ℕ) (xs : List Item) →
      AreBound IsOwn good bs → Holds locals (made_name local) xs →
      Holds (with_bound bs locals) (made_name local) xs
  unfolding look_up
  not_hidden [] locals local xs o h = h
  not_hidden (b ∷ bs) locals local xs o h =
      rw (not_made b.0 local o.0.0) (not_hidden bs locals local xs o.1 h)

  same_behind : (bs l m : List Binding) (name : ExprName) → look_up l name ≡ look_up m name →
      look_up (with_bound bs l) name ≡ look_up (with_bound bs m) name
  unfolding look_up
  same_behind [] l m name h = h
  same_behind (b ∷ bs) l m name h =
      ap (λ o. if same_name b.0 name then Some b.1 else o) (same_behind bs l m name h)

  one_of : (b : Bool) (xs : List Item) (o : Option (List Item)) → Every good xs →
      OnSome (Every good) o → OnSome (Every good) (if b then Some xs else o)
  one_of true xs o h g = h
  one_of false xs o h g = g

  known_behind : (bs l : List Binding) (name : ExprName) → AreBound IsOwn good bs →
      OnSome (Every good) (look_up l name) → OnSome (Every good) (look_up (with_bound bs l) name)
  unfolding look_up
  known_behind [] l name o h = h
  known_behind (b ∷ bs) l name o h =
      one_of (same_name b.0 name) b.1 (look_up (with_bound bs l) name) o.0.1
      (known_behind bs l name o.1 h)

  focus_behind : (s : Sight) (e f : Env) (bs : List Binding) → AreBound IsOwn good bs →
      FocusIsSeen good s e f → FocusIsSeen good s (bind_all bs e) (bind_all bs f)
  focus_behind named e f bs o h = (
    h.0,
    h.1,
    h.2,
    not_hidden bs f.locals _ _ o h.3,
    not_hidden bs f.locals _ _ o h.4,
    not_hidden bs f.locals _ _ o h.5,
  )
  focus_behind focused e f bs o h = h
  focus_behind absent e f bs o h = h

  current_behind : (b : Bool) (e f : Env) (bs : List Binding) → AreBound IsOwn good bs →
      CurrentIsSeen good b e f → CurrentIsSeen good b (bind_all bs e) (bind_all bs f)
  current_behind true e f bs o h = (h.0, h.1, h.2, not_hidden bs f.locals _ _ o h.3)
  current_behind false e f bs o h = h

  group_behind : (b : Bool) (e f : Env) (bs : List Binding) → AreBound IsOwn good bs →
      GroupIsSeen good b e f → GroupIsSeen good b (bind_all bs e) (bind_all bs f)
  group_behind true e f bs o h =
      (not_hidden bs f.locals _ _ o h.0, not_hidden bs f.locals _ _ o h.1, h.2, h.3)
  group_behind false e f bs o h = h

  module _ (w : Setting) where
    pub seen_behind : (s : Sight) (e f : Env) → IsSeen good w s e f → (bs : List Binding) →
        AreBound IsOwn good bs → IsSeen good w s (bind_all bs e) (bind_all bs f)
    seen_behind s e f h bs o = record {
      locals = λ name own. same_behind bs e.locals f.locals name (h.locals name own);
      known = λ name. known_behind bs e.locals name o (h.known name);
      focus = focus_behind s e f bs o h.focus;
      current = current_behind w.has_current e f bs o h.current;
      group = group_behind w.has_group e f bs o h.group;
    }

    current_at : (b : Bool) (e f : Env) (p : Placed Item) → CurrentIsSeen good b e f →
        CurrentIsSeen good b (at_focus e p) (at_focus f p)
    current_at true e f p h = h
    current_at false e f p h = h

    group_at : (b : Bool) (e f : Env) (p : Placed Item) → GroupIsSeen good b e f →
        GroupIsSeen good b (at_focus e p) (at_focus f p)
    group_at true e f p h = h
    group_at false e f p h = h

    pub seen_within : (s : Sight) (e f : Env) → IsSeen good w s e f → (p : Placed Item) →
        good p.value → IsSeen good w focused (at_focus e p) (at_focus f p)
    seen_within s e f h p g = record {
      locals = h.locals;
      known = h.known;
      focus = (p, refl, g, refl);
      current = current_at w.has_current e f p h.current;
      group = group_at w.has_group e f p h.group;
    }
