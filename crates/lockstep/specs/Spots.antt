-- Places in the run of a stylesheet and of its query at which an instruction, and what the translation
-- makes of it, are looked at.
use Rattle.std.specs.Prelude.{◌≡◌, ℕ, suc, List, [], ◌∷◌, Bool, true, false, Option, Some, None, is_some}
use Rattle.xdm_items.specs.FunctionArguments.Answers.{of_truth}
use Rattle.xdm_items.specs.declared.items.Item.{Item}
use Rattle.expr_meaning.specs.Env.{Binding, Env, look_up}
use Rattle.expr_laws.specs.Carrier.{AreGood}
use Rattle.meaning_laws.specs.SoundValues.Sound.{IsSound}
use Rattle.carry_laws.specs.Seen.{Holds, IsSeen}
use Rattle.translated_forms.specs.Params.{flag_of, value_of}
use Rattle.translated_forms.specs.Places.{Param, Place, RuleIn, Table, looped as looped_place}
use Rattle.translated_forms.specs.Places.{in_group as grouped_place, setting_at, sight_at}
use Rattle.translation.specs.Stands.{Stand}

-- how an instruction is translated, whether it is in a template that rules alone reach, and whether it
-- is outside of each loop there
pub record Spot : Type 0 where
  pub place : Place
  pub in_rule : Bool
  pub has_rule : Bool

abbrev pub stand_at : Spot → Stand
stand_at x = record {
  in_rule = x.in_rule;
  has_rule = x.has_rule;
  has_focus = x.place.has_focus;
  has_group = x.place.has_group;
}

-- at an item of a loop, and at a group
abbrev pub looped_spot : Spot → Spot
looped_spot x = record {
  place = looped_place x.place;
  in_rule = x.in_rule;
  has_rule = false;
}

abbrev pub grouped_spot : Spot → Spot
grouped_spot x = record {
  place = grouped_place x.place;
  in_rule = x.in_rule;
  has_rule = false;
}

-- a list, if there is one, as two variables hold it: whether there is one, and its items
abbrev pub items_if : Option (List Item) → List Item
items_if None = []
items_if (Some xs) = xs

abbrev pub ParamIsSeen : List Binding → ℕ → Param → Option (List Item) → Type 0
ParamIsSeen locals n p o =
    Holds locals (flag_of n p) (of_truth (is_some o)) × Holds locals (value_of n p) (items_if o)

-- the tunnel parameters among these, which have numbers from n
abbrev pub TunnelIsSeen : Bool → List Binding → List Binding → ℕ → Param → Type 0
TunnelIsSeen false tunnel locals n p = Unit {0}
TunnelIsSeen true tunnel locals n p = ParamIsSeen locals n p (look_up tunnel p.name)

abbrev pub TunnelsAreSeen : List Binding → List Binding → ℕ → List Param → Type 0
TunnelsAreSeen tunnel locals n [] = Unit {0}
TunnelsAreSeen tunnel locals n (p ∷ ps) =
    TunnelIsSeen p.tunnel tunnel locals n p × TunnelsAreSeen tunnel locals (suc n) ps

-- the tunnel parameters, where variables hold them; elsewhere there are none
abbrev pub TunnelMapIsSeen : Bool → List Param → List Binding → List Binding → Type 0
TunnelMapIsSeen true params tunnel locals = TunnelsAreSeen tunnel locals 1 params
TunnelMapIsSeen false params tunnel locals = tunnel ≡ []

-- the mode and the rule that the names of functions tell; without a rule the mode is the default one
abbrev pub ModeIsSeen : Option RuleIn → ℕ → Type 0
ModeIsSeen None mode = mode ≡ 0
ModeIsSeen (Some r) mode = mode ≡ r.mode

abbrev pub RuleIsSeen : Option RuleIn → Option ℕ → ℕ → Type 0
RuleIsSeen None rule mode = rule ≡ None
RuleIsSeen (Some r) rule mode = (rule ≡ Some r.place) × (mode ≡ r.mode)

-- The first place is the stylesheet's, the second its query's.
pub record IsAt (t : Table) (x : Spot) (e f : Env) : Type 0 where
  pub seen : IsSeen IsSound (setting_at t x.place) (sight_at x.place) e f
  pub tunnel : TunnelMapIsSeen x.place.has_tunnel t.params e.state.tunnel f.locals
  pub tunnel_known : AreGood IsSound e.state.tunnel
  pub mode : x.in_rule ≡ true → ModeIsSeen x.place.rule e.state.mode
  pub rule : x.has_rule ≡ true →
      (x.place.has_focus ≡ true) × RuleIsSeen x.place.rule e.state.rule e.state.mode

-- where there is no spot, nothing is known
abbrev pub AtSpot : Table → Option Spot → Env → Env → Type 0
AtSpot t None e f = Unit {0}
AtSpot t (Some x) e f = IsAt t x e f
