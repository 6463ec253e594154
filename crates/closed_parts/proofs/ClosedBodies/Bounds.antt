-- Variables, parameters and branches that are closed, with what they hold.
use Rattle.std.proofs.Common.{◌≡◌, ℕ, ◌≤◌, [], ◌∷◌, map, Bool, true, false, not, ◌&&◌, ◌||◌, Option}
use Rattle.std.proofs.Common.{Some, None, refl, sym, ap, subst, ◌∙◌, arith}
use Rattle.std.proofs.lemmas.Bool.{and_parts, and_from}
use Rattle.std.specs.Prelude.{is_some, is_none}
use Rattle.xt_syntax.specs.declared.exprs.Expr.{Expr}
use Rattle.xt_syntax.specs.declared.patterns.Pattern.{Pattern}
use Rattle.xt_sheets.specs.Layers.{Kinds, Steps, ValueLayer, instr_gives, value_gives, bound_gives}
use Rattle.xt_sheets.specs.Layers.{when_gives}
use Rattle.xt_sheets.specs.declared.instrs.Bound.{Bound}
use Rattle.xt_sheets.specs.declared.instrs.Instr.{Instr}
use Rattle.xt_sheets.specs.declared.instrs.Instr.TheFolds.{fold-roll-Value, fold-roll-Bound}
use Rattle.xt_sheets.specs.declared.instrs.Instr.TheFolds.{fold-roll-When, fold_out-Bound}
use Rattle.xt_sheets.specs.declared.instrs.Instr.TheFolds.{map-Value}
use Rattle.xt_sheets.specs.declared.instrs.Instr.TheOpen.{Value-F, Bound-F, When-F}
use Rattle.xt_sheets.specs.declared.instrs.Instr.TheOpen as form
use Rattle.xt_sheets.specs.declared.instrs.Instr.TheViews.{roll-Value, roll-Bound, roll-When}
use Rattle.xt_sheets.specs.declared.instrs.Value.{Value}
use Rattle.xt_sheets.specs.declared.instrs.Value.TheVariants as value
use Rattle.xt_sheets.specs.declared.instrs.Value.TheVariants.{rolls-Select, rolls-Body}
use Rattle.xt_sheets.specs.declared.instrs.Value.TheVariants.{rolls-EmptyText, rolls-EmptyList}
use Rattle.xt_sheets.specs.declared.instrs.Value.TheVariants.{rolls-Required}
use Rattle.xt_sheets.specs.declared.instrs.When.{When}
use Rattle.closed_queries.specs.Closed.{is_good_kind}
use Rattle.closed_queries.specs.Texts.{is_sound_expr_name}
use Rattle.closed_sheets.specs.Instrs.{goods, good_steps, value_good, is_good_bound, is_good_when}
use Rattle.closed_sheets.specs.Instrs.{is_good_bound_value}
use Rattle.closed_sheets.specs.Values.{is_sheet_expr, if_sheet_expr}
use Rattle.closed_sheets.specs.SheetForms.InstrNest.{nests, nest_steps, value_nest, value_nest_of, bound_nest_of}
use Rattle.closed_sheets.specs.SheetForms.InstrNest.{when_nest_of}
use Rattle.sheet_heads.specs.Bindings.{value_in, with_value}
use Rattle.sheet_heads.specs.Repeats.{bound_name}
use Rattle.sheet_heads.specs.declared.bindings.BoundHead.{BoundHead}
use Rattle.sheet_values.specs.declared.sheet_texts.places.StaticContext.{StaticContext}
use Rattle.sheet_closure.specs.StandingParts.Bodies.{standings, stand_steps, value_stand, value_stands}
use Rattle.sheet_closure.specs.StandingParts.Bodies.{BoundStands, Stands, bound_stands, when_stands}
use Rattle.sheet_closure.specs.StandingParts.Bodies.{bound_names}
use Rattle.sheet_closure.specs.StandingParts.Calls.{expr_stands}
use Rattle.sheet_closure.specs.StandingParts.Values.{if_expr_stands}
use Rattle.closed_parts.proofs.ClosedHeads.Bounds.{ClosedBound}
use Rattle.closed_parts.proofs.ClosedBodies.Forms.{Instrs, Bounds}
use Rattle.closed_parts.proofs.ClosedBodies.Heads.{ClosedBody}

-- a form of value
abbrev Form : Type 0
Form = Value-F Expr Pattern (Instr Expr Pattern) (Value Expr Pattern) (Bound Expr Pattern)
    (When Expr Pattern)

abbrev mapped : (k : Kinds) → Steps Expr Pattern k → Form → ValueLayer Expr Pattern k
mapped k s x =
    map-Value Expr Pattern (Instr Expr Pattern) (Value Expr Pattern) (Bound Expr Pattern)
    (When Expr Pattern) k.Instrs k.Values k.Bounds k.Whens (instr_gives k s) (value_gives k s)
    (bound_gives k s) (when_gives k s) x

value_rolled : (k : Kinds) (s : Steps Expr Pattern k) (x : Form)
    → value_gives k s (roll-Value Expr Pattern x) ≡ s.of_value (mapped k s x)
value_rolled k s x = fold-roll-Value _ _ _ _ _ _ _ _ _ _ x

pub record ClosedValue (grouped : Bool) (room : ℕ) (required : Bool) (v : Value Expr Pattern)
    : Type 0 where
  pub good : is_good_bound_value v ≡ true
  pub stands : (value_stands v).stands grouped ≡ true
  pub required_so : (value_stands v).required ≡ required
  pub nests : value_nest_of v ≤ room

rolled : (grouped : Bool) (room : ℕ) (required : Bool) (x : Form)
    → value_good (mapped goods good_steps x) ≡ true
    → (value_stand (mapped standings stand_steps x)).stands grouped ≡ true
    → (value_stand (mapped standings stand_steps x)).required ≡ required
    → value_nest (mapped nests nest_steps x) ≤ room
    → ClosedValue grouped room required (roll-Value Expr Pattern x)
rolled grouped room required x g s r n =
    let k = value_rolled standings stand_steps x in
    record {
      good = value_rolled goods good_steps x ∙ g;
      stands = ap (λ v. v.stands grouped) k ∙ s;
      required_so = ap (λ v. v.required) k ∙ r;
      nests = subst (λ m. m ≤ room) (sym (value_rolled nests nest_steps x)) n;
    }

pub required_closed : (grouped : Bool) (room : ℕ) → ClosedValue grouped room true value.Required
required_closed grouped room =
    subst (ClosedValue grouped room true) rolls-Required
    (rolled grouped room true form.Required refl refl refl (omega arith))

value_closed : (grouped : Bool) (room : ℕ) (select : Option Expr) (content required kind : Bool)
    (body : Instrs) → if_sheet_expr select ≡ true → if_expr_stands grouped select ≡ true
    → (not required || (is_none select && not content)) ≡ true → ClosedBody grouped room body
    → ClosedValue grouped room required (value_in select content required kind body)
unfolding if_sheet_expr if_expr_stands
value_closed grouped room (Some e) content true kind body g s r b = absurd cc
value_closed grouped room (Some e) content false kind body g s r b =
    subst (ClosedValue grouped room false) (rolls-Select e)
    (rolled grouped room false (form.Select e) g s refl (omega arith))
value_closed grouped room None true true kind body g s r b = absurd cc
value_closed grouped room None true false kind body g s r b =
    subst (ClosedValue grouped room false) (rolls-Body body)
    (rolled grouped room false (form.Body body) b.good b.stands refl b.nests)
value_closed grouped room None false true kind body g s r b =
    required_closed grouped room
value_closed grouped room None false false true body g s r b =
    subst (ClosedValue grouped room false) rolls-EmptyList
    (rolled grouped room false form.EmptyList refl refl refl (omega arith))
value_closed grouped room None false false false body g s r b =
    subst (ClosedValue grouped room false) rolls-EmptyText
    (rolled grouped room false form.EmptyText refl refl refl (omega arith))

-- a variable or a parameter
pub record ClosedBoundOf (grouped : Bool) (room : ℕ) (required : Bool) (b : Bound Expr Pattern)
    : Type 0 where
  pub good : is_good_bound b ≡ true
  pub stands : (bound_stands b).value.stands grouped ≡ true
  pub required_so : (bound_stands b).value.required ≡ required
  pub nests : bound_nest_of b ≤ room

abbrev BoundForm : Type 0
BoundForm = Bound-F Expr Pattern (Instr Expr Pattern) (Value Expr Pattern) (Bound Expr Pattern)
    (When Expr Pattern)

pub bound_rolled : (grouped : Bool) (room : ℕ) (required : Bool) (x : BoundForm)
    → is_sound_expr_name x.name ≡ true → is_good_kind x.kind ≡ true
    → is_good_bound_value x.value ≡ true → (value_stands x.value).stands grouped ≡ true
    → (value_stands x.value).required ≡ required → value_nest_of x.value ≤ room
    → ClosedBoundOf grouped room required (roll-Bound Expr Pattern x)
bound_rolled grouped room required x n k g s r m =
    record {
      good = fold-roll-Bound _ _ _ _ _ _ _ _ _ _ x
          ∙ and_from (is_sound_expr_name x.name) _ n (and_from (is_good_kind x.kind) _ k g);
      stands = ap (λ (b : BoundStands). b.value.stands grouped)
          (fold-roll-Bound _ _ _ _ _ _ _ _ _ _ x) ∙ s;
      required_so = ap (λ (b : BoundStands). b.value.required)
          (fold-roll-Bound _ _ _ _ _ _ _ _ _ _ x) ∙ r;
      nests = subst (λ j. j ≤ room) (sym (fold-roll-Bound _ _ _ _ _ _ _ _ _ _ x)) m;
    }

pub bound_closed : (p : StaticContext) (room : ℕ) (h : BoundHead Expr) (content : Bool) (body : Instrs)
    → ClosedBound p content h → ClosedBody p.in_group room body
    → ClosedBoundOf p.in_group room h.required (with_value h content body)
bound_closed p room h content body c b =
    let g = and_parts (is_sound_expr_name h.name) _ c.good in
    let k = and_parts (is_good_kind h.kind) (if_sheet_expr h.select) g.1 in
    let v = value_closed p.in_group room h.select content h.required (is_some h.kind) body k.1
    c.stands c.required b in
    bound_rolled p.in_group room h.required (record {
      name = h.name;
      kind = h.kind;
      value = value_in h.select content h.required (is_some h.kind) body;
      tunnel = h.tunnel;
    }) g.0 k.0 v.good v.stands v.required_so v.nests

-- its name
pub stands_named : (b : Bound Expr Pattern) → (bound_stands b).name ≡ bound_name b
unfolding bound_name
stands_named b = ap (λ (x : BoundStands). x.name) (fold_out-Bound _ _ _ _ _ _ _ _ _ _ b)

pub same_names : (bs : Bounds) → bound_names (map bound_stands bs) ≡ map bound_name bs
same_names [] = refl
same_names (b ∷ bs) =
    ap (λ n. n ∷ bound_names (map bound_stands bs)) (stands_named b)
    ∙ ap (λ ns. bound_name b ∷ ns) (same_names bs)

-- a branch
pub record ClosedWhen (grouped : Bool) (room : ℕ) (w : When Expr Pattern) : Type 0 where
  pub good : is_good_when w ≡ true
  pub stands : when_stands w grouped ≡ true
  pub nests : when_nest_of w ≤ room

abbrev WhenForm : Type 0
WhenForm = When-F Expr Pattern (Instr Expr Pattern) (Value Expr Pattern) (Bound Expr Pattern)
    (When Expr Pattern)

pub when_closed : (grouped : Bool) (room : ℕ) (x : WhenForm) → is_sheet_expr x.test ≡ true
    → expr_stands grouped x.test ≡ true → ClosedBody grouped room x.body
    → ClosedWhen grouped room (roll-When Expr Pattern x)
when_closed grouped room x g s b = record {
  good = fold-roll-When _ _ _ _ _ _ _ _ _ _ x ∙ and_from (is_sheet_expr x.test) _ g b.good;
  stands = ap (λ (f : Stands). f grouped) (fold-roll-When _ _ _ _ _ _ _ _ _ _ x)
      ∙ and_from (expr_stands grouped x.test) _ s b.stands;
  nests = subst (λ j. j ≤ room) (sym (fold-roll-When _ _ _ _ _ _ _ _ _ _ x)) b.nests;
}
