-- The place of an instruction, and what is fixed for the whole stylesheet.
use Rattle.std.specs.Prelude.{ℕ, List, Bool, true, false, Option, Some, None}
use Rattle.xt_names.specs.declared.names.Binding.{Binding}
use Rattle.xt_names.specs.declared.names.ExprName.{ExprName}
use Rattle.xt_syntax.specs.declared.exprs.Expr.{Expr}
use Rattle.xt_syntax.specs.declared.patterns.Pattern.{Pattern}
use Rattle.carried_exprs.specs.Sights.{Setting, Sight, named, absent}
use Rattle.carried_exprs.specs.Carried.{carried}

-- a name of parameters, ordinary ones or tunnel parameters
pub record Param : Type 0 where
  pub tunnel : Bool
  pub name : ExprName

-- What is fixed: the parameters, which have numbers from 1; the namespaces that the query declares
-- for names of nodes; the function of each key; the number of each named template; and the test of a
-- pattern at the focus item.
pub record Table : Type 0 where
  pub params : List Param
  pub prefixes : List Binding
  pub keys : List ℕ → ExprName
  pub named : ℕ → ℕ
  pub matches : Pattern → Expr

-- a template rule, by its place, in a mode
pub record RuleIn : Type 0 where
  pub place : ℕ
  pub mode : ℕ

-- Whether variables hold the focus, whether they hold a group, for which rule in which mode the
-- function is, and whether variables hold the tunnel parameters.
pub record Place : Type 0 where
  pub has_focus : Bool
  pub has_group : Bool
  pub rule : Option RuleIn
  pub has_tunnel : Bool

-- at an item of a loop, and of groups
abbrev pub looped : Place → Place
looped p = record p { has_focus = true }

abbrev pub in_group : Place → Place
in_group p = record p { has_focus = true; has_group = true }

-- the content of a rule in a mode, of a named template, and of a function; a global
abbrev pub of_rule : ℕ → ℕ → Place
of_rule place mode = record {
  has_focus = true;
  has_group = false;
  rule = Some (record { place = place; mode = mode });
  has_tunnel = true;
}

abbrev pub of_named : Place
of_named = record { has_focus = true; has_group = false; rule = None; has_tunnel = true }

abbrev pub of_function : Place
of_function = record { has_focus = false; has_group = false; rule = None; has_tunnel = false }

abbrev pub of_global : Place
of_global = record { has_focus = true; has_group = false; rule = None; has_tunnel = false }

-- the setting and the sight of an expression of an instruction
abbrev pub setting_at : Table → Place → Setting
setting_at t p = record {
  has_current = p.has_focus;
  has_group = p.has_group;
  has_calls = true;
  has_keys = true;
  keys = t.keys;
}

-- a grouping key calls no function of the stylesheet
abbrev pub grouping_setting : Table → Place → Setting
grouping_setting t p = record (setting_at t p) { has_calls = false }

-- `use` of a key calls neither a function of the stylesheet nor key()
abbrev pub use_setting : Table → Setting
use_setting t = record {
  has_current = true;
  has_group = false;
  has_calls = false;
  has_keys = false;
  keys = t.keys;
}

abbrev pub sight_of : Bool → Sight
sight_of true = named
sight_of false = absent

abbrev pub sight_at : Place → Sight
sight_at p = sight_of p.has_focus

abbrev pub carried_at : Table → Place → Expr → Expr
carried_at t p e = carried (setting_at t p) e (sight_at p)
