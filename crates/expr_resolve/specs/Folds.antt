-- The two folds: what a raw value means, and the rules that it breaks, in reading order.
use Rattle.std.specs.Prelude.{List, [], ◌∷◌, ◌++◌, map, reverse, Bool, if◌then◌else◌}
use Rattle.xt_names.specs.declared.codes.Code.{Code}
use Rattle.expr_keys.specs.declared.productions.Production.{Production}
use Rattle.expr_terms.specs.declared.raws.Raw.{Raw}
use Rattle.expr_terms.specs.declared.raws.Raw.TheFolds.{fold-Raw}
use Rattle.expr_terms.specs.declared.raws.Raw.TheOpen.{Raw-F, Leaf, Node}
use Rattle.expr_primaries.specs.ExprRules.declared.expr_meant.meant.Meant.{Meant}
use Rattle.expr_primaries.specs.ExprRules.declared.expr_meant.meant.Meant.TheVariants as meant
use Rattle.expr_control.specs.XtTypes.declared.types.SeqType.{SeqType}
use Rattle.xt_syntax.specs.declared.exprs.Expr.{Expr}
use Rattle.expr_primaries.specs.ExprRules.ExprMeant.Parts.{expr_of}
use Rattle.expr_primaries.specs.ExprRules.Rules.{type_broken_of}
use Rattle.expr_control.specs.Types.{sequence_of}
use Rattle.expr_resolve.specs.declared.setting.Setting.{Setting}
use Rattle.expr_resolve.specs.Tables.{act, own, end, is_chain, is_tag, before_last}
use Rattle.xt_names.specs.Lists.{is_none}

-- what a part means, and the rules that it breaks
pub record Found : Type 0 where
  pub value : Meant
  pub broken : List Code

abbrev pub values : List Found → List Meant
values fs = map (λ f. f.value) fs

-- a part's own rules come right after it
abbrev pub checked : Setting → Production → Bool → Found → List Code
checked s p first f = f.broken ++ own s p first f.value

abbrev pub step_broken : Setting → Production → Bool → List Meant → Found → List Code
step_broken s p last seen f = before_last (is_tag p) last seen ++ checked s p (is_none seen) f

-- the rules that the parts break after those that mean `seen`
abbrev pub steps_broken : Setting → Production → List Meant → List Found → List Code
steps_broken s p seen [] = []
steps_broken s p seen (f ∷ fs) = step_broken s p (is_none fs) seen f ++ steps_broken s p (seen ++ f.value ∷ []) fs

abbrev pub all_broken : List Found → List Code
all_broken [] = []
all_broken (f ∷ fs) = f.broken ++ all_broken fs

-- .. those of all parts
abbrev pub parts_broken : Setting → Production → List Found → List Code
parts_broken s p fs = if is_chain p then all_broken (reverse fs) else steps_broken s p [] fs

-- the parts in reading order
abbrev pub parts_values : Production → List Found → List Meant
parts_values p fs = if is_chain p then reverse (values fs) else values fs

abbrev pub found_layer : Setting → Raw-F Found → Found
found_layer s (Leaf t) = record { value = meant.Token t; broken = [] }
found_layer s (Node p fs) = record { value = act s p (parts_values p fs); broken = parts_broken s p fs ++ end s p (parts_values p fs) }

abbrev pub found_of : Setting → Raw → Found
found_of s = fold-Raw Found (found_layer s)

-- what the raw value means
abbrev pub value_of : Setting → Raw → Meant
value_of s raw = (found_of s raw).value

-- .. and the rules that it breaks
abbrev pub broken_of : Setting → Raw → List Code
broken_of s raw = (found_of s raw).broken

-- the expression that the raw value means
abbrev pub expr_meant : Setting → Raw → Expr
expr_meant s raw = expr_of (value_of s raw)

-- .. and the sequence type, of which an atomic one may be a mere token
abbrev pub type_meant : Setting → Raw → SeqType
type_meant s raw = sequence_of s.prefixes.bound (value_of s raw)

abbrev pub type_broken : Setting → Raw → List Code
type_broken s raw = broken_of s raw ++ type_broken_of s.prefixes.bound (value_of s raw)
