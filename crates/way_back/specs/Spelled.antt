-- The fixed names of a query, as a stylesheet spells them.
use Rattle.std.specs.Prelude.{ℕ, zero, suc, List, Bool, true, false, not, ◌&&◌}
use Rattle.std.specs.Prelude.{Result, Ok, Err, if◌then◌else◌}
use Rattle.std.specs.List.{list_all}
use Rattle.std.specs.Str.{bytes_eq}
use Rattle.xt_names.specs.declared.codes.Code.{Code}
use Rattle.xt_names.specs.declared.names.Name.{Name}
use Rattle.xt_names.specs.declared.names.Binding.{Binding as Namespace}
use Rattle.xt_tree.specs.Sound.{is_sound_name, is_named_xmlns}
use Rattle.xt_syntax.specs.declared.exprs.Expr.{Expr}
use Rattle.xt_syntax.specs.declared.exprs.Clause.TheOpen.{Comma, If, Flwor, ElemC, AttrC, Fixed, Computed}
use Rattle.xt_syntax.specs.declared.exprs.Clause.TheViews.{out-Expr, out-Flwor, out-Arm, out-NameSource}
use Rattle.expr_meaning.specs.Names.{attribute_name as query_name}
use Rattle.transform_meaning.specs.Names.{attribute_name as sheet_name}
use Rattle.way_back.specs.Leaves.{is_leaf}
use Rattle.way_back.specs.Forms.{ExprForm, NameForm, name_text}

abbrev pub is_name : Name → Name → Bool
is_name a b = bytes_eq a.prefix b.prefix && (bytes_eq a.uri b.uri && bytes_eq a.local b.local)

-- both are this name, which an attribute may have, or both are errors
abbrev pub gives_alike : Result Name Code → Result Name Code → Bool
gives_alike (Ok a) (Ok b) = is_name a b && (is_sound_name b && not (is_named_xmlns b))
gives_alike (Ok a) (Err d) = false
gives_alike (Err c) (Ok b) = false
gives_alike (Err c) (Err d) = true

module _ (scope : List Namespace) where
  -- in this scope the text of an attribute's name spells it
  abbrev pub is_spelled : Name → Bool
  is_spelled name = gives_alike (sheet_name scope (name_text name)) (query_name name)

  abbrev pub element_spelled : NameForm → Bool
  element_spelled (Fixed name) = is_sound_name name
  element_spelled (Computed e) = false

  abbrev pub attribute_spelled : NameForm → Bool
  attribute_spelled (Fixed name) = is_spelled name
  attribute_spelled (Computed e) = false

  abbrev pub form_spelled : (Expr → Bool) → ExprForm → Bool
  form_spelled go (Comma all) = list_all go all
  form_spelled go (If arms other) = list_all (λ a. go (out-Arm a).then) arms && go other
  form_spelled go (Flwor f) = go (out-Flwor f).body
  form_spelled go (ElemC name content) = element_spelled (out-NameSource name) && go content
  form_spelled go (AttrC name value) = attribute_spelled (out-NameSource name)
  form_spelled go x = true

  unfoldable pub names_are_spelled_at : ℕ → Expr → Bool
  names_are_spelled_at zero e = false
  names_are_spelled_at (suc n) e =
      if is_leaf e then true else form_spelled (names_are_spelled_at n) (out-Expr e)
