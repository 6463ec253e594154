-- What a walk answers.
use Rattle.std.proofs.Common.{◌≡◌, ◌<◌, length, refl, sym, ap, ◌∙◌, subst}
use Rattle.std.specs.Prelude.{◌^◌, true, Option, Some, None, option_and_then}
use Rattle.xdm_items.specs.declared.items.Item.{Item}
use Rattle.xt_syntax.specs.declared.exprs.Expr.{Expr}
use Rattle.lazy_seq.specs.Flow.{Flow}
use Rattle.expr_meaning.specs.Outcomes.Outcome.{Ends}
use Rattle.expr_meaning.specs.SortMeaning.Sorted.{Placed}
use Rattle.expr_meaning.specs.Env.{Env}
use Rattle.std.specs.Prelude.{Bool, false, not, ◌&&◌, if◌then◌else◌}
use Rattle.std.specs.List.{list_all}
use Rattle.std.specs.Option.{SomeIff}
use Rattle.std.proofs.lemmas.Bool.{and_parts}
use Rattle.xt_tree.specs.Place.{Place}
use Rattle.doc_set.specs.Sets.{is_document}
use Rattle.xt_forms.specs.Quiet.{is_quiet_expr}
use Rattle.node_axes.specs.Axes.{is_reverse}
use Rattle.quiet_meaning.specs.Paths.{are_allowed}
use Rattle.expr_meaning.specs.Paths.{root_place}
use Rattle.walk_laws.proofs.QuietValues.Laws.{quiet_in_patterns}
use Rattle.walk_laws.proofs.WayLaws.Predicates.{all_quiet}
use Rattle.walk_laws.specs.WayLaws.Ways.{Way, has_walk, way_at, way_of, node_in, document_above, is_walked}
use Rattle.walk_laws.specs.WayLaws.Ways.{can_be_counted}
use Rattle.walk_laws.proofs.WayLaws.Nodes.{known, way_few}
use Rattle.walk_laws.proofs.WayLaws.Means.{way_law}
use Rattle.quiet_steps.specs.Late.{AnswersWalk, AnswersWay, IsAlong, IsValue}

way_is_value : (s : Flow) (e : Expr) (env : Env) (w : Way) → way_of e env.focus ≡ Some w →
    IsAlong s w → IsValue s e env
way_is_value s e env w at along = record {
  value = λ p k. way_law p e env w k at along.walked along.exists ∙ ap (λ xs. Ends xs k) (sym along.nodes);
  few = subst (λ xs. length xs < 2 ^ 63) (sym along.nodes)
      (way_few w (known w along.walked along.exists));
}

some_answers : (s : Flow) (e : Expr) (env : Env) (o : Option Way) → way_of e env.focus ≡ o →
    AnswersWay (Some s) o → AnswersWalk (Some s) e env
some_answers s e env None at along = absurd along
some_answers s e env (Some w) at along =
    (ap has_walk at ∙ along.walked, way_is_value s e env w at along)

pub way_answers : (found : Option Flow) (e : Expr) (env : Env) →
    AnswersWay found (way_of e env.focus) → AnswersWalk found e env
way_answers None e env along = along
way_answers (Some s) e env along = some_answers s e env (way_of e env.focus) refl along

pub focus_answers : (found : Option Flow) (e : Expr) (env : Env) (f : Placed Item) →
    env.focus ≡ Some f → AnswersWay found (option_and_then (way_at e) (node_in f.value)) →
    AnswersWalk found e env
focus_answers found e env f focus along =
    way_answers found e env (subst (λ o. AnswersWay found (way_of e o)) (sym focus) along)

pub nowhere_answers : (e : Expr) (env : Env) → env.focus ≡ None → AnswersWalk None e env
nowhere_answers e env focus = ap (λ o. has_walk (way_of e o)) focus

-- what the code asks

some_or_none : (o : Option Place) (b : Bool) (m : Place) → SomeIff o (b ≡ true) m →
    o ≡ (if b then Some m else None)
some_or_none None true m h = absurd (h refl)
some_or_none None false m h = refl
some_or_none (Some x) true m h = ap Some h.1
some_or_none (Some x) false m h = let e : false ≡ true = h.0 in absurd cc

pub document_is : (o : Option Place) (n : Place) → SomeIff o (is_document n.tree ≡ true) (root_place n) →
    o ≡ document_above n
document_is o n h = some_or_none o (is_document n.tree) (root_place n) h

pub walked_allowed : (w : Way) → is_walked w ≡ true → are_allowed w.tests ≡ true
walked_allowed w h =
    let p = and_parts (not (is_reverse w.along))
    (list_all is_quiet_expr w.tests && can_be_counted w.from) h in
    let q = and_parts (list_all is_quiet_expr w.tests) (can_be_counted w.from) p.1 in
    quiet_in_patterns w.tests (all_quiet w.tests q.0)
