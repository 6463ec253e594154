-- What reads the focus, a variable or what XSLT adds is carried.
use Rattle.std.proofs.Common.{◌≡◌, ℕ, ◌++◌, List, [], ◌∷◌, refl, sym, ap, ◌∙◌, subst, map}
use Rattle.std.proofs.lemmas.List.{append-nil}
use Rattle.std.specs.Prelude.{Bool, true, false, filter, if◌then◌else◌, Option, None, Ok, Err}
use Rattle.xt_names.specs.declared.codes.Code.{Code}
use Rattle.xt_names.specs.declared.codes.Code.TheVariants.{Dynamic}
use Rattle.xt_names.specs.declared.codes.DynamicCode.TheVariants.{XPTY0019}
use Rattle.xt_names.specs.declared.names.ExprName.{ExprName}
use Rattle.xt_types.specs.declared.axes.Axis.{Axis}
use Rattle.xt_types.specs.declared.node_tests.Test.{Test}
use Rattle.xt_tree.specs.Place.{Place}
use Rattle.doc_set.specs.Sets.{is_document}
use Rattle.xdm_items.specs.declared.items.Item.{Item}
use Rattle.xdm_items.specs.declared.items.Item.TheVariants.{Node, Atom}
use Rattle.xdm_items.specs.NodeTests.Tests.{passes_at}
use Rattle.xt_syntax.specs.declared.exprs.Expr.{Expr}
use Rattle.xt_syntax.specs.declared.exprs.Clause.TheViews.{roll-Expr}
use Rattle.xt_syntax.specs.declared.exprs.Clause.TheOpen.{Var, Context, Root, Slash, Step}
use Rattle.operator_values.specs.NodeAxes.Axes.{axis_nodes}
use Rattle.operator_values.specs.Nodes.{is_node}
use Rattle.lazy_seq.specs.Orders.{in_document_order}
use Rattle.expr_meaning.specs.Outcomes.Outcome.{Outcome, Ends, Fails, Deep, and_then, step_outcome, OnEnds, Every}
use Rattle.expr_meaning.specs.Outcomes.Outcome.{Anything}
use Rattle.expr_meaning.specs.Outcomes.Follow.{Relation, IsCarrying}
use Rattle.expr_meaning.proofs.OutcomesLemmas.Steps.{then_on}
use Rattle.expr_meaning.proofs.OutcomesLemmas.Relations.{nothing_known, every_append}
use Rattle.expr_meaning.specs.Outcomes.Outcome.{for_each}
use Rattle.xt_atoms.specs.declared.atoms.Atom.{Atom as AtomValue}
use Rattle.xt_names.specs.declared.codes.DynamicCode.TheVariants.{XPDY0050}
use Rattle.expr_meaning.proofs.SortMeaning.Carried.{every_places}
use Rattle.expr_meaning.specs.Paths.{root_place}
use Rattle.carry_laws.specs.Seen.{CurrentIsSeen, GroupIsSeen}
use Rattle.expr_meaning.specs.SortMeaning.Sorted.{Placed, places}
use Rattle.expr_meaning.specs.Env.{Env, Meaning, Program, at_focus, look_up, or_global}
use Rattle.expr_meaning.specs.Values.{context, of_focus}
use Rattle.expr_meaning.specs.Paths.{document_root, root_of, step_items, step_of, slash_of, kept}
use Rattle.expr_meaning.specs.Paths.{kept_item, alone_if, kept_in_turn, path_value, kept_at}
use Rattle.expr_meaning.specs.Meaning.{outcome}
use Rattle.expr_laws.specs.Carrier.{Carrier, IsKept, Meet, AllMeet, SeesFocus}
use Rattle.expr_laws.proofs.Steps.{same_step}
use Rattle.expr_laws.proofs.Rolled.{means, rolled}
use Rattle.expr_laws.proofs.Texts.{ExprForm}
use Rattle.expr_laws.proofs.Values.{context_meets}
use Rattle.expr_laws.proofs.Paths.{root_meets, step_meets, in_turn_meets}
use Rattle.carried_exprs.specs.Sights.{Sight, named, focused, absent, Setting, may_call, may_name}
use Rattle.carried_exprs.specs.Sights.{item_name, variable_of, the_item, context_seen}
use Rattle.carried_exprs.specs.Sights.{from_focus}
use Rattle.carry_laws.specs.Seen.{OnSome, Holds, IsSeen}
use Rattle.carry_laws.proofs.Orders.{IsNode, path_of_ordered}
use Rattle.carry_laws.proofs.Places.{all_own, seen_behind, seen_within}
use Rattle.xt_names.specs.Lists.{stable_order}

-- what a path passes on as it is
abbrev IsPassed : List Item → Type 0
IsPassed ys = path_value ys ≡ Ok ys

passed_on : (o : Outcome (List Item)) → OnEnds IsPassed o →
    and_then (and_then o (λ ys j. Ends (ys ++ []) j)) (λ ys h. step_outcome (path_value ys) h) ≡ o
passed_on (Ends ys j) h =
    ap (λ zs. step_outcome (path_value zs) j) (append-nil ys) ∙ ap (λ v. step_outcome v j) h
passed_on (Fails code) h = refl
passed_on Deep h = refl

-- a path from one item
slash_node : (a b : Meaning) (f : Env) (n : Place) (k : ℕ) → a f k ≡ Ends (Node n ∷ []) k →
    OnEnds IsPassed (b (at_focus f (record { value = Node n; place = 1; size = 1 })) k) →
    slash_of a b f k ≡ b (at_focus f (record { value = Node n; place = 1; size = 1 })) k
unfolding is_node
slash_node a b f n k is h =
    rw is (passed_on (b (at_focus f (record { value = Node n; place = 1; size = 1 })) k) h)

slash_atom : (a b : Meaning) (f : Env) (x : AtomValue) (k : ℕ) → a f k ≡ Ends (Atom x ∷ []) k →
    slash_of a b f k ≡ Fails (Dynamic XPTY0019)
unfolding is_node
slash_atom a b f x k is = rw is refl

root_passes : (n : Place) (k : ℕ) → OnEnds IsPassed (step_outcome (document_root (Node n)) k)
unfolding is_node stable_order
root_passes n k = by (is_document n.tree)
  where
    by : (b : Bool) → OnEnds IsPassed
        (step_outcome (if b then Ok (Node (root_place n) ∷ []) else Err (Dynamic XPDY0050)) k)
    by true = refl
    by false = tt

-- predicates keep what is known of each item
each_on : {A B : Type 0} (P : A → Type 0) (Q : B → Type 0) (f : A → ℕ → Outcome (List B)) →
    ((x : A) (k : ℕ) → P x → OnEnds (Every Q) (f x k)) → (xs : List A) → Every P xs → (k : ℕ) →
    OnEnds (Every Q) (for_each f xs k)
each_on P Q f h [] e k = tt
each_on P Q f h (x ∷ xs) e k =
    then_on (Every Q) (Every Q) (f x k) _ (h x k e.0) (λ ys j a.
    then_on (Every Q) (Every Q) (for_each f xs j) _ (each_on P Q f h xs e.1 j)
    (λ zs i b. every_append Q ys zs a b))

module _ (P : Item → Type 0) where
  alone_on : (x : Item) → P x → (b : Bool) (k : ℕ) → OnEnds (Every P) (alone_if x b k)
  alone_on x h true k = (h, tt)
  alone_on x h false k = tt

  item_on : (test : Meaning) (env : Env) (p : Placed Item) (k : ℕ) → P p.value →
      OnEnds (Every P) (kept_item test env p k)
  item_on test env p k h =
      then_on Anything (Every P) (test (at_focus env p) k) _ (nothing_known _) (λ ys j u.
      then_on Anything (Every P) (step_outcome (kept_at p.place ys) j) (alone_if p.value)
      (nothing_known (step_outcome (kept_at p.place ys) j)) (λ b i v. alone_on p.value h b i))

  pub turn_on : (tests : List Meaning) (env : Env) (xs : List Item) → Every P xs → (k : ℕ) →
      OnEnds (Every P) (kept_in_turn tests env xs k)
  turn_on [] env xs h k = h
  turn_on (test ∷ tests) env xs h k =
      then_on (Every P) (Every P) (kept test env xs k) _
      (then_on (Every (λ p. P p.value)) (Every P) (step_outcome (places xs) k) _
      (every_places P xs k h) (λ fs j all.
      each_on (λ p. P p.value) P (kept_item test env) (λ p i g. item_on test env p i g) fs all j))
      (λ ys j all. turn_on tests env ys all j)

are_nodes : (ns : List Place) → Every IsNode (map Node ns)
unfolding is_node
are_nodes [] = tt
are_nodes (n ∷ ns) = (refl, are_nodes ns)

step_passes : (axis : Axis) (wanted : Test) (tests : List Meaning) (n : Place) (f : Env) (k : ℕ) →
    OnEnds IsPassed (step_of axis wanted tests
    (at_focus f (record { value = Node n; place = 1; size = 1 })) k)
step_passes axis wanted tests n f k =
    then_on (Every IsNode) IsPassed (kept_in_turn tests
    (at_focus f (record { value = Node n; place = 1; size = 1 }))
    (map Node (filter (passes_at axis wanted) (axis_nodes axis n))) k) _
    (turn_on IsNode tests (at_focus f (record { value = Node n; place = 1; size = 1 })) _
    (are_nodes (filter (passes_at axis wanted) (axis_nodes axis n))) k)
    (λ ys i all. path_of_ordered ys all)

current_at_item : (good : Item → Type 0) (b : Bool) (e f : Env) (p : Placed Item) →
    CurrentIsSeen good b e f → CurrentIsSeen good b e (at_focus f p)
current_at_item good true e f p h = h
current_at_item good false e f p h = h

group_at_item : (good : Item → Type 0) (b : Bool) (e f : Env) (p : Placed Item) →
    GroupIsSeen good b e f → GroupIsSeen good b e (at_focus f p)
group_at_item good true e f p h = h
group_at_item good false e f p h = h

module _ (like : Code → Code → Type 0) (lax : (a b : Code) → like a b) (rel : Relation)
    (carries : IsCarrying like rel) (good : Item → Type 0) (keeps : IsKept good) (w : Setting) where
  abbrev pub carry : Carrier
  carry = record {
    strict = Unit {0};
    like = like;
    alike = λ c. lax c c;
    rel = rel;
    carries = carries;
    good = good;
    kept = keeps;
    own_variable = λ name. may_name w name ≡ true;
    own_function = λ name. may_call w name ≡ true;
    Sight = Sight;
    inner = focused;
    at = IsSeen good w;
    bound = λ s e f h bs o. seen_behind good w s e f h bs (all_own good w bs o);
    focused = seen_within good w;
  }

  abbrev pub Carries : Sight → Meaning → Meaning → Type 0
  Carries s m n = Meet carry s m n

  -- where there is no focus in variables, it is the same on both sides
  pub sees_focused : SeesFocus carry focused
  sees_focused = record {
    same = λ e f h. h.focus.1 ∙ sym h.focus.3;
    item = λ e f h p g. subst (λ o. OnSome (λ (x : Placed Item). good x.value) o) (sym h.focus.1 ∙ g)
        h.focus.2;
  }

  none_item : (o : Option (Placed Item)) → o ≡ None → OnSome (λ (x : Placed Item). good x.value) o
  none_item o e = subst (OnSome (λ x. good x.value)) (sym e) tt

  pub sees_absent : SeesFocus carry absent
  sees_absent = record {
    same = λ e f h. h.focus.0 ∙ sym h.focus.1;
    item = λ e f h p g. subst (λ o. OnSome (λ (x : Placed Item). good x.value) o) g
        (none_item e.focus h.focus.0);
  }

  -- two errors, whatever their codes
  pub both_fail : {A : Type 0} (P : A → Type 0) (a b : Code) → rel A P (Fails a) (Fails b)
  both_fail P a b = carries.errors _ P a b (lax a b)

  module _ (q : Program) where
    -- a form of the query means what it says
    pub to_form : (s : Sight) (x : ExprForm) (m : Meaning) → Carries s m (means q x) →
        Carries s m (outcome q (roll-Expr x))
    to_form s x m h = subst (Carries s m) (sym (rolled q x)) h

    pub variable_is : (f : Env) (name : ExprName) (xs : List Item) (k : ℕ) →
        Holds f.locals name xs → outcome q (variable_of name) f k ≡ Ends xs k
    variable_is f name xs k h =
        ap (λ (m : Meaning). m f k) (rolled q (Var name))
        ∙ ap (λ o. step_outcome (or_global o (look_up q.globals name)) k) h

    -- `.`
    pub context_carried : (s : Sight) → Carries s context (outcome q (context_seen s))
    context_carried named e f h k =
        rw (h.focus.1, variable_is f item_name (h.focus.0.value ∷ []) k h.focus.3)
        (carries.ends _ _ _ _ (h.focus.2, tt))
    context_carried focused e f h k =
        to_form focused Context context (context_meets carry focused sees_focused) e f h k
    context_carried absent e f h k =
        to_form absent Context context (context_meets carry absent sees_absent) e f h k

    -- `/`
    pub root_carried : (s : Sight) → Carries s root_of (outcome q (from_focus s (roll-Expr Root)))
    root_carried named e f h k =
        rw (h.focus.1)
        (by h.focus.0.value h.focus.2 (variable_is f item_name (h.focus.0.value ∷ []) k h.focus.3))
      where
        by : (x : Item) → good x → outcome q the_item f k ≡ Ends (x ∷ []) k →
            rel (List Item) (Every good) (step_outcome (document_root x) k)
            (outcome q (roll-Expr (Slash the_item (roll-Expr Root))) f k)
        by (Atom a) g is =
            rw (rolled q (Slash the_item (roll-Expr Root)), slash_atom _ (outcome q (roll-Expr Root)) f a k is)
            (both_fail (Every good) _ _)
        by (Node n) g is =
            rw (
              rolled q (Slash the_item (roll-Expr Root)),
              slash_node _ (outcome q (roll-Expr Root)) f n k is
                  (rw (rolled q Root) (root_passes n k)),
              rolled q Root,
            )
            (same_step carry (Every good) (document_root (Node n)) (keeps.root (Node n) g) k)
    root_carried focused e f h k =
        to_form focused Root root_of (root_meets carry focused sees_focused) e f h k
    root_carried absent e f h k =
        to_form absent Root root_of (root_meets carry absent sees_absent) e f h k

    -- an axis step
    seen_by_item : (e f : Env) (p : Placed Item) → IsSeen good w named e f →
        IsSeen good w named e (at_focus f p)
    seen_by_item e f p h = record {
      locals = h.locals;
      known = h.known;
      focus = h.focus;
      current = current_at_item good w.has_current e f p h.current;
      group = group_at_item good w.has_group e f p h.group;
    }

    pub step_carried : (s : Sight) (axis : Axis) (wanted : Test) (ms : List Meaning)
        (tests : List Expr) → AllMeet carry focused ms (map (outcome q) tests) →
        Carries s (step_of axis wanted ms)
        (outcome q (from_focus s (roll-Expr (Step axis wanted tests))))
    step_carried named axis wanted ms tests m e f h k =
        subst (λ (o : Option (Placed Item)). rel (List Item) (Every good)
        (and_then (step_outcome (of_focus (λ (x : Placed Item). step_items axis wanted x.value) o) k)
        (λ xs j. and_then (kept_in_turn ms e xs j) (λ ys i. Ends (in_document_order ys) i)))
        (outcome q (roll-Expr (Slash the_item (roll-Expr (Step axis wanted tests)))) f k))
        (sym h.focus.1)
        (by h.focus.0.value h.focus.2 (variable_is f item_name (h.focus.0.value ∷ []) k h.focus.3))
      where
        by : (x : Item) → good x → outcome q the_item f k ≡ Ends (x ∷ []) k →
            rel (List Item) (Every good)
            (and_then (step_outcome (step_items axis wanted x) k) (λ xs j.
            and_then (kept_in_turn ms e xs j) (λ ys i. Ends (in_document_order ys) i)))
            (outcome q (roll-Expr (Slash the_item (roll-Expr (Step axis wanted tests)))) f k)
        by (Atom a) g is =
            rw (
              rolled q (Slash the_item (roll-Expr (Step axis wanted tests))),
              slash_atom _ (outcome q (roll-Expr (Step axis wanted tests))) f a k is,
            )
            (both_fail (Every good) _ _)
        by (Node n) g is =
            let p : Placed Item = record { value = Node n; place = 1; size = 1 } in
            rw (
              rolled q (Slash the_item (roll-Expr (Step axis wanted tests))),
              slash_node _ (outcome q (roll-Expr (Step axis wanted tests))) f n k is
                  (rw (rolled q (Step axis wanted tests))
                  (step_passes axis wanted (map (outcome q) tests) n f k)),
              rolled q (Step axis wanted tests),
            )
            (carries.next (List Item) (List Item) (Every good) (Every good)
            (step_outcome (step_items axis wanted (Node n)) k)
            (step_outcome (step_items axis wanted (Node n)) k) _ _
            (same_step carry (Every good) (step_items axis wanted (Node n))
            (keeps.step axis wanted (Node n) g) k) (λ xs j all.
            carries.next (List Item) (List Item) (Every good) (Every good) (kept_in_turn ms e xs j)
            (kept_in_turn (map (outcome q) tests) (at_focus f p) xs j) _ _
            (in_turn_meets carry named ms (map (outcome q) tests) m e (at_focus f p)
            (seen_by_item e f p h) xs all j)
            (λ ys i d. carries.ends (List Item) (Every good) (in_document_order ys) i (keeps.ordered ys d))))
    step_carried focused axis wanted ms tests m e f h k =
        to_form focused (Step axis wanted tests) (step_of axis wanted ms)
        (step_meets carry focused sees_focused axis wanted ms (map (outcome q) tests) m) e f h k
    step_carried absent axis wanted ms tests m e f h k =
        to_form absent (Step axis wanted tests) (step_of axis wanted ms)
        (step_meets carry absent sees_absent axis wanted ms (map (outcome q) tests) m) e f h k
