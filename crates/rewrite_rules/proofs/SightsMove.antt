-- Places at a sight stay so where variables are bound, and variables mean there what they are replaced
-- by.
use Rattle.std.proofs.Common.{◌≡◌, ℕ, List, [], ◌∷◌, refl, sym, ap, ◌∙◌, subst}
use Rattle.std.specs.Prelude.{Bool, true, false, not, ◌&&◌, if◌then◌else◌, Some}
use Rattle.std.specs.Str.{bytes_eq}
use Rattle.std.proofs.lemmas.Slice.Eq.{bytes_eq-Decides}
use Rattle.xt_names.specs.declared.names.ExprName.{ExprName}
use Rattle.xdm_items.specs.declared.items.Item.{Item}
use Rattle.xt_syntax.specs.declared.exprs.Clause.TheOpen.{Int, Str, Var}
use Rattle.xt_syntax.specs.declared.exprs.Clause.TheViews.{roll-Expr}
use Rattle.expr_meaning.specs.Outcomes.Outcome.{Ends, step_outcome}
use Rattle.expr_meaning.specs.SortMeaning.Sorted.{Placed}
use Rattle.expr_meaning.specs.Env.{Env, Program, bind, look_up, or_global, Binding, at_focus}
use Rattle.expr_meaning.specs.Meaning.{outcome}
use Rattle.expr_meaning.specs.Values.{variable as read}
use Rattle.expr_laws.proofs.Rolled.{rolled}
use Rattle.rewrite_rules.specs.Law.{Binds}
use Rattle.rewrite_rules.specs.Moving.{Moving}
use Rattle.rewrite_rules.specs.Sights.{Small, integer, string, variable, expr_of, is_variable, Sight, plain}
use Rattle.rewrite_rules.specs.Sights.{keep, lose, put, after, may_read, replaced, Sees, Gives, SeesAt}
use Rattle.xt_names.proofs.NameLemmas.{same_names}
use Rattle.xt_names.specs.ExprNames.{same_name}

-- equal names
texts_are : (a b : List ℕ) → bytes_eq a b ≡ true → a ≡ b
texts_are a b h = (bytes_eq-Decides a b).0 h

and_both : (a b : Bool) → (a && b) ≡ true → (a ≡ true) × (b ≡ true)
and_both true true h = (refl, refl)
and_both true false h = absurd cc
and_both false b h = absurd cc

pub same_name_self : (a : ExprName) → same_name a a ≡ true
same_name_self a =
    rw ((bytes_eq-Decides a.uri a.uri).1 refl, (bytes_eq-Decides a.local a.local).1 refl) refl

-- one more binding before
pub found_here : (u : ExprName) (xs : List Item) (l : List Binding) →
    look_up ((u, xs) ∷ l) u ≡ Some xs
unfolding look_up
found_here u xs l = rw (same_name_self u) refl

pub found_behind : (u n : ExprName) (xs : List Item) (l : List Binding) → same_name u n ≡ false →
    look_up ((u, xs) ∷ l) n ≡ look_up l n
unfolding look_up
found_behind u n xs l h = rw h refl

found_same : (u n : ExprName) (xs : List Item) (l m : List Binding) →
    (same_name u n ≡ false → look_up l n ≡ look_up m n) →
    look_up ((u, xs) ∷ l) n ≡ look_up ((u, xs) ∷ m) n
unfolding look_up
found_same u n xs l m h = by (same_name u n) h
  where
    by : (t : Bool) → (t ≡ false → look_up l n ≡ look_up m n) →
        (if t then Some xs else look_up l n) ≡ (if t then Some xs else look_up m n)
    by true g = refl
    by false g = g refl

sees_behind : (P Q : ExprName → Type 0) (e f : Env) → Sees P e f → (u : ExprName) (xs : List Item) →
    ((n : ExprName) → same_name u n ≡ false → Q n → P n) → Sees Q (bind u xs e) (bind u xs f)
sees_behind P Q e f h u xs imp = record {
  locals = λ n q. found_same u n xs e.locals f.locals (λ d. h.locals n (imp n d q));
  focus = h.focus;
  state = h.state;
}

-- local names stay local
still_bound : (u n : ExprName) (xs ys : List Item) (l : List Binding) → look_up l n ≡ Some ys →
    (zs : List Item) × (look_up ((u, xs) ∷ l) n ≡ Some zs)
unfolding look_up
still_bound u n xs ys l h = by (same_name u n)
  where
    by : (t : Bool) → (zs : List Item) × ((if t then Some xs else look_up l n) ≡ Some zs)
    by true = (xs, refl)
    by false = (ys, h)

pub binds_behind : (names : List ExprName) (e : Env) → Binds names e → (u : ExprName) (xs : List Item) →
    Binds names (bind u xs e)
binds_behind [] e h u xs = tt
binds_behind (n ∷ names) e h u xs =
    (still_bound u n xs h.0.0 e.locals h.0.1, binds_behind names e h.1 u xs)

lose_behind : (v u : ExprName) (e f : Env) → Sees (λ n. same_name v n ≡ false) e f → (xs : List Item) →
    SeesAt (if same_name u v then keep else lose v) (bind u xs e) (bind u xs f)
lose_behind v u e f h xs = by (same_name u v) refl
  where
    by : (t : Bool) → same_name u v ≡ t →
        SeesAt (if t then keep else lose v) (bind u xs e) (bind u xs f)
    by true q = sees_behind (λ n. same_name v n ≡ false) (λ n. Unit {0}) e f h u xs (λ n d w.
        subst (λ z. same_name z n ≡ false) (same_names u v q) d)
    by false q = sees_behind (λ n. same_name v n ≡ false) (λ n. same_name v n ≡ false) e f h u xs
        (λ n d w. w)

gives_behind : (r : Small) (u : ExprName) (f : Env) (xs ys : List Item) → is_variable u r ≡ false →
    Gives r f ys → Gives r (bind u xs f) ys
gives_behind (integer n) u f xs ys h g = g
gives_behind (string text) u f xs ys h g = g
gives_behind (variable w) u f xs ys h g = found_behind u w xs f.locals h ∙ g

put_behind : (v u : ExprName) (r : Small) (e f : Env) → SeesAt (put v r) e f → (xs : List Item) →
    SeesAt (after u (put v r)) (bind u xs e) (bind u xs f)
put_behind v u r e f h xs = by (same_name u v) refl (is_variable u r) refl
  where
    by : (t : Bool) → same_name u v ≡ t → (w : Bool) → is_variable u r ≡ w →
        SeesAt (if t then keep else if w then lose v else put v r) (bind u xs e) (bind u xs f)
    by true q w i = sees_behind (λ n. same_name v n ≡ false) (λ n. Unit {0}) e f h.0 u xs (λ n d x.
        subst (λ z. same_name z n ≡ false) (same_names u v q) d)
    by false q true i = sees_behind (λ n. same_name v n ≡ false) (λ n. same_name v n ≡ false) e f h.0 u xs
        (λ n d x. x)
    by false q false i = (
      sees_behind (λ n. same_name v n ≡ false) (λ n. same_name v n ≡ false) e f h.0 u xs (λ n d x. x),
      (h.1.0, found_behind u v xs e.locals q ∙ h.1.1, gives_behind r u f xs h.1.0 i h.1.2),
    )

pub sight_bound : (s : Sight) (e f : Env) → SeesAt s e f → (u : ExprName) (xs : List Item) →
    SeesAt (after u s) (bind u xs e) (bind u xs f)
sight_bound (plain names) e f h u xs =
    (ap (bind u xs) h.0, ((xs, found_here u xs e.locals), binds_behind names e h.1 u xs))
sight_bound keep e f h u xs = sees_behind (λ n. Unit {0}) (λ n. Unit {0}) e f h u xs (λ n d w. tt)
sight_bound (lose v) e f h u xs = lose_behind v u e f h xs
sight_bound (put v r) e f h u xs = put_behind v u r e f h xs

pub sight_focus : (s : Sight) (e f : Env) → SeesAt s e f → e.focus ≡ f.focus
sight_focus (plain names) e f h = ap (λ x. x.focus) h.0
sight_focus keep e f h = h.focus
sight_focus (lose v) e f h = h.focus
sight_focus (put v r) e f h = h.0.focus

pub sight_state : (s : Sight) (e f : Env) → SeesAt s e f → e.state ≡ f.state
sight_state (plain names) e f h = ap (λ x. x.state) h.0
sight_state keep e f h = h.state
sight_state (lose v) e f h = h.state
sight_state (put v r) e f h = h.0.state

binds_focus : (names : List ExprName) (e : Env) → Binds names e → (q : Placed Item) →
    Binds names (at_focus e q)
binds_focus [] e h q = tt
binds_focus (n ∷ names) e h q = (h.0, binds_focus names e h.1 q)

sees_focused : (P : ExprName → Type 0) (e f : Env) → Sees P e f → (q : Placed Item) →
    Sees P (at_focus e q) (at_focus f q)
sees_focused P e f h q = record { locals = h.locals; focus = refl; state = h.state }

gives_focused : (r : Small) (f : Env) (q : Placed Item) (xs : List Item) → Gives r f xs →
    Gives r (at_focus f q) xs
gives_focused (integer n) f q xs h = h
gives_focused (string text) f q xs h = h
gives_focused (variable w) f q xs h = h

pub sight_focused : (s : Sight) (e f : Env) → SeesAt s e f → (q : Placed Item) →
    SeesAt s (at_focus e q) (at_focus f q)
sight_focused (plain names) e f h q = (ap (λ x. at_focus x q) h.0, binds_focus names e h.1 q)
sight_focused keep e f h q = sees_focused (λ n. Unit {0}) e f h q
sight_focused (lose v) e f h q = sees_focused (λ n. same_name v n ≡ false) e f h q
sight_focused (put v r) e f h q = (
  sees_focused (λ n. same_name v n ≡ false) e f h.0 q,
  (h.1.0, h.1.1, gives_focused r f q h.1.0 h.1.2),
)

abbrev pub sights : Moving Sight
sights = record {
  after = after;
  at = SeesAt;
  bound = sight_bound;
  focused = sight_focused;
  focus = sight_focus;
  state = sight_state;
}

module _ (p : Program) where
  reads : (n : ExprName) (e f : Env) (k : ℕ) → look_up e.locals n ≡ look_up f.locals n →
      read p n e k ≡ outcome p (roll-Expr (Var n)) f k
  reads n e f k h =
      ap (λ o. step_outcome (or_global o (look_up p.globals n)) k) h
      ∙ sym (ap (λ g. g f k) (rolled p (Var n)))

  found : (n : ExprName) (e : Env) (xs : List Item) (k : ℕ) → look_up e.locals n ≡ Some xs →
      read p n e k ≡ Ends xs k
  found n e xs k h = ap (λ o. step_outcome (or_global o (look_up p.globals n)) k) h

  pub small_means : (r : Small) (f : Env) (xs : List Item) → Gives r f xs → (k : ℕ) →
      outcome p (expr_of r) f k ≡ Ends xs k
  small_means (integer n) f xs h k =
      ap (λ g. g f k) (rolled p (Int n)) ∙ ap (λ l. Ends l k) (sym h)
  small_means (string text) f xs h k =
      ap (λ g. g f k) (rolled p (Str text)) ∙ ap (λ l. Ends l k) (sym h)
  small_means (variable w) f xs h k = ap (λ g. g f k) (rolled p (Var w)) ∙ found w f xs k h

  not_false : (b : Bool) → not b ≡ true → b ≡ false
  not_false true h = absurd cc
  not_false false h = refl

  put_same : (v n : ExprName) (r : Small) (e f : Env) → SeesAt (put v r) e f → (k : ℕ) →
      read p n e k ≡ outcome p (replaced (put v r) n) f k
  put_same v n r e f h k = by (same_name v n) refl
    where
      by : (t : Bool) → same_name v n ≡ t →
          read p n e k ≡ outcome p (if t then expr_of r else roll-Expr (Var n)) f k
      by true q =
          found n e h.1.0 k (subst (λ z. look_up e.locals z ≡ Some h.1.0) (same_names v n q) h.1.1)
          ∙ sym (small_means r f h.1.0 h.1.2 k)
      by false q = reads n e f k (h.0.locals n q)

  pub variable_same : (s : Sight) (n : ExprName) → may_read s n ≡ true → (e f : Env) → SeesAt s e f →
      (k : ℕ) → read p n e k ≡ outcome p (replaced s n) f k
  variable_same (plain names) n g e f h k = reads n e f k (ap (λ x. look_up x.locals n) h.0)
  variable_same keep n g e f h k = reads n e f k (h.locals n tt)
  variable_same (lose v) n g e f h k = reads n e f k (h.locals n (not_false (same_name v n) g))
  variable_same (put v r) n g e f h k = put_same v n r e f h k
