-- What is bound, and a focus that is made, is found on both sides.
use Rattle.std.proofs.Common.{◌≡◌, ℕ, List, [], ◌∷◌, refl, ap, ap₂, sym, ◌∙◌, subst}
use Rattle.std.proofs.lemmas.Slice.Eq.{bytes_eq-Decides}
use Rattle.std.specs.Prelude.{Bool, true, false, not, ◌&&◌, if◌then◌else◌, Option, Some, None}
use Rattle.std.specs.Str.{bytes_eq}
use Rattle.xt_names.specs.Allowed.{is_empty_text}
use Rattle.xt_names.specs.declared.codes.Code.{Code}
use Rattle.xt_names.specs.declared.names.ExprName.{ExprName}
use Rattle.xdm_items.specs.declared.items.Item.{Item}
use Rattle.xdm_items.specs.FunctionArguments.Arguments.{and_then as result_then, optional_text_argument}
use Rattle.expr_meaning.specs.Outcomes.Outcome.{Every}
use Rattle.expr_meaning.specs.Outcomes.Follow.{Relation, IsCarrying}
use Rattle.expr_meaning.specs.SortMeaning.Sorted.{Placed}
use Rattle.expr_meaning.specs.Env.{Binding, Env, Program, with_bound, bind_all, bind, at_focus}
use Rattle.expr_meaning.specs.Env.{look_up, or_global}
use Rattle.expr_meaning.specs.Calls.{named_document}
use Rattle.expr_meaning.specs.Documents.{document_in}
use Rattle.expr_laws.specs.Carrier.{AreBound, Carrier, IsKept, OnValue, ProgramsMeet, SeesFocus}
use Rattle.way_back.specs.Leaves.{has_local}
use Rattle.way_back.specs.Forms.{counter}
use Rattle.way_back.specs.Places.{OnSome, FocusIsSame, IsSame, ProgramsSame}
use Rattle.std.proofs.Math.Bool.{and-false}
use Rattle.xt_names.specs.ExprNames.{same_name}

abbrev pub IsOwn : ExprName → Type 0
IsOwn name = has_local name ≡ true

-- a name with a local part is not the one without
empty_is_other : (c : ℕ) (cs : List ℕ) → bytes_eq [] (c ∷ cs) ≡ false
empty_is_other c cs = by (bytes_eq [] (c ∷ cs)) refl
  where
    by : (b : Bool) → bytes_eq [] (c ∷ cs) ≡ b → b ≡ false
    by true e = absurd (let f : [] ≡ c ∷ cs = (bytes_eq-Decides [] (c ∷ cs)).0 e in cc)
    by false e = refl

not_counter_at : (uri local : List ℕ) → not (is_empty_text local) ≡ true →
    same_name counter (record { uri = uri; local = local }) ≡ false
unfolding is_empty_text
not_counter_at uri [] h = absurd cc
not_counter_at uri (c ∷ cs) h =
    ap (λ b. bytes_eq [] uri && b) (empty_is_other c cs) ∙ and-false (bytes_eq [] uri)

not_counter : (name : ExprName) → IsOwn name → same_name counter name ≡ false
not_counter name h = not_counter_at name.uri name.local h

module _ (good : Item → Type 0) where
  same_behind : (bs l m : List Binding) (name : ExprName) → look_up l name ≡ look_up m name →
      look_up (with_bound bs l) name ≡ look_up (with_bound bs m) name
  unfolding look_up
  same_behind [] l m name h = h
  same_behind (b ∷ bs) l m name h =
      ap (λ o. if same_name b.0 name then Some b.1 else o) (same_behind bs l m name h)

  one_of : (b : Bool) (xs : List Item) (o : Option (List Item)) → Every good xs →
      OnSome (Every good) o → OnSome (Every good) (if b then Some xs else o)
  one_of true xs o h g = h
  one_of false xs o h g = g

  known_behind : (bs l : List Binding) (name : ExprName) → AreBound IsOwn good bs →
      OnSome (Every good) (look_up l name) → OnSome (Every good) (look_up (with_bound bs l) name)
  unfolding look_up
  known_behind [] l name o h = h
  known_behind (b ∷ bs) l name o h =
      one_of (same_name b.0 name) b.1 (look_up (with_bound bs l) name) o.0.1
      (known_behind bs l name o.1 h)

  focus_behind : (s : Bool) (e f : Env) (bs : List Binding) → FocusIsSame good s e f →
      FocusIsSame good s (bind_all bs e) (bind_all bs f)
  focus_behind true e f bs h = tt
  focus_behind false e f bs h = h

  pub bound_same : (s : Bool) (e f : Env) → IsSame good s e f → (bs : List Binding) →
      AreBound IsOwn good bs → IsSame good s (bind_all bs e) (bind_all bs f)
  bound_same s e f h bs o = record {
    locals = λ name own. same_behind bs e.locals f.locals name (h.locals name own);
    known = λ name. known_behind bs e.locals name o (h.known name);
    focus = focus_behind s e f bs h.focus;
  }

  pub focused_same : (s : Bool) (e f : Env) → IsSame good s e f → (p : Placed Item) →
      good p.value → IsSame good false (at_focus e p) (at_focus f p)
  focused_same s e f h p g = record {
    locals = h.locals;
    known = h.known;
    focus = (refl, λ q is. by q is);
  }
    where
      OnFocus : Option (Placed Item) → Type 0
      OnFocus None = Unit {0}
      OnFocus (Some q) = good q.value

      by : (q : Placed Item) → Some p ≡ Some q → good q.value
      by q is = subst OnFocus is g

  -- the counter of a loop hides nothing
  hidden : (l : List Binding) (xs : List Item) (name : ExprName) → IsOwn name →
      look_up ((counter, xs) ∷ l) name ≡ look_up l name
  unfolding look_up
  hidden l xs name own = ap (λ b. if b then Some xs else look_up l name) (not_counter name own)

  focus_hidden : (s : Bool) (e f : Env) (xs : List Item) → FocusIsSame good s e f →
      FocusIsSame good s e (bind counter xs f)
  focus_hidden true e f xs h = tt
  focus_hidden false e f xs h = h

  pub counted_same : (s : Bool) (e f : Env) (xs : List Item) → IsSame good s e f →
      IsSame good s e (bind counter xs f)
  counted_same s e f xs h = record {
    locals = λ name own. h.locals name own ∙ sym (hidden f.locals xs name own);
    known = h.known;
    focus = focus_hidden s e f xs h.focus;
  }

module _ (like : Code → Code → Type 0) (lax : (a b : Code) → like a b) (rel : Relation)
    (carries : IsCarrying like rel) (good : Item → Type 0) (keeps : IsKept good) where
  abbrev pub back : Carrier
  back = record {
    strict = Unit {0};
    like = like;
    alike = λ c. lax c c;
    rel = rel;
    carries = carries;
    good = good;
    kept = keeps;
    own_variable = IsOwn;
    own_function = λ name. Unit {0};
    Sight = Bool;
    inner = false;
    at = IsSame good;
    bound = bound_same good;
    focused = focused_same good;
  }

  pub sees : SeesFocus back false
  sees = record { same = λ e f h. h.focus.0; item = λ e f h. h.focus.1 }

  module _ (p q : Program) (programs : ProgramsSame rel good p q) where
    named_same : (o : Option (List ℕ)) → named_document p o ≡ named_document q o
    named_same None = refl
    named_same (Some name) = ap (λ d. document_in d name) programs.documents

    global_known : (l g : Option (List Item)) → OnSome (Every good) l → OnSome (Every good) g →
        OnValue (Every good) (or_global l g)
    global_known (Some xs) g h i = h
    global_known None (Some xs) h i = i
    global_known None None h i = tt

    pub meet : ProgramsMeet back p q
    meet = record {
      calls = λ name own args g k. programs.calls name args g k;
      document = λ xs i. result_then (optional_text_argument xs) (λ o. named_same o i);
      documents = programs.documents_known;
      variables = λ s e f h name own. ap₂ or_global (h.locals name own) (programs.globals name own);
      variable = λ s e f h name own.
          global_known _ _ (h.known name) (programs.globals_known name);
    }
