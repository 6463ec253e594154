-- The relation of an outcome to itself, at places that agree in all variables but one.
use Rattle.std.proofs.Common.{◌≡◌, ℕ, List, [], ◌∷◌, refl, ap, subst, length}
use Rattle.std.specs.Prelude.{Bool, true, false, ◌||◌, if◌then◌else◌, Some}
use Rattle.xt_names.specs.declared.names.ExprName.{ExprName}
use Rattle.xdm_items.specs.declared.items.Item.{Item}
use Rattle.expr_meaning.specs.Outcomes.Outcome.{Outcome, Ends, Fails, Deep, and_then, OnEnds, Every}
use Rattle.expr_meaning.specs.Outcomes.Outcome.{Anything}
use Rattle.expr_meaning.specs.Outcomes.Follow.{same_code, Relation, IsCarrying}
use Rattle.expr_meaning.specs.Env.{Binding, Env, Meaning, Program, with_bound, bind_all}
use Rattle.expr_meaning.specs.Env.{look_up, or_global}
use Rattle.expr_meaning.specs.Calls.{Called, library, document, current, current_group, current_key}
use Rattle.expr_meaning.specs.Calls.{key, declared, called, call_value, call_of, lists_of}
use Rattle.expr_laws.specs.Carrier.{Carrier, Meet, AllMeet, SeesFocus, ProgramsAgree, IsMade}
use Rattle.expr_laws.proofs.Anything.{any_kept, any_value, any_name, any_list, all_any}
use Rattle.expr_laws.proofs.Calls.{lists_meet, as_long}
use Rattle.expr_meaning.specs.Making.{joined_atoms}
use Rattle.lockstep_loops.specs.Beside.{Beside, is_one_of}
use Rattle.xt_names.specs.ExprNames.{same_name}

-- the same outcome
abbrev pub same : Relation
same A P o p = (o ≡ p) × OnEnds P o

same_next : (A B : Type 0) (P : A → Type 0) (Q : B → Type 0) (o p : Outcome A)
    (f g : A → ℕ → Outcome B) → same A P o p →
    ((v : A) (k : ℕ) → P v → same B Q (f v k) (g v k)) → same B Q (and_then o f) (and_then p g)
same_next A B P Q (Ends v k) p f g r h =
    subst (λ x. same B Q (f v k) (and_then x g)) r.0 (h v k r.1)
same_next A B P Q (Fails c) p f g r h = (ap (λ x. and_then x g) r.0, tt)
same_next A B P Q Deep p f g r h = (ap (λ x. and_then x g) r.0, tt)

pub same_carries : IsCarrying same_code same
same_carries = record {
  ends = λ A P v k h. (refl, h);
  fails = λ A P c. (refl, tt);
  errors = λ A P c d h. (ap (λ x. Fails x) h, tt);
  next = same_next;
  also = λ A P Q o p r q. (r.0, q);
}

-- a name that is the one of these
pub one_name : (v name : ExprName) → is_one_of (v ∷ []) name ≡ false → same_name v name ≡ false
one_name v name h = by (same_name v name) h
  where
    by : (b : Bool) → (b || false) ≡ false → b ≡ false
    by true e = e
    by false e = refl

pub only_name : (v name : ExprName) → same_name v name ≡ false → is_one_of (v ∷ []) name ≡ false
only_name v name h = rw h refl

-- bindings that are after the same ones
locals_behind : (bs l m : List Binding) (name : ExprName) → look_up l name ≡ look_up m name →
    look_up (with_bound bs l) name ≡ look_up (with_bound bs m) name
unfolding look_up
locals_behind [] l m name h = h
locals_behind (b ∷ bs) l m name h =
    ap (λ o. if same_name b.0 name then Some b.1 else o) (locals_behind bs l m name h)

pub beside_behind : (names : List ExprName) (e f : Env) → Beside names e f → (bs : List Binding) →
    Beside names (bind_all bs e) (bind_all bs f)
beside_behind names e f h bs = record {
  locals = λ name g. locals_behind bs e.locals f.locals name (h.locals name g);
  focus = h.focus;
  state = h.state;
}

module _ (v : ExprName) where
  abbrev pub apart : Carrier
  apart = record {
    strict = ⊥;
    like = same_code;
    alike = λ code. refl;
    rel = same;
    carries = same_carries;
    good = Anything;
    kept = any_kept;
    own_variable = λ name. same_name v name ≡ false;
    own_function = Anything;
    Sight = Unit {0};
    inner = tt;
    at = λ s e f. Beside (v ∷ []) e f;
    bound = λ s e f h bs g. beside_behind (v ∷ []) e f h bs;
    focused = λ s e f h p g. record { locals = h.locals; focus = refl; state = h.state };
  }

  pub apart_focus : (s : Unit {0}) → SeesFocus apart s
  apart_focus s = record { same = λ e f h. h.focus; item = λ e f h p g. tt }

  pub apart_made : IsMade apart
  apart_made = record {
    integer = λ n. tt;
    string = λ t g. tt;
    spaced = λ xs g s. absurd s;
    joined = λ xs g. all_any (joined_atoms xs);
    literal_text = λ t g. tt;
    literal_attribute = λ n t g h. tt;
    element = λ n xs g h k. any_list _;
    document = λ xs g k. any_list _;
    attribute = λ n t g h k. any_list _;
    text = λ t g k. any_list _;
    comment = λ t g k. any_list _;
    pi = λ target t g h k. any_list _;
  }

  itself : (o : Outcome (List Item)) → same (List Item) (Every Anything) o o
  itself o = (refl, any_list o)

  module _ (q : Program) where
    pub apart_agree : ProgramsAgree apart q q
    apart_agree = record {
      meet = record {
        calls = λ name o args g k. itself (q.calls name args k);
        document = λ xs. refl;
        documents = λ xs. any_value _;
        variables = λ s e f h name o.
            ap (λ x. or_global x (look_up q.globals name)) (h.locals name (only_name v name o));
        variable = λ s e f h name o. any_value _;
      };
      keys = λ name values root g k. itself (q.keys name values root k);
      namespaces = refl;
      element_default = refl;
      element_names = λ xs g. any_name _;
      attribute_names = λ xs g. any_name _;
    }

    -- a call sees the focus and the state alone
    value_same : (d : Called) (name : ExprName) (e f : Env) → Beside (v ∷ []) e f →
        (args : List (List Item)) (k : ℕ) →
        call_value q d name e args k ≡ call_value q d name f args k
    value_same (library b) name e f h args k = rw (h.focus) refl
    value_same document name e f h args k = refl
    value_same current name e f h args k = rw (h.state) refl
    value_same current_group name e f h args k = rw (h.state) refl
    value_same current_key name e f h args k = rw (h.state) refl
    value_same key name e f h args k = rw (h.focus) refl
    value_same declared name e f h args k = refl

    pub apart_call : (name : ExprName) (s : Unit {0}) (ms ns : List Meaning) →
        AllMeet apart s ms ns → Meet apart s (call_of q name ms) (call_of q name ns)
    apart_call name s ms ns h e f r k =
        subst (λ l. same (List Item) (Every Anything) (call_of q name ms e k)
        (and_then (lists_of ns f k) (call_value q (called name l) name f)))
        (as_long apart s ms ns h)
        (same_next _ _ (Every (Every Anything)) (Every Anything) (lists_of ms e k) (lists_of ns f k)
        _ _ (lists_meet apart s ms ns h e f r k) (λ args j g.
        (value_same (called name (length ms)) name e f r args j, any_list _)))
