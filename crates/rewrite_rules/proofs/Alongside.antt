-- The relation of an outcome to itself, at places that a sight relates.
use Rattle.std.proofs.Common.{◌≡◌, ℕ, List, [], ◌∷◌, refl, ap, subst, length}
use Rattle.xt_names.specs.declared.names.ExprName.{ExprName}
use Rattle.xdm_items.specs.declared.items.Item.{Item}
use Rattle.expr_meaning.specs.Outcomes.Outcome.{Outcome, Ends, Fails, Deep, and_then, OnEnds, Every}
use Rattle.expr_meaning.specs.Outcomes.Outcome.{Anything}
use Rattle.expr_meaning.specs.Outcomes.Follow.{same_code, Relation, IsCarrying}
use Rattle.expr_meaning.specs.Env.{Binding, Env, Meaning, Program, bind_all}
use Rattle.expr_meaning.specs.Calls.{Called, library, document, current, current_group, current_key}
use Rattle.expr_meaning.specs.Calls.{key, declared, called, call_value, call_of, lists_of}
use Rattle.expr_laws.specs.Carrier.{Carrier, Meet, AllMeet, SeesFocus, ProgramsAgree, IsMade, AreBound}
use Rattle.expr_laws.proofs.Anything.{any_kept, any_value, any_name, any_list, all_any}
use Rattle.expr_laws.proofs.Calls.{lists_meet, as_long}
use Rattle.expr_meaning.specs.Making.{joined_atoms}
use Rattle.rewrite_rules.specs.Moving.{Moving}

-- the same outcome
abbrev pub same : Relation
same A P o p = (o ≡ p) × OnEnds P o

same_next : (A B : Type 0) (P : A → Type 0) (Q : B → Type 0) (o p : Outcome A)
    (f g : A → ℕ → Outcome B) → same A P o p →
    ((v : A) (k : ℕ) → P v → same B Q (f v k) (g v k)) → same B Q (and_then o f) (and_then p g)
same_next A B P Q (Ends v k) p f g r h =
    subst (λ x. same B Q (f v k) (and_then x g)) r.0 (h v k r.1)
same_next A B P Q (Fails c) p f g r h = (ap (λ x. and_then x g) r.0, tt)
same_next A B P Q Deep p f g r h = (ap (λ x. and_then x g) r.0, tt)

pub same_carries : IsCarrying same_code same
same_carries = record {
  ends = λ A P v k h. (refl, h);
  fails = λ A P c. (refl, tt);
  errors = λ A P c d h. (ap (λ x. Fails x) h, tt);
  next = same_next;
  also = λ A P Q o p r q. (r.0, q);
}

pub itself : (o p : Outcome (List Item)) → o ≡ p → same (List Item) (Every Anything) o p
itself o p h = (h, any_list o)

module _ (S : Type 0) (m : Moving S) (s : S) where
  pub none_bound : (e f : Env) → m.at s e f → (bs : List Binding) → AreBound (λ name. ⊥) Anything bs →
      m.at s (bind_all bs e) (bind_all bs f)
  none_bound e f h [] g = h
  none_bound e f h (b ∷ bs) g = absurd g.0.0

  abbrev pub beside : Carrier
  beside = record {
    strict = ⊥;
    like = same_code;
    alike = λ code. refl;
    rel = same;
    carries = same_carries;
    good = Anything;
    kept = any_kept;
    own_variable = λ name. ⊥;
    own_function = Anything;
    Sight = Unit {0};
    inner = tt;
    at = λ t e f. m.at s e f;
    bound = λ t e f h bs g. none_bound e f h bs g;
    focused = λ t e f h p g. m.focused s e f h p;
  }

  pub beside_focus : (t : Unit {0}) → SeesFocus beside t
  beside_focus t = record { same = λ e f h. m.focus s e f h; item = λ e f h p g. tt }

  pub beside_made : IsMade beside
  beside_made = record {
    integer = λ n. tt;
    string = λ t g. tt;
    spaced = λ xs g s. absurd s;
    joined = λ xs g. all_any (joined_atoms xs);
    literal_text = λ t g. tt;
    literal_attribute = λ n t g h. tt;
    element = λ n xs g h k. any_list _;
    document = λ xs g k. any_list _;
    attribute = λ n t g h k. any_list _;
    text = λ t g k. any_list _;
    comment = λ t g k. any_list _;
    pi = λ target t g h k. any_list _;
  }

  module _ (q : Program) where
    pub beside_agree : ProgramsAgree beside q q
    beside_agree = record {
      meet = record {
        calls = λ name o args g k. itself (q.calls name args k) (q.calls name args k) refl;
        document = λ xs. refl;
        documents = λ xs. any_value _;
        variables = λ t e f h name o. absurd o;
        variable = λ t e f h name o. absurd o;
      };
      keys = λ name values root g k. itself (q.keys name values root k) (q.keys name values root k) refl;
      namespaces = refl;
      element_default = refl;
      element_names = λ xs g. any_name _;
      attribute_names = λ xs g. any_name _;
    }

    -- a call sees the focus and the state alone
    value_same : (d : Called) (name : ExprName) (e f : Env) → m.at s e f →
        (args : List (List Item)) (k : ℕ) →
        call_value q d name e args k ≡ call_value q d name f args k
    value_same (library b) name e f h args k = rw (m.focus s e f h) refl
    value_same document name e f h args k = refl
    value_same current name e f h args k = rw (m.state s e f h) refl
    value_same current_group name e f h args k = rw (m.state s e f h) refl
    value_same current_key name e f h args k = rw (m.state s e f h) refl
    value_same key name e f h args k = rw (m.focus s e f h) refl
    value_same declared name e f h args k = refl

    pub beside_call : (name : ExprName) (ms ns : List Meaning) →
        AllMeet beside tt ms ns → Meet beside tt (call_of q name ms) (call_of q name ns)
    beside_call name ms ns h e f r k =
        subst (λ l. same (List Item) (Every Anything) (call_of q name ms e k)
        (and_then (lists_of ns f k) (call_value q (called name l) name f)))
        (as_long beside tt ms ns h)
        (same_next _ _ (Every (Every Anything)) (Every Anything) (lists_of ms e k) (lists_of ns f k)
        _ _ (lists_meet beside tt ms ns h e f r k) (λ args j g.
        (value_same (called name (length ms)) name e f r args j, any_list _)))
