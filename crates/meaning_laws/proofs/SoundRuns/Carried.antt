-- Soundness is carried through every expression.
use Rattle.std.proofs.Common.{◌≡◌, ℕ, List, [], ◌∷◌, refl, ap, subst}
use Rattle.std.specs.Prelude.{Bool, true, false, Option, Some, None, Result, Ok, Err}
use Rattle.std.specs.Prelude.{if◌then◌else◌, slice_get, option_map, option_and_then}
use Rattle.std.proofs.lemmas.Bool.{and_parts, and_from}
use Rattle.xt_names.specs.declared.codes.Code.{Code}
use Rattle.xt_names.specs.declared.names.ExprName.{ExprName}
use Rattle.xt_names.specs.declared.names.Name.{Name}
use Rattle.xt_tree.specs.Place.{Place}
use Rattle.xt_tree.specs.Sound.{is_sound_tree}
use Rattle.xt_tree.specs.declared.trees.Tree.{Tree}
use Rattle.xdm_items.specs.declared.items.Item.{Item}
use Rattle.xdm_items.specs.declared.items.Item.TheVariants.{Node}
use Rattle.xt_syntax.specs.declared.exprs.Expr.{Expr}
use Rattle.closed_queries.specs.ExprTexts.{has_sound_texts}
use Rattle.doc_set.specs.Sets.{DocumentSet, is_document, is_sound_document, are_sound_documents}
use Rattle.doc_set.specs.Sets.{place_of, root_at, root_named}
use Rattle.xdm_items.specs.FunctionArguments.Arguments.{optional_text_argument}
use Rattle.expr_meaning.specs.Outcomes.Outcome.{Outcome, Ends, Fails, Deep, and_then, OnEnds, Every}
use Rattle.expr_meaning.specs.Outcomes.Follow.{Relation, IsCarrying, any_code}
use Rattle.expr_meaning.specs.SortMeaning.Sorted.{Placed}
use Rattle.expr_meaning.specs.Calls.{named_document}
use Rattle.expr_meaning.specs.Documents.{document_in, found_root}
use Rattle.expr_meaning.specs.Env.{Binding, Env, Program, bind_all, with_bound, at_focus}
use Rattle.expr_meaning.specs.Env.{look_up, or_global, variable_value}
use Rattle.expr_meaning.specs.Meaning.{outcome}
use Rattle.expr_meaning.specs.Names.{name_of_items}
use Rattle.expr_laws.specs.Carrier.{Carrier, AreAlike, AreBound, AreGood, IsMade, OnValue}
use Rattle.expr_laws.specs.Carrier.{ProgramsAgree}
use Rattle.expr_laws.specs.Carrier.{IsName as IsNameOf}
use Rattle.expr_laws.proofs.Whole.{whole_meets}
use Rattle.meaning_laws.specs.SoundValues.Sound.{IsSound}
use Rattle.meaning_laws.proofs.SoundValues.Lists.{OnSome, at_place}
use Rattle.meaning_laws.proofs.SoundValues.Trees.{IsName}
use Rattle.meaning_laws.proofs.SoundValues.Arguments.{AllSound, then_any}
use Rattle.meaning_laws.proofs.SoundFunctions.Kept.{values_kept}
use Rattle.meaning_laws.specs.SoundRuns.Sound.{EndsSound, IsSoundFocus, IsSoundEnv, IsSoundProgram}
use Rattle.meaning_laws.proofs.SoundRuns.Made.{spaced_known, literal_text, literal_attribute, joined_sound}
use Rattle.meaning_laws.proofs.SoundRuns.Made.{element_ends, document_ends, attribute_ends, text_ends}
use Rattle.meaning_laws.proofs.SoundRuns.Made.{comment_ends, pi_ends}
use Rattle.meaning_laws.proofs.SoundRuns.Names.{names_known, no_uri}
use Rattle.xt_names.specs.ExprNames.{same_name}

-- what holds of the value of the first
abbrev pub known : Relation
known A P o p = OnEnds P o

pub then_ends : {A B : Type 0} (P : A → Type 0) (Q : B → Type 0) (o : Outcome A)
    (f : A → ℕ → Outcome B) → OnEnds P o → ((v : A) (k : ℕ) → P v → OnEnds Q (f v k)) →
    OnEnds Q (and_then o f)
then_ends P Q (Ends v k) f h g = g v k h
then_ends P Q (Fails code) f h g = tt
then_ends P Q Deep f h g = tt

pub known_carries : IsCarrying any_code known
known_carries = record {
  ends = λ A P v k h. h;
  fails = λ A P code. tt;
  errors = λ A P c d h. tt;
  next = λ A B P Q o p f g r h. then_ends P Q o f r h;
  also = λ A P Q o p r q. q;
}

-- places at which all is sound that can be read
abbrev at : Env → Env → Type 0
at e f = (e ≡ f) × IsSoundEnv e

pub all_bound : (bs cs : List Binding) → AreGood IsSound bs → AreGood IsSound cs →
    AreGood IsSound (with_bound bs cs)
all_bound [] cs h g = g
all_bound (b ∷ bs) cs h g = (h.0, all_bound bs cs h.1 g)

pub bound_sound : (bs : List Binding) (e : Env) → AreGood IsSound bs → IsSoundEnv e →
    IsSoundEnv (bind_all bs e)
bound_sound bs e h g = record {
  locals = all_bound bs e.locals h g.locals;
  focus = g.focus;
  current = g.current;
  members = g.members;
  key = g.key;
}

pub focus_sound : (e : Env) (p : Placed Item) → IsSound p.value → IsSoundEnv e →
    IsSoundEnv (at_focus e p)
focus_sound e p h g = record {
  locals = g.locals;
  focus = h;
  current = g.current;
  members = g.members;
  key = g.key;
}

pub focus_is : (o : Option (Placed Item)) → IsSoundFocus o → (p : Placed Item) → o ≡ Some p →
    IsSound p.value
focus_is o h p e = subst IsSoundFocus e h

-- bindings of any names
abbrev pub any_variable : ExprName → Type 0
any_variable name = Unit {0}

pub values_sound : (bs : List Binding) → AreBound any_variable IsSound bs → AreGood IsSound bs
values_sound [] h = tt
values_sound (b ∷ bs) h = (h.0.1, values_sound bs h.1)

abbrev sound : Carrier
sound = record {
  strict = Unit {0};
  like = any_code;
  alike = λ code. tt;
  rel = known;
  carries = known_carries;
  good = IsSound;
  kept = values_kept;
  own_variable = any_variable;
  own_function = any_variable;
  Sight = Unit {0};
  inner = tt;
  at = λ s e f. at e f;
  bound = λ s e f h bs g.
      (ap (bind_all bs) h.0, bound_sound bs e (values_sound bs g) h.1);
  focused = λ s e f h p g. (ap (λ x. at_focus x p) h.0, focus_sound e p g h.1);
}

places : AreAlike sound
places = record {
  variables = λ name. tt;
  functions = λ name. tt;
  focus = λ s. record {
    same = λ e f h. ap (λ x. x.focus) h.0;
    item = λ e f h p g. focus_is e.focus h.1.focus p g;
  };
  state = λ s e f h. ap (λ x. x.state) h.0;
  current = λ s e f h. h.1.current;
  members = λ s e f h. h.1.members;
  key = λ s e f h. h.1.key;
}

made : IsMade sound
made = record {
  integer = λ n. refl;
  string = λ t h. h tt;
  spaced = λ xs g s. spaced_known xs g;
  joined = joined_sound;
  literal_text = λ t h. literal_text t (h tt);
  literal_attribute = λ n t g h. literal_attribute n t (g tt) (h tt);
  element = λ n xs h g k. element_ends n xs (h tt) g k;
  document = document_ends;
  attribute = λ n t g h k. attribute_ends n t (g tt) (h tt) k;
  text = λ t h k. text_ends t (h tt) k;
  comment = λ t h k. comment_ends t (h tt) k;
  pi = λ target t g h k. pi_ends target t g (h tt) k;
}

-- what doc() finds
abbrev IsSoundPair : List ℕ × Tree → Type 0
IsSoundPair d = is_sound_tree d.1 ≡ true

pairs_sound : (set : DocumentSet) → are_sound_documents set ≡ true → Every IsSoundPair set
pairs_sound [] h = tt
pairs_sound (d ∷ set) h =
    let a = and_parts (is_sound_document d.1) (are_sound_documents set) h in
    ((and_parts (is_document d.1) (is_sound_tree d.1) a.0).1, pairs_sound set a.1)

abbrev IsSoundRoot : Place → Type 0
IsSoundRoot n = IsSound (Node n)

root_of_pair : (o : Option (List ℕ × Tree)) (i : ℕ) → OnSome IsSoundPair o →
    OnSome IsSoundRoot (option_map (λ d. record {
      number = i;
      tree = d.1;
      path = [];
      attribute = None;
    }) o)
root_of_pair None i h = tt
root_of_pair (Some d) i h = and_from _ _ h refl

root_by_place : (set : DocumentSet) → Every IsSoundPair set → (o : Option ℕ) →
    OnSome IsSoundRoot (option_and_then (root_at set) o)
root_by_place set h None = tt
root_by_place set h (Some i) = root_of_pair (slice_get set i) _ (at_place IsSoundPair set i h)

root_listed : (o : Option Place) → OnSome IsSoundRoot o → OnValue AllSound (found_root o)
root_listed None h = tt
root_listed (Some n) h = (h, tt)

found : (set : DocumentSet) (name : List ℕ) → are_sound_documents set ≡ true →
    OnValue AllSound (document_in set name)
unfolding document_in
found set name h =
    root_listed (root_named name set) (root_by_place set (pairs_sound set h) (place_of name set))

pub document_named : (p : Program) (o : Option (List ℕ)) → are_sound_documents p.documents ≡ true →
    OnValue AllSound (named_document p o)
document_named p None h = tt
document_named p (Some name) h = found p.documents name h

-- variables
pub looked_up : (bs : List Binding) (name : ExprName) → AreGood IsSound bs →
    OnSome AllSound (look_up bs name)
unfolding look_up
looked_up [] name h = tt
looked_up (b ∷ more) name h = by (same_name b.0 name) (looked_up more name h.1)
  where
    by : (c : Bool) → OnSome AllSound (look_up more name) →
        OnSome AllSound (if c then Some b.1 else look_up more name)
    by true g = h.0
    by false g = g

pub one_of_two : (l g : Option (List Item)) → OnSome AllSound l → OnSome AllSound g →
    OnValue AllSound (or_global l g)
one_of_two (Some xs) g h k = h
one_of_two None (Some xs) h k = k
one_of_two None None h k = tt

named : (v : Result Name Code) → OnValue IsName v → OnValue (IsNameOf sound) v
named (Ok n) h = λ s. h
named (Err code) h = tt

programs_agree : (p : Program) → IsSoundProgram p → ProgramsAgree sound p p
programs_agree p h = record {
  meet = record {
    calls = λ name o args g k. h.calls name args g k;
    document = λ xs. refl;
    documents = λ xs. then_any AllSound (optional_text_argument xs) (named_document p)
        (λ o. document_named p o h.documents);
    variables = λ v e f s name o. ap (λ x. variable_value p x name) s.0;
    variable = λ v e f s name o. one_of_two (look_up e.locals name) (look_up p.globals name)
        (looked_up e.locals name s.1.locals) (looked_up p.globals name h.globals);
  };
  keys = h.keys;
  namespaces = refl;
  element_default = refl;
  element_names = λ xs g. named (name_of_items p.namespaces p.element_default xs)
      (names_known p.namespaces p.element_default xs h.namespaces h.element_default g);
  attribute_names = λ xs g. named (name_of_items p.namespaces [] xs)
      (names_known p.namespaces [] xs h.namespaces no_uri g);
}

pub expression_sound : (p : Program) → IsSoundProgram p → (x : Expr) → has_sound_texts x ≡ true →
    (e : Env) → IsSoundEnv e → (k : ℕ) → EndsSound (outcome p x e k)
expression_sound p h x t e g k =
    whole_meets sound places made p p (programs_agree p h) x (λ s. t) tt e e (refl, g) k
