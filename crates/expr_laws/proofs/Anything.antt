-- Where nothing is asked of items, names and texts.
use Rattle.std.proofs.Common.{◌≡◌, List, [], ◌∷◌, ap}
use Rattle.std.specs.Prelude.{true, Result, Ok, Err}
use Rattle.xt_names.specs.declared.codes.Code.{Code}
use Rattle.xt_names.specs.declared.names.Name.{Name}
use Rattle.xt_tree.specs.Sound.{is_sound_name}
use Rattle.xdm_items.specs.FunctionArguments.Answers.{of_integer, of_truth}
use Rattle.lazy_seq.specs.Orders.{in_document_order}
use Rattle.expr_meaning.specs.Outcomes.Outcome.{Outcome, Ends, Fails, Deep, OnEnds, Every, Anything}
use Rattle.expr_meaning.specs.Outcomes.Follow.{Relation, IsCarrying}
use Rattle.expr_meaning.specs.Env.{bind_all, at_focus}
use Rattle.expr_meaning.specs.Calls.{members_of, key_of}
use Rattle.expr_meaning.specs.Making.{joined_atoms}
use Rattle.expr_laws.specs.Carrier.{Carrier, OnValue, IsKept, IsMade, AreAlike}

pub all_any : {A : Type 0} (xs : List A) → Every Anything xs
all_any [] = tt
all_any (x ∷ xs) = (tt, all_any xs)

pub any_value : {A : Type 0} (v : Result (List A) Code) → OnValue (Every Anything) v
any_value (Ok xs) = all_any xs
any_value (Err code) = tt

-- where nothing is asked of names
pub any_name : (v : Result Name Code) → OnValue (λ n. ⊥ → is_sound_name n ≡ true) v
any_name (Ok n) = λ s. absurd s
any_name (Err code) = tt

pub any_list : {A : Type 0} (o : Outcome (List A)) → OnEnds (Every Anything) o
any_list (Ends xs k) = all_any xs
any_list (Fails code) = tt
any_list Deep = tt

pub any_kept : IsKept Anything
any_kept = record {
  truth = λ t. all_any (of_truth t);
  integer = λ n. all_any (of_integer n);
  general = λ op xs ys g h. any_value _;
  single = λ op xs ys g h. any_value _;
  is = λ xs ys g h. any_value _;
  before = λ xs ys g h. any_value _;
  after = λ xs ys g h. any_value _;
  range = λ xs ys g h. any_value _;
  arithmetic = λ op xs ys g h. any_value _;
  negated = λ xs g. any_value _;
  signed = λ xs g. any_value _;
  union = λ xs ys g h. any_value _;
  intersect = λ xs ys g h. any_value _;
  except = λ xs ys g h. any_value _;
  instance = λ type xs g. any_value _;
  treated = λ type xs g. any_value _;
  castable = λ type empty xs g. any_value _;
  cast = λ type empty xs g. any_value _;
  root = λ x g. any_value _;
  step = λ axis wanted x g. any_value _;
  ordered = λ xs g. all_any (in_document_order xs);
  library = λ f focus h args g. any_value _;
}

module _ (like : Code → Code → Type 0) (alike : (code : Code) → like code code) (rel : Relation)
    (carries : IsCarrying like rel) where
  -- the relation, looked at in the same place on both sides
  abbrev pub in_one_place : Carrier
  in_one_place = record {
    strict = ⊥;
    like = like;
    alike = alike;
    rel = rel;
    carries = carries;
    good = Anything;
    kept = any_kept;
    own_variable = Anything;
    own_function = Anything;
    Sight = Unit {0};
    inner = tt;
    at = λ s e f. e ≡ f;
    bound = λ s e f h bs g. ap (λ x. bind_all bs x) h;
    focused = λ s e f h p g. ap (λ x. at_focus x p) h;
  }

  pub any_places : AreAlike in_one_place
  any_places = record {
    variables = λ name. tt;
    functions = λ name. tt;
    focus = λ s. record { same = λ e f h. ap (λ x. x.focus) h; item = λ e f h p g. tt };
    state = λ s e f h. ap (λ x. x.state) h;
    current = λ s e f h. any_value _;
    members = λ s e f h. all_any (members_of e.state.group);
    key = λ s e f h. all_any (key_of e.state.group);
  }

  pub any_made : IsMade in_one_place
  any_made = record {
    integer = λ n. tt;
    string = λ t g. tt;
    spaced = λ xs g s. absurd s;
    joined = λ xs g. all_any (joined_atoms xs);
    literal_text = λ t g. tt;
    literal_attribute = λ n t g h. tt;
    element = λ n xs g h k. any_list _;
    document = λ xs g k. any_list _;
    attribute = λ n t g h k. any_list _;
    text = λ t g k. any_list _;
    comment = λ t g k. any_list _;
    pi = λ target t g h k. any_list _;
  }
