-- Where nothing is asked of items, names and texts.
use Rattle.std.proofs.Common.{List, [], ◌∷◌, refl, ap}
use Rattle.std.specs.Prelude.{Option, Some, None, Result, Ok, Err, option_map}
use Rattle.xt_names.specs.declared.codes.Code.{Code}
use Rattle.xt_names.specs.declared.names.Name.{Name}
use Rattle.xdm_items.specs.declared.items.Item.{Item}
use Rattle.expr_meaning.specs.Outcomes.Outcome.{Every, Anything}
use Rattle.expr_meaning.specs.Outcomes.Follow.{Relation, IsCarrying}
use Rattle.expr_meaning.specs.Env.{variable_value}
use Rattle.expr_laws.specs.Carrier.{Carrier, IsAttributeName, IsMade, OnValue}
use Rattle.expr_laws.proofs.Anything.{any_list, any_made, any_name, any_places, any_value}
use Rattle.expr_laws.proofs.Anything.{in_one_place}
use Rattle.transform_meaning.specs.Dispatch.{child_items}
use Rattle.transform_meaning.specs.Keys.{all_nodes}
use Rattle.transform_meaning.specs.Places.{at_item, in_turn, in_group}
use Rattle.transform_meaning.specs.Sheets.{given_for, untyped}
use Rattle.transform_meaning.specs.Templates.{Run, program_of}
use Rattle.transform_laws.specs.Meets.{AreSheetPlaces, IfGood, RunMeets, SheetsMake}

any_every : {A : Type 0} (xs : List A) → Every Anything xs
any_every [] = tt
any_every (x ∷ xs) = (tt, any_every xs)

any_if : (o : Option (List Item)) → IfGood Anything o
any_if None = tt
any_if (Some xs) = any_every xs

any_bindings : {A : Type 0} (P : A → List Item) (bs : List A) →
    Every (λ b. Every Anything (P b)) bs
any_bindings P [] = tt
any_bindings P (b ∷ bs) = (any_every (P b), any_bindings P bs)

module _ (like : Code → Code → Type 0) (alike : (code : Code) → like code code) (rel : Relation)
    (carries : IsCarrying like rel) where
  abbrev pub here : Carrier
  here = in_one_place like alike rel carries

  pub any_sheet_places : AreSheetPlaces here
  any_sheet_places = record {
    alike = any_places like alike rel carries;
    item = λ e f h p g. ap (λ x. at_item x p) h;
    turn = λ e f h p g. ap (λ x. in_turn x p) h;
    group = λ e f h p g. ap (λ x. in_group x p) h;
    entry = λ focus g rule mode tunnel h. refl;
    body = λ bound h. refl;
    tunnel = λ e f h. any_bindings (λ b. b.1) e.state.tunnel;
  }

  any_attribute_name : (v : Result Name Code) → OnValue (IsAttributeName here) v
  any_attribute_name (Ok n) = λ s. absurd s
  any_attribute_name (Err code) = tt

  pub any_makes : IsMade here
  any_makes = any_made like alike rel carries

  pub any_sheets : SheetsMake here
  any_sheets = record {
    element = λ n xs h g k. any_list _;
    document = λ xs g k. any_list _;
    copy = λ n g t e k. any_list _;
    named = λ n g name attributes kids e s. absurd s;
    simple = λ separator xs h g s. absurd s;
    text_in = λ n g t e s. absurd s;
    value_in = λ n g name t e s. absurd s;
    children = λ n g. any_every (child_items n);
    nodes = λ root g. any_every (all_nodes root);
    atom = λ x g. tt;
    converted = λ kind xs g. any_value _;
    element_name = λ scope default text h g. any_name _;
    attribute_name = λ scope text h. any_attribute_name _;
  }

  pub any_run : (run : Run) → RunMeets here run
  any_run run = record {
    parts = λ s. absurd s;
    trees = λ i t e. tt;
    documents = λ globals calls xs. any_value _;
    names = λ xs g. any_name _;
    same_variable = λ globals p q s e f h name.
        ap (λ x. variable_value (program_of run globals p) x name) h;
    variable = λ globals g p s e f h name. any_value _;
    given = λ param name. any_if (option_map untyped (given_for run.given param name));
  }
