-- Soundness is carried through every stylesheet.
use Rattle.std.proofs.Common.{◌≡◌, ℕ, ◌+◌, zero, suc, List, [], ◌∷◌, length, map, refl, ap, subst}
use Rattle.std.proofs.lemmas.Bool.{and_parts, and_from}
use Rattle.std.specs.Prelude.{Bool, true, false, not, Option, Some, None, option_map, slice_get}
use Rattle.std.specs.Prelude.{Result, Ok, Err, if◌then◌else◌}
use Rattle.std.specs.Str.{bytes_eq}
use Rattle.xt_names.specs.Allowed.{is_empty_text}
use Rattle.xt_names.specs.Classes.{is_xml_text}
use Rattle.xt_names.specs.declared.codes.Code.{Code}
use Rattle.xt_names.specs.declared.names.ExprName.{ExprName}
use Rattle.xt_names.specs.declared.names.Name.{Name}
use Rattle.xt_tree.specs.Sound.{is_named_xmlns, is_sound_name, is_sound_tree}
use Rattle.xt_tree.specs.declared.trees.Tree.{Tree}
use Rattle.xdm_items.specs.declared.items.Item.{Item}
use Rattle.xdm_items.specs.declared.items.Item.TheVariants.{Node}
use Rattle.xdm_items.specs.FunctionArguments.Arguments.{optional_text_argument}
use Rattle.node_builder.specs.Answers.{root_place as new_root_place}
use Rattle.doc_set.specs.Sets.{DocumentSet, are_sound_documents, is_document, is_sound_document}
use Rattle.expr_meaning.specs.Outcomes.Outcome.{Outcome, Ends, Fails, Deep, OnEnds}
use Rattle.expr_meaning.specs.Outcomes.Follow.{any_code}
use Rattle.expr_meaning.specs.SortMeaning.Sorted.{Placed}
use Rattle.expr_meaning.specs.Calls.{current_value, named_document}
use Rattle.expr_meaning.specs.Env.{Binding, Env, Group, bind_all, at_focus, look_up}
use Rattle.expr_meaning.specs.Env.{variable_value}
use Rattle.expr_meaning.specs.Names.{name_of_items}
use Rattle.expr_meaning.specs.Queries.{Given, given_text}
use Rattle.expr_laws.specs.Carrier.{AreAlike, AreGood, Carrier, IsAttributeName, IsMade, OnValue}
use Rattle.expr_laws.specs.Carrier.{IsName as IsNameOf}
use Rattle.meaning_laws.specs.SoundValues.Sound.{IsSound}
use Rattle.meaning_laws.proofs.SoundValues.Arguments.{AllSound, then_any}
use Rattle.meaning_laws.proofs.SoundValues.Lists.{OnSome}
use Rattle.meaning_laws.proofs.SoundValues.Texts.{IsXml}
use Rattle.meaning_laws.proofs.SoundValues.Trees.{IsName, tree_part, value_atom}
use Rattle.meaning_laws.proofs.SoundFunctions.Kept.{values_kept}
use Rattle.meaning_laws.specs.SoundRuns.Sound.{IsSoundFocus, are_xml_values}
use Rattle.meaning_laws.proofs.SoundRuns.Carried.{any_variable, bound_sound, document_named, focus_is}
use Rattle.meaning_laws.proofs.SoundRuns.Carried.{focus_sound, known, values_sound}
use Rattle.meaning_laws.proofs.SoundRuns.Carried.{known_carries, looked_up, one_of_two}
use Rattle.meaning_laws.proofs.SoundRuns.Made.{attribute_ends, comment_ends, joined_sound, literal_attribute}
use Rattle.meaning_laws.proofs.SoundRuns.Made.{literal_text, pi_ends, spaced_known, text_ends}
use Rattle.meaning_laws.proofs.SoundRuns.Made as queries
use Rattle.meaning_laws.proofs.SoundRuns.Names.{names_known, no_uri}
use Rattle.transform_meaning.specs.Keys.{given_trees}
use Rattle.transform_meaning.specs.Places.{at_item, in_turn, in_group, first_in, item_in}
use Rattle.transform_meaning.specs.Sheets.{given_for, transform_outcome, untyped}
use Rattle.transform_meaning.specs.Templates.{Run, doors_at, program_of}
use Rattle.transform_laws.specs.Meets.{AreSheetPlaces, DoorsMeet, IfGood, IsGoodFocus, IsGoodGroup}
use Rattle.transform_laws.specs.Meets.{RunMeets, SheetsMake}
use Rattle.transform_laws.proofs.Runs.{doors_meet, sheet_meets}
use Rattle.sound_transforms.specs.Sound.{IsSoundPlace, IsSoundRun}
use Rattle.sound_transforms.proofs.Names.{attribute_known, element_known}
use Rattle.sound_transforms.proofs.Nodes.{children_known, copy_ends, document_ends, element_ends}
use Rattle.sound_transforms.proofs.Nodes.{element_named, nodes_known, text_in, value_in}
use Rattle.sound_transforms.proofs.Texts.{simple_known}
use Rattle.meaning_laws.proofs.SoundRuns.Runs.{converted_sound}

-- places at which all is sound that can be read
abbrev at : Env → Env → Type 0
at e f = (e ≡ f) × IsSoundPlace e

focus_of : (o : Option (Placed Item)) → IsGoodFocus IsSound o → IsSoundFocus o
focus_of None h = tt
focus_of (Some p) h = h p refl

current_of : (o : Option (Placed Item)) → IsGoodFocus IsSound o →
    OnValue AllSound (current_value (item_in o))
current_of None h = tt
current_of (Some p) h = (h p refl, tt)

abbrev pub sound : Carrier
sound = record {
  strict = Unit {0};
  like = any_code;
  alike = λ code. tt;
  rel = known;
  carries = known_carries;
  good = IsSound;
  kept = values_kept;
  own_variable = any_variable;
  own_function = any_variable;
  Sight = Unit {0};
  inner = tt;
  at = λ s e f. at e f;
  bound = λ s e f h bs g. (
    ap (bind_all bs) h.0,
    record {
      env = bound_sound bs e (values_sound bs g) h.1.env;
      tunnel = h.1.tunnel;
    },
  );
  focused = λ s e f h p g. (
    ap (λ x. at_focus x p) h.0,
    record {
      env = focus_sound e p g h.1.env;
      tunnel = h.1.tunnel;
    },
  );
}

alike : AreAlike sound
alike = record {
  variables = λ name. tt;
  functions = λ name. tt;
  focus = λ s. record {
    same = λ e f h. ap (λ x. x.focus) h.0;
    item = λ e f h p g. focus_is e.focus h.1.env.focus p g;
  };
  state = λ s e f h. ap (λ x. x.state) h.0;
  current = λ s e f h. h.1.env.current;
  members = λ s e f h. h.1.env.members;
  key = λ s e f h. h.1.env.key;
}

-- the first member of a group
first_good : (g : Placed Group) → IsGoodGroup IsSound g.value → IsGoodFocus IsSound (first_in g)
first_good g h = by g.value.members h.0
  where
    by : (xs : List Item) → AllSound xs → IsGoodFocus IsSound
        (option_map (λ x. record { value = x; place = g.place; size = g.size }) (slice_get xs 0))
    by [] k p e = absurd cc
    by (x ∷ xs) k p e = subst OnFocus e k.0
      where
        OnFocus : Option (Placed Item) → Type 0
        OnFocus None = Unit {0}
        OnFocus (Some q) = IsSound q.value

-- wherever instructions go all stays sound
sheet_places : AreSheetPlaces sound
sheet_places = record {
  alike = alike;
  item = λ e f h p g. (
    ap (λ x. at_item x p) h.0,
    record {
      env = record {
        locals = h.1.env.locals;
        focus = g;
        current = (g, tt);
        members = h.1.env.members;
        key = h.1.env.key;
      };
      tunnel = h.1.tunnel;
    },
  );
  turn = λ e f h p g. (
    ap (λ x. in_turn x p) h.0,
    record {
      env = record {
        locals = h.1.env.locals;
        focus = g;
        current = (g, tt);
        members = h.1.env.members;
        key = h.1.env.key;
      };
      tunnel = h.1.tunnel;
    },
  );
  group = λ e f h p g. (
    ap (λ x. in_group x p) h.0,
    record {
      env = record {
        locals = h.1.env.locals;
        focus = focus_of (first_in p) (first_good p g);
        current = current_of (first_in p) (first_good p g);
        members = g.0;
        key = g.1;
      };
      tunnel = h.1.tunnel;
    },
  );
  entry = λ focus g rule mode tunnel h. (
    refl,
    record {
      env = record {
        locals = tt;
        focus = focus_of focus g;
        current = current_of focus g;
        members = tt;
        key = tt;
      };
      tunnel = h;
    },
  );
  body = λ bound h. (
    refl,
    record {
      env = record { locals = h; focus = tt; current = tt; members = tt; key = tt };
      tunnel = tt;
    },
  );
  tunnel = λ e f h. h.1.tunnel;
}

pub made : IsMade sound
made = record {
  integer = λ n. refl;
  string = λ t h. h tt;
  spaced = λ xs g s. spaced_known xs g;
  joined = joined_sound;
  literal_text = λ t h. literal_text t (h tt);
  literal_attribute = λ n t g h. literal_attribute n t (g tt) (h tt);
  element = λ n xs h g k. queries.element_ends n xs (h tt) g k;
  document = queries.document_ends;
  attribute = λ n t g h k. attribute_ends n t (g tt) (h tt) k;
  text = λ t h k. text_ends t (h tt) k;
  comment = λ t h k. comment_ends t (h tt) k;
  pi = λ target t g h k. pi_ends target t g (h tt) k;
}

-- names, where the relation asks for them
name_of : (b : Bool) (v : Result Name Code) →
    OnValue (λ n. IsName n × (b ≡ true → is_named_xmlns n ≡ false)) v →
    OnValue (IsNameOf sound) v
name_of b (Ok n) h = λ s. h.0
name_of b (Err code) h = tt

attribute_of : (v : Result Name Code) →
    OnValue (λ n. IsName n × (true ≡ true → is_named_xmlns n ≡ false)) v →
    OnValue (IsAttributeName sound) v
attribute_of (Ok n) h = λ s. and_from (is_sound_name n) (not (is_named_xmlns n)) h.0 (ap not (h.1 refl))
attribute_of (Err code) h = tt

pub sheets : SheetsMake sound
sheets = record {
  element = λ n xs h g k. element_ends n xs (h tt) g k;
  document = document_ends;
  copy = copy_ends;
  named = λ n g name attributes kids e s. element_named n g name attributes kids e;
  simple = λ separator xs h g s. simple_known separator xs (h tt) g;
  text_in = λ n g t e s. text_in n g t e;
  value_in = λ n g name t e s. value_in n g name t e;
  children = children_known;
  nodes = nodes_known;
  atom = value_atom;
  converted = converted_sound;
  element_name = λ scope default text h g.
      name_of false _ (element_known scope default text (h tt) (g tt));
  attribute_name = λ scope text h. attribute_of _ (attribute_known scope text (h tt));
}

-- values from outside
text_sound : (gs : List Given) (local : List ℕ) → are_xml_values gs ≡ true →
    OnSome IsXml (given_text gs local)
text_sound [] local h = tt
text_sound (x ∷ gs) local h =
    let a = and_parts (is_xml_text x.1) (are_xml_values gs) h in
    by (bytes_eq x.0 local) a.0 (text_sound gs local a.1)
  where
    by : (b : Bool) → IsXml x.1 → OnSome IsXml (given_text gs local) →
        OnSome IsXml (if b then Some x.1 else given_text gs local)
    by true t g = t
    by false t g = g

untyped_sound : (o : Option (List ℕ)) → OnSome IsXml o → IfGood IsSound (option_map untyped o)
untyped_sound None h = tt
untyped_sound (Some t) h = (h, tt)

named : (v : Result Name Code) → OnValue IsName v → OnValue (IsNameOf sound) v
named (Ok n) h = λ s. h
named (Err code) h = tt

-- the documents
tree_at : (set : DocumentSet) → are_sound_documents set ≡ true → (i : ℕ) (t : Tree) →
    slice_get (map (λ d. d.1) set) i ≡ Some t → is_sound_tree t ≡ true
tree_at [] h i t e = absurd cc
tree_at (d ∷ set) h zero t e =
    let a = and_parts (is_sound_document d.1) (are_sound_documents set) h in
    let b = and_parts (is_document d.1) (is_sound_tree d.1) a.0 in let same : d.1 ≡ t = cc in
    subst (λ x. is_sound_tree x ≡ true) same b.1
tree_at (d ∷ set) h (suc i) t e =
    tree_at set (and_parts (is_sound_document d.1) (are_sound_documents set) h).1 i t e

given_tree_at : (run : Run) → IsSoundRun run → (i : ℕ) (t : Tree) →
    slice_get (given_trees run.document run.documents) i ≡ Some t → is_sound_tree t ≡ true
given_tree_at run h zero t e =
    let same : run.document ≡ t = cc in subst (λ x. is_sound_tree x ≡ true) same h.document
given_tree_at run h (suc i) t e = tree_at run.documents h.documents i t e

module _ (run : Run) (known_run : IsSoundRun run) where
  given_sound : (param : Bool) (name : ExprName) →
      IfGood IsSound (option_map untyped (given_for run.given param name))
  given_sound false name = tt
  given_sound true name =
      by (is_empty_text name.uri) (text_sound run.given name.local known_run.given)
    where
      by : (b : Bool) → OnSome IsXml (given_text run.given name.local) → IfGood IsSound
          (option_map untyped (if b then given_text run.given name.local else None))
      by true g = untyped_sound (given_text run.given name.local) g
      by false g = tt

  run_meets : RunMeets sound run
  run_meets = record {
    parts = λ s. known_run.parts;
    trees = λ i t e. and_from _ _ (given_tree_at run known_run i t e) refl;
    documents = λ globals calls xs. then_any AllSound (optional_text_argument xs)
        (named_document (program_of run globals calls))
        (λ o. document_named (program_of run globals calls) o known_run.documents);
    names = λ xs g. named (name_of_items [] [] xs) (names_known [] [] xs refl no_uri g);
    same_variable = λ globals p q s e f h name.
        ap (λ x. variable_value (program_of run globals p) x name) h.0;
    variable = λ globals g p s e f h name. one_of_two (look_up e.locals name)
        (look_up globals name) (looked_up e.locals name h.1.env.locals)
        (looked_up globals name g);
    given = given_sound;
  }

  doors_sound : (globals : List Binding) → AreGood IsSound globals → (n : ℕ) →
      DoorsMeet sound (doors_at run globals n) (doors_at run globals n)
  doors_sound globals g zero =
      doors_meet sound made sheets sheet_places run run_meets globals g None None
      (λ go to h k. tt)
  doors_sound globals g (suc n) =
      doors_meet sound made sheets sheet_places run run_meets globals g
      (Some (doors_at run globals n)) (Some (doors_at run globals n))
      (λ go to h k. h (doors_at run globals n) (doors_at run globals n) (doors_sound globals g n) k)

  pub transform_sound : (n : ℕ) →
      OnEnds (λ t. is_sound_tree t ≡ true) (transform_outcome run n)
  transform_sound n =
      by (transform_outcome run n)
      (sheet_meets sound made sheets sheet_places run run_meets n n
      (λ globals g. doors_sound globals g n) (length run.documents + 1))
    where
      by : (o : Outcome Tree) → OnEnds (λ t. (k : ℕ) × IsSound (Node (new_root_place k t))) o →
          OnEnds (λ t. is_sound_tree t ≡ true) o
      by (Ends t k) h = tree_part (new_root_place h.0 t) h.1
      by (Fails code) h = tt
      by Deep h = tt
