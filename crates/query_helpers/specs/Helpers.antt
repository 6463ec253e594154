-- What calls of the helper functions give, with one call left or more.
use Rattle.std.specs.Prelude.{◌≡◌, ◌<◌, ◌≤◌, ◌^◌, ℕ, suc, List, [], ◌∷◌, length, Bool, true, false}
use Rattle.std.specs.Prelude.{if◌then◌else◌, Option, Some, None, Ok, Err}
use Rattle.std.specs.List.{list_all, list_any}
use Rattle.xt_names.specs.declared.codes.Code.TheVariants.{Dynamic}
use Rattle.xt_names.specs.declared.codes.DynamicCode.TheVariants.{FOAR0002}
use Rattle.xt_types.specs.declared.node_tests.Test.TheVariants.{Text as TextTest}
use Rattle.xt_types.specs.declared.types.ItemType.TheVariants.{Kind}
use Rattle.xt_atoms.specs.Casts.{wrong_type}
use Rattle.xt_tree.specs.Place.{subtree_of}
use Rattle.xt_tree.specs.Sound.{names_differ}
use Rattle.xt_tree.specs.declared.trees.Tree.{Tree}
use Rattle.xdm_items.specs.Matching.{matches_item}
use Rattle.xdm_items.specs.declared.items.Item.{Item}
use Rattle.xdm_items.specs.declared.items.Item.TheVariants.{Node, Atom}
use Rattle.xdm_items.specs.FunctionArguments.Answers.{of_text}
use Rattle.operator_values.specs.Nodes.{is_node}
use Rattle.node_builder.specs.Complex.{complex_content}
use Rattle.node_builder.specs.Made.{Gives}
use Rattle.node_builder.specs.Simple.{simple_content}
use Rattle.node_builder.specs.declared.kinds.Duplicates.TheVariants.{KeepLast, Refuse}
use Rattle.node_builder.specs.declared.kinds.Holder.TheVariants.{Element}
use Rattle.xt_syntax.specs.declared.queries.QueryFunction.{QueryFunction}
use Rattle.expr_meaning.specs.Outcomes.Outcome.{Outcome, Ends, Fails, Every, step_outcome}
use Rattle.expr_meaning.specs.Env.{Binding}
use Rattle.expr_meaning.specs.Making.{made}
use Rattle.expr_meaning.specs.Queries.{Run, calls_at, find_function}
use Rattle.meaning_laws.specs.SoundValues.Sound.{IsSound}
use Rattle.query_helpers.specs.Last.{attributes_in, last_of, IsPlaced, SameMade}
use Rattle.query_helpers.specs.LastBody.{last_function}
use Rattle.query_helpers.specs.CopyBody.{copy_function}
use Rattle.query_helpers.specs.NodesBody.{nodes_function}
use Rattle.query_helpers.specs.SimpleBody.{simple_function}

-- the query has the function, which takes so many arguments
abbrev pub Has : Run → QueryFunction → Type 0
Has run f = find_function run.query.functions f.name (length f.params) ≡ Some f

-- the items where all are nodes, or else an error
abbrev pub NodesGives : Run → List Binding → ℕ → Type 0
NodesGives run globals n =
    (xs : List Item) → Every IsPlaced xs → (k : ℕ) →
    calls_at run globals (suc n) nodes_function.name (xs ∷ []) k
    ≡ step_outcome (if list_all is_node xs then Ok xs else Err wrong_type) k

-- what is kept, unless there are too many items to count, of which two are attributes with one name
pub record IsLast (run : Run) (globals : List Binding) (n : ℕ) : Type 0 where
  pub few : (xs : List Item) → Every IsPlaced xs → length xs < 2 ^ 63 → (k : ℕ) →
      calls_at run globals (suc n) last_function.name (xs ∷ []) k ≡ Ends (last_of xs) k
  pub same : (xs : List Item) → names_differ (attributes_in xs) ≡ true → (k : ℕ) →
      calls_at run globals (suc n) last_function.name (xs ∷ []) k ≡ Ends (last_of xs) k
  pub many : (xs : List Item) → names_differ (attributes_in xs) ≡ false → 2 ^ 63 ≤ length xs →
      (k : ℕ) → calls_at run globals (suc n) last_function.name (xs ∷ []) k ≡ Fails (Dynamic FOAR0002)

abbrev pub LastGives : Run → List Binding → ℕ → Type 0
LastGives run globals n = IsLast run globals n

-- the content of all in a stylesheet is that of what is kept in a query
abbrev pub KeepsContent : List Item → Type 0
KeepsContent xs =
    SameMade (complex_content KeepLast Element xs) (complex_content Refuse Element (last_of xs))

abbrev pub is_text_item : Item → Bool
is_text_item x = matches_item (Kind TextTest) x

-- simple content, unless there are too many items to count, of which one is a text node
pub record IsSimple (run : Run) (globals : List Binding) (n : ℕ) : Type 0 where
  pub few : (xs : List Item) (separator : List ℕ) → length xs < 2 ^ 63 → (k : ℕ) →
      calls_at run globals (suc n) simple_function.name (xs ∷ of_text separator ∷ []) k
      ≡ Ends (of_text (simple_content separator xs)) k
  pub plain : (xs : List Item) (separator : List ℕ) → list_any is_text_item xs ≡ false → (k : ℕ) →
      calls_at run globals (suc n) simple_function.name (xs ∷ of_text separator ∷ []) k
      ≡ Ends (of_text (simple_content separator xs)) k
  pub many : (xs : List Item) (separator : List ℕ) → list_any is_text_item xs ≡ true →
      2 ^ 63 ≤ length xs → (k : ℕ) →
      calls_at run globals (suc n) simple_function.name (xs ∷ of_text separator ∷ []) k
      ≡ Fails (Dynamic FOAR0002)

abbrev pub SimpleGives : Run → List Binding → ℕ → Type 0
SimpleGives run globals n = IsSimple run globals n

-- a new root of the same tree, with the next number
abbrev pub copied_below : Option Tree → ℕ → Outcome (List Item)
copied_below None k = Ends [] k
copied_below (Some t) k = made (Gives t) k

abbrev pub copied : Item → ℕ → Outcome (List Item)
copied (Node n) k = copied_below (subtree_of n) k
copied (Atom a) k = Ends (Atom a ∷ []) k

abbrev pub CopyGives : Run → List Binding → ℕ → Type 0
CopyGives run globals n =
    (x : Item) → IsSound x → (k : ℕ) →
    calls_at run globals (suc n) copy_function.name ((x ∷ []) ∷ []) k ≡ copied x k
