-- What helper functions of the query do, as a relation between outcomes has it: so it may be that the
-- query has no call left for them.
use Rattle.std.specs.Prelude.{◌≡◌, ℕ, List, [], ◌∷◌, flat_map, true, if◌then◌else◌, Result, Ok}
use Rattle.xt_names.specs.Classes.{is_xml_text}
use Rattle.xt_names.specs.declared.codes.Code.{Code}
use Rattle.xt_tree.specs.Sound.{names_differ}
use Rattle.xdm_items.specs.declared.items.Item.{Item}
use Rattle.xdm_items.specs.FunctionArguments.Answers.{of_text}
use Rattle.xdm_items.specs.FunctionArguments.Arguments.{and_then as result_then}
use Rattle.expr_meaning.specs.Outcomes.Outcome.{Every, step_outcome}
use Rattle.expr_meaning.specs.Outcomes.Follow.{Relation}
use Rattle.expr_meaning.specs.SortMeaning.Sorted.{counted}
use Rattle.expr_meaning.specs.Env.{Program}
use Rattle.meaning_laws.specs.SoundValues.Sound.{IsSound}
use Rattle.query_helpers.specs.Last.{last_of}
use Rattle.query_helpers.specs.LastBody.{last_function}
use Rattle.query_helpers.specs.CopyBody.{copy_function}
use Rattle.query_helpers.specs.NodesBody.{nodes_function}
use Rattle.query_helpers.specs.SimpleBody.{simple_function}
use Rattle.transform_meaning.specs.Dispatch.{only_nodes}
use Rattle.transform_meaning.specs.Making.{attribute_in, copied_item}
use Rattle.transform_meaning.specs.Texts.{simple_text}

-- what an element keeps of its items, which are counted where two attributes have one name
abbrev pub kept_items : List Item → Result (List Item) Code
kept_items xs =
    if names_differ (flat_map attribute_in xs) then Ok (last_of xs) else counted xs (last_of xs)

abbrev pub simple_items : List ℕ → List Item → Result (List Item) Code
simple_items separator xs = result_then (simple_text separator xs) (λ t. Ok (of_text t))

pub record HelpersCarry (rel : Relation) (q : Program) : Type 0 where
  pub nodes : (xs : List Item) → Every IsSound xs → (k : ℕ) →
      rel (List Item) (Every IsSound) (step_outcome (only_nodes xs) k)
      (q.calls nodes_function.name (xs ∷ []) k)
  pub last : (xs : List Item) → Every IsSound xs → (k : ℕ) →
      rel (List Item) (Every IsSound) (step_outcome (kept_items xs) k)
      (q.calls last_function.name (xs ∷ []) k)
  pub simple : (xs : List Item) → Every IsSound xs → (separator : List ℕ) →
      is_xml_text separator ≡ true → (k : ℕ) →
      rel (List Item) (Every IsSound) (step_outcome (simple_items separator xs) k)
      (q.calls simple_function.name (xs ∷ of_text separator ∷ []) k)
  pub copy : (x : Item) → IsSound x → (k : ℕ) →
      rel (List Item) (Every IsSound) (copied_item x k)
      (q.calls copy_function.name ((x ∷ []) ∷ []) k)
