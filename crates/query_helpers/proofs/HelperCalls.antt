-- Calls of the helper functions.
use Rattle.std.proofs.Common.{◌≡◌, ℕ, suc, List, [], ◌∷◌, length, refl, ap, ◌∙◌}
use Rattle.std.specs.Prelude.{Bool, true, false, if◌then◌else◌, Some, None, Ok, Err}
use Rattle.std.specs.List.{list_all}
use Rattle.xt_atoms.specs.Casts.{wrong_type}
use Rattle.xdm_items.specs.Conversion.{converted, matched, prepared}
use Rattle.xdm_items.specs.Matching.{matches_type, matches_item, allows_count}
use Rattle.xdm_items.specs.declared.items.Item.{Item}
use Rattle.xdm_items.specs.declared.items.Item.TheVariants.{Node, Atom}
use Rattle.xdm_items.specs.FunctionArguments.Answers.{of_text}
use Rattle.operator_values.specs.Nodes.{is_node}
use Rattle.xt_syntax.specs.declared.queries.QueryFunction.{QueryFunction}
use Rattle.expr_meaning.specs.Outcomes.Outcome.{Outcome, Ends, Fails, Deep, and_then, step_outcome, Every}
use Rattle.expr_meaning.specs.Env.{Binding, look_up}
use Rattle.expr_meaning.specs.Meaning.{outcome}
use Rattle.expr_meaning.specs.Queries.{Run, calls_at, find_function, called_function, body_value}
use Rattle.expr_meaning.specs.Queries.{program_at, program_of, body_env, bound_params, converted_to}
use Rattle.query_helpers.specs.Last.{IsPlaced}
use Rattle.query_helpers.specs.LastBody.{items_name, last_function}
use Rattle.query_helpers.specs.NodesBody.{nodes_function}
use Rattle.query_helpers.specs.SimpleBody.{separator_name, simple_function}
use Rattle.carried_exprs.specs.Sights.{item_name}
use Rattle.query_helpers.specs.CopyBody.{copy_function}
use Rattle.query_helpers.specs.Helpers.{Has, NodesGives, IsLast, IsSimple, CopyGives}
use Rattle.query_helpers.proofs.CopyGives.{copy_given}
use Rattle.query_helpers.proofs.Gives.{gives_variable}
use Rattle.query_helpers.proofs.LastGives.{last_few, last_same, last_many}
use Rattle.query_helpers.proofs.LastPure.{is_node_item, placed_is_node}
use Rattle.query_helpers.proofs.SimpleGives.{simple_few, simple_plain, simple_many}

pub as_it_is : (o : Outcome (List Item)) → and_then o (λ xs j. Ends xs j) ≡ o
as_it_is (Ends xs k) = refl
as_it_is (Fails code) = refl
as_it_is Deep = refl

module _ (run : Run) (globals : List Binding) (n : ℕ) where
  -- a function without types gives what its body gives
  pub body_given : (f : QueryFunction) (args : List (List Item)) (bound : List Binding) (k : ℕ) →
      find_function run.query.functions f.name (length args) ≡ Some f →
      bound_params f.params args ≡ Ok bound → f.kind ≡ None →
      calls_at run globals (suc n) f.name args k
      ≡ outcome (program_at run globals n) f.body (body_env bound) k
  body_given f args bound k is binds untyped =
      ap (λ o. called_function o (Some (body_value (program_of run globals (calls_at run globals n)))) args k) is
      ∙ ap (λ v. and_then (step_outcome v k) (body_value (program_of run globals (calls_at run globals n)) f)) binds
      ∙ ap (λ t. and_then (outcome (program_at run globals n) f.body (body_env bound) k)
      (λ xs j. step_outcome (converted_to t xs) j)) untyped
      ∙ as_it_is (outcome (program_at run globals n) f.body (body_env bound) k)

  all_nodes : (xs : List Item) → Every IsPlaced xs → list_all is_node_item xs ≡ list_all is_node xs
  unfolding is_node matches_item
  all_nodes [] p = refl
  all_nodes (Node m ∷ xs) p = rw (placed_is_node m p.0) (all_nodes xs p.1)
  all_nodes (Atom a ∷ xs) p = refl

  nodes_by : (xs : List Item) (k : ℕ) (b : Bool) → list_all is_node_item xs ≡ b →
      Has run nodes_function →
      calls_at run globals (suc n) nodes_function.name (xs ∷ []) k
      ≡ step_outcome (if b then Ok xs else Err wrong_type) k
  unfolding converted matched prepared matches_type allows_count look_up
  nodes_by xs k true h has =
      body_given nodes_function (xs ∷ []) ((items_name, xs) ∷ []) k has (rw h refl) refl
      ∙ gives_variable (program_at run globals n) items_name (body_env ((items_name, xs) ∷ [])) xs refl k
  nodes_by xs k false h has =
      ap (λ o. called_function o (Some (body_value (program_of run globals (calls_at run globals n))))
      (xs ∷ []) k) has
      ∙ rw h refl

  pub nodes_gives : Has run nodes_function → NodesGives run globals n
  nodes_gives has xs p k = nodes_by xs k (list_all is_node xs) (all_nodes xs p) has

  pub last_gives : Has run last_function → IsLast run globals n
  last_gives has = record {
    few = λ xs p few k.
        body_given last_function (xs ∷ []) ((items_name, xs) ∷ []) k has refl refl
        ∙ last_few (program_at run globals n) xs p few k;
    same = λ xs h k.
        body_given last_function (xs ∷ []) ((items_name, xs) ∷ []) k has refl refl
        ∙ last_same (program_at run globals n) xs h k;
    many = λ xs h many k.
        body_given last_function (xs ∷ []) ((items_name, xs) ∷ []) k has refl refl
        ∙ last_many (program_at run globals n) xs h many k;
  }

  pub simple_gives : Has run simple_function → IsSimple run globals n
  simple_gives has = record {
    few = λ xs separator few k.
        body_given simple_function (xs ∷ of_text separator ∷ [])
        ((items_name, xs) ∷ (separator_name, of_text separator) ∷ []) k has refl refl
        ∙ simple_few (program_at run globals n) xs separator few k;
    plain = λ xs separator h k.
        body_given simple_function (xs ∷ of_text separator ∷ [])
        ((items_name, xs) ∷ (separator_name, of_text separator) ∷ []) k has refl refl
        ∙ simple_plain (program_at run globals n) xs separator h k;
    many = λ xs separator h many k.
        body_given simple_function (xs ∷ of_text separator ∷ [])
        ((items_name, xs) ∷ (separator_name, of_text separator) ∷ []) k has refl refl
        ∙ simple_many (program_at run globals n) xs separator h many k;
  }

  pub copy_gives : Has run copy_function → CopyGives run globals n
  copy_gives has x sound k =
      body_given copy_function ((x ∷ []) ∷ []) ((item_name, x ∷ []) ∷ []) k has refl refl
      ∙ copy_given (program_at run globals n) x sound k
