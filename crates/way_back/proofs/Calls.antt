-- Calls within leaves do the same on both sides.
use Rattle.std.proofs.Common.{◌≡◌, ℕ, ◌++◌, List, [], ◌∷◌, length, refl, sym, ap, subst}
use Rattle.std.specs.Prelude.{suc, Bool, true, false, not, Option, Some, None}
use Rattle.xt_names.specs.declared.codes.Code.{Code}
use Rattle.xt_names.specs.declared.names.ExprName.{ExprName}
use Rattle.xdm_items.specs.declared.items.Item.{Item}
use Rattle.function_table.specs.declared.builtins.Builtin.{Builtin}
use Rattle.xdm_items.specs.FunctionArguments.Arguments.{and_then as result_then}
use Rattle.fn_lib.specs.Functions.{function_value}
use Rattle.expr_meaning.specs.Outcomes.Outcome.{Outcome, Ends, Fails, Deep, and_then, step_outcome, Every}
use Rattle.expr_meaning.specs.Outcomes.Follow.{Relation, IsCarrying}
use Rattle.expr_meaning.proofs.OutcomesLemmas.Steps.{then_assoc}
use Rattle.expr_meaning.specs.SortMeaning.Sorted.{Placed}
use Rattle.expr_meaning.specs.Env.{Env, Meaning, Program}
use Rattle.expr_meaning.specs.Calls.{lists_of, Called, library, document, current}
use Rattle.expr_meaning.specs.Calls.{current_group, current_key, key, declared, called, call_value}
use Rattle.expr_meaning.specs.Calls.{library_value, from_focus, read_of_focus, call_of}
use Rattle.expr_laws.specs.Carrier.{Carrier, IsKept, AllMeet, Meet}
use Rattle.expr_laws.proofs.Steps.{same_step}
use Rattle.expr_laws.proofs.Calls.{lists_meet, as_long, library_meets, document_meets}
use Rattle.way_back.specs.Leaves.{call_at, is_read}
use Rattle.way_back.specs.Places.{IsSame, ProgramsSame}
use Rattle.way_back.proofs.Places.{back, meet, sees}

-- what goes on from the lists of arguments goes on from the first of them, and then from the others
put_first : {B : Type 0} (o : Outcome (List Item)) (more : ℕ → Outcome (List (List Item)))
    (go : List (List Item) → ℕ → Outcome B) →
    and_then (and_then (and_then o (λ xs j. Ends (xs ∷ []) j))
    (λ ys j. and_then (more j) (λ zs i. Ends (ys ++ zs) i))) go
    ≡ and_then o (λ xs j. and_then (more j) (λ zs. go (xs ∷ zs)))
put_first (Ends xs j) more go = then_assoc (more j) (λ zs i. Ends (xs ∷ zs) i) go
put_first (Fails code) more go = refl
put_first Deep more go = refl

pub first_listed : {B : Type 0} (m : Meaning) (ms : List Meaning) (e : Env) (k : ℕ)
    (go : List (List Item) → ℕ → Outcome B) →
    and_then (lists_of (m ∷ ms) e k) go
    ≡ and_then (m e k) (λ xs j. and_then (lists_of ms e j) (λ zs. go (xs ∷ zs)))
first_listed m ms e k go = put_first (m e k) (lists_of ms e) go

module _ (like : Code → Code → Type 0) (lax : (a b : Code) → like a b) (rel : Relation)
    (carries : IsCarrying like rel) (good : Item → Type 0) (keeps : IsKept good) (p q : Program)
    (programs : ProgramsSame rel good p q) where
  abbrev here : Carrier
  here = back like lax rel carries good keeps

  abbrev Gives : Called → ExprName → Env → Env → List (List Item) → ℕ → Type 0
  Gives d name e f args k =
      rel (List Item) (Every good) (call_value p d name e args k) (call_value q d name f args k)

  -- without arguments a function that reads no focus
  unread_known : (b : Builtin) (r : Option (Placed Item → List Item)) (x : Option (Placed Item)) →
      not (is_read r) ≡ true → from_focus r x ≡ from_focus r None
  unread_known b None x h = refl
  unread_known b (Some read) x h = absurd cc

  none_good : (x : Placed Item) → None ≡ Some x → good x.value
  none_good x e = absurd cc

  without_arguments : (b : Builtin) → not (is_read (read_of_focus b)) ≡ true → (name : ExprName)
      (e f : Env) (k : ℕ) → Gives (library b) name e f [] k
  without_arguments b h name e f k =
      let v = library_value b None [] in
      subst (λ u. rel (List Item) (Every good) (step_outcome u k)
      (step_outcome (library_value b f.focus []) k)) (sym (as_none e.focus))
      (subst (λ u. rel (List Item) (Every good) (step_outcome v k) (step_outcome u k))
      (sym (as_none f.focus)) (same_step here (Every good) v (keeps.library b None none_good [] tt) k))
    where
      as_none : (x : Option (Placed Item)) → library_value b x [] ≡ library_value b None []
      as_none x = ap (λ r. result_then r (function_value b)) (unread_known b (read_of_focus b) x h)

  value_same : (d : Called) (n : ℕ) (name : ExprName) (s : Bool) → call_at d (suc n) s ≡ true →
      (e f : Env) → IsSame good s e f → (xs : List Item) (args : List (List Item)) →
      Every good xs → Every (Every good) args → (k : ℕ) → Gives d name e f (xs ∷ args) k
  value_same (library b) n name true h e f at xs args g a k =
      same_step here (Every good) (library_value b None (xs ∷ args))
      (keeps.library b None none_good (xs ∷ args) (g, a)) k
  value_same (library b) n name false h e f at xs args g a k =
      library_meets here false (sees like lax rel carries good keeps) b e f at (xs ∷ args) (g, a) k
  value_same document n name s h e f at xs args g a k =
      document_meets here s p q (meet like lax rel carries good keeps p q programs) (xs ∷ args) k
  value_same current n name s h e f at xs args g a k = absurd cc
  value_same current_group n name s h e f at xs args g a k = absurd cc
  value_same current_key n name s h e f at xs args g a k = absurd cc
  value_same key n name s h e f at xs args g a k = absurd cc
  value_same declared n name s h e f at xs args g a k = programs.calls name (xs ∷ args) (g, a) k

  none_same : (d : Called) (name : ExprName) (s : Bool) → call_at d 0 s ≡ true →
      (e f : Env) → IsSame good s e f → (k : ℕ) → Gives d name e f [] k
  none_same (library b) name true h e f at k = without_arguments b h name e f k
  none_same (library b) name false h e f at k =
      library_meets here false (sees like lax rel carries good keeps) b e f at [] tt k
  none_same document name s h e f at k =
      document_meets here s p q (meet like lax rel carries good keeps p q programs) [] k
  none_same current name s h e f at k = absurd cc
  none_same current_group name s h e f at k = absurd cc
  none_same current_key name s h e f at k = absurd cc
  none_same key name s h e f at k = absurd cc
  none_same declared name s h e f at k = programs.calls name [] tt k

  pub call_same : (name : ExprName) (s : Bool) (ms ns : List Meaning) → AllMeet here s ms ns →
      call_at (called name (length ms)) (length ms) s ≡ true →
      Meet here s (call_of p name ms) (call_of q name ns)
  call_same name s [] [] all h e f at k = none_same (called name 0) name s h e f at k
  call_same name s [] (n ∷ ns) all h e f at k = absurd all
  call_same name s (m ∷ ms) [] all h e f at k = absurd all
  call_same name s (m ∷ ms) (n ∷ ns) all h e f at k =
      let d = called name (suc (length ms)) in
      subst (λ l. rel (List Item) (Every good) (call_of p name (m ∷ ms) e k)
      (and_then (lists_of (n ∷ ns) f k) (call_value q (called name (suc l)) name f)))
      (as_long here s ms ns all.1)
      (subst (λ o. rel (List Item) (Every good) o
      (and_then (lists_of (n ∷ ns) f k) (call_value q d name f)))
      (sym (first_listed m ms e k (call_value p d name e)))
      (subst (λ o. rel (List Item) (Every good)
      (and_then (m e k) (λ xs j. and_then (lists_of ms e j) (λ zs. call_value p d name e (xs ∷ zs)))) o)
      (sym (first_listed n ns f k (call_value q d name f)))
      (carries.next _ _ (Every good) (Every good) (m e k) (n f k) _ _ (all.0 e f at k) (λ xs j g.
      carries.next _ _ (Every (Every good)) (Every good) (lists_of ms e j) (lists_of ns f j) _ _
      (lists_meet here s ms ns all.1 e f at j)
      (λ args i a. value_same d (length ms) name s h e f at xs args g a i)))))
