-- More calls change nothing but an outcome that lacked one.
use Rattle.std.proofs.Common.{◌≡◌, ◌+◌, ℕ, zero, suc, List, [], ◌∷◌, refl, sym, ap, subst, length}
use Rattle.std.proofs.Common.{arith}
use Rattle.std.specs.Prelude.{Option, Some, None}
use Rattle.xt_names.specs.declared.names.ExprName.{ExprName}
use Rattle.xdm_items.specs.declared.items.Item.{Item}
use Rattle.xt_syntax.specs.declared.exprs.Expr.{Expr}
use Rattle.xt_syntax.specs.declared.queries.QueryFunction.{QueryFunction}
use Rattle.xt_syntax.specs.declared.queries.QueryVar.{QueryVar}
use Rattle.expr_meaning.specs.Outcomes.Outcome.{Outcome, Ends, Fails, Deep, step_outcome, OnEnds, Every}
use Rattle.expr_meaning.specs.Outcomes.Outcome.{Anything}
use Rattle.expr_meaning.specs.Outcomes.Follow.{Follows, FailsLike, same_code, deeper}
use Rattle.expr_meaning.proofs.OutcomesLemmas.Relations.{carried_same, deeper_carries, nothing_known}
use Rattle.expr_meaning.specs.Env.{Binding, Env, variable_value}
use Rattle.expr_meaning.specs.Logic.{typed}
use Rattle.expr_meaning.specs.Meaning.{outcome}
use Rattle.expr_meaning.specs.Queries.{Run, converted_to, bound_params, find_function, program_of}
use Rattle.expr_meaning.specs.Queries.{body_env, body_value, called_function, calls_at}
use Rattle.expr_meaning.specs.Queries.{program_at, top_env}
use Rattle.expr_meaning.specs.Queries.{initialised, globals_from, query_outcome}
use Rattle.expr_laws.specs.Carrier.{Carrier, AreAlike, ProgramsAgree, IsMade}
use Rattle.expr_laws.specs.Depth.{CallsChangeNothing}
use Rattle.expr_laws.proofs.Anything.{any_list, any_made, any_name, any_places, any_value}
use Rattle.expr_laws.proofs.Anything.{in_one_place}
use Rattle.expr_laws.proofs.Steps.{any_step}
use Rattle.expr_laws.proofs.Whole.{whole_meets}

abbrev depth : Carrier
depth = in_one_place same_code (λ code. refl) deeper deeper_carries

places : AreAlike depth
places = any_places same_code (λ code. refl) deeper deeper_carries

made : IsMade depth
made = any_made same_code (λ code. refl) deeper deeper_carries

unchanged : (A : Type 0) (P : A → Type 0) (o : Outcome A) → OnEnds P o → deeper A P o o
unchanged = carried_same same_code (λ code. refl)

deep_first : {A : Type 0} (P : A → Type 0) (p : Outcome A) → deeper A P Deep p
deep_first P p = (tt, tt)

follows_on : {A : Type 0} (o p q : Outcome A) → Follows same_code o p → Follows same_code p q →
    Follows same_code o q
follows_on (Ends v k) p q h i = subst (λ x. Follows same_code x q) h i
follows_on (Fails code) (Ends v k) q h i = absurd h
follows_on (Fails code) (Fails d) q h i = subst (λ x. FailsLike same_code x q) (sym h) i
follows_on (Fails code) Deep q h i = absurd h
follows_on Deep p q h i = tt

module _ (run : Run) where
  abbrev CallsMeet : List Binding → ℕ → Type 0
  CallsMeet globals n =
      (name : ExprName) (args : List (List Item)) (k : ℕ) →
      deeper (List Item) (Every Anything) (calls_at run globals n name args k)
      (calls_at run globals (suc n) name args k)

  programs_agree : (globals : List Binding) (n : ℕ) → CallsMeet globals n →
      ProgramsAgree depth (program_at run globals n) (program_at run globals (suc n))
  programs_agree globals n h = record {
    meet = record {
      calls = λ name o args g k. h name args k;
      document = λ xs. refl;
      documents = λ xs. any_value _;
      variables = λ v e f s name o.
          ap (λ x. variable_value (program_at run globals n) x name) s;
      variable = λ v e f s name o. any_value _;
    };
    keys = λ name values root g k. unchanged (List Item) (Every Anything) (Ends [] k) tt;
    namespaces = refl;
    element_default = refl;
    element_names = λ xs g. any_name _;
    attribute_names = λ xs g. any_name _;
  }

  expr_deeper : (globals : List Binding) (n : ℕ) → CallsMeet globals n → (x : Expr) (e : Env)
      (k : ℕ) → deeper (List Item) (Every Anything) (outcome (program_at run globals n) x e k)
      (outcome (program_at run globals (suc n)) x e k)
  expr_deeper globals n h x e k =
      whole_meets depth places made (program_at run globals n) (program_at run globals (suc n))
      (programs_agree globals n h) x (λ s. absurd s) tt e e refl k

  body_deeper : (globals : List Binding) (n : ℕ) → CallsMeet globals n → (f : QueryFunction)
      (bound : List Binding) (k : ℕ) → deeper (List Item) (Every Anything)
      (body_value (program_at run globals n) f bound k)
      (body_value (program_at run globals (suc n)) f bound k)
  body_deeper globals n h f bound k =
      deeper_carries.next _ _ (Every Anything) (Every Anything) _ _ _ _
      (expr_deeper globals n h f.body (body_env bound) k)
      (λ xs j g. unchanged _ _ _ (any_list (step_outcome (converted_to f.kind xs) j)))

  none_left : (globals : List Binding) (o : Option QueryFunction)
      (body : QueryFunction → List Binding → ℕ → Outcome (List Item)) (args : List (List Item))
      (k : ℕ) → deeper (List Item) (Every Anything) (called_function o None args k)
      (called_function o (Some body) args k)
  none_left globals None body args k =
      unchanged (List Item) (Every Anything) (called_function None None args k) tt
  none_left globals (Some f) body args k =
      deeper_carries.next _ _ Anything (Every Anything) _ _ _ _
      (any_step depth (bound_params f.params args) k)
      (λ bound j u. deep_first (Every Anything) (body f bound j))

  some_left : (o : Option QueryFunction)
      (b d : QueryFunction → List Binding → ℕ → Outcome (List Item)) →
      ((f : QueryFunction) (bound : List Binding) (k : ℕ) →
      deeper (List Item) (Every Anything) (b f bound k) (d f bound k)) →
      (args : List (List Item)) (k : ℕ) → deeper (List Item) (Every Anything)
      (called_function o (Some b) args k) (called_function o (Some d) args k)
  some_left None b d h args k =
      unchanged (List Item) (Every Anything) (called_function None (Some b) args k) tt
  some_left (Some f) b d h args k =
      deeper_carries.next _ _ Anything (Every Anything) _ _ _ _
      (any_step depth (bound_params f.params args) k) (λ bound j u. h f bound j)

  calls_meet : (globals : List Binding) (n : ℕ) → CallsMeet globals n
  calls_meet globals zero name args k =
      none_left globals (find_function run.query.functions name (length args))
      (body_value (program_of run globals (calls_at run globals zero))) args k
  calls_meet globals (suc n) name args k =
      some_left (find_function run.query.functions name (length args))
      (body_value (program_of run globals (calls_at run globals n)))
      (body_value (program_of run globals (calls_at run globals (suc n))))
      (λ f bound j. body_deeper globals n (calls_meet globals n) f bound j) args k

  value_meets : (globals : List Binding) (n : ℕ) (document : Item) (v : QueryVar)
      (o : Option Expr) (k : ℕ) → deeper (List Item) (Every Anything)
      (initialised run (program_at run globals n) document v o k)
      (initialised run (program_at run globals (suc n)) document v o k)
  value_meets globals n document v None k =
      unchanged (List Item) (Every Anything)
      (initialised run (program_at run globals n) document v None k)
      (any_list (initialised run (program_at run globals n) document v None k))
  value_meets globals n document v (Some x) k =
      deeper_carries.next _ _ (Every Anything) (Every Anything) _ _ _ _
      (expr_deeper globals n (calls_meet globals n) x (top_env document) k)
      (λ xs j g. unchanged _ _ _ (any_list (step_outcome (typed v.kind xs) j)))

  globals_meet : (document : Item) (n : ℕ) (vs : List QueryVar) (globals : List Binding) (k : ℕ) →
      deeper (List Binding) Anything (globals_from run document n vs globals k)
      (globals_from run document (suc n) vs globals k)
  globals_meet document n [] globals k =
      unchanged (List Binding) Anything (Ends globals k) tt
  globals_meet document n (v ∷ vs) globals k =
      deeper_carries.next _ _ (Every Anything) Anything _ _ _ _
      (value_meets globals n document v v.value k)
      (λ xs j g. globals_meet document n vs ((v.name, xs) ∷ globals) j)

  one_more : (document : Item) (n k : ℕ) → deeper (List Item) (Every Anything)
      (query_outcome run document n k) (query_outcome run document (suc n) k)
  one_more document n k =
      deeper_carries.next _ _ Anything (Every Anything) _ _ _ _
      (globals_meet document n run.query.variables [] k)
      (λ globals j u. expr_deeper globals n (calls_meet globals n) run.query.body
      (top_env document) j)

  -- so many more calls
  abbrev raise : ℕ → ℕ → ℕ
  raise zero n = n
  raise (suc more) n = suc (raise more n)

  raised : (more n : ℕ) → raise more n ≡ more + n
  raised zero n = omega arith
  raised (suc more) n = let h = raised more n in omega arith

  many_more : (document : Item) (n more k : ℕ) → Follows same_code
      (query_outcome run document n k)
      (query_outcome run document (raise more n) k)
  many_more document n zero k =
      (unchanged _ Anything _ (nothing_known (query_outcome run document n k))).0
  many_more document n (suc more) k =
      follows_on (query_outcome run document n k) (query_outcome run document (raise more n) k)
      (query_outcome run document (suc (raise more n)) k) (many_more document n more k)
      (one_more document (raise more n) k).0

  pub more_calls : (document : Item) (n more : ℕ) → CallsChangeNothing run document n more
  more_calls document n more k =
      subst (λ m. Follows same_code (query_outcome run document n k)
      (query_outcome run document m k)) (raised more n) (many_more document n more k)
