-- All that a query gives is sound.
use Rattle.std.proofs.Common.{◌≡◌, ℕ, zero, suc, List, [], ◌∷◌, length}
use Rattle.std.proofs.lemmas.Bool.{and_parts}
use Rattle.std.specs.Prelude.{Bool, true, false, ◌&&◌, Option, Some, None, Result, Ok, Err}
use Rattle.std.specs.Prelude.{if◌then◌else◌}
use Rattle.std.specs.List.{list_all}
use Rattle.std.specs.Str.{bytes_eq}
use Rattle.xt_names.specs.Allowed.{is_empty_text}
use Rattle.xt_names.specs.Classes.{is_xml_text}
use Rattle.xt_names.specs.declared.codes.Code.{Code}
use Rattle.xt_names.specs.declared.names.ExprName.{ExprName}
use Rattle.xt_types.specs.declared.types.SeqType.{SeqType}
use Rattle.xdm_items.specs.declared.items.Item.{Item}
use Rattle.xt_syntax.specs.declared.exprs.Expr.{Expr}
use Rattle.xt_syntax.specs.declared.queries.Query.{Query}
use Rattle.xt_syntax.specs.declared.queries.QueryFunction.{QueryFunction}
use Rattle.xt_syntax.specs.declared.queries.QueryParam.{QueryParam}
use Rattle.xt_syntax.specs.declared.queries.QueryVar.{QueryVar}
use Rattle.xt_forms.specs.Regular.{is_regular_expr}
use Rattle.closed_queries.specs.Closed.{has_good_parts, is_good_expr, is_good_function}
use Rattle.closed_queries.specs.Closed.{is_good_kind}
use Rattle.closed_queries.specs.Closed.{is_good_param, is_good_value, is_good_variable}
use Rattle.closed_queries.specs.ExprTexts.{has_sound_texts}
use Rattle.closed_queries.specs.Texts.{is_free_binding, is_free_uri, is_sound_expr_name}
use Rattle.closed_queries.specs.Texts.{is_sound_name_test}
use Rattle.expr_meaning.specs.Outcomes.Outcome.{step_outcome, OnEnds, Every}
use Rattle.expr_meaning.specs.Env.{Binding, Program}
use Rattle.expr_meaning.specs.Logic.{typed}
use Rattle.expr_meaning.specs.Meaning.{outcome}
use Rattle.expr_meaning.specs.Queries.{Given, Run, converted_to, bound_to, bound_params, is_called}
use Rattle.expr_meaning.specs.Queries.{find_function, body_env, body_value}
use Rattle.expr_meaning.specs.Queries.{called_function, calls_at, program_at, top_env, given_text}
use Rattle.expr_meaning.specs.Queries.{external_name, external_value, initialised, globals_from}
use Rattle.expr_meaning.specs.Queries.{query_outcome}
use Rattle.expr_laws.specs.Carrier.{AreGood, OnValue}
use Rattle.expr_laws.proofs.Logic.{typed_known}
use Rattle.expr_laws.proofs.Steps.{step_known}
use Rattle.meaning_laws.specs.SoundValues.Sound.{IsSound}
use Rattle.meaning_laws.proofs.SoundValues.Lists.{OnSome}
use Rattle.meaning_laws.proofs.SoundValues.Texts.{IsXml}
use Rattle.meaning_laws.proofs.SoundValues.Arguments.{AllSound, converted_known}
use Rattle.meaning_laws.specs.SoundRuns.Sound.{EndsSound, IsSoundEnv, IsSoundProgram, IsSoundRun}
use Rattle.meaning_laws.specs.SoundRuns.Sound.{are_xml_values}
use Rattle.meaning_laws.proofs.SoundRuns.Carried.{then_ends, expression_sound}

-- the parts of a query, each with allowed texts
abbrev HasTexts : Expr → Type 0
HasTexts x = has_sound_texts x ≡ true

abbrev FunctionHasTexts : QueryFunction → Type 0
FunctionHasTexts f = HasTexts f.body

abbrev VariableHasTexts : QueryVar → Type 0
VariableHasTexts v = OnSome HasTexts v.value

good_texts : (x : Expr) → is_good_expr x ≡ true → HasTexts x
unfolding is_good_expr
good_texts x h = (and_parts (is_regular_expr x) (has_sound_texts x) h).1

function_texts : (f : QueryFunction) → is_good_function f ≡ true → FunctionHasTexts f
unfolding is_good_function
function_texts f h =
    let params = list_all is_good_param f.params in
    let a = and_parts (is_sound_expr_name f.name)
    (params && (is_good_kind f.kind && is_good_expr f.body)) h in
    let b = and_parts params (is_good_kind f.kind && is_good_expr f.body) a.1 in
    good_texts f.body (and_parts (is_good_kind f.kind) (is_good_expr f.body) b.1).1

value_texts : (o : Option Expr) → is_good_value o ≡ true → OnSome HasTexts o
unfolding is_good_value
value_texts None h = tt
value_texts (Some x) h = good_texts x h

variable_texts : (v : QueryVar) → is_good_variable v ≡ true → VariableHasTexts v
unfolding is_good_variable
variable_texts v h =
    let a = and_parts (is_sound_expr_name v.name)
    (is_good_kind v.kind && is_good_value v.value) h in
    value_texts v.value (and_parts (is_good_kind v.kind) (is_good_value v.value) a.1).1

each : {A : Type 0} (P : A → Type 0) (test : A → Bool) → ((x : A) → test x ≡ true → P x) →
    (xs : List A) → list_all test xs ≡ true → Every P xs
each P test f [] h = tt
each P test f (x ∷ xs) h =
    let a = and_parts (test x) (list_all test xs) h in (f x a.0, each P test f xs a.1)

record QueryTexts (q : Query) : Type 0 where
  namespaces : list_all is_free_binding q.prefixes ≡ true
  element_default : is_free_uri q.element_default ≡ true
  variables : Every VariableHasTexts q.variables
  functions : Every FunctionHasTexts q.functions
  body : HasTexts q.body

query_texts : (q : Query) → has_good_parts q ≡ true → QueryTexts q
unfolding has_good_parts
query_texts q h =
    let variables = list_all is_good_variable q.variables in
    let functions = list_all is_good_function q.functions in
    let space = list_all (λ r. is_sound_name_test r.test) q.space in
    let last = is_good_expr q.body && space in
    let a = and_parts (list_all is_free_binding q.prefixes)
    (is_free_uri q.element_default && (variables && (functions && last))) h in
    let b = and_parts (is_free_uri q.element_default) (variables && (functions && last)) a.1 in
    let c = and_parts variables (functions && last) b.1 in
    let d = and_parts functions last c.1 in
    record {
      namespaces = a.0;
      element_default = b.0;
      variables = each VariableHasTexts is_good_variable variable_texts q.variables c.0;
      functions = each FunctionHasTexts is_good_function function_texts q.functions d.0;
      body = good_texts q.body (and_parts (is_good_expr q.body) space d.1).0;
    }

-- values of declared types
pub converted_sound : (kind : Option SeqType) (xs : List Item) → AllSound xs →
    OnValue AllSound (converted_to kind xs)
converted_sound None xs h = h
converted_sound (Some type) xs h = converted_known type xs h

pub put_bound : (p : QueryParam) (r : Result (List Item) Code) (q : Result (List Binding) Code) →
    OnValue AllSound r → OnValue (AreGood IsSound) q → OnValue (AreGood IsSound) (bound_to p r q)
put_bound p (Ok xs) (Ok bs) h g = (h, g)
put_bound p (Ok xs) (Err code) h g = tt
put_bound p (Err code) q h g = tt

pub params_sound : (ps : List QueryParam) (args : List (List Item)) → Every AllSound args →
    OnValue (AreGood IsSound) (bound_params ps args)
params_sound [] args h = tt
params_sound (p ∷ ps) [] h = tt
params_sound (p ∷ ps) (xs ∷ args) h =
    put_bound p (converted_to p.kind xs) (bound_params ps args) (converted_sound p.kind xs h.0)
    (params_sound ps args h.1)

body_env_sound : (bound : List Binding) → AreGood IsSound bound → IsSoundEnv (body_env bound)
body_env_sound bound h =
    record { locals = h; focus = tt; current = tt; members = tt; key = tt }

top_env_sound : (document : Item) → IsSound document → IsSoundEnv (top_env document)
top_env_sound document h =
    record { locals = tt; focus = h; current = tt; members = tt; key = tt }

found : (fs : List QueryFunction) (name : ExprName) (arity : ℕ) → Every FunctionHasTexts fs →
    OnSome FunctionHasTexts (find_function fs name arity)
found [] name arity h = tt
found (f ∷ fs) name arity h = by (is_called f name arity) (found fs name arity h.1)
  where
    by : (b : Bool) → OnSome FunctionHasTexts (find_function fs name arity) →
        OnSome FunctionHasTexts (if b then Some f else find_function fs name arity)
    by true g = h.0
    by false g = g

module _ (run : Run) (sound : IsSoundRun run) where
  texts : QueryTexts run.query
  texts = query_texts run.query sound.parts

  abbrev CallsSound : List Binding → ℕ → Type 0
  CallsSound globals n =
      (name : ExprName) (args : List (List Item)) → Every AllSound args → (k : ℕ) →
      EndsSound (calls_at run globals n name args k)

  program_sound : (globals : List Binding) → AreGood IsSound globals → (n : ℕ) →
      CallsSound globals n → IsSoundProgram (program_at run globals n)
  program_sound globals g n h = record {
    calls = h;
    keys = λ name values root r k. tt;
    documents = sound.documents;
    globals = g;
    namespaces = texts.namespaces;
    element_default = texts.element_default;
  }

  body_sound : (p : Program) → IsSoundProgram p → (f : QueryFunction) → FunctionHasTexts f →
      (bound : List Binding) → AreGood IsSound bound → (k : ℕ) →
      EndsSound (body_value p f bound k)
  body_sound p h f t bound g k =
      then_ends AllSound AllSound (outcome p f.body (body_env bound) k) _
      (expression_sound p h f.body t (body_env bound) (body_env_sound bound g) k)
      (λ xs j s. step_known AllSound (converted_to f.kind xs) (converted_sound f.kind xs s) j)

  none_left : (o : Option QueryFunction) (args : List (List Item)) → Every AllSound args →
      (k : ℕ) → EndsSound (called_function o None args k)
  none_left None args h k = tt
  none_left (Some f) args h k =
      then_ends (AreGood IsSound) AllSound (step_outcome (bound_params f.params args) k) _
      (step_known (AreGood IsSound) (bound_params f.params args) (params_sound f.params args h) k)
      (λ bound j s. tt)

  some_left : (p : Program) → IsSoundProgram p → (o : Option QueryFunction) →
      OnSome FunctionHasTexts o → (args : List (List Item)) → Every AllSound args → (k : ℕ) →
      EndsSound (called_function o (Some (body_value p)) args k)
  some_left p g None t args h k = tt
  some_left p g (Some f) t args h k =
      then_ends (AreGood IsSound) AllSound (step_outcome (bound_params f.params args) k) _
      (step_known (AreGood IsSound) (bound_params f.params args) (params_sound f.params args h) k)
      (λ bound j s. body_sound p g f t bound s j)

  calls_sound : (globals : List Binding) → AreGood IsSound globals → (n : ℕ) →
      CallsSound globals n
  calls_sound globals g zero name args h k =
      none_left (find_function run.query.functions name (length args)) args h k
  calls_sound globals g (suc n) name args h k =
      some_left (program_at run globals n)
      (program_sound globals g n (calls_sound globals g n))
      (find_function run.query.functions name (length args))
      (found run.query.functions name (length args) texts.functions) args h k

  in_program : (globals : List Binding) → AreGood IsSound globals → (n : ℕ) →
      IsSoundProgram (program_at run globals n)
  in_program globals g n = program_sound globals g n (calls_sound globals g n)

  text_given : (gs : List Given) (local : List ℕ) → are_xml_values gs ≡ true →
      OnSome IsXml (given_text gs local)
  text_given [] local h = tt
  text_given (x ∷ gs) local h =
      let a = and_parts (is_xml_text x.1) (are_xml_values gs) h in
      by (bytes_eq x.0 local) a.0 (text_given gs local a.1)
    where
      by : (b : Bool) → IsXml x.1 → OnSome IsXml (given_text gs local) →
          OnSome IsXml (if b then Some x.1 else given_text gs local)
      by true t g = t
      by false t g = g

  name_given : (name : ExprName) → OnSome IsXml (external_name run.given name)
  name_given name = by (is_empty_text name.uri) (text_given run.given name.local sound.given)
    where
      by : (b : Bool) → OnSome IsXml (given_text run.given name.local) →
          OnSome IsXml (if b then given_text run.given name.local else None)
      by true g = g
      by false g = tt

  external_sound : (kind : Option SeqType) (o : Option (List ℕ)) → OnSome IsXml o →
      OnValue AllSound (external_value kind o)
  external_sound kind None h = tt
  external_sound kind (Some t) h = converted_sound kind _ (h, tt)

  value_sound : (p : Program) → IsSoundProgram p → (document : Item) → IsSound document →
      (v : QueryVar) (o : Option Expr) → OnSome HasTexts o → (k : ℕ) →
      EndsSound (initialised run p document v o k)
  value_sound p h document d v None t k =
      step_known AllSound (external_value v.kind (external_name run.given v.name))
      (external_sound v.kind (external_name run.given v.name) (name_given v.name)) k
  value_sound p h document d v (Some x) t k =
      then_ends AllSound AllSound (outcome p x (top_env document) k) _
      (expression_sound p h x t (top_env document) (top_env_sound document d) k)
      (λ xs j s. step_known AllSound (typed v.kind xs) (typed_known IsSound v.kind xs s) j)

  globals_sound : (document : Item) → IsSound document → (n : ℕ) (vs : List QueryVar) →
      Every VariableHasTexts vs → (globals : List Binding) → AreGood IsSound globals → (k : ℕ) →
      OnEnds (AreGood IsSound) (globals_from run document n vs globals k)
  globals_sound document d n [] t globals g k = g
  globals_sound document d n (v ∷ vs) t globals g k =
      then_ends AllSound (AreGood IsSound)
      (initialised run (program_at run globals n) document v v.value k) _
      (value_sound (program_at run globals n) (in_program globals g n) document d v v.value t.0 k)
      (λ xs j s. globals_sound document d n vs t.1 ((v.name, xs) ∷ globals) (s, g) j)

  pub query_sound : (document : Item) → IsSound document → (n k : ℕ) →
      EndsSound (query_outcome run document n k)
  query_sound document d n k =
      then_ends (AreGood IsSound) AllSound (globals_from run document n run.query.variables [] k) _
      (globals_sound document d n run.query.variables texts.variables [] tt k)
      (λ globals j g. expression_sound (program_at run globals n) (in_program globals g n)
      run.query.body texts.body (top_env document) (top_env_sound document d) j)
