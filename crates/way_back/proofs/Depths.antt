-- A stylesheet and its query do the same, where the stylesheet has one more call left, which the rule
-- for `/` takes.
use Rattle.std.proofs.Common.{◌≡◌, ℕ, List, [], ◌∷◌, refl, ap, ◌∙◌, map, length}
use Rattle.std.proofs.lemmas.Bool.{and_parts}
use Rattle.std.specs.Prelude.{zero, suc, Bool, true, false, Option, Some, None}
use Rattle.std.specs.Prelude.{option_map, if◌then◌else◌}
use Rattle.std.specs.Str.{bytes_eq}
use Rattle.xt_names.specs.Allowed.{is_empty_text}
use Rattle.xt_names.specs.Classes.{is_xml_text}
use Rattle.xt_names.specs.declared.codes.Code.TheVariants.{SheetDynamic}
use Rattle.xt_names.specs.declared.codes.SheetDynamicCode.TheVariants.{XTDE0050}
use Rattle.xt_names.specs.declared.names.ExprName.{ExprName}
use Rattle.xt_names.specs.declared.names.Binding.{Binding as Namespace}
use Rattle.xt_types.specs.declared.types.SeqType.{SeqType}
use Rattle.xt_tree.specs.declared.trees.Tree.{Tree}
use Rattle.xdm_items.specs.declared.items.Item.{Item}
use Rattle.xt_syntax.specs.declared.exprs.Expr.{Expr}
use Rattle.xt_syntax.specs.declared.queries.Query.{Query}
use Rattle.xt_syntax.specs.declared.queries.QueryVar.{QueryVar}
use Rattle.doc_set.specs.Sets.{DocumentSet, are_sound_documents}
use Rattle.xdm_items.specs.FunctionArguments.Arguments.{optional_text_argument}
use Rattle.expr_meaning.specs.Outcomes.Outcome.{Every, step_outcome}
use Rattle.expr_meaning.specs.Calls.{document_value, named_document}
use Rattle.expr_meaning.specs.Env.{Binding, Env, Meaning, Program}
use Rattle.expr_meaning.specs.Queries.{Run, Given, program_at, external_name, external_value}
use Rattle.expr_meaning.specs.Queries.{given_text, converted_to}
use Rattle.expr_meaning.specs.Queries.{globals_from as query_globals}
use Rattle.expr_laws.specs.Carrier.{AreGood, OnValue}
use Rattle.expr_laws.proofs.Steps.{step_known}
use Rattle.meaning_laws.specs.SoundRuns.Sound.{are_xml_values}
use Rattle.meaning_laws.proofs.SoundRuns.Carried.{document_named}
use Rattle.meaning_laws.specs.SoundValues.Sound.{IsSound}
use Rattle.meaning_laws.proofs.SoundValues.Arguments.{AllSound, then_any}
use Rattle.transform_meaning.specs.Bindings.{given_or_default}
use Rattle.transform_meaning.specs.Dispatch.{Doors}
use Rattle.xt_sheets.specs.declared.instrs.Instr.TheOpen.{Required}
use Rattle.transform_meaning.specs.Instrs.{meanings as instr_meanings, steps as instr_steps, bound_does}
use Rattle.transform_meaning.specs.Sheets.{globals_from, untyped, document_node}
use Rattle.transform_meaning.specs.Templates.{Run as SheetRun, doors_at}
use Rattle.transform_meaning.specs.Places.{outset}
use Rattle.transform_laws.proofs.Rolled.{bound_rolled, value_rolled}
use Rattle.way_back.specs.Same.{same}
use Rattle.way_back.specs.Places.{ProgramsSame, OnSome}
use Rattle.way_back.specs.Sheets.{sheet_of_query, counted_query, required}
use Rattle.way_back.proofs.Making.{same_self}
use Rattle.way_back.specs.Sheets.{FunctionFits}
use Rattle.way_back.proofs.Runs.{found_good, found_fits, finds, counts, none_left, one_left}
use Rattle.way_back.proofs.Same.{same_carries}
use Rattle.meaning_laws.proofs.SoundRuns.Runs.{converted_sound}

abbrev IsXml : List ℕ → Type 0
IsXml t = is_xml_text t ≡ true

text_given : (gs : List Given) (local : List ℕ) → are_xml_values gs ≡ true →
    OnSome IsXml (given_text gs local)
text_given [] local h = tt
text_given (x ∷ gs) local h =
    let a = and_parts (is_xml_text x.1) (are_xml_values gs) h in
    by (bytes_eq x.0 local) a.0 (text_given gs local a.1)
  where
    by : (b : Bool) → IsXml x.1 → OnSome IsXml (given_text gs local) →
        OnSome IsXml (if b then Some x.1 else given_text gs local)
    by true h g = h
    by false h g = g

name_given : (gs : List Given) (name : ExprName) → are_xml_values gs ≡ true →
    OnSome IsXml (external_name gs name)
name_given gs name h = by (is_empty_text name.uri) (text_given gs name.local h)
  where
    by : (b : Bool) → OnSome IsXml (given_text gs name.local) →
        OnSome IsXml (if b then given_text gs name.local else None)
    by true g = g
    by false g = tt

-- a query with its stylesheet, what they are run on, and what is asked of both
module _ (levels : ℕ) (scope : List Namespace) (q : Query) (content : Expr) (document : Tree)
    (documents : DocumentSet) (given : List Given) (sound : are_sound_documents documents ≡ true)
    (xml : are_xml_values given ≡ true) where
  abbrev pub query_run : Run
  query_run = record { query = counted_query levels q content; documents = documents; given = given }

  abbrev pub sheet_run : SheetRun
  sheet_run = record {
    sheet = sheet_of_query levels scope q content;
    document = document;
    documents = documents;
    given = given;
  }

  module _ (functions : (globals : List Binding) (n : ℕ) →
      Every (FunctionFits levels scope (program_at query_run globals n)) q.functions) where
    documents_known : (p : Program) → p.documents ≡ documents → (xs : List Item) →
        OnValue AllSound (document_value p xs)
    documents_known p is xs =
        then_any AllSound (optional_text_argument xs) (named_document p)
        (λ o. document_named p o (ap are_sound_documents is ∙ sound))

    -- with as many calls left
    pub programs_same : (globals : List Binding) → AreGood IsSound globals → (n : ℕ) →
        ProgramsSame same IsSound (doors_at sheet_run globals n).program (program_at query_run globals n)
    programs_same globals g zero = record {
      calls = λ name args h k.
          rw (finds levels scope q.functions name (length args), counts levels scope q.functions name (length args))
          (none_left levels scope sheet_run.sheet _ args h k);
      documents = refl;
      documents_known = documents_known (doors_at sheet_run globals zero).program refl;
      globals = λ name own. refl;
      globals_known = λ name. found_good IsSound globals name g;
    }
    programs_same globals g (suc n) = record {
      calls = λ name args h k.
          rw (finds levels scope q.functions name (length args), counts levels scope q.functions name (length args))
          (one_left levels scope sheet_run.sheet (doors_at sheet_run globals n)
          (program_at query_run globals n) (programs_same globals g n) _
          (found_fits levels scope (program_at query_run globals n) q.functions name (length args)
          (functions globals n)) args h k);
      documents = refl;
      documents_known = documents_known (doors_at sheet_run globals (suc n)).program refl;
      globals = λ name own. refl;
      globals_known = λ name. found_good IsSound globals name g;
    }

  -- an external variable and a required parameter
  given_same : (v : QueryVar) (o : Option (List ℕ)) → OnSome IsXml o → (e : Env) (k : ℕ) →
      same (List Item) AllSound
      (given_or_default (SheetDynamic XTDE0050) (record {
        name = v.name;
        kind = v.kind;
        value = None;
        tunnel = false;
      }) (option_map untyped o) e k)
      (step_outcome (external_value v.kind o) k)
  given_same v None h e k = (tt, tt, tt)
  given_same v (Some t) h e k =
      same_self AllSound (step_outcome (converted_to v.kind (untyped t)) k)
      (step_known AllSound (converted_to v.kind (untyped t)) (converted_sound v.kind (untyped t) (h, tt)) k)

  required_is : (d : Doors) (v : QueryVar) → bound_does sheet_run.sheet d (required v).bound
      ≡ record { name = v.name; kind = v.kind; value = None; tunnel = false }
  required_is d v =
      bound_rolled instr_meanings (instr_steps sheet_run.sheet d) _
      ∙ ap (λ (f : Option SeqType → Option Meaning). record {
        name = v.name;
        kind = v.kind;
        value = f v.kind;
        tunnel = false;
      }) (value_rolled instr_meanings (instr_steps sheet_run.sheet d) Required)

  pub globals_same : (item : Item) (n m : ℕ) (vs : List QueryVar) → Every (λ v. v.value ≡ None) vs →
      (globals : List Binding) → AreGood IsSound globals → (k : ℕ) →
      same (List Binding) (AreGood IsSound) (globals_from sheet_run n (map required vs) globals k)
      (query_globals query_run item m vs globals k)
  globals_same item n m [] h globals g k = same_carries.ends (List Binding) (AreGood IsSound) globals k g
  globals_same item n m (v ∷ vs) h globals g k =
      rw (required_is (doors_at sheet_run globals n) v, h.0)
      (same_carries.next (List Item) (List Binding) AllSound (AreGood IsSound) _ _ _ _
      (given_same v (external_name given v.name) (name_given given v.name xml)
      (outset (document_node sheet_run)) k)
      (λ xs j s. globals_same item n m vs h.1 ((v.name, xs) ∷ globals) (s, g) j))
