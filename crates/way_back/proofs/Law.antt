-- What a query makes is what its stylesheet makes.
use Rattle.std.proofs.Common.{◌≡◌, ℕ, List, [], ◌∷◌, refl, sym, ap, ◌∙◌, subst}
use Rattle.std.specs.Prelude.{suc, Bool, true, false, Option, Some, None}
use Rattle.std.specs.Prelude.{if◌then◌else◌, nat_eq}
use Rattle.xt_names.specs.declared.codes.Code.{Code}
use Rattle.xt_names.specs.declared.codes.Code.TheVariants.{Dynamic}
use Rattle.xt_names.specs.declared.codes.DynamicCode.TheVariants.{XTLM0001}
use Rattle.xt_names.specs.declared.names.Binding.{Binding as Namespace}
use Rattle.xt_tree.specs.Forest.{Forest}
use Rattle.xt_tree.specs.declared.trees.Tree.{Tree}
use Rattle.xt_tree.specs.declared.trees.Tree.TheVariants as tree
use Rattle.xdm_items.specs.declared.items.Item.{Item}
use Rattle.xt_syntax.specs.declared.exprs.Expr.{Expr}
use Rattle.xt_syntax.specs.declared.exprs.Clause.TheOpen.{DocC}
use Rattle.xt_syntax.specs.declared.exprs.Clause.TheViews.{roll-Expr}
use Rattle.xt_syntax.specs.declared.queries.Query.{Query}
use Rattle.doc_set.specs.Sets.{DocumentSet, are_sound_documents}
use Rattle.node_builder.specs.Answers.{root_place as new_root}
use Rattle.node_builder.specs.Complex.{complex_content}
use Rattle.node_builder.specs.declared.kinds.Duplicates.TheVariants.{KeepLast, Refuse}
use Rattle.node_builder.specs.declared.kinds.Holder.TheVariants.{Document}
use Rattle.node_builder.specs.Made.{Made, Gives, Fails as Refuses, made_then}
use Rattle.node_builder.specs.Trees.{numbered, document_of}
use Rattle.expr_meaning.specs.Outcomes.Outcome.{Outcome, Ends, Fails, Deep, and_then, Every}
use Rattle.match_patterns.specs.Patterns.{steps_match, is_document_kind}
use Rattle.expr_meaning.specs.Env.{Binding, Env}
use Rattle.expr_meaning.specs.SortMeaning.Sorted.{Placed}
use Rattle.expr_meaning.specs.Making.{made, made_outcome}
use Rattle.expr_meaning.specs.Meaning.{outcome}
use Rattle.expr_meaning.specs.Queries.{Run, Given, program_at, query_outcome, top_env}
use Rattle.expr_meaning.specs.Queries.{globals_from as query_globals}
use Rattle.expr_laws.specs.Carrier.{AreGood}
use Rattle.query_helpers.specs.Last.{SameMade}
use Rattle.rule_order.specs.Rules.{best_of_all, best_rule, fits}
use Rattle.meaning_laws.proofs.SoundFunctions.Kept.{values_kept}
use Rattle.meaning_laws.specs.SoundRuns.Sound.{are_xml_values}
use Rattle.meaning_laws.specs.SoundValues.Sound.{IsSound}
use Rattle.transform_meaning.specs.Dispatch.{entered_at}
use Rattle.transform_meaning.specs.Instrs.{body_does}
use Rattle.transform_meaning.specs.Places.{alone, entry}
use Rattle.transform_meaning.specs.Sheets.{document_node, globals_from, result_tree, sheet_outcome, tree_outcome}
use Rattle.transform_meaning.specs.Templates.{Run as SheetRun, doors_at}
use Rattle.way_back.specs.Same.{same}
use Rattle.way_back.specs.Forms.{back_at, counted_at, is_back_at}
use Rattle.way_back.specs.Places.{IsSame}
use Rattle.way_back.specs.Sheets.{Alike, root_rule}
use Rattle.way_back.specs.Spelled.{names_are_spelled_at}
use Rattle.way_back.specs.Differ.{ContentsDiffer}
use Rattle.way_back.proofs.Bodies.{body_becomes}
use Rattle.way_back.proofs.Choices.{mean}
use Rattle.way_back.proofs.Depths.{query_run, sheet_run, programs_same, globals_same}
use Rattle.way_back.proofs.Making.{document_content}
use Rattle.way_back.proofs.Outcomes.{as_it_is}
use Rattle.way_back.specs.Sheets.{FunctionFits, IsBack, MakesTheSame}
use Rattle.way_back.proofs.Runs.{found_good}
use Rattle.way_back.proofs.Whole.{whole}

-- what goes on from the same is alike
alike_then : {A : Type 0} (P : A → Type 0) (o p : Outcome A) (f : A → ℕ → Outcome Tree)
    (g : A → ℕ → Outcome (List Item)) → same A P o p →
    ((v : A) (k : ℕ) → P v → Alike (f v k) (g v k)) → Alike (and_then o f) (and_then p g)
alike_then P (Ends v k) p f g r h =
    subst (λ q. Alike (f v k) (and_then q g)) (sym r.0) (h v k r.2)
alike_then P (Fails c) (Ends w j) f g r h = absurd r.0
alike_then P (Fails c) (Fails d) f g r h = tt
alike_then P (Fails c) Deep f g r h = absurd r.0
alike_then P Deep (Ends w j) f g r h = absurd (let e : Deep ≡ Ends w j = r.1 in cc)
alike_then P Deep (Fails d) f g r h = absurd r.1
alike_then P Deep Deep f g r h = tt

-- the result tree
one_tree : (k : ℕ) (t : Made Tree) → Alike (tree_outcome k t) (made_outcome k t)
one_tree k (Gives t) = (k, refl)
one_tree k (Refuses code) = tt

both_refused : (c d : Code) (k : ℕ) →
    Alike (tree_outcome k (numbered k (Refuses c))) (made (Refuses d) k)
unfolding numbered
both_refused c d k = by (nat_eq k 0xFFFF_FFFF_FFFF_FFFF)
  where
    by : (b : Bool) → Alike (tree_outcome k (if b then Refuses (Dynamic XTLM0001) else Refuses c))
        (made_outcome k (if b then Refuses (Dynamic XTLM0001) else Refuses d))
    by true = tt
    by false = tt

alike_content : {A : Type 0} (f : A → Made Tree) (a b : Made A) → SameMade a b → (k : ℕ) →
    Alike (tree_outcome k (numbered k (made_then a f))) (made (made_then b f) k)
alike_content f (Gives v) (Gives w) h k =
    subst (λ z. Alike (tree_outcome k (numbered k (f z))) (made (f w) k)) (sym h)
    (one_tree k (numbered k (f w)))
alike_content f (Gives v) (Refuses d) h k = absurd h
alike_content f (Refuses c) (Gives w) h k = absurd h
alike_content f (Refuses c) (Refuses d) h k = both_refused c d k

results_alike : (xs : List Item) (k : ℕ) → Alike (result_tree xs k) (made (document_of Refuse xs) k)
unfolding document_of
results_alike xs k =
    alike_content _ (complex_content KeepLast Document xs) (complex_content Refuse Document xs)
    (document_content xs) k

abbrev SoundFocus : Option (Placed Item) → Type 0
SoundFocus None = Unit {0}
SoundFocus (Some p) = IsSound p.value

focus_sound : (x p : Placed Item) → Some x ≡ Some p → IsSound x.value → IsSound p.value
focus_sound x p e h = subst SoundFocus e h

-- the one rule is the best for the document node
root_is_best : (kids : Forest) →
    best_of_all (root_rule ∷ []) 0 (new_root 0 (tree.Doc kids)) ≡ Some 1
unfolding best_rule fits steps_match is_document_kind
root_is_best kids = refl

module _ (levels : ℕ) (scope : List Namespace) (q : Query) (content : Expr) (kids : Forest)
    (documents : DocumentSet) (given : List Given) (sound : are_sound_documents documents ≡ true)
    (xml : are_xml_values given ≡ true)
    (functions : (globals : List Binding) (n : ℕ) → Every (FunctionFits levels scope
    (program_at (query_run levels scope q content (tree.Doc kids) documents given sound xml) globals n))
    q.functions)
    (form : is_back_at levels true false content ≡ true)
    (spelled : names_are_spelled_at scope levels content ≡ true)
    (differ : (globals : List Binding) (n : ℕ) → ContentsDiffer
    (program_at (query_run levels scope q content (tree.Doc kids) documents given sound xml) globals n)
    levels false content)
    (external : Every (λ v. v.value ≡ None) q.variables) where
  abbrev the_query : Run
  the_query = query_run levels scope q content (tree.Doc kids) documents given sound xml

  abbrev the_sheet : SheetRun
  the_sheet = sheet_run levels scope q content (tree.Doc kids) documents given sound xml

  abbrev the_document : Item
  the_document = document_node the_sheet

  abbrev started : Env
  started = entry (Some (alone the_document)) (Some 1) 0 []

  start_same : IsSound the_document → IsSame IsSound false started (top_env the_document)
  start_same h = record {
    locals = λ name own. refl;
    known = λ name. found_good IsSound [] name tt;
    focus = (refl, λ p e. focus_sound (alone the_document) p e h);
  }

  entered_is : (globals : List Binding) (n k : ℕ) →
      entered_at the_sheet.sheet.rules (doors_at the_sheet globals (suc n)) 0
      (record { ordinary = []; tunnel = [] }) (alone the_document) k
      ≡ body_does the_sheet.sheet (doors_at the_sheet globals n) (back_at scope levels content) started k
  entered_is globals n k =
      ap (λ rule. (doors_at the_sheet globals (suc n)).enter []
      (entry (Some (alone the_document)) rule 0 []) k) (root_is_best kids)
      ∙ as_it_is (body_does the_sheet.sheet (doors_at the_sheet globals n) (back_at scope levels content)
      started k)

  made_alike : IsSound the_document → (globals : List Binding) → AreGood IsSound globals → (n k : ℕ) →
      Alike (and_then (entered_at the_sheet.sheet.rules (doors_at the_sheet globals (suc n)) 0
      (record { ordinary = []; tunnel = [] }) (alone the_document) k) result_tree)
      (outcome (program_at the_query globals n) (roll-Expr (DocC (counted_at levels content)))
      (top_env the_document) k)
  made_alike h globals g n k =
      let p = program_at the_query globals n in
      let d = doors_at the_sheet globals n in
      subst (λ o. Alike (and_then o result_tree)
      (outcome p (roll-Expr (DocC (counted_at levels content))) (top_env the_document) k))
      (sym (entered_is globals n k))
      (subst (λ o. Alike (and_then (body_does the_sheet.sheet d (back_at scope levels content) started k)
      result_tree) o) (sym (mean p (DocC (counted_at levels content)) (top_env the_document) k))
      (alike_then (Every IsSound) (body_does the_sheet.sheet d (back_at scope levels content) started k)
      (outcome p (counted_at levels content) (top_env the_document) k) result_tree
      (λ xs. made (document_of Refuse xs))
      (body_becomes IsSound values_kept the_sheet.sheet d false (back_at scope levels content)
      (outcome p (counted_at levels content))
      (whole the_sheet.sheet d p (programs_same levels scope q content (tree.Doc kids) documents given sound
      xml functions globals g n) scope levels false content form spelled (differ globals n))
      started (top_env the_document) (start_same h) k)
      (λ xs j s. results_alike xs j)))

  -- with one call more than the query has
  pub alike : IsSound the_document → (n k : ℕ) →
      Alike (sheet_outcome the_sheet (suc n) k) (query_outcome the_query the_document n k)
  alike h n k =
      alike_then (AreGood IsSound) (globals_from the_sheet (suc n) the_sheet.sheet.globals [] k)
      (query_globals the_query the_document n q.variables [] k) _ _
      (globals_same levels scope q content (tree.Doc kids) documents given sound xml the_document (suc n) n
      q.variables external [] tt k)
      (λ globals j g. made_alike h globals g n j)

pub makes_the_same : (levels : ℕ) (scope : List Namespace) (q : Query) (content : Expr) (kids : Forest)
    (documents : DocumentSet) (given : List Given) →
    IsBack levels scope q content kids documents given →
    MakesTheSame levels scope q content kids documents given
makes_the_same levels scope q content kids documents given h n k =
    alike levels scope q content kids documents given h.others h.xml h.functions h.form h.spelled
    h.differ h.external h.sound n k
