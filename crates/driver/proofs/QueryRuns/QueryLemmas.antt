-- How the refusals of the parts make the refusals of a request for a query's run.
use Rattle.std.proofs.Common.{◌≡◌, ℕ, ◌+◌, List, [], ◌∷◌, length, map, inl, inr, refl, sym, ap, ◌∙◌}
use Rattle.std.proofs.Common.{None, Some, subst, chars}
use Rattle.std.specs.Str.{encode_utf8_all}
use Rattle.xt_io.specs.Files.{FilesState, KeepsFiles}
use Rattle.xt_tree.specs.declared.trees.Tree.{Tree}
use Rattle.xdm_items.specs.declared.items.Item.{Item}
use Rattle.xt_syntax.specs.declared.queries.Query.{Query as Parsed}
use Rattle.xquery_syntax.specs.Spelled.{Parsed as IsAnswer}
use Rattle.xt_syntax.specs.declared.prefixes.ParseFault.{ParseFault}
use Rattle.xt_syntax.specs.declared.prefixes.ParseFault.TheVariants.{Syntax, TooDeep}
use Rattle.xt_syntax.specs.declared.prefixes.ParseFault.TheVariants as parse_variants
use Rattle.std.specs.Prelude.{Err}
use Rattle.expr_meaning.specs.Outcomes.Outcome.{Outcome, Ends}
use Rattle.expr_meaning.specs.Queries.{Run, query_outcome}
use Rattle.xdm_items.specs.declared.items.Item.TheVariants.{Node as a_node}
use Rattle.doc_set.specs.Sets.{DocumentSet}
use Rattle.xquery_eval.specs.Runs.{given_of as given_texts}
use Rattle.xquery_eval.specs.declared.params.Param.{Param}
use Rattle.command_words.specs.Requests.{Inputs, given_of, inputs_in}
use Rattle.command_words.specs.declared.parameters.Parameter.{Parameter}
use Rattle.command_words.specs.declared.requests.Inputs.{Inputs as InputsOfCode}
use Rattle.xt_io.specs.Loads.{Holdings, HoldsBytes}
use Rattle.run_parts.specs.Inputs.{HoldsInputs, IsInputRefusedAs, IsUnloadedAs}
use Rattle.driver.specs.QueryRuns.Texts.{HoldsAllOfQuery, HoldsAllInputs, HasQueryText, HasTextOf}
use Rattle.driver.specs.QueryRuns.Texts.{IsNoQueryTextAs, IsNoTextOfAs}
use Rattle.driver.specs.QueryRuns.Queries.{IsNone, misspelt, breaks, too_deep, IsNoneAs, told_of}
use Rattle.driver.specs.QueryRuns.Queries.{IsQuery, IsNoQueryAs, HoldsQuery, IsQueryRefusedAs, Gives}
use Rattle.driver.specs.QueryRuns.Queries.{IsNotGivenAs, IsRunRefusedAs, IsUnwrittenAs, items_of, outcome_on}
use Rattle.driver.specs.QueryRuns.Queries.{param_of, set_of, written_for}
use Rattle.doc_set.specs.WhiteSpace.Stripped.{stripped}
use Rattle.run_parts.specs.declared.status.Status.{Status}
use Rattle.run_parts.specs.declared.status.Status.TheVariants.{Load, TooLong, Malformed, Static}
use Rattle.run_parts.specs.declared.status.Status.TheVariants.{Dynamic, Deep, Memory}
use Rattle.xt_io.proofs.LoadLemmas.{failed_later, long_later}

-- what the parser says of a text that is no query
pub none_told : (text : List ℕ) (fault : ParseFault) → IsAnswer (Err fault) 400 text
    → IsNoneAs text (told_of fault)
none_told text Syntax x = misspelt refl x
none_told text (parse_variants.Static code) x = breaks x
none_told text TooDeep x = too_deep refl x
none_told text (parse_variants.Memory e) x = tt

-- .. and so of the bytes
pub none_of_bytes : (bytes text : List ℕ) (status : Status) → text ≡ bytes
    → IsNoneAs (chars text) status → IsNoQueryAs bytes status
none_of_bytes bytes text (Static code) same x = inr (subst (λ t. IsNone (chars t) code) same x)
none_of_bytes bytes text Memory same x = tt
none_of_bytes bytes text _ same x = absurd x

-- the file of the query is not loaded
pub query_unloaded : (file : List ℕ) (old new : FilesState) (status : Status)
    → IsUnloadedAs file old new status → IsQueryRefusedAs file old new status
query_unloaded file old new (Load name) x = x
query_unloaded file old new (TooLong name n) x = x
query_unloaded file old new Memory x = x
query_unloaded file old new _ x = absurd x

-- the bytes of the file are no query
pub query_unread : (file : List ℕ) (old new : FilesState) (items bytes : List ℕ) (status : Status)
    → bytes ≡ items → HoldsBytes old.held file items → IsNoQueryAs bytes status
    → IsQueryRefusedAs file old new status
query_unread file old new items bytes (Static code) same held x =
    record { bytes = bytes; held = rw same held; none = x }
query_unread file old new items bytes Memory same held x = x
query_unread file old new items bytes _ same held x = absurd x

pub query_held : (files : Holdings) (file items bytes : List ℕ) (query : Parsed)
    → bytes ≡ items → HoldsBytes files file items → IsQuery bytes query
    → HoldsQuery files file query
query_held files file items bytes query same held x =
    record { bytes = bytes; held = rw same held; stands = x }

-- the query is refused
pub refused_first : (query : List ℕ) (inputs : Inputs) (old new : FilesState) (status : Status)
    → IsQueryRefusedAs query old new status → IsNoQueryTextAs query inputs old new status
refused_first query inputs old new (Load name) x = (inl x.0, rw x.0 x.1)
refused_first query inputs old new (TooLong name n) x = (inl x.0, rw x.0 x.1)
refused_first query inputs old new (Static code) x = x
refused_first query inputs old new Memory x = x
refused_first query inputs old new _ x = absurd x

-- the inputs are refused
pub inputs_refused : (q : Parsed) (inputs : Inputs) (old new : FilesState) (status : Status)
    → IsInputRefusedAs inputs old new status → IsNoTextOfAs q inputs old new status
inputs_refused q inputs old new (Load name) x = x
inputs_refused q inputs old new (TooLong name n) x = x
inputs_refused q inputs old new (Malformed name spot) x = x
inputs_refused q inputs old new Memory x = x
inputs_refused q inputs old new _ x = absurd x

-- the query gives no text on what the files hold
pub none_given : (q : Parsed) (inputs : Inputs) (d : Tree) (ds : List Tree) (old new : FilesState) (status : Status)
    → HoldsInputs old.held inputs d ds → IsNotGivenAs q inputs d ds status
    → IsNoTextOfAs q inputs old new status
none_given q inputs d ds old new (Dynamic code) docs x =
    (record { document_tree = d; further_trees = ds; inputs_held = docs }, x)
none_given q inputs d ds old new (Deep depth) docs x =
    (record { document_tree = d; further_trees = ds; inputs_held = docs }, x.0, x.1)
none_given q inputs d ds old new Memory docs x = x
none_given q inputs d ds old new _ docs x = absurd x

-- the text is what the query gives on what the files hold
pub text_of_inputs : (files : Holdings) (q : Parsed) (inputs : Inputs) (d : Tree) (ds : List Tree) (text : List ℕ)
    → HoldsInputs files inputs d ds → Gives q inputs d ds text → HasTextOf files q inputs text
text_of_inputs files q inputs d ds text docs x = record {
  held = record { document_tree = d; further_trees = ds; inputs_held = docs };
  gives = x;
}

-- the query and its inputs
abbrev pub all_held : (query : List ℕ) (inputs : Inputs) (q : Parsed) (files : Holdings)
    → HoldsQuery files query q → HoldsAllInputs files inputs → HoldsAllOfQuery files query inputs
all_held query inputs q files held x = record {
  parsed = q;
  document_tree = x.document_tree;
  further_trees = x.further_trees;
  query_held = held;
  inputs_held = x.inputs_held;
}

abbrev pub later : (inputs : Inputs) (old mid : FilesState) → KeepsFiles old mid
    → HoldsAllInputs mid.held inputs → HoldsAllInputs old.held inputs
later inputs old mid keeps x = record {
  document_tree = x.document_tree;
  further_trees = x.further_trees;
  inputs_held = rw keeps.held at x.inputs_held;
}

-- there is no text of a query that is held
pub refused_second : (query : List ℕ) (inputs : Inputs) (q : Parsed) (old mid new : FilesState) (status : Status)
    → HoldsQuery old.held query q → KeepsFiles old mid → IsNoTextOfAs q inputs mid new status
    → IsNoQueryTextAs query inputs old new status
refused_second query inputs q old mid new (Load name) held keeps x = (
  inr (record { query = q; held = held }, rw keeps.held at x.0),
  failed_later old mid new (encode_utf8_all name) keeps x.1,
)
refused_second query inputs q old mid new (TooLong name n) held keeps x = (
  inr (record { query = q; held = held }, rw keeps.held at x.0),
  long_later old mid new (encode_utf8_all name) n keeps x.1,
)
refused_second query inputs q old mid new (Malformed name spot) held keeps x =
    (record { query = q; held = held }, rw keeps.held at x)
refused_second query inputs q old mid new (Dynamic code) held keeps x =
    (all_held query inputs q old.held held (later inputs old mid keeps x.0), x.1)
refused_second query inputs q old mid new (Deep depth) held keeps x =
    (all_held query inputs q old.held held (later inputs old mid keeps x.0), x.1, x.2)
refused_second query inputs q old mid new Memory held keeps x = x
refused_second query inputs q old mid new _ held keeps x = absurd x

-- the text is that of the request
pub text_given : (query : List ℕ) (inputs : Inputs) (q : Parsed) (text : List ℕ) (old mid : FilesState)
    → HoldsQuery old.held query q → KeepsFiles old mid → HasTextOf mid.held q inputs text
    → HasQueryText old.held query inputs text
text_given query inputs q text old mid held keeps x = record {
  held = all_held query inputs q old.held held (later inputs old mid keeps x.held);
  gives = x.gives;
}

-- the parameters are given as they are
names_kept : (ps : List Parameter) → given_texts (map param_of ps) ≡ map given_of ps
names_kept [] = refl
names_kept (p ∷ ps) = ap (λ gs. (p.name, p.value) ∷ gs) (names_kept ps)

-- the same run, whatever it is made of
same_query : (a b : Run) (x : Item) (n k : ℕ) → a ≡ b →
    query_outcome a x n k ≡ query_outcome b x n k
same_query a b x n k e = λ i. query_outcome (e i) x n k

-- what the evaluator is asked for
pub run_on : (query : Parsed) (document : Tree) (set : DocumentSet) (i : InputsOfCode) (given : List Param)
    → given ≡ map param_of i.parameters
    → query_outcome (record { query = query; documents = set; given = given_texts given }) (a_node (record { number = 0; tree = document; path = []; attribute = None })) i.depth (length set + 1) ≡ outcome_on query document set (inputs_in i)
unfolding outcome_on
run_on query document set i given e =
    let same : given_texts given ≡ map given_of i.parameters =
    ap given_texts e ∙ names_kept i.parameters in
    let asked : Run = record { query = query; documents = set; given = given_texts given } in
    let told : Run = record { query = query; documents = set; given = map given_of i.parameters } in
    let runs : asked ≡ told = λ j. record { query = query; documents = set; given = same j } in
    same_query asked told (a_node (record { number = 0; tree = document; path = []; attribute = None })) i.depth (length set + 1) runs

-- what is asked for is the run on the stripped documents
pub same_run : (q : Parsed) (inputs : Inputs) (d : Tree) (ds : List Tree) (document : Tree) (set : DocumentSet)
    → document ≡ stripped q.space d → set ≡ set_of q.space inputs.documents ds
    → outcome_on q document set inputs ≡ items_of q inputs d ds
same_run q inputs d ds document set e f =
    ap (λ (t : Tree). outcome_on q t set inputs) e
    ∙ ap (λ (s : DocumentSet). outcome_on q (stripped q.space d) s inputs) f

-- the run gives no items
pub run_refused : (q : Parsed) (inputs : Inputs) (d : Tree) (ds : List Tree) (o : Outcome (List Item)) (status : Status)
    → o ≡ items_of q inputs d ds → IsRunRefusedAs o inputs.depth status
    → IsNotGivenAs q inputs d ds status
run_refused q inputs d ds o (Dynamic code) same x = inl (sym same ∙ x)
run_refused q inputs d ds o (Deep depth) same x = (x.0, sym same ∙ x.1)
run_refused q inputs d ds o Memory same x = x
run_refused q inputs d ds o _ same x = absurd x

-- the items have no text
pub items_unwritten : (q : Parsed) (inputs : Inputs) (d : Tree) (ds : List Tree) (o : Outcome (List Item)) (items : List Item) (next : ℕ) (status : Status)
    → o ≡ items_of q inputs d ds → o ≡ Ends items next
    → IsUnwrittenAs (written_for q.omit items) status → IsNotGivenAs q inputs d ds status
items_unwritten q inputs d ds o items next (Dynamic code) same ends x =
    inr (x.0, record { items = items; next = next; ends = sym same ∙ ends; unwritten = x.1 })
items_unwritten q inputs d ds o items next Memory same ends x = x
items_unwritten q inputs d ds o items next _ same ends x = absurd x

-- the text of the items
pub items_written : (q : Parsed) (inputs : Inputs) (d : Tree) (ds : List Tree) (o : Outcome (List Item)) (items : List Item) (next : ℕ) (text : List ℕ)
    → o ≡ items_of q inputs d ds → o ≡ Ends items next → written_for q.omit items ≡ Some text
    → Gives q inputs d ds text
items_written q inputs d ds o items next text same ends written =
    record { items = items; next = next; ends = sym same ∙ ends; written = written }
