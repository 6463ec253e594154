-- The stylesheet of a query, and the query whose loops are counted.
use Rattle.std.specs.Prelude.{◌≡◌, ℕ, suc, List, [], ◌∷◌, map, true, false, None, negsuc}
use Rattle.xt_names.specs.declared.names.Binding.{Binding as Namespace}
use Rattle.xt_tree.specs.declared.trees.Tree.{Tree}
use Rattle.xt_syntax.specs.declared.exprs.Expr.{Expr}
use Rattle.xt_syntax.specs.declared.exprs.Clause.TheOpen.{DocC}
use Rattle.xt_syntax.specs.declared.exprs.Clause.TheViews.{roll-Expr}
use Rattle.xt_syntax.specs.declared.patterns.Pattern.{Pattern}
use Rattle.xt_syntax.specs.declared.queries.Query.{Query}
use Rattle.xt_syntax.specs.declared.queries.QueryFunction.{QueryFunction}
use Rattle.xt_syntax.specs.declared.queries.QueryParam.{QueryParam}
use Rattle.xt_syntax.specs.declared.queries.QueryVar.{QueryVar}
use Rattle.xt_sheets.specs.declared.instrs.Bound.{Bound}
use Rattle.xt_sheets.specs.declared.instrs.Instr.TheOpen.{Required}
use Rattle.xt_sheets.specs.declared.instrs.Instr.TheViews.{roll-Bound, roll-Value}
use Rattle.xt_sheets.specs.declared.sheets.Global.{Global}
use Rattle.xt_sheets.specs.declared.sheets.Rule.{Rule}
use Rattle.xt_sheets.specs.declared.sheets.Sheet.{Sheet}
use Rattle.xt_sheets.specs.declared.sheets.SheetFunction.{SheetFunction}
use Rattle.xt_sheets.specs.declared.sheets.Template.{Template}
use Rattle.xdm_items.specs.declared.items.Item.{Item}
use Rattle.xdm_items.specs.declared.items.Item.TheVariants.{Node}
use Rattle.node_builder.specs.Answers.{root_place as new_root}
use Rattle.expr_meaning.specs.Outcomes.Outcome.{Outcome, Ends, Fails, Deep, Every}
use Rattle.expr_meaning.specs.Queries.{Run, Given, program_at, query_outcome}
use Rattle.expr_meaning.specs.Env.{Binding, Program}
use Rattle.doc_set.specs.Sets.{DocumentSet, are_sound_documents}
use Rattle.meaning_laws.specs.SoundRuns.Sound.{are_xml_values}
use Rattle.meaning_laws.specs.SoundValues.Sound.{IsSound}
use Rattle.transform_meaning.specs.Sheets.{sheet_outcome}
use Rattle.xt_tree.specs.Forest.{Forest}
use Rattle.xt_tree.specs.declared.trees.Tree.TheVariants as tree
use Rattle.transform_meaning.specs.Templates.{Run as SheetRun}
use Rattle.way_back.specs.Forms.{back_at, counted_at, is_back_at}
use Rattle.way_back.specs.Spelled.{names_are_spelled_at}
use Rattle.way_back.specs.Differ.{ContentsDiffer}

-- a required parameter
abbrev pub required : QueryVar → Global
required v = record {
  bound = roll-Bound Expr Pattern (record {
    name = v.name;
    kind = v.kind;
    value = roll-Value Expr Pattern Required;
    tunnel = false;
  });
  param = true;
}

abbrev pub param_of : QueryParam → Bound Expr Pattern
param_of p = roll-Bound Expr Pattern (record {
  name = p.name;
  kind = p.kind;
  value = roll-Value Expr Pattern Required;
  tunnel = false;
})

-- `/`
abbrev pub root_rule : Rule
root_rule = record {
  template = 0;
  pattern = record { rooted = true; steps = [] };
  modes = 0 ∷ [];
  precedence = 1;
  priority = negsuc 499;
}

module _ (levels : ℕ) (scope : List Namespace) where
  abbrev pub function_of : QueryFunction → SheetFunction
  function_of f = record {
    name = f.name;
    params = map param_of f.params;
    kind = f.kind;
    body = back_at scope levels f.body;
  }

  abbrev pub template_of : Expr → Template
  template_of content = record {
    name = None;
    params = [];
    kind = None;
    body = back_at scope levels content;
    has_match = true;
  }

  -- the stylesheet of a query whose body is a document of this content, where these namespaces are in
  -- scope and so many levels are looked at
  abbrev pub sheet_of_query : Query → Expr → Sheet
  sheet_of_query q content = record {
    levels = record { first = 1 } ∷ [];
    globals = map required q.variables;
    templates = template_of content ∷ [];
    rules = root_rule ∷ [];
    functions = map function_of q.functions;
    keys = [];
    modes = record { uri = []; local = [] } ∷ [];
    space = [];
    omit = false;
  }

abbrev pub counted_function : ℕ → QueryFunction → QueryFunction
counted_function levels f = record {
  name = f.name;
  params = f.params;
  kind = f.kind;
  body = counted_at levels f.body;
}

abbrev pub counted_query : ℕ → Query → Expr → Query
counted_query levels q content = record {
  prefixes = q.prefixes;
  element_default = q.element_default;
  variables = q.variables;
  functions = map (counted_function levels) q.functions;
  body = roll-Expr (DocC (counted_at levels content));
  space = q.space;
  omit = q.omit;
}

-- the tree with a document node that is one, or an error on both sides, or a call is lacked on both
abbrev pub Alike : Outcome Tree → Outcome (List Item) → Type 0
Alike (Ends t i) (Ends xs j) = (k : ℕ) × (xs ≡ Node (new_root k t) ∷ [])
Alike (Ends t i) (Fails d) = ⊥
Alike (Ends t i) Deep = ⊥
Alike (Fails c) (Ends xs j) = ⊥
Alike (Fails c) (Fails d) = Unit {0}
Alike (Fails c) Deep = ⊥
Alike Deep (Ends xs j) = ⊥
Alike Deep (Fails d) = ⊥
Alike Deep Deep = Unit {0}

-- the query and the stylesheet on one document
abbrev pub query_run : ℕ → Query → Expr → DocumentSet → List Given → Run
query_run levels q content documents given =
    record { query = counted_query levels q content; documents = documents; given = given }

abbrev pub sheet_run : ℕ → List Namespace → Query → Expr → Tree → DocumentSet → List Given → SheetRun
sheet_run levels scope q content document documents given = record {
  sheet = sheet_of_query levels scope q content;
  document = document;
  documents = documents;
  given = given;
}

-- what is asked of the body of a function
abbrev pub FunctionFits : ℕ → List Namespace → Program → QueryFunction → Type 0
FunctionFits levels scope p f =
    (is_back_at levels true false f.body ≡ true) × (names_are_spelled_at scope levels f.body ≡ true)
    × ContentsDiffer p levels false f.body

-- what is asked of a query of this content, and of what it is run on
pub record IsBack (levels : ℕ) (scope : List Namespace) (q : Query) (content : Expr) (kids : Forest)
    (documents : DocumentSet) (given : List Given) : Type 0 where
  pub form : is_back_at levels true false content ≡ true
  pub spelled : names_are_spelled_at scope levels content ≡ true
  pub external : Every (λ v. v.value ≡ None) q.variables
  pub differ : (globals : List Binding) (n : ℕ) →
      ContentsDiffer (program_at (query_run levels q content documents given) globals n) levels false content
  pub functions : (globals : List Binding) (n : ℕ) → Every (FunctionFits levels scope
      (program_at (query_run levels q content documents given) globals n)) q.functions
  pub sound : IsSound (Node (new_root 0 (tree.Doc kids)))
  pub others : are_sound_documents documents ≡ true
  pub xml : are_xml_values given ≡ true

-- with one more call the stylesheet does what the query does, whatever the next number of a tree
abbrev pub MakesTheSame : ℕ → List Namespace → Query → Expr → Forest → DocumentSet → List Given → Type 0
MakesTheSame levels scope q content kids documents given =
    (n k : ℕ) → Alike
    (sheet_outcome (sheet_run levels scope q content (tree.Doc kids) documents given) (suc n) k)
    (query_outcome (query_run levels q content documents given) (Node (new_root 0 (tree.Doc kids))) n k)
