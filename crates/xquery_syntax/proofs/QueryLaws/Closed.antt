-- A query that breaks no rule is closed.
use Rattle.std.proofs.Common.{◌≡◌, ℕ, List, [], ◌∷◌, ◌++◌, map, Bool, true, false, ◌&&◌, refl, sym}
use Rattle.std.proofs.Common.{ap, subst, ◌∙◌}
use Rattle.std.proofs.lemmas.Bool.{and_parts, and_from}
use Rattle.std.specs.List.{list_all}
use Rattle.xt_names.specs.Classes.{is_xml_text}
use Rattle.xt_syntax.specs.declared.queries.Query.{Query}
use Rattle.closed_queries.specs.Closed.{has_good_parts, is_closed}
use Rattle.expr_rules.specs.ExprMeant.Names.{written_in}
use Rattle.expr_keys.specs.declared.tokens.Token.{Token}
use Rattle.expr_resolve.specs.declared.setting.Setting.{Setting}
use Rattle.expr_resolve.specs.Folds.{broken_of, expr_meant}
use Rattle.expr_rules.specs.ExprShapes.Shapes.{is_shaped}
use Rattle.piece_laws.proofs.Splitting.{splits_sound}
use Rattle.xquery_syntax.specs.PrologLaws.Parts as laws
use Rattle.xquery_syntax.specs.PrologLaws.Parts.{Makes}
use Rattle.xquery_syntax.proofs.PrologLaws.PrologLemmas.{different_names, names_kept}
use Rattle.closed_queries.specs.PrologRules.Declarations.{query_broken}
use Rattle.closed_queries.specs.PrologRules.Setters.{nothing_seen, setters_broken}
use Rattle.closed_queries.specs.declared.prolog_rules.declarations.Declaration.{Declaration}
use Rattle.closed_queries.specs.declared.prolog_rules.declarations.Declaration.TheVariants as declaration
use Rattle.query_grammar.specs.Prolog.{SpellsQuery, ordered}
use Rattle.query_grammar.specs.declared.declared.Declared.{Declared}
use Rattle.query_grammar.specs.declared.declared.Declared.TheVariants as declared
use Rattle.query_grammar.specs.declared.declared.RawQuery.{RawQuery}
use Rattle.xquery_syntax.specs.QueryLaws.Shapes.{is_shaped_in, is_shaped_query}
use Rattle.query_options.specs.Options.{no_options}
use Rattle.query_pieces.specs.Points.{start}
use Rattle.query_resolve.specs.QueryPrologs.Setters.{setter_of, setters_of, version_broken, first_part_broken}
use Rattle.query_resolve.specs.Late.{all_broken}
use Rattle.query_resolve.specs.Queries.{variable_and, variables_in, function_and, functions_in}
use Rattle.query_resolve.specs.Queries.{setting_of, late_of, rest_broken, rules_broken, query_meant}
use Rattle.query_texts.specs.Texts.{SpellsText, spelled}
use Rattle.sound_expressions.specs.SoundForms.Sound.{is_sound_token, are_sound}
use Rattle.sound_expressions.proofs.SoundForms.NameLemmas.{word_written, name_is_text}
use Rattle.xquery_syntax.proofs.QueryLaws.Prefixes.{IsTexted, AreTexted, Known, known}
use Rattle.xquery_syntax.proofs.QueryLaws.Told.{Told, AllTold, IsBody, query_told}
use Rattle.xquery_syntax.proofs.QueryLaws.Declared.{GoodOnes, ones_good, body_good}
use Rattle.xquery_syntax.proofs.QueryLaws.Spaces.{options_sound}
use Rattle.xt_names.proofs.ListLemmas.{front_nil, back_nil}

-- setters
setter_texted : (d : Declared) → Told d → IsTexted (setter_of d)
unfolding setter_of
setter_texted (declared.Namespace p t) h = (name_is_text _ (word_written p h.0 h.1).local, h.2)
setter_texted (declared.ElementDefault t) h = h
setter_texted (declared.FunctionDefault t) h = h
setter_texted (declared.BoundarySpace preserve) h = tt
setter_texted _ h = tt

setters_texted : (ds : List Declared) → AllTold ds → AreTexted (setters_of ds)
setters_texted [] h = tt
setters_texted (d ∷ ds) h = (setter_texted d h.0, setters_texted ds h.1)

-- the variables and functions are those of the declarations
same_variables : (ds : List Declaration) → variables_in ds ≡ laws.variables_in ds
unfolding variable_and
same_variables [] = refl
same_variables (declaration.Variable v ∷ ds) = ap (λ vs. v ∷ vs) (same_variables ds)
same_variables (declaration.Function f ∷ ds) = same_variables ds

same_functions : (ds : List Declaration) → functions_in ds ≡ laws.functions_in ds
unfolding function_and
same_functions [] = refl
same_functions (declaration.Variable v ∷ ds) = same_functions ds
same_functions (declaration.Function f ∷ ds) = ap (λ fs. f ∷ fs) (same_functions ds)

makes : (raw : RawQuery) → Makes (late_of raw).declarations (query_meant raw)
makes raw = record {
  variables = same_variables (late_of raw).declarations;
  functions = same_functions (late_of raw).declarations;
}

-- what a query breaks, part by part
record Unbroken (raw : RawQuery) : Type 0 where
  setters : setters_broken nothing_seen (setters_of raw.declared) ≡ []
  late : all_broken (setting_of raw) no_options raw.declared ≡ []
  body : broken_of (setting_of raw) raw.body ≡ []
  names : query_broken (late_of raw).declarations (expr_meant (setting_of raw) raw.body) ≡ []

unbroken : (raw : RawQuery) → rules_broken raw ≡ [] → Unbroken raw
unbroken raw e =
    let s = setting_of raw in
    let late = all_broken s no_options raw.declared in
    let first = front_nil (first_part_broken raw.declared) (rest_broken s raw) e in
    let rest = back_nil (first_part_broken raw.declared) (rest_broken s raw) e in
    let written = front_nil (late ++ broken_of s raw.body)
    (query_broken (late_of raw).declarations (expr_meant s raw.body)) rest in
    record {
      setters = back_nil (version_broken raw.declared) _ first;
      late = front_nil late (broken_of s raw.body) written;
      body = back_nil late (broken_of s raw.body) written;
      names = back_nil (late ++ broken_of s raw.body) _ rest;
    }

parts_good : (raw : RawQuery) → Unbroken raw → AllTold raw.declared → IsBody raw.body
    → is_shaped_query raw ≡ true → has_good_parts (query_meant raw) ≡ true
unfolding has_good_parts
parts_good raw b t i h =
    let s = setting_of raw in
    let k = known nothing_seen (setters_of raw.declared) b.setters
    (setters_texted raw.declared t) in
    let shape = and_parts (list_all is_shaped_in raw.declared) (is_shaped raw.body) h in
    let g = ones_good s k.sound no_options raw.declared t b.late shape.0 in
    let body = body_good s k.sound raw.body i b.body shape.1 in
    let space = options_sound s no_options raw.declared k.sound.bound refl in
    rw (k.prefixes, k.element, g.variables, g.functions, body, space) refl

query_closed : (raw : RawQuery) → Unbroken raw → AllTold raw.declared → IsBody raw.body
    → is_shaped_query raw ≡ true → is_closed (query_meant raw) ≡ true
unfolding is_closed
query_closed raw b t i h =
    let p = parts_good raw b t i h in
    let d = different_names (late_of raw).declarations (query_meant raw) (makes raw) b.names in
    let k = names_kept (late_of raw).declarations (query_meant raw) (makes raw) b.names in
    rw (p, d, k) refl

tokens_closed : (ts : List Token) (raw : RawQuery) → are_sound ts ≡ true → SpellsQuery ts raw
    → is_shaped_query raw ≡ true → rules_broken raw ≡ [] → is_closed (query_meant raw) ≡ true
tokens_closed ts _ a (ordered {ds = ds} {v = v} o q) h e =
    let r = query_told q a in
    query_closed (record { declared = ds; body = v }) (unbroken _ e) r.0 r.1 h

pub text_closed : (text : List ℕ) (raw : RawQuery) → SpellsText text raw
    → is_shaped_query raw ≡ true → rules_broken raw ≡ [] → is_closed (query_meant raw) ≡ true
text_closed text raw (spelled {ts = ts} s q) h e =
    tokens_closed ts raw (splits_sound (start text) ts s) q h e
