-- What is at the top of a stylesheet, where it breaks no rule.
use Rattle.std.proofs.Common.{◌≡◌, ℕ, codes, ◌∷◌, List, [], Bool, true, false, cond, Option, Some}
use Rattle.std.proofs.Common.{None, refl}
use Rattle.xt_names.specs.Allowed.{is_empty_text}
use Rattle.xt_names.specs.declared.codes.SheetStaticCode.TheVariants.{XTSE0130}
use Rattle.xt_names.specs.declared.names.Name.{Name}
use Rattle.xt_tree.specs.declared.attributes.Attribute.{Attribute}
use Rattle.closed_parts.specs.SheetLanguage.Language.{sheet_reading as reading}
use Rattle.sheet_modules.specs.declared.modules.Part.TheVariants.{Ignored}
use Rattle.sheet_table.specs.declared.sheet_nodes.nodes.Node.{Node}
use Rattle.sheet_table.specs.declared.sheet_nodes.nodes.Node.TheViews.{out-Node}
use Rattle.sheet_table.specs.declared.sheet_nodes.nodes.Node.TheOpen.{Node-F, Elem, Chars}
use Rattle.sheet_parts.specs.Tops.{declaration_faults, declaration_value, xsl_faults, xsl_value}
use Rattle.sheet_parts.specs.Tops.{any_faults, any_value, layer_faults, layer_value, top_faults}
use Rattle.sheet_parts.specs.Tops.{top_value}
use Rattle.sheet_table.specs.Elements.{xsl_element}
use Rattle.sheet_table.specs.declared.elements.XslElement.{XslElement}
use Rattle.sheet_table.specs.declared.elements.XslElement.TheVariants as element
use Rattle.sheet_values.specs.SheetTexts.Places.{within}
use Rattle.sheet_values.specs.declared.sheet_texts.places.StaticContext.{StaticContext}
use Rattle.sheet_values.specs.Rules.{broken}
use Rattle.assembly_laws.specs.Laws.{declares}
use Rattle.closed_parts.specs.SoundNodes.Sound.{are_sound_nodes, is_sound_node}
use Rattle.closed_parts.proofs.ClosedBodies.Turns.{good_inner}
use Rattle.closed_parts.specs.Closed.{closed_part}
use Rattle.closed_parts.proofs.Parts.{TopPlace, template_closed, function_closed, key_closed}
use Rattle.closed_parts.proofs.Parts.{variable_closed, parameter_closed}
use Rattle.closed_parts.proofs.SoundNodes.Forms.{SoundForm, sound_form, sound_element}
use Rattle.std.proofs.lemmas.Bool.{and_parts, and_from}
use Rattle.std.specs.List.{list_all}
use Rattle.xt_types.specs.declared.node_tests.NameTest.{NameTest}
use Rattle.xt_types.specs.declared.node_tests.NameTest.TheVariants as name
use Rattle.closed_queries.specs.Texts.{is_sound_name_test}
use Rattle.sheet_closure.specs.Closed.{is_space_test}
use Rattle.sheet_heads.specs.Attributes.{needed_faults, needed_value}
use Rattle.sheet_parts.specs.Outputs.{space_rule, space_rules, empty_faults}
use Rattle.sheet_table.specs.Attributes.{attribute}
use Rattle.sheet_values.specs.Elements.{name_tests_faults, name_tests_value}
use Rattle.assembly_laws.specs.Laws.{declares_spaces}
use Rattle.closed_texts.specs.ClosedNames.Tests.{is_declared_test}
use Rattle.closed_texts.proofs.ClosedNames.Tests.{tests_so}
use Rattle.closed_parts.proofs.ClosedHeads.Values.{sound_place}
use Rattle.closed_parts.specs.Closed.{closed_space}
use Rattle.xt_names.specs.Names.{is_in_xslt}
use Rattle.xt_names.proofs.ListLemmas.{back_nil}

module _ (p : StaticContext) (t : TopPlace p) where
  declaration_closed : (e : XslElement) (attributes : List Attribute) (kids : List Node)
      → are_sound_nodes kids ≡ true → declaration_faults reading p e attributes kids ≡ []
      → declares closed_part (declaration_value reading p e attributes kids) ≡ true
  declaration_closed element.Template attributes kids h f = template_closed p t attributes kids h f
  declaration_closed element.Function attributes kids h f = function_closed p t attributes kids h f
  declaration_closed element.Variable attributes kids h f = variable_closed p t attributes kids h f
  declaration_closed element.Param attributes kids h f = parameter_closed p t attributes kids h f
  declaration_closed element.Key attributes kids h f = key_closed p t attributes kids f
  declaration_closed element.StripSpace attributes kids h f = refl
  declaration_closed element.PreserveSpace attributes kids h f = refl
  declaration_closed element.Output attributes kids h f = refl
  declaration_closed _ attributes kids h f = refl

  xsl_closed : (o : Option XslElement) (name : Name) (attributes : List Attribute)
      (kids : List Node) → are_sound_nodes kids ≡ true
      → xsl_faults reading p o name attributes kids ≡ []
      → declares closed_part (xsl_value reading p o attributes kids) ≡ true
  xsl_closed None name attributes kids h f = refl
  xsl_closed (Some e) name attributes kids h f = declaration_closed e attributes kids h f

  any_closed : (name : Name) (attributes : List Attribute) (kids : List Node)
      → are_sound_nodes kids ≡ true → any_faults reading p name attributes kids ≡ []
      → declares closed_part (any_value reading p name attributes kids) ≡ true
  any_closed name attributes kids h f = go (is_in_xslt name) f
    where
      go : (b : Bool) → cond b (xsl_faults reading p (xsl_element name) name attributes kids)
          (broken XTSE0130 (is_empty_text name.uri)) ≡ []
          → declares closed_part (cond b (xsl_value reading p (xsl_element name) attributes kids)
          Ignored) ≡ true
      go true f = xsl_closed (xsl_element name) name attributes kids h f
      go false f = refl

layer_closed : (p : StaticContext) → TopPlace p → (f : Node-F Node) → SoundForm f
    → layer_faults reading p f ≡ [] → declares closed_part (layer_value reading p f) ≡ true
layer_closed p t (Elem own name attributes kids) h e =
    let s = sound_element own name attributes kids h in
    let q : TopPlace (within p own) =
    record { good = good_inner p own t.good s.bound; outside = t.outside } in
    any_closed (within p own) q name attributes kids s.content e
layer_closed p t (Chars c) h e = absurd cc

pub top_closed : (p : StaticContext) → TopPlace p → (n : Node) → is_sound_node n ≡ true
    → top_faults reading p n ≡ [] → declares closed_part (top_value reading p n) ≡ true
top_closed p t n h e = layer_closed p t (out-Node n) (sound_form n h) e

-- rules on white space
test_asked : (n : NameTest) → is_declared_test n ≡ true → is_space_test n ≡ true
unfolding is_declared_test is_space_test
test_asked name.Any h = refl
test_asked (name.Uri uri) h = h
test_asked (name.Local local) h = refl
test_asked (name.Exact n) h = refl

tests_asked : (strip : Bool) (ns : List NameTest) → list_all is_declared_test ns ≡ true
    → list_all is_sound_name_test ns ≡ true
    → list_all closed_space (space_rules strip ns) ≡ true
tests_asked strip [] d s = refl
tests_asked strip (n ∷ ns) d s =
    let a = and_parts (is_declared_test n) (list_all is_declared_test ns) d in
    let b = and_parts (is_sound_name_test n) (list_all is_sound_name_test ns) s in
    and_from (closed_space (space_rule strip n)) _
    (and_from (is_sound_name_test n) _ b.0 (test_asked n a.0)) (tests_asked strip ns a.1 b.1)

module _ (p : StaticContext) (t : TopPlace p) where
  spaces_asked : (strip : Bool) (o : Option (List ℕ))
      → needed_faults (name_tests_faults p.bound) o ≡ []
      → list_all closed_space (space_rules strip (needed_value (name_tests_value p.bound) o)) ≡ true
  spaces_asked strip None f = absurd cc
  spaces_asked strip (Some text) f =
      let g = tests_so p.bound text (sound_place p t.good) f in
      tests_asked strip (name_tests_value p.bound text) g.declared g.sound

  declaration_spaces : (e : XslElement) (attributes : List Attribute) (kids : List Node)
      → declaration_faults reading p e attributes kids ≡ []
      → declares_spaces closed_space (declaration_value reading p e attributes kids) ≡ true
  declaration_spaces element.StripSpace attributes kids f =
      spaces_asked true (attribute attributes (codes "elements"))
      (back_nil (empty_faults element.StripSpace attributes kids) _ f)
  declaration_spaces element.PreserveSpace attributes kids f =
      spaces_asked false (attribute attributes (codes "elements"))
      (back_nil (empty_faults element.PreserveSpace attributes kids) _ f)
  declaration_spaces _ attributes kids f = refl

  xsl_spaces : (o : Option XslElement) (name : Name) (attributes : List Attribute)
      (kids : List Node) → xsl_faults reading p o name attributes kids ≡ []
      → declares_spaces closed_space (xsl_value reading p o attributes kids) ≡ true
  xsl_spaces None name attributes kids f = refl
  xsl_spaces (Some e) name attributes kids f = declaration_spaces e attributes kids f

  any_spaces : (name : Name) (attributes : List Attribute) (kids : List Node)
      → any_faults reading p name attributes kids ≡ []
      → declares_spaces closed_space (any_value reading p name attributes kids) ≡ true
  any_spaces name attributes kids f = go (is_in_xslt name) f
    where
      go : (b : Bool) → cond b (xsl_faults reading p (xsl_element name) name attributes kids)
          (broken XTSE0130 (is_empty_text name.uri)) ≡ []
          → declares_spaces closed_space (cond b (xsl_value reading p (xsl_element name) attributes
          kids) Ignored) ≡ true
      go true f = xsl_spaces (xsl_element name) name attributes kids f
      go false f = refl

layer_spaces : (p : StaticContext) → TopPlace p → (f : Node-F Node) → SoundForm f
    → layer_faults reading p f ≡ []
    → declares_spaces closed_space (layer_value reading p f) ≡ true
layer_spaces p t (Elem own name attributes kids) h e =
    let s = sound_element own name attributes kids h in
    let q : TopPlace (within p own) =
    record { good = good_inner p own t.good s.bound; outside = t.outside } in
    any_spaces (within p own) q name attributes kids e
layer_spaces p t (Chars c) h e = absurd cc

pub top_spaces : (p : StaticContext) → TopPlace p → (n : Node) → is_sound_node n ≡ true
    → top_faults reading p n ≡ [] → declares_spaces closed_space (top_value reading p n) ≡ true
top_spaces p t n h e = layer_spaces p t (out-Node n) (sound_form n h) e
