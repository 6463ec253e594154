-- Sequence constructors that break no rule, given what is known of content one level below.
use Rattle.std.proofs.Common.{◌≡◌, ℕ, zero, suc, ◌≤◌, List, [], ◌∷◌, ◌++◌, map, Bool, true, false}
use Rattle.std.proofs.Common.{cond, not, Option, Some, None, refl, ap, subst, ◌∙◌, arith, codes}
use Rattle.std.proofs.lemmas.Bool.{and_parts, and_from}
use Rattle.std.specs.List.{list_all}
use Rattle.xt_names.specs.declared.codes.Code.{Code}
use Rattle.xt_names.specs.declared.codes.Code.TheVariants.{SheetStatic}
use Rattle.xt_names.specs.declared.codes.SheetStaticCode.TheVariants.{XTSE0010}
use Rattle.xt_names.specs.declared.names.Name.{Name}
use Rattle.xt_forms.specs.Regular.{every}
use Rattle.xt_syntax.specs.declared.exprs.Expr.{Expr}
use Rattle.xt_syntax.specs.declared.patterns.Pattern.{Pattern}
use Rattle.xt_tree.specs.Sound.{is_sound_name as is_tree_name}
use Rattle.xt_tree.specs.declared.attributes.Attribute.{Attribute}
use Rattle.xt_sheets.specs.declared.instrs.Instr.TheOpen as form
use Rattle.xt_sheets.specs.declared.instrs.Instr.TheVariants as instr
use Rattle.xt_sheets.specs.declared.instrs.Instr.TheVariants.{rolls-Chars, rolls-Choose}
use Rattle.xt_sheets.specs.declared.instrs.Instr.TheVariants.{rolls-Variable}
use Rattle.xt_sheets.specs.declared.instrs.When.{When}
use Rattle.closed_sheets.specs.Instrs.{is_good_when}
use Rattle.closed_sheets.specs.Values.{is_good_binding}
use Rattle.name_rules.specs.Scopes.{names_differ}
use Rattle.sheet_bodies.specs.Bodies.{is_none, front, rest, inner, is_otherwise, bodied_faults}
use Rattle.sheet_bodies.specs.Bodies.{bodied_value, element_faults, element_value, when_faults}
use Rattle.sheet_bodies.specs.Bodies.{when_value, when_layer_faults, when_layer_value, whens_faults}
use Rattle.sheet_bodies.specs.Bodies.{whens_value, other_faults, other_layer_faults}
use Rattle.sheet_bodies.specs.Bodies.{other_layer_value, others_faults, others_value, choose_faults}
use Rattle.sheet_bodies.specs.Bodies.{choose_value, bind_faults, bind_value, passed_layer_faults}
use Rattle.sheet_bodies.specs.Bodies.{passed_layer_value, passed_faults, passed_value, call_faults}
use Rattle.sheet_bodies.specs.Bodies.{call_value, form_faults, form_value, xsl_faults, xsl_value}
use Rattle.sheet_bodies.specs.Bodies.{any_faults, any_value, layer_faults, layer_value, node_faults}
use Rattle.sheet_bodies.specs.Bodies.{node_value, walk_faults, walk_value, body_faults, body_value}
use Rattle.closed_sheets.specs.SheetForms.InstrNest.{when_nest_of}
use Rattle.sheet_heads.specs.Attributes.{needed_faults, needed_value}
use Rattle.sheet_heads.specs.Bindings.{is_required, bound_faults, bound_value}
use Rattle.sheet_heads.specs.Bodied.{own_value, head_faults}
use Rattle.sheet_heads.specs.Calls as call
use Rattle.sheet_heads.specs.Forms.{form_of}
use Rattle.sheet_heads.specs.Literals.{literal_faults, literal_value}
use Rattle.sheet_heads.specs.Repeats.{bound_name}
use Rattle.closed_parts.specs.SheetLanguage.Language.{sheet_reading as reading, expr_faults, expr_value}
use Rattle.sheet_table.specs.SheetNodes.Parts.{is_lead, is_variable, is_variable_element, is_with_param}
use Rattle.sheet_table.specs.SheetNodes.Parts.{none_faults, misplaced_node, xsl_of, xsl_in}
use Rattle.sheet_table.specs.declared.sheet_nodes.nodes.Node.{Node}
use Rattle.sheet_table.specs.declared.sheet_nodes.nodes.Node.TheViews.{out-Node}
use Rattle.sheet_table.specs.declared.sheet_nodes.nodes.Node.TheOpen.{Node-F, Elem, Chars}
use Rattle.sheet_table.specs.Attributes.{attribute}
use Rattle.sheet_table.specs.Contents.{content_of}
use Rattle.sheet_table.specs.Elements.{xsl_element, element_named}
use Rattle.sheet_table.specs.Rules.{attribute_faults}
use Rattle.sheet_table.specs.declared.elements.XslElement.{XslElement}
use Rattle.sheet_table.specs.declared.elements.XslElement.TheVariants as element
use Rattle.sheet_values.specs.SheetTexts.Places.{within}
use Rattle.sheet_values.specs.declared.sheet_texts.places.StaticContext.{StaticContext}
use Rattle.sheet_values.specs.Rules.{broken}
use Rattle.sheet_closure.specs.StandingParts.Bodies.{when_stands, all_stand}
use Rattle.closed_parts.specs.SoundNodes.Sound.{are_sound_nodes, are_sound_attributes, is_sound_node}
use Rattle.closed_parts.proofs.ClosedHeads.Values.{GoodPlace, needed_expr}
use Rattle.closed_parts.proofs.ClosedHeads.Heads.{head_closed, literal_closed}
use Rattle.closed_parts.proofs.ClosedHeads.Bounds as heads
use Rattle.closed_parts.proofs.ClosedHeads.Bounds.{call_closed}
use Rattle.closed_parts.proofs.ClosedBodies.Forms.{Instrs, ClosedInstr, rolled}
use Rattle.closed_parts.proofs.ClosedBodies.Heads.{ClosedBody, with_closed}
use Rattle.closed_parts.proofs.ClosedBodies.Bounds.{ClosedBoundOf, bound_closed, ClosedWhen, when_closed}
use Rattle.closed_parts.proofs.ClosedBodies.Bounds.{same_names}
use Rattle.closed_parts.proofs.ClosedBodies.Required.{variable_given, passed_given}
use Rattle.closed_parts.proofs.ClosedBodies.Passed.{ClosedPassed, ClosedOne, given, and_passed}
use Rattle.closed_parts.proofs.ClosedBodies.Passed.{with_passed_made, differ, text_made, copy_of_made}
use Rattle.closed_parts.proofs.ClosedBodies.Passed.{sequence_made}
use Rattle.closed_parts.proofs.ClosedBodies.Turns.{leading_sound, behind_sound, good_inner, inner_good}
use Rattle.closed_parts.proofs.ClosedBodies.Turns.{same_inside, no_value, no_instrs, and_instr}
use Rattle.closed_parts.proofs.SoundNodes.Forms.{SoundForm, sound_form, sound_element}
use Rattle.xt_names.specs.Lists.{greatest}
use Rattle.xt_names.specs.Names.{is_in_xslt}
use Rattle.xt_names.proofs.ListLemmas.{front_nil, back_nil}

-- what is known of content of so many levels
abbrev pub Below : ℕ → Type 0
Below room = (p : StaticContext) → GoodPlace p → (nodes : List Node) → are_sound_nodes nodes ≡ true
    → body_faults reading room p nodes ≡ []
    → ClosedBody p.in_group room (body_value reading room p nodes)

module _ (room : ℕ) (ih : Below room) where
  abbrev faults : StaticContext → List Node → List Code
  faults = body_faults reading room

  abbrev made : StaticContext → List Node → Instrs
  made = body_value reading room

  bodied_closed : (e : XslElement) (p : StaticContext) (attributes : List Attribute) (kids : List Node)
      → GoodPlace p → are_sound_attributes attributes ≡ true → are_sound_nodes kids ≡ true
      → bodied_faults reading faults e p attributes kids ≡ []
      → ClosedInstr p.in_group room false (bodied_value reading made e p attributes kids)
  bodied_closed e p attributes kids g a k f =
      let content = not (is_none (rest e kids)) in
      let own = own_value reading p e attributes (front e kids) in
      let heads = head_faults reading p e attributes (front e kids) content in
      let c = head_closed p g attributes a e (front e kids) content
      (leading_sound (is_lead (content_of e)) kids k) (front_nil heads _ f) in
      let b = ih (inner e p) (inner_good e p g) (rest e kids)
      (behind_sound (is_lead (content_of e)) kids k) (back_nil heads _ f) in
      with_closed p room content own (made (inner e p) (rest e kids)) c
      (subst (λ x. ClosedBody x room (made (inner e p) (rest e kids)))
      (same_inside e p attributes (front e kids)) b)
      (λ h. no_value room (inner e p) (rest e kids) h)

  literal_made : (p : StaticContext) (name : Name) (attributes : List Attribute) (kids : List Node)
      → GoodPlace p → is_tree_name name ≡ true → are_sound_attributes attributes ≡ true
      → are_sound_nodes kids ≡ true → element_faults reading faults p attributes kids ≡ []
      → ClosedInstr p.in_group room false (element_value reading made p name attributes kids)
  literal_made p name attributes kids g n a k f =
      let heads = literal_faults reading p attributes in
      let c = literal_closed p g name attributes true n a (front_nil heads _ f) in
      with_closed p room true (literal_value reading p name attributes) (made p kids) c
      (ih p g kids k (back_nil heads _ f)) (λ h. absurd cc)

  -- branches
  when_made : (p : StaticContext) (attributes : List Attribute) (kids : List Node) → GoodPlace p
      → are_sound_nodes kids ≡ true → when_faults reading faults p attributes kids ≡ []
      → ClosedWhen p.in_group room (when_value reading made p attributes kids)
  when_made p attributes kids g k f =
      let test = attribute attributes (codes "test") in
      let a = back_nil (attribute_faults element.When attributes) _ f in
      let c = needed_expr p g test (front_nil (needed_faults (expr_faults p) test) _ a) in
      let b = ih p g kids k (back_nil (needed_faults (expr_faults p) test) _ a) in
      when_closed p.in_group room
      (record { test = needed_value (expr_value p) test; body = made p kids }) c.good c.stands b

  when_layer_made : (p : StaticContext) (n : Node) (f : Node-F Node) → GoodPlace p → SoundForm f
      → when_layer_faults reading faults p n f ≡ []
      → ClosedWhen p.in_group room (when_layer_value reading made p f)
  when_layer_made p n (Elem own name attributes kids) g h e =
      let s = sound_element own name attributes kids h in
      when_made (within p own) attributes kids (good_inner p own g s.bound) s.content e
  when_layer_made p n (Chars t) g h e = absurd cc

  record ClosedWhens (grouped : Bool) (ws : List (When Expr Pattern)) : Type 0 where
    good : every (map is_good_when ws) ≡ true
    stands : all_stand (map when_stands ws) grouped ≡ true
    nests : greatest (map when_nest_of ws) ≤ room

  whens_made : (p : StaticContext) (ns : List Node) → GoodPlace p → are_sound_nodes ns ≡ true
      → whens_faults reading faults p ns ≡ []
      → ClosedWhens p.in_group (whens_value reading made p ns)
  whens_made p [] g h e = record { good = refl; stands = refl; nests = omega arith }
  whens_made p (n ∷ ns) g h e =
      let k = and_parts (is_sound_node n) (are_sound_nodes ns) h in
      let layer = when_layer_faults reading faults p n (out-Node n) in
      let w = when_layer_value reading made p (out-Node n) in
      let first = when_layer_made p n (out-Node n) g (sound_form n k.0) (front_nil layer _ e) in
      let others = whens_made p ns g k.1 (back_nil layer _ e) in
      let a = first.nests in
      let b = others.nests in
      record {
        good = and_from (is_good_when w) _ first.good others.good;
        stands = and_from (when_stands w p.in_group) _ first.stands others.stands;
        nests = omega (arith, a, b);
      }

  -- after them
  other_made : (p : StaticContext) (n : Node) (f : Node-F Node) → GoodPlace p → SoundForm f
      → other_layer_faults reading faults p n f ≡ []
      → ClosedBody p.in_group room (other_layer_value reading made p f)
  other_made p n (Elem own name attributes kids) g h e =
      let s = sound_element own name attributes kids h in
      go (is_otherwise (xsl_element name)) s.bound s.content e
    where
      go : (b : Bool) → list_all is_good_binding own ≡ true → are_sound_nodes kids ≡ true
          → cond b (other_faults reading faults (within p own) attributes kids)
          (SheetStatic (misplaced_node n) ∷ []) ≡ []
          → ClosedBody p.in_group room (made (within p own) kids)
      go true o k e =
          ih (within p own) (good_inner p own g o) kids k
          (back_nil (attribute_faults element.Otherwise attributes) _ e)
      go false o k e = absurd cc
  other_made p n (Chars t) g h e = absurd cc

  others_made : (p : StaticContext) (ns : List Node) → GoodPlace p → are_sound_nodes ns ≡ true
      → others_faults reading faults p ns ≡ []
      → ClosedBody p.in_group room (others_value reading made p ns)
  others_made p [] g h e = no_instrs p.in_group room
  others_made p (n ∷ ns) g h e =
      let k = and_parts (is_sound_node n) (are_sound_nodes ns) h in
      other_made p n (out-Node n) g (sound_form n k.0)
      (front_nil (other_layer_faults reading faults p n (out-Node n)) _ e)

  choose_made : (p : StaticContext) (attributes : List Attribute) (kids : List Node) → GoodPlace p
      → are_sound_nodes kids ≡ true → choose_faults reading faults p attributes kids ≡ []
      → ClosedInstr p.in_group room false (choose_value reading made p kids)
  choose_made p attributes kids g k f =
      let test = is_lead (content_of element.Choose) in
      let ns = front element.Choose kids in
      let ms = rest element.Choose kids in
      let a = back_nil (attribute_faults element.Choose attributes) _ f in
      let b = back_nil (broken XTSE0010 (is_none ns)) _ a in
      let whens = whens_faults reading faults p ns in
      let w = whens_made p ns g (leading_sound test kids k) (front_nil whens _ b) in
      let o = others_made p ms g (behind_sound test kids k) (back_nil whens _ b) in
      let ws = whens_value reading made p ns in
      let x = w.nests in
      let y = o.nests in
      subst (ClosedInstr p.in_group room false) (rolls-Choose ws (others_value reading made p ms))
      (rolled p.in_group room false (form.Choose ws (others_value reading made p ms))
      (and_from (every (map is_good_when ws)) _ w.good o.good)
      (and_from (all_stand (map when_stands ws) p.in_group) _ w.stands o.stands)
      (omega (arith, x, y)) refl)

  -- variables and parameters
  pub bind_made : (e : XslElement) (p : StaticContext) (attributes : List Attribute) (kids : List Node)
      → GoodPlace p → are_sound_nodes kids ≡ true
      → bind_faults reading faults e p attributes kids ≡ []
      → ClosedBoundOf p.in_group room (is_required attributes)
      (bind_value reading made p attributes kids)
  bind_made e p attributes kids g k f =
      let content = not (is_none kids) in
      let own = bound_faults reading p e attributes content in
      let c = heads.bound_closed p g e attributes content (front_nil own _ f) in
      bound_closed p room (bound_value reading p attributes) content (made p kids) c
      (ih p g kids k (back_nil own _ f))

  variable_made : (p : StaticContext) (attributes : List Attribute) (kids : List Node) → GoodPlace p
      → are_sound_nodes kids ≡ true
      → bind_faults reading faults element.Variable p attributes kids ≡ []
      → ClosedInstr p.in_group room true
      (instr.Variable (bind_value reading made p attributes kids))
  variable_made p attributes kids g k f =
      let b = bind_value reading made p attributes kids in
      let c = bind_made element.Variable p attributes kids g k f in
      let own =
      front_nil (bound_faults reading p element.Variable attributes (not (is_none kids))) _ f in
      let r = variable_given attributes
      (front_nil (attribute_faults element.Variable attributes) _ own) in
      subst (ClosedInstr p.in_group room true) (rolls-Variable b)
      (rolled p.in_group room true (form.Variable b) c.good
      (given room p.in_group (is_required attributes) b c r) c.nests refl)

  passed_layer_made : (p : StaticContext) (n : Node) (f : Node-F Node) → GoodPlace p → SoundForm f
      → passed_layer_faults reading faults p n f ≡ []
      → ClosedOne room p.in_group (passed_layer_value reading made p f)
  passed_layer_made p n (Elem own name attributes kids) g h e =
      let s = sound_element own name attributes kids h in
      let q = within p own in
      let inner_so = good_inner p own g s.bound in
      let c = bind_made element.WithParam q attributes kids inner_so s.content e in
      let own_so =
      front_nil (bound_faults reading q element.WithParam attributes (not (is_none kids))) _ e in
      let r = passed_given attributes
      (front_nil (attribute_faults element.WithParam attributes) _ own_so) in
      record {
        good = c.good;
        stands = given room p.in_group (is_required attributes)
            (bind_value reading made q attributes kids) c r;
        nests = c.nests;
      }
  passed_layer_made p n (Chars t) g h e = absurd cc

  passed_made : (p : StaticContext) (ns : List Node) → GoodPlace p → are_sound_nodes ns ≡ true
      → passed_faults reading faults p ns ≡ []
      → ClosedPassed room p.in_group (passed_value reading made p ns)
  passed_made p [] g h e = record { good = refl; stands = refl; nests = omega arith }
  passed_made p (n ∷ ns) g h e =
      let k = and_parts (is_sound_node n) (are_sound_nodes ns) h in
      go (is_with_param n) e (λ f. passed_layer_made p n (out-Node n) g (sound_form n k.0) f)
      (λ f. passed_made p ns g k.1 f)
    where
      go : (b : Bool) → cond b (passed_layer_faults reading faults p n (out-Node n)
          ++ passed_faults reading faults p ns) (passed_faults reading faults p ns) ≡ []
          → (passed_layer_faults reading faults p n (out-Node n) ≡ []
          → ClosedOne room p.in_group (passed_layer_value reading made p (out-Node n)))
          → (passed_faults reading faults p ns ≡ []
          → ClosedPassed room p.in_group (passed_value reading made p ns))
          → ClosedPassed room p.in_group (cond b (passed_layer_value reading made p (out-Node n)
          ∷ passed_value reading made p ns) (passed_value reading made p ns))
      go true e first others =
          let layer = passed_layer_faults reading faults p n (out-Node n) in
          and_passed room p.in_group (passed_layer_value reading made p (out-Node n))
          (passed_value reading made p ns) (first (front_nil layer _ e))
          (others (back_nil layer _ e))
      go false e first others = others e

  call_made : (e : XslElement) (p : StaticContext) (attributes : List Attribute) (kids : List Node)
      → GoodPlace p → are_sound_nodes kids ≡ true
      → call_faults reading faults made e p attributes kids ≡ []
      → ClosedInstr p.in_group room false (call_value reading made e p attributes kids)
  call_made e p attributes kids g k f =
      let ns = front e kids in
      let sound = leading_sound (is_lead (content_of e)) kids k in
      let heads = call.call_faults reading p e attributes ns in
      let a = back_nil heads _ f in
      let b = back_nil (none_faults (rest e kids)) _ a in
      let passed = passed_faults reading faults p ns in
      let bs = passed_value reading made p ns in
      let c = call_closed p g e attributes ns sound (front_nil heads _ f) in
      let d = passed_made p ns g sound (front_nil passed _ b) in
      let n = differ room (names_differ (map bound_name bs)) (back_nil passed _ b) in
      with_passed_made room p (call.own_value reading p e attributes ns) bs c d
      (ap names_differ (same_names bs) ∙ n)

  -- an element of XSLT
  element_made : (e : XslElement) (p : StaticContext) (attributes : List Attribute) (kids : List Node)
      → GoodPlace p → are_sound_attributes attributes ≡ true → are_sound_nodes kids ≡ true
      → form_faults reading faults made (form_of e) e p attributes kids ≡ []
      → ClosedInstr p.in_group room (is_variable_element (Some e))
      (form_value reading made (form_of e) e p attributes kids)
  element_made element.Text p attributes kids g a k f = text_made room p kids k
  element_made element.CopyOf p attributes kids g a k f = copy_of_made room p attributes kids g f
  element_made element.Sequence p attributes kids g a k f = sequence_made room p attributes kids g f
  element_made element.ForEach p attributes kids g a k f =
      bodied_closed element.ForEach p attributes kids g a k f
  element_made element.ForEachGroup p attributes kids g a k f =
      bodied_closed element.ForEachGroup p attributes kids g a k f
  element_made element.PerformSort p attributes kids g a k f =
      bodied_closed element.PerformSort p attributes kids g a k f
  element_made element.If p attributes kids g a k f =
      bodied_closed element.If p attributes kids g a k f
  element_made element.ValueOf p attributes kids g a k f =
      bodied_closed element.ValueOf p attributes kids g a k f
  element_made element.Element p attributes kids g a k f =
      bodied_closed element.Element p attributes kids g a k f
  element_made element.Attribute p attributes kids g a k f =
      bodied_closed element.Attribute p attributes kids g a k f
  element_made element.Comment p attributes kids g a k f =
      bodied_closed element.Comment p attributes kids g a k f
  element_made element.ProcessingInstruction p attributes kids g a k f =
      bodied_closed element.ProcessingInstruction p attributes kids g a k f
  element_made element.Document p attributes kids g a k f =
      bodied_closed element.Document p attributes kids g a k f
  element_made element.Copy p attributes kids g a k f =
      bodied_closed element.Copy p attributes kids g a k f
  element_made element.Choose p attributes kids g a k f = choose_made p attributes kids g k f
  element_made element.Variable p attributes kids g a k f = variable_made p attributes kids g k f
  element_made element.ApplyTemplates p attributes kids g a k f =
      call_made element.ApplyTemplates p attributes kids g k f
  element_made element.ApplyImports p attributes kids g a k f =
      call_made element.ApplyImports p attributes kids g k f
  element_made element.NextMatch p attributes kids g a k f =
      call_made element.NextMatch p attributes kids g k f
  element_made element.CallTemplate p attributes kids g a k f =
      call_made element.CallTemplate p attributes kids g k f
  element_made _ p attributes kids g a k f = absurd cc

  xsl_made : (o : Option XslElement) (name : Name) (p : StaticContext) (attributes : List Attribute)
      (kids : List Node) → GoodPlace p → are_sound_attributes attributes ≡ true
      → are_sound_nodes kids ≡ true
      → xsl_faults reading faults made o name p attributes kids ≡ []
      → ClosedInstr p.in_group room (is_variable_element o)
      (xsl_value reading made o p attributes kids)
  xsl_made None name p attributes kids g a k f = absurd cc
  xsl_made (Some e) name p attributes kids g a k f = element_made e p attributes kids g a k f

  any_made : (p : StaticContext) (name : Name) (attributes : List Attribute) (kids : List Node)
      → GoodPlace p → is_tree_name name ≡ true → are_sound_attributes attributes ≡ true
      → are_sound_nodes kids ≡ true → any_faults reading faults made p name attributes kids ≡ []
      → ClosedInstr p.in_group room (is_variable_element (xsl_element name))
      (any_value reading made p name attributes kids)
  any_made p name attributes kids g n a k f = go (is_in_xslt name) f
    where
      go : (b : Bool) → cond b (xsl_faults reading faults made
          (cond b (element_named name.local) None) name p attributes kids)
          (element_faults reading faults p attributes kids) ≡ []
          → ClosedInstr p.in_group room
          (is_variable_element (cond b (element_named name.local) None))
          (cond b (xsl_value reading made (cond b (element_named name.local) None) p attributes
          kids) (element_value reading made p name attributes kids))
      go true f = xsl_made (element_named name.local) name p attributes kids g a k f
      go false f = literal_made p name attributes kids g n a k f

  node_made : (p : StaticContext) (f : Node-F Node) → GoodPlace p → SoundForm f
      → layer_faults reading faults made p f ≡ []
      → ClosedInstr p.in_group room (is_variable_element (xsl_in f))
      (layer_value reading made p f)
  node_made p (Elem own name attributes kids) g h e =
      let s = sound_element own name attributes kids h in
      any_made (within p own) name attributes kids (good_inner p own g s.bound) s.named s.texts
      s.content e
  node_made p (Chars t) g h e =
      subst (ClosedInstr p.in_group room false) (rolls-Chars t)
      (rolled p.in_group room false (form.Chars t) h refl (omega arith) refl)

  one_made : (p : StaticContext) (n : Node) → GoodPlace p → is_sound_node n ≡ true
      → node_faults reading faults made p n ≡ []
      → ClosedInstr p.in_group room (is_variable n) (node_value reading made p n)
  unfolding is_variable xsl_of
  one_made p n g h e = node_made p (out-Node n) g (sound_form n h) e

  walk_made : (p : StaticContext) (ns : List Node) → GoodPlace p → are_sound_nodes ns ≡ true
      → walk_faults reading faults made p ns ≡ []
      → ClosedBody p.in_group (suc room) (walk_value reading made p ns)
  walk_made p [] g h e = no_instrs p.in_group (suc room)
  walk_made p (n ∷ ns) g h e =
      let k = and_parts (is_sound_node n) (are_sound_nodes ns) h in
      let here = node_faults reading faults made p n in
      let b = is_variable n in
      let i = node_value reading made p n in
      and_instr p.in_group room b i
      (cond b (made p ns) (walk_value reading made p ns))
      (one_made p n g k.0 (front_nil here _ e))
      (go b (λ f. ih p g ns k.1 f) (λ f. walk_made p ns g k.1 f) (back_nil here _ e))
    where
      go : (b : Bool) → (faults p ns ≡ [] → ClosedBody p.in_group room (made p ns))
          → (walk_faults reading faults made p ns ≡ []
          → ClosedBody p.in_group (suc room) (walk_value reading made p ns))
          → cond b (faults p ns) (walk_faults reading faults made p ns) ≡ []
          → ClosedBody p.in_group (cond b room (suc room))
          (cond b (made p ns) (walk_value reading made p ns))
      go true below after f = below f
      go false below after f = after f

-- content of any depth
pub body_made : (room : ℕ) → Below room
unfolding body_faults body_value
body_made zero p g [] h e = no_instrs p.in_group zero
body_made zero p g (n ∷ ns) h e = absurd cc
body_made (suc room) p g nodes h e = walk_made room (body_made room) p nodes g h e
