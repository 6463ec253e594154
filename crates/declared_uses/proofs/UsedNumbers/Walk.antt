-- Sequence constructors that break no rule use numbers of names alone, where the names that they name are
-- in the tables.
use Rattle.std.proofs.Common.{◌≡◌, ℕ, zero, suc, List, [], ◌∷◌, ◌++◌, Bool, true, false}
use Rattle.std.proofs.Common.{cond, not, Option, Some, None, refl, codes, subst, sym}
use Rattle.std.proofs.lemmas.Bool.{and_parts, and_from}
use Rattle.std.specs.List.{list_all}
use Rattle.xt_names.specs.declared.codes.Code.{Code}
use Rattle.xt_names.specs.declared.codes.Code.TheVariants.{SheetStatic}
use Rattle.xt_names.specs.declared.codes.SheetStaticCode.TheVariants.{XTSE0010}
use Rattle.xt_names.specs.declared.names.Binding.{Binding}
use Rattle.xt_names.specs.declared.names.Name.{Name}
use Rattle.xt_names.specs.declared.names.ExprName.{ExprName}
use Rattle.xt_syntax.specs.declared.exprs.Expr.{Expr}
use Rattle.xt_syntax.specs.declared.patterns.Pattern.{Pattern}
use Rattle.xt_tree.specs.declared.attributes.Attribute.{Attribute}
use Rattle.sheet_bodies.specs.Bodies.{is_none, front, rest, inner, is_otherwise, bodied_faults}
use Rattle.sheet_bodies.specs.Bodies.{bodied_value, element_faults, element_value, when_faults}
use Rattle.sheet_bodies.specs.Bodies.{when_value, when_layer_faults, when_layer_value, whens_faults}
use Rattle.sheet_bodies.specs.Bodies.{whens_value, other_faults, other_layer_faults}
use Rattle.sheet_bodies.specs.Bodies.{other_layer_value, others_faults, others_value, choose_faults}
use Rattle.sheet_bodies.specs.Bodies.{choose_value, bind_faults, bind_value, passed_layer_faults}
use Rattle.sheet_bodies.specs.Bodies.{passed_layer_value, passed_faults, passed_value, call_faults}
use Rattle.sheet_bodies.specs.Bodies.{call_value, form_faults, form_value, xsl_faults, xsl_value}
use Rattle.sheet_bodies.specs.Bodies.{any_faults, any_value, layer_faults, layer_value, node_faults}
use Rattle.sheet_bodies.specs.Bodies.{walk_faults, walk_value, body_faults, body_value}
use Rattle.sheet_heads.specs.Attributes.{needed_faults, needed_value, optional_faults}
use Rattle.sheet_heads.specs.Bindings.{bound_faults, bound_value}
use Rattle.sheet_heads.specs.Bodied.{own_value, head_faults}
use Rattle.sheet_heads.specs.Calls as call
use Rattle.sheet_heads.specs.Forms.{form_of}
use Rattle.sheet_heads.specs.Leaves.{selected_value}
use Rattle.sheet_heads.specs.Characters.{characters_value}
use Rattle.sheet_heads.specs.Literals.{literal_faults, literal_value}
use Rattle.sheet_table.specs.SheetNodes.Parts.{is_lead, leading, behind, is_variable, is_with_param}
use Rattle.sheet_table.specs.SheetNodes.Parts.{none_faults, misplaced_node}
use Rattle.sheet_table.specs.declared.sheet_nodes.nodes.Node.{Node}
use Rattle.sheet_table.specs.declared.sheet_nodes.nodes.Node.TheViews.{out-Node}
use Rattle.sheet_table.specs.declared.sheet_nodes.nodes.Node.TheOpen.{Node-F, Elem, Chars}
use Rattle.sheet_table.specs.Attributes.{attribute}
use Rattle.sheet_table.specs.Contents.{content_of}
use Rattle.sheet_table.specs.Elements.{xsl_element}
use Rattle.sheet_table.specs.Rules.{attribute_faults}
use Rattle.sheet_table.specs.declared.elements.XslElement.{XslElement}
use Rattle.sheet_table.specs.declared.elements.XslElement.TheVariants as element
use Rattle.sheet_values.specs.SheetTexts.Places.{within}
use Rattle.sheet_values.specs.SheetTexts.Readings.{Reading}
use Rattle.sheet_values.specs.declared.sheet_texts.places.StaticContext.{StaticContext}
use Rattle.sheet_values.specs.Rules.{broken}
use Rattle.module_loading.specs.ModuleReader.Mentions.{own_names}
use Rattle.module_loading.specs.declared.module_reader.mentions.Mention.TheVariants as mention
use Rattle.declared_uses.specs.Numbers.{is_number_in, has_mode}
use Rattle.declared_uses.proofs.UsedNumbers.Covers.{in_table, covers, all_covered, CoversForm, covers_form}
use Rattle.declared_uses.proofs.UsedNumbers.Covers.{FirstIsDefault}
use Rattle.declared_uses.proofs.UsedNumbers.Numbers.{mode_has_number, template_has_number}
use Rattle.declared_uses.proofs.UsedNumbers.Forms.{Instrs, Good, GoodBody, GoodBound, GoodBounds, GoodWhen}
use Rattle.declared_uses.proofs.UsedNumbers.Forms.{GoodWhens, HasNumber, chars_good, copy_of_good, sequence_good}
use Rattle.declared_uses.proofs.UsedNumbers.Forms.{choose_good, variable_good, when_good, with_body_good}
use Rattle.declared_uses.proofs.UsedNumbers.Forms.{with_passed_good, with_value_good}
use Rattle.xt_names.specs.Names.{is_in_xslt}
use Rattle.xt_names.proofs.ListLemmas.{front_nil, back_nil}

module _ (reading : Reading Expr Pattern) (modes called : List ExprName)
    (first : FirstIsDefault modes) where
  -- a place where names have the numbers of these
  pub record At (p : StaticContext) : Type 0 where
    pub modes_are : p.modes ≡ modes
    pub called_are : p.called ≡ called

  pub at_within : (p : StaticContext) (own : List Binding) → At p → At (within p own)
  at_within p own a = record { modes_are = a.modes_are; called_are = a.called_are }

  at_inner : (e : XslElement) (p : StaticContext) → At p → At (inner e p)
  at_inner element.ForEachGroup p a = record { modes_are = a.modes_are; called_are = a.called_are }
  at_inner _ p a = a

  -- the nodes name nothing else
  pub record Named (bound : List Binding) (ns : List Node) : Type 0 where
    pub modes_in : all_covered mention.Modes modes ns bound ≡ true
    pub called_in : all_covered mention.Called called ns bound ≡ true

  pub record NamedOne (bound : List Binding) (n : Node) : Type 0 where
    pub modes_in : covers mention.Modes modes n bound ≡ true
    pub called_in : covers mention.Called called n bound ≡ true

  pub record NamedForm (bound : List Binding) (f : Node-F Node) : Type 0 where
    pub modes_in : CoversForm mention.Modes modes bound f
    pub called_in : CoversForm mention.Called called bound f

  pub first_named : (bound : List Binding) (n : Node) (ns : List Node) → Named bound (n ∷ ns)
      → NamedOne bound n
  first_named bound n ns h = record {
    modes_in = (and_parts (covers mention.Modes modes n bound) _ h.modes_in).0;
    called_in = (and_parts (covers mention.Called called n bound) _ h.called_in).0;
  }

  pub others_named : (bound : List Binding) (n : Node) (ns : List Node) → Named bound (n ∷ ns)
      → Named bound ns
  others_named bound n ns h = record {
    modes_in = (and_parts (covers mention.Modes modes n bound) _ h.modes_in).1;
    called_in = (and_parts (covers mention.Called called n bound) _ h.called_in).1;
  }

  pub form_named : (bound : List Binding) (n : Node) → NamedOne bound n
      → NamedForm bound (out-Node n)
  form_named bound n h = record {
    modes_in = covers_form mention.Modes modes bound n h.modes_in;
    called_in = covers_form mention.Called called bound n h.called_in;
  }

  pub kids_named : (bound own : List Binding) (name : Name) (attributes : List Attribute)
      (kids : List Node) → NamedForm bound (Elem own name attributes kids)
      → Named (own ++ bound) kids
  kids_named bound own name attributes kids h =
      record { modes_in = h.modes_in.content; called_in = h.called_in.content }

  front_all : (test q : Node → Bool) (ns : List Node) → list_all q ns ≡ true
      → list_all q (leading test ns) ≡ true
  front_all test q [] h = refl
  front_all test q (n ∷ ns) h =
      let k = and_parts (q n) (list_all q ns) h in
      go (test n) k.0 (front_all test q ns k.1)
    where
      go : (b : Bool) → q n ≡ true → list_all q (leading test ns) ≡ true
          → list_all q (cond b (n ∷ leading test ns) []) ≡ true
      go true a others = and_from (q n) _ a others
      go false a others = refl

  behind_all : (test q : Node → Bool) (ns : List Node) → list_all q ns ≡ true
      → list_all q (behind test ns) ≡ true
  behind_all test q [] h = refl
  behind_all test q (n ∷ ns) h =
      go (test n) (behind_all test q ns (and_parts (q n) (list_all q ns) h).1)
    where
      go : (b : Bool) → list_all q (behind test ns) ≡ true
          → list_all q (cond b (behind test ns) (n ∷ ns)) ≡ true
      go true others = others
      go false others = h

  pub leading_named : (test : Node → Bool) (bound : List Binding) (ns : List Node)
      → Named bound ns → Named bound (leading test ns)
  leading_named test bound ns h = record {
    modes_in = front_all test (λ n. covers mention.Modes modes n bound) ns h.modes_in;
    called_in = front_all test (λ n. covers mention.Called called n bound) ns h.called_in;
  }

  pub behind_named : (test : Node → Bool) (bound : List Binding) (ns : List Node)
      → Named bound ns → Named bound (behind test ns)
  behind_named test bound ns h = record {
    modes_in = behind_all test (λ n. covers mention.Modes modes n bound) ns h.modes_in;
    called_in = behind_all test (λ n. covers mention.Called called n bound) ns h.called_in;
  }

  same_bound : (e : XslElement) (p : StaticContext) (ns : List Node) → Named p.bound ns
      → Named (inner e p).bound ns
  same_bound element.ForEachGroup p ns h = h
  same_bound _ p ns h = h

  -- what is known of content of so many levels
  abbrev pub Below : ℕ → Type 0
  Below room = (p : StaticContext) → At p → (nodes : List Node) → Named p.bound nodes
      → body_faults reading room p nodes ≡ [] → GoodBody modes called (body_value reading room p nodes)

  module _ (room : ℕ) (ih : Below room) where
    abbrev faults : StaticContext → List Node → List Code
    faults = body_faults reading room

    abbrev made : StaticContext → List Node → Instrs
    made = body_value reading room

    bodied_good : (e : XslElement) (p : StaticContext) (attributes : List Attribute) (kids : List Node)
        → At p → Named p.bound kids → bodied_faults reading faults e p attributes kids ≡ []
        → Good modes called (bodied_value reading made e p attributes kids)
    bodied_good e p attributes kids a k f =
        let content = not (is_none (rest e kids)) in
        let heads = head_faults reading p e attributes (front e kids) content in
        with_body_good modes called (own_value reading p e attributes (front e kids))
        (made (inner e p) (rest e kids))
        (ih (inner e p) (at_inner e p a) (rest e kids)
        (same_bound e p (rest e kids) (behind_named (is_lead (content_of e)) p.bound kids k))
        (back_nil heads _ f))

    literal_good : (p : StaticContext) (name : Name) (attributes : List Attribute) (kids : List Node)
        → At p → Named p.bound kids → element_faults reading faults p attributes kids ≡ []
        → Good modes called (element_value reading made p name attributes kids)
    literal_good p name attributes kids a k f =
        with_body_good modes called (literal_value reading p name attributes) (made p kids)
        (ih p a kids k (back_nil (literal_faults reading p attributes) _ f))

    -- branches
    when_made : (p : StaticContext) (attributes : List Attribute) (kids : List Node) → At p
        → Named p.bound kids → when_faults reading faults p attributes kids ≡ []
        → GoodWhen modes called (when_value reading made p attributes kids)
    when_made p attributes kids a k f =
        let test = attribute attributes (codes "test") in
        let b = back_nil (attribute_faults element.When attributes) _ f in
        when_good modes called (needed_value (reading.expr_value p) test) (made p kids)
        (ih p a kids k (back_nil (needed_faults (reading.expr_faults p) test) _ b))

    when_layer_made : (p : StaticContext) (n : Node) (f : Node-F Node) → At p → NamedForm p.bound f
        → when_layer_faults reading faults p n f ≡ []
        → GoodWhen modes called (when_layer_value reading made p f)
    when_layer_made p n (Elem own name attributes kids) a h e =
        when_made (within p own) attributes kids (at_within p own a)
        (kids_named p.bound own name attributes kids h) e
    when_layer_made p n (Chars t) a h e = absurd cc

    whens_made : (p : StaticContext) (ns : List Node) → At p → Named p.bound ns
        → whens_faults reading faults p ns ≡ []
        → GoodWhens modes called (whens_value reading made p ns)
    whens_made p [] a h e = tt
    whens_made p (n ∷ ns) a h e =
        let layer = when_layer_faults reading faults p n (out-Node n) in (
          when_layer_made p n (out-Node n) a (form_named p.bound n (first_named p.bound n ns h))
              (front_nil layer _ e),
          whens_made p ns a (others_named p.bound n ns h) (back_nil layer _ e),
        )

    other_made : (p : StaticContext) (n : Node) (f : Node-F Node) → At p → NamedForm p.bound f
        → other_layer_faults reading faults p n f ≡ []
        → GoodBody modes called (other_layer_value reading made p f)
    other_made p n (Elem own name attributes kids) a h e =
        go (is_otherwise (xsl_element name)) e
      where
        go : (b : Bool) → cond b (other_faults reading faults (within p own) attributes kids)
            (SheetStatic (misplaced_node n) ∷ []) ≡ []
            → GoodBody modes called (made (within p own) kids)
        go true e =
            ih (within p own) (at_within p own a) kids
            (kids_named p.bound own name attributes kids h)
            (back_nil (attribute_faults element.Otherwise attributes) _ e)
        go false e = absurd cc
    other_made p n (Chars t) a h e = absurd cc

    others_made : (p : StaticContext) (ns : List Node) → At p → Named p.bound ns
        → others_faults reading faults p ns ≡ []
        → GoodBody modes called (others_value reading made p ns)
    others_made p [] a h e = tt
    others_made p (n ∷ ns) a h e =
        other_made p n (out-Node n) a (form_named p.bound n (first_named p.bound n ns h))
        (front_nil (other_layer_faults reading faults p n (out-Node n)) _ e)

    choose_made : (p : StaticContext) (attributes : List Attribute) (kids : List Node) → At p
        → Named p.bound kids → choose_faults reading faults p attributes kids ≡ []
        → Good modes called (choose_value reading made p kids)
    choose_made p attributes kids a k f =
        let test = is_lead (content_of element.Choose) in
        let ns = front element.Choose kids in
        let ms = rest element.Choose kids in
        let b = back_nil (broken XTSE0010 (is_none ns)) _
        (back_nil (attribute_faults element.Choose attributes) _ f) in
        let whens = whens_faults reading faults p ns in
        choose_good modes called (whens_value reading made p ns) (others_value reading made p ms)
        (whens_made p ns a (leading_named test p.bound kids k) (front_nil whens _ b))
        (others_made p ms a (behind_named test p.bound kids k) (back_nil whens _ b))

    -- variables and parameters
    pub bind_made : (e : XslElement) (p : StaticContext) (attributes : List Attribute) (kids : List Node)
        → At p → Named p.bound kids → bind_faults reading faults e p attributes kids ≡ []
        → GoodBound modes called (bind_value reading made p attributes kids)
    bind_made e p attributes kids a k f =
        let content = not (is_none kids) in
        with_value_good modes called (bound_value reading p attributes) content (made p kids)
        (ih p a kids k (back_nil (bound_faults reading p e attributes content) _ f))

    passed_layer_made : (p : StaticContext) (n : Node) (f : Node-F Node) → At p → NamedForm p.bound f
        → passed_layer_faults reading faults p n f ≡ []
        → GoodBound modes called (passed_layer_value reading made p f)
    passed_layer_made p n (Elem own name attributes kids) a h e =
        bind_made element.WithParam (within p own) attributes kids (at_within p own a)
        (kids_named p.bound own name attributes kids h) e
    passed_layer_made p n (Chars t) a h e = absurd cc

    passed_made : (p : StaticContext) (ns : List Node) → At p → Named p.bound ns
        → passed_faults reading faults p ns ≡ []
        → GoodBounds modes called (passed_value reading made p ns)
    passed_made p [] a h e = tt
    passed_made p (n ∷ ns) a h e =
        go (is_with_param n) e
        (λ f. passed_layer_made p n (out-Node n) a (form_named p.bound n (first_named p.bound n ns h)) f)
        (λ f. passed_made p ns a (others_named p.bound n ns h) f)
      where
        go : (b : Bool) → cond b (passed_layer_faults reading faults p n (out-Node n)
            ++ passed_faults reading faults p ns) (passed_faults reading faults p ns) ≡ []
            → (passed_layer_faults reading faults p n (out-Node n) ≡ []
            → GoodBound modes called (passed_layer_value reading made p (out-Node n)))
            → (passed_faults reading faults p ns ≡ []
            → GoodBounds modes called (passed_value reading made p ns))
            → GoodBounds modes called (cond b (passed_layer_value reading made p (out-Node n)
            ∷ passed_value reading made p ns) (passed_value reading made p ns))
        go true e one others =
            let layer = passed_layer_faults reading faults p n (out-Node n) in
            (one (front_nil layer _ e), others (back_nil layer _ e))
        go false e one others = others e

    -- what an element names itself
    record OwnNamed (p : StaticContext) (o : Option XslElement) (attributes : List Attribute) : Type 0 where
      modes_in : list_all (in_table modes) (own_names mention.Modes o p.bound attributes) ≡ true
      called_in : list_all (in_table called) (own_names mention.Called o p.bound attributes) ≡ true

    head_numbered : (e : XslElement) (p : StaticContext) (attributes : List Attribute) (ns : List Node)
        → At p → OwnNamed p (Some e) attributes
        → call.own_faults reading p e attributes ns ≡ []
        → HasNumber modes called (call.own_value reading p e attributes ns)
    head_numbered element.ApplyTemplates p attributes ns a o f =
        let text = attribute attributes (codes "mode") in
        let select = optional_faults (reading.expr_faults p) (attribute attributes (codes "select")) in
        let g = front_nil (call.mode_faults p text) _ (back_nil select _ f) in
        subst (λ (ms : List ExprName). has_mode modes (call.mode_value (record p { modes = ms }) text)
        ≡ true) (sym a.modes_are)
        (mode_has_number (record p { modes = modes }) first text g o.modes_in)
    head_numbered element.CallTemplate p attributes ns a o f =
        let text = attribute attributes (codes "name") in
        subst (λ (ns : List ExprName). is_number_in called
        (call.template_value (record p { called = ns }) text) ≡ true) (sym a.called_are)
        (template_has_number (record p { modes = modes; called = called }) first text f o.called_in)
    head_numbered element.NextMatch p attributes ns a o f = tt
    head_numbered element.ApplyImports p attributes ns a o f = tt
    head_numbered _ p attributes ns a o f = tt

    call_made : (e : XslElement) (p : StaticContext) (attributes : List Attribute) (kids : List Node)
        → At p → OwnNamed p (Some e) attributes → Named p.bound kids
        → call_faults reading faults made e p attributes kids ≡ []
        → Good modes called (call_value reading made e p attributes kids)
    call_made e p attributes kids a o k f =
        let ns = front e kids in
        let heads = call.call_faults reading p e attributes ns in
        let b = back_nil (none_faults (rest e kids)) _ (back_nil heads _ f) in
        let own = back_nil (attribute_faults e attributes) _ (front_nil heads _ f) in
        with_passed_good modes called (call.own_value reading p e attributes ns)
        (passed_value reading made p ns) (head_numbered e p attributes ns a o own)
        (passed_made p ns a (leading_named (is_lead (content_of e)) p.bound kids k)
        (front_nil (passed_faults reading faults p ns) _ b))

    -- an element of XSLT
    element_made : (e : XslElement) (p : StaticContext) (attributes : List Attribute) (kids : List Node)
        → At p → OwnNamed p (Some e) attributes → Named p.bound kids
        → form_faults reading faults made (form_of e) e p attributes kids ≡ []
        → Good modes called (form_value reading made (form_of e) e p attributes kids)
    element_made element.Text p attributes kids a o k f = chars_good modes called (characters_value kids)
    element_made element.CopyOf p attributes kids a o k f =
        copy_of_good modes called (selected_value reading p attributes)
    element_made element.Sequence p attributes kids a o k f =
        sequence_good modes called (selected_value reading p attributes)
    element_made element.ForEach p attributes kids a o k f =
        bodied_good element.ForEach p attributes kids a k f
    element_made element.ForEachGroup p attributes kids a o k f =
        bodied_good element.ForEachGroup p attributes kids a k f
    element_made element.PerformSort p attributes kids a o k f =
        bodied_good element.PerformSort p attributes kids a k f
    element_made element.If p attributes kids a o k f =
        bodied_good element.If p attributes kids a k f
    element_made element.ValueOf p attributes kids a o k f =
        bodied_good element.ValueOf p attributes kids a k f
    element_made element.Element p attributes kids a o k f =
        bodied_good element.Element p attributes kids a k f
    element_made element.Attribute p attributes kids a o k f =
        bodied_good element.Attribute p attributes kids a k f
    element_made element.Comment p attributes kids a o k f =
        bodied_good element.Comment p attributes kids a k f
    element_made element.ProcessingInstruction p attributes kids a o k f =
        bodied_good element.ProcessingInstruction p attributes kids a k f
    element_made element.Document p attributes kids a o k f =
        bodied_good element.Document p attributes kids a k f
    element_made element.Copy p attributes kids a o k f =
        bodied_good element.Copy p attributes kids a k f
    element_made element.Choose p attributes kids a o k f = choose_made p attributes kids a k f
    element_made element.Variable p attributes kids a o k f =
        variable_good modes called (bind_value reading made p attributes kids)
        (bind_made element.Variable p attributes kids a k f)
    element_made element.ApplyTemplates p attributes kids a o k f =
        call_made element.ApplyTemplates p attributes kids a o k f
    element_made element.ApplyImports p attributes kids a o k f =
        call_made element.ApplyImports p attributes kids a o k f
    element_made element.NextMatch p attributes kids a o k f =
        call_made element.NextMatch p attributes kids a o k f
    element_made element.CallTemplate p attributes kids a o k f =
        call_made element.CallTemplate p attributes kids a o k f
    element_made _ p attributes kids a o k f = absurd cc

    xsl_made : (o : Option XslElement) (name : Name) (p : StaticContext) (attributes : List Attribute)
        (kids : List Node) → At p → OwnNamed p o attributes → Named p.bound kids
        → xsl_faults reading faults made o name p attributes kids ≡ []
        → Good modes called (xsl_value reading made o p attributes kids)
    xsl_made None name p attributes kids a o k f = absurd cc
    xsl_made (Some e) name p attributes kids a o k f = element_made e p attributes kids a o k f

    any_made : (p : StaticContext) (name : Name) (attributes : List Attribute) (kids : List Node) → At p
        → OwnNamed p (xsl_element name) attributes → Named p.bound kids
        → any_faults reading faults made p name attributes kids ≡ []
        → Good modes called (any_value reading made p name attributes kids)
    any_made p name attributes kids a o k f = go (is_in_xslt name) f
      where
        go : (b : Bool) → cond b (xsl_faults reading faults made (xsl_element name) name p attributes
            kids) (element_faults reading faults p attributes kids) ≡ []
            → Good modes called (cond b (xsl_value reading made (xsl_element name) p attributes kids)
            (element_value reading made p name attributes kids))
        go true f = xsl_made (xsl_element name) name p attributes kids a o k f
        go false f = literal_good p name attributes kids a k f

    node_made : (p : StaticContext) (f : Node-F Node) → At p → NamedForm p.bound f
        → layer_faults reading faults made p f ≡ []
        → Good modes called (layer_value reading made p f)
    node_made p (Elem own name attributes kids) a h e =
        any_made (within p own) name attributes kids (at_within p own a)
        (record { modes_in = h.modes_in.named; called_in = h.called_in.named })
        (kids_named p.bound own name attributes kids h) e
    node_made p (Chars t) a h e = chars_good modes called t

    walk_made : (p : StaticContext) (ns : List Node) → At p → Named p.bound ns
        → walk_faults reading faults made p ns ≡ []
        → GoodBody modes called (walk_value reading made p ns)
    walk_made p [] a h e = tt
    walk_made p (n ∷ ns) a h e =
        let here = node_faults reading faults made p n in (
          node_made p (out-Node n) a (form_named p.bound n (first_named p.bound n ns h))
              (front_nil here _ e),
          go (is_variable n) (λ f. ih p a ns (others_named p.bound n ns h) f)
              (λ f. walk_made p ns a (others_named p.bound n ns h) f) (back_nil here _ e),
        )
      where
        go : (b : Bool) → (faults p ns ≡ [] → GoodBody modes called (made p ns))
            → (walk_faults reading faults made p ns ≡ []
            → GoodBody modes called (walk_value reading made p ns))
            → cond b (faults p ns) (walk_faults reading faults made p ns) ≡ []
            → GoodBody modes called (cond b (made p ns) (walk_value reading made p ns))
        go true below after f = below f
        go false below after f = after f

  -- content of any depth
  pub body_made : (room : ℕ) → Below room
  unfolding body_faults body_value
  body_made zero p a nodes h e = tt
  body_made (suc room) p a nodes h e = walk_made room (body_made room) p nodes a h e
