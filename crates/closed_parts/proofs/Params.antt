-- Parameters of templates and functions that break no rule, and the content after them.
use Rattle.std.proofs.Common.{◌≡◌, ℕ, ◌≤◌, List, [], ◌∷◌, map, Bool, true, false, not, ◌||◌, Option}
use Rattle.std.proofs.Common.{Some, None, refl, ap, ◌∙◌, arith, codes}
use Rattle.std.proofs.lemmas.Bool.{and_parts, and_from}
use Rattle.xt_names.specs.declared.codes.SheetStaticCode.TheVariants.{XTSE0020, XTSE0580, XTSE0760}
use Rattle.xt_forms.specs.Regular.{every}
use Rattle.xt_syntax.specs.declared.exprs.Expr.{Expr}
use Rattle.xt_syntax.specs.declared.patterns.Pattern.{Pattern}
use Rattle.xt_tree.specs.declared.attributes.Attribute.{Attribute}
use Rattle.xt_sheets.specs.declared.instrs.Bound.{Bound}
use Rattle.xt_sheets.specs.declared.instrs.Value.TheVariants.{Required}
use Rattle.closed_queries.specs.Texts.{is_sound_expr_name}
use Rattle.closed_sheets.specs.Instrs.{is_good_bound}
use Rattle.name_rules.specs.Scopes.{names_differ}
use Rattle.sheet_bodies.specs.Bodies.{is_none, bind_faults, bind_value, body_faults, body_value}
use Rattle.closed_sheets.specs.SheetForms.InstrNest.{bound_nest_of}
use Rattle.sheet_heads.specs.Attributes.{optional_value, needed_faults, needed_value}
use Rattle.sheet_heads.specs.Bindings.{is_required}
use Rattle.sheet_heads.specs.Repeats.{bound_name, repeats_broken}
use Rattle.closed_parts.specs.SheetLanguage.Language.{sheet_reading as reading, type_value}
use Rattle.sheet_table.specs.SheetNodes.Parts.{is_lead}
use Rattle.sheet_table.specs.declared.sheet_nodes.nodes.Node.{Node}
use Rattle.sheet_table.specs.declared.sheet_nodes.nodes.Node.TheViews.{out-Node}
use Rattle.sheet_table.specs.declared.sheet_nodes.nodes.Node.TheOpen.{Node-F, Elem, Chars}
use Rattle.sheet_parts.specs.Parameters.{name_faults, tunnel_faults, front, rest}
use Rattle.sheet_parts.specs.Parameters.{param_layer_faults, param_layer_value, params_faults}
use Rattle.sheet_parts.specs.Parameters.{params_value, argument_faults, argument_value}
use Rattle.sheet_parts.specs.Parameters.{argument_layer_faults, argument_layer_value}
use Rattle.sheet_parts.specs.Parameters.{arguments_faults, arguments_value, behind_faults}
use Rattle.sheet_parts.specs.Parameters.{behind_value}
use Rattle.sheet_table.specs.Attributes.{attribute, has}
use Rattle.sheet_table.specs.Rules.{attribute_faults}
use Rattle.sheet_table.specs.declared.contents.Content.TheVariants as content
use Rattle.sheet_table.specs.declared.elements.XslElement.{XslElement}
use Rattle.sheet_table.specs.declared.elements.XslElement.TheVariants as element
use Rattle.sheet_values.specs.SheetTexts.Places.{within}
use Rattle.sheet_values.specs.declared.sheet_texts.places.StaticContext.{StaticContext}
use Rattle.sheet_values.specs.Names.{declared_faults, qname_value}
use Rattle.sheet_values.specs.Rules.{broken}
use Rattle.sheet_closure.specs.StandingParts.Bodies.{bound_stands, values_stand, params_stand, bound_names}
use Rattle.closed_texts.proofs.ClosedNames.Names.{declared_sound}
use Rattle.closed_parts.specs.SoundNodes.Sound.{are_sound_nodes, is_sound_node}
use Rattle.closed_parts.proofs.ClosedHeads.Values.{GoodPlace, sound_place, optional_type}
use Rattle.closed_parts.proofs.ClosedBodies.Bounds.{ClosedBoundOf, bound_rolled, required_closed, same_names}
use Rattle.closed_parts.proofs.ClosedBodies.Forms.{Instrs, Bounds}
use Rattle.closed_parts.proofs.ClosedBodies.Heads.{ClosedBody}
use Rattle.closed_parts.proofs.ClosedBodies.Turns.{leading_sound, behind_sound, good_inner}
use Rattle.closed_parts.proofs.ClosedBodies.Walk.{body_made, bind_made}
use Rattle.closed_parts.proofs.SoundNodes.Forms.{SoundForm, sound_form, sound_element}
use Rattle.xt_names.specs.Lists.{greatest}
use Rattle.xt_names.proofs.ListLemmas.{front_nil, back_nil}

-- a variable or a parameter at the top of so many levels
pub bind_closed : (e : XslElement) (p : StaticContext) (attributes : List Attribute) (kids : List Node)
    → GoodPlace p → are_sound_nodes kids ≡ true
    → bind_faults reading (body_faults reading 40) e p attributes kids ≡ []
    → ClosedBoundOf p.in_group 40 (is_required attributes)
    (bind_value reading (body_value reading 40) p attributes kids)
bind_closed e p attributes kids g k f = bind_made 40 (body_made 40) e p attributes kids g k f

pub needed_name : (p : StaticContext) → GoodPlace p → (attributes : List Attribute)
    → name_faults p attributes ≡ []
    → is_sound_expr_name (needed_value (qname_value p.bound) (attribute attributes (codes "name")))
    ≡ true
needed_name p g attributes f = go (attribute attributes (codes "name")) f
  where
    go : (o : Option (List ℕ)) → needed_faults (declared_faults XTSE0020 p.bound) o ≡ []
        → is_sound_expr_name (needed_value (qname_value p.bound) o) ≡ true
    go None f = absurd cc
    go (Some text) f = declared_sound XTSE0020 p.bound text (sound_place p g) f

record ClosedParam (grouped : Bool) (b : Bound Expr Pattern) : Type 0 where
  good : is_good_bound b ≡ true
  stands : (bound_stands b).value.stands grouped ≡ true
  nests : bound_nest_of b ≤ 40

pub record ClosedParams (grouped : Bool) (bs : Bounds) : Type 0 where
  pub good : every (map is_good_bound bs) ≡ true
  pub stands : values_stand (map bound_stands bs) grouped ≡ true
  pub nests : greatest (map bound_nest_of bs) ≤ 40

no_params : (grouped : Bool) → ClosedParams grouped []
no_params grouped = record { good = refl; stands = refl; nests = omega arith }

and_param : (grouped : Bool) (b : Bound Expr Pattern) (bs : Bounds) → ClosedParam grouped b
    → ClosedParams grouped bs → ClosedParams grouped (b ∷ bs)
and_param grouped b bs c d =
    let x = c.nests in
    let y = d.nests in
    record {
      good = and_from (is_good_bound b) _ c.good d.good;
      stands = and_from ((bound_stands b).value.stands grouped) _ c.stands d.stands;
      nests = omega (arith, x, y);
    }

module _ (p : StaticContext) (g : GoodPlace p) where
  param_closed : (n : Node) (f : Node-F Node) → SoundForm f
      → param_layer_faults reading p n f ≡ []
      → ClosedParam p.in_group (param_layer_value reading p f)
  param_closed n (Elem own name attributes kids) h e =
      let s = sound_element own name attributes kids h in
      let c = bind_closed element.Param (within p own) attributes kids
      (good_inner p own g s.bound) s.content e in
      record { good = c.good; stands = c.stands; nests = c.nests }
  param_closed n (Chars t) h e = absurd cc

  pub params_closed : (ns : List Node) → are_sound_nodes ns ≡ true
      → params_faults reading p ns ≡ [] → ClosedParams p.in_group (params_value reading p ns)
  params_closed [] h e = no_params p.in_group
  params_closed (n ∷ ns) h e =
      let k = and_parts (is_sound_node n) (are_sound_nodes ns) h in
      let layer = param_layer_faults reading p n (out-Node n) in
      and_param p.in_group (param_layer_value reading p (out-Node n)) (params_value reading p ns)
      (param_closed n (out-Node n) (sound_form n k.0) (front_nil layer _ e))
      (params_closed ns k.1 (back_nil layer _ e))

-- a parameter of a function
argument_closed : (p : StaticContext) → GoodPlace p → (attributes : List Attribute) (kids : List Node)
    → argument_faults reading p attributes kids ≡ []
    → ClosedParam p.in_group (argument_value reading p attributes)
argument_closed p g attributes kids f =
    let kind = attribute attributes (codes "as") in
    let a = back_nil (attribute_faults element.Param attributes) _ f in
    let must = broken XTSE0760 (has attributes (codes "select") || not (is_none kids)) in
    let b = back_nil must _ a in
    let c = back_nil (tunnel_faults attributes) _ b in
    let n = needed_name p g attributes (front_nil (name_faults p attributes) _ c) in
    let k = optional_type p g kind (back_nil (name_faults p attributes) _ c) in
    let v = required_closed p.in_group 40 in
    let x = bound_rolled p.in_group 40 true (record {
      name = needed_value (qname_value p.bound) (attribute attributes (codes "name"));
      kind = optional_value (type_value p) kind;
      value = Required;
      tunnel = false;
    }) n k v.good v.stands v.required_so v.nests in
    record { good = x.good; stands = x.stands; nests = x.nests }

module _ (p : StaticContext) (g : GoodPlace p) where
  argument_layer_closed : (n : Node) (f : Node-F Node) → SoundForm f
      → argument_layer_faults reading p n f ≡ []
      → ClosedParam p.in_group (argument_layer_value reading p f)
  argument_layer_closed n (Elem own name attributes kids) h e =
      let s = sound_element own name attributes kids h in
      argument_closed (within p own) (good_inner p own g s.bound) attributes kids e
  argument_layer_closed n (Chars t) h e = absurd cc

  pub arguments_closed : (ns : List Node) → are_sound_nodes ns ≡ true
      → arguments_faults reading p ns ≡ []
      → ClosedParams p.in_group (arguments_value reading p ns)
  arguments_closed [] h e = no_params p.in_group
  arguments_closed (n ∷ ns) h e =
      let k = and_parts (is_sound_node n) (are_sound_nodes ns) h in
      let layer = argument_layer_faults reading p n (out-Node n) in
      and_param p.in_group (argument_layer_value reading p (out-Node n))
      (arguments_value reading p ns)
      (argument_layer_closed n (out-Node n) (sound_form n k.0) (front_nil layer _ e))
      (arguments_closed ns k.1 (back_nil layer _ e))

-- the parameters, of which no two have one name, and what comes after them
pub front_sound : (kids : List Node) → are_sound_nodes kids ≡ true
    → are_sound_nodes (front kids) ≡ true
front_sound kids h = leading_sound (is_lead content.Params) kids h

pub record ClosedCallee (grouped : Bool) (bs : Bounds) (body : Instrs) : Type 0 where
  pub stands : params_stand bs grouped ≡ true
  pub body_closed : ClosedBody grouped 40 body

differ : (b : Bool) → broken XTSE0580 (not b) ≡ [] → b ≡ true
differ true e = refl
differ false e = absurd cc

pub callee_closed : (p : StaticContext) → GoodPlace p → (bs : Bounds) (kids : List Node)
    → are_sound_nodes kids ≡ true → ClosedParams p.in_group bs
    → behind_faults reading p bs kids ≡ []
    → ClosedCallee p.in_group bs (behind_value reading p kids)
callee_closed p g bs kids h c e =
    let n = differ (names_differ (map bound_name bs))
    (front_nil (repeats_broken XTSE0580 bs) _ e) in
    record {
      stands = and_from (names_differ (bound_names (map bound_stands bs))) _
          (ap names_differ (same_names bs) ∙ n) c.stands;
      body_closed = body_made 40 p g (rest kids)
          (behind_sound (is_lead content.Params) kids h)
          (back_nil (repeats_broken XTSE0580 bs) _ e);
    }
