-- Names of elements and attributes, fixed or computed, are those of the stylesheet.
use Rattle.std.proofs.Common.{◌≡◌, ℕ, List, [], ◌∷◌, refl, sym, ap, ◌∙◌, subst}
use Rattle.std.proofs.lemmas.Bool.{and_parts}
use Rattle.std.specs.Prelude.{Bool, true, false, ◌&&◌, not, codes, if◌then◌else◌}
use Rattle.std.specs.Prelude.{Option, Some, None, Result, Ok, Err}
use Rattle.std.specs.List.{list_all}
use Rattle.std.specs.Str.{bytes_eq}
use Rattle.xt_names.specs.Allowed.{is_allowed_name, is_empty_text}
use Rattle.xt_names.specs.declared.codes.Code.{Code}
use Rattle.xt_names.specs.declared.codes.Code.TheVariants.{SheetDynamic}
use Rattle.xt_names.specs.declared.codes.SheetDynamicCode.TheVariants.{XTDE0820, XTDE0830, XTDE0850}
use Rattle.xt_names.specs.declared.codes.SheetDynamicCode.TheVariants.{XTDE0855, XTDE0860}
use Rattle.xt_names.specs.declared.names.Binding.{Binding}
use Rattle.xt_names.specs.declared.names.Name.{Name}
use Rattle.xt_tree.specs.Sound.{is_sound_name, is_named_xmlns}
use Rattle.xdm_items.specs.declared.items.Item.{Item}
use Rattle.xdm_items.specs.FunctionArguments.Answers.{of_text}
use Rattle.xt_syntax.specs.declared.exprs.Expr.{Expr}
use Rattle.xt_syntax.specs.declared.exprs.NameSource.{NameSource}
use Rattle.xt_syntax.specs.declared.exprs.Clause.TheOpen.{Computed}
use Rattle.xt_sheets.specs.declared.values.AvtName.{AvtName}
use Rattle.expr_meaning.specs.Outcomes.Outcome.{Outcome, Ends, Fails, and_then, step_outcome}
use Rattle.expr_meaning.specs.Outcomes.Follow.{Relation, IsCarrying}
use Rattle.expr_meaning.proofs.OutcomesLemmas.Steps.{then_assoc}
use Rattle.xdm_items.specs.FunctionArguments.Arguments.{and_then as result_then}
use Rattle.expr_meaning.specs.Env.{Env, Program, bind, look_up, with_bound}
use Rattle.expr_meaning.specs.Meaning.{meanings, steps, outcome}
use Rattle.expr_meaning.specs.Names.{attribute_name_at, element_name_at, name_of_items}
use Rattle.expr_meaning.specs.Names.{attribute_name as checked_attribute}
use Rattle.expr_laws.specs.Carrier.{IsAttributeName, IsName, OnValue}
use Rattle.expr_laws.proofs.Rolled.{rolled_name}
use Rattle.meaning_laws.specs.SoundValues.Sound.{IsSound}
use Rattle.closed_queries.specs.Texts.{is_free_uri}
use Rattle.closed_sheets.specs.Values.{is_good_binding, is_good_name, is_good_template}
use Rattle.carry_laws.specs.Seen.{ProgramsCarry}
use Rattle.query_helpers.proofs.Gives.{let_of}
use Rattle.transform_meaning.specs.Instrs.{attribute_name_means, element_name_means}
use Rattle.transform_meaning.specs.Names.{attribute_name, attribute_named, element_name, element_named}
use Rattle.transform_meaning.specs.Names.{NameMeaning, spelled_name}
use Rattle.transform_meaning.specs.Texts.{TextMeaning, template_means}
use Rattle.translated_forms.specs.NodeNames.{attribute_source, attribute_spelled, computed, element_source}
use Rattle.translated_forms.specs.NodeNames.{name_of_text, name_source, of_spelled, of_text as text_source}
use Rattle.translated_forms.specs.NodeNames.{element_spelled, qname_call, the_text}
use Rattle.translated_forms.specs.Names.{text_name}
use Rattle.translated_forms.specs.Places.{Table, carried_at, of_function, setting_at}
use Rattle.translated_forms.specs.Texts.{fixed_text, template_text}
use Rattle.translation.specs.Stands.{template_fits}
use Rattle.lockstep.specs.Helpers.{HelpersCarry}
use Rattle.lockstep.specs.Spots.{Spot, stand_at}
use Rattle.lockstep.proofs.ChosenUris.{IsSoundName, chosen_default, chosen_is, chosen_uri, of_chosen}
use Rattle.lockstep.proofs.ChosenUris.{qname_plain}
use Rattle.xt_syntax.specs.Layers.{name_gives}
use Rattle.std.proofs.lemmas.Slice.Eq.{bytes_eq-Decides}
use Rattle.lockstep.proofs.ComputedNames.{IsThat, spelled_is}
use Rattle.lockstep.proofs.ElementNames.{IfGives, name_given, one_name, uri_expr}
use Rattle.lockstep.proofs.Exprs.{HasLocalNames}
use Rattle.lockstep.proofs.Forms.{AlwaysFails}
use Rattle.lockstep.proofs.Frame.{frame}
use Rattle.lockstep.proofs.Literals.{allowed_attribute, fixed_attribute, fixed_element}
use Rattle.lockstep.proofs.Makes.{sheets}
use Rattle.lockstep.proofs.Making.{AttributeNamed, ElementNamed}
use Rattle.lockstep.proofs.Templates.{fixed_is, template_done}
use Rattle.lockstep.proofs.Texts.{TextMeets, text_then}
use Rattle.xt_names.proofs.BoolLemmas.{is_false}

held : (f : Env) (v : List ℕ) →
    look_up (with_bound ((text_name, of_text v) ∷ []) f.locals) text_name ≡ Some (of_text v)
unfolding look_up
held f v = refl

module _ (like : Code → Code → Type 0) (lax : (a b : Code) → like a b) (rel : Relation)
    (carries : IsCarrying like rel) (t : Table) (q : Program) where
  -- the name of an element, as a value or an error on both sides
  abbrev SoundName : Name → Type 0
  SoundName n = IsName (frame like lax rel carries t) n

  sound_of : (v : Result Name Code) → OnValue SoundName v → OnValue IsSoundName v
  sound_of (Ok n) h = h tt
  sound_of (Err code) h = tt

  abbrev items_name : List Item → ℕ → Outcome Name
  items_name xs i = step_outcome (name_of_items q.namespaces q.element_default xs) i

  element_step : (r : Result Name Code) → OnValue SoundName r → (g : ℕ → Outcome (List Item))
      (o : Option Name) → IsThat r o → IfGives q one_name g o → (k : ℕ) →
      rel Name SoundName (step_outcome r k) (and_then (g k) items_name)
  element_step (Ok n) h g (Some m) is gives k =
      rw (gives k) (subst (λ z. rel Name SoundName (Ends n k) (Ends z k)) is (carries.ends _ _ n k h))
  element_step (Ok n) h g None is gives k = absurd is
  element_step (Err c) h g (Some m) is gives k = absurd is
  element_step (Err c) h g None is gives k =
      let e = gives k in rw (e.1) (carries.errors _ _ _ _ (lax c e.0))

  computed_element : (x : Spot) (scope : List Binding) (default : List ℕ) →
      list_all is_good_binding scope ≡ true → is_free_uri default ≡ true → (m : TextMeaning) (e : Expr) →
      TextMeets like lax rel carries t q x m e →
      ElementNamed like lax rel carries t q x (element_named scope default m)
      (computed (name_of_text scope default e))
  unfolding name_of_text
  computed_element x scope default good free m e h a b at k =
      rw (
        rolled_name q (Computed (name_of_text scope default e)),
        let_of q text_name e (qname_call (uri_expr scope default) the_text) b k,
        then_assoc (outcome q e b k)
            (λ xs. outcome q (qname_call (uri_expr scope default) the_text) (bind text_name xs b)) items_name,
      )
      (text_then like lax rel carries t q Name SoundName (m a k) (outcome q e b k) _ _ (h a b at k)
      (λ v j xml.
      let known = (sheets like lax rel carries t).element_name scope default v (λ s. good) (λ s. free) in
      element_step (element_name scope default v) known
      (outcome q (qname_call (uri_expr scope default) the_text) (bind text_name (of_text v) b))
      (of_chosen v (chosen_uri scope default v))
      (chosen_is (SheetDynamic XTDE0820) (SheetDynamic XTDE0830) scope default v
      (sound_of (element_name scope default v) known))
      (name_given q v (bind text_name (of_text v) b) (held b v) scope default) j))

  -- the name of an attribute
  abbrev AttributeName : Name → Type 0
  AttributeName n = IsAttributeName (frame like lax rel carries t) n

  sound_attribute : (v : Result Name Code) → OnValue AttributeName v → OnValue IsSoundName v
  sound_attribute (Ok n) h = (and_parts (is_sound_name n) (not (is_named_xmlns n)) (h tt)).0
  sound_attribute (Err code) h = tt

  abbrev attribute_items : List Item → ℕ → Outcome Name
  attribute_items xs i = step_outcome (result_then (name_of_items q.namespaces [] xs) checked_attribute) i

  attribute_step : (r : Result Name Code) → OnValue AttributeName r → (g : ℕ → Outcome (List Item))
      (o : Option Name) → IsThat r o → IfGives q one_name g o → (k : ℕ) →
      rel Name AttributeName (step_outcome r k) (and_then (g k) attribute_items)
  attribute_step (Ok n) h g (Some m) is gives k =
      let p = and_parts (is_sound_name n) (not (is_named_xmlns n)) (h tt) in
      rw (gives k, sym is, allowed_attribute q n (is_false (is_named_xmlns n) p.1) k)
      (carries.ends _ _ n k h)
  attribute_step (Ok n) h g None is gives k = absurd is
  attribute_step (Err c) h g (Some m) is gives k = absurd is
  attribute_step (Err c) h g None is gives k =
      let e = gives k in rw (e.1) (carries.errors _ _ _ _ (lax c e.0))

  -- xmlns is no name of an attribute
  abbrev xmlns_name : Name
  xmlns_name = record { prefix = []; uri = []; local = codes "xmlns" }

  xmlns_refused : (code : Code) (b : Bool) (g : ℕ → Outcome (List Item)) →
      IfGives q one_name g (if b then Some xmlns_name else None) → (k : ℕ) →
      rel Name AttributeName (Fails code) (and_then (g k) attribute_items)
  unfolding is_empty_text
  xmlns_refused code true g gives k = rw (gives k) (carries.errors _ _ _ _ (lax _ _))
  xmlns_refused code false g gives k =
      let e = gives k in rw (e.1) (carries.errors _ _ _ _ (lax _ e.0))

  attribute_of : (scope : List Binding) → list_all is_good_binding scope ≡ true → (v : List ℕ)
      (g : ℕ → Outcome (List Item)) → IfGives q one_name g (of_chosen v (chosen_uri scope [] v)) → (k : ℕ) →
      rel Name AttributeName (step_outcome (attribute_name scope v) k) (and_then (g k) attribute_items)
  attribute_of scope good v g gives k =
      by (bytes_eq v (codes "xmlns")) refl
      ((sheets like lax rel carries t).attribute_name scope v (λ s. good))
    where
      by : (b : Bool) → bytes_eq v (codes "xmlns") ≡ b →
          OnValue AttributeName (if b then Err (SheetDynamic XTDE0855)
          else spelled_name (SheetDynamic XTDE0850) (SheetDynamic XTDE0860) scope [] v) →
          rel Name AttributeName (step_outcome (if b then Err (SheetDynamic XTDE0855)
          else spelled_name (SheetDynamic XTDE0850) (SheetDynamic XTDE0860) scope [] v) k)
          (and_then (g k) attribute_items)
      by true e h =
          let same = (bytes_eq-Decides v (codes "xmlns")).0 e in
          xmlns_refused (SheetDynamic XTDE0855) (is_allowed_name [] [] (codes "xmlns")) g
          (subst (IfGives q one_name g) (ap (of_chosen (codes "xmlns")) (chosen_default scope [] (codes "xmlns") refl)
          ∙ qname_plain [] (codes "xmlns") refl)
          (subst (λ w. IfGives q one_name g (of_chosen w (chosen_uri scope [] w))) same gives)) k
      by false e h =
          let r = spelled_name (SheetDynamic XTDE0850) (SheetDynamic XTDE0860) scope [] v in
          attribute_step r h g (of_chosen v (chosen_uri scope [] v))
          (chosen_is (SheetDynamic XTDE0850) (SheetDynamic XTDE0860) scope [] v (sound_attribute r h)) gives k

  computed_attribute : (x : Spot) (scope : List Binding) → list_all is_good_binding scope ≡ true →
      (m : TextMeaning) (e : Expr) → TextMeets like lax rel carries t q x m e →
      AttributeNamed like lax rel carries t q x (attribute_named scope m)
      (computed (name_of_text scope [] e))
  unfolding name_of_text
  computed_attribute x scope good m e h a b at k =
      rw (
        rolled_name q (Computed (name_of_text scope [] e)),
        let_of q text_name e (qname_call (uri_expr scope []) the_text) b k,
        then_assoc (outcome q e b k)
            (λ xs. outcome q (qname_call (uri_expr scope []) the_text) (bind text_name xs b)) attribute_items,
      )
      (text_then like lax rel carries t q Name AttributeName (m a k) (outcome q e b k) _ _ (h a b at k)
      (λ v j xml.
      attribute_of scope good v
      (outcome q (qname_call (uri_expr scope []) the_text) (bind text_name (of_text v) b))
      (name_given q v (bind text_name (of_text v) b) (held b v) scope []) j))

  -- names that are fixed
  abbrev ElementOr : Spot → NameMeaning → Option NameSource → Type 0
  ElementOr x m None = AlwaysFails m
  ElementOr x m (Some n) = ElementNamed like lax rel carries t q x m n

  abbrev AttributeOr : Spot → NameMeaning → Option NameSource → Type 0
  AttributeOr x m None = AlwaysFails m
  AttributeOr x m (Some n) = AttributeNamed like lax rel carries t q x m n

  element_fixed : (x : Spot) (prefixes : List Binding) (m : NameMeaning) (r : Result Name Code) →
      OnValue SoundName r → (o : Option Name) → IsThat r o →
      ((a : Env) (k : ℕ) → m a k ≡ step_outcome r k) → ElementOr x m (of_spelled prefixes o)
  element_fixed x prefixes m (Ok n) h (Some u) is gives = λ a b at k.
      rw (gives a k) (subst (λ w. rel Name SoundName (Ends n k)
      (element_name_at q (name_gives meanings (steps q) (name_source prefixes w)) b k)) is
      (fixed_element like lax rel carries t q x prefixes n (h tt) a b at k))
  element_fixed x prefixes m (Ok n) h None is gives = absurd is
  element_fixed x prefixes m (Err c) h (Some u) is gives = absurd is
  element_fixed x prefixes m (Err c) h None is gives = λ a k. (c, gives a k)

  attribute_fixed : (x : Spot) (prefixes : List Binding) (m : NameMeaning) (r : Result Name Code) →
      OnValue AttributeName r → (o : Option Name) → IsThat r o →
      ((a : Env) (k : ℕ) → m a k ≡ step_outcome r k) → AttributeOr x m (of_spelled prefixes o)
  attribute_fixed x prefixes m (Ok n) h (Some u) is gives = λ a b at k.
      rw (gives a k) (subst (λ w. rel Name AttributeName (Ends n k)
      (attribute_name_at q (name_gives meanings (steps q) (name_source prefixes w)) b k)) is
      (fixed_attribute like lax rel carries t q x prefixes n (h tt) a b at k))
  attribute_fixed x prefixes m (Ok n) h None is gives = absurd is
  attribute_fixed x prefixes m (Err c) h (Some u) is gives = absurd is
  attribute_fixed x prefixes m (Err c) h None is gives = λ a k. (c, gives a k)

  module _ (local : HasLocalNames t) (p : Program)
      (programs : ProgramsCarry rel IsSound (setting_at t of_function) p q)
      (helpers : HelpersCarry rel q) where
    pub element_name_done : (x : Spot) (n : AvtName Expr) → template_fits (stand_at x) n.text ≡ true →
        is_good_name n ≡ true →
        ElementOr x (element_name_means p n) (element_source t.prefixes (carried_at t x.place) n)
    unfolding element_source is_good_name
    element_name_done x n fits good = by (fixed_text n.text) refl
      where
        text : is_good_template n.text ≡ true
        text = (and_parts (is_good_template n.text) (list_all is_good_binding n.scope && is_free_uri n.default_uri) good).0

        rest : (list_all is_good_binding n.scope ≡ true) × (is_free_uri n.default_uri ≡ true)
        rest = and_parts (list_all is_good_binding n.scope) (is_free_uri n.default_uri)
            (and_parts (is_good_template n.text) (list_all is_good_binding n.scope && is_free_uri n.default_uri) good).1

        by : (o : Option (List ℕ)) → fixed_text n.text ≡ o →
            ElementOr x (element_name_means p n) (text_source t.prefixes (element_spelled n.scope n.default_uri)
            (name_of_text n.scope n.default_uri (template_text (carried_at t x.place) n.text)) o)
        by (Some v) e =
            element_fixed x t.prefixes (element_name_means p n) (element_name n.scope n.default_uri v)
            ((sheets like lax rel carries t).element_name n.scope n.default_uri v (λ s. rest.0) (λ s. rest.1))
            (element_spelled n.scope n.default_uri v)
            (spelled_is (element_name n.scope n.default_uri v))
            (λ a k. ap (λ o. and_then o (λ w j. step_outcome (element_name n.scope n.default_uri w) j))
            ((fixed_is p n.text text v e).0 a k))
        by None e =
            computed_element x n.scope n.default_uri rest.0 rest.1 (template_means p n.text)
            (template_text (carried_at t x.place) n.text)
            (template_done like lax rel carries t local p q programs helpers x n.text fits text)

    pub attribute_name_done : (x : Spot) (n : AvtName Expr) → template_fits (stand_at x) n.text ≡ true →
        is_good_name n ≡ true →
        AttributeOr x (attribute_name_means p n) (attribute_source t.prefixes (carried_at t x.place) n)
    unfolding attribute_source is_good_name
    attribute_name_done x n fits good = by (fixed_text n.text) refl
      where
        text : is_good_template n.text ≡ true
        text = (and_parts (is_good_template n.text) (list_all is_good_binding n.scope && is_free_uri n.default_uri) good).0

        scope : list_all is_good_binding n.scope ≡ true
        scope = (and_parts (list_all is_good_binding n.scope) (is_free_uri n.default_uri)
            (and_parts (is_good_template n.text) (list_all is_good_binding n.scope && is_free_uri n.default_uri) good).1).0

        by : (o : Option (List ℕ)) → fixed_text n.text ≡ o →
            AttributeOr x (attribute_name_means p n) (text_source t.prefixes (attribute_spelled n.scope)
            (name_of_text n.scope [] (template_text (carried_at t x.place) n.text)) o)
        by (Some v) e =
            attribute_fixed x t.prefixes (attribute_name_means p n) (attribute_name n.scope v)
            ((sheets like lax rel carries t).attribute_name n.scope v (λ s. scope))
            (attribute_spelled n.scope v) (spelled_is (attribute_name n.scope v))
            (λ a k. ap (λ o. and_then o (λ w j. step_outcome (attribute_name n.scope w) j))
            ((fixed_is p n.text text v e).0 a k))
        by None e =
            computed_attribute x n.scope scope (template_means p n.text)
            (template_text (carried_at t x.place) n.text)
            (template_done like lax rel carries t local p q programs helpers x n.text fits text)
