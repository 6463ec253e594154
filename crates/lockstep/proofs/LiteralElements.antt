-- Literal elements: attributes in order, and then the content.
use Rattle.std.proofs.Common.{◌≡◌, ℕ, List, [], ◌∷◌, ◌++◌, refl, sym, ap, ◌∙◌, map}
use Rattle.std.proofs.lemmas.Bool.{and_parts}
use Rattle.std.proofs.lemmas.List.{append-nil, map-append}
use Rattle.std.specs.Prelude.{Bool, true, false, ◌&&◌, flat_map}
use Rattle.std.specs.List.{list_all}
use Rattle.xt_names.specs.declared.codes.Code.{Code}
use Rattle.xt_names.specs.declared.names.Name.{Name}
use Rattle.xt_tree.specs.Sound.{is_sound_name, is_named_xmlns}
use Rattle.xt_tree.specs.declared.attributes.Attribute.{Attribute}
use Rattle.xt_tree.specs.declared.trees.Tree.TheVariants as tree
use Rattle.xdm_items.specs.declared.items.Item.{Item}
use Rattle.node_builder.specs.Made.{Gives, Fails as Refuses}
use Rattle.node_builder.specs.Trees.{numbered, limited, is_within_limits}
use Rattle.xt_names.specs.declared.codes.Code.TheVariants.{Dynamic}
use Rattle.xt_names.specs.declared.codes.DynamicCode.TheVariants.{XTLM0001, XTLM0002}
use Rattle.std.specs.Prelude.{nat_eq, if◌then◌else◌}
use Rattle.expr_meaning.specs.Outcomes.Outcome.{Anything}
use Rattle.expr_meaning.proofs.OutcomesLemmas.Relations.{nothing_known}
use Rattle.name_rules.specs.Scopes.{are_new}
use Rattle.translated_forms.specs.Making.{expr_name}
use Rattle.xt_syntax.specs.declared.exprs.Expr.{Expr}
use Rattle.xt_syntax.specs.declared.exprs.Clause.TheViews.{roll-Expr}
use Rattle.xt_syntax.specs.declared.exprs.Clause.TheOpen.{ElemC}
use Rattle.xt_sheets.specs.declared.values.LiteralAttr.{LiteralAttr}
use Rattle.closed_queries.specs.Texts.{is_sound_attribute_name, is_sound_name as is_name}
use Rattle.closed_sheets.specs.Values.{is_good_attribute, is_good_template}
use Rattle.name_rules.specs.Scopes.{names_differ as all_differ}
use Rattle.expr_meaning.specs.Outcomes.Outcome.{Outcome, Ends, Fails, Deep, and_then, for_each, OnEnds, Every}
use Rattle.expr_meaning.specs.Outcomes.Follow.{Relation, IsCarrying}
use Rattle.expr_meaning.proofs.OutcomesLemmas.Relations.{every_append}
use Rattle.expr_meaning.proofs.OutcomesLemmas.Steps.{then_assoc, then_on, then_same}
use Rattle.expr_meaning.specs.Env.{Env, Meaning, Program}
use Rattle.expr_meaning.specs.Making.{made, made_outcome}
use Rattle.expr_meaning.specs.Meaning.{outcome}
use Rattle.expr_meaning.specs.Values.{comma_of}
use Rattle.meaning_laws.specs.SoundValues.Sound.{IsSound}
use Rattle.carry_laws.specs.Seen.{ProgramsCarry}
use Rattle.transform_meaning.specs.Bindings.{Doing, body_of}
use Rattle.transform_meaning.specs.Instrs.{attribute_means}
use Rattle.transform_meaning.specs.Making.{attribute_in, literal_attribute, literal_made, new_element}
use Rattle.transform_meaning.specs.Texts.{template_means}
use Rattle.transform_laws.proofs.Lists.{Pairs}
use Rattle.translated_forms.specs.Bodies.{Part, items_of, body_of as body_of_parts}
use Rattle.translated_forms.specs.Forms.{comma}
use Rattle.translated_forms.specs.Making.{attribute_name, kept_last, literal_content}
use Rattle.translated_forms.specs.Making.{literal_attribute as attribute_expr_of}
use Rattle.translated_forms.specs.NodeNames.{name_source}
use Rattle.translated_forms.specs.Places.{Table, carried_at, of_function, setting_at}
use Rattle.translated_forms.specs.Texts.{template_text}
use Rattle.translation.specs.Stands.{attribute_fits}
use Rattle.lockstep.specs.Helpers.{HelpersCarry}
use Rattle.lockstep.specs.Spots.{Spot, stand_at}
use Rattle.lockstep.proofs.AttributeNames.{by_names, differ, names_apart}
use Rattle.lockstep.proofs.Contents.{no_attributes}
use Rattle.lockstep.proofs.Elements.{ContentMeets, NamesDiffer, content_last, content_plain}
use Rattle.lockstep.proofs.Exprs.{HasLocalNames}
use Rattle.lockstep.proofs.Frame.{Meets}
use Rattle.lockstep.proofs.Lets.{comma_is}
use Rattle.lockstep.proofs.Literals.{fixed_attribute, fixed_element}
use Rattle.lockstep.proofs.Making.{attribute_done, element_done}
use Rattle.lockstep.proofs.Parts.{IsContentNode, PartMeets, all_items, items_done, nodes_done}
use Rattle.lockstep.proofs.Templates.{template_done}

append_behind : (us ys xs : List Item) → us ++ (ys ++ xs) ≡ (us ++ ys) ++ xs
append_behind [] ys xs = refl
append_behind (u ∷ us) ys xs = ap (λ zs. u ∷ zs) (append_behind us ys xs)

then_itself : (o : Outcome (List Item)) → and_then o (λ xs i. Ends xs i) ≡ o
then_itself (Ends xs i) = refl
then_itself (Fails code) = refl
then_itself Deep = refl

-- one list of meanings after another
comma_append : (ms ns : List Meaning) (f : Env) (k : ℕ) → comma_of (ms ++ ns) f k
    ≡ and_then (comma_of ms f k) (λ ys j. and_then (comma_of ns f j) (λ xs i. Ends (ys ++ xs) i))
comma_append [] ns f k = sym (then_itself (comma_of ns f k))
comma_append (m ∷ ms) ns f k =
    then_same (m f k) _ _ (λ us j.
    ap (λ o. and_then o (λ vs i. Ends (us ++ vs) i)) (comma_append ms ns f j)
    ∙ then_assoc (comma_of ms f j) _ (λ vs i. Ends (us ++ vs) i)
    ∙ then_same (comma_of ms f j) _ _ (λ ys i.
    then_assoc (comma_of ns f i) (λ xs l. Ends (ys ++ xs) l) (λ vs l. Ends (us ++ vs) l)
    ∙ then_same (comma_of ns f i) _ _ (λ xs l. ap (λ zs. Ends zs l) (append_behind us ys xs)))
    ∙ sym (then_assoc (comma_of ms f j) (λ vs i. Ends (us ++ vs) i)
    (λ ys i. and_then (comma_of ns f i) (λ xs l. Ends (ys ++ xs) l))))
    ∙ sym (then_assoc (m f k) _ _)

module _ (like : Code → Code → Type 0) (lax : (a b : Code) → like a b) (rel : Relation)
    (carries : IsCarrying like rel) (t : Table) (local : HasLocalNames t) (p q : Program)
    (programs : ProgramsCarry rel IsSound (setting_at t of_function) p q)
    (helpers : HelpersCarry rel q) where
  abbrev here : Spot → Meaning → Expr → Type 0
  here x m e = Meets like lax rel carries t x m (outcome q e)

  abbrev expr_of : Spot → LiteralAttr Expr → Expr
  expr_of x a = attribute_expr_of t.prefixes (carried_at t x.place) a

  one_done : (x : Spot) (a : LiteralAttr Expr) → attribute_fits (stand_at x) a ≡ true →
      is_good_attribute a ≡ true →
      here x (λ e. literal_attribute e (attribute_means p a)) (expr_of x a)
  unfolding is_good_attribute is_sound_attribute_name is_name is_sound_name is_named_xmlns
  one_done x a fits good =
      let g = and_parts (is_sound_attribute_name a.name) (is_good_template a.value) good in
      attribute_done like lax rel carries t q x (λ e k. Ends a.name k) (name_source t.prefixes a.name)
      (fixed_attribute like lax rel carries t q x t.prefixes a.name g.0) (template_means p a.value)
      (template_text (carried_at t x.place) a.value)
      (template_done like lax rel carries t local p q programs helpers x a.value fits g.1)

  abbrev all_made : List (LiteralAttr Expr) → Meaning
  all_made attrs e = for_each (literal_attribute e) (map (attribute_means p) attrs)

  all_done : (x : Spot) (attrs : List (LiteralAttr Expr)) →
      list_all (attribute_fits (stand_at x)) attrs ≡ true → list_all is_good_attribute attrs ≡ true →
      Meets like lax rel carries t x (all_made attrs) (comma_of (map (outcome q) (map (expr_of x) attrs)))
  all_done x [] f g a b at k = carries.ends _ _ _ _ tt
  all_done x (u ∷ us) f g a b at k =
      let c = and_parts (attribute_fits (stand_at x) u) (list_all (attribute_fits (stand_at x)) us) f in
      let d = and_parts (is_good_attribute u) (list_all is_good_attribute us) g in
      carries.next _ _ (Every IsSound) (Every IsSound) _ (outcome q (expr_of x u) b k) _ _
      (one_done x u c.0 d.0 a b at k) (λ ys j e.
      carries.next _ _ (Every IsSound) (Every IsSound) (all_made us a j) _ _ _ (all_done x us c.1 d.1 a b at j)
      (λ zs i h. carries.ends _ _ _ _ (every_append IsSound ys zs e h)))

  -- the attributes, and then the content
  abbrev whole : List (LiteralAttr Expr) → Meaning → Meaning
  whole attrs m e k =
      and_then (all_made attrs e k) (λ ys j. and_then (m e j) (λ xs i. Ends (ys ++ xs) i))

  whole_done : (x : Spot) (attrs : List (LiteralAttr Expr)) →
      list_all (attribute_fits (stand_at x)) attrs ≡ true → list_all is_good_attribute attrs ≡ true →
      (ds : List Doing) (ps : List Part) → Pairs (PartMeets like lax rel carries t q x) ds ps →
      here x (whole attrs (body_of ds)) (comma (map (expr_of x) attrs ++ items_of (body_of_parts ps)))
  whole_done x attrs f g ds ps h a b at k =
      rw (
        comma_is q (map (expr_of x) attrs ++ items_of (body_of_parts ps)) b k,
        map-append (outcome q) (map (expr_of x) attrs) (items_of (body_of_parts ps)),
        comma_append (map (outcome q) (map (expr_of x) attrs))
            (map (outcome q) (items_of (body_of_parts ps))) b k,
      )
      (carries.next _ _ (Every IsSound) (Every IsSound) (all_made attrs a k) _ _ _
      (all_done x attrs f g a b at k) (λ ys j e.
      carries.next _ _ (Every IsSound) (Every IsSound) (body_of ds a j)
      (all_items like lax rel carries t q ps b j) _ _
      (items_done like lax rel carries t q x ds ps h a b at j)
      (λ xs i u. carries.ends _ _ _ _ (every_append IsSound ys xs e u))))

  literal_is : (name : Name) (attrs : List (LiteralAttr Expr)) (m : Meaning) (a : Env) (k : ℕ) →
      literal_made name (map (attribute_means p) attrs) m a k
      ≡ and_then (whole attrs m a k) (new_element name)
  literal_is name attrs m a k =
      sym (then_assoc (all_made attrs a k) _ (new_element name)
      ∙ then_same (all_made attrs a k) _ _ (λ ys j.
      then_assoc (m a j) (λ xs i. Ends (ys ++ xs) i) (new_element name)))

  -- the names of what is made
  abbrev HasNames : List Name → List Item → Type 0
  HasNames names ys = map (λ (a : Attribute). a.name) (flat_map attribute_in ys) ≡ names

  made_named : (name : Name) (v : List ℕ) (k : ℕ) →
      OnEnds (HasNames (name ∷ [])) (made (Gives (tree.Attr name v)) k)
  unfolding numbered limited
  made_named name v k = by (nat_eq k 0xFFFF_FFFF_FFFF_FFFF) (is_within_limits (tree.Attr name v))
    where
      by : (b d : Bool) → OnEnds (HasNames (name ∷ [])) (made_outcome k
          (if b then Refuses (Dynamic XTLM0001)
          else (if d then Gives (tree.Attr name v) else Refuses (Dynamic XTLM0002))))
      by true d = tt
      by false true = refl
      by false false = tt

  attributes_append : (ys zs : List Item) →
      flat_map attribute_in (ys ++ zs) ≡ flat_map attribute_in ys ++ flat_map attribute_in zs
  attributes_append [] zs = refl
  attributes_append (y ∷ ys) zs =
      ap (λ us. attribute_in y ++ us) (attributes_append ys zs)
      ∙ attributes_behind (attribute_in y) (flat_map attribute_in ys) (flat_map attribute_in zs)
    where
      attributes_behind : (us ys xs : List Attribute) → us ++ (ys ++ xs) ≡ (us ++ ys) ++ xs
      attributes_behind [] ys xs = refl
      attributes_behind (u ∷ us) ys xs = ap (λ zs. u ∷ zs) (attributes_behind us ys xs)

  both_named : (ms ns : List Name) (ys zs : List Item) → HasNames ms ys → HasNames ns zs →
      HasNames (ms ++ ns) (ys ++ zs)
  both_named ms ns ys zs h g =
      ap (map (λ (a : Attribute). a.name)) (attributes_append ys zs)
      ∙ map-append (λ (a : Attribute). a.name) (flat_map attribute_in ys) (flat_map attribute_in zs)
      ∙ (λ i. h i ++ g i)

  abbrev names_of : List (LiteralAttr Expr) → List Name
  names_of attrs = map (λ (a : LiteralAttr Expr). a.name) attrs

  all_named : (attrs : List (LiteralAttr Expr)) (a : Env) (k : ℕ) →
      OnEnds (HasNames (names_of attrs)) (all_made attrs a k)
  all_named [] a k = refl
  all_named (u ∷ us) a k =
      then_on (HasNames (u.name ∷ [])) (HasNames (names_of (u ∷ us)))
      (literal_attribute a (attribute_means p u) k) _
      (then_on Anything (HasNames (u.name ∷ [])) (template_means p u.value a k) _ (nothing_known _)
      (λ v j e. made_named u.name v j)) (λ ys j g.
      then_on (HasNames (names_of us)) (HasNames (names_of (u ∷ us))) (all_made us a j) _
      (all_named us a j) (λ zs i h. both_named (u.name ∷ []) (names_of us) ys zs g h))

  no_more : (ns : List Name) → ns ++ [] ≡ ns
  no_more ns = append-nil ns

  whole_differs : (x : Spot) (attrs : List (LiteralAttr Expr)) (ds : List Doing) (ps : List Part) →
      Pairs (PartMeets like lax rel carries t q x) ds ps →
      all_differ (map attribute_name attrs) ≡ true → (body_of_parts ps).are_nodes ≡ true →
      (a : Env) (k : ℕ) → OnEnds NamesDiffer (whole attrs (body_of ds) a k)
  whole_differs x attrs ds ps h apart nodes a k =
      then_on (HasNames (names_of attrs)) NamesDiffer (all_made attrs a k) _ (all_named attrs a k) (λ ys j g.
      then_on (Every IsContentNode) NamesDiffer (body_of ds a j) _
      (nodes_done like lax rel carries t q x ds ps h nodes a j) (λ xs i e.
      by_names (flat_map attribute_in (ys ++ xs))
      ∙ ap differ (both_named (names_of attrs) [] ys xs g (ap (map (λ (a : Attribute). a.name)) (no_attributes xs e))
      ∙ no_more (names_of attrs))
      ∙ names_apart [] (names_of attrs) (ap (are_new []) (names_made attrs) ∙ apart)))
    where
      names_made : (us : List (LiteralAttr Expr)) → map expr_name (names_of us) ≡ map attribute_name us
      names_made [] = refl
      names_made (u ∷ us) = ap (λ ns. expr_name u.name ∷ ns) (names_made us)

  pub literal_done : (x : Spot) (name : Name) (attrs : List (LiteralAttr Expr)) →
      list_all (attribute_fits (stand_at x)) attrs ≡ true → is_name name ≡ true →
      list_all is_good_attribute attrs ≡ true → (ds : List Doing) (ps : List Part) →
      Pairs (PartMeets like lax rel carries t q x) ds ps →
      here x (literal_made name (map (attribute_means p) attrs) (body_of ds))
      (roll-Expr (ElemC (name_source t.prefixes name)
      (literal_content t.prefixes (carried_at t x.place) attrs (body_of_parts ps))))
  unfolding is_name is_sound_name
  literal_done x name attrs f n g ds ps h a b at k =
      rw (literal_is name attrs (body_of ds) a k)
      (element_done like lax rel carries t q x (λ e j. Ends name j) (name_source t.prefixes name)
      (fixed_element like lax rel carries t q x t.prefixes name n) (whole attrs (body_of ds))
      (literal_content t.prefixes (carried_at t x.place) attrs (body_of_parts ps))
      (by (all_differ (map attribute_name attrs)) refl (body_of_parts ps).are_nodes refl) a b at k)
    where
      content : Expr
      content = comma (map (expr_of x) attrs ++ items_of (body_of_parts ps))

      by : (c : Bool) → all_differ (map attribute_name attrs) ≡ c → (d : Bool) →
          (body_of_parts ps).are_nodes ≡ d →
          ContentMeets like lax rel carries t q x (whole attrs (body_of ds)) (kept_last (c && d) content)
      by true e true i =
          content_plain like lax rel carries t q x (whole attrs (body_of ds)) content
          (whole_done x attrs f g ds ps h) (whole_differs x attrs ds ps h e i)
      by true e false i =
          content_last like lax rel carries t q helpers x (whole attrs (body_of ds)) content
          (whole_done x attrs f g ds ps h)
      by false e d i =
          content_last like lax rel carries t q helpers x (whole attrs (body_of ds)) content
          (whole_done x attrs f g ds ps h)
