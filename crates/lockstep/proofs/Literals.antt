-- Literal elements and their attributes, whose names the query writes or computes.
use Rattle.std.proofs.Common.{◌≡◌, ℕ, List, [], ◌∷◌, refl, ap, ◌∙◌}
use Rattle.std.proofs.lemmas.Bool.{and_parts}
use Rattle.std.specs.Prelude.{Bool, true, false, ◌&&◌, not, codes, if◌then◌else◌}
use Rattle.xt_names.specs.declared.codes.Code.{Code}
use Rattle.xt_names.specs.declared.names.Binding.{Binding}
use Rattle.xt_names.specs.declared.names.Name.{Name}
use Rattle.xt_tree.specs.Sound.{is_sound_name, is_named_xmlns}
use Rattle.xt_atoms.specs.AtomTexts.{lexical_qname}
use Rattle.xt_atoms.specs.declared.atoms.Atom.TheVariants as atom
use Rattle.xdm_items.specs.declared.items.Item.TheVariants.{Atom}
use Rattle.xdm_items.specs.Conversion.{converted, converted_atom, converted_item, converted_items}
use Rattle.xdm_items.specs.Conversion.{matched, prepared}
use Rattle.xdm_items.specs.Matching.{allows_count, has_atom_type, matches_item, matches_type}
use Rattle.xdm_items.specs.Values.{atomized}
use Rattle.xdm_items.specs.FunctionArguments.Answers.{of_text}
use Rattle.xdm_items.specs.FunctionArguments.Arguments.{optional_text_argument, text_argument, text_or_empty_argument}
use Rattle.function_table.specs.Find.{found, found_in, is_in_fn}
use Rattle.function_table.specs.Table.{joined}
use Rattle.function_table.specs.declared.builtins.Builtin.TheVariants as function
use Rattle.fn_lib.specs.Functions.{function_value, value_of}
use Rattle.text_functions.specs.NameFunctions.QNames.{named, qname_of, spelled_name}
use Rattle.xt_syntax.specs.declared.exprs.Expr.{Expr}
use Rattle.xt_syntax.specs.declared.exprs.NameSource.{NameSource}
use Rattle.xt_syntax.specs.declared.exprs.Clause.TheOpen.{Fixed, Computed}
use Rattle.xt_syntax.specs.Layers.{name_gives}
use Rattle.expr_meaning.specs.Outcomes.Outcome.{Ends, step_outcome}
use Rattle.expr_meaning.specs.Outcomes.Follow.{Relation, IsCarrying}
use Rattle.expr_meaning.specs.Calls.{called, library}
use Rattle.expr_meaning.specs.Env.{Env, Program}
use Rattle.expr_meaning.specs.Meaning.{meanings, steps}
use Rattle.expr_meaning.specs.Names.{attribute_name, attribute_name_at, element_name_at}
use Rattle.expr_laws.proofs.Rolled.{rolled_name}
use Rattle.query_helpers.proofs.Gives.{Gives, gives_call_of_two, gives_text}
use Rattle.translated_forms.specs.Forms.{text_literal}
use Rattle.translated_forms.specs.NodeNames.{computed, fixed, is_fixed, name_source, qname_call}
use Rattle.translated_forms.specs.Places.{Table}
use Rattle.lockstep.specs.Spots.{Spot}
use Rattle.lockstep.proofs.Making.{AttributeNamed, ElementNamed}
use Rattle.lockstep.proofs.SpelledNames.{spelled_again}
use Rattle.lockstep.proofs.ChosenUris.{sound_allowed}
use Rattle.xt_names.specs.ExprNames.{library_name}
use Rattle.xt_names.proofs.BoolLemmas.{is_false}

pub qname_called : called (library_name (codes "QName")) 2 ≡ library function.QName
unfolding called found found_in joined is_in_fn
qname_called = refl

-- the name that QName() gives
pub qname_value : (uri text : List ℕ) → function_value function.QName (of_text uri ∷ of_text text ∷ [])
    ≡ named (spelled_name uri text)
unfolding function_value value_of qname_of text_or_empty_argument optional_text_argument text_argument converted prepared matched converted_items converted_item converted_atom atomized matches_type allows_count matches_item has_atom_type
qname_value uri text = refl

module _ (q : Program) where
  abbrev pub NameIs : NameSource → Name → Type 0
  NameIs source n = (f : Env) (k : ℕ) →
      (element_name_at q (name_gives meanings (steps q) source) f k ≡ Ends n k)
      × (attribute_name_at q (name_gives meanings (steps q) source) f k ≡ step_outcome (attribute_name n) k)

  written_name : (n : Name) → is_sound_name n ≡ true → (f : Env) →
      Gives q (qname_call (text_literal n.uri) (text_literal (lexical_qname n.prefix n.local))) f
      (Atom (atom.QName n) ∷ [])
  written_name n h f =
      gives_call_of_two q (library_name (codes "QName")) function.QName (text_literal n.uri)
      (text_literal (lexical_qname n.prefix n.local)) f (of_text n.uri)
      (of_text (lexical_qname n.prefix n.local)) (Atom (atom.QName n) ∷ []) qname_called
      (gives_text q n.uri f) (gives_text q (lexical_qname n.prefix n.local) f)
      (qname_value n.uri (lexical_qname n.prefix n.local)
      ∙ ap named (spelled_again n.prefix n.uri n.local (sound_allowed n h)))

  -- a name whose expression gives a name
  pub computed_name : (e : Expr) (n : Name) → ((f : Env) → Gives q e f (Atom (atom.QName n) ∷ [])) →
      NameIs (computed e) n
  computed_name e n h f k = (
    ap (λ m. element_name_at q m f k) (rolled_name q (Computed e)) ∙ rw (h f k) refl,
    ap (λ m. attribute_name_at q m f k) (rolled_name q (Computed e)) ∙ rw (h f k) refl,
  )

  pub name_is : (prefixes : List Binding) (n : Name) → is_sound_name n ≡ true →
      NameIs (name_source prefixes n) n
  unfolding name_source
  name_is prefixes n h = by (is_fixed prefixes n)
    where
      by : (b : Bool) → NameIs (if b then fixed n
          else computed (qname_call (text_literal n.uri) (text_literal (lexical_qname n.prefix n.local)))) n
      by true = λ f k. (
        ap (λ m. element_name_at q m f k) (rolled_name q (Fixed n)),
        ap (λ m. attribute_name_at q m f k) (rolled_name q (Fixed n)),
      )
      by false = computed_name (qname_call (text_literal n.uri) (text_literal (lexical_qname n.prefix n.local)))
          n (written_name n h)

  pub allowed_attribute : (n : Name) → is_named_xmlns n ≡ false → (k : ℕ) →
      step_outcome (attribute_name n) k ≡ Ends n k
  unfolding is_named_xmlns
  allowed_attribute n h k = rw (h) refl

module _ (like : Code → Code → Type 0) (lax : (a b : Code) → like a b) (rel : Relation)
    (carries : IsCarrying like rel) (t : Table) (q : Program) where
  pub fixed_element : (x : Spot) (prefixes : List Binding) (n : Name) → is_sound_name n ≡ true →
      ElementNamed like lax rel carries t q x (λ e k. Ends n k) (name_source prefixes n)
  fixed_element x prefixes n h a b at k =
      rw ((name_is q prefixes n h b k).0) (carries.ends _ _ n k (λ s. h))

  pub fixed_attribute : (x : Spot) (prefixes : List Binding) (n : Name) →
      (is_sound_name n && not (is_named_xmlns n)) ≡ true →
      AttributeNamed like lax rel carries t q x (λ e k. Ends n k) (name_source prefixes n)
  fixed_attribute x prefixes n h a b at k =
      let p = and_parts (is_sound_name n) (not (is_named_xmlns n)) h in
      rw (
        (name_is q prefixes n p.0 b k).1,
        allowed_attribute q n (is_false (is_named_xmlns n) p.1) k,
      ) (carries.ends _ _ n k (λ s. h))
