-- What a call of the function of a key gives.
use Rattle.std.proofs.Common.{◌≡◌, ℕ, suc, List, [], ◌∷◌, map, refl, sym, ap, subst, ◌∙◌}
use Rattle.std.specs.Prelude.{Bool, true, false, if◌then◌else◌, Some, Ok, Err}
use Rattle.std.specs.List.{list_all}
use Rattle.xt_names.specs.declared.kinds.AtomType.TheVariants as type
use Rattle.xt_types.specs.declared.node_tests.Test.TheVariants as test
use Rattle.xt_types.specs.declared.types.Count.TheVariants.{Many, One}
use Rattle.xt_types.specs.declared.types.ItemType.TheVariants.{Atomic, Kind}
use Rattle.xt_types.specs.declared.types.SeqType.TheVariants.{Of}
use Rattle.xt_tree.specs.Place.{Place}
use Rattle.xt_atoms.specs.Casts.{wrong_type}
use Rattle.xt_atoms.specs.declared.atoms.Atom.{Atom as AtomValue}
use Rattle.xt_atoms.specs.declared.atoms.Atom.TheVariants as atom
use Rattle.xdm_items.specs.Conversion.{converted, converted_atom, converted_item, converted_items}
use Rattle.xdm_items.specs.Conversion.{matched, prepared}
use Rattle.xdm_items.specs.Matching.{allows_count, has_atom_type, matches_item, matches_type}
use Rattle.xdm_items.specs.Values.{atomized}
use Rattle.xdm_items.specs.declared.items.Item.{Item}
use Rattle.xdm_items.specs.declared.items.Item.TheVariants.{Node, Atom}
use Rattle.xt_sheets.specs.declared.sheets.KeyRule.{KeyRule}
use Rattle.key_index.specs.Keys.{key_nodes}
use Rattle.doc_set.specs.Sets.{DocumentSet, is_document}
use Rattle.operator_values.specs.Operands.{atom_of}
use Rattle.xdm_items.specs.FunctionArguments.Arguments.{and_then as result_then}
use Rattle.expr_meaning.specs.Outcomes.Outcome.{Outcome, and_then, step_outcome}
use Rattle.expr_meaning.specs.Calls.{no_tree}
use Rattle.expr_meaning.specs.Env.{Binding, look_up}
use Rattle.expr_meaning.specs.Meaning.{outcome}
use Rattle.expr_meaning.specs.Paths.{root_place}
use Rattle.expr_meaning.specs.Queries.{Run, body_env, body_value, bound_params, called_function}
use Rattle.expr_meaning.specs.Queries.{calls_at, program_at, program_of}
use Rattle.meaning_laws.specs.SoundValues.Sound.{IsSound}
use Rattle.carried_exprs.specs.Sights.{item_name}
use Rattle.transform_meaning.specs.Keys.{declarations, found_in, key_pairs}
use Rattle.query_helpers.specs.Helpers.{Has}
use Rattle.query_helpers.specs.Last.{IsPlaced}
use Rattle.query_helpers.proofs.CopyGives.{sound_placed}
use Rattle.query_helpers.proofs.HelperCalls.{body_given}
use Rattle.query_helpers.proofs.LastPure.{placed_is_node}
use Rattle.key_functions.specs.KeyBody.{KeyParts, key_body, key_function, values_name}
use Rattle.key_functions.specs.Keys.{AreDeclared, FindsKeys, IsFailure, SameAs}
use Rattle.key_functions.specs.Keys.{SameOutcome, found_for}
use Rattle.key_functions.proofs.Loops.{body_fails, body_same}
use Rattle.key_functions.proofs.Nodes.{first_place}
use Rattle.key_functions.proofs.Same.{same_step_outcome}

-- the values are atoms of any type
atoms_stay : (a : AtomValue) → converted_atom type.Any a ≡ Ok a
unfolding converted_atom
atoms_stay (atom.Untyped text) = refl
atoms_stay (atom.Str text) = refl
atoms_stay (atom.Int number) = refl
atoms_stay (atom.Bool truth) = refl
atoms_stay (atom.QName name) = refl

all_stay : (us : List AtomValue) → converted_items type.Any (map Atom us) ≡ Ok (map Atom us)
unfolding converted_items converted_item
all_stay [] = refl
all_stay (a ∷ us) = rw (atoms_stay a, all_stay us) refl

all_match : (us : List AtomValue) → list_all (matches_item (Atomic type.Any)) (map Atom us) ≡ true
unfolding matches_item has_atom_type
all_match [] = refl
all_match (a ∷ us) = all_match us

abbrev values_of : List Item → List AtomValue
values_of xs = map atom_of xs

atoms_of_all : (xs : List Item) → atomized xs ≡ map Atom (values_of xs)
unfolding atomized
atoms_of_all [] = refl
atoms_of_all (Node n ∷ xs) = ap (λ (z : List Item). Atom (atom_of (Node n)) ∷ z) (atoms_of_all xs)
atoms_of_all (Atom a ∷ xs) = ap (λ (z : List Item). Atom a ∷ z) (atoms_of_all xs)

values_converted : (xs : List Item) →
    converted (Of (Atomic type.Any) Many) xs ≡ Ok (map Atom (values_of xs))
unfolding converted prepared matched matches_type allows_count
values_converted xs =
    ap (λ ys. matched (Of (Atomic type.Any) Many) (converted_items type.Any ys)) (atoms_of_all xs)
    ∙ ap (matched (Of (Atomic type.Any) Many)) (all_stay (values_of xs))
    ∙ ap (λ b. if b then Ok (map Atom (values_of xs)) else Err wrong_type) (all_match (values_of xs))

node_converted : (n : Place) → IsPlaced (Node n) →
    converted (Of (Kind test.Node) One) (Node n ∷ []) ≡ Ok (Node n ∷ [])
unfolding converted prepared matched matches_type allows_count
node_converted n p = rw (placed_is_node n p) refl

module _ (run : Run) (globals : List Binding) (n : ℕ) (f : List ℕ) (cs : List KeyParts)
    (has : Has run (key_function f cs)) where
  abbrev call : List Item → List Item → ℕ → Outcome (List Item)
  call xs values k = calls_at run globals (suc n) (key_function f cs).name (xs ∷ values ∷ []) k

  abbrev bound : Place → List Item → List Binding
  bound m values = (item_name, Node m ∷ []) ∷ (values_name, map Atom (values_of values)) ∷ []

  binds : (m : Place) → IsPlaced (Node m) → (values : List Item) →
      bound_params (key_function f cs).params ((Node m ∷ []) ∷ values ∷ []) ≡ Ok (bound m values)
  binds m p values = rw (node_converted m p, values_converted values) refl

  -- what is no node is refused, once the arguments are evaluated
  refused : (xs values : List Item) (k : ℕ) →
      converted (Of (Kind test.Node) One) xs ≡ Err wrong_type → IsFailure (call xs values k)
  refused xs values k h =
      subst (λ o. IsFailure (called_function o
      (Some (body_value (program_of run globals (calls_at run globals n)))) (xs ∷ values ∷ []) k))
      (sym has) (rw h tt)

  no_item : (values : List Item) (k : ℕ) → IsFailure (call [] values k)
  unfolding converted prepared matched matches_type allows_count
  no_item values k = refused [] values k refl

  no_node : (a : AtomValue) (values : List Item) (k : ℕ) → IsFailure (call (Atom a ∷ []) values k)
  unfolding converted prepared matched matches_type allows_count matches_item
  no_node a values k = refused (Atom a ∷ []) values k refl

  module _ (documents : DocumentSet) (keys : List KeyRule) (name : List ℕ)
      (h : AreDeclared (program_at run globals n) documents (declarations keys name) cs) where
    held : (m : Place) (values : List Item) →
        look_up (body_env (bound m values)).locals values_name
        ≡ Some (map Atom (values_of values))
    unfolding look_up
    held m values = refl

    found_in_tree : (m : Place) → IsSound (Node m) → (values : List Item) (k : ℕ) →
        SameOutcome (found_for documents keys name (Node m) values k) (call (Node m ∷ []) values k)
    found_in_tree m sound values k = by (is_document m.tree) refl
      where
        given : call (Node m ∷ []) values k
            ≡ outcome (program_at run globals n) (key_body cs) (body_env (bound m values)) k
        given =
            body_given run globals n (key_function f cs) ((Node m ∷ []) ∷ values ∷ [])
            (bound m values) k has (binds m (sound_placed (Node m) sound) values) refl

        by : (b : Bool) → is_document m.tree ≡ b → SameOutcome (and_then (step_outcome
            (if b then Ok (root_place m) else Err no_tree) k)
            (found_in documents keys name (values_of values))) (call (Node m ∷ []) values k)
        by true e =
            same_step_outcome (result_then (key_pairs documents (declarations keys name) (root_place m))
            (λ ps. Ok (key_nodes ps (map Atom (values_of values))))) (call (Node m ∷ []) values k) k
            (subst (λ o. SameAs (result_then
            (key_pairs documents (declarations keys name) (root_place m))
            (λ ps. Ok (key_nodes ps (map Atom (values_of values))))) o k) (sym given)
            (body_same (program_at run globals n) documents (declarations keys name) cs h
            (values_of values) (body_env (bound m values)) m sound
            (first_place m (map Atom (values_of values))) (held m values) e k))
        by false e =
            subst IsFailure (sym given)
            (body_fails (program_at run globals n) documents (declarations keys name) cs h
            (values_of values) (body_env (bound m values)) m sound
            (first_place m (map Atom (values_of values))) (held m values) e k)

    found : (x : Item) → IsSound x → (values : List Item) (k : ℕ) →
        SameOutcome (found_for documents keys name x values k) (call (x ∷ []) values k)
    found (Node m) sound values k = found_in_tree m sound values k
    found (Atom a) sound values k = no_node a values k

pub finds_keys : (run : Run) (globals : List Binding) (n : ℕ) → FindsKeys run globals n
finds_keys run globals n f cs has documents keys name h = record {
  found = found run globals n f cs has documents keys name h;
  no_item = no_item run globals n f cs has;
}
