-- Values that are converted to a type are converted in the query.
use Rattle.std.proofs.Common.{◌≡◌, ℕ, List, [], ◌∷◌, ◌++◌, refl, sym, ap, ◌∙◌, subst}
use Rattle.std.specs.Prelude.{Bool, true, false, ◌&&◌, codes, if◌then◌else◌, Option, Some, None, Result, Ok, Err}
use Rattle.std.specs.List.{list_all}
use Rattle.xt_names.specs.declared.codes.Code.{Code}
use Rattle.xt_names.specs.declared.kinds.AtomType.{AtomType}
use Rattle.xt_names.specs.declared.kinds.AtomType.TheVariants as kind
use Rattle.xt_types.specs.declared.types.Count.{Count}
use Rattle.xt_types.specs.declared.types.Count.TheVariants.{One, Opt, Many, More}
use Rattle.xt_types.specs.declared.types.ItemType.TheVariants as item
use Rattle.xt_types.specs.declared.types.SeqType.{SeqType}
use Rattle.xt_types.specs.declared.types.SeqType.TheVariants.{Empty, Of}
use Rattle.xt_atoms.specs.AtomTexts.{text_of}
use Rattle.xt_atoms.specs.Casts.{cast_of, wrong_type}
use Rattle.xt_names.specs.declared.codes.Code.TheVariants.{Dynamic}
use Rattle.xt_names.specs.declared.codes.DynamicCode.TheVariants.{XPDY0050}
use Rattle.operator_values.specs.Operands.{optional_atom}
use Rattle.xt_atoms.specs.declared.atoms.Atom.{Atom as AtomValue}
use Rattle.xt_atoms.specs.declared.atoms.Atom.TheVariants as atom
use Rattle.xdm_items.specs.Conversion.{converted, converted_atom, converted_item, converted_items}
use Rattle.xdm_items.specs.Conversion.{as_item, with_item, matched, prepared, is_cast_to}
use Rattle.xdm_items.specs.Matching.{allows_count, has_atom_type, matches_item, matches_type}
use Rattle.xdm_items.specs.Values.{atomized}
use Rattle.xdm_items.specs.declared.items.Item.{Item}
use Rattle.xdm_items.specs.declared.items.Item.TheVariants.{Node, Atom}
use Rattle.xdm_items.specs.FunctionArguments.Answers.{of_truth}
use Rattle.function_table.specs.Find.{found, found_in, is_in_fn}
use Rattle.function_table.specs.Table.{joined}
use Rattle.function_table.specs.declared.builtins.Builtin.TheVariants as function
use Rattle.fn_lib.specs.Functions.{function_value, value_of}
use Rattle.xdm_items.specs.FunctionArguments.Arguments.{and_then as result_then}
use Rattle.operator_values.specs.Types.{treated_value, cast_value, instance_value}
use Rattle.xt_syntax.specs.declared.exprs.Expr.{Expr}
use Rattle.xt_syntax.specs.declared.exprs.Clause.TheViews.{roll-Expr}
use Rattle.xt_syntax.specs.declared.exprs.Clause.TheOpen.{Cast, InstanceOf, Treat}
use Rattle.expr_meaning.specs.Outcomes.Outcome.{Outcome, Ends, Fails, Deep, and_then, step_outcome, for_each, Every}
use Rattle.expr_meaning.specs.Outcomes.Follow.{Relation, IsCarrying}
use Rattle.expr_meaning.proofs.OutcomesLemmas.Steps.{then_assoc, then_same}
use Rattle.expr_meaning.specs.Calls.{called, library}
use Rattle.expr_meaning.specs.Env.{Env, Meaning, Program, bind_all, with_bound, look_up}
use Rattle.expr_meaning.specs.Meaning.{outcome}
use Rattle.expr_meaning.specs.Queries.{converted_to}
use Rattle.expr_laws.specs.Carrier.{OnValue}
use Rattle.meaning_laws.specs.SoundValues.Sound.{IsSound}
use Rattle.carried_exprs.specs.Sights.{variable_of}
use Rattle.query_helpers.proofs.Gives.{mean, for_of, Gives, Tells, gives_variable, if_then, if_else}
use Rattle.query_helpers.proofs.Gives.{tells_truth}
use Rattle.transform_meaning.specs.Bindings.{converted_value}
use Rattle.translated_forms.specs.Converted.{treated, data_of, cast_if_untyped, cast_atoms, atoms_for}
use Rattle.translated_forms.specs.Converted.{item_converted, untyped}
use Rattle.translated_forms.specs.Converted.{converted as converted_expr}
use Rattle.translated_forms.specs.Names.{atom_name}
use Rattle.translated_forms.specs.Places.{Table}
use Rattle.lockstep.specs.Spots.{Spot}
use Rattle.lockstep.proofs.Calls.{library_of_one}
use Rattle.lockstep.proofs.Frame.{Meets}
use Rattle.lockstep.proofs.Makes.{sheets}
use Rattle.xt_names.specs.ExprNames.{library_name}

-- the same value, or an error on both sides
abbrev pub SameValue : {A : Type 0} → Result A Code → Result A Code → Type 0
SameValue (Ok a) (Ok b) = a ≡ b
SameValue (Ok a) (Err d) = ⊥
SameValue (Err c) (Ok b) = ⊥
SameValue (Err c) (Err d) = Unit {0}

data_called : called (library_name (codes "data")) 1 ≡ library function.Data
unfolding called found found_in joined is_in_fn
data_called = refl

data_value : (xs : List Item) → function_value function.Data (xs ∷ []) ≡ Ok (atomized xs)
unfolding function_value value_of
data_value xs = refl

-- a list that matches a type
matched_same : (type : SeqType) (ys : List Item) →
    SameValue (matched type (Ok ys)) (treated_value type ys)
unfolding matched treated_value
matched_same type ys = by (matches_type type ys)
  where
    by : (b : Bool) → SameValue {A = List Item}
        (if b then Ok ys else Err wrong_type) (if b then Ok ys else Err (Dynamic XPDY0050))
    by true = refl
    by false = tt

matched_then : (type : SeqType) (v : Result (List Item) Code) →
    SameValue (matched type v) (result_then v (treated_value type))
unfolding matched
matched_then type (Ok ys) = matched_same type ys
matched_then type (Err code) = tt

-- atoms that no conversion changes
abbrev IsAtom : Item → Type 0
IsAtom (Node n) = ⊥
IsAtom (Atom a) = Unit {0}

atoms_known : (xs : List Item) → Every IsAtom (atomized xs)
unfolding atomized
atoms_known [] = tt
atoms_known (Node n ∷ xs) = (tt, atoms_known xs)
atoms_known (Atom a ∷ xs) = (tt, atoms_known xs)

any_atoms : (ys : List Item) → Every IsAtom ys →
    list_all (matches_item (item.Atomic kind.Any)) ys ≡ true
unfolding matches_item has_atom_type
any_atoms [] h = refl
any_atoms (Node n ∷ ys) h = absurd h.0
any_atoms (Atom a ∷ ys) h = any_atoms ys h.1

any_items : (ys : List Item) → list_all (matches_item item.Any) ys ≡ true
unfolding matches_item
any_items [] = refl
any_items (y ∷ ys) = any_items ys

-- the types to which no atom is cast
abbrev StaysAt : AtomType → Type 0
StaysAt type = (a : AtomValue) → converted_atom type a ≡ Ok a

stays_untyped : StaysAt kind.Untyped
unfolding converted_atom cast_of text_of
stays_untyped (atom.Untyped t) = refl
stays_untyped (atom.Str t) = refl
stays_untyped (atom.Int n) = refl
stays_untyped (atom.Bool b) = refl
stays_untyped (atom.QName n) = refl

stays_qname : StaysAt kind.QName
unfolding converted_atom
stays_qname (atom.Untyped t) = refl
stays_qname (atom.Str t) = refl
stays_qname (atom.Int n) = refl
stays_qname (atom.Bool b) = refl
stays_qname (atom.QName n) = refl

stays_any : StaysAt kind.Any
unfolding converted_atom
stays_any (atom.Untyped t) = refl
stays_any (atom.Str t) = refl
stays_any (atom.Int n) = refl
stays_any (atom.Bool b) = refl
stays_any (atom.QName n) = refl

all_stay : (type : AtomType) → StaysAt type → (ys : List Item) → Every IsAtom ys →
    converted_items type ys ≡ Ok ys
unfolding converted_items converted_item
all_stay type h [] g = refl
all_stay type h (Node n ∷ ys) g = absurd g.0
all_stay type h (Atom a ∷ ys) g = rw (h a, all_stay type h ys g.1) refl

module _ (q : Program) where
  data_is : (e : Expr) (f : Env) (k : ℕ) →
      outcome q (data_of e) f k ≡ and_then (outcome q e f k) (λ xs j. Ends (atomized xs) j)
  data_is e f k =
      library_of_one q (library_name (codes "data")) function.Data data_called e f k
      ∙ then_same (outcome q e f k) _ _ (λ xs j. ap (λ v. step_outcome v j) (data_value xs))

  treated_is : (e : Expr) (type : SeqType) (f : Env) (k : ℕ) → outcome q (treated e type) f k
      ≡ and_then (outcome q e f k) (λ xs j. step_outcome (treated_value type xs) j)
  treated_is e type f k = mean q (Treat e type) f k

  -- each atom, cast where it has no type
  abbrev at_atom : Env → Item → Env
  at_atom f y = bind_all ((atom_name, y ∷ []) ∷ []) f

  held : (f : Env) (y : Item) → look_up (with_bound ((atom_name, y ∷ []) ∷ []) f.locals) atom_name
      ≡ Some (y ∷ [])
  unfolding look_up
  held f y = refl

  atom_given : (f : Env) (y : Item) → Gives q (variable_of atom_name) (at_atom f y) (y ∷ [])
  atom_given f y = gives_variable q atom_name (at_atom f y) (y ∷ []) (held f y)

  type_told : (f : Env) (a : AtomValue) → Tells q (roll-Expr (InstanceOf (variable_of atom_name) untyped))
      (at_atom f (Atom a)) (has_atom_type kind.Untyped a)
  unfolding instance_value matches_type allows_count matches_item
  type_told f a =
      tells_truth q (roll-Expr (InstanceOf (variable_of atom_name) untyped)) (at_atom f (Atom a))
      (has_atom_type kind.Untyped a) (λ k.
      mean q (InstanceOf (variable_of atom_name) untyped) (at_atom f (Atom a)) k
      ∙ ap (λ o. and_then o (λ xs j. step_outcome (instance_value untyped xs) j))
      (atom_given f (Atom a) k)
      ∙ ap (λ b. Ends (of_truth b) k) (and_nothing (has_atom_type kind.Untyped a)))
    where
      and_nothing : (b : Bool) → (b && true) ≡ b
      and_nothing true = refl
      and_nothing false = refl

  abbrev one_item : Result Item Code → Result (List Item) Code
  one_item v = result_then v (λ x. Ok (x ∷ []))

  stays_there : (f : Env) (type : AtomType) (a : AtomValue) → has_atom_type kind.Untyped a ≡ false →
      (k : ℕ) → outcome q (cast_if_untyped type) (at_atom f (Atom a)) k ≡ Ends (Atom a ∷ []) k
  stays_there f type a other k =
      if_else q (roll-Expr (InstanceOf (variable_of atom_name) untyped))
      (roll-Expr (Cast (variable_of atom_name) type true)) (variable_of atom_name)
      (at_atom f (Atom a)) (subst (Tells q (roll-Expr (InstanceOf (variable_of atom_name) untyped))
      (at_atom f (Atom a))) other (type_told f a)) k
      ∙ atom_given f (Atom a) k

  cast_there : (f : Env) (type : AtomType) (t : List ℕ) → (k : ℕ) →
      outcome q (cast_if_untyped type) (at_atom f (Atom (atom.Untyped t))) k
      ≡ step_outcome (result_then (cast_of (atom.Untyped t) type) (λ b. Ok (Atom b ∷ []))) k
  unfolding cast_value optional_atom has_atom_type
  cast_there f type t k =
      if_then q (roll-Expr (InstanceOf (variable_of atom_name) untyped))
      (roll-Expr (Cast (variable_of atom_name) type true)) (variable_of atom_name)
      (at_atom f (Atom (atom.Untyped t))) (type_told f (atom.Untyped t)) k
      ∙ mean q (Cast (variable_of atom_name) type true) (at_atom f (Atom (atom.Untyped t))) k
      ∙ ap (λ o. and_then o (λ xs j. step_outcome (cast_value type true xs) j))
      (atom_given f (Atom (atom.Untyped t)) k)

  as_one : (v : Result AtomValue Code) (k : ℕ) →
      step_outcome (result_then v (λ b. Ok (Atom b ∷ []))) k ≡ step_outcome (one_item (as_item v)) k
  as_one (Ok b) k = refl
  as_one (Err code) k = refl

  item_cast : (type : AtomType) → is_cast_to type ≡ true → (f : Env) (a : AtomValue) (k : ℕ) →
      outcome q (cast_if_untyped type) (at_atom f (Atom a)) k
      ≡ step_outcome (one_item (converted_item type (Atom a))) k
  unfolding converted_item converted_atom has_atom_type
  item_cast type h f (atom.Untyped t) k =
      cast_there f type t k ∙ as_one (cast_of (atom.Untyped t) type) k
      ∙ ap (λ b. step_outcome (one_item (as_item
      (if b then cast_of (atom.Untyped t) type else Ok (atom.Untyped t)))) k) (sym h)
  item_cast type h f (atom.Str t) k = stays_there f type (atom.Str t) refl k
  item_cast type h f (atom.Int n) k = stays_there f type (atom.Int n) refl k
  item_cast type h f (atom.Bool b) k = stays_there f type (atom.Bool b) refl k
  item_cast type h f (atom.QName n) k = stays_there f type (atom.QName n) refl k

  both_steps : (v : Result Item Code) (w : Result (List Item) Code) (k : ℕ) →
      and_then (step_outcome (one_item v) k) (λ zs j. and_then (step_outcome w j)
      (λ us i. Ends (zs ++ us) i)) ≡ step_outcome (with_item v w) k
  both_steps (Ok x) (Ok us) k = refl
  both_steps (Ok x) (Err code) k = refl
  both_steps (Err code) w k = refl

  each_cast : (type : AtomType) → is_cast_to type ≡ true → (f : Env) (ys : List Item) →
      Every IsAtom ys → (k : ℕ) → for_each (λ y. outcome q (cast_if_untyped type) (at_atom f y)) ys k
      ≡ step_outcome (converted_items type ys) k
  unfolding converted_items
  each_cast type h f [] g k = refl
  each_cast type h f (Node n ∷ ys) g k = absurd g.0
  each_cast type h f (Atom a ∷ ys) g k =
      ap (λ o. and_then o (λ zs j. and_then (for_each (λ y. outcome q (cast_if_untyped type) (at_atom f y)) ys j)
      (λ us i. Ends (zs ++ us) i))) (item_cast type h f a k)
      ∙ then_same (step_outcome (one_item (converted_item type (Atom a))) k) _ _
      (λ zs j. ap (λ o. and_then o (λ us i. Ends (zs ++ us) i)) (each_cast type h f ys g.1 j))
      ∙ both_steps (converted_item type (Atom a)) (converted_items type ys) k

  abbrev AtomsAre : AtomType → Type 0
  AtomsAre type = (e : Expr) (f : Env) (k : ℕ) → outcome q (atoms_for type e) f k
      ≡ and_then (outcome q e f k) (λ xs j. step_outcome (converted_items type (atomized xs)) j)

  cast_is : (type : AtomType) → is_cast_to type ≡ true → (e : Expr) (f : Env) (k : ℕ) →
      outcome q (cast_atoms type e) f k
      ≡ and_then (outcome q e f k) (λ xs j. step_outcome (converted_items type (atomized xs)) j)
  cast_is type h e f k =
      for_of q atom_name (data_of e) (cast_if_untyped type) f k
      ∙ ap (λ o. and_then o (for_each (λ y. outcome q (cast_if_untyped type) (at_atom f y)))) (data_is e f k)
      ∙ then_assoc (outcome q e f k) (λ xs j. Ends (atomized xs) j)
      (for_each (λ y. outcome q (cast_if_untyped type) (at_atom f y)))
      ∙ then_same (outcome q e f k) _ _ (λ xs j. each_cast type h f (atomized xs) (atoms_known xs) j)

  stay_is : (type : AtomType) → StaysAt type → (e : Expr) (f : Env) (k : ℕ) →
      outcome q (data_of e) f k
      ≡ and_then (outcome q e f k) (λ xs j. step_outcome (converted_items type (atomized xs)) j)
  stay_is type h e f k =
      data_is e f k
      ∙ then_same (outcome q e f k) _ _ (λ xs j. ap (λ v. step_outcome v j)
      (sym (all_stay type h (atomized xs) (atoms_known xs))))

  atoms_are : (type : AtomType) → AtomsAre type
  unfolding atoms_for
  atoms_are kind.Str = cast_is kind.Str refl
  atoms_are kind.Untyped = stay_is kind.Untyped stays_untyped
  atoms_are kind.Int = cast_is kind.Int refl
  atoms_are kind.Bool = cast_is kind.Bool refl
  atoms_are kind.QName = stay_is kind.QName stays_qname
  atoms_are kind.Any = stay_is kind.Any stays_any

  -- what the query does with the items
  abbrev ValueIs : SeqType → (Expr → Expr) → Type 0
  ValueIs type made =
      (v : List Item → Result (List Item) Code)
      × ((e : Expr) (f : Env) (k : ℕ) → outcome q (made e) f k
      ≡ and_then (outcome q e f k) (λ xs j. step_outcome (v xs) j))
      × ((xs : List Item) → SameValue (converted type xs) (v xs))

  treated_value_is : (type : SeqType) → ((xs : List Item) → prepared type xs ≡ Ok xs) →
      ValueIs type (λ e. treated e type)
  unfolding converted
  treated_value_is type h = (
    treated_value type,
    λ e f k. treated_is e type f k,
    λ xs. subst (λ v. SameValue (matched type v) (treated_value type xs)) (sym (h xs))
        (matched_same type xs),
  )

  step_then : (type : SeqType) (v : Result (List Item) Code) (k : ℕ) →
      and_then (step_outcome v k) (λ ys i. step_outcome (treated_value type ys) i)
      ≡ step_outcome (result_then v (treated_value type)) k
  step_then type (Ok ys) k = refl
  step_then type (Err code) k = refl

  atomic_value_is : (type : AtomType) (count : Count) →
      ValueIs (Of (item.Atomic type) count) (λ e. treated (atoms_for type e) (Of (item.Atomic type) count))
  unfolding converted prepared
  atomic_value_is type count = (
    λ xs. result_then (converted_items type (atomized xs)) (treated_value (Of (item.Atomic type) count)),
    λ e f k. treated_is (atoms_for type e) (Of (item.Atomic type) count) f k
        ∙ ap (λ o. and_then o (λ ys i. step_outcome (treated_value (Of (item.Atomic type) count) ys) i))
        (atoms_are type e f k)
        ∙ then_assoc (outcome q e f k) _ _
        ∙ then_same (outcome q e f k) _ _ (λ xs j.
        step_then (Of (item.Atomic type) count) (converted_items type (atomized xs)) j),
    λ xs. matched_then (Of (item.Atomic type) count) (converted_items type (atomized xs)),
  )

  then_ends : (o : Outcome (List Item)) → and_then o (λ xs j. Ends xs j) ≡ o
  then_ends (Ends xs j) = refl
  then_ends (Fails code) = refl
  then_ends Deep = refl

  any_value_is : ValueIs (Of item.Any Many) (λ e. e)
  unfolding converted prepared matched matches_type allows_count
  any_value_is = (
    λ xs. Ok xs,
    λ e f k. sym (then_ends (outcome q e f k)),
    λ xs. rw (any_items xs) refl,
  )

  data_value_is : ValueIs (Of (item.Atomic kind.Any) Many) data_of
  unfolding converted prepared matched matches_type allows_count
  data_value_is = (
    λ xs. Ok (atomized xs),
    λ e f k. data_is e f k,
    λ xs. rw (
      all_stay kind.Any stays_any (atomized xs) (atoms_known xs),
      any_atoms (atomized xs) (atoms_known xs),
    ) refl,
  )

  value_is : (type : SeqType) → ValueIs type (converted_expr (Some type))
  unfolding converted_expr item_converted prepared
  value_is Empty = treated_value_is Empty (λ xs. refl)
  value_is (Of item.Any One) = treated_value_is (Of item.Any One) (λ xs. refl)
  value_is (Of item.Any Opt) = treated_value_is (Of item.Any Opt) (λ xs. refl)
  value_is (Of item.Any Many) = any_value_is
  value_is (Of item.Any More) = treated_value_is (Of item.Any More) (λ xs. refl)
  value_is (Of (item.Kind wanted) count) = treated_value_is (Of (item.Kind wanted) count) (λ xs. refl)
  value_is (Of (item.Atomic kind.Any) One) = atomic_value_is kind.Any One
  value_is (Of (item.Atomic kind.Any) Opt) = atomic_value_is kind.Any Opt
  value_is (Of (item.Atomic kind.Any) Many) = data_value_is
  value_is (Of (item.Atomic kind.Any) More) = atomic_value_is kind.Any More
  value_is (Of (item.Atomic kind.Str) count) = atomic_value_is kind.Str count
  value_is (Of (item.Atomic kind.Untyped) count) = atomic_value_is kind.Untyped count
  value_is (Of (item.Atomic kind.Int) count) = atomic_value_is kind.Int count
  value_is (Of (item.Atomic kind.Bool) count) = atomic_value_is kind.Bool count
  value_is (Of (item.Atomic kind.QName) count) = atomic_value_is kind.QName count

module _ (like : Code → Code → Type 0) (lax : (a b : Code) → like a b) (rel : Relation)
    (carries : IsCarrying like rel) (t : Table) (q : Program) where
  pub steps_meet : (v w : Result (List Item) Code) → SameValue v w → OnValue (Every IsSound) v →
      (k : ℕ) → rel (List Item) (Every IsSound) (step_outcome v k) (step_outcome w k)
  steps_meet (Ok xs) (Ok ys) h g k =
      subst (λ zs. rel (List Item) (Every IsSound) (Ends xs k) (Ends zs k)) h (carries.ends _ _ _ _ g)
  steps_meet (Ok xs) (Err d) h g k = absurd h
  steps_meet (Err c) (Ok ys) h g k = absurd h
  steps_meet (Err c) (Err d) h g k = carries.errors _ _ _ _ (lax c d)

  pub converted_at : (type : Option SeqType) (o : Outcome (List Item)) (e : Expr) (b : Env) (k : ℕ) →
      rel (List Item) (Every IsSound) o (outcome q e b k) →
      rel (List Item) (Every IsSound) (and_then o (λ xs j. step_outcome (converted_to type xs) j))
      (outcome q (converted_expr type e) b k)
  unfolding converted_expr
  converted_at None o e b k h =
      subst (λ p. rel (List Item) (Every IsSound) p (outcome q e b k)) (sym (then_ends q o)) h
  converted_at (Some type) o e b k h =
      let v = value_is q type in
      rw (v.1 e b k)
      (carries.next _ _ (Every IsSound) (Every IsSound) o (outcome q e b k) _ _ h
      (λ xs j g. steps_meet (converted type xs) (v.0 xs) (v.2 xs)
      ((sheets like lax rel carries t).converted (Some type) xs g) j))

  pub converted_done : (type : Option SeqType) (x : Spot) (m : Meaning) (e : Expr) →
      Meets like lax rel carries t x m (outcome q e) →
      Meets like lax rel carries t x (converted_value type m) (outcome q (converted_expr type e))
  converted_done type x m e h a b at k = converted_at type (m a k) e b k (h a b at k)
