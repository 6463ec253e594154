-- Texts, conversions and names that are regular and nest so many levels at most.
use Rattle.std.proofs.Common.{◌≡◌, ◌≤◌, ℕ, zero, suc, List, [], ◌∷◌, map, refl, ap, arith}
use Rattle.std.proofs.lemmas.Bool.{and_parts}
use Rattle.std.specs.Prelude.{true, false, Option, Some, None, codes}
use Rattle.xt_names.specs.declared.kinds.AtomType.{AtomType}
use Rattle.xt_names.specs.declared.kinds.AtomType.TheVariants as atom
use Rattle.xt_names.specs.declared.names.ExprName.{ExprName}
use Rattle.xt_types.specs.Regular.{is_regular_type, is_regular_item}
use Rattle.xt_types.specs.declared.types.Count.{Count}
use Rattle.xt_types.specs.declared.types.Count.TheVariants.{Many}
use Rattle.xt_types.specs.declared.types.ItemType.{ItemType}
use Rattle.xt_types.specs.declared.types.ItemType.TheVariants as item
use Rattle.xt_types.specs.declared.types.SeqType.{SeqType}
use Rattle.xt_types.specs.declared.types.SeqType.TheVariants.{Empty, Of}
use Rattle.xt_forms.specs.Regular.{is_cast_name, is_cast_type, is_regular_kind}
use Rattle.xt_syntax.specs.declared.exprs.Expr.{Expr}
use Rattle.xt_syntax.specs.declared.exprs.Clause.TheOpen.{Var, Cast, InstanceOf}
use Rattle.xt_syntax.specs.declared.exprs.Clause.TheViews.{roll-Expr}
use Rattle.xt_sheets.specs.declared.values.AvtPart.{AvtPart}
use Rattle.xt_sheets.specs.declared.values.AvtPart.TheVariants.{Chars, Code}
use Rattle.carried_exprs.specs.Sights.{library_call, variable_of}
use Rattle.carried_exprs.proofs.RegularRolled.{regular_expr_rolled}
use Rattle.translated_forms.specs.Names.{atom_name, local_name}
use Rattle.translated_forms.specs.Forms.{for_clause, arm_of, text_literal, failing, local_call}
use Rattle.translated_forms.specs.Leaves.{is_leaf, if_leaf, part_leaf, template_leaves, separator_leaves}
use Rattle.translated_forms.specs.Texts.{Carry, Template, fixed_text, part_text, joined}
use Rattle.translated_forms.specs.Texts.{text_or_joined, template_text, source_of, separator_text}
use Rattle.translated_forms.specs.Texts.{source_text}
use Rattle.translated_forms.specs.Converted.{treated, data_of, untyped, cast_if_untyped, cast_atoms}
use Rattle.translated_forms.specs.Converted.{atoms_for, item_converted, converted}
use Rattle.translated_forms.proofs.Fine.{Fine, Every, none, more, higher}
use Rattle.translated_forms.proofs.Fine.{fine_text, fine_variable, fine_treat, fine_cast, fine_instance}
use Rattle.translated_forms.proofs.Fine.{fine_call, fine_for, fine_arm}
use Rattle.translated_forms.proofs.FineFlows.{fine_flow, fine_if_many, NoIf}
use Rattle.xt_names.specs.ExprNames.{library_name}

-- calls of functions of the library and of the translation are no casts
pub library_is_no_cast : (local : List ℕ) → is_cast_name (library_name local) ≡ false
unfolding is_cast_name
library_is_no_cast local = refl

pub local_is_no_cast : (local : List ℕ) → is_cast_name (local_name local) ≡ false
unfolding is_cast_name
local_is_no_cast local = refl

pub fine_library : (n : ℕ) (local : List ℕ) (args : List Expr) → Every (Fine n) args →
    Fine (suc n) (library_call local args)
fine_library n local args h = fine_call n (library_name local) args (library_is_no_cast local) h

pub fine_local : (n : ℕ) (local : List ℕ) (args : List Expr) → Every (Fine n) args →
    Fine (suc n) (local_call local args)
fine_local n local args h = fine_call n (local_name local) args (local_is_no_cast local) h

pub fine_failing : Fine 1 failing
fine_failing = fine_library 0 (codes "error") [] none

-- how expressions are carried
abbrev pub CarriesTo : ℕ → Carry → Type 0
CarriesTo b carry = (e : Expr) → is_leaf e ≡ true → Fine b (carry e)

module _ (b : ℕ) (carry : Carry) (carries : CarriesTo b carry) where
  pub fine_part_text : (n : ℕ) → suc b ≤ n → 2 ≤ n → (p : AvtPart Expr) → part_leaf p ≡ true →
      Fine n (part_text carry p)
  unfolding part_text part_leaf
  fine_part_text n l m (Chars t) h = higher n (omega arith) (fine_text t)
  fine_part_text zero l m (Code e) h = elim l [ ]
  fine_part_text (suc n) l m (Code e) h =
      fine_local n (codes "simple") (carry e ∷ text_literal (codes " ") ∷ [])
      (more (higher n (omega arith) (carries e h))
      (more (higher n (omega arith) (fine_text (codes " "))) none))

  all_texts : (n : ℕ) → suc b ≤ n → 2 ≤ n → (ps : Template) → template_leaves ps ≡ true →
      Every (Fine n) (map (part_text carry) ps)
  all_texts n l m [] h = none
  all_texts n l m (p ∷ ps) h =
      let q = and_parts (part_leaf p) (template_leaves ps) h in
      more (fine_part_text n l m p q.0) (all_texts n l m ps q.1)

  fine_joined : (n : ℕ) (es : List Expr) → Every (Fine n) es → Fine (suc n) (joined es)
  unfolding joined
  fine_joined n [] none = higher (suc n) (omega arith) (fine_text [])
  fine_joined n (e ∷ []) (more h none) = higher (suc n) (omega arith) h
  fine_joined n (e ∷ f ∷ es) h = fine_library n (codes "concat") (e ∷ f ∷ es) h

  fine_text_or : (n : ℕ) → suc b ≤ n → 2 ≤ n → (ps : Template) → template_leaves ps ≡ true →
      (t : Option (List ℕ)) → Fine (suc n) (text_or_joined carry ps t)
  fine_text_or n l m ps h (Some t) = higher (suc n) (omega arith) (fine_text t)
  fine_text_or n l m ps h None = fine_joined n (map (part_text carry) ps) (all_texts n l m ps h)

  pub fine_template : (n : ℕ) → suc b ≤ n → 2 ≤ n → (ps : Template) → template_leaves ps ≡ true →
      Fine (suc n) (template_text carry ps)
  unfolding template_text
  fine_template n l m ps h = fine_text_or n l m ps h (fixed_text ps)

  pub fine_source_of : (n : ℕ) → b ≤ n → (select : Option Expr) (body : Expr) →
      if_leaf select ≡ true → Fine n body → Fine n (source_of carry select body)
  unfolding if_leaf
  fine_source_of n l None body h i = i
  fine_source_of n l (Some e) body h i = higher n l (carries e h)

  fine_separator : (n : ℕ) → suc b ≤ n → 2 ≤ n → (select : Option Expr) (s : Option Template) →
      separator_leaves s ≡ true → Fine (suc n) (separator_text carry select s)
  unfolding separator_leaves
  fine_separator n l m None None h = higher (suc n) (omega arith) (fine_text [])
  fine_separator n l m (Some e) None h = higher (suc n) (omega arith) (fine_text (codes " "))
  fine_separator n l m select (Some ps) h = fine_template n l m ps h

  -- of a body that nests so many levels
  pub fine_source_text : (n : ℕ) → suc b ≤ n → 2 ≤ n → (select : Option Expr) (body : Expr)
      (s : Option Template) → if_leaf select ≡ true → separator_leaves s ≡ true →
      Fine (suc n) body → Fine (suc (suc n)) (source_text carry select body s)
  unfolding source_text
  fine_source_text n l m select body s h i j =
      fine_local (suc n) (codes "simple")
      (source_of carry select body ∷ separator_text carry select s ∷ [])
      (more (fine_source_of (suc n) (omega arith) select body h j)
      (more (fine_separator n l m select s i) none))

-- conversion adds three levels at most
no_if_variable : (v : ExprName) → NoIf (variable_of v)
no_if_variable v = ap (λ f. f.is_if) (regular_expr_rolled (Var v))

fine_cast_if : (kind : AtomType) → is_cast_type kind ≡ true → Fine 3 (cast_if_untyped kind)
unfolding is_regular_type is_regular_item
fine_cast_if kind h =
    let v = fine_variable atom_name in
    fine_if_many 2 (arm_of (
      roll-Expr (InstanceOf (variable_of atom_name) untyped),
      roll-Expr (Cast (variable_of atom_name) kind true),
    )) [] (variable_of atom_name)
    (more (fine_arm 2 _ _ (fine_instance 1 (variable_of atom_name) untyped v refl)
    (fine_cast 1 (variable_of atom_name) kind true v h)) none)
    (higher 2 (omega arith) v) (no_if_variable atom_name)

fine_data : (n : ℕ) (e : Expr) → Fine n e → Fine (suc n) (data_of e)
fine_data n e h = fine_library n (codes "data") (e ∷ []) (more h none)

fine_cast_atoms : (n : ℕ) → 2 ≤ n → (kind : AtomType) → is_cast_type kind ≡ true → (e : Expr) →
    Fine n e → Fine (suc (suc n)) (cast_atoms kind e)
fine_cast_atoms n l kind h e i =
    fine_flow (suc n) (for_clause atom_name (data_of e)) [] (cast_if_untyped kind)
    (more (fine_for (suc n) atom_name (data_of e) (fine_data n e i)) none)
    (higher (suc n) (omega arith) (fine_cast_if kind h))

fine_atoms : (n : ℕ) → 2 ≤ n → (kind : AtomType) (e : Expr) → Fine n e →
    Fine (suc (suc n)) (atoms_for kind e)
unfolding atoms_for is_cast_type
fine_atoms n l atom.Str e h = fine_cast_atoms n l atom.Str refl e h
fine_atoms n l atom.Untyped e h = higher (suc (suc n)) (omega arith) (fine_data n e h)
fine_atoms n l atom.Int e h = fine_cast_atoms n l atom.Int refl e h
fine_atoms n l atom.Bool e h = fine_cast_atoms n l atom.Bool refl e h
fine_atoms n l atom.QName e h = higher (suc (suc n)) (omega arith) (fine_data n e h)
fine_atoms n l atom.Any e h = higher (suc (suc n)) (omega arith) (fine_data n e h)

fine_treated : (n : ℕ) (e : Expr) (kind : SeqType) → is_regular_type kind ≡ true → Fine (suc (suc n)) e →
    Fine (suc (suc (suc n))) (treated e kind)
fine_treated n e kind h i = fine_treat (suc (suc n)) e kind i h

fine_item : (n : ℕ) → 2 ≤ n → (kind : ItemType) (count : Count) (e : Expr) →
    is_regular_type (Of kind count) ≡ true → Fine n e →
    Fine (suc (suc (suc n))) (item_converted kind count e)
unfolding item_converted
fine_item n l item.Any Many e h i = higher (suc (suc (suc n))) (omega arith) i
fine_item n l item.Any count e h i =
    fine_treated n e (Of item.Any count) h (higher (suc (suc n)) (omega arith) i)
fine_item n l (item.Kind wanted) count e h i =
    fine_treated n e (Of (item.Kind wanted) count) h (higher (suc (suc n)) (omega arith) i)
fine_item n l (item.Atomic atom.Any) Many e h i =
    higher (suc (suc (suc n))) (omega arith) (fine_data n e i)
fine_item n l (item.Atomic kind) count e h i =
    fine_treated n (atoms_for kind e) (Of (item.Atomic kind) count) h (fine_atoms n l kind e i)

pub fine_converted : (n : ℕ) → 2 ≤ n → (kind : Option SeqType) (e : Expr) →
    is_regular_kind kind ≡ true → Fine n e → Fine (suc (suc (suc n))) (converted kind e)
unfolding converted is_regular_kind
fine_converted n l None e h i = higher (suc (suc (suc n))) (omega arith) i
fine_converted n l (Some Empty) e h i =
    fine_treated n e Empty h (higher (suc (suc n)) (omega arith) i)
fine_converted n l (Some (Of kind count)) e h i = fine_item n l kind count e h i
