-- Constructors of texts, elements and attributes become instructions.
use Rattle.std.proofs.Common.{◌≡◌, ℕ, List, [], ◌∷◌, refl, sym, ap, ◌∙◌, subst, map}
use Rattle.std.proofs.lemmas.Slice.Eq.{bytes_eq-Decides}
use Rattle.std.specs.Prelude.{Bool, true, false, not, ◌&&◌, Some, None}
use Rattle.std.specs.Prelude.{Result, Ok, Err, codes}
use Rattle.std.specs.Str.{bytes_eq}
use Rattle.xt_names.specs.Classes.{is_xml_text}
use Rattle.xt_names.specs.declared.codes.Code.{Code}
use Rattle.xt_names.specs.declared.names.ExprName.{ExprName}
use Rattle.xt_names.specs.declared.names.Name.{Name}
use Rattle.xt_names.specs.declared.names.Binding.{Binding as Namespace}
use Rattle.xt_atoms.specs.AtomTexts.{text_of}
use Rattle.xt_atoms.specs.declared.atoms.Atom.TheVariants as atom
use Rattle.xt_tree.specs.Sound.{is_sound_name, is_named_xmlns}
use Rattle.xt_tree.specs.declared.trees.Tree.TheVariants as tree
use Rattle.xdm_items.specs.declared.items.Item.{Item}
use Rattle.xdm_items.specs.declared.items.Item.TheVariants.{Atom, Node}
use Rattle.xdm_items.specs.Values.{atomized}
use Rattle.xt_syntax.specs.declared.exprs.Expr.{Expr}
use Rattle.xt_syntax.specs.declared.exprs.Clause.TheOpen.{Call}
use Rattle.xt_sheets.specs.declared.sheets.Sheet.{Sheet}
use Rattle.xt_sheets.specs.declared.instrs.Instr.TheOpen.{Chars, Literal, Attribute}
use Rattle.xt_sheets.specs.declared.values.AvtName.{AvtName}
use Rattle.xt_sheets.specs.declared.values.AvtPart.TheVariants as avt
use Rattle.function_table.specs.Find.{found, found_in, is_in_fn}
use Rattle.function_table.specs.Table.{joined}
use Rattle.function_table.specs.declared.builtins.Builtin.TheVariants as function
use Rattle.fn_lib.specs.Functions.{function_value, value_of}
use Rattle.node_builder.specs.Made.{Gives}
use Rattle.node_builder.specs.Simple.{value, part_of, part_text as text_in_part, simple_content}
use Rattle.node_builder.specs.Simple.{merged_runs, without_empty_runs, joined_with}
use Rattle.operator_values.specs.Operands.{atom_of}
use Rattle.expr_meaning.specs.Outcomes.Outcome.{Outcome, Ends, Fails, Deep, and_then, Every, OnEnds, step_outcome}
use Rattle.expr_meaning.proofs.OutcomesLemmas.Steps.{then_assoc, then_same}
use Rattle.expr_meaning.specs.Calls.{called, library, call_value}
use Rattle.expr_meaning.specs.Env.{Env, Meaning, Program}
use Rattle.expr_meaning.specs.Making as query
use Rattle.expr_meaning.specs.Meaning.{outcome}
use Rattle.expr_meaning.specs.Names.{fixed, attribute_name as query_name}
use Rattle.meaning_laws.proofs.SoundFunctions.Kept.{values_kept}
use Rattle.meaning_laws.proofs.SoundRuns.Made.{text_ends, attribute_ends, spaced_known}
use Rattle.meaning_laws.specs.SoundValues.Sound.{IsSound}
use Rattle.transform_meaning.specs.Dispatch.{Doors}
use Rattle.transform_meaning.specs.Instrs.{meanings as instr_meanings, steps as instr_steps, body_does}
use Rattle.transform_meaning.specs.Making as sheet_making
use Rattle.transform_meaning.specs.Names.{attribute_name as sheet_name, attribute_named}
use Rattle.transform_meaning.specs.Texts.{part_text, template_means, text_of_source, simple_text, space}
use Rattle.transform_meaning.specs.Texts.{has_text_node, chars}
use Rattle.transform_laws.proofs.Rolled.{TheInstr, instr_rolled}
use Rattle.way_back.specs.Same.{same}
use Rattle.way_back.specs.Leaves.{is_leaf_at}
use Rattle.way_back.specs.Forms.{one, data_of, name_text}
use Rattle.way_back.specs.Places.{ProgramsSame}
use Rattle.way_back.specs.Differ.{NamesDiffer, Differ}
use Rattle.way_back.specs.Spelled.{is_name, gives_alike, is_spelled}
use Rattle.way_back.proofs.Bodies.{Meets, Becomes, one_becomes}
use Rattle.way_back.proofs.Calls.{first_listed}
use Rattle.way_back.proofs.Choices.{leaf_meets, mean, spaced_one}
use Rattle.way_back.proofs.Making.{same_self, element_given}
use Rattle.way_back.proofs.Outcomes.{over_one}
use Rattle.way_back.proofs.Same.{same_carries}
use Rattle.xt_names.proofs.BoolLemmas.{and_first as first, and_second as second}

-- what is also known of the second outcome
pub with_second : {A : Type 0} (P Q : A → Type 0) (o p : Outcome A) → same A P o p → OnEnds Q p →
    same A (λ v. P v × Q v) o p
with_second P Q (Ends v k) p r h = (r.0, r.1, (r.2, subst (OnEnds Q) r.0 h))
with_second P Q (Fails c) p r h = (r.0, r.1, tt)
with_second P Q Deep p r h = (r.0, r.1, tt)

-- data() of an expression
data_called : called (record { uri = codes "http://www.w3.org/2005/xpath-functions"; local = codes "data" }) 1
    ≡ library function.Data
unfolding called found found_in joined is_in_fn
data_called = refl

data_is : (p : Program) (v : Expr) (e : Env) (k : ℕ) →
    outcome p (data_of v) e k ≡ and_then (outcome p v e k) (λ xs j. Ends (atomized xs) j)
unfolding function_value value_of
data_is p v e k =
    mean p (Call name (v ∷ [])) e k
    ∙ first_listed (outcome p v) [] e k (call_value p (called name 1) name e)
    ∙ ap (λ d. and_then (outcome p v e k) (λ xs j. call_value p d name e (xs ∷ []) j)) data_called
  where
    name : ExprName
    name = record { uri = codes "http://www.w3.org/2005/xpath-functions"; local = codes "data" }

-- the text of atoms
parts_are : (xs : List Item) → merged_runs (without_empty_runs (map part_of (atomized xs)))
    ≡ map (λ x. value (text_of (atom_of x))) xs
unfolding atomized
parts_are [] = refl
parts_are (Node n ∷ xs) = ap (λ l. value (text_of (atom_of (Node n))) ∷ l) (parts_are xs)
parts_are (Atom a ∷ xs) = ap (λ l. value (text_of a) ∷ l) (parts_are xs)

texts_are : (xs : List Item) → map text_in_part (map (λ x. value (text_of (atom_of x))) xs)
    ≡ map (λ x. text_of (atom_of x)) xs
texts_are [] = refl
texts_are (x ∷ xs) = ap (λ l. text_of (atom_of x) ∷ l) (texts_are xs)

no_text_node : (xs : List Item) → has_text_node (atomized xs) ≡ false
unfolding atomized
no_text_node [] = refl
no_text_node (Node n ∷ xs) = no_text_node xs
no_text_node (Atom a ∷ xs) = no_text_node xs

content_is : (xs : List Item) → simple_content space (atomized xs) ≡ query.spaced_text xs
unfolding simple_content query.spaced_text
content_is xs = ap (λ l. joined_with space (map text_in_part l)) (parts_are xs)
    ∙ ap (joined_with space) (texts_are xs)

text_is : (xs : List Item) → simple_text space (atomized xs) ≡ Ok (query.spaced_text xs)
unfolding simple_text
text_is xs = rw (no_text_node xs) (ap (λ (t : List ℕ). Ok t) (content_is xs))

-- names
abbrev IsAttributeName : Name → Type 0
IsAttributeName n = (is_sound_name n && not (is_named_xmlns n)) ≡ true

same_names : (a b : Name) → is_name a b ≡ true → a ≡ b
same_names a b h =
    let r = bytes_eq a.uri b.uri && bytes_eq a.local b.local in
    let p = (bytes_eq-Decides a.prefix b.prefix).0 (first (bytes_eq a.prefix b.prefix) r h) in
    let t = second (bytes_eq a.prefix b.prefix) r h in
    let u = (bytes_eq-Decides a.uri b.uri).0 (first (bytes_eq a.uri b.uri) (bytes_eq a.local b.local) t) in
    let l = (bytes_eq-Decides a.local b.local).0 (second (bytes_eq a.uri b.uri) (bytes_eq a.local b.local) t) in
    λ i. record { prefix = p i; uri = u i; local = l i }

alike_meet : (a b : Result Name Code) → gives_alike a b ≡ true → (k : ℕ) →
    same Name IsAttributeName (step_outcome a k) (step_outcome b k)
alike_meet (Ok a) (Ok b) h k =
    let t = is_name a b in let u = is_sound_name b && not (is_named_xmlns b) in
    subst (λ n. same Name IsAttributeName (Ends n k) (Ends b k))
    (sym (same_names a b (first t u h))) (refl, refl, second t u h)
alike_meet (Ok a) (Err d) h k = absurd cc
alike_meet (Err c) (Ok b) h k = absurd cc
alike_meet (Err c) (Err d) h k = (tt, tt, tt)

module _ (sheet : Sheet) (doors : Doors) (q : Program)
    (programs : ProgramsSame same IsSound doors.program q) where
  abbrev pub Made : Bool → List TheInstr → Meaning → Type 0
  Made s body m = Becomes IsSound values_kept sheet doors s body m

  pub text_becomes : (s : Bool) (t : List ℕ) → is_xml_text t ≡ true →
      Made s (one (Chars t)) (query.text_made (λ f k. Ends (Atom (atom.Str t) ∷ []) k))
  text_becomes s t h =
      one_becomes IsSound values_kept sheet doors s (Chars t) (sheet_making.text_made t) _
      (instr_rolled instr_meanings (instr_steps sheet doors) (Chars t))
      (λ e f at k. subst (λ u. same (List Item) (Every IsSound) (query.made (Gives (tree.Text t)) k)
      (query.made (Gives (tree.Text u)) k)) (sym (spaced_one t))
      (same_self (Every IsSound) (query.made (Gives (tree.Text t)) k) (text_ends t h k)))

  pub element_becomes : (s : Bool) (name : Name) → is_sound_name name ≡ true →
      (body : List TheInstr) (c : Expr) →
      Meets IsSound values_kept s (body_does sheet doors body) (outcome q c) → Differ q s c →
      Made s (one (Literal name [] body)) (query.element_made q (fixed name) (outcome q c))
  element_becomes s name n body c h d =
      one_becomes IsSound values_kept sheet doors s (Literal name [] body)
      (sheet_making.literal_made name [] (body_does sheet doors body)) _
      (instr_rolled instr_meanings (instr_steps sheet doors) (Literal name [] body))
      (λ e f at k.
      same_carries.next _ _ (λ xs. Every IsSound xs × NamesDiffer xs) (Every IsSound)
      (body_does sheet doors body e k) (outcome q c f k) _ _
      (with_second (Every IsSound) NamesDiffer (body_does sheet doors body e k) (outcome q c f k)
      (h e f at k) (d e f at k))
      (λ xs j g. element_given name n xs g.0 g.1 j))

  module _ (scope : List Namespace) (name : Name) (v : Expr) where
    abbrev text : AvtName Expr
    text = record { text = avt.Chars (name_text name) ∷ []; scope = scope; default_uri = [] }

    abbrev named : Env → ℕ → Outcome Name
    named = attribute_named scope (template_means doors.program (avt.Chars (name_text name) ∷ []))

    abbrev valued : Env → ℕ → Outcome (List ℕ)
    valued = text_of_source (Some (outcome doors.program (data_of v))) (body_does sheet doors []) None

    names_meet : is_spelled scope name ≡ true → (e : Env) (k : ℕ) →
        same Name IsAttributeName (named e k) (step_outcome (query_name name) k)
    names_meet h e k =
        subst (λ o. same Name IsAttributeName (and_then o (λ t j. step_outcome (sheet_name scope t) j))
        (step_outcome (query_name name) k))
        (sym (over_one (part_text e) (chars (name_text name)) k))
        (alike_meet (sheet_name scope (name_text name)) (query_name name) h k)

    valued_is : (e : Env) (k : ℕ) →
        valued e k ≡ and_then (outcome doors.program v e k) (λ xs j. Ends (query.spaced_text xs) j)
    valued_is e k =
        ap (λ o. and_then o (λ xs j. step_outcome (simple_text space xs) j)) (data_is doors.program v e k)
        ∙ then_assoc (outcome doors.program v e k) (λ xs j. Ends (atomized xs) j)
        (λ xs j. step_outcome (simple_text space xs) j)
        ∙ then_same (outcome doors.program v e k) _ _ (λ xs j. ap (λ r. step_outcome r j) (text_is xs))

    pub attribute_becomes : (s : Bool) → is_spelled scope name ≡ true → is_leaf_at v s ≡ true →
        Made s (one (Attribute text (Some (data_of v)) [] None))
        (query.attribute_made q (fixed name) (outcome q v))
    attribute_becomes s h leaf =
        one_becomes IsSound values_kept sheet doors s (Attribute text (Some (data_of v)) [] None)
        (sheet_making.attribute_made named valued) _
        (instr_rolled instr_meanings (instr_steps sheet doors) (Attribute text (Some (data_of v)) [] None))
        (λ e f at k.
        same_carries.next Name (List Item) IsAttributeName (Every IsSound) (named e k)
        (step_outcome (query_name name) k) _ _ (names_meet h e k) (λ n j known.
        subst (λ o. same (List Item) (Every IsSound) o
        (and_then (outcome q v f j) (λ xs. query.made (Gives (tree.Attr n (query.spaced_text xs))))))
        (sym (ap (λ o. and_then o (sheet_making.new_attribute n)) (valued_is e j)
        ∙ then_assoc (outcome doors.program v e j) (λ xs i. Ends (query.spaced_text xs) i)
        (sheet_making.new_attribute n)))
        (same_carries.next (List Item) (List Item) (Every IsSound) (Every IsSound)
        (outcome doors.program v e j) (outcome q v f j) _ _
        (leaf_meets IsSound values_kept sheet doors q programs (λ i. refl) (λ t xml. xml) s v leaf e f at j)
        (λ xs i g. same_self (Every IsSound) (query.made (Gives (tree.Attr n (query.spaced_text xs))) i)
        (attribute_ends n (query.spaced_text xs) known (spaced_known xs g) i)))))
