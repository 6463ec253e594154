-- Leaves, choices and texts become instructions.
use Rattle.std.proofs.Common.{◌≡◌, ℕ, List, [], ◌∷◌, refl, sym, ap, map}
use Rattle.std.proofs.lemmas.List.{append-nil}
use Rattle.std.specs.Prelude.{ℤ, pos, Bool, true}
use Rattle.std.specs.List.{list_all}
use Rattle.xt_names.specs.Classes.{is_xml_text}
use Rattle.xt_atoms.specs.declared.atoms.Atom.TheVariants as atom
use Rattle.xt_atoms.specs.AtomTexts.{text_of}
use Rattle.xdm_items.specs.declared.items.Item.{Item}
use Rattle.xdm_items.specs.declared.items.Item.TheVariants.{Atom}
use Rattle.xdm_items.specs.Truth.{truth_of, truth_of_atom}
use Rattle.xt_syntax.specs.declared.exprs.Expr.{Expr}
use Rattle.xt_syntax.specs.declared.exprs.Arm.{Arm}
use Rattle.xt_syntax.specs.declared.exprs.Clause.TheOpen.{Int, If as IfOf}
use Rattle.xt_syntax.specs.declared.exprs.Clause.TheViews.{roll-Expr, out-Arm}
use Rattle.xt_syntax.specs.Layers.{arm_gives}
use Rattle.xt_sheets.specs.declared.sheets.Sheet.{Sheet}
use Rattle.xt_sheets.specs.declared.instrs.Instr.TheOpen.{Sequence, Choose, If}
use Rattle.expr_meaning.specs.Outcomes.Outcome.{Every}
use Rattle.expr_meaning.specs.Outcomes.Follow.{any_code}
use Rattle.expr_meaning.specs.Env.{Env, Meaning, Program}
use Rattle.expr_meaning.specs.Logic.{either_of}
use Rattle.expr_meaning.specs.Making.{spaced_text}
use Rattle.expr_meaning.specs.Meaning.{meanings, steps, outcome}
use Rattle.expr_laws.specs.Carrier.{IsKept}
use Rattle.expr_laws.proofs.Logic.{ArmsMeet, choice_meets}
use Rattle.expr_laws.proofs.Rolled.{means, rolled, rolled_arm}
use Rattle.transform_meaning.specs.Bindings.{nothing}
use Rattle.transform_meaning.specs.Dispatch.{Doors}
use Rattle.transform_meaning.specs.Instrs.{meanings as instr_meanings, steps as instr_steps}
use Rattle.transform_meaning.specs.Instrs.{body_does, when_does}
use Rattle.transform_laws.proofs.Rolled.{TheInstr, instr_rolled, when_rolled}
use Rattle.way_back.specs.Same.{same}
use Rattle.way_back.specs.Leaves.{is_leaf_at}
use Rattle.way_back.specs.Forms.{one, when_of, counted_arm, arm_fits, bracketed}
use Rattle.way_back.specs.Places.{ProgramsSame}
use Rattle.way_back.proofs.Bodies.{here, Meets, Becomes, one_becomes, body_becomes, right_is, left_is}
use Rattle.way_back.proofs.Leaf.{leaf_same}
use Rattle.way_back.proofs.Same.{same_carries}
use Rattle.xt_names.proofs.BoolLemmas.{and_first as first, and_second as second}

pub mean : (q : Program) (x : _) (f : Env) (k : ℕ) → outcome q (roll-Expr x) f k ≡ means q x f k
mean q x f k = ap (λ (m : Meaning). m f k) (rolled q x)

pub spaced_one : (t : List ℕ) → spaced_text (Atom (atom.Str t) ∷ []) ≡ t
unfolding spaced_text text_of
spaced_one t = append-nil t

module _ (good : Item → Type 0) (keeps : IsKept good) (sheet : Sheet) (doors : Doors) (q : Program)
    (programs : ProgramsSame same good doors.program q) (integers : (n : ℤ) → good (Atom (atom.Int n)))
    (texts : (t : List ℕ) → is_xml_text t ≡ true → good (Atom (atom.Str t))) where
  pub leaf_meets : (s : Bool) (e : Expr) → is_leaf_at e s ≡ true →
      Meets good keeps s (outcome doors.program e) (outcome q e)
  leaf_meets s e h =
      leaf_same any_code (λ a b. tt) same same_carries good keeps doors.program q programs integers
      texts e s h

  pub leaf_becomes : (s : Bool) (e : Expr) → is_leaf_at e s ≡ true →
      Becomes good keeps sheet doors s (one (Sequence e)) (outcome q e)
  leaf_becomes s e h =
      one_becomes good keeps sheet doors s (Sequence e) (outcome doors.program e) (outcome q e)
      (instr_rolled instr_meanings (instr_steps sheet doors) (Sequence e)) (leaf_meets s e h)

  -- instructions that always run
  always : (body : Meaning) (e : Env) (k : ℕ) →
      body e k ≡ either_of (outcome doors.program (roll-Expr (Int (pos 1)))) body nothing e k
  unfolding truth_of truth_of_atom
  always body e k = rw (mean doors.program (Int (pos 1)) e k) refl

  pub bracket_becomes : (s : Bool) (body : List TheInstr) (m : Meaning) →
      Meets good keeps s (body_does sheet doors body) m →
      Becomes good keeps sheet doors s (bracketed body) m
  bracket_becomes s body m h =
      one_becomes good keeps sheet doors s (If (roll-Expr (Int (pos 1))) body)
      (either_of (outcome doors.program (roll-Expr (Int (pos 1)))) (body_does sheet doors body) nothing) m
      (instr_rolled instr_meanings (instr_steps sheet doors) (If (roll-Expr (Int (pos 1))) body))
      (left_is good keeps s (body_does sheet doors body) m _ h (always (body_does sheet doors body)))

  -- a choice
  module _ (s : Bool) (fits spelled : Expr → Bool) (Known : Expr → Type 0) (go : Expr → List TheInstr)
      (counted : Expr → Expr)
      (parts : (e : Expr) → fits e ≡ true → spelled e ≡ true → Known e →
      Becomes good keeps sheet doors s (go e) (outcome q (counted e))) where
    abbrev pub AllKnown : List Arm → Type 0
    AllKnown arms = Every (λ a. Known (out-Arm a).then) arms

    arms_meet : (arms : List Arm) → list_all (arm_fits fits s) arms ≡ true →
        list_all (λ a. spelled (out-Arm a).then) arms ≡ true → AllKnown arms →
        ArmsMeet (here good keeps) s (map (when_does sheet doors) (map (when_of [] go) arms))
        (map (arm_gives meanings (steps q)) (map (counted_arm counted) arms))
    arms_meet [] h g known = tt
    arms_meet (a ∷ more) h g known =
        let x = out-Arm a in
        let fit = first (arm_fits fits s a) (list_all (arm_fits fits s) more) h in
        let b = first (is_leaf_at x.test s) (fits x.then) fit in
        let c = second (is_leaf_at x.test s) (fits x.then) fit in
        let d = first (spelled x.then) (list_all (λ a. spelled (out-Arm a).then) more) g in
        rw (
          when_rolled instr_meanings (instr_steps sheet doors)
              (record { test = x.test; body = go x.then }),
          rolled_arm q (record { test = x.test; then = counted x.then }),
        ) (
          (
            leaf_meets s x.test b,
            body_becomes good keeps sheet doors s (go x.then) (outcome q (counted x.then))
                (parts x.then c d known.0),
          ),
          arms_meet more (second (arm_fits fits s a) (list_all (arm_fits fits s) more) h)
              (second (spelled x.then) (list_all (λ a. spelled (out-Arm a).then) more) g) known.1,
        )

    pub choice_becomes : (arms : List Arm) → list_all (arm_fits fits s) arms ≡ true →
        list_all (λ a. spelled (out-Arm a).then) arms ≡ true → AllKnown arms → (other : Expr) →
        fits other ≡ true → spelled other ≡ true → Known other →
        Becomes good keeps sheet doors s (one (Choose (map (when_of [] go) arms) (go other)))
        (outcome q (roll-Expr (IfOf (map (counted_arm counted) arms) (counted other))))
    choice_becomes arms h g known other fit spelt k =
        one_becomes good keeps sheet doors s (Choose (map (when_of [] go) arms) (go other)) _ _
        (instr_rolled instr_meanings (instr_steps sheet doors)
        (Choose (map (when_of [] go) arms) (go other)))
        (right_is good keeps s _ (means q (IfOf (map (counted_arm counted) arms) (counted other))) _
        (choice_meets (here good keeps) s _ _ (arms_meet arms h g known) _ _
        (body_becomes good keeps sheet doors s (go other) (outcome q (counted other))
        (parts other fit spelt k)))
        (λ f i. sym (mean q (IfOf (map (counted_arm counted) arms) (counted other)) f i)))
