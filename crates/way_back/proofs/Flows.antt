-- A FLWOR becomes variables, and then a test or nothing, or a loop.
use Rattle.std.proofs.Common.{◌≡◌, ℕ, List, [], ◌∷◌, refl, sym, ap, ◌∙◌, subst}
use Rattle.std.specs.Prelude.{ℤ, Bool, true, false, Option, Some, None, option_map}
use Rattle.xt_names.specs.Classes.{is_xml_text}
use Rattle.xt_names.specs.declared.names.ExprName.{ExprName}
use Rattle.xt_types.specs.declared.types.SeqType.{SeqType}
use Rattle.xt_atoms.specs.Casts.{wrong_type}
use Rattle.xt_atoms.specs.declared.atoms.Atom.TheVariants as atom
use Rattle.xdm_items.specs.declared.items.Item.{Item}
use Rattle.xdm_items.specs.declared.items.Item.TheVariants.{Atom}
use Rattle.xt_syntax.specs.declared.exprs.Expr.{Expr}
use Rattle.xt_syntax.specs.declared.exprs.Bind.{Bind}
use Rattle.xt_syntax.specs.declared.exprs.Clause.TheViews.{out-Bind, roll-out-Bind}
use Rattle.xt_syntax.specs.Layers.{bind_gives}
use Rattle.xt_sheets.specs.declared.sheets.Sheet.{Sheet}
use Rattle.xt_sheets.specs.declared.instrs.Instr.TheOpen.{If}
use Rattle.expr_meaning.specs.Outcomes.Outcome.{Outcome, Ends, and_then, Every, Anything, for_each}
use Rattle.expr_meaning.proofs.OutcomesLemmas.Steps.{then_assoc}
use Rattle.order_group.specs.Rows.{Keyed}
use Rattle.expr_meaning.specs.Env.{Binding, Env, Meaning, Program, bind_all, bind}
use Rattle.expr_meaning.specs.Flow.{Tuples, let_clause, where_clause, keyed, kept_tuple, finished}
use Rattle.expr_meaning.specs.Logic.{truth_at, chosen, either_of}
use Rattle.expr_meaning.specs.Meaning.{meanings, steps, outcome}
use Rattle.expr_laws.specs.Carrier.{IsKept}
use Rattle.expr_laws.proofs.Logic.{truth_meets}
use Rattle.expr_laws.proofs.Rolled.{rolled_bind}
use Rattle.transform_meaning.specs.Bindings.{Binds, nothing, bound_then, own_value}
use Rattle.transform_meaning.specs.Bindings.{converted_value}
use Rattle.transform_meaning.specs.Dispatch.{Doors}
use Rattle.transform_meaning.specs.Instrs.{meanings as instr_meanings, steps as instr_steps}
use Rattle.transform_meaning.specs.Instrs.{body_does, instr_does}
use Rattle.transform_laws.proofs.Rolled.{TheInstr, instr_rolled, bound_rolled, value_rolled}
use Rattle.way_back.specs.Same.{same}
use Rattle.way_back.specs.Leaves.{is_leaf_at, is_missing}
use Rattle.way_back.specs.Forms.{variable, where_instr, one, if_leaf}
use Rattle.way_back.specs.Places.{IsSame, ProgramsSame}
use Rattle.way_back.proofs.Bodies.{here, Meets, one_body}
use Rattle.way_back.proofs.Choices.{leaf_meets}
use Rattle.way_back.proofs.Outcomes.{one_ordered, none_ordered, over_one}
use Rattle.way_back.proofs.Same.{same_carries}

-- what a variable of a binding without a type is bound to
pub bind_is : (q : Program) (b : Bind) → bind_gives meanings (steps q) b
    ≡ record { var = (out-Bind b).var; kind = (out-Bind b).kind; source = outcome q (out-Bind b).source }
bind_is q b = ap (bind_gives meanings (steps q)) (sym (roll-out-Bind b)) ∙ rolled_bind q (out-Bind b)

pub untyped : (kind : Option SeqType) → is_missing kind ≡ true → kind ≡ None
untyped None h = refl
untyped (Some t) h = absurd cc

-- a tuple without keys, and then the body
pub one_tuple : (body : Meaning) (bound : List Binding) (f : Env) (k : ℕ) →
    and_then (keyed [] bound f k) (finished [] body f) ≡ body (bind_all bound f) k
one_tuple body bound f k =
    ap (λ o. and_then o (for_each (λ b. body (bind_all b f)))) (one_ordered wrong_type bound k)
    ∙ over_one (λ b. body (bind_all b f)) bound k

no_tuple : (body : Meaning) (f : Env) (k : ℕ) → finished [] body f [] k ≡ Ends [] k
no_tuple body f k = ap (λ o. and_then o (for_each (λ b. body (bind_all b f)))) (none_ordered wrong_type k)

-- an instruction that binds a variable
pub variable_is : (sheet : Sheet) (doors : Doors) (x : ExprName) (e : Expr) →
    instr_does sheet doors (variable x e)
    ≡ Binds x (own_value (Some (converted_value None (outcome doors.program e))))
variable_is sheet doors x e =
    instr_rolled instr_meanings (instr_steps sheet doors) _
    ∙ ap (λ v. Binds v.name (own_value v.value)) (bound_rolled instr_meanings (instr_steps sheet doors) _)
    ∙ ap (λ (v : Option SeqType → Option Meaning). Binds x (own_value (v None)))
    (value_rolled instr_meanings (instr_steps sheet doors) _)

module _ (good : Item → Type 0) (keeps : IsKept good) (sheet : Sheet) (doors : Doors) (q : Program)
    (programs : ProgramsSame same good doors.program q) (integers : (n : ℤ) → good (Atom (atom.Int n)))
    (texts : (t : List ℕ) → is_xml_text t ≡ true → good (Atom (atom.Str t))) where
  -- the instructions at one place do what a query does from there
  abbrev pub Does : List TheInstr → Env → Outcome (List Item) → ℕ → Type 0
  Does body e o k = same (List Item) (Every good) (body_does sheet doors body e k) o

  -- `where`, or nothing
  module _ (s : Bool) (body : List TheInstr) (m : Meaning)
      (h : Meets good keeps s (body_does sheet doors body) m) where
    kept_meets : (bound : List Binding) (e f : Env) → IsSame good s e (bind_all bound f) → (b : Bool)
        (k : ℕ) →
        same (List Item) (Every good) (chosen (body_does sheet doors body) nothing e b k)
        (and_then (kept_tuple (keyed []) bound f b k) (finished [] m f))
    kept_meets bound e f at true k =
        subst (λ o. Does body e o k) (sym (one_tuple m bound f k)) (h e (bind_all bound f) at k)
    kept_meets bound e f at false k =
        subst (λ o. same (List Item) (Every good) (Ends [] k) o) (sym (no_tuple m f k))
        (same_carries.ends (List Item) (Every good) [] k tt)

    pub where_does : (test : Option Expr) → if_leaf test s ≡ true → (bound : List Binding) (e f : Env) →
        IsSame good s e (bind_all bound f) → (k : ℕ) →
        Does (where_instr [] test body) e
        (and_then (where_clause (option_map (outcome q) test) (keyed []) bound f k) (finished [] m f)) k
    where_does None g bound e f at k =
        subst (λ o. Does body e o k) (sym (one_tuple m bound f k)) (h e (bind_all bound f) at k)
    where_does (Some test) g bound e f at k =
        subst (λ o. Does (one (If test body)) e o k)
        (sym (then_assoc (truth_at (outcome q test) (bind_all bound f) k) (kept_tuple (keyed []) bound f)
        (finished [] m f)))
        (subst (λ o. same (List Item) (Every good) o
        (and_then (truth_at (outcome q test) (bind_all bound f) k)
        (λ b j. and_then (kept_tuple (keyed []) bound f b j) (finished [] m f))))
        (sym (one_body good keeps sheet doors (If test body)
        (either_of (outcome doors.program test) (body_does sheet doors body) nothing)
        (instr_rolled instr_meanings (instr_steps sheet doors) (If test body)) e k))
        (same_carries.next _ _ Anything (Every good) _ _ _ _
        (truth_meets (here good keeps) s _ _
        (leaf_meets good keeps sheet doors q programs integers texts s test g) e (bind_all bound f) at k)
        (λ t j u. kept_meets bound e f at t j)))

  -- a variable, and then the rest
  pub let_does : (s : Bool) (b : Bind) → is_missing (out-Bind b).kind ≡ true →
      is_leaf_at (out-Bind b).source s ≡ true → (rest : List TheInstr) (more : Tuples)
      (go : List (Keyed (List Binding)) → ℕ → Outcome (List Item)) (bound : List Binding)
      (e f : Env) → IsSame good s e (bind_all bound f) →
      ((xs : List Item) → Every good xs → (j : ℕ) →
      Does rest (bind (out-Bind b).var xs e) (and_then (more (((out-Bind b).var, xs) ∷ bound) f j) go) j) →
      (k : ℕ) →
      Does (variable (out-Bind b).var (out-Bind b).source ∷ rest) e
      (and_then (let_clause (bind_gives meanings (steps q) b) more bound f k) go) k
  let_does s b kind leaf rest more go bound e f at h k =
      rw (bind_is q b, untyped (out-Bind b).kind kind, variable_is sheet doors x src)
      (subst (λ o. same (List Item) (Every good) (bound_then x (converted_value None (outcome doors.program src)) (body_does sheet doors rest) e k) o)
      (sym (then_assoc (outcome q src (bind_all bound f) k) _ go))
      (subst (λ o. same (List Item) (Every good) o
      (and_then (outcome q src (bind_all bound f) k) (λ xs j. and_then (more ((x, xs) ∷ bound) f j) go)))
      (sym (then_assoc (outcome doors.program src e k) _ _))
      (same_carries.next _ _ (Every good) (Every good) _ _ _ _
      (leaf_meets good keeps sheet doors q programs integers texts s src leaf e (bind_all bound f) at k)
      (λ xs j g. h xs g j))))
    where
      x : ExprName
      x = (out-Bind b).var

      src : Expr
      src = (out-Bind b).source
