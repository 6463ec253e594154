-- Sequences of instructions do what the parts of a query do, one after another.
use Rattle.std.proofs.Common.{◌≡◌, ℕ, ◌++◌, List, [], ◌∷◌, sym, ap, ◌∙◌, subst, map, append_assoc}
use Rattle.std.proofs.lemmas.List.{append-nil, map-append}
use Rattle.std.specs.Prelude.{Bool}
use Rattle.xdm_items.specs.declared.items.Item.{Item}
use Rattle.xt_syntax.specs.declared.exprs.Expr.{Expr}
use Rattle.xt_syntax.specs.declared.patterns.Pattern.{Pattern}
use Rattle.xt_sheets.specs.declared.sheets.Sheet.{Sheet}
use Rattle.xt_sheets.specs.declared.instrs.Instr.TheViews.{roll-Instr}
use Rattle.expr_meaning.specs.Outcomes.Outcome.{Every}
use Rattle.expr_meaning.specs.Outcomes.Follow.{any_code}
use Rattle.expr_meaning.proofs.OutcomesLemmas.Relations.{every_append}
use Rattle.expr_meaning.specs.Env.{Env, Meaning}
use Rattle.expr_meaning.specs.Values.{comma_of}
use Rattle.expr_laws.specs.Carrier.{Carrier, IsKept, Meet}
use Rattle.expr_laws.proofs.Values.{just_meets}
use Rattle.transform_meaning.specs.Bindings.{Doing, Makes, body_of, nothing, one_then, then_rest}
use Rattle.transform_meaning.specs.Dispatch.{Doors}
use Rattle.transform_meaning.specs.Instrs.{instr_does, body_does}
use Rattle.transform_laws.proofs.Rolled.{TheInstr, InstrForm}
use Rattle.way_back.specs.Same.{same}
use Rattle.way_back.proofs.Outcomes.{with_nothing, as_it_is, three}
use Rattle.way_back.proofs.Places.{back}
use Rattle.way_back.proofs.Same.{same_carries}

module _ (good : Item → Type 0) (keeps : IsKept good) where
  abbrev pub here : Carrier
  here = back any_code (λ a b. tt) same same_carries good keeps

  abbrev pub Meets : Bool → Meaning → Meaning → Type 0
  Meets s m n = Meet here s m n

  pub rest_meets : (s : Bool) (m n : Meaning) → Meets s m n → (r q : Meaning) → Meets s r q →
      Meets s (then_rest m r) (then_rest n q)
  rest_meets s m n h r q g e f at k =
      same_carries.next _ _ (Every good) (Every good) (m e k) (n f k) _ _ (h e f at k) (λ xs j d.
      same_carries.next _ _ (Every good) (Every good) (r e j) (q f j) _ _ (g e f at j)
      (λ ys i z. same_carries.ends (List Item) (Every good) _ _ (every_append good xs ys d z)))

  -- a meaning that gives the same as another wherever it is looked at
  pub right_is : (s : Bool) (m n t : Meaning) → Meets s m n →
      ((f : Env) (k : ℕ) → n f k ≡ t f k) → Meets s m t
  right_is s m n t h is e f at k = subst (λ o. same (List Item) (Every good) (m e k) o) (is f k) (h e f at k)

  pub left_is : (s : Bool) (m n t : Meaning) → Meets s m n →
      ((e : Env) (k : ℕ) → m e k ≡ t e k) → Meets s t n
  left_is s m n t h is e f at k = subst (λ o. same (List Item) (Every good) o (n f k)) (is e k) (h e f at k)

  module _ (sheet : Sheet) (doors : Doors) where
    abbrev pub doing : List TheInstr → List Doing
    doing body = map (instr_does sheet doors) body

    -- whatever follows, the instructions do what the part of the query does
    abbrev pub Becomes : Bool → List TheInstr → Meaning → Type 0
    Becomes s body m =
        (rest : List Doing) (r : Meaning) → Meets s (body_of rest) r →
        Meets s (body_of (doing body ++ rest)) (then_rest m r)

    pub one_becomes : (s : Bool) (x : InstrForm) (m n : Meaning) →
        instr_does sheet doors (roll-Instr Expr Pattern x) ≡ Makes m → Meets s m n →
        Becomes s (roll-Instr Expr Pattern x ∷ []) n
    one_becomes s x m n is h rest r g =
        subst (λ d. Meets s (one_then d (body_of rest)) (then_rest n r)) (sym is)
        (rest_meets s m n h (body_of rest) r g)

    pub one_body : (x : InstrForm) (m : Meaning) →
        instr_does sheet doors (roll-Instr Expr Pattern x) ≡ Makes m → (e : Env) (k : ℕ) →
        body_does sheet doors (roll-Instr Expr Pattern x ∷ []) e k ≡ m e k
    one_body x m is e k = ap (λ d. one_then d nothing e k) is ∙ with_nothing (m e k)

    pub body_becomes : (s : Bool) (body : List TheInstr) (m : Meaning) → Becomes s body m →
        Meets s (body_does sheet doors body) m
    body_becomes s body m h =
        right_is s (body_does sheet doors body) (then_rest m nothing) m
        (subst (λ l. Meets s (body_of l) (then_rest m nothing)) (append-nil (doing body))
        (h [] nothing (just_meets here s [] tt))) (λ f k. with_nothing (m f k))

    -- parts in a row
    pub none_becomes : (s : Bool) → Becomes s [] (comma_of [])
    none_becomes s rest r g =
        right_is s (body_of rest) r (then_rest (comma_of []) r) g (λ f k. sym (as_it_is (r f k)))

    pub more_becomes : (s : Bool) (a b : List TheInstr) (m : Meaning) (ms : List Meaning) →
        Becomes s a m → Becomes s b (comma_of ms) → Becomes s (a ++ b) (comma_of (m ∷ ms))
    more_becomes s a b m ms h i rest r g =
        right_is s (body_of (doing (a ++ b) ++ rest)) (then_rest m (then_rest (comma_of ms) r))
        (then_rest (comma_of (m ∷ ms)) r)
        (subst (λ l. Meets s (body_of l) (then_rest m (then_rest (comma_of ms) r)))
        (sym (ap (λ l. l ++ rest) (map-append (instr_does sheet doors) a b)
        ∙ append_assoc (doing a) (doing b) rest))
        (h (doing b ++ rest) (then_rest (comma_of ms) r) (i rest r g)))
        (λ f k. three (m f k) (λ j. comma_of ms f j) (λ j. r f j))
