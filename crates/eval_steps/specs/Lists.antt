-- Answers whose value is held in another form.
use Rattle.std.specs.Prelude.{◌≡◌, ℕ, List, [], ◌∷◌, ◌++◌, Result, Ok, Err, Bool, true, false}
use Rattle.std.specs.declared.vec.Vec.{Vec}
use Rattle.std.specs.declared.alloc.Global.{Global}
use Rattle.xdm_items.specs.declared.items.Item.{Item}
use Rattle.expr_meaning.specs.Outcomes.Outcome.{Outcome, Ends, and_then}
use Rattle.expr_meaning.specs.Env.{Binding}
use Rattle.eval_lates.specs.EvalScopes.declared.faults.EvalFault.{EvalFault}
use Rattle.eval_lates.specs.EvalScopes.declared.scopes.Variable.{Variable}
use Rattle.eval_lates.specs.EvalScopes.Answers.{IsFaultOf}
use Rattle.eval_lates.specs.EvalScopes.Scopes.{binding_of}

-- the answer stands for the outcome, whose value is what `view` shows
abbrev pub AnswersAs : {A B : Type 0} → (A → B) → Result A EvalFault → ℕ → Outcome B → Type 0
AnswersAs view (Ok v) k o = o ≡ Ends (view v) k
AnswersAs view (Err fault) k o = IsFaultOf fault o

-- .. the list of what is in a vector
abbrev pub AnswersAll : {A : Type 0} → Result (Vec A Global) EvalFault → ℕ → Outcome (List A) →
    Type 0
AnswersAll result k o = AnswersAs (λ v. v.items) result k o

-- .. the variable that is put after those that are bound
abbrev pub AnswersPushed : Result (Unit {0}) EvalFault → List Variable → List Variable → ℕ →
    Outcome Binding → Type 0
AnswersPushed (Ok u) old new k o =
    (v : Variable) × (new ≡ old ++ v ∷ []) × (o ≡ Ends (binding_of v) k)
AnswersPushed (Err fault) old new k o = IsFaultOf fault o

-- a variable with this binding is put after those that are bound
abbrev pub IsPushed : Binding → List Variable → List Variable → Type 0
IsPushed b old new = (v : Variable) × (new ≡ old ++ v ∷ []) × (binding_of v ≡ b)

-- the binding that the first item gives, where there is one
abbrev pub first_bound : (Item → ℕ → Outcome Binding) → List Item → ℕ → Outcome (List Binding)
first_bound bound [] k = Ends [] k
first_bound bound (x ∷ xs) k = and_then (bound x k) (λ b j. Ends (b ∷ []) j)

-- the first item is taken out, and the variable that it gives is put after those that are bound;
-- false where there is no item
abbrev pub AnswersNext : (Item → ℕ → Outcome Binding) → Result Bool EvalFault → List Variable →
    List Variable → List Item → List Item → ℕ → Type 0
AnswersNext bound (Ok true) old new before after k =
    (x : Item) × (v : Variable) × (before ≡ x ∷ after) × (new ≡ old ++ v ∷ [])
    × (bound x k ≡ Ends (binding_of v) k)
AnswersNext bound (Ok false) old new before after k = before ≡ []
AnswersNext bound (Err fault) old new before after k = IsFaultOf fault (first_bound bound before k)
