-- Parameters that are bound in turn.
use Rattle.std.proofs.Common.{◌≡◌, ℕ, zero, suc, ◌+◌, List, [], ◌∷◌, ◌++◌, append_assoc, drop}
use Rattle.std.proofs.Common.{length, slice_get, map, reverse, refl, ap, sym, ◌∙◌, arith, ◌<◌}
use Rattle.std.proofs.Common.{get_or}
use Rattle.std.specs.Prelude.{Option, Some, None, Result, Ok, Err}
use Rattle.std.proofs.Math.ListN.{drop_of_length-le}
use Rattle.std.proofs.lemmas.List.{reverse-append}
use Rattle.xt_names.specs.declared.codes.Code.{Code}
use Rattle.xt_atoms.specs.declared.faults.ValueFault.{ValueFault}
use Rattle.xt_atoms.specs.declared.faults.ValueFault.TheVariants as value
use Rattle.xdm_items.specs.declared.items.Item.{Item}
use Rattle.xt_syntax.specs.declared.queries.QueryParam.{QueryParam}
use Rattle.expr_meaning.specs.Env.{Binding}
use Rattle.expr_meaning.specs.Queries.{bound_params, bound_to, converted_to}
use Rattle.eval_scopes.specs.declared.scopes.Variable.{Variable}
use Rattle.eval_scopes.specs.Scopes.{binding_of, pushed_on}
use Rattle.eval_scopes.proofs.ScopeLemmas.{pushed_last}
use Rattle.xquery_eval.specs.Runs.{AnswersBound, AnswersParam}

-- those that are bound already stand in front
abbrev pub in_front : List Binding → Result (List Binding) Code → Result (List Binding) Code
in_front bs (Ok more) = Ok (bs ++ more)
in_front bs (Err code) = Err code

-- what is bound before a place, and what is left there
abbrev pub BoundBefore : List QueryParam → List (List Item) → List Variable → ℕ → Type 0
BoundBefore params args bound i =
    bound_params params args
    ≡ in_front (map binding_of bound) (bound_params (drop i params) (drop i args))

front_none : (r : Result (List Binding) Code) → in_front [] r ≡ r
front_none (Ok more) = refl
front_none (Err code) = refl

pub none_bound : (params : List QueryParam) (args : List (List Item)) →
    BoundBefore params args [] 0
none_bound params args = sym (front_none (bound_params params args))

no_arguments : (params : List QueryParam) → bound_params params [] ≡ Ok []
no_arguments [] = refl
no_arguments (p ∷ ps) = refl

-- a parameter without an argument binds nothing
pub unbound : (params : List QueryParam) (args : List (List Item)) (i : ℕ) →
    slice_get args i ≡ None →
    bound_params (drop i params) (drop i args)
    ≡ bound_params (drop (suc i) params) (drop (suc i) args)
unbound params [] zero e = no_arguments params ∙ sym (no_arguments (drop 1 params))
unbound params (xs ∷ args) zero e = absurd cc
unbound [] [] (suc i) e = refl
unbound [] (xs ∷ args) (suc i) e = refl
unbound (p ∷ ps) [] (suc i) e =
    no_arguments (drop i ps) ∙ sym (no_arguments (drop (suc i) ps))
unbound (p ∷ ps) (xs ∷ args) (suc i) e = unbound ps args i e

-- the parameter at a place with its argument, and those after it
bound_at : (params : List QueryParam) (args : List (List Item)) (i : ℕ) (p : QueryParam)
    (xs : List Item) → slice_get params i ≡ Some p → slice_get args i ≡ Some xs →
    bound_params (drop i params) (drop i args)
    ≡ bound_to p (converted_to p.kind xs) (bound_params (drop (suc i) params) (drop (suc i) args))
bound_at [] args i p xs a b = absurd cc
bound_at (q ∷ ps) [] i p xs a b = absurd cc
bound_at (q ∷ ps) (ys ∷ args) zero p xs a b =
    let here : q ≡ p = cc in
    let there : ys ≡ xs = cc in
    rw (here, there) refl
bound_at (q ∷ ps) (ys ∷ args) (suc i) p xs a b = bound_at ps args i p xs a b

map_append : (vs : List Variable) (v : Variable) →
    map binding_of (vs ++ v ∷ []) ≡ map binding_of vs ++ binding_of v ∷ []
map_append [] v = refl
map_append (w ∷ vs) v = ap (λ bs. binding_of w ∷ bs) (map_append vs v)

one_more : (bound : List Variable) (v : Variable) (p : QueryParam) (ys : List Item)
    (r : Result (List Binding) Code) → binding_of v ≡ (p.name, ys) →
    in_front (map binding_of bound) (bound_to p (Ok ys) r)
    ≡ in_front (map binding_of (bound ++ v ∷ [])) r
one_more bound v p ys (Ok more) e =
    ap (λ b. Ok (map binding_of bound ++ b ∷ more)) (sym e)
    ∙ ap Ok (sym (append_assoc (map binding_of bound) (binding_of v ∷ []) more))
    ∙ ap (λ bs. Ok (bs ++ more)) (sym (map_append bound v))
one_more bound v p ys (Err code) e = refl

module _ (params : List QueryParam) (args : List (List Item)) (bound : List Variable) (i : ℕ)
    (before : BoundBefore params args bound i) where
  pub none_there : slice_get args i ≡ None → BoundBefore params args bound (suc i)
  none_there e = before ∙ ap (in_front (map binding_of bound)) (unbound params args i e)

  module _ (p : QueryParam) (xs : List Item) (is : slice_get params i ≡ Some p)
      (given : slice_get args i ≡ Some xs) where
    pub bound_there : (v : Variable) (ys : List Item) → converted_to p.kind xs ≡ Ok ys →
        binding_of v ≡ (p.name, ys) → BoundBefore params args (bound ++ v ∷ []) (suc i)
    bound_there v ys ok e =
        before
        ∙ ap (in_front (map binding_of bound)) (bound_at params args i p xs is given)
        ∙ ap (λ r. in_front (map binding_of bound)
        (bound_to p r (bound_params (drop (suc i) params) (drop (suc i) args)))) ok
        ∙ one_more bound v p ys _ e

    pub wrong_there : (code : Code) → converted_to p.kind xs ≡ Err code →
        bound_params params args ≡ Err code
    wrong_there code err =
        before
        ∙ ap (in_front (map binding_of bound)) (bound_at params args i p xs is given)
        ∙ ap (λ r. in_front (map binding_of bound)
        (bound_to p r (bound_params (drop (suc i) params) (drop (suc i) args)))) err

    pub fault_there : (fault : ValueFault) →
        AnswersParam p (converted_to p.kind xs) (Err fault) →
        AnswersBound (bound_params params args) (Err fault)
    fault_there (value.Error code) h = wrong_there code h
    fault_there (value.Memory e) h = tt

pushed_front : (outer : List Binding) (vs : List Variable) →
    pushed_on outer (reverse vs) ≡ map binding_of vs ++ outer
pushed_front outer [] = refl
pushed_front outer (v ∷ vs) =
    ap (pushed_on outer) (reverse-append (v ∷ []) vs)
    ∙ pushed_last outer (reverse vs) v
    ∙ ap (λ bs. binding_of v ∷ bs) (pushed_front outer vs)

no_params : (args : List (List Item)) → bound_params [] args ≡ Ok []
no_params [] = refl
no_params (xs ∷ args) = refl

-- all are bound
pub all_bound : (params : List QueryParam) (args : List (List Item)) (bound : List Variable) →
    BoundBefore params args bound (length params) →
    bound_params params args ≡ Ok (pushed_on [] (reverse bound))
all_bound params args bound before =
    before
    ∙ ap (λ ps. in_front (map binding_of bound) (bound_params ps (drop (length params) args)))
    (drop_of_length-le params (omega arith))
    ∙ ap (in_front (map binding_of bound)) (no_params (drop (length params) args))
    ∙ ap Ok (sym (pushed_front [] bound))

-- the item at a place
pub got : (params : List QueryParam) (i : ℕ) (p d : QueryParam) → i < length params →
    p ≡ get_or params i d → slice_get params i ≡ Some p
got [] i p d h e = absurd (omega (arith, h))
got (q ∷ ps) zero p d h e = ap Some (sym e)
got (q ∷ ps) (suc i) p d h e = got ps i p d (omega (arith, h)) e
