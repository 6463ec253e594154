-- A call of a function that decides is one expression and one level more than its argument.
use Rattle.std.proofs.Common.{◌≡◌, ℕ, ◌+◌, ◌≤◌, max, List, [], ◌∷◌, map, length, refl, sym, ◌∙◌, subst, arith}
use Rattle.std.specs.Prelude.{Bool, true, false, ◌||◌, codes}
use Rattle.xt_names.specs.declared.names.ExprName.{ExprName}
use Rattle.function_table.specs.declared.builtins.Builtin.{Builtin}
use Rattle.function_table.specs.declared.builtins.Builtin.TheVariants as function
use Rattle.xt_forms.specs.Nest.{nest_of}
use Rattle.xt_syntax.specs.declared.exprs.Expr.{Expr}
use Rattle.xt_syntax.specs.declared.exprs.Clause.TheOpen.{Call}
use Rattle.xt_syntax.specs.declared.exprs.Clause.TheViews.{out-Expr, roll-Expr, roll-out-Expr}
use Rattle.expr_meaning.specs.Calls.{Called, library, document, current, current_group, current_key}
use Rattle.expr_meaning.specs.Calls.{key, declared, called}
use Rattle.rewrite_rules.specs.Forms.{ExprForm, some_of}
use Rattle.rewrite_rules.specs.Sizes.{size_of}
use Rattle.rewrite_rules.specs.Known.{Known, constant, negation, emptiness, existence, truth, unknown}
use Rattle.rewrite_rules.specs.Known.{without_argument, with_argument, known_call, known_form, known}
use Rattle.rewrite_rules.specs.Known.{constant_call}
use Rattle.rewrite_rules.specs.Tests.{is_boolean_call, is_boolean, bare_of, bare}
use Rattle.rewrite_rules.proofs.Measured.{size_rolled, nest_rolled}
use Rattle.rewrite_rules.proofs.Counts.{count, count_or, sizes, nests_in}
use Rattle.xt_names.specs.ExprNames.{library_name}

abbrev pub OneMore : Expr → Expr → Type 0
OneMore a e = (size_of e ≡ 1 + size_of a) × (nest_of e ≡ 1 + nest_of a)

abbrev pub Measures : Known → Expr → Type 0
Measures (constant t) e = Unit {0}
Measures (negation a) e = OneMore a e
Measures (emptiness a) e = OneMore a e
Measures (existence a) e = OneMore a e
Measures (truth a) e = OneMore a e
Measures unknown e = Unit {0}

pub call_more : (name : ExprName) (a : Expr) → OneMore a (roll-Expr (Call name (a ∷ [])))
call_more name a =
    (size_rolled (Call name (a ∷ [])) ∙ plus (size_of a), nest_rolled (Call name (a ∷ [])) ∙ most (nest_of a))
  where
    plus : (n : ℕ) → 1 + (n + 0) ≡ 1 + n
    plus n = omega arith

    most : (n : ℕ) → 1 + max n 0 ≡ 1 + n
    most n = grind arith

pub constant_size : (t : Bool) → size_of (constant_call t) ≡ 1
constant_size true = size_rolled (Call (library_name (codes "true")) [])
constant_size false = size_rolled (Call (library_name (codes "false")) [])

pub constant_nest : (t : Bool) → nest_of (constant_call t) ≡ 1
constant_nest true = nest_rolled (Call (library_name (codes "true")) [])
constant_nest false = nest_rolled (Call (library_name (codes "false")) [])

library_one : (f : Builtin) (a e : Expr) → OneMore a e → Measures (with_argument f a) e
library_one function.Not a e h = h
library_one function.Empty a e h = h
library_one function.Exists a e h = h
library_one function.Boolean a e h = h
library_one f a e h = tt

library_none : (f : Builtin) (e : Expr) → Measures (without_argument f) e
library_none function.True e = tt
library_none function.False e = tt
library_none f e = tt

call_measures : (d : Called) (args : List Expr) (e : Expr) →
    ((a : Expr) → args ≡ a ∷ [] → OneMore a e) → Measures (known_call d args) e
call_measures (library f) [] e h = library_none f e
call_measures (library f) (a ∷ []) e h = library_one f a e (h a refl)
call_measures (library f) (a ∷ b ∷ more) e h = tt
call_measures document args e h = tt
call_measures current args e h = tt
call_measures current_group args e h = tt
call_measures current_key args e h = tt
call_measures key args e h = tt
call_measures declared args e h = tt

form_measures : (x : ExprForm) → Measures (known_form x) (roll-Expr x)
form_measures (Call name args) =
    call_measures (called name (length args)) args (roll-Expr (Call name args)) (λ a h.
    subst (λ l. OneMore a (roll-Expr (Call name l))) (sym h) (call_more name a))
form_measures x = tt

pub known_measures : (e : Expr) → Measures (known e) e
known_measures e =
    subst (λ z. Measures (known e) z) (roll-out-Expr e) (form_measures (out-Expr e))

-- without boolean()
bare_size_known : (e : Expr) (d : Known) → Measures d e →
    size_of (bare_of e d) + count (is_boolean_call d) ≤ size_of e
bare_size_known e (truth a) h = subst (λ n. size_of a + 1 ≤ n) (sym h.0) (by (size_of a))
  where
    by : (n : ℕ) → n + 1 ≤ 1 + n
    by n = omega arith
bare_size_known e (constant t) h = omega arith
bare_size_known e (negation a) h = by (size_of e)
  where
    by : (n : ℕ) → n + 0 ≤ n
    by n = omega arith
bare_size_known e (emptiness a) h = by (size_of e)
  where
    by : (n : ℕ) → n + 0 ≤ n
    by n = omega arith
bare_size_known e (existence a) h = by (size_of e)
  where
    by : (n : ℕ) → n + 0 ≤ n
    by n = omega arith
bare_size_known e unknown h = omega arith

pub bare_size : (e : Expr) → size_of (bare e) + count (is_boolean e) ≤ size_of e
bare_size e = bare_size_known e (known e) (known_measures e)

same_nest : (n : ℕ) → n ≤ n
same_nest n = omega arith

bare_nest_known : (e : Expr) (d : Known) → Measures d e → nest_of (bare_of e d) ≤ nest_of e
bare_nest_known e (truth a) h = subst (λ n. nest_of a ≤ n) (sym h.1) (by (nest_of a))
  where
    by : (n : ℕ) → n ≤ 1 + n
    by n = omega arith
bare_nest_known e (constant t) h = same_nest (nest_of e)
bare_nest_known e (negation a) h = same_nest (nest_of e)
bare_nest_known e (emptiness a) h = same_nest (nest_of e)
bare_nest_known e (existence a) h = same_nest (nest_of e)
bare_nest_known e unknown h = same_nest (nest_of e)

pub bare_nest : (e : Expr) → nest_of (bare e) ≤ nest_of e
bare_nest e = bare_nest_known e (known e) (known_measures e)

pub bares_size : (es : List Expr) → sizes (map bare es) + count (some_of is_boolean es) ≤ sizes es
bares_size [] = omega arith
bares_size (e ∷ es) =
    by (size_of (bare e)) (sizes (map bare es)) (size_of e) (sizes es) (is_boolean e)
    (some_of is_boolean es) (bare_size e) (bares_size es)
  where
    by : (a b s t : ℕ) (c d : Bool) → a + count c ≤ s → b + count d ≤ t →
        (a + b) + count (c || d) ≤ s + t
    by a b s t c d h i = let j : count (c || d) ≤ count c + count d = count_or c d in omega arith

pub bares_nest : (es : List Expr) → nests_in (map bare es) ≤ nests_in es
bares_nest [] = omega arith
bares_nest (e ∷ es) =
    by (nest_of (bare e)) (nests_in (map bare es)) (nest_of e) (nests_in es) (bare_nest e) (bares_nest es)
  where
    by : (a b s t : ℕ) → a ≤ s → b ≤ t → max a b ≤ max s t
    by a b s t h i = grind arith
