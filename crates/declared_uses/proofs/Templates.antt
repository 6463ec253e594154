-- Each template that is called has a name.
use Rattle.std.proofs.Common.{◌≡◌, ◌≤◌, ◌<◌, ℕ, zero, suc, ◌+◌, List, [], ◌∷◌, ◌++◌, map, length, min}
use Rattle.std.proofs.Common.{Bool, true, false, not, ◌&&◌, ◌||◌, cond, Option, Some, None, slice_get}
use Rattle.std.proofs.Common.{nat_eq, refl, sym, ap, subst, ◌∙◌, arith, inl, inr}
use Rattle.std.proofs.lemmas.Bool.{and_parts, and_from, or_cases, or_left, or_right, eq-eqb}
use Rattle.std.proofs.lemmas.Bool.{ne_eqb, lt-ltb}
use Rattle.std.proofs.lemmas.List.Folds.{list_any-append, list_all-append}
use Rattle.std.specs.Prelude.{is_some, unwrap_or}
use Rattle.std.specs.List.{list_any, list_all, position_or_len, range_with_len}
use Rattle.xt_names.specs.declared.names.ExprName.{ExprName}
use Rattle.xt_syntax.specs.declared.exprs.Expr.{Expr}
use Rattle.xt_syntax.specs.declared.patterns.Pattern.{Pattern}
use Rattle.name_rules.specs.Scopes.{signature}
use Rattle.sheet_modules.specs.declared.modules.Part.{Part}
use Rattle.sheet_modules.specs.declared.modules.Part.TheVariants as part
use Rattle.sheet_values.specs.SheetTexts.Names.{number_of}
use Rattle.sheet_rules.specs.declared.sheet_declarations.lists.Declaration.{Declaration}
use Rattle.sheet_rules.specs.SheetDeclarations.Counts.{a_template, declared_by, replaces, template_of}
use Rattle.sheet_assembly.specs.Named.{each, each_by, is_marked, behind}
use Rattle.sheet_assembly.specs.Templates.{small, number_in, name_if, standing_template, standing_in}
use Rattle.sheet_assembly.specs.Templates.{standing_if, first_at, or_none, template_at, template_in}
use Rattle.sheet_assembly.specs.Templates.{other_of, templates_of}
use Rattle.assembly_laws.specs.SheetClosure.Declared.{is_named}
use Rattle.declared_uses.proofs.Counts.{counts}
use Rattle.xt_names.specs.ExprNames.{same_name}
use Rattle.xt_names.proofs.NameLemmas.{same_names}

-- a name that is among others has a place there
place_below : (n : ExprName) (names : List ExprName) → list_any (same_name n) names ≡ true
    → position_or_len (same_name n) names < length names
place_below n [] h = absurd cc
place_below n (m ∷ names) h = go (same_name n m) h (λ k. place_below n names k)
  where
    go : (b : Bool) → (b || list_any (same_name n) names) ≡ true
        → (list_any (same_name n) names ≡ true
        → position_or_len (same_name n) names < length names)
        → cond (not b) (1 + position_or_len (same_name n) names) 0 < suc (length names)
    go true k f = omega arith
    go false k f = let less = f k in omega (arith, less)

pub number_below : (n : ExprName) (names : List ExprName) → list_any (same_name n) names ≡ true
    → number_of names n < length names
number_below n names h =
    let less = place_below n names h in
    subst (λ (o : Option ℕ). min (unwrap_or o (length names)) 4294967295 < length names)
    (sym (ap (λ (b : Bool). cond b (Some (position_or_len (same_name n) names)) None)
    (lt-ltb (position_or_len (same_name n) names) (length names) less)))
    (let most : min (position_or_len (same_name n) names) 4294967295
    ≤ position_or_len (same_name n) names = omega arith in
    omega (arith, most, less))

-- the first of a list that passes, where the first of the list is at this place
abbrev first_in : {A : Type 0} → (A → Bool) → ℕ → List A → Option ℕ
first_in test k [] = None
first_in test k (x ∷ xs) = cond (test x) (Some k) (first_in test (suc k) xs)

abbrev if_there : {A : Type 0} → (A → Bool) → Option A → Bool
if_there named None = false
if_there named (Some x) = named x

abbrev there : {A : Type 0} → (A → Bool) → List A → Option ℕ → Bool
there named all None = false
there named all (Some i) = if_there named (slice_get all i)

first_is : {A : Type 0} (test named : A → Bool) (all xs : List A) (k : ℕ)
    → ((j : ℕ) → slice_get all (k + j) ≡ slice_get xs j) → list_any test xs ≡ true
    → list_all (λ x. not (test x) || named x) xs ≡ true
    → there named all (first_in test k xs) ≡ true
first_is test named all [] k same h n = absurd cc
first_is test named all (x ∷ xs) k same h n =
    go (test x) h n
    (λ i m. first_is test named all xs (suc k)
    (λ j. ap (slice_get all) (let e : suc k + j ≡ k + suc j = omega arith in e) ∙ same (suc j)) i m)
  where
    go : (b : Bool) → (b || list_any test xs) ≡ true
        → ((not b || named x) && list_all (λ x. not (test x) || named x) xs) ≡ true
        → (list_any test xs ≡ true → list_all (λ x. not (test x) || named x) xs ≡ true
        → there named all (first_in test (suc k) xs) ≡ true)
        → there named all (cond b (Some k) (first_in test (suc k) xs)) ≡ true
    go true h n f =
        let here : slice_get all k ≡ Some x =
        ap (slice_get all) (let e : k ≡ k + 0 = omega arith in e) ∙ same 0 in
        ap (if_there named) here ∙ (and_parts (named x) _ n).0
    go false h n f = f h n

-- the same of templates
first_same : (number k : ℕ) (ts : _)
    → first_at number k ts ≡ first_in (λ t. nat_eq t.number number) k ts
first_same number k [] = refl
first_same number k (t ∷ ts) =
    ap (λ (o : Option ℕ). cond (nat_eq t.number number) (Some k) o) (first_same number (suc k) ts)

or_same : (x : _) → is_some (or_none x).name ≡ if_there (λ t. is_some (template_in t).name) x
or_same None = refl
or_same (Some t) = refl

at_same : (ts : _) (o : Option ℕ)
    → is_some (template_at ts o).name ≡ there (λ t. is_some (template_in t).name) ts o
at_same ts None = refl
at_same ts (Some i) = or_same (slice_get ts i)

-- one stands that counts and has the name, so its number
name_stands : (called : List ExprName) (n : ExprName) (number : ℕ) → number_of called n ≡ number
    → (o : Option ExprName) → replaces (a_template (signature n 0)) (template_of o) ≡ true
    → nat_eq (number_in called o) number ≡ true
name_stands called n number e None h = absurd cc
name_stands called n number e (Some m) h =
    let same : n ≡ m = same_names n m (and_parts (same_name n m) _ h).0 in
    eq-eqb (number_of called m) number (sym (ap (number_of called) same) ∙ e)

one_stands : (called : List ExprName) (n : ExprName) (number : ℕ) → number_of called n ≡ number
    → (counted : Bool) (level : ℕ) (p : Part Expr Pattern)
    → (counted && replaces (a_template (signature n 0)) (declared_by p)) ≡ true
    → list_any (λ t. nat_eq t.number number) (standing_in called counted level p) ≡ true
one_stands called n number e false level p h = absurd cc
one_stands called n number e true level (part.Template t rules) h =
    or_left (nat_eq (number_in called t.name) number) _ (name_stands called n number e t.name h)
one_stands called n number e true level (part.Global g) h = absurd cc
one_stands called n number e true level (part.Function f) h = absurd cc
one_stands called n number e true level (part.Key keys) h = absurd cc
one_stands called n number e true level (part.Space rules) h = absurd cc
one_stands called n number e true level (part.Output omit) h = absurd cc
one_stands called n number e true level part.Ignored h = absurd cc
one_stands called n number e true level part.Linked h = absurd cc

some_stands : (called : List ExprName) (n : ExprName) (number : ℕ) → number_of called n ≡ number
    → (marks : List Bool) (ds : List (Declaration Expr Pattern))
    → counts (a_template (signature n 0)) marks ds ≡ true
    → list_any (λ t. nat_eq t.number number) (each_by (standing_if called) marks ds) ≡ true
some_stands called n number e marks [] h = absurd cc
some_stands called n number e marks (d ∷ ds) h =
    let own = is_marked marks && replaces (a_template (signature n 0)) (declared_by d.part) in
    let front = standing_in called (is_marked marks) d.level d.part in
    list_any-append (λ t. nat_eq t.number number) front (each_by (standing_if called) (behind marks) ds)
    ∙ elim (or_cases own (counts (a_template (signature n 0)) (behind marks) ds) h) [
      | inl k ↦ or_left _ _ (one_stands called n number e (is_marked marks) d.level d.part k)
      | inr k ↦ or_right (list_any (λ t. nat_eq t.number number) front) _
          (some_stands called n number e (behind marks) ds k)
    ]

-- whatever stands with a number that is one of a name has a name
module _ (called : List ExprName) (number : ℕ) (less : number < length called)
    (low : number < 4294967295) where
  name_there : (o : Option ExprName)
      → (not (nat_eq (number_in called o) number) || is_some o) ≡ true
  name_there None =
      or_left _ _ (ap not (ne_eqb (small (length called)) number (λ e. absurd (omega (arith, e, less, low)))))
  name_there (Some n) = or_right (not (nat_eq (number_of called n) number)) true refl

  one_named : (counted : Bool) (level : ℕ) (p : Part Expr Pattern)
      → list_all (λ t. not (nat_eq t.number number) || is_some (template_in t).name)
      (standing_in called counted level p) ≡ true
  one_named counted level (part.Template t rules) = go (counted || t.has_match)
    where
      go : (b : Bool) → list_all (λ t. not (nat_eq t.number number) || is_some (template_in t).name)
          (cond b (standing_template called counted level t rules ∷ []) []) ≡ true
      go true = and_from _ true (name_there (name_if counted t.name)) refl
      go false = refl
  one_named counted level (part.Global g) = refl
  one_named counted level (part.Function f) = refl
  one_named counted level (part.Key keys) = refl
  one_named counted level (part.Space rules) = refl
  one_named counted level (part.Output omit) = refl
  one_named counted level part.Ignored = refl
  one_named counted level part.Linked = refl

  all_named : (marks : List Bool) (ds : List (Declaration Expr Pattern))
      → list_all (λ t. not (nat_eq t.number number) || is_some (template_in t).name)
      (each_by (standing_if called) marks ds) ≡ true
  all_named marks [] = refl
  all_named marks (d ∷ ds) =
      list_all-append (λ t. not (nat_eq t.number number) || is_some (template_in t).name)
      (standing_in called (is_marked marks) d.level d.part)
      (each_by (standing_if called) (behind marks) ds)
      ∙ and_from _ _ (one_named (is_marked marks) d.level d.part) (all_named (behind marks) ds)

-- what is at a number
mapped_at : {A B : Type 0} (f : A → B) (g : ℕ → A) (rest : List B) (count from number : ℕ)
    → number < count
    → slice_get (map f (map g (range_with_len from count)) ++ rest) number ≡ Some (f (g (from + number)))
mapped_at f g rest zero from number less = absurd (omega (arith, less))
mapped_at f g rest (suc count) from zero less =
    ap (λ (k : ℕ). Some (f (g k))) (let e : from ≡ from + 0 = omega arith in e)
mapped_at f g rest (suc count) from (suc number) less =
    mapped_at f g rest count (from + 1) number (omega (arith, less))
    ∙ ap (λ (k : ℕ). Some (f (g k))) (let e : from + 1 + number ≡ from + suc number = omega arith in e)

-- the template with the number of a name that counts has a name
pub called_named : (called : List ExprName) (n : ExprName) (number : ℕ)
    → number_of called n ≡ number → number < length called → number < 4294967295
    → (marks : List Bool) (ds : List (Declaration Expr Pattern))
    → counts (a_template (signature n 0)) marks ds ≡ true
    → is_named (slice_get (templates_of (length called) (each_by (standing_if called) marks ds)) number)
    ≡ true
unfolding is_named
called_named called n number e less low marks ds h =
    let ts = each_by (standing_if called) marks ds in
    let zero_more : 0 + number ≡ number = omega arith in
    ap is_named
    (mapped_at (template_at ts) (λ k. first_at k 0 ts) (each (other_of (length called)) ts)
    (length called) 0 number less)
    ∙ ap (λ (k : ℕ). is_some (template_at ts (first_at k 0 ts)).name) zero_more
    ∙ at_same ts (first_at number 0 ts)
    ∙ ap (there (λ t. is_some (template_in t).name) ts) (first_same number 0 ts)
    ∙ first_is (λ t. nat_eq t.number number) (λ t. is_some (template_in t).name) ts ts 0
    (λ j. ap (slice_get ts) (let e : 0 + j ≡ j = omega arith in e))
    (some_stands called n number e marks ds h) (all_named called number less low marks ds)
