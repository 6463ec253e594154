-- Globals that count have different names, in whatever order they are evaluated.
use Rattle.std.proofs.Common.{◌≡◌, ◌≢◌, ℕ, zero, suc, List, [], ◌∷◌, ◌++◌, map, Bool, true}
use Rattle.std.proofs.Common.{false, not, ◌||◌, ◌&&◌, Option, Some, None, slice_get, refl, sym, ap}
use Rattle.std.proofs.Common.{subst, ◌∙◌, nat_eq, eq-eqb}
use Rattle.std.proofs.lemmas.Bool.{and_parts, and_from}
use Rattle.std.proofs.lemmas.List.Folds.{list_any-append}
use Rattle.std.proofs.lemmas.Option.{same_Some, none-some}
use Rattle.std.specs.List.{list_any}
use Rattle.xt_names.specs.declared.names.ExprName.{ExprName}
use Rattle.xt_syntax.specs.declared.exprs.Expr.{Expr}
use Rattle.xt_syntax.specs.declared.patterns.Pattern.{Pattern}
use Rattle.xt_sheets.specs.declared.sheets.Global.{Global}
use Rattle.name_rules.specs.Scopes.{same_signature, signature, has_name, with_name}
use Rattle.name_rules.specs.Scopes.{are_new}
use Rattle.sheet_modules.specs.declared.modules.Part.{Part}
use Rattle.sheet_modules.specs.declared.modules.Part.TheVariants as part
use Rattle.sheet_rules.specs.declared.sheet_declarations.lists.Declaration.{Declaration}
use Rattle.sheet_rules.specs.SheetDeclarations.Counts.{a_global, declared_by, replaces, is_replaced}
use Rattle.sheet_rules.specs.SheetDeclarations.Counts.{counted_of}
use Rattle.sheet_assembly.specs.Named.{each_by, is_marked, behind, global_in, global_if}
use Rattle.sheet_assembly.specs.Named.{at, ordered}
use Rattle.global_order.specs.Order.{Graph, is_in, is_ready, is_next, needs_of, InOrder}
use Rattle.global_order.specs.Order as order
use Rattle.sheet_closure.specs.Declared.{global_name}
use Rattle.assembly_laws.specs.Laws.{GlobalsDiffer}
use Rattle.assembly_laws.proofs.Functions.{name_sym}
use Rattle.xt_names.specs.ExprNames.{same_name}
use Rattle.xt_names.proofs.BoolLemmas.{neither}

-- none of the names is known
abbrev NoneOf : List ExprName → List ExprName → Type 0
NoneOf known [] = Unit {0}
NoneOf known (n ∷ ns) = (has_name known n ≡ false) × NoneOf known ns

abbrev Differ : List ExprName → Type 0
Differ [] = Unit {0}
Differ (n ∷ ns) = NoneOf (n ∷ []) ns × Differ ns

also : (known : List ExprName) (n : ExprName) (ns : List ExprName) → has_name known n ≡ false
    → NoneOf known ns → NoneOf (n ∷ []) ns → NoneOf (with_name known n) ns
also known n [] e f m = tt
also known n (k ∷ ns) e f m =
    let is : has_name (known ++ n ∷ []) k ≡ false =
    list_any-append (same_name k) known (n ∷ []) ∙ rw (f.0, m.0) refl in
    (rw e is, also known n ns e f.1 m.1)

names_new : (known ns : List ExprName) → NoneOf known ns → Differ ns → are_new known ns ≡ true
names_new known [] f d = refl
names_new known (n ∷ ns) f d =
    let rest = names_new (with_name known n) ns (also known n ns f.0 f.1 d.0) d.1 in
    and_from (not (has_name known n)) _ (ap not f.0) rest

none_known : (ns : List ExprName) → NoneOf [] ns
none_known [] = tt
none_known (n ∷ ns) = (refl, none_known ns)

-- a global that none after it replaces
apart : (a b : ExprName) → same_signature (signature a 0) (signature b 0) ≡ false
    → (same_name b a || false) ≡ false
apart a b e =
    let f : same_name b a ≡ false = name_sym b a ∙ and_true (same_name a b) e in rw f refl
  where
    and_true : (p : Bool) → (p && true) ≡ false → p ≡ false
    and_true true h = absurd cc
    and_true false h = refl

joined : (n : ExprName) (counts : Bool) (p : Part Expr Pattern) (gs : List Global)
    → replaces (a_global (signature n 0)) (declared_by p) ≡ false
    → NoneOf (n ∷ []) (map global_name gs)
    → NoneOf (n ∷ []) (map global_name (global_in counts p ++ gs))
joined n true (part.Global g) gs e f = (apart n g.bound.name e, f)
joined n false (part.Global g) gs e f = f
joined n true (part.Function g) gs e f = f
joined n false (part.Function g) gs e f = f
joined n true (part.Template t rules) gs e f = f
joined n false (part.Template t rules) gs e f = f
joined n true (part.Key keys) gs e f = f
joined n false (part.Key keys) gs e f = f
joined n true (part.Space rules) gs e f = f
joined n false (part.Space rules) gs e f = f
joined n true (part.Output omit) gs e f = f
joined n false (part.Output omit) gs e f = f
joined n true part.Ignored gs e f = f
joined n false part.Ignored gs e f = f
joined n true part.Linked gs e f = f
joined n false part.Linked gs e f = f

none_behind : (n : ExprName) (marks : List Bool) (ds : List (Declaration Expr Pattern))
    → list_any (λ later. replaces (a_global (signature n 0)) (declared_by later.part)) ds ≡ false
    → NoneOf (n ∷ []) (map global_name (each_by global_if marks ds))
none_behind n marks [] e = tt
none_behind n marks (d ∷ ds) e =
    let f = neither (replaces (a_global (signature n 0)) (declared_by d.part)) _ e in
    joined n (is_marked marks) d.part (each_by global_if (behind marks) ds) f.0
    (none_behind n (behind marks) ds f.1)

abbrev DifferentGlobals : List Global → Type 0
DifferentGlobals gs = Differ (map global_name gs)

first_differs : (d : Part Expr Pattern) (replaced : Bool) (ds : List (Declaration Expr Pattern))
    → list_any (λ later. replaces (declared_by d) (declared_by later.part)) ds ≡ replaced
    → DifferentGlobals (each_by global_if (counted_of ds) ds)
    → DifferentGlobals (global_in (not replaced) d ++ each_by global_if (counted_of ds) ds)
first_differs (part.Global g) false ds e f = (none_behind g.bound.name (counted_of ds) ds e, f)
first_differs (part.Global g) true ds e f = f
first_differs (part.Function g) false ds e f = f
first_differs (part.Function g) true ds e f = f
first_differs (part.Template t rules) false ds e f = f
first_differs (part.Template t rules) true ds e f = f
first_differs (part.Key keys) false ds e f = f
first_differs (part.Key keys) true ds e f = f
first_differs (part.Space rules) false ds e f = f
first_differs (part.Space rules) true ds e f = f
first_differs (part.Output omit) false ds e f = f
first_differs (part.Output omit) true ds e f = f
first_differs part.Ignored false ds e f = f
first_differs part.Ignored true ds e f = f
first_differs part.Linked false ds e f = f
first_differs part.Linked true ds e f = f

counted_differ : (ds : List (Declaration Expr Pattern))
    → DifferentGlobals (each_by global_if (counted_of ds) ds)
counted_differ [] = tt
counted_differ (d ∷ ds) = first_differs d.part (is_replaced d ds) ds refl (counted_differ ds)

-- those at different places have different names
abbrev Apart : List Global → Type 0
Apart gs = (i j : ℕ) (a b : Global) → i ≢ j → slice_get gs i ≡ Some a → slice_get gs j ≡ Some b
    → same_name (global_name b) (global_name a) ≡ false

none_at : (gs : List Global) (n : ExprName) (j : ℕ) (b : Global)
    → NoneOf (n ∷ []) (map global_name gs) → slice_get gs j ≡ Some b
    → same_name (global_name b) n ≡ false
none_at [] n j b f e = absurd (none-some _ e)
none_at (g ∷ gs) n zero b f e =
    subst (λ (x : Global). same_name (global_name x) n ≡ false) (same_Some _ _ e)
    (neither (same_name (global_name g) n) false f.0).0
none_at (g ∷ gs) n (suc j) b f e = none_at gs n j b f.1 e

are_apart : (gs : List Global) → DifferentGlobals gs → Apart gs
are_apart [] d i j a b ne e f = absurd (none-some _ e)
are_apart (g ∷ gs) d zero zero a b ne e f = absurd (ne refl)
are_apart (g ∷ gs) d zero (suc j) a b ne e f =
    subst (λ (x : Global). same_name (global_name b) (global_name x) ≡ false) (same_Some _ _ e)
    (none_at gs (global_name g) j b d.0 f)
are_apart (g ∷ gs) d (suc i) zero a b ne e f =
    subst (λ (x : Global). same_name (global_name x) (global_name a) ≡ false) (same_Some _ _ f)
    (name_sym (global_name g) (global_name a) ∙ none_at gs (global_name g) i a d.0 e)
are_apart (g ∷ gs) d (suc i) (suc j) a b ne e f =
    are_apart gs d.1 i j a b (λ same. ne (ap suc same)) e f

-- each place is another one
abbrev Others : ℕ → List ℕ → Type 0
Others i [] = Unit {0}
Others i (j ∷ js) = (j ≢ i) × Others i js

in_more : (done : List ℕ) (i j : ℕ) → is_in done i ≡ true → is_in (done ++ j ∷ []) i ≡ true
unfolding is_in
in_more done i j e = list_any-append (λ d. nat_eq d i) done (j ∷ []) ∙ rw e refl

in_last : (done : List ℕ) (i : ℕ) → is_in (done ++ i ∷ []) i ≡ true
unfolding is_in
in_last done i =
    let same : nat_eq i i ≡ true = eq-eqb i i refl in
    list_any-append (λ d. nat_eq d i) done (i ∷ []) ∙ rw same (or_true (list_any (λ d. nat_eq d i) done))
  where
    or_true : (b : Bool) → (b || true) ≡ true
    or_true true = refl
    or_true false = refl

new_next : (g : Graph) (done : List ℕ) (j : ℕ) → is_next g done j ≡ true → is_in done j ≡ false
unfolding is_next
new_next g done j e =
    not_true (is_in done j) (and_parts (not (is_in done j)) (is_ready done (needs_of g j)) e).0
  where
    not_true : (b : Bool) → not b ≡ true → b ≡ false
    not_true true h = absurd cc
    not_true false h = refl

others : (g : Graph) (done js : List ℕ) (i : ℕ) → is_in done i ≡ true → InOrder g done js
    → Others i js
others g done _ i e order.nothing = tt
others g done _ i e (order.behind j js less next rest) = (
  λ same. (let no : false ≡ true =
      sym (new_next g done j next) ∙ ap (is_in done) same ∙ e in absurd cc),
  others g (done ++ j ∷ []) js i (in_more done i j e) rest,
)

none_or : (gs : List Global) (a : Global) (js : List ℕ) (b : Option Global)
    → ((x : Global) → b ≡ Some x → same_name (global_name x) (global_name a) ≡ false)
    → NoneOf (global_name a ∷ []) (map global_name (ordered gs js))
    → NoneOf (global_name a ∷ []) (map global_name (at b ++ ordered gs js))
none_or gs a js None s n = n
none_or gs a js (Some x) s n = let apart = s x refl in (rw apart refl, n)

none_ordered : (gs : List Global) → Apart gs → (i : ℕ) (a : Global) → slice_get gs i ≡ Some a
    → (js : List ℕ) → Others i js → NoneOf (global_name a ∷ []) (map global_name (ordered gs js))
none_ordered gs s i a e [] o = tt
none_ordered gs s i a e (j ∷ js) o =
    none_or gs a js (slice_get gs j) (λ x f. s i j a x (λ same. o.0 (sym same)) e f)
    (none_ordered gs s i a e js o.1)

differ_or : (gs : List Global) (js : List ℕ) (b : Option Global)
    → ((x : Global) → b ≡ Some x → NoneOf (global_name x ∷ []) (map global_name (ordered gs js)))
    → DifferentGlobals (ordered gs js) → DifferentGlobals (at b ++ ordered gs js)
differ_or gs js None s d = d
differ_or gs js (Some x) s d = (s x refl, d)

ordered_differ : (g : Graph) (gs : List Global) → Apart gs → (done js : List ℕ) → InOrder g done js
    → DifferentGlobals (ordered gs js)
ordered_differ g gs s done _ order.nothing = tt
ordered_differ g gs s done _ (order.behind i js less next rest) =
    differ_or gs js (slice_get gs i)
    (λ x f. none_ordered gs s i x f js (others g (done ++ i ∷ []) js i (in_last done i) rest))
    (ordered_differ g gs s (done ++ i ∷ []) js rest)

pub globals_differ : GlobalsDiffer
globals_differ ds g places o =
    let gs = each_by global_if (counted_of ds) ds in
    let d = ordered_differ g gs (are_apart gs (counted_differ ds)) [] places o in
    names_new [] (map global_name (ordered gs places)) (none_known _) d
