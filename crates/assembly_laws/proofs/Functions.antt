-- Functions that count differ.
use Rattle.std.proofs.Common.{◌≡◌, ℕ, List, [], ◌∷◌, ◌++◌, length, Bool, true, false, not, ◌||◌}
use Rattle.std.proofs.Common.{◌&&◌, refl, sym, ap, ◌∙◌, nat_eq, inl, inr, eq-eqb, ne_eqb}
use Rattle.std.proofs.lemmas.Bool.{and_from, cases_eq}
use Rattle.std.proofs.lemmas.Bool.Decides.{same_from_decides, Decides-like}
use Rattle.std.proofs.lemmas.Slice.Eq.{bytes_eq-Decides}
use Rattle.std.proofs.lemmas.List.Folds.{list_any-append}
use Rattle.std.specs.List.{list_any}
use Rattle.std.specs.Str.{bytes_eq}
use Rattle.xt_names.specs.declared.names.ExprName.{ExprName}
use Rattle.xt_syntax.specs.declared.exprs.Expr.{Expr}
use Rattle.xt_syntax.specs.declared.patterns.Pattern.{Pattern}
use Rattle.xt_sheets.specs.declared.sheets.SheetFunction.{SheetFunction}
use Rattle.name_rules.specs.declared.functions.Signature.{Signature}
use Rattle.name_rules.specs.Scopes.{same_signature, signature, has_function, with_function}
use Rattle.sheet_modules.specs.declared.modules.Part.{Part}
use Rattle.sheet_modules.specs.declared.modules.Part.TheVariants as part
use Rattle.sheet_rules.specs.declared.sheet_declarations.lists.Declaration.{Declaration}
use Rattle.sheet_rules.specs.SheetDeclarations.Counts.{a_function, declared_by, replaces, is_replaced}
use Rattle.sheet_rules.specs.SheetDeclarations.Counts.{counted_of}
use Rattle.sheet_assembly.specs.Named.{each_by, is_marked, behind, function_in, function_if}
use Rattle.sheet_closure.specs.Declared.{are_new_functions}
use Rattle.assembly_laws.specs.Laws.{FunctionsDiffer}
use Rattle.xt_names.proofs.BoolLemmas.{neither}
use Rattle.xt_names.specs.ExprNames.{same_name}

-- names are the same either way
text_sym : (x y : List ℕ) → bytes_eq x y ≡ bytes_eq y x
text_sym x y =
    same_from_decides (bytes_eq x y) (bytes_eq y x) (bytes_eq-Decides x y)
    (Decides-like (bytes_eq y x) (λ (h : y ≡ x). sym h) (λ (h : x ≡ y). sym h)
    (bytes_eq-Decides y x))

number_sym : (a b : ℕ) → nat_eq a b ≡ nat_eq b a
number_sym a b = elim (cases_eq a b) [
  | inl e ↦ eq-eqb a b e ∙ sym (eq-eqb b a (sym e))
  | inr d ↦ ne_eqb a b d ∙ sym (ne_eqb b a (λ h. d (sym h)))
]

pub name_sym : (a b : ExprName) → same_name a b ≡ same_name b a
name_sym a b =
    ap (λ (p : Bool). p && bytes_eq a.local b.local) (text_sym a.uri b.uri)
    ∙ ap (λ (p : Bool). bytes_eq b.uri a.uri && p) (text_sym a.local b.local)

signature_sym : (a b : Signature) → same_signature a b ≡ same_signature b a
signature_sym a b =
    ap (λ (p : Bool). p && nat_eq a.arity b.arity) (name_sym a.name b.name)
    ∙ ap (λ (p : Bool). same_name b.name a.name && p) (number_sym a.arity b.arity)

abbrev pub of : SheetFunction → Signature
of f = signature f.name (length f.params)

-- none of the functions is in the list
abbrev NoneIn : List Signature → List SheetFunction → Type 0
NoneIn known [] = Unit {0}
NoneIn known (f ∷ fs) = (has_function known f.name (length f.params) ≡ false) × NoneIn known fs

abbrev Differ : List SheetFunction → Type 0
Differ [] = Unit {0}
Differ (f ∷ fs) = NoneIn (of f ∷ []) fs × Differ fs

-- one more that is known
also : (known : List Signature) (f : SheetFunction) (fs : List SheetFunction)
    → has_function known f.name (length f.params) ≡ false → NoneIn known fs → NoneIn (of f ∷ []) fs
    → NoneIn (with_function known f.name (length f.params)) fs
also known f [] e n m = tt
also known f (g ∷ fs) e n m =
    let is : has_function (known ++ of f ∷ []) g.name (length g.params) ≡ false =
    list_any-append (same_signature (of g)) known (of f ∷ []) ∙ rw (n.0, m.0) refl in
    (rw e is, also known f fs e n.1 m.1)

are_new : (known : List Signature) (fs : List SheetFunction) → NoneIn known fs → Differ fs
    → are_new_functions known fs ≡ true
are_new known [] n d = refl
are_new known (f ∷ fs) n d =
    let rest = are_new (with_function known f.name (length f.params)) fs
    (also known f fs n.0 n.1 d.0) d.1 in
    and_from (not (has_function known f.name (length f.params))) _ (ap not n.0) rest

none_known : (fs : List SheetFunction) → NoneIn [] fs
none_known [] = tt
none_known (f ∷ fs) = (refl, none_known fs)

-- a function that none after it replaces
apart : (s t : Signature) → same_signature s t ≡ false → (same_signature t s || false) ≡ false
apart s t e = let f : same_signature t s ≡ false = signature_sym t s ∙ e in rw f refl

joined : (s : Signature) (counts : Bool) (p : Part Expr Pattern) (fs : List SheetFunction)
    → replaces (a_function s) (declared_by p) ≡ false → NoneIn (s ∷ []) fs
    → NoneIn (s ∷ []) (function_in counts p ++ fs)
joined s true (part.Function g) fs e n = (apart s (signature g.name (length g.params)) e, n)
joined s false (part.Function g) fs e n = n
joined s true (part.Global g) fs e n = n
joined s false (part.Global g) fs e n = n
joined s true (part.Template t rules) fs e n = n
joined s false (part.Template t rules) fs e n = n
joined s true (part.Key keys) fs e n = n
joined s false (part.Key keys) fs e n = n
joined s true (part.Space rules) fs e n = n
joined s false (part.Space rules) fs e n = n
joined s true (part.Output omit) fs e n = n
joined s false (part.Output omit) fs e n = n
joined s true part.Ignored fs e n = n
joined s false part.Ignored fs e n = n
joined s true part.Linked fs e n = n
joined s false part.Linked fs e n = n

none_behind : (s : Signature) (marks : List Bool) (ds : List (Declaration Expr Pattern))
    → list_any (λ later. replaces (a_function s) (declared_by later.part)) ds ≡ false
    → NoneIn (s ∷ []) (each_by function_if marks ds)
none_behind s marks [] e = tt
none_behind s marks (d ∷ ds) e =
    let n = neither (replaces (a_function s) (declared_by d.part)) _ e in
    joined s (is_marked marks) d.part (each_by function_if (behind marks) ds) n.0
    (none_behind s (behind marks) ds n.1)

first_differs : (d : Part Expr Pattern) (replaced : Bool) (ds : List (Declaration Expr Pattern))
    → list_any (λ later. replaces (declared_by d) (declared_by later.part)) ds ≡ replaced
    → Differ (each_by function_if (counted_of ds) ds)
    → Differ (function_in (not replaced) d ++ each_by function_if (counted_of ds) ds)
first_differs (part.Function f) false ds e n =
    (none_behind (signature f.name (length f.params)) (counted_of ds) ds e, n)
first_differs (part.Function f) true ds e n = n
first_differs (part.Global g) false ds e n = n
first_differs (part.Global g) true ds e n = n
first_differs (part.Template t rules) false ds e n = n
first_differs (part.Template t rules) true ds e n = n
first_differs (part.Key keys) false ds e n = n
first_differs (part.Key keys) true ds e n = n
first_differs (part.Space rules) false ds e n = n
first_differs (part.Space rules) true ds e n = n
first_differs (part.Output omit) false ds e n = n
first_differs (part.Output omit) true ds e n = n
first_differs part.Ignored false ds e n = n
first_differs part.Ignored true ds e n = n
first_differs part.Linked false ds e n = n
first_differs part.Linked true ds e n = n

counted_differ : (ds : List (Declaration Expr Pattern))
    → Differ (each_by function_if (counted_of ds) ds)
counted_differ [] = tt
counted_differ (d ∷ ds) = first_differs d.part (is_replaced d ds) ds refl (counted_differ ds)

pub functions_are_new : FunctionsDiffer
functions_are_new ds =
    let fs = each_by function_if (counted_of ds) ds in
    are_new [] fs (none_known fs) (counted_differ ds)
