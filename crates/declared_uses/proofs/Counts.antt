-- What is declared counts somewhere.
use Rattle.std.proofs.Common.{◌≡◌, List, [], ◌∷◌, Bool, true, false, not, ◌&&◌, ◌||◌, inl, inr, refl}
use Rattle.std.proofs.Common.{sym, ap, subst}
use Rattle.std.proofs.lemmas.Bool.{and_parts, or_cases, or_left, or_right}
use Rattle.std.specs.List.{list_any}
use Rattle.xt_syntax.specs.declared.exprs.Expr.{Expr}
use Rattle.xt_syntax.specs.declared.patterns.Pattern.{Pattern}
use Rattle.sheet_rules.specs.declared.sheet_declarations.lists.Declaration.{Declaration}
use Rattle.sheet_rules.specs.SheetDeclarations.Counts.{Declared, a_global, a_function, a_template, nothing}
use Rattle.sheet_rules.specs.SheetDeclarations.Counts.{declared_by, replaces, is_replaced, counted_of}
use Rattle.sheet_rules.proofs.SheetDeclarations.Sames.{same_signature_is}
use Rattle.sheet_assembly.specs.Named.{is_marked, behind}

-- some of them declares it
abbrev pub declares : Declared → List (Declaration Expr Pattern) → Bool
declares x ds = list_any (λ d. replaces x (declared_by d.part)) ds

-- .. and has a mark
abbrev pub counts : Declared → List Bool → List (Declaration Expr Pattern) → Bool
counts x marks [] = false
counts x marks (d ∷ ds) =
    (is_marked marks && replaces x (declared_by d.part)) || counts x (behind marks) ds

replaced_is : (x y : Declared) → replaces x y ≡ true → x ≡ y
replaced_is (a_global s) (a_global t) h = ap a_global (same_signature_is s t h)
replaced_is (a_function s) (a_function t) h = ap a_function (same_signature_is s t h)
replaced_is (a_template s) (a_template t) h = ap a_template (same_signature_is s t h)
replaced_is (a_global s) (a_function t) h = absurd cc
replaced_is (a_global s) (a_template t) h = absurd cc
replaced_is (a_global s) nothing h = absurd cc
replaced_is (a_function s) (a_global t) h = absurd cc
replaced_is (a_function s) (a_template t) h = absurd cc
replaced_is (a_function s) nothing h = absurd cc
replaced_is (a_template s) (a_global t) h = absurd cc
replaced_is (a_template s) (a_function t) h = absurd cc
replaced_is (a_template s) nothing h = absurd cc
replaced_is nothing t h = absurd cc

first_counts : (x : Declared) (d : Declaration Expr Pattern) (ds : List (Declaration Expr Pattern))
    → replaces x (declared_by d.part) ≡ true
    → (declares x ds ≡ true → counts x (counted_of ds) ds ≡ true)
    → counts x (counted_of (d ∷ ds)) (d ∷ ds) ≡ true
first_counts x d ds e more = go (is_replaced d ds) refl
  where
    go : (b : Bool) → is_replaced d ds ≡ b
        → ((not b && replaces x (declared_by d.part)) || counts x (counted_of ds) ds) ≡ true
    go true k =
        more (subst (λ y. declares y ds ≡ true) (sym (replaced_is x (declared_by d.part) e)) k)
    go false k = or_left (replaces x (declared_by d.part)) _ e

-- the last that declares it counts
pub some_counts : (x : Declared) (ds : List (Declaration Expr Pattern)) → declares x ds ≡ true
    → counts x (counted_of ds) ds ≡ true
some_counts x [] h = h
some_counts x (d ∷ ds) h =
    elim (or_cases (replaces x (declared_by d.part)) (declares x ds) h) [
      | inl e ↦ first_counts x d ds e (λ k. some_counts x ds k)
      | inr k ↦ or_right (not (is_replaced d ds) && replaces x (declared_by d.part)) _
          (some_counts x ds k)
    ]

pub counts_declared : (x : Declared) (marks : List Bool) (ds : List (Declaration Expr Pattern))
    → counts x marks ds ≡ true → declares x ds ≡ true
counts_declared x marks [] h = h
counts_declared x marks (d ∷ ds) h =
    let own = replaces x (declared_by d.part) in
    elim (or_cases (is_marked marks && own) (counts x (behind marks) ds) h) [
      | inl e ↦ or_left own _ (and_parts (is_marked marks) own e).1
      | inr k ↦ or_right own _ (counts_declared x (behind marks) ds k)
    ]
