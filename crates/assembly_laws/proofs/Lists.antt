-- What the parts of all modules have, all declarations have.
use Rattle.std.proofs.Common.{◌≡◌, ℕ, zero, suc, ◌+◌, List, [], ◌∷◌, map, take, drop, Bool, true}
use Rattle.std.proofs.Common.{slice_get, Option, Some, None, refl, ◌∙◌}
use Rattle.std.proofs.lemmas.Bool.{and_parts, and_from}
use Rattle.std.proofs.lemmas.List.Folds.{list_all-append, list_all-map}
use Rattle.std.specs.List.{list_all}
use Rattle.xt_syntax.specs.declared.exprs.Expr.{Expr}
use Rattle.xt_syntax.specs.declared.patterns.Pattern.{Pattern}
use Rattle.sheet_modules.specs.declared.sheet_levels.levels.Span.{Span}
use Rattle.sheet_modules.specs.declared.sheet_levels.levels.SheetLevel.{SheetLevel}
use Rattle.sheet_modules.specs.declared.modules.Part.{Part}
use Rattle.sheet_rules.specs.SheetDeclarations.Declarations.{before, declarations_from, declared, piece_in}
use Rattle.sheet_rules.specs.SheetDeclarations.Declarations.{pieces}
use Rattle.assembly_laws.specs.Laws.{DeclarationsAreParts}

module _ (q : Part Expr Pattern → Bool) where
  take_all : (n : ℕ) (xs : List (Part Expr Pattern)) → list_all q xs ≡ true
      → list_all q (take n xs) ≡ true
  take_all zero xs h = refl
  take_all (suc n) [] h = refl
  take_all (suc n) (x ∷ xs) h =
      let k = and_parts (q x) (list_all q xs) h in
      and_from (q x) _ k.0 (take_all n xs k.1)

  drop_all : (n : ℕ) (xs : List (Part Expr Pattern)) → list_all q xs ≡ true
      → list_all q (drop n xs) ≡ true
  drop_all zero xs h = h
  drop_all (suc n) [] h = refl
  drop_all (suc n) (x ∷ xs) h = drop_all n xs (and_parts (q x) (list_all q xs) h).1

  before_all : (to : Option ℕ) (xs : List (Part Expr Pattern)) → list_all q xs ≡ true
      → list_all q (before to xs) ≡ true
  before_all None xs h = h
  before_all (Some n) xs h = take_all n xs h

  abbrev IfParts : Option (List (Part Expr Pattern)) → Type 0
  IfParts None = Unit {0}
  IfParts (Some xs) = list_all q xs ≡ true

  got_all : (modules : List (List (Part Expr Pattern))) → list_all (list_all q) modules ≡ true
      → (at : ℕ) → IfParts (slice_get modules at)
  got_all [] h zero = tt
  got_all [] h (suc at) = tt
  got_all (m ∷ ms) h zero = (and_parts (list_all q m) (list_all (list_all q) ms) h).0
  got_all (m ∷ ms) h (suc at) =
      got_all ms (and_parts (list_all q m) (list_all (list_all q) ms) h).1 at

  piece_all : (s : Span) (o : Option (List (Part Expr Pattern))) → IfParts o
      → list_all q (piece_in s o) ≡ true
  piece_all s None h = refl
  piece_all s (Some xs) h = drop_all s.from (before s.to xs) (before_all s.to xs h)

  pieces_all : (modules : List (List (Part Expr Pattern))) (ss : List Span)
      → list_all (list_all q) modules ≡ true → list_all q (pieces modules ss) ≡ true
  pieces_all modules [] h = refl
  pieces_all modules (s ∷ ss) h =
      list_all-append q (piece_in s (slice_get modules s.place)) (pieces modules ss)
      ∙ and_from _ _ (piece_all s (slice_get modules s.place) (got_all modules h s.place))
      (pieces_all modules ss h)

  levels_all : (modules : List (List (Part Expr Pattern))) (level : ℕ) (ls : List SheetLevel)
      → list_all (list_all q) modules ≡ true
      → list_all (λ d. q d.part) (declarations_from modules level ls) ≡ true
  levels_all modules level [] h = refl
  levels_all modules level (l ∷ ls) h =
      list_all-append (λ d. q d.part) (map (declared level) (pieces modules l.spans)) _
      ∙ and_from _ _
      (list_all-map (λ d. q d.part) (declared level) (pieces modules l.spans)
      ∙ pieces_all modules l.spans h)
      (levels_all modules (level + 1) ls h)

pub parts_kept : DeclarationsAreParts
parts_kept q modules levels h = levels_all q modules 1 levels h
