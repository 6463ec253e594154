-- What the parts of templates mean.
use Rattle.std.proofs.Common.{◌≡◌, ◌∙◌, ap, refl, sym, ℕ, List, [], ◌∷◌, ◌++◌, append_assoc, map}
use Rattle.xt_names.specs.declared.codes.Code.{Code as AnyCode}
use Rattle.xt_sheets.specs.declared.values.AvtPart.TheVariants as part
use Rattle.sheet_values.specs.Rules.{each}
use Rattle.sheet_values.specs.Templates.{fixed_part, pieces_of}
use Rattle.sheet_values.specs.declared.templates.Piece.{Piece}
use Rattle.sheet_values.specs.declared.templates.Piece.TheVariants.{Code}
use Rattle.sheet_values.proofs.TemplateLemmas.{fixed_parts, expressions}
use Rattle.sheet_values.specs.declared.sheet_texts.places.StaticContext.{StaticContext}
use Rattle.sheet_values.specs.SheetTexts.Readings.{Reading}
use Rattle.sheet_values.specs.SheetTexts.Templates.{piece_faults, piece_value, template_faults, template_value}
use Rattle.sheet_values.specs.SheetTexts.Laws.{fixed, CharactersStand, ExpressionsAreParts}

each_append : (f : Piece → List AnyCode) (xs ys : List Piece) → each f (xs ++ ys) ≡ each f xs ++ each f ys
each_append f [] ys = refl
each_append f (x ∷ xs) ys = ap (λ cs. f x ++ cs) (each_append f xs ys) ∙ sym (append_assoc (f x) (each f xs) (each f ys))

map_append : {A : Type 0} (f : Piece → A) (xs ys : List Piece) → map f (xs ++ ys) ≡ map f xs ++ map f ys
map_append f [] ys = refl
map_append f (x ∷ xs) ys = ap (λ cs. f x ∷ cs) (map_append f xs ys)

module _ {E P : Type 0} (r : Reading E P) where
  fixed_faults : (p : StaticContext) (text : List ℕ) → each (piece_faults r p) (fixed_part text) ≡ []
  unfolding fixed_part
  fixed_faults p [] = refl
  fixed_faults p (c ∷ cs) = refl

  fixed_value : (p : StaticContext) (text : List ℕ) → map (piece_value r p) (fixed_part text) ≡ fixed text
  unfolding fixed_part
  fixed_value p [] = refl
  fixed_value p (c ∷ cs) = refl

  pub characters_stand : CharactersStand r
  characters_stand p text = (
    ap (each (piece_faults r p)) (fixed_parts text) ∙ fixed_faults p text,
    ap (map (piece_value r p)) (fixed_parts text) ∙ fixed_value p text,
  )

  faults_between : (p : StaticContext) (text code rest : List ℕ)
      → each (piece_faults r p) (fixed_part text ++ (Code code ∷ pieces_of rest))
      ≡ r.expr_faults p code ++ template_faults r p rest
  faults_between p text code rest =
      each_append (piece_faults r p) (fixed_part text) (Code code ∷ pieces_of rest)
      ∙ ap (λ cs. cs ++ (r.expr_faults p code ++ template_faults r p rest)) (fixed_faults p text)

  value_between : (p : StaticContext) (text code rest : List ℕ)
      → map (piece_value r p) (fixed_part text ++ (Code code ∷ pieces_of rest))
      ≡ fixed text ++ (part.Code (r.expr_value p code) ∷ template_value r p rest)
  value_between p text code rest =
      map_append (piece_value r p) (fixed_part text) (Code code ∷ pieces_of rest)
      ∙ ap (λ cs. cs ++ (part.Code (r.expr_value p code) ∷ template_value r p rest)) (fixed_value p text)

  pub expressions_are_parts : ExpressionsAreParts r
  expressions_are_parts p text code rest h = (
    ap (each (piece_faults r p)) (expressions text code rest h) ∙ faults_between p text code rest,
    ap (map (piece_value r p)) (expressions text code rest h) ∙ value_between p text code rest,
  )
