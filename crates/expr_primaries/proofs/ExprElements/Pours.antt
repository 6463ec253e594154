-- The pieces of a content, one by one.
use Rattle.std.specs.Prelude.{Bool, true}
use Rattle.std.proofs.Common.{◌≡◌, ℕ, List, [], ◌∷◌, ◌+◌, ◌<◌, ◌≤◌, suc, length, map, drop, get_or, drop-cons, add-one, refl, ap, sym, ◌∙◌}
use Rattle.std.proofs.lemmas.List.{drop_all}
use Rattle.xt_syntax.specs.declared.exprs.Part.{Part}
use Rattle.expr_rules.specs.declared.expr_meant.meant.Meant.{Meant}
use Rattle.expr_primaries.specs.declared.expr_elements.space.Piece.{Piece}
use Rattle.expr_primaries.specs.declared.expr_elements.space.Joined.{Joined}
use Rattle.expr_primaries.specs.ExprElements.Space.{with_pieces, piece_of, parts_of}

pub poured_first : (strip : Bool) (ms : List Meant) (j : Joined) → j ≡ record { parts = []; run = []; blank = true } → with_pieces strip j (map piece_of ms) ≡ parts_of strip ms
unfolding with_pieces
poured_first strip ms j e = rw e refl

pub poured_step : (strip : Bool) (ms : List Meant) (j new : Joined) (i : ℕ) (m d : Meant) → with_pieces strip j (map piece_of (drop i ms)) ≡ parts_of strip ms → i < length ms → m ≡ get_or ms i d → ((ps : List Piece) → with_pieces strip new ps ≡ with_pieces strip j (piece_of m ∷ ps)) → with_pieces strip new (map piece_of (drop (i + 1) ms)) ≡ parts_of strip ms
poured_step strip ms j new i m d inv lt is n =
    let at : drop i ms ≡ m ∷ drop (suc i) ms = drop-cons ms i d lt ∙ ap (λ x. x ∷ drop (suc i) ms) (sym is) in
    rw add-one (n (map piece_of (drop (suc i) ms)) ∙ ap (λ xs. with_pieces strip j (map piece_of xs)) (sym at) ∙ inv)

pub poured_all : (strip : Bool) (ms : List Meant) (j : Joined) (i : ℕ) (parts : List Part) → with_pieces strip j (map piece_of (drop i ms)) ≡ parts_of strip ms → length ms ≤ i → parts ≡ with_pieces strip j [] → parts ≡ parts_of strip ms
poured_all strip ms j i parts inv le e = e ∙ ap (λ xs. with_pieces strip j (map piece_of xs)) (sym (drop_all i ms le)) ∙ inv
