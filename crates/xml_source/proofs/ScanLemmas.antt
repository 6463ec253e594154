-- What a run that was taken is in the grammar.
use Rattle.std.proofs.Common.{◌≡◌, ℕ, List, [], ◌∷◌, ◌++◌, Bool, true, Some, slice_get, ap, ◌∙◌, append-nil, append_assoc}
use Rattle.std.proofs.lemmas.Bool.{and_parts}
use Rattle.std.specs.List.{list_all}
use Rattle.doc_grammar.specs.Lexemes.{Spaces, Named, NCName}
use Rattle.doc_grammar.specs.Lexemes as doc
use Rattle.xt_names.specs.Characters.{is_space, starts_name, is_name_char, Ends}
use Rattle.xt_names.proofs.BoolLemmas.{no}

-- a run that its first character is of the class of, and what is after that
pub record Begun (p : ℕ → Bool) (c : ℕ) (old run new : List ℕ) : Type 0 where
  pub more : List ℕ
  pub is_run : run ≡ c ∷ more
  pub is_old : old ≡ c ∷ (more ++ new)
  pub passes : list_all p more ≡ true

pub begun : (p : ℕ → Bool) (c : ℕ) (old run new : List ℕ) → Some c ≡ slice_get old 0 → p c ≡ true → old ≡ run ++ new → list_all p run ≡ true → Ends p new → Begun p c old run new
begun p c old [] [] s h e a f = let nothing : Some c ≡ slice_get ([] ++ []) 0 = rw e at s in cc
begun p c old [] (x ∷ xs) s h e a f = let first : Some c ≡ Some x = rw e at s in let same : c ≡ x = cc in no h (rw same f)
begun p c old (x ∷ xs) new s h e a f =
    let first : Some c ≡ Some x = rw e at s in
    let same : x ≡ c = cc in
    record { more = xs; is_run = ap (λ (y : ℕ). y ∷ xs) same; is_old = e ∙ ap (λ (y : ℕ). y ∷ (xs ++ new)) same; passes = (and_parts (p x) (list_all p xs) a).1 }

pub spaces_of : (xs new : List ℕ) → list_all is_space xs ≡ true → Spaces (xs ++ new) new
spaces_of [] new a = doc.no_space
spaces_of (x ∷ xs) new a = let parts = and_parts (is_space x) (list_all is_space xs) a in doc.a_space parts.0 (spaces_of xs new parts.1)

pub begun_spaces : (c : ℕ) (old run new : List ℕ) → is_space c ≡ true → Begun is_space c old run new → (d : ℕ) × (ts : List ℕ) × (old ≡ d ∷ ts) × (is_space d ≡ true) × Spaces ts new
begun_spaces c old run new h b = (c, b.more ++ new, b.is_old, h, spaces_of b.more new b.passes)

named_of : (read xs new : List ℕ) → list_all is_name_char xs ≡ true → Ends is_name_char new → Named read (xs ++ new) (read ++ xs) new
named_of read [] new a e = rw append-nil (doc.whole e)
named_of read (x ∷ xs) new a e =
    let parts = and_parts (is_name_char x) (list_all is_name_char xs) a in
    doc.more parts.0 (rw append_assoc at (named_of (read ++ x ∷ []) xs new parts.1 e))

pub begun_name : (c : ℕ) (old run new : List ℕ) → starts_name c ≡ true → Ends is_name_char new → Begun is_name_char c old run new → NCName old run new
begun_name c old run new s e b = rw (b.is_old, b.is_run) (doc.ncname s (named_of (c ∷ []) b.more new b.passes e))
