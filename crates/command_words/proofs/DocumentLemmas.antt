-- The texts of the words that name further documents.
use Rattle.std.proofs.Common.{◌≡◌, ℕ, suc, ◌≤◌, List, [], ◌∷◌, length, map, chars, Bool, true, false, ◌&&◌}
use Rattle.std.proofs.Common.{Some, None, Bor, if◌then◌else◌, refl, sym, ap, ◌∙◌}
use Rattle.std.proofs.lemmas.Bool.{le-leb}
use Rattle.command_words.specs.Requests.{documents_of}
use Rattle.command_words.specs.Texts.{are_different}
use Rattle.command_words.proofs.ParameterLemmas.{words_of}

texts_of : (files : List (Bor (List ℕ))) → map (λ b. chars b.now) files ≡ map chars (words_of files)
texts_of [] = refl
texts_of (f ∷ fs) = ap (λ ts. chars f.now ∷ ts) (texts_of fs)

pub as_many : (files : List (Bor (List ℕ))) → length (words_of files) ≡ length files
as_many [] = refl
as_many (f ∷ fs) = ap (λ n. suc n) (as_many fs)

none_chosen : {A : Type 0} (a d : Bool) (x : A) → d ≡ false
    → None ≡ (if a && d then Some x else None)
none_chosen true d x e = rw e refl
none_chosen false d x e = refl

one_chosen : {A : Type 0} (a d : Bool) (x y : A) → a ≡ true → d ≡ true → y ≡ x
    → Some y ≡ (if a && d then Some x else None)
one_chosen a d x y f g e = rw (f, g, e) refl

pub documents_refused : (files : List (Bor (List ℕ))) (texts : List (List ℕ))
    → texts ≡ map (λ b. chars b.now) files → are_different texts ≡ false
    → None ≡ documents_of (words_of files)
documents_refused files texts e d =
    none_chosen _ (are_different (map chars (words_of files))) (map chars (words_of files))
    (sym (ap are_different (e ∙ texts_of files)) ∙ d)

pub documents_given : (files : List (Bor (List ℕ))) (texts : List (List ℕ)) → length files ≤ 16
    → texts ≡ map (λ b. chars b.now) files → are_different texts ≡ true
    → Some texts ≡ documents_of (words_of files)
documents_given files texts n e d =
    one_chosen _ (are_different (map chars (words_of files))) (map chars (words_of files)) texts
    (rw (as_many files) (le-leb (length files) 16 n))
    (sym (ap are_different (e ∙ texts_of files)) ∙ d) (e ∙ texts_of files)
