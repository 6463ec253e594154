-- What a request names, it names once.
use Rattle.std.proofs.Common.{◌≡◌, ℕ, List, [], ◌∷◌, map, length, Bool, true, false, ◌&&◌, nat_le}
use Rattle.std.proofs.Common.{Option, Some, None, option_map, option_and_then, cond, chars, codes}
use Rattle.std.proofs.Common.{refl, sym, ap, subst, ◌∙◌}
use Rattle.std.specs.List.{list_all}
use Rattle.std.specs.Str.{bytes_eq}
use Rattle.command_words.specs.Words.{Words}
use Rattle.command_words.specs.Apart.{Told, told_apart}
use Rattle.command_words.specs.Requests.{Asked, Transform, Query, Inputs, Given, inputs_asked}
use Rattle.command_words.specs.Requests.{depth_of, documents_of, parameters_of, inputs_of, run_of}
use Rattle.command_words.specs.Requests.{run_of_operands, transform_of, query_of, request_of}
use Rattle.command_words.specs.Requests.{given_in, name_in, is_parameter}
use Rattle.command_words.specs.Texts.{are_different}
use Rattle.xt_names.proofs.ListLemmas.{some_same}

-- nothing is named twice
pub record NamesOnce (inputs : Inputs) : Type 0 where
  pub documents : are_different inputs.documents ≡ true
  pub parameters : are_different (map (λ (g : Given). g.0) inputs.parameters) ≡ true

names_given : (words : List (List ℕ)) → map (λ (g : Given). g.0) (map given_in words) ≡ map name_in words
names_given [] = refl
names_given (w ∷ ws) = ap (λ ns. name_in w ∷ ns) (names_given ws)

-- what is taken where two tests hold
taken : {A : Type 0} (a b : Bool) (x y : A) → cond (a && b) (Some x) None ≡ Some y → (b ≡ true) × (x ≡ y)
taken true true x y e = (refl, some_same e)
taken true false x y e = absurd cc
taken false b x y e = absurd cc

documents_once : (files documents : List (List ℕ)) → documents_of files ≡ Some documents
    → are_different documents ≡ true
documents_once files documents e =
    let t = taken (nat_le (length files) 16) (are_different (map chars files)) (map chars files) documents e in
    subst (λ (d : List (List ℕ)). are_different d ≡ true) t.1 t.0

parameters_once : (words : List (List ℕ)) (parameters : List Given)
    → parameters_of words ≡ Some parameters
    → are_different (map (λ (g : Given). g.0) parameters) ≡ true
parameters_once words parameters e =
    let t = taken (list_all is_parameter words) (are_different (map name_in words)) (map given_in words) parameters e in
    subst (λ (p : List Given). are_different (map (λ (g : Given). g.0) p) ≡ true) t.1
    (ap are_different (names_given words) ∙ t.0)

inputs_once : (document : List ℕ) (depth : Option ℕ) (documents : Option (List (List ℕ))) (parameters : Option (List Given)) (inputs : Inputs)
    → ((ds : List (List ℕ)) → documents ≡ Some ds → are_different ds ≡ true)
    → ((ps : List Given) → parameters ≡ Some ps → are_different (map (λ (g : Given). g.0) ps) ≡ true)
    → inputs_of document depth documents parameters ≡ Some inputs → NamesOnce inputs
inputs_once document None documents parameters inputs d p e = absurd cc
inputs_once document (Some depth) None parameters inputs d p e = absurd cc
inputs_once document (Some depth) (Some ds) None inputs d p e = absurd cc
inputs_once document (Some depth) (Some ds) (Some ps) inputs d p e =
    subst NamesOnce (some_same e) (record { documents = d ds refl; parameters = p ps refl })

paired : {A B : Type 0} (a : A) (o : Option B) (r : A × B) → option_map (λ b. (a, b)) o ≡ Some r
    → o ≡ Some r.1
paired {A} {B} a None r e = absurd cc
paired {A} {B} a (Some b) r e = ap (λ (q : A × B). Some q.1) (some_same e)

operands_once : (greatest usual : ℕ) (t : Told) (operands : List (List ℕ)) (r : List ℕ × Inputs)
    → run_of_operands greatest usual t operands ≡ Some r → NamesOnce r.1
operands_once greatest usual t [] r e = absurd cc
operands_once greatest usual t (program ∷ []) r e = absurd cc
operands_once greatest usual t (program ∷ document ∷ more) r e =
    inputs_once document (depth_of greatest usual t.depths) (documents_of t.files) (parameters_of more) r.1
    (documents_once t.files) (parameters_once more)
    (paired program (inputs_of document (depth_of greatest usual t.depths) (documents_of t.files) (parameters_of more)) r e)

run_once : (greatest usual : ℕ) (o : Option Told) (r : List ℕ × Inputs)
    → option_and_then (run_of greatest usual) o ≡ Some r → NamesOnce r.1
run_once greatest usual None r e = absurd cc
run_once greatest usual (Some t) r e = operands_once greatest usual t t.operands r e

asked_once : (make : List ℕ → Inputs → Asked) (o : Option (List ℕ × Inputs)) (request : Asked)
    → ((program : List ℕ) (inputs : Inputs) → inputs_asked (make program inputs) ≡ inputs)
    → ((r : List ℕ × Inputs) → o ≡ Some r → NamesOnce r.1)
    → option_map (λ r. make r.0 r.1) o ≡ Some request → NamesOnce (inputs_asked request)
asked_once make None request same once e = absurd cc
asked_once make (Some r) request same once e =
    subst (λ (a : Asked). NamesOnce (inputs_asked a)) (some_same e)
    (rw (same r.0 r.1) (once r refl))

chosen_once : (a b : Bool) (x y : Option Asked) (request : Asked)
    → ((q : Asked) → x ≡ Some q → NamesOnce (inputs_asked q))
    → ((q : Asked) → y ≡ Some q → NamesOnce (inputs_asked q))
    → cond a x (cond b y None) ≡ Some request → NamesOnce (inputs_asked request)
chosen_once true b x y request f g e = f request e
chosen_once false true x y request f g e = g request e
chosen_once false false x y request f g e = absurd cc

pub request_once : (words : Words) (request : Asked) → request_of words ≡ Some request
    → NamesOnce (inputs_asked request)
request_once [] request e = absurd cc
request_once (command ∷ words) request e =
    chosen_once (bytes_eq command (codes "transform")) (bytes_eq command (codes "query")) (transform_of words) (query_of words) request
    (λ q. asked_once Transform (option_and_then (run_of 300 100) (told_apart words)) q (λ p i. refl) (run_once 300 100 (told_apart words)))
    (λ q. asked_once Query (option_and_then (run_of 602 202) (told_apart words)) q (λ p i. refl) (run_once 602 202 (told_apart words))) e
