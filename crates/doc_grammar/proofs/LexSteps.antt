-- Each step in a comment, an instruction or a section keeps what can still complete it.
use Rattle.std.proofs.Common.{◌≡◌, ℕ, List, [], ◌∷◌, ◌++◌, refl, sym, subst, Bool, true, false, cond, ◌==◌, eq-eqb}
use Rattle.std.proofs.lemmas.Bool.{eqb-true}
use Rattle.xt_tree.specs.declared.trees.Tree.TheVariants.{Comment}
use Rattle.doc_grammar.specs.Lexemes.{Spaces, UpTo, section_close, instruction_close, begins_with, CommentText}
use Rattle.doc_grammar.specs.Lexemes as lexemes
use Rattle.doc_grammar.specs.Lexing.{Lex, LexStep, lex_step, on, makes, says, fails, on_char, dash, comment, comment_dash, comment_dashes, section_open, section_open_step, section}
use Rattle.doc_grammar.proofs.LexRests.{Made, node, said, Opening, last_letter, a_letter, LexRest}
use Rattle.doc_grammar.proofs.LexRests as rests
use Rattle.xt_names.specs.Characters.{is_char}
use Rattle.xt_names.proofs.BoolLemmas.{no}

-- what a character does to what may still be made
abbrev pub LexGoes : Lex → ℕ → List ℕ → LexStep → Type 0
LexGoes l c ts (on l') =
    (m : Made) (rest : List ℕ) → (LexRest l (c ∷ ts) m rest → LexRest l' ts m rest) × (LexRest l' ts m rest → LexRest l (c ∷ ts) m rest)
LexGoes l c ts (makes n) = ((m : Made) (rest : List ℕ) → LexRest l (c ∷ ts) m rest → (m ≡ node n) × (rest ≡ ts)) × LexRest l (c ∷ ts) (node n) ts
LexGoes l c ts (says more) = ((m : Made) (rest : List ℕ) → LexRest l (c ∷ ts) m rest → (m ≡ said more) × (rest ≡ ts)) × LexRest l (c ∷ ts) (said more) ts
LexGoes l c ts fails = (m : Made) (rest : List ℕ) → LexRest l (c ∷ ts) m rest → ⊥

pub choose : (l : Lex) (c : ℕ) (ts : List ℕ) (b : Bool) (x y : LexStep) → (b ≡ true → LexGoes l c ts x) → (b ≡ false → LexGoes l c ts y) → LexGoes l c ts (cond b x y)
choose l c ts true x y f g = f refl
choose l c ts false x y f g = g refl

pub at : (l : Lex) (c d : ℕ) (ts : List ℕ) (o : LexStep) → (c == d) ≡ true → LexGoes l d ts o → LexGoes l c ts o
at l c d ts o e k = let P : ℕ → Type 0 = λ x. LexGoes l x ts o in subst P (sym (eqb-true c d e)) k

-- where a character goes on if it is one
pub chars_on : (l l' : Lex) (c : ℕ) (ts : List ℕ) → ((m : Made) (rest : List ℕ) → LexRest l (c ∷ ts) m rest → (is_char c ≡ true) × LexRest l' ts m rest) → ((m : Made) (rest : List ℕ) → is_char c ≡ true → LexRest l' ts m rest → LexRest l (c ∷ ts) m rest) → LexGoes l c ts (on_char c l')
chars_on l l' c ts f g =
    choose l c ts (is_char c) _ _
    (λ p m rest. ((λ k. (f m rest k).1), (λ k. g m rest p k)))
    (λ p m rest k. no (f m rest k).0 p)

-- comments

no_dash : {c : ℕ} {ts rest : List ℕ} {m : Made} → (c == 45) ≡ false → LexRest dash (c ∷ ts) m rest → ⊥
no_dash e (rests.in_dash t) = cc

dash_on : {ts rest : List ℕ} {m : Made} → LexRest dash (45 ∷ ts) m rest → LexRest (comment []) ts m rest
dash_on (rests.in_dash t) = rests.in_comment t

dash_back : {ts rest : List ℕ} {m : Made} → LexRest (comment []) ts m rest → LexRest dash (45 ∷ ts) m rest
dash_back (rests.in_comment t) = rests.in_dash t

pub dash_goes : (c : ℕ) (ts : List ℕ) → LexGoes dash c ts (lex_step dash c)
dash_goes c ts =
    choose dash c ts (c == 45) _ _
    (λ e. at dash c 45 ts (on (comment [])) e (λ m rest. (dash_on, dash_back)))
    (λ e m rest k. no_dash e k)

comment_on : {c : ℕ} {read ts text rest : List ℕ} → (c == 45) ≡ false → CommentText read (c ∷ ts) text rest → (is_char c ≡ true) × CommentText (read ++ c ∷ []) ts text rest
comment_on e (lexemes.more p d k) = (p, k)
comment_on e (lexemes.dash p d k) = absurd (cc)
comment_on e lexemes.whole = absurd (cc)

in_comment_on : {c : ℕ} {read ts rest : List ℕ} {m : Made} → (c == 45) ≡ false → LexRest (comment read) (c ∷ ts) m rest → (is_char c ≡ true) × LexRest (comment (read ++ c ∷ [])) ts m rest
in_comment_on e (rests.in_comment t) = let k = comment_on e t in (k.0, rests.in_comment k.1)

in_comment_back : {c : ℕ} {read ts rest : List ℕ} {m : Made} → (c == 45) ≡ false → is_char c ≡ true → LexRest (comment (read ++ c ∷ [])) ts m rest → LexRest (comment read) (c ∷ ts) m rest
in_comment_back e p (rests.in_comment t) = rests.in_comment (lexemes.more p e t)

to_dash : {read ts rest : List ℕ} {m : Made} → LexRest (comment read) (45 ∷ ts) m rest → LexRest (comment_dash read) ts m rest
to_dash (rests.in_comment t) = rests.in_comment_dash t

from_dash : {read ts rest : List ℕ} {m : Made} → LexRest (comment_dash read) ts m rest → LexRest (comment read) (45 ∷ ts) m rest
from_dash (rests.in_comment_dash t) = rests.in_comment t

pub comment_goes : (read : List ℕ) (c : ℕ) (ts : List ℕ) → LexGoes (comment read) c ts (lex_step (comment read) c)
comment_goes read c ts =
    choose (comment read) c ts (c == 45) _ _
    (λ e. at (comment read) c 45 ts (on (comment_dash read)) e (λ m rest. (to_dash, from_dash)))
    (λ e. chars_on (comment read) (comment (read ++ c ∷ [])) c ts (λ m rest k. in_comment_on e k) (λ m rest p k. in_comment_back e p k))

dashed : {c : ℕ} {read ts text rest : List ℕ} → (c == 45) ≡ false → CommentText read (45 ∷ c ∷ ts) text rest → (is_char c ≡ true) × CommentText (read ++ 45 ∷ c ∷ []) ts text rest
dashed e (lexemes.more p d k) = absurd (cc)
dashed e (lexemes.dash p d k) = (p, k)
dashed e lexemes.whole = absurd (cc)

dash_char_on : {c : ℕ} {read ts rest : List ℕ} {m : Made} → (c == 45) ≡ false → LexRest (comment_dash read) (c ∷ ts) m rest → (is_char c ≡ true) × LexRest (comment (read ++ 45 ∷ c ∷ [])) ts m rest
dash_char_on e (rests.in_comment_dash t) = let k = dashed e t in (k.0, rests.in_comment k.1)

dash_char_back : {c : ℕ} {read ts rest : List ℕ} {m : Made} → (c == 45) ≡ false → is_char c ≡ true → LexRest (comment (read ++ 45 ∷ c ∷ [])) ts m rest → LexRest (comment_dash read) (c ∷ ts) m rest
dash_char_back e p (rests.in_comment t) = rests.in_comment_dash (lexemes.dash p e t)

to_dashes : {read ts rest : List ℕ} {m : Made} → LexRest (comment_dash read) (45 ∷ ts) m rest → LexRest (comment_dashes read) ts m rest
to_dashes (rests.in_comment_dash t) = rests.in_comment_dashes t

from_dashes : {read ts rest : List ℕ} {m : Made} → LexRest (comment_dashes read) ts m rest → LexRest (comment_dash read) (45 ∷ ts) m rest
from_dashes (rests.in_comment_dashes t) = rests.in_comment_dash t

pub comment_dash_goes : (read : List ℕ) (c : ℕ) (ts : List ℕ) → LexGoes (comment_dash read) c ts (lex_step (comment_dash read) c)
comment_dash_goes read c ts =
    choose (comment_dash read) c ts (c == 45) _ _
    (λ e. at (comment_dash read) c 45 ts (on (comment_dashes read)) e (λ m rest. (to_dashes, from_dashes)))
    (λ e. chars_on (comment_dash read) (comment (read ++ 45 ∷ c ∷ [])) c ts (λ m rest k. dash_char_on e k) (λ m rest p k. dash_char_back e p k))

comment_end : {read ts text rest : List ℕ} → CommentText read (45 ∷ 45 ∷ 62 ∷ ts) text rest → (text ≡ read) × (rest ≡ ts)
comment_end (lexemes.more p d k) = absurd (cc)
comment_end (lexemes.dash p d k) = absurd (cc)
comment_end lexemes.whole = (refl, refl)

in_comment_end : {read ts rest : List ℕ} {m : Made} → LexRest (comment_dashes read) (62 ∷ ts) m rest → (m ≡ node (Comment read)) × (rest ≡ ts)
in_comment_end (rests.in_comment_dashes t) = let e = comment_end t in (rw e.0 refl, e.1)

no_comment_end : {c : ℕ} {read ts text rest : List ℕ} → (c == 62) ≡ false → CommentText read (45 ∷ 45 ∷ c ∷ ts) text rest → ⊥
no_comment_end e (lexemes.more p d k) = cc
no_comment_end e (lexemes.dash p d k) = cc
no_comment_end e lexemes.whole = cc

no_end : {c : ℕ} {read ts rest : List ℕ} {m : Made} → (c == 62) ≡ false → LexRest (comment_dashes read) (c ∷ ts) m rest → ⊥
no_end e (rests.in_comment_dashes t) = no_comment_end e t

pub comment_dashes_goes : (read : List ℕ) (c : ℕ) (ts : List ℕ) → LexGoes (comment_dashes read) c ts (lex_step (comment_dashes read) c)
comment_dashes_goes read c ts =
    choose (comment_dashes read) c ts (c == 62) _ _
    (λ e. at (comment_dashes read) c 62 ts (makes (Comment read)) e ((λ m rest k. in_comment_end k), rests.in_comment_dashes lexemes.whole))
    (λ e m rest k. no_end e k)

-- the letters before a section

open_last : {c d : ℕ} {ts rest : List ℕ} {m : Made} → LexRest (section_open (d ∷ [])) (c ∷ ts) m rest → (c ≡ d) × LexRest (section []) ts m rest
open_last (rests.in_section_open (last_letter t)) = (refl, rests.in_section t)

open_next : {c d e : ℕ} {left ts rest : List ℕ} {m : Made} → LexRest (section_open (d ∷ e ∷ left)) (c ∷ ts) m rest → (c ≡ d) × LexRest (section_open (e ∷ left)) ts m rest
open_next (rests.in_section_open (a_letter t)) = (refl, rests.in_section_open t)

no_open : {ts rest : List ℕ} {m : Made} → LexRest (section_open []) ts m rest → ⊥
no_open (rests.in_section_open t) = elim t [ ]

back_last : {d : ℕ} {ts rest : List ℕ} {m : Made} → LexRest (section []) ts m rest → LexRest (section_open (d ∷ [])) (d ∷ ts) m rest
back_last (rests.in_section t) = rests.in_section_open (last_letter t)

back_next : {d e : ℕ} {left ts rest : List ℕ} {m : Made} → LexRest (section_open (e ∷ left)) ts m rest → LexRest (section_open (d ∷ e ∷ left)) (d ∷ ts) m rest
back_next (rests.in_section_open t) = rests.in_section_open (a_letter t)

pub open_goes : (left : List ℕ) (c : ℕ) (ts : List ℕ) → LexGoes (section_open left) c ts (section_open_step left c)
open_goes [] c ts = λ m rest k. no_open k
open_goes (d ∷ []) c ts =
    choose (section_open (d ∷ [])) c ts (c == d) _ _
    (λ e. at (section_open (d ∷ [])) c d ts (on (section [])) e (λ m rest. ((λ k. (open_last k).1), (λ k. back_last k))))
    (λ e m rest k. no (eq-eqb c d (open_last k).0) e)
open_goes (d ∷ f ∷ left) c ts =
    choose (section_open (d ∷ f ∷ left)) c ts (c == d) _ _
    (λ e. at (section_open (d ∷ f ∷ left)) c d ts (on (section_open (f ∷ left))) e (λ m rest. ((λ k. (open_next k).1), (λ k. back_next k))))
    (λ e m rest k. no (eq-eqb c d (open_next k).0) e)
