-- A reader of tokens: the productions that are open, each with what it has and what it still wants. What comes after the token is told by a `Second`.
use Rattle.std.specs.Prelude.{ℕ, suc, zero, Bool, true, false, List, [], ◌∷◌, ◌++◌, Option, Some, None, if◌then◌else◌, option_and_then}
use Rattle.expr_grammar.specs.TokenNames.{Token}
use Rattle.expr_keys.specs.Classes.{fits, begins}
use Rattle.expr_terms.specs.Productions.{body, speaks}
use Rattle.expr_grammar.specs.Terms.{Language, Nonterminal, Symbol, tok, one, maybe, many, longest, Production, whole_expr, whole_sequence_type}
use Rattle.expr_grammar.specs.ChoiceNames.{Second}
use Rattle.expr_terms.specs.Choices.{second_of, choose}
use Rattle.expr_grammar.specs.RawNames.{Raw}
use Rattle.expr_terms.specs.Raws.{keep, build}

-- an open production, what it has, and what it still wants
pub data Frame : Type 0 where
  doing : Production → List Raw → List Symbol → Frame

abbrev pub entered : (Nonterminal → List Frame → Option (List Frame)) → Token → Production → List Symbol → List Frame → Option (List Frame)
entered go t p (tok c ∷ ss) fs = if fits c t then Some (doing p (keep c t []) ss ∷ fs) else None
entered go t p (one n ∷ ss) fs = go n (doing p [] ss ∷ fs)
entered go t p _ fs = None

abbrev pub picked : (Nonterminal → List Frame → Option (List Frame)) → Language → Token → List Frame → Option Production → Option (List Frame)
picked go l t fs None = None
picked go l t fs (Some p) = if speaks l p then entered go t p (body p) fs else None

-- opens the nonterminal and what is at its front, down to the token
abbrev pub descend : Language → ℕ → Nonterminal → Token → Second → List Frame → Option (List Frame)
descend l zero n t s fs = None
descend l (suc d) n t s fs = picked (λ m gs. descend l d m t s gs) l t fs (choose n t s)

-- how far a token leads into what is wanted
pub data Way : Type 0 where
  stuck : Way
  moved : List Frame → Way
  through : Way

abbrev pub or_else : Option (List Frame) → Way → Way
or_else None w = w
or_else (Some fs) w = moved fs

-- more than the nonterminals that may be at the front of one another
unfoldable pub deep : ℕ
deep = 50

abbrev pub along : Language → Token → Second → Production → List Raw → List Frame → List Symbol → Way
along l t s p vs fs [] = through
along l t s p vs fs (tok c ∷ ss) = if fits c t then moved (doing p (vs ++ keep c t []) ss ∷ fs) else stuck
along l t s p vs fs (one n ∷ ss) = or_else (descend l deep n t s (doing p vs ss ∷ fs)) stuck
along l t s p vs fs (maybe n ∷ ss) = or_else (descend l deep n t s (doing p vs ss ∷ fs)) (along l t s p vs fs ss)
along l t s p vs fs (many n ∷ ss) = or_else (descend l deep n t s (doing p vs (many n ∷ ss) ∷ fs)) (along l t s p vs fs ss)
along l t s p vs fs (longest n ∷ ss) = if begins n t then or_else (descend l deep n t s (doing p vs ss ∷ fs)) stuck else along l t s p vs fs ss

abbrev pub outcome : Way → Option (List Frame) → Option (List Frame)
outcome stuck o = None
outcome (moved fs) o = Some fs
outcome through o = o

abbrev pub climb : Language → Token → Second → List Frame → Production → List Raw → List Symbol → Option (List Frame)
climb l t s [] p vs ss = outcome (along l t s p vs [] ss) None
climb l t s (doing q us rs ∷ fs) p vs ss = outcome (along l t s p vs (doing q us rs ∷ fs) ss) (climb l t s fs q (us ++ build p vs ∷ []) rs)

abbrev pub advance : Language → Token → Second → List Frame → Option (List Frame)
advance l t s [] = None
advance l t s (doing p vs ss ∷ fs) = climb l t s fs p vs ss

-- whether nothing more is wanted
abbrev pub skips : List Symbol → Bool
skips [] = true
skips (tok c ∷ ss) = false
skips (one n ∷ ss) = false
skips (maybe n ∷ ss) = skips ss
skips (many n ∷ ss) = skips ss
skips (longest n ∷ ss) = skips ss

abbrev pub ended : List Frame → Production → List Raw → List Symbol → Option Raw
ended [] p vs ss = if skips ss then Some (build p vs) else None
ended (doing q us rs ∷ fs) p vs ss = if skips ss then ended fs q (us ++ build p vs ∷ []) rs else None

abbrev pub finish : List Frame → Option Raw
finish [] = None
finish (doing p vs ss ∷ fs) = ended fs p vs ss

abbrev pub run : Language → List Token → List Frame → Option Raw
run l [] fs = finish fs
run l (t ∷ ts) fs = option_and_then (run l ts) (advance l t (second_of ts) fs)

-- nothing but the production is open
abbrev pub start : Production → List Frame
start p = doing p [] (body p) ∷ []

-- the value of all of the tokens as an expression, where they spell one
abbrev pub read_whole : Language → List Token → Option Raw
read_whole l ts = run l ts (start whole_expr)

-- .. and as a sequence type
abbrev pub read_type : Language → List Token → Option Raw
read_type l ts = run l ts (start whole_sequence_type)
