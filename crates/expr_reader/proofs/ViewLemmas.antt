-- The frames of the code, as the machine has them.
use Rattle.std.proofs.Common.{◌≡◌, ◌≢◌, ℕ, suc, ◌<◌, ◌+◌, ◌-◌, List, [], ◌∷◌, ◌++◌, refl, arith, append-nil, zero, Option, Some, None, drop}
use Rattle.expr_reader.specs.declared.frames.Frame.{Frame}
use Rattle.expr_reader.specs.TokenNames.{Token}
use Rattle.expr_reader.specs.Terms.{Language, xpath, xquery, Level, Nonterminal, Production, operator_chain}
use Rattle.expr_terms.specs.Productions.{body, below}
use Rattle.expr_terms.specs.declared.choices.Second.{Second}
use Rattle.expr_terms.specs.Choices.{choose, then_one}
use Rattle.expr_grammar.specs.Machine as machine
use Rattle.expr_reader.specs.View.{frame_of, frames_on, frames_of}

frames_on-append : (below : List machine.Frame) (fs : List Frame) (f : Frame) → frames_on below (fs ++ f ∷ []) ≡ frame_of f ∷ frames_on below fs
frames_on-append below [] f = refl
frames_on-append below (g ∷ fs) f = frames_on-append (frame_of g ∷ below) fs f

pub frames_of-append : (fs : List Frame) (f : Frame) → frames_of (fs ++ f ∷ []) ≡ frame_of f ∷ frames_of fs
frames_of-append fs f = frames_on-append [] fs f

pub descend-more : (d : ℕ) (l : Language) (n : Nonterminal) (t : Token) (s : Second) (fs : List machine.Frame) → 0 < d → machine.descend l d n t s fs ≡ machine.picked (λ m gs. machine.descend l (d - 1) m t s gs) l t fs (choose n t s)
descend-more zero l n t s fs h = absurd (omega arith)
descend-more (suc d) l n t s fs h = let e : suc d - 1 ≡ d = omega arith in rw e refl

frames_on-some : (below : List machine.Frame) (fs : List Frame) → below ≢ [] → frames_on below fs ≢ []
frames_on-some below [] h e = h e
frames_on-some below (f ∷ fs) h e = frames_on-some (frame_of f ∷ below) fs (λ n. absurd cc) e

pub frames_of-some : (fs : List Frame) → fs ≢ [] → frames_of fs ≢ []
frames_of-some [] h e = h refl
frames_of-some (f ∷ fs) h e = frames_on-some (frame_of f ∷ []) fs (λ n. absurd cc) e

-- the front of a level of operators, where an operand begins
pub level_front : (go : Nonterminal → List machine.Frame → Option (List machine.Frame)) (l : Language) (t : Token) (fs : List machine.Frame) (v : Level) (o : Option Production) (p : Production) → then_one o (operator_chain v) ≡ Some p → machine.picked go l t fs (then_one o (operator_chain v)) ≡ go (below v) (machine.doing (operator_chain v) [] (drop 1 (body (operator_chain v))) ∷ fs)
level_front go l t fs v None p e = absurd cc
level_front go xpath t fs v (Some q) p e = refl
level_front go xquery t fs v (Some q) p e = refl

pub ruleset views = (frames_of-append, append-nil, frames_of-some)
