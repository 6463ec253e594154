-- Where an expression may end: each open production wants nothing more.
use Rattle.std.proofs.Common.{◌≡◌, Bool, true, false, cond, ◌&&◌, List, [], ◌∷◌, ◌++◌}
use Rattle.std.proofs.Common.{refl, sym, ◌∙◌, ap, Option, Some, None, is_some}
use Rattle.std.specs.List.{list_all}
use Rattle.expr_keys.specs.declared.tokens.Token.{Token}
use Rattle.expr_keys.specs.declared.productions.Production.{Production}
use Rattle.expr_keys.specs.declared.productions.Symbol.{Symbol}
use Rattle.expr_terms.specs.declared.raws.Raw.{Raw}
use Rattle.expr_terms.specs.Raws.{build}
use Rattle.expr_grammar.specs.Machine as machine
use Rattle.expr_grammar.specs.Machine.{skips, ended, finish}
use Rattle.expr_reader.specs.declared.frames.Frame.{Frame}
use Rattle.expr_reader.specs.declared.running.ExprParser.{ExprParser}
use Rattle.expr_reader.specs.View.{frame_of, frames_on, frames_of}
use Rattle.expr_reader.specs.Tracks.{Tracks}
use Rattle.expr_reader.proofs.Outline.{finish-outline}
use Rattle.query_reader.specs.Wanted.{is_done}
use Rattle.std.proofs.Math.Bool.{and-true}

abbrev all_skip : List machine.Frame → Bool
all_skip [] = true
all_skip (machine.doing p vs ss ∷ fs) = skips ss && all_skip fs

last_some : (b : Bool) (v : Raw) → is_some (cond b (Some v) None) ≡ (b && true)
last_some true v = refl
last_some false v = refl

next_some : (b : Bool) (o : Option Raw) (c : Bool) → is_some o ≡ c
    → is_some (cond b o None) ≡ (b && c)
next_some true o c e = e
next_some false o c e = refl

ended_all : (fs : List machine.Frame) (p : Production) (vs : List Raw) (ss : List Symbol)
    → is_some (ended fs p vs ss) ≡ (skips ss && all_skip fs)
ended_all [] p vs ss = last_some (skips ss) (build p vs)
ended_all (machine.doing q us rs ∷ fs) p vs ss =
    next_some (skips ss) _ (skips rs && all_skip fs) (ended_all fs q (us ++ build p vs ∷ []) rs)

abbrev filled : List machine.Frame → Bool
filled [] = false
filled (f ∷ fs) = true

finish_all : (fs : List machine.Frame) → is_some (finish fs) ≡ (filled fs && all_skip fs)
finish_all [] = refl
finish_all (machine.doing p vs ss ∷ fs) = ended_all fs p vs ss

turn : (a b c : Bool) → (b && (a && c)) ≡ ((a && b) && c)
turn true true c = refl
turn true false c = refl
turn false true c = refl
turn false false c = refl

on_all : (below : List machine.Frame) (us : List Frame)
    → all_skip (frames_on below us) ≡ (list_all is_done us && all_skip below)
on_all below [] = refl
on_all below (u ∷ us) =
    on_all (frame_of u ∷ below) us ∙ turn (is_done u) (list_all is_done us) (all_skip below)

on_filled : (f : machine.Frame) (below : List machine.Frame) (us : List Frame)
    → filled (frames_on (f ∷ below) us) ≡ true
on_filled f below [] = refl
on_filled f below (u ∷ us) = on_filled (frame_of u) (f ∷ below) us

pub none_done : false ≡ is_some (finish (frames_of []))
none_done = refl

pub some_done : (u : Frame) (us : List Frame)
    → list_all is_done (u ∷ us) ≡ is_some (finish (frames_of (u ∷ us)))
some_done u us = sym (finish_all (frames_of (u ∷ us))
    ∙ (ap (λ z. z && all_skip (frames_of (u ∷ us))) (on_filled (frame_of u) [] us)
    ∙ (on_all [] (u ∷ us) ∙ and-true (list_all is_done (u ∷ us)))))

pub are_some : (us : List Frame) (b : Bool) → b ≡ list_all is_done us → (us ≡ [] → ⊥)
    → b ≡ is_some (finish (frames_of us))
are_some [] b e h = absurd (h refl)
are_some (u ∷ us) b e h = e ∙ some_done u us

pub are_none : (us : List Frame) → us ≡ [] → false ≡ is_some (finish (frames_of us))
are_none us e = ap (λ z. is_some (finish (frames_of z))) (sym e)

pub tracked_end : (r : ExprParser) (fs : List machine.Frame) (ts : List Token) (b : Bool)
    → b ≡ is_some (finish (frames_of r.frames.items)) → Tracks r fs ts → b ≡ is_some (finish fs)
tracked_end r fs ts b e t = e ∙ sym (finish-outline fs (frames_of r.frames.items) t.outlined)

pub ruleset done = (are_some, are_none, tracked_end)
