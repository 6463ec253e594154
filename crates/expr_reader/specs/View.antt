-- The frames of the code, as the machine has them.
use Rattle.std.specs.Prelude.{◌≡◌, ℕ, ◌<◌, List, [], ◌∷◌, ◌++◌, ◌≢◌, length, drop, Bool, true, false, Option, Some, None}
use Rattle.expr_reader.specs.declared.frames.Frame.{Frame}
use Rattle.expr_reader.specs.declared.fronts.Front.{Front}
use Rattle.expr_reader.specs.declared.fronts.Front.TheVariants.{Absent, Begun, Below}
use Rattle.expr_reader.specs.declared.steps.Progress.{Progress}
use Rattle.expr_reader.specs.declared.steps.Progress.TheVariants.{Rejected, Consumed, FrameDone}
use Rattle.expr_keys.specs.declared.tokens.Token.{Token}
use Rattle.expr_terms.specs.declared.raws.Raw.{Raw}
use Rattle.expr_terms.specs.declared.choices.Second.{Second}
use Rattle.expr_keys.specs.declared.productions.Language.{Language}
use Rattle.expr_keys.specs.declared.productions.Nonterminal.{Nonterminal}
use Rattle.expr_keys.specs.declared.productions.Production.{Production}
use Rattle.expr_keys.specs.declared.productions.Symbol.{Symbol}
use Rattle.expr_terms.specs.Productions.{body}
use Rattle.expr_terms.specs.Choices.{choose}
use Rattle.expr_reader.specs.declared.parts.Placement.{Placement}
use Rattle.expr_reader.specs.declared.parts.Placement.TheVariants.{Refused, Kept, Dropped}
use Rattle.expr_grammar.specs.declared.expr_nest.measures.Measure.{Measure}
use Rattle.expr_grammar.specs.ExprNest.Measures.{held_by}
use Rattle.expr_reader.specs.Outline.{topmost_held}
use Rattle.expr_grammar.specs.Machine as machine

abbrev pub frame_of : Frame → machine.Frame
frame_of f = machine.doing f.production f.kids.items (drop f.place (body f.production))

-- the frames with the topmost first, on those below
abbrev pub frames_on : List machine.Frame → List Frame → List machine.Frame
frames_on below [] = below
frames_on below (f ∷ fs) = frames_on (frame_of f ∷ below) fs

abbrev pub frames_of : List Frame → List machine.Frame
frames_of fs = frames_on [] fs

-- the next part, where there is one
abbrev pub Wanted : Option Symbol → List Symbol → List Symbol → Type 0
Wanted None ss rest = ss ≡ []
Wanted (Some s) ss rest = ss ≡ s ∷ rest

-- what the front of a production is, where there is one: the frames hold it, or nothing is done
abbrev pub Entered : Front → Language → Option Production → Token → List Frame → List Frame → Type 0
Entered Absent l o t old new = (new ≡ old) × ((go : Nonterminal → List machine.Frame → Option (List machine.Frame)) → machine.picked go l t (frames_of old) o ≡ None)
Entered Begun l o t old new = (go : Nonterminal → List machine.Frame → Option (List machine.Frame)) → machine.picked go l t (frames_of old) o ≡ Some (frames_of new)
Entered (Below m) l o t old new = ((f : Frame) × (new ≡ old ++ f ∷ [])) × ((go : Nonterminal → List machine.Frame → Option (List machine.Frame)) → machine.picked go l t (frames_of old) o ≡ go m (frames_of new))

-- .. and that of a nonterminal
abbrev pub Fronted : Front → Language → Nonterminal → Token → Second → List Frame → List Frame → Type 0
Fronted front l n t s old new = Entered front l (choose n t s) t old new

abbrev pub Opened : Bool → Option (List machine.Frame) → List Frame → List Frame → Type 0
Opened true o old new = o ≡ Some (frames_of new)
Opened false o old new = (o ≡ None) × (new ≡ old)

abbrev pub Tried : Option Frame → Option (List machine.Frame) → Frame → List Frame → List Frame → Type 0
Tried None o frame old new = o ≡ Some (frames_of new)
Tried (Some f) o frame old new = (o ≡ None) × (f ≡ frame) × (new ≡ old)

abbrev pub Went : Progress → machine.Way → Frame → List Frame → List Frame → Type 0
Went Rejected w frame old new = w ≡ machine.stuck
Went Consumed w frame old new = w ≡ machine.moved (frames_of new)
Went (FrameDone f) w frame old new = (w ≡ machine.through) × (f.production ≡ frame.production) × (f.kids.items ≡ frame.kids.items) × (new ≡ old)

-- the value comes after the others of the topmost frame
abbrev pub with_value : Raw → List machine.Frame → List machine.Frame
with_value v [] = []
with_value v (machine.doing q us rs ∷ fs) = machine.doing q (us ++ v ∷ []) rs ∷ fs

-- a production with one more part, or without it where it nests too deep with it
abbrev pub Taken : Frame × Placement → Frame → Raw → Measure → ℕ → Type 0
Taken (g, Refused) f v m k = ⊥
Taken (g, Kept) f v m k = frame_of g ≡ machine.doing f.production (f.kids.items ++ v ∷ []) (drop f.place (body f.production))
Taken (g, Dropped) f v m k = (frame_of g ≡ frame_of f) × (k < held_by m f.production (f.kids.items ++ v ∷ []))

abbrev pub Given : Placement → Raw → Measure → ℕ → Bool → List machine.Frame → List machine.Frame → List Frame → List Frame → Type 0
Given Refused v m k deep old new xs ys = (old ≡ []) × (xs ≡ [])
Given Kept v m k deep old new xs ys = (new ≡ with_value v old) × (length ys ≡ length xs) × (xs ≢ []) × (old ≢ []) × (deep ≡ false)
Given Dropped v m k deep old new xs ys = (new ≡ old) × (length ys ≡ length xs) × (xs ≢ []) × (old ≢ []) × (deep ≡ false → k < topmost_held m (with_value v old))
