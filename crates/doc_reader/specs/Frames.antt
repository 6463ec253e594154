-- What the open elements of the reader stand for.
use Rattle.std.specs.Prelude.{◌≡◌, ℕ, ◌-◌, List, [], ◌∷◌, length, take, reverse, Some, if◌then◌else◌}
use Rattle.xt_names.specs.declared.names.Binding.{Binding}
use Rattle.doc_grammar.specs.RawNames.{RawTag}
use Rattle.doc_grammar.specs.Scopes.{Opened, opened, declarations}
use Rattle.doc_grammar.specs.Document.{Level, blank, fresh, typed, rooted}
use Rattle.doc_grammar.specs.Machine.{Stack, ground, element, State, Stop, other, content, scope_of, stop_before_name, with_declared}
use Rattle.xml_source.specs.View.{name_of}
use Rattle.doc_reader.specs.declared.readers.Frame as code
use Rattle.doc_reader.specs.declared.readers.Level as level
use Rattle.doc_reader.specs.declared.readers.Level.TheVariants.{Blank, Fresh, Typed, Rooted}
use Rattle.doc_reader.specs.declared.readers.Reader.{Reader}
use Rattle.xt_names.specs.Characters.{starts_name}

abbrev pub level_of : level.Level → Level
level_of Blank = blank
level_of Fresh = fresh
level_of Typed = typed
level_of Rooted = rooted

-- an element that is open, in which these bindings are in force
abbrev pub with_frame : code.Frame → List Binding → Stack → Stack
with_frame f scope st = element (name_of f.name) (record { name = f.element; attributes = f.attributes; scope = scope }) f.kids st

-- the bindings that were in force outside of the element
abbrev pub outside : code.Frame → List Binding → List Binding
outside f scope = take (length scope - f.declared) scope

-- elements, of which the first is the innermost
abbrev pub stack_in : List code.Frame → List Binding → Stack → Stack
stack_in [] scope base = base
stack_in (f ∷ fs) scope base = with_frame f scope (stack_in fs (outside f scope) base)

-- elements, of which the last is the innermost
abbrev pub stack_of : List code.Frame → List Binding → Stack → Stack
stack_of fs scope base = stack_in (reverse fs) scope base

-- the document that is being read
abbrev pub base_of : Reader → Stack
base_of r = ground (level_of r.level) r.kids r.declared

-- all that is open
abbrev pub open_in : Reader → Stack
open_in r = stack_of r.frames.items r.scope (base_of r)

-- the text so far
abbrev pub text_in : Reader → List ℕ
text_in r = r.text

-- between two parts of the content
abbrev pub here : Reader → State
here r = content 0 (text_in r) (open_in r)

-- what a start tag opens: an element with its scope
pub record Pushes (t : RawTag) (old : Stack) (f : code.Frame) (frames : List code.Frame) (scope : List Binding) (base : Stack) : Type 0 where
  pub opening : Opened
  pub is_opened : opened (scope_of old) t ≡ Some opening
  pub is_frame : (st : Stack) → with_frame f scope st ≡ element t.name opening [] st
  pub is_outside : stack_of frames (outside f scope) base ≡ with_declared (declarations t.attributes) old

-- why no element begins with what comes next
abbrev pub stop_before : List ℕ → Stack → Stop
stop_before [] st = other
stop_before (c ∷ cs) st = if starts_name c then stop_before_name st else other
