-- Where the reading of a query stands.
use Rattle.std.specs.Prelude.{◌≡◌, ◌<◌, ◌≤◌, ℕ, List, Option, Some, None}
use Rattle.expr_keys.specs.declared.tokens.Token.{Token}
use Rattle.expr_keys.specs.declared.tokens.Token.TheVariants as token
use Rattle.expr_keys.specs.declared.keys.Key.TheVariants as key
use Rattle.expr_keys.specs.declared.productions.Language.TheVariants.{Xquery as xquery}
use Rattle.expr_terms.specs.Choices.{second_of}
use Rattle.expr_terms.specs.Nest.{raw_nest_of}
use Rattle.expr_grammar.specs.Machine.{Frame}
use Rattle.expr_reader.specs.declared.running.ExprParser.{ExprParser}
use Rattle.expr_reader.specs.Tracks.{Tracks}
use Rattle.query_grammar.specs.declared.declared.Declared.{Declared}
use Rattle.query_grammar.specs.declared.declared.Declared.TheVariants as declared
use Rattle.query_grammar.specs.Prolog.{Cut}
use Rattle.query_grammar.specs.Machine as machine
use Rattle.query_grammar.specs.Machine.{Mode}
use Rattle.query_reader.specs.declared.query_steps.stages.ReaderState.{ReaderState}
use Rattle.query_reader.specs.declared.query_steps.stages.ReaderState.TheVariants as stage
use Rattle.query_reader.specs.declared.query_steps.stages.StepResult.{StepResult}
use Rattle.query_reader.specs.declared.query_steps.stages.StepResult.TheVariants as turn

abbrev pub semicolon_key : Token
semicolon_key = token.Key key.Semicolon

abbrev pub brace_key : Token
brace_key = token.Key key.CloseBrace

-- the tokens of an expression, which may end before a semicolon or a closing brace
pub data Before : List Token → List Token → Type 0 where
  all : {ts : List Token} → Before ts ts
  semicolon : {ts seg more : List Token} → Cut (token.Key key.Semicolon) more ts seg → Before seg ts
  brace : {ts seg more : List Token} → Cut (token.Key key.CloseBrace) more ts seg → Before seg ts

-- the reader of an expression stands where the machine does
pub record Holds (k : ℕ) (r : ExprParser) (fs : List Frame) (ts : List Token) : Type 0 where
  pub language : r.language ≡ xquery
  pub limit : r.limit ≡ k
  pub tracks : (seg : List Token) → Before seg ts → Tracks r fs seg

-- how deep the expression of a declaration nests
abbrev pub nest_in : Declared → ℕ
nest_in (declared.Variable n (Some w)) = raw_nest_of w
nest_in (declared.Function q ps k w) = raw_nest_of w
nest_in _ = 0

-- a declaration is kept exactly where its expression nests no deeper than the limit
abbrev pub IsKept : ℕ → Option Declared → Declared → Type 0
IsKept k None d = k < nest_in d
IsKept k (Some e) d = (e ≡ d) × (nest_in d ≤ k)

pub record InFrames (k : ℕ) (m : Mode) (to : List Frame → Mode) (r : ExprParser) (ts : List Token)
    : Type 0 where
  pub frames : List Frame
  pub mode : m ≡ to frames
  pub holds : Holds k r frames ts

pub record Behind (k : ℕ) (o : Option Declared) (m : Mode) : Type 0 where
  pub declared : Declared
  pub mode : m ≡ machine.closed declared
  pub kept : IsKept k o declared

abbrev pub Stands : ℕ → ReaderState → Mode → List Token → Type 0
Stands k stage.Front m ts = m ≡ machine.front
Stands k (stage.Held a r) m ts = (m ≡ machine.held a r) × (r ≡ second_of ts)
Stands k (stage.Head o us) m ts = m ≡ machine.head o us.items
Stands k (stage.Body r) m ts = InFrames k m machine.body r ts
Stands k (stage.Value n r) m ts = InFrames k m (machine.value n) r ts
Stands k (stage.Inner q r) m ts = InFrames k m (machine.inner q) r ts
Stands k (stage.Closed o) m ts = Behind k o m

pub record Goes (k : ℕ) (s : ReaderState) (u : machine.Turn) (ts : List Token) : Type 0 where
  pub mode : Mode
  pub onto : u ≡ machine.onto mode
  pub stands : Stands k s mode ts

pub record Ends (k : ℕ) (o : Option Declared) (u : machine.Turn) : Type 0 where
  pub declared : Declared
  pub ends : u ≡ machine.ends declared
  pub kept : IsKept k o declared

-- where a token leads to
abbrev pub Turned : ℕ → StepResult → machine.Turn → List Token → Type 0
Turned k turn.Refused u ts = u ≡ machine.refused
Turned k (turn.Onto s) u ts = Goes k s u ts
Turned k (turn.Ends o) u ts = Ends k o u

-- where it leads an expression to
pub record Held (k : ℕ) (r : ExprParser) (o : Option (List Frame)) (ts : List Token) : Type 0 where
  pub frames : List Frame
  pub led : o ≡ Some frames
  pub holds : Holds k r frames ts

abbrev pub Moves : ℕ → Option ExprParser → Option (List Frame) → List Token → Type 0
Moves k None o ts = o ≡ None
Moves k (Some r) o ts = Held k r o ts
