-- Where the reading of a text stands.
use Rattle.std.specs.Prelude.{◌≡◌, ◌<◌, ◌≤◌, ℕ, Bool, true, false, List, ◌++◌, length}
use Rattle.std.specs.Prelude.{Option, Some, None, Result, Ok, Err, option_map, option_and_then, if◌then◌else◌}
use Rattle.expr_keys.specs.declared.tokens.Token.{Token}
use Rattle.query_grammar.specs.declared.declared.Declared.{Declared}
use Rattle.query_grammar.specs.declared.declared.RawQuery.{RawQuery}
use Rattle.query_grammar.specs.Machine.{Mode, front, behind, run, read_query, is_lone, Leads}
use Rattle.query_pieces.specs.declared.contexts.Before.{Before}
use Rattle.query_pieces.specs.declared.contexts.Before.TheVariants.{Slash as slash_key}
use Rattle.query_pieces.specs.Points.{Point, start}
use Rattle.query_pieces.specs.Aheads.{Sees}
use Rattle.query_pieces.specs.Readings.{Splits}
use Rattle.expr_reader.specs.declared.running.ExprParser.{ExprParser}
use Rattle.query_reader.specs.declared.query_steps.stages.ReaderState.{ReaderState}
use Rattle.query_reader.specs.declared.query_steps.stages.ReaderState.TheVariants.{Body}
use Rattle.query_reader.specs.QuerySteps.Stands.{IsKept, Stands}
use Rattle.query_texts.specs.declared.orders.Order.{Order}
use Rattle.query_texts.specs.declared.readings.QueryReading.{QueryReading}
use Rattle.query_texts.specs.declared.readings.QueryReading.TheVariants as reading
use Rattle.query_texts.specs.declared.texts.Progress.{Progress}
use Rattle.query_texts.specs.declared.texts.BodyProgress.{BodyProgress}
use Rattle.query_texts.specs.declared.texts.Next.{Next}
use Rattle.query_texts.specs.declared.texts.Next.TheVariants as next
use Rattle.query_texts.specs.Orders.{may_follow}
use Rattle.query_texts.specs.Texts.{declared_nest, query_nest, ReadAs}

-- the query with these declarations before its own
abbrev pub behind_all : List Declared → RawQuery → RawQuery
behind_all ds q = record { declared = ds ++ q.declared; body = q.body }

abbrev pub if_follows : Order → RawQuery → Option RawQuery
if_follows o q = if may_follow o q.declared then Some q else None

-- what the tokens from here on spell
abbrev pub onward : Order → List Token → Mode → Option RawQuery
onward o ts m = option_and_then (if_follows o) (run ts m)

-- the declarations are held as long as none is too deep
abbrev pub AreKept : ℕ → Bool → List Declared → List Declared → Type 0
AreKept k true xs ds = k < declared_nest ds
AreKept k false xs ds = (xs ≡ ds) × (declared_nest ds ≤ k)

-- of the tokens `ts` of the text, `us` are still to come
pub record Here (k : ℕ) (g : Progress) (before : Before) (ts us : List Token) : Type 0 where
  pub mode : Mode
  pub declared : List Declared
  pub stands : Stands k g.stage mode us
  pub leads : Leads mode us
  pub lone : is_lone mode ≡ true → before ≡ slash_key
  pub reads : read_query ts ≡ option_map (behind_all declared) (onward g.order us mode)
  pub kept : AreKept k g.is_deep g.declared declared

pub record Onward (k : ℕ) (g : Progress) (p : Point) (ts : List Token) : Type 0 where
  pub tokens : List Token
  pub splits : Splits p tokens
  pub here : Here k g p.before ts tokens

pub record Back (k : ℕ) (g : Progress) (text : List ℕ) (p : Point) (us : List Token)
    : Type 0 where
  pub tokens : List Token
  pub splits : Splits (start text) tokens
  pub here : Here k g p.before tokens us

-- whatever parts the text and spells a query goes on here, and whatever goes on here parts the text
pub record Standing (k : ℕ) (text : List ℕ) (g : Progress) (p : Point) : Type 0 where
  pub onward : (ts : List Token) (q : RawQuery) → Splits (start text) ts
      → read_query ts ≡ Some q → Onward k g p ts
  pub back : (us : List Token) → Splits p us → Back k g text p us

-- the query of these tokens is read so
abbrev pub Judged : ℕ → QueryReading → Option RawQuery → Type 0
Judged k reading.Nothing o = o ≡ None
Judged k reading.TooDeep o = (q : RawQuery) × ((o ≡ Some q) × (k < query_nest q))
Judged k (reading.Value q) o = (o ≡ Some q) × (query_nest q ≤ k)

-- where a token leads to
abbrev pub Takes : ℕ → Option Progress → Before → List Token → List Token → Type 0
Takes k None before ts us = read_query ts ≡ None
Takes k (Some g) before ts us = Here k g before ts us

-- a declaration has ended, with these tokens to come
pub record Closes (k : ℕ) (o : Option Declared) (order : Order) (deep : Bool) (xs : List Declared)
    (ts us : List Token) : Type 0 where
  pub last : Declared
  pub before : List Declared
  pub is_kept : IsKept k o last
  pub are_kept : AreKept k deep xs before
  pub leads : Leads front us
  pub reads : read_query ts ≡ option_map (behind_all before)
      (option_and_then (if_follows order) (option_map (behind last) (run us front)))

abbrev pub Follows : ℕ → List ℕ → Next → Point → Type 0
Follows k text (next.Ends r) p = ReadAs text k r
Follows k text (next.Onto g a) p = Standing k text g p

abbrev pub IsShorter : Next → Point → Point → Type 0
IsShorter (next.Ends r) p q = Unit {0}
IsShorter (next.Onto g a) p q = length q.rest < length p.rest

-- what is seen of the rest
abbrev pub SeesOn : Next → Point → Type 0
SeesOn (next.Ends r) p = Unit {0}
SeesOn (next.Onto g a) p = Sees p a

abbrev pub progress : ReaderState → Order → Bool → List Declared → Progress
progress s o b xs = record { stage = s; order = o; is_deep = b; declared = xs }

-- what is read of the body, or the stage that is none of the body
abbrev pub Parted : ReaderState → Result ExprParser ReaderState → Type 0
Parted s (Ok r) = s ≡ Body r
Parted s (Err t) = s ≡ t

abbrev pub Bodily : Progress → Result BodyProgress Progress → Type 0
Bodily g (Ok b) = g ≡ progress (Body b.reader) b.order b.is_deep b.declared
Bodily g (Err h) = g ≡ h
