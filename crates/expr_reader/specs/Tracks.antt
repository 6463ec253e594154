-- What the reading of an expression holds, token by token.
use Rattle.std.specs.Prelude.{◌≡◌, ◌<◌, ℕ, List, Bool, true, false, Option, Some, None}
use Rattle.expr_keys.specs.declared.tokens.Token.{Token}
use Rattle.expr_terms.specs.declared.raws.Raw.{Raw}
use Rattle.expr_keys.specs.declared.productions.Language.{Language}
use Rattle.expr_terms.specs.Nest.{raw_nest_of}
use Rattle.expr_grammar.specs.Machine.{Frame, run}
use Rattle.expr_reader.specs.Outline.{outline}
use Rattle.expr_reader.specs.View.{frames_of}
use Rattle.expr_reader.specs.declared.running.ExprParser.{ExprParser}

-- The open productions are these, but for what they have once a part was too deep; then whatever
-- is read with these tokens to come nests deeper than the limit.
pub record Follows (k : ℕ) (l : Language) (deep : Bool) (now fs : List Frame) (ts : List Token)
    : Type 0 where
  pub outlined : outline fs ≡ outline now
  pub exact : deep ≡ false → fs ≡ now
  pub sinks : deep ≡ true → (w : Raw) → run l ts fs ≡ Some w → k < raw_nest_of w

-- the reader stands where the machine does, with these tokens to come
abbrev pub Tracks : ExprParser → List Frame → List Token → Type 0
Tracks r fs ts = Follows r.limit r.language r.is_deep (frames_of r.frames.items) fs ts

-- .. after a token
pub record Leads (o : Option (List Frame)) (r : ExprParser) (ts : List Token) : Type 0 where
  pub frames : List Frame
  pub led : o ≡ Some frames
  pub tracks : Tracks r frames ts

abbrev pub Led : Bool → Option (List Frame) → ExprParser → List Token → Type 0
Led true o r ts = Leads o r ts
Led false o r ts = o ≡ None
