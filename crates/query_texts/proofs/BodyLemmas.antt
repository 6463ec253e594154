-- Where the reading of the body of a query leads.
use Rattle.std.proofs.Common.{◌≡◌, ℕ, Bool, true, false, List, refl, sym, ◌∙◌, ap, subst}
use Rattle.std.proofs.Common.{Some, None}
use Rattle.expr_keys.specs.declared.tokens.Token.{Token}
use Rattle.expr_terms.specs.declared.choices.Second.{Second}
use Rattle.expr_keys.specs.declared.productions.Language.TheVariants.{Xquery as xquery}
use Rattle.expr_terms.specs.Choices.{second_of}
use Rattle.expr_grammar.specs.Machine.{advance}
use Rattle.expr_reader.specs.declared.running.ExprParser.{ExprParser}
use Rattle.query_grammar.specs.declared.declared.Declared.{Declared}
use Rattle.query_grammar.specs.Machine as machine
use Rattle.query_grammar.specs.Machine.{step, to_mode}
use Rattle.query_pieces.specs.Points.{Point}
use Rattle.query_pieces.specs.Readings.{Reads, Splits}
use Rattle.query_reader.specs.declared.query_steps.stages.ReaderState.TheVariants.{Body}
use Rattle.query_reader.specs.declared.query_steps.stages.StepResult.TheVariants.{Refused, Onto}
use Rattle.query_reader.specs.QuerySteps.Stands.{Goes}
use Rattle.query_reader.proofs.QuerySteps.ExpressionLemmas.{Advances, moves_none, moves_some, frames_body}
use Rattle.query_texts.specs.declared.orders.Order.{Order}
use Rattle.query_texts.specs.declared.readings.QueryReading.TheVariants as reading
use Rattle.query_texts.specs.Texts.{ReadAs}
use Rattle.query_texts.specs.Standings.{Standing, progress}
use Rattle.query_texts.proofs.StandingLemmas.{Wants, Turns, take_refused, take_onto}
use Rattle.query_texts.proofs.StandingLemmas.{taken_none, taken_some}

turns_refused : (k : ℕ) (old new : ExprParser) (t : Token) (n : Second) → Advances false old new t n
    → Turns k (Body old) t n Refused
turns_refused k old new t n a = λ m us e g.
    ap (λ z. step z t n) g.mode
    ∙ ap (to_mode machine.body) (moves_none k old new t n g.frames us a e g.holds)

turns_onto : (k : ℕ) (old new : ExprParser) (t : Token) (n : Second) → Advances true old new t n
    → new.language ≡ old.language → new.limit ≡ old.limit
    → Turns k (Body old) t n (Onto (Body new))
turns_onto k old new t n a l i = λ m us e g.
    subst (λ z. Goes k (Body new) z us) (sym (ap (λ z. step z t n) g.mode))
    (frames_body k new (advance xquery t n g.frames) us
    (moves_some k old new t n g.frames us a l i e g.holds))

pub body_refused : (k : ℕ) (text : List ℕ) (o : Order) (d : Bool) (ds : List Declared)
    (p r : Point) (old new : ExprParser) (w : Bool) (t : Token) (n : Second) (went : Bool)
    → Wants (Body old) p w → Standing k text (progress (Body old) o d ds) p → Reads w p t r
    → ((us : List Token) → Splits r us → n ≡ second_of us) → Advances went old new t n
    → went ≡ false → ReadAs text k reading.Nothing
body_refused k text o d ds p r old new w t n went f s x y a e =
    let turns = turns_refused k old new t n (subst (λ z. Advances z old new t n) e a) in
    let g = progress (Body old) o d ds in
    taken_none k text g p r w t n None f s x y
    (λ b ts us i h. take_refused k g b ts us t n turns i h) refl

pub body_goes : (k : ℕ) (text : List ℕ) (o : Order) (d : Bool) (ds : List Declared)
    (p r : Point) (old new : ExprParser) (w : Bool) (t : Token) (n : Second) (went : Bool)
    → Wants (Body old) p w → Standing k text (progress (Body old) o d ds) p → Reads w p t r
    → ((us : List Token) → Splits r us → n ≡ second_of us) → Advances went old new t n
    → new.language ≡ old.language → new.limit ≡ old.limit → went ≡ true
    → Standing k text (progress (Body new) o d ds) r
body_goes k text o d ds p r old new w t n went f s x y a l i e =
    let turns = turns_onto k old new t n (subst (λ z. Advances z old new t n) e a) l i in
    let g = progress (Body old) o d ds in
    let v = progress (Body new) o d ds in
    taken_some k text g p r w t n (Some v) v f s x y
    (λ b ts us i h. take_onto k g b ts us t n (Body new) turns i h) refl
