-- Where the reading of a text stands.
use Rattle.std.proofs.Common.{◌≡◌, inl, inr, ◌<◌, ◌≤◌, ℕ, Bool, true, false, List, []}
use Rattle.std.proofs.Common.{◌∷◌, ◌++◌, refl, sym, ◌∙◌, ap, subst, arith, Option, Some}
use Rattle.std.proofs.Common.{None, option_map, option_and_then}
use Rattle.std.proofs.lemmas.Option.{none-some}
use Rattle.expr_keys.specs.declared.tokens.Token.{Token}
use Rattle.expr_terms.specs.declared.raws.Raw.{Raw}
use Rattle.expr_terms.specs.declared.choices.Second.{Second}
use Rattle.expr_terms.specs.Choices.{second_of}
use Rattle.expr_reader.specs.declared.readings.Reading.{Reading}
use Rattle.expr_reader.specs.declared.readings.Reading.TheVariants as raw
use Rattle.expr_reader.specs.Answers.{within}
use Rattle.query_grammar.specs.declared.declared.Declared.{Declared}
use Rattle.query_grammar.specs.declared.declared.RawQuery.{RawQuery}
use Rattle.query_grammar.specs.Machine as machine
use Rattle.query_grammar.specs.Machine.{Mode, step, run, read_query, is_lone, wants, ended, of_body}
use Rattle.query_grammar.specs.Machine.{turned, behind}
use Rattle.query_grammar.proofs.Operands.{slash_leads}
use Rattle.query_grammar.proofs.Run.{spells_reads, reads_spells}
use Rattle.query_pieces.specs.declared.contexts.Before.{Before}
use Rattle.query_pieces.specs.Points.{Point, start, before_of}
use Rattle.query_pieces.specs.Readings.{Reads, IsEnd, Splits, over, reads}
use Rattle.query_pieces.specs.Answers.{IsStuck}
use Rattle.query_pieces.proofs.ReadingLemmas.{reads_one, reads_ends}
use Rattle.query_reader.specs.declared.query_steps.stages.ReaderState.{ReaderState}
use Rattle.query_reader.specs.declared.query_steps.stages.ReaderState.TheVariants as stage
use Rattle.query_reader.specs.declared.query_steps.stages.StepResult.{StepResult}
use Rattle.query_reader.specs.declared.query_steps.stages.StepResult.TheVariants as turn
use Rattle.query_reader.specs.QuerySteps.Stands.{nest_in, IsKept, Stands, Turned, Goes, Ends}
use Rattle.query_reader.proofs.QuerySteps.ExpressionLemmas.{nothing_of, value_of, deep_of}
use Rattle.query_texts.specs.declared.orders.Order.{Order}
use Rattle.query_texts.specs.declared.orders.Order.TheVariants.{First, Late}
use Rattle.query_texts.specs.declared.readings.QueryReading.{QueryReading}
use Rattle.query_texts.specs.declared.readings.QueryReading.TheVariants as reading
use Rattle.query_texts.specs.declared.texts.Progress.{Progress}
use Rattle.query_texts.specs.Orders.{placed}
use Rattle.query_texts.specs.Texts.{SpellsText, spelled, declared_nest, ReadAs}
use Rattle.query_texts.specs.Standings.{behind_all, if_follows, AreKept, Here}
use Rattle.query_texts.specs.Standings.{Standing, Judged, Takes, Closes, progress}
use Rattle.query_texts.proofs.OrderLemmas.{nest_all, placed_on, placed_none, late_on}
use Rattle.query_texts.proofs.OrderLemmas.{kept_more, kept_deep, all_follow}
use Rattle.query_texts.proofs.SuitLemmas.{Suits, suits, reads_before}
use Rattle.xt_names.proofs.BoolLemmas.{never}
use Rattle.std.proofs.lemmas.List.{append-nil}

-- before the first token
same_query : (o : Option RawQuery) → o ≡ option_map (behind_all []) o
same_query None = refl
same_query (Some q) = refl

here_first : (k : ℕ) (xs : List Declared) (b : Before) (ts : List Token) → xs ≡ []
    → Here k (progress stage.Front First false xs) b ts ts
here_first k xs b ts e =
    record {
      mode = machine.front;
      declared = [];
      stands = refl;
      leads = machine.began ts;
      lone = λ f. absurd (wrong f);
      reads = same_query (read_query ts);
      kept = (e, omega arith);
    }
  where
    wrong : false ≡ true → ⊥
    wrong f = cc

pub begins : (k : ℕ) (text : List ℕ) (xs : List Declared) → xs ≡ []
    → Standing k text (progress stage.Front First false xs) (start text)
begins k text xs e =
    record {
      onward = λ ts q s r. record { tokens = ts; splits = s; here = here_first k xs _ ts e };
      back = λ us s. record { tokens = us; splits = s; here = here_first k xs _ us e };
    }

-- a token
abbrev pub Turns : ℕ → ReaderState → Token → Second → StepResult → Type 0
Turns k s t n x =
    (m : Mode) (us : List Token) → second_of us ≡ n → Stands k s m (t ∷ us)
    → Turned k x (step m t n) us

turned_to : (k : ℕ) (g : Progress) (b : Before) (ts us : List Token) (t : Token)
    (h : Here k g b ts (t ∷ us)) (u : machine.Turn) → step h.mode t (second_of us) ≡ u
    → read_query ts ≡ option_map (behind_all h.declared)
    (option_and_then (if_follows g.order) (turned (run us) u))
turned_to k g b ts us t h u e =
    h.reads ∙ ap (λ z. option_map (behind_all h.declared)
    (option_and_then (if_follows g.order) (turned (run us) z))) e

pub take_refused : (k : ℕ) (g : Progress) (b : Before) (ts us : List Token) (t : Token)
    (n : Second) → Turns k g.stage t n turn.Refused → second_of us ≡ n
    → Here k g b ts (t ∷ us) → read_query ts ≡ None
take_refused k g b ts us t n f e h =
    turned_to k g b ts us t h machine.refused
    (ap (step h.mode t) e ∙ f h.mode us e h.stands)

pub take_onto : (k : ℕ) (g : Progress) (b : Before) (ts us : List Token) (t : Token)
    (n : Second) (s : ReaderState) → Turns k g.stage t n (turn.Onto s) → second_of us ≡ n
    → Here k g b ts (t ∷ us)
    → Here k (progress s g.order g.is_deep g.declared) (before_of t) ts us
take_onto k g b ts us t n s f e h =
    let x : Goes k s (step h.mode t n) us = f h.mode us e h.stands in
    let u : step h.mode t (second_of us) ≡ machine.onto x.mode = ap (step h.mode t) e ∙ x.onto in
    record {
      mode = x.mode;
      declared = h.declared;
      stands = x.stands;
      leads = machine.onward h.leads u;
      lone = λ a. ap before_of (slash_leads h.mode x.mode t us h.leads u a);
      reads = turned_to k g b ts us t h (machine.onto x.mode) u;
      kept = h.kept;
    }

pub take_ends : (k : ℕ) (g : Progress) (b : Before) (ts us : List Token) (t : Token)
    (n : Second) (o : Option Declared) → Turns k g.stage t n (turn.Ends o) → second_of us ≡ n
    → Here k g b ts (t ∷ us) → Closes k o g.order g.is_deep g.declared ts us
take_ends k g b ts us t n o f e h =
    let x : Ends k o (step h.mode t n) = f h.mode us e h.stands in
    let u : step h.mode t (second_of us) ≡ machine.ends x.declared =
    ap (step h.mode t) e ∙ x.ends in
    record {
      last = x.declared;
      before = h.declared;
      is_kept = x.kept;
      are_kept = h.kept;
      leads = machine.ended_by h.leads u;
      reads = turned_to k g b ts us t h (machine.ends x.declared) u;
    }

pub behind_deep : (k : ℕ) (o : Order) (d : Bool) (xs ys : List Declared) (b : Before)
    (ts us : List Token) (x : Option Declared) → x ≡ None → Closes k x o d xs ts us
    → Here k (progress stage.Front Late true ys) b ts us
behind_deep k o d xs ys b ts us x e c =
    let n : k < nest_in c.last = subst (λ z. IsKept k z c.last) e c.is_kept in
    record {
      mode = machine.front;
      declared = c.before ++ c.last ∷ [];
      stands = refl;
      leads = c.leads;
      lone = λ f. never f;
      reads = c.reads ∙ late_on o k c.before c.last (run us machine.front) n;
      kept = kept_deep k ys c.before c.last n;
    }

pub behind_none : (k : ℕ) (o : Order) (d : Bool) (xs : List Declared)
    (ts us : List Token) (x : Option Declared) (e : Declared) (p : Option Order) → x ≡ Some e
    → p ≡ placed o e → p ≡ None → Closes k x o d xs ts us → read_query ts ≡ None
behind_none k o d xs ts us x e p f g h c =
    let n : (e ≡ c.last) × (nest_in c.last ≤ k) = subst (λ z. IsKept k z c.last) f c.is_kept in
    c.reads ∙ placed_none o c.before c.last (run us machine.front)
    (ap (placed o) (sym n.0) ∙ (sym g ∙ h))

pub behind_some : (k : ℕ) (o : Order) (d : Bool) (xs ys : List Declared) (b : Before)
    (ts us : List Token) (x : Option Declared) (e : Declared) (p : Option Order) (q : Order)
    → x ≡ Some e → p ≡ placed o e → p ≡ Some q → ys ≡ xs ++ e ∷ [] → Closes k x o d xs ts us
    → Here k (progress stage.Front q d ys) b ts us
behind_some k o d xs ys b ts us x e p q f g h y c =
    let n : (e ≡ c.last) × (nest_in c.last ≤ k) = subst (λ z. IsKept k z c.last) f c.is_kept in
    record {
      mode = machine.front;
      declared = c.before ++ c.last ∷ [];
      stands = refl;
      leads = c.leads;
      lone = λ f. never f;
      reads =
          c.reads ∙ placed_on o q c.before c.last (run us machine.front)
          (ap (placed o) (sym n.0) ∙ (sym g ∙ h));
      kept = kept_more k d xs ys c.before e c.last c.are_kept n.0 n.1 y;
    }

-- the end of the tokens
abbrev pub Finishes : ℕ → ReaderState → Reading → Type 0
Finishes k s x = (m : Mode) → Stands k s m [] → x ≡ within k (ended m)

end_reads : (k : ℕ) (g : Progress) (b : Before) (ts : List Token) (h : Here k g b ts [])
    (o : Option Raw) → ended h.mode ≡ o
    → read_query ts ≡ option_map (behind_all h.declared) (option_map of_body o)
end_reads k g b ts h o e =
    h.reads ∙ (ap (option_map (behind_all h.declared)) (all_follow g.order (ended h.mode))
    ∙ ap (λ z. option_map (behind_all h.declared) (option_map of_body z)) e)

pub end_nothing : (k : ℕ) (g : Progress) (b : Before) (ts : List Token) (x : Reading)
    → Finishes k g.stage x → x ≡ raw.Nothing → Here k g b ts [] → read_query ts ≡ None
end_nothing k g b ts x f e h =
    end_reads k g b ts h None (nothing_of k (ended h.mode) (sym e ∙ f h.mode h.stands))

abbrev whole : List Declared → Raw → RawQuery
whole ds v = record { declared = ds ++ []; body = v }

pub end_deep : (k : ℕ) (g : Progress) (b : Before) (ts : List Token) (x : Reading)
    → Finishes k g.stage x → x ≡ raw.TooDeep → Here k g b ts []
    → Judged k reading.TooDeep (read_query ts)
end_deep k g b ts x f e h =
    let d = deep_of k (ended h.mode) (sym e ∙ f h.mode h.stands) in
    let n = d.nests in (
      whole h.declared d.value,
      (end_reads k g b ts h (Some d.value) d.is, omega (arith, n)),
    )

pub end_past : (k : ℕ) (g : Progress) (b : Before) (ts : List Token) (x : Reading) (v : Raw)
    → Finishes k g.stage x → x ≡ raw.Value v → g.is_deep ≡ true → Here k g b ts []
    → Judged k reading.TooDeep (read_query ts)
end_past k g b ts x v f e p h =
    let d = value_of k (ended h.mode) v (sym e ∙ f h.mode h.stands) in
    let n : k < declared_nest h.declared =
    subst (λ z. AreKept k z g.declared h.declared) p h.kept in
    let a = nest_all h.declared in (
      whole h.declared v,
      (end_reads k g b ts h (Some v) d.is, omega (arith, n, a)),
    )

pub end_value : (k : ℕ) (g : Progress) (b : Before) (ts : List Token) (x : Reading) (v : Raw)
    → Finishes k g.stage x → x ≡ raw.Value v → g.is_deep ≡ false → Here k g b ts []
    → Judged k (reading.Value (record { declared = g.declared; body = v })) (read_query ts)
end_value k g b ts x v f e p h =
    let d = value_of k (ended h.mode) v (sym e ∙ f h.mode h.stands) in
    let n : (g.declared ≡ h.declared) × (declared_nest h.declared ≤ k) =
    subst (λ z. AreKept k z g.declared h.declared) p h.kept in
    let m = d.nests in
    let a : declared_nest g.declared ≡ declared_nest h.declared = ap declared_nest n.0 in
    let c = n.1 in (
      end_reads k g b ts h (Some v) d.is
          ∙ ap (λ z. Some (record { declared = z; body = v }))
          (append-nil h.declared ∙ sym n.0),
      omega (arith, m, a, c),
    )

-- one token more of the text
led : (k : ℕ) (g : Progress) (p : Point) (ts : List Token) (q : RawQuery) (us : List Token)
    (t : Token) (h : Here k g p.before ts (t ∷ us)) → read_query ts ≡ Some q → (b : Bool)
    (r : Point) → Reads b p t r → Reads (wants h.mode) p t r
led k g p ts q us t h e b r x = go (suits h.mode b p t r us h.leads h.lone x)
  where
    go : Suits h.mode p t r us → Reads (wants h.mode) p t r
    go (inr y) = y
    go (inl y) = absurd (none-some q (sym (turned_to k g p.before ts us t h machine.refused y) ∙ e))

-- what may be read where an operand is or is not wanted may be read under this
abbrev pub Wants : ReaderState → Point → Bool → Type 0
Wants s p w = (k : ℕ) (m : Mode) (ts : List Token) → Stands k s m ts → (t : Token) (r : Point)
    → Reads (wants m) p t r → Reads w p t r

led_as : (k : ℕ) (g : Progress) (w : Bool) (p : Point) (ts : List Token) (q : RawQuery)
    (us : List Token) (t : Token) → Wants g.stage p w → Here k g p.before ts (t ∷ us)
    → read_query ts ≡ Some q → (b : Bool) (r : Point) → Reads b p t r → Reads w p t r
led_as k g w p ts q us t f h e b r x =
    f k h.mode (t ∷ us) h.stands t r (led k g p ts q us t h e b r x)

pub stuck : (k : ℕ) (text : List ℕ) (g : Progress) (p : Point) (w : Bool) → Wants g.stage p w
    → Standing k text g p → IsStuck w p → ReadAs text k reading.Nothing
stuck k text g p w f s i q (spelled {ts = ts} a b) =
    let e = spells_reads b in
    let o = s.onward ts q a e in
    go o.tokens o.splits o.here e
  where
    go : {ts : List Token} (us : List Token) → Splits p us → Here k g p.before ts us
        → read_query ts ≡ Some q → ⊥
    go [] (over x) h e = i.not_over x
    go {ts = ts} (t ∷ us) (reads {operand = b} {behind = r} x y) h e =
        i.nothing t r (led_as k g w p ts q us t f h e b r x)

abbrev pub Taken : ℕ → Progress → Token → Second → Option Progress → Type 0
Taken k g t n x =
    (b : Before) (ts us : List Token) → second_of us ≡ n → Here k g b ts (t ∷ us)
    → Takes k x (before_of t) ts us

-- what is left of a text that spells a query
record Left (k : ℕ) (g : Progress) (p r : Point) (t : Token) (ts : List Token) : Type 0 where
  tokens : List Token
  splits : Splits r tokens
  here : Here k g p.before ts (t ∷ tokens)

left : (k : ℕ) (text : List ℕ) (g : Progress) (p r : Point) (w : Bool) (t : Token)
    → Wants g.stage p w → Standing k text g p → Reads w p t r → (ts : List Token) (q : RawQuery)
    → Splits (start text) ts → read_query ts ≡ Some q → Left k g p r t ts
left k text g p r w t f s x ts q a e =
    let o = s.onward ts q a e in go o.tokens o.splits o.here
  where
    go : (us : List Token) → Splits p us → Here k g p.before ts us → Left k g p r t ts
    go [] (over y) h = absurd (reads_ends w p t r x y)
    go (u ∷ us) (reads {operand = b} {behind = v} y z) h =
        let same = reads_one w p u t v r (led_as k g w p ts q us u f h e b v y) x in
        record {
          tokens = us;
          splits = subst (λ i. Splits i us) same.1 z;
          here = subst (λ i. Here k g p.before ts (i ∷ us)) same.0 h;
        }

pub taken_none : (k : ℕ) (text : List ℕ) (g : Progress) (p r : Point) (w : Bool) (t : Token)
    (n : Second) (x : Option Progress) → Wants g.stage p w → Standing k text g p → Reads w p t r
    → ((us : List Token) → Splits r us → n ≡ second_of us) → Taken k g t n x → x ≡ None
    → ReadAs text k reading.Nothing
taken_none k text g p r w t n x f s y z j e q (spelled {ts = ts} a b) =
    let i = spells_reads b in
    let l = left k text g p r w t f s y ts q a i in
    let none : read_query ts ≡ None =
    subst (λ v. Takes k v (before_of t) ts l.tokens) e
    (j p.before ts l.tokens (sym (z l.tokens l.splits)) l.here) in
    none-some q (sym none ∙ i)

pub taken_some : (k : ℕ) (text : List ℕ) (g : Progress) (p r : Point) (w : Bool) (t : Token)
    (n : Second) (x : Option Progress) (v : Progress) → Wants g.stage p w → Standing k text g p
    → Reads w p t r → ((us : List Token) → Splits r us → n ≡ second_of us) → Taken k g t n x
    → x ≡ Some v → Standing k text v r
taken_some k text g p r w t n x v f s y z j e =
    record {
      onward = λ ts q a i.
          (let l = left k text g p r w t f s y ts q a i in
          record { tokens = l.tokens; splits = l.splits; here = here ts l.tokens l.splits l.here });
      back = λ us a.
          (let b = s.back (t ∷ us) (reads y a) in
          record { tokens = b.tokens; splits = b.splits; here = here b.tokens us a b.here });
    }
  where
    here : (ts us : List Token) → Splits r us → Here k g p.before ts (t ∷ us)
        → Here k v r.before ts us
    here ts us a h =
        let i : Here k v (before_of t) ts us =
        subst (λ i. Takes k i (before_of t) ts us) e
        (j p.before ts us (sym (z us a)) h) in
        subst (λ i. Here k v i ts us) (sym (reads_before w p t r y)) i

-- the end of the text
abbrev pub Ending : ℕ → Progress → QueryReading → Type 0
Ending k g x = (b : Before) (ts : List Token) → Here k g b ts [] → Judged k x (read_query ts)

ending_nothing : (k : ℕ) (text : List ℕ) (g : Progress) (p : Point)
    → Standing k text g p → IsEnd p → Ending k g reading.Nothing → (q : RawQuery)
    → SpellsText text q → ⊥
ending_nothing k text g p s i f q (spelled {ts = ts} a b) =
    let e = spells_reads b in
    let o = s.onward ts q a e in
    go o.tokens o.splits o.here e
  where
    go : {ts : List Token} (us : List Token) → Splits p us → Here k g p.before ts us
        → read_query ts ≡ Some q → ⊥
    go {ts = ts} [] y h e = none-some q (sym (f p.before ts h) ∙ e)
    go (t ∷ us) (reads {operand = b} {behind = r} y z) h e = reads_ends b p t r y i

pub ending : (k : ℕ) (text : List ℕ) (g : Progress) (p : Point) (x : QueryReading)
    → Standing k text g p → IsEnd p → Ending k g x → ReadAs text k x
ending k text g p reading.Nothing s i f = λ q a. ending_nothing k text g p s i f q a
ending k text g p reading.TooDeep s i f =
    let b = s.back [] (over i) in
    let j = f p.before b.tokens b.here in
    (j.0, (spelled b.splits (reads_spells j.1.0), j.1.1))
ending k text g p (reading.Value q) s i f =
    let b = s.back [] (over i) in
    let j = f p.before b.tokens b.here in
    (spelled b.splits (reads_spells j.0), j.1)

pub ruleset standings = (take_refused)
