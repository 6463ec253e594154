-- A derivation without the tokens after what it reads; and a step, read as a whole expression.
use Rattle.std.proofs.Common.{◌≡◌, List, [], ◌∷◌, ◌++◌, Bool, true, false, cond, refl, sym, ap}
use Rattle.std.proofs.Common.{subst, ◌∙◌}
use Rattle.std.proofs.lemmas.Bool.{and_parts}
use Rattle.std.proofs.lemmas.List.Folds.{list_all-append}
use Rattle.expr_terms.specs.Productions.{body, below, operation, repeats}
use Rattle.expr_keys.specs.declared.productions.Language.TheVariants.{Xpath as xpath}
use Rattle.expr_keys.specs.declared.productions.Level.{Level}
use Rattle.expr_keys.specs.declared.productions.Level.TheVariants as level
use Rattle.expr_keys.specs.declared.productions.Nonterminal.{Nonterminal}
use Rattle.expr_keys.specs.declared.productions.Nonterminal.TheVariants as nonterminal
use Rattle.expr_keys.specs.declared.productions.Production.{Production}
use Rattle.expr_keys.specs.declared.productions.Production.TheVariants as production
use Rattle.expr_keys.specs.declared.productions.Symbol.{Symbol}
use Rattle.expr_keys.specs.declared.productions.Symbol.TheVariants.{Tok as tok, One as one}
use Rattle.expr_keys.specs.declared.productions.Symbol.TheVariants.{Maybe as maybe, Many as many}
use Rattle.expr_keys.specs.declared.productions.Symbol.TheVariants.{Longest as longest}
use Rattle.expr_keys.specs.declared.tokens.Token.{Token}
use Rattle.expr_terms.specs.declared.raws.Raw.{Raw}
use Rattle.expr_grammar.specs.Grammar.{Derives, by, Seq, Spells, next_begins}
use Rattle.expr_grammar.specs.Grammar as grammar
use Rattle.sound_expressions.specs.SoundForms.Sound.{is_sound_token, are_sound}

-- what begins with a part that must stand
abbrev is_needed : List Symbol → Bool
is_needed [] = false
is_needed (tok c ∷ ss) = true
is_needed (one n ∷ ss) = true
is_needed (maybe n ∷ ss) = false
is_needed (many n ∷ ss) = false
is_needed (longest n ∷ ss) = false

operation_needed : (l : Level) → is_needed (operation l) ≡ true
operation_needed level.InstanceOf = refl
operation_needed _ = refl

needed : (p : Production) → is_needed (body p) ≡ true
needed (production.OperatorTail l) = operation_needed l
needed _ = refl

front_begins : (n : Nonterminal) (front gone : List Token) → next_begins n (front ++ gone) ≡ false
    → next_begins n front ≡ false
front_begins n [] gone h = refl
front_begins n (t ∷ front) gone h = h

begins_front : (n : Nonterminal) (front gone : List Token) → (front ≡ [] → ⊥)
    → next_begins n (front ++ gone) ≡ true → next_begins n front ≡ true
begins_front n [] gone s h = absurd (s refl)
begins_front n (t ∷ front) gone s h = h

-- of no tokens nothing is read
mutual
  some_read : {n : Nonterminal} {ts rest : List Token} {v : Raw} → Derives xpath n ts v rest
      → ts ≡ [] → ⊥
  some_read (by p o e q) i = some_begun q (needed p) i

  some_begun : {ss : List Symbol} {ts rest : List Token} {vs : List Raw} → Seq xpath ss ts vs rest
      → is_needed ss ≡ true → ts ≡ [] → ⊥
  some_begun grammar.end h i = cc
  some_begun (grammar.taken f q) h i = cc
  some_begun (grammar.next d q) h i = some_read d i
  some_begun (grammar.without q) h i = cc
  some_begun (grammar.with d q) h i = cc
  some_begun (grammar.stop q) h i = cc
  some_begun (grammar.again d q) h i = cc
  some_begun (grammar.bare b q) h i = cc
  some_begun (grammar.given b d q) h i = cc

pub record Cut (n : Nonterminal) (ts : List Token) (v : Raw) (rest gone : List Token)
    : Type 0 where
  pub front : List Token
  pub is : ts ≡ front ++ gone
  pub derived : Derives xpath n front v rest

record CutAll (ss : List Symbol) (ts : List Token) (vs : List Raw) (rest gone : List Token)
    : Type 0 where
  front : List Token
  is : ts ≡ front ++ gone
  derived : Seq xpath ss front vs rest

mutual
  pub cut : {n : Nonterminal} {ts whole : List Token} {v : Raw} → Derives xpath n ts v whole
      → (rest gone : List Token) → whole ≡ rest ++ gone → Cut n ts v rest gone
  cut (by p o e q) rest gone i =
      let c = cut_all q rest gone i in
      record { front = c.front; is = c.is; derived = by p o e c.derived }

  cut_all : {ss : List Symbol} {ts whole : List Token} {vs : List Raw} → Seq xpath ss ts vs whole
      → (rest gone : List Token) → whole ≡ rest ++ gone → CutAll ss ts vs rest gone
  cut_all grammar.end rest gone i = record { front = rest; is = i; derived = grammar.end }
  cut_all (grammar.taken {t = t} f q) rest gone i =
      let c = cut_all q rest gone i in
      record {
        front = t ∷ c.front;
        is = ap (λ ts. t ∷ ts) c.is;
        derived = grammar.taken f c.derived;
      }
  cut_all (grammar.next d q) rest gone i =
      let c = cut_all q rest gone i in
      let b = cut d c.front gone c.is in
      record { front = b.front; is = b.is; derived = grammar.next b.derived c.derived }
  cut_all (grammar.without q) rest gone i =
      let c = cut_all q rest gone i in
      record { front = c.front; is = c.is; derived = grammar.without c.derived }
  cut_all (grammar.with d q) rest gone i =
      let c = cut_all q rest gone i in
      let b = cut d c.front gone c.is in
      record { front = b.front; is = b.is; derived = grammar.with b.derived c.derived }
  cut_all (grammar.stop q) rest gone i =
      let c = cut_all q rest gone i in
      record { front = c.front; is = c.is; derived = grammar.stop c.derived }
  cut_all (grammar.again d q) rest gone i =
      let c = cut_all q rest gone i in
      let b = cut d c.front gone c.is in
      record { front = b.front; is = b.is; derived = grammar.again b.derived c.derived }
  cut_all (grammar.bare {n = n} {ts = ts} h q) rest gone i =
      let c = cut_all q rest gone i in
      let k : next_begins n (c.front ++ gone) ≡ false =
      subst (λ x. next_begins n x ≡ false) c.is h in
      record {
        front = c.front;
        is = c.is;
        derived = grammar.bare (front_begins n c.front gone k) c.derived;
      }
  cut_all (grammar.given {n = n} {ts = ts} h d q) rest gone i =
      let c = cut_all q rest gone i in
      let b = cut d c.front gone c.is in
      let k : next_begins n (b.front ++ gone) ≡ true =
      subst (λ x. next_begins n x ≡ true) b.is h in
      record {
        front = b.front;
        is = b.is;
        derived = grammar.given (begins_front n b.front gone (some_read b.derived) k) b.derived
            c.derived;
      }

-- what is read of sound tokens, and what is left, is sound
pub record Apart (n : Nonterminal) (v : Raw) (rest : List Token) : Type 0 where
  pub front : List Token
  pub derived : Derives xpath n front v []
  pub sound : are_sound front ≡ true
  pub left : are_sound rest ≡ true

pub apart : {n : Nonterminal} {ts rest : List Token} {v : Raw} → Derives xpath n ts v rest
    → are_sound ts ≡ true → Apart n v rest
apart {rest = rest} d h =
    let c = cut d [] rest refl in
    let k = and_parts (are_sound c.front) (are_sound rest)
    (sym (list_all-append is_sound_token c.front rest)
    ∙ subst (λ ts. are_sound ts ≡ true) c.is h) in
    record { front = c.front; derived = c.derived; sound = k.0; left = k.1 }

-- .. and where a token stands first
pub behind_token : (t : Token) (ts : List Token) → are_sound (t ∷ ts) ≡ true
    → are_sound ts ≡ true
behind_token t ts h = (and_parts (is_sound_token t) (are_sound ts) h).1

no_more : (n : Nonterminal) {ts : List Token} (b : Bool)
    → Seq xpath (cond b (many n) (maybe n) ∷ []) ts [] ts
no_more n true = grammar.stop grammar.end
no_more n false = grammar.without grammar.end

one_level : {ts : List Token} {v : Raw} (of : Level) → Derives xpath (below of) ts v []
    → Derives xpath (nonterminal.Level of) ts v []
one_level of d =
    by (production.OperatorChain of) refl refl (grammar.next d (no_more (nonterminal.Tail of) (repeats of)))

step_path : {ts : List Token} {v : Raw} → Derives xpath nonterminal.StepExpr ts v []
    → Derives xpath nonterminal.UnaryExpr ts v []
step_path {ts} {v} d =
    let relative : Derives xpath nonterminal.RelativePathExpr ts v [] =
    by production.Steps refl refl (grammar.next d (grammar.stop grammar.end)) in
    let path : Derives xpath nonterminal.PathExpr ts v [] =
    by production.Unrooted refl refl (grammar.next relative grammar.end) in
    by production.Unsigned refl refl (grammar.next path grammar.end)

unary_single : {ts : List Token} {v : Raw} → Derives xpath nonterminal.UnaryExpr ts v []
    → Derives xpath nonterminal.ExprSingle ts v []
unary_single {ts} {v} d =
    let crosses : Derives xpath (nonterminal.Level level.Intersect) ts v [] =
    one_level level.Intersect (one_level level.InstanceOf (one_level level.Treat
    (one_level level.Castable (one_level level.Cast d)))) in
    let ranges : Derives xpath (nonterminal.Level level.Range) ts v [] =
    one_level level.Range (one_level level.Additive (one_level level.Multiplicative
    (one_level level.Union crosses))) in
    let ors : Derives xpath (nonterminal.Level level.Or) ts v [] =
    one_level level.Or (one_level level.And (one_level level.Comparison ranges)) in
    by production.OperatorExpr refl refl (grammar.next ors grammar.end)

-- a step alone is an expression
pub step_spelled : {ts : List Token} {v : Raw} → Derives xpath nonterminal.StepExpr ts v []
    → Spells xpath ts v
step_spelled {ts} {v} d =
    let listed : Derives xpath nonterminal.Expr ts v [] =
    by production.ExprList refl refl (grammar.next (unary_single (step_path d))
    (grammar.stop grammar.end)) in
    by production.WholeExpr refl refl (grammar.next listed grammar.end)
