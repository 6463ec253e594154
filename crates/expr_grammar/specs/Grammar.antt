-- The grammar of XPath expressions and of the expressions of queries: the relation that the table of productions gives.
use Rattle.std.specs.Prelude.{◌≡◌, Bool, true, false, List, [], ◌∷◌}
use Rattle.expr_grammar.specs.TokenNames.{Token}
use Rattle.expr_keys.specs.Classes.{fits, begins}
use Rattle.expr_terms.specs.Productions.{body, head, speaks}
use Rattle.expr_grammar.specs.Terms.{Language, Nonterminal, whole, whole_type, Class, Symbol, tok, one, maybe, many, longest, Production}
use Rattle.expr_grammar.specs.RawNames.{Raw}
use Rattle.expr_terms.specs.Raws.{keep, build}

abbrev pub next_begins : Nonterminal → List Token → Bool
next_begins n [] = false
next_begins n (t ∷ ts) = begins n t

mutual
  pub data Derives (l : Language) : Nonterminal → List Token → Raw → List Token → Type 0 where
    by : {n : Nonterminal} (p : Production) {ts rest : List Token} {vs : List Raw} → speaks l p ≡ true → head p ≡ n → Seq l (body p) ts vs rest → Derives l n ts (build p vs) rest

  -- the parts of a production, one after the other
  pub data Seq (l : Language) : List Symbol → List Token → List Raw → List Token → Type 0 where
    end : {ts : List Token} → Seq l [] ts [] ts
    taken : {c : Class} {ss : List Symbol} {t : Token} {ts rest : List Token} {vs : List Raw} → fits c t ≡ true → Seq l ss ts vs rest → Seq l (tok c ∷ ss) (t ∷ ts) (keep c t vs) rest
    next : {n : Nonterminal} {ss : List Symbol} {ts mid rest : List Token} {v : Raw} {vs : List Raw} → Derives l n ts v mid → Seq l ss mid vs rest → Seq l (one n ∷ ss) ts (v ∷ vs) rest
    without : {n : Nonterminal} {ss : List Symbol} {ts rest : List Token} {vs : List Raw} → Seq l ss ts vs rest → Seq l (maybe n ∷ ss) ts vs rest
    with : {n : Nonterminal} {ss : List Symbol} {ts mid rest : List Token} {v : Raw} {vs : List Raw} → Derives l n ts v mid → Seq l ss mid vs rest → Seq l (maybe n ∷ ss) ts (v ∷ vs) rest
    stop : {n : Nonterminal} {ss : List Symbol} {ts rest : List Token} {vs : List Raw} → Seq l ss ts vs rest → Seq l (many n ∷ ss) ts vs rest
    again : {n : Nonterminal} {ss : List Symbol} {ts mid rest : List Token} {v : Raw} {vs : List Raw} → Derives l n ts v mid → Seq l (many n ∷ ss) mid vs rest → Seq l (many n ∷ ss) ts (v ∷ vs) rest
    bare : {n : Nonterminal} {ss : List Symbol} {ts rest : List Token} {vs : List Raw} → next_begins n ts ≡ false → Seq l ss ts vs rest → Seq l (longest n ∷ ss) ts vs rest
    given : {n : Nonterminal} {ss : List Symbol} {ts mid rest : List Token} {v : Raw} {vs : List Raw} → next_begins n ts ≡ true → Derives l n ts v mid → Seq l ss mid vs rest → Seq l (longest n ∷ ss) ts (v ∷ vs) rest

-- all of the tokens spell the value, as an expression
abbrev pub Spells : Language → List Token → Raw → Type 0
Spells l ts v = Derives l whole ts v []

-- .. and as a sequence type
abbrev pub SpellsType : Language → List Token → Raw → Type 0
SpellsType l ts v = Derives l whole_type ts v []
