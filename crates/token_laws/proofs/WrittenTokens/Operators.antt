-- The tokens of operators, lists and conditionals can be written.
use Rattle.std.proofs.Common.{◌≡◌, List, [], ◌∷◌, Bool, true, false, ◌&&◌, cond, refl}
use Rattle.expr_keys.specs.declared.keys.Key.{Key}
use Rattle.expr_keys.specs.declared.keys.Key.TheVariants as key
use Rattle.expr_keys.specs.declared.tokens.Token.{Token}
use Rattle.expr_keys.specs.declared.tokens.Token.TheVariants as token
use Rattle.expr_keys.specs.declared.productions.Level.{Level}
use Rattle.expr_keys.specs.declared.productions.Level.TheVariants as level
use Rattle.expr_keys.specs.declared.productions.Production.TheVariants as production
use Rattle.expr_terms.specs.declared.raws.Raw.{Raw}
use Rattle.expr_terms.specs.declared.raws.Raw.TheViews.{out-Raw}
use Rattle.query_pieces.specs.declared.contexts.Change.TheVariants as change
use Rattle.query_pieces.specs.Points.{change_of_key}
use Rattle.expr_raws.specs.PathRaws.Forms.{Form, below, single, list, signs, said, parenthesized}
use Rattle.expr_raws.specs.ControlRaws.Operators.{once, is_mark, chain_parts, front_tokens, operand_tokens}
use Rattle.expr_raws.specs.ControlRaws.Operators.{left, tails, many, listed, signed, ArmForm, arms_tokens}
use Rattle.expr_raws.specs.ControlRaws.Operators.{conditional}
use Rattle.expr_raws.specs.ControlRaws.Types.{type_words, of_type}
use Rattle.token_laws.proofs.WrittenTokens.Says.{Says, key_says, paren_says, said_says, AllSay, all_says}
use Rattle.token_laws.proofs.WrittenTokens.Says.{Written, plain}

pub once_written : (l : Level) (k : Key) → change_of_key k ≡ change.Stays → (a b : Form)
    → Says a.tokens → Says b.tokens → Written (once l k a b)
once_written l k e a b sa sb = plain _ (production.OperatorChain l) _ refl refl (λ cs i rest g h.
    said_says (below l) a sa cs i _ g (λ x. key_says k e cs i _ x
    (λ y. said_says (below l) b sb cs i rest y h)))

front_says : (us : List Raw) (l : Level) (a : Form) → Says a.tokens
    → Says (λ rest. front_tokens us l a rest)
front_says [] l a s cs i rest g h = said_says (below l) a s cs i rest g h
front_says (u ∷ us) l a s cs i rest g h = s cs i rest g h

operand_says : (l : Level) (k : Key) (a : Form) → Says a.tokens
    → Says (λ rest. operand_tokens l k a rest)
operand_says l k a s = go (is_mark k && a.unmarked)
  where
    go : (b : Bool) → Says (λ rest. cond b (parenthesized a rest)
        (front_tokens (chain_parts l (out-Raw a.raw)) l a rest))
    go true = paren_says a s
    go false = front_says (chain_parts l (out-Raw a.raw)) l a s

pub left_written : (l : Level) (k : Key) → change_of_key k ≡ change.Stays → (a b : Form)
    → Says a.tokens → Says b.tokens → Written (left l k a b)
left_written l k e a b sa sb = plain _ (production.OperatorChain l) _ refl refl (λ cs i rest g h.
    operand_says l k a sa cs i _ g (λ x. key_says k e cs i _ x
    (λ y. said_says (below l) b sb cs i rest y h)))

tails_say : (l : Level) (k : Key) → change_of_key k ≡ change.Stays → (fs : List Form)
    → AllSay fs → Says (λ rest. tails l k fs rest)
tails_say l k e [] s cs i rest g h = h g
tails_say l k e (f ∷ fs) s cs i rest g h = key_says k e cs i _ g
    (λ x. said_says (below l) f s.0 cs i _ x (λ y. tails_say l k e fs s.1 cs i rest y h))

pub many_written : (l : Level) (k : Key) → change_of_key k ≡ change.Stays → (fs : List Form)
    → AllSay fs → (many l k fs).can ≡ true → Written (many l k fs)
many_written l k e [] s c = absurd (cc)
many_written l k e (a ∷ []) s c = absurd (cc)
many_written l k e (a ∷ b ∷ fs) s c = plain _ (production.OperatorChain l) _ refl refl
    (λ cs i rest g h. said_says (below l) a s.0 cs i _ g
    (λ x. tails_say l k e (b ∷ fs) s.1 cs i rest x h))

pub listed_written : (fs : List Form) → AllSay fs → (listed fs).can ≡ true → Written (listed fs)
listed_written [] s c = plain _ production.Parens _ refl refl (λ cs i rest g h.
    key_says key.OpenParen refl cs i (token.Key key.CloseParen ∷ rest) g
    (λ x. key_says key.CloseParen refl cs i rest x h))
listed_written (a ∷ []) s c = absurd (cc)
listed_written (a ∷ b ∷ fs) s c =
    plain _ production.ExprList _ refl refl (all_says single (a ∷ b ∷ fs) s)

pub signed_written : (k : Key) → change_of_key k ≡ change.Stays → (a : Form) → Says a.tokens
    → Written (signed k a)
signed_written k e a s = plain _ production.Signed _ refl refl (λ cs i rest g h.
    key_says k e cs i _ g (λ x. said_says signs a s cs i rest x h))

words_say : (l : Level) → Says (λ rest. type_words l rest)
words_say level.InstanceOf cs i rest g h = key_says key.InstanceWord refl cs i
    (token.Key key.OfWord ∷ rest) g
    (λ x. key_says key.OfWord refl cs i rest x h)
words_say level.Treat cs i rest g h = key_says key.TreatWord refl cs i (token.Key key.AsWord
    ∷ rest) g
    (λ x. key_says key.AsWord refl cs i rest x h)
words_say level.Castable cs i rest g h = key_says key.CastableWord refl cs i
    (token.Key key.AsWord ∷ rest) g
    (λ x. key_says key.AsWord refl cs i rest x h)
words_say _ cs i rest g h = key_says key.CastWord refl cs i (token.Key key.AsWord ∷ rest) g
    (λ x. key_says key.AsWord refl cs i rest x h)

pub typed_written : (l : Level) (a t : Form) → Says a.tokens → Says t.tokens
    → Written (of_type l a t)
typed_written l a t sa st = plain _ (production.OperatorChain l) _ refl refl (λ cs i rest g h.
    said_says (below l) a sa cs i _ g (λ x. words_say l cs i _ x
    (λ y. st cs i rest y h)))

abbrev pub AllArms : List ArmForm → Type 0
AllArms [] = Unit {0}
AllArms (a ∷ arms) = (Says a.test.tokens × Says a.first.tokens) × AllArms arms

arms_say : (arms : List ArmForm) → AllArms arms → Says (λ rest. arms_tokens arms rest)
arms_say [] s cs i rest g h = h g
arms_say (a ∷ arms) s cs i rest g h =
    let more : List Token = arms_tokens arms rest in
    let then : List Token = said single a.first (token.Key key.ElseWord ∷ more) in
    let test : List Token = said list a.test
    (token.Key key.CloseParen ∷ token.Key key.ThenWord ∷ then) in
    key_says key.IfWord refl cs i (token.Key key.OpenParen ∷ test) g
    (λ x. key_says key.OpenParen refl cs i test x
    (λ y. said_says list a.test s.0.0 cs i
    (token.Key key.CloseParen ∷ token.Key key.ThenWord ∷ then) y
    (λ z. key_says key.CloseParen refl cs i (token.Key key.ThenWord ∷ then) z
    (λ u. key_says key.ThenWord refl cs i then u
    (λ v. said_says single a.first s.0.1 cs i (token.Key key.ElseWord ∷ more) v
    (λ w. key_says key.ElseWord refl cs i more w (λ q. arms_say arms s.1 cs i rest q h)))))))

pub conditional_written : (arms : List ArmForm) (e : Form) → AllArms arms → Says e.tokens
    → Written (conditional arms e)
conditional_written arms e s t = plain _ production.IfExpr _ refl refl (λ cs i rest g h.
    arms_say arms s cs i _ g (λ x. said_says single e t cs i rest x h))
