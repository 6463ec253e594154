-- The tokens of paths, types, operators and conditionals end.
use Rattle.std.proofs.Common.{◌≡◌, List, [], ◌∷◌, Bool, true, false, ◌&&◌, cond, not, refl}
use Rattle.std.proofs.Common.{◌∙◌, ap, Some, None, is_some}
use Rattle.std.proofs.lemmas.Bool.{and_parts}
use Rattle.xt_names.specs.declared.names.ExprName.{ExprName}
use Rattle.xt_names.specs.declared.kinds.AtomType.{AtomType}
use Rattle.xt_types.specs.declared.axes.Axis.{Axis}
use Rattle.xt_types.specs.declared.axes.Axis.TheVariants as axis
use Rattle.xt_types.specs.declared.node_tests.Test.{Test}
use Rattle.xt_types.specs.declared.node_tests.Test.TheVariants as test
use Rattle.xt_types.specs.declared.types.Count.{Count}
use Rattle.xt_types.specs.declared.types.Count.TheVariants as count
use Rattle.xt_types.specs.declared.types.ItemType.{ItemType}
use Rattle.xt_types.specs.declared.types.ItemType.TheVariants as item
use Rattle.xt_types.specs.declared.types.SeqType.{SeqType}
use Rattle.xt_types.specs.declared.types.SeqType.TheVariants as sequence
use Rattle.xt_syntax.specs.declared.prefixes.Prefixes.{Prefixes}
use Rattle.expr_names.specs.Types.{type_named, call_type}
use Rattle.expr_keys.specs.declared.keys.Key.{Key}
use Rattle.expr_keys.specs.declared.keys.Key.TheVariants as key
use Rattle.expr_keys.specs.declared.tokens.Token.{Token}
use Rattle.expr_keys.specs.declared.tokens.Token.TheVariants as token
use Rattle.expr_keys.specs.declared.productions.Class.TheVariants as class
use Rattle.expr_keys.specs.declared.productions.Level.{Level}
use Rattle.expr_keys.specs.declared.productions.Level.TheVariants as level
use Rattle.expr_terms.specs.declared.raws.Raw.{Raw}
use Rattle.expr_terms.specs.declared.raws.Raw.TheViews.{out-Raw}
use Rattle.expr_raws.specs.PathRaws.Forms.{Form, primary, step, single, list, signs, below, said}
use Rattle.expr_raws.specs.PathRaws.Forms.{parenthesized, all_said, all_can}
use Rattle.expr_raws.specs.PathRaws.Names.{name_token, function_token, test_token}
use Rattle.expr_raws.specs.PathRaws.Paths.{variable_with, variable, call_with, call, leaf_test, axis_key}
use Rattle.expr_raws.specs.PathRaws.Paths.{named_test, test_form, predicates, stepped, Start, behind}
use Rattle.expr_raws.specs.PathRaws.Paths.{from_root, root, alone, start_of, slash_tokens, slashed}
use Rattle.expr_raws.specs.PathRaws.Paths.{with_token, filtered}
use Rattle.expr_raws.specs.ControlRaws.Operators.{once, is_mark, chain_parts, front_tokens, operand_tokens}
use Rattle.expr_raws.specs.ControlRaws.Operators.{left, tails, many, listed, signed, ArmForm, arms_tokens}
use Rattle.expr_raws.specs.ControlRaws.Operators.{has_arms, conditional}
use Rattle.expr_raws.specs.ControlRaws.Types.{type_token, kind_form, item_form, mark_tokens, sequence_form}
use Rattle.expr_raws.specs.ControlRaws.Types.{single_with, single_form, type_words, of_type}
use Rattle.token_laws.proofs.EndedTokens.Ends.{Ends, Fills, Ended, both, said_ends}
use Rattle.token_laws.proofs.EndedTokens.Ends.{said_fills, AllEnd, all_end, found}

predicates_end : (fs : List Form) → AllEnd fs → Ends (λ rest. predicates fs rest)
predicates_end [] a ts rest = refl
predicates_end (f ∷ fs) a ts rest =
    ap (λ x. token.Key key.OpenBracket ∷ said list f (token.Key key.CloseBracket ∷ x))
    (predicates_end fs a.1 ts rest)
    ∙ ap (λ x. token.Key key.OpenBracket ∷ x)
    (said_ends list f a.0.ends (token.Key key.CloseBracket ∷ predicates fs ts) rest)

pub variable_ends : (p : Prefixes) (n : ExprName) → (variable p n).can ≡ true
    → Ended (variable p n)
variable_ends p n = found Ended (name_token p.bound [] n) variable_with
    (λ t c. record { ends = λ ts rest. refl; fills = λ ts. refl })

-- the name of a variable
pub name_ends : (p : Prefixes) (n : ExprName)
    → (with_token (name_token p.bound [] n) leaf_test).can ≡ true
    → Ended (with_token (name_token p.bound [] n) leaf_test)
name_ends p n = found Ended (name_token p.bound [] n) leaf_test
    (λ t c. record { ends = λ ts rest. refl; fills = λ ts. refl })

pub call_ends : (p : Prefixes) (n : ExprName) (fs : List Form) → (all_can fs ≡ true → AllEnd fs)
    → (call p n fs).can ≡ true → Ended (call p n fs)
call_ends p n fs a = found Ended (function_token p.bound p.function_default n) (call_with n fs)
    (λ t c. record {
      ends = λ ts rest. ap (λ x. t ∷ token.Key key.OpenParen ∷ x)
          (all_end single fs (a (and_parts (not (is_some (call_type (type_named n)))) (all_can fs)
          c).1) (token.Key key.CloseParen ∷ ts) rest);
      fills = λ ts. refl;
    })

test_ends : (p : Prefixes) (on : Axis) (t : Test) → (test_form p on t).can ≡ true
    → Ended (test_form p on t)
test_ends p on (test.Named n) = found Ended
    (test_token class.NameTest p.bound p.element_default on n) leaf_test
    (λ t c. record { ends = λ ts rest. refl; fills = λ ts. refl })
test_ends p on test.Node = λ c. record { ends = λ ts rest. refl; fills = λ ts. refl }
test_ends p on test.Text = λ c. record { ends = λ ts rest. refl; fills = λ ts. refl }
test_ends p on test.Comment = λ c. record { ends = λ ts rest. refl; fills = λ ts. refl }
test_ends p on test.Doc = λ c. record { ends = λ ts rest. refl; fills = λ ts. refl }
test_ends p on (test.Pi None) = λ c. record { ends = λ ts rest. refl; fills = λ ts. refl }
test_ends p on (test.Pi (Some cs)) =
    λ c. record { ends = λ ts rest. refl; fills = λ ts. refl }
test_ends p on (test.Elem n) = found Ended
    (test_token class.NameOrStar p.bound p.element_default axis.Child n)
    (named_test key.ElementWord) (λ t c. record { ends = λ ts rest. refl; fills = λ ts. refl })
test_ends p on (test.Attr n) = found Ended
    (test_token class.NameOrStar p.bound p.element_default axis.Attribute n)
    (named_test key.AttributeWord) (λ t c. record { ends = λ ts rest. refl; fills = λ ts. refl })

pub step_ends : (p : Prefixes) (on : Axis) (t : Test) (fs : List Form)
    → (all_can fs ≡ true → AllEnd fs) → (stepped p on t fs).can ≡ true → Ended (stepped p on t fs)
step_ends p on t fs a c =
    let k = and_parts (test_form p on t).can (all_can fs) c in
    record {
      ends = λ ts rest. ap (λ x. token.Key (axis_key on) ∷ token.Key key.Colons ∷ x)
          (both (test_form p on t).tokens (λ r. predicates fs r) (test_ends p on t k.0).ends
          (predicates_end fs (a k.1)) ts rest);
      fills = λ ts. refl;
    }

pub filter_ends : (a : Form) (fs : List Form) → (a.can ≡ true → Ended a)
    → (all_can fs ≡ true → AllEnd fs) → (filtered a fs).can ≡ true → Ended (filtered a fs)
filter_ends a [] sa s c = absurd (cc)
filter_ends a (f ∷ fs) sa s c =
    let k = and_parts a.can (all_can (f ∷ fs)) c in
    record {
      ends = both (λ r. said primary a r) (λ r. predicates (f ∷ fs) r)
          (said_ends primary a (sa k.0).ends) (predicates_end (f ∷ fs) (s k.1));
      fills = λ ts. said_fills primary a (sa k.0).fills (predicates (f ∷ fs) ts);
    }

slash_ends : (s : Start) (a b : Form) → Ended a → Ended b → Ends (λ rest. slash_tokens s a b rest)
slash_ends root a b sa sb ts rest =
    ap (λ x. token.Key key.Slash ∷ x) (said_ends step b sb.ends ts rest)
slash_ends alone a b sa sb ts rest =
    ap (λ x. said step a (token.Key key.Slash ∷ x)) (said_ends step b sb.ends ts rest)
    ∙ said_ends step a sa.ends (token.Key key.Slash ∷ said step b ts) rest
slash_ends (behind vs) a b sa sb ts rest =
    ap (λ x. a.tokens (token.Key key.Slash ∷ x)) (said_ends step b sb.ends ts rest)
    ∙ sa.ends (token.Key key.Slash ∷ said step b ts) rest
slash_ends (from_root vs) a b sa sb ts rest =
    ap (λ x. a.tokens (token.Key key.Slash ∷ x)) (said_ends step b sb.ends ts rest)
    ∙ sa.ends (token.Key key.Slash ∷ said step b ts) rest

slash_fills : (s : Start) (a b : Form) → Ended a → Fills (λ rest. slash_tokens s a b rest)
slash_fills root a b sa ts = refl
slash_fills alone a b sa ts = said_fills step a sa.fills (token.Key key.Slash ∷ said step b ts)
slash_fills (behind vs) a b sa ts = sa.fills (token.Key key.Slash ∷ said step b ts)
slash_fills (from_root vs) a b sa ts = sa.fills (token.Key key.Slash ∷ said step b ts)

pub slashed_ends : (a b : Form) → Ended a → Ended b → Ended (slashed a b)
slashed_ends a b sa sb = record {
  ends = slash_ends (start_of (out-Raw a.raw)) a b sa sb;
  fills = slash_fills (start_of (out-Raw a.raw)) a b sa;
}

-- types

kind_ends : (p : Prefixes) (t : Test) → (kind_form p t).can ≡ true → Ended (kind_form p t)
kind_ends p (test.Named n) c = absurd (cc)
kind_ends p test.Node c = test_ends p axis.Child test.Node c
kind_ends p test.Text c = test_ends p axis.Child test.Text c
kind_ends p test.Comment c = test_ends p axis.Child test.Comment c
kind_ends p test.Doc c = test_ends p axis.Child test.Doc c
kind_ends p (test.Pi o) c = test_ends p axis.Child (test.Pi o) c
kind_ends p (test.Elem n) c = test_ends p axis.Child (test.Elem n) c
kind_ends p (test.Attr n) c = test_ends p axis.Child (test.Attr n) c

item_ends : (p : Prefixes) (i : ItemType) → (item_form p i).can ≡ true → Ended (item_form p i)
item_ends p item.Any c = record { ends = λ ts rest. refl; fills = λ ts. refl }
item_ends p (item.Kind t) c = kind_ends p t c
item_ends p (item.Atomic k) c = found Ended (type_token p.bound k) leaf_test
    (λ t h. record { ends = λ ts rest. refl; fills = λ ts. refl }) c

mark_ends : (c : Count) → Ends (λ rest. mark_tokens c rest)
mark_ends count.One ts rest = refl
mark_ends count.Opt ts rest = refl
mark_ends count.Many ts rest = refl
mark_ends count.More ts rest = refl

pub sequence_ends : (p : Prefixes) (t : SeqType) → (sequence_form p t).can ≡ true
    → Ended (sequence_form p t)
sequence_ends p sequence.Empty c = record { ends = λ ts rest. refl; fills = λ ts. refl }
sequence_ends p (sequence.Of i n) c =
    let h = item_ends p i c in
    record {
      ends = both (item_form p i).tokens (λ r. mark_tokens n r) h.ends (mark_ends n);
      fills = λ ts. h.fills (mark_tokens n ts);
    }

single_with_ends : (b : Bool) (t : Token) → Ended (single_with b t)
single_with_ends true t = record { ends = λ ts rest. refl; fills = λ ts. refl }
single_with_ends false t = record { ends = λ ts rest. refl; fills = λ ts. refl }

pub single_ends : (p : Prefixes) (k : AtomType) (b : Bool) → (single_form p k b).can ≡ true
    → Ended (single_form p k b)
single_ends p k b = found Ended (type_token p.bound k) (single_with b)
    (λ t h. single_with_ends b t)

-- operators

pub once_ends : (l : Level) (k : Key) (a b : Form) → Ended a → Ended b → Ended (once l k a b)
once_ends l k a b sa sb = record {
  ends = λ ts rest. ap (λ x. said (below l) a (token.Key k ∷ x)) (said_ends (below l) b sb.ends ts
      rest) ∙ said_ends (below l) a sa.ends (token.Key k ∷ said (below l) b ts) rest;
  fills = λ ts. said_fills (below l) a sa.fills (token.Key k ∷ said (below l) b ts);
}

front_ends : (us : List Raw) (l : Level) (a : Form) → Ended a
    → Ends (λ rest. front_tokens us l a rest)
front_ends [] l a s = said_ends (below l) a s.ends
front_ends (u ∷ us) l a s = s.ends

front_fills : (us : List Raw) (l : Level) (a : Form) → Ended a
    → Fills (λ rest. front_tokens us l a rest)
front_fills [] l a s = said_fills (below l) a s.fills
front_fills (u ∷ us) l a s = s.fills

operand_ends : (l : Level) (k : Key) (a : Form) → Ended a
    → Ends (λ rest. operand_tokens l k a rest)
operand_ends l k a s = go (is_mark k && a.unmarked)
  where
    go : (b : Bool) → Ends (λ rest. cond b (parenthesized a rest)
        (front_tokens (chain_parts l (out-Raw a.raw)) l a rest))
    go true ts rest =
        ap (λ x. token.Key key.OpenParen ∷ x) (s.ends (token.Key key.CloseParen ∷ ts) rest)
    go false ts rest = front_ends (chain_parts l (out-Raw a.raw)) l a s ts rest

operand_fills : (l : Level) (k : Key) (a : Form) → Ended a
    → Fills (λ rest. operand_tokens l k a rest)
operand_fills l k a s = go (is_mark k && a.unmarked)
  where
    go : (b : Bool) → Fills (λ rest. cond b (parenthesized a rest)
        (front_tokens (chain_parts l (out-Raw a.raw)) l a rest))
    go true ts = refl
    go false ts = front_fills (chain_parts l (out-Raw a.raw)) l a s ts

pub left_ends : (l : Level) (k : Key) (a b : Form) → Ended a → Ended b → Ended (left l k a b)
left_ends l k a b sa sb = record {
  ends = λ ts rest. ap (λ x. operand_tokens l k a (token.Key k ∷ x))
      (said_ends (below l) b sb.ends ts rest)
      ∙ operand_ends l k a sa (token.Key k ∷ said (below l) b ts) rest;
  fills = λ ts. operand_fills l k a sa (token.Key k ∷ said (below l) b ts);
}

tails_end : (l : Level) (k : Key) (fs : List Form) → AllEnd fs → Ends (λ rest. tails l k fs rest)
tails_end l k [] s ts rest = refl
tails_end l k (f ∷ fs) s ts rest =
    ap (λ x. token.Key k ∷ said (below l) f x) (tails_end l k fs s.1 ts rest)
    ∙ ap (λ x. token.Key k ∷ x) (said_ends (below l) f s.0.ends (tails l k fs ts) rest)

pub many_end : (l : Level) (k : Key) (fs : List Form) → AllEnd fs → (many l k fs).can ≡ true
    → Ended (many l k fs)
many_end l k [] s c = absurd (cc)
many_end l k (a ∷ []) s c = absurd (cc)
many_end l k (a ∷ b ∷ fs) s c = record {
  ends = both (λ r. said (below l) a r) (λ r. tails l k (b ∷ fs) r)
      (said_ends (below l) a s.0.ends) (tails_end l k (b ∷ fs) s.1);
  fills = λ ts. said_fills (below l) a s.0.fills (tails l k (b ∷ fs) ts);
}

pub listed_ends : (fs : List Form) → AllEnd fs → (listed fs).can ≡ true → Ended (listed fs)
listed_ends [] s c = record { ends = λ ts rest. refl; fills = λ ts. refl }
listed_ends (a ∷ []) s c = absurd (cc)
listed_ends (a ∷ b ∷ fs) s c = record {
  ends = all_end single (a ∷ b ∷ fs) s;
  fills = λ ts. said_fills single a s.0.fills (token.Key key.Comma ∷ all_said single (b ∷ fs) ts);
}

pub signed_ends : (k : Key) (a : Form) → Ended a → Ended (signed k a)
signed_ends k a s = record {
  ends = λ ts rest. ap (λ x. token.Key k ∷ x) (said_ends signs a s.ends ts rest);
  fills = λ ts. refl;
}

words_end : (l : Level) → Ends (λ rest. type_words l rest)
words_end level.InstanceOf ts rest = refl
words_end level.Treat ts rest = refl
words_end level.Castable ts rest = refl
words_end _ ts rest = refl

pub typed_ends : (l : Level) (a t : Form) → Ended a → Ended t → Ended (of_type l a t)
typed_ends l a t sa st = record {
  ends = both (λ r. said (below l) a r) (λ r. type_words l (t.tokens r))
      (said_ends (below l) a sa.ends)
      (both (λ r. type_words l r) t.tokens (words_end l) st.ends);
  fills = λ ts. said_fills (below l) a sa.fills (type_words l (t.tokens ts));
}

abbrev pub AllArms : List ArmForm → Type 0
AllArms [] = Unit {0}
AllArms (a ∷ arms) = (Ended a.test × Ended a.first) × AllArms arms

abbrev behind_test : ArmForm → List Token → List Token
behind_test a x = token.Key key.CloseParen ∷ token.Key key.ThenWord
    ∷ said single a.first (token.Key key.ElseWord ∷ x)

test_behind : (a : ArmForm) → Ended a.first → Ends (λ rest. behind_test a rest)
test_behind a s ts rest = ap (λ x. token.Key key.CloseParen ∷ token.Key key.ThenWord ∷ x)
    (said_ends single a.first s.ends (token.Key key.ElseWord ∷ ts) rest)

arms_end : (arms : List ArmForm) → AllArms arms → Ends (λ rest. arms_tokens arms rest)
arms_end [] s ts rest = refl
arms_end (a ∷ arms) s ts rest =
    ap (λ x. token.Key key.IfWord ∷ token.Key key.OpenParen ∷ x)
    (ap (λ x. said list a.test (behind_test a x)) (arms_end arms s.1 ts rest)
    ∙ both (λ r. said list a.test r) (λ r. behind_test a r) (said_ends list a.test s.0.0.ends)
    (test_behind a s.0.1) (arms_tokens arms ts) rest)

arms_fill : (arms : List ArmForm) → has_arms arms ≡ true → Fills (λ rest. arms_tokens arms rest)
arms_fill [] c ts = absurd (cc)
arms_fill (a ∷ arms) c ts = refl

pub conditional_ends : (arms : List ArmForm) (e : Form) → has_arms arms ≡ true → AllArms arms
    → Ended e → Ended (conditional arms e)
conditional_ends arms e h s t = record {
  ends = both (λ r. arms_tokens arms r) (λ r. said single e r) (arms_end arms s)
      (said_ends single e t.ends);
  fills = λ ts. arms_fill arms h (said single e ts);
}
