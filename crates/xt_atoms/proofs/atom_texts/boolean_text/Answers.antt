use Rattle.std.proofs.Common.{◌≡◌, refl, codes}
use Rattle.std.specs.Str.{chars}
use Rattle.xt_atoms.specs.AtomTexts.{boolean_text}
use Rattle.xt_atoms.proofs.atom_texts.boolean_text.Goals as goal

true_word : chars (codes "true") ≡ codes "true"
unfolding chars
true_word = refl

false_word : chars (codes "false") ≡ codes "false"
unfolding chars
false_word = refl

pub returns-then-truth : goal.returns-then-truth
unfolding boolean_text
returns-then-truth c = rw c.if-truth.true true_word

pub returns-else-truth : goal.returns-else-truth
unfolding boolean_text
returns-else-truth c = rw c.if-truth.false false_word
