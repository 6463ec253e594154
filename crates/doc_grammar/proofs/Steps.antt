-- Each step keeps the documents that the characters can still complete.
use Rattle.std.proofs.Common.{ℕ, List, ◌∷◌, Some, ◌==◌}
use Rattle.xt_tree.specs.declared.trees.Tree.{Tree}
use Rattle.doc_grammar.specs.Document.{Rules}
use Rattle.doc_grammar.specs.Lexing.{dash}
use Rattle.doc_grammar.specs.Machine.{State, content, refers, tag, bang, question, targeting, marked, forming, naming, tagged, spaced, attribute, equals, assigned, valued, value_refers, slashed, ending, ended, behind_slash, step}
use Rattle.doc_grammar.proofs.Residue.{Inside}
use Rattle.doc_grammar.proofs.Rests.{InTarget}
use Rattle.doc_grammar.proofs.Goes.{Steps, choose, at}
use Rattle.doc_grammar.proofs.ContentSteps.{any_brackets, in_content_steps, reference_steps, marked_steps, form_steps}
use Rattle.doc_grammar.proofs.TargetSteps.{question_on, question_back, target_on, target_back, target_steps}
use Rattle.doc_grammar.proofs.MarkupSteps.{slash_steps, tag_steps, dash_steps, bang_steps}
use Rattle.doc_grammar.proofs.TagSteps.{naming_steps, tagged_steps, slashed_steps, ending_steps, ended_steps}
use Rattle.doc_grammar.proofs.AttributeSteps.{spaced_steps, attribute_steps, equals_steps, assigned_steps, valued_steps, value_reference_steps}
use Rattle.xt_names.specs.Characters.{starts_name, is_name_char}
use Rattle.xt_names.proofs.BoolLemmas.{no}

pub steps : (rules : Rules) (w : Tree) (s : State) (c : ℕ) (ts : List ℕ) → Steps rules w s c ts (step rules s c)
unfolding step
steps rules w (content n text st) c ts =
    choose rules w (Inside rules w n text st (c ∷ ts)) ts (c == 60) _ _
    (λ e. at rules w (Inside rules w n text st) c 60 ts (Some (tag text st)) e ((λ k. any_brackets k), (λ k. any_brackets k)))
    (λ e. in_content_steps rules w n c ts text st e)
steps rules w (refers text r st) c ts = reference_steps rules w text r st c ts
steps rules w (tag text st) c ts =
    choose rules w (Inside rules w 0 text st (60 ∷ c ∷ ts)) ts (c == 47) _ _
    (λ e. at rules w (λ cs. Inside rules w 0 text st (60 ∷ cs)) c 47 ts (behind_slash text st) e (slash_steps rules w ts text st))
    (λ s. choose rules w (Inside rules w 0 text st (60 ∷ c ∷ ts)) ts (c == 33) _ _
    (λ e. at rules w (λ cs. Inside rules w 0 text st (60 ∷ cs)) c 33 ts (Some (bang text st)) e ((λ k. k), (λ k. k)))
    (λ b. choose rules w (Inside rules w 0 text st (60 ∷ c ∷ ts)) ts (c == 63) _ _
    (λ e. at rules w (λ cs. Inside rules w 0 text st (60 ∷ cs)) c 63 ts (Some (question text st)) e ((λ k. k), (λ k. k)))
    (λ q. tag_steps rules w c ts text st s b q)))
steps rules w (bang text st) c ts =
    choose rules w (Inside rules w 0 text st (60 ∷ 33 ∷ c ∷ ts)) ts (c == 45) _ _
    (λ e. at rules w (λ cs. Inside rules w 0 text st (60 ∷ 33 ∷ cs)) c 45 ts (Some (marked dash text st)) e (dash_steps rules w ts text st))
    (λ n. bang_steps rules w c ts text st n)
steps rules w (question text st) c ts =
    choose rules w (Inside rules w 0 text st (60 ∷ 63 ∷ c ∷ ts)) ts (starts_name c) _ _
    (λ s. ((λ k. (question_on k).1), (λ k. question_back s k)))
    (λ s k. no (question_on k).0 s)
steps rules w (targeting read text st) c ts =
    choose rules w (InTarget rules w read text st (c ∷ ts)) ts (is_name_char c) _ _
    (λ p. ((λ k. target_on p k), (λ k. target_back p k)))
    (λ p. target_steps rules w read text st c ts p)
steps rules w (marked l text st) c ts = marked_steps rules w l text st c ts
steps rules w (forming f st) c ts = form_steps rules w f st c ts
steps rules w (naming n st) c ts = naming_steps rules w n st c ts
steps rules w (tagged t st) c ts = tagged_steps rules w t st c ts
steps rules w (spaced t st) c ts = spaced_steps rules w t st c ts
steps rules w (attribute t n st) c ts = attribute_steps rules w t n st c ts
steps rules w (equals t name st) c ts = equals_steps rules w t name st c ts
steps rules w (assigned t name st) c ts = assigned_steps rules w t name st c ts
steps rules w (valued t name quote read st) c ts = valued_steps rules w t name quote read st c ts
steps rules w (value_refers t name quote read r st) c ts = value_reference_steps rules w t name quote read r st c ts
steps rules w (slashed t st) c ts = slashed_steps rules w t st c ts
steps rules w (ending left st) c ts = ending_steps rules w left st c ts
steps rules w (ended st) c ts = ended_steps rules w st c ts
