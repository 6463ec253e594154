use Rattle.std.proofs.Common.{[], refl}
use Rattle.xt_tree.specs.declared.trees.Tree.TheVariants.{Pi}
use Rattle.doc_grammar.specs.Lexing.{target_mark}
use Rattle.xml_source.proofs.AsideLemmas.{closes, target_mark_then, target_stops, target_space_then, target_text}
use Rattle.xml_source.proofs.sources.Source.instruction.Goals as goal

pub returns-then-eat-clause-reads : goal.returns-then-eat-clause-reads
returns-then-eat-clause-reads c = λ target. rw c.requires (closes 62 (target_mark target) (Pi target []) (λ d. refl) c.eat-then-eat.result c.eat.new.self c.eat-then-eat.new.self (target_mark_then target c.if-eat.ensures) c.eat-then-eat.ensures)

pub returns-then-not-spaces-clause-reads : goal.returns-then-not-spaces-clause-reads
returns-then-not-spaces-clause-reads c = λ target. target_stops _ target c.if-eat.ensures c.if-not-spaces.ensures.spaces c.if-not-spaces.ensures.ends

pub returns-clause-reads : goal.returns-clause-reads
returns-clause-reads c = target_text _ c.instruction_text.result c.args.self.now c.spaces.new.self c.args.text.now c.instruction_text.new.text c.instruction_text.new.self (λ target. target_space_then target c.if-eat.ensures.0 c.if-not-spaces.ensures.spaces c.if-not-spaces.ensures.ends c.requires) c.instruction_text.ensures.reads
