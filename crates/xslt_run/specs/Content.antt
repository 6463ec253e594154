-- The content of an element or a document while it is made.
use Rattle.std.specs.Prelude.{ℕ, List, [], ◌∷◌, ◌++◌, if◌then◌else◌}
use Rattle.xt_names.specs.declared.names.Name.{Name}
use Rattle.xt_tree.specs.declared.trees.Tree.{Tree}
use Rattle.xt_tree.specs.declared.trees.Tree.TheVariants.{Doc, Elem, Text, Comment, Pi, Attr}
use Rattle.xt_tree.specs.Forest.{Forest}
use Rattle.xt_tree.specs.White.{is_white_text}
use Rattle.sheet_meaning.specs.Meaning.{Calls, applied, constructed, listed, element_of}
use Rattle.sheet_meaning.specs.Outcome.{Outcome, Ends, and_then}
use Rattle.xslt_run.specs.declared.contents.Content.{Content}
use Rattle.xslt_run.specs.declared.contents.Pending.{Pending}
use Rattle.xslt_run.specs.declared.contents.Pending.TheVariants.{Nothing, Shared, Joined}
use Rattle.xt_names.specs.Names.{is_in_xslt}

-- the trees that are done, and the text after them to which more may come
pub record Built : Type 0 where
  pub done : List Tree
  pub pending : List ℕ

abbrev pub pending_text : Pending → List ℕ
pending_text Nothing = []
pending_text (Shared t) = t
pending_text (Joined t) = t

abbrev pub built : Content → Built
built content = record { done = content.done; pending = pending_text content.pending }

abbrev pub empty : Built
empty = record { done = []; pending = [] }

-- the text as a node, unless it is empty
abbrev pub flushed : List ℕ → List Tree
flushed [] = []
flushed (c ∷ cs) = Text (c ∷ cs) ∷ []

-- the whole content
abbrev pub all_of : Built → List Tree
all_of b = b.done ++ flushed b.pending

abbrev pub with_text : Built → List ℕ → Built
with_text b t = record { done = b.done; pending = b.pending ++ t }

abbrev pub with_tree : Built → Tree → Built
with_tree b t = record { done = all_of b ++ t ∷ []; pending = [] }

-- one more item
abbrev pub with_item : Built → Tree → Built
with_item b (Doc kids) = with_tree b (Doc kids)
with_item b (Elem name attributes kids) = with_tree b (Elem name attributes kids)
with_item b (Text t) = with_text b t
with_item b (Comment t) = with_tree b (Comment t)
with_item b (Pi target t) = with_tree b (Pi target t)
with_item b (Attr name t) = with_tree b (Attr name t)

abbrev pub with_items : Built → List Tree → Built
with_items b [] = b
with_items b (item ∷ items) = with_items (with_item b item) items

-- the content with the items of an outcome
abbrev pub grown : Built → Outcome (List Tree) → Outcome Built
grown b o = and_then o (λ items. Ends (with_items b items))

-- a literal element
abbrev pub literal_of : Calls → List Tree → Name → Forest → Outcome (List Tree)
literal_of enter kids name inside = and_then (constructed enter kids inside) (λ items. listed (element_of name items))

-- one part of a sequence constructor
abbrev pub instructed : Calls → List Tree → Tree → Outcome (List Tree)
instructed enter kids (Doc inside) = Ends []
instructed enter kids (Elem name attributes inside) =
    if is_in_xslt name then applied enter kids else literal_of enter kids name inside
instructed enter kids (Text t) = if is_white_text t then Ends [] else Ends (Text t ∷ [])
instructed enter kids (Comment t) = Ends []
instructed enter kids (Pi target t) = Ends []
instructed enter kids (Attr name t) = Ends []
