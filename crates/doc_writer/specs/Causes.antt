-- Why a tree is not written.
use Rattle.std.specs.Prelude.{◌≡◌, ℕ, ⊤, List, Option, Some, None, Result, Ok, Err}
use Rattle.xt_names.specs.declared.codes.Code.TheVariants.{Dynamic}
use Rattle.xt_names.specs.declared.codes.DynamicCode.TheVariants.{SENR0001}
use Rattle.xt_tree.specs.declared.trees.Tree.{Tree}
use Rattle.doc_writer.specs.Written.{written_tree}
use Rattle.doc_writer.specs.declared.causes.WriteRefusal.{WriteRefusal}
use Rattle.doc_writer.specs.declared.causes.WriteRefusal.TheVariants.{Code, Memory}

-- there is no text, unless memory ran out
abbrev pub HasCause : Option (List ℕ) → WriteRefusal → Type 0
HasCause text (Code code) = (text ≡ None) × (code ≡ Dynamic SENR0001)
HasCause text (Memory e) = ⊤

abbrev pub HasWriteCause : Tree → WriteRefusal → Type 0
HasWriteCause tree (Code code) = (written_tree tree ≡ None) × (code ≡ Dynamic SENR0001)
HasWriteCause tree (Memory e) = ⊤

-- the answer stands for the document that items make
abbrev pub Joins : Result Tree WriteRefusal → Option Tree → Type 0
Joins (Ok document) o = o ≡ Some document
Joins (Err (Code code)) o = (o ≡ None) × (code ≡ Dynamic SENR0001)
Joins (Err (Memory e)) o = ⊤
