-- Predicates that filter in turn, where the nodes come one by one (XPath 2.0, 3.2.2).
use Rattle.std.specs.Prelude.{◌≡◌, ℕ, zero, suc, ◌+◌, List, [], ◌∷◌, Bool, if◌then◌else◌}
use Rattle.xt_tree.specs.Place.{Place}
use Rattle.node_axes.specs.StepWalks.Nodes.{Focus, kept_from}

-- a predicate that does not look at how many nodes there are
abbrev pub IsSizeFree : (Focus → Bool) → Type 0
IsSizeFree holds = (n : Place) (at few many : ℕ) → holds (record { node = n; position = at; size = few }) ≡ holds (record { node = n; position = at; size = many })

-- what the predicates keep of the nodes, where so many nodes have come to each of them before
unfoldable pub sifted : List (Focus → Bool) → List ℕ → List Place → List Place
sifted [] seen nodes = nodes
sifted (holds ∷ more) [] nodes = sifted more [] (kept_from holds 0 1 nodes)
sifted (holds ∷ more) (k ∷ ks) nodes = sifted more ks (kept_from holds 0 (k + 1) nodes)

-- how many of the predicates keep the node, one after another, until one does not
unfoldable pub kept_in_turn : List (Focus → Bool) → List ℕ → Place → ℕ
kept_in_turn [] seen n = 0
kept_in_turn (holds ∷ more) [] n = if holds (record { node = n; position = 1; size = 0 }) then suc (kept_in_turn more [] n) else 0
kept_in_turn (holds ∷ more) (k ∷ ks) n = if holds (record { node = n; position = k + 1; size = 0 }) then suc (kept_in_turn more ks n) else 0

-- one node more has come to the first so many
unfoldable pub raised : ℕ → List ℕ → List ℕ
raised zero ks = ks
raised (suc n) [] = []
raised (suc n) (k ∷ ks) = (k + 1) ∷ raised n ks

-- the node alone, where it is kept
abbrev pub alone_if : Bool → Place → List Place → List Place
alone_if kept n rest = if kept then n ∷ rest else rest

abbrev pub AreSizeFree : List (Focus → Bool) → Type 0
AreSizeFree [] = Unit {0}
AreSizeFree (holds ∷ more) = IsSizeFree holds × AreSizeFree more
