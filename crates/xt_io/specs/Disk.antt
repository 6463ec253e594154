-- When a file of the system is not read to its end.
use Rattle.std.specs.Prelude.{◌≡◌, ℕ, ◌<◌, ⊤}
use Rattle.xt_io.specs.declared.files.LoadFault.{LoadFault}
use Rattle.xt_io.specs.declared.files.LoadFault.TheVariants.{Failed, TooLong, Memory}

-- why reading stopped, when so many bytes had been read
abbrev pub HasReadCause : ℕ → ℕ → LoadFault → Type 0
HasReadCause taken limit Failed = ⊤
HasReadCause taken limit (TooLong n) = (n ≡ taken) × (limit < n)
HasReadCause taken limit (Memory e) = ⊤
