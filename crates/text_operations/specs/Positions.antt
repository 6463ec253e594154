-- Positions, which count from 1 (XQuery 1.0 and XPath 2.0 Functions and Operators, 7.4.3 and 15.1.10).
use Rattle.std.specs.Prelude.{ℕ, ◌-◌, ℤ, pos, negsuc}

-- how many positions come before this one
abbrev pub count_before : ℤ → ℕ
count_before (pos n) = n - 1
count_before (negsuc n) = 0
