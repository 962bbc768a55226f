-- How far an option is in the money, and what that is worth. Assumes nothing.
use Rattle.std.specs.Prelude.{ℕ, ℤ, pos, negsuc, ◌-ℤ◌}
use Rattle.terms.specs.declared.right.Right.{Right}
use Rattle.terms.specs.declared.right.Right.TheVariants.{Call, Put}

-- underlying less strike for a call, strike less underlying for a put
abbrev pub moneyness : Right → ℕ → ℕ → ℤ
moneyness Call strike underlying = pos underlying -ℤ pos strike
moneyness Put strike underlying = pos strike -ℤ pos underlying

-- nothing for an option out of the money
abbrev pub intrinsic_value : ℤ → ℕ
intrinsic_value (pos m) = m
intrinsic_value (negsuc m) = 0
