-- Signs, and sizes with a sign.
use Rattle.std.specs.Prelude.{ℕ, ℤ, pos, negsuc, neg_ℤ}
use Rattle.h41_decimal.specs.declared.sign.Sign.{Sign}
use Rattle.h41_decimal.specs.declared.sign.Sign.TheVariants.{Plus, Minus}

-- The other sign.
abbrev pub opposite_of : Sign → Sign
opposite_of Plus = Minus
opposite_of Minus = Plus

-- The sign of a product or a quotient.
abbrev pub product_of : Sign → Sign → Sign
product_of Plus other = other
product_of Minus other = opposite_of other

-- A size with a sign.
abbrev pub with_sign : Sign → ℕ → ℤ
with_sign Plus size = pos size
with_sign Minus size = neg_ℤ (pos size)

-- The sign of a number. The sign of zero is plus.
abbrev pub sign_of : ℤ → Sign
sign_of (pos size) = Plus
sign_of (negsuc size) = Minus
