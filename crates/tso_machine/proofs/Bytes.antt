-- Bits as numbers.
use Rattle.std.proofs.Common.{◌≡◌, ◌≤◌, Bool, true, false, cond, refl, arith}
use mir.Val.{bool_byte}

pub byte_is : (b : Bool) → bool_byte b ≡ cond b 1 0
byte_is true = refl
byte_is false = refl

pub byte_le : (b : Bool) → bool_byte b ≤ 1
byte_le true = omega arith
byte_le false = omega arith
