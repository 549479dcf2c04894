-- What arithmetic gives, modulo 2^32 (Glulx 3.1.3, "Integer Math").
use Rattle.std.specs.Prelude.{ℕ, ℤ, ◌+◌, ◌-◌, ◌*◌, ◌/◌, ◌%◌, ◌^◌}
use Rattle.std.specs.Prelude.{◌==◌, ◌&&◌, nat_lt, if◌then◌else◌, bit_and, bit_or}
use Rattle.std.specs.Prelude.{bit_xor, int_div, int_rem, Option, Some, None, Result, Ok, Err}
use Rattle.std.specs.Int.{cast_signed, cast_unsigned, int_shr, w32}
use Rattle.vm_operand.specs.declared.opcode.Op.{Op}
use Rattle.vm_operand.specs.declared.opcode.Op.TheVariants as op
use Rattle.vm_operand.specs.declared.opcode.Math.{Math}
use Rattle.vm_operand.specs.declared.opcode.Math.TheVariants.{Add, Sub, Mul, Div, Mod, Neg, Bitand}
use Rattle.vm_operand.specs.declared.opcode.Math.TheVariants.{Bitor, Bitxor, Bitnot, Shiftl}
use Rattle.vm_operand.specs.declared.opcode.Math.TheVariants.{Sshiftr, Ushiftr}
use Rattle.vm_operand.specs.declared.fault.OpFault.{OpFault}
use Rattle.vm_operand.specs.declared.fault.OpFault.TheVariants.{DivideByZero, DivideOverflow}

-- 32 bits as a signed number
abbrev pub signed : ℕ → ℤ
signed x = cast_signed w32 x

-- the 32 bits of a signed number
abbrev pub unsigned : ℤ → ℕ
unsigned z = cast_unsigned w32 z

-- the quotient or remainder z of these two, unless the division is by zero, or of -2^31 by -1
abbrev pub divided : ℕ → ℕ → ℤ → Result ℕ OpFault
divided left right z =
    if right == 0 then Err DivideByZero
    else (if left == 2 ^ 31 && right == 2 ^ 32 - 1 then Err DivideOverflow
    else Ok (unsigned z))

-- a shift by so much, and what stands in its place from 32 on
abbrev pub shifted : ℕ → ℕ → ℕ → ℕ
shifted by x beyond = if nat_lt by 32 then x else beyond

-- the sign in each of 32 bits
abbrev pub sign_bits : ℕ → ℕ
sign_bits x = if nat_lt x (2 ^ 31) then 0 else 2 ^ 32 - 1

-- what an opcode of arithmetic gives; neg and bitnot take the first value alone, a quotient is
-- truncated to zero, and a remainder has the sign of the dividend
unfoldable pub applied : Math → ℕ → ℕ → Result ℕ OpFault
applied Add left right = Ok ((left + right) % 2 ^ 32)
applied Sub left right = Ok ((left + (2 ^ 32 - right)) % 2 ^ 32)
applied Mul left right = Ok ((left * right) % 2 ^ 32)
applied Div left right = divided left right (int_div (signed left) (signed right))
applied Mod left right = divided left right (int_rem (signed left) (signed right))
applied Neg left right = Ok ((2 ^ 32 - left) % 2 ^ 32)
applied Bitand left right = Ok (bit_and left right)
applied Bitor left right = Ok (bit_or left right)
applied Bitxor left right = Ok (bit_xor left right)
applied Bitnot left right = Ok (2 ^ 32 - 1 - left)
applied Shiftl left right = Ok (shifted right ((left * 2 ^ right) % 2 ^ 32) 0)
applied Sshiftr left right =
    Ok (shifted right (unsigned (int_shr (signed left) right)) (sign_bits left))
applied Ushiftr left right = Ok (shifted right (left / 2 ^ right) 0)

-- the arithmetic among opcodes
abbrev pub math_of : Option Op → Option Math
math_of (Some (op.Math math)) = Some math
math_of other = None
