-- The modes of operands (Glulx 3.1.3, "Instruction Format").
use Rattle.std.specs.Prelude.{ℕ, Bool, true, false, if◌then◌else◌, List, [], ◌∷◌}
use Rattle.std.specs.Prelude.{Option, Some, None, Result, Ok, Err}
use Rattle.vm_operand.specs.Opcode.{first_with}
use Rattle.vm_operand.specs.declared.operand.Kind.{Kind}
use Rattle.vm_operand.specs.declared.operand.Kind.TheVariants.{Load, Store}
use Rattle.vm_operand.specs.declared.mode.Mode.{Mode}
use Rattle.vm_operand.specs.declared.mode.Mode.TheVariants.{Zero, Constant, Address, Stack, Local}
use Rattle.vm_operand.specs.declared.mode.Mode.TheVariants.{Ram}
use Rattle.vm_operand.specs.declared.mode.Width.{Width}
use Rattle.vm_operand.specs.declared.mode.Width.TheVariants.{One, Two, Four}
use Rattle.vm_operand.specs.declared.fault.OpFault.{OpFault}
use Rattle.vm_operand.specs.declared.fault.OpFault.TheVariants.{BadMode}

-- how many bytes
abbrev pub size : Width → ℕ
size One = 1
size Two = 2
size Four = 4

-- the modes by their numbers, of which 4 and 12 are none
abbrev pub mode_number : Mode → ℕ
mode_number Zero = 0
mode_number (Constant One) = 1
mode_number (Constant Two) = 2
mode_number (Constant Four) = 3
mode_number (Address One) = 5
mode_number (Address Two) = 6
mode_number (Address Four) = 7
mode_number Stack = 8
mode_number (Local One) = 9
mode_number (Local Two) = 10
mode_number (Local Four) = 11
mode_number (Ram One) = 13
mode_number (Ram Two) = 14
mode_number (Ram Four) = 15

-- every mode
unfoldable pub modes : List Mode
modes =
    Zero ∷ Constant One ∷ Constant Two ∷ Constant Four
    ∷ Address One ∷ Address Two ∷ Address Four
    ∷ Stack ∷ Local One ∷ Local Two ∷ Local Four
    ∷ Ram One ∷ Ram Two ∷ Ram Four ∷ []

-- whether an operand may have the mode: nothing is stored into a constant
abbrev pub allows : Kind → Mode → Bool
allows Load mode = true
allows Store Zero = true
allows Store (Constant w) = false
allows Store (Address w) = true
allows Store Stack = true
allows Store (Local w) = true
allows Store (Ram w) = true

-- a mode where the operand may have it
abbrev pub allowed : Kind → ℕ → Option Mode → Result Mode OpFault
allowed kind n None = Err (BadMode n)
allowed kind n (Some mode) = if allows kind mode then Ok mode else Err (BadMode n)

-- the mode of an operand by its number, or that it is a bad one
unfoldable pub mode_of : Kind → ℕ → Result Mode OpFault
mode_of kind n = allowed kind n (first_with mode_number modes n)
