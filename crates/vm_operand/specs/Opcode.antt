-- The table of opcodes: their numbers and their operands (Glulx 3.1.3, "Dictionary of Opcodes").
use Rattle.std.specs.Prelude.{ℕ, ◌==◌, ◌+◌, ◌≤◌, cond, List, [], ◌∷◌}
use Rattle.std.specs.Prelude.{◌++◌, length, map, Option, Some, None}
use Rattle.vm_operand.specs.declared.operand.Kind.{Kind}
use Rattle.vm_operand.specs.declared.operand.Kind.TheVariants.{Load as L, Store as S}
use Rattle.vm_operand.specs.declared.opcode.Op.{Op}
use Rattle.vm_operand.specs.declared.opcode.Op.TheVariants as op
use Rattle.vm_operand.specs.declared.opcode.Math.{Math}
use Rattle.vm_operand.specs.declared.opcode.Math.TheVariants.{Add, Sub, Mul, Div, Mod, Neg, Bitand}
use Rattle.vm_operand.specs.declared.opcode.Math.TheVariants.{Bitor, Bitxor, Bitnot, Shiftl}
use Rattle.vm_operand.specs.declared.opcode.Math.TheVariants.{Sshiftr, Ushiftr}
use Rattle.vm_operand.specs.declared.opcode.Branch.{Branch}
use Rattle.vm_operand.specs.declared.opcode.Branch.TheVariants.{Jump, Jz, Jnz, Jeq, Jne, Jlt, Jge}
use Rattle.vm_operand.specs.declared.opcode.Branch.TheVariants.{Jgt, Jle, Jltu, Jgeu, Jgtu, Jleu}
use Rattle.vm_operand.specs.declared.opcode.Branch.TheVariants.{Jumpabs}
use Rattle.vm_operand.specs.declared.opcode.Flow.{Flow}
use Rattle.vm_operand.specs.declared.opcode.Flow.TheVariants.{Call, Return, Catch, Throw, Tailcall}
use Rattle.vm_operand.specs.declared.opcode.Flow.TheVariants.{Callf, Callfi, Callfii, Callfiii}
use Rattle.vm_operand.specs.declared.opcode.Move.{Move}
use Rattle.vm_operand.specs.declared.opcode.Move.TheVariants.{Copy, Copys, Copyb, Sexs, Sexb}
use Rattle.vm_operand.specs.declared.opcode.Array.{Array}
use Rattle.vm_operand.specs.declared.opcode.Array.TheVariants.{Aload, Aloads, Aloadb, Aloadbit}
use Rattle.vm_operand.specs.declared.opcode.Array.TheVariants.{Astore, Astores, Astoreb, Astorebit}
use Rattle.vm_operand.specs.declared.opcode.Values.{Values}
use Rattle.vm_operand.specs.declared.opcode.Values.TheVariants.{Stkcount, Stkpeek, Stkswap, Stkroll}
use Rattle.vm_operand.specs.declared.opcode.Values.TheVariants.{Stkcopy}
use Rattle.vm_operand.specs.declared.opcode.Stream.{Stream}
use Rattle.vm_operand.specs.declared.opcode.Stream.TheVariants.{Streamchar, Streamnum, Streamstr}
use Rattle.vm_operand.specs.declared.opcode.Stream.TheVariants.{Streamunichar, Getstringtbl}
use Rattle.vm_operand.specs.declared.opcode.Stream.TheVariants.{Setstringtbl, Getiosys, Setiosys}
use Rattle.vm_operand.specs.declared.opcode.State.{State}
use Rattle.vm_operand.specs.declared.opcode.State.TheVariants.{Quit, Verify, Restart, Save, Restore}
use Rattle.vm_operand.specs.declared.opcode.State.TheVariants.{Saveundo, Restoreundo, Protect}
use Rattle.vm_operand.specs.declared.opcode.State.TheVariants.{Hasundo, Discardundo}
use Rattle.vm_operand.specs.declared.opcode.System.{System}
use Rattle.vm_operand.specs.declared.opcode.System.TheVariants.{Nop, Gestalt, Debugtrap, Getmemsize}
use Rattle.vm_operand.specs.declared.opcode.System.TheVariants.{Setmemsize, Random, Setrandom, Glk}
use Rattle.vm_operand.specs.declared.opcode.System.TheVariants.{Accelfunc, Accelparam}
use Rattle.vm_operand.specs.declared.opcode.Search.{Search}
use Rattle.vm_operand.specs.declared.opcode.Search.TheVariants.{Linearsearch, Binarysearch}
use Rattle.vm_operand.specs.declared.opcode.Search.TheVariants.{Linkedsearch, Mzero, Mcopy, Malloc}
use Rattle.vm_operand.specs.declared.opcode.Search.TheVariants.{Mfree}

-- a row of the table: the number, and the operands in the order of their bytes, L a load, S a store
pub record OpcodeRow : Type 0 where
  pub number : ℕ
  pub kinds : List Kind

-- a row of these
abbrev row : ℕ → List Kind → OpcodeRow
row n ks = record { number = n; kinds = ks }

-- Integer Math
abbrev pub math_row : Math → OpcodeRow
math_row Add = row 0x10 (L ∷ L ∷ S ∷ [])
math_row Sub = row 0x11 (L ∷ L ∷ S ∷ [])
math_row Mul = row 0x12 (L ∷ L ∷ S ∷ [])
math_row Div = row 0x13 (L ∷ L ∷ S ∷ [])
math_row Mod = row 0x14 (L ∷ L ∷ S ∷ [])
math_row Neg = row 0x15 (L ∷ S ∷ [])
math_row Bitand = row 0x18 (L ∷ L ∷ S ∷ [])
math_row Bitor = row 0x19 (L ∷ L ∷ S ∷ [])
math_row Bitxor = row 0x1A (L ∷ L ∷ S ∷ [])
math_row Bitnot = row 0x1B (L ∷ S ∷ [])
math_row Shiftl = row 0x1C (L ∷ L ∷ S ∷ [])
math_row Sshiftr = row 0x1D (L ∷ L ∷ S ∷ [])
math_row Ushiftr = row 0x1E (L ∷ L ∷ S ∷ [])

-- Branches
abbrev pub branch_row : Branch → OpcodeRow
branch_row Jump = row 0x20 (L ∷ [])
branch_row Jz = row 0x22 (L ∷ L ∷ [])
branch_row Jnz = row 0x23 (L ∷ L ∷ [])
branch_row Jeq = row 0x24 (L ∷ L ∷ L ∷ [])
branch_row Jne = row 0x25 (L ∷ L ∷ L ∷ [])
branch_row Jlt = row 0x26 (L ∷ L ∷ L ∷ [])
branch_row Jge = row 0x27 (L ∷ L ∷ L ∷ [])
branch_row Jgt = row 0x28 (L ∷ L ∷ L ∷ [])
branch_row Jle = row 0x29 (L ∷ L ∷ L ∷ [])
branch_row Jltu = row 0x2A (L ∷ L ∷ L ∷ [])
branch_row Jgeu = row 0x2B (L ∷ L ∷ L ∷ [])
branch_row Jgtu = row 0x2C (L ∷ L ∷ L ∷ [])
branch_row Jleu = row 0x2D (L ∷ L ∷ L ∷ [])
branch_row Jumpabs = row 0x104 (L ∷ [])

-- Functions, and Continuations
abbrev pub flow_row : Flow → OpcodeRow
flow_row Call = row 0x30 (L ∷ L ∷ S ∷ [])
flow_row Return = row 0x31 (L ∷ [])
flow_row Catch = row 0x32 (S ∷ L ∷ [])
flow_row Throw = row 0x33 (L ∷ L ∷ [])
flow_row Tailcall = row 0x34 (L ∷ L ∷ [])
flow_row Callf = row 0x160 (L ∷ S ∷ [])
flow_row Callfi = row 0x161 (L ∷ L ∷ S ∷ [])
flow_row Callfii = row 0x162 (L ∷ L ∷ L ∷ S ∷ [])
flow_row Callfiii = row 0x163 (L ∷ L ∷ L ∷ L ∷ S ∷ [])

-- Moving Data
abbrev pub move_row : Move → OpcodeRow
move_row Copy = row 0x40 (L ∷ S ∷ [])
move_row Copys = row 0x41 (L ∷ S ∷ [])
move_row Copyb = row 0x42 (L ∷ S ∷ [])
move_row Sexs = row 0x44 (L ∷ S ∷ [])
move_row Sexb = row 0x45 (L ∷ S ∷ [])

-- Array Data
abbrev pub array_row : Array → OpcodeRow
array_row Aload = row 0x48 (L ∷ L ∷ S ∷ [])
array_row Aloads = row 0x49 (L ∷ L ∷ S ∷ [])
array_row Aloadb = row 0x4A (L ∷ L ∷ S ∷ [])
array_row Aloadbit = row 0x4B (L ∷ L ∷ S ∷ [])
array_row Astore = row 0x4C (L ∷ L ∷ L ∷ [])
array_row Astores = row 0x4D (L ∷ L ∷ L ∷ [])
array_row Astoreb = row 0x4E (L ∷ L ∷ L ∷ [])
array_row Astorebit = row 0x4F (L ∷ L ∷ L ∷ [])

-- The Stack
abbrev pub values_row : Values → OpcodeRow
values_row Stkcount = row 0x50 (S ∷ [])
values_row Stkpeek = row 0x51 (L ∷ S ∷ [])
values_row Stkswap = row 0x52 []
values_row Stkroll = row 0x53 (L ∷ L ∷ [])
values_row Stkcopy = row 0x54 (L ∷ [])

-- Output
abbrev pub stream_row : Stream → OpcodeRow
stream_row Streamchar = row 0x70 (L ∷ [])
stream_row Streamnum = row 0x71 (L ∷ [])
stream_row Streamstr = row 0x72 (L ∷ [])
stream_row Streamunichar = row 0x73 (L ∷ [])
stream_row Getstringtbl = row 0x140 (S ∷ [])
stream_row Setstringtbl = row 0x141 (L ∷ [])
stream_row Getiosys = row 0x148 (S ∷ S ∷ [])
stream_row Setiosys = row 0x149 (L ∷ L ∷ [])

-- Game State
abbrev pub state_row : State → OpcodeRow
state_row Quit = row 0x120 []
state_row Verify = row 0x121 (S ∷ [])
state_row Restart = row 0x122 []
state_row Save = row 0x123 (L ∷ S ∷ [])
state_row Restore = row 0x124 (L ∷ S ∷ [])
state_row Saveundo = row 0x125 (S ∷ [])
state_row Restoreundo = row 0x126 (S ∷ [])
state_row Protect = row 0x127 (L ∷ L ∷ [])
state_row Hasundo = row 0x128 (S ∷ [])
state_row Discardundo = row 0x129 []

-- Memory Map, Random Number Generator, Accelerated Functions, and Miscellaneous
abbrev pub system_row : System → OpcodeRow
system_row Nop = row 0x00 []
system_row Gestalt = row 0x100 (L ∷ L ∷ S ∷ [])
system_row Debugtrap = row 0x101 (L ∷ [])
system_row Getmemsize = row 0x102 (S ∷ [])
system_row Setmemsize = row 0x103 (L ∷ S ∷ [])
system_row Random = row 0x110 (L ∷ S ∷ [])
system_row Setrandom = row 0x111 (L ∷ [])
system_row Glk = row 0x130 (L ∷ L ∷ S ∷ [])
system_row Accelfunc = row 0x180 (L ∷ L ∷ [])
system_row Accelparam = row 0x181 (L ∷ L ∷ [])

-- Searching, Block Copy and Clear, and Memory Allocation Heap
abbrev pub search_row : Search → OpcodeRow
search_row Linearsearch = row 0x150 (L ∷ L ∷ L ∷ L ∷ L ∷ L ∷ L ∷ S ∷ [])
search_row Binarysearch = row 0x151 (L ∷ L ∷ L ∷ L ∷ L ∷ L ∷ L ∷ S ∷ [])
search_row Linkedsearch = row 0x152 (L ∷ L ∷ L ∷ L ∷ L ∷ L ∷ S ∷ [])
search_row Mzero = row 0x170 (L ∷ L ∷ [])
search_row Mcopy = row 0x171 (L ∷ L ∷ L ∷ [])
search_row Malloc = row 0x178 (L ∷ S ∷ [])
search_row Mfree = row 0x179 (L ∷ [])

-- an opcode's row
abbrev pub row_of : Op → OpcodeRow
row_of (op.Math o) = math_row o
row_of (op.Branch o) = branch_row o
row_of (op.Flow o) = flow_row o
row_of (op.Move o) = move_row o
row_of (op.Array o) = array_row o
row_of (op.Values o) = values_row o
row_of (op.Stream o) = stream_row o
row_of (op.State o) = state_row o
row_of (op.System o) = system_row o
row_of (op.Search o) = search_row o

-- an opcode's number
abbrev pub opcode_number : Op → ℕ
opcode_number o = (row_of o).number

-- an opcode's operands
abbrev pub kinds_of : Op → List Kind
kinds_of o = (row_of o).kinds

-- every opcode
unfoldable pub opcodes : List Op
opcodes =
    map op.Math (Add ∷ Sub ∷ Mul ∷ Div ∷ Mod ∷ Neg ∷ Bitand ∷ Bitor ∷ Bitxor ∷
    Bitnot ∷ Shiftl ∷ Sshiftr ∷ Ushiftr ∷ [])
    ++ map op.Branch (Jump ∷ Jz ∷ Jnz ∷ Jeq ∷ Jne ∷ Jlt ∷ Jge ∷ Jgt ∷ Jle ∷
    Jltu ∷ Jgeu ∷ Jgtu ∷ Jleu ∷ Jumpabs ∷ [])
    ++ map op.Flow (Call ∷ Return ∷ Catch ∷ Throw ∷ Tailcall ∷ Callf ∷ Callfi ∷
    Callfii ∷ Callfiii ∷ [])
    ++ map op.Move (Copy ∷ Copys ∷ Copyb ∷ Sexs ∷ Sexb ∷ [])
    ++ map op.Array (Aload ∷ Aloads ∷ Aloadb ∷ Aloadbit ∷ Astore ∷ Astores ∷
    Astoreb ∷ Astorebit ∷ [])
    ++ map op.Values (Stkcount ∷ Stkpeek ∷ Stkswap ∷ Stkroll ∷ Stkcopy ∷ [])
    ++ map op.Stream (Streamchar ∷ Streamnum ∷ Streamstr ∷ Streamunichar ∷ Getstringtbl ∷
    Setstringtbl ∷ Getiosys ∷ Setiosys ∷ [])
    ++ map op.State (Quit ∷ Verify ∷ Restart ∷ Save ∷ Restore ∷ Saveundo ∷
    Restoreundo ∷ Protect ∷ Hasundo ∷ Discardundo ∷ [])
    ++ map op.System (Nop ∷ Gestalt ∷ Debugtrap ∷ Getmemsize ∷ Setmemsize ∷ Random ∷
    Setrandom ∷ Glk ∷ Accelfunc ∷ Accelparam ∷ [])
    ++ map op.Search (Linearsearch ∷ Binarysearch ∷ Linkedsearch ∷ Mzero ∷ Mcopy ∷
    Malloc ∷ Mfree ∷ [])

-- the first in a list with this number
abbrev pub first_with : {A : Type 0} → (A → ℕ) → List A → ℕ → Option A
first_with number [] n = None
first_with number (x ∷ xs) n = cond (n == number x) (Some x) (first_with number xs n)

-- the opcode of a number
unfoldable pub op_of : ℕ → Option Op
op_of n = first_with opcode_number opcodes n

-- how many are loads
abbrev pub loads_in : List Kind → ℕ
loads_in [] = 0
loads_in (L ∷ kinds) = 1 + loads_in kinds
loads_in (S ∷ kinds) = loads_in kinds

-- how many are stores
abbrev pub stores_in : List Kind → ℕ
stores_in [] = 0
stores_in (L ∷ kinds) = stores_in kinds
stores_in (S ∷ kinds) = 1 + stores_in kinds

-- operands for which an instruction has room
pub record IsFew (kinds : List Kind) : Type 0 where
  pub all : length kinds ≤ 8
  pub loads : loads_in kinds ≤ 8
  pub stores : stores_in kinds ≤ 2
