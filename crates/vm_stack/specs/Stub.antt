-- Call stubs (Glulx 3.1.3, "Call Stubs").
use Rattle.std.specs.Prelude.{ℕ, ◌+◌, ◌-◌, nat_le, if◌then◌else◌}
use Rattle.std.specs.Prelude.{List, [], ◌∷◌, length, Result, Ok, Err}
use Rattle.vm_stack.specs.StackState.{StackState, number, words, value_bytes}
use Rattle.vm_stack.specs.Values.{appended, without_top}
use Rattle.vm_stack.specs.declared.stub.Stub.{Stub}
use Rattle.vm_stack.specs.declared.fault.StackFault.{StackFault}
use Rattle.vm_stack.specs.declared.fault.StackFault.TheVariants.{Underflow}

-- DestType, DestAddr, PC and FramePtr, in the order in which they are pushed
abbrev pub stub_bytes : Stub → List ℕ
stub_bytes x = words (x.kind ∷ x.at ∷ x.pc ∷ x.frame ∷ [])

-- the stub at a place
abbrev pub stub_at : List ℕ → ℕ → Stub
stub_at bytes at = record {
  kind = number 4 bytes at;
  at = number 4 bytes (at + 4);
  pc = number 4 bytes (at + 8);
  frame = number 4 bytes (at + 12);
}

-- with a stub on top
abbrev pub stub_pushed : StackState → Stub → Result StackState StackFault
stub_pushed s x = appended s (stub_bytes x)

-- without the stub on top, in the frame that it names; and that stub
abbrev pub stub_taken : StackState → Result (StackState × Stub) StackFault
stub_taken s =
    if nat_le 16 (value_bytes s)
    then (let x = stub_at s.bytes (length s.bytes - 16) in
    Ok (record (without_top s 16) { frame = x.frame }, x))
    else Err Underflow
