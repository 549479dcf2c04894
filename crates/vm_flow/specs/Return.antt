-- Returns (Glulx 3.1.3, "Calling and Returning Within Glulx").
use Rattle.std.specs.Prelude.{◌==◌, if◌then◌else◌, length, Result, Ok, Option, Some, None}
use Rattle.vm_stack.specs.StackState.{StackState}
use Rattle.vm_stack.specs.Frame.{frame_left}
use Rattle.vm_stack.specs.Stub.{stub_taken}
use Rattle.vm_stack.specs.declared.stub.Stub.{Stub}
use Rattle.vm_flow.specs.Answer.{from_stack, and_then}
use Rattle.vm_flow.specs.declared.stop.FlowStop.{FlowStop}

-- without the stub on top, or None where nothing is left
abbrev pub stub_or_end : StackState → Result (StackState × Option Stub) FlowStop
stub_or_end s =
    if length s.bytes == 0 then Ok (s, None)
    else and_then (from_stack (stub_taken s)) (λ x. Ok (x.0, Some x.1))

-- without the current frame and the stub below it
abbrev pub given_back : StackState → Result (StackState × Option Stub) FlowStop
given_back s = stub_or_end (frame_left s)
