-- What a call on streams answered and left, against what it should (own).
use Rattle.std.specs.Prelude.{◌≡◌, ◌≢◌, Option, Some, None, Result, Ok, Err}
use Rattle.vm_memory.specs.declared.fault.MemFault.{MemFault}
use Rattle.glk_streams.specs.declared.fault.StreamStop.{StreamStop}
use Rattle.glk_streams.specs.declared.fault.StreamStop.TheVariants.{Memory, BadObject, BadArgument}
use Rattle.glk_streams.specs.declared.fault.StreamStop.TheVariants.{NoMemory}

-- a step of memory among those of streams
abbrev pub of_memory : {A : Type 0} → Result A MemFault → Result A StreamStop
of_memory (Ok x) = Ok x
of_memory (Err f) = Err (Memory f)

-- what is answered where there is such an object; BadObject where there is none
abbrev pub live : {A B : Type 0} → Option A → (A → Result B StreamStop)
    → Result B StreamStop
live None f = Err BadObject
live (Some x) f = f x

-- want of the host's memory is answered at any place
abbrev pub RefusesStreamCall : {A : Type 0} → Result A StreamStop → StreamStop → Type 0
RefusesStreamCall should (Memory f) = should ≡ Err (Memory f)
RefusesStreamCall should BadObject = should ≡ Err BadObject
RefusesStreamCall should BadArgument = should ≡ Err BadArgument
RefusesStreamCall should NoMemory = Unit {0}

-- The call left new and answered this, as it should.
abbrev pub Yields : {S A : Type 0} → S × A → S → A → Type 0
Yields should new x = should ≡ (new, x)

-- The call answered as it should.
abbrev pub AnswersOfStreams : {A : Type 0} → Result A StreamStop → Result A StreamStop → Type 0
AnswersOfStreams should (Ok x) = should ≡ Ok x
AnswersOfStreams should (Err e) = RefusesStreamCall should e

-- The call answered and left new, as it should.
abbrev pub GivesWithStreams : {S A : Type 0} → Result (S × A) StreamStop → S → Result A StreamStop
    → Type 0
GivesWithStreams should new (Ok x) = should ≡ Ok (new, x)
GivesWithStreams should new (Err e) = RefusesStreamCall should e

-- The same of a call that answers nothing.
abbrev pub LeavesStreams : {S A : Type 0} → Result S StreamStop → S → Result A StreamStop → Type 0
LeavesStreams should new (Ok x) = should ≡ Ok new
LeavesStreams should new (Err e) = RefusesStreamCall should e

-- The same of a call that changes two values and answers a third.
abbrev pub GivesWithStreamsAndMemory : {S T A : Type 0}
    → Result (S × T × A) StreamStop → S → T → Result A StreamStop → Type 0
GivesWithStreamsAndMemory should new also (Ok x) = should ≡ Ok (new, also, x)
GivesWithStreamsAndMemory should new also (Err e) = RefusesStreamCall should e

-- The same of a call that changes two values.
abbrev pub LeavesBoth : {S T A : Type 0}
    → Result (S × T) StreamStop → S → T → Result A StreamStop → Type 0
LeavesBoth should new also (Ok x) = should ≡ Ok (new, also)
LeavesBoth should new also (Err e) = RefusesStreamCall should e

-- The call takes no memory, so it isn't refused for want of it.
abbrev pub TakesNoMemory : {A : Type 0} → Result A StreamStop → Type 0
TakesNoMemory (Ok x) = Unit {0}
TakesNoMemory (Err e) = e ≢ NoMemory
