-- Calls on streams, references and memory of a Glk call are refused by numbers of faults.
use Rattle.std.proofs.Common.{ℕ, zero, suc, ◌+◌, ◌==◌, ◌||◌, not, nat_lt, Bool, true, false, List}
use Rattle.std.proofs.Common.{[], ◌∷◌, Option, Some, None, Result, Ok, Err, refl, replicate}
use Rattle.std.proofs.Common.{slice_set}
use Rattle.vm_memory.specs.Access.{read, written}
use Rattle.vm_memory.specs.Chaining.{◌>>=◌}
use Rattle.vm_memory.specs.MemoryMap.{MemoryMap}
use Rattle.vm_memory.specs.declared.fault.MemFault.{MemFault}
use Rattle.vm_stack.specs.StackState.{StackState}
use Rattle.vm_stack.specs.Values as stack
use Rattle.vm_stack.specs.declared.fault.StackFault.{StackFault}
use Rattle.vm_stack.specs.declared.fault.StackFault.TheVariants.{Overflow, Underflow, BadLocal}
use Rattle.glk_streams.specs.Answer as answer
use Rattle.glk_streams.specs.Coding.{coding_of, kept_code, unit_of}
use Rattle.glk_streams.specs.FileRefs as refs
use Rattle.glk_streams.specs.Input as input
use Rattle.glk_streams.specs.Opening as opening
use Rattle.glk_streams.specs.Output as output
use Rattle.glk_streams.specs.Position as place
use Rattle.glk_streams.specs.Streams.{StreamTable, is_read_mode, is_window_target, is_write_mode}
use Rattle.glk_streams.specs.Streams.{ref_at, stream_at}
use Rattle.glk_streams.specs.declared.coding.Coding.{Coding}
use Rattle.glk_streams.specs.declared.fault.StreamStop.{StreamStop}
use Rattle.glk_streams.specs.declared.fault.StreamStop.TheVariants as stop
use Rattle.glk_streams.specs.declared.file.File.{File}
use Rattle.glk_streams.specs.declared.fileref.FileRef.{FileRef}
use Rattle.glk_streams.specs.declared.stream.Target.{Target}
use Rattle.glk_streams.specs.declared.stream.Target.TheVariants as to
use Rattle.glk_dispatch.specs.Answer.{GlkCall, Reached, needs, over_glk_alone, within}
use Rattle.glk_dispatch.specs.Arguments as arguments
use Rattle.glk_dispatch.specs.Fault.{stack_code, stacked, stream_code, streams_coded}
use Rattle.glk_dispatch.specs.Reference as reference
use Rattle.glk_dispatch.specs.Streams as rows
use Rattle.glk_dispatch.specs.declared.glk.Glk.{Glk}
use Rattle.story_run.specs.Faults.{IsFaultNumber}
use Rattle.story_run.proofs.FaultLemmas.{Fails, Numbered, code-number, fails-bind, fails-by}
use Rattle.story_run.proofs.FaultLemmas.{fails-err, fails-if, fails-ok, known, of-memory}

-- ---- streams

-- a stop that is no want of the host's memory
abbrev pub IsStreamFault : StreamStop → Type 0
IsStreamFault (stop.Memory f) = Unit {0}
IsStreamFault stop.BadObject = Unit {0}
IsStreamFault stop.BadArgument = Unit {0}
IsStreamFault stop.NoMemory = ⊥

stream-number : (e : StreamStop) → IsStreamFault e → IsFaultNumber (stream_code e)
stream-number (stop.Memory f) h = code-number f
stream-number stop.BadObject h = known refl
stream-number stop.BadArgument h = known refl
stream-number stop.NoMemory h = absurd h

pub of-streams : {A : Type 0} {r : Result A StreamStop}
    → Fails r IsStreamFault → Numbered (streams_coded r)
of-streams {r = Ok x} h = fails-ok
of-streams {r = Err e} h = fails-err (stream-number e h.holds)

live-fails : {A B : Type 0} {f : A → Result B StreamStop} (o : Option A)
    → ((x : A) → Fails (f x) IsStreamFault) → Fails (answer.live o f) IsStreamFault
live-fails None k = fails-err tt
live-fails (Some x) k = k x

memory-fails : {A : Type 0} (r : Result A MemFault) → Fails (answer.of_memory r) IsStreamFault
memory-fails (Ok x) = fails-ok
memory-fails (Err f) = fails-err tt

pub copied-fails : (t : StreamTable) (usage n rock : ℕ)
    → Fails (refs.copied_ref t usage n rock) IsStreamFault
copied-fails t usage n rock = live-fails (ref_at t n) (λ r. fails-ok)

pub dropped-fails : (t : StreamTable) (n : ℕ) → Fails (refs.dropped_ref t n) IsStreamFault
dropped-fails t n = live-fails (ref_at t n) (λ r. fails-ok)

pub deleted-fails : (t : StreamTable) (n : ℕ) → Fails (refs.deleted t n) IsStreamFault
deleted-fails t n = live-fails (ref_at t n) (λ r. fails-ok)

pub there-fails : (t : StreamTable) (n : ℕ) → Fails (refs.is_there t n) IsStreamFault
there-fails t n = live-fails (ref_at t n) (λ r. fails-ok)

pub styled-fails : (t : StreamTable) (n style : ℕ) → Fails (refs.styled t n style) IsStreamFault
styled-fails t n style = live-fails (stream_at t n) (λ s. fails-ok)

pub current-fails : (t : StreamTable) (n : ℕ) → Fails (refs.with_current t n) IsStreamFault
current-fails t n =
    fails-if _ fails-ok (fails-err tt)

pub position-fails : (t : StreamTable) (n : ℕ) → Fails (place.position t n) IsStreamFault
position-fails t n = live-fails (stream_at t n) (λ s. fails-ok)

pub sought-fails : (t : StreamTable) (n by from : ℕ)
    → Fails (place.position_sought t n by from) IsStreamFault
sought-fails t n by from =
    live-fails (stream_at t n) (λ s. fails-if (nat_lt 2 from) (fails-err tt) fails-ok)

pub closed-fails : (t : StreamTable) (n : ℕ) → Fails (opening.closed_stream t n) IsStreamFault
closed-fails t n =
    live-fails (stream_at t n) (λ s. fails-if (is_window_target s.target) (fails-err tt) fails-ok)

pub opened_memory-fails : (t : StreamTable) (buf len mode rock : ℕ) (unicode : Bool)
    → Fails (opening.opened_memory t buf len mode rock unicode) IsStreamFault
opened_memory-fails t buf len mode rock unicode =
    fails-if (not (opening.is_memory_mode mode)) (fails-err tt)
    (fails-if (opening.are_streams_full t) fails-ok fails-ok)

opened_ref-fails : (t : StreamTable) (r : FileRef) (mode rock : ℕ) (unicode : Bool)
    → Fails (opening.opened_ref t r mode rock unicode) IsStreamFault
opened_ref-fails t r mode rock unicode =
    fails-if (not (opening.is_file_mode mode)) (fails-err tt)
    (fails-if (opening.are_streams_full t || not (opening.can_open t.files r.usage r.name mode))
    fails-ok fails-ok)

pub opened_file-fails : (t : StreamTable) (n mode rock : ℕ) (unicode : Bool)
    → Fails (opening.opened_file t n mode rock unicode) IsStreamFault
opened_file-fails t n mode rock unicode =
    live-fails (ref_at t n) (λ r. opened_ref-fails t r mode rock unicode)

got_from_memory-fails : (m : MemoryMap) (at buf len : ℕ) (c : Coding)
    → Fails (input.got_from_memory m at buf len c) IsStreamFault
got_from_memory-fails m at buf len c =
    fails-if (nat_lt at (output.length_of buf len))
    (fails-bind (memory-fails (read (unit_of c) m (output.address_of c buf at))) (λ x. fails-ok))
    fails-ok

got_from-fails : (x : Target) (unicode : Bool) (fs : List File) (m : MemoryMap) (at : ℕ)
    → Fails (input.got_from x unicode fs m at) IsStreamFault
got_from-fails (to.Window win) unicode fs m at = fails-err tt
got_from-fails (to.Memory buf len) unicode fs m at =
    got_from_memory-fails m at buf len (coding_of unicode (to.Memory buf len))
got_from-fails (to.File usage name) unicode fs m at = fails-ok

pub got-fails : (t : StreamTable) (m : MemoryMap) (n : ℕ) → Fails (input.got t m n) IsStreamFault
got-fails t m n =
    live-fails (stream_at t n) (λ s. fails-bind
    (fails-if (is_read_mode s.mode) (got_from-fails s.target s.unicode t.files m s.place)
    (fails-err tt))
    (λ r. fails-ok))

put_in_memory-fails : (m : MemoryMap) (at buf len : ℕ) (c : Coding) (code : ℕ)
    → Fails (output.put_in_memory m at buf len c code) IsStreamFault
put_in_memory-fails m at buf len c code =
    fails-if (nat_lt at (output.length_of buf len))
    (fails-bind
    (memory-fails (written (unit_of c) m (output.address_of c buf at) (kept_code c code)))
    (λ x. fails-ok))
    fails-ok

put_in_target-fails : (x : Target) (unicode : Bool) (fs : List File) (m : MemoryMap) (at code : ℕ)
    → Fails (output.put_in_target x unicode fs m at code) IsStreamFault
put_in_target-fails (to.Window win) unicode fs m at code = fails-ok
put_in_target-fails (to.Memory buf len) unicode fs m at code =
    fails-bind
    (put_in_memory-fails m at buf len (coding_of unicode (to.Memory buf len)) code)
    (λ x. fails-ok)
put_in_target-fails (to.File usage name) unicode fs m at code = fails-ok

pub put-fails : (t : StreamTable) (m : MemoryMap) (n code : ℕ)
    → Fails (output.put_on_stream t m n code) IsStreamFault
put-fails t m n code =
    live-fails (stream_at t n) (λ s. fails-bind
    (fails-if (is_write_mode s.mode)
    (put_in_target-fails s.target s.unicode t.files m s.place code) (fails-err tt))
    (λ x. fails-ok))

-- ---- steps of calls

-- a fault of a call has a number, whatever Glk state it reached
abbrev pub HasNumber : Glk × ℕ → Type 0
HasNumber e = IsFaultNumber e.1

abbrev pub Called : {A : Type 0} → Reached A → Type 0
Called r = Fails r HasNumber

pub in-call : {A : Type 0} {r : Result A ℕ} (g : Glk) → Numbered r → Called (within g r)
in-call {r = Ok x} g h = fails-ok
in-call {r = Err n} g h = fails-err h.holds

pub needs-live : {A : Type 0} {rest : Reached A} (g : Glk) (b : Bool)
    → Called rest → Called (needs g b 21 rest)
needs-live g true h = h
needs-live g false h = fails-err (known refl)

pub takes-value : {A : Type 0} {rest : Reached A} (g : Glk) (b : Bool)
    → Called rest → Called (needs g b 22 rest)
takes-value g true h = h
takes-value g false h = fails-err (known refl)

pub glk-alone : {A : Type 0} {r : Reached (Glk × A)} (s : GlkCall)
    → Called r → Called (over_glk_alone s r)
glk-alone s h = fails-bind h (λ p. fails-ok)

pub makes : {r : Reached (Glk × ℕ)} (s : GlkCall) → Called r → Called (rows.makes s r)
makes s h = fails-bind h (λ p. fails-ok)

pub leaves : {r : Reached Glk} (s : GlkCall) → Called r → Called (rows.leaves_streams s r)
leaves s h = fails-bind h (λ g. fails-ok)

pub streams-changed : {A : Type 0} {r : Result (StreamTable × A) StreamStop} (g : Glk)
    → Fails r IsStreamFault → Called (rows.streams_changed g r)
streams-changed g h = fails-bind (in-call g (of-streams h)) (λ p. fails-ok)

pub streams-left : {r : Result StreamTable StreamStop} (g : Glk)
    → Fails r IsStreamFault → Called (rows.streams_left g r)
streams-left g h = fails-bind (in-call g (of-streams h)) (λ t. fails-ok)

-- ---- arguments and references

stack-number : (f : StackFault) → IsFaultNumber (stack_code f)
stack-number Overflow = known refl
stack-number Underflow = known refl
stack-number BadLocal = known refl

of-call_stack : {A : Type 0} (r : Result A StackFault) → Numbered (stacked r)
of-call_stack (Ok x) = fails-ok
of-call_stack (Err f) = fails-err (stack-number f)

of-taken : (n : ℕ) (s : StackState) (i : ℕ) (args : List ℕ)
    → Numbered (arguments.arguments_taken n s i args)
unfolding arguments.arguments_taken
of-taken zero s i args = fails-ok
of-taken (suc n) s i args =
    fails-bind (of-call_stack (stack.popped s))
    (λ p. of-taken n p.0 (i + 1) (slice_set args i p.1))

pub of-arguments : (s : StackState) (count : Option ℕ) (given : ℕ)
    → Numbered (arguments.call_arguments s count given)
of-arguments s count given =
    fails-if (nat_lt (stack.value_count s) given) (fails-by refl)
    (fails-if (arguments.takes_count count given) (of-taken given s 0 (replicate 5 0))
    (fails-by refl))

of-word : (m : MemoryMap) (s : StackState) (at x : ℕ) → Numbered (reference.word_referred m s at x)
of-word m s at x =
    fails-if (at == 0) fails-ok
    (fails-if (at == 4294967295)
    (fails-bind (of-call_stack (stack.pushed s x)) (λ t. fails-ok))
    (fails-bind (of-memory (written 4 m at x)) (λ n. fails-ok)))

of-words : (xs : List ℕ) (m : MemoryMap) (s : StackState) (at : ℕ)
    → Numbered (reference.referred_all m s at xs)
of-words [] m s at = fails-ok
of-words (x ∷ xs) m s at =
    fails-bind (of-word m s at x) (λ p. of-words xs p.0 p.1 (reference.next_field at))

pub refers : (s : GlkCall) (at x : ℕ) → Called (reference.refers s at x)
refers s at x = fails-bind (in-call s.glk (of-word s.memory s.stack at x)) (λ p. fails-ok)

pub refers-all : (s : GlkCall) (at : ℕ) (xs : List ℕ) → Called (reference.refers_all s at xs)
refers-all s at xs = fails-bind (in-call s.glk (of-words xs s.memory s.stack at)) (λ p. fails-ok)

-- the call answers a number then
pub told : {r : Reached GlkCall} (x : ℕ) → Called r → Called (r >>= reference.gives x)
told x h = fails-bind h (λ s. fails-ok)
