-- Saves in a story's streams (Glulx 3.1.3, "Game State"; what they answer is own).
use Rattle.std.specs.Prelude.{◌≡◌, ℕ, zero, suc, ◌++◌, ◌==◌, ◌&&◌, Bool, true, false, not}
use Rattle.std.specs.Prelude.{if◌then◌else◌, List, [], ◌∷◌, Option, Some, None, Result, Ok, Err}
use Rattle.vm_memory.specs.Chaining.{◌>>=◌}
use Rattle.vm_memory.specs.MemoryMap.{MemoryMap}
use Rattle.vm_memory.specs.declared.fault.Trap.{Trap}
use Rattle.vm_memory.specs.declared.fault.Trap.TheVariants as trap
use Rattle.vm_undo.specs.declared.saved.Saved.{Saved}
use Rattle.vm_exec.specs.Rows.Undo.{resumed, saved_state}
use Rattle.vm_exec.specs.Start.{finished}
use Rattle.vm_exec.specs.declared.machine.Machine.{Machine}
use Rattle.quetzal.specs.Save.{canon, save_in}
use Rattle.quetzal.specs.declared.fault.SaveFault.{SaveFault}
use Rattle.glk_input.specs.Delivery.{code_taken}
use Rattle.glk_streams.specs.Streams.{is_read_mode, is_write_mode, of_stream, stream_at}
use Rattle.glk_dispatch.specs.Answer.{Reached, within}
use Rattle.glk_dispatch.specs.Output.{put_code}
use Rattle.glk_dispatch.specs.Streams.{got_code, stream_position}
use Rattle.glk_dispatch.specs.declared.glk.Glk.{Glk}

-- the stream with this number is live and open for writing
abbrev pub is_writable : Glk → ℕ → Bool
is_writable g n = of_stream (stream_at g.streams n) false (λ s. is_write_mode s.mode)

-- the stream with this number is live and open for reading
abbrev pub is_readable : Glk → ℕ → Bool
is_readable g n = of_stream (stream_at g.streams n) false (λ s. is_read_mode s.mode)

-- a byte put to a stream as a character, and whether it was kept: the stream's position moves on
abbrev pub put_byte : Glk → MemoryMap → ℕ → ℕ → Reached (Glk × MemoryMap × Bool)
put_byte g m n byte =
    within g (stream_position g n) >>= (λ before.
    put_code g m n byte >>= (λ p.
    within p.0 (stream_position p.0 n) >>= (λ behind. Ok (p.0, p.1, not (behind == before)))))

-- bytes put one by one, and whether all were kept, those before too
abbrev pub put_save_bytes : Glk → MemoryMap → ℕ → Bool → List ℕ
    → Reached (Glk × MemoryMap × Bool)
put_save_bytes g m n kept [] = Ok (g, m, kept)
put_save_bytes g m n kept (b ∷ bs) =
    put_byte g m n b >>= (λ p. put_save_bytes p.0 p.1 n (kept && p.2) bs)

-- the result of a save or of a restore that failed is stored
abbrev pub result_stored : Glk → Machine → ℕ → Reached (Glk × Machine)
result_stored g m result = within g (finished m result) >>= (λ k. Ok (g, k))

-- a save: the one spelling of the machine's state is put to the stream; the result is 0 where that
-- is live, open for writing and kept every byte, and else 1
abbrev pub saved : List ℕ → Glk → Machine → ℕ → Reached (Glk × Machine)
saved image g m n =
    if is_writable g n
    then put_save_bytes g m.memory n true (canon image (saved_state m))
    >>= (λ p. result_stored p.0 (record m { memory = p.1 }) (if p.2 then 0 else 1))
    else result_stored g m 1

-- what follows a character of a stream, whose low byte is taken, or `?` above 255
abbrev pub rest_on : (Glk → List ℕ → Reached (Glk × List ℕ)) → Glk → List ℕ
    → Option ℕ
    → Reached (Glk × List ℕ)
rest_on rest g bytes None = Ok (g, bytes)
rest_on rest g bytes (Some code) = rest g (bytes ++ (code_taken false code ∷ []))

-- the characters of a stream from its position to its end, at most so many, behind these bytes
unfoldable pub rest_of_stream : ℕ → Glk → MemoryMap → ℕ → List ℕ
    → Reached (Glk × List ℕ)
rest_of_stream zero g m n bytes = Ok (g, bytes)
rest_of_stream (suc most) g m n bytes =
    got_code g m n >>= (λ p. rest_on (λ h read. rest_of_stream most h m n read) p.0 bytes p.1)

-- the state that the bytes spell is restored; where they are refused the result is 1
abbrev pub brought_back : Machine → Result Saved SaveFault → Result Machine ℕ
brought_back m (Err cause) = finished m 1
brought_back m (Ok s) = resumed m s

-- what the stream holds from its position on is read, and the state that it spells restored; the
-- result is 1 where it spells none. No stream holds more than 2^32 - 1 characters
abbrev pub rest_restored : List ℕ → Glk → Machine → ℕ → Reached (Glk × Machine)
rest_restored image g m n =
    rest_of_stream 4294967295 g m.memory n []
    >>= (λ p. within p.0 (brought_back m (save_in image p.1)) >>= (λ k. Ok (p.0, k)))

-- a restore; the result is 1 too where the stream isn't live or not open for reading
abbrev pub restored : List ℕ → Glk → Machine → ℕ → Reached (Glk × Machine)
restored image g m n =
    if is_readable g n then rest_restored image g m n else result_stored g m 1

-- The call left these, as it should, unless memory ran out.
abbrev pub LeavesGlkAndMachine : Reached (Glk × Machine) → Glk → Machine → Result (Unit {0}) Trap
    → Type 0
LeavesGlkAndMachine should g m (Ok x) = should ≡ Ok (g, m)
LeavesGlkAndMachine should g m (Err (trap.Fault n)) = should ≡ Err (g, n)
LeavesGlkAndMachine should g m (Err trap.NoMemory) = Unit {0}
