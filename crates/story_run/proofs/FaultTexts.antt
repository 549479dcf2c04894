-- Calls that put and read characters, and those of streams and file references, are refused by
-- numbers of faults.
use Rattle.std.proofs.Common.{ℕ, zero, suc, ◌+◌, ◌-◌, ◌%◌, ◌^◌, ◌==◌, ◌||◌, ◌&&◌, nat_le, Bool}
use Rattle.std.proofs.Common.{true, false, List, [], ◌∷◌, ◌++◌, length, Option, Some, None, cond}
use Rattle.std.proofs.Common.{refl}
use Rattle.vm_memory.specs.Access.{read, written}
use Rattle.vm_memory.specs.MemoryMap.{MemoryMap}
use Rattle.glk_input.specs.Delivery as delivery
use Rattle.glk_dispatch.specs.Answer.{GlkCall, Reached}
use Rattle.glk_dispatch.specs.FileRefs as names
use Rattle.glk_dispatch.specs.Glk.{character_charged, is_ref, is_stream, style_of_stream}
use Rattle.glk_dispatch.specs.Glk.{window_of_stream}
use Rattle.glk_dispatch.specs.Output as out
use Rattle.glk_dispatch.specs.Streams as rows
use Rattle.glk_dispatch.specs.declared.filerefs.FileRefCall.{FileRefCall}
use Rattle.glk_dispatch.specs.declared.filerefs.FileRefCall.TheVariants as fref
use Rattle.glk_dispatch.specs.declared.glk.Glk.{Glk}
use Rattle.glk_dispatch.specs.declared.output.OutputCall.{OutputCall}
use Rattle.glk_dispatch.specs.declared.output.OutputCall.TheVariants as put
use Rattle.glk_dispatch.specs.declared.output.TheConstants.{MAX_PRINTED}
use Rattle.glk_dispatch.specs.declared.streams.StreamCall.{StreamCall}
use Rattle.glk_dispatch.specs.declared.streams.StreamCall.TheVariants as str
use Rattle.story_run.proofs.FaultLemmas.{Numbered, fails-bind, fails-by, fails-err, fails-if}
use Rattle.story_run.proofs.FaultLemmas.{fails-ok, known, of-memory}
use Rattle.story_run.proofs.FaultStreams.{Called, closed-fails, copied-fails, current-fails}
use Rattle.story_run.proofs.FaultStreams.{deleted-fails, dropped-fails, got-fails, in-call, leaves}
use Rattle.story_run.proofs.FaultStreams.{makes, needs-live, of-streams, opened_file-fails}
use Rattle.story_run.proofs.FaultStreams.{opened_memory-fails, position-fails, put-fails, refers}
use Rattle.story_run.proofs.FaultStreams.{refers-all, sought-fails, streams-changed, streams-left}
use Rattle.story_run.proofs.FaultStreams.{there-fails, told}

-- ---- characters that are put

streamed-called : (g : Glk) (m : MemoryMap) (n code : ℕ) → Called (out.streamed g m n code)
streamed-called g m n code =
    fails-bind (in-call g (of-streams (put-fails g.streams m n code))) (λ p. fails-ok)

once-called : (g : Glk) (m : MemoryMap) (n style code : ℕ) → Called (out.put_once g m n style code)
once-called g m n style code =
    fails-if (window_of_stream g n == 0) (streamed-called g m n code)
    (fails-if (nat_le MAX_PRINTED g.printed) (fails-err (known refl))
    (streamed-called (out.character_shown g (window_of_stream g n) style code) m n code))

spread-called : (steps : ℕ) (g : Glk) (m : MemoryMap) (n code : ℕ)
    → Called (out.spread steps g m n code)
unfolding out.spread
spread-called zero g m n code = fails-ok
spread-called (suc steps) g m n code =
    fails-if (n == 0) fails-ok
    (fails-bind (once-called g m n (style_of_stream g n) code)
    (λ p. spread-called steps p.0 p.1 (out.echo_from p.0 n) code))

spread_all-called : (g : Glk) (m : MemoryMap) (n code : ℕ) → Called (out.spread_all g m n code)
spread_all-called g m n code = spread-called (length g.windows.slots + 1) g m n code

pub put-called : (g : Glk) (m : MemoryMap) (n code : ℕ) → Called (out.put_code g m n code)
put-called g m n code = spread_all-called (character_charged g) m n code

put_array-called : (count : ℕ) (u : Bool) (g : Glk) (m : MemoryMap) (n at : ℕ)
    → Called (out.put_array count u g m n at)
unfolding out.put_array
put_array-called zero u g m n at = fails-ok
put_array-called (suc count) u g m n at =
    fails-bind {r = out.put_item u g m n at}
    (fails-bind (in-call g (of-memory (read (delivery.width u) m at)))
    (λ code. put-called g m n code))
    (λ p. put_array-called count u p.0 p.1 n ((at + delivery.width u) % 2 ^ 32))

of-text_start : (u : Bool) (m : MemoryMap) (at : ℕ) → Numbered (out.text_start u m at)
of-text_start u m at =
    fails-bind (of-memory (read 1 m at))
    (λ kind. fails-if (kind == cond u 0xE2 0xE0) fails-ok (fails-by refl))

put_text-called : (left : ℕ) (u : Bool) (g : Glk) (m : MemoryMap) (n at : ℕ)
    → Called (out.put_text left u g m n at)
unfolding out.put_text
put_text-called zero u g m n at = fails-err (known refl)
put_text-called (suc left) u g m n at =
    fails-bind (in-call g (of-memory (read (delivery.width u) m at)))
    (λ code. fails-if (code == 0) fails-ok
    (fails-bind (put-called g m n code)
    (λ p. put_text-called left u p.0 p.1 n ((at + delivery.width u) % 2 ^ 32))))

put_string-called : (u : Bool) (g : Glk) (m : MemoryMap) (n at : ℕ)
    → Called (out.put_string u g m n at)
put_string-called u g m n at =
    fails-bind (in-call g (of-text_start u m at))
    (λ from. put_text-called (length m.bytes + 1) u g m n from)

pub echo_put-called : (g : Glk) (m : MemoryMap) (n style code : ℕ)
    → Called (out.echo_put g m n style code)
unfolding out.echo_put
echo_put-called g m n style code =
    fails-bind (once-called g m n style code)
    (λ p. spread_all-called p.0 p.1 (out.echo_from p.0 n) code)

changed-called : {r : Reached (Glk × MemoryMap)} (s : GlkCall)
    → Called r → Called (out.leaves_glk_and_memory s r)
changed-called s h = fails-bind h (λ p. fails-ok)

pub output-called : (k : OutputCall) (s : GlkCall) (l : ℕ → ℕ) → Called (out.output_work k s l)
unfolding out.output_work
output-called (put.PutChar u) s l =
    changed-called s (put-called s.glk s.memory (out.current s) (out.plain_or_unicode u (l 0)))
output-called (put.PutCharStream u) s l =
    needs-live s.glk (is_stream s.glk (l 0))
    (changed-called s (put-called s.glk s.memory (l 0) (out.plain_or_unicode u (l 1))))
output-called (put.PutString u) s l =
    changed-called s (put_string-called u s.glk s.memory (out.current s) (l 0))
output-called (put.PutStringStream u) s l =
    needs-live s.glk (is_stream s.glk (l 0))
    (changed-called s (put_string-called u s.glk s.memory (l 0) (l 1)))
output-called (put.PutBuffer u) s l =
    changed-called s (put_array-called (l 1) u s.glk s.memory (out.current s) (l 0))
output-called (put.PutBufferStream u) s l =
    needs-live s.glk (is_stream s.glk (l 0))
    (changed-called s (put_array-called (l 2) u s.glk s.memory (l 0) (l 1)))

-- ---- characters that are read

pub got-called : (g : Glk) (m : MemoryMap) (n : ℕ) → Called (rows.got_code g m n)
got-called g m n =
    fails-bind {r = rows.char_got g m n} (streams-changed g (got-fails g.streams m n))
    (λ p. fails-ok)

kept-called : (u : Bool) (g : Glk) (m : MemoryMap) (at : ℕ) (o : Option ℕ)
    → Called (rows.item_kept u g m at o)
kept-called u g m at None = fails-ok
kept-called u g m at (Some code) =
    fails-bind (in-call g (of-memory
    (written (delivery.width u) m at (delivery.code_taken u code))))
    (λ n. fails-ok)

item-called : (u : Bool) (g : Glk) (m : MemoryMap) (n at : ℕ) → Called (rows.got_item u g m n at)
item-called u g m n at = fails-bind (got-called g m n) (λ p. kept-called u p.0 m at p.1)

got_array-called : (left : ℕ) (line u : Bool) (g : Glk) (m : MemoryMap) (n at count : ℕ)
    → Called (rows.got_array left line u g m n at count)
unfolding rows.got_array
got_array-called zero line u g m n at count = fails-ok
got_array-called (suc left) line u g m n at count =
    fails-bind (item-called u g m n at)
    (λ p. on p.2 p.0 p.1 (λ count.
    got_array-called left line u p.0 p.1 n ((at + delivery.width u) % 2 ^ 32) count))
  where
    on : (o : Option ℕ) (h : Glk) (k : MemoryMap)
        → ((count : ℕ) → Called (rows.got_array left line u h k n
        ((at + delivery.width u) % 2 ^ 32) count))
        → Called (rows.got_on (λ h k c. rows.got_array left line u h k n
        ((at + delivery.width u) % 2 ^ 32) c) line h k count o)
    on None h k more = fails-ok
    on (Some code) h k more = fails-if (line && code == 10) fails-ok (more (count + 1))

got_line-called : (u : Bool) (g : Glk) (m : MemoryMap) (n buf len : ℕ)
    → Called (rows.got_line u g m n buf len)
got_line-called u g m n buf len =
    fails-bind (got_array-called (len - 1) true u g m n buf 0)
    (λ p. fails-bind (in-call p.0 (of-memory
    (written (delivery.width u) p.1 (rows.address_behind u buf p.2) 0)))
    (λ k. fails-ok))

gets-called : {r : Reached (Glk × MemoryMap × ℕ)} (s : GlkCall)
    → Called r → Called (rows.gets s r)
gets-called s h = fails-bind h (λ p. fails-ok)

pub position-called : (g : Glk) (n : ℕ) → Numbered (rows.stream_position g n)
position-called g n = of-streams (position-fails g.streams n)

closes-called : (s : GlkCall) (n result : ℕ) → Called (rows.closes_stream s n result)
closes-called s n result =
    told 0
    (fails-bind {r = rows.glk_without_stream s.glk n}
    (fails-bind (streams-changed s.glk (closed-fails s.glk.streams n)) (λ p. fails-ok))
    (λ p. refers-all (record s { glk = p.0 }) result (p.1.read ∷ p.1.written ∷ [])))

pub stream-called : (k : StreamCall) (s : GlkCall) (l : ℕ → ℕ) → Called (rows.stream_work k s l)
unfolding rows.stream_work
stream-called str.Iterate s l =
    needs-live s.glk (l 0 == 0 || is_stream s.glk (l 0)) (told _ (refers s (l 1) _))
stream-called str.GetRock s l = needs-live s.glk (is_stream s.glk (l 0)) fails-ok
stream-called (str.OpenFile u) s l =
    makes s (streams-changed s.glk (opened_file-fails s.glk.streams (l 0) (l 1) (l 2) u))
stream-called (str.OpenMemory u) s l =
    makes s (streams-changed s.glk (opened_memory-fails s.glk.streams (l 0) (l 1) (l 2) (l 3) u))
stream-called str.Close s l = closes-called s (l 0) (l 1)
stream-called str.SetPosition s l =
    leaves s (streams-left s.glk (sought-fails s.glk.streams (l 0) (l 1) (l 2)))
stream-called str.GetPosition s l =
    fails-bind (in-call s.glk (position-called s.glk (l 0))) (λ x. fails-ok)
stream-called str.SetCurrent s l =
    leaves s (streams-left s.glk (current-fails s.glk.streams (l 0)))
stream-called str.GetCurrent s l = fails-ok
stream-called str.OpenResource s l = fails-ok
stream-called (str.GetChar u) s l =
    makes s (needs-live s.glk (is_stream s.glk (l 0))
    (fails-bind (got-called s.glk s.memory (l 0)) (λ p. fails-ok)))
stream-called (str.GetLine u) s l =
    gets-called s (needs-live s.glk (is_stream s.glk (l 0))
    (fails-if (l 2 == 0) fails-ok (got_line-called u s.glk s.memory (l 0) (l 1) (l 2))))
stream-called (str.GetBuffer u) s l =
    gets-called s (needs-live s.glk (is_stream s.glk (l 0))
    (got_array-called (l 2) false u s.glk s.memory (l 0) (l 1) 0))

-- ---- file references

name-called : (left : ℕ) (g : Glk) (m : MemoryMap) (at : ℕ) (name : List ℕ)
    → Called (names.name_read left g m at name)
unfolding names.name_read
name-called zero g m at name = fails-err (known refl)
name-called (suc left) g m at name =
    fails-bind (in-call g (of-memory (read 1 m at)))
    (λ code. fails-if (code == 0) fails-ok
    (name-called left (character_charged g) m ((at + 1) % 2 ^ 32) (name ++ code ∷ [])))

named-called : (g : Glk) (m : MemoryMap) (usage name rock : ℕ)
    → Called (names.named_made g m usage name rock)
named-called g m usage name rock =
    fails-bind {r = names.name_at g m name}
    (fails-bind (in-call g (of-text_start false m name))
    (λ from. name-called (length m.bytes + 1) g m from []))
    (λ p. fails-ok)

pub fileref-called : (k : FileRefCall) (s : GlkCall) (l : ℕ → ℕ) → Called (names.fileref_work k s l)
unfolding names.fileref_work
fileref-called fref.CreateTemp s l = fails-ok
fileref-called fref.CreateByName s l = makes s (named-called s.glk s.memory (l 0) (l 1) (l 2))
fileref-called fref.CreateByPrompt s l = fails-ok
fileref-called fref.CreateFromFileref s l =
    makes s (streams-changed s.glk (copied-fails s.glk.streams (l 0) (l 1) (l 2)))
fileref-called fref.Destroy s l =
    leaves s (streams-left s.glk (dropped-fails s.glk.streams (l 0)))
fileref-called fref.Iterate s l =
    needs-live s.glk (l 0 == 0 || is_ref s.glk (l 0)) (told _ (refers s (l 1) _))
fileref-called fref.GetRock s l = needs-live s.glk (is_ref s.glk (l 0)) fails-ok
fileref-called fref.DeleteFile s l =
    leaves s (streams-left s.glk (deleted-fails s.glk.streams (l 0)))
fileref-called fref.DoesFileExist s l =
    fails-bind (in-call {r = names.told_of_file s.glk (l 0)} s.glk
    (fails-bind (of-streams (there-fails s.glk.streams (l 0))) (λ there. fails-ok)))
    (λ x. fails-ok)
