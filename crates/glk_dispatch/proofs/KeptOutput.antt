-- Output keeps what the work of a call keeps, and the requests.
use Rattle.std.proofs.Common.{◌≡◌, ℕ, zero, suc, ◌+◌, ◌%◌, ◌^◌, ◌==◌, nat_le, nat_lt, Bool, true}
use Rattle.std.proofs.Common.{false, length, Option, Some, None, Result, Ok, Err, List, cond, refl}
use Rattle.std.proofs.Common.{◌∙◌, inl}
use Rattle.std.specs.Prelude.{IfOk}
use Rattle.vm_memory.specs.Chaining.{◌>>=◌}
use Rattle.vm_memory.specs.Access.{written}
use Rattle.vm_memory.specs.MemoryMap.{MemoryMap, KeepsMap}
use Rattle.vm_memory.specs.declared.fault.MemFault.{MemFault}
use Rattle.glk_windows.specs.Output as windows
use Rattle.glk_windows.specs.declared.window.Content.TheVariants.{Pair}
use Rattle.glk_windows.proofs.AreaLemmas.{SamePlacement, areas-alike, content-placed}
use Rattle.glk_windows.proofs.AreaLemmas.{placement-changed}
use Rattle.glk_streams.specs.Answer as answer
use Rattle.glk_streams.specs.Coding.{coding_of, kept_code, unit_of}
use Rattle.glk_streams.specs.Laws as of_streams
use Rattle.glk_streams.specs.Output as sout
use Rattle.glk_streams.specs.Streams.{StreamTable, stream_at, is_write_mode, with_stream}
use Rattle.glk_streams.specs.declared.fault.StreamStop.{StreamStop}
use Rattle.glk_streams.specs.declared.fault.StreamStop.TheVariants.{BadArgument}
use Rattle.glk_streams.specs.declared.file.File.{File}
use Rattle.glk_streams.specs.declared.stream.Stream.{Stream}
use Rattle.glk_streams.specs.declared.stream.Target.{Target}
use Rattle.glk_streams.specs.declared.stream.Target.TheVariants as to
use Rattle.glk_input.specs.Delivery.{width}
use Rattle.glk_input.specs.declared.request.WindowInput.{WindowInput}
use Rattle.glk_dispatch.specs.Answer.{GlkCall, Reached, within}
use Rattle.glk_dispatch.specs.Fault.{streams_coded}
use Rattle.glk_dispatch.specs.Glk.{character_charged, is_stream, style_of_stream, window_of_stream}
use Rattle.glk_dispatch.specs.Valid.{AreValid, IsReadyGlk}
use Rattle.glk_dispatch.specs.Output as out
use Rattle.glk_dispatch.specs.declared.glk.Glk.{Glk}
use Rattle.glk_dispatch.specs.declared.output.OutputCall.{OutputCall}
use Rattle.glk_dispatch.specs.declared.output.OutputCall.TheVariants.{PutChar, PutCharStream}
use Rattle.glk_dispatch.specs.declared.output.OutputCall.TheVariants.{PutString, PutStringStream}
use Rattle.glk_dispatch.specs.declared.output.OutputCall.TheVariants.{PutBuffer, PutBufferStream}
use Rattle.glk_dispatch.specs.declared.output.TheConstants.{MAX_PRINTED}
use Rattle.glk_dispatch.proofs.KeptLemmas.{Kept, Puts, begins-puts, charged-valid, kept-bind}
use Rattle.glk_dispatch.proofs.KeptLemmas.{kept-if, kept-puts, kept-read, laws, puts, ready-alike}
use Rattle.glk_dispatch.proofs.KeptLemmas.{row, row-needs, with-streams}
use Rattle.glk_dispatch.proofs.KeptStory.{ok-written}
use Rattle.glk_dispatch.proofs.PartLemmas.{LeavesEnds, put-ends, put-links}

-- ---- a character in a stream: the array of a memory stream lies in the story's memory

abbrev middle : {A B : Type 0} → MemoryMap → A × MemoryMap × B → Type 0
middle o p = KeepsMap o p.1

abbrev second : {A : Type 0} → MemoryMap → A × MemoryMap → Type 0
second o p = KeepsMap o p.1

into-memory : (o : MemoryMap) (fs : List File) (place : ℕ) (r : Result MemoryMap MemFault)
    → IfOk r (KeepsMap o)
    → IfOk (sout.in_memory fs (◌>>=◌ (answer.of_memory r) (λ m. Ok (m, place)))) (middle o)
into-memory o fs place (Ok m) h = h
into-memory o fs place (Err e) h = tt

memory-if : (o : MemoryMap) (fs : List File) (m : MemoryMap) (place : ℕ) (t : Bool)
    (r : Result MemoryMap MemFault) → KeepsMap o m → IfOk r (KeepsMap o)
    → IfOk (sout.in_memory fs
    (cond t (◌>>=◌ (answer.of_memory r) (λ n. Ok (n, place + 1))) (Ok (m, place))))
    (middle o)
memory-if o fs m place true r k h = into-memory o fs (place + 1) r h
memory-if o fs m place false r k h = k

ok-put_in : (o : MemoryMap) (t : Target) (u : Bool) (fs : List File) (m : MemoryMap)
    (place code : ℕ) → KeepsMap o m
    → IfOk (sout.put_in_target t u fs m place code) (middle o)
ok-put_in o (to.Window win) u fs m place code k = k
ok-put_in o (to.Memory buf len) u fs m place code k =
    let c = coding_of u (to.Memory buf len) in
    memory-if o fs m place (nat_lt place (sout.length_of buf len))
    (written (unit_of c) m (sout.address_of c buf place) (kept_code c code)) k
    (ok-written o (unit_of c) m (sout.address_of c buf place) (kept_code c code) k)
ok-put_in o (to.File usage name) u fs m place code k = k

put-by-if : (o : MemoryMap) (t : Bool) (r : sout.Put) → IfOk r (middle o)
    → IfOk (cond t r (Err BadArgument)) (middle o)
put-by-if o true r h = h
put-by-if o false r h = tt

put-on : (o : MemoryMap) (r : sout.Put) (f : List File × MemoryMap × ℕ → StreamTable)
    → IfOk r (middle o)
    → IfOk (◌>>=◌ r (λ done. Ok (f done, done.1))) (second o)
put-on o (Ok p) f h = h
put-on o (Err e) f h = tt

put-live : (o : MemoryMap) (t : StreamTable) (n : ℕ) (s : Option Stream) (m : MemoryMap) (code : ℕ)
    → KeepsMap o m
    → IfOk (answer.live s (λ x. ◌>>=◌ (sout.put_by t.files m x code)
    (λ done. Ok (
      with_stream (record t { files = done.0 }) n
          (sout.write_counted (sout.at_position done.2 x)),
      done.1,
    )))) (second o)
put-live o t n None m code k = tt
put-live o t n (Some x) m code k =
    put-on o (sout.put_by t.files m x code)
    (λ done.
    with_stream (record t { files = done.0 }) n (sout.write_counted (sout.at_position done.2 x)))
    (put-by-if o (is_write_mode x.mode)
    (sout.put_in_target x.target x.unicode t.files m x.place code)
    (ok-put_in o x.target x.unicode t.files m x.place code k))

-- ---- characters of a call

kept-put : (b : GlkCall) (rs : List WindowInput) (g : Glk) (m : MemoryMap)
    (r : Result (StreamTable × MemoryMap) StreamStop) → Puts b rs g m
    → (AreValid g → of_streams.LeavesBeside r) → LeavesEnds g.streams r → IfOk r (second b.memory)
    → Kept b (puts b rs)
    (within g (streams_coded r) >>= (λ p. Ok (record g { streams = p.0 }, p.1)))
kept-put b rs g m (Ok p) k l same h = record {
  keeps = record {
    parts = λ v. let w = k.keeps.parts v in
        with-streams g p.0 w (l w.valid.parts) (λ n. inl (same n));
    map = h;
    stack = k.keeps.stack;
  };
  asked = k.asked;
}
kept-put b rs g m (Err e) k l same h = k.keeps.parts

kept-streamed : (b : GlkCall) (rs : List WindowInput) (g : Glk) (m : MemoryMap) (n code : ℕ)
    → Puts b rs g m → Kept b (puts b rs) (out.streamed g m n code)
kept-streamed b rs g m n code k =
    kept-put b rs g m (sout.put_on_stream g.streams m n code) k
    (λ v. (laws.streams g.streams v.streams).write m n code)
    (put-ends g.streams m n code)
    (put-live b.memory g.streams n (stream_at g.streams n) m code k.keeps.map)

put-placement : (code style : ℕ) → SamePlacement (λ c. windows.content_put c code style)
put-placement code style (Pair p) = (refl, refl)
put-placement code style c = (refl, refl)

shown-valid : (g : Glk) (win style code : ℕ)
    → IsReadyGlk g
    → IsReadyGlk (out.character_shown g win style code)
shown-valid g win style code v =
    ready-alike g (out.character_shown g win style code)
    (record { windows = put-links g.windows win code style; streams = λ m. refl }) refl refl refl
    (record {
      windows = laws.windows.put g.windows win code style v.valid.parts.windows;
      streams = v.valid.parts.streams;
      requests = v.valid.parts.requests;
      next = v.valid.parts.next;
    })
    (areas-alike g.windows (windows.put_on_window g.windows win code style) g.cols g.rows refl
    (placement-changed (λ w. windows.window_put w code style) (λ w. refl)
    (content-placed (λ c. windows.content_put c code style) (put-placement code style))
    g.windows.slots win) v.valid.areas) v

-- another Glk state with the same requests
puts-in : (b : GlkCall) (rs : List WindowInput) (g h : Glk) (m : MemoryMap)
    → (IsReadyGlk g → IsReadyGlk h)
    → h.requests ≡ g.requests → Puts b rs g m → Puts b rs h m
puts-in b rs g h m f e k = record {
  keeps = record { parts = λ v. f (k.keeps.parts v); map = k.keeps.map; stack = k.keeps.stack };
  asked = e ∙ k.asked;
}

kept-put_once : (b : GlkCall) (rs : List WindowInput) (g : Glk) (m : MemoryMap) (n style code : ℕ)
    → Puts b rs g m
    → Kept b (puts b rs) (out.put_once g m n style code)
kept-put_once b rs g m n style code k =
    kept-if b (puts b rs) (window_of_stream g n == 0) _ _ (λ e. kept-streamed b rs g m n code k)
    (λ e. kept-if b (puts b rs) (nat_le MAX_PRINTED g.printed) _ _ (λ f. k.keeps.parts)
    (λ f. kept-streamed b rs (out.character_shown g (window_of_stream g n) style code) m n code
    (puts-in b rs g _ m (shown-valid g (window_of_stream g n) style code) refl k)))

kept-spread : (b : GlkCall) (rs : List WindowInput) (steps : ℕ) (g : Glk) (m : MemoryMap)
    (n code : ℕ)
    → Puts b rs g m
    → Kept b (puts b rs) (out.spread steps g m n code)
unfolding out.spread
kept-spread b rs zero g m n code k = k
kept-spread b rs (suc steps) g m n code k =
    kept-if b (puts b rs) (n == 0) _ _ (λ e. k)
    (λ e. kept-bind b (puts b rs) (puts b rs) (out.put_once g m n (style_of_stream g n) code)
    (λ p. out.spread steps p.0 p.1 (out.echo_from p.0 n) code)
    (kept-put_once b rs g m n (style_of_stream g n) code k)
    (λ p h. kept-spread b rs steps p.0 p.1 (out.echo_from p.0 n) code h))

pub kept-spread_all : (b : GlkCall) (rs : List WindowInput) (g : Glk) (m : MemoryMap) (n code : ℕ)
    → Puts b rs g m
    → Kept b (puts b rs) (out.spread_all g m n code)
kept-spread_all b rs g m n code k = kept-spread b rs (length g.windows.slots + 1) g m n code k

pub kept-put_code : (b : GlkCall) (rs : List WindowInput) (g : Glk) (m : MemoryMap) (n code : ℕ)
    → Puts b rs g m → Kept b (puts b rs) (out.put_code g m n code)
kept-put_code b rs g m n code k = kept-spread_all b rs (character_charged g) m n code
    (puts-in b rs g _ m (charged-valid g) refl k)

kept-put_array : (b : GlkCall) (rs : List WindowInput) (count : ℕ) (u : Bool) (g : Glk)
    (m : MemoryMap)
    (n at : ℕ) → Puts b rs g m
    → Kept b (puts b rs) (out.put_array count u g m n at)
unfolding out.put_array
kept-put_array b rs zero u g m n at k = k
kept-put_array b rs (suc count) u g m n at k =
    kept-bind b (puts b rs) (puts b rs) (out.put_item u g m n at)
    (λ p. out.put_array count u p.0 p.1 n ((at + width u) % 2 ^ 32))
    (kept-read b (puts b rs) g (out.array_code_at u m at)
    (λ code. out.put_code g m n code) k.keeps.parts
    (λ code. kept-put_code b rs g m n code k))
    (λ p h. kept-put_array b rs count u p.0 p.1 n ((at + width u) % 2 ^ 32) h)

kept-put_text : (b : GlkCall) (rs : List WindowInput) (count : ℕ) (u : Bool) (g : Glk)
    (m : MemoryMap)
    (n at : ℕ) → Puts b rs g m
    → Kept b (puts b rs) (out.put_text count u g m n at)
unfolding out.put_text
kept-put_text b rs zero u g m n at k = k.keeps.parts
kept-put_text b rs (suc count) u g m n at k =
    kept-read b (puts b rs) g (out.array_code_at u m at) _ k.keeps.parts
    (λ code. kept-if b (puts b rs) (code == 0) _ _ (λ e. k)
    (λ e. kept-bind b (puts b rs) (puts b rs) (out.put_code g m n code)
    (λ p. out.put_text count u p.0 p.1 n ((at + width u) % 2 ^ 32))
    (kept-put_code b rs g m n code k)
    (λ p h. kept-put_text b rs count u p.0 p.1 n ((at + width u) % 2 ^ 32) h)))

kept-put_string : (b : GlkCall) (rs : List WindowInput) (u : Bool) (g : Glk) (m : MemoryMap)
    (n at : ℕ)
    → Puts b rs g m
    → Kept b (puts b rs) (out.put_string u g m n at)
kept-put_string b rs u g m n at k =
    kept-read b (puts b rs) g (out.text_start u m at) _ k.keeps.parts
    (λ from. kept-put_text b rs (length m.bytes + 1) u g m n from k)

pub kept-echo_put : (b : GlkCall) (rs : List WindowInput) (g : Glk) (m : MemoryMap)
    (n style code : ℕ)
    → Puts b rs g m
    → Kept b (puts b rs) (out.echo_put g m n style code)
unfolding out.echo_put
kept-echo_put b rs g m n style code k =
    kept-bind b (puts b rs) (puts b rs) (out.put_once g m n style code)
    (λ p. out.spread_all p.0 p.1 (out.echo_from p.0 n) code)
    (kept-put_once b rs g m n style code k)
    (λ p h. kept-spread_all b rs p.0 p.1 (out.echo_from p.0 n) code h)

kept-put_row : (s : GlkCall) (r : Reached (Glk × MemoryMap))
    → (Puts s s.glk.requests s.glk s.memory → Kept s (puts s s.glk.requests) r)
    → Kept s (row s) (out.leaves_glk_and_memory s r)
kept-put_row s r h = kept-puts s s.glk.requests r 0 (h (begins-puts s s.glk (λ v. v)))

pub kept-output_work : (c : OutputCall) (s : GlkCall) (l : ℕ → ℕ)
    → Kept s (row s) (out.output_work c s l)
unfolding out.output_work
kept-output_work (PutChar u) s l = kept-put_row s _
    (kept-put_code s s.glk.requests s.glk s.memory (out.current s) (out.plain_or_unicode u (l 0)))
kept-output_work (PutCharStream u) s l =
    row-needs s (row s) (is_stream s.glk (l 0)) 21 _
    (λ e. kept-put_row s _ (kept-put_code s s.glk.requests s.glk s.memory (l 0)
    (out.plain_or_unicode u (l 1))))
kept-output_work (PutString u) s l = kept-put_row s _
    (kept-put_string s s.glk.requests u s.glk s.memory (out.current s) (l 0))
kept-output_work (PutStringStream u) s l =
    row-needs s (row s) (is_stream s.glk (l 0)) 21 _
    (λ e. kept-put_row s _ (kept-put_string s s.glk.requests u s.glk s.memory (l 0) (l 1)))
kept-output_work (PutBuffer u) s l = kept-put_row s _
    (kept-put_array s s.glk.requests (l 1) u s.glk s.memory (out.current s) (l 0))
kept-output_work (PutBufferStream u) s l =
    row-needs s (row s) (is_stream s.glk (l 0)) 21 _
    (λ e. kept-put_row s _ (kept-put_array s s.glk.requests (l 2) u s.glk s.memory (l 0) (l 1)))
