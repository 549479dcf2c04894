-- Each call keeps what is valid.
use Rattle.std.proofs.Common.{◌≡◌, ◌≤◌, ◌<◌, ℕ, ◌+◌, ◌-◌, Bool, true, false, ◌||◌, List, [], ◌∷◌}
use Rattle.std.proofs.Common.{◌++◌, refl, Option, Some, None, Result, Ok, Err, arith, nat_lt}
use Rattle.std.proofs.Common.{nat_le, ◌==◌, length, not, take, drop, length-append, length-drop}
use Rattle.std.specs.Prelude.{cond}
use Rattle.std.proofs.lemmas.Grind.{common_steps}
use Rattle.std.proofs.lemmas.Bool.{and_from, and_parts, not-false, or_parts}
use Rattle.std.proofs.lemmas.List.{length-take}
use Rattle.vm_memory.specs.Chaining.{◌>>=◌}
use Rattle.vm_memory.specs.MemoryMap.{MemoryMap, replaced}
use Rattle.glk_numbers.specs.Numbered.{without}
use Rattle.glk_streams.specs.declared.coding.Coding.{Coding}
use Rattle.glk_streams.specs.declared.coding.Reading.{Reading}
use Rattle.glk_streams.specs.declared.fault.StreamStop.{StreamStop}
use Rattle.glk_streams.specs.declared.fault.StreamStop.TheVariants.{BadArgument}
use Rattle.glk_streams.specs.declared.file.File as file
use Rattle.glk_streams.specs.declared.fileref.FileRef.{FileRef}
use Rattle.glk_streams.specs.declared.stream.Stream.{Stream}
use Rattle.glk_streams.specs.declared.stream.Target.{Target}
use Rattle.glk_streams.specs.declared.stream.Target.TheVariants.{Window, Memory, File}
use Rattle.glk_streams.specs.Answer.{live}
use Rattle.glk_streams.specs.Coding.{coding_of, bytes_kept}
use Rattle.glk_streams.specs.FileRefs.{made_ref, with_current, style_of}
use Rattle.glk_streams.specs.Files.{has_file, content_of, files_holding, sum_of_bytes}
use Rattle.glk_streams.specs.Files.{file_may_stand, room_of, without_file}
use Rattle.glk_streams.specs.Input.{bytes_by, got_by, passed, passed_by, stream_behind}
use Rattle.glk_streams.specs.Input.{stream_passed}
use Rattle.glk_streams.specs.Laws.{AreValidStreams, LeavesValidStreams}
use Rattle.glk_streams.specs.Laws.{LeavesBeside, StreamsStayValid}
use Rattle.glk_streams.specs.Opening.{opened_window, opened_memory, opened_ref, opened_name}
use Rattle.glk_streams.specs.Opening.{readied, can_open, first_place, fresh_stream}
use Rattle.glk_streams.specs.Opening.{added_with_number, stream_taken, count_of, are_streams_full}
use Rattle.glk_streams.specs.Opening.{is_memory_mode, is_file_mode, stream_dropped}
use Rattle.glk_streams.specs.Output.{put_by, put_in_target, put_bytes, put_in_memory, in_memory}
use Rattle.glk_streams.specs.Output.{is_kept, byte_start, write_counted, at_position, Put}
use Rattle.glk_streams.specs.Position.{sought_in}
use Rattle.glk_streams.specs.Streams.{StreamTable, ref_number_of, stream_at}
use Rattle.glk_streams.specs.Streams.{ref_at, stream_of_window, is_window_target}
use Rattle.glk_streams.specs.Streams.{of_stream, with_stream, is_write_mode}
use Rattle.glk_streams.specs.Valid.{is_current, are_files, are_streams}
use Rattle.glk_streams.proofs.ValidLemmas.{count-window, count-more}
use Rattle.glk_streams.proofs.ValidLaws.{Parts, parts_of, of_parts, changed-valid, files_of}
use Rattle.glk_streams.proofs.ValidLaws.{files-held, files-without, held_of, streams-more}
use Rattle.glk_streams.proofs.ValidLaws.{streams-without, streams-current, refs-more, refs-without}

-- opening

window-by : (t : StreamTable) (win : ℕ) (s : Bool)
    → nat_lt 4294967294 t.next ≡ s → AreValidStreams t
    → AreValidStreams (opened_window t win).0
window-by t win true e h = rw e h
window-by t win false e h =
    let p = parts_of t h in
    let v = fresh_stream t.next 0 1 false (Window win) 0 in
    let r = held_of t.next t.current t.streams p.streams in
    let low : t.next ≤ 4294967294 = grind (arith, common_steps, e) in
    let few : count_of (t.streams ++ v ∷ []) ≤ 64 =
    grind (arith, common_steps, count-window t.streams v refl, r.count) in
    rw e (of_parts (added_with_number t v).0 (record {
      streams = streams-more t.next t.current t.streams v p.streams low refl refl few;
      refs = p.refs;
      files = p.files;
    }))

room-of : (t : StreamTable)
    → are_streams_full t ≡ false
    → (t.next ≤ 4294967294) × (count_of t.streams < 64)
room-of t e =
    let a = or_parts (nat_lt 4294967294 t.next) (nat_le 64 (count_of t.streams)) e in
    (grind (arith, common_steps, a.0), grind (arith, common_steps, a.1))

memory-by : (t : StreamTable) (buf len mode rock : ℕ) (unicode : Bool) (a b : Bool)
    → is_memory_mode mode ≡ a → are_streams_full t ≡ b → AreValidStreams t
    → LeavesBeside (opened_memory t buf len mode rock unicode)
memory-by t buf len mode rock unicode false b e f h = rw e tt
memory-by t buf len mode rock unicode true true e f h = rw (e, f) h
memory-by t buf len mode rock unicode true false e f h =
    let p = parts_of t h in
    let v = fresh_stream t.next rock mode unicode (Memory buf len) 0 in
    let room = room-of t f in
    let few : count_of (t.streams ++ v ∷ []) ≤ 64 =
    grind (arith, common_steps, count-more t.streams v, room.1) in
    rw (e, f) (of_parts (added_with_number t v).0 (record {
      streams = streams-more t.next t.current t.streams v p.streams room.0 refl
          (and_from (is_memory_mode mode) true e refl) few;
      refs = p.refs;
      files = p.files;
    }))

stands : (fs : List file.File) (u : ℕ) (n : List ℕ) (mode : ℕ) → can_open fs u n mode ≡ true
    → file_may_stand fs u n ≡ true
stands fs u n mode e = grind (arith, common_steps, e)

emptied : (fs : List file.File) (u : ℕ) (n : List ℕ)
    → are_files fs ≡ true → file_may_stand fs u n ≡ true
    → are_files (files_holding fs u n []) ≡ true
emptied fs u n h m =
    let f = files_of fs h in
    files-held fs u n [] h m (grind (arith, common_steps, f.bytes))

name-by : (t : StreamTable) (u : ℕ) (n : List ℕ) (mode rock : ℕ) (unicode : Bool) (s : Bool)
    → (mode == 1 || not (has_file t.files u n)) ≡ s → is_file_mode mode ≡ true
    → file_may_stand t.files u n ≡ true → are_streams_full t ≡ false → AreValidStreams t
    → AreValidStreams (opened_name t u n mode rock unicode).0
name-by t u n mode rock unicode s e m stand f h =
    let p = parts_of t h in
    let v =
    fresh_stream t.next rock mode unicode (File u n) (first_place t.files u n mode unicode) in
    let room = room-of t f in
    let few : count_of (t.streams ++ v ∷ []) ≤ 64 =
    grind (arith, common_steps, count-more t.streams v, room.1) in
    let streams = streams-more t.next t.current t.streams v p.streams room.0 refl
    (and_from (is_file_mode mode) true m refl) few in
    by s e v streams p stand
  where
    by : (s : Bool) → (mode == 1 || not (has_file t.files u n)) ≡ s → (v : Stream)
        → are_streams (t.next + 1) t.current (t.streams ++ v ∷ []) ≡ true → Parts t
        → file_may_stand t.files u n ≡ true
        → AreValidStreams (added_with_number (readied t u n mode) v).0
    by true e v streams p stand =
        rw e (of_parts (added_with_number (record t { files = files_holding t.files u n [] }) v).0
        (record {
          streams = streams;
          refs = p.refs;
          files = emptied t.files u n p.files stand;
        }))
    by false e v streams p stand =
        rw e (of_parts (added_with_number t v).0
        (record { streams = streams; refs = p.refs; files = p.files }))

ref-by : (t : StreamTable) (r : FileRef) (mode rock : ℕ) (unicode : Bool) (a b : Bool)
    → is_file_mode mode ≡ a → (are_streams_full t || not (can_open t.files r.usage r.name mode)) ≡ b
    → AreValidStreams t
    → LeavesBeside (opened_ref t r mode rock unicode)
ref-by t r mode rock unicode false b e f h = rw e tt
ref-by t r mode rock unicode true true e f h = rw (e, f) h
ref-by t r mode rock unicode true false e f h =
    let a = or_parts (are_streams_full t) (not (can_open t.files r.usage r.name mode)) f in
    rw (e, f) (name-by t r.usage r.name mode rock unicode
    (mode == 1 || not (has_file t.files r.usage r.name)) refl e
    (stands t.files r.usage r.name mode (not-false _ a.1)) a.0 h)

file-by : (t : StreamTable) (o : Option FileRef) (mode rock : ℕ) (unicode : Bool)
    → AreValidStreams t
    → LeavesBeside (live o (λ r. opened_ref t r mode rock unicode))
file-by t None mode rock unicode h = tt
file-by t (Some r) mode rock unicode h =
    ref-by t r mode rock unicode (is_file_mode mode)
    (are_streams_full t || not (can_open t.files r.usage r.name mode)) refl refl h

-- closing

dropped-valid : (t : StreamTable) (n : ℕ) → AreValidStreams t → AreValidStreams (stream_dropped t n)
dropped-valid t n h =
    let p = parts_of t h in
    of_parts (stream_dropped t n) (record {
      streams = streams-without t.next t.current t.streams n p.streams;
      refs = p.refs;
      files = p.files;
    })

close-by : (t : StreamTable) (n : ℕ) (o : Option Stream) → AreValidStreams t
    → LeavesBeside
    (live o (λ s. cond (is_window_target s.target) (Err BadArgument) (Ok (stream_taken t n))))
close-by t n None h = tt
close-by t n (Some s) h = by (is_window_target s.target)
  where
    by : (w : Bool) → LeavesBeside (cond w (Err BadArgument) (Ok (stream_taken t n)))
    by true = tt
    by false = dropped-valid t n h

abbrev FilesIn : Put → Type 0
FilesIn (Ok done) = are_files done.0 ≡ true
FilesIn (Err e) = Unit {0}

replaced-length : (bytes : List ℕ) (at : ℕ) (new : List ℕ)
    → length (replaced bytes at new) ≤ at + length new + (length bytes - (at + length new))
replaced-length bytes at new =
    let tail = drop (at + length new) bytes in
    let whole : length (replaced bytes at new) ≡ length (take at bytes ++ new) + length tail =
    length-append (take at bytes ++ new) tail in
    let front : length (take at bytes ++ new) ≡ length (take at bytes) + length new =
    length-append (take at bytes) new in
    omega (arith, whole, front, length-take at bytes, length-drop (at + length new) bytes)

bytes-by : (fs : List file.File) (place u : ℕ) (n : List ℕ) (c : Coding) (new : List ℕ) (s : Bool)
    → is_kept fs u n (byte_start c (content_of fs u n) place) (length new) ≡ s → are_files fs ≡ true
    → are_files (put_bytes fs place u n c new).0 ≡ true
bytes-by fs place u n c new false e h = rw e h
bytes-by fs place u n c new true e h =
    let at = byte_start c (content_of fs u n) place in
    let a = and_parts (file_may_stand fs u n)
    (nat_le (at + length new - length (content_of fs u n)) (room_of fs)) e in
    let f = files_of fs h in
    let long = replaced-length (content_of fs u n) at new in
    let fits : sum_of_bytes fs + length (replaced (content_of fs u n) at new) ≤ 1048576 + length
    (content_of fs u n) =
    fits-by (sum_of_bytes fs) (length (content_of fs u n)) (at + length new)
    (length (replaced (content_of fs u n) at new)) a.1 f.bytes long in
    rw e (files-held fs u n (replaced (content_of fs u n) at new) h a.0 fits)
  where
    fits-by : (sum was end long : ℕ) → nat_le (end - was) (1048576 - sum) ≡ true
        → nat_le sum 1048576 ≡ true
        → long ≤ end + (was - end) → sum + long ≤ 1048576 + was
    fits-by sum was end long a b l = grind (arith, common_steps, a, b, l)

in-memory : (fs : List file.File) (r : Result (MemoryMap × ℕ) StreamStop) → are_files fs ≡ true
    → FilesIn (in_memory fs r)
in-memory fs (Ok done) h = h
in-memory fs (Err e) h = tt

put-in : (to : Target) (unicode : Bool) (fs : List file.File) (m : MemoryMap) (place code : ℕ)
    → are_files fs ≡ true
    → FilesIn (put_in_target to unicode fs m place code)
put-in (Window win) unicode fs m place code h = h
put-in (Memory buf len) unicode fs m place code h =
    in-memory fs (put_in_memory m place buf len (coding_of unicode (Memory buf len)) code) h
put-in (File u n) unicode fs m place code h =
    bytes-by fs place u n (coding_of unicode (File u n))
    (bytes_kept (coding_of unicode (File u n)) code)
    (is_kept fs u n (byte_start (coding_of unicode (File u n)) (content_of fs u n) place)
    (length (bytes_kept (coding_of unicode (File u n)) code)))
    refl h

put-by : (fs : List file.File) (m : MemoryMap) (s : Stream) (code : ℕ) (w : Bool)
    → is_write_mode s.mode ≡ w
    → are_files fs ≡ true → FilesIn (put_by fs m s code)
put-by fs m s code true e h = rw e (put-in s.target s.unicode fs m s.place code h)
put-by fs m s code false e h = rw e tt

put-then : (t : StreamTable) (n : ℕ) (s : Stream) (r : Put) → stream_at t n ≡ Some s → FilesIn r
    → AreValidStreams t
    → LeavesBeside (r >>=
    (λ done.
    Ok
    (with_stream (record t { files = done.0 }) n (write_counted (at_position done.2 s)), done.1)))
put-then t n s (Ok done) f k h =
    changed-valid t n s (write_counted (at_position done.2 s)) done.0 f refl refl refl (λ y. y) k h
put-then t n s (Err e) f k h = tt

write-by : (t : StreamTable) (m : MemoryMap) (n code : ℕ) (o : Option Stream) → stream_at t n ≡ o
    → AreValidStreams t
    → LeavesBeside (live o (λ s. put_by t.files m s code
    >>= (λ done. Ok (
      with_stream (record t { files = done.0 }) n
          (write_counted (at_position done.2 s)),
      done.1,
    ))))
write-by t m n code None f h = tt
write-by t m n code (Some s) f h =
    put-then t n s (put_by t.files m s code) f
    (put-by t.files m s code (is_write_mode s.mode) refl (parts_of t h).files) h

read-then : (t : StreamTable) (n : ℕ) (s : Stream) (r : Result (Option Reading) StreamStop)
    → stream_at t n ≡ Some s → AreValidStreams t
    → LeavesBeside (r >>= (λ r. Ok (stream_behind t n s r)))
read-then t n s (Err e) f h = tt
read-then t n s (Ok None) f h = h
read-then t n s (Ok (Some r)) f h =
    changed-valid t n s (passed r s) t.files f refl refl refl (λ y. y)
    (parts_of t h).files h

read-by : (t : StreamTable) (m : MemoryMap) (n : ℕ) (o : Option Stream) → stream_at t n ≡ o
    → AreValidStreams t
    → LeavesBeside (live o (λ s. got_by t.files m s >>= (λ r. Ok (stream_behind t n s r))))
read-by t m n None f h = tt
read-by t m n (Some s) f h = read-then t n s (got_by t.files m s) f h

ahead-then : (t : StreamTable) (n : ℕ) (s : Stream) (o : Option (List ℕ)) → stream_at t n ≡ Some s
    → AreValidStreams t → AreValidStreams (stream_passed t n s o).0
ahead-then t n s None f h = h
ahead-then t n s (Some bytes) f h =
    changed-valid t n s (passed_by (length bytes) s) t.files f refl refl refl (λ y. y)
    (parts_of t h).files h

ahead-by : (t : StreamTable) (n : ℕ) (o : Option Stream) → stream_at t n ≡ o → AreValidStreams t
    → AreValidStreams (of_stream o (t, 0) (λ s. stream_passed t n s (bytes_by t.files s))).0
ahead-by t n None f h = h
ahead-by t n (Some s) f h = ahead-then t n s (bytes_by t.files s) f h

sought-same : (to : Target) (fs : List file.File) (s : Stream) (by from : ℕ)
    → ((sought_in to fs s by from).number ≡ s.number) ×
    ((sought_in to fs s by from).target ≡ s.target)
    × ((sought_in to fs s by from).mode ≡ s.mode)
    × ((sought_in to fs s by from).style ≡ s.style)
sought-same (Window win) fs s by from = (refl, refl, refl, refl)
sought-same (Memory buf len) fs s by from = (refl, refl, refl, refl)
sought-same (File u n) fs s by from = (refl, refl, refl, refl)

seek-by : (t : StreamTable) (n by from : ℕ) (o : Option Stream) (b : Bool) → stream_at t n ≡ o
    → nat_lt 2 from ≡ b → AreValidStreams t
    → LeavesValidStreams (live o (λ s. cond (nat_lt 2 from) (Err BadArgument)
    (Ok (with_stream t n (sought_in s.target t.files s by from)))))
seek-by t n by from None b f e h = tt
seek-by t n by from (Some s) true f e h = rw e tt
seek-by t n by from (Some s) false f e h =
    let same = sought-same s.target t.files s by from in
    rw e (changed-valid t n s (sought_in s.target t.files s by from) t.files f same.0 same.1 same.2
    (λ y. rw same.3 y) (parts_of t h).files h)

few-styles : (style : ℕ) → nat_le (style_of style) 10 ≡ true
few-styles style = grind (arith, common_steps)

style-by : (t : StreamTable) (n style : ℕ) (o : Option Stream)
    → stream_at t n ≡ o → AreValidStreams t
    → LeavesValidStreams (live o (λ s. Ok (with_stream t n (record s { style = style_of style }))))
style-by t n style None f h = tt
style-by t n style (Some s) f h =
    changed-valid t n s (record s { style = style_of style }) t.files f refl refl refl
    (λ y. few-styles style) (parts_of t h).files h

current-by : (t : StreamTable) (n : ℕ) (b : Bool) → is_current t.streams n ≡ b → AreValidStreams t
    → LeavesValidStreams (with_current t n)
current-by t n true e h =
    let p = parts_of t h in
    rw e (of_parts (record t { current = n }) (record {
      streams = streams-current t.next t.current n t.streams p.streams e;
      refs = p.refs;
      files = p.files;
    }))
current-by t n false e h = rw e tt

-- references

refer-by : (t : StreamTable) (u : ℕ) (n : List ℕ) (rock : ℕ) (b : Bool)
    → (nat_le 64 (length t.refs) || nat_lt 4294967294 t.next_ref) ≡ b → AreValidStreams t
    → AreValidStreams (made_ref t u n rock).0
refer-by t u n rock true e h = rw e h
refer-by t u n rock false e h =
    let p = parts_of t h in
    let a = or_parts (nat_le 64 (length t.refs)) (nat_lt 4294967294 t.next_ref) e in
    let v : FileRef = record { number = t.next_ref; usage = u; rock = rock; name = n } in
    rw e (of_parts (record t { refs = t.refs ++ v ∷ []; next_ref = t.next_ref + 1 }) (record {
      streams = p.streams;
      refs = refs-more t.next_ref t.refs v p.refs (grind (arith, common_steps, a.1)) refl
          (grind (arith, common_steps, a.0));
      files = p.files;
    }))

refer : (t : StreamTable) (u : ℕ) (n : List ℕ) (rock : ℕ) → AreValidStreams t
    → AreValidStreams (made_ref t u n rock).0
refer t u n rock h =
    refer-by t u n rock (nat_le 64 (length t.refs) || nat_lt 4294967294 t.next_ref) refl h

copy-by : (t : StreamTable) (u rock : ℕ) (o : Option FileRef) → AreValidStreams t
    → LeavesBeside (live o (λ r. Ok (made_ref t u r.name rock)))
copy-by t u rock None h = tt
copy-by t u rock (Some r) h = refer t u r.name rock h

forget-by : (t : StreamTable) (n : ℕ) (o : Option FileRef) → AreValidStreams t
    → LeavesValidStreams (live o (λ r. Ok (record t { refs = without ref_number_of t.refs n })))
forget-by t n None h = tt
forget-by t n (Some r) h =
    let p = parts_of t h in
    of_parts (record t { refs = without ref_number_of t.refs n }) (record {
      streams = p.streams;
      refs = refs-without t.next_ref t.refs n p.refs;
      files = p.files;
    })

delete-by : (t : StreamTable) (o : Option FileRef) → AreValidStreams t
    → LeavesValidStreams
    (live o (λ r. Ok (record t { files = without_file t.files r.usage r.name })))
delete-by t None h = tt
delete-by t (Some r) h =
    let p = parts_of t h in
    of_parts (record t { files = without_file t.files r.usage r.name }) (record {
      streams = p.streams;
      refs = p.refs;
      files = files-without t.files r.usage r.name p.files;
    })

pub keeps : StreamsStayValid
keeps t h = record {
  window = λ win. window-by t win (nat_lt 4294967294 t.next) refl h;
  memory = λ buf len mode rock unicode. memory-by t buf len mode rock unicode (is_memory_mode mode)
      (are_streams_full t) refl refl h;
  file = λ fref mode rock unicode. file-by t (ref_at t fref) mode rock unicode h;
  close = λ n. close-by t n (stream_at t n) h;
  close_window = λ win. dropped-valid t (stream_of_window t.streams win) h;
  write = λ m n code. write-by t m n code (stream_at t n) refl h;
  read = λ m n. read-by t m n (stream_at t n) refl h;
  ahead = λ n. ahead-by t n (stream_at t n) refl h;
  seek = λ n by from. seek-by t n by from (stream_at t n) (nat_lt 2 from) refl refl h;
  style = λ n style. style-by t n style (stream_at t n) refl h;
  current = λ n. current-by t n (is_current t.streams n) refl h;
  refer = λ u n rock. refer t u n rock h;
  copy = λ u fref rock. copy-by t u rock (ref_at t fref) h;
  forget = λ fref. forget-by t fref (ref_at t fref) h;
  delete = λ fref. delete-by t (ref_at t fref) h;
}
