-- What is put to one stream is what another gives.
use Rattle.std.proofs.Common.{◌≡◌, ◌≢◌, ◌≤◌, ℕ, ◌+◌, ◌-◌, Bool, true, false, ◌&&◌, List, [], ◌∷◌}
use Rattle.std.proofs.Common.{◌++◌, refl, sym, ap, ◌∙◌, subst, Ok, arith, nat_le, length}
use Rattle.std.proofs.Common.{length-append}
use Rattle.std.proofs.lemmas.Bool.{and_from}
use Rattle.std.proofs.lemmas.Grind.{common_steps}
use mathlib.Core.List.{append_assoc, append-nil}
use Rattle.std.specs.Ordering.{is_eq, nat_cmp, ordering_reverse}
use Rattle.std.specs.declared.cmp.Ordering.{Ordering}
use Rattle.std.specs.declared.cmp.Ordering.TheVariants.{Less, Equal, Greater}
use Rattle.std.specs.Cmp.Lexicographic.{slice_cmp, nat_list_cmp_total}
use Rattle.vm_memory.specs.MemoryMap.{MemoryMap, replaced}
use Rattle.glk_numbers.proofs.FoundLemmas.{found-other, found-same, number-found}
use Rattle.glk_streams.specs.declared.coding.Coding.{Coding}
use Rattle.glk_streams.specs.declared.file.File as file
use Rattle.glk_streams.specs.declared.stream.Stream.{Stream}
use Rattle.glk_streams.specs.declared.stream.Target.TheVariants.{File}
use Rattle.glk_streams.specs.Coding.{coding_of, bytes_kept, bytes_in, units_of, steps_of}
use Rattle.glk_streams.specs.Files.{key_of_file, is_named, has_file, content_of}
use Rattle.glk_streams.specs.Files.{file_with_bytes, with_file, files_holding}
use Rattle.glk_streams.specs.Files.{sum_of_bytes, file_may_stand, room_of, file_of}
use Rattle.glk_streams.specs.Input.{passed}
use Rattle.glk_streams.specs.Output.{put_on_stream, put_by, put_bytes, byte_start}
use Rattle.glk_streams.specs.Output.{position_held, write_counted, at_position}
use Rattle.glk_streams.specs.RoundTrip.{has_code, AreHeld, bytes_of_characters, ReadsCharacters}
use Rattle.glk_streams.specs.RoundTrip.{IsOpen, put_all, GivesCharacters, ReadsBack}
use Rattle.glk_streams.specs.Streams.{StreamTable, stream_number, with_stream, is_read_mode}
use Rattle.glk_streams.specs.Streams.{is_write_mode}
use Rattle.glk_streams.proofs.ValidLemmas.{bytes-bytes, bytes-file}
use Rattle.glk_streams.proofs.ValidLaws.{no-content}
use Rattle.glk_streams.proofs.RoundTripLemmas.{IsWhole, kept-held, units-append, whole-append}
use Rattle.glk_streams.proofs.RoundTripLemmas.{start-end, replaced-end, reads, empty-whole}
use Rattle.glk_streams.proofs.RoundTripLemmas.{empty-units}

-- files that are changed

self : (r : Ordering) → r ≡ ordering_reverse r → is_eq r ≡ true
self Less e = absurd (grind (arith, e))
self Equal e = refl
self Greater e = absurd (grind (arith, e))

own-name : (u : ℕ) (n b : List ℕ) → is_named u n (file_of u n b) ≡ true
own-name u n b = self (slice_cmp nat_cmp (key_of_file u n) (key_of_file u n))
    (nat_list_cmp_total.antisymm (key_of_file u n) (key_of_file u n))

content-bytes : (fs : List file.File) (u : ℕ) (n b : List ℕ) → has_file fs u n ≡ true
    → content_of (file_with_bytes fs u n b) u n ≡ b
unfolding content_of file_with_bytes has_file
content-bytes [] u n b h = absurd (grind (arith, h))
content-bytes (f ∷ fs) u n b h = grind (arith, common_steps, h, content-bytes fs u n b)

has-bytes : (fs : List file.File) (u : ℕ) (n b : List ℕ)
    → has_file (file_with_bytes fs u n b) u n ≡ has_file fs u n
unfolding file_with_bytes has_file
has-bytes [] u n b = refl
has-bytes (f ∷ fs) u n b = grind (arith, common_steps, has-bytes fs u n b)

content-file : (fs : List file.File) (u : ℕ) (n b : List ℕ) → has_file fs u n ≡ false
    → content_of (with_file fs u n b) u n ≡ b
unfolding content_of with_file has_file
content-file [] u n b h = rw (own-name u n b) refl
content-file (f ∷ fs) u n b h =
    grind (arith, common_steps, h, own-name u n b, content-file fs u n b)

has-new : (fs : List file.File) (u : ℕ) (n b : List ℕ) → has_file (with_file fs u n b) u n ≡ true
unfolding with_file has_file
has-new [] u n b = grind (arith, common_steps, own-name u n b)
has-new (f ∷ fs) u n b = grind (arith, common_steps, own-name u n b, has-new fs u n b)

pub record IsHeld (fs after : List file.File) (u : ℕ) (n b : List ℕ) : Type 0 where
  pub content : content_of after u n ≡ b
  pub may : file_may_stand after u n ≡ true
  pub bytes : sum_of_bytes after + length (content_of fs u n) ≡ sum_of_bytes fs + length b

pub held-by : (fs : List file.File) (u : ℕ) (n b : List ℕ) (s : Bool) → has_file fs u n ≡ s
    → IsHeld fs (files_holding fs u n b) u n b
held-by fs u n b true e = rw e (record {
  content = content-bytes fs u n b e;
  may = grind (arith, common_steps, has-bytes fs u n b, e);
  bytes = bytes-bytes fs u n b e;
})
held-by fs u n b false e = rw e (record {
  content = content-file fs u n b e;
  may = grind (arith, common_steps, has-new fs u n b);
  bytes = grind (arith, common_steps, bytes-file fs u n b, no-content fs u n e);
})

-- one character put

record On (t : StreamTable) (a b u : ℕ) (n : List ℕ) (unicode : Bool)
    (bytes : List ℕ) : Type 0 where
  writer : IsOpen is_write_mode t a (File u n) unicode
      (units_of (coding_of unicode (File u n)) bytes)
  reader : IsOpen is_read_mode t b (File u n) unicode 0
  content : content_of t.files u n ≡ bytes
  may : file_may_stand t.files u n ≡ true

put-bytes-kept : (fs : List file.File) (place u : ℕ) (n : List ℕ) (c : Coding)
    (new bytes all : List ℕ)
    → content_of fs u n ≡ bytes
    → (file_may_stand fs u n
    && nat_le (byte_start c bytes place + length new - length bytes) (room_of fs))
    ≡ true
    → replaced bytes (byte_start c bytes place) new ≡ all → position_held c bytes place ≡ place
    → put_bytes fs place u n c new ≡ (files_holding fs u n all, place + steps_of c (length new))
put-bytes-kept fs place u n c new bytes all e k r h = rw (e, k, r, h) refl

put-by-kept : (fs : List file.File) (m : MemoryMap) (s : Stream) (x u : ℕ) (n : List ℕ)
    (unicode : Bool) (place : ℕ)
    (after : List file.File) (next : ℕ) → is_write_mode s.mode ≡ true → s.target ≡ File u n
    → s.unicode ≡ unicode → s.place ≡ place
    → put_bytes fs place u n (coding_of unicode (File u n))
    (bytes_kept (coding_of unicode (File u n)) x)
    ≡ (after, next)
    → put_by fs m s x ≡ Ok (after, m, next)
put-by-kept fs m s x u n unicode place after next w t v p e =
    rw (w, t, v, p) (ap (λ done. Ok (done.0, m, done.1)) e)

stays : (c : Coding) (bytes : List ℕ) → position_held c bytes (units_of c bytes) ≡ units_of c bytes
stays c bytes = grind (arith, common_steps)

fits : (sum now at count : ℕ) → at ≡ now → sum + count ≤ 1048576
    → nat_le (at + count - now) (1048576 - sum) ≡ true
fits sum now at count e l = grind (arith, common_steps, e, l)

record Step (t : StreamTable) (m : MemoryMap) (a b u : ℕ) (n : List ℕ) (unicode : Bool)
    (bytes : List ℕ) (x : ℕ) : Type 0 where
  after : StreamTable
  put_is : put_on_stream t m a x ≡ Ok (after, m)
  on : On after a b u n unicode (bytes ++ bytes_in (coding_of unicode (File u n)) x)
  sum : sum_of_bytes after.files
      ≡ sum_of_bytes t.files + length (bytes_in (coding_of unicode (File u n)) x)

module _ (m : MemoryMap) (a b u : ℕ) (n : List ℕ) (unicode : Bool) (apart : a ≢ b) where
  abbrev c : Coding
  c = coding_of unicode (File u n)

  one : (t : StreamTable) (bytes : List ℕ) (x : ℕ) → On t a b u n unicode bytes → IsWhole c bytes
      → has_code c x ≡ true
      → sum_of_bytes t.files + length (bytes_in c x) ≤ 1048576 → Step t m a b u n unicode bytes x
  one t bytes x o w h room =
      let s = o.writer.stream in
      let r = o.reader.stream in
      let new = bytes_in c x in
      let all = bytes ++ new in
      let place = units_of c bytes in
      let start : byte_start c bytes place ≡ length bytes = start-end c bytes w in
      let kept_new : bytes_kept c x ≡ new = kept-held c x h in
      let files = files_holding t.files u n all in
      let next = place + steps_of c (length new) in
      let v = write_counted (at_position next s) in
      let after = with_stream (record t { files = files }) a v in
      let put_files : put_bytes t.files place u n c (bytes_kept c x) ≡ (files, next) =
      rw kept_new (put-bytes-kept t.files place u n c new bytes all o.content
      (and_from _ _ o.may (fits (sum_of_bytes t.files) (length bytes) (byte_start c bytes place)
      (length new) start room))
      (replaced-end bytes new (byte_start c bytes place) start) (stays c bytes)) in
      let kept_by : put_by t.files m s x ≡ Ok (files, m, next) =
      put-by-kept t.files m s x u n unicode place files next o.writer.mode o.writer.target_is
      o.writer.unicode_is o.writer.place_is put_files in
      let number : v.number ≡ a = number-found stream_number t.streams a s o.writer.is in
      let now = held-by t.files u n all (has_file t.files u n) refl in
      record {
        after = after;
        put_is = rw (o.writer.is, kept_by) refl;
        on = record {
          writer = record {
            stream = v;
            is = found-same stream_number t.streams a s v o.writer.is number;
            mode = o.writer.mode;
            target_is = o.writer.target_is;
            unicode_is = o.writer.unicode_is;
            place_is = sym (units-append c bytes x w);
          };
          reader = record {
            stream = r;
            is = found-other stream_number t.streams a b v number (λ e. apart (sym e)) ∙ o.reader.is;
            mode = o.reader.mode;
            target_is = o.reader.target_is;
            unicode_is = o.reader.unicode_is;
            place_is = o.reader.place_is;
          };
          content = now.content;
          may = now.may;
        };
        sum =
            summed (sum_of_bytes t.files) (sum_of_bytes files) (length bytes) (length new)
            (length all)
            (length-append bytes new)
            (subst
            (λ (z : List ℕ). sum_of_bytes files + length z ≡ sum_of_bytes t.files + length all)
            o.content now.bytes);
      }
    where
      summed : (old now was more whole : ℕ) → whole ≡ was + more → now + was ≡ old + whole
          → now ≡ old + more
      summed old now was more whole e f = omega (arith, e, f)

  record Puts (t : StreamTable) (bytes codes : List ℕ) : Type 0 where
    after : StreamTable
    put_is : put_all t m a codes ≡ Ok (after, m)
    on : On after a b u n unicode (bytes ++ bytes_of_characters c codes)

  puts : (codes : List ℕ) (t : StreamTable) (bytes : List ℕ) → On t a b u n unicode bytes
      → IsWhole c bytes → AreHeld c codes
      → sum_of_bytes t.files + length (bytes_of_characters c codes) ≤ 1048576 → Puts t bytes codes
  unfolding put_all bytes_of_characters
  puts [] t bytes o w h room =
      record {
        after = t;
        put_is = refl;
        on = subst (On t a b u n unicode)
            (sym (append-nil bytes)) o;
      }
  puts (x ∷ xs) t bytes o w h room =
      let long : length (bytes_in c x ++ bytes_of_characters c xs) ≡ length (bytes_in c x) + length
      (bytes_of_characters c xs) =
      length-append (bytes_in c x) (bytes_of_characters c xs) in
      let first = one t bytes x o w h.0 (omega (arith, room, long)) in
      let rest = puts xs first.after (bytes ++ bytes_in c x) first.on (whole-append c bytes x w) h.1
      (omega (arith, room, long, first.sum)) in
      record {
        after = rest.after;
        put_is = rw first.put_is rest.put_is;
        on = subst (On rest.after a b u n unicode)
            (append_assoc bytes (bytes_in c x) (bytes_of_characters c xs)) rest.on;
      }

  gets : (codes : List ℕ) (t : StreamTable) (bytes : List ℕ) (place : ℕ)
      → IsOpen is_read_mode t b (File u n) unicode place
      → content_of t.files u n ≡ bytes
      → ReadsCharacters c bytes place codes
      → GivesCharacters t m b codes
  gets [] t bytes place o e r = rw (o.is, o.mode, o.target_is, o.unicode_is, o.place_is, e, r) refl
  gets (x ∷ xs) t bytes place o e r =
      let s = o.stream in
      let v = passed (record { code = x; steps = r.0 }) s in
      let number : v.number ≡ b = number-found stream_number t.streams b s o.is in
      let rest = gets xs (with_stream t b v) bytes (place + r.0) (record {
        stream = v;
        is = found-same stream_number t.streams b s v o.is number;
        mode = o.mode;
        target_is = o.target_is;
        unicode_is = o.unicode_is;
        place_is = ap (λ p. p + r.0) o.place_is;
      }) e r.2 in (
        with_stream t b v,
        rw
            (o.is, o.mode, o.target_is, o.unicode_is, o.place_is, e, r.1) refl,
        rest,
      )

pub reads_back : ReadsBack
reads_back t m a b u n unicode codes apart writer reader empty may h room =
    let c = coding_of unicode (File u n) in
    let begun : On t a b u n unicode [] = record {
      writer = subst (λ p. IsOpen is_write_mode t a (File u n) unicode p)
          (sym (empty-units c)) writer;
      reader = reader;
      content = empty;
      may = may;
    } in
    let done = puts m a b u n unicode apart codes t [] begun (empty-whole c) h room in
    let all = reads c [] codes (empty-whole c) h in (
      done.after,
      done.put_is,
      gets m a b u n unicode apart codes done.after
          (bytes_of_characters c codes) 0 done.on.reader done.on.content
          (subst (λ p. ReadsCharacters c (bytes_of_characters c codes) p codes)
          (empty-units c) all),
    )
