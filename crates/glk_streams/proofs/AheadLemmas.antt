-- The bytes ahead of a stream are the characters that it gives one by one.
use Rattle.std.proofs.Common.{◌≡◌, ◌<◌, ℕ, Bool, true, false, List, length, drop, refl, ap, ◌∙◌}
use Rattle.std.proofs.Common.{Option, Some, None, Ok, cond, nat_lt, slice_index, arith}
use Rattle.std.proofs.lemmas.Bool.{le-ltb, lt-ltb, ltb-true}
use Rattle.vm_memory.specs.MemoryMap.{MemoryMap}
use Rattle.glk_numbers.proofs.FoundLemmas.{changed-again, found-same, number-found}
use Rattle.glk_streams.specs.Files.{content_of}
use Rattle.glk_streams.specs.Input.{ahead_passed, bytes_ahead, bytes_by, bytes_from}
use Rattle.glk_streams.specs.Input.{bytes_in_target, got, passed, passed_by, stream_passed}
use Rattle.glk_streams.specs.Streams.{StreamTable, is_read_mode, of_stream, stream_at}
use Rattle.glk_streams.specs.Streams.{stream_number, with_stream}
use Rattle.glk_streams.specs.declared.coding.Reading.{Reading}
use Rattle.glk_streams.specs.declared.stream.Stream.{Stream}
use Rattle.glk_streams.specs.declared.stream.Target.{Target}
use Rattle.glk_streams.specs.declared.stream.Target.TheVariants as from

-- a plain stream of a file with these bytes that is open for reading
pub record IsReader (t : StreamTable) (n usage : ℕ) (name bytes : List ℕ)
    (s : Stream) : Type 0 where
  pub is : stream_at t n ≡ Some s
  pub mode : is_read_mode s.mode ≡ true
  pub target_is : s.target ≡ from.File usage name
  pub plain : s.unicode ≡ false
  pub content : content_of t.files usage name ≡ bytes

-- a character of one position
abbrev pub byte_read : ℕ → Reading
byte_read code = record { code = code; steps = 1 }

-- a stream in its third state
pub with-again : (t : StreamTable) (n : ℕ) (v w : Stream) → v.number ≡ n
    → with_stream (with_stream t n v) n w ≡ with_stream t n w
with-again t n v w e =
    ap (λ ss. record t { streams = ss }) (changed-again stream_number t.streams n v w e)

module _ (m : MemoryMap) (n usage : ℕ) (name bytes : List ℕ) where
  pub got-byte : (t : StreamTable) (s : Stream) → IsReader t n usage name bytes s
      → s.place < length bytes
      → got t m n ≡ Ok (
        with_stream t n (passed (byte_read (slice_index bytes s.place)) s),
        Some (slice_index bytes s.place),
      )
  got-byte t s o l =
      rw (o.is, o.mode, o.target_is, o.plain, o.content, lt-ltb s.place (length bytes) l) refl

  pub got-end : (t : StreamTable) (s : Stream) → IsReader t n usage name bytes s
      → s.place ≡ length bytes → got t m n ≡ Ok (t, None)
  got-end t s o e =
      let past = le-ltb s.place (length bytes) (omega (arith, e)) in
      rw (o.is, o.mode, o.target_is, o.plain, o.content, past) refl

  pub reader-passed : (t : StreamTable) (s : Stream) (r : Reading)
      → IsReader t n usage name bytes s
      → IsReader (with_stream t n (passed r s)) n usage name bytes (passed r s)
  reader-passed t s r o = record {
    is = found-same stream_number t.streams n s (passed r s) o.is
        (number-found stream_number t.streams n s o.is);
    mode = o.mode;
    target_is = o.target_is;
    plain = o.plain;
    content = o.content;
  }

-- the bytes ahead are the rest of a file
pub record IsAhead (t : StreamTable) (n : ℕ) (ahead : List ℕ) : Type 0 where
  pub stream : Stream
  pub usage : ℕ
  pub name : List ℕ
  pub bytes : List ℕ
  pub reader : IsReader t n usage name bytes stream
  pub more : stream.place < length bytes
  pub is_rest : drop stream.place bytes ≡ ahead
  pub passes : ahead_passed t n
      ≡ (with_stream t n (passed_by (length ahead) stream), length ahead)

pub ahead-rest : (t : StreamTable) (n : ℕ) (ahead : List ℕ) → bytes_ahead t n ≡ Some ahead
    → IsAhead t n ahead
ahead-rest t n ahead = of-stream (stream_at t n) refl
  where
    by-place : (s : Stream) (u : ℕ) (name : List ℕ) (b : Bool) → stream_at t n ≡ Some s
        → is_read_mode s.mode ≡ true → s.target ≡ from.File u name → s.unicode ≡ false
        → bytes_by t.files s ≡ Some ahead
        → nat_lt s.place (length (content_of t.files u name)) ≡ b
        → ◌≡◌ {A = Option (List ℕ)} (cond b (Some (drop s.place (content_of t.files u name))) None)
        (Some ahead)
        → IsAhead t n ahead
    by-place s u name false e k f p by l h = absurd cc
    by-place s u name true e k f p by l h = record {
      stream = s;
      usage = u;
      name = name;
      bytes = content_of t.files u name;
      reader = record { is = e; mode = k; target_is = f; plain = p; content = refl };
      more = ltb-true s.place (length (content_of t.files u name)) l;
      is_rest = (let y : drop s.place (content_of t.files u name) ≡ ahead = cc in y);
      passes = ap (λ o. of_stream o (t, 0) (λ s. stream_passed t n s (bytes_by t.files s))) e
          ∙ ap (stream_passed t n s) by;
    }

    by-kind : (s : Stream) (u : ℕ) (name : List ℕ) (b : Bool) → stream_at t n ≡ Some s
        → is_read_mode s.mode ≡ true → s.target ≡ from.File u name → s.unicode ≡ b
        → bytes_by t.files s ≡ Some ahead
        → ◌≡◌ {A = Option (List ℕ)} (cond b None (bytes_from (content_of t.files u name) s.place))
        (Some ahead)
        → IsAhead t n ahead
    by-kind s u name true e k f p by h = absurd cc
    by-kind s u name false e k f p by h =
        by-place s u name (nat_lt s.place (length (content_of t.files u name))) e k f p by refl h

    by-target : (s : Stream) (x : Target) → stream_at t n ≡ Some s
        → is_read_mode s.mode ≡ true → s.target ≡ x → bytes_by t.files s ≡ Some ahead
        → bytes_in_target x s.unicode t.files s.place ≡ Some ahead → IsAhead t n ahead
    by-target s (from.Window w) e k f by h = absurd cc
    by-target s (from.Memory b l) e k f by h = absurd cc
    by-target s (from.File u name) e k f by h = by-kind s u name s.unicode e k f refl by h

    by-mode : (s : Stream) (b : Bool) → stream_at t n ≡ Some s → is_read_mode s.mode ≡ b
        → bytes_by t.files s ≡ Some ahead
        → ◌≡◌ {A = Option (List ℕ)} (cond b (bytes_in_target s.target s.unicode t.files s.place)
        None) (Some ahead)
        → IsAhead t n ahead
    by-mode s false e k by h = absurd cc
    by-mode s true e k by h = by-target s s.target e k refl by h

    of-stream : (o : Option Stream) → stream_at t n ≡ o
        → of_stream o None (λ s. bytes_by t.files s) ≡ Some ahead → IsAhead t n ahead
    of-stream None e h = absurd cc
    of-stream (Some s) e h = by-mode s (is_read_mode s.mode) e refl h h
