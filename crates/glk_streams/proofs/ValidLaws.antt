-- Each call keeps streams, file references and files valid.
use Rattle.std.proofs.Common.{◌≡◌, ◌≤◌, ◌<◌, ℕ, ◌+◌, Bool, true, false, ◌&&◌, ◌||◌, List, [], ◌∷◌}
use Rattle.std.proofs.Common.{◌++◌, refl, ap, ◌∙◌, Some, arith, nat_le, ◌==◌, length}
use Rattle.std.proofs.lemmas.Grind.{common_steps}
use Rattle.std.proofs.lemmas.Bool.{and_from, and_parts}
use Rattle.std.specs.Prelude.{cond}
use Rattle.glk_numbers.specs.Numbered.{found, changed_at, without, ascends}
use Rattle.glk_streams.specs.declared.file.File.{File}
use Rattle.glk_streams.specs.declared.stream.Stream.{Stream}
use Rattle.glk_streams.specs.declared.fileref.FileRef.{FileRef}
use Rattle.glk_streams.specs.Files.{has_file, content_of, file_with_bytes, with_file, without_file}
use Rattle.glk_streams.specs.Files.{files_holding, sum_of_bytes, file_may_stand}
use Rattle.glk_streams.specs.Laws.{AreValidStreams}
use Rattle.glk_streams.specs.Streams.{StreamTable, no_streams, stream_at, stream_number}
use Rattle.glk_streams.specs.Streams.{ref_number_of, is_window_target, with_stream}
use Rattle.glk_streams.specs.Opening.{count_of}
use Rattle.glk_streams.specs.Valid.{is_mode, is_sound_stream, are_sound_streams}
use Rattle.glk_streams.specs.Valid.{is_current, is_next, files_in_order, are_kinds}
use Rattle.glk_streams.specs.Valid.{are_files, are_streams, are_refs, are_valid_streams}
use Rattle.glk_numbers.proofs.EachLemmas as all
use Rattle.glk_numbers.proofs.FoundLemmas.{has-changed, has-more, has-without, length-left, number-found}
use Rattle.glk_numbers.proofs.OrderLemmas.{ascends-changed, ascends-more, ascends-without}
use Rattle.glk_streams.proofs.ValidLemmas.{in_order-bytes, in_order-file, in_order-without}
use Rattle.glk_streams.proofs.ValidLemmas.{kinds-bytes, kinds-file, kinds-without, length-bytes}
use Rattle.glk_streams.proofs.ValidLemmas.{length-file, length-without, bytes-bytes, bytes-file}
use Rattle.glk_streams.proofs.ValidLemmas.{bytes-without, count-changed, count-without}

pub record Files (fs : List File) : Type 0 where
  pub order : files_in_order fs ≡ true
  pub kinds : are_kinds fs ≡ true
  pub count : nat_le (length fs) 64 ≡ true
  pub bytes : nat_le (sum_of_bytes fs) 1048576 ≡ true

pub files_of : (fs : List File) → are_files fs ≡ true → Files fs
files_of fs h =
    let a = and_parts _ _ h in
    let b = and_parts _ _ a.0 in
    let c = and_parts _ _ b.0 in
    record { order = c.0; kinds = c.1; count = b.1; bytes = a.1 }

pub of_files : (fs : List File) → Files fs → are_files fs ≡ true
of_files fs f = and_from _ _ (and_from _ _ (and_from _ _ f.order f.kinds) f.count) f.bytes

held-as : (fs : List File) (u : ℕ) (n b : List ℕ) (s : Bool) → has_file fs u n ≡ s
    → are_files fs ≡ true
    → file_may_stand fs u n ≡ true → (s ≡ false → content_of fs u n ≡ [])
    → sum_of_bytes fs + length b ≤ 1048576 + length (content_of fs u n)
    → are_files (files_holding fs u n b) ≡ true
held-as fs u n b true e h m z l =
    let f = files_of fs h in
    rw e (of_files (file_with_bytes fs u n b) (record {
      order = in_order-bytes fs u n b ∙ f.order;
      kinds = kinds-bytes fs u n b ∙ f.kinds;
      count = rw (length-bytes fs u n b) f.count;
      bytes = grind (arith, common_steps, bytes-bytes fs u n b e, l);
    }))
held-as fs u n b false e h m z l =
    let f = files_of fs h in
    let none = z refl in
    rw e (of_files (with_file fs u n b) (record {
      order = in_order-file fs u n b f.order e;
      kinds = kinds-file fs u n b f.kinds;
      count = grind (arith, common_steps, length-file fs u n b, m, e);
      bytes = grind (arith, common_steps, bytes-file fs u n b, l, none);
    }))

pub no-content : (fs : List File) (u : ℕ) (n : List ℕ) → has_file fs u n ≡ false
    → content_of fs u n ≡ []
unfolding has_file content_of
no-content [] u n h = refl
no-content (f ∷ fs) u n h = grind (arith, common_steps, h, no-content fs u n)

pub files-held : (fs : List File) (u : ℕ) (n b : List ℕ) → are_files fs ≡ true
    → file_may_stand fs u n ≡ true
    → sum_of_bytes fs + length b ≤ 1048576 + length (content_of fs u n)
    → are_files (files_holding fs u n b) ≡ true
files-held fs u n b h m l = held-as fs u n b (has_file fs u n) refl h m (no-content fs u n) l

pub files-without : (fs : List File) (u : ℕ) (n : List ℕ) → are_files fs ≡ true
    → are_files (without_file fs u n) ≡ true
files-without fs u n h =
    let f = files_of fs h in
    of_files (without_file fs u n) (record {
      order = in_order-without fs u n f.order;
      kinds = kinds-without fs u n f.kinds;
      count = grind (arith, common_steps, length-without fs u n, f.count);
      bytes = grind (arith, common_steps, bytes-without fs u n, f.bytes);
    })

-- streams

pub record Held (next current : ℕ) (ss : List Stream) : Type 0 where
  pub next_is : is_next next ≡ true
  pub order : ascends stream_number 0 next ss ≡ true
  pub modes : are_sound_streams ss ≡ true
  pub count : nat_le (count_of ss) 64 ≡ true
  pub live : is_current ss current ≡ true

pub held_of : (next current : ℕ) (ss : List Stream) → are_streams next current ss ≡ true
    → Held next current ss
held_of next current ss h =
    let a = and_parts _ _ h in
    let b = and_parts _ _ a.0 in
    let c = and_parts _ _ b.0 in
    let d = and_parts _ _ c.0 in
    record { next_is = d.0; order = d.1; modes = c.1; count = b.1; live = a.1 }

pub of_held : (next current : ℕ) (ss : List Stream) → Held next current ss
    → are_streams next current ss ≡ true
of_held next current ss h =
    and_from _ _ (and_from _ _ (and_from _ _ (and_from _ _ h.next_is h.order) h.modes) h.count) h.live

or-then : (x y z : Bool) → (x || y) ≡ true → (y ≡ true → z ≡ true) → (x || z) ≡ true
or-then true y z e f = refl
or-then false y z e f = f e

next-more : (next : ℕ) → is_next next ≡ true → next ≤ 4294967294 → is_next (next + 1) ≡ true
next-more next h l = grind (arith, common_steps, h)

next-some : (next : ℕ) → is_next next ≡ true → 0 < next
next-some next h = grind (arith, common_steps, h)

sound-none : are_sound_streams [] ≡ true
unfolding are_sound_streams
sound-none = refl

sound-more : (s : Stream) (ss : List Stream)
    → are_sound_streams (s ∷ ss) ≡ (is_sound_stream s && are_sound_streams ss)
unfolding are_sound_streams
sound-more s ss = refl

pub streams-more : (next current : ℕ) (ss : List Stream) (v : Stream)
    → are_streams next current ss ≡ true
    → next ≤ 4294967294 → v.number ≡ next → is_sound_stream v ≡ true
    → count_of (ss ++ v ∷ []) ≤ 64
    → are_streams (next + 1) current (ss ++ v ∷ []) ≡ true
streams-more next current ss v h l e m k =
    let s = held_of next current ss h in
    of_held (next + 1) current (ss ++ v ∷ []) (record {
      next_is = next-more next s.next_is l;
      order = ascends-more stream_number ss 0 next v (next-some next s.next_is) e s.order;
      modes = all.all-more stream_number are_sound_streams is_sound_stream sound-none sound-more
          ss v s.modes m;
      count = grind (arith, common_steps, k);
      live = or-then _ _ _ s.live (has-more stream_number ss v current);
    })

pub streams-changed : (next current : ℕ) (ss : List Stream) (n : ℕ) (s v : Stream)
    → found stream_number ss n ≡ Some s
    → v.number ≡ s.number → v.target ≡ s.target → v.mode ≡ s.mode
    → (nat_le s.style 10 ≡ true → nat_le v.style 10 ≡ true)
    → are_streams next current ss ≡ true
    → are_streams next current (changed_at stream_number (λ _. v) ss n) ≡ true
streams-changed next current ss n s v f e t m y h =
    let r = held_of next current ss h in
    let num : v.number ≡ n = e ∙ number-found stream_number ss n s f in
    let was = and_parts (is_mode s.target s.mode) (nat_le s.style 10)
    (all.each-found stream_number are_sound_streams is_sound_stream sound-none sound-more
    ss n s f r.modes) in
    let kind : is_mode v.target v.mode ≡ true = rw (t, m) was.0 in
    let mode : is_sound_stream v ≡ true =
    and_from (is_mode v.target v.mode) (nat_le v.style 10) kind (y was.1) in
    of_held next current (changed_at stream_number (λ _. v) ss n) (record {
      next_is = r.next_is;
      order = ascends-changed stream_number (λ _. v) n (λ _ _. num) ss 0 next ∙ r.order;
      modes = all.all-changed stream_number are_sound_streams is_sound_stream sound-none sound-more
          (λ _. v) (λ _ _. mode) ss n r.modes;
      count = rw (count-changed ss n s v f (ap is_window_target t)) r.count;
      live = or-then _ _ _ r.live
          (λ live. has-changed stream_number (λ _. v) n (λ _ _. num) ss current ∙ live);
    })

without-current : (ss : List Stream) (n current : ℕ) (s : Bool) → (current == n) ≡ s
    → is_current ss current ≡ true
    → is_current (without stream_number ss n) (cond s 0 current) ≡ true
without-current ss n current true e h = refl
without-current ss n current false e h =
    or-then _ _ _ h (λ live. has-without stream_number ss n current (grind (arith, e)) ∙ live)

pub streams-without : (next current : ℕ) (ss : List Stream) (n : ℕ)
    → are_streams next current ss ≡ true
    → are_streams next (cond (current == n) 0 current) (without stream_number ss n) ≡ true
streams-without next current ss n h =
    let r = held_of next current ss h in
    of_held next (cond (current == n) 0 current) (without stream_number ss n) (record {
      next_is = r.next_is;
      order = ascends-without stream_number ss 0 next n r.order;
      modes = all.all-without stream_number are_sound_streams is_sound_stream sound-none sound-more
          ss n r.modes;
      count = grind (arith, common_steps, count-without ss n, r.count);
      live = without-current ss n current (current == n) refl r.live;
    })

pub streams-current : (next current n : ℕ) (ss : List Stream) → are_streams next current ss ≡ true
    → is_current ss n ≡ true → are_streams next n ss ≡ true
streams-current next current n ss h live =
    let r = held_of next current ss h in
    of_held next n ss (record {
      next_is = r.next_is;
      order = r.order;
      modes = r.modes;
      count = r.count;
      live = live;
    })

-- references

pub refs-more : (next : ℕ) (rs : List FileRef) (v : FileRef) → are_refs next rs ≡ true
    → next ≤ 4294967294
    → v.number ≡ next → length rs < 64 → are_refs (next + 1) (rs ++ v ∷ []) ≡ true
refs-more next rs v h l e k =
    let a = and_parts _ _ h in
    let b = and_parts _ _ a.0 in
    and_from _ _ (and_from _ _ (next-more next b.0 l)
    (ascends-more ref_number_of rs 0 next v (next-some next b.0) e b.1))
    (grind (arith, common_steps, k))

pub refs-without : (next : ℕ) (rs : List FileRef) (n : ℕ) → are_refs next rs ≡ true
    → are_refs next (without ref_number_of rs n) ≡ true
refs-without next rs n h =
    let a = and_parts _ _ h in
    let b = and_parts _ _ a.0 in
    and_from _ _ (and_from _ _ b.0 (ascends-without ref_number_of rs 0 next n b.1))
    (grind (arith, common_steps, length-left ref_number_of rs n, a.1))

-- the whole
pub record Parts (t : StreamTable) : Type 0 where
  pub streams : are_streams t.next t.current t.streams ≡ true
  pub refs : are_refs t.next_ref t.refs ≡ true
  pub files : are_files t.files ≡ true

pub parts_of : (t : StreamTable) → are_valid_streams t ≡ true → Parts t
parts_of t h =
    let a = and_parts _ _ h in
    let b = and_parts _ _ a.0 in
    record { streams = b.0; refs = b.1; files = a.1 }

pub of_parts : (t : StreamTable) → Parts t → are_valid_streams t ≡ true
of_parts t p = and_from _ _ (and_from _ _ p.streams p.refs) p.files

pub begins : are_valid_streams no_streams ≡ true
unfolding are_sound_streams ascends files_in_order are_kinds count_of sum_of_bytes
begins = refl

-- a stream in another state

pub changed-valid : (t : StreamTable) (n : ℕ) (s v : Stream) (fs : List File)
    → stream_at t n ≡ Some s → v.number ≡ s.number
    → v.target ≡ s.target → v.mode ≡ s.mode
    → (nat_le s.style 10 ≡ true → nat_le v.style 10 ≡ true)
    → are_files fs ≡ true → AreValidStreams t
    → AreValidStreams (with_stream (record t { files = fs }) n v)
changed-valid t n s v fs f e g m y k h =
    let p = parts_of t h in
    of_parts (with_stream (record t { files = fs }) n v) (record {
      streams = streams-changed t.next t.current t.streams n s v f e g m y p.streams;
      refs = p.refs;
      files = k;
    })
