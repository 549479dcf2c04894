-- Streams that are none of windows come and change: each window's stream is as it was.
use Rattle.std.proofs.Common.{◌≡◌, ◌⊎◌, inl, inr, ℕ, ◌≤◌, ◌==◌, ◌||◌, not, nat_le, nat_lt, Bool}
use Rattle.std.proofs.Common.{true, false, List, [], ◌∷◌, ◌++◌, length, refl, sym, ap, ◌∙◌, arith}
use Rattle.std.proofs.Common.{Option, Some, None, Result, Ok, Err, option_map, is_some, cond}
use Rattle.std.proofs.lemmas.Grind.{common_steps}
use Rattle.vm_memory.specs.Chaining.{◌>>=◌}
use Rattle.vm_memory.specs.MemoryMap.{MemoryMap}
use Rattle.glk_numbers.specs.Numbered.{ascends, found, has}
use Rattle.glk_numbers.specs.declared.numbered.TheConstants.{MAX_NUMBER}
use Rattle.glk_streams.specs.Answer as answer
use Rattle.glk_streams.specs.FileRefs as refs
use Rattle.glk_streams.specs.Input as input
use Rattle.glk_streams.specs.Opening as opening
use Rattle.glk_streams.specs.Position as place
use Rattle.glk_streams.specs.Streams as streams
use Rattle.glk_streams.specs.Streams.{StreamTable}
use Rattle.glk_streams.specs.declared.coding.Reading.{Reading}
use Rattle.glk_streams.specs.declared.fault.StreamStop.{StreamStop}
use Rattle.glk_streams.specs.declared.fault.StreamStop.TheVariants.{BadArgument, BadObject}
use Rattle.glk_streams.specs.declared.fileref.FileRef.{FileRef}
use Rattle.glk_streams.specs.declared.fileref.TheConstants.{MAX_REFS}
use Rattle.glk_streams.specs.declared.stream.Stream.{Stream}
use Rattle.glk_streams.specs.declared.stream.Target as target
use Rattle.glk_streams.specs.declared.stream.Target.TheVariants as to
use Rattle.glk_dispatch.specs.Links.{AreLinked, End, Ends, Links, echo_by}
use Rattle.glk_dispatch.specs.Links.{stream_end, stream_ends, links, next_echo, owner}
use Rattle.glk_dispatch.specs.declared.glk.Glk.{Glk}
use Rattle.glk_dispatch.proofs.CloseLemmas.{ends_in}
use Rattle.glk_numbers.proofs.FoundLemmas.{found-added, found-high, part-replaced}
use Rattle.glk_dispatch.proofs.LoopLemmas.{no_loop-fewer}

-- a stream that is no window's
abbrev pub no_window : End
no_window = record { owner = None; is_plain = true }

-- what stands at a number: what stood there, or a new stream that is no window's
abbrev pub IsMore : Option End → Option End → Type 0
IsMore old new = (new ≡ old) ⊎ ((old ≡ None) × (new ≡ Some no_window))

abbrev pub More : StreamTable → StreamTable → Type 0
More t u = (m : ℕ) → IsMore (ends_in t m) (ends_in u m)

abbrev pub LeavesMore : {A : Type 0} → StreamTable → Result (StreamTable × A) StreamStop → Type 0
LeavesMore t (Ok p) = More t p.0
LeavesMore t (Err e) = Unit {0}

abbrev pub LeavesAlone : StreamTable → Result StreamTable StreamStop → Type 0
LeavesAlone t (Ok u) = More t u
LeavesAlone t (Err e) = Unit {0}

-- ---- windows and streams name each other as before

owner-more : (o p : Option End) → IsMore o p → owner p ≡ owner o
owner-more o p (inl e) = ap owner e
owner-more o p (inr h) = ap owner h.1 ∙ sym (ap owner h.0)

some-more : (o p : Option End) → IsMore o p → is_some o ≡ true → is_some p ≡ true
some-more o p (inl e) h = ap is_some e ∙ h
some-more o p (inr k) h = ap is_some k.1

plain-more : (o p : Option End) → IsMore o p → ((e : End) → o ≡ Some e → e.is_plain ≡ true)
    → (e : End) → p ≡ Some e → e.is_plain ≡ true
plain-more o p (inl x) h e f = h e (sym x ∙ f)
plain-more o p (inr k) h e f = plain-new e (sym k.1 ∙ f)
  where
    plain-new : (e : End) → ◌≡◌ {A = Option End} (Some no_window) (Some e) → e.is_plain ≡ true
    plain-new e x = (let y : no_window ≡ e = cc in sym (ap (λ (z : End). z.is_plain) y))

linked-more : (w : Links) (s t : Ends) → ((m : ℕ) → IsMore (s m) (t m)) → AreLinked w s
    → AreLinked w t
linked-more w s t h k = record {
  streams = λ win l e. owner-more (s l.stream) (t l.stream) (h l.stream) ∙ k.streams win l e;
  windows = λ n win e. k.windows n win (sym (owner-more (s n) (t n) (h n)) ∙ e);
  plain = λ n e f. plain-more (s n) (t n) (h n) (λ x y. k.plain n x y) e f;
  echoes = λ win l e z. some-more (s l.echo) (t l.echo) (h l.echo) (k.echoes win l e z);
  no_loop = no_loop-fewer (next_echo w s) (next_echo w t)
      (λ n. inl (ap (echo_by w) (owner-more (s n) (t n) (h n)))) k.no_loop;
}

pub added-linked : (g : Glk) (t : StreamTable)
    → More g.streams t → AreLinked (links g) (stream_ends g)
    → AreLinked (links g) (ends_in t)
added-linked g t more v = linked-more (links g) (stream_ends g) (ends_in t) more v

-- ---- what each call does

-- one stream more, with the next number
joined-more : (t u : StreamTable) (s : Stream) → u.streams ≡ t.streams → s.number ≡ t.next
    → streams.is_window_target s.target ≡ false
    → ascends streams.stream_number 0 t.next t.streams ≡ true → More t (opening.stream_added u s)
joined-more t u s same number other order m =
    let free : found streams.stream_number t.streams s.number ≡ None =
    found-high streams.stream_number t.streams 0 t.next s.number order (sym-le number) in
    at-number (m == s.number) refl
    (ap (λ ss. option_map stream_end (found streams.stream_number (ss ++ s ∷ []) m)) same
    ∙ ap (option_map stream_end) (found-added streams.stream_number t.streams s m free)) free
  where
    sym-le : {a b : ℕ} → a ≡ b → b ≤ a
    sym-le e = omega (arith, e)

    new-end : (s : Stream) → streams.is_window_target s.target ≡ false → stream_end s ≡ no_window
    new-end s e = ends-as s.target refl e
      where
        ends-as : (x : target.Target) → s.target ≡ x → streams.is_window_target x ≡ false
            → stream_end s ≡ no_window
        ends-as (to.Window w) f e = absurd cc
        ends-as (to.Memory b l) f e = rw f refl
        ends-as (to.File a n) f e = rw f refl

    at-number : (b : Bool) → (m == s.number) ≡ b
        → option_map stream_end (found streams.stream_number (u.streams ++ s ∷ []) m)
        ≡ option_map stream_end
        (cond (m == s.number) (Some s) (found streams.stream_number t.streams m))
        → found streams.stream_number t.streams s.number ≡ None
        → IsMore (ends_in t m) (ends_in (opening.stream_added u s) m)
    at-number true e f free =
        let m_is : m ≡ s.number = grind (arith, common_steps, e) in
        inr (
          ap (λ k. option_map stream_end (found streams.stream_number t.streams k)) m_is
              ∙ ap (option_map stream_end) free,
          f
              ∙ ap (λ b.
              option_map stream_end (cond b (Some s) (found streams.stream_number t.streams m))) e
              ∙ ap Some (new-end s other),
        )
    at-number false e f free =
        inl (f
        ∙ ap
        (λ b. option_map stream_end (cond b (Some s) (found streams.stream_number t.streams m)))
        e)

same-table : (t u : StreamTable) → u.streams ≡ t.streams → More t u
same-table t u e m = inl (ap (λ ss. option_map stream_end (found streams.stream_number ss m)) e)

-- one stream in the place of another, as windows see it
changed-more : (t : StreamTable) (n : ℕ) (s v : Stream) → streams.stream_at t n ≡ Some s
    → v.number ≡ s.number → stream_end v ≡ stream_end s → More t (streams.with_stream t n v)
changed-more t n s v e number same m =
    inl (part-replaced streams.stream_number stream_end t.streams n m s v e number same)

pub file-more : (t : StreamTable) (fref mode rock : ℕ) (u : Bool)
    → ascends streams.stream_number 0 t.next t.streams ≡ true
    → LeavesMore t (opening.opened_file t fref mode rock u)
file-more t fref mode rock u order = of-ref (streams.ref_at t fref)
  where
    readied-streams : (usage : ℕ) (name : List ℕ) (b : Bool) (x : StreamTable)
        → x.streams ≡ t.streams → (cond b x t).streams ≡ t.streams
    readied-streams usage name true x e = e
    readied-streams usage name false x e = refl

    opened : (r : FileRef) (full : Bool)
        → LeavesMore t (cond full (Ok (t, 0))
        (Ok (opening.opened_name t r.usage r.name mode rock u)))
    opened r true = same-table t t refl
    opened r false =
        joined-more t (opening.readied t r.usage r.name mode) _
        (readied-streams r.usage r.name _ _ refl) refl refl order

    by-mode : (r : FileRef) (b : Bool)
        → LeavesMore t (cond b (Err BadArgument)
        (cond (opening.are_streams_full t || not (opening.can_open t.files r.usage r.name mode))
        (Ok (t, 0))
        (Ok (opening.opened_name t r.usage r.name mode rock u))))
    by-mode r true = tt
    by-mode r false =
        opened r (opening.are_streams_full t || not (opening.can_open t.files r.usage r.name mode))

    of-ref : (o : Option FileRef)
        → LeavesMore t (answer.live o (λ r. opening.opened_ref t r mode rock u))
    of-ref None = tt
    of-ref (Some r) = by-mode r (not (opening.is_file_mode mode))

pub memory-more : (t : StreamTable) (buf len mode rock : ℕ) (u : Bool)
    → ascends streams.stream_number 0 t.next t.streams ≡ true
    → LeavesMore t (opening.opened_memory t buf len mode rock u)
memory-more t buf len mode rock u order =
    by-mode (not (opening.is_memory_mode mode)) (opening.are_streams_full t)
  where
    by-mode : (b full : Bool)
        → LeavesMore t (cond b (Err BadArgument) (cond full (Ok (t, 0))
        (Ok (opening.added_with_number t
        (opening.fresh_stream t.next rock mode u (to.Memory buf len) 0)))))
    by-mode true full = tt
    by-mode false true = same-table t t refl
    by-mode false false = joined-more t t _ refl refl refl order

pub sought-more : (t : StreamTable) (n by from : ℕ)
    → LeavesAlone t (place.position_sought t n by from)
sought-more t n by from = of-stream (streams.stream_at t n) refl
  where
    sought-end : (s : Stream) (x : target.Target) → s.target ≡ x
        → stream_end (place.sought_in x t.files s by from) ≡ stream_end s
    sought-end s (to.Window w) e = refl
    sought-end s (to.Memory b l) e = rw e refl
    sought-end s (to.File a m) e = rw e refl

    sought-number : (s : Stream) (x : target.Target)
        → (place.sought_in x t.files s by from).number ≡ s.number
    sought-number s (to.Window w) = refl
    sought-number s (to.Memory b l) = refl
    sought-number s (to.File a m) = refl

    by-from : (s : Stream) (b : Bool) → streams.stream_at t n ≡ Some s
        → LeavesAlone t (cond b (Err BadArgument)
        (Ok (streams.with_stream t n (place.sought_in s.target t.files s by from))))
    by-from s true e = tt
    by-from s false e = changed-more t n s (place.sought_in s.target t.files s by from) e
        (sought-number s s.target) (sought-end s s.target refl)

    of-stream : (o : Option Stream) → streams.stream_at t n ≡ o
        → LeavesAlone t (answer.live o (λ s. cond (nat_lt 2 from) (Err BadArgument)
        (Ok (streams.with_stream t n (place.sought_in s.target t.files s by from)))))
    of-stream None e = tt
    of-stream (Some s) e = by-from s (nat_lt 2 from) e

pub styled-more : (t : StreamTable) (n style : ℕ) → LeavesAlone t (refs.styled t n style)
styled-more t n style = of-stream (streams.stream_at t n) refl
  where
    of-stream : (o : Option Stream) → streams.stream_at t n ≡ o
        → LeavesAlone t (answer.live o
        (λ s. Ok (streams.with_stream t n (record s { style = refs.style_of style }))))
    of-stream None e = tt
    of-stream (Some s) e =
        changed-more t n s (record s { style = refs.style_of style }) e refl refl

-- a window's stream is never read
pub got-more : (t : StreamTable) (m : MemoryMap) (n : ℕ) → LeavesMore t (input.got t m n)
got-more t m n = of-stream (streams.stream_at t n) refl
  where
    passed-end : (s : Stream) (r : Reading) → streams.is_window_target s.target ≡ false
        → stream_end (input.passed r s) ≡ stream_end s
    passed-end s r e = grind (arith, common_steps, e)

    behind-more : (s : Stream) (o : Option Reading) → streams.stream_at t n ≡ Some s
        → streams.is_window_target s.target ≡ false → More t (input.stream_behind t n s o).0
    behind-more s None e f = same-table t t refl
    behind-more s (Some r) e f = changed-more t n s (input.passed r s) e refl (passed-end s r f)

    got-on : (s : Stream) (r : Result (Option Reading) StreamStop)
        → streams.stream_at t n ≡ Some s → streams.is_window_target s.target ≡ false
        → LeavesMore t (◌>>=◌ r (λ x. Ok (input.stream_behind t n s x)))
    got-on s (Ok x) e f = behind-more s x e f
    got-on s (Err x) e f = tt

    by-target : (s : Stream) (x : target.Target) → s.target ≡ x → streams.stream_at t n ≡ Some s
        → LeavesMore t (◌>>=◌ (input.got_from x s.unicode t.files m s.place)
        (λ r. Ok (input.stream_behind t n s r)))
    by-target s (to.Window w) h e = tt
    by-target s (to.Memory b l) h e =
        got-on s (input.got_from (to.Memory b l) s.unicode t.files m s.place) e (rw h refl)
    by-target s (to.File a c) h e =
        got-on s (input.got_from (to.File a c) s.unicode t.files m s.place) e (rw h refl)

    by-mode : (s : Stream) (b : Bool) → streams.stream_at t n ≡ Some s
        → LeavesMore t (◌>>=◌
        (cond b (input.got_from s.target s.unicode t.files m s.place) (Err BadArgument))
        (λ r. Ok (input.stream_behind t n s r)))
    by-mode s true e = by-target s s.target refl e
    by-mode s false e = tt

    of-stream : (o : Option Stream) → streams.stream_at t n ≡ o
        → LeavesMore t (answer.live o (λ s. ◌>>=◌ (input.got_by t.files m s)
        (λ r. Ok (input.stream_behind t n s r))))
    of-stream None e = tt
    of-stream (Some s) e = by-mode s (streams.is_read_mode s.mode) e

-- nor has it bytes ahead
pub ahead-more : (t : StreamTable) (n : ℕ) → More t (input.ahead_passed t n).0
ahead-more t n = of-stream (streams.stream_at t n) refl
  where
    passed-end : (s : Stream) (count : ℕ) → streams.is_window_target s.target ≡ false
        → stream_end (input.passed_by count s) ≡ stream_end s
    passed-end s count e = grind (arith, common_steps, e)

    passed-more : (s : Stream) (o : Option (List ℕ)) → streams.stream_at t n ≡ Some s
        → streams.is_window_target s.target ≡ false → More t (input.stream_passed t n s o).0
    passed-more s None e f = same-table t t refl
    passed-more s (Some bytes) e f =
        changed-more t n s (input.passed_by (length bytes) s) e refl
        (passed-end s (length bytes) f)

    by-target : (s : Stream) (x : target.Target) → s.target ≡ x → streams.stream_at t n ≡ Some s
        → More t (input.stream_passed t n s
        (input.bytes_in_target x s.unicode t.files s.place)).0
    by-target s (to.Window w) h e = same-table t t refl
    by-target s (to.Memory b l) h e = same-table t t refl
    by-target s (to.File a c) h e =
        passed-more s (input.bytes_in_target (to.File a c) s.unicode t.files s.place) e (rw h refl)

    by-mode : (s : Stream) (b : Bool) → streams.stream_at t n ≡ Some s
        → More t (input.stream_passed t n s
        (cond b (input.bytes_in_target s.target s.unicode t.files s.place) None)).0
    by-mode s true e = by-target s s.target refl e
    by-mode s false e = same-table t t refl

    of-stream : (o : Option Stream) → streams.stream_at t n ≡ o
        → More t (streams.of_stream o (t, 0)
        (λ s. input.stream_passed t n s (input.bytes_by t.files s))).0
    of-stream None e = same-table t t refl
    of-stream (Some s) e = by-mode s (streams.is_read_mode s.mode) e

pub current-more : (t : StreamTable) (n : ℕ) → LeavesAlone t (refs.with_current t n)
current-more t n = by-live (n == 0 || has streams.stream_number t.streams n)
  where
    by-live : (b : Bool)
        → LeavesAlone t (cond b (Ok (record t { current = n })) (Err BadObject))
    by-live true = same-table t (record t { current = n }) refl
    by-live false = tt

pub made_ref-more : (t : StreamTable) (usage : ℕ) (name : List ℕ) (rock : ℕ)
    → More t (refs.made_ref t usage name rock).0
made_ref-more t usage name rock =
    same-table t (refs.made_ref t usage name rock).0
    (by-room (nat_le MAX_REFS (length t.refs) || nat_lt MAX_NUMBER t.next_ref) (t, 0) _ refl refl)
  where
    by-room : (b : Bool) (x y : StreamTable × ℕ) → x.0.streams ≡ t.streams
        → y.0.streams ≡ t.streams → (cond b x y).0.streams ≡ t.streams
    by-room true x y e f = e
    by-room false x y e f = f

pub copied-more : (t : StreamTable) (usage fref rock : ℕ)
    → LeavesMore t (refs.copied_ref t usage fref rock)
copied-more t usage fref rock = of-ref (streams.ref_at t fref)
  where
    of-ref : (o : Option FileRef)
        → LeavesMore t (answer.live o (λ r. Ok (refs.made_ref t usage r.name rock)))
    of-ref None = tt
    of-ref (Some r) = made_ref-more t usage r.name rock

-- a change that leaves the streams alone
pub alone-more : (t : StreamTable) (o : Option FileRef) (f : FileRef → StreamTable)
    → ((r : FileRef) → (f r).streams ≡ t.streams)
    → LeavesAlone t (answer.live o (λ r. Ok (f r)))
alone-more t None f h = tt
alone-more t (Some r) f h = same-table t (f r) (h r)
