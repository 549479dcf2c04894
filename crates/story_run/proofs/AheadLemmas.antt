-- What is read of a file all at once is what is read a character at a time.
use Rattle.std.proofs.Common.{◌≡◌, ◌<◌, ◌≤◌, ℕ, zero, suc, ◌+◌, ◌-◌, ◌%◌, ◌^◌, min, false, List, []}
use Rattle.std.proofs.Common.{◌∷◌, ◌++◌, length, length-drop, drop, refl, sym, ap}
use Rattle.std.proofs.Common.{◌∙◌, subst, Some, Result, Ok, Err, slice_index, arith}
use Rattle.std.proofs.lemmas.Grind.{common_steps}
use Rattle.std.proofs.lemmas.List.{drop_more, get_or-drop, nil_from_length}
use mathlib.Core.List.{append_assoc}
use Rattle.vm_memory.specs.MemoryMap.{MemoryMap}
use Rattle.glk_input.specs.Delivery.{code_taken}
use Rattle.glk_streams.specs.Input.{AreBytes, bytes_ahead, passed_by}
use Rattle.glk_streams.specs.Streams.{StreamTable, stream_number, with_stream}
use Rattle.glk_streams.specs.declared.stream.Stream.{Stream}
use Rattle.glk_streams.proofs.AheadLemmas.{IsReader, ahead-rest, byte_read, got-byte, got-end}
use Rattle.glk_streams.proofs.AheadLemmas.{reader-passed, with-again}
use Rattle.glk_streams.proofs.ValidLemmas.{number-found}
use Rattle.glk_dispatch.specs.Streams.{ahead_counted, ahead_read}
use Rattle.glk_dispatch.specs.declared.glk.Glk.{Glk}
use Rattle.glk_dispatch.specs.Answer.{Reached, within}
use Rattle.quetzal.specs.Save.{save_in}
use Rattle.vm_exec.specs.Answer.{Changes}
use Rattle.vm_exec.specs.declared.machine.Machine.{Machine}
use Rattle.vm_memory.specs.Chaining.{◌>>=◌}
use Rattle.vm_memory.specs.declared.fault.Trap.{Trap}
use Rattle.vm_memory.specs.declared.fault.Trap.TheVariants.{Fault, NoMemory}
use Rattle.story_run.specs.Saves.{LeavesGlkAndMachine, brought_back, rest_of_stream, rest_restored}

taken-byte : (b : ℕ) → b < 256 → code_taken false b ≡ b
taken-byte b l = grind (arith, common_steps, l)

added-again : (a k : ℕ) → ((a + 1) % 2 ^ 32 + suc k) % 2 ^ 32 ≡ (a + suc (suc k)) % 2 ^ 32
added-again a k = omega arith

counted-again : (a k : ℕ)
    → min (min (a + 1) (2 ^ 64 - 1) + suc k) (2 ^ 64 - 1) ≡ min (a + suc (suc k)) (2 ^ 64 - 1)
counted-again a k = omega arith

placed-again : (a k : ℕ) → a + 1 + suc k ≡ a + suc (suc k)
placed-again a k = omega arith

passed-again : (s : Stream) (k : ℕ) → passed_by (suc k) (passed_by 1 s) ≡ passed_by (suc (suc k)) s
passed-again s k =
    ap (λ (r : ℕ). record s { read = r; place = s.place + 1 + suc k }) (added-again s.read k)
    ∙ ap (λ (p : ℕ). record s { read = (s.read + suc (suc k)) % 2 ^ 32; place = p })
    (placed-again s.place k)

module _ (m : MemoryMap) (n usage : ℕ) (name bytes : List ℕ) where
  -- the state with so many characters of the stream read
  abbrev behind : ℕ → Glk → Stream → Glk
  behind k g s = ahead_counted g (with_stream g.streams n (passed_by k s), k)

  behind-again : (k : ℕ) (g : Glk) (s : Stream) → s.number ≡ n
      → behind (suc k) (behind 1 g s) (passed_by 1 s) ≡ behind (suc (suc k)) g s
  behind-again k g s e =
      ap (λ (t : StreamTable). record g {
        streams = t;
        chars = min (min (g.chars + 1) (2 ^ 64 - 1) + suc k) (2 ^ 64 - 1);
      })
      (with-again g.streams n (passed_by 1 s) (passed_by (suc k) (passed_by 1 s)) e
      ∙ ap (λ v. with_stream g.streams n v) (passed-again s k))
      ∙ ap (λ (c : ℕ). record g {
        streams = with_stream g.streams n (passed_by (suc (suc k)) s);
        chars = c;
      }) (counted-again g.chars k)

  end : (most : ℕ) (g : Glk) (s : Stream) (read : List ℕ)
      → IsReader g.streams n usage name bytes s → s.place ≡ length bytes
      → rest_of_stream most g m n read ≡ Ok (g, read)
  unfolding rest_of_stream
  end zero g s read o e = refl
  end (suc most) g s read o e = rw (got-end m n usage name bytes g.streams s o e) refl

  one : (most : ℕ) (g : Glk) (s : Stream) (read : List ℕ)
      → IsReader g.streams n usage name bytes s → s.place < length bytes
      → slice_index bytes s.place < 256
      → rest_of_stream (suc most) g m n read
      ≡ rest_of_stream most (behind 1 g s) m n (read ++ slice_index bytes s.place ∷ [])
  unfolding rest_of_stream
  one most g s read o l b = rw (
    got-byte m n usage name bytes g.streams s o l,
    taken-byte (slice_index bytes s.place) b,
  ) refl

  last : (s : Stream) (read : List ℕ) → s.place + 1 ≡ length bytes
      → read ++ slice_index bytes s.place ∷ [] ≡ read ++ drop s.place bytes
  last s read e =
      let long = length-drop (s.place + 1) bytes in
      let none : drop (s.place + 1) bytes ≡ [] =
      nil_from_length (drop (s.place + 1) bytes) (omega (arith, e, long)) in
      ap (λ xs. read ++ xs) (ap (λ xs. slice_index bytes s.place ∷ xs) (sym none)
      ∙ sym (drop_more bytes s.place 0 (omega (arith, e))))

  more : (s : Stream) (read : List ℕ) → s.place < length bytes
      → (read ++ slice_index bytes s.place ∷ []) ++ drop (s.place + 1) bytes
      ≡ read ++ drop s.place bytes
  more s read l = append_assoc read (slice_index bytes s.place ∷ []) (drop (s.place + 1) bytes)
      ∙ ap (λ xs. read ++ xs) (sym (drop_more bytes s.place 0 l))

  many : (k most : ℕ) (g : Glk) (s : Stream) (read : List ℕ)
      → IsReader g.streams n usage name bytes s → s.number ≡ n → s.place + suc k ≡ length bytes
      → k < most → ((i : ℕ) → s.place ≤ i → i < length bytes → slice_index bytes i < 256)
      → rest_of_stream most g m n read ≡ Ok (behind (suc k) g s, read ++ drop s.place bytes)
  many k zero g s read o e l h b = absurd (omega (arith, h))
  many zero (suc most) g s read o e l h b =
      one most g s read o (omega (arith, l)) (b s.place (omega arith) (omega (arith, l)))
      ∙ end most (behind 1 g s) (passed_by 1 s) (read ++ slice_index bytes s.place ∷ [])
      (reader-passed m n usage name bytes g.streams s (byte_read 0) o) l
      ∙ ap (λ xs. Ok (behind 1 g s, xs)) (last s read l)
  many (suc k) (suc most) g s read o e l h b =
      one most g s read o (omega (arith, l)) (b s.place (omega arith) (omega (arith, l)))
      ∙ many k most (behind 1 g s) (passed_by 1 s) (read ++ slice_index bytes s.place ∷ [])
      (reader-passed m n usage name bytes g.streams s (byte_read 0) o) e (omega (arith, l))
      (omega (arith, h)) (λ i a z. b i (omega (arith, a)) z)
      ∙ ap (λ x. Ok (x, (read ++ slice_index bytes s.place ∷ []) ++ drop (s.place + 1) bytes))
      (behind-again k g s e)
      ∙ ap (λ xs. Ok (behind (suc (suc k)) g s, xs)) (more s read (omega (arith, l)))

-- all that is ahead is the rest of the stream
pub rest-ahead : (g : Glk) (m : MemoryMap) (n : ℕ) (ahead : List ℕ)
    → bytes_ahead g.streams n ≡ Some ahead → AreBytes ahead → length ahead ≤ 1048576
    → rest_of_stream 4294967295 g m n [] ≡ Ok (ahead_read g n, ahead)
rest-ahead g m n ahead e b l =
    let a = ahead-rest g.streams n ahead e in
    let s = a.stream in
    let rest : length ahead ≡ length a.bytes - s.place =
    sym (ap length a.is_rest) ∙ length-drop s.place a.bytes in
    let k = length ahead - 1 in
    let some : suc k ≡ length ahead = omega (arith, rest, a.more) in
    let all : s.place + suc k ≡ length a.bytes = omega (arith, some, rest, a.more) in
    many m n a.usage a.name a.bytes k 4294967295 g s [] a.reader
    (number-found stream_number g.streams.streams n s a.reader.is) all (omega (arith, some, l))
    (λ i low high. byte-at a.bytes s.place i a.is_rest low high rest)
    ∙ ap (λ (j : ℕ). Ok (
      ahead_counted g (with_stream g.streams n (passed_by j s), j),
      drop s.place a.bytes,
    )) some
    ∙ ap (λ p. Ok (ahead_counted g p, drop s.place a.bytes)) (sym a.passes)
    ∙ ap (λ xs. Ok (ahead_read g n, xs)) a.is_rest
  where
    byte-at : (bytes : List ℕ) (place i : ℕ) → drop place bytes ≡ ahead → place ≤ i
        → i < length bytes → length ahead ≡ length bytes - place → slice_index bytes i < 256
    byte-at bytes place i e low high r =
        let at : place + (i - place) ≡ i = omega (arith, low) in
        let same : slice_index ahead (i - place) ≡ slice_index bytes i =
        sym (ap (λ xs. slice_index xs (i - place)) e) ∙ get_or-drop place bytes (i - place) 0
        ∙ ap (λ j. slice_index bytes j) at in
        subst (λ x. x < 256) same (b (i - place) (omega (arith, low, high, r)))

-- a restore from what is ahead is one from the rest
pub restored-ahead : (image : List ℕ) (g h : Glk) (m k : Machine) (n : ℕ) (ahead : List ℕ)
    (r : Result (Unit {0}) Trap) → bytes_ahead g.streams n ≡ Some ahead → AreBytes ahead
    → length ahead ≤ 1048576 → h ≡ ahead_read g n
    → Changes (brought_back m (save_in image ahead)) k r
    → LeavesGlkAndMachine (rest_restored image g m n) h k r
restored-ahead image g h m k n ahead r e b l same does = by-result r does
  where
    stored : Glk → Result Machine ℕ → Reached (Glk × Machine)
    stored g x = within g x >>= (λ k. Ok (g, k))

    all : rest_restored image g m n ≡ stored h (brought_back m (save_in image ahead))
    all = ap (λ x. x >>= (λ p. stored p.0 (brought_back m (save_in image p.1))))
        (rest-ahead g m.memory n ahead e b l)
        ∙ ap (λ g. stored g (brought_back m (save_in image ahead))) (sym same)

    by-result : (r : Result (Unit {0}) Trap)
        → Changes (brought_back m (save_in image ahead)) k r
        → LeavesGlkAndMachine (rest_restored image g m n) h k r
    by-result (Ok x) d = all ∙ ap (stored h) d
    by-result (Err (Fault x)) d = all ∙ ap (stored h) d
    by-result (Err NoMemory) d = tt
