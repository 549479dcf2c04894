-- A Glk state that is told and made again, and fields that are made and told again.
use Rattle.std.proofs.Common.{◌≡◌, ◌∙◌, ℕ, refl, ap, Option, Some, None, option_map}
use Rattle.std.specs.List.{AllByRecursion}
use Rattle.glk_numbers.proofs.EachLemmas.{each-by-number}
use Rattle.glk_windows.specs.Tree as tree
use Rattle.glk_windows.specs.Valid as windows
use Rattle.glk_windows.specs.declared.window.Window as window
use Rattle.glk_streams.specs.Streams as streams
use Rattle.glk_streams.specs.declared.stream.Stream as stream
use Rattle.glk_dispatch.specs.Links.{stream_end, stream_ends, window_link}
use Rattle.glk_dispatch.specs.Links.{owner, owner_in, live_stream}
use Rattle.glk_dispatch.specs.Valid.{IsValidGlk}
use Rattle.glk_dispatch.specs.declared.glk.Glk.{Glk}
use Rattle.glk_dispatch.proofs.EchoLemmas.{streams-ascend}
use Rattle.glk_dispatch.proofs.EntryLemmas.{entries_follow, streams_follow}
use Rattle.snap_glk.specs.Laws.{GivesBackGlk, StandsBetweenTurns, TakesFieldsBack}
use Rattle.snap_glk.specs.Made.{file_made, fileref_made, stream_made}
use Rattle.snap_glk.specs.Told.{file_told, fileref_told, glk_fields, stream_told}
use Rattle.snap_glk.proofs.ListLemmas.{map-back}
use Rattle.snap_glk.proofs.StreamLemmas.{IsTold, Owns, stream-again, streams-back, window-found}
use Rattle.snap_glk.proofs.WindowLemmas.{inputs-back, windows-again, windows-back, windows-begun}

-- ---- which window a stream is told to have

is-found : (o : Option window.Window) (n k : ℕ) → live_stream (option_map window_link o) ≡ Some k
    → (v : window.Window) × (o ≡ Some v)
is-found None n k e = absurd cc
is-found (Some v) n k e = (v, refl)

module _ (g : Glk) (v : IsValidGlk g) where
  is-told : (s : stream.Stream) → streams.stream_at g.streams s.number ≡ Some s
      → IsTold (glk_fields g).windows s
  unfolding windows.IsOrdered
  is-told s f n t =
      let owned : owner (stream_ends g s.number) ≡ Some n =
      ap (λ o. owner (option_map stream_end o)) f ∙ ap owner_in t in
      let there = is-found (tree.window_at g.windows.slots n) n s.number
      (v.linked.windows s.number n owned) in
      let own = each-by-number tree.window_number (Owns s.number n) g.windows.slots 0
      g.windows.next v.parts.windows.ordered.1 (λ w h. streams_follow g s n w v f t h) in
      window-found g.windows.slots g.requests s.number n there.0 (entries_follow g v) own there.1

  are-told : AllByRecursion (IsTold (glk_fields g).windows) g.streams.streams
  are-told = each-by-number streams.stream_number (IsTold (glk_fields g).windows)
      g.streams.streams 0 g.streams.next (streams-ascend g v.parts) is-told

pub gives-back : GivesBackGlk
gives-back g v e =
    let n = entries_follow g v in
    let ws = windows-back g.windows.slots g.requests n
    (ap (λ (h : Glk). h.windows.slots) e) v.parts.windows.sound in
    let is = inputs-back g.windows.slots g.requests n in
    let ss = streams-back (glk_fields g).windows g.streams.streams (are-told g v) in
    let rs = map-back fileref_told fileref_made (λ r. refl) g.streams.refs in
    let fs = map-back file_told file_made (λ f. refl) g.streams.files in
    let chars : 0 ≡ g.chars = ap (λ (h : Glk). h.chars) e in
    let printed : 0 ≡ g.printed = ap (λ (h : Glk). h.printed) e in
    rw (ws, is, ss, rs, fs) (ap (λ n. record g { chars = n; printed = 0 }) chars
    ∙ ap (λ n. record g { printed = n }) printed)

pub takes-back : TakesFieldsBack
takes-back cols rows event prompt f =
    let ws = windows-again f.windows in
    let ss = map-back (stream_made f.windows) stream_told (stream-again f.windows) f.streams in
    let rs = map-back fileref_made fileref_told (λ r. refl) f.filerefs in
    let fs = map-back file_made file_told (λ x. refl) f.files in
    rw (ws, ss, rs, fs) refl

pub stands-begun : StandsBetweenTurns
stands-begun cols rows event prompt f = rw (windows-begun f.windows) refl
