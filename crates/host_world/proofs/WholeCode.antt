-- The events of a host with its files, as they are made.
use Rattle.std.proofs.Common.{◌≡◌, ◌∙◌, ℕ, zero, suc, ◌+◌, ◌-◌, ◌<◌, ◌==◌, Bool, true}
use Rattle.std.proofs.Common.{false, List, [], ◌∷◌, ◌++◌, length, take, drop, get_or}
use Rattle.std.proofs.Common.{Some, None, Result, Ok, Err, OnOk, map, refl, sym, ap, arith}
use Rattle.std.specs.Prelude.{◌&&◌, set, if◌then◌else◌}
use Rattle.std.specs.List.{slice_get}
use Rattle.std.proofs.lemmas.List.{take-append-drop}
use Rattle.std.proofs.lemmas.Option.{slice_get-get_or}
use Rattle.disk_model.specs.Plain.{is_image}
use Rattle.story_run.specs.declared.story.Story.{Story}
use Rattle.store_events.specs.declared.event.FileEvent.TheVariants as files
use Rattle.store_events.specs.declared.state.StoreState.{StoreState}
use Rattle.store_events.specs.Events.{begins_opening, file_after}
use Rattle.host_world.specs.Events.{after, run}
use Rattle.host_world.specs.Whole.{are_images, closes_host, fails_at, is_up, no_put, stopped_files}
use Rattle.host_world.specs.Keeping.{with_event}
use Rattle.host_world.specs.Whole.{whole_after, with_files, with_host}
use Rattle.host_world.specs.declared.event.JournalEvent.{JournalEvent}
use Rattle.host_world.specs.declared.event.JournalEvent.TheVariants as journal
use Rattle.host_world.specs.declared.state.JournalHost.{JournalHost}
use Rattle.host_world.specs.declared.whole.Event.TheVariants.{Call, Give, Recover, Stop}
use Rattle.host_world.specs.declared.whole.HostState.{HostState}
use Rattle.host_world.proofs.FollowLemmas.{run-append}
use Rattle.host_world.proofs.Lists.{some_same}

pub on_ok : {T E P Q : Type 0} (r : Result T E) → (P → Q) → OnOk r P → OnOk r Q
on_ok (Ok x) f p = f p
on_ok (Err e) f p = tt

pub on_host : {T E : Type 0} (r : Result T E) (w : HostState) (new old : JournalHost)
    → OnOk r (new ≡ old) → OnOk r (with_host w new ≡ with_host w old)
on_host r w new old is = on_ok r (λ same. ap (λ (h : JournalHost). with_host w h) same) is

-- ---- a loop over the files

-- the files of which so many are stopped
abbrev pub so_far : ℕ → List StoreState → List (List ℕ) → List StoreState
so_far i stores images = stopped_files (take i stores) (take i images) ++ drop i stores

stop_more : (stores : List StoreState) (images : List (List ℕ)) (i : ℕ) (x : StoreState)
    (image : List ℕ) → slice_get stores i ≡ Some x → slice_get images i ≡ Some image
    → set (so_far i stores images) i (file_after x (files.Stop image))
    ≡ so_far (suc i) stores images
stop_more [] images i x image at named = absurd cc
stop_more (u ∷ stores) [] i x image at named = absurd cc
stop_more (u ∷ stores) (one ∷ images) zero x image at named =
    ap (λ (v : StoreState). file_after v (files.Stop image) ∷ stores) (sym (some_same u x at))
    ∙ ap (λ (l : List ℕ). file_after u (files.Stop l) ∷ stores) (sym (some_same one image named))
stop_more (u ∷ stores) (one ∷ images) (suc i) x image at named =
    ap (λ (l : List StoreState). file_after u (files.Stop one) ∷ l)
    (stop_more stores images i x image at named)

stop_none : (stores : List StoreState) (images : List (List ℕ)) (i : ℕ)
    → i < length stores → slice_get images i ≡ None
    → so_far i stores images ≡ so_far (suc i) stores images
stop_none [] images i lt none = absurd (omega (arith, lt))
stop_none (u ∷ stores) [] zero lt none = refl
stop_none (u ∷ stores) [] (suc i) lt none =
    ap (λ (l : List StoreState). u ∷ l)
    (whole i ∙ sym (whole (suc i)))
  where
    none_stopped : (l : List StoreState) → stopped_files l [] ≡ l
    none_stopped [] = refl
    none_stopped (v ∷ l) = refl

    whole : (k : ℕ) → take k stores ++ drop k stores ≡ stores
    whole k = take-append-drop k stores
stop_none (u ∷ stores) (one ∷ images) zero lt none = absurd cc
stop_none (u ∷ stores) (one ∷ images) (suc i) lt none =
    ap (λ (l : List StoreState). file_after u (files.Stop one) ∷ l)
    (stop_none stores images i (omega (arith, lt)) none)

-- the next file is as it was
next_file : (stores : List StoreState) (images : List (List ℕ)) (i : ℕ) (d : StoreState)
    → i < length stores → get_or (so_far i stores images) i d ≡ get_or stores i d
next_file [] images i d lt = absurd (omega (arith, lt))
next_file (u ∷ stores) images zero d lt = refl
next_file (u ∷ stores) [] (suc i) d lt =
    ap (λ (l : List StoreState). get_or l i d) (take-append-drop i stores)
next_file (u ∷ stores) (one ∷ images) (suc i) d lt =
    next_file stores images i d (omega (arith, lt))

one_more : (stores : List StoreState) (images : List (List ℕ)) (i : ℕ)
    → so_far (suc i) stores images ≡ so_far (i + 1) stores images
one_more stores images i =
    let same : suc i ≡ i + 1 = omega arith in
    ap (λ (n : ℕ). so_far n stores images) same

pub stops_next : (stores items : List StoreState) (images : List (List ℕ)) (i : ℕ)
    (x y : StoreState) (image : List ℕ) → i < length stores
    → items ≡ so_far i stores images → x ≡ get_or items i x → slice_get images i ≡ Some image
    → y ≡ file_after x (files.Stop image)
    → set items i y ≡ so_far (i + 1) stores images
stops_next stores items images i x y image lt are here named is =
    let read : get_or stores i x ≡ x =
    sym (here ∙ ap (λ (l : List StoreState). get_or l i x) are ∙ next_file stores images i x lt) in
    let at : slice_get stores i ≡ Some x =
    slice_get-get_or stores i x lt ∙ ap (λ (v : StoreState). Some v) read in
    ap (λ (l : List StoreState). set l i y) are
    ∙ ap (λ (v : StoreState). set (so_far i stores images) i v) is
    ∙ stop_more stores images i x image at named ∙ one_more stores images i

pub skips_next : (stores items : List StoreState) (images : List (List ℕ)) (i : ℕ)
    → i < length stores → items ≡ so_far i stores images → slice_get images i ≡ None
    → items ≡ so_far (i + 1) stores images
skips_next stores items images i lt are none =
    are ∙ stop_none stores images i lt none ∙ one_more stores images i

-- behind the last one
cut_images : (stores : List StoreState) (images : List (List ℕ)) (i : ℕ) → length stores ≡ i
    → so_far i stores images ≡ stopped_files stores images
cut_images [] images zero is = refl
cut_images [] images (suc i) is = refl
cut_images (u ∷ stores) images zero is = absurd (omega (arith, is))
cut_images (u ∷ stores) [] (suc i) is =
    ap (λ (l : List StoreState). u ∷ l) (take-append-drop i stores)
cut_images (u ∷ stores) (one ∷ images) (suc i) is =
    ap (λ (l : List StoreState). file_after u (files.Stop one) ∷ l)
    (cut_images stores images i (omega (arith, is)))

pub stops_end : (stores items : List StoreState) (images : List (List ℕ)) (i : ℕ)
    → length stores ≡ i → items ≡ so_far i stores images → items ≡ stopped_files stores images
stops_end stores items images i is are = are ∙ cut_images stores images i is

-- ---- events

module _ (stories : List Story) (budget : ℕ) (w : HostState) where
  pub gives_is : (s : ℕ) (host : JournalHost) → no_put (slice_get w.stores s) ≡ true
      → host ≡ after stories budget w.host (journal.Give s)
      → with_host w host ≡ whole_after stories budget w (Give s)
  gives_is s host free is = rw (is, free) refl

  pub called_is : (disk : ℕ) (good : Bool) (reads : List ℕ) (mid new : HostState)
      → (disk == 0) ≡ false → w.host.up ≡ true
      → fails_at (slice_get w.stores (disk - 1)) good reads ≡ true
      → mid ≡ with_files w (with_event w.stores (disk - 1) (files.Call good reads))
      → new ≡ with_host mid (run stories budget mid.host (closes_host mid.host))
      → new ≡ whole_after stories budget w (Call disk good reads)
  called_is disk good reads mid new other up fails mid_is is =
      rw (is, mid_is, other, up, fails) refl

  pub stops_is : (image : List ℕ) (images : List (List ℕ)) (mid new : HostState)
      → is_image w.host.disk image ≡ true → are_images w.stores images ≡ true
      → mid ≡ with_host w (after stories budget w.host (journal.Stop (image ∷ [])))
      → new ≡ with_files mid (stopped_files mid.stores images)
      → new ≡ whole_after stories budget w (Stop (image ∷ images))
  stops_is image images mid new first others mid_is is =
      is
      ∙ ap (λ (m : HostState). with_files m (stopped_files m.stores images)) mid_is
      ∙ ap (λ (b : Bool). record {
        host = run stories budget w.host (if b then journal.Stop (image ∷ []) ∷ [] else []);
        stores = if b then stopped_files w.stores images else w.stores;
      }) (sym both)
    where
      both : (is_image w.host.disk image && are_images w.stores images) ≡ true
      both = ap (λ (b : Bool). b && are_images w.stores images) first ∙ others

  abbrev closed_up : List JournalEvent
  closed_up = if w.host.up then closes_host w.host else []

  pub recovers_is : (closed begun new : HostState) → is_up w ≡ false
      → closed ≡ with_host w (run stories budget w.host closed_up)
      → begun ≡ with_host closed (after stories budget closed.host journal.Recover)
      → new ≡ with_files begun (map begins_opening begun.stores)
      → new ≡ whole_after stories budget w Recover
  recovers_is closed begun new down closed_is begun_is is =
      rw (
        is,
        begun_is,
        closed_is,
        down,
        run-append stories budget closed_up (journal.Recover ∷ []) w.host,
      ) refl
