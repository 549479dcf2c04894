-- Each entry that came since the passes of workers were split off is one that the turn of a line
-- added.
use Rattle.std.proofs.Common.{◌≡◌, ◌⊎◌, ℕ, zero, suc, ◌<◌, ◌≤◌, List, [], ◌∷◌, ◌++◌, length, take}
use Rattle.std.proofs.Common.{refl, sym, ap, ◌∙◌, subst, inl, inr, arith, Some}
use Rattle.std.specs.Prelude.{slice_get}
use Rattle.std.proofs.lemmas.Option.{same_Some}
use Rattle.turn_cell.specs.History.{Continues, Each, IsAmong, IsForeign}
use Rattle.host_serve.specs.Crews.{EachDid}
use Rattle.host_serve.specs.Doors.{turns_of_visits}
use Rattle.host_serve.specs.Ending.{EndsAt}
use Rattle.host_serve.specs.Holders.{Holder, holder_at, holders, seen_at, seens}
use Rattle.host_serve.specs.Serves.{AddedOnce, AnsweredLine, ServesLines, own_world, turned_again}
use Rattle.host_serve.specs.declared.door.Door.{Ghosts as DoorWords}
use Rattle.host_serve.specs.declared.host.Host.{Host}
use Rattle.host_serve.specs.declared.host.Passes.{Passes}
use Rattle.host_serve.specs.declared.worked.Worked.{Worked}
use Rattle.line_talk.specs.Streams.{SourceState, SinkState}
use Rattle.session_core.specs.Turning.{entry_by}
use Rattle.session_core.specs.declared.entry.Entry.{Entry}
use Rattle.story_run.specs.declared.story.Story.{Story}
use Rattle.host_top.specs.DoorServed.{AddsAt, AddsForLine, OneDid, WorksAt}
use Rattle.host_top.specs.Rejoining.{AreAllHeld, GoOnFrom, HaveSeen, IsHeldByOne, Rejoins}
use Rattle.host_top.proofs.CrewLemmas.{heard, holds_all, who}

-- what stands behind a beginning
behind : (P : Entry → Type 0) (log seen : List Entry) (k : ℕ) (e : Entry) → Continues P log seen
    → length seen ≤ k → slice_get log k ≡ Some e → P e
behind P log seen k e on low at =
    there seen on.0 k on.2 low (ap (λ (l : List Entry). slice_get l k) (sym on.1) ∙ at)
  where
    in_rest : (rest : List Entry) (k : ℕ) → Each P rest → slice_get rest k ≡ Some e → P e
    in_rest [] k each is = absurd cc
    in_rest (x ∷ rest) zero each is = subst P (same_Some x e is) each.0
    in_rest (x ∷ rest) (suc k) each is = in_rest rest k each.1 is

    there : (seen rest : List Entry) (k : ℕ) → Each P rest → length seen ≤ k
        → slice_get (seen ++ rest) k ≡ Some e → P e
    there [] rest k each low is = in_rest rest k each is
    there (x ∷ seen) rest zero each low is = absurd (omega arith)
    there (x ∷ seen) rest (suc k) each low is = there seen rest k each (omega arith) is

-- and what doesn't, stands in it
within : (P : Entry → Type 0) (log seen : List Entry) (k : ℕ) (e : Entry) → Continues P log seen
    → (P e → ⊥) → slice_get log k ≡ Some e → slice_get seen k ≡ Some e
within P log seen k e on never at =
    there seen on.0 k on.2 (ap (λ (l : List Entry). slice_get l k) (sym on.1) ∙ at)
  where
    in_rest : (rest : List Entry) (k : ℕ) → Each P rest → slice_get rest k ≡ Some e → P e
    in_rest [] k each is = absurd cc
    in_rest (x ∷ rest) zero each is = subst P (same_Some x e is) each.0
    in_rest (x ∷ rest) (suc k) each is = in_rest rest k each.1 is

    there : (seen rest : List Entry) (k : ℕ) → Each P rest
        → slice_get (seen ++ rest) k ≡ Some e → slice_get seen k ≡ Some e
    there [] rest k each is = absurd (never (in_rest rest k each is))
    there (x ∷ seen) rest zero each is = is
    there (x ∷ seen) rest (suc k) each is = there seen rest k each is

-- a beginning that reaches past the place has the same entries before it
same_take : (P : Entry → Type 0) (log seen : List Entry) (k : ℕ) (e : Entry)
    → Continues P log seen → slice_get seen k ≡ Some e → take k seen ≡ take k log
same_take P log seen k e on at =
    there seen on.0 k at ∙ ap (λ (l : List Entry). take k l) (sym on.1)
  where
    there : (seen rest : List Entry) (k : ℕ) → slice_get seen k ≡ Some e
        → take k seen ≡ take k (seen ++ rest)
    there [] rest k is = absurd cc
    there (x ∷ seen) rest zero is = refl
    there (x ∷ seen) rest (suc k) is = ap (λ (l : List Entry). x ∷ l) (there seen rest k is)

-- the line whose turn added the entry at a place of what a worker has seen added it there in each
-- history that goes on from this
adds_at : (stories : List Story) (budget : ℕ) (sound : Type 0) (hs : List Holder)
    (old new : List (List Entry)) (turns : List AnsweredLine) (P : Entry → Type 0) (s k : ℕ)
    (e : Entry) (final : List Entry) → s < 64 → Continues P final (seen_at new s)
    → slice_get (seen_at new s) k ≡ Some e → ServesLines stories budget sound hs old turns new
    → (once : AddedOnce stories budget hs new turns s k)
    → AddsAt stories budget sound s final k e once.turn
adds_at stories budget sound hs old new turns P s k e final low on at serves once =
    let t = once.turn in
    let before : take t.mark.length (seen_at new t.mark.session) ≡ take k final =
    (λ i. take (once.place i) (seen_at new (once.session i))) ∙ same_take P final (seen_at new s) k
    e on at in
    let same : once.adds.0 ≡ e =
    same_Some once.adds.0 e (sym once.adds.2
    ∙ ((λ i. slice_get (seen_at new (once.session i)) (once.place i)) ∙ at)) in
    let by : (holder_at hs t.mark.session).number ≡ entry_by e =
    sym once.adds.3 ∙ ap entry_by same in
    record {
      names = elim (serves.marks once.which t once.stands) [
        | inl own ↦ sym own.1 ∙ once.session
        | inr none ↦ let far = none.0 in let near = once.session in absurd (omega arith)
      ];
      adds =
          sym (λ i. (turned_again stories budget (before i) (by i) t).history)
          ∙ (once.adds.1 ∙ (λ i. before i ++ same i ∷ []));
      own = λ holds. serves.own holds once.which t once.stands
          ∙ ap (λ (h : List Entry). own_world stories h) before;
    }

module _ {O Conn Lent Done Fault D : Type 0} (doors : DoorWords O Conn Done Fault)
    (source : Conn → SourceState) (sink : Conn → SinkState) (lent : Conn → Lent)
    (sound : Host D → Type 0) (host : Host D) (door : O) (seen finals : List (List Entry))
    (s k : ℕ) (e : Entry) where
  abbrev Did : Passes D → Passes D → Worked O Conn Done Fault → Type 0
  Did = WorksAt doors source sink lent sound host door

  abbrev Adds : (x y : Passes D) (a : Worked O Conn Done Fault) → Did x y a → Type 0
  Adds = AddsForLine doors source sink lent sound host door s (seen_at finals s) k e

  -- an entry whose number one of the workers holds was added for a line of that worker
  pub one_added : (before after : List (Passes D)) (answers : List (Worked O Conn Done Fault))
      (did : EachDid Did before after answers) → s < 64 → Each (HaveSeen seen) before
      → Each (GoOnFrom finals) after → length (seen_at seen s) ≤ k
      → slice_get (seen_at finals s) k ≡ Some e → IsHeldByOne s (entry_by e) after
      → OneDid Did Adds before after answers did
  one_added [] [] [] did low begin goes from at held = absurd held
  one_added [] [] (a ∷ answers) did low begin goes from at held = absurd did
  one_added [] (y ∷ ys) answers did low begin goes from at held = absurd did
  one_added (x ∷ xs) [] answers did low begin goes from at held = absurd did
  one_added (x ∷ xs) (y ∷ ys) [] did low begin goes from at held = absurd did
  one_added (x ∷ xs) (y ∷ ys) (a ∷ answers) did low begin goes from at (inr held) =
      inr (one_added xs ys answers did.1 low begin.1 goes.1 from at held)
  one_added (x ∷ xs) (y ∷ ys) (a ∷ answers) did low begin goes from at (inl own) =
      let on = goes.0 s low in
      let stands = within (IsForeign entry_by (who y s).holds) (seen_at finals s) (heard y s) k e
      on (λ foreign. foreign own) at in
      let once = did.0.serves.once s k e
      (subst (λ (l : List (List Entry)). length (seen_at l s) ≤ k) (sym begin.0) from) stands
      (subst (λ (hs : List Holder). IsAmong (entry_by e) (holder_at hs s).holds)
      did.0.served.held own) in
      inl (record {
        holds = own;
        stands = stands;
        once = once;
        adds = adds_at host.stories.now host.budget (sound host) (holders x.desks.items)
            (seens x.desks.items) (seens y.desks.items) (turns_of_visits did.0.served.visits)
            (IsForeign entry_by (who y s).holds) s k e (seen_at finals s) low on stands
            did.0.serves once;
      })

  -- each entry that came since, as the host ends
  pub all_added : (first last : Passes D) (before after : List (Passes D))
      (answers : List (Worked O Conn Done Fault)) (did : EachDid Did before after answers)
      → s < 64 → seens first.desks.items ≡ seen → Rejoins first after last
      → AreAllHeld last (last ∷ []) → Each (HaveSeen seen) before → Each (GoOnFrom finals) after
      → EndsAt (who last s) (heard last s) (seen_at finals s) → length (seen_at seen s) ≤ k
      → slice_get (seen_at finals s) k ≡ Some e → OneDid Did Adds before after answers did
  all_added first last before after answers did low heard_so rejoined whole begin goes ends from
      at =
      let at_last : slice_get (heard last s) k ≡ Some e =
      ap (λ (l : List Entry). slice_get l k) (sym (ends.complete (holds_all last s low whole)))
      ∙ at in
      let from_first : length (heard first s) ≤ k =
      subst (λ (l : List (List Entry)). length (seen_at l s) ≤ k) (sym heard_so) from in
      let known = behind (λ (x : Entry). entry_by x ≤ (who last s).made) (heard last s)
      (heard first s) k e (rejoined.given s low) from_first at_last in
      let foreign = behind (IsForeign entry_by (who first s).holds) (heard last s)
      (heard first s) k e (rejoined.first s low).since from_first at_last in
      elim (rejoined.held s (entry_by e) low known) [
        | inl own ↦ absurd (foreign own)
        | inr other ↦ one_added before after answers did low begin goes from at other
      ]
