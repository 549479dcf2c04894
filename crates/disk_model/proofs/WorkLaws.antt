-- Laws of triples: a write that is durable has one, and two make one.
use Rattle.std.proofs.Common.{◌≡◌, ◌≤◌, ℕ, Bool, List, length, sym, subst}
use Rattle.std.specs.Prelude.{IsTrue, Result, Ok, Err, OnOk}
use Rattle.disk_model.specs.Disk.{Torn, AfterWrite, Elapses, Only}
use Rattle.disk_model.specs.Disk.{file_written}
use Rattle.disk_model.specs.Work.{EachImage, LeavesOnly, Triple}
use Rattle.disk_model.specs.declared.disk.Disk.{Ghosts as DiskWords}
use Rattle.disk_model.proofs.Moments.{started, goes_on, holds_now, weaker, and_then}

-- what follows from an Ok
pub on_ok : {T E : Type 0} {P Q : Type 0} (result : Result T E)
    → (P → Q) → OnOk result P → OnOk result Q
on_ok (Ok x) so is = so is
on_ok (Err e) so is = tt

-- what holds holds at an Ok
pub at_ok : {T E : Type 0} {P : Type 0} (result : Result T E) → P → OnOk result P
at_ok (Ok x) is = is
at_ok (Err e) is = tt

module _ {D : Type 0} {disks : DiskWords D} where
  -- a write that is durable before it answers, of a disk that is read as this image
  pub through :
      {T E : Type 0} {result : Result T E} {old new : D} {before during after : List ℕ → Type 0}
      (at : ℕ) (piece seen : List ℕ) → disks.may_leave old seen
      → OnOk result (IsTrue (disks.tells old) → Only (file_written seen at piece)
      (disks.may_leave new))
      → (IsTrue (disks.tells old)
      → LeavesOnly disks old new (AfterWrite at (length piece) (disks.may_leave old)))
      → ((c d : List ℕ) → before d → Torn at (length piece) d c → during c)
      → ((d : List ℕ) → before d → after (file_written d at piece))
      → Triple disks result old new before during after
  through {result = result} {old = old} {new = new} {during = during}
      {after = after} at piece seen reads ok crash torn wrote = record {
        meanwhile = λ told each.
            weaker disks old new _ during (crash told)
            (λ c now. torn c now.0 (each now.0 now.1) now.2);
        ended = λ told each.
            on_ok result
            (λ only c now. subst after (sym (only told c now)) (wrote seen (each seen reads))) ok;
      }

  -- one piece of work after another that ended Ok
  pub then_ :
      {S F T E : Type 0} {first : S} {result : Result T E} {old mid new : D}
      {before during between after : List ℕ → Type 0}
      → Triple {E = F} disks (Ok first) old mid before during between
      → disks.tells mid ≡ disks.tells old → Triple disks result mid new between during after
      → Triple disks result old new before during after
  then_ {old = old} {mid = mid} {new = new} {during = during} one same two = record {
    meanwhile = λ told each.
        and_then disks old mid new during (one.meanwhile told each)
        (two.meanwhile (so told) (one.ended told each));
    ended = λ told each. two.ended (so told) (one.ended told each);
  }
    where
      so : IsTrue (disks.tells old) → IsTrue (disks.tells mid)
      so told = subst (λ (b : Bool). IsTrue b) (sym same) told

  -- with a weaker fact while it goes on
  pub looser :
      {T E : Type 0} {result : Result T E} {old new : D}
      {before during later after : List ℕ → Type 0}
      → ((c : List ℕ) → during c → later c)
      → Triple disks result old new before during after
      → Triple disks result old new before later after
  looser {old = old} {new = new} {during = during} {later = later} so triple = record {
    meanwhile =
        λ told each. weaker disks old new during later (triple.meanwhile told each) so;
    ended = triple.ended;
  }

  -- work that fails says nothing of what it would have left
  pub failed :
      {S F T E : Type 0} {result : Result S F} {fault : E} {old new : D}
      {before during after later : List ℕ → Type 0}
      → Triple disks result old new before during after
      → Triple {T = T} disks (Err fault) old new before during later
  failed triple = record { meanwhile = triple.meanwhile; ended = λ told each. tt }

  -- no work leaves all as it was
  pub nothing :
      {T E : Type 0} {value : T} {disk : D} {fact : List ℕ → Type 0}
      → ((c : List ℕ) → disks.left_since disk (disks.moment disk) c → disks.may_leave disk c)
      → Triple {E = E} disks (Ok value) disk disk fact fact fact
  nothing {disk = disk} {fact = fact} only = record {
    meanwhile = λ told each. started disks disk fact (λ c left. each c (only c left));
    ended = λ told each. each;
  }

  -- one device call, after which each image has the fact
  pub called :
      {T E : Type 0} {result : Result T E} {old new : D} {before during after : List ℕ → Type 0}
      → ((c : List ℕ) → disks.left_since old (disks.moment old) c → disks.may_leave old c)
      → Elapses (disks.moment old) (disks.moment new) (disks.left_since old) (disks.left_since new)
      (disks.may_leave new)
      → ((c : List ℕ) → before c → during c)
      → ((c : List ℕ) → after c → during c)
      → (IsTrue (disks.tells old) → ((c : List ℕ) → disks.may_leave old c → before c)
      → (c : List ℕ) → disks.may_leave new c → after c)
      → Triple disks result old new before during after
  called {result = result} {old = old} {new = new} {during = during} only time first last now =
      record {
        meanwhile = λ told each.
            goes_on disks old old new during (disks.may_leave new)
            (started disks old during (λ c left. first c (each c (only c left)))) time
            (λ c left. last c (now told each c left));
        ended = λ told each. at_ok result (now told each);
      }

  -- an Ok, whatever it holds
  pub done :
      {S F T E : Type 0} {first : S} {last : T} {old new : D}
      {before during after : List ℕ → Type 0}
      → Triple {E = F} disks (Ok first) old new before during after
      → Triple {E = E} disks (Ok last) old new before during after
  done triple = record { meanwhile = triple.meanwhile; ended = triple.ended }

  -- the images afterwards have what held meanwhile
  pub images_meanwhile :
      {T E : Type 0} {result : Result T E} {old new : D} {before during after : List ℕ → Type 0}
      → ((t : ℕ) (c : List ℕ) → t ≤ disks.moment new → disks.may_leave new c
      → disks.left_since new t c)
      → disks.tells new ≡ disks.tells old → Triple disks result old new before during after
      → EachImage disks old before → EachImage disks new during
  images_meanwhile {old = old} {new = new} {during = during} counts same triple each told c now =
      let told_before = subst (λ (b : Bool). IsTrue b) same told in
      holds_now disks old new during counts
      (triple.meanwhile told_before (each told_before)) c now

  -- and after Ok what is to hold then
  pub images_after :
      {T E : Type 0} {value : T} {old new : D} {before during after : List ℕ → Type 0}
      → disks.tells new ≡ disks.tells old
      → Triple {E = E} disks (Ok value) old new before during after → EachImage disks old before
      → EachImage disks new after
  images_after same triple each told =
      let told_before = subst (λ (b : Bool). IsTrue b) same told in
      triple.ended told_before (each told_before)
