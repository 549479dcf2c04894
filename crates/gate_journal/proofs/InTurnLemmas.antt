-- Entries in turn, and the images between them.
use Rattle.std.proofs.Common.{◌≡◌, ◌⊎◌, inl, inr, ⊎_elim, ℕ, ◌≤◌, List, [], ◌∷◌, ◌++◌}
use Rattle.std.proofs.Common.{take, drop, refl, sym, subst, ap, ◌∙◌, arith, append_assoc, append-nil}
use Rattle.std.proofs.Common.{Option, Some, None}
use Rattle.std.specs.Prelude.{IfSome}
use Rattle.std.proofs.lemmas.List.{take-append-drop}
use Rattle.disk_model.specs.Work.{LeavesOnly}
use Rattle.disk_model.specs.declared.disk.Disk.{Ghosts as DiskWords}
use Rattle.disk_model.proofs.Moments.{weaker, and_then}
use Rattle.gate_journal.specs.declared.row.Row.{Row}
use Rattle.gate_journal.specs.declared.entry.Entry.{Entry}
use Rattle.gate_journal.specs.declared.entry.Entry.TheVariants.{Kept, Faulted}
use Rattle.gate_journal.specs.Laws.{KeptFromThen, StandsAmong, StopsInTurn, next_asked}
use Rattle.gate_journal.specs.Log.{EndsInFaultOf, InTurn, StandsBehind, entry_number, row_in}

-- the number of an entry is its row's
pub number_in : (e : Entry) → entry_number e ≡ (row_in e).by
number_in (Kept r) = refl
number_in (Faulted r from to) = refl

-- ---- whose the one more is

-- that of a fault among the later entries is one of all
pub owned :
    (n : ℕ) (entries : List Entry) (asked one_more : Option Row)
    → IfSome one_more (λ q. EndsInFaultOf q (drop n entries))
    → IfSome one_more (λ q. (asked ≡ Some q) ⊎ EndsInFaultOf q entries)
owned n entries asked None unsure = tt
owned n entries asked (Some q) unsure = inr (record {
  front = take n entries ++ unsure.front;
  from = unsure.from;
  to = unsure.to;
  later = unsure.later;
  fault =
      sym (take-append-drop n entries)
      ∙ ap (λ (es : List Entry). take n entries ++ es) unsure.fault
      ∙ sym (append_assoc (take n entries) unsure.front
      (Faulted q unsure.from unsure.to ∷ unsure.later));
  no_row = unsure.no_row;
})

-- and where an append begins it stays so
asked_too :
    (entries : List Entry) (r : Row) (one_more : Option Row)
    → IfSome one_more (λ q. (None ≡ Some q) ⊎ EndsInFaultOf q entries)
    → IfSome one_more (λ q. (Some r ≡ Some q) ⊎ EndsInFaultOf q entries)
asked_too entries r None owner = tt
asked_too entries r (Some q) (inl none) = absurd cc
asked_too entries r (Some q) (inr ends) = inr ends

stands_too :
    (entries : List Entry) (r : Row) (c : List ℕ)
    → StandsBehind entries None c → StandsBehind entries (Some r) c
stands_too entries r c stands = record {
  one_more = stands.one_more;
  owner = asked_too entries r stands.one_more stands.owner;
  spells = stands.spells;
  opens = stands.opens;
}

-- ---- an image among the later entries

among_none :
    (before : List Entry) (c : List ℕ) → StandsBehind before None c → StandsAmong before [] c
among_none before c stands = record {
  since = [];
  after = [];
  all = refl;
  stands = subst (λ (es : List Entry). StandsBehind es None c) (sym (append-nil before)) stands;
}

among_first :
    (before later : List Entry) (e : Entry) (c : List ℕ)
    → StandsBehind before (Some (row_in e)) c → StandsAmong before (e ∷ later) c
among_first before later e c stands = record {
  since = [];
  after = e ∷ later;
  all = refl;
  stands =
      subst (λ (es : List Entry). StandsBehind es (Some (row_in e)) c) (sym (append-nil before))
      stands;
}

among_later :
    (before later : List Entry) (e : Entry) (c : List ℕ)
    → StandsAmong (before ++ e ∷ []) later c → StandsAmong before (e ∷ later) c
among_later before later e c among = record {
  since = e ∷ among.since;
  after = among.after;
  all = ap (λ (es : List Entry). e ∷ es) among.all;
  stands =
      subst (λ (es : List Entry). StandsBehind es (next_asked among.after) c)
      (append_assoc before (e ∷ []) among.since) among.stands;
}

module _ {D : Type 0} (disks : DiskWords D) where
  -- one entry more behind the others
  pub one_turn_more :
      (before : List Entry) (start mid end : D) (entries : List Entry) (steps : List D) (e : Entry)
      (all : List Entry) → before ++ entries ≡ all
      → InTurn disks before start entries steps mid
      → LeavesOnly disks mid end (StandsBehind all (Some (row_in e)))
      → LeavesOnly disks end end (StandsBehind (all ++ e ∷ []) None)
      → InTurn disks before start (entries ++ e ∷ []) (steps ++ end ∷ []) end
  one_turn_more before start mid end [] [] e all is turns append still =
      let same : all ≡ before = sym is ∙ append-nil before in (
        and_then disks start mid end (StandsBehind before (Some (row_in e)))
            (weaker disks start mid (StandsBehind before None)
            (StandsBehind before (Some (row_in e))) turns (stands_too before (row_in e)))
            (subst (λ (es : List Entry).
            LeavesOnly disks mid end (StandsBehind es (Some (row_in e)))) same append),
        subst (λ (es : List Entry).
            LeavesOnly disks end end (StandsBehind (es ++ e ∷ []) None)) same still,
      )
  one_turn_more before start mid end [] (d ∷ steps) e all is turns append still = absurd turns
  one_turn_more before start mid end (x ∷ entries) [] e all is turns append still = absurd turns
  one_turn_more before start mid end (x ∷ entries) (d ∷ steps) e all is turns append still = (
    turns.0,
    one_turn_more (before ++ x ∷ []) d mid end entries steps e all
        (append_assoc before (x ∷ []) entries ∙ is) turns.1 append still,
  )

  -- time goes on
  later :
      (before : List Entry) (start end : D) (entries : List Entry) (steps : List D)
      → InTurn disks before start entries steps end → disks.moment start ≤ disks.moment end
  later before start end [] [] turns = turns.later
  later before start end [] (d ∷ steps) turns = absurd turns
  later before start end (e ∷ entries) [] turns = absurd turns
  later before start end (e ∷ entries) (d ∷ steps) turns =
      omega (arith, turns.0.later, later (before ++ e ∷ []) d end entries steps turns.1)

  -- an image of a moment since t was one before the start, or stands among the entries
  since :
      (before : List Entry) (start end : D) (entries : List Entry) (steps : List D)
      → InTurn disks before start entries steps end → (t : ℕ) (c : List ℕ)
      → t ≤ disks.moment start → disks.left_since end t c
      → disks.left_since start t c ⊎ StandsAmong before entries c
  since before start end [] [] turns t c le left =
      ⊎_elim (λ had. inl had) (λ stands. inr (among_none before c stands)) (turns.before t c le left)
  since before start end [] (d ∷ steps) turns t c le left = absurd turns
  since before start end (e ∷ entries) [] turns t c le left = absurd turns
  since before start end (e ∷ entries) (d ∷ steps) turns t c le left =
      ⊎_elim
      (λ had.
      ⊎_elim (λ was. inl was) (λ stands. inr (among_first before entries e c stands))
      (turns.0.before t c le had))
      (λ among. inr (among_later before entries e c among))
      (since (before ++ e ∷ []) d end entries steps turns.1 t c (omega (arith, le, turns.0.later))
      left)

  pub stops_in_turn : StopsInTurn disks
  stops_in_turn before start end [] [] turns c left = among_none before c (turns.each c left)
  stops_in_turn before start end [] (d ∷ steps) turns c left = absurd turns
  stops_in_turn before start end (e ∷ entries) [] turns c left = absurd turns
  stops_in_turn before start end (e ∷ entries) (d ∷ steps) turns c left =
      ⊎_elim (λ had. among_first before entries e c (turns.0.each c had))
      (λ among. among_later before entries e c among)
      (since (before ++ e ∷ []) d end entries steps turns.1 (disks.moment start) c turns.0.later
      left)

  pub kept_from_then : KeptFromThen disks
  kept_from_then before start end [] e later [] d steps many turns c left =
      subst (λ (es : List Entry). StandsAmong (es ++ e ∷ []) later c) (sym (append-nil before))
      (stops_in_turn (before ++ e ∷ []) d end later steps turns.1 c left)
  kept_from_then before start end [] e later (x ∷ first) d steps many turns c left =
      absurd (omega (arith, many))
  kept_from_then before start end (x ∷ since) e later [] d steps many turns c left =
      absurd (omega (arith, many))
  kept_from_then before start end (x ∷ since) e later (y ∷ first) d steps many turns c left =
      subst (λ (es : List Entry). StandsAmong (es ++ e ∷ []) later c)
      (append_assoc before (x ∷ []) since)
      (kept_from_then (before ++ x ∷ []) y end since e later first d steps (omega (arith, many))
      turns.1 c left)
