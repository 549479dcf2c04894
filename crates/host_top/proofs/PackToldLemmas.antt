-- What `pack` writes, for a caller who is told the output and the disks.
use Rattle.std.proofs.Common.{◌≡◌, ◌⊎◌, inl, inr, ℕ, ◌<◌, List, [], length, refl, sym, subst}
use Rattle.std.proofs.Common.{IsTrue}
use Rattle.disk_model.specs.declared.disk.Disk.{Ghosts as DiskWords}
use Rattle.gate_journal.specs.declared.fault.JournalFault.{JournalFault}
use Rattle.gate_journal.specs.declared.fault.JournalFault.TheVariants as journal
use Rattle.gate_journal.specs.Faults.{Explains}
use Rattle.journal_pack.specs.declared.fault.PackFault.{PackFault}
use Rattle.journal_pack.specs.declared.fault.PackFault.TheVariants as fault
use Rattle.journal_pack.specs.Faults.{Refuses}
use Rattle.line_talk.specs.Streams.{SourceState, SinkState}
use Rattle.line_talk.specs.Writing.{IsPartOf}
use Rattle.line_talk.specs.declared.sink.Stop.{Stop}
use Rattle.line_talk.specs.declared.sink.Stop.TheVariants as stop
use Rattle.host_top.specs.Begun.{not_empty}
use Rattle.host_top.specs.Borrowed.{journal_in}
use Rattle.host_top.specs.Files.{IsLentFrom, OutsideState, Told}
use Rattle.host_top.specs.Packed.{BeginsPacking, IsNotPacked, IsPacked, IsPackedLine, Journals}
use Rattle.host_top.specs.Packed.{PacksOn, RefusesPacking, SaysPackFault, WritesPacked, line_of}
use Rattle.host_top.specs.Said.{SaysFault, SaysLine, bad_journal, bad_journal_at}
use Rattle.host_top.specs.Status.{status_of_stop}
use Rattle.host_top.specs.ToldBytes.{WhereTold}
use Rattle.host_top.specs.declared.status.Status.{Status}
use Rattle.host_top.specs.declared.status.Status.TheVariants.{Done, BadFolder, DiskFault}
use Rattle.host_top.proofs.ServedLemmas.{where_told, WroteSome}
use Rattle.host_top.proofs.WrittenLemmas.{never_begun}

module _ {D : Type 0} (disks : DiskWords D) (old new : Told D) where
  -- a line that a packing may write, or a part of it
  abbrev IsLine : List ℕ → Type 0
  IsLine line = IsPackedLine disks old new line ⊎ RefusesPacking disks old new line

  cut_packing : (line part : List ℕ) (cause : Stop) → IsLine line → IsPartOf part line
      → WritesPacked (status_of_stop cause) disks old new part
  cut_packing line part stop.Output is begins = inr (line, is, begins)
  cut_packing line part stop.Memory is begins = inr (line, is, begins)

  line_told : (line : List ℕ) (output after : SinkState) (good status : Status) → IsLine line
      → WritesPacked good disks old new line → SaysLine good line output after status
      → WroteSome output after (WritesPacked status disks old new)
  line_told line output after good status is writes (inl said) = (
    line,
    said.1,
    subst (λ (s : Status). WritesPacked s disks old new line) (sym said.0) writes,
  )
  line_told line output after good status is writes (inr (cause, ends, stopped)) = (
    stopped.wrote.part,
    stopped.wrote.wrote,
    subst (λ (s : Status). WritesPacked s disks old new stopped.wrote.part) (sym ends)
        (cut_packing line stopped.wrote.part cause is (stopped.rest, stopped.wrote.split)),
  )

  module _ (both : Journals D)
      (first : IsTrue (disks.tells both.old)
      → IsLentFrom disks old both.old) (second : IsTrue (disks.tells both.new)
      → IsLentFrom disks new both.new) (output after : SinkState) (status : Status) where
    packed_told : IsPacked disks both output after status
        → WroteSome output after (WritesPacked status disks old new)
    packed_told p =
        let line : IsPackedLine disks old new (line_of p.rows) =
        record {
          rows = p.rows;
          spelled = where_told disks old both.old _ first p.are.spells;
          empty = where_told disks new both.new _ second p.empty;
          line_is = refl;
        } in
        line_told (line_of p.rows) output after Done status (inl line) line p.says

    refused_told : (line : List ℕ) → RefusesPacking disks old new line
        → SaysLine BadFolder line output after status
        → WroteSome output after (WritesPacked status disks old new)
    refused_told line refuses says =
        line_told line output after BadFolder status (inr refuses) refuses says

    nothing_told : (bad : Status) → WritesPacked bad disks old new [] → status ≡ bad
        → WritesPacked status disks old new []
    nothing_told bad writes is =
        subst (λ (s : Status). WritesPacked s disks old new []) (sym is) writes

    old_told : (why : JournalFault)
        → (IsTrue (disks.tells both.old) → Explains (disks.seen both.old) why)
        → (IsTrue (disks.tells both.new) → disks.seen both.new ≡ [])
        → SaysFault why output after status
        → WroteSome output after (WritesPacked status disks old new)
    old_told journal.NotJournal explains empty says =
        refused_told bad_journal
        (inr (
          inl (refl, where_told disks old both.old _ first explains),
          where_told disks new both.new _ second empty,
        )) says
    old_told (journal.Corrupt place) explains empty says =
        refused_told (bad_journal_at place)
        (inr (
          inr (place, refl, where_told disks old both.old _ first explains),
          where_told disks new both.new _ second empty,
        )) says
    old_told (journal.DiskFault counts) explains empty says =
        ([], says.1, nothing_told _ refl says.0)
    old_told journal.NoMemory explains empty says =
        ([], says.1, nothing_told _ (inl refl) says.0)

    fault_told : (why : PackFault)
        → Refuses (record { tells = disks.tells both.old; bytes = disks.seen both.old })
        (record { tells = disks.tells both.new; bytes = disks.seen both.new }) why
        → SaysPackFault why output after status
        → WroteSome output after (WritesPacked status disks old new)
    fault_told (fault.Old why) refuses says = old_told why refuses.1 refuses.2 says
    fault_told fault.NotEmpty refuses says =
        refused_told not_empty
        (inl (refl, where_told disks new both.new _ second refuses)) says
    fault_told (fault.New counts) refuses says = ([], says.1, nothing_told _ refl says.0)
    fault_told fault.NoMemory refuses says = ([], says.1, nothing_told _ (inl refl) says.0)

    not_packed_told : IsNotPacked disks both output after status
        → WroteSome output after (WritesPacked status disks old new)
    not_packed_told n = fault_told n.fault n.refuses n.says

pub pack_told : {D : Type 0} (disks : DiskWords D) (old into : List ℕ)
    (outside beyond : OutsideState D) (input now : SourceState) (output after : SinkState)
    (status : Status)
    → PacksOn disks old into outside beyond input now output after status
    → WroteSome output after
    (WritesPacked status disks (outside.disk (journal_in old)) (outside.disk (journal_in into)))
pack_told disks old into outside beyond input now output after status (inl none) = (
  [],
  none.wrote,
  never_begun
      (λ (s : Status). WritesPacked s disks (outside.disk (journal_in old))
      (outside.disk (journal_in into)) []) DiskFault status _ refl (inl refl) none.cause,
)
pack_told disks old into outside beyond input now output after status (inr p) =
    let first = outside.disk (journal_in old) in
    let second = outside.disk (journal_in into) in
    let lent = p.packs.borrowed.each.0.lent in
    let then = p.packs.borrowed.each.1.0.lent in
    elim p.packs.does [
      | inl done ↦ elim done.1 [
        | inl over ↦ elim over.0.does [
          | inl packed ↦ packed_told disks first second p.both lent then output after status packed
          | inr n ↦ not_packed_told disks first second p.both lent then output after status n
        ]
        | inr n ↦ not_packed_told disks first second p.both lent then output after status n.0
      ]
      | inr u ↦ (
        [],
        u.0.wrote,
        never_begun (λ (s : Status). WritesPacked s disks first second []) DiskFault status _ refl
            (inl refl) u.0.cause,
      )
    ]
