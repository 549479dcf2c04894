use Rattle.std.proofs.Common.{List, length, ap, map, sym, subst, ◌∙◌}
use Rattle.turn_cell.specs.Passes.{tag_of}
use Rattle.turn_cell.specs.declared.cell.Cell.{Cell}
use Rattle.turn_cell.specs.declared.pass.Pass.{Pass}
use Rattle.session_core.specs.declared.entry.Entry.{Entry}
use Rattle.session_desk.specs.Shared.{SharedState, desk_tag}
use Rattle.host_serve.specs.Gathering.{Gathers}
use Rattle.host_serve.specs.Holders.{holders, seens}
use Rattle.host_serve.specs.Hosts.{ArePasses, rows_at_opening, opened_stores, tags_in}
use Rattle.host_serve.proofs.EndLemmas.{agrees_back, ends_with, files_back, gives_back}
use Rattle.host_serve.proofs.host.Host.end.Goals as goal

pub gather-requires-clause-many : goal.gather-requires-clause-many
gather-requires-clause-many g c =
    ap (λ (l : List (Cell (SharedState g.row.D.Denot) Entry)). length l) c.deref.ensures.value
    ∙ c.requires.passes.whole.many

pub gather-requires-clause-root : goal.gather-requires-clause-root
gather-requires-clause-root g c = c.requires.passes.whole.root

pub gather-requires-clause-passes : goal.gather-requires-clause-passes
gather-requires-clause-passes g c = (
  c.args.self.stories.now,
  c.args.self.budget,
  rows_at_opening c.args.self,
  opened_stores c.args.self,
  c.requires.passes.whole.stores,
  subst (λ (x : List (Cell (SharedState g.row.D.Denot) Entry)
      × List (Pass (SharedState g.row.D.Denot) Entry)). ArePasses desk_tag
      (tags_in c.args.self) x.0 x.1)
      (λ i. (sym c.deref.ensures.value i, sym c.deref_mut.ensures.value i))
      c.requires.passes.each,
)

pub gather-requires-clause-room : goal.gather-requires-clause-room
gather-requires-clause-room g c = c.requires.passes.whole.room

pub returns : goal.returns
returns g c =
    let in_all = subst (λ (l : List (Pass (SharedState g.row.D.Denot) Entry)).
    Gathers g.D.Disk 64 (holders l) (seens l) (map (tag_of desk_tag) l)
    c.args.self.root c.gather.new.root c.gather.new.disks.items) c.deref_mut.ensures.value
    c.gather.ensures.value in
    record {
      value = (
        c.enter.result,
        c.into_disk.ensures.value,
        ends_with _ c.args.self c.args.passes c.gather.new.root
            c.gather.new.disks.items c.enter.result c.requires.passes.whole in_all
            c.enter.ensures.value c.enter.ensures.tag c.into_disk.ensures.journal,
        c.into_disk.ensures.journal,
        c.into_disk.ensures.images,
        c.into_disk.ensures.opens,
        c.into_disk.ensures.rises,
        c.into_disk.ensures.since,
        λ sound. agrees_back _ c.args.self c.args.passes c.gather.new.root
            c.gather.new.disks.items c.enter.result c.requires.passes in_all
            c.enter.ensures.value c.into_disk.ensures.journal sound,
        λ sound. files_back _ c.args.self c.args.passes c.gather.new.root
            c.gather.new.disks.items c.enter.result c.requires.passes in_all
            c.enter.ensures.value c.into_disk.ensures.journal sound,
      );
      stores = gives_back _ c.args.self c.args.passes c.gather.new.root
          c.gather.new.disks.items c.requires.passes in_all;
    }
