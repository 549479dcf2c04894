use Rattle.std.proofs.Common.{◌≡◌, ℕ, List, true, sym, subst, inr}
use Rattle.story_snap.specs.Bytes.{HasBytes}
use Rattle.session_saves.proofs.KeepLemmas.{adds_only, put_crash, untouched}
use Rattle.session_saves.proofs.snapshot.put.Goals as goal

pub returns-in-Ok-put-clause-areas : goal.returns-in-Ok-put-clause-areas
returns-in-Ok-put-clause-areas g c told =
    let made : c.args.store.now.made ≡ true = sym c.if-not-is_made.ensures.value in
    let world = c.args.world.now in
    let has = subst (λ (l : List ℕ). HasBytes world.image l world) (sym c.as_slice.ensures.value)
    c.in-Ok.ensures.value in
    adds_only g.D.Disk.seen world c.args.place c.args.count c.as_slice.result.now c.args.store.now
    c.put.new.self
    has (inr (inr (c.in-Ok-put.ensures.taken made told))) (c.in-Ok-put.ensures.beside told)

pub returns-clause-areas : goal.returns-clause-areas
returns-clause-areas g c told =
    let made : c.args.store.now.made ≡ true = sym c.if-not-is_made.ensures.value in
    let world = c.args.world.now in
    let has = subst (λ (l : List ℕ). HasBytes world.image l world) (sym c.as_slice.ensures.value)
    c.in-Ok.ensures.value in
    adds_only g.D.Disk.seen world c.args.place c.args.count c.as_slice.result.now c.args.store.now
    c.put.new.self
    has (c.in-Err.ensures.taken made told) (c.in-Err.ensures.beside told)

pub returns-then-len-clause-crash : goal.returns-then-len-clause-crash
returns-then-len-clause-crash g c told =
    untouched g.D.Disk g.met.D.Disk.only_now c.args.world.now c.args.place c.args.count
    c.args.store.now c.is_made.ensures.images told

pub returns-in-Ok-put-clause-crash : goal.returns-in-Ok-put-clause-crash
returns-in-Ok-put-clause-crash g c told =
    let made : c.args.store.now.made ≡ true = sym c.if-not-is_made.ensures.value in
    let world = c.args.world.now in
    let has = subst (λ (l : List ℕ). HasBytes world.image l world) (sym c.as_slice.ensures.value)
    c.in-Ok.ensures.value in
    put_crash g.D.Disk world c.args.place c.args.count c.as_slice.result.now c.args.store.now
    c.put.new.self.disk has (c.in-Ok-put.ensures.crash made told)

pub returns-clause-crash : goal.returns-clause-crash
returns-clause-crash g c told =
    let made : c.args.store.now.made ≡ true = sym c.if-not-is_made.ensures.value in
    let world = c.args.world.now in
    let has = subst (λ (l : List ℕ). HasBytes world.image l world) (sym c.as_slice.ensures.value)
    c.in-Ok.ensures.value in
    put_crash g.D.Disk world c.args.place c.args.count c.as_slice.result.now c.args.store.now
    c.put.new.self.disk has (c.in-Err.ensures.crash made told)
