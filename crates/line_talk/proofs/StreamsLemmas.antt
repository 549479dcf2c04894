-- How reads and writes go on from one another.
use Rattle.std.proofs.Common.{◌≡◌, ℕ, ◌+◌, List, [], ◌++◌, arith, length-append}
use Rattle.std.proofs.KnownBytes.{Consumes-nil, Consumes-trans, Appends-nil, Appends-trans}
use Rattle.line_talk.specs.Causes.{CountsMore}
use Rattle.line_talk.specs.Streams.{SourceState, SinkState, Gave, Wrote}

pub wrote_none : (k : SinkState) → Wrote k k []
wrote_none k = record { told = Appends-nil k.held; later = omega arith }

pub wrote_then : {old mid new : SinkState} {x y : List ℕ}
    → Wrote old mid x → Wrote mid new y → Wrote old new (x ++ y)
wrote_then {old} {mid} {new} {x} {y} p q = record {
  told = Appends-trans old.held mid.held new.held x y p.told q.told;
  later = omega arith;
}

pub gave_none : (s : SourceState) → Gave s s []
gave_none s = record {
  told = Consumes-nil s.left;
  count = record { most = omega arith; least = omega arith };
  later = omega arith;
}

counts_then : (before mid now n m both : ℕ)
    → both ≡ n + m → CountsMore before n mid
    → CountsMore mid m now → CountsMore before both now
counts_then before mid now n m both is p q = record { most = omega arith; least = omega arith }

pub gave_then : {old mid new : SourceState} {x y : List ℕ}
    → Gave old mid x → Gave mid new y → Gave old new (x ++ y)
gave_then {old} {mid} {new} {x} {y} p q = record {
  told = Consumes-trans old.left mid.left new.left x y p.told q.told;
  count = counts_then _ _ _ _ _ _ (length-append x y) p.count q.count;
  later = omega arith;
}
