use Rattle.std.proofs.Common.{false}
use Rattle.std.proofs.lemmas.List.{get_or-replicate}
use Rattle.journal_pack.proofs.later.Later.new.Goals as goal

pub returns : goal.returns
returns c = record {
  seen = λ s lt. get_or-replicate 256 s false false lt;
  goes = λ s lt. get_or-replicate 256 s false false lt;
}
