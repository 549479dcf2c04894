use Rattle.std.proofs.Common.{◌≡◌, map, drop, length}
use Rattle.host_top.specs.Stories.{stories_from, stories_of}
use Rattle.host_top.proofs.StoriesLemmas.{behind}
use Rattle.host_top.proofs.stories.stories_of.Given as goal

abbrev pub invariant-loop-file : goal.invariant-loop-file
invariant-loop-file l = record {
  count : length l.stories.items ≡ l.file-index;
  found : stories_of (map (λ f. f.items) l.files) ≡ behind l.stories.items
      (stories_from l.file-index (map (λ f. f.items) (drop l.file-index l.files)));
}
