use Rattle.std.proofs.Common.{◌∙◌, ap, sym, arith, length}
use Rattle.host_top.specs.StoryFile.{story_in_file}
use Rattle.host_top.proofs.StoriesLemmas.{behind_none, read_more}
use Rattle.host_top.proofs.stories.stories_of.Goals as goal

pub loop-file-init : goal.loop-file-init
loop-file-init c =
    record {
      count = ap length c.new-stories.ensures.items;
      found = rw c.new-stories.ensures.items
          (behind_none _);
    }

pub loop-file-preserved : goal.loop-file-preserved
loop-file-preserved c = record {
  count = omega (arith, c.in-Ok-push.ensures.len);
  found =
      read_more _ _ _ _ _ c.file-item.result c.in-Ok.story c.loop-file.file-index
      c.loop-file-test.true c.file-item.is
      (sym (c.in-Ok.ensures ∙ ap story_in_file c.deref.ensures.value)) c.in-Ok-push.ensures.items
      c.loop-file.invariant.found;
}
