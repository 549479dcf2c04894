use Rattle.std.proofs.Common.{◌≡◌, ◌+◌, ◌∙◌, ap, sym, subst, refl, arith, rules, inr, is_ok, map}
use Rattle.std.proofs.Common.{List, ℕ, length, Global, Vec}
use Rattle.std.proofs.lemmas.List.{length-map}
use Rattle.host_top.specs.StoryFile.{story_in_file}
use Rattle.host_top.proofs.CallsLemmas.{loads_there, no_failure, none_still}
use Rattle.host_top.proofs.LoadsLemmas.{failed_by, fails_here, one_more}
use Rattle.host_top.specs.Loads.{MakesLoads}
use Rattle.host_top.proofs.LoansLemmas.{doors_then, keeps_then}
use Rattle.host_top.proofs.StoriesLemmas.{any_error, loaded_more, loaded_last, loaded_story}
use Rattle.host_top.proofs.stories.load_files.Goals as goal

pub returns-then-not-is_story-clause-value : goal.returns-then-not-is_story-clause-value
returns-then-not-is_story-clause-value g c =
    loaded_more _ _ _ _ _ _ _ _ _ c.loop-name.name-index c.loop-name.invariant.are
    c.loop-name.invariant.count c.loop-name-test.true c.in-Ok.ensures.items
    c.loop-name.invariant.kept c.in_ok-bytes.ensures.value

pub returns-then-not-is_story-clause-settled : goal.returns-then-not-is_story-clause-settled
returns-then-not-is_story-clause-settled g c =
    inr (loaded_last _ _ _ _ c.in-Ok.ensures.items
    (sym (sym c.if-not-is_story.true ∙ c.is_story-is_story.ensures
    ∙ ap (λ (b : List ℕ). is_ok (story_in_file b)) c.deref.ensures.value)))

pub loop-name-preserved : goal.loop-name-preserved
loop-name-preserved g c = record {
  are =
      loaded_more _ _ _ _ _ _ _ _ _ c.loop-name.name-index c.loop-name.invariant.are
      c.loop-name.invariant.count c.loop-name-test.true c.in-Ok.ensures.items
      c.loop-name.invariant.kept c.in_ok-bytes.ensures.value;
  stories =
      loaded_story _ _ _ _ c.in-Ok.ensures.items c.loop-name.invariant.stories
      (sym (sym c.if-not-is_story.false ∙ c.is_story-is_story.ensures
      ∙ ap (λ (b : List ℕ). is_ok (story_in_file b)) c.deref.ensures.value));
  count = omega (arith, c.in-Ok.ensures.len);
  kept = c.in_ok-bytes.ensures.kept ∙ c.loop-name.invariant.kept;
  later = omega (arith, c.in_ok-bytes.ensures.later);
  unlisted =
      λ none. none_still _ _ _ _ (c.loop-name.invariant.unlisted none)
      c.in_ok-bytes.ensures.listed;
  loads =
      λ calls told. one_more _ _ _ _ _ _ _ c.loop-name.name-index _ calls c.loop-name-test.true
      c.loop-name.invariant.kept c.in_ok-bytes.ensures.listed
      (c.loop-name.invariant.loads calls told) refl;
  loans = c.in_ok-bytes.ensures.others.0 ∙ c.loop-name.invariant.loans;
  disks = keeps_then c.loop-name.invariant.disks c.in_ok-bytes.ensures.disks;
  doors = doors_then c.loop-name.invariant.doors c.in_ok-bytes.ensures.doors;
}

pub returns-in_err-bytes-clause-behind : goal.returns-in_err-bytes-clause-behind
returns-in_err-bytes-clause-behind g c = any_error c.from_residual.result _ (λ why. record {
  front = map (λ f. f.items) c.loop-name.files.items;
  are_files = c.loop-name.invariant.are;
  are_stories = c.loop-name.invariant.stories;
  next =
      λ failed. omega (
        arith,
        c.loop-name.invariant.count,
        c.loop-name-test.true,
        length-map
            c.loop-name.files.items (λ f. f.items),
        length-map c.args.names.now (λ n. n.now),
      );
})

pub returns-in_err-bytes-clause-unlisted : goal.returns-in_err-bytes-clause-unlisted
returns-in_err-bytes-clause-unlisted g c = λ none there.
    no_failure (Vec ℕ Global) _ _
    (loads_there _ _ _ _ _ _ _ c.loop-name.name-index _ c.loop-name-test.true
    c.loop-name.invariant.kept c.in_err-bytes.ensures.listed (c.loop-name.invariant.unlisted none)
    there) (λ e. search (rules))

pub returns-in_err-bytes-clause-failed : goal.returns-in_err-bytes-clause-failed
returns-in_err-bytes-clause-failed g c = λ e calls told.
    fails_here _ _ _ _ _ _ _ c.loop-name.name-index _ calls c.loop-name-test.true
    c.loop-name.invariant.kept c.in_err-bytes.ensures.listed
    (c.loop-name.invariant.loads calls told) _ _ c.loop-name.invariant.count
    c.loop-name.invariant.are c.loop-name.invariant.stories
    (failed_by (Vec ℕ Global) _ _ (λ e. search (rules)) e)

pub returns-then-not-is_story-clause-loads : goal.returns-then-not-is_story-clause-loads
returns-then-not-is_story-clause-loads g c = λ calls told.
    let many : c.loop-name.name-index + 1 ≡ length c.push.new.self.items =
    omega (arith, c.in-Ok.ensures.len, c.loop-name.invariant.count) in
    subst (MakesLoads _ _ calls _) many
    (one_more _ _ _ _ _ _ _ c.loop-name.name-index _ calls c.loop-name-test.true
    c.loop-name.invariant.kept c.in_ok-bytes.ensures.listed
    (c.loop-name.invariant.loads calls told) refl)

pub returns-clause-loads : goal.returns-clause-loads
returns-clause-loads g c = λ calls told.
    subst (MakesLoads _ _ calls _) (sym c.loop-name.invariant.count)
    (c.loop-name.invariant.loads calls told)
