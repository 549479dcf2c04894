-- Passes that are split off the roots of all sessions, one after the other, and joined again.
use Rattle.std.proofs.Common.{◌≡◌, ◌≢◌, ◌⊎◌, ℕ, ◌+◌, ◌<◌, ◌≤◌, List, [], ◌∷◌, ◌++◌, length, map}
use Rattle.std.proofs.Common.{get_or, set, ap, sym, ◌∙◌, refl, subst, ⊎_elim, arith, Option}
use Rattle.std.proofs.lemmas.List.{length-map, get_or-map}
use Rattle.std.proofs.Math.Seq.{map-set_same}
use Rattle.turn_cell.specs.declared.cell.Cell.{Cell}
use Rattle.turn_cell.specs.declared.pass.Pass.{Pass}
use Rattle.turn_cell.specs.Passes.{IsOf, IsOutside, IsSplitFrom, KeepsNumbers}
use Rattle.turn_cell.specs.Passes.{pass_numbers, made, pass_number, sample, seen, tag_of}
use Rattle.host_serve.specs.Holders.{Holder, holder_of, holders, nobody, seens}
use Rattle.host_serve.specs.Hosts.{ArePasses}
use Rattle.host_serve.specs.Splitting.{AreNewest, AreRoots, after_split, first_by, newest_of}
use Rattle.host_serve.specs.Splitting.{with_newest_pass}
use Rattle.host_serve.proofs.ListLemmas.{length_more}
use Rattle.host_serve.proofs.MixLemmas.{mix_rest}
use Rattle.host_serve.proofs.NewestLemmas.{newest_all, newest_less, newest_more, newest_none}
use Rattle.host_serve.proofs.NewestLemmas.{newest_still}
use Rattle.host_serve.proofs.PassLemmas.{are_put, as_many, holders_still, pass_ready}
use Rattle.host_serve.proofs.RootLemmas.{AreDown, all_first, both_first, down_from, first_long}
use Rattle.host_serve.proofs.RootLemmas.{holders_down, holders_up, root_at}

module _ {T E G : Type 0} (tag : T → G) (cells : List (Cell T E)) where
  pub record JoinsBack (n : ℕ) (first now newest : List (Pass T E)) : Type 0 where
    pub left : AreNewest (length newest) cells now newest
    pub within : length newest ≤ n
    pub long : n ≤ length cells
    pub are : ArePasses tag (map (tag_of tag) first) cells now
    pub who : AreDown with_newest_pass n (length newest) (holders first) now
    pub heard : seens now ≡ seens first

  pub joins_first : (first newest : List (Pass T E)) → AreNewest (length newest) cells first newest
      → ArePasses tag (map (tag_of tag) first) cells first
      → JoinsBack (length newest) first first newest
  joins_first first newest a are = record {
    left = a;
    within = omega arith;
    long = a.within;
    are = are;
    who = down_from with_newest_pass (length newest) (holders first);
    heard = refl;
  }

  -- the last of them, where it is joined
  pub joined_last : (n s : ℕ) (first now newest rest : List (Pass T E)) (c : Cell T E)
      (p q : Pass T E) → JoinsBack n first now newest → newest ≡ rest ++ q ∷ []
      → s ≡ length rest → c ≡ get_or cells s c → p ≡ get_or now s p
      → AreNewest s cells now rest × IsOf c q × IsOutside q × (pass_number q ≢ 0)
      × (holder_of q ≡ newest_of (holder_of p)) × (seen q ≡ seen p) × IsOf c p × IsOutside p
      × (s < length cells)
  joined_last n s first now newest rest c p q j is place at_c at_p =
      let long = as_many tag (map (tag_of tag) first) cells now j.are in
      let more = ap (λ (l : List (Pass T E)). length l) is ∙ length_more rest q in
      let more' : length newest ≡ s + 1 = omega arith in
      let a = subst (λ (l : List (Pass T E)). AreNewest (s + 1) cells now l) is
      (subst (λ (k : ℕ). AreNewest k cells now newest) more' j.left) in
      let low : s < length cells = let w = j.within in let l = j.long in omega arith in
      let b = newest_less cells s now rest c p q a long at_c at_p in
      let ready = pass_ready tag (map (tag_of tag) first) cells now s c p j.are low at_c at_p in
      (b.0, b.1, b.2, b.3, b.4, b.5, ready.0, ready.1, low)

  pub joins_on : (n s : ℕ) (first now newest rest : List (Pass T E)) (c : Cell T E)
      (p p' q : Pass T E) → JoinsBack n first now newest → newest ≡ rest ++ q ∷ []
      → s ≡ length rest → c ≡ get_or cells s c → p ≡ get_or now s p
      → pass_numbers p' ≡ pass_numbers p ++ pass_numbers q
      → IsOf c p' × (pass_number p' ≡ pass_number p) × (made p' ≡ made p) × (sample p' ≡ sample p)
      → IsOutside p' → (seen p' ≡ seen p) ⊎ (seen p' ≡ seen q)
      → JoinsBack n first (set now s p') rest
  joins_on n s first now newest rest c p p' q j is place at_c at_p held kept outside heard =
      let l = joined_last n s first now newest rest c p q j is place at_c at_p in
      let more = ap (λ (l : List (Pass T E)). length l) is ∙ length_more rest q in
      let more' : length newest ≡ s + 1 = omega arith in
      let long = as_many tag (map (tag_of tag) first) cells now j.are in
      let even = ap (λ (l : List (List E)). length l) j.heard in
      let now_long = length-map now seen in
      let first_long = length-map first seen in
      let holders_long = length-map first holder_of in
      let becomes : holder_of p' ≡ with_newest_pass (holder_of p) =
      (λ i. record { number = kept.1 i; made = kept.2 i; holds = held i })
      ∙ ap (λ (h : Holder).
      record { number = pass_number p; made = made p; holds = pass_numbers p ++ h.holds })
      l.4 in
      let same : seen p' ≡ seen p = ⊎_elim (λ (e : seen p' ≡ seen p). e)
      (λ (e : seen p' ≡ seen q). e ∙ l.5) heard in
      record {
        left = subst (λ (k : ℕ). AreNewest k cells (set now s p') rest) place
            (newest_still cells s now rest p' l.0);
        within = let w = j.within in omega arith;
        long = j.long;
        are = are_put tag (map (tag_of tag) first) cells now s c p p' j.are l.8 at_c at_p kept.0
            outside kept.3;
        who = subst (λ (k : ℕ). AreDown with_newest_pass n k (holders first) (set now s p')) place
            (holders_down with_newest_pass n s (holders first) now p p'
            (subst (λ (m : ℕ). AreDown with_newest_pass n m (holders first) now) more' j.who)
            (omega arith) (let w = j.within in omega arith) (let w = j.long in omega arith) at_p
            becomes);
        heard = map-set_same seen now s p' p (same ∙ ap seen at_p) ∙ j.heard;
      }

  pub joins_all : (n : ℕ) (first now newest : List (Pass T E)) → JoinsBack n first now newest
      → length newest ≡ 0 → holders now ≡ first_by with_newest_pass n (holders first)
  joins_all n first now newest j none =
      subst (λ (m : ℕ). AreDown with_newest_pass n m (holders first) now) none j.who

  -- the passes that were split off the first roots, one after the other
  pub record SplitsOff (n : ℕ) (first now newest : List (Pass T E)) : Type 0 where
    pub left : AreNewest n cells now newest
    pub are : ArePasses tag (map (tag_of tag) first) cells now
    pub who : holders now ≡ first_by after_split n (holders first)
    pub heard : seens now ≡ seens first

  pub splits_none : {tags : List (Option G)} (first newest : List (Pass T E)) → newest ≡ []
      → ArePasses tag tags cells first → SplitsOff 0 first first newest
  splits_none first newest none a = record {
    left = newest_none cells first newest none;
    are = record { same = a.same; outside = a.outside; tagged = refl };
    who = refl;
    heard = refl;
  }

  -- the root that is split next
  pub root_here : (n most : ℕ) (first now newest : List (Pass T E)) (p : Pass T E)
      → SplitsOff n first now newest → AreRoots most (holders first) → n < length cells
      → p ≡ get_or now n p → (pass_number p ≡ 0) × (made p ≤ most)
  root_here n most first now newest p s roots low at_p =
      let long = as_many tag (map (tag_of tag) first) cells now s.are in
      let even =
      ap (λ (l : List Holder). length l) s.who ∙ first_long after_split n (holders first) in
      let now_long = length-map now holder_of in
      let all_long = length-map (holders first) after_split in
      let was : holder_of p ≡ get_or (holders first) n nobody =
      ap holder_of at_p ∙ (sym (get_or-map holder_of now n p nobody (omega arith))
      ∙ (ap (λ (l : List Holder). get_or l n nobody) s.who
      ∙ mix_rest n (map after_split (holders first)) (holders first) nobody all_long
      (omega arith))) in
      let root = root_at most n (holders first) roots (omega arith) in (
        ap (λ (h : Holder). h.number) was ∙ root.0,
        subst (λ (h : Holder). h.made ≤ most) (sym was) root.1,
      )

  pub splits_on : (n : ℕ) (first now newest : List (Pass T E)) (c : Cell T E) (p p' q : Pass T E)
      → SplitsOff n first now newest → n < length cells → c ≡ get_or cells n c
      → p ≡ get_or now n p → IsSplitFrom c p q × (made p' ≡ made p + 1)
      → IsOf c p' × KeepsNumbers p p' → IsOutside p' → seen p' ≡ seen p
      → SplitsOff (n + 1) first (set now n p') (newest ++ q ∷ [])
  splits_on n first now newest c p p' q s low at_c at_p split kept outside heard =
      let long = as_many tag (map (tag_of tag) first) cells now s.are in
      let held : holder_of p' ≡ after_split (holder_of p) =
      λ i. record { number = kept.1.0 i; made = split.1 i; holds = kept.1.1 i } in
      record {
        left = newest_more cells n now newest c p p' q s.left long low at_c held heard kept.1.2
            split.0;
        are = are_put tag (map (tag_of tag) first) cells now n c p p' s.are low at_c at_p kept.0
            outside kept.1.2;
        who = holders_up after_split n (holders first) now p p' s.who (omega arith) at_p held;
        heard = map-set_same seen now n p' p (heard ∙ ap seen at_p) ∙ s.heard;
      }

  -- memory runs out
  pub splits_not : (n : ℕ) (first now newest : List (Pass T E)) (c : Cell T E) (p p' : Pass T E)
      → SplitsOff n first now newest → n < length cells → c ≡ get_or cells n c
      → p ≡ get_or now n p → made p' ≡ made p → IsOf c p' × KeepsNumbers p p' → IsOutside p'
      → seen p' ≡ seen p → SplitsOff n first (set now n p') newest
  splits_not n first now newest c p p' s low at_c at_p made_kept kept outside heard = record {
    left = newest_still cells n now newest p' s.left;
    are = are_put tag (map (tag_of tag) first) cells now n c p p' s.are low at_c at_p kept.0
        outside kept.1.2;
    who = holders_still now n p p' at_p kept.1 made_kept ∙ s.who;
    heard = map-set_same seen now n p' p (heard ∙ ap seen at_p) ∙ s.heard;
  }

  pub own_tags : {tags : List (Option G)} (cells' : List (Cell T E)) (now now' : List (Pass T E))
      → ArePasses tag tags cells now → cells' ≡ cells → now' ≡ now
      → ArePasses tag (map (tag_of tag) now') cells' now'
  own_tags cells' now now' a is is' =
      subst (λ (x : List (Cell T E) × List (Pass T E)). ArePasses tag (map (tag_of tag) x.1) x.0
      x.1)
      (λ i. (sym is i, sym is' i))
      (record { same = a.same; outside = a.outside; tagged = refl })

  pub newest_there : (n : ℕ) (cells' : List (Cell T E)) (first now now' newest : List (Pass T E))
      → SplitsOff n first now newest → cells' ≡ cells → now' ≡ now
      → AreNewest (length newest) cells' now' newest
  newest_there n cells' first now now' newest s is is' =
      subst (λ (k : ℕ). AreNewest k cells' now' newest) (sym s.left.many)
      (subst (λ (x : List (Cell T E) × List (Pass T E)). AreNewest n x.0 x.1 newest)
      (λ i. (sym is i, sym is' i)) s.left)

  -- what was split off was joined again
  pub splits_back : (tags : List (Option G)) (n : ℕ) (cells' : List (Cell T E))
      (first now now' newest final : List (Pass T E)) → SplitsOff n first now newest
      → ArePasses tag tags cells first → cells' ≡ cells → now' ≡ now
      → holders final ≡ first_by with_newest_pass (length newest) (holders now')
      → seens final ≡ seens now' → ArePasses tag (map (tag_of tag) now') cells' final
      → (holders final
      ≡ first_by (λ (h : Holder). with_newest_pass (after_split h)) n (holders first))
      × (seens final ≡ seens first) × ArePasses tag tags cells final
  splits_back tags n cells' first now now' newest final s a is is' who heard are =
      let whole : ArePasses tag (map (tag_of tag) now) cells final =
      subst (λ (x : List (Cell T E) × List (Pass T E)). ArePasses tag (map (tag_of tag) x.1) x.0
      final)
      (λ i. (is i, is' i)) are in (
        who ∙ ((λ i. first_by with_newest_pass (s.left.many i) (holders (is' i)))
            ∙ (ap (first_by with_newest_pass n) s.who
            ∙ both_first after_split with_newest_pass n (holders first))),
        heard ∙ (ap seens is' ∙ s.heard),
        record {
          same = whole.same;
          outside = whole.outside;
          tagged = whole.tagged ∙ (s.are.tagged ∙ a.tagged);
        },
      )

  -- and at the end
  pub splits_all : (tags : List (Option G)) (first now newest : List (Pass T E)) (n : ℕ)
      → SplitsOff n first now newest → ArePasses tag tags cells first → length cells ≡ n
      → ArePasses tag tags cells newest × (holders newest ≡ map newest_of (holders now))
      × (seens newest ≡ seens now) × (holders now ≡ map after_split (holders first))
  splits_all tags first now newest n s a many =
      let all = newest_all cells tag (map (tag_of tag) first) n now newest s.left s.are many in
      let long = as_many tag tags cells first a in (
        record {
          same = all.0.same;
          outside = all.0.outside;
          tagged = all.0.tagged ∙ a.tagged;
        },
        all.1,
        all.2,
        s.who ∙ all_first after_split n (holders first)
            (let l = length-map first holder_of in omega arith),
      )

  pub splits_kept : (tags : List (Option G)) (n : ℕ) (first now newest : List (Pass T E))
      → SplitsOff n first now newest → ArePasses tag tags cells first → ArePasses tag tags cells now
  splits_kept tags n first now newest s a =
      record { same = s.are.same; outside = s.are.outside; tagged = s.are.tagged ∙ a.tagged }
