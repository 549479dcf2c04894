-- The passes that were split off last: one more, one less, and all.
use Rattle.std.proofs.Common.{◌≡◌, ◌≢◌, ℕ, ◌+◌, ◌<◌, List, [], ◌∷◌, ◌++◌, length, map, take, get_or}
use Rattle.std.proofs.Common.{set, ap, sym, ◌∙◌, refl, subst, arith, Option, None}
use Rattle.std.proofs.lemmas.List.{length-map, length-set, map-set, get_or-map, get_or-set_same}
use Rattle.std.proofs.lemmas.List.{take-set, take_all}
use Rattle.turn_cell.specs.declared.cell.Cell.{Cell}
use Rattle.turn_cell.specs.declared.pass.Pass.{Pass}
use Rattle.turn_cell.specs.Passes.{IsOf, IsOutside, IsSplitFrom, pass_number, sample, seen, tag_of}
use Rattle.turn_cell.specs.Views.{tag_in}
use Rattle.turn_cell.proofs.HistoryLemmas.{each_append}
use Rattle.host_serve.specs.Holders.{holder_of, holders, nobody, seens}
use Rattle.host_serve.specs.Hosts.{ArePasses, cell_id, pass_id}
use Rattle.host_serve.specs.Splitting.{AreNewest, after_split, newest_of}
use Rattle.host_serve.proofs.ListLemmas.{length_more}
use Rattle.host_serve.proofs.MixLemmas.{each_parts, grown, shrunk}
use Rattle.host_serve.proofs.PassLemmas.{as_many}

-- passes with equal samples have equal tags
tags_on : {T E G : Type 0} (tag : T → G) (xs : List (Pass T E))
    → map (tag_of tag) xs ≡ map (tag_in tag) (map sample xs)
tags_on tag [] = refl
tags_on tag (x ∷ xs) = ap (λ (l : List (Option _)). tag_of tag x ∷ l) (tags_on tag xs)

tags_same : {T E G : Type 0} (tag : T → G) (xs ys : List (Pass T E))
    → map sample xs ≡ map sample ys → map (tag_of tag) xs ≡ map (tag_of tag) ys
tags_same tag xs ys same = tags_on tag xs
    ∙ (ap (λ (l : List (Option _)). map (tag_in tag) l) same ∙ sym (tags_on tag ys))

module _ {T E : Type 0} (cells : List (Cell T E)) where
  -- none yet
  pub newest_none : (now new : List (Pass T E)) → new ≡ [] → AreNewest 0 cells now new
  newest_none now new none = subst (AreNewest 0 cells now) (sym none) (record {
    many = refl;
    within = omega arith;
    same = refl;
    outside = tt;
    sampled = refl;
    numbered = tt;
    who = refl;
    heard = refl;
  })

  -- another pass in the place of a root whose newest pass isn't among these
  pub newest_still : (n : ℕ) (now new : List (Pass T E)) (p' : Pass T E)
      → AreNewest n cells now new → AreNewest n cells (set now n p') new
  newest_still n now new p' a = record {
    many = a.many;
    within = a.within;
    same = a.same;
    outside = a.outside;
    sampled = a.sampled ∙ sym (ap (take n) (map-set sample now n p')
        ∙ take-set (map sample now) n (sample p'));
    numbered = a.numbered;
    who = a.who ∙ sym (ap (take n) (ap (map newest_of) (map-set holder_of now n p')
        ∙ map-set newest_of (holders now) n (holder_of p'))
        ∙ take-set (map newest_of (holders now)) n (newest_of (holder_of p')));
    heard = a.heard ∙ sym (ap (take n) (map-set seen now n p') ∙ take-set (seens now) n (seen p'));
  }

  -- one root more has a newest pass
  pub newest_more : (n : ℕ) (now new : List (Pass T E)) (c : Cell T E) (p p' q : Pass T E)
      → AreNewest n cells now new → length now ≡ length cells → n < length cells
      → c ≡ get_or cells n c → holder_of p' ≡ after_split (holder_of p) → seen p' ≡ seen p
      → sample p' ≡ sample p → IsSplitFrom c p q
      → AreNewest (n + 1) cells (set now n p') (new ++ q ∷ [])
  newest_more n now new c p p' q a long low at_c held heard like split =
      let still = newest_still n now new p' a in
      let now' = set now n p' in
      let long' : length now' ≡ length now = length-set now n p' in
      let there : holder_of p' ≡ get_or (holders now') n nobody =
      sym (get_or-map holder_of now' n p' nobody (omega arith)
      ∙ ap holder_of (get_or-set_same now n p' p' (omega arith))) in
      let there' : seen p' ≡ get_or (seens now') n [] =
      sym (get_or-map seen now' n p' [] (omega arith)
      ∙ ap seen (get_or-set_same now n p' p' (omega arith))) in
      let there'' : sample p' ≡ get_or (map sample now') n None =
      sym (get_or-map sample now' n p' None (omega arith)
      ∙ ap sample (get_or-set_same now n p' p' (omega arith))) in
      let own : holder_of q ≡ newest_of (holder_of p') =
      (λ i. record { number = split.2 i; made = split.3 i; holds = split.4 i })
      ∙ sym (ap newest_of held) in
      let cells_long = length-map cells cell_id in
      let holders_long = length-map now' holder_of in
      let whos_long = length-map (holders now') newest_of in
      let seens_long = length-map now' seen in
      let samples_long = length-map now' sample in
      record {
        many = length_more new q ∙ ap (λ (k : ℕ). k + 1) a.many;
        within = omega arith;
        same = grown pass_id new q (map cell_id cells) n (cell_id c) a.same (omega arith)
            (split.0 ∙ (ap cell_id at_c ∙ sym (get_or-map cell_id cells n c (cell_id c) low)));
        outside = each_append IsOutside new (q ∷ []) a.outside (split.1, tt);
        sampled = grown sample new q (map sample now') n None still.sampled (omega arith)
            (split.6 ∙ (sym like ∙ there''));
        numbered = each_append (λ (r : Pass T E). pass_number r ≢ 0) new (q ∷ []) a.numbered
            (λ (none : pass_number q ≡ 0). let e = split.2 in omega arith, tt);
        who = grown holder_of new q (map newest_of (holders now')) n (newest_of nobody) still.who
            (omega arith)
            (own ∙ (ap newest_of there
            ∙ sym (get_or-map newest_of (holders now') n nobody (newest_of nobody) (omega arith))));
        heard = grown seen new q (seens now') n [] still.heard (omega arith)
            (split.5 ∙ (sym heard ∙ there'));
      }

  -- the last of them, and the others
  pub newest_less : (n : ℕ) (now new : List (Pass T E)) (c : Cell T E) (p q : Pass T E)
      → AreNewest (n + 1) cells now (new ++ q ∷ []) → length now ≡ length cells
      → c ≡ get_or cells n c → p ≡ get_or now n p
      → AreNewest n cells now new × IsOf c q × IsOutside q × (pass_number q ≢ 0)
      × (holder_of q ≡ newest_of (holder_of p)) × (seen q ≡ seen p)
  newest_less n now new c p q a long at_c at_p =
      let low : n < length cells = let w = a.within in omega arith in
      let cells_long = length-map cells cell_id in
      let holders_long = length-map now holder_of in
      let whos_long = length-map (holders now) newest_of in
      let seens_long = length-map now seen in
      let samples_long = length-map now sample in
      let same = shrunk pass_id new q (map cell_id cells) n (cell_id c) a.same (omega arith) in
      let who = shrunk holder_of new q (map newest_of (holders now)) n (newest_of nobody) a.who
      (omega arith) in
      let heard = shrunk seen new q (seens now) n [] a.heard (omega arith) in
      let sampled = shrunk sample new q (map sample now) n None a.sampled (omega arith) in
      let outside = each_parts IsOutside new q a.outside in
      let numbered = each_parts (λ (r : Pass T E). pass_number r ≢ 0) new q a.numbered in
      let more = length_more new q in
      let many = a.many in (
        record {
          many = omega arith;
          within = omega arith;
          same = same.0;
          outside = outside.0;
          sampled = sampled.0;
          numbered = numbered.0;
          who = who.0;
          heard = heard.0;
        },
        same.1 ∙ (get_or-map cell_id cells n c (cell_id c) low ∙ sym (ap cell_id at_c)),
        outside.1,
        numbered.1,
        who.1 ∙ (get_or-map newest_of (holders now) n nobody (newest_of nobody) (omega arith)
            ∙ ap newest_of (get_or-map holder_of now n p nobody (omega arith)
            ∙ sym (ap holder_of at_p))),
        heard.1 ∙ (get_or-map seen now n p [] (omega arith) ∙ sym (ap seen at_p)),
      )

  -- each root has a newest pass
  pub newest_all : {G : Type 0} (tag : T → G) (tags : List (Option G)) (n : ℕ)
      (now new : List (Pass T E)) → AreNewest n cells now new → ArePasses tag tags cells now
      → length cells ≡ n → ArePasses tag tags cells new
      × (holders new ≡ map newest_of (holders now)) × (seens new ≡ seens now)
  newest_all tag tags n now new a are long =
      let many = as_many tag tags cells now are in (
        record {
          same =
              sym (a.same ∙ take_all n (map cell_id cells)
              (let l = length-map cells cell_id in omega arith));
          outside = a.outside;
          tagged = tags_same tag new now (a.sampled
              ∙ take_all n (map sample now) (let l = length-map now sample in omega arith))
              ∙ are.tagged;
        },
        a.who ∙ take_all n (map newest_of (holders now))
            (let l = length-map (holders now) newest_of in let m = length-map now holder_of in
            omega arith),
        a.heard ∙ take_all n (seens now) (let l = length-map now seen in omega arith),
      )
