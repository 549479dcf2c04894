-- Passes that are joined into others, from the last session down to the first.
use Rattle.std.proofs.Common.{◌≡◌, ◌≢◌, ◌⊎◌, ℕ, ◌+◌, ◌<◌, ◌≤◌, List, [], ◌∷◌, ◌++◌, length, map}
use Rattle.std.proofs.Common.{get_or, set, ap, sym, ◌∙◌, refl, subst, ⊎_elim, arith, Option}
use Rattle.std.proofs.Common.{append_assoc}
use Rattle.std.proofs.Math.Seq.{get_or-append_seam}
use Rattle.std.proofs.lemmas.Bool.{cases_lt}
use Rattle.std.proofs.lemmas.List.{append-nil, get_or-map, get_or-set_other, get_or-set_same}
use Rattle.std.proofs.lemmas.List.{length-append, length-map, length-set, map-set}
use Rattle.turn_cell.specs.History.{AreApart, Continues, IsAmong, IsForeign}
use Rattle.turn_cell.specs.declared.cell.Cell.{Cell}
use Rattle.turn_cell.specs.declared.pass.Pass.{Pass}
use Rattle.turn_cell.specs.Passes.{IsOf, IsOutside, made, pass_number, pass_numbers, sample, seen}
use Rattle.turn_cell.proofs.HistoryLemmas.{among_first, among_second, continues_map}
use Rattle.session_core.specs.declared.entry.Entry.{Entry}
use Rattle.session_core.specs.Turning.{entry_by}
use Rattle.host_serve.specs.declared.host.Passes.{Passes}
use Rattle.host_serve.specs.Ending.{EndsAt}
use Rattle.host_serve.specs.Holders.{Holder, holder_at, holder_of, holders, nobody, seen_at, seens}
use Rattle.host_serve.specs.Hosts.{ArePasses}
use Rattle.host_serve.specs.Joining.{ArePartsOf, IsPart, JoinsPasses, with_pass}
use Rattle.session_desk.specs.Shared.{SharedState}
use Rattle.host_serve.specs.Splitting.{after_split, newest_of}
use Rattle.host_serve.proofs.ListLemmas.{goes_on, length_more}
use Rattle.host_serve.proofs.PassLemmas.{are_put, as_many, holder_there, pass_ready, seen_of_pass}

-- what goes on from the whole goes on from its part
part_goes_on : (h whole : Holder) (seen more final : List Entry) → IsPart h seen whole more
    → Continues (IsForeign entry_by whole.holds) final more
    → Continues (IsForeign entry_by h.holds) final seen
part_goes_on h whole seen more final part on =
    goes_on (IsForeign entry_by h.holds) seen more final part.since
    (continues_map (IsForeign entry_by whole.holds) (IsForeign entry_by h.holds) final more
    (λ (e : Entry) (other : IsForeign entry_by whole.holds e) (own : IsAmong (entry_by e) h.holds).
    other (part.numbers (entry_by e) own)) on)

-- as a host ends, each session's final history goes on from what any part of the passes had seen,
-- by entries of other numbers
pub part_of_final : (h whole : Holder) (seen more final : List Entry)
    → IsPart h seen whole more → EndsAt whole more final
    → Continues (IsForeign entry_by h.holds) final seen
part_of_final h whole seen more final part ends =
    part_goes_on h whole seen more final part ends.since

-- what is part of a part is part of the whole
pub parts_of_parts : {D : Type 0} (passes middle whole : Passes D)
    → ArePartsOf whole middle → ArePartsOf middle passes → ArePartsOf whole passes
parts_of_parts passes middle whole outer inner s low =
    let a = outer s low in
    let b = inner s low in
    record {
      numbers = λ n own. a.numbers n (b.numbers n own);
      since = part_goes_on _ _ _ _ _ b a.since;
    }

-- passes that were just split off are no root's
pub no_root : (newest roots before : List Holder) → newest ≡ map newest_of roots
    → roots ≡ map after_split before → length before ≡ 64
    → (s : ℕ) → s < 64 → (holder_at newest s).number ≢ 0
no_root newest roots before who held many s low none =
    let long = length-map before after_split in
    let is : holder_at newest s ≡ newest_of (after_split (holder_at before s)) =
    ap (λ (l : List Holder). holder_at l s) (who ∙ ap (map newest_of) held)
    ∙ (get_or-map newest_of (map after_split before) s nobody nobody (omega arith)
    ∙ ap newest_of (get_or-map after_split before s nobody nobody (omega arith))) in
    let number = ap (λ (h : Holder). h.number) is in
    absurd (omega arith)

-- who holds a pass, and what it has seen
abbrev knows : {T : Type 0} → Pass T Entry → Holder × List Entry
knows p = (holder_of p, seen p)

-- and the same of a session's pass
abbrev pub knows_at : {T : Type 0} → List (Pass T Entry) → ℕ → Holder × List Entry
knows_at passes s = (holder_at (holders passes) s, seen_at (seens passes) s)

knows_there : {T : Type 0} (passes : List (Pass T Entry)) (s : ℕ) (p : Pass T Entry)
    → s < length passes → p ≡ get_or passes s p → knows_at passes s ≡ knows p
knows_there passes s p low at_p =
    λ i. (holder_there passes s p low at_p i, seen_of_pass passes s p low at_p i)

-- another pass was joined into this one
pub record Joined (old other new : Holder × List Entry) : Type 0 where
  pub holders : new.0 ≡ with_pass old.0 other.0
  pub seen : (new.1 ≡ old.1) ⊎ (new.1 ≡ other.1)
  pub first : IsPart old.0 old.1 new.0 new.1
  pub second : IsPart other.0 other.1 new.0 new.1
  pub apart : AreApart old.0.holds other.0.holds
  pub given :
      old.0.number ≡ 0 → Continues (λ (e : Entry). entry_by e ≤ old.0.made) new.1 old.1

joined_here : {T : Type 0} (p q new : Pass T Entry)
    → pass_numbers new ≡ pass_numbers p ++ pass_numbers q
    → (pass_number new ≡ pass_number p) × (made new ≡ made p)
    → (seen new ≡ seen p) ⊎ (seen new ≡ seen q)
    → Continues (IsForeign entry_by (pass_numbers p)) (seen new) (seen p)
    → Continues (IsForeign entry_by (pass_numbers q)) (seen new) (seen q)
    → AreApart (pass_numbers p) (pass_numbers q)
    → (pass_number p ≡ 0 → Continues (λ (e : Entry). entry_by e ≤ made p) (seen new) (seen p))
    → Joined (knows p) (knows q) (knows new)
joined_here p q new held kept heard first second apart given = record {
  holders = λ i. record { number = kept.0 i; made = kept.1 i; holds = held i };
  seen = heard;
  first = record {
    numbers = λ n own. subst (IsAmong n) (sym held)
        (among_first n (pass_numbers p) (pass_numbers q) own);
    since = first;
  };
  second = record {
    numbers = λ n own. subst (IsAmong n) (sym held)
        (among_second n (pass_numbers p) (pass_numbers q) own);
    since = second;
  };
  apart = apart;
  given = given;
}

one_less : {A : Type 0} (all left rest gone : List A) (x : A) → all ≡ left ++ gone
    → left ≡ rest ++ x ∷ [] → all ≡ rest ++ x ∷ gone
one_less all left rest gone x is less =
    is ∙ (ap (λ (l : List _). l ++ gone) less ∙ append_assoc rest (x ∷ []) gone)

module _ {T G : Type 0} (tag : T → G) (tags : List (Option G)) (cells : List (Cell T Entry)) where
  -- the others' passes that are left, and what became of those that they are joined into
  pub record JoinsDown (old other now left : List (Pass T Entry)) : Type 0 where
    pub olds : ArePasses tag tags cells old
    pub others : ArePasses tag tags cells other
    pub gone : List (Pass T Entry)
    pub is : other ≡ left ++ gone
    pub are : ArePasses tag tags cells now
    pub still : (s : ℕ) (d : Pass T Entry) → s < length left → get_or now s d ≡ get_or old s d
    pub done :
        (s : ℕ) → length left ≤ s → s < length cells
        → Joined (knows_at old s) (knows_at other s) (knows_at now s)

  pub joins_none : (old other : List (Pass T Entry)) → ArePasses tag tags cells old
      → ArePasses tag tags cells other → JoinsDown old other old other
  joins_none old other a b = let many = as_many tag tags cells other b in record {
    olds = a;
    others = b;
    gone = [];
    is = sym (append-nil other);
    are = a;
    still = λ s d low. refl;
    done = λ s high low. absurd (omega arith);
  }

  -- the last of those that are left, and the one that it is joined into
  pub last_two : (s : ℕ) (old other now left rest : List (Pass T Entry)) (c : Cell T Entry)
      (p q : Pass T Entry) → JoinsDown old other now left → left ≡ rest ++ q ∷ []
      → s ≡ length rest → c ≡ get_or cells s c → p ≡ get_or now s p
      → (IsOf c p × IsOutside p) × (IsOf c q × IsOutside q) × (s < length cells)
      × (p ≡ get_or old s p) × (q ≡ get_or other s q)
  last_two s old other now left rest c p q j is place at_c at_p =
      let more = ap (λ (l : List (Pass T Entry)). length l) is ∙ length_more rest q in
      let whole = one_less other left rest j.gone q j.is is in
      let long = ap (λ (l : List (Pass T Entry)). length l) whole
      ∙ length-append rest (q ∷ j.gone) in
      let many = as_many tag tags cells other j.others in
      let low : s < length cells = omega arith in
      let at_q : q ≡ get_or other s q =
      sym (ap (λ (l : List (Pass T Entry)). get_or l s q) whole
      ∙ (ap (λ (k : ℕ). get_or (rest ++ q ∷ j.gone) k q) place
      ∙ get_or-append_seam rest q j.gone q)) in (
        pass_ready tag tags cells now s c p j.are low at_c at_p,
        pass_ready tag tags cells other s c q j.others low at_c at_q,
        low,
        at_p ∙ j.still s p (omega arith),
        at_q,
      )

  pub last_numbered : (s : ℕ) (old other now left rest : List (Pass T Entry)) (c : Cell T Entry)
      (p q : Pass T Entry) → JoinsDown old other now left → left ≡ rest ++ q ∷ []
      → s ≡ length rest → c ≡ get_or cells s c → p ≡ get_or now s p → length cells ≡ 64
      → ((t : ℕ) → t < 64 → (holder_at (holders other) t).number ≢ 0) → pass_number q ≢ 0
  last_numbered s old other now left rest c p q j is place at_c at_p all numbered none =
      let two = last_two s old other now left rest c p q j is place at_c at_p in
      let low = two.2 in
      let many = as_many tag tags cells other j.others in
      numbered s (omega arith)
      (ap (λ (h : Holder). h.number) (holder_there other s q (omega arith) two.4) ∙ none)

  pub joins_on : (s : ℕ) (old other now left rest : List (Pass T Entry)) (c : Cell T Entry)
      (p q new : Pass T Entry) → JoinsDown old other now left → left ≡ rest ++ q ∷ []
      → s ≡ length rest → c ≡ get_or cells s c → p ≡ get_or now s p
      → pass_numbers new ≡ pass_numbers p ++ pass_numbers q
      → IsOf c new × (pass_number new ≡ pass_number p) × (made new ≡ made p)
      × (sample new ≡ sample p)
      → IsOutside new → (seen new ≡ seen p) ⊎ (seen new ≡ seen q)
      → Continues (IsForeign entry_by (pass_numbers p)) (seen new) (seen p)
      → Continues (IsForeign entry_by (pass_numbers q)) (seen new) (seen q)
      → AreApart (pass_numbers p) (pass_numbers q)
      → (pass_number p ≡ 0 → Continues (λ (e : Entry). entry_by e ≤ made p) (seen new) (seen p))
      → JoinsDown old other (set now s new) rest
  joins_on s old other now left rest c p q new j is place at_c at_p held kept outside heard first
      second no_both given =
      let two = last_two s old other now left rest c p q j is place at_c at_p in
      let low = two.2 in
      let more = ap (λ (l : List (Pass T Entry)). length l) is ∙ length_more rest q in
      let old_many = as_many tag tags cells old j.olds in
      let other_many = as_many tag tags cells other j.others in
      let now_many = as_many tag tags cells now j.are in
      let long = length-set now s new in
      let here : Joined (knows_at old s) (knows_at other s) (knows_at (set now s new) s) =
      subst
      (λ (x : (Holder × List Entry) × (Holder × List Entry) × (Holder × List Entry)).
      Joined x.0 x.1 x.2)
      (λ i. (
        sym (knows_there old s p (omega arith) two.3) i,
        sym (knows_there other s q (omega arith) two.4) i,
        sym (knows_there (set now s new) s new (omega arith)
            (sym (get_or-set_same now s new new (omega arith)))) i,
      ))
      (joined_here p q new held (kept.1, kept.2) heard first second no_both given) in
      let there = λ (t : ℕ) (other_one : t ≢ s).
      ap (λ (l : List Holder). holder_at l t) (map-set holder_of now s new)
      ∙ get_or-set_other (holders now) s t (holder_of new) nobody other_one in
      let there' = λ (t : ℕ) (other_one : t ≢ s).
      ap (λ (l : List (List Entry)). seen_at l t) (map-set seen now s new)
      ∙ get_or-set_other (seens now) s t (seen new) [] other_one in
      record {
        olds = j.olds;
        others = j.others;
        gone = q ∷ j.gone;
        is = one_less other left rest j.gone q j.is is;
        are = are_put tag tags cells now s c p new j.are low at_c at_p kept.0 outside kept.3;
        still = λ t d below. get_or-set_other now s t new d (λ (e : t ≡ s). omega arith)
            ∙ j.still t d (omega arith);
        done = λ t high below. ⊎_elim
            (λ (down : t < s + 1). let same : s ≡ t = omega arith in
            subst
            (λ (k : ℕ). Joined (knows_at old k) (knows_at other k) (knows_at (set now s new) k))
            same here)
            (λ (up : s + 1 ≤ t). let apart : t ≢ s = λ (e : t ≡ s). omega arith in
            subst (λ (x : Holder × List Entry). Joined (knows_at old t) (knows_at other t) x)
            (λ i. (sym (there t apart) i, sym (there' t apart) i))
            (j.done t (omega arith) below))
            (cases_lt t (s + 1));
      }

-- once none is left
pub joined_all : {D : Type 0} {G : Type 0} (tag : SharedState D → G) (tags : List (Option G))
    (cells : List (Cell (SharedState D) Entry)) (old other now : Passes D)
    (left : List (Pass (SharedState D) Entry))
    → JoinsDown tag tags cells old.desks.items other.desks.items now.desks.items left
    → length left ≡ 0 → length cells ≡ 64 → JoinsPasses old other now
joined_all tag tags cells old other now left j none many = record {
  holders = λ s low. (done s low).holders;
  seen = λ s low. (done s low).seen;
  first = λ s low. (done s low).first;
  second = λ s low. (done s low).second;
  apart = λ s low. (done s low).apart;
  given = λ s low. (done s low).given;
}
  where
    done : (s : ℕ) → s < 64
        → Joined (knows_at old.desks.items s) (knows_at other.desks.items s)
        (knows_at now.desks.items s)
    done s low = j.done s (omega arith) (omega arith)
