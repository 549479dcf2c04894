-- What changes of windows and streams keep of how they name each other.
use Rattle.std.proofs.Common.{◌≡◌, ◌≢◌, ◌⊎◌, inl, inr, ℕ, ◌==◌, Bool, true, false, refl, sym, ap}
use Rattle.std.proofs.Common.{◌∙◌, arith, Option, Some, None, option_map, is_some, if◌then◌else◌}
use Rattle.std.proofs.lemmas.Grind.{common_steps}
use Rattle.std.proofs.lemmas.Bool.{cases_Bool, cases_eq}
use Rattle.glk_dispatch.specs.Links.{Link, End, Links, Ends, AreLinked, next_echo, echo_by, echo_in}
use Rattle.glk_dispatch.specs.Links.{live_stream, owner}
use Rattle.glk_dispatch.proofs.LoopLemmas.{no_loop-fewer, no_loop-turned, walk}

-- the same windows and streams
pub record Same (w : Links) (s : Ends) (v : Links) (t : Ends) : Type 0 where
  pub windows : (n : ℕ) → v n ≡ w n
  pub streams : (n : ℕ) → t n ≡ s n

echo-same : (w v : Links) → ((n : ℕ) → v n ≡ w n) → (o : Option ℕ) → echo_by v o ≡ echo_by w o
echo-same w v h None = refl
echo-same w v h (Some win) = ap echo_in (h win)

pub linked-same : (w : Links) (s : Ends) (v : Links) (t : Ends) → Same w s v t → AreLinked w s
    → AreLinked v t
linked-same w s v t h k = record {
  streams = λ win l e. ap owner (h.streams l.stream) ∙ k.streams win l (sym (h.windows win) ∙ e);
  windows = λ n win e. ap live_stream (h.windows win)
      ∙ k.windows n win (sym (ap owner (h.streams n)) ∙ e);
  plain = λ n e f. k.plain n e (sym (h.streams n) ∙ f);
  echoes = λ win l e z. ap is_some (h.streams l.echo) ∙ k.echoes win l (sym (h.windows win) ∙ e) z;
  no_loop = no_loop-fewer (next_echo w s) (next_echo v t)
      (λ n. inl (ap (echo_by v) (ap owner (h.streams n))
      ∙ echo-same w v h.windows (owner (s n)))) k.no_loop;
}

-- one window more, with its stream
pub record Opens (w : Links) (s : Ends) (v : Links) (t : Ends) (a b kind : ℕ) : Type 0 where
  pub new_window : w a ≡ None
  pub new_stream : s b ≡ None
  pub window : v a ≡ Some (record { stream = b; echo = 0; kind = kind })
  pub stream : t b ≡ Some (record { owner = Some a; is_plain = true })
  pub windows : (n : ℕ) → n ≢ a → v n ≡ w n
  pub streams : (n : ℕ) → n ≢ b → t n ≡ s n

some-is : (l m : Link) → ◌≡◌ {A = Option Link} (Some l) (Some m) → l ≡ m
some-is l m e = cc

pub linked-opened : (w : Links) (s : Ends) (v : Links) (t : Ends) (a b kind : ℕ)
    → Opens w s v t a b kind
    → AreLinked w s → AreLinked v t
linked-opened w s v t a b kind h k = record {
  streams = λ win l e. elim (cases_eq win a) [
    | inl x ↦
        let l_is = some-is _ l (sym h.window ∙ ap v (sym x) ∙ e) in
        ap (λ (m : Link). owner (t m.stream)) (sym l_is) ∙ ap owner h.stream ∙ ap Some (sym x)
    | inr x ↦
        let old = k.streams win l (sym (h.windows win x) ∙ e) in
        ap owner (h.streams l.stream (λ y. let c : None
        ≡ Some win = sym (ap owner (ap s y ∙ h.new_stream)) ∙ old in cc)) ∙ old
  ];
  windows = λ n win e. elim (cases_eq n b) [
    | inl x ↦
        let own : Some a ≡ Some win = sym (ap owner (ap t x ∙ h.stream)) ∙ e in
        let win_is : a ≡ win = cc in
        ap (λ m. live_stream (v m)) (sym win_is) ∙ ap live_stream h.window ∙ ap Some (sym x)
    | inr x ↦
        let old = k.windows n win (sym (ap owner (h.streams n x)) ∙ e) in
        ap live_stream (h.windows win (λ y. let c : None
        ≡ Some n = sym (ap live_stream (ap w y ∙ h.new_window)) ∙ old in cc)) ∙ old
  ];
  plain = λ n e f. elim (cases_eq n b) [
    | inl x ↦
        let same : ◌≡◌ {A = Option End} (Some (record { owner = Some a; is_plain = true })) (Some e)
        = sym h.stream ∙ ap t (sym x) ∙ f in
        sym (end-plain a e same)
    | inr x ↦ k.plain n e (sym (h.streams n x) ∙ f)
  ];
  echoes = λ win l e z. elim (cases_eq win a) [
    | inl x ↦
        let l_is = some-is _ l (sym h.window ∙ ap v (sym x) ∙ e) in
        absurd (z (ap (λ (m : Link). m.echo) (sym l_is)))
    | inr x ↦
        let old = k.echoes win l (sym (h.windows win x) ∙ e) z in
        ap is_some (h.streams l.echo (λ y. let c : false
        ≡ true = sym (ap is_some (ap s y ∙ h.new_stream)) ∙ old in absurd cc)) ∙ old
  ];
  no_loop = no_loop-fewer (next_echo w s) (next_echo v t) (λ n. elim (cases_eq n b) [
    | inl x ↦ inr (ap (λ m. echo_by v (owner (t m))) x ∙ ap (λ o. echo_by v (owner o)) h.stream
        ∙ ap echo_in h.window)
    | inr x ↦ inl (ap (λ o. echo_by v (owner o)) (h.streams n x)
        ∙ old-echo w s v k a h.new_window h.windows n (owner (s n)) refl)
  ]) k.no_loop;
}
  where
    end-plain : (a : ℕ) (e : End) → ◌≡◌ {A = Option End}
        (Some (record { owner = Some a; is_plain = true })) (Some e) → true ≡ e.is_plain
    end-plain a e same = cc

    old-echo : (w : Links) (s : Ends) (v : Links) → AreLinked w s → (a : ℕ) → w a ≡ None
        → ((n : ℕ) → n ≢ a → v n ≡ w n)
        → (n : ℕ) (o : Option ℕ) → owner (s n) ≡ o → echo_by v o ≡ echo_by w o
    old-echo w s v k a none same n None e = refl
    old-echo w s v k a none same n (Some win) e =
        ap echo_in (same win (λ y. let c : None ≡ Some n = sym (ap live_stream (ap w y ∙ none))
        ∙ k.windows n win e in cc))

-- a link without an echo to a stream that is lost
abbrev pub unechoed : (ℕ → Bool) → Link → Link
unechoed lost l = record l { echo = if lost l.echo then 0 else l.echo }

-- a link with this echo
abbrev pub echoing : ℕ → Link → Link
echoing b l = record l { echo = b }

abbrev pub owns : ℕ → Option ℕ → Bool
owns a None = false
owns a (Some n) = n == a

-- what a link was
pub record Was (lost : ℕ → Bool) (o : Option Link) (l : Link) : Type 0 where
  pub link : Link
  pub there : o ≡ Some link
  pub same : l ≡ unechoed lost link

pub record WasEchoing (b : ℕ) (o : Option Link) (l : Link) : Type 0 where
  pub link : Link
  pub there : o ≡ Some link
  pub same : l ≡ echoing b link

-- some windows and streams less, none of which is named any more: the windows that are gone, and
-- the streams that are lost
pub record Closes (w : Links) (s : Ends) (v : Links) (t : Ends) (gone lost : ℕ
    → Bool) : Type 0 where
  pub windows : (n : ℕ) → v n ≡ (if gone n then None else option_map (unechoed lost) (w n))
  pub streams : (n : ℕ) → t n ≡ (if lost n then None else s n)
  pub together : (n win : ℕ) → owner (s n) ≡ Some win → lost n ≡ gone win

unlinked-window : (lost : ℕ → Bool) (o : Option Link) (b : Bool) (l : Link)
    → (if b then None else option_map (unechoed lost) o) ≡ Some l
    → (b ≡ false) × Was lost o l
unlinked-window lost None true l e = absurd cc
unlinked-window lost None false l e = absurd cc
unlinked-window lost (Some m) true l e = absurd cc
unlinked-window lost (Some m) false l e =
    let same : unechoed lost m ≡ l = cc in
    (refl, record { link = m; there = refl; same = sym same })

stream-unechoed : (lost : ℕ → Bool) (o : Option Link) → live_stream (option_map (unechoed lost) o)
    ≡ live_stream o
stream-unechoed lost None = refl
stream-unechoed lost (Some l) = refl

owner-lost : (b : Bool) (o : Option End) (win : ℕ) → owner (if b then None else o) ≡ Some win
    → (b ≡ false) × (owner o ≡ Some win)
owner-lost true o win e = absurd cc
owner-lost false o win e = (refl, e)

end-lost : (b : Bool) (o : Option End) (x : End) → (if b then None else o) ≡ Some x → o ≡ Some x
end-lost true o x e = absurd cc
end-lost false o x e = e

echo-kept : (lost : ℕ → Bool) (l : Link) (b : Bool) → lost l.echo ≡ b
    → (if b then 0 else l.echo) ≢ 0 → (b ≡ false) × (l.echo ≢ 0)
echo-kept lost l true e z = absurd (z refl)
echo-kept lost l false e z = (refl, z)

pub linked-closed : (w : Links) (s : Ends) (v : Links) (t : Ends) (gone lost : ℕ → Bool)
    → Closes w s v t gone lost
    → AreLinked w s → AreLinked v t
linked-closed w s v t gone lost h k = record {
  streams = λ win l e.
      let x = unlinked-window lost (w win) (gone win) l (sym (h.windows win) ∙ e) in
      let old : owner (s l.stream) ≡ Some win = ap (λ (m : Link). owner (s m.stream)) x.1.same
      ∙ k.streams win x.1.link x.1.there in
      ap owner (h.streams l.stream) ∙ ap (λ b. owner (if b then None else s l.stream))
      (h.together l.stream win old ∙ x.0) ∙ old;
  windows = λ n win e.
      let x = owner-lost (lost n) (s n) win (sym (ap owner (h.streams n)) ∙ e) in
      ap live_stream (h.windows win) ∙ ap (λ b. live_stream
      (if b then None else option_map (unechoed lost) (w win))) (sym (h.together n win x.1)
      ∙ x.0)
      ∙ stream-unechoed lost (w win) ∙ k.windows n win x.1;
  plain = λ n e f. k.plain n e (end-lost (lost n) (s n) e (sym (h.streams n) ∙ f));
  echoes = λ win l e z.
      let x = unlinked-window lost (w win) (gone win) l (sym (h.windows win) ∙ e) in
      let echo_is : l.echo ≡ (if lost x.1.link.echo then 0 else x.1.link.echo) = ap
      (λ (m : Link). m.echo) x.1.same in
      let y = echo-kept lost x.1.link (lost x.1.link.echo) refl (λ c. z (echo_is ∙ c)) in
      let echo_was : l.echo ≡ x.1.link.echo = echo_is
      ∙ ap (λ b. if b then 0 else x.1.link.echo) y.0 in
      ap (λ n. is_some (t n)) echo_was ∙ ap is_some (h.streams x.1.link.echo)
      ∙ ap (λ b. is_some (if b then None else s x.1.link.echo)) y.0
      ∙ k.echoes win x.1.link x.1.there y.1;
  no_loop =
      no_loop-fewer (next_echo w s) (next_echo v t)
      (λ n. echo-fewer n (lost n) (owner (s n)) refl refl)
      k.no_loop;
}
  where
    echo-left : (b : Bool) (o : Option Link) → (echo_in
        (if b then None else option_map (unechoed lost) o)
        ≡ echo_in o) ⊎ (echo_in (if b then None else option_map (unechoed lost) o) ≡ 0)
    echo-left true o = inr refl
    echo-left false None = inr refl
    echo-left false (Some l) = elim (cases_Bool (lost l.echo)) [
      | inl e ↦ inr (ap (λ b. if b then 0 else l.echo) e)
      | inr e ↦ inl (ap (λ b. if b then 0 else l.echo) e)
    ]

    echo-owned : (o : Option ℕ) → (echo_by v o ≡ echo_by w o) ⊎ (echo_by v o ≡ 0)
    echo-owned None = inr refl
    echo-owned (Some win) = elim (echo-left (gone win) (w win)) [
      | inl e ↦ inl (ap echo_in (h.windows win) ∙ e)
      | inr e ↦ inr (ap echo_in (h.windows win) ∙ e)
    ]

    echo-fewer : (n : ℕ) (b : Bool) (o : Option ℕ) → lost n ≡ b → owner (s n) ≡ o
        → (next_echo v t n ≡ next_echo w s n) ⊎ (next_echo v t n ≡ 0)
    echo-fewer n true o e f = inr (ap (λ x. echo_by v (owner x)) (h.streams n)
        ∙ ap (λ b. echo_by v (owner (if b then None else s n))) e)
    echo-fewer n false o e f =
        let same : next_echo v t n ≡ echo_by v (owner (s n)) = ap (λ x. echo_by v (owner x))
        (h.streams n) ∙ ap (λ b. echo_by v (owner (if b then None else s n))) e in
        elim (echo-owned (owner (s n))) [
          | inl x ↦ inl (same ∙ x)
          | inr x ↦ inr (same ∙ x)
        ]

-- another echo of a window: none, or a live stream from which the echoes never come to the window
pub record Echoes (w : Links) (s : Ends) (v : Links) (a b : ℕ) : Type 0 where
  pub windows : (n : ℕ) → n ≢ a → v n ≡ w n
  pub window : v a ≡ option_map (echoing b) (w a)
  pub live : b ≢ 0 → is_some (s b) ≡ true
  pub away : (j : ℕ) → owns a (owner (s (walk j (next_echo w s) b))) ≡ false

was-echoing : (b : ℕ) (o : Option Link) (l : Link) → option_map (echoing b) o ≡ Some l
    → WasEchoing b o l
was-echoing b None l e = absurd cc
was-echoing b (Some m) l e = record {
  link = m;
  there = refl;
  same = (let x : echoing b m
      ≡ l = cc in sym x);
}

stream-echoing : (b : ℕ) (o : Option Link) → live_stream (option_map (echoing b) o) ≡ live_stream o
stream-echoing b None = refl
stream-echoing b (Some l) = refl

owns-is : (a : ℕ) (o : Option ℕ) → owns a o ≡ true → o ≡ Some a
owns-is a None e = absurd cc
owns-is a (Some n) e = ap Some (grind (arith, common_steps, e))

pub linked-echoed : (w : Links) (s : Ends) (v : Links) (a b : ℕ) → Echoes w s v a b → AreLinked w s
    → AreLinked v s
linked-echoed w s v a b h k = record {
  streams = λ win l e. elim (cases_eq win a) [
    | inl x ↦
        let m = was-echoing b (w a) l (sym h.window ∙ ap v (sym x) ∙ e) in
        ap (λ (i : Link). owner (s i.stream)) m.same ∙ k.streams a m.link m.there ∙ ap Some (sym x)
    | inr x ↦ k.streams win l (sym (h.windows win x) ∙ e)
  ];
  windows = λ n win e. elim (cases_eq win a) [
    | inl x ↦ ap (λ i. live_stream (v i)) x ∙ ap live_stream h.window ∙ stream-echoing b (w a)
        ∙ ap (λ i. live_stream (w i)) (sym x) ∙ k.windows n win e
    | inr x ↦ ap live_stream (h.windows win x) ∙ k.windows n win e
  ];
  plain = k.plain;
  echoes = λ win l e z. elim (cases_eq win a) [
    | inl x ↦
        let m = was-echoing b (w a) l (sym h.window ∙ ap v (sym x) ∙ e) in
        let echo_is : l.echo ≡ b = ap (λ (i : Link). i.echo) m.same in
        ap (λ i. is_some (s i)) echo_is ∙ h.live (λ c. z (echo_is ∙ c))
    | inr x ↦ k.echoes win l (sym (h.windows win x) ∙ e) z
  ];
  no_loop = no_loop-turned (next_echo w s) (next_echo v s) (λ n. owns a (owner (s n))) b
      (λ n e. other (owner (s n)) e)
      (λ n e. turned n (owns-is a (owner (s n)) e)) h.away k.no_loop;
}
  where
    other : (o : Option ℕ) → owns a o ≡ false → echo_by v o ≡ echo_by w o
    other None e = refl
    other (Some n) e = ap echo_in (h.windows n (grind (arith, common_steps, e)))

    live-echo : (o : Option Link) (n : ℕ) → live_stream o ≡ Some n
        → echo_in (option_map (echoing b) o) ≡ b
    live-echo None n e = absurd cc
    live-echo (Some l) n e = refl

    turned : (n : ℕ) → owner (s n) ≡ Some a → next_echo v s n ≡ b
    turned n e = ap (echo_by v) e ∙ ap echo_in h.window ∙ live-echo (w a) n (k.windows n a e)
