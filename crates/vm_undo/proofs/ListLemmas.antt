-- What holds of the list of states after a save, and without the newest; and what is kept of it.
use Rattle.std.proofs.Common.{◌≡◌, ◌≤◌, ℕ, ◌-◌, true, false, cond, List, [], ◌∷◌, ◌++◌, length}
use Rattle.std.proofs.Common.{Some, nat_lt, refl, ap, sym, ◌∙◌, arith, subst}
use Rattle.std.specs.Prelude.{All, IsTrue, map}
use Rattle.std.specs.List.{list_all, sum_by}
use Rattle.std.proofs.lemmas.Bool.Decides.{nat_tests}
use Rattle.std.proofs.lemmas.List.{length-map, length-take}
use Rattle.std.proofs.lemmas.List.Elements.{All-append, All-cons, All-head, All-nil, All-tail}
use Rattle.std.proofs.lemmas.List.Elements.{All-take}
use Rattle.std.proofs.lemmas.List.Sums.{sum_by-cons, sum_by-take-le}
use Rattle.vm_heap.specs.HeapMap.{is_heap}
use Rattle.vm_memory.specs.MemoryMap.{Origin}
use Rattle.vm_undo.specs.Contents.{contents, is_contents}
use Rattle.vm_undo.specs.UndoList.{GivesListBack, IsKept, IsOfImage, KeepLimits, UndoList}
use Rattle.vm_undo.specs.UndoList.{are_within, before_newest, is_kept, kept_of, kept_weight, newest}
use Rattle.vm_undo.specs.UndoList.{saved, state_of, undo_of, weight, within_limits}
use Rattle.vm_undo.specs.declared.kept.KeptState.{KeptState}
use Rattle.vm_undo.specs.declared.saved.Saved.{Saved}
use Rattle.vm_undo.specs.declared.undo.TheConstants.{MAX_STATES, MAX_WEIGHT}
use Rattle.vm_undo.proofs.ContentsLemmas.{tells}
use Rattle.vm_undo.proofs.LimitLemmas.{all_limits, holds}
use Rattle.vm_undo.proofs.UndoLemmas.{all_at, kept_again, kept_heap, kept_memory, listed}
use Rattle.vm_undo.proofs.UndoLemmas.{state_again}

-- what holds of the list as it was, and of one with a state more
pub after_save : (P : UndoList → Type 0) (u : UndoList) (s : Saved) → P u
    → P (record u { states = within_limits weight (u.states ++ s ∷ []) }) → P (saved u s)
after_save P u s was more =
    elim (nat_lt MAX_WEIGHT (weight s)) as (λ t.
    P (cond t u (record u { states = within_limits weight (u.states ++ s ∷ []) }))) [
      | true ↦ was
      | false ↦ more
    ]

pub saved_origin : (u : UndoList) (s : Saved) → (saved u s).origin ≡ u.origin
saved_origin u s = after_save (λ v. v.origin ≡ u.origin) u s refl refl

pub saved_all : (P : Saved → Type 0) (u : UndoList) (s : Saved) → All P u.states → P s
    → All P (saved u s).states
saved_all P u s all is =
    after_save (λ v. All P v.states) u s all
    (all_limits P weight (u.states ++ s ∷ [])
    (All-append P u.states (s ∷ []) all (All-cons P s [] is (All-nil P))))

pub saved_limits : (u : UndoList) (s : Saved) → KeepLimits u.states → KeepLimits (saved u s).states
saved_limits u s limits =
    after_save (λ v. KeepLimits v.states) u s limits (holds (u.states ++ s ∷ []))

pub before_limits : (states : List Saved) → KeepLimits states → KeepLimits (before_newest states)
before_limits states limits =
    let few = limits.few in
    let light = limits.light in
    let a = length-take (length states - 1) states in
    let b = sum_by-take-le weight states (length states - 1) in
    record { few = omega (arith, a, few); light = omega (arith, b, light) }

pub before_all : (P : Saved → Type 0) (states : List Saved) → All P states
    → All P (before_newest states)
before_all P states all = All-take P (length states - 1) states all

pub newest_all : (P : Saved → Type 0) (states : List Saved) (s : Saved) → All P states
    → newest states ≡ Some s → P s
newest_all P states s all e = all_at P states (length states - 1) s all e

-- ---- a list, and what is kept of it

weighs_same : (ss : List Saved) → sum_by kept_weight (map kept_of ss) ≡ sum_by weight ss
unfolding kept_of weight
weighs_same [] = refl
weighs_same (s ∷ ss) =
    let rest = weighs_same ss in
    omega (
      arith,
      rest,
      sum_by-cons kept_weight (kept_of s) (map kept_of ss),
      sum_by-cons weight s ss,
    )

within_same : (ss : List Saved) → KeepLimits ss → are_within kept_weight (map kept_of ss) ≡ true
within_same ss limits =
    let few : length (map kept_of ss) ≤ MAX_STATES =
    subst (λ (n : ℕ). n ≤ MAX_STATES) (sym (length-map ss kept_of)) limits.few in
    let light : sum_by kept_weight (map kept_of ss) ≤ MAX_WEIGHT =
    subst (λ (n : ℕ). n ≤ MAX_WEIGHT) (sym (weighs_same ss)) limits.light in
    grind (arith, nat_tests, few, light)

kept_tests : (o : Origin) (s : Saved) → IsOfImage o s
    → is_kept o.ramstart o.endmem (kept_of s) ≡ true
unfolding kept_of
kept_tests o s is =
    let found : is_contents o.ramstart o.endmem (contents s.memory) ≡ true =
    tells.found o (contents s.memory)
    (record { memory = s.memory; is = is.memory; spelled = refl }) in
    let heap : is_heap s.heap_start s.heap ≡ true = is.heap in
    rw (found, heap) refl

tests_all : (o : Origin) (ss : List Saved) → All (IsOfImage o) ss
    → list_all (is_kept o.ramstart o.endmem) (map kept_of ss) ≡ true
tests_all o [] are = refl
tests_all o (s ∷ ss) are =
    let one = kept_tests o s (All-head (IsOfImage o) s ss are) in
    let rest = tests_all o ss (All-tail (IsOfImage o) s ss are) in
    rw (one, rest) refl

states_again : (o : Origin) (ss : List Saved) → All (IsOfImage o) ss
    → map (state_of o) (map kept_of ss) ≡ ss
states_again o [] are = refl
states_again o (s ∷ ss) are =
    let is = All-head (IsOfImage o) s ss are in
    let one = state_again o s is.memory in
    let rest = states_again o ss (All-tail (IsOfImage o) s ss are) in
    ap (λ (t : Saved). t ∷ map (state_of o) (map kept_of ss)) one
    ∙ ap (λ (ts : List Saved). s ∷ ts) rest

pub list_back : GivesListBack
unfolding undo_of
list_back u are limits =
    let tests = tests_all u.origin u.states are in
    let within = within_same u.states limits in
    rw (tests, within) (ap (λ (ss : List Saved). Some (record { origin = u.origin; states = ss }))
    (states_again u.origin u.states are))

-- what is kept of states that are kept
pub kept_all_again : (o : Origin) (ks : List KeptState) → All (IsKept o) ks
    → map kept_of (map (state_of o) ks) ≡ ks
kept_all_again o [] all = refl
kept_all_again o (k ∷ ks) all =
    ap (λ (j : KeptState). j ∷ map kept_of (map (state_of o) ks))
    (kept_again o k (All-head (IsKept o) k ks all))
    ∙ ap (λ (js : List KeptState). k ∷ js) (kept_all_again o ks (All-tail (IsKept o) k ks all))

pub states_kept : (o : Origin) (ks : List KeptState) (u : UndoList) → listed o ks ≡ u
    → All (IsKept o) ks → map kept_of u.states ≡ ks
states_kept o ks u view all =
    ap (λ (v : UndoList). map kept_of v.states) (sym view) ∙ kept_all_again o ks all

are_of_image : (o : Origin) (ks : List KeptState) → All (IsKept o) ks
    → All (IsOfImage o) (map (state_of o) ks)
are_of_image o [] all = All-nil (IsOfImage o)
are_of_image o (k ∷ ks) all =
    let is = All-head (IsKept o) k ks all in
    All-cons (IsOfImage o) (state_of o k) (map (state_of o) ks)
    (record { memory = kept_memory o k is; heap = kept_heap o k is })
    (are_of_image o ks (All-tail (IsKept o) k ks all))

pub states_are : (o : Origin) (ks : List KeptState) (u : UndoList) → listed o ks ≡ u
    → All (IsKept o) ks → All (IsOfImage u.origin) u.states
states_are o ks u view all =
    subst (λ (v : UndoList). All (IsOfImage v.origin) v.states) view (are_of_image o ks all)
