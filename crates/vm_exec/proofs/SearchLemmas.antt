-- A search within the ticks that are left, and as its row has it.
use Rattle.std.proofs.Common.{◌≡◌, ℕ, zero, suc, ◌^◌, Bool, true, false, cond, nat_lt, Option, Some}
use Rattle.std.proofs.Common.{None, Result, Ok, Err, refl, ap, ◌∙◌}
use Rattle.vm_memory.specs.Chaining.{◌>>=◌}
use Rattle.vm_memory.specs.Fault.{coded}
use Rattle.vm_memory.specs.MemoryMap.{MemoryMap, number_at}
use Rattle.vm_memory.specs.declared.fault.MemFault.{MemFault}
use Rattle.vm_memory.specs.declared.fault.MemFault.TheVariants.{BadRead, BadWrite}
use Rattle.vm_operand.specs.declared.operand.Dest.{Dest}
use Rattle.vm_search.specs.Binary.{interval_at, half, middle, binary_ends, ends_at_interval}
use Rattle.vm_search.specs.Ending.{Ending, first_ending, search_of, found_within, told_answer}
use Rattle.vm_search.specs.Key.{is_search, compared}
use Rattle.vm_search.specs.Linear.{linear_ends, structure_at}
use Rattle.vm_search.specs.Linked.{linked_ends, ends_at, chain_place, next_link}
use Rattle.vm_search.specs.declared.fault.SearchStop.{SearchStop}
use Rattle.vm_search.specs.declared.fault.SearchStop.TheVariants.{BadSearch, Spent}
use Rattle.vm_search.specs.declared.binary_search.Interval.{Interval}
use Rattle.vm_search.specs.declared.query.Found.{Found}
use Rattle.vm_search.specs.declared.query.Query.{Query}
use Rattle.vm_exec.specs.Rules.{puts}
use Rattle.vm_exec.specs.Rows.Searching.{search_answered, found_in, query_of, linked_query}
use Rattle.vm_exec.specs.Rows.Searching.{linear_work, binary_work, linked_work}
use Rattle.vm_exec.specs.Rows.Work.{Free, Costs, budgeted}
use Rattle.vm_exec.specs.declared.machine.Machine.{Machine}

-- an end, within the ticks or past them
answer_is : (left k : ℕ) (m : Machine) (to : Dest) (a : Result ℕ MemFault) (b : Bool)
    → nat_lt left k ≡ b
    → budgeted left (Costs k (coded a >>= puts m to))
    ≡ found_in left m to (cond b (Err Spent) (told_answer k a))
answer_is left k m to a true past = rw past refl
answer_is left k m to (Ok x) false past = refl
answer_is left k m to (Err (BadRead at)) false past = rw past refl
answer_is left k m to (Err (BadWrite at)) false past = rw past refl

ending_is : (left : ℕ) (m : Machine) (to : Dest) (e : Option Ending)
    → budgeted left (search_answered m to e) ≡ found_in left m to (found_within left e)
ending_is left m to None = refl
ending_is left m to (Some e) = answer_is left e.looked m to e.answer (nat_lt left e.looked) refl

search_if : (left : ℕ) (m : Machine) (to : Dest) (e : Option Ending) (b : Bool)
    → budgeted left (cond b (search_answered m to e) (Free (Err 10)))
    ≡ found_in left m to (cond b (found_within left e) (Err BadSearch))
search_if left m to e true = ending_is left m to e
search_if left m to e false = refl

-- steps that end alike have one first end
first_same : (f g : ℕ → Option Ending)
    → ((k : ℕ) → f k ≡ g k) → (k n : ℕ)
    → first_ending f n k ≡ first_ending g n k
unfolding first_ending
first_same f g same zero n = refl
first_same f g same (suc k) n = rw (same n, first_same f g same k (suc n)) refl

same_search : (left : ℕ) (m : Machine) (to : Dest) (f g : ℕ → Option Ending) (b : Bool)
    → ((k : ℕ) → f k ≡ g k)
    → budgeted left (cond b (search_answered m to (first_ending f 0 (2 ^ 32))) (Free (Err 10)))
    ≡ found_in left m to (cond b (found_within left (first_ending g 0 (2 ^ 32))) (Err BadSearch))
same_search left m to f g b same =
    search_if left m to (first_ending f 0 (2 ^ 32)) b
    ∙ ap (λ (e : Option Ending). found_in left m to (cond b (found_within left e) (Err BadSearch)))
    (first_same f g same (2 ^ 32) 0)

pub linear_of : (left : ℕ) (m : Machine) (l : ℕ → ℕ) (to : Dest) (q : Query)
    (r : Result Found SearchStop)
    → q ≡ query_of l left → r ≡ search_of q (linear_ends m.memory q)
    → budgeted left (linear_work m l to) ≡ found_in left m to r
linear_of left m l to q r asked told =
    rw (told, asked) (search_if left m to
    (first_ending (linear_ends m.memory (query_of l 0)) 0 (2 ^ 32)) (is_search (query_of l 0)))

interval_is : (m : MemoryMap) (l : ℕ → ℕ) (left k : ℕ)
    → interval_at m (query_of l 0) k ≡ interval_at m (query_of l left) k
unfolding interval_at
interval_is m l left zero = refl
interval_is m l left (suc k) =
    ap (λ (i : Interval).
    half i (compared m (query_of l left) (structure_at (query_of l left) (middle i))))
    (interval_is m l left k)

pub binary_of : (left : ℕ) (m : Machine) (l : ℕ → ℕ) (to : Dest) (q : Query)
    (r : Result Found SearchStop)
    → q ≡ query_of l left → r ≡ search_of q (binary_ends m.memory q)
    → budgeted left (binary_work m l to) ≡ found_in left m to r
binary_of left m l to q r asked told =
    rw (told, asked) (same_search left m to (binary_ends m.memory (query_of l 0))
    (binary_ends m.memory (query_of l left)) (is_search (query_of l 0))
    (λ k. ap (λ (i : Interval). ends_at_interval m.memory (query_of l left) k i)
    (interval_is m.memory l left k)))

place_is : (m : MemoryMap) (l : ℕ → ℕ) (left k : ℕ)
    → chain_place m (linked_query l 0) k ≡ chain_place m (linked_query l left) k
unfolding chain_place
place_is m l left zero = refl
place_is m l left (suc k) =
    ap (λ (at : ℕ). number_at 4 m.bytes (next_link (linked_query l left) at)) (place_is m l left k)

pub linked_of : (left : ℕ) (m : Machine) (l : ℕ → ℕ) (to : Dest) (q : Query)
    (r : Result Found SearchStop)
    → q ≡ linked_query l left → r ≡ search_of q (linked_ends m.memory q)
    → budgeted left (linked_work m l to) ≡ found_in left m to r
linked_of left m l to q r asked told =
    rw (told, asked) (same_search left m to (linked_ends m.memory (linked_query l 0))
    (linked_ends m.memory (linked_query l left)) (is_search (linked_query l 0))
    (λ k. ap (λ (at : ℕ). ends_at m.memory (linked_query l left) k at)
    (place_is m.memory l left k)))
