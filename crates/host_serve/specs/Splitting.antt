-- Passes that are split off those of a host, one for each session (own).
use Rattle.std.specs.Prelude.{◌≡◌, ◌≢◌, ℕ, ◌+◌, ◌≤◌, List, [], ◌∷◌, ◌++◌, length, map, take, drop}
use Rattle.turn_cell.specs.History.{Each}
use Rattle.turn_cell.specs.declared.cell.Cell.{Cell}
use Rattle.turn_cell.specs.declared.pass.Pass.{Pass}
use Rattle.turn_cell.specs.Passes.{IsOutside, pass_number, sample}
use Rattle.host_serve.specs.Holders.{Holder, holders, seens}
use Rattle.host_serve.specs.Hosts.{cell_id, pass_id}

-- roots of cells, from each of which at most so many passes were split
abbrev pub AreRoots : ℕ → List Holder → Type 0
AreRoots most holders = Each (λ (h : Holder). (h.number ≡ 0) × (h.made ≤ most)) holders

-- who holds a root once a pass more was split off
abbrev pub after_split : Holder → Holder
after_split h = record { number = h.number; made = h.made + 1; holds = h.holds }

-- who holds the pass that was split off last
abbrev pub newest_of : Holder → Holder
newest_of h = record { number = h.made; made = 0; holds = h.made ∷ [] }

-- who holds a root once the pass that was split off last was joined into it
abbrev pub with_newest_pass : Holder → Holder
with_newest_pass h = record { number = h.number; made = h.made; holds = h.holds ++ h.made ∷ [] }

-- holders of whom the first so many have become others
abbrev pub first_by : (Holder → Holder) → ℕ → List Holder → List Holder
first_by after many holders = take many (map after holders) ++ drop many holders

module _ {T E : Type 0} where
  -- the passes that were split off last from the roots of so many cells, and have seen as much
  pub record AreNewest (n : ℕ) (cells : List (Cell T E)) (roots newest : List (Pass T E))
      : Type 0 where
    pub many : length newest ≡ n
    pub within : n ≤ length cells
    pub same : map pass_id newest ≡ take n (map cell_id cells)
    pub outside : Each IsOutside newest
    pub sampled : map sample newest ≡ take n (map sample roots)
    pub numbered : Each (λ (p : Pass T E). pass_number p ≢ 0) newest
    pub who : holders newest ≡ take n (map newest_of (holders roots))
    pub heard : seens newest ≡ take n (seens roots)
