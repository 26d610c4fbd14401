-- A text run is a chunk map and the run of its outcomes.
use Rattle.std.proofs.Common.{◌≡◌, ℕ, List, sym, subst}
use Rattle.jx_maps.specs.Map
use Rattle.jx_run.specs.OutcomeRun.{OutcomeRunValue, IsOutcomeRun}
use Rattle.jx_run.specs.TextRun.{TextRunValue, IsTextRun, outcomes_of}

-- what a text run shows of its map and its outcomes
abbrev pub text_run : Map.Map → OutcomeRunValue → TextRunValue
text_run map run = record { depth = run.depth; map = map; transitions = run.transitions; structures = run.structures }

outcomes_same : (map : Map.Map) (run : OutcomeRunValue) → run.start ≡ map.start → run.end ≡ map.end → run ≡ outcomes_of (text_run map run)
outcomes_same map run start end = λ i. record { depth = run.depth; start = start i; end = end i; transitions = run.transitions; structures = run.structures }

pub map_is_of : (map : Map.Map) (run : OutcomeRunValue) (bytes : List ℕ) → IsTextRun bytes (text_run map run) → Map.IsOf bytes map
map_is_of map run bytes h = record { long = h.long; tracks = h.tracks }

pub outcomes_are_of : (map : Map.Map) (run : OutcomeRunValue) → run.start ≡ map.start → run.end ≡ map.end → (bytes : List ℕ) → IsTextRun bytes (text_run map run) → IsOutcomeRun bytes run
outcomes_are_of map run start end bytes h = subst (IsOutcomeRun bytes) (sym (outcomes_same map run start end)) (record { long = h.long; outcomes = h.outcomes })

pub text_is_of : (map : Map.Map) (run : OutcomeRunValue) → run.start ≡ map.start → run.end ≡ map.end → (bytes : List ℕ) → Map.IsOf bytes map → IsOutcomeRun bytes run
    → IsTextRun bytes (text_run map run)
text_is_of map run start end bytes h k =
    let o : IsOutcomeRun bytes (outcomes_of (text_run map run)) = subst (IsOutcomeRun bytes) (outcomes_same map run start end) k in
    record { long = h.long; tracks = h.tracks; outcomes = o.outcomes }
