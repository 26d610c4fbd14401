use Rattle.std.proofs.Common.{List, ℕ, ap, length, map, ◌∙◌}
use Rattle.jx_index.specs.declared.finder.Met.{Met}
use Rattle.jx_index.specs.declared.wanted.Wanted.{Wanted}
use Rattle.jx_index.specs.Pointers.{tokens}
use Rattle.jx_index.specs.inside.Finding.{met_at, read_root}
use Rattle.jx_index.specs.inside.Found.{tokens_of}
use Rattle.jx_index.proofs.Climbs.{way_long}
use Rattle.jx_index.proofs.read_met.read_one.Goals as goal

pub returns-in-Some : goal.returns-in-Some
returns-in-Some c = λ edges way_is trie path way.
    let same = way_is trie path way in
    c.in-Some.ensures (tokens c.args.pointer.now) (ap length same ∙ way_long edges 0 (tokens c.args.pointer.now) path way)
    ∙ ap (λ (ns : List ℕ). read_root (met_at (map (met_at c.args.met.now) ns) 0) (map (met_at c.args.met.now) ns) (tokens c.args.pointer.now)) same

pub returns : goal.returns
returns c = λ edges way_is trie path way.
    let along : List Met = map (met_at c.args.met.now) path in
    c.read.ensures
    ∙ ap (λ (ws : List Wanted). read_root (met_at c.deref-2.result.now 0) c.deref-2.result.now (tokens_of ws)) c.deref.ensures.value
    ∙ ap (λ (ms : List Met). read_root (met_at ms 0) ms (tokens_of c.in_ok-wanted.wanted.items)) (c.deref-2.ensures.value ∙ c.in_ok-along.ensures ∙ ap (map (met_at c.args.met.now)) (way_is trie path way))
    ∙ ap (λ (ts : List (List ℕ)). read_root (met_at along 0) along ts) c.in_ok-wanted.ensures
