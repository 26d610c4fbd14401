use Rattle.std.proofs.Common.{◌≡◌, ◌<◌, map, replicate}
use Rattle.jx_reduce.specs.Reduced.{depth_of, form_in}
use Rattle.jx_reduce.specs.Reductions.{form_at}
use Rattle.jx_reduce.specs.Entries.{place}
use Rattle.jx_reduce.specs.inside.View.{nth}
use Rattle.jx_reduce.specs.declared.forms.entry.Entry.{Entry}
use Rattle.jx_reduce.proofs.reducing.reductions.Reductions.copy.Given as goal

-- the copies for the first entries are there
abbrev pub invariant-loop-entry : goal.invariant-loop-entry
invariant-loop-entry l = record {
  depths : map depth_of l.forms ≡ replicate 8 l.self.depth;
  made : (x : Entry) → place x < l.entry-index → nth (map form_in l.forms) (place x) ≡ form_at l.self x;
}
