use Rattle.std.proofs.Common.{◌≡◌, ◌≤◌, ◌+◌, ◌-◌, length, drop, vec_len, vec_capacity}
use Rattle.std.specs.Prelude.{reverse}
use Rattle.jx_reduce.specs.Join.{absorbed, base_at, tail_of}
use Rattle.jx_reduce.specs.Levels.{borrowed_form}
use Rattle.jx_reduce.proofs.forms.levels.Levels.take_in.Given as goal

-- what is left to absorb leads where all of it led
abbrev pub invariant-loop-level : goal.invariant-loop-level
invariant-loop-level l =
    record {
      same : absorbed l.depth (drop l.level-index l.right.ended.now) (tail_of (borrowed_form l.right)) (reverse l.self.opens.items) (base_at l.self.ended.items l.self.last l.self.heights.items)
          ≡ absorbed l.depth l.right.ended.now (tail_of (borrowed_form l.right)) (reverse l.initial.self.opens.items) (base_at l.initial.self.ended.items l.initial.self.last l.initial.self.heights.items);
      levels : length l.self.ended.items ≤ l.depth;
      ended_room : vec_len l.initial.self.ended + length l.right.ended.now ≤ vec_capacity l.initial.self.ended
          → vec_len l.self.ended + (length l.right.ended.now - l.level-index) ≤ vec_capacity l.self.ended;
      opens_len : vec_len l.self.opens ≤ vec_len l.initial.self.opens;
      opens_room : vec_capacity l.self.opens ≡ vec_capacity l.initial.self.opens;
    }
