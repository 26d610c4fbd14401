-- The state of a sink after the token starts of a chunk.
use Rattle.std.specs.Prelude.{◌≡◌, ℕ, List}
use Rattle.jx_lex.specs.declared.alphabet.mark.Mark.{Mark}
use Rattle.jx_run.specs.Telling.{moved_marks}
use Rattle.jx_file_query.specs.declared.cutting.Aim.{Aim}
use Rattle.jx_file_query.specs.Cuts.{Cuts, cut_all}

-- after what there was before the chunk, which stands from an offset on
pub record HasCut (aim : Aim) (base : ℕ) (earlier : Cuts) (marks : List Mark) (own : Aim) (own_base : ℕ) (now : Cuts) : Type 0 where
  pub aim_is : own ≡ aim
  pub base_is : own_base ≡ base
  pub now_is : now ≡ cut_all aim (moved_marks base marks) earlier
