-- A beginning of bytes, behind others that were written.
use Rattle.std.specs.Prelude.{Option}
use Rattle.std.proofs.Common.{◌≡◌, ℕ, ◌+◌, List, ◌++◌, length, sym, subst, arith}
use Rattle.std.proofs.Math.Seq.{take-append-add}
use Rattle.std.proofs.lemmas.List.{length-append}
use Rattle.std.specs.Io.KnownBytes.{Appends}
use Rattle.std.proofs.KnownBytes.{Appends-trans}
use Rattle.jx_ends.specs.Ends.{AppendsBeginning}

pub beginning_behind : (w x y : Option (List ℕ)) (given more : List ℕ) → Appends w x given → AppendsBeginning x y more → AppendsBeginning w y (given ++ more)
beginning_behind w x y given more a b = (
  length given + b.0,
  (let e : length (given ++ more) ≡ length given + length more = length-append given more in omega (arith, e, b.1)),
  subst (λ (l : List ℕ). Appends w y l) (sym (take-append-add given more b.0)) (Appends-trans _ _ _ _ _ a b.2),
)
