use Rattle.std.proofs.Common.{◌≡◌, Option, length, refl, subst}
use Rattle.std.specs.Prelude.{IfNone, IfSome}
use Rattle.jx_file_index.specs.declared.levels.Levels.{Levels}
use Rattle.jx_file_index.specs.Index.{AreLevels}
use Rattle.jx_file_index.proofs.Counts.{says_same, some_lowest}
use Rattle.jx_file_index.proofs.index_decoding.joined_again.Goals as goal

pub returns-in-None-clause-some : goal.returns-in-None-clause-some
returns-in-None-clause-some c = λ i has same.
    let lowest = c.in_ok-lowest.lowest.items in
    let none : length lowest ≡ 0 = subst (λ (o : Option Levels). IfNone o (length lowest ≡ 0)) c.in-None.is c.in_ok-kept.ensures.none in
    some_lowest i c.args.read.now i lowest has same c.in_ok-lowest.ensures.lowest none

pub returns-in-Some-clause-levels : goal.returns-in-Some-clause-levels
returns-in-Some-clause-levels c =
    let lowest = c.in_ok-lowest.lowest.items in
    record {
      some = c.requires.some;
      lowest = lowest;
      counted = c.in_ok-lowest.ensures.counted;
      levels = subst (λ (o : Option Levels). IfSome o (λ l. AreLevels lowest l.entries.items l.top)) c.in-Some.is c.in_ok-kept.ensures.levels;
    }

pub returns-in-Some-clause-reads : goal.returns-in-Some-clause-reads
returns-in-Some-clause-reads c = λ i has same.
    let read = c.args.read.now in
    let lowest = c.in_ok-lowest.lowest.items in
    let levels = c.in-Some.levels in
    says_same (record { settings = read.settings; chunk = read.chunk; size = read.size; entries = levels.entries; top = levels.top }) read i lowest has same c.in_ok-lowest.ensures.lowest refl refl refl
    (subst (λ (o : Option Levels). IfSome o (λ l. AreLevels lowest l.entries.items l.top)) c.in-Some.is c.in_ok-kept.ensures.levels)
