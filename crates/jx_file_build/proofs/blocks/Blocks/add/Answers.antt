use Rattle.std.proofs.Common.{◌+◌, ◌<◌, ◌^◌, ℕ, Option, Some, refl, subst}
use Rattle.std.specs.Prelude.{SomeIff}
use Rattle.jx_file_build.proofs.Filling.{stays_open, stays_whole}
use Rattle.jx_file_build.proofs.Fitting.{one_more_fits}
use Rattle.jx_file_build.proofs.blocks.Blocks.add.Goals as goal

pub returns-then-ends_block-clause-are : goal.returns-then-ends_block-clause-are
returns-then-ends_block-clause-are c = λ names own h is.
    let b = c.args.self in
    let s : SomeIff (Some c.in-Some.next) (b.chunks + 1 < 2 ^ 64) (b.chunks + 1) = subst (λ (o : Option ℕ). SomeIff o (b.chunks + 1 < 2 ^ 64) (b.chunks + 1)) c.in-Some.is c.checked_add.ensures in
    let t = c.into_table.ensures in
    stays_whole names own b h c.args.hashes.now is c.in_ok-open.open c.in_ok-open.ensures.keys c.into_table.result t.kept t.rising t.same c.in-Some.next c.push.new.self.items c.new.result
    c.in_ok-push.ensures.items s.1 (c.ends_block.ensures.whole c.if-ends_block.true) c.new.ensures.none

pub returns-clause-are : goal.returns-clause-are
returns-clause-are c = λ names own h is.
    let b = c.args.self in
    let s : SomeIff (Some c.in-Some.next) (b.chunks + 1 < 2 ^ 64) (b.chunks + 1) = subst (λ (o : Option ℕ). SomeIff o (b.chunks + 1 < 2 ^ 64) (b.chunks + 1)) c.in-Some.is c.checked_add.ensures in
    stays_open names own b h c.args.hashes.now is c.in_ok-open.open c.in_ok-open.ensures.keys c.in-Some.next b.tables.items refl s.1 (c.ends_block.ensures.part c.if-ends_block.false)

pub returns-then-ends_block-clause-fits : goal.returns-then-ends_block-clause-fits
returns-then-ends_block-clause-fits c = λ few was. record {
  tables = one_more_fits c.args.self.tables.items c.push.new.self.items c.into_table.result c.in_ok-push.ensures.items was.tables (c.into_table.ensures.fits (c.in_ok-open.ensures.fits few was.last));
  last = c.new.ensures.fits;
}

pub returns-clause-fits : goal.returns-clause-fits
returns-clause-fits c = λ few was. record { tables = was.tables; last = c.in_ok-open.ensures.fits few was.last }
