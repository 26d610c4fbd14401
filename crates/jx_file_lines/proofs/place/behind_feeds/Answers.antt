use Rattle.std.proofs.Common.{◌≡◌, ◌+◌, arith, subst, suc, ℕ, List, None, Some}
use Rattle.std.proofs.lemmas.List.{take_rest}
use Rattle.memchr.specs.Find.{IsFirstByte, is_byte}
use Rattle.jx_file_lines.proofs.Starts.{IsBehind, behind_last, behind_more, behind_none}
use Rattle.jx_file_lines.proofs.place.behind_feeds.Goals as goal

pub feeds-init : goal.feeds-init
feeds-init c = behind_none c.args.bytes.now

pub returns-in-None-clause-fewer : goal.returns-in-None-clause-fewer
returns-in-None-clause-fewer c =
    let bytes = c.args.bytes.now in
    let at = c.feeds.at in
    let none = subst (λ (xs : List ℕ). IsFirstByte (is_byte 10) xs None) (take_rest bytes at) c.in-None.ensures in
    let all = behind_last bytes c.feeds.counter at c.feeds.invariant none in
    let test = c.feeds-test.true in
    omega (arith, all, test)

pub feeds-preserved : goal.feeds-preserved
feeds-preserved c =
    let bytes = c.args.bytes.now in
    let at = c.feeds.at in
    let end = c.in-Some.end in
    let first = subst (λ (xs : List ℕ). IsFirstByte (is_byte 10) xs (Some end)) (take_rest bytes at) c.in-Some.ensures in
    subst (λ (n : ℕ). IsBehind bytes n (at + (end + 1))) (let e : suc c.feeds.counter ≡ c.feeds.counter + 1 = omega arith in e)
    (subst (λ (k : ℕ). IsBehind bytes (suc c.feeds.counter) (at + k)) (let e : suc end ≡ end + 1 = omega arith in e)
    (behind_more bytes c.feeds.counter at c.feeds.invariant end first.0 first.1))
