use Rattle.std.proofs.Common.{◌≡◌, Some, arith, rules, sym, ◌∙◌}
use Rattle.jx_index.specs.inside.Trie.{first_open}
use Rattle.std.specs.Prelude.{reverse}
use Rattle.jx_find.proofs.SeekCounted.{is_none, opened_as}
use Rattle.jx_find.proofs.seek_counts.place_behind.Goals as goal

pub returns-clause-counts : goal.returns-clause-counts
returns-clause-counts c =
    let k = c.args.seeker.now in
    let e : first_open (reverse k.state.opened.items) ≡ Some c.in_ok-top.top = cc (c.innermost.ensures, c.in_ok-top.was) in
    let o = opened_as (reverse k.state.opened.items) c.in_ok-top.top e in
    let more = c.in_ok-count.ensures in
    record {
      lowest = omega arith;
      name = is_none k.state.name (sym c.is_some.ensures ∙ c.if-is_some.false);
      top = c.in_ok-top.top;
      outer = o.0;
      opened = o.1;
      array = search rules;
      count_is = omega (arith, more);
      unwanted = omega arith;
    }
